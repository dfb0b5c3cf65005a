-- `receiver::receive::write` meets its contract, by the laws of `proofs/AcceptLaws.antt`.
use Rattle.field_set.proofs.TidyLaws.{lawful-tidy}
use Rattle.slots.specs.declared.lawful.Side.TheVariants.{Receiver}
use Rattle.told_sizes.proofs.SumLaws.{lawful-summable}
use Rattle.effective.proofs.DurationLaws.{lawful-timed}
use Rattle.reference.proofs.OpenLaws.{opened-facts, share-tidy}
use Rattle.reference.proofs.AcceptedLaws.{renewable, all-kept}
use Rattle.receiver.proofs.JudgeLaws.{end-inside}
use Rattle.receiver.proofs.AcceptLaws.{count_small, sequence-is, set-good, writable, need-is, done-is}
use borrow.Author.Rules.{rules}
use Rattle.receiver.proofs.receive.write.Goals as goal

pub overflow_sub-payload : goal.overflow_sub-payload
overflow_sub-payload c = end-inside c.requires.1.acceptable.head

pub overflow_add-count : goal.overflow_add-count
overflow_add-count c =
    let z = count_small _ _ _ _ _ c.requires.1.acceptable.head in
    search rules

pub put_front-n-requires : goal.put_front-n-requires
put_front-n-requires c =
    let v = c.requires.1 in
    let h = v.acceptable.head in
    let r = v.acceptable.ready in
    record { writable = writable _ _ _ _ _ h _ _ _ r v.named; need_value = need-is _ _ _ _ _ h _ _ _ r v.named _ _ v.needed (sequence-is _ _ _ _ _ h); need_in_bounds = v.room }

pub keep-requires : goal.keep-requires
keep-requires c =
    let v = c.requires.1.acceptable in
    let a = v.head in
    let r = v.ready in
    record { s_len = (a.share, r.writable.set.long); tidy = (share-tidy Receiver _ a.share a.lawful a.opened, lawful-tidy _ _ r.writable.set.long r.good) }

pub renew-requires : goal.renew-requires
renew-requires c =
    let v = c.requires.1 in
    let h = v.acceptable.head in
    let r = v.acceptable.ready in
    let l = r.writable.set.long in
    let g = set-good _ _ _ _ _ h _ _ _ r in record {
      s_len = (renewable c.args.s.now h.share _ _ _ c.args.x.now _ _ c.keep.ensures l (lawful-timed _ _ l g) (lawful-summable _ _ l g)
          (writable _ _ _ _ _ h _ _ _ r v.named).sized (opened-facts Receiver _ h.lawful h.opened).track _ h.track g).0;
      summable = (renewable c.args.s.now h.share _ _ _ c.args.x.now _ _ c.keep.ensures l (lawful-timed _ _ l g) (lawful-summable _ _ l g)
          (writable _ _ _ _ _ h _ _ _ r v.named).sized (opened-facts Receiver _ h.lawful h.opened).track _ h.track g).1.0;
      s_value = (renewable c.args.s.now h.share _ _ _ c.args.x.now _ _ c.keep.ensures l (lawful-timed _ _ l g) (lawful-summable _ _ l g)
          (writable _ _ _ _ _ h _ _ _ r v.named).sized (opened-facts Receiver _ h.lawful h.opened).track _ h.track g).1.1;
    }

pub returns : goal.returns
returns c =
    let a = c.args in
    λ F v.
    let h = v.acceptable.head in
    done-is _ _ _ _ _ h _ _ _ v.acceptable.ready v.named a.output.now _ _ _ _ (sequence-is _ _ _ _ _ h) c.put_front-n.ensures
    (all-kept a.s.now h.share _ _ _ a.x.now _ _ c.keep.ensures _ c.renew.ensures)
