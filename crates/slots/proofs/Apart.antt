-- Calls on two slots don't meet, whatever they do to their shares. The table is cut into five parts, and a call acts on one. Assumes nothing.
use Prim.Native.Nat.{ℕ, ◌+◌, ◌-◌, ◌*◌, ◌<◌, ◌≤◌}
use native.Mathlib.Omega.{arith}
use native.Mathlib.Decide.{ℕ_discrete, dec_lt}
use mathlib.Core.Path.{◌≡◌, refl, sym, ◌∙◌, ap, subst}
use mathlib.Core.Bool.{true}
use mathlib.Core.List.{List, ◌++◌, append_assoc}
use lib.ListN.{length, take, drop, length-append, length-drop, take-append-drop}
use lib.Seq.{take_at, drop_at, length-take-le}
use Rattle.slots.specs.declared.lawful.Side.{Side}
use Rattle.share_words.specs.Share.{share_len, slot_count, table_len}
use Rattle.slots.specs.Share.{lawful}
use Rattle.slots.specs.Table.{Out, out, share_at, put_share, on_table}
use Rattle.slots.specs.Laws.{after, Keeps, Apart, CallsCommute, OthersStay}
use Rattle.slots.proofs.TableLaws.{wrong-length, wrong-slot, right-slot, by_cases, share-long, share-put}

-- the part of n words behind p, and what stands in its place: over any n, so that no list as long as a share is unfolded
part-is : (n a : ℕ) (p x r : List ℕ) → length p ≡ a → length x ≡ n → take n (drop a (p ++ (x ++ r))) ≡ x
part-is n a p x r lp lx = rw (drop_at p (x ++ r) a lp, take_at x r n lx)

put_is : (n a : ℕ) (p x r x' : List ℕ) → length p ≡ a → length x ≡ n → take a (p ++ (x ++ r)) ++ (x' ++ drop n (drop a (p ++ (x ++ r)))) ≡ p ++ (x' ++ r)
put_is n a p x r x' lp lx = rw (take_at p (x ++ r) a lp, drop_at p (x ++ r) a lp, drop_at x r n lx)

-- a call on the share x that stands behind p
step-at : {X : Type 0} (refuse : ℕ → X) (f : List ℕ → Out X) (i : ℕ) (p x r : List ℕ) → i < slot_count → length (p ++ (x ++ r)) ≡ table_len → length p ≡ i * share_len
    → length x ≡ share_len → on_table refuse f (p ++ (x ++ r)) i ≡ out (f x).answer (p ++ ((f x).words ++ r))
step-at {X} refuse f i p x r h l lp lx =
    let t : List ℕ = p ++ (x ++ r) in
    let k : i ≤ 7 = omega arith in
    sym (right-slot refuse f t i l k)
    ∙ ap (λ (s : List ℕ). out (f s).answer (put_share t i (f s).words)) (part-is share_len (i * share_len) p x r lp lx)
    ∙ ap (out (f x).answer) (put_is share_len (i * share_len) p x r (f x).words lp lx)

-- the tables and answers of two calls, the first on the share x behind p, the second on y, which stands behind p, x and m
module _ {X Y : Type 0} (refuse : ℕ → X) (f : List ℕ → Out X) (refuse' : ℕ → Y) (g : List ℕ → Out Y) (kf : Keeps f) (kg : Keeps g) (i j : ℕ) (hi : i < slot_count)
    (hj : j < slot_count) (p x m y q : List ℕ) (lp : length p ≡ i * share_len) (lx : length x ≡ share_len) (ly : length y ≡ share_len)
    (lm : i * share_len + share_len + length m ≡ j * share_len) (lt : length (p ++ (x ++ (m ++ (y ++ q)))) ≡ table_len) where
  whole : List ℕ → List ℕ → List ℕ
  whole u v = p ++ (u ++ (m ++ (v ++ q)))

  whole_long : (u v : List ℕ) → length u ≡ share_len → length v ≡ share_len → length (whole u v) ≡ table_len
  unfolding whole
  whole_long u v lu lv = simp length-append (omega (arith, simp length-append at lt))

  at_i : (u v : List ℕ) → length u ≡ share_len → length v ≡ share_len → on_table refuse f (whole u v) i ≡ out (f u).answer (whole (f u).words v)
  unfolding whole
  at_i u v lu lv = step-at refuse f i p u (m ++ (v ++ q)) hi (whole_long u v lu lv) lp lu

  again : (u v : List ℕ) → whole u v ≡ (p ++ (u ++ m)) ++ (v ++ q)
  unfolding whole
  again u v = simp append_assoc

  at_j : (u v : List ℕ) → length u ≡ share_len → length v ≡ share_len → on_table refuse' g (whole u v) j ≡ out (g v).answer (whole u (g v).words)
  at_j u v lu lv =
      rw (again u v, again u (g v).words)
      (step-at refuse' g j (p ++ (u ++ m)) v q hj (sym (ap length (again u v)) ∙ whole_long u v lu lv) (simp length-append (omega arith)) lv)

  lower : Apart refuse f refuse' g i j (whole x y)
  lower =
      let fx : length (f x).words ≡ share_len = kf.keeps x lx in
      let gy : length (g y).words ≡ share_len = kg.keeps y ly in
      let fi = at_i x y lx ly in
      let gj = at_j x y lx ly in
      let fi' = at_i x (g y).words lx gy in
      let gj' = at_j (f x).words y fx ly in
      record {
        same =
            ap (λ (o : Out X). after refuse' g j o.words) fi
            ∙ ap (λ (o : Out Y). o.words) gj'
            ∙ sym (ap (λ (o : Out Y). after refuse f i o.words) gj ∙ ap (λ (o : Out X). o.words) fi');
        first = ap (λ (o : Out Y). (on_table refuse f o.words i).answer) gj ∙ ap (λ (o : Out X). o.answer) fi' ∙ sym (ap (λ (o : Out X). o.answer) fi);
        second = ap (λ (o : Out X). (on_table refuse' g o.words j).answer) fi ∙ ap (λ (o : Out Y). o.answer) gj' ∙ sym (ap (λ (o : Out Y). o.answer) gj);
      }

  -- the share of each slot, and after a call on the other
  share-i : (u v : List ℕ) → length u ≡ share_len → share_at (whole u v) i ≡ u
  unfolding whole
  share-i u v lu = part-is share_len (i * share_len) p u (m ++ (v ++ q)) lp lu

  share-j : (u v : List ℕ) → length u ≡ share_len → length v ≡ share_len → share_at (whole u v) j ≡ v
  share-j u v lu lv = rw (again u v) (part-is share_len (j * share_len) (p ++ (u ++ m)) v q (simp length-append (omega arith)) lv)

  stays-j : share_at (after refuse f i (whole x y)) j ≡ share_at (whole x y) j
  stays-j =
      ap (λ (o : Out X). share_at o.words j) (at_i x y lx ly) ∙ share-j (f x).words y (kf.keeps x lx) ly ∙ sym (share-j x y lx ly)

  stays-i : share_at (after refuse' g j (whole x y)) i ≡ share_at (whole x y) i
  stays-i = ap (λ (o : Out Y). share_at o.words i) (at_j x y lx ly) ∙ share-i x (g y).words lx ∙ sym (share-i x y lx)

-- a list in five parts: of a, n, k and n words, and the rest
record Five (n a k : ℕ) (t : List ℕ) : Type 0 where
  p : List ℕ
  x : List ℕ
  m : List ℕ
  y : List ℕ
  q : List ℕ
  parts : t ≡ p ++ (x ++ (m ++ (y ++ q)))
  lp : length p ≡ a
  lx : length x ≡ n
  lm : length m ≡ k
  ly : length y ≡ n

five : (n a k : ℕ) (t : List ℕ) → a + n + k + n ≤ length t → Five n a k t
five n a k t h =
    let r₀ = drop a t in
    let r₁ = drop n r₀ in
    let r₂ = drop k r₁ in
    record {
      p = take a t;
      x = take n r₀;
      m = take k r₁;
      y = take n r₂;
      q = drop n r₂;
      parts = sym (simp take-append-drop);
      lp = length-take-le a t (omega arith);
      lx = length-take-le n (drop a t) (simp length-drop (omega arith));
      lm = length-take-le k (drop n (drop a t)) (simp length-drop (omega arith));
      ly = length-take-le n (drop k (drop n (drop a t))) (simp length-drop (omega arith));
    }

module _ {X Y : Type 0} (refuse : ℕ → X) (f : List ℕ → Out X) (refuse' : ℕ → Y) (g : List ℕ → Out Y) (kf : Keeps f) (kg : Keeps g) (i j : ℕ) (h : i < j)
    (hj : j < slot_count) (t : List ℕ) (l : length t ≡ table_len) where
  parted : Five share_len (i * share_len) (j * share_len - i * share_len - share_len) t
  parted = five share_len (i * share_len) (j * share_len - i * share_len - share_len) t (omega arith)

  below : Apart refuse f refuse' g i j t
  unfolding whole
  below =
      let w = parted in
      subst (λ (t' : List ℕ). Apart refuse f refuse' g i j t') (sym w.parts)
      (lower refuse f refuse' g kf kg i j (omega arith) hj w.p w.x w.m w.y w.q w.lp w.lx w.ly (omega (arith, w.lm)) (sym (ap length w.parts) ∙ l))

  upper-stays : share_at (after refuse f i t) j ≡ share_at t j
  unfolding whole
  upper-stays =
      let w = parted in
      subst (λ (t' : List ℕ). share_at (after refuse f i t') j ≡ share_at t' j) (sym w.parts)
      (stays-j refuse f refuse' g kf kg i j (omega arith) hj w.p w.x w.m w.y w.q w.lp w.lx w.ly (omega (arith, w.lm)) (sym (ap length w.parts) ∙ l))

  lower-stays : share_at (after refuse' g j t) i ≡ share_at t i
  unfolding whole
  lower-stays =
      let w = parted in
      subst (λ (t' : List ℕ). share_at (after refuse' g j t') i ≡ share_at t' i) (sym w.parts)
      (stays-i refuse f refuse' g kf kg i j (omega arith) hj w.p w.x w.m w.y w.q w.lp w.lx w.ly (omega (arith, w.lm)) (sym (ap length w.parts) ∙ l))

other : {X Y : Type 0} {refuse : ℕ → X} {f : List ℕ → Out X} {refuse' : ℕ → Y} {g : List ℕ → Out Y} {i j : ℕ} {t : List ℕ}
    → Apart refuse f refuse' g i j t → Apart refuse' g refuse f j i t
other w = record { same = sym w.same; first = w.second; second = w.first }

-- a call that changes nothing, and whose answer hangs on the table's length alone
idle : {X Y : Type 0} (refuse : ℕ → X) (f : List ℕ → Out X) (refuse' : ℕ → Y) (g : List ℕ → Out Y) (i j n : ℕ) (t : List ℕ)
    → ((t' : List ℕ) → length t' ≡ length t → on_table refuse f t' i ≡ out (refuse n) t') → length (after refuse' g j t) ≡ length t → Apart refuse f refuse' g i j t
idle {X} {Y} refuse f refuse' g i j n t e l =
    let fi = e t refl in
    let fi' = e (after refuse' g j t) l in
    record {
      same = ap (λ (o : Out X). after refuse' g j o.words) fi ∙ sym (ap (λ (o : Out X). o.words) fi');
      first = ap (λ (o : Out X). o.answer) fi' ∙ sym (ap (λ (o : Out X). o.answer) fi);
      second = ap (λ (o : Out X). (on_table refuse' g o.words j).answer) fi;
    }

-- a call keeps the table's length
long-put : (n a : ℕ) (t s : List ℕ) → a + n ≤ length t → length s ≡ n → length (take a t ++ (s ++ drop n (drop a t))) ≡ length t
long-put n a t s h e =
    let l : length (take a t) ≡ a = length-take-le a t (omega arith) in
    simp (length-append, length-drop) (omega arith)

module _ {X : Type 0} (refuse : ℕ → X) (f : List ℕ → Out X) where
  no_length : (i : ℕ) (t : List ℕ) → (length t ≡ table_len → ⊥) → on_table refuse f t i ≡ out (refuse 18) t
  no_length i t h = sym (wrong-length refuse f t i h)

  no_slot : (i : ℕ) (t : List ℕ) → length t ≡ table_len → 7 < i → on_table refuse f t i ≡ out (refuse 1) t
  no_slot i t l h = sym (wrong-slot refuse f t i l h)

  pub table-long : Keeps f → (i : ℕ) (t : List ℕ) → length (after refuse f i t) ≡ length t
  table-long kf i t =
      by_cases refuse f t i (λ (o : Out X). length o.words ≡ length t) refl refl
      (λ l h. long-put share_len (i * share_len) t (f (share_at t i)).words (omega arith) (kf.keeps (share_at t i) (share-long t i l h)))

pub apart : CallsCommute
apart X Y refuse f refuse' g kf kg i j d t =
    elim (ℕ_discrete (length t) table_len) [
      | no n ↦ idle refuse f refuse' g i j 18 t (λ t' e. no_length refuse f i t' (λ z. n (sym e ∙ z))) (table-long refuse' g kg j t)
      | yes l ↦
          elim (dec_lt i slot_count) [
            | no n ↦ idle refuse f refuse' g i j 1 t (λ t' e. no_slot refuse f i t' (e ∙ l) (omega arith)) (table-long refuse' g kg j t)
            | yes hi ↦
                elim (dec_lt j slot_count) [
                  | no n ↦ other (idle refuse' g refuse f j i 1 t (λ t' e. no_slot refuse' g j t' (e ∙ l) (omega arith)) (table-long refuse f kf i t))
                  | yes hj ↦
                      elim (dec_lt i j) [
                        | yes h ↦ below refuse f refuse' g kf kg i j h hj t l
                        | no n ↦ other (below refuse' g refuse f kg kf j i (omega arith) hi t l)
                      ]
                ]
          ]
    ]

pub others-stay : OthersStay
others-stay X refuse f kf i j d hj t =
    by_cases refuse f t i (λ (o : Out X). share_at o.words j ≡ share_at t j) refl refl
    (λ l hi.
    let is = right-slot refuse f t i l (omega arith) in
    ap (λ (o : Out X). share_at o.words j) is
    ∙ elim (dec_lt i j) [
      | yes h ↦ upper-stays refuse f refuse f kf kf i j h hj t l
      | no n ↦ lower-stays refuse f refuse f kf kf j i (omega arith) hi t l
    ])

-- and a call that leaves a lawful share lawful leaves every share of a table lawful that was
pub shares-lawful : {X : Type 0} (refuse : ℕ → X) (f : List ℕ → Out X) → Keeps f → (side : Side)
    → ((s : List ℕ) → length s ≡ share_len → lawful side s ≡ true → lawful side (f s).words ≡ true)
    → (i j : ℕ) → j < slot_count → (t : List ℕ) → lawful side (share_at t j) ≡ true → lawful side (share_at (after refuse f i t) j) ≡ true
shares-lawful {X} refuse f kf side m i j hj t w =
    elim (ℕ_discrete i j) [
      | no d ↦ ap (lawful side) (others-stay X refuse f kf i j d hj t) ∙ w
      | yes e ↦
          by_cases refuse f t i (λ (o : Out X). lawful side (share_at o.words j) ≡ true) w w
          (λ l h.
          let n : length (share_at t i) ≡ share_len = share-long t i l h in
          ap (λ (k : ℕ). lawful side (share_at (put_share t i (f (share_at t i)).words) k)) (sym e)
          ∙ ap (lawful side) (share-put t i l h (f (share_at t i)).words (kf.keeps (share_at t i) n))
          ∙ m (share_at t i) n (ap (λ (k : ℕ). lawful side (share_at t k)) e ∙ w))
    ]
