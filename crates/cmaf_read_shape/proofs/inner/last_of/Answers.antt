-- `cmaf_read_shape::inner::last_of` meets its contract: three boxes one after another.
use borrow.Author.Rules.{rules}
use Rattle.cmaf_read_shape.proofs.PartLaws.{any-lies}
use Rattle.cmaf_read_shape.proofs.InnerLaws.{last-is}
use Rattle.cmaf_read_shape.proofs.inner.last_of.Goals as goal

pub overflow_add-a : goal.overflow_add-a
overflow_add-a c =
    let h₁ = any-lies _ c.requires.0 c.requires.1 c.any_at-a.ensures in
    search rules

pub any_at-b-requires : goal.any_at-b-requires
any_at-b-requires c =
    let h₁ = any-lies _ c.requires.0 c.requires.1 c.any_at-a.ensures in
    search rules

pub overflow_add-b : goal.overflow_add-b
overflow_add-b c =
    let h₁ = any-lies _ c.requires.0 c.requires.1 c.any_at-a.ensures in
    let h₂ = any-lies _ h₁ c.requires.1 c.any_at-b.ensures in
    search rules

pub any_at-d-requires : goal.any_at-d-requires
any_at-d-requires c =
    let h₁ = any-lies _ c.requires.0 c.requires.1 c.any_at-a.ensures in
    let h₂ = any-lies _ h₁ c.requires.1 c.any_at-b.ensures in
    search rules

pub overflow_add-result : goal.overflow_add-result
overflow_add-result c =
    let h₁ = any-lies _ c.requires.0 c.requires.1 c.any_at-a.ensures in
    let h₂ = any-lies _ h₁ c.requires.1 c.any_at-b.ensures in
    let h₃ = any-lies _ h₂ c.requires.1 c.any_at-d.ensures in
    search rules

pub returns : goal.returns
returns c =
    last-is _ _ _ c.any_at-a.ensures c.any_at-b.ensures c.any_at-d.ensures
    c.pick.ensures c.pick-2.ensures c.pick-3.ensures
