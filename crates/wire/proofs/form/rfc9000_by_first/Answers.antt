-- `wire::form::rfc9000_by_first` meets its contract: at each return the tests before it say which row of the table it is.
use mathlib.Core.Path.{◌∙◌}
use borrow.Author.Tests.{lt-ltb, le-ltb}
use Rattle.wire.specs.Form.{by_first}
use Rattle.wire.proofs.form.rfc9000_by_first.Goals as goal

pub returns-then-b-lt64 : goal.returns-then-b-lt64
unfolding by_first
returns-then-b-lt64 c = c.in_row.ensures ∙ simp (lt-ltb _ _ c.if-b-lt64.true)

pub returns-then-b-lt128 : goal.returns-then-b-lt128
unfolding by_first
returns-then-b-lt128 c = c.in_row-then-b-lt128.ensures ∙ simp (le-ltb _ _ c.if-b-lt64.false, lt-ltb _ _ c.if-b-lt128.true)

pub returns-then-b-lt192 : goal.returns-then-b-lt192
unfolding by_first
returns-then-b-lt192 c =
    c.in_row-then-b-lt192.ensures
    ∙ simp (
      le-ltb _ _ c.if-b-lt64.false,
      le-ltb _ _ c.if-b-lt128.false,
      lt-ltb _ _ c.if-b-lt192.true,
    )

pub returns-then-b-lt256 : goal.returns-then-b-lt256
unfolding by_first
returns-then-b-lt256 c =
    c.in_row-then-b-lt256.ensures
    ∙ simp (
      le-ltb _ _ c.if-b-lt64.false,
      le-ltb _ _ c.if-b-lt128.false,
      le-ltb _ _ c.if-b-lt192.false,
      lt-ltb _ _ c.if-b-lt256.true,
    )

pub returns : goal.returns
unfolding by_first
returns c =
    simp (
      le-ltb _ _ c.if-b-lt64.false,
      le-ltb _ _ c.if-b-lt128.false,
      le-ltb _ _ c.if-b-lt192.false,
      le-ltb _ _ c.if-b-lt256.false,
    )
