-- `wire::form::rfc9000_by_value` meets its contract: at each return the tests before it say which row of the table it is.
use mathlib.Core.Path.{◌∙◌}
use borrow.Author.Tests.{lt-ltb, le-ltb}
use Rattle.wire.specs.Form.{by_value}
use Rattle.wire.proofs.form.rfc9000_by_value.Goals as goal

pub returns-then-v-lt64 : goal.returns-then-v-lt64
unfolding by_value
returns-then-v-lt64 c = c.in_row.ensures ∙ simp (lt-ltb _ _ c.if-v-lt64.true)

pub returns-then-v-lt16384 : goal.returns-then-v-lt16384
unfolding by_value
returns-then-v-lt16384 c = c.in_row-then-v-lt16384.ensures ∙ simp (le-ltb _ _ c.if-v-lt64.false, lt-ltb _ _ c.if-v-lt16384.true)

pub returns-then-v-lt1073741824 : goal.returns-then-v-lt1073741824
unfolding by_value
returns-then-v-lt1073741824 c =
    c.in_row-then-v-lt1073741824.ensures
    ∙ simp (
      le-ltb _ _ c.if-v-lt64.false,
      le-ltb _ _ c.if-v-lt16384.false,
      lt-ltb _ _ c.if-v-lt1073741824.true,
    )

pub returns-then-v-lt4611686018427387904 : goal.returns-then-v-lt4611686018427387904
unfolding by_value
returns-then-v-lt4611686018427387904 c =
    c.in_row-then-v-lt4611686018427387904.ensures
    ∙ simp (
      le-ltb _ _ c.if-v-lt64.false,
      le-ltb _ _ c.if-v-lt16384.false,
      le-ltb _ _ c.if-v-lt1073741824.false,
      lt-ltb _ _ c.if-v-lt4611686018427387904.true,
    )

pub returns : goal.returns
unfolding by_value
returns c =
    simp (
      le-ltb _ _ c.if-v-lt64.false,
      le-ltb _ _ c.if-v-lt16384.false,
      le-ltb _ _ c.if-v-lt1073741824.false,
      le-ltb _ _ c.if-v-lt4611686018427387904.false,
    )
