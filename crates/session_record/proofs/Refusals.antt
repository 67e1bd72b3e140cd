-- A chain of checks that all pass: each test is false. And what a check answers says what was found. Assumes nothing.
use mathlib.Core.Path.{◌≡◌, sym, ◌∙◌}
use mathlib.Core.Bool.{Bool, false}
use Rattle.std.specs.Prelude.{Option, None, Some, Err, Ok}
use Rattle.refusal.specs.Table.{refuse_if, or_else}
use Rattle.refusal.specs.declared.Refusal.{Refusal}
use Rattle.inputs.specs.Inputs.{Checked, checked_of}
use Rattle.inputs.proofs.Answering.{checked_of-refused, checked_of_passed, refuse_if-none, or_else_none}

-- A test that passed, and the checks after it.
pub test_passed : (test : Bool) (r : Refusal) (later : Option Refusal) → or_else (refuse_if test r) later ≡ None → (test ≡ false) × (later ≡ None)
test_passed test r later e =
    let each = or_else_none (refuse_if test r) later e in (refuse_if-none test r each.0, each.1)

-- What a check answered says what was found.
pub check_refused : (x : Checked) (o : Option Refusal) (r : Refusal) → x ≡ checked_of o → x ≡ Err r → o ≡ Some r
check_refused x o r is said = checked_of-refused o r (sym is ∙ said)

pub check_passed : (x : Checked) (o : Option Refusal) → x ≡ checked_of o → x ≡ Ok tt → o ≡ None
check_passed x o is said = checked_of_passed o (sym is ∙ said)
