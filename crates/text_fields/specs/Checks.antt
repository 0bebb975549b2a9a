-- Checks in reading order.
use Rattle.std.specs.Prelude.{◌≡◌, Bool, true, false, List, [], ◌∷◌, Option, Some, None, Result, Ok, Err, cond}

-- A check says what must hold, and the fault where it does not.
abbrev pub Check : Type 0 → Type 0
Check F = Bool × F

-- The fault of the first check that fails, or none where all hold. A check behind one that fails is not looked at.
abbrev pub first_fault : {F : Type 0} → List (Check F) → Option F
first_fault [] = None
first_fault (check ∷ checks) = cond check.0 (first_fault checks) (Some check.1)

-- The statement is owed where the test fails.
abbrev pub Unless : Bool → Type 0 → Type 0
Unless true P = Unit {0}
Unless false P = P

-- All checks hold and the value is as said, or the fault is that of the first check that fails. A free fault, as want of
-- memory is, may come in place of any answer.
abbrev pub AnswersChecks : {V F : Type 0} → (F → Bool) → List (Check F) → (V → Type 0) → Result V F → Type 0
AnswersChecks is_free checks P (Ok v) = (first_fault checks ≡ None) × P v
AnswersChecks is_free checks P (Err f) = Unless (is_free f) (first_fault checks ≡ Some f)
