-- What holds of both of two choices holds of the one that is taken.
use Rattle.std.proofs.Common.{Bool, true, false, cond}

pub by_choice : {X : Type 0} (b : Bool) (x y : X) (P : X → Type 0) → P x → P y → P (cond b x y)
by_choice true x y P p q = p
by_choice false x y P p q = q
