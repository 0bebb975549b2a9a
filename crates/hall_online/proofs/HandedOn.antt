-- A fault that is handed on.
use Rattle.std.proofs.Common.{◌≡◌, Result, Err, subst}
use Rattle.std.specs.Result.{IsErrAnd}
use Rattle.hall_online.specs.declared.answer.OnlineFault.{OnlineFault}

-- what a fault that is handed on is
pub carried : {S : Type 0} (P : OnlineFault → Type 0) (x : Result S OnlineFault) (f : OnlineFault) → IsErrAnd x P → x ≡ Err f → P f
carried P x f h e = subst (λ r. IsErrAnd r P) e h
