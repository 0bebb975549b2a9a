-- A fault that is handed on.
use Rattle.std.proofs.Common.{◌≡◌, Result, Err, subst}
use Rattle.std.specs.Result.{IsErrAnd}
use Rattle.replays.specs.declared.rows.ReplayFault.{ReplayFault}

pub carried : {S : Type 0} (P : ReplayFault → Type 0) (x : Result S ReplayFault) (f : ReplayFault) → IsErrAnd x P → x ≡ Err f → P f
carried P x f h e = subst (λ r. IsErrAnd r P) e h
