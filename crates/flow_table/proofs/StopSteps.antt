-- A list that ends early within a part ends early.
use Rattle.std.proofs.Common.{◌≡◌, Result, Ok, Err, sym, subst}
use Rattle.std.specs.Result.{IfErr, IsErrAnd}
use Rattle.flow_table.specs.declared.stop.Stop.{Stop}
use Rattle.flow_table.specs.declared.stop.Stop.TheVariants.{Full, NoMemory}
use Rattle.flow_table.specs.Stops.{StopsFor}

stops_map : (P Q : Type 0) (stop : Stop) → (P → Q) → StopsFor P stop → StopsFor Q stop
stops_map P Q Full f p = f p
stops_map P Q NoMemory f p = tt

pub passed_up : {T : Type 0} (r : Result T Stop) (e : Stop) (P Q : Type 0) → IsErrAnd r (λ y. y ≡ e) → StopsFor P e → (P → Q) → IfErr r (StopsFor Q)
passed_up (Ok x) e P Q is p f = tt
passed_up (Err y) e P Q is p f = stops_map P Q y f (subst (StopsFor P) (sym is) p)
