-- The flows of a schedule that is served.
use Rattle.std.proofs.Common.{ℕ, ◌<◌, List, [], length, subst}
use Rattle.std.specs.Prelude.{All}
use Rattle.std.proofs.lemmas.List.{get_or_default}
use Rattle.coflow_units.specs.declared.fabric.Flow.{Flow}
use Rattle.coflow_units.specs.Served.{IsServed}

pub slots_hold_flows : (flows : List Flow) (line : List ℕ) (slots : List (List ℕ)) → IsServed flows line slots → All (All (λ f. f < length flows)) slots
slots_hold_flows flows line slots served t d lt =
    subst (λ (slot : List ℕ). All (λ f. f < length flows) slot) (get_or_default slots t [] d lt) (served.so_far.grants t lt).flow
