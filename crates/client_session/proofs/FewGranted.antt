-- The flows of an open run are at most as many as the ingress ports.
use Rattle.std.proofs.Common.{ℕ, ◌<◌, ◌≤◌, inl, List, length, get_or, map, Option, Some, None, sym, ◌∙◌, arith}
use Rattle.std.specs.Prelude.{All, Contains}
use Rattle.std.proofs.lemmas.List.{get_or-map, length-map}
use Rattle.std.proofs.lemmas.List.Elements.{All-contains, All-map, Contains-get_or}
use Rattle.std.proofs.lemmas.List.Kept.{AllPairs-from_increasing}
use Rattle.coflow_units.specs.declared.fabric.Flow.{Flow}
use Rattle.coflow_units.specs.Flows.{ingress_of, IsDistinct}
use Rattle.coflow_units.specs.Schedule.{IsClear}
use Rattle.journal.specs.declared.command.Entry.{Entry}
use Rattle.journal.specs.declared.opening.Opening.{Opening}
use Rattle.journal.specs.Fold.{state_of}
use Rattle.journal.specs.Journal.{IsLegal}
use Rattle.journal.specs.Runs.{flows_granted}
use Rattle.journal.specs.Sound.{InRange, IsOpenRun, OnRun}
use Rattle.journal.specs.State.{IsOpening, Run}
use Rattle.journal.proofs.Sound.{legal_sound}
use Rattle.master_core.proofs.AttendanceSteps.{joined_few}
use Rattle.client_session.specs.Grants.{all_granted}

module _ (flows : List Flow) (granted : List ℕ) (clear : IsClear flows granted) where
  abbrev ingresses : List ℕ
  ingresses = map (ingress_of flows) granted

  -- no two of them begin at one port
  ingresses_apart : IsDistinct ingresses
  ingresses_apart = λ i j d lt low same.
      let long = length-map granted (ingress_of flows) in
      let later : j < length granted = omega (arith, low, long) in
      let sooner : i < length granted = omega (arith, lt, later) in
      let shared = sym (get_or-map (ingress_of flows) granted i 0 d sooner) ∙ same ∙ get_or-map (ingress_of flows) granted j 0 d later in
      let one = clear.apart (get_or granted i 0) (get_or granted j 0) (Contains-get_or granted i 0 sooner) (Contains-get_or granted j 0 later) (inl shared) in
      absurd (omega (arith, AllPairs-from_increasing granted clear.ascending i j 0 lt later, one))

  few_clear : (ports : ℕ) → All (λ (x : Flow). x.ingress < ports) flows → length granted ≤ ports
  few_clear ports inside =
      let nothing : Flow = record { coflow = 0; ingress = 0; egress = 0; units = 0 } in
      let known = λ (f : ℕ) (has : Contains granted f). All-contains (λ (x : ℕ). x < length flows) granted f clear.flow has in
      let at : (f : ℕ) → Contains granted f → ingress_of flows f < ports = λ f has. inside f nothing (known f has) in
      let few = joined_few ingresses ports ingresses_apart
      (All-map (λ (p : ℕ). p < ports) (ingress_of flows) granted (λ k d lt. at (get_or granted k d) (Contains-get_or granted k d lt))) in
      omega (arith, few, length-map granted (ingress_of flows))

few_in : (o : Opening) (sent : ℕ → ℕ) (next : ℕ) (run : Option Run) → IsOpening o → OnRun run (IsOpenRun o.table.flows sent next) → length (flows_granted run) ≤ o.table.ports
few_in o sent next None within sound = omega arith
few_in o sent next (Some r) within sound = few_clear o.table.flows r.granted sound.clear o.table.ports within.table.ingress

pub few_granted : (o : Opening) (journal : List Entry) → IsOpening o → IsLegal o journal → InRange o journal → length (all_granted o journal) ≤ o.table.ports
few_granted o journal within legal ok =
    let s = state_of o journal in
    few_in o s.sent s.next s.run within (legal_sound o journal legal ok).open_run
