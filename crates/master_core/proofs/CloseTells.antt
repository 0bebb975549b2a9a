-- The state after the open run is closed.
use Rattle.std.proofs.Common.{◌≡◌, ℕ, ◌+◌, ◌-◌, ◌<◌, List, length, inl, inr, Option, Some, None, refl, sym, ap, subst, ◌∙◌, arith, unwrap_or, true≢false}
use Rattle.std.specs.Prelude.{if◌then◌else◌, is_some}
use Rattle.std.proofs.lemmas.Bool.{cases_lt}
use Rattle.std.proofs.Math.ListN.{get_or-eq_default}
use Rattle.coflow_units.specs.declared.fabric.Flow.{Flow}
use Rattle.coflow_units.specs.Flows.{ingress_of}
use Rattle.flow_table.specs.Table.{IsTable, TableFacts}
use Rattle.journal.specs.declared.command.Reply.TheVariants.{Closed, NoneOpen}
use Rattle.journal.specs.State.{has, Run}
use Rattle.journal.specs.Runs.{credit, note_in}
use Rattle.journal.specs.Answer.{on_run}
use Rattle.master_core.specs.OpenRun.{FitsOpen, FitsRun, KeepsGrants, KeptRun, KeptRuns, kept_credit, note_at}
use Rattle.master_core.specs.Standing.{TellsOpen, TellsRun}

pub ingress_low : (t : TableFacts) (f : ℕ) → IsTable t → ingress_of t.flows f < t.ports
ingress_low t f ok = elim (cases_lt f (length t.flows)) [
  | inl lt ↦ ok.ingress f record { coflow = 0; ingress = 0; egress = 0; units = 0 } lt
  | inr ge ↦ omega (arith, ok.has_ports, ap (λ (x : Flow). x.ingress) (get_or-eq_default t.flows record { coflow = 0; ingress = 0; egress = 0; units = 0 } {n = f} ge))
]

-- the open run of the state, where one is kept
pub open_of : (flows : List Flow) (ports : ℕ) (r : Option Run) (x : Option KeptRun) (k : KeptRun) → TellsRun flows ports r x → x ≡ Some k →
    (z : Run) × (r ≡ Some z) × TellsOpen flows ports z k
open_of flows ports None None k t e = absurd (true≢false (sym (ap is_some e)))
open_of flows ports None (Some x) k t e = absurd t
open_of flows ports (Some r) None k t e = absurd t
open_of flows ports (Some r) (Some x) k t e = let is : x ≡ k = ap (λ (z : Option KeptRun). unwrap_or z k) e in (r, refl, subst (TellsOpen flows ports r) is t)

pub credit_told : (flows : List Flow) (ports : ℕ) (r : Run) (k : KeptRun) (f : ℕ) → TellsOpen flows ports r k → ingress_of flows f < ports →
    kept_credit flows k f ≡ credit flows r f
credit_told flows ports r k f t low =
    ap (λ l. if has l f then unwrap_or (note_at k.noted (ingress_of flows f)) k.slots else 0) t.granted
    ∙ ap (λ n. if has r.granted f then unwrap_or n k.slots else 0) (t.noted (ingress_of flows f) low)
    ∙ ap (λ n. if has r.granted f then unwrap_or (note_in r.notes (ingress_of flows f)) n else 0) t.slots

pub still_owed : (units sent paid new old : ℕ) → old ≡ units - sent → new + paid ≡ old → new ≡ units - (sent + paid)
still_owed units sent paid new old e f = omega arith

pub fits_kept : (flows : List Flow) (owed : List ℕ) (x : Option KeptRun) (k : KeptRun) → FitsOpen flows owed x → x ≡ Some k → FitsRun flows owed k
fits_kept flows owed None k h e = absurd (true≢false (sym (ap is_some e)))
fits_kept flows owed (Some x) k h e = let is : x ≡ k = ap (λ (z : Option KeptRun). unwrap_or z k) e in subst (FitsRun flows owed) is h

pub close_none : (r : Option Run) → r ≡ None → on_run r (λ r. Closed r.first) NoneOpen ≡ NoneOpen
close_none r e = ap (λ (z : Option Run). on_run z (λ r. Closed r.first) NoneOpen) e

pub close_some : (r : Option Run) (z : Run) (n : ℕ) → r ≡ Some z → z.first ≡ n → on_run r (λ r. Closed r.first) NoneOpen ≡ Closed n
close_some r z n e is = ap (λ (y : Option Run). on_run y (λ r. Closed r.first) NoneOpen) e ∙ ap Closed is

-- what an end keeps of the grants, over the table's flows
pub grants_kept : (read flows : List Flow) (line before after : List ℕ) (old new : KeptRuns) → read ≡ flows → KeepsGrants flows line before old →
    ((l : List ℕ) → KeepsGrants read l before old → KeepsGrants read l after new) → KeepsGrants flows line after new
grants_kept read flows line before after old new same kept ends =
    subst (λ (l : List Flow). KeepsGrants l line after new) same (ends line (subst (λ (l : List Flow). KeepsGrants l line before old) (sym same) kept))
