-- What is kept at the start tells the state before the first entry.
use Rattle.std.specs.Prelude.{All, ◌^◌}
use Rattle.std.proofs.lemmas.List.{length-map}
use Rattle.std.proofs.Common.{◌≡◌, ℕ, ◌+◌, ◌≤◌, false, List, [], ◌∷◌, length, map, get_or, None, refl, sym, ap, subst, ◌∙◌, arith, zero, suc, true≢false}
use Rattle.coflow_units.specs.declared.fabric.Flow.{Flow}
use Rattle.coflow_units.specs.declared.plan.Place.{Place}
use Rattle.coflow_units.specs.Flows.{units_of}
use Rattle.coflow_units.proofs.Sums.{nothing_in}
use Rattle.matching.specs.Matching.{room_of}
use Rattle.journal.specs.declared.opening.Opening.{Opening}
use Rattle.master_core.specs.declared.standing.Standing.{Standing}
use Rattle.master_core.specs.Attendance.{marked}
use Rattle.master_core.specs.Published.{ranked}
use Rattle.journal.specs.Fold.{start}
use Rattle.journal.specs.State.{IsOpening}
use Rattle.master_core.specs.OpenRun.{FitsOpen}
use Rattle.master_core.specs.Standing.{IsFit, Tells, TellsRun}

units_listed : (flows : List Flow) (f : ℕ) → get_or (map (λ (x : Flow). x.units) flows) f 0 ≡ units_of flows f
units_listed [] f = refl
units_listed (x ∷ xs) zero = refl
units_listed (x ∷ xs) (suc f) = units_listed xs f

pub start_told : (o : Opening) (x : Standing) → x.roster.joined ≡ [] → ((c : ℕ) → marked x.roster.present c ≡ false) → x.weights.items ≡ o.weights → x.orders.version ≡ 0 →
    x.orders.places ≡ [] → x.ledger.owed ≡ map (λ (f : Flow). f.units) o.table.flows →
    x.runs.run ≡ None → x.next ≡ 1 → Tells o (start o) x
start_told o x joined present weights version places owes run next = record {
  coflows = record { joined_is = joined; present_is = present; gone = λ c e. absurd (true≢false (sym e)) };
  weight = λ c lt. ap (λ (l : List ℕ). get_or l c 0) weights;
  orders = record { version_is = version; places_are = places; order_is = ap (λ (l : List Place). ranked l) places; named = λ c in'. absurd (nothing_in c in') };
  owed = λ f. ap (λ (l : List ℕ). get_or l f 0) owes ∙ omega (arith, units_listed o.table.flows f);
  run = subst (TellsRun o.table.flows o.table.ports None) (sym run) tt;
  next = next;
}

pub start_fits : (o : Opening) (x : Standing) → IsOpening o → length x.roster.present ≡ length o.table.ids → x.weights.items ≡ o.weights → x.orders.coflows ≡ length o.table.ids →
    x.orders.ports ≡ o.table.ports → length o.table.ids + length o.table.ids ≤ x.line.room →
    x.ledger.units ≡ map (λ (f : Flow). f.units) o.table.flows → x.ledger.owed ≡ x.ledger.units →
    x.runs.ports ≡ o.table.ports → room_of x.runs.tables ≡ length o.table.flows → x.runs.fresh ≡ false → x.runs.run ≡ None → x.next ≡ 1 → IsFit o x
start_fits o x ok present weights coflows ports room units owes sides flows stale run next = record {
  opening = ok;
  present_len = present;
  weights_len = ap (λ (l : List ℕ). length l) weights ∙ ok.each_weight;
  weights_fit = subst (All (λ w. w ≤ 2 ^ 32)) (sym weights) (λ k d lt. (ok.weight k d lt).1);
  orders_coflows = coflows;
  orders_ports = ports;
  line_room = room;
  units = units;
  owed_len = ap (λ (l : List ℕ). length l) (owes ∙ units) ∙ length-map o.table.flows (λ (f : Flow). f.units);
  runs_ports = sides;
  runs_room = flows;
  grants = λ e. absurd (true≢false (sym e ∙ stale));
  run = subst (FitsOpen o.table.flows x.ledger.owed) (sym run) tt;
  next_ends = omega (arith, next);
}
