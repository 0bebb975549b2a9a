-- Where an online run begins in its hall, and what is told at its end.
use Rattle.std.proofs.Common.{◌≡◌, ℕ, ◌+◌, ◌^◌, ◌≤◌, ◌<◌, Bool, false, List, [], length, map, refl, sym, ap, subst, ◌∙◌, arith, replicate, Option}
use Rattle.std.specs.Prelude.{All, reverse, slice_index, ◌&&◌, not}
use Rattle.std.specs.List.{range_with_len}
use Rattle.std.proofs.lemmas.List.{get_or-map, length-replicate}
use Rattle.std.proofs.lemmas.List.Elements.{All-weaker}
use Rattle.coflow_units.specs.declared.fabric.Flow.{Flow}
use Rattle.coflow_units.specs.declared.limits.TheConstants.{MAX_ARRIVAL, MAX_OPTION_SLOTS}
use Rattle.coflow_units.specs.Completion.{cost}
use Rattle.coflow_units.specs.Schedule.{IsRuns}
use Rattle.flow_table.specs.Table.{instance_of, TableFacts}
use Rattle.schedule_model.specs.RunList.{NamesFlows, pairs_of}
use Rattle.release_bound.specs.declared.place.ReleasePlace.{ReleasePlace}
use Rattle.release_bound.specs.Release.{released_total}
use Rattle.release_bound.specs.ReleaseOrder.{IsReleasedOrdering}
use Rattle.online_text.specs.declared.value.Online.{Online}
use Rattle.epochs.specs.Course.{at_first, Course, is_marked}
use Rattle.journal.specs.declared.opening.Opening.{Opening}
use Rattle.journal.specs.Closed.{schedule_of, wire_of}
use Rattle.journal.specs.Fold.{state_of}
use Rattle.journal.specs.State.{IsOpening, owed}
use Rattle.client_session.specs.Desk.{IsSeen}
use Rattle.client_session.proofs.Agreement.{nothing_seen}
use Rattle.client_session.specs.Halls.{IsFirstDriver}
use Rattle.client_session.specs.Models.{DriverModel, HallModel}
use Rattle.slot_runner.specs.Models.{first_runner, RunnerModel}
use Rattle.hall_plan.specs.Journals.{HasRoom}
use Rattle.slot_runner.specs.Wires.{AreAllUnits, HaveMore}
use Rattle.slot_runner.proofs.WireSteps.{have_none, have_so, untouched}
use Rattle.online_runs.specs.Input.{IsOnlineInput, online_limit, online_opening}
use Rattle.online_runs.specs.Value.{IsOnlineOf, release_line, done_lines}
use Rattle.online_runs.proofs.Along.{holds_first}
use Rattle.online_runs.proofs.AtTheEnd.{run_serves}
use Rattle.epochs.proofs.Actions.{none_marked}
use Rattle.online_runs.specs.declared.progress.Progress.{Progress}
use Rattle.hall_online.specs.Halls.{IsReady}
use Rattle.hall_online.specs.Serving.{EndsAs, HaveSent, HaveServed, IsUnderWay}
use Rattle.online_runs.specs.Tells.{TellsRun}
use Rattle.epochs.specs.Tallies.{IsTallied}
use Rattle.hall_online.proofs.RunSteps.{tallied_owed}

abbrev opening : TableFacts → List ℕ → ℕ → Opening
opening t weights limit = record { table = t; weights = weights; limit = limit }

-- ---- the hall

pub first_ready : (hall : HallModel) (driver : DriverModel) (ports : ℕ) → IsFirstDriver hall (2 ^ 40) driver → IsOpening hall.setting.opening → HasRoom hall.setting.opening →
    ports ≡ hall.setting.opening.table.ports → IsReady hall (first_runner driver ports)
first_ready hall driver ports f ok room is =
    let o = hall.setting.opening in
    record {
      alone = record {
        driver_of = f.hall_is;
        made = f.made;
        journal_is = refl;
        seen = subst (IsSeen o) (sym f.journal) (nothing_seen o);
        opening = ok;
        room = room;
        calls = omega (arith, f.left);
      };
      may = record {
        driver = f.hall_is;
        ports = is;
        closed = ap (λ l. (state_of o l).run) f.journal;
        later = omega arith;
      };
    }

-- ---- the run

module _ (hall : HallModel) (r : RunnerModel) (arrivals : List ℕ) (every : ℕ) (p : Progress) (input : IsOnlineInput hall.setting.opening arrivals every)
    (room : online_limit hall.setting.opening.table ≤ hall.setting.opening.limit) (ready : IsReady hall r) (none : r.driver.journal ≡ []) (time : p.time ≡ 0)
    (left : p.left.items ≡ map (λ (x : Flow). x.units) hall.setting.opening.table.flows) (each : length p.owed.items ≡ length hall.setting.opening.table.ids)
    (tallied : IsTallied hall.setting.opening.table.flows p.left.items p.owed.items) (present : p.present.items ≡ replicate (length hall.setting.opening.table.ids) false)
    (epochs : p.epochs.items ≡ []) (schedule : p.schedule ≡ []) where
  abbrev o : Opening
  o = hall.setting.opening

  all_left : (f : ℕ) → f < length o.table.flows → slice_index p.left.items f ≡ owed o (state_of o []) f
  all_left f lt =
      let zero' : Flow = record { coflow = 0; ingress = 0; egress = 0; units = 0 } in
      omega (arith, ap (λ l. slice_index l f) left, get_or-map (λ (x : Flow). x.units) o.table.flows f zero' 0 lt)

  nobody : (c : ℕ) → is_marked p.present.items c ≡ (is_marked (at_first arrivals every).registered c && not (is_marked (at_first arrivals every).withdrawn c))
  nobody c =
      ap (λ l. is_marked l c) present ∙ none_marked (length o.table.ids) c ∙
      ap (λ b. b && not (is_marked (at_first arrivals every).withdrawn c)) (sym (none_marked (length arrivals) c))

  pub first_under_way : IsUnderWay hall r arrivals every (at_first arrivals every) p
  first_under_way = record {
    deeds = [];
    input = input;
    room = room;
    ready = ready;
    journal_is = none;
    so_far = record { done = tt; legal = (holds_first o arrivals every input).stands.journal.legal };
    course_is = refl;
    tells = subst (λ l. TellsRun o (at_first arrivals every) l p) (sym none)
        (record {
          time_is = time;
          each_left = tallied.each_flow;
          left_is = all_left;
          owed_is = tallied_owed o [] p.left.items p.owed.items each tallied all_left;
          each_present = ap (λ (l : List Bool). length l) present ∙ length-replicate (length o.table.ids) false;
          present_is = nobody;
          epochs_are = epochs;
          schedule_is = schedule;
        });
  }

-- ---- the beginning of a served table

pub opening_is : (t t' : TableFacts) (ws ws' : List ℕ) (limit : ℕ) → t' ≡ t → ws' ≡ ws → limit ≡ online_limit t → opening t' ws' limit ≡ online_opening t ws
opening_is t t' ws ws' limit table weights is = ap (λ x. opening x ws' limit) table ∙ ap (λ l. opening t l limit) weights ∙ ap (opening t ws) is

pub begins_so : (hall : HallModel) (r : RunnerModel) (t : TableFacts) (weights arrivals : List ℕ) (every : ℕ) (s : Course) (p : Progress) → hall.setting.opening ≡
    online_opening t weights →
    IsReady hall r → r.driver.journal ≡ [] → length arrivals ≡ length t.ids → All (λ a. a ≤ MAX_ARRIVAL + 1) arrivals → 1 ≤ every → every ≤ MAX_OPTION_SLOTS →
    s ≡ at_first arrivals every → p.time ≡ 0 → p.left.items ≡ map (λ (x : Flow). x.units) t.flows → length p.owed.items ≡ length t.ids → IsTallied t.flows p.left.items
    p.owed.items →
    p.present.items ≡ replicate (length t.ids) false → p.epochs.items ≡ [] → p.schedule ≡ [] → IsUnderWay hall r arrivals every s p
begins_so hall r t weights arrivals every s p is ready none each fit some few course time left owes tallied present epochs schedule =
    let o = hall.setting.opening in
    let table : t ≡ o.table = sym (ap (λ (x : Opening). x.table) is) in
    let input : IsOnlineInput o arrivals every =
    record {
      opening = ready.alone.opening;
      each_arrival = each ∙ ap (λ (x : TableFacts). length x.ids) table;
      arrivals_fit = All-weaker (λ a. a ≤ MAX_ARRIVAL + 1) (λ a. a ≤ 2 ^ 32) (λ a le. omega (arith, le)) arrivals fit;
      epoch_some = some;
      epoch_fits = few;
    } in
    subst (λ c. IsUnderWay hall r arrivals every c p) (sym course)
    (first_under_way hall r arrivals every p input (omega (arith, ap (λ (x : Opening). x.limit) is, ap online_limit table)) ready none time
    (left ∙ ap (λ (x : TableFacts). map (λ (y : Flow). y.units) x.flows) table) (owes ∙ ap (λ (x : TableFacts). length x.ids) table)
    (subst (λ (x : TableFacts). IsTallied x.flows p.left.items p.owed.items) table tallied) (present ∙ ap (λ (x : TableFacts). replicate (length x.ids) false) table) epochs
    schedule)

-- ---- the end

pub told_so : (o : Opening) (arrivals : List ℕ) (every : ℕ) (p : Progress) (x : Online) → EndsAs o arrivals every p → x.epochs ≡ p.epochs.items → x.done ≡ done_lines o p.schedule →
    x.cost ≡ cost o.table.flows (slice_index o.weights) (range_with_len 0 (length o.table.ids)) p.schedule →
    ((places : List ReleasePlace) × IsReleasedOrdering (instance_of o.table o.weights) (slice_index arrivals) places ×
    (x.release ≡ map (release_line o.table.ids) (reverse places)) ×
    (x.total ≡ released_total o.table.flows (slice_index arrivals) o.table.ports places)) → IsRuns p.schedule (pairs_of x.runs) → IsOnlineOf o arrivals every x
told_so o arrivals every p x h epochs done cost_is (places, ordering, release, total) runs = record {
  journal = h.journal;
  run = h.run;
  epochs_are = epochs ∙ h.epochs_are;
  done_are = done ∙ ap (done_lines o) h.schedule_is;
  cost_is = cost_is ∙ ap (λ l. cost o.table.flows (slice_index o.weights) (range_with_len 0 (length o.table.ids)) l) h.schedule_is;
  places = places;
  ordering = ordering;
  release_is = release;
  total_is = total;
  runs_are = subst (λ l. IsRuns l (pairs_of x.runs)) h.schedule_is runs;
}

pub names_flows : (o : Opening) (arrivals : List ℕ) (every : ℕ) (p : Progress) → IsOnlineInput o arrivals every → EndsAs o arrivals every p →
    NamesFlows (length o.table.flows) p.schedule
names_flows o arrivals every p i h =
    subst (NamesFlows (length o.table.flows)) (sym h.schedule_is) (λ k d lt. ((run_serves o arrivals every h.journal i h.run).valid.clear k d lt).flow)

-- ---- the wires

module _ {W : Type 0} (faults : W → ℕ) (wruns : W → Option (List (ℕ × ℕ × ℕ))) where
  -- before anything was sent
  pub none_sent : (hall : HallModel) (r : RunnerModel) (ws : List W) → r.driver.journal ≡ [] → hall.setting.opening.table.ports ≤ length ws → HaveSent wruns hall r ws ws
  none_sent hall r ws none long =
      let o = hall.setting.opening in
      have_so faults wruns (λ port s. s ≡ []) (λ port s. s ≡ wire_of o r.driver.journal port) o.table.ports ws ws (λ port s e. e ∙ sym (ap (λ l. wire_of o l port) none))
      (have_none faults wruns o.table.ports ws long)

  pub none_served : (o : Opening) (arrivals : List ℕ) (every : ℕ) (ws : List W) → o.table.ports ≤ length ws → HaveServed wruns o arrivals every ws ws
  none_served o arrivals every ws long = record {
    slots = schedule_of o [];
    served = record { deeds = []; so_far = record { done = tt; legal = tt }; slots_are = refl };
    units = untouched faults wruns o.table.flows (schedule_of o []) o.table.ports ws long;
  }

  -- the schedule as runs
  pub sent_as_runs : (o o' : Opening) (schedule slots : List (List ℕ)) (before now : List W) → o ≡ o' → slots ≡ schedule → HaveMore wruns (AreAllUnits o.table.flows schedule)
      o.table.ports before now →
      HaveMore wruns (AreAllUnits o'.table.flows slots) o'.table.ports before now
  sent_as_runs o o' schedule slots before now is same h =
      subst (λ l. HaveMore wruns (AreAllUnits o'.table.flows l) o'.table.ports before now) (sym same)
      (subst (λ (x : Opening). HaveMore wruns (AreAllUnits x.table.flows schedule) x.table.ports before now) is h)
