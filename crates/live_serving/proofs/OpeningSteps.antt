-- What an opening of the driver makes of its journal and of the wires.
use Rattle.std.proofs.Common.{◌≡◌, ℕ, ◌<◌, ◌≤◌, Bool, true, false, true≢false, List, ◌++◌, length, refl, sym, ap, subst, ◌∙◌, arith, Option, Some, Result, Ok, Err}
use Rattle.std.specs.Prelude.{Contains}
use Rattle.coflow_units.specs.Flows.{ingress_of}
use Rattle.coflow_units.specs.Schedule.{IsClear}
use Rattle.coflow_units.proofs.ServedLaws.{grants_clear}
use Rattle.journal.specs.declared.command.Reply.TheVariants.{NothingLeft}
use Rattle.journal.specs.declared.opening.Opening.{Opening}
use Rattle.journal.specs.Closed.{closed_runs, wire_of}
use Rattle.journal.specs.Driven.{Drive, driven, driven_run, opened_in}
use Rattle.journal.specs.Fold.{state_of}
use Rattle.journal.specs.Journal.{line_of}
use Rattle.journal.specs.State.{owed}
use Rattle.journal.specs.Runs.{grant_in}
use Rattle.journal.proofs.Ingresses.{grant_at, grant_is}
use Rattle.client_session.specs.Desk.{IsSeen}
use Rattle.client_session.specs.Models.{HallModel}
use Rattle.slot_runner.specs.Models.{MayRun, RunnerModel}
use Rattle.slot_runner.specs.Slots.{AreSent, HasRun, IsAnswered, IsFaulted, IsFullAt, IsRan}
use Rattle.slot_runner.specs.Wires.{NoneFell}
use Rattle.slot_runner.proofs.WireSteps.{fell_next, have_next, have_so, none_fell}
use Rattle.live_serving.proofs.DrivenOn.{none_driven, nothing_driven, run_driven}
use Rattle.live_serving.specs.declared.stop.Stop.{Stop}
use Rattle.live_serving.specs.declared.stop.Stop.TheVariants.{Full, NoMemory, WireFault}
use Rattle.live_serving.specs.Driving.{MayDrive}
use Rattle.live_serving.specs.Openings.{AreServed, GoesOn, HasFailed, HasMetFull, IsOpening}
use Rattle.slot_runner.specs.Cuts.{AllSentWhole, IsCutAt}
use Rattle.live_serving.specs.Wires.{HaveSent}
use Rattle.live_serving.proofs.DriverTurns.{nothing_leaves_slots, others_leave_slots}
use Rattle.live_serving.proofs.SentWhole.{whole_next, whole_still}

abbrev pub is_wired : {S : Type 0} → Result S Stop → Bool
is_wired (Err (WireFault port)) = true
is_wired answer = false

abbrev pub port_of : {S : Type 0} → Result S Stop → ℕ
port_of (Err (WireFault port)) = port
port_of answer = 0

abbrev pub stop_in : {S : Type 0} → Result S Stop → Stop
stop_in (Err stop) = stop
stop_in (Ok x) = NoMemory

-- ---- the run that was cut short

cut_at : (o : Opening) (most : ℕ) (old new : RunnerModel) (d : Drive) (port flow units ports : ℕ) → HasRun o most d old new → grant_in o.table.flows new.granted port ≡ Some flow →
    AllSentWhole o old.driver.journal → d.sent port ≡ units → units < d.slots →
    ((p f : ℕ) → p < port → grant_in o.table.flows new.granted p ≡ Some f → d.sent p ≡ d.slots) → IsCutAt o new.driver.journal port
cut_at o most old new d port flow units ports run granted whole is short least =
    let flows = o.table.flows in
    let gs = driven o old.driver.journal d in
    let opened = opened_in old.driver.journal d in
    let (r, open', closed, first, slots, grants, credits) = run.goes_on.closed in
    let clear : IsClear flows gs = grants_clear flows (line_of o opened) (owed o (state_of o opened)) gs run.goes_on.grants in
    let mine = grant_is flows gs port flow (ap (λ l. grant_in flows l port) (sym run.granted) ∙ granted) in
    record {
      earlier = closed_runs o old.driver.journal;
      run = r;
      last = closed;
      flow = flow;
      granted = subst (λ l. Contains l flow) (sym grants) mine.0;
      port_is = mine.1;
      missing = omega (arith, credits flow (subst (λ l. Contains l flow) (sym grants) mine.0), ap d.sent mine.1, is, short, slots);
      lesser = λ f in' lt.
          let there = subst (λ l. Contains l f) grants in' in
          credits f in'
          ∙ least (ingress_of flows f) f lt (ap (λ l. grant_in flows l (ingress_of flows f)) run.granted ∙ (grant_at flows gs (ingress_of flows f) f clear).1 (there, refl))
          ∙ sym slots;
      whole = whole;
    }

module _ {W : Type 0} (faults : W → ℕ) (runs : W → Option (List (ℕ × ℕ × ℕ))) (hall : HallModel) (old new : RunnerModel) (before after : List W) where
  abbrev o : Opening
  o = hall.setting.opening

  abbrev ports : ℕ
  ports = o.table.ports

  -- where no wire failed
  pub served : {S : Type 0} (answer : Result S Stop) → is_wired answer ≡ false → MayRun hall new → IsSeen hall.setting.opening new.driver.journal → length after ≡ length before →
      ((start : List W) → HaveSent runs hall.setting.opening old.driver.journal start before → HaveSent runs hall.setting.opening new.driver.journal start after) →
      NoneFell faults hall.setting.opening.table.ports before after → AreServed faults runs hall old new before after answer
  served answer not_wired may seen many sent fell = record {
    may = may;
    seen = seen;
    as_many = many;
    sent = sent;
    none_fell = fell;
    fault = λ port e. absurd (true≢false (sym (ap is_wired e) ∙ not_wired));
  }

  -- where nothing was sent
  pub served_none : {S : Type 0} (answer : Result S Stop) → is_wired answer ≡ false → MayRun hall new → IsSeen hall.setting.opening new.driver.journal →
      hall.setting.opening.table.ports ≤ length before →
      ((port : ℕ) → wire_of hall.setting.opening new.driver.journal port ≡ wire_of hall.setting.opening old.driver.journal port) → after ≡ before →
      AreServed faults runs hall old new before after answer
  served_none answer not_wired may seen long none same =
      served answer not_wired may seen (ap (λ (l : List W). length l) same)
      (λ start h. subst (HaveSent runs o new.driver.journal start) (sym same)
      (have_so faults runs (λ port s. s ≡ wire_of o old.driver.journal port) (λ port s. s ≡ wire_of o new.driver.journal port) ports start before
      (λ port s e. e ∙ sym (none port)) h))
      (subst (NoneFell faults ports before) (sym same) (none_fell faults runs ports before long))

  module _ (most : ℕ) (d : Drive) (run : HasRun hall.setting.opening most d old new) (may : MayRun hall old) (long : hall.setting.opening.table.ports ≤ length before)
      (wires : AreSent faults runs d (grant_in hall.setting.opening.table.flows new.granted) old.ports before after) where
    sent_here : AreSent faults runs d (grant_in o.table.flows new.granted) ports before after
    sent_here = subst (λ n. AreSent faults runs d (grant_in o.table.flows new.granted) n before after) may.ports wires

    pub run_sent : (start : List W) → HaveSent runs hall.setting.opening old.driver.journal start before → HaveSent runs hall.setting.opening new.driver.journal start after
    run_sent start h =
        have_next faults runs (wire_of o old.driver.journal) (wire_of o new.driver.journal) d (grant_in o.table.flows new.granted) ports start before after
        (λ port. subst (λ g. wire_of o new.driver.journal port ≡ wire_of o old.driver.journal port ++ driven_run d port (grant_in o.table.flows g port)) (sym run.granted)
        (run.goes_on.wire port)) h sent_here

    pub run_fell : NoneFell faults hall.setting.opening.table.ports before after
    run_fell = fell_next faults runs d (grant_in o.table.flows new.granted) ports before before after (none_fell faults runs ports before long) sent_here

  -- ---- answer by answer

  module _ (most : ℕ) (h : MayDrive hall most old) (long : hall.setting.opening.table.ports ≤ length before) (again : MayRun hall new) where
    pub ran_served : (slot slots count : ℕ) → IsRan faults runs hall.setting.opening most old new before after slot slots count →
        AreServed faults runs {S = Bool} hall old new before after (Ok true)
    ran_served slot slots count x =
        served (Ok true) refl again x.run.seen x.wires.as_many (run_sent most x.drive x.run h.may long x.wires) (run_fell most x.drive x.run h.may long x.wires)

    pub fault_served : (port units : ℕ) → IsFaulted faults runs hall.setting.opening most old new before after port units →
        AreServed faults runs {S = Bool} hall old new before after (Err (WireFault port))
    fault_served port units x = record {
      may = again;
      seen = x.run.seen;
      as_many = x.wires.as_many;
      sent = run_sent most x.drive x.run h.may long x.wires;
      none_fell = run_fell most x.drive x.run h.may long x.wires;
      fault = λ p e. subst (HasFailed faults runs hall new before after) (ap port_of e) (record {
        in_range = omega (arith, x.in_range, h.may.ports);
        rose = x.rose;
        cut = cut_at o most old new x.drive port x.flow units old.ports x.run x.granted h.whole x.units_is x.short x.least;
      });
    }

    pub nothing_served : IsAnswered hall.setting.opening most old new NothingLeft → after ≡ before → AreServed faults runs {S = Bool} hall old new before after (Ok false)
    nothing_served x same = served_none (Ok false) refl again x.turn.seen long (nothing_leaves_slots o most old new x).wire same

    pub full_served : (count : ℕ) → IsFullAt hall.setting.opening most old new count → after ≡ before → AreServed faults runs {S = Bool} hall old new before after (Err Full)
    full_served count x same = served_none (Err Full) refl again x.turn.seen long (others_leave_slots o old.driver.journal new.driver.journal x.turn.seen x.turn.others).wire same

pub full_met : (hall : HallModel) (most count : ℕ) (old new : RunnerModel) → IsFullAt hall.setting.opening most old new count → HasMetFull hall old.driver new.driver
full_met hall most count old new x = record {
  limit = omega (arith, x.turn.limit, x.turn.position);
  others = x.turn.others;
  made = x.place.made;
}

-- ---- beside a round

pub goes_on : (hall : HallModel) (most : ℕ) (old new : RunnerModel) (answer : Result Bool Stop) → IsOpening hall most old new answer → GoesOn hall most true old new answer
goes_on hall most old new (Ok true) h =
    let (d, run, whole) = h in
    let o = hall.setting.opening in
    (run.calls, run.place, run.seen, (λ round. run_driven o most round old new d run whole), whole_next o old.driver.journal new.driver.journal d run.goes_on whole)
goes_on hall most old new (Ok false) h =
    let o = hall.setting.opening in
    let still = whole_still o old.driver.journal new.driver.journal (nothing_leaves_slots o most old new h) in
    (h.calls, h.place, h.turn.seen, (λ round. nothing_driven o most round old new h), still)
goes_on hall most old new (Err Full) h = h
goes_on hall most old new (Err stop) h = tt

pub rests : (hall : HallModel) (most : ℕ) (old : RunnerModel) → MayDrive hall most old → GoesOn hall most false old old (Ok false)
rests hall most old h = (refl, record { gate = refl; setting = refl; rank = refl; made = refl }, h.seen, (λ round. none_driven most round old.driver), λ whole. whole)
