-- What holds while one action is carried out after another.
use Rattle.std.proofs.Common.{◌≡◌, ℕ, ◌+◌, ◌-◌, ◌≤◌, ◌<◌, List, [], length, refl, sym, ap, subst, ◌∙◌, arith, Option}
use Rattle.coflow_units.specs.declared.limits.TheConstants.{MAX_SLOT}
use Rattle.epochs.specs.declared.action.Action.{Action}
use Rattle.epochs.specs.declared.action.Action.TheVariants.{End, TooMany}
use Rattle.epochs.specs.Course.{after, Course}
use Rattle.journal.specs.Closed.{schedule_of, wire_of}
use Rattle.client_session.specs.Models.{HallModel}
use Rattle.slot_runner.specs.Crews.{CrewModel}
use Rattle.slot_runner.specs.Models.{RunnerModel}
use Rattle.slot_runner.specs.Wires.{NoneFell}
use Rattle.slot_runner.specs.Wires.{AreAllUnits, AreUnits, HaveMore}
use Rattle.slot_runner.proofs.WireSteps.{all_units, are_units, have_so, none_fell}
use Rattle.online_runs.specs.Deeds.{PublishesTooMany}
use Rattle.online_runs.proofs.Standing.{few_slots}
use Rattle.online_runs.specs.declared.progress.Progress.{Progress}
use Rattle.hall_online.specs.Beside.{KeepsAllElse, StaysAt}
use Rattle.hall_online.specs.Serving.{ComesFirst, EndsAs, HaveSent, HaveServed, IsDoneFrom, IsUnderWay, MayDo, SendsNothing}
use Rattle.hall_online.proofs.Actions.{first_there, now_holds, short_journal}
use Rattle.hall_online.proofs.Begins.{none_sent}
use Rattle.hall_online.proofs.Besides.{stays_at, stays_beside, stays_on}
use Rattle.hall_online.proofs.RunSteps.{owed_length}

-- ---- one look at the run

pub time_fits : (hall : HallModel) (r : RunnerModel) (arrivals : List ℕ) (every : ℕ) (s : Course) (p : Progress) → IsUnderWay hall r arrivals every s p → p.time ≤ MAX_SLOT + 1
time_fits hall r arrivals every s p h =
    let o = hall.setting.opening in
    omega (arith, h.tells.time_is, few_slots o s r.driver.journal (now_holds hall r arrivals every s p h).stands)

pub owed_each : (hall : HallModel) (r : RunnerModel) (arrivals : List ℕ) (every : ℕ) (s : Course) (p : Progress) → IsUnderWay hall r arrivals every s p →
    length p.owed.items ≡ length s.arrivals
owed_each hall r arrivals every s p h =
    omega (arith, owed_length hall.setting.opening s r.driver.journal p h.tells, (now_holds hall r arrivals every s p h).stands.given.each_arrival)

pub ends_so : (hall : HallModel) (r : RunnerModel) (arrivals : List ℕ) (every : ℕ) (s : Course) (p : Progress) → IsUnderWay hall r arrivals every s p → ComesFirst s p End →
    EndsAs hall.setting.opening arrivals every p
ends_so hall r arrivals every s p h first = record {
  journal = r.driver.journal;
  run = record { deeds = h.deeds; so_far = h.so_far; journal_is = h.journal_is; ends = first_there hall r arrivals every s p h End first };
  epochs_are = h.tells.epochs_are;
  schedule_is = h.tells.schedule_is;
}

pub too_many : (hall : HallModel) (r : RunnerModel) (arrivals : List ℕ) (every : ℕ) (s : Course) (p : Progress) (count : ℕ) → IsUnderWay hall r arrivals every s p →
    ComesFirst s p (TooMany count) → PublishesTooMany hall.setting.opening arrivals every count
too_many hall r arrivals every s p count h first =
    record { deeds = h.deeds; so_far = h.so_far; next = first_there hall r arrivals every s p h (TooMany count) first }

module _ {W : Type 0} (faults : W → ℕ) (wruns : W → Option (List (ℕ × ℕ × ℕ))) where
  -- what is served so far stands on the wires
  pub served_so : (hall : HallModel) (r : RunnerModel) (arrivals : List ℕ) (every : ℕ) (s : Course) (p : Progress) (before now : List W) → IsUnderWay hall r arrivals every s p →
      HaveSent wruns hall r before now → HaveServed wruns hall.setting.opening arrivals every before now
  served_so hall r arrivals every s p before now h had =
      let o = hall.setting.opening in
      let j = r.driver.journal in
      let st = (now_holds hall r arrivals every s p h).stands in
      record {
        slots = schedule_of o j;
        served = record { deeds = h.deeds; so_far = h.so_far; slots_are = ap (schedule_of o) h.journal_is };
        units = have_so faults wruns (λ port x. x ≡ wire_of o j port) (AreUnits o.table.flows (schedule_of o j)) o.table.ports before now
            (λ port x e. subst (AreUnits o.table.flows (schedule_of o j) port) (sym e)
            (are_units o j (schedule_of o j) port st.journal.legal st.journal.in_range (λ k f is. is))) had;
      }

  pub all_sent : (hall : HallModel) (r : RunnerModel) (arrivals : List ℕ) (every : ℕ) (s : Course) (p : Progress) (before now : List W) → IsUnderWay hall r arrivals every s p →
      HaveSent wruns hall r before now → HaveMore wruns (AreAllUnits hall.setting.opening.table.flows p.schedule) hall.setting.opening.table.ports before now
  all_sent hall r arrivals every s p before now h had =
      let o = hall.setting.opening in
      let j = r.driver.journal in
      let st = (now_holds hall r arrivals every s p h).stands in
      have_so faults wruns (λ port x. x ≡ wire_of o j port) (AreAllUnits o.table.flows p.schedule) o.table.ports before now
      (λ port x e.
      subst (λ l. AreAllUnits o.table.flows l port x) (sym h.tells.schedule_is)
      (subst (AreAllUnits o.table.flows (schedule_of o j) port) (sym e) (all_units o j port st.journal.legal st.journal.in_range))) had

  pub sends_on : (hall : HallModel) (r t : RunnerModel) (before now : List W) → SendsNothing hall r t → HaveSent wruns hall r before now → HaveSent wruns hall t before now
  sends_on hall r t before now same had =
      have_so faults wruns (λ port x. x ≡ wire_of hall.setting.opening r.driver.journal port) (λ port x. x ≡ wire_of hall.setting.opening t.driver.journal port)
      hall.setting.opening.table.ports before now (λ port x e. e ∙ sym (same port)) had

  -- ---- from action to action

  -- since the first crew, course and progress an online run has gone on to these
  pub record StillServing (hall : HallModel) (c0 c : CrewModel W) (s0 s : Course) (p0 p : Progress) : Type 0 where
    pub some : (arrivals : List ℕ) × (every : ℕ) × IsUnderWay hall c.runner arrivals every s p
    pub goes_on : (arrivals : List ℕ) (every : ℕ) → IsUnderWay hall c0.runner arrivals every s0 p0 → IsUnderWay hall c.runner arrivals every s p
    pub sent : HaveSent wruns hall c.runner c0.wires c.wires
    pub fell : NoneFell faults hall.setting.opening.table.ports c0.wires c.wires
    pub stays : StaysAt c0 c

  pub serving_first : (hall : HallModel) (c : CrewModel W) (s : Course) (p : Progress) → (arrivals : List ℕ) × (every : ℕ) × IsUnderWay hall c.runner arrivals every s p →
      c.runner.driver.journal ≡ [] → hall.setting.opening.table.ports ≤ length c.wires → StillServing hall c c s s p p
  serving_first hall c s p some none long = record {
    some = some;
    goes_on = λ arrivals every h. h;
    sent = none_sent faults wruns hall c.runner c.wires none long;
    fell = none_fell faults wruns hall.setting.opening.table.ports c.wires long;
    stays = stays_at c c refl refl refl;
  }

  -- one action more
  pub serving_on : (hall : HallModel) (c0 c d : CrewModel W) (s0 s s' : Course) (p0 p q : Progress) (a : Action) → StillServing hall c0 c s0 s p0 p → ComesFirst s p a →
      s' ≡ after s p.time a → IsDoneFrom hall c.runner d.runner p q a → (HaveSent wruns hall c.runner c0.wires c.wires → HaveSent wruns hall d.runner c0.wires d.wires) →
      NoneFell faults hall.setting.opening.table.ports c.wires d.wires → StaysAt c d → StillServing hall c0 d s0 s' p0 q
  serving_on hall c0 c d s0 s s' p0 p q a h first is done sent fell stays = record {
    some = (h.some.0, h.some.1, subst (λ x. IsUnderWay hall d.runner h.some.0 h.some.1 x q) (sym is) (done h.some.0 h.some.1 s h.some.2 first));
    goes_on = λ arrivals every x. subst (λ y. IsUnderWay hall d.runner arrivals every y q) (sym is) (done arrivals every s (h.goes_on arrivals every x) first);
    sent = sent h.sent;
    fell = λ port b a lt. omega (arith, h.fell port b b lt, fell port b a lt);
    stays = stays_on c0 c d h.stays stays;
  }

  -- one action more in which nothing is sent, by the driver alone
  pub serving_quiet : (hall : HallModel) (c0 c d : CrewModel W) (s0 s s' : Course) (p0 p q : Progress) (a : Action) → hall.setting.opening.table.ports ≤ length c0.wires →
      StillServing hall c0 c s0 s p0 p → ComesFirst s p a → s' ≡ after s p.time a → IsDoneFrom hall c.runner d.runner p q a → SendsNothing hall c.runner d.runner →
      KeepsAllElse c d → StillServing hall c0 d s0 s' p0 q
  serving_quiet hall c0 c d s0 s s' p0 p q a long h first is done quiet keeps =
      let same : d.wires ≡ c.wires = ap (λ (x : CrewModel W). x.wires) keeps in
      serving_on hall c0 c d s0 s s' p0 p q a h first is done
      (λ had. subst (HaveSent wruns hall d.runner c0.wires) (sym same) (sends_on hall c.runner d.runner c0.wires c.wires quiet had))
      (subst (NoneFell faults hall.setting.opening.table.ports c.wires) (sym same)
      (none_fell faults wruns hall.setting.opening.table.ports c.wires (omega (arith, long, h.sent.as_many)))) (stays_beside c d keeps)

  pub may_do : (hall : HallModel) (c0 c : CrewModel W) (s0 s : Course) (p0 p : Progress) (a : Action) → StillServing hall c0 c s0 s p0 p → ComesFirst s p a →
      MayDo hall c.runner p a
  may_do hall c0 c s0 s p0 p a h first = (h.some.0, h.some.1, s, h.some.2, first)

  -- the journal has room for more entries than it has
  pub falls : (hall : HallModel) (c0 c d : CrewModel W) (s0 s : Course) (p0 p : Progress) → StillServing hall c0 c s0 s p0 p →
      length c.runner.driver.journal < length d.runner.driver.journal →
      hall.setting.opening.limit - length d.runner.driver.journal < hall.setting.opening.limit - length c.runner.driver.journal
  falls hall c0 c d s0 s p0 p h longer = omega (arith, longer, short_journal hall c.runner h.some.0 h.some.1 s p h.some.2)
