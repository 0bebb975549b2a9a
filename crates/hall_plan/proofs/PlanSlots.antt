-- What a slot of the runner comes to in a plan: a driver that is alone goes on by whole runs, until nothing is left.
use Rattle.std.proofs.Common.{Some, ◌≡◌, ℕ, ◌+◌, ◌-◌, ◌≤◌, ◌<◌, inl, inr, Bool, true, false, true≢false}
use Rattle.std.proofs.Common.{List, [], ◌∷◌, ◌++◌, Option, length, refl, replicate, sym, ap, subst, ◌∙◌, arith}
use Rattle.std.specs.Prelude.{All, Contains, flat_map}
use Rattle.std.specs.List.{slice_index_or}
use Rattle.std.specs.List.Sorted.{IsStrictlyIncreasing}
use Rattle.std.proofs.lemmas.List.{length-append, length-replicate}
use Rattle.std.proofs.lemmas.List.Elements.{All-contains, Contains-append_right}
use Rattle.coflow_units.specs.declared.limits.TheConstants.{MAX_SLOT, MAX_UNITS}
use Rattle.coflow_units.specs.Served.{IsServed}
use Rattle.coflow_units.proofs.Sums.{in_first}
use Rattle.outside.specs.Rose.{Rose}
use Rattle.journal.specs.declared.command.Command.{Command}
use Rattle.journal.specs.declared.command.Command.TheVariants.{Open}
use Rattle.journal.specs.declared.command.Entry.{Entry}
use Rattle.journal.specs.declared.command.Reply.{Reply}
use Rattle.journal.specs.declared.command.Reply.TheVariants.{Late, NothingLeft, Opened}
use Rattle.journal.specs.declared.opening.Opening.{Opening}
use Rattle.journal.specs.State.{IsOpening, owed, Run, slot_end}
use Rattle.journal.specs.Closed.{closed_runs, IsClosedRun, schedule_of, sent_at, wire_of}
use Rattle.journal.specs.Driven.{closed_in, closing, Drive, driven, driven_run, IsDriven, IsSentWhole, opened_in, opening}
use Rattle.journal.specs.Fold.{state_of}
use Rattle.journal.specs.Journal.{entry, IsLegal, line_of}
use Rattle.journal.specs.Runs.{grant_in}
use Rattle.journal.specs.Sound.{InRange}
use Rattle.journal.proofs.Along.{all_front}
use Rattle.journal.proofs.Counting.{closings_are}
use Rattle.journal.proofs.Driving.{driven_even}
use Rattle.journal.proofs.EntryTells.{entry_tells}
use Rattle.journal.proofs.OwnEntries.{own_close, own_whole}
use Rattle.journal.proofs.RunsInOrder.{closed_sound}
use Rattle.journal.proofs.Schedules.{schedule_length}
use Rattle.client_session.specs.Desk.{IsSeen}
use Rattle.client_session.specs.Models.{HallModel}
use Rattle.slot_runner.specs.Models.{MayRun, RunnerModel}
use Rattle.slot_runner.specs.Slots.{AreSent, HasRun, IsAnswered, IsFaulted, IsFullAt, IsRan}
use Rattle.hall_plan.proofs.FirstShort.{stops}
use Rattle.hall_plan.proofs.NobodyElse.{all_back, all_own, no_others, Own, shape}
use Rattle.coflow_units.proofs.ServedLaws.{grants_clear}
use Rattle.coflow_units.specs.Schedule.{IsClear}
use Rattle.slot_runner.specs.Cuts.{AllSentWhole, HaveStopped}
use Rattle.hall_plan.specs.Journals.{IsPlanBegun}
use Rattle.hall_plan.specs.Halls.{IsServedBy, MayPlan}
use Rattle.slot_runner.specs.Wires.{NoneFell}
use Rattle.hall_plan.specs.Journals.{plan_journal, plan_order, run_entries}
use Rattle.hall_plan.specs.Plans.{IsPlanned}
use Rattle.slot_runner.specs.Wires.{IsPartOf}
use Rattle.slot_runner.specs.Wires.{AreAllUnits, AreUnits, HaveMore, StopsAt}
use Rattle.hall_plan.proofs.Begun.{planned_serves}
use Rattle.slot_runner.proofs.CutRuns.{cut_at, whole_unnoted}
use Rattle.hall_plan.proofs.PlanEntries.{closings_are_runs, no_notes}
use Rattle.hall_plan.proofs.PlanParts.{IsNextRun, next_is_part, runs_are_parts}
use Rattle.hall_plan.proofs.PlanRuns.{few_entries, few_slots, nothing_yet, serves_all, split}
use Rattle.hall_plan.proofs.PlanTurns.{added, not_stopped}
use Rattle.slot_runner.proofs.WireSteps.{all_units, are_units, fell_next, have_next, have_none, have_so, none_fell}

-- ---- one run of a driver that is alone

module _ (hall : HallModel) (old new : RunnerModel) (runs : List (ℕ × ℕ × ℕ)) (d : Drive) (h : MayPlan hall old runs) (run : HasRun hall.setting.opening MAX_SLOT d old new) where
  abbrev o : Opening
  o = hall.setting.opening

  abbrev j : List Entry
  j = old.driver.journal

  is_plan : j ≡ plan_journal o runs
  is_plan = h.alone.journal_is

  own : All Own new.driver.journal
  own k e lt = let le = run.numbers k e lt in let made = run.place.made in omega (arith, le, made, h.alone.made)

  own_all : All Own (closed_in j d ++ closing d ∷ [])
  own_all = subst (All Own) run.journal.goes_on own

  own_opened : All Own (opened_in j d)
  own_opened =
      all_front Own (opened_in j d) (opening d ∷ [])
      (all_front Own (opened_in j d ++ opening d ∷ []) d.between (all_front Own (closed_in j d) (closing d ∷ []) own_all))

  pub none_earlier : d.earlier ≡ []
  none_earlier = no_others d.earlier (all_back Own j d.earlier own_opened) run.journal.under_way.earlier

  own_before : All Own j
  own_before = all_front Own j d.earlier own_opened

  pub is_driven : IsDriven o (plan_journal o runs) new.driver.journal d
  is_driven = subst (λ l. IsDriven o l new.driver.journal d) is_plan run.journal

  -- what was sent is part of the served schedule
  pub run_part : (slots : List (List ℕ)) → IsServed o.table.flows (plan_order o) slots → IsPartOf (schedule_of o new.driver.journal) slots
  run_part slots served = next_is_part o runs new.driver.journal d slots h.alone.opening run.seen.legal run.seen.in_range is_driven none_earlier served

  module _ (whole : IsSentWhole o old.driver.journal d) where
    abbrev told : ℕ × ℕ × ℕ
    told = (d.first, d.slots, d.count)

    none_between : d.between ≡ []
    none_between =
        sym (all_own d.between (all_back Own (opened_in j d ++ opening d ∷ []) d.between (all_front Own (closed_in j d) (closing d ∷ []) own_all))) ∙
        own_whole o j new.driver.journal d run.journal whole

    one_run : new.driver.journal ≡ j ++ run_entries told
    one_run =
        run.journal.goes_on ∙ shape j d.earlier d.between (opening d) (closing d) none_earlier none_between ∙
        ap (λ m. j ++ (entry 0 (Open m) (Opened d.first d.slots d.count) ∷ closing d ∷ [])) run.asked ∙
        ap (λ e. j ++ (entry 0 (Open MAX_SLOT) (Opened d.first d.slots d.count) ∷ e ∷ [])) (own_close o j new.driver.journal d run.seen.legal run.journal)

    one_more : new.driver.journal ≡ plan_journal o (runs ++ told ∷ [])
    one_more = one_run ∙ ap (λ l. l ++ run_entries told) is_plan ∙ sym (split o runs (told ∷ []))

    pub goes_on : MayRun hall new → MayPlan hall new (runs ++ told ∷ [])
    goes_on may = record {
      may = may;
      alone = record {
        driver_of = may.driver;
        made = run.place.made ∙ h.alone.made;
        journal_is = one_more;
        seen = subst (λ l. IsSeen o l) one_more run.seen;
        opening = h.alone.opening;
        room = h.alone.room;
        calls = omega (
          arith,
          h.alone.calls,
          run.calls,
          ap (λ (l : List Entry). length l) (all_own new.driver.journal own),
          ap (λ (l : List Entry). length l) (all_own j own_before),
          ap (λ (l : List Entry). length l) is_plan,
          ap (λ (l : List Entry). length l) one_run,
          ap (λ (l : List Entry). length l) one_more,
          length-append j (run_entries told),
        );
      };
    }

    pub adds_slots : schedule_of o new.driver.journal ≡ schedule_of o old.driver.journal ++ replicate d.slots new.granted
    adds_slots =
        run.goes_on.schedule ∙ ap (λ l. schedule_of o j ++ l) (driven_even o j d whole) ∙ ap (λ l. schedule_of o j ++ replicate d.slots l) (sym run.granted)

    pub rises : IsStrictlyIncreasing new.granted
    rises = subst IsStrictlyIncreasing (sym run.granted) run.goes_on.grants.ascending

    pub has_slots : 1 ≤ d.slots
    has_slots =
        let (r, open', closed, first, slots, flows, credits) = run.goes_on.closed in
        let sound = closed_sound o new.driver.journal run.seen.legal run.seen.in_range in
        let in' : Contains (closed_runs o new.driver.journal) r = subst (λ l. Contains l r) (sym closed) (Contains-append_right (closed_runs o j) (r ∷ []) r (in_first r [])) in
        omega (arith, slots, (All-contains (IsClosedRun o.table.flows (state_of o new.driver.journal).next) (closed_runs o new.driver.journal) r sound.each in').some)

    legal_more : IsLegal o (plan_journal o (runs ++ told ∷ []))
    legal_more = subst (IsLegal o) one_more run.seen.legal

    pub ends_in_time : (state_of o new.driver.journal).next ≤ MAX_UNITS + 1
    ends_in_time = omega (arith, ap (λ l. (state_of o l).next) one_more, few_slots o (runs ++ told ∷ []) h.alone.opening legal_more)

    pub fits : length (schedule_of o old.driver.journal) + d.slots ≤ MAX_SLOT
    fits =
        omega (
          arith,
          schedule_length o new.driver.journal run.seen.legal run.seen.in_range,
          ends_in_time,
          ap (λ (l : List (List ℕ)). length l) adds_slots,
          length-append (schedule_of o j) (replicate d.slots new.granted),
          length-replicate d.slots new.granted,
        )

-- ---- the answers

module _ {W : Type 0} {faults : W → ℕ} {wruns : W → Option (List (ℕ × ℕ × ℕ))} {hall : HallModel} {old : RunnerModel} {schedule : List (List ℕ)} {before mid : List W}
    (h : IsServedBy faults wruns hall old schedule before mid) where
  abbrev o' : Opening
  o' = hall.setting.opening

  -- before the first run, and after each answer without one
  pub no_run_parts : (slots : List (List ℕ)) → IsServed o'.table.flows (plan_order o') slots → HaveMore wruns (AreUnits o'.table.flows slots) o'.table.ports before mid
  no_run_parts slots served =
      let is = h.may.alone.journal_is in
      let seen = h.may.alone.seen in
      let legal = seen.legal in
      let part = subst (λ l. IsPartOf (schedule_of o' l) slots) (sym is) (runs_are_parts o' h.made slots h.may.alone.opening legal served) in
      have_so faults wruns (λ port s. s ≡ wire_of o' old.driver.journal port) (AreUnits o'.table.flows slots) o'.table.ports before mid
      (λ port s e. subst (AreUnits o'.table.flows slots port) (sym e)
      (are_units o' old.driver.journal slots port (subst (IsLegal o') (sym is) legal) (subst (InRange o') (sym is) seen.in_range) part)) h.wires

  module _ (new : RunnerModel) (after : List W) (d : Drive) (run : HasRun hall.setting.opening MAX_SLOT d old new)
      (sent : AreSent faults wruns d (grant_in hall.setting.opening.table.flows new.granted) old.ports mid after) where
    sent_here : AreSent faults wruns d (grant_in o'.table.flows new.granted) o'.table.ports mid after
    sent_here = subst (λ p. AreSent faults wruns d (grant_in o'.table.flows new.granted) p mid after) h.may.may.ports sent

    wires_now : HaveMore wruns (λ port s. s ≡ wire_of o' new.driver.journal port) o'.table.ports before after
    wires_now =
        have_next faults wruns (wire_of o' old.driver.journal) (wire_of o' new.driver.journal) d (grant_in o'.table.flows new.granted) o'.table.ports before mid after
        (λ port. subst (λ g. wire_of o' new.driver.journal port ≡ wire_of o' old.driver.journal port ++ driven_run d port (grant_in o'.table.flows g port))
        (sym run.granted) (run.goes_on.wire port))
        h.wires sent_here

    pub faults_now : NoneFell faults o'.table.ports before after
    faults_now = fell_next faults wruns d (grant_in o'.table.flows new.granted) o'.table.ports before mid after h.none_fell sent_here

    pub run_parts : (slots : List (List ℕ)) → IsServed o'.table.flows (plan_order o') slots → HaveMore wruns (AreUnits o'.table.flows slots) o'.table.ports before after
    run_parts slots served =
        have_so faults wruns (λ port s. s ≡ wire_of o' new.driver.journal port) (AreUnits o'.table.flows slots) o'.table.ports before after
        (λ port s e. subst (AreUnits o'.table.flows slots port) (sym e)
        (are_units o' new.driver.journal slots port run.seen.legal run.seen.in_range (run_part hall old new h.made d h.may run slots served))) wires_now

    pub served_on : IsSentWhole o' old.driver.journal d → MayRun hall new → IsServedBy faults wruns hall new (schedule ++ replicate d.slots new.granted) before after
    served_on whole may = record {
      made = h.made ++ (d.first, d.slots, d.count) ∷ [];
      may = goes_on hall old new h.made d h.may run whole may;
      schedule_is = ap (λ l. l ++ replicate d.slots new.granted) h.schedule_is ∙ sym (adds_slots hall old new h.made d h.may run whole);
      wires = wires_now;
      none_fell = faults_now;
    }

    pub falls : IsSentWhole o' old.driver.journal d → slot_end - (state_of o' new.driver.journal).next < slot_end - (state_of o' old.driver.journal).next
    falls whole =
        omega (
          arith,
          run.goes_on.next,
          has_slots hall old new h.made d h.may run whole,
          ends_in_time hall old new h.made d h.may run whole,
        )

  -- ---- a run that was sent whole

  module _ (new : RunnerModel) (after : List W) (slot slots count : ℕ) (x : IsRan faults wruns hall.setting.opening MAX_SLOT old new mid after slot slots count) where
    pub ran_some : 1 ≤ slots
    ran_some = omega (arith, has_slots hall old new h.made x.drive h.may x.run x.whole, x.slots_is)

    pub ran_rises : IsStrictlyIncreasing new.granted
    ran_rises = rises hall old new h.made x.drive h.may x.run x.whole

    pub ran_fits : length schedule + slots ≤ MAX_SLOT
    ran_fits = omega (arith, fits hall old new h.made x.drive h.may x.run x.whole, x.slots_is, ap (λ (l : List (List ℕ)). length l) h.schedule_is)

    pub ran_parts : (whole : List (List ℕ)) → IsServed o'.table.flows (plan_order o') whole → HaveMore wruns (AreUnits o'.table.flows whole) o'.table.ports before after
    ran_parts = run_parts new after x.drive x.run x.wires

    pub ran_falls : slot_end - (state_of o' new.driver.journal).next < slot_end - (state_of o' old.driver.journal).next
    ran_falls = falls new after x.drive x.run x.wires x.whole

    pub ran_on : (granted : List ℕ) (now : List (List ℕ)) → MayRun hall new → granted ≡ new.granted → now ≡ schedule ++ replicate slots granted →
        IsServedBy faults wruns hall new now before after
    ran_on granted now may is pushed =
        subst (λ l. IsServedBy faults wruns hall new l before after)
        (sym (pushed ∙ ap (λ n. schedule ++ replicate n granted) (sym x.slots_is) ∙ ap (λ l. schedule ++ replicate x.drive.slots l) is))
        (served_on new after x.drive x.run x.wires x.whole may)

  -- ---- the end, and the answers that never come

  abbrev last : List Entry
  last = plan_journal o' h.made

  legal_last : IsLegal o' last
  legal_last = h.may.alone.seen.legal

  answered_so : (new : RunnerModel) (reply : Reply) → IsAnswered o' MAX_SLOT old new reply → IsLegal o' (last ++ entry 0 (Open MAX_SLOT) reply ∷ [])
  answered_so new reply x =
      subst (λ r. IsLegal o' (last ++ entry 0 (Open MAX_SLOT) r ∷ [])) x.reply_is
      (added hall (Open MAX_SLOT) old.driver new.driver last x.receipt h.may.alone x.place x.turn).seen.legal

  pub ends_served : (new : RunnerModel) → IsAnswered o' MAX_SLOT old new NothingLeft → IsServed o'.table.flows (plan_order o') schedule
  ends_served new x =
      subst (IsServed o'.table.flows (plan_order o')) (sym (h.schedule_is ∙ ap (schedule_of o') h.may.alone.journal_is))
      (serves_all o' h.made MAX_SLOT h.may.alone.opening (answered_so new NothingLeft x))

  pub sends_all : HaveMore wruns (AreAllUnits o'.table.flows schedule) o'.table.ports before mid
  sends_all =
      let is = h.may.alone.journal_is in
      let seen = h.may.alone.seen in
      have_so faults wruns (λ port s. s ≡ wire_of o' old.driver.journal port) (AreAllUnits o'.table.flows schedule) o'.table.ports before mid
      (λ port s e. subst (λ l. AreAllUnits o'.table.flows l port s) (sym h.schedule_is)
      (subst (AreAllUnits o'.table.flows (schedule_of o' old.driver.journal) port) (sym e)
      (all_units o' old.driver.journal port (subst (IsLegal o') (sym is) seen.legal) (subst (InRange o') (sym is) seen.in_range)))) h.wires

  abbrev opens : Command → Bool
  opens (Open most) = true
  opens k = false

  pub never_late : (new : RunnerModel) (slot : ℕ) → IsAnswered o' MAX_SLOT old new (Late slot) → ⊥
  never_late new slot x =
      let tells = entry_tells o' last [] (entry 0 (Open MAX_SLOT) (Late slot)) (answered_so new (Late slot) x) in
      elim tells.1 [
        | inl (most, is, at, end, some) ↦ omega (arith, end, few_slots o' h.made h.may.alone.opening legal_last)
        | inr (is, low, none) ↦ absurd (true≢false (ap opens is))
      ]

  pub never_full : (new : RunnerModel) (count : ℕ) → IsFullAt o' MAX_SLOT old new count → ⊥
  never_full new count x =
      not_stopped hall (Open MAX_SLOT) old.driver new.driver last count h.may.alone (omega (arith, few_entries o' h.made h.may.alone.opening legal_last, h.may.alone.room)) x.turn

  pub never_spent : old.driver.left < old.ports + 2 → ⊥
  never_spent low =
      let table = h.may.alone.opening.table in
      omega (
        arith,
        low,
        h.may.alone.calls,
        few_entries o' h.made h.may.alone.opening legal_last,
        table.few_coflows,
        table.few_flows,
        table.few_ports,
        h.may.may.ports,
      )

  -- ---- a wire fault

  pub rose_since : (new : RunnerModel) (after : List W) (port units : ℕ) → IsFaulted faults wruns o' MAX_SLOT old new mid after port units →
      (port < o'.table.ports) × ((b a : W) → Rose (faults (slice_index_or before port b)) (faults (slice_index_or after port a)))
  rose_since new after port units x =
      let low : port < o'.table.ports = omega (arith, x.in_range, h.may.may.ports) in
      (low, λ b a. omega (arith, x.rose b a, h.none_fell port b b low))

  pub stops_first : (new : RunnerModel) (after : List W) (port units : ℕ) → IsFaulted faults wruns o' MAX_SLOT old new mid after port units → (slots : List (List ℕ)) →
      IsServed o'.table.flows (plan_order o') slots → (end : ℕ) × HaveMore wruns (StopsAt o'.table.flows slots port end) o'.table.ports before after
  stops_first new after port units x slots served =
      let d = x.drive in
      let gs = driven o' old.driver.journal d in
      let g = x.run.granted in
      let driven_is = is_driven hall old new h.made d h.may x.run in
      let next : IsNextRun o' h.made new.driver.journal d = record {
        opening = h.may.alone.opening;
        legal = x.run.seen.legal;
        in_range = x.run.seen.in_range;
        driven_is = driven_is;
        alone = none_earlier hall old new h.made d h.may x.run;
      } in
      let same : driven o' old.driver.journal d ≡ driven o' last d = ap (λ l. driven o' l d) h.may.alone.journal_is in
      let is : new.granted ≡ driven o' last d = g ∙ same in
      let opened = opened_in old.driver.journal d in
      let clear = subst (IsClear o'.table.flows) same (grants_clear o'.table.flows (line_of o' opened) (owed o' (state_of o' opened)) gs x.run.goes_on.grants) in
      let granted = subst (λ l. grant_in o'.table.flows l port ≡ Some x.flow) is x.granted in
      let stops' = stops o' h.made new.driver.journal d next slots served clear port x.flow units granted x.units_is
      x.short (λ p f lt at. x.least p f lt (subst (λ l. grant_in o'.table.flows l p ≡ Some f) (sym is) at)) in (
        d.first + units,
        have_so faults wruns (λ p s. s ≡ wire_of o' new.driver.journal p) (StopsAt o'.table.flows slots port (d.first + units)) o'.table.ports before after
            (λ p s e. subst (StopsAt o'.table.flows slots port (d.first + units) p) (sym e) (stops' p)) (wires_now new after d x.run x.wires),
      )

  -- the runs before it were sent whole
  pub stops_there : (new : RunnerModel) (after : List W) (port units : ℕ) → IsFaulted faults wruns o' MAX_SLOT old new mid after port units →
      HaveStopped wruns (IsPlanBegun o') o' port before after
  stops_there new after port units x =
      let whole : AllSentWhole o' old.driver.journal = subst (AllSentWhole o') (sym h.may.alone.journal_is) (whole_unnoted o' last legal_last (no_notes o' h.made)) in
      record {
        begun = last;
        drive = x.drive;
        begins = ((h.made, refl), x.run.asked);
        journal = new.driver.journal;
        goes_on = is_driven hall old new h.made x.drive h.may x.run;
        alone = none_earlier hall old new h.made x.drive h.may x.run;
        legal = x.run.seen.legal;
        cut = cut_at faults wruns o' MAX_SLOT old new mid after port units x whole;
        sent = wires_now new after x.drive x.run x.wires;
      }

-- ---- the start

no_runs : (l : List Run) → length l ≡ 0 → l ≡ []
no_runs [] e = refl
no_runs (r ∷ rs) e = absurd (omega (arith, e))

module _ {W : Type 0} (faults : W → ℕ) (wruns : W → Option (List (ℕ × ℕ × ℕ))) where
  pub starts : (hall : HallModel) (runner : RunnerModel) (ws : List W) → MayPlan hall runner [] → hall.setting.opening.table.ports ≤ length ws →
      IsServedBy faults wruns hall runner [] ws ws
  starts hall runner ws may long =
      let o = hall.setting.opening in
      let is = may.alone.journal_is in
      let none : closed_runs o (plan_journal o []) ≡ [] =
      no_runs (closed_runs o (plan_journal o [])) (sym (closings_are o (plan_journal o []) may.alone.seen.legal) ∙ closings_are_runs o []) in
      record {
        made = [];
        may = may;
        schedule_is = sym (ap (schedule_of o) is ∙ nothing_yet o);
        wires = have_so faults wruns (λ port s. s ≡ []) (λ port s. s ≡ wire_of o runner.driver.journal port) o.table.ports ws ws
            (λ port s e. e ∙ sym (ap (λ l. wire_of o l port) is ∙ ap (λ l. flat_map (sent_at o.table.flows port) l) none)) (have_none faults wruns o.table.ports ws long);
        none_fell = none_fell faults wruns o.table.ports ws long;
      }

-- ---- by the opening of the master

abbrev pub UnitsAre : {W : Type 0} → (W → Option (List (ℕ × ℕ × ℕ))) → List W → List W → Opening → List (List ℕ) → Type 0
UnitsAre wruns before after o slots = HaveMore wruns (AreUnits o.table.flows slots) o.table.ports before after

pub planned_so : (K : Opening → List (List ℕ) → Type 0) (o p : Opening) → o ≡ p → IsOpening o →
    ((slots : List (List ℕ)) → IsServed o.table.flows (plan_order o) slots → K o slots) → (slots : List (List ℕ)) → IsPlanned p.table p.weights slots → K p slots
planned_so K o p e ok h =
    subst (λ q. (slots : List (List ℕ)) → IsPlanned q.table q.weights slots → K q slots) e (λ slots planned. h slots (planned_serves o slots ok planned))

abbrev pub Stops : {W : Type 0} → (W → Option (List (ℕ × ℕ × ℕ))) → ℕ → List W → List W → Opening → List (List ℕ) → Type 0
Stops wruns port before after o slots = (end : ℕ) × HaveMore wruns (StopsAt o.table.flows slots port end) o.table.ports before after
