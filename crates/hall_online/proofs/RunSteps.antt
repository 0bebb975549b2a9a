-- What a run makes of an online run that is under way, and of the wires.
use Rattle.std.proofs.Common.{◌≡◌, ℕ, ◌+◌, ◌-◌, ◌≤◌, ◌<◌, inl, inr, Bool, true, false, true≢false, List, [], ◌∷◌, ◌++◌, get_or, length, refl, sym, ap, subst}
use Rattle.std.proofs.Common.{◌∙◌, arith, cond, append-nil, replicate, Option}
use Rattle.std.specs.Prelude.{All, Contains, if◌then◌else◌, slice_index, ◌==◌}
use Rattle.std.specs.List.{range_with_len, slice_index_or}
use Rattle.std.specs.List.Sorted.{IsStrictlyIncreasing}
use Rattle.std.proofs.lemmas.List.{ext_get_or, length-append}
use Rattle.std.proofs.lemmas.List.Elements.{All-contains, Contains-append_right, Contains-get_or}
use Rattle.std.proofs.lemmas.List.FromFn.{length-map-range_with_len}
use Rattle.coflow_units.specs.declared.limits.TheConstants.{MAX_SLOT}
use Rattle.coflow_units.specs.Flows.{coflow_of}
use Rattle.coflow_units.proofs.Lists.{number_below}
use Rattle.coflow_units.proofs.Sums.{in_first, sum_same}
use Rattle.epochs.specs.declared.action.Action.TheVariants.{Run as Serve}
use Rattle.epochs.specs.Choice.{IsFirstAction}
use Rattle.epochs.specs.Course.{after, Course, SomeOwes}
use Rattle.journal.specs.declared.command.Command.{Command}
use Rattle.journal.specs.declared.command.Command.TheVariants.{Open}
use Rattle.journal.specs.declared.command.Entry.{Entry}
use Rattle.journal.specs.declared.command.Reply.{Reply}
use Rattle.journal.specs.declared.command.Reply.TheVariants.{Late, NothingLeft}
use Rattle.journal.specs.declared.opening.Opening.{Opening}
use Rattle.journal.specs.Closed.{closed_runs, IsClosedRun, schedule_of, wire_of}
use Rattle.journal.specs.Driven.{Drive, driven, driven_run, GoesOnByRun, IsSentWhole}
use Rattle.journal.specs.Fold.{state_of}
use Rattle.journal.specs.Journal.{entry, IsLegal}
use Rattle.journal.specs.Runs.{grant_in}
use Rattle.journal.specs.State.{has, owed}
use Rattle.journal.proofs.EntryTells.{entry_tells}
use Rattle.journal.proofs.RunsInOrder.{closed_sound}
use Rattle.journal.proofs.ServingRuns.{as_long}
use Rattle.client_session.specs.Models.{HallModel}
use Rattle.slot_runner.specs.Models.{MayRun, RunnerModel}
use Rattle.slot_runner.specs.Slots.{AreSent, HasRun, IsAnswered, IsFaulted, IsFullAt, IsRan}
use Rattle.slot_runner.specs.Cuts.{HaveStopped}
use Rattle.slot_runner.specs.Wires.{NoneFell}
use Rattle.slot_runner.specs.Wires.{AreUnits}
use Rattle.slot_runner.proofs.CutRuns.{cut_at, whole_unnoted}
use Rattle.hall_plan.proofs.PlanTurns.{added, not_stopped}
use Rattle.slot_runner.proofs.WireSteps.{are_units, fell_next, have_next, have_so, none_fell}
use Rattle.online_runs.specs.Deeds.{coflow_owes, DoesNext, owed_after, time_of}
use Rattle.online_runs.proofs.Along.{Holds, no_run_epochs}
use Rattle.online_runs.proofs.Owed.{owes_at}
use Rattle.online_runs.proofs.Shapes.{drive_of, run_entries, run_is_driven}
use Rattle.online_runs.proofs.Standing.{few_slots, range_later, run_goes, runs_more, some_owing}
use Rattle.online_runs.proofs.Times.{run_schedule, run_time, time_is}
use Rattle.online_runs.specs.declared.progress.Progress.{Progress}
use Rattle.hall_online.specs.Serving.{ComesFirst, HaveSent, HaveServed, IsOnlineBegun, IsUnderWay}
use Rattle.online_runs.specs.Tells.{TellsRun}
use Rattle.epochs.specs.Tallies.{IsTallied, left_of}
use Rattle.hall_online.proofs.Actions.{first_here, first_there, goes_on, journal_now, now_holds, short_journal, so_far_now}
use Rattle.hall_online.proofs.OwnRuns.{granted_is, legal_whole, none_earlier, one_run, ready_after, sent_part}

-- ---- what is owed, coflow by coflow

-- where the flows have left what they owe, coflows have left what they owe
left_as_owed : (o : Opening) (j : List Entry) (left : List ℕ) → ((f : ℕ) → f < length o.table.flows → slice_index left f ≡ owed o (state_of o j) f) → (c : ℕ) →
    left_of o.table.flows left c ≡ coflow_owes o (state_of o j) c
left_as_owed o j left same c =
    sum_same (λ f. cond {A = ℕ} (coflow_of o.table.flows f == c) (slice_index left f) 0) (λ f. cond {A = ℕ} (coflow_of o.table.flows f == c) (owed o (state_of o j) f) 0)
    (range_with_len 0 (length o.table.flows))
    (λ f in'. ap {B = ℕ} (λ n. cond (coflow_of o.table.flows f == c) n 0) (same f (omega (arith, number_below 0 (length o.table.flows) f in'))))

pub is_tallied : (o : Opening) (s : Course) (j : List Entry) (p : Progress) → TellsRun o s j p → IsTallied o.table.flows p.left.items p.owed.items
is_tallied o s j p h = record {
  each_flow = h.each_left;
  each_coflow = λ c lt.
      let low : c < length o.table.ids = omega (arith, lt, each_owed o s j p h) in
      ap (λ l. slice_index l c) h.owed_is ∙ owes_at o j c low ∙ sym (left_as_owed o j p.left.items h.left_is c);
}
  where
    each_owed : (o : Opening) (s : Course) (j : List Entry) (p : Progress) → TellsRun o s j p → length p.owed.items ≡ length o.table.ids
    each_owed o s j p h = ap (λ (l : List ℕ). length l) h.owed_is ∙ length-map-range_with_len (coflow_owes o (state_of o j)) 0 (length o.table.ids)

pub owed_length : (o : Opening) (s : Course) (j : List Entry) (p : Progress) → TellsRun o s j p → length p.owed.items ≡ length o.table.ids
owed_length o s j p h = ap (λ (l : List ℕ). length l) h.owed_is ∙ length-map-range_with_len (coflow_owes o (state_of o j)) 0 (length o.table.ids)

pub tallied_owed : (o : Opening) (j : List Entry) (left owes : List ℕ) → length owes ≡ length o.table.ids → IsTallied o.table.flows left owes →
    ((f : ℕ) → f < length o.table.flows → slice_index left f ≡ owed o (state_of o j) f) → owes ≡ owed_after o j
tallied_owed o j left owes each t same =
    ext_get_or 0 owes (owed_after o j) (omega (arith, each, length-map-range_with_len (coflow_owes o (state_of o j)) 0 (length o.table.ids)))
    (λ c lt. let low : c < length o.table.ids = omega (arith, lt, each) in t.each_coflow c lt ∙ left_as_owed o j left same c ∙ sym (owes_at o j c low))

module _ (hall : HallModel) (old : RunnerModel) (arrivals : List ℕ) (every : ℕ) (s : Course) (p : Progress) (h : IsUnderWay hall old arrivals every s p) (most : ℕ)
    (first : ComesFirst s p (Serve most)) where
  abbrev o : Opening
  o = hall.setting.opening

  abbrev j : List Entry
  j = old.driver.journal

  held : Holds o s j
  held = now_holds hall old arrivals every s p h

  here : IsFirstAction s (time_of o j) (owed_after o j) (Serve most)
  here = first_here hall old arrivals every s p h (Serve most) first

  pub some : 1 ≤ most
  some = omega (arith, here.applies.stop.later)

  owes : SomeOwes s.registered s.withdrawn (owed_after o j)
  owes = here.applies.owing

  -- ---- the answers that never come

  answered_so : (new : RunnerModel) (reply : Reply) → IsAnswered o most old new reply → IsLegal o (j ++ entry 0 (Open most) reply ∷ [])
  answered_so new reply x =
      subst (λ r. IsLegal o (j ++ entry 0 (Open most) r ∷ [])) x.reply_is
      (added hall (Open most) old.driver new.driver j x.receipt h.ready.alone x.place x.turn).seen.legal

  pub never_nothing : (new : RunnerModel) → IsAnswered o most old new NothingLeft → ⊥
  never_nothing new x =
      let tells = entry_tells o j [] (entry 0 (Open most) NothingLeft) (answered_so new NothingLeft x) in
      omega (arith, tells.3, some_owing o s j held.stands owes)

  abbrev opens : Command → Bool
  opens (Open most) = true
  opens k = false

  pub never_late : (new : RunnerModel) (slot : ℕ) → IsAnswered o most old new (Late slot) → ⊥
  never_late new slot x =
      let tells = entry_tells o j [] (entry 0 (Open most) (Late slot)) (answered_so new (Late slot) x) in
      elim tells.1 [
        | inl (most, is, at, end, some) ↦ omega (arith, end, few_slots o s j held.stands)
        | inr (is, low, none) ↦ absurd (true≢false (ap opens is))
      ]

  pub never_full : (new : RunnerModel) (count : ℕ) → IsFullAt o most old new count → ⊥
  never_full new count x =
      not_stopped hall (Open most) old.driver new.driver j count h.ready.alone (omega (arith, short_journal hall old arrivals every s p h)) x.turn

  pub never_spent : old.driver.left < old.ports + 2 → ⊥
  never_spent low =
      omega (
        arith,
        low,
        h.ready.alone.calls,
        short_journal hall old arrivals every s p h,
        h.ready.alone.opening.few_entries,
        h.ready.alone.opening.table.few_ports,
        h.ready.may.ports,
      )

  -- ---- a run

  module _ (new : RunnerModel) (d : Drive) (run : HasRun o most d old new) where
    abbrev told : ℕ × ℕ × ℕ
    told = (d.first, d.slots, d.count)

    abbrev k : List Entry
    k = j ++ run_entries most told

    whole_legal : IsLegal o k
    whole_legal = legal_whole hall old new most d h.ready run

    goes : GoesOnByRun o j k (drive_of most told)
    goes = run_goes o s j held.stands most some told whole_legal

    pub granted_so : new.granted ≡ driven o j (drive_of most told)
    granted_so = granted_is hall old new most d h.ready run

    pub granted_rises : IsStrictlyIncreasing new.granted
    granted_rises = subst IsStrictlyIncreasing (sym granted_so) goes.grants.ascending

    pub granted_flows : All (λ f. f < length o.table.flows) new.granted
    granted_flows = subst (All (λ f. f < length o.table.flows)) (sym granted_so) goes.grants.flow

    pub has_slots : 1 ≤ d.slots
    has_slots =
        let (r, open', closed, at, slots, flows, credits) = goes.closed in
        let sound = closed_sound o k whole_legal (range_later o s j held.stands most some told whole_legal) in
        let in' : Contains (closed_runs o k) r = subst (λ l. Contains l r) (sym closed) (Contains-append_right (closed_runs o j) (r ∷ []) r (in_first r [])) in
        omega (arith, slots, (All-contains (IsClosedRun o.table.flows (state_of o k).next) (closed_runs o k) r sound.each in').some)

    pub fits : length p.schedule + d.slots ≤ MAX_SLOT
    fits =
        omega (
          arith,
          ap (λ (l : List (List ℕ)). length l) h.tells.schedule_is,
          time_is o s j held.stands,
          run_time o s j held.stands held.times most some told whole_legal,
          few_slots o s k (runs_more o s j held.stands most some told whole_legal),
        )

    owes_each : (f : ℕ) → Contains new.granted f → d.slots ≤ owed o (state_of o j) f
    owes_each f in' =
        let same : j ++ [] ≡ j = append-nil j in
        let x = as_long o j k (drive_of most told) whole_legal (run_is_driven o j most told) in
        subst (λ l. d.slots ≤ owed o (state_of o l) f) same (x.owed f (subst (λ l. Contains l f) granted_so in'))

    pub left_enough : All (λ f. d.slots ≤ slice_index p.left.items f) new.granted
    left_enough i e lt =
        let f = get_or new.granted i e in
        omega (arith, h.tells.left_is f (granted_flows i e lt), owes_each f (Contains-get_or new.granted i e lt))

    pub time_fits : p.time + d.slots ≤ MAX_SLOT
    time_fits =
        omega (
          arith,
          h.tells.time_is,
          run_time o s j held.stands held.times most some told whole_legal,
          few_slots o s k (runs_more o s j held.stands most some told whole_legal),
        )

    -- what was served so far, had it been sent whole
    module _ {W : Type 0} (faults : W → ℕ) (wruns : W → Option (List (ℕ × ℕ × ℕ))) (before mid after' : List W)
        (sent : AreSent faults wruns d (grant_in hall.setting.opening.table.flows new.granted) old.ports mid after') where
      sent_here : AreSent faults wruns d (grant_in o.table.flows new.granted) o.table.ports mid after'
      sent_here = subst (λ n. AreSent faults wruns d (grant_in o.table.flows new.granted) n mid after') h.ready.may.ports sent

      pub sent_more : HaveSent wruns hall old before mid → HaveSent wruns hall new before after'
      sent_more had =
          have_next faults wruns (wire_of o j) (wire_of o new.driver.journal) d (grant_in o.table.flows new.granted) o.table.ports before mid after'
          (λ port. subst (λ g. wire_of o new.driver.journal port ≡ wire_of o j port ++ driven_run d port (grant_in o.table.flows g port)) (sym run.granted)
          (run.goes_on.wire port)) had
          sent_here

      pub run_fell : o.table.ports ≤ length mid → NoneFell faults o.table.ports mid after'
      run_fell long = fell_next faults wruns d (grant_in o.table.flows new.granted) o.table.ports mid mid after' (none_fell faults wruns o.table.ports mid long) sent_here

      pub served_more : HaveSent wruns hall old before mid → HaveServed wruns o arrivals every before after'
      served_more had = record {
        slots = schedule_of o k;
        served = record {
          deeds = h.deeds ++ record { action = Serve most; entries = run_entries most told } ∷ [];
          so_far = so_far_now hall old arrivals every s p h (Serve most) first (run_entries most told) refl whole_legal;
          slots_are = ap (schedule_of o) (journal_now hall old arrivals every s p h (Serve most) first (run_entries most told) refl whole_legal);
        };
        units = have_so faults wruns (λ port x. x ≡ wire_of o new.driver.journal port) (AreUnits o.table.flows (schedule_of o k)) o.table.ports before after'
            (λ port x e.
            subst (AreUnits o.table.flows (schedule_of o k) port) (sym e)
            (are_units o new.driver.journal (schedule_of o k) port run.seen.legal run.seen.in_range (sent_part hall old new most d h.ready run some))) (sent_more had);
      }

    -- ---- a run that was sent whole

    pub longer_so : IsSentWhole hall.setting.opening old.driver.journal d → length j < length new.driver.journal
    longer_so whole = omega (arith, ap (λ (l : List Entry). length l) (one_run hall old new most d h.ready run whole), length-append j (run_entries most told))

    module _ (whole : IsSentWhole hall.setting.opening old.driver.journal d) (may : MayRun hall new) (q : Progress) (time : q.time ≡ p.time + d.slots)
        (tallied : IsTallied hall.setting.opening.table.flows q.left.items q.owed.items) (each : length q.owed.items ≡ length p.owed.items)
        (left : (f : ℕ) → slice_index q.left.items f ≡ slice_index p.left.items f - (if has new.granted f then d.slots else 0)) (present : q.present.items ≡ p.present.items)
        (epochs : q.epochs.items ≡ p.epochs.items) (schedule : q.schedule ≡ p.schedule ++ replicate d.slots new.granted) where
      left_now : (f : ℕ) → f < length o.table.flows → slice_index q.left.items f ≡ owed o (state_of o k) f
      left_now f lt =
          let spent : (if has new.granted f then d.slots else 0) ≡ (if has (driven o j (drive_of most told)) f then d.slots else 0) = ap {B = ℕ}
          (λ l. if has l f then d.slots else 0) granted_so in
          omega (arith, left f, h.tells.left_is f lt, goes.sent f, spent)

      tells_now : TellsRun o s k q
      tells_now = record {
        time_is = omega (arith, time, h.tells.time_is, run_time o s j held.stands held.times most some told whole_legal);
        each_left = tallied.each_flow;
        left_is = left_now;
        owed_is = tallied_owed o k q.left.items q.owed.items (each ∙ owed_length o s j p h.tells) tallied left_now;
        each_present = ap (λ (l : List Bool). length l) present ∙ h.tells.each_present;
        present_is = λ c. ap (λ l. slice_index_or l c false) present ∙ h.tells.present_is c;
        epochs_are = epochs ∙ h.tells.epochs_are ∙ sym (no_run_epochs o j most told);
        schedule_is = schedule ∙ ap (λ l. l ++ replicate d.slots new.granted) h.tells.schedule_is ∙ ap (λ g. schedule_of o j ++ replicate d.slots g) granted_so ∙
            sym (run_schedule o s j held.stands held.times most some told whole_legal);
      }

      pub ran_done : IsUnderWay hall new arrivals every (after s p.time (Serve most)) q
      ran_done =
          goes_on hall old arrivals every s p h (Serve most) first (run_entries most told) refl whole_legal new q (ready_after hall old new most d h.ready run whole may)
          (one_run hall old new most d h.ready run whole) tells_now

  -- ---- the answer of a run that was sent whole

  module _ {W : Type 0} (faults : W → ℕ) (wruns : W → Option (List (ℕ × ℕ × ℕ))) (new : RunnerModel) (mid after' : List W) (slot slots count : ℕ)
      (x : IsRan faults wruns hall.setting.opening most old new mid after' slot slots count) where
    pub ran_some : 1 ≤ slots
    ran_some = omega (arith, x.slots_is, has_slots new x.drive x.run)

    pub ran_fits : length p.schedule + slots ≤ MAX_SLOT
    ran_fits = omega (arith, x.slots_is, fits new x.drive x.run)

    pub ran_time : p.time + slots ≤ MAX_SLOT
    ran_time = omega (arith, x.slots_is, time_fits new x.drive x.run)

    pub ran_enough : All (λ f. slots ≤ slice_index p.left.items f) new.granted
    ran_enough i e lt = omega (arith, x.slots_is, left_enough new x.drive x.run i e lt)

    pub ran_on : (gs : List ℕ) → gs ≡ new.granted → MayRun hall new → (q : Progress) → q.time ≡ p.time + slots → IsTallied o.table.flows q.left.items q.owed.items →
        length q.owed.items ≡ length p.owed.items → ((f : ℕ) → slice_index q.left.items f ≡ slice_index p.left.items f - (if has gs f then slots else 0)) →
        q.present.items ≡ p.present.items → q.epochs.items ≡ p.epochs.items → q.schedule ≡ p.schedule ++ replicate slots gs → IsUnderWay hall new arrivals every
        (after s p.time (Serve most)) q
    ran_on gs is may q time tallied each left present epochs schedule =
        ran_done new x.drive x.run x.whole may q (omega (arith, time, x.slots_is)) tallied each
        (λ f.
        omega (
          arith,
          left f,
          ap {B = ℕ} (λ l. if has l f then slots else 0) is,
          ap {B = ℕ} (λ n. if has new.granted f then n else 0) x.slots_is,
        )) present epochs (schedule ∙ ap (λ l. p.schedule ++ replicate slots l) is ∙ ap (λ n. p.schedule ++ replicate n new.granted) (sym x.slots_is))

    pub ran_more : length j < length new.driver.journal
    ran_more = longer_so new x.drive x.run x.whole

  -- ---- a run that fell short: those before it were sent whole

  pub stops_there : {W : Type 0} (faults : W → ℕ) (wruns : W → Option (List (ℕ × ℕ × ℕ))) (new : RunnerModel) (before mid after' : List W) (port units : ℕ) →
      IsFaulted faults wruns hall.setting.opening most old new mid after' port units → HaveSent wruns hall old before mid →
      HaveStopped wruns (IsOnlineBegun hall.setting.opening arrivals every) hall.setting.opening port before after'
  stops_there faults wruns new before mid after' port units x had = record {
    begun = j;
    drive = x.drive;
    begins = (
      h.deeds,
      h.so_far,
      h.journal_is,
      subst (λ m. DoesNext o arrivals every h.deeds (Serve m)) (sym x.run.asked) (first_there hall old arrivals every s p h (Serve most) first),
    );
    journal = new.driver.journal;
    goes_on = x.run.journal;
    alone = none_earlier hall old new most x.drive h.ready x.run;
    legal = x.run.seen.legal;
    cut = cut_at faults wruns o most old new mid after' port units x (whole_unnoted o j held.stands.journal.legal held.stands.journal.no_notes);
    sent = sent_more new x.drive x.run faults wruns before mid after' x.wires had;
  }
