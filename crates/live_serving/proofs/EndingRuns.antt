-- The runs after the last round, and the end.
use Rattle.std.proofs.Common.{◌≡◌, ℕ, ◌-◌, ◌<◌, inl, ⊎_elim, List, [], ◌∷◌, ◌++◌, length, map, flat_map, take, refl, sym, ap, subst, ◌∙◌, arith}
use Rattle.std.specs.Prelude.{Contains}
use Rattle.std.specs.List.{range_with_len}
use Rattle.std.proofs.lemmas.List.{take_all}
use Rattle.std.proofs.lemmas.List.Elements.{All-contains, Contains-append_right}
use Rattle.coflow_units.proofs.Sums.{in_first}
use Rattle.journal.specs.declared.command.Reply.TheVariants.{NothingLeft}
use Rattle.journal.specs.declared.opening.Opening.{Opening}
use Rattle.journal.specs.Closed.{closed_runs, IsClosedRun, wire_of}
use Rattle.journal.specs.Driven.{Drive, IsSentWhole}
use Rattle.journal.specs.Fold.{state_of}
use Rattle.journal.specs.State.{IsOpening, slot_end}
use Rattle.journal.proofs.RunsInOrder.{closed_sound}
use Rattle.journal.proofs.Sound.{legal_sound}
use Rattle.live_text.specs.declared.value.PullLine.{PullLine}
use Rattle.workload.specs.declared.script.Script.{Script}
use Rattle.master_core.specs.Master.{MasterFacts}
use Rattle.client_session.specs.Closes.{HasEnded, IsClosed}
use Rattle.client_session.specs.Models.{DriverModel, HallModel, SessionModel}
use Rattle.slot_runner.specs.Models.{MayRun, RunnerModel}
use Rattle.slot_runner.specs.Slots.{HasRun, IsAnswered}
use Rattle.live_model.specs.Script.{limit_of, lines_of}
use Rattle.live_rounds.proofs.DriversTold.{others_open_none}
use Rattle.live_rounds.specs.declared.answer.PullDone.{PullDone}
use Rattle.live_serving.specs.Ends.{IsCarriedOut, IsRunningOut, MayBeAsked, pull_line}
use Rattle.live_serving.specs.Followed.{pulls_for}
use Rattle.live_serving.specs.Rounds.{AreRoundsDone}
use Rattle.live_serving.proofs.ClosedTold.{all_there, carries_out}
use Rattle.live_serving.proofs.Counted.{has_room}
use Rattle.live_serving.proofs.RunningOut.{first_out, nothing_out, run_out}
use Rattle.live_serving.specs.Going.{AreSeated, IsEnded, IsEnding, IsFilled, IsGoing}
use Rattle.live_serving.specs.Openings.{HasMetFull}
use Rattle.live_serving.specs.Served.{IsTold}
use Rattle.live_serving.proofs.FewEntries.{all_short, few_found, few_spells, found_append, none_found, none_within, same_few}
use Rattle.live_serving.proofs.SentWhole.{whole_next}

-- ---- all rounds are done

pub all_done : (hall : HallModel) (script : Script) (most n : ℕ) (runner : RunnerModel) (sessions : List SessionModel) (pulls : List PullDone) →
    IsGoing hall script most n runner sessions pulls → n ≡ length script.rounds → IsEnding hall script most runner sessions pulls
all_done hall script most n runner sessions pulls h is =
    let whole : take n script.rounds ≡ script.rounds = take_all n script.rounds (omega (arith, is)) in
    record {
      hall_is = h.hall_is;
      seated = h.seated;
      drives = h.drives;
      running = first_out most (length (lines_of script)) script.rounds runner.driver sessions pulls
          (subst (λ l. AreRoundsDone most (length (lines_of script)) l runner.driver sessions pulls) whole h.done);
      coflows = h.coflows;
    }

module _ (hall : HallModel) (script : Script) (most : ℕ) (old new : RunnerModel) (sessions : List SessionModel) (pulls : List PullDone)
    (h : IsEnding hall script most old sessions pulls) where
  abbrev o : Opening
  o = hall.setting.opening

  abbrev calls : ℕ
  calls = length (lines_of script)

  seated_still : MayRun hall new → new.driver.made ≡ old.driver.made → AreSeated hall script new.driver sessions
  seated_still may made = record { driver_of = may.driver; own = h.seated.own; each = h.seated.each; made = made ∙ h.seated.made }

  -- one run more
  module _ (d : Drive) (run : HasRun hall.setting.opening most d old new) (whole : IsSentWhole hall.setting.opening old.driver.journal d) (may : MayRun hall new) where
    running : IsRunningOut most calls script.rounds new.driver sessions pulls
    running = run_out o most calls script.rounds old new d sessions pulls h.running run whole

    pub ending_on : IsEnding hall script most new sessions pulls
    ending_on = record {
      hall_is = h.hall_is;
      seated = seated_still may run.place.made;
      drives = record {
        may = may;
        seen = run.seen;
        calls = omega (arith, run.calls, h.drives.calls);
        spells = running.done.spells ++ running.later;
        openings = running.opened.openings running.done.spells running.done.openings;
        whole = whole_next o old.driver.journal new.driver.journal d run.goes_on whole h.drives.whole;
      };
      running = running;
      coflows = h.coflows;
    }

    -- the slots before the last one are fewer
    pub slots_fall : slot_end - (state_of hall.setting.opening new.driver.journal).next < slot_end - (state_of hall.setting.opening old.driver.journal).next
    slots_fall =
        let (r, open', closed, first, slots, grants, credits) = run.goes_on.closed in
        let j = new.driver.journal in
        let sound = closed_sound o j run.seen.legal run.seen.in_range in
        let in' : Contains (closed_runs o j) r = subst (λ l. Contains l r) (sym closed) (Contains-append_right (closed_runs o old.driver.journal) (r ∷ []) r (in_first r [])) in
        let some = (All-contains (IsClosedRun o.table.flows (state_of o j).next) (closed_runs o j) r sound.each in').some in
        omega (arith, run.goes_on.next, slots, some, (legal_sound o j run.seen.legal run.seen.in_range).next_ends)

  -- nothing is left
  pub ends : MayRun hall new → IsAnswered hall.setting.opening most old new NothingLeft → IsEnded hall script most new.driver sessions pulls
  ends may x = record {
    hall_is = h.hall_is;
    seated = seated_still may x.place.made;
    out = nothing_out o most calls script.rounds old new sessions pulls h.running x;
    coflows = h.coflows;
  }

  -- there was no room
  pub ending_filled : MayRun hall new → HasMetFull hall old.driver new.driver → IsFilled hall script most new.driver sessions
  ending_filled may full =
      let done = h.running.done in
      let spells = done.spells ++ h.running.later in record {
        hall_is = h.hall_is;
        seated = seated_still may full.made;
        few = all_short script done.levels script.rounds [] calls 1 sessions sessions done.told (none_within script)
            done.clients (same_few 1 sessions) (omega (arith, h.seated.each));
        spells = spells;
        openings = others_open_none most old.driver.journal new.driver.journal spells full.others (h.running.opened.openings done.spells done.openings);
        none = omega (
          arith,
          found_append done.spells h.running.later,
          few_found done.spells,
          few_spells script.rounds done.spells done.slot_rounds_are,
          none_found h.running.later h.running.runs,
        );
        full = inl full.limit;
      }

-- ---- the closed hall

-- a hall that closes had room
pub never_filled : (hall : HallModel) (script : Script) (most : ℕ) (driver : DriverModel) (sessions : List SessionModel) (master : MasterFacts) →
    IsFilled hall script most driver sessions → IsClosed hall driver sessions master → ⊥
never_filled hall script most driver sessions master h c =
    let limit = ap (λ (x : Opening). x.limit) c.opening in
    let few = has_room script most hall driver sessions h.spells master (subst (λ (x : Opening). x.limit ≡ limit_of x script) (sym c.opening) h.hall_is.limit) h.seated.each h.few
    h.openings h.none c in
    ⊎_elim (λ low. omega (arith, low, limit, few, c.position))
    (λ (k, s, lt, at, low). omega (
      arith,
      low,
      limit,
      few,
      (All-contains (HasEnded master.opening master.journal) sessions s c.ended (k, lt, at)).position,
    )) h.full

module _ (hall : HallModel) (script : Script) (most : ℕ) (driver : DriverModel) (sessions : List SessionModel) (pulls : List PullDone) (master : MasterFacts)
    (h : IsEnded hall script most driver sessions pulls) (c : IsClosed hall driver sessions master) (ok : IsOpening hall.setting.opening) (lines : List PullLine)
    (lines_are : lines ≡ flat_map (λ k. map (pull_line hall.setting.opening.table.ids) (pulls_for k pulls)) (range_with_len 1 script.clients)) where
  carried : IsCarriedOut hall.setting.opening script most master.journal (wire_of hall.setting.opening master.journal) pulls
  carried =
      subst (λ (x : Opening). IsCarriedOut x script most master.journal (wire_of x master.journal) pulls) c.opening
      (carries_out script most (length (lines_of script)) hall driver sessions pulls master (wire_of master.opening master.journal) (subst IsOpening (sym c.opening) ok)
      (subst (λ (x : Opening). x.limit ≡ limit_of x script) (sym c.opening) h.hall_is.limit) (subst (λ x. MayBeAsked x script) (sym c.opening) h.hall_is.asked) h.seated.each
      h.out c (λ port. refl))

  pub told_end : IsTold hall.setting.opening script most master.journal driver.journal lines
  told_end = record {
    all_seen = all_there script most (length (lines_of script)) hall driver sessions pulls master h.out c;
    course = carried.course;
    carried = carried.carried;
    pulls = lines_are ∙ ap (λ f. flat_map f (range_with_len 1 script.clients)) (λ i k. carried.told k i);
  }
