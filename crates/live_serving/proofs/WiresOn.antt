-- What the wires have, from step to step.
use Rattle.std.proofs.Common.{◌≡◌, ℕ, ◌≤◌, ⊎_elim, Bool, true, false, true≢false, List, [], length, refl, sym, ap, subst, ◌∙◌, arith, Option, Result, Err}
use Rattle.journal.specs.declared.command.Entry.{Entry}
use Rattle.journal.specs.Closed.{schedule_of, wire_of}
use Rattle.journal.specs.declared.opening.Opening.{Opening}
use Rattle.journal.proofs.ScheduleTimes.{times_is_sent}
use Rattle.journal.proofs.Sound.{legal_sound}
use Rattle.client_session.specs.Desk.{IsSeen}
use Rattle.client_session.specs.Models.{HallModel}
use Rattle.slot_runner.specs.Models.{MayRun, RunnerModel}
use Rattle.slot_runner.specs.Wires.{AreAllUnits}
use Rattle.slot_runner.proofs.WireSteps.{all_units, have_none, have_so}
use Rattle.live_serving.specs.declared.stop.Stop.{Stop}
use Rattle.live_serving.specs.declared.stop.Stop.TheVariants.{Full, NoMemory, WireFault}
use Rattle.live_serving.specs.Openings.{AreServed}
use Rattle.live_serving.specs.Playing.{IsStopFor, Settles, Told}
use Rattle.live_serving.specs.Wires.{HaveSent, HaveServed, HaveStopped}
use Rattle.live_serving.proofs.OpeningSteps.{is_wired, served, served_none, stop_in}

module _ {W : Type 0} (faults : W → ℕ) (runs : W → Option (List (ℕ × ℕ × ℕ))) (hall : HallModel) where
  -- before the first step
  pub served_first : {S : Type 0} (answer : Result S Stop) (runner : RunnerModel) (ws : List W) → is_wired answer ≡ false →
      MayRun hall runner → IsSeen hall.setting.opening runner.driver.journal →
      hall.setting.opening.table.ports ≤ length ws → AreServed faults runs hall runner runner ws ws answer
  served_first answer runner ws not_wired may seen long = served_none faults runs hall runner runner ws ws answer not_wired may seen long (λ port. refl) refl

  -- after one more
  pub served_on : {S T : Type 0} (one : Result S Stop) (other : Result T Stop) (old mid new : RunnerModel) (before between after : List W) →
      AreServed faults runs hall old mid before between one → AreServed faults runs hall mid new between after other → AreServed faults runs hall old new before after other
  served_on one other old mid new before between after h k = record {
    may = k.may;
    seen = k.seen;
    as_many = k.as_many ∙ h.as_many;
    sent = λ start x. k.sent start (h.sent start x);
    none_fell = λ port b a lt. omega (arith, h.none_fell port b b lt, k.none_fell port b a lt);
    fault = λ port e.
        let f = k.fault port e in record {
          in_range = f.in_range;
          rose = λ b a. omega (arith, h.none_fell port b b f.in_range, f.rose b a);
          cut = f.cut;
        };
  }

  -- where the driver alone has seen more
  pub served_still : {S T : Type 0} (one : Result S Stop) (other : Result T Stop) (old mid new : RunnerModel) (before after : List W) → is_wired other ≡ false →
      MayRun hall new → new.driver.journal ≡ mid.driver.journal → AreServed faults runs hall old mid before after one → AreServed faults runs hall old new before after other
  served_still one other old mid new before after not_wired may is h =
      served faults runs hall old new before after other not_wired may (subst (IsSeen hall.setting.opening) (sym is) h.seen) h.as_many
      (λ start x. subst (λ l. HaveSent runs hall.setting.opening l start after) (sym is) (h.sent start x)) h.none_fell

  -- the same of a step that stopped
  pub served_err : {S T : Type 0} (stop : Stop) (old new : RunnerModel) (before after : List W) → AreServed faults runs {S = S} hall old new before after (Err stop) →
      AreServed faults runs {S = T} hall old new before after (Err stop)
  served_err stop old new before after h = record {
    may = h.may;
    seen = h.seen;
    as_many = h.as_many;
    sent = h.sent;
    none_fell = h.none_fell;
    fault = λ port e. h.fault port (ap (λ s. Err s) (ap stop_in e));
  }

  -- where the clients stopped, or the driver did
  pub served_stop : {S : Type 0} (told : Told) (opened : Result Bool Stop) (stop : Stop) (old new : RunnerModel) (before after : List W) → Settles (told, opened) (Err stop) →
      AreServed faults runs hall old new before after opened → AreServed faults runs {S = S} hall old new before after (Err stop)
  served_stop told opened stop old new before after settles h = record {
    may = h.may;
    seen = h.seen;
    as_many = h.as_many;
    sent = h.sent;
    none_fell = h.none_fell;
    fault = λ port e. ⊎_elim
        (λ same. h.fault port (same ∙ ap (λ s. Err s) (ap stop_in e)))
        (λ (some, is, for'). absurd (not_wire stop told for' (ap stop_in e))) settles;
  }
    where
      wired : Stop → Bool
      wired (WireFault port) = true
      wired s = false

      not_wire : (s : Stop) (told : Told) {port : ℕ} → IsStopFor s told → s ≡ WireFault port → ⊥
      not_wire Full told for' e = true≢false (sym (ap wired e))
      not_wire NoMemory told for' e = true≢false (sym (ap wired e))
      not_wire (WireFault p) told for' e = for'

-- ---- the whole call

module _ {W : Type 0} (faults : W → ℕ) (runs : W → Option (List (ℕ × ℕ × ℕ))) (hall : HallModel) {S : Type 0} (answer : Result S Stop)
    (old new : RunnerModel) (before after : List W)
    (empty : old.driver.journal ≡ []) (long : hall.setting.opening.table.ports ≤ length before) (h : AreServed faults runs hall old new before after answer) where
  abbrev o : Opening
  o = hall.setting.opening

  abbrev j : List Entry
  j = new.driver.journal

  pub all_sent : HaveSent runs hall.setting.opening new.driver.journal before after
  all_sent =
      h.sent before (have_so faults runs (λ port s. s ≡ []) (λ port s. s ≡ wire_of o old.driver.journal port) o.table.ports before before
      (λ port s e. e ∙ sym (ap (λ l. wire_of o l port) empty)) (have_none faults runs o.table.ports before long))

  pub all_served : HaveServed runs hall.setting.opening before after
  all_served = record {
    journal = j;
    legal = h.seen.legal;
    within = λ f. omega (arith, times_is_sent o j f h.seen.legal h.seen.in_range, (legal_sound o j h.seen.legal h.seen.in_range).within f);
    units = have_so faults runs (λ port s. s ≡ wire_of o j port) (AreAllUnits o.table.flows (schedule_of o j)) o.table.ports before after
        (λ port s e. subst (AreAllUnits o.table.flows (schedule_of o j) port) (sym e) (all_units o j port h.seen.legal h.seen.in_range)) all_sent;
  }

  pub all_stopped : (port : ℕ) → answer ≡ Err (WireFault port) → HaveStopped runs hall.setting.opening port before after
  all_stopped port is = record { journal = j; legal = h.seen.legal; cut = (h.fault port is).cut; sent = all_sent }
