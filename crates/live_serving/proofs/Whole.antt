-- The whole call, from its parts.
use Rattle.std.proofs.Common.{◌≡◌, ℕ, ◌<◌, ◌≤◌, true≢false, List, [], ◌++◌, drop, get_or, length, sym, ap, subst, ◌∙◌, arith, take, Option, Result, Ok, Err}
use Rattle.std.specs.Prelude.{IfOk, IsOk, OnOk}
use Rattle.coflow_units.proofs.Fronts.{written_back}
use Rattle.outside.specs.Rose.{Rose}
use Rattle.journal.specs.declared.command.Entry.{Entry}
use Rattle.journal.specs.declared.opening.Opening.{Opening}
use Rattle.journal.specs.Closed.{schedule_of, wire_of}
use Rattle.journal.proofs.ScheduleTimes.{times_is_sent}
use Rattle.journal.proofs.Sound.{legal_sound}
use Rattle.workload.specs.declared.script.Script.{Script}
use Rattle.client_session.specs.Models.{DriverModel, HallModel, SessionModel}
use Rattle.slot_runner.specs.Models.{RunnerModel}
use Rattle.live_rounds.specs.declared.answer.PullDone.{PullDone}
use Rattle.live_text.specs.declared.value.PullLine.{PullLine}
use Rattle.slot_runner.specs.Wires.{AreAllUnits, HaveMore}
use Rattle.slot_runner.proofs.WireSteps.{all_units, have_none, have_so}
use Rattle.live_serving.specs.declared.answer.Served.{Served}
use Rattle.live_serving.specs.declared.answer.LiveFault.{LiveFault}
use Rattle.live_serving.specs.declared.stop.Stop.{Stop}
use Rattle.live_serving.specs.declared.stop.Stop.TheVariants.{WireFault}
use Rattle.live_serving.specs.Going.{IsEnded, IsFilled}
use Rattle.live_serving.specs.Openings.{AreServed}
use Rattle.live_serving.specs.Served.{IsServed, IsTold}
use Rattle.live_serving.specs.Wires.{HaveServed, HaveStopped}
use Rattle.client_session.proofs.Agreement.{nothing_seen}
use Rattle.live_serving.proofs.WiresOn.{all_sent, all_served, all_stopped}

-- ---- sessions that are written back

back : (n : ℕ) (news olds : List SessionModel) → n ≡ length olds → length news ≡ length olds → take n (news ++ drop (length news) olds) ≡ news
back n news olds is many = written_back n news olds (omega (arith, is, many))

on_ok : {S E P Q : Type 0} (r : Result S E) → (P → Q) → OnOk r P → OnOk r Q
on_ok (Ok x) f h = f h
on_ok (Err e) f h = tt

pub ended_again : {S E : Type 0} (r : Result S E) (hall : HallModel) (script : Script) (most n : ℕ) (driver last : DriverModel) (news olds : List SessionModel)
    (pulls : List PullDone) →
    last ≡ driver → n ≡ length olds → length olds ≡ script.clients → OnOk r (IsEnded hall script most driver news pulls) →
    OnOk r ((m : ℕ) × IsEnded hall script m last (take n (news ++ drop (length news) olds)) pulls)
ended_again r hall script most n driver last news olds pulls same is each h =
    on_ok r (λ x. (
      most,
      subst (λ (z : DriverModel × List SessionModel). IsEnded hall script most z.0 z.1 pulls)
          (λ i. (sym same i, sym (back n news olds is (x.seated.each ∙ sym each)) i)) x,
    )) h

pub filled_again : (hall : HallModel) (script : Script) (most n : ℕ) (driver last : DriverModel) (news olds : List SessionModel) → last ≡ driver → n ≡ length olds →
    length olds ≡ script.clients → IsFilled hall script most driver news → (m : ℕ) × IsFilled hall script m last (take n (news ++ drop (length news) olds))
filled_again hall script most n driver last news olds same is each x =
    (most, subst (λ (z : DriverModel × List SessionModel). IsFilled hall script most z.0 z.1) (λ i. (sym same i, sym (back n news olds is (x.seated.each ∙ sym each)) i)) x)

-- ---- the wires

module _ {W : Type 0} (faults : W → ℕ) (runs : W → Option (List (ℕ × ℕ × ℕ))) where
  -- where there is no memory to begin
  pub none_served : (o : Opening) (ws : List W) → o.table.ports ≤ length ws → HaveServed runs o ws ws
  none_served o ws long =
      let seen = nothing_seen o in record {
        journal = [];
        legal = seen.legal;
        within = λ f. omega (arith, times_is_sent o [] f seen.legal seen.in_range, (legal_sound o [] seen.legal seen.in_range).within f);
        units = have_so faults runs (λ port s. s ≡ []) (AreAllUnits o.table.flows (schedule_of o [])) o.table.ports ws ws
            (λ port s e. subst (AreAllUnits o.table.flows (schedule_of o []) port) (sym e) (all_units o [] port seen.legal seen.in_range))
            (have_none faults runs o.table.ports ws long);
      }

  module _ (hall : HallModel) (o : Opening) (is : hall.setting.opening ≡ o) {S : Type 0} (answer : Result S Stop) (old new : RunnerModel) (before after : List W)
      (empty : old.driver.journal ≡ []) (long : o.table.ports ≤ length before) (h : AreServed faults runs hall old new before after answer) where
    long_here : hall.setting.opening.table.ports ≤ length before
    long_here = omega (arith, long, ap (λ (x : Opening). x.table.ports) is)

    pub whole_wires : HaveServed runs o before after
    whole_wires = subst (λ x. HaveServed runs x before after) is (all_served faults runs hall answer old new before after empty long_here h)

    pub whole_least : (port : ℕ) → answer ≡ Err (WireFault port) → HaveStopped runs o port before after
    whole_least port e = subst (λ x. HaveStopped runs x port before after) is (all_stopped faults runs hall answer old new before after empty long_here h port e)

    pub whole_fault : (port : ℕ) → answer ≡ Err (WireFault port) →
        (port < o.table.ports) × ((b a : W) → Rose (faults (get_or before port b)) (faults (get_or after port a)))
    whole_fault port e =
        let f = h.fault port e in
        let low = f.in_range in
        (omega (arith, low, ap (λ (x : Opening). x.table.ports) is), f.rose)

    -- ---- the run

    module _ (script : Script) (most n : ℕ) (news olds : List SessionModel) (pulls : List PullDone) (many : n ≡ length olds) (each : length olds ≡ script.clients)
        (ended : OnOk answer (IsEnded hall script most new.driver news pulls)) where
      told_is : (journal : List Entry) (lines : List PullLine) → IsTold hall.setting.opening script most journal new.driver.journal lines →
          IsServed runs o script most journal lines before after
      told_is journal lines t =
          subst (λ x. IsServed runs x script most journal lines before after) is (record {
            sent = wire_of hall.setting.opening journal;
            course = t.course;
            carried = t.carried;
            pulls = t.pulls;
            wires = subst (λ l. HaveMore runs (λ port more. more ≡ wire_of hall.setting.opening l port) hall.setting.opening.table.ports before after) (sym t.all_seen)
                (all_sent faults runs hall answer old new before after empty long_here h);
          })

      has_ended : (r : Result S Stop) → IsOk r → OnOk r (IsEnded hall script most new.driver news pulls) → IsEnded hall script most new.driver news pulls
      has_ended (Ok x) ok e = e
      has_ended (Err s) ok e = absurd (true≢false (sym ok))

      pub whole_served : (last : DriverModel) → last ≡ new.driver → (result : Result Served LiveFault) → IfOk result (λ s. IsOk answer) →
          IfOk result (λ s. IsEnded hall script most last (take n (news ++ drop (length news) olds)) pulls →
          IsTold hall.setting.opening script most s.master.journal last.journal s.pulls) →
          IfOk result (λ s. IsServed runs o script most s.master.journal s.pulls before after)
      whole_served last same (Ok s) ok told =
          let e = has_ended answer ok ended in
          told_is s.master.journal s.pulls (subst (λ (d : DriverModel). IsTold hall.setting.opening script most s.master.journal d.journal s.pulls) same
          (told (subst (λ (z : DriverModel × List SessionModel). IsEnded hall script most z.0 z.1 pulls)
          (λ i. (sym same i, sym (back n news olds many (e.seated.each ∙ sym each)) i)) e)))
      whole_served last same (Err f) ok told = tt
