-- A run of `live` that a crew served, and the wires that no port has.
use Rattle.std.proofs.Common.{◌≡◌, ℕ, ◌<◌, ◌≤◌, ◌∙◌, List, [], ◌++◌, drop, length, take, sym, ap, subst, arith, Option, Result, Ok, Err, get_or, length-append}
use Rattle.std.specs.Prelude.{IfOk, IsOk}
use Rattle.std.proofs.lemmas.List.{get_or_append_left, get_or-append_right}
use Rattle.outside.specs.Rose.{Rose}
use Rattle.journal.specs.declared.opening.Opening.{Opening}
use Rattle.workload.specs.declared.script.Script.{Script}
use Rattle.client_session.specs.Models.{DriverModel, HallModel, SessionModel}
use Rattle.slot_runner.specs.Crews.{CrewModel}
use Rattle.slot_runner.specs.Models.{MayRun}
use Rattle.slot_runner.specs.Wires.{HaveMore}
use Rattle.slot_runner.proofs.FarWires.{more_whole, rose_whole}
use Rattle.live_rounds.specs.declared.answer.PullDone.{PullDone}
use Rattle.live_serving.specs.declared.answer.LiveFault.{LiveFault}
use Rattle.live_serving.specs.declared.answer.Served.{Served}
use Rattle.live_serving.specs.declared.stop.Stop.{Stop}
use Rattle.live_serving.specs.declared.stop.Stop.TheVariants.{WireFault}
use Rattle.live_serving.specs.Beside.{IsRunServed}
use Rattle.live_serving.specs.Going.{IsEnded}
use Rattle.live_serving.specs.Served.{IsServed, IsTold}
use Rattle.live_serving.specs.Wires.{HaveServed, HaveStopped}
use Rattle.live_serving.proofs.Whole.{whole_fault, whole_least, whole_served, whole_wires}

module _ {W : Type 0} where
  -- The wires as they were given and as they come back are those of the ports, and then those that no port has.
  module _ (faults : W → ℕ) (runs : W → Option (List (ℕ × ℕ × ℕ))) (hall : HallModel) (o : Opening) (is : hall.setting.opening ≡ o) (script : Script) (most : ℕ)
      (answer : Result (Unit {0}) Stop) (old new : CrewModel W) (news : List SessionModel) (pulls : List PullDone) (far before after : List W)
      (empty : old.runner.driver.journal ≡ []) (may : MayRun hall old.runner) (as_many : length old.wires ≡ old.runner.ports)
      (before_is : old.wires ++ far ≡ before) (after_is : after ≡ new.wires ++ far) (s : IsRunServed faults runs hall script most old new news pulls answer) where
    long : length old.wires ≡ o.table.ports
    long = as_many ∙ may.ports ∙ ap (λ (x : Opening). x.table.ports) is

    many : length new.wires ≡ o.table.ports
    many = s.wires.as_many ∙ long

    room : o.table.ports ≤ length old.wires
    room = omega (arith, long)

    given : (P : List W → List W → Type 0) → P (old.wires ++ far) (new.wires ++ far) → P before after
    given P p = subst (λ (z : List W × List W). P z.0 z.1) (λ i. (before_is i, sym after_is i)) p

    pub camp_wires : HaveServed runs o before after
    camp_wires = let h = whole_wires faults runs hall o is answer old.runner new.runner old.wires new.wires empty room s.wires in
        given (HaveServed runs o) (record {
          journal = h.journal;
          legal = h.legal;
          within = h.within;
          units = more_whole runs _ o.table.ports old.wires new.wires far long h.units;
        })

    pub camp_least : (port : ℕ) → answer ≡ Err (WireFault port) → HaveStopped runs o port before after
    camp_least port e = let h = whole_least faults runs hall o is answer old.runner new.runner old.wires new.wires empty room s.wires port e in
        given (HaveStopped runs o port) (record {
          journal = h.journal;
          legal = h.legal;
          cut = h.cut;
          sent = more_whole runs _ o.table.ports old.wires new.wires far long h.sent;
        })

    pub camp_fault : (port : ℕ) → answer ≡ Err (WireFault port) →
        (port < o.table.ports) × ((b a : W) → Rose (faults (get_or before port b)) (faults (get_or after port a)))
    camp_fault port e =
        let f = whole_fault faults runs hall o is answer old.runner new.runner old.wires new.wires empty room s.wires port e in
        let low = f.0 in (
          f.0,
          given (λ x y. (b a : W) → Rose (faults (get_or x port b)) (faults (get_or y port a)))
              (rose_whole faults old.wires new.wires far port (omega (arith, low, long)) (omega (arith, low, many)) f.1),
        )

    pub camp_served : (n : ℕ) (olds : List SessionModel) → n ≡ length olds → length olds ≡ script.clients → (last : DriverModel) → last ≡ new.runner.driver →
        (result : Result Served LiveFault) → IfOk result (λ s. IsOk answer) →
        IfOk result (λ s. IsEnded hall script most last (take n (news ++ drop (length news) olds)) pulls → IsTold hall.setting.opening script most s.master.journal
        last.journal s.pulls) →
        IfOk result (λ s. IsServed runs o script most s.master.journal s.pulls before after)
    camp_served n olds each clients last same result ok told =
        lifted result (whole_served faults runs hall o is answer old.runner new.runner old.wires new.wires empty room s.wires script most n news olds pulls each clients s.done
        last same result ok told)
      where
        lifted : (result : Result Served LiveFault) → IfOk result (λ s. IsServed runs o script most s.master.journal s.pulls old.wires new.wires) →
            IfOk result (λ s. IsServed runs o script most s.master.journal s.pulls before after)
        lifted (Ok s) h = given (IsServed runs o script most s.master.journal s.pulls) (record {
          sent = h.sent;
          course = h.course;
          carried = h.carried;
          pulls = h.pulls;
          wires = more_whole runs _ o.table.ports old.wires new.wires far long h.wires;
        })
        lifted (Err f) h = tt
