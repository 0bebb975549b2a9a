use Rattle.std.proofs.Common.{◌≡◌, ◌∙◌, ℕ, Result, Err, List, length, sym, subst, ap, arith}
use Rattle.epochs.specs.Choice.{IsFirstAction}
use Rattle.epochs.specs.Course.{after, Course}
use Rattle.epochs.specs.declared.action.Action.{Action}
use Rattle.epochs.specs.declared.action.Action.TheVariants.{Publish, Register, Run, Skip, TooMany, Withdraw}
use Rattle.online_runs.specs.declared.progress.Progress.{Progress}
use Rattle.hall_online.specs.declared.answer.OnlineFault.{OnlineFault}
use Rattle.hall_online.specs.declared.answer.OnlineFault.TheVariants.{TooMany as Many, WireFault}
use Rattle.slot_runner.specs.Crews.{CrewModel}
use Rattle.hall_online.specs.Serving.{ComesFirst, HaveServed}
use Rattle.hall_online.proofs.Besides.{site_stays, stays_beside, stays_on}
use Rattle.hall_online.proofs.HandedOn.{carried}
use Rattle.hall_online.proofs.ServeSteps.{all_sent, ends_so, falls, may_do, owed_each, served_so, serving_first, serving_on, serving_quiet, time_fits, too_many}
use Rattle.hall_online.proofs.serving.serve.Goals as goal

abbrev count_of : {S : Type 0} → Result S OnlineFault → ℕ
count_of (Err (Many count)) = count
count_of result = 0

comes : (s : Course) (p : Progress) (l : List ℕ) (r a : Action) → l ≡ p.owed.items → IsFirstAction s p.time l r → r ≡ a → ComesFirst s p a
comes s p l r a same h is = subst (ComesFirst s p) is (subst (λ x. IsFirstAction s p.time x r) same h)

pub actions-init : goal.actions-init
actions-init g c =
    record {
      serving = serving_first g.W.Wire.faults g.W.Wire.runs c.args.hall.now c.args.crew.now c.args.kept.now.course c.args.kept.now.progress c.requires.may.under_way
          c.requires.may.none
          c.requires.may.wires;
      places = c.requires.may.places;
      coflows = c.requires.may.coflows;
      ports = c.requires.may.ports;
    }

pub next-requires-clause-owed_len : goal.next-requires-clause-owed_len
next-requires-clause-owed_len g c =
    let (arrivals, every, h) = c.actions.invariant.serving.some in
    ap length c.deref.ensures.value ∙ owed_each c.args.hall.now c.actions.crew.runner arrivals every c.actions.kept.course c.actions.kept.progress h

pub next-requires-clause-time_fits : goal.next-requires-clause-time_fits
next-requires-clause-time_fits g c =
    let (arrivals, every, h) = c.actions.invariant.serving.some in
    time_fits c.args.hall.now c.actions.crew.runner arrivals every c.actions.kept.course c.actions.kept.progress h

pub act_join-requires : goal.act_join-requires
act_join-requires g c =
    let first = comes c.actions.kept.course c.actions.kept.progress c.deref.result.now c.next.result _ c.deref.ensures.value c.next.ensures.first c.in-Register.is in
    record {
      may = may_do g.W.Wire.faults g.W.Wire.runs c.args.hall.now c.args.crew.now c.actions.crew c.args.kept.now.course c.actions.kept.course c.args.kept.now.progress
          c.actions.kept.progress (Register c.in-Register.coflow) c.actions.invariant.serving first;
    }

pub actions-smaller-in-Register : goal.actions-smaller-in-Register
actions-smaller-in-Register g c =
    falls g.W.Wire.faults g.W.Wire.runs c.args.hall.now c.args.crew.now c.actions.crew c.act_join.new.crew c.args.kept.now.course c.actions.kept.course c.args.kept.now.progress
    c.actions.kept.progress c.actions.invariant.serving c.act_join.ensures.longer

pub actions-preserved-in-Register : goal.actions-preserved-in-Register
actions-preserved-in-Register g c =
    let first = comes c.actions.kept.course c.actions.kept.progress c.deref.result.now c.next.result _ c.deref.ensures.value c.next.ensures.first c.in-Register.is in
    record {
      serving = serving_quiet g.W.Wire.faults g.W.Wire.runs c.args.hall.now c.args.crew.now c.actions.crew c.act_join.new.crew c.args.kept.now.course c.actions.kept.course
          c.next.new.self c.args.kept.now.progress c.actions.kept.progress c.act_join.new.progress (Register c.in-Register.coflow) c.requires.may.wires
          c.actions.invariant.serving first (c.next.ensures.course ∙ ap (after c.actions.kept.course c.actions.kept.progress.time) c.in-Register.is) c.act_join.ensures.done
          c.act_join.ensures.sends c.act_join.ensures.keeps;
      places = c.actions.invariant.places;
      coflows = c.actions.invariant.coflows;
      ports = c.actions.invariant.ports;
    }

pub act_leave-requires : goal.act_leave-requires
act_leave-requires g c =
    let first = comes c.actions.kept.course c.actions.kept.progress c.deref.result.now c.next.result _ c.deref.ensures.value c.next.ensures.first c.in-Withdraw.is in
    record {
      may = may_do g.W.Wire.faults g.W.Wire.runs c.args.hall.now c.args.crew.now c.actions.crew c.args.kept.now.course c.actions.kept.course c.args.kept.now.progress
          c.actions.kept.progress (Withdraw c.in-Withdraw.coflow) c.actions.invariant.serving first;
    }

pub actions-smaller-in-Withdraw : goal.actions-smaller-in-Withdraw
actions-smaller-in-Withdraw g c =
    falls g.W.Wire.faults g.W.Wire.runs c.args.hall.now c.args.crew.now c.actions.crew c.act_leave.new.crew c.args.kept.now.course c.actions.kept.course c.args.kept.now.progress
    c.actions.kept.progress c.actions.invariant.serving c.act_leave.ensures.longer

pub actions-preserved-in-Withdraw : goal.actions-preserved-in-Withdraw
actions-preserved-in-Withdraw g c =
    let first = comes c.actions.kept.course c.actions.kept.progress c.deref.result.now c.next.result _ c.deref.ensures.value c.next.ensures.first c.in-Withdraw.is in
    record {
      serving = serving_quiet g.W.Wire.faults g.W.Wire.runs c.args.hall.now c.args.crew.now c.actions.crew c.act_leave.new.crew c.args.kept.now.course c.actions.kept.course
          c.next.new.self c.args.kept.now.progress c.actions.kept.progress c.act_leave.new.progress (Withdraw c.in-Withdraw.coflow) c.requires.may.wires
          c.actions.invariant.serving first (c.next.ensures.course ∙ ap (after c.actions.kept.course c.actions.kept.progress.time) c.in-Withdraw.is) c.act_leave.ensures.done
          c.act_leave.ensures.sends c.act_leave.ensures.keeps;
      places = c.actions.invariant.places;
      coflows = c.actions.invariant.coflows;
      ports = c.actions.invariant.ports;
    }

pub act_publish-requires-clause-may : goal.act_publish-requires-clause-may
act_publish-requires-clause-may g c =
    let first = comes c.actions.kept.course c.actions.kept.progress c.deref.result.now c.next.result _ c.deref.ensures.value c.next.ensures.first c.in-Publish.is in
    may_do g.W.Wire.faults g.W.Wire.runs c.args.hall.now c.args.crew.now c.actions.crew c.args.kept.now.course c.actions.kept.course c.args.kept.now.progress
    c.actions.kept.progress
    Publish c.actions.invariant.serving first

pub actions-smaller-in-Continue-1 : goal.actions-smaller-in-Continue-1
actions-smaller-in-Continue-1 g c =
    falls g.W.Wire.faults g.W.Wire.runs c.args.hall.now c.args.crew.now c.actions.crew c.act_publish.new.crew c.args.kept.now.course c.actions.kept.course c.args.kept.now.progress
    c.actions.kept.progress c.actions.invariant.serving c.act_publish.ensures.longer

pub actions-preserved-in-Continue-1 : goal.actions-preserved-in-Continue-1
actions-preserved-in-Continue-1 g c =
    let first = comes c.actions.kept.course c.actions.kept.progress c.deref.result.now c.next.result _ c.deref.ensures.value c.next.ensures.first c.in-Publish.is in
    record {
      serving = serving_quiet g.W.Wire.faults g.W.Wire.runs c.args.hall.now c.args.crew.now c.actions.crew c.act_publish.new.crew c.args.kept.now.course c.actions.kept.course
          c.next.new.self c.args.kept.now.progress c.actions.kept.progress c.act_publish.new.progress Publish c.requires.may.wires
          c.actions.invariant.serving first (c.next.ensures.course ∙ ap (after c.actions.kept.course c.actions.kept.progress.time) c.in-Publish.is)
          c.in_ok-act_publish-in-Publish.ensures.done
          c.act_publish.ensures.sends c.act_publish.ensures.keeps;
      places = omega (arith, c.actions.invariant.places, c.act_publish.ensures.capacity);
      coflows = c.act_publish.ensures.size.coflows ∙ c.actions.invariant.coflows;
      ports = c.act_publish.ensures.size.ports ∙ c.actions.invariant.ports;
    }

pub act_run-requires-clause-may : goal.act_run-requires-clause-may
act_run-requires-clause-may g c =
    let first = comes c.actions.kept.course c.actions.kept.progress c.deref.result.now c.next.result _ c.deref.ensures.value c.next.ensures.first c.in-Run.is in
    may_do g.W.Wire.faults g.W.Wire.runs c.args.hall.now c.args.crew.now c.actions.crew c.args.kept.now.course c.actions.kept.course c.args.kept.now.progress
    c.actions.kept.progress
    (Run c.in-Run.most) c.actions.invariant.serving first

pub act_run-requires-clause-site : goal.act_run-requires-clause-site
act_run-requires-clause-site g c =
    site_stays c.args.site.now c.args.crew.now c.actions.crew c.requires.may.at c.actions.invariant.serving.stays

pub act_run-requires-clause-wires : goal.act_run-requires-clause-wires
act_run-requires-clause-wires g c =
    omega (arith, c.requires.may.wires, c.actions.invariant.serving.sent.as_many)

pub actions-smaller-in-Continue-branch-2 : goal.actions-smaller-in-Continue-branch-2
actions-smaller-in-Continue-branch-2 g c =
    falls g.W.Wire.faults g.W.Wire.runs c.args.hall.now c.args.crew.now c.actions.crew c.act_run.new.crew c.args.kept.now.course c.actions.kept.course c.args.kept.now.progress
    c.actions.kept.progress c.actions.invariant.serving c.in_ok-act_run-in-Run.ensures.longer

pub actions-preserved-in-Continue-branch-2 : goal.actions-preserved-in-Continue-branch-2
actions-preserved-in-Continue-branch-2 g c =
    let first = comes c.actions.kept.course c.actions.kept.progress c.deref.result.now c.next.result _ c.deref.ensures.value c.next.ensures.first c.in-Run.is in
    record {
      serving = serving_on g.W.Wire.faults g.W.Wire.runs c.args.hall.now c.args.crew.now c.actions.crew c.act_run.new.crew c.args.kept.now.course c.actions.kept.course
          c.next.new.self c.args.kept.now.progress c.actions.kept.progress c.act_run.new.progress (Run c.in-Run.most)
          c.actions.invariant.serving first (c.next.ensures.course ∙ ap (after c.actions.kept.course c.actions.kept.progress.time) c.in-Run.is) c.in_ok-act_run-in-Run.ensures.done
          (c.in_ok-act_run-in-Run.ensures.sent c.args.crew.now.wires) c.act_run.ensures.fell c.act_run.ensures.stays;
      places = c.actions.invariant.places;
      coflows = c.actions.invariant.coflows;
      ports = c.actions.invariant.ports;
    }

pub act_pass-requires : goal.act_pass-requires
act_pass-requires g c =
    let first = comes c.actions.kept.course c.actions.kept.progress c.deref.result.now c.next.result _ c.deref.ensures.value c.next.ensures.first c.in-Skip.is in
    record {
      may = may_do g.W.Wire.faults g.W.Wire.runs c.args.hall.now c.args.crew.now c.actions.crew c.args.kept.now.course c.actions.kept.course c.args.kept.now.progress
          c.actions.kept.progress (Skip c.in-Skip.to) c.actions.invariant.serving first;
    }

pub actions-smaller : goal.actions-smaller
actions-smaller g c =
    falls g.W.Wire.faults g.W.Wire.runs c.args.hall.now c.args.crew.now c.actions.crew c.act_pass.new.crew c.args.kept.now.course c.actions.kept.course c.args.kept.now.progress
    c.actions.kept.progress c.actions.invariant.serving c.act_pass.ensures.longer

pub actions-preserved : goal.actions-preserved
actions-preserved g c =
    let first = comes c.actions.kept.course c.actions.kept.progress c.deref.result.now c.next.result _ c.deref.ensures.value c.next.ensures.first c.in-Skip.is in
    record {
      serving = serving_quiet g.W.Wire.faults g.W.Wire.runs c.args.hall.now c.args.crew.now c.actions.crew c.act_pass.new.crew c.args.kept.now.course c.actions.kept.course
          c.next.new.self c.args.kept.now.progress c.actions.kept.progress c.act_pass.new.progress (Skip c.in-Skip.to) c.requires.may.wires
          c.actions.invariant.serving first (c.next.ensures.course ∙ ap (after c.actions.kept.course c.actions.kept.progress.time) c.in-Skip.is)
          c.in_ok-act_pass-in-Skip.ensures.done
          c.act_pass.ensures.sends c.act_pass.ensures.keeps;
      places = c.actions.invariant.places;
      coflows = c.actions.invariant.coflows;
      ports = c.actions.invariant.ports;
    }

pub returns-in-End-clause-ends : goal.returns-in-End-clause-ends
returns-in-End-clause-ends g c =
    let first = comes c.actions.kept.course c.actions.kept.progress c.deref.result.now c.next.result _ c.deref.ensures.value c.next.ensures.first c.in-End.is in
    λ arrivals every x. ends_so c.args.hall.now c.actions.crew.runner arrivals every c.actions.kept.course c.actions.kept.progress
    (c.actions.invariant.serving.goes_on arrivals every x) first

pub returns-in-End-clause-sent : goal.returns-in-End-clause-sent
returns-in-End-clause-sent g c =
    let (arrivals, every, h) = c.actions.invariant.serving.some in
    all_sent g.W.Wire.faults g.W.Wire.runs c.args.hall.now c.actions.crew.runner arrivals every c.actions.kept.course c.actions.kept.progress c.args.crew.now.wires
    c.actions.crew.wires h c.actions.invariant.serving.sent

pub returns-in-End-clause-served : goal.returns-in-End-clause-served
returns-in-End-clause-served g c =
    λ arrivals every x. served_so g.W.Wire.faults g.W.Wire.runs c.args.hall.now c.actions.crew.runner arrivals every c.actions.kept.course c.actions.kept.progress
    c.args.crew.now.wires
    c.actions.crew.wires (c.actions.invariant.serving.goes_on arrivals every x) c.actions.invariant.serving.sent

pub returns-in-TooMany-clause-served : goal.returns-in-TooMany-clause-served
returns-in-TooMany-clause-served g c =
    λ arrivals every x. served_so g.W.Wire.faults g.W.Wire.runs c.args.hall.now c.actions.crew.runner arrivals every c.actions.kept.course c.actions.kept.progress
    c.args.crew.now.wires
    c.actions.crew.wires (c.actions.invariant.serving.goes_on arrivals every x) c.actions.invariant.serving.sent

pub returns-in_err-act_publish-in-Publish-clause-served : goal.returns-in_err-act_publish-in-Publish-clause-served
returns-in_err-act_publish-in-Publish-clause-served g c =
    λ arrivals every x. subst (HaveServed g.W.Wire.runs c.args.hall.now.setting.opening arrivals every c.args.crew.now.wires)
    (sym (ap (λ (m : CrewModel g.row.W.Denot). m.wires) c.act_publish.ensures.keeps))
    (served_so g.W.Wire.faults g.W.Wire.runs c.args.hall.now c.actions.crew.runner arrivals every c.actions.kept.course c.actions.kept.progress c.args.crew.now.wires
    c.actions.crew.wires (c.actions.invariant.serving.goes_on arrivals every x) c.actions.invariant.serving.sent)

pub returns-in_err-act_publish-in-Publish-clause-stays : goal.returns-in_err-act_publish-in-Publish-clause-stays
returns-in_err-act_publish-in-Publish-clause-stays g c =
    stays_on c.args.crew.now c.actions.crew c.act_publish.new.crew c.actions.invariant.serving.stays
    (stays_beside c.actions.crew c.act_publish.new.crew c.act_publish.ensures.keeps)

pub returns-in_err-act_pass-in-Skip-clause-served : goal.returns-in_err-act_pass-in-Skip-clause-served
returns-in_err-act_pass-in-Skip-clause-served g c =
    λ arrivals every x. subst (HaveServed g.W.Wire.runs c.args.hall.now.setting.opening arrivals every c.args.crew.now.wires)
    (sym (ap (λ (m : CrewModel g.row.W.Denot). m.wires) c.act_pass.ensures.keeps))
    (served_so g.W.Wire.faults g.W.Wire.runs c.args.hall.now c.actions.crew.runner arrivals every c.actions.kept.course c.actions.kept.progress c.args.crew.now.wires
    c.actions.crew.wires (c.actions.invariant.serving.goes_on arrivals every x) c.actions.invariant.serving.sent)

pub returns-in_err-act_pass-in-Skip-clause-stays : goal.returns-in_err-act_pass-in-Skip-clause-stays
returns-in_err-act_pass-in-Skip-clause-stays g c =
    stays_on c.args.crew.now c.actions.crew c.act_pass.new.crew c.actions.invariant.serving.stays (stays_beside c.actions.crew c.act_pass.new.crew c.act_pass.ensures.keeps)

pub returns-in_err-act_run-in-Run-clause-served : goal.returns-in_err-act_run-in-Run-clause-served
returns-in_err-act_run-in-Run-clause-served g c =
    let first = comes c.actions.kept.course c.actions.kept.progress c.deref.result.now c.next.result _ c.deref.ensures.value c.next.ensures.first c.in-Run.is in
    λ arrivals every x.
    c.act_run.ensures.served arrivals every c.actions.kept.course c.args.crew.now.wires (c.actions.invariant.serving.goes_on arrivals every x) first
    c.actions.invariant.serving.sent

pub returns-in_err-act_run-in-Run-clause-stays : goal.returns-in_err-act_run-in-Run-clause-stays
returns-in_err-act_run-in-Run-clause-stays g c =
    stays_on c.args.crew.now c.actions.crew c.act_run.new.crew c.actions.invariant.serving.stays c.act_run.ensures.stays

pub returns-in-TooMany-clause-too_many : goal.returns-in-TooMany-clause-too_many
returns-in-TooMany-clause-too_many g c =
    λ count arrivals every e x.
    too_many c.args.hall.now c.actions.crew.runner arrivals every c.actions.kept.course c.actions.kept.progress count (c.actions.invariant.serving.goes_on arrivals every x)
    (comes c.actions.kept.course c.actions.kept.progress c.deref.result.now c.next.result _ c.deref.ensures.value c.next.ensures.first
    (c.in-TooMany.is ∙ ap TooMany (ap count_of e)))

pub returns-in_err-act_run-in-Run-clause-fault : goal.returns-in_err-act_run-in-Run-clause-fault
returns-in_err-act_run-in-Run-clause-fault g c =
    λ port e.
    let came : WireFault port ≡ c.in_err-act_run-in-Run.field-0.0 = carried _ _ (WireFault port) c.from_residual-in_err-act_run-in-Run.ensures.1 e in
    let (low, rose) = c.in_err-act_run-in-Run.ensures.fault port (ap Err (sym came)) in
    (low, λ b a. omega (arith, rose b a, c.actions.invariant.serving.fell port b b low))

pub returns-in_err-act_run-in-Run-clause-too_many : goal.returns-in_err-act_run-in-Run-clause-too_many
returns-in_err-act_run-in-Run-clause-too_many g c =
    λ count arrivals every e.
    let came : Many count ≡ c.in_err-act_run-in-Run.field-0.0 = carried _ _ (Many count) c.from_residual-in_err-act_run-in-Run.ensures.1 e in
    absurd (c.in_err-act_run-in-Run.ensures.not_many count (ap Err (sym came)))

pub returns-in_err-act_run-in-Run-clause-stops : goal.returns-in_err-act_run-in-Run-clause-stops
returns-in_err-act_run-in-Run-clause-stops g c =
    λ port arrivals every e x.
    let came : WireFault port ≡ c.in_err-act_run-in-Run.field-0.0 = carried _ _ (WireFault port) c.from_residual-in_err-act_run-in-Run.ensures.1 e in
    let first = comes c.actions.kept.course c.actions.kept.progress c.deref.result.now c.next.result _ c.deref.ensures.value c.next.ensures.first c.in-Run.is in
    c.in_err-act_run-in-Run.ensures.stops port arrivals every c.actions.kept.course c.args.crew.now.wires (ap Err (sym came))
    (c.actions.invariant.serving.goes_on arrivals every x) first
    c.actions.invariant.serving.sent
