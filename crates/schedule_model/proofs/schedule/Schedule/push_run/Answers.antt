use Rattle.std.proofs.Common.{◌++◌, ◌∙◌, length, replicate, arith, ap}
use Rattle.schedule_model.proofs.RunPushes.{kept_longer, kept_pushed, slots_longer}
use Rattle.schedule_model.proofs.schedule.Schedule.push_run.Goals as goal

pub invariant_of-self : goal.invariant_of-self
invariant_of-self c =
    kept_longer c.self.inside.runs c.lengthen.new.self c.args.length c.args.flows.now c.if-ends_with.ensures c.lengthen.ensures c.self.invariant
    (omega (arith, c.requires.short, ap length c.self.view_is))

pub returns-then-ends_with-clause-pushed : goal.returns-then-ends_with-clause-pushed
returns-then-ends_with-clause-pushed c =
    slots_longer c.self.inside.runs c.lengthen.new.self c.args.length c.args.flows.now c.if-ends_with.ensures c.lengthen.ensures
    ∙ ap (λ s. s ++ replicate c.args.length c.args.flows.now) c.self.view_is

pub invariant_of-self-2 : goal.invariant_of-self-2
invariant_of-self-2 c =
    kept_pushed c.push.result c.self.inside.runs c.push.new.self c.args.length c.args.flows.now c.push.ensures.pushed c.push.ensures.refused c.self.invariant
    c.if-ends_with.ensures c.requires.some c.requires.ascending (omega (arith, c.requires.short, ap length c.self.view_is))
