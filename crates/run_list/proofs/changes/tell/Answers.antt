use Rattle.std.proofs.Common.{◌-◌, arith}
use Rattle.run_list.proofs.Merging.{told_ascends, told_back}
use Rattle.run_list.proofs.changes.tell.Goals as goal

pub returns-in-Ok-true-clause-told : goal.returns-in-Ok-true-clause-told
returns-in-Ok-true-clause-told c =
    let size = c.len.result - c.len-start.result in
    let told = c.tell_changes.ensures.told cc in
    told_back c.args.before.now c.args.flows.now c.args.numbers.now.items c.tell_changes.new.numbers.items size c.requires.before c.requires.flows told (omega arith)

pub returns-in-Ok-true-clause-ascending : goal.returns-in-Ok-true-clause-ascending
returns-in-Ok-true-clause-ascending c =
    told_ascends c.args.before.now c.args.flows.now c.args.numbers.now.items c.tell_changes.new.numbers.items c.requires.before c.requires.flows (c.tell_changes.ensures.told cc)
