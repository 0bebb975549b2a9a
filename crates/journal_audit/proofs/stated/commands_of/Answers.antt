use Rattle.std.proofs.Common.{◌≡◌, ◌+◌, List, ℕ, arith, length, nat_eq, subst, sym}
use Rattle.indexmap.specs.IndexMap.{get}
use Rattle.journal.specs.declared.command.Command.{Command}
use Rattle.journal_audit.specs.Reasons.{IsFirstUnknown}
use Rattle.journal_audit.proofs.StatedSteps.{CommandsSoFar, all_commands, first_unknown, one_command_more}
use Rattle.journal_audit.proofs.stated.commands_of.Goals as goal

pub returns-in_default : goal.returns-in_default
returns-in_default c = λ ids finds.
    let count : length c.loop-line.commands.items ≡ c.len.result = omega (arith, c.len.ensures) in
    subst (λ (n : ℕ). IsFirstUnknown ids c.args.entries.now (n + 1)) count
    (first_unknown c.args.entries.now c.loop-line.line-index (get nat_eq c.args.coflows.now) c.loop-line.commands.items _ ids c.loop-line.invariant finds c.loop-line-test.true
    (c.in_default.ensures ids finds))

pub loop-line-preserved : goal.loop-line-preserved
loop-line-preserved c =
    subst (λ (l : List Command). CommandsSoFar c.args.entries.now (c.loop-line.line-index + 1) (get nat_eq c.args.coflows.now) l) (sym c.in_ok-push.ensures.items)
    (one_command_more c.args.entries.now c.loop-line.line-index (get nat_eq c.args.coflows.now) c.loop-line.commands.items _ c.in-Some.command c.loop-line.invariant
    c.loop-line-test.true c.in-Some.ensures)

pub returns : goal.returns
returns c = λ ids finds.
    all_commands c.args.entries.now c.loop-line.line-index (get nat_eq c.args.coflows.now) c.loop-line.commands.items ids c.loop-line.invariant finds
    (omega (arith, c.loop-line-test.false))
