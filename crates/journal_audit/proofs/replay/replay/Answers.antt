use Rattle.std.proofs.Common.{◌<◌, get_or, length, arith, ◌∙◌}
use Rattle.journal.specs.declared.command.Command.TheVariants as command
use Rattle.live_text.specs.declared.value.EntryLine.{EntryLine}
use Rattle.live_text.specs.declared.value.Said.TheVariants.{Joined}
use Rattle.live_text.specs.declared.value.Word.TheVariants.{Register}
use Rattle.journal_audit.proofs.ReplaySteps.{answered_more, count_commands, plain_at, range_at, room_at}
use Rattle.journal_audit.proofs.replay.replay.Goals as goal

abbrev first_line : EntryLine
first_line = record { who = 0; word = Register 0; said = Joined }

pub take_down-requires-clause-range : goal.take_down-requires-clause-range
take_down-requires-clause-range c =
    let within : c.loop-index.index < length c.args.entries.now =
    omega (arith, c.loop-index-test.true, count_commands c.args.master.now.opening.table.ids c.args.entries.now c.args.commands.now c.requires.commands) in
    range_at c.args.master.now.opening c.loop-index.master.opening c.args.entries.now c.args.commands.now c.loop-index.index c.loop-index.invariant.opening
    c.requires.commands within c.requires.known c.requires.entry

pub take_down-requires-clause-plain : goal.take_down-requires-clause-plain
take_down-requires-clause-plain c =
    let within : c.loop-index.index < length c.args.entries.now =
    omega (arith, c.loop-index-test.true, count_commands c.args.master.now.opening.table.ids c.args.entries.now c.args.commands.now c.requires.commands) in
    plain_at c.args.master.now.opening.table.ids c.args.entries.now c.args.commands.now c.loop-index.index c.requires.commands within

pub take_down-requires-clause-room : goal.take_down-requires-clause-room
take_down-requires-clause-room c =
    let within : c.loop-index.index < length c.args.entries.now =
    omega (arith, c.loop-index-test.true, count_commands c.args.master.now.opening.table.ids c.args.entries.now c.args.commands.now c.requires.commands) in
    room_at c.args.master.now.opening c.loop-index.master.opening c.args.entries.now c.args.orders.now c.loop-index.index c.loop-index.master.journal c.loop-index.replayed
    (get_or c.args.commands.now c.loop-index.index (command.Register 0)) c.loop-index.invariant within c.requires.limit

pub loop-index-preserved : goal.loop-index-preserved
loop-index-preserved c =
    let within : c.loop-index.index < length c.args.entries.now =
    omega (arith, c.loop-index-test.true, count_commands c.args.master.now.opening.table.ids c.args.entries.now c.args.commands.now c.requires.commands) in
    answered_more c.args.master.now.opening c.loop-index.master.opening c.take_down.new.master.opening c.args.entries.now c.args.commands.now c.args.orders.now
    c.loop-index.index first_line c.loop-index.master.journal c.take_down.new.master.journal c.loop-index.replayed c.take_down.new.replayed
    c.in_ok-real.real c.loop-index.invariant c.requires.commands within
    c.in_ok-real.ensures.opening c.in_ok-real.ensures.journal c.in_ok-real.ensures.after
    (c.is_same_reply.ensures.0 c.if-not-is_same_reply.false ∙ c.reply_of.ensures)
