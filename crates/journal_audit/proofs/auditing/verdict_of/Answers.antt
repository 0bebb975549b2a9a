use Rattle.std.proofs.Common.{arith}
use Rattle.cert_check.proofs.SlotSteps.{slots_count}
use Rattle.journal_audit.proofs.auditing.verdict_of.Goals as goal

pub slots_in-requires : goal.slots_in-requires
slots_in-requires c = omega (arith, slots_count c.args.live.now.runs, c.requires.live.few_slots)
