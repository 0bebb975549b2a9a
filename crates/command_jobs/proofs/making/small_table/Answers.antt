use Rattle.command_jobs.proofs.making.small_table.Goals as goal

pub unreachable-requires : goal.unreachable-requires
unreachable-requires c = c.requires.fits c.in-Err-Limit.field-0-0 c.in-Err-Limit.field-0-1 (rw c.in-Err-Limit.field-0-is at c.in-Err-Limit.ensures.cause)
