use Rattle.coflow_stats.specs.declared.value.Group.TheVariants.{ShortNarrow, LongNarrow, ShortWide, LongWide}
use Rattle.coflow_stats.proofs.writing.push_summaries.Goals as goal

pub push_summary-requires-2-clause-small : goal.push_summary-requires-2-clause-small
push_summary-requires-2-clause-small c = c.requires.writable.each_group ShortNarrow

pub push_summary-requires-3-clause-small : goal.push_summary-requires-3-clause-small
push_summary-requires-3-clause-small c = c.requires.writable.each_group LongNarrow

pub push_summary-requires-4-clause-small : goal.push_summary-requires-4-clause-small
push_summary-requires-4-clause-small c = c.requires.writable.each_group ShortWide

pub push_summary-requires-5-clause-small : goal.push_summary-requires-5-clause-small
push_summary-requires-5-clause-small c = c.requires.writable.each_group LongWide
