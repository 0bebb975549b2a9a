use Rattle.workload.proofs.MadeTexts.{made_trace_passes, made_trace_says, made_trace_short}
use Rattle.workload.proofs.laws.made_trace_is_read.Goals as goal

pub returns-clause-short : goal.returns-clause-short
returns-clause-short c = made_trace_short

pub returns-clause-reads : goal.returns-clause-reads
returns-clause-reads c = made_trace_passes

pub returns-clause-is : goal.returns-clause-is
returns-clause-is c = made_trace_says
