use Rattle.std.proofs.Common.{◌≤◌, ◌∙◌, length, subst, sym}
use Rattle.coflow_stats.proofs.SummarySteps.{few_durations}
use Rattle.coflow_stats.proofs.stats.summary_of_group.Goals as goal

pub summary_of-requires : goal.summary_of-requires
summary_of-requires c =
    subst (λ l. length l ≤ 4096) (sym (c.deref.ensures.value ∙ c.in_ok-durations.ensures)) (few_durations c.args.group c.args.unit c.args.coflows.now 4096 c.requires)
