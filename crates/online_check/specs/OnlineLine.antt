-- The line of a verdict on an online run.
use Rattle.std.specs.Prelude.{ℕ, ◌++◌, List, codes, slice_index}
use Rattle.cert_check.specs.declared.verdict.Reason.TheVariants as plan
use Rattle.online_check.specs.declared.verdict.OnlineReason.{OnlineReason}
use Rattle.online_check.specs.declared.verdict.OnlineReason.TheVariants.{ClashIn, CostWrong, DoneWrong, Early}
use Rattle.online_check.specs.declared.verdict.OnlineReason.TheVariants.{Infeasible, Listed, NoFlow, NotPermutation}
use Rattle.online_check.specs.declared.verdict.OnlineReason.TheVariants.{PortRange, TotalTooHigh, UnitsOf}
use Rattle.online_text.specs.declared.value.Online.{Online}
use Rattle.coflow_units.specs.Text.{ended, spaced}
use Rattle.online_check.specs.VerdictLine.{both, reason_line}

-- why an online run is not right, where the coflows have these ids by number; a reason that there is against plans too
-- has the same line
abbrev pub online_reason_line : List ℕ → OnlineReason → List ℕ
online_reason_line ids (NotPermutation place) = reason_line ids (plan.NotPermutation place)
online_reason_line ids (PortRange place number) = reason_line ids (plan.PortRange place number)
online_reason_line ids (Infeasible coflow) = reason_line ids (plan.Infeasible coflow)
online_reason_line ids (TotalTooHigh stated real) = codes "no total" ++ both stated real
online_reason_line ids (NoFlow slot flow) = reason_line ids (plan.NoFlow slot flow)
online_reason_line ids (ClashIn slot port) = reason_line ids (plan.ClashIn slot port)
online_reason_line ids (UnitsOf flow have want) = reason_line ids (plan.UnitsOf flow have want)
online_reason_line ids (Early slot coflow) = codes "no early" ++ both slot (slice_index ids coflow)
online_reason_line ids (Listed index) = codes "no listed" ++ spaced index
online_reason_line ids (DoneWrong coflow stated real) = reason_line ids (plan.DoneWrong coflow stated real)
online_reason_line ids (CostWrong stated real) = reason_line ids (plan.CostWrong stated real)

-- a yes with the stated total and the stated cost
abbrev pub online_yes_line : Online → List ℕ
online_yes_line o = codes "yes total" ++ spaced o.total ++ codes " cost" ++ spaced o.cost

-- the text with the line of a reason
abbrev pub online_reason_text : List ℕ → OnlineReason → List ℕ
online_reason_text ids reason = ended (online_reason_line ids reason)

-- the text with the line of a yes
abbrev pub online_yes_text : Online → List ℕ
online_yes_text o = ended (online_yes_line o)
