-- The line of a verdict.
use Rattle.std.specs.Prelude.{ℕ, ◌++◌, List, codes, slice_index}
use Rattle.report_text.specs.declared.value.Report.{Report}
use Rattle.coflow_units.specs.Text.{ended, spaced}
use Rattle.report_text.specs.Text.{side_word}
use Rattle.cert_check.specs.declared.verdict.Reason.{Reason}
use Rattle.cert_check.specs.declared.verdict.Reason.TheVariants.{BoundTooHigh, ClashIn, CostWrong, DoneWrong}
use Rattle.cert_check.specs.declared.verdict.Reason.TheVariants.{Infeasible, NoFlow, NotPermutation, PortRange}
use Rattle.cert_check.specs.declared.verdict.Reason.TheVariants.{RatioBroken, SlackWrong, UnitsOf, WeightWrong}
use Rattle.cert_check.specs.declared.verdict.Verdict.{Verdict}
use Rattle.cert_check.specs.declared.verdict.Verdict.TheVariants.{No, Yes}

-- the numbers of what is stated and of what is real, each behind a space
abbrev pub both : ℕ → ℕ → List ℕ
both stated real = spaced stated ++ spaced real

-- why a report is not right, where the coflows have these ids by number
abbrev pub reason_line : List ℕ → Reason → List ℕ
reason_line ids (NotPermutation place) = codes "no order" ++ spaced place
reason_line ids (PortRange place number) = codes "no port" ++ both place number
reason_line ids (WeightWrong coflow stated real) = codes "no weight" ++ spaced (slice_index ids coflow) ++
    both stated real
reason_line ids (Infeasible coflow) = codes "no infeasible" ++ spaced (slice_index ids coflow)
reason_line ids (BoundTooHigh stated real) = codes "no bound" ++ both stated real
reason_line ids (SlackWrong stated real) = codes "no slack" ++ both stated real
reason_line ids (NoFlow slot flow) = codes "no flow" ++ both slot flow
reason_line ids (ClashIn slot port) = codes "no clash" ++ spaced slot ++ codes " " ++ side_word port.side ++
    spaced port.number
reason_line ids (UnitsOf flow have want) = codes "no units" ++ spaced flow ++ both have want
reason_line ids (DoneWrong coflow stated real) = codes "no done" ++ spaced (slice_index ids coflow) ++ both stated real
reason_line ids (CostWrong stated real) = codes "no cost" ++ both stated real
reason_line ids (RatioBroken cost most) = codes "no ratio" ++ both cost most

-- a yes with the stated totals
abbrev pub yes_line : Report → List ℕ
yes_line r = codes "yes bound" ++ spaced r.bound ++ codes " slack" ++ spaced r.slack ++ codes " cost" ++ spaced r.cost

-- the line of a verdict on a report
abbrev pub verdict_line : List ℕ → Report → Verdict → List ℕ
verdict_line ids r Yes = yes_line r
verdict_line ids r (No reason) = reason_line ids reason

-- the text with the line of a reason
abbrev pub reason_text : List ℕ → Reason → List ℕ
reason_text ids reason = ended (reason_line ids reason)

-- the text with the line of a verdict
abbrev pub verdict_text : List ℕ → Report → Verdict → List ℕ
verdict_text ids r verdict = ended (verdict_line ids r verdict)
