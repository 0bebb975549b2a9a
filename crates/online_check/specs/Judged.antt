-- The verdict on a report of either kind, told in a line.
use Rattle.std.specs.Prelude.{◌≡◌, ℕ, Bool, false, true, List}
use Rattle.coflow_units.specs.Flows.{Instance}
use Rattle.cert_check.specs.declared.verdict.Reason.{Reason}
use Rattle.cert_check.specs.declared.verdict.Verdict.TheVariants.{Yes}
use Rattle.cert_check.specs.Reasons.{IsFirstReason}
use Rattle.cert_check.specs.Sound.{IsSound}
use Rattle.online_check.specs.declared.verdict.OnlineReason.{OnlineReason}
use Rattle.online_check.specs.Reasons.{IsFirstOnlineReason}
use Rattle.online_check.specs.Sound.{IsSoundOnline}
use Rattle.online_check.specs.declared.any_report.AnyReport.{AnyReport}
use Rattle.online_check.specs.declared.any_report.AnyReport.TheVariants.{Online, Plan}
use Rattle.online_check.specs.OnlineLine.{online_reason_text, online_yes_text}
use Rattle.online_check.specs.VerdictLine.{reason_text, verdict_text}

-- the report is right for the instance, whose coflows have these arrivals, in slots, and these ids; that of a plan says
-- nothing of arrivals
abbrev pub IsRight : Instance → (ℕ → ℕ) → List ℕ → AnyReport → Type 0
IsRight i arrival ids (Plan r) = IsSound i ids r
IsRight i arrival ids (Online o) = IsSoundOnline i arrival ids o

-- the line of a yes on the report
abbrev pub yes_text : List ℕ → AnyReport → List ℕ
yes_text ids (Plan r) = verdict_text ids r Yes
yes_text ids (Online o) = online_yes_text o

-- the report is not right, and this is the line of the first reason
abbrev pub IsRefused : Instance → (ℕ → ℕ) → List ℕ → AnyReport → List ℕ → Type 0
IsRefused i arrival ids (Plan r) text =
    (reason : Reason) × IsFirstReason i ids r reason × (text ≡ reason_text ids reason)
IsRefused i arrival ids (Online o) text =
    (reason : OnlineReason) × IsFirstOnlineReason i arrival ids o reason × (text ≡ online_reason_text ids reason)

-- the answer is yes on a right report and else no, and this is its line
abbrev pub IsJudged : Instance → (ℕ → ℕ) → List ℕ → AnyReport → Bool → List ℕ → Type 0
IsJudged i arrival ids report true text = IsRight i arrival ids report × (text ≡ yes_text ids report)
IsJudged i arrival ids report false text = IsRefused i arrival ids report text
