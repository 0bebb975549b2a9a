-- A text is that of one report at most, whatever its kind, and else it is bad at one line.
use Rattle.std.proofs.Common.{◌≡◌, ◌<◌, ℕ, List, sym, ap, ◌∙◌, arith}
use Rattle.online_text.specs.Reading as online
use Rattle.online_text.proofs.OneText.{online_one}
use Rattle.report_text.proofs.TextLaws.{reports_are_one}
use Rattle.report_text.specs.Reading as plan
use Rattle.online_check.specs.declared.any_report.AnyReport.{AnyReport}
use Rattle.online_check.specs.declared.any_report.AnyReport.TheVariants.{Online, Plan}
use Rattle.online_check.specs.AnyReport.{IsAnyBadAt, IsAnyText}
use Rattle.online_check.specs.AnyReport.IsAnyBadAt.{of_online, of_plan}

pub any_text_one : (bytes : List ℕ) (a b : AnyReport) → IsAnyText bytes a → IsAnyText bytes b → a ≡ b
any_text_one bytes (Plan r) (Plan s) (other, x) (another, y) = ap Plan (reports_are_one r s x.report x.small y.report y.small (sym x.text ∙ y.text))
any_text_one bytes (Plan r) (Online p) (other, x) (begins, y) = absurd (other begins)
any_text_one bytes (Online o) (Plan s) (begins, x) (other, y) = absurd (other begins)
any_text_one bytes (Online o) (Online p) (begins, x) (too, y) = ap Online (online_one o p x.online x.small y.online y.small (sym x.text ∙ y.text))

plan_not_before : (bytes : List ℕ) (m n : ℕ) → plan.IsBadAt bytes m → plan.IsBadAt bytes n → m < n → ⊥
plan_not_before bytes m n at_m at_n less = at_m.here (at_n.before m less)

online_not_before : (bytes : List ℕ) (m n : ℕ) → online.IsBadAt bytes m → online.IsBadAt bytes n → m < n → ⊥
online_not_before bytes m n at_m at_n less = at_m.here (at_n.before m less)

pub any_line_one : (bytes : List ℕ) (m n : ℕ) → IsAnyBadAt bytes m → IsAnyBadAt bytes n → m ≡ n
any_line_one bytes m n (of_plan other x) (of_plan another y) = grind (arith, plan_not_before bytes m n x y, plan_not_before bytes n m y x)
any_line_one bytes m n (of_plan other x) (of_online begins y) = absurd (other begins)
any_line_one bytes m n (of_online begins x) (of_plan other y) = absurd (other begins)
any_line_one bytes m n (of_online begins x) (of_online too y) = grind (arith, online_not_before bytes m n x y, online_not_before bytes n m y x)

pub text_or_bad : (bytes : List ℕ) (a : AnyReport) (line : ℕ) → IsAnyText bytes a → IsAnyBadAt bytes line → ⊥
text_or_bad bytes (Plan r) line (other, x) (of_plan another y) = y.no_text r x
text_or_bad bytes (Plan r) line (other, x) (of_online begins y) = absurd (other begins)
text_or_bad bytes (Online o) line (begins, x) (of_plan other y) = absurd (other begins)
text_or_bad bytes (Online o) line (begins, x) (of_online too y) = y.no_text o x
