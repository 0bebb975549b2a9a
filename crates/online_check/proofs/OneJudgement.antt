-- A report of either kind has one verdict, with one line.
use Rattle.std.proofs.Common.{◌≡◌, ℕ, List, refl, sym, ap, ◌∙◌}
use Rattle.std.specs.Prelude.{Bool, false, true}
use Rattle.cert_check.specs.declared.verdict.Verdict.TheVariants as verdict
use Rattle.cert_check.specs.declared.verdict.Verdict.{Verdict}
use Rattle.cert_check.proofs.OneVerdict.{one_verdict}
use Rattle.flow_table.specs.Table.{TableFacts, instance_of}
use Rattle.online_check.specs.declared.verdict.OnlineVerdict.{OnlineVerdict}
use Rattle.online_check.specs.declared.verdict.OnlineVerdict.TheVariants as online_verdict
use Rattle.online_check.proofs.OneOnline.{one_online_verdict}
use Rattle.online_text.specs.declared.value.Online.{Online as Run}
use Rattle.online_check.specs.declared.any_report.AnyReport.{AnyReport}
use Rattle.online_check.specs.declared.any_report.AnyReport.TheVariants.{Online, Plan}
use Rattle.online_check.specs.Judged.{IsJudged}
use Rattle.online_check.specs.OnlineLine.{online_reason_text, online_yes_text}
use Rattle.online_check.specs.VerdictLine.{verdict_text}

-- the line of a verdict on an online run
abbrev told : List ℕ → Run → OnlineVerdict → List ℕ
told ids o online_verdict.Yes = online_yes_text o
told ids o (online_verdict.No reason) = online_reason_text ids reason

pub judgement_one : (t : TableFacts) (weights : List ℕ) (arrival : ℕ → ℕ) (report : AnyReport) (a b : Bool) (x y : List ℕ) →
    IsJudged (instance_of t weights) arrival t.ids report a x → IsJudged (instance_of t weights) arrival t.ids report b y → (a ≡ b) × (x ≡ y)
judgement_one t weights arrival report true true x y (right, e) (too, f) = (refl, e ∙ sym f)
judgement_one t weights arrival (Plan r) true false x y (right, e) (reason, first, f) =
    let bad : verdict.Yes ≡ verdict.No reason = one_verdict t weights r verdict.Yes (verdict.No reason) right first in cc
judgement_one t weights arrival (Plan r) false true x y (reason, first, f) (right, e) =
    let bad : verdict.Yes ≡ verdict.No reason = one_verdict t weights r verdict.Yes (verdict.No reason) right first in cc
judgement_one t weights arrival (Plan r) false false x y (m, first, e) (n, too, f) =
    let same : verdict.No m ≡ verdict.No n = one_verdict t weights r (verdict.No m) (verdict.No n) first too in
    (refl, e ∙ ap (verdict_text t.ids r) same ∙ sym f)
judgement_one t weights arrival (Online o) true false x y (right, e) (reason, first, f) =
    let bad : online_verdict.Yes ≡ online_verdict.No reason = one_online_verdict t weights arrival o online_verdict.Yes (online_verdict.No reason) right first in cc
judgement_one t weights arrival (Online o) false true x y (reason, first, f) (right, e) =
    let bad : online_verdict.Yes ≡ online_verdict.No reason = one_online_verdict t weights arrival o online_verdict.Yes (online_verdict.No reason) right first in cc
judgement_one t weights arrival (Online o) false false x y (m, first, e) (n, too, f) =
    let same : online_verdict.No m ≡ online_verdict.No n = one_online_verdict t weights arrival o (online_verdict.No m) (online_verdict.No n) first too in
    (refl, e ∙ ap (told t.ids o) same ∙ sym f)
