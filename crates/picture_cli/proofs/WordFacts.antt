-- Words say one thing at most.
use Rattle.std.proofs.Common.{◌≡◌, ℕ, List, Option, Some, None, codes, refl, sym, subst, ap, ◌∙◌}
use Rattle.coflow_units.specs.declared.fabric.Side.{Side}
use Rattle.coflow_units.specs.declared.fabric.Side.TheVariants.{Egress, Ingress}
use Rattle.command_words.specs.Line.{Text}
use Rattle.command_words.specs.Words.{IsSetting}
use Rattle.picture_cli.specs.Words.{IsPictureWords, IsPoliciesSaid, IsReportSaid, IsSaid, IsSaidBesides, IsSide, PictureSaid, PoliciesSaid, ReportSaid, policies_in}
use Rattle.picture_cli.specs.Words.PictureSaid.{of_policies, of_report}

sides_differ : (word : Text) → word ≡ codes "in" → word ≡ codes "out" → ⊥
sides_differ word p q = let e : codes "in" ≡ codes "out" = sym p ∙ q in cc

one_side : (word : Option Text) (a b : Side) → IsSide word a → IsSide word b → a ≡ b
one_side None a b p q = p ∙ sym q
one_side (Some word) Ingress Ingress p q = refl
one_side (Some word) Egress Egress p q = refl
one_side (Some word) Ingress Egress p q = absurd (sides_differ word p q)
one_side (Some word) Egress Ingress p q = absurd (sides_differ word q p)

setting : (most default : ℕ) (value : Option Text) (m n : ℕ) → IsSetting most default value m → IsSetting most default value n → m ≡ n
setting most default None m n p q = p ∙ sym q
setting most default (Some text) m n p q = p.3 ∙ sym q.3

some_one : (a b : Text) → Some a ≡ Some b → a ≡ b
some_one a b e = cc

same_trace : (v : Text → Option Text) (a b : ReportSaid) → IsSaidBesides v a → IsSaidBesides v b → a.trace ≡ b.trace
same_trace v a b p q = some_one _ _ (sym p.trace ∙ q.trace)

one_report : (v : Text → Option Text) (a b : ReportSaid) → IsReportSaid v a → IsReportSaid v b → a ≡ b
one_report v a b x y =
    let p = x.besides in
    let q = y.besides in
    let trace = same_trace v a b p q in
    let report : a.report ≡ b.report = some_one _ _ (sym x.report ∙ y.report) in
    let weights = sym p.weights ∙ q.weights in
    let unit = setting _ _ _ _ _ p.unit q.unit in
    let from = setting _ _ _ _ _ p.from q.from in
    let to = setting _ _ _ _ _ p.to q.to in
    let side = one_side _ _ _ p.side q.side in
    let slot_ms = setting _ _ _ _ _ p.slot_ms q.slot_ms in
    λ i. record { trace = trace i; report = report i; weights = weights i; unit = unit i; from = from i; to = to i; side = side i; slot_ms = slot_ms i }

one_policies : (v : Text → Option Text) (a b : PoliciesSaid) → IsPoliciesSaid v a → IsPoliciesSaid v b → a ≡ b
one_policies v a b x y =
    let p = x.besides in
    let q = y.besides in
    let trace = same_trace v x.options y.options p q in
    let weights = sym p.weights ∙ q.weights in
    let unit = setting _ _ _ _ _ p.unit q.unit in
    let same : policies_in x.options ≡ policies_in y.options = λ i. record { trace = trace i; weights = weights i; unit = unit i } in
    x.said_is ∙ same ∙ sym y.said_is

not_both : (v : Text → Option Text) (a : ReportSaid) (b : PoliciesSaid) → IsReportSaid v a → IsPoliciesSaid v b → ⊥
not_both v a b x y = let e : Some a.report ≡ None = sym x.report ∙ y.no_report in cc

one_saying : (v : Text → Option Text) (a b : PictureSaid) → IsSaid v a → IsSaid v b → a ≡ b
one_saying v (of_report a) (of_report b) p q = ap of_report (one_report v a b p q)
one_saying v (of_policies a) (of_policies b) p q = ap of_policies (one_policies v a b p q)
one_saying v (of_report a) (of_policies b) p q = absurd (not_both v a b p q)
one_saying v (of_policies a) (of_report b) p q = absurd (not_both v b a q p)

pub one_words : (words : List Text) (a b : PictureSaid) → IsPictureWords words a → IsPictureWords words b → a ≡ b
one_words words a b p q = one_saying _ a b p.says q.says

-- what is said goes by the values alone
pub said_same : (v w : Text → Option Text) (said : PictureSaid) → ((id : Text) → v id ≡ w id) → IsSaid v said → IsSaid w said
said_same v w said same says =
    let values : v ≡ w = λ i id. same id i in
    subst (λ (x : Text → Option Text). IsSaid x said) values says
