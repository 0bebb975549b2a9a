-- Words say one thing at most.
use Rattle.std.proofs.Common.{◌≡◌, ℕ, List, Option, Some, None, sym, ◌∙◌}
use Rattle.command_words.specs.Line.{Text}
use Rattle.command_words.specs.Words.{IsSetting}
use Rattle.stats_cli.specs.Words.{IsSaid, IsStatsWords, StatsSaid}

one_saying : (v : Text → Option Text) (a b : StatsSaid) → IsSaid v a → IsSaid v b → a ≡ b
one_saying v a b p q =
    let trace : a.trace ≡ b.trace = let e : Some a.trace ≡ Some b.trace = sym p.trace ∙ q.trace in cc in
    let report : a.report ≡ b.report = let e : Some a.report ≡ Some b.report = sym p.report ∙ q.report in cc in
    let weights = sym p.weights ∙ q.weights in
    let unit = setting _ _ _ _ _ p.unit q.unit in
    let slot_ms = setting _ _ _ _ _ p.slot_ms q.slot_ms in
    let in_ms = p.in_ms ∙ sym q.in_ms in
    let csv = p.csv ∙ sym q.csv in
    λ i. record { trace = trace i; report = report i; weights = weights i; unit = unit i; slot_ms = slot_ms i; in_ms = in_ms i; csv = csv i }
  where
    setting : (most default : ℕ) (value : Option Text) (m n : ℕ) → IsSetting most default value m → IsSetting most default value n → m ≡ n
    setting most default None m n p q = p ∙ sym q
    setting most default (Some text) m n p q = p.3 ∙ sym q.3

pub one_words : (words : List Text) (a b : StatsSaid) → IsStatsWords words a → IsStatsWords words b → a ≡ b
one_words words a b p q = one_saying _ a b p.says q.says
