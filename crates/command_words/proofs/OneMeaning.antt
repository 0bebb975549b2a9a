-- Words say one thing at most.
use Rattle.std.proofs.Common.{◌≡◌, ℕ, List, Option, Some, None, sym, ◌∙◌, subst}
use Rattle.std.proofs.lemmas.Option.{same_Some}
use Rattle.command_words.specs.Line.{Text, Use, value_of}
use Rattle.command_words.specs.Words.{IsSaid, IsSetting, IsWords, Said}

one_setting : (most default : ℕ) (value : Option Text) (m n : ℕ) → IsSetting most default value m → IsSetting most default value n → m ≡ n
one_setting most default None m n p q = p ∙ sym q
one_setting most default (Some text) m n p q = p.3 ∙ sym q.3

one_said : (v : Text → Option Text) (a b : Said) → IsSaid v a → IsSaid v b → a ≡ b
one_said v a b p q =
    let job = same_Some _ _ (sym p.job ∙ q.job) in
    let weights = sym p.weights ∙ q.weights in
    let unit = one_setting _ _ _ _ _ p.unit q.unit in
    let agents = one_setting _ _ _ _ _ p.agents q.agents in
    let epoch = one_setting _ _ _ _ _ p.epoch q.epoch in
    let run = one_setting _ _ _ _ _ p.run q.run in
    let slot_ms = one_setting _ _ _ _ _ p.slot_ms q.slot_ms in
    let classes = one_setting _ _ _ _ _ p.classes q.classes in
    let fold = same_Some _ _ (sym p.fold ∙ q.fold) in
    λ i. record {
      job = job i;
      weights = weights i;
      unit = unit i;
      agents = agents i;
      epoch = epoch i;
      run = run i;
      slot_ms = slot_ms i;
      classes = classes i;
      fold = fold i;
    }

pub words_one : (words : List Text) (a b : Said) → IsWords words a → IsWords words b → a ≡ b
words_one words a b p q =
    let same : q.used ≡ p.used = cc in
    one_said (λ id. value_of id p.used) a b p.says (subst (λ (us : List Use). IsSaid (λ id. value_of id us) b) same q.says)
