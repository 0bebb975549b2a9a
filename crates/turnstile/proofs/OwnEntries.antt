-- The entries of one caller in a list that goes on.
use Rattle.std.proofs.Common.{◌≡◌, ◌≢◌, ℕ, List, [], ◌∷◌, ◌++◌, refl, ap, ◌∙◌, cond, ne_eqb}
use Rattle.std.proofs.lemmas.List.{append-nil}
use Rattle.std.proofs.lemmas.List.Elements.{All-tail, All-head, filter-append}
use Rattle.std.specs.Prelude.{◌==◌}
use Rattle.turnstile.specs.Histories.{NoneBy, GoesOn, made_by}

module _ {E : Type 0} (by : E → ℕ) where
  made_none : (number : ℕ) (entries : List E) → NoneBy by number entries → made_by by number entries ≡ []
  made_none number [] none = refl
  made_none number (e ∷ es) none = ap (λ b. cond b (e ∷ made_by by number es) (made_by by number es)) (ne_eqb (by e) number (All-head (λ x. by x ≢ number) e es none)) ∙
      made_none number es (All-tail (λ x. by x ≢ number) e es none)

  pub own_entries : (list seen : List E) (number : ℕ) → GoesOn by list number seen → made_by by number list ≡ made_by by number seen
  own_entries list seen number h =
      ap (made_by by number) h.1 ∙ (filter-append (λ e. by e == number) seen h.0 ∙
      (ap (λ z. made_by by number seen ++ z) (made_none number h.0 h.2) ∙ append-nil (made_by by number seen)))
