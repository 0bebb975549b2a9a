-- The table of ranks: each place of an order gives its coflow its number, counted from 1.
use Rattle.std.proofs.Common.{◌≡◌, ℕ, ◌+◌, ◌<◌, Bool, List, [], ◌∷◌, length, replicate, get_or, inl, inr, refl, sym, ap, ◌∙◌, arith, zero, suc, true≢false}
use Rattle.std.specs.Prelude.{slice_set, if◌then◌else◌}
use Rattle.std.proofs.lemmas.Bool.{cases_Bool, cases_lt}
use Rattle.std.proofs.lemmas.List.{get_or_default, get_or-set_same, get_or-set_other, length-map, length-set}
use Rattle.coflow_units.specs.declared.plan.Place.{Place}
use Rattle.coflow_units.specs.Flows.{IsDistinct}
use Rattle.coflow_units.specs.Grants.{place_in}
use Rattle.coflow_units.proofs.LinePlaces.{at_place, place_of_member}
use Rattle.coflow_units.proofs.Sums.{any_has, any_in}
use Rattle.coflow_units.proofs.Ranges.{zero_at}
use Rattle.journal.specs.State.{has}
use Rattle.journal.specs.Line.{rank_in}
use Rattle.master_core.specs.Published.{ranked}

-- the first n coflows have their numbers, and all others 0
pub record RanksSoFar (xs ranks : List ℕ) (n : ℕ) : Type 0 where
  pub there : (k : ℕ) → k < n → get_or ranks (get_or xs k 0) 0 ≡ k + 1
  pub none : (c : ℕ) → c < length ranks → ((k : ℕ) → k < n → get_or xs k 0 ≡ c → ⊥) → get_or ranks c 0 ≡ 0

pub ranks_more : (xs ranks : List ℕ) (n x : ℕ) → RanksSoFar xs ranks n → IsDistinct xs → n < length xs → get_or xs n 0 ≡ x → x < length ranks →
    RanksSoFar xs (slice_set ranks x (n + 1)) (n + 1)
ranks_more xs ranks n x h once lt is in' = record {
  there = λ k below. elim (cases_lt k n) [
    | inl before ↦ get_or-set_other ranks x (get_or xs k 0) (n + 1) 0 (λ e. once k n 0 before lt (e ∙ sym is)) ∙ h.there k before
    | inr upto ↦
        let same : k ≡ n = omega (arith, below, upto) in
        ap (λ i. get_or (slice_set ranks x (n + 1)) (get_or xs i 0) 0) same ∙ ap (λ y. get_or (slice_set ranks x (n + 1)) y 0) is ∙ get_or-set_same ranks x (n + 1) 0 in' ∙
        ap (λ i. i + 1) (sym same)
  ];
  none = λ c low apart.
      get_or-set_other ranks x c (n + 1) 0 (λ e. apart n (omega arith) (is ∙ sym e))
      ∙ h.none c (omega (arith, low, length-set ranks x (n + 1))) (λ k before. apart k (omega arith));
}

pub ranks_all : (xs ranks : List ℕ) (c : ℕ) → RanksSoFar xs ranks (length xs) → c < length ranks → get_or ranks c 0 ≡ rank_in xs c
ranks_all xs ranks c h lt = elim (cases_Bool (has xs c)) [
  | inl t ↦
      let below = place_of_member xs c (any_has xs c t) in
      let at : get_or xs (place_in xs c) 0 ≡ c = get_or_default xs (place_in xs c) 0 c below ∙ at_place xs c below in
      ap (λ y. get_or ranks y 0) (sym at) ∙ h.there (place_in xs c) below ∙ sym (ap (λ (b : Bool). if b then place_in xs c + 1 else 0) t)
  | inr f ↦ h.none c lt (λ k below e. true≢false (sym (any_in xs c (k, below, get_or_default xs k c 0 below ∙ e)) ∙ f))
      ∙ sym (ap (λ (b : Bool). if b then place_in xs c + 1 else 0) f)
]

pub ranks_none : (xs ranks : List ℕ) (n : ℕ) → ranks ≡ replicate n 0 → RanksSoFar xs ranks 0
ranks_none xs ranks n is = record {
  there = λ k lt. absurd (omega arith);
  none = λ c lt apart. ap (λ l. get_or l c 0) is ∙ zero_at n c;
}

pub place_at : (places : List Place) (n : ℕ) (d : Place) → n < length places → get_or (ranked places) n 0 ≡ (get_or places n d).coflow
place_at [] n d lt = absurd (omega arith)
place_at (x ∷ xs) zero d lt = refl
place_at (x ∷ xs) (suc n) d lt = place_at xs n d (omega arith)

pub ranked_len : (places : List Place) → length (ranked places) ≡ length places
ranked_len places = length-map places (λ (x : Place). x.coflow)
