-- The places of a planned report, read as a checker of reports reads them.
use Rattle.std.proofs.Common.{◌≡◌, ℕ, ◌<◌, List, [], ◌∷◌, length, reverse, refl, sym, ap, ◌∙◌, arith, zero, suc}
use Rattle.std.specs.Prelude.{All, map, slice_index}
use Rattle.std.proofs.lemmas.List.Elements.{All-head, All-tail}
use Rattle.coflow_units.specs.declared.fabric.Flow.{Flow}
use Rattle.coflow_units.specs.declared.plan.Place.{Place}
use Rattle.coflow_units.specs.Certificate.{Entry, entry_of}
use Rattle.coflow_units.specs.Completion.{completion}
use Rattle.coflow_units.specs.Flows.{IsDistinct}
use Rattle.bssi_order.specs.Order.{entries_of}
use Rattle.report_text.specs.declared.value.PlaceLine.{PlaceLine}
use Rattle.cert_check.specs.Places.{certificate_in, coflow_with, coflows_in, ends_in, entry_for, entry_with}
use Rattle.cert_check.specs.Stated.{AreReal}
use Rattle.dual_cert.proofs.FirstPlaces.{map_reverse}
use Rattle.coflow_units.proofs.LinePlaces.{place_at}
use Rattle.plans.specs.PlanReport.{coflows_of, line_of}

-- where ids differ, the id of a coflow names it
named_again : (ids : List ℕ) (c : ℕ) → IsDistinct ids → c < length ids → coflow_with ids (slice_index ids c) ≡ c
named_again ids c once lt = place_at ids c once lt

module _ (ids : List ℕ) (flows : List Flow) (slots : List (List ℕ)) (once : IsDistinct ids) where
  abbrev line : Place → PlaceLine
  line x = line_of ids flows slots x

  entries_again : (order : List Place) → All (λ (x : Place). x.coflow < length ids) order → map (entry_for ids) (map line order) ≡ map entry_of order
  entries_again [] within = refl
  entries_again (x ∷ xs) within =
      let here : entry_for ids (line x) ≡ entry_of x =
      ap (λ c. entry_with c (line x)) (named_again ids x.coflow once (All-head (λ (x : Place). x.coflow < length ids) x xs within)) in
      ap (λ (e : Entry). e ∷ map (entry_for ids) (map line xs)) here ∙
      ap (λ (l : List Entry). entry_of x ∷ l) (entries_again xs (All-tail (λ (x : Place). x.coflow < length ids) x xs within))

  pub certificate_again : (order : List Place) → All (λ (x : Place). x.coflow < length ids) order → certificate_in ids (map line order) ≡ entries_of order
  certificate_again order within = ap reverse (entries_again order within) ∙ sym (map_reverse entry_of order)

  pub coflows_again : (order : List Place) → All (λ (x : Place). x.coflow < length ids) order → coflows_in ids (map line order) ≡ coflows_of order
  coflows_again [] within = refl
  coflows_again (x ∷ xs) within =
      ap (λ (c : ℕ). c ∷ coflows_in ids (map line xs)) (named_again ids x.coflow once (All-head (λ (x : Place). x.coflow < length ids) x xs within))
      ∙ ap (λ (l : List ℕ). x.coflow ∷ l) (coflows_again xs (All-tail (λ (x : Place). x.coflow < length ids) x xs within))

-- numbers of the coflows of the places
pub real_along : (f : ℕ → ℕ) (order : List Place) → AreReal (coflows_of order) (map (λ (x : Place). f x.coflow) order) f
real_along f [] k lt = absurd (omega arith)
real_along f (x ∷ xs) zero lt = refl
real_along f (x ∷ xs) (suc k) lt = real_along f xs k (omega arith)

pub ends_again : (ids : List ℕ) (flows : List Flow) (slots : List (List ℕ)) (order : List Place) →
    ends_in (map (line_of ids flows slots) order) ≡ map (λ (x : Place). completion flows slots x.coflow) order
ends_again ids flows slots [] = refl
ends_again ids flows slots (x ∷ xs) = ap (λ (l : List ℕ). completion flows slots x.coflow ∷ l) (ends_again ids flows slots xs)
