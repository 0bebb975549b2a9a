-- Completions as a list by coflow.
use Rattle.std.proofs.Common.{◌≡◌, ℕ, ◌+◌, ◌<◌, List, length, get_or, map, sym, ap, subst, ◌∙◌, arith}
use Rattle.std.specs.Prelude.{All, Option, slice_index}
use Rattle.std.specs.List.{range_with_len}
use Rattle.std.proofs.lemmas.List.{get_or-map, length-map}
use Rattle.std.proofs.lemmas.List.FromFn.{get_or-range_with_len, length-range_with_len}
use Rattle.coflow_units.specs.declared.fabric.Flow.{Flow}
use Rattle.coflow_units.specs.Completion.{completion, cost}
use Rattle.schedule_model.specs.declared.fault.ScheduleFault.{ScheduleFault}
use Rattle.schedule_model.specs.Fault.{IsFirstFault}
use Rattle.schedule_model.specs.Weights.{weighted_cost}
use Rattle.cert_check.specs.Stated.{AreReal, IsLeastWrong}

-- the list has the numbers for all coflows below n
abbrev pub AreOf : List ℕ → (ℕ → ℕ) → ℕ → Type 0
AreOf xs f n = xs ≡ map f (range_with_len 0 n)

pub count_of : (xs : List ℕ) (f : ℕ → ℕ) (n : ℕ) → AreOf xs f n → length xs ≡ n
count_of xs f n e = ap (λ l. length l) e ∙ length-map (range_with_len 0 n) f ∙ length-range_with_len 0 n

pub number_at : (xs : List ℕ) (f : ℕ → ℕ) (n c : ℕ) → AreOf xs f n → c < n → slice_index xs c ≡ f c
number_at xs f n c e lt =
    let within : c < length (range_with_len 0 n) = omega (arith, length-range_with_len 0 n) in
    let place : 0 + c ≡ c = omega arith in
    ap (λ l. get_or l c 0) e ∙ get_or-map f (range_with_len 0 n) c 0 0 within ∙ ap f (get_or-range_with_len 0 n c 0 lt ∙ place)

pub real_along : (coflows stated xs : List ℕ) (f : ℕ → ℕ) (n : ℕ) → AreOf xs f n → All (λ c. c < n) coflows → AreReal coflows stated (slice_index xs) → AreReal coflows stated f
real_along coflows stated xs f n e within real k lt = real k lt ∙ number_at xs f n (slice_index coflows k) e (within k 0 lt)

pub least_along : (coflows stated xs : List ℕ) (f : ℕ → ℕ) (n coflow said is : ℕ) → AreOf xs f n → All (λ c. c < n) coflows →
    IsLeastWrong coflows stated (slice_index xs) coflow said is → IsLeastWrong coflows stated f coflow said is
least_along coflows stated xs f n coflow said is e within wrong = record {
  place = wrong.place;
  inside = wrong.inside;
  of_coflow = wrong.of_coflow;
  says = wrong.says;
  should = sym (number_at xs f n coflow e (subst (λ c. c < n) wrong.of_coflow (within wrong.place 0 wrong.inside))) ∙ wrong.should;
  differ = wrong.differ;
  least = λ k lt less. wrong.least k lt less ∙ number_at xs f n (slice_index coflows k) e (within k 0 lt);
}

-- the cost, by what is known of it where the list has a completion for each weight
pub cost_is : (flows : List Flow) (slots : List (List ℕ)) (weights ends : List ℕ) (n total : ℕ) → AreOf ends (completion flows slots) n → length weights ≡ n →
    (AreOf ends (completion flows slots) (length weights) → total ≡ weighted_cost flows weights slots) → total ≡ cost flows (λ c. slice_index weights c) (range_with_len 0 n) slots
cost_is flows slots weights ends n total e count by_ends =
    by_ends (subst (AreOf ends (completion flows slots)) (sym count) e) ∙ ap (λ m. cost flows (λ c. slice_index weights c) (range_with_len 0 m) slots) count

-- completions as they were computed
pub ends_are : (flows lent : List Flow) (slots : List (List ℕ)) (ends given : List ℕ) (n count : ℕ) → lent ≡ flows → count ≡ n → given ≡ ends →
    ends ≡ map (λ c. completion lent slots c) (range_with_len 0 count) → AreOf given (completion flows slots) n
ends_are flows lent slots ends given n count f m g e =
    g ∙ e ∙ ap (λ (l : List Flow). map (λ c. completion l slots c) (range_with_len 0 count)) f ∙
    ap (λ k. map (λ c. completion flows slots c) (range_with_len 0 k)) m

pub fault_along : (flows lent : List Flow) (slots : List (List ℕ)) (a b : Option ScheduleFault) → lent ≡ flows → a ≡ b → IsFirstFault lent slots a → IsFirstFault flows slots b
fault_along flows lent slots a b f e first =
    subst (λ (o : Option ScheduleFault). IsFirstFault flows slots o) e (subst (λ (l : List Flow). IsFirstFault l slots a) f first)
