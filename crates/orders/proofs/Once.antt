-- An order that passes has each coflow once.
use Rattle.std.proofs.Common.{◌≡◌, ℕ, ◌≤◌, ◌<◌, Bool, true, false, List, [], ◌∷◌, ◌++◌, None, length, Contains, inl, inr, refl, sym, ap, subst, ◌∙◌, arith, true≢false}
use Rattle.std.specs.Prelude.{All, ◌==◌, get_or}
use Rattle.std.specs.List.{list_any, range_with_len}
use Rattle.std.proofs.lemmas.Bool.{eqb-true}
use Rattle.std.proofs.lemmas.List.{length-map}
use Rattle.std.proofs.lemmas.List.Elements.{All-contains, Contains-push}
use Rattle.std.proofs.lemmas.List.FromFn.{length-range_with_len}
use Rattle.coflow_units.specs.Flows.{IsDistinct}
use Rattle.coflow_units.specs.Grants.{place_in}
use Rattle.coflow_units.proofs.LinePlaces.{at_place_zero, place_of_member}
use Rattle.coflow_units.proofs.Lists.{number_in}
use Rattle.coflow_units.proofs.Sums.{Apart, all_of_members, any_has, any_in, first_or_tail, in_first, in_tail, members_at_most, nothing_in, pairs_from_apart, sum_ones}
use Rattle.orders.specs.Checks.{count_checks, id_of, line_checks, lines_checks}
use Rattle.orders.specs.Orders.{order_in, text_checks}
use Rattle.orders.proofs.LineLists.{line_passed, lines_passed, numbers_of}
use Rattle.text_fields.specs.Checks.{first_fault}
use Rattle.text_fields.specs.Fields.{Text}
use Rattle.text_fields.specs.Lines.{Line, lines_of}
use Rattle.text_fields.proofs.CheckLists.{all_hold, passed_parts}

-- Ids of one place are one.
same_place : (ids : List ℕ) (a b : ℕ) → Contains ids a → Contains ids b → place_in ids a ≡ place_in ids b → a ≡ b
same_place ids a b has_a has_b e =
    sym (at_place_zero ids a (place_of_member ids a has_a)) ∙ (ap (λ (k : ℕ). get_or ids k 0) e ∙ at_place_zero ids b (place_of_member ids b has_b))

-- A number of the lines is that of a line.
from_line : (ids : List ℕ) (lines : List Line) (n : ℕ) → Contains (numbers_of ids lines) n → (x : Line) × Contains lines x × (place_in ids (id_of x) ≡ n)
from_line ids [] n has = absurd (nothing_in n has)
from_line ids (line ∷ lines) n has = elim (first_or_tail (place_in ids (id_of line)) (numbers_of ids lines) n has) [
  | inl same ↦ (line, in_first line lines, same)
  | inr later ↦ let (x, in', at) = from_line ids lines n later in (x, in_tail line lines x in', at)
]

-- No number stands twice.
pub once : (ids earlier : List ℕ) (lines : List Line) → first_fault (lines_checks ids earlier lines) ≡ None → Apart (numbers_of ids lines)
once ids earlier [] e = tt
once ids earlier (line ∷ lines) e =
    let parts = passed_parts (line_checks ids earlier line) (lines_checks ids (earlier ++ (id_of line ∷ [])) lines) e in (
      λ has.
          let (x, in', at) = from_line ids lines (place_in ids (id_of line)) has in
          let (known, fresh) = lines_passed ids (earlier ++ (id_of line ∷ [])) lines x parts.1 in' in
          let same = same_place ids (id_of x) (id_of line) known (line_passed ids earlier line parts.0).0 at in
          fresh (subst (λ (n : ℕ). Contains (earlier ++ (id_of line ∷ [])) n) (sym same) (Contains-push earlier (id_of line))),
      once ids (earlier ++ (id_of line ∷ [])) lines parts.1,
    )

-- Each is the number of a coflow.
pub below : (ids earlier : List ℕ) (lines : List Line) → first_fault (lines_checks ids earlier lines) ≡ None → All (λ n. n < length ids) (numbers_of ids lines)
below ids earlier lines e = all_of_members (λ (n : ℕ). n < length ids) (numbers_of ids lines) (λ n has.
    let (x, in', at) = from_line ids lines n has in
    subst (λ (k : ℕ). k < length ids) at (place_of_member ids (id_of x) (lines_passed ids earlier lines x e in').0))

-- Numbers below a bound that differ are at most so many.
few : (xs : List ℕ) (n : ℕ) → Apart xs → All (λ x. x < n) xs → length xs ≤ n
few xs n apart low =
    let most = members_at_most (λ (x : ℕ). 1) xs (range_with_len 0 n) apart
    (λ x has _. number_in 0 n x (omega arith) (omega (arith, All-contains (λ (y : ℕ). y < n) xs x low has))) in
    omega (arith, most, sum_ones xs, sum_ones (range_with_len 0 n), length-range_with_len 0 n)

-- Where they are as many, each number below the bound is there.
all_there : (xs : List ℕ) (n c : ℕ) → Apart xs → All (λ x. x < n) xs → length xs ≡ n → c < n → Contains xs c
all_there xs n c apart low long lt = go (list_any (λ x. x == c) xs) refl
  where
    with_it : All (λ x. x < n) (c ∷ xs)
    with_it = all_of_members (λ (x : ℕ). x < n) (c ∷ xs) (λ x has. elim (first_or_tail c xs x has) [
      | inl same ↦ subst (λ (k : ℕ). k < n) same lt
      | inr later ↦ All-contains (λ (y : ℕ). y < n) xs x low later
    ])

    go : (b : Bool) → list_any (λ x. x == c) xs ≡ b → Contains xs c
    go true t = any_has xs c t
    go false t =
        let more = few (c ∷ xs) n ((λ has. true≢false (sym (any_in xs c has) ∙ t)), apart) with_it in
        absurd (omega (arith, more, long))

pub few_lines : (ids : List ℕ) (lines : List Line) → first_fault (lines_checks ids [] lines) ≡ None → length (numbers_of ids lines) ≤ length ids
few_lines ids lines e = few (numbers_of ids lines) (length ids) (once ids [] lines e) (below ids [] lines e)

module _ (text : Text) (ids : List ℕ) (e : first_fault (text_checks text ids) ≡ None) where
  parts : (first_fault (lines_checks ids [] (lines_of text)) ≡ None) × (first_fault (count_checks (length (lines_of text)) (length ids)) ≡ None)
  parts = passed_parts (lines_checks ids [] (lines_of text)) (count_checks (length (lines_of text)) (length ids)) e

  as_many : length (order_in text ids) ≡ length ids
  as_many =
      length-map (lines_of text) (λ (line : Line). place_in ids (id_of line)) ∙
      eqb-true (length (lines_of text)) (length ids) (all_hold (count_checks (length (lines_of text)) (length ids)) parts.1).0

  pub order_distinct : IsDistinct (order_in text ids)
  order_distinct = pairs_from_apart (order_in text ids) (once ids [] (lines_of text) parts.0)

  pub order_known : All (λ c. c < length ids) (order_in text ids)
  order_known = below ids [] (lines_of text) parts.0

  pub order_all : (c : ℕ) → c < length ids → Contains (order_in text ids) c
  order_all c lt = all_there (order_in text ids) (length ids) c (once ids [] (lines_of text) parts.0) order_known as_many lt
