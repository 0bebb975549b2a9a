-- Which flows stand in a slot, by the slots before it.
use Rattle.std.proofs.Common.{◌≡◌, ℕ, ◌+◌, ◌-◌, ◌≤◌, ◌<◌, ◌⊎◌, inl, inr, List, [], ◌∷◌, ◌++◌, length, get_or, Contains, refl, sym, ap, subst, ◌∙◌, arith}
use Rattle.std.specs.Prelude.{All}
use Rattle.std.proofs.lemmas.List.{get_or_at, get_or_append_left, length-append}
use Rattle.std.proofs.lemmas.List.Elements.{All-contains}
use Rattle.coflow_units.specs.declared.fabric.Flow.{Flow}
use Rattle.schedule_model.specs.RunList.{NamesFlows}
use Rattle.schedule_model.specs.Fault.{IsFirstNoFlow, StandsIn}

pub stands_here : (before rest : List (List ℕ)) (h : List ℕ) (f : ℕ) → Contains h f → StandsIn (before ++ (h ∷ rest)) (length before + 1) f
stands_here before rest h f has =
    let e : length before ≡ length before + 1 - 1 = omega arith in
    let at : h ≡ get_or (before ++ (h ∷ rest)) (length before + 1 - 1) [] = sym (get_or_at before h rest [] (length before) refl) ∙
    ap (λ n. get_or (before ++ (h ∷ rest)) n []) e in
    record { counted = omega arith; inside = omega (arith, length-append before (h ∷ rest)); has = subst (λ s. Contains s f) at has }

pub stands_before : (before rest : List (List ℕ)) (t f : ℕ) → StandsIn (before ++ rest) t f → t ≤ length before → Contains (get_or before (t - 1) []) f
stands_before before rest t f stands le =
    let lt : t - 1 < length before = omega (arith, stands.counted) in
    subst (λ s. Contains s f) (get_or_append_left before rest [] (t - 1) lt) stands.has

pub stands_at : (before rest : List (List ℕ)) (h : List ℕ) (t f : ℕ) → StandsIn (before ++ (h ∷ rest)) t f → t ≡ length before + 1 → Contains h f
stands_at before rest h t f stands e =
    let place : length before ≡ t - 1 = omega arith in
    subst (λ s. Contains s f) (ap (λ n. get_or (before ++ (h ∷ rest)) n []) (sym place) ∙ get_or_at before h rest [] (length before) refl) stands.has

-- a slot comes before, is this one, or comes after
pub which_slot : (t n : ℕ) → (t ≤ n) ⊎ ((t ≡ n + 1) ⊎ (n + 1 < t))
which_slot t n = grind arith

-- a fact of each slot, at a slot before
pub slot_before : (P : List ℕ → Type 0) (before : List (List ℕ)) (t : ℕ) → All P before → 1 ≤ t → t ≤ length before → P (get_or before (t - 1) [])
slot_before P before t all some le = all (t - 1) [] (omega arith)

-- the first number that is no flow's
pub first_no_flow : (flows : List Flow) (before rest : List (List ℕ)) (h : List ℕ) (f : ℕ) → NamesFlows (length flows) before → Contains h f → length flows ≤ f →
    ((g : ℕ) → Contains h g → length flows ≤ g → f ≤ g) →
    IsFirstNoFlow flows (before ++ (h ∷ rest)) (length before + 1) f
first_no_flow flows before rest h f names has out least = record {
  stands = stands_here before rest h f has;
  no_flow = out;
  first = λ t g stands none. elim (which_slot t (length before)) [
    | inl le ↦ absurd (omega (
      arith,
      none,
      All-contains (λ x. x < length flows) (get_or before (t - 1) []) g (slot_before (All (λ x. x < length flows)) before t names stands.counted le)
          (stands_before before (h ∷ rest) t g stands le),
    ))
    | inr later ↦ elim later [
      | inl e ↦ inr (sym e, least g (stands_at before rest h t g stands e) none)
      | inr lt ↦ inl lt
    ]
  ];
}
