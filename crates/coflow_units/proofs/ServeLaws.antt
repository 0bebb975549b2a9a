-- A served schedule is the only one.
use Rattle.std.proofs.Common.{◌≡◌, ℕ, ◌+◌, ◌≤◌, ◌<◌, inl, inr, List, [], ◌∷◌, ◌++◌, length, take, refl, sym, ap, subst, ◌∙◌, arith, zero, suc}
use Rattle.std.specs.List.{slice_index_or}
use Rattle.std.proofs.lemmas.List.{take_more, take_all}
use Rattle.coflow_units.specs.declared.fabric.Flow.{Flow}
use Rattle.coflow_units.specs.Grants.{IsGrants}
use Rattle.coflow_units.specs.Served.{IsServed, IsServedSoFar, left_after}
use Rattle.coflow_units.proofs.GrantLaws.{one_grants}
use Rattle.coflow_units.proofs.Numbers.{compare}

-- two schedules that serve one line so far are the same as far as both go
pub same_front : (flows : List Flow) (line : List ℕ) (a b : List (List ℕ)) → IsServedSoFar flows line a → IsServedSoFar flows line b → (t : ℕ) → t ≤ length a → t ≤ length b →
    take t a ≡ take t b
same_front flows line a b sa sb zero la lb = refl
same_front flows line a b sa sb (suc t) la lb =
    let before = same_front flows line a b sa sb t (omega arith) (omega arith) in
    let one : slice_index_or a t [] ≡ slice_index_or b t [] =
    one_grants flows line (left_after flows (take t b)) _ _ (subst (λ x. IsGrants flows line (left_after flows x) (slice_index_or a t [])) before (sa.grants t (omega arith)))
    (sb.grants t (omega arith)) in
    let next : suc t ≡ t + 1 = omega arith in
    ap (λ n. take n a) next ∙ take_more a t [] (omega arith) ∙ ap (λ x. x ++ slice_index_or a t [] ∷ []) before ∙ ap (λ x. take t b ++ x ∷ []) one ∙
    sym (ap (λ n. take n b) next ∙ take_more b t [] (omega arith))

-- a schedule that has ended is not the front of a longer one
not_longer : (flows : List Flow) (line : List ℕ) (a b : List (List ℕ)) → IsServed flows line a → IsServed flows line b → length a < length b → ⊥
not_longer flows line a b sa sb lt =
    let front : a ≡ take (length a) b = sym (take_all (length a) a (omega arith)) ∙ same_front flows line a b sa.so_far sb.so_far (length a) (omega arith) (omega arith) in
    let owed = sb.so_far.owed (length a) lt in
    let none : left_after flows (take (length a) b) owed.0 ≡ 0 = subst (λ x. left_after flows x owed.0 ≡ 0) front (sa.ended owed.0 owed.1) in
    omega (arith, none, owed.2)

pub one_served : (flows : List Flow) (line : List ℕ) (a b : List (List ℕ)) → IsServed flows line a → IsServed flows line b → a ≡ b
one_served flows line a b sa sb = elim (compare (length a) (length b)) [
  | inl h ↦ absurd (not_longer flows line a b sa sb h)
  | inr rest ↦ elim rest [
    | inl e ↦ sym (take_all (length a) a (omega arith)) ∙ same_front flows line a b sa.so_far sb.so_far (length a) (omega arith) (omega arith) ∙ take_all (length a) b (omega arith)
    | inr h ↦ absurd (not_longer flows line b a sb sa h)
  ]
]
