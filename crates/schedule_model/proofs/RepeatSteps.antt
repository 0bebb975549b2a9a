-- The ports that two flows of a slot use, one flow more.
use Rattle.std.proofs.Common.{◌≡◌, ℕ, ◌+◌, ◌≤◌, ◌<◌, ◌⊎◌, inl, inr, Bool, false, List, [], ◌∷◌, length, get_or, take, Contains, sym, ap, subst, ◌∙◌, arith}
use Rattle.std.specs.Prelude.{IsTrue, MatchOption, Option, Some, None}
use Rattle.std.specs.List.Sorted.{IsStrictlyIncreasing}
use Rattle.std.proofs.lemmas.List.{take_more}
use Rattle.std.proofs.lemmas.List.Elements.{Contains-append_left, Contains-push, Contains-push_cases}
use Rattle.coflow_units.specs.declared.fabric.Flow.{Flow}
use Rattle.coflow_units.specs.declared.fabric.Side.{Side}
use Rattle.schedule_model.specs.Repeat.{IsTaken, Repeats, Uses, end_number}
use Rattle.schedule_model.proofs.Ascending.{above_earlier}

-- the members of a list, one more
pub in_more : (xs : List ℕ) (k f : ℕ) → k < length xs → Contains (take (k + 1) xs) f → Contains (take k xs) f ⊎ (get_or xs k 0 ≡ f)
in_more xs k f lt has = Contains-push_cases (take k xs) (get_or xs k 0) f (subst (λ l. Contains l f) (take_more xs k 0 lt) has)

pub in_earlier : (xs : List ℕ) (k f : ℕ) → k < length xs → Contains (take k xs) f → Contains (take (k + 1) xs) f
in_earlier xs k f lt has = subst (λ l. Contains l f) (sym (take_more xs k 0 lt)) (Contains-append_left (take k xs) (get_or xs k 0 ∷ []) f has)

pub in_here : (xs : List ℕ) (k : ℕ) → k < length xs → Contains (take (k + 1) xs) (get_or xs k 0)
in_here xs k lt = subst (λ l. Contains l (get_or xs k 0)) (sym (take_more xs k 0 lt)) (Contains-push (take k xs) (get_or xs k 0))

-- the ports that the flows of a list use, one more
pub uses_earlier : (flows : List Flow) (side : Side) (slot : List ℕ) (k q : ℕ) → k < length slot → Uses flows side (take k slot) q → Uses flows side (take (k + 1) slot) q
uses_earlier flows side slot k q lt (f, has, at) = (f, in_earlier slot k f lt has, at)

pub uses_here : (flows : List Flow) (side : Side) (slot : List ℕ) (k q : ℕ) → k < length slot → q ≡ end_number flows side (get_or slot k 0) → Uses flows side (take (k + 1) slot) q
uses_here flows side slot k q lt e = (get_or slot k 0, in_here slot k lt, sym e)

pub uses_split : (flows : List Flow) (side : Side) (slot : List ℕ) (k q : ℕ) → k < length slot → Uses flows side (take (k + 1) slot) q →
    Uses flows side (take k slot) q ⊎ (end_number flows side (get_or slot k 0) ≡ q)
uses_split flows side slot k q lt (f, has, at) = elim (in_more slot k f lt has) [
  | inl before ↦ inl (f, before, at)
  | inr here ↦ inr (ap (end_number flows side) here ∙ at)
]

repeats_earlier : (flows : List Flow) (side : Side) (slot : List ℕ) (k q : ℕ) → k < length slot → Repeats flows side (take k slot) q → Repeats flows side (take (k + 1) slot) q
repeats_earlier flows side slot k q lt twice = record {
  one = twice.one;
  other = twice.other;
  apart = twice.apart;
  has_one = in_earlier slot k twice.one lt twice.has_one;
  has_other = in_earlier slot k twice.other lt twice.has_other;
  one_uses = twice.one_uses;
  other_uses = twice.other_uses;
}

repeats_split : (flows : List Flow) (side : Side) (slot : List ℕ) (k q : ℕ) → k < length slot → Repeats flows side (take (k + 1) slot) q →
    Repeats flows side (take k slot) q ⊎ (Uses flows side (take k slot) q × (end_number flows side (get_or slot k 0) ≡ q))
repeats_split flows side slot k q lt twice = elim (in_more slot k twice.one lt twice.has_one) [
  | inl one ↦ elim (in_more slot k twice.other lt twice.has_other) [
    | inl other ↦ inl (record {
      one = twice.one;
      other = twice.other;
      apart = twice.apart;
      has_one = one;
      has_other = other;
      one_uses = twice.one_uses;
      other_uses = twice.other_uses;
    })
    | inr e ↦ inr ((twice.one, one, twice.one_uses), ap (end_number flows side) e ∙ twice.other_uses)
  ]
  | inr e ↦ elim (in_more slot k twice.other lt twice.has_other) [
    | inl other ↦ inr ((twice.other, other, twice.other_uses), ap (end_number flows side) e ∙ twice.one_uses)
    | inr e' ↦ absurd (twice.apart (sym e ∙ e'))
  ]
]

repeats_here : (flows : List Flow) (side : Side) (slot : List ℕ) (k p : ℕ) → IsStrictlyIncreasing slot → k < length slot → p ≡ end_number flows side (get_or slot k 0) →
    Uses flows side (take k slot) p → Repeats flows side (take (k + 1) slot) p
repeats_here flows side slot k p up lt e (g, has, at) = record {
  one = g;
  other = get_or slot k 0;
  apart = λ same. omega (arith, above_earlier slot k g up lt has, same);
  has_one = in_earlier slot k g lt has;
  has_other = in_here slot k lt;
  one_uses = at;
  other_uses = sym e;
}

-- the ports that are taken already, one flow more
taken_earlier : (flows : List Flow) (side : Side) (used : List Bool) (slot : List ℕ) (k q : ℕ) → k < length slot → IsTaken flows side used (take k slot) q →
    IsTaken flows side used (take (k + 1) slot) q
taken_earlier flows side used slot k q lt (inl (on, uses)) = inl (on, uses_earlier flows side slot k q lt uses)
taken_earlier flows side used slot k q lt (inr twice) = inr (repeats_earlier flows side slot k q lt twice)

taken_here : (flows : List Flow) (side : Side) (used : List Bool) (slot : List ℕ) (k p : ℕ) → IsStrictlyIncreasing slot → k < length slot →
    p ≡ end_number flows side (get_or slot k 0) → IsTrue (get_or used p false) ⊎ Uses flows side (take k slot) p → IsTaken flows side used (take (k + 1) slot) p
taken_here flows side used slot k p up lt e (inl on) = inl (on, uses_here flows side slot k p lt e)
taken_here flows side used slot k p up lt e (inr uses) = inr (repeats_here flows side slot k p up lt e uses)

taken_split : (flows : List Flow) (side : Side) (used : List Bool) (slot : List ℕ) (k q : ℕ) → k < length slot → IsTaken flows side used (take (k + 1) slot) q →
    IsTaken flows side used (take k slot) q ⊎ ((IsTrue (get_or used q false) ⊎ Uses flows side (take k slot) q) × (end_number flows side (get_or slot k 0) ≡ q))
taken_split flows side used slot k q lt (inl (on, uses)) = elim (uses_split flows side slot k q lt uses) [
  | inl before ↦ inl (inl (on, before))
  | inr here ↦ inr (inl on, here)
]
taken_split flows side used slot k q lt (inr twice) = elim (repeats_split flows side slot k q lt twice) [
  | inl before ↦ inl (inr before)
  | inr here ↦ inr (inr here.0, here.1)
]

-- no number, or the least one, has the property
abbrev pub IsLeast : (ℕ → Type 0) → Option ℕ → Type 0
IsLeast P least = MatchOption least ((p : ℕ) → P p → ⊥) (λ p. P p × ((q : ℕ) → P q → p ≤ q))

pub same_least : (P Q : ℕ → Type 0) (least : Option ℕ) → ((q : ℕ) → P q → Q q) → ((q : ℕ) → Q q → P q) → IsLeast P least → IsLeast Q least
same_least P Q None to from is = λ p has. is p (from p has)
same_least P Q (Some p) to from is = (to p is.0, (λ q has. is.1 q (from q has)))

-- the port of the flow was free
pub least_stays : (flows : List Flow) (side : Side) (used : List Bool) (slot : List ℕ) (k p : ℕ) (least : Option ℕ) → k < length slot →
    p ≡ end_number flows side (get_or slot k 0) → (IsTrue (get_or used p false) ⊎ Uses flows side (take k slot) p → ⊥) →
    IsLeast (IsTaken flows side used (take k slot)) least → IsLeast (IsTaken flows side used (take (k + 1) slot)) least
least_stays flows side used slot k p least lt e free is =
    same_least (IsTaken flows side used (take k slot)) (IsTaken flows side used (take (k + 1) slot)) least (λ q taken. taken_earlier flows side used slot k q lt taken)
    (λ q taken. elim (taken_split flows side used slot k q lt taken) [
      | inl before ↦ before
      | inr here ↦ absurd (free (subst (λ n. IsTrue (get_or used n false) ⊎ Uses flows side (take k slot) n) (sym (e ∙ here.1)) here.0))
    ]) is

-- the port of the flow was taken
pub least_falls : (flows : List Flow) (side : Side) (used : List Bool) (slot : List ℕ) (k p m : ℕ) (least : Option ℕ) → IsStrictlyIncreasing slot → k < length slot →
    p ≡ end_number flows side (get_or slot k 0) → IsTrue (get_or used p false) ⊎ Uses flows side (take k slot) p →
    IsLeast (IsTaken flows side used (take k slot)) least → m ≤ p → MatchOption least (m ≡ p) (λ b. (m ≤ b) × ((m ≡ b) ⊎ (m ≡ p))) →
    IsTaken flows side used (take (k + 1) slot) m × ((q : ℕ) → IsTaken flows side used (take (k + 1) slot) q → m ≤ q)
least_falls flows side used slot k p m None up lt e before is le which = (
  subst (IsTaken flows side used (take (k + 1) slot)) (sym which) (taken_here flows side used slot k p up lt e before),
  (λ q taken. elim (taken_split flows side used slot k q lt taken) [
    | inl earlier ↦ absurd (is q earlier)
    | inr here ↦ omega (arith, le, e, here.1)
  ]),
)
least_falls flows side used slot k p m (Some b) up lt e before is le which = (
  elim which.1 [
    | inl same ↦ subst (IsTaken flows side used (take (k + 1) slot)) (sym same) (taken_earlier flows side used slot k b lt is.0)
    | inr same ↦ subst (IsTaken flows side used (take (k + 1) slot)) (sym same) (taken_here flows side used slot k p up lt e before)
  ],
  (λ q taken. elim (taken_split flows side used slot k q lt taken) [
    | inl earlier ↦ omega (arith, which.0, is.1 q earlier)
    | inr here ↦ omega (arith, le, e, here.1)
  ]),
)
