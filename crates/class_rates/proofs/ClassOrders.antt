-- Orders by class, and schedules that are patient for one.
use Rattle.std.proofs.Common.{◌≡◌, ℕ, ◌≤◌, ◌<◌, inl, inr, List, [], ◌∷◌, length, get_or, Contains, refl, sym, ap, subst, ◌∙◌, arith, suc}
use Rattle.std.specs.Prelude.{AllPairs}
use Rattle.std.proofs.lemmas.Bool.{cases_lt}
use Rattle.std.proofs.lemmas.List.{get_or_default}
use Rattle.std.proofs.lemmas.List.Elements.{All-contains}
use Rattle.coflow_units.specs.declared.fabric.Flow.{Flow}
use Rattle.coflow_units.specs.Flows.{IsDistinct, coflow_of}
use Rattle.coflow_units.specs.Grants.{place_in}
use Rattle.coflow_units.specs.Patient.{IsPatient, IsServedOrWaits}
use Rattle.coflow_units.specs.Schedule.{IsClear, IsValid}
use Rattle.coflow_units.specs.Served.{IsServed}
use Rattle.coflow_units.proofs.LinePlaces.{at_place, place_of_member}
use Rattle.coflow_units.proofs.ServedLaws.{served_patient, served_valid}
use Rattle.coflow_units.proofs.Sums.{first_or_tail, in_first, in_tail, nothing_in}
use Rattle.class_rates.specs.Classes.{ClassBefore, IsClassOrder, RisesAlong}
use Rattle.class_rates.specs.ClassPatient.{IsClassPatient, IsServedOrWaitsByClass}

pub head_before : (class : ℕ → ℕ) (x c : ℕ) (xs : List ℕ) → AllPairs (ClassBefore class) (x ∷ xs) → Contains xs c → ClassBefore class x c
head_before class x c xs sorted (k, lt, at) = subst (ClassBefore class x) at (sorted 0 (suc k) c (omega arith) (omega arith))

pub tail_sorted : (class : ℕ → ℕ) (x : ℕ) (xs : List ℕ) → AllPairs (ClassBefore class) (x ∷ xs) → AllPairs (ClassBefore class) xs
tail_sorted class x xs sorted = λ i j d lt in'. sorted (suc i) (suc j) d (omega arith) (omega arith)

not_both : (class : ℕ → ℕ) (x y : ℕ) → ClassBefore class x y → ClassBefore class y x → ⊥
not_both class x y (inl a) (inl b) = omega arith
not_both class x y (inl a) (inr (e, b)) = omega (arith, e)
not_both class x y (inr (e, a)) (inl b) = omega (arith, e)
not_both class x y (inr (e, a)) (inr (f, b)) = omega arith

not_itself : (class : ℕ → ℕ) (x y : ℕ) → x ≡ y → ClassBefore class x y → ⊥
not_itself class x y e (inl a) = omega (arith, ap class e)
not_itself class x y e (inr (f, a)) = omega (arith, e)

same_heads : (class : ℕ → ℕ) (x y : ℕ) (xs ys : List ℕ) → AllPairs (ClassBefore class) (x ∷ xs) → AllPairs (ClassBefore class) (y ∷ ys) →
    Contains (y ∷ ys) x → Contains (x ∷ xs) y → x ≡ y
same_heads class x y xs ys sa sb to from = elim (first_or_tail y ys x to) [
  | inl e ↦ sym e
  | inr later ↦ elim (first_or_tail x xs y from) [
    | inl e ↦ e
    | inr after ↦ absurd (not_both class x y (head_before class x y xs sa after) (head_before class y x ys sb later))
  ]
]

-- a member of the tail is one of the other tail, where the heads are the same
into_tail : (class : ℕ → ℕ) (x y c : ℕ) (xs ys : List ℕ) → AllPairs (ClassBefore class) (x ∷ xs) → x ≡ y → Contains xs c → Contains (y ∷ ys) c → Contains ys c
into_tail class x y c xs ys sorted e has in' = elim (first_or_tail y ys c in') [
  | inl same ↦ absurd (not_itself class x c (e ∙ same) (head_before class x c xs sorted has))
  | inr later ↦ later
]

same_sorted : (class : ℕ → ℕ) (a b : List ℕ) → AllPairs (ClassBefore class) a → AllPairs (ClassBefore class) b → ((c : ℕ) → Contains a c → Contains b c) →
    ((c : ℕ) → Contains b c → Contains a c) → a ≡ b
same_sorted class [] [] sa sb to from = refl
same_sorted class [] (y ∷ ys) sa sb to from = absurd (nothing_in y (from y (in_first y ys)))
same_sorted class (x ∷ xs) [] sa sb to from = absurd (nothing_in x (to x (in_first x xs)))
same_sorted class (x ∷ xs) (y ∷ ys) sa sb to from =
    let e : x ≡ y = same_heads class x y xs ys sa sb (to x (in_first x xs)) (from y (in_first y ys)) in
    let tails : xs ≡ ys = same_sorted class xs ys (tail_sorted class x xs sa) (tail_sorted class y ys sb)
    (λ c has. into_tail class x y c xs ys sa e has (to c (in_tail x xs c has)))
    (λ c has. into_tail class y x c ys xs sb (sym e) has (from c (in_tail y ys c has))) in
    ap (λ z. z ∷ xs) e ∙ ap (λ zs. y ∷ zs) tails

-- a class order repeats no coflow
pub order_distinct : (class : ℕ → ℕ) (order : List ℕ) → AllPairs (ClassBefore class) order → IsDistinct order
order_distinct class order sorted = λ i j d lt in' e. not_itself class _ _ e (sorted i j d lt in')

pub order_is_one : (coflows : List ℕ) (class : ℕ → ℕ) (a b : List ℕ) → IsClassOrder coflows class a → IsClassOrder coflows class b → a ≡ b
order_is_one coflows class a b oa ob = same_sorted class a b oa.sorted ob.sorted
    (λ c has. ob.all c (All-contains (Contains coflows) a c oa.coflow has))
    (λ c has. oa.all c (All-contains (Contains coflows) b c ob.coflow has))

pub no_later : (class : ℕ → ℕ) (c d : ℕ) → ClassBefore class c d → class c ≤ class d
no_later class c d (inl a) = omega arith
no_later class c d (inr (e, a)) = omega (arith, e)

-- classes that agree order alike
pub before_as : (f g : ℕ → ℕ) (x y : ℕ) → f x ≡ g x → f y ≡ g y → ClassBefore f x y → ClassBefore g x y
before_as f g x y ex ey (inl a) = inl (omega (arith, ex, ey, a))
before_as f g x y ex ey (inr (e, a)) = inr (sym ex ∙ e ∙ ey, a)

-- classes rise along a class order
classes_rise : (class : ℕ → ℕ) (order : List ℕ) (c d : ℕ) → AllPairs (ClassBefore class) order → Contains order c → Contains order d →
    place_in order c ≤ place_in order d → class c ≤ class d
classes_rise class order c d sorted hc hd le =
    let lc = place_of_member order c hc in
    let ld = place_of_member order d hd in
    let ac : get_or order (place_in order c) d ≡ c = get_or_default order (place_in order c) d c lc ∙ at_place order c lc in
    let ad : get_or order (place_in order d) d ≡ d = at_place order d ld in
    elim (cases_lt (place_in order c) (place_in order d)) [
      | inl lt ↦ omega (arith, ap class ac, ap class ad, no_later class _ _ (sorted (place_in order c) (place_in order d) d lt ld))
      | inr ge ↦
          let same : place_in order c ≡ place_in order d = omega arith in
          let e : c ≡ d = sym ac ∙ ap (λ k. get_or order k d) same ∙ ad in
          omega (arith, ap class e)
    ]

keeps_class : (flows : List Flow) (class : ℕ → ℕ) (order slot : List ℕ) (f : ℕ) → RisesAlong class order → ((f : ℕ) → f < length flows → Contains order (coflow_of flows f)) →
    IsClear flows slot → f < length flows → IsServedOrWaits flows order slot f → IsServedOrWaitsByClass flows class slot f
keeps_class flows class order slot f rises known clear lt (inl has) = inl has
keeps_class flows class order slot f rises known clear lt (inr (g, has, shares, le)) =
    let in' : g < length flows = All-contains (λ x. x < length flows) slot g clear.flow has in
    inr (g, has, shares, rises (coflow_of flows g) (coflow_of flows f) (known g in') (known f lt) le)

pub along_law : (flows : List Flow) (class : ℕ → ℕ) (order : List ℕ) (slots : List (List ℕ)) → RisesAlong class order →
    ((f : ℕ) → f < length flows → Contains order (coflow_of flows f)) → IsValid flows slots → IsPatient flows order slots → IsClassPatient flows class slots
along_law flows class order slots rises known valid patient = λ t f in' lt left.
    keeps_class flows class order (get_or slots t []) f rises known (valid.clear t [] in') lt (patient t f in' lt left)

pub patient_law : (flows : List Flow) (coflows : List ℕ) (class : ℕ → ℕ) (order : List ℕ) (slots : List (List ℕ)) → IsClassOrder coflows class order →
    ((f : ℕ) → f < length flows → Contains coflows (coflow_of flows f)) → IsValid flows slots → IsPatient flows order slots → IsClassPatient flows class slots
patient_law flows coflows class order slots by known valid patient =
    along_law flows class order slots (λ c d. classes_rise class order c d by.sorted) (λ f lt. by.all _ (known f lt)) valid patient

pub served_law : (flows : List Flow) (coflows : List ℕ) (class : ℕ → ℕ) (order : List ℕ) (slots : List (List ℕ)) → IsClassOrder coflows class order →
    ((f : ℕ) → f < length flows → Contains coflows (coflow_of flows f)) → IsServed flows order slots → IsClassPatient flows class slots
served_law flows coflows class order slots by known served =
    patient_law flows coflows class order slots by known (served_valid flows order slots served) (served_patient flows order slots served)
