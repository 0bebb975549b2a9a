-- Flows by coflow, ingress and egress.
use Rattle.std.proofs.Common.{◌≡◌, ℕ, ◌+◌, ◌<◌, ◌⊎◌, inl, inr, Bool, true, false, List, [], ◌∷◌, get_or, length, refl, sym, ap, subst, ◌∙◌, arith, zero, suc}
use Rattle.std.specs.Prelude.{All, ◌==◌, ◌&&◌, if◌then◌else◌}
use Rattle.std.proofs.lemmas.Bool.{and_from, and_parts, cases_order, eq-eqb, eqb-true, false_from_ne_true}
use Rattle.std.proofs.lemmas.List.Elements.{All-head, All-tail}
use Rattle.std.proofs.lemmas.List.Sums.{sum_by-cons}
use Rattle.coflow_units.specs.declared.fabric.Flow.{Flow}
use Rattle.coflow_units.specs.Flows.{FlowBefore}
use Rattle.flow_table.specs.FlowsOf.{IsEarlier, units_between}

abbrev pub key_is : ℕ → ℕ → ℕ → Flow → Bool
key_is c i e x = (x.coflow == c) && ((x.ingress == i) && (x.egress == e))

abbrev pub term : ℕ → ℕ → ℕ → Flow → ℕ
term c i e x = if key_is c i e x then x.units else 0

-- the flows stand in order
abbrev pub InOrder : List Flow → Type 0
InOrder flows = (k : ℕ) (d : Flow) → k + 1 < length flows → FlowBefore (get_or flows k d) (get_or flows (k + 1) d)

pub earlier_trans : (c i e c' i' e' c'' i'' e'' : ℕ) → IsEarlier c i e c' i' e' → IsEarlier c' i' e' c'' i'' e'' → IsEarlier c i e c'' i'' e''
earlier_trans c i e c' i' e' c'' i'' e'' (inl a) (inl b) = inl (omega arith)
earlier_trans c i e c' i' e' c'' i'' e'' (inl a) (inr b) = inl (omega (arith, b.0))
earlier_trans c i e c' i' e' c'' i'' e'' (inr a) (inl b) = inl (omega (arith, a.0))
earlier_trans c i e c' i' e' c'' i'' e'' (inr (a, inl p)) (inr (b, inl q)) = inr (a ∙ b, inl (omega arith))
earlier_trans c i e c' i' e' c'' i'' e'' (inr (a, inl p)) (inr (b, inr q)) = inr (a ∙ b, inl (omega (arith, q.0)))
earlier_trans c i e c' i' e' c'' i'' e'' (inr (a, inr p)) (inr (b, inl q)) = inr (a ∙ b, inl (omega (arith, p.0)))
earlier_trans c i e c' i' e' c'' i'' e'' (inr (a, inr p)) (inr (b, inr q)) = inr (a ∙ b, inr (p.0 ∙ q.0, omega (arith, p.1, q.1)))

-- one comes earlier, or they are the same
abbrev pub IsSame : ℕ → ℕ → ℕ → ℕ → ℕ → ℕ → Type 0
IsSame c i e c' i' e' = (c ≡ c') × (i ≡ i') × (e ≡ e')

pub compared : (c i e c' i' e' : ℕ) → IsEarlier c i e c' i' e' ⊎ (IsEarlier c' i' e' c i e ⊎ IsSame c i e c' i' e')
compared c i e c' i' e' = elim (cases_order c c') [
  | inr (inl lt) ↦ inl (inl lt)
  | inr (inr gt) ↦ inr (inl (inl gt))
  | inl p ↦ elim (cases_order i i') [
    | inr (inl lt) ↦ inl (inr (p, inl lt))
    | inr (inr gt) ↦ inr (inl (inr (sym p, inl gt)))
    | inl q ↦ elim (cases_order e e') [
      | inr (inl lt) ↦ inl (inr (p, inr (q, lt)))
      | inr (inr gt) ↦ inr (inl (inr (sym p, inr (sym q, gt))))
      | inl r ↦ inr (inr (p, q, r))
    ]
  ]
]

pub own_key : (x : Flow) → key_is x.coflow x.ingress x.egress x ≡ true
own_key x = and_from _ _ (eq-eqb x.coflow x.coflow refl) (and_from _ _ (eq-eqb x.ingress x.ingress refl) (eq-eqb x.egress x.egress refl))

pub key_says : (c i e : ℕ) (x : Flow) → key_is c i e x ≡ true → IsSame x.coflow x.ingress x.egress c i e
key_says c i e x h =
    let a = and_parts (x.coflow == c) ((x.ingress == i) && (x.egress == e)) h in
    let b = and_parts (x.ingress == i) (x.egress == e) a.1 in
    (eqb-true x.coflow c a.0, eqb-true x.ingress i b.0, eqb-true x.egress e b.1)

pub other_key : (c i e : ℕ) (x : Flow) → (IsSame x.coflow x.ingress x.egress c i e → ⊥) → key_is c i e x ≡ false
other_key c i e x no' = false_from_ne_true (key_is c i e x) (λ t. no' (key_says c i e x t))

pub earlier_differs : (c i e c' i' e' : ℕ) → IsEarlier c i e c' i' e' → IsSame c i e c' i' e' → ⊥
earlier_differs c i e c' i' e' h s = grind arith

pub later_differs : (c i e c' i' e' : ℕ) → IsEarlier c' i' e' c i e → IsSame c i e c' i' e' → ⊥
later_differs c i e c' i' e' h s = grind arith

pub own_term : (x : Flow) → term x.coflow x.ingress x.egress x ≡ x.units
own_term x = ap (λ b. if b then x.units else 0) (own_key x)

pub no_term : (c i e : ℕ) (x : Flow) → key_is c i e x ≡ false → term c i e x ≡ 0
no_term c i e x h = ap (λ b. if b then x.units else 0) h

-- flows that differ from a key have nothing there
pub nothing_there : (flows : List Flow) (c i e : ℕ) → All (λ (x : Flow). key_is c i e x ≡ false) flows → units_between flows c i e ≡ 0
nothing_there [] c i e h = refl
nothing_there (x ∷ xs) c i e h =
    omega (
      arith,
      sum_by-cons (term c i e) x xs,
      no_term c i e x (All-head (λ (y : Flow). key_is c i e y ≡ false) x xs h),
      nothing_there xs c i e (All-tail (λ (y : Flow). key_is c i e y ≡ false) x xs h),
    )

pub nothing_past : (flows : List Flow) (c i e : ℕ) → All (λ (x : Flow). IsEarlier x.coflow x.ingress x.egress c i e) flows → units_between flows c i e ≡ 0
nothing_past flows c i e h = nothing_there flows c i e (λ k d lt. other_key c i e (get_or flows k d) (earlier_differs _ _ _ c i e (h k d lt)))

pub nothing_before : (flows : List Flow) (c i e : ℕ) → All (λ (x : Flow). IsEarlier c i e x.coflow x.ingress x.egress) flows → units_between flows c i e ≡ 0
nothing_before flows c i e h = nothing_there flows c i e (λ k d lt. other_key c i e (get_or flows k d) (later_differs _ _ _ c i e (h k d lt)))

pub rest_in_order : (x : Flow) (xs : List Flow) → InOrder (x ∷ xs) → InOrder xs
rest_in_order x xs h = λ k d lt.
    let e : suc k + 1 ≡ suc (k + 1) = omega arith in
    subst (λ n. FlowBefore (get_or xs k d) (get_or (x ∷ xs) n d)) e (h (suc k) d (omega arith))

-- the first flow comes before all others
pub first_is_first : (x : Flow) (xs : List Flow) → InOrder (x ∷ xs) → All (FlowBefore x) xs
first_is_first x [] h = λ k d lt. absurd (omega arith)
first_is_first x (y ∷ ys) h =
    let first : FlowBefore x y = h 0 x (omega arith) in
    let later = first_is_first y ys (rest_in_order x (y ∷ ys) h) in
    λ k d lt. go first later k d lt
  where
    go : FlowBefore x y → All (FlowBefore y) ys → (k : ℕ) (d : Flow) → k < length (y ∷ ys) → FlowBefore x (get_or (y ∷ ys) k d)
    go first later zero d lt = first
    go first later (suc k) d lt =
        let z = get_or ys k d in
        earlier_trans x.coflow x.ingress x.egress y.coflow y.ingress y.egress z.coflow z.ingress z.egress first (later k d (omega arith))
