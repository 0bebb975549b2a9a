-- The flows before a coflow, an ingress and an egress, one step after another.
use Rattle.std.proofs.Common.{◌≡◌, ℕ, ◌+◌, ◌<◌, ◌≤◌, ◌⊎◌, inl, inr, List, [], ◌∷◌, ◌++◌, get_or, length, refl, sym, ap, subst, ◌∙◌, arith}
use Rattle.std.proofs.Common.{zero, suc}
use Rattle.std.specs.Prelude.{All}
use Rattle.std.proofs.lemmas.Bool.{cases_lt}
use Rattle.std.proofs.lemmas.List.{get_or_append_left, get_or_push, length_push}
use Rattle.std.proofs.lemmas.List.Elements.{All-push, All-weaker}
use Rattle.std.proofs.lemmas.List.Sums.{sum_by_push}
use Rattle.coflow_units.specs.declared.fabric.Flow.{Flow}
use Rattle.coflow_units.specs.Flows.{FlowBefore}
use Rattle.flow_table.specs.FlowsOf.{HaveUnits, HaveUnitsBefore, IsEarlier, units_between}
use Rattle.flow_table.proofs.FlowOrder.{InOrder, IsSame, compared, earlier_trans, later_differs, no_term, nothing_past, other_key, own_term, term}

-- a flow that comes after all others goes last
pub order_push : (flows : List Flow) (x : Flow) → InOrder flows → All (λ (y : Flow). FlowBefore y x) flows → InOrder (flows ++ x ∷ [])
order_push flows x h before = λ k d lt. elim (cases_lt (k + 1) (length flows)) [
  | inl in' ↦ subst (λ y. FlowBefore y (get_or (flows ++ x ∷ []) (k + 1) d)) (sym (get_or_append_left flows (x ∷ []) d k (omega arith)))
      (subst (λ y. FlowBefore (get_or flows k d) y) (sym (get_or_append_left flows (x ∷ []) d (k + 1) in')) (h k d in'))
  | inr past ↦ subst (λ y. FlowBefore y (get_or (flows ++ x ∷ []) (k + 1) d)) (sym (get_or_append_left flows (x ∷ []) d k (omega (arith, length_push flows x))))
      (subst (λ y. FlowBefore (get_or flows k d) y) (sym (get_or_push flows x d (k + 1) (omega (arith, length_push flows x)))) (before k d (omega (arith, length_push flows x))))
]

-- places between two places
still_in_row : (x y z c i e e' : ℕ) → e ≤ e' → IsEarlier x y z c i e → IsEarlier x y z c i e'
still_in_row x y z c i e e' up (inl a) = inl a
still_in_row x y z c i e e' up (inr (a, inl b)) = inr (a, inl b)
still_in_row x y z c i e e' up (inr (a, inr (b, lt))) = inr (a, inr (b, omega arith))

in_row : (x y z c i e e' : ℕ) → IsEarlier x y z c i e' → IsEarlier c i e x y z ⊎ IsSame x y z c i e → (x ≡ c) × (y ≡ i) × (e ≤ z) × (z < e')
in_row x y z c i e e' lt from = (grind arith, grind arith, grind arith, grind arith)

in_rest_of_row : (x y z c i e : ℕ) → IsEarlier x y z c (i + 1) 0 → IsEarlier c i e x y z ⊎ IsSame x y z c i e → (x ≡ c) × (y ≡ i) × (e ≤ z)
in_rest_of_row x y z c i e lt from = (grind arith, grind arith, grind arith)

in_rest_of_coflow : (x y z c i : ℕ) → IsEarlier x y z (c + 1) 0 0 → IsEarlier c i 0 x y z ⊎ IsSame x y z c i 0 → (x ≡ c) × (i ≤ y)
in_rest_of_coflow x y z c i lt from = (grind arith, grind arith)

module _ (sends : ℕ → ℕ → ℕ → ℕ) (c i e : ℕ) (flows : List Flow) (h : HaveUnitsBefore sends c i e flows) where
  -- nothing stands at the key, or past it
  none_from : (c' i' e' : ℕ) → IsEarlier c i e c' i' e' ⊎ IsSame c' i' e' c i e → units_between flows c' i' e' ≡ 0
  none_from c' i' e' (inl later) = nothing_past flows c' i' e' (All-weaker _ _ (λ (x : Flow) lt. earlier_trans x.coflow x.ingress x.egress c i e c' i' e' lt later) flows h.before)
  none_from c' i' e' (inr (p, q, r)) = nothing_past flows c' i' e' (subst (λ n. All (λ (x : Flow). IsEarlier x.coflow x.ingress x.egress n i' e') flows) (sym p)
      (subst (λ n. All (λ (x : Flow). IsEarlier x.coflow x.ingress x.egress c n e') flows) (sym q)
      (subst (λ n. All (λ (x : Flow). IsEarlier x.coflow x.ingress x.egress c i n) flows) (sym r) h.before)))

  -- go on to a later place where nothing is sent up to it
  pub skip : (c' i' e' : ℕ) → ((x y z : ℕ) → IsEarlier x y z c i e → IsEarlier x y z c' i' e') →
      ((x y z : ℕ) → IsEarlier x y z c' i' e' → IsEarlier c i e x y z ⊎ IsSame x y z c i e → sends x y z ≡ 0)
      → HaveUnitsBefore sends c' i' e' flows
  skip c' i' e' up none = record {
    sorted = h.sorted;
    units = h.units;
    before = All-weaker _ _ (λ (x : Flow) lt. up x.coflow x.ingress x.egress lt) flows h.before;
    sent = λ x y z lt. elim (compared x y z c i e) [
      | inl now ↦ h.sent x y z now
      | inr (inl later) ↦ none_from x y z (inl later) ∙ sym (none x y z lt (inl later))
      | inr (inr same) ↦ none_from x y z (inr same) ∙ sym (none x y z lt (inr same))
    ];
  }

  abbrev flow_here : ℕ → Flow
  flow_here units = record { coflow = c; ingress = i; egress = e; units = units }

  no_room : (x y z : ℕ) → IsEarlier x y z c i (e + 1) → IsEarlier c i e x y z → ⊥
  no_room x y z lt gt = grind arith

  units_here : (units : ℕ) → sends c i e ≡ units → units_between (flows ++ flow_here units ∷ []) c i e ≡ sends c i e
  units_here units is = omega (arith, sum_by_push (term c i e) flows (flow_here units), own_term (flow_here units), none_from c i e (inr (refl, refl, refl)), is)

  units_at : (units : ℕ) → sends c i e ≡ units → (x y z : ℕ) → IsSame x y z c i e → units_between (flows ++ flow_here units ∷ []) x y z ≡ sends x y z
  units_at units is x y z (p, q, r) = subst (λ n. units_between (flows ++ flow_here units ∷ []) n y z ≡ sends n y z) (sym p)
      (subst (λ n. units_between (flows ++ flow_here units ∷ []) c n z ≡ sends c n z) (sym q)
      (subst (λ n. units_between (flows ++ flow_here units ∷ []) c i n ≡ sends c i n) (sym r) (units_here units is)))

  -- a flow at the place
  pub push : (units : ℕ) → 1 ≤ units → sends c i e ≡ units → HaveUnitsBefore sends c i (e + 1) (flows ++ record { coflow = c; ingress = i; egress = e; units = units } ∷ [])
  push units some is = record {
    sorted = order_push flows (flow_here units) h.sorted h.before;
    units = All-push (λ (y : Flow). 1 ≤ y.units) flows (flow_here units) h.units some;
    before = All-push (λ (y : Flow). IsEarlier y.coflow y.ingress y.egress c i (e + 1)) flows (flow_here units)
        (All-weaker _ _ (λ (y : Flow) lt. still_in_row y.coflow y.ingress y.egress c i e (e + 1) (omega arith) lt) flows h.before) (inr (refl, inr (refl, omega arith)));
    sent = λ x y z lt. elim (compared x y z c i e) [
      | inl now ↦ omega (
        arith,
        sum_by_push (term x y z) flows (flow_here units),
        no_term x y z (flow_here units) (other_key x y z (flow_here units) (later_differs c i e x y z now)),
        h.sent x y z now,
      )
      | inr (inl later) ↦ absurd (no_room x y z lt later)
      | inr (inr same) ↦ units_at units is x y z same
    ];
  }

  -- to a later egress, where nothing is sent up to it
  pub next_egress : (e' : ℕ) → e ≤ e' → ((z : ℕ) → e ≤ z → z < e' → sends c i z ≡ 0) → HaveUnitsBefore sends c i e' flows
  next_egress e' up none = skip c i e' (λ x y z lt. still_in_row x y z c i e e' up lt)
      (λ x y z lt from. let (p, q, low, high) = in_row x y z c i e e' lt from in ap (λ n. sends n y z) p ∙ ap (λ n. sends c n z) q ∙ none z low high)

  -- to the next ingress, where nothing more is sent from this one
  pub next_ingress : ((z : ℕ) → e ≤ z → sends c i z ≡ 0) → HaveUnitsBefore sends c (i + 1) 0 flows
  next_ingress none = skip c (i + 1) 0 (λ x y z lt. grind arith)
      (λ x y z lt from. let (p, q, low) = in_rest_of_row x y z c i e lt from in ap (λ n. sends n y z) p ∙ ap (λ n. sends c n z) q ∙ none z low)

-- to a later ingress, where nothing is sent from those between
pub later_ingress : (sends : ℕ → ℕ → ℕ → ℕ) (c i n : ℕ) (flows : List Flow) → HaveUnitsBefore sends c i 0 flows → ((y z : ℕ) → i ≤ y → y < i + n → sends c y z ≡ 0) →
    HaveUnitsBefore sends c (i + n) 0 flows
later_ingress sends c i zero flows h none = let e : i ≡ i + 0 = omega arith in subst (λ k. HaveUnitsBefore sends c k 0 flows) e h
later_ingress sends c i (suc n) flows h none =
    let e : i + n + 1 ≡ i + suc n = omega arith in
    subst (λ k. HaveUnitsBefore sends c k 0 flows) e
    (next_ingress sends c (i + n) 0 flows (later_ingress sends c i n flows h (λ y z low high. none y z low (omega (arith, high))))
    (λ z _. none (i + n) z (omega arith) (omega arith)))

-- to the next coflow, where nothing more is sent by this one
pub next_coflow : (sends : ℕ → ℕ → ℕ → ℕ) (c i : ℕ) (flows : List Flow) → HaveUnitsBefore sends c i 0 flows → ((y z : ℕ) → i ≤ y → sends c y z ≡ 0) →
    HaveUnitsBefore sends (c + 1) 0 0 flows
next_coflow sends c i flows h none = skip sends c i 0 flows h (c + 1) 0 0 (λ x y z lt. grind arith)
    (λ x y z lt from. let (p, low) = in_rest_of_coflow x y z c i lt from in ap (λ n. sends n y z) p ∙ none y z low)

-- to the end, where nothing more is sent
pub have_all : (sends : ℕ → ℕ → ℕ → ℕ) (n : ℕ) (flows : List Flow) → HaveUnitsBefore sends n 0 0 flows → ((c i e : ℕ) → n ≤ c → sends c i e ≡ 0) → HaveUnits sends flows
have_all sends n flows h none = record {
  sorted = h.sorted;
  units = h.units;
  sent = λ c i e. elim (cases_lt c n) [
    | inl lt ↦ h.sent c i e (inl lt)
    | inr le ↦ nothing_past flows c i e (λ k d lt. past (get_or flows k d) c i e (h.before k d lt) le) ∙ sym (none c i e le)
  ];
}
  where
    past : (x : Flow) (c i e : ℕ) → IsEarlier x.coflow x.ingress x.egress n 0 0 → n ≤ c → IsEarlier x.coflow x.ingress x.egress c i e
    past x c i e (inl lt) le = inl (omega arith)
    past x c i e (inr (p, inl lt)) le = absurd (omega arith)
    past x c i e (inr (p, inr (q, lt))) le = absurd (omega arith)
