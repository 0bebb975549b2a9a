-- At most one list of flows has what is sent.
use Rattle.std.proofs.Common.{◌≡◌, ℕ, ◌<◌, ◌≤◌, inl, inr, List, [], ◌∷◌, ◌++◌, get_or, length, length-append, refl, sym, ap, subst, ◌∙◌, arith, zero, suc}
use Rattle.std.specs.Prelude.{All}
use Rattle.std.proofs.lemmas.List.{append-nil, nil_from_length}
use Rattle.std.proofs.lemmas.List.Elements.{All-head, All-tail}
use Rattle.std.proofs.lemmas.List.Sums.{sum_by-cons}
use Rattle.coflow_units.specs.declared.fabric.Flow.{Flow}
use Rattle.coflow_units.specs.Flows.{FlowBefore}
use Rattle.flow_table.specs.FlowsOf.{HaveUnits, HaveUnitsBefore, IsEarlier, units_between}
use Rattle.flow_table.proofs.FlowOrder.{InOrder, IsSame, compared, earlier_trans, first_is_first, nothing_before, own_term, rest_in_order, term}

abbrev make : ℕ → ℕ → ℕ → ℕ → Flow
make c i e u = record { coflow = c; ingress = i; egress = e; units = u }

same_flow : (x y : Flow) → IsSame x.coflow x.ingress x.egress y.coflow y.ingress y.egress → x.units ≡ y.units → x ≡ y
same_flow x y (p, q, r) u =
    ap (λ n. make n x.ingress x.egress x.units) p ∙ ap (λ n. make y.coflow n x.egress x.units) q ∙ ap (λ n. make y.coflow y.ingress n x.units) r ∙
    ap (λ n. make y.coflow y.ingress y.egress n) u

-- at the key of the first flow there are its units alone
first_units : (x : Flow) (xs : List Flow) → InOrder (x ∷ xs) → units_between (x ∷ xs) x.coflow x.ingress x.egress ≡ x.units
first_units x xs h =
    omega (arith, sum_by-cons (term x.coflow x.ingress x.egress) x xs, own_term x, nothing_before xs x.coflow x.ingress x.egress (first_is_first x xs h))

-- nothing has the key of a flow that comes before the first one
nothing_yet : (x y : Flow) (ys : List Flow) → FlowBefore x y → InOrder (y ∷ ys) → units_between (y ∷ ys) x.coflow x.ingress x.egress ≡ 0
nothing_yet x y ys lt h = nothing_before (y ∷ ys) x.coflow x.ingress x.egress (λ k d k<. go k d k<)
  where
    go : (k : ℕ) (d : Flow) → k < length (y ∷ ys) → FlowBefore x (get_or (y ∷ ys) k d)
    go zero d k< = lt
    go (suc k) d k< =
        let z = get_or ys k d in
        earlier_trans x.coflow x.ingress x.egress y.coflow y.ingress y.egress z.coflow z.ingress z.egress lt (first_is_first y ys h k d (omega arith))

-- Flows with keys in a set that has each key before one of its own begin every list that has the same units at these keys.
module _ (P : ℕ → ℕ → ℕ → Type 0) (down : (c i e c' i' e' : ℕ) → IsEarlier c i e c' i' e' → P c' i' e' → P c i e) where
  pub front : (a b : List Flow) → InOrder a → All (λ (x : Flow). 1 ≤ x.units) a → All (λ (x : Flow). P x.coflow x.ingress x.egress) a → InOrder b →
      All (λ (x : Flow). 1 ≤ x.units) b
      → ((c i e : ℕ) → P c i e → units_between a c i e ≡ units_between b c i e) → (rest : List Flow) × (b ≡ a ++ rest)
  front [] b oa ua pa ob ub same = (b, refl)
  front (x ∷ xs) [] oa ua pa ob ub same =
      absurd (omega (
        arith,
        first_units x xs oa,
        All-head (λ (z : Flow). 1 ≤ z.units) x xs ua,
        same x.coflow x.ingress x.egress (All-head (λ (z : Flow). P z.coflow z.ingress z.egress) x xs pa),
      ))
  front (x ∷ xs) (y ∷ ys) oa ua pa ob ub same = elim (compared x.coflow x.ingress x.egress y.coflow y.ingress y.egress) [
    | inl lt ↦ absurd (omega (
      arith,
      first_units x xs oa,
      All-head (λ (z : Flow). 1 ≤ z.units) x xs ua,
      nothing_yet x y ys lt ob,
      same x.coflow x.ingress x.egress (All-head (λ (z : Flow). P z.coflow z.ingress z.egress) x xs pa),
    ))
    | inr (inl gt) ↦
        let py = down y.coflow y.ingress y.egress x.coflow x.ingress x.egress gt (All-head (λ (z : Flow). P z.coflow z.ingress z.egress) x xs pa) in
        absurd (omega (arith, first_units y ys ob, All-head (λ (z : Flow). 1 ≤ z.units) y ys ub, nothing_yet y x xs gt oa, same y.coflow y.ingress y.egress py))
    | inr (inr e) ↦
        let at_y : units_between (y ∷ ys) x.coflow x.ingress x.egress ≡ y.units =
        subst (λ n. units_between (y ∷ ys) n x.ingress x.egress ≡ y.units) (sym e.0)
        (subst (λ n. units_between (y ∷ ys) y.coflow n x.egress ≡ y.units) (sym e.1)
        (subst (λ n. units_between (y ∷ ys) y.coflow y.ingress n ≡ y.units) (sym e.2) (first_units y ys ob))) in
        let here : x ≡ y = same_flow x y e (sym (first_units x xs oa) ∙ same x.coflow x.ingress x.egress (All-head (λ (z : Flow). P z.coflow z.ingress z.egress) x xs pa) ∙ at_y) in
        let (rest, is) = front xs ys (rest_in_order x xs oa) (All-tail (λ (z : Flow). 1 ≤ z.units) x xs ua) (All-tail (λ (z : Flow). P z.coflow z.ingress z.egress) x xs pa)
        (rest_in_order y ys ob) (All-tail (λ (z : Flow). 1 ≤ z.units) y ys ub)
        (λ c i f p. omega (arith, sum_by-cons (term c i f) x xs, sum_by-cons (term c i f) y ys, ap (term c i f) here, same c i f p)) in
        (rest, ap (λ z. z ∷ ys) (sym here) ∙ ap (λ l. x ∷ l) is)
  ]

pub flows_one : (sends : ℕ → ℕ → ℕ → ℕ) (a b : List Flow) → HaveUnits sends a → HaveUnits sends b → a ≡ b
flows_one sends a b ha hb =
    let (more, is) = front (λ c i e. Unit {0}) (λ c i e c' i' e' lt p. tt) a b ha.sorted ha.units (λ k d lt. tt) hb.sorted hb.units (λ c i e p. ha.sent c i e ∙ sym (hb.sent c i e))
    in
    let (less, is') = front (λ c i e. Unit {0}) (λ c i e c' i' e' lt p. tt) b a hb.sorted hb.units (λ k d lt. tt) ha.sorted ha.units
    (λ c i e p. hb.sent c i e ∙ sym (ha.sent c i e)) in
    let none : more ≡ [] = nil_from_length more (omega (arith, ap length is, length-append a more, ap length is', length-append b less)) in
    sym (append-nil a) ∙ ap (λ l. a ++ l) (sym none) ∙ sym is

pub front_is_short : (sends : ℕ → ℕ → ℕ → ℕ) (c i e : ℕ) (a b : List Flow) → HaveUnitsBefore sends c i e a → HaveUnits sends b → length a ≤ length b
front_is_short sends c i e a b ha hb =
    let (more, is) = front (λ x y z. IsEarlier x y z c i e) (λ x y z x' y' z' lt p. earlier_trans x y z x' y' z' c i e lt p) a b ha.sorted ha.units ha.before hb.sorted hb.units
    (λ x y z p. ha.sent x y z p ∙ sym (hb.sent x y z)) in
    omega (arith, ap length is, length-append a more)
