-- Lists of distinct ports, and what stands at them.
use Rattle.std.proofs.Common.{◌≡◌, ◌≢◌, ℕ, suc, zero, ◌+◌, ◌-◌, ◌<◌, List, [], ◌∷◌, ◌++◌, length, take, get_or, set, sym, refl, ap, ◌∙◌, subst, arith, Option, Some, None}
use Rattle.std.proofs.Common.{length-append, get_or-set_other, true≢false}
use Rattle.std.specs.Prelude.{All, Contains, IsSome}
use Rattle.std.proofs.lemmas.List.{get_or-append_right, get_or-take, get_or_append_left, get_or_default, length-take}
use Rattle.std.proofs.lemmas.List.Elements.{Contains-get_or}
use Rattle.coflow_units.proofs.Sums.{in_first, in_tail}
use Rattle.crews.specs.Wires.{Distinct, StayElsewhere, at_ports}

-- the ports before and after a place
pub left_distinct : (xs ys : List ℕ) → Distinct (xs ++ ys) → Distinct xs
left_distinct xs ys all i j d lt within =
    let long = length-append xs ys in
    subst (λ (z : ℕ × ℕ). z.0 ≢ z.1) (λ t. (get_or_append_left xs ys d i (omega (arith, lt, within)) t, get_or_append_left xs ys d j within t))
    (all i j d lt (omega (arith, within, long)))

pub right_distinct : (xs ys : List ℕ) → Distinct (xs ++ ys) → Distinct ys
right_distinct xs ys all i j d lt within =
    let long = length-append xs ys in
    let there : (k : ℕ) → get_or (xs ++ ys) (length xs + k) d ≡ get_or ys k d = λ k. get_or-append_right xs ys (length xs) (length xs + k) d refl (omega arith) ∙ ap
    (λ n. get_or ys n d) (back k) in
    subst (λ (z : ℕ × ℕ). z.0 ≢ z.1) (λ t. (there i t, there j t)) (all (length xs + i) (length xs + j) d (omega (arith, lt)) (omega (arith, within, long)))
  where
    back : (k : ℕ) → length xs + k - length xs ≡ k
    back k = omega arith

-- a port of the one list is none of the other
pub apart : (xs ys : List ℕ) (p : ℕ) → Distinct (xs ++ ys) → Contains xs p → Contains ys p → ⊥
apart xs ys p all here there =
    let long = length-append xs ys in
    let i : ℕ = here.0 in
    let k : ℕ = there.0 in
    let one : get_or (xs ++ ys) i p ≡ p = get_or_append_left xs ys p i here.1 ∙ here.2 in
    let two : get_or (xs ++ ys) (length xs + k) p ≡ p =
    get_or-append_right xs ys (length xs) (length xs + k) p refl (omega arith) ∙ (ap (λ n. get_or ys n p) (back k) ∙ there.2) in
    all i (length xs + k) p (omega (arith, here.1)) (omega (arith, there.1, long)) (one ∙ sym two)
  where
    back : (k : ℕ) → length xs + k - length xs ≡ k
    back k = omega arith

-- a port is not among those before it
pub not_before : (ports : List ℕ) (i d : ℕ) → Distinct ports → i < length ports → Contains (take i ports) (get_or ports i d) → ⊥
not_before ports i d all lt has =
    let p : ℕ = get_or ports i d in
    let k : ℕ = has.0 in
    let long = length-take i ports in
    let low : k < i = let m = has.1 in omega (arith, m, long) in
    let here : get_or ports k p ≡ p = sym (get_or-take i ports k p low) ∙ has.2 in
    all k i p low lt (here ∙ get_or_default ports i d p lt)

module _ {W : Type 0} where
  pub some_of : (o : Option W) → IsSome o → (w : W) × (o ≡ Some w)
  some_of None h = absurd (true≢false (sym h))
  some_of (Some w) h = (w, refl)

  -- where a wire is there is a port
  pub there_within : (wires : List (Option W)) (p : ℕ) → IsSome (get_or wires p None) → p < length wires
  there_within [] p h = absurd (true≢false (sym h))
  there_within (w ∷ ws) zero h = omega arith
  there_within (w ∷ ws) (suc p) h = let k = there_within ws p h in omega (arith, k)

  -- what is put at another port
  pub at_others : (ports : List ℕ) (wires : List (Option W)) (p : ℕ) (x : Option W) → (Contains ports p → ⊥) → at_ports ports (set wires p x) ≡ at_ports ports wires
  at_others [] wires p x far = refl
  at_others (q ∷ qs) wires p x far = λ t.
      (get_or-set_other wires p q x None (λ e. far (subst (Contains (q ∷ qs)) e (in_first q qs)))) t ∷ at_others qs wires p x (λ has. far (in_tail q qs p has)) t

  -- what stands at ports that stay
  pub at_same : (ports : List ℕ) (old new : List (Option W)) → All (λ p. get_or new p None ≡ get_or old p None) ports → at_ports ports new ≡ at_ports ports old
  at_same [] old new same = refl
  at_same (q ∷ qs) old new same = λ t. same 0 q (omega arith) t ∷ at_same qs old new (λ k d lt. same (suc k) d (omega (arith, lt))) t

  pub at_stay : (ports taken : List ℕ) (old new : List (Option W)) → StayElsewhere taken old new → ((p : ℕ) → Contains ports p → Contains taken p → ⊥) → at_ports ports new ≡
      at_ports ports old
  at_stay ports taken old new stay far = at_same ports old new (λ k d lt. stay.rest (get_or ports k d) (far (get_or ports k d) (Contains-get_or ports k d lt)))
