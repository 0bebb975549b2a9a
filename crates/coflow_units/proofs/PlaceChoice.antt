-- The port and the coflow of a place of the ordering certificate, chosen.
use Rattle.std.proofs.Common.{◌≡◌, ℕ, ◌+◌, ◌*◌, ◌≤◌, ◌<◌, ◌⊎◌, inl, inr, Bool, true, false, List, [], ◌∷◌, ◌++◌, Contains, refl, sym, ap, subst, ◌∙◌, arith, zero, suc}
use Rattle.std.proofs.Common.{le_trans, le_refl, le_of_lt, true≢false}
use Rattle.std.specs.Prelude.{◌==◌, ◌||◌, ◌&&◌, if◌then◌else◌, nat_lt}
use Rattle.std.proofs.Math.Nat.{mul-le-mul_right, lt_of_mul-lt-mul_right}
use Rattle.std.proofs.lemmas.List.Elements.{Contains-append_left, Contains-append_right, Contains-append_cases}
use Rattle.std.proofs.lemmas.Bool.{cases_order, cases_lt, ltb-true, ltb-false, lt-ltb, both_ways, eqb-true, eq-eqb, or_cases, or_parts, and_parts, cases_eq}
use Rattle.coflow_units.specs.declared.fabric.Flow.{Flow}
use Rattle.coflow_units.specs.declared.fabric.Port.{Port}
use Rattle.coflow_units.specs.declared.fabric.Side.{Side}
use Rattle.coflow_units.specs.declared.fabric.Side.TheVariants.{Ingress, Egress}
use Rattle.coflow_units.specs.Load.{load_of_all}
use Rattle.coflow_units.specs.Ordering.{IsFirstGreatest, port_place}
use Rattle.coflow_units.proofs.BestOf.{best_of, best_member, best_is_best}
use Rattle.coflow_units.proofs.Sums.{first_or_tail, in_first, in_tail, nothing_in}
use Rattle.coflow_units.proofs.Numbers.{ratio_le, strict}

abbrev pub on_side : Side → ℕ → Port
on_side s n = record { side = s; number = n }

abbrev pub ports_from : Side → ℕ → ℕ → List Port
ports_from s a zero = []
ports_from s a (suc n) = on_side s a ∷ ports_from s (a + 1) n

abbrev pub all_ports : ℕ → List Port
all_ports ports = ports_from Ingress 0 ports ++ ports_from Egress 0 ports

-- q is better than p: more load, or as much and an earlier place
abbrev pub better_port : List Flow → ℕ → List ℕ → Port → Port → Bool
better_port flows ports coflows q p =
    nat_lt (load_of_all flows coflows p) (load_of_all flows coflows q)
    || ((load_of_all flows coflows q == load_of_all flows coflows p) && nat_lt (port_place ports q) (port_place ports p))

abbrev pub chosen_port : List Flow → ℕ → List ℕ → Port
chosen_port flows ports coflows = best_of (better_port flows ports coflows) (on_side Ingress 0) (all_ports ports)

abbrev pub better_coflow : (ℕ → ℕ) → (ℕ → ℕ) → ℕ → ℕ → Bool
better_coflow r l d c = nat_lt (r d * l c) (r c * l d) || ((r d * l c == r c * l d) && nat_lt c d)

abbrev pub best_busy : (ℕ → ℕ) → (ℕ → ℕ) → List ℕ → ℕ
best_busy r l [] = 0
best_busy r l (c ∷ cs) = best_of (better_coflow r l) c cs

abbrev pub best_idle : List ℕ → ℕ
best_idle [] = 0
best_idle (c ∷ cs) = best_of (λ d a. nat_lt a d) c cs

-- ---- the port

-- more, or as much and no later, on numbers
abbrev pub Leads : ℕ → ℕ → ℕ → ℕ → Type 0
Leads a i b j = (b < a) ⊎ ((b ≡ a) × (i ≤ j))

pub leads_self : (a i : ℕ) → Leads a i a i
leads_self a i = inr (refl, omega arith)

leads_chain : (a i b j c k : ℕ) → Leads a i b j → Leads b j c k → Leads a i c k
leads_chain a i b j c k (inl x) (inl y) = inl (omega arith)
leads_chain a i b j c k (inl x) (inr y) = inl (omega (arith, y.0))
leads_chain a i b j c k (inr x) (inl y) = inl (omega (arith, x.0))
leads_chain a i b j c k (inr x) (inr y) = inr (y.0 ∙ x.0, omega (arith, x.1, y.1))

leads_true : (a i b j : ℕ) → (nat_lt b a || ((a == b) && nat_lt i j)) ≡ true → Leads a i b j
leads_true a i b j e = elim (or_cases (nat_lt b a) ((a == b) && nat_lt i j) e) [
  | inl t ↦ inl (ltb-true b a t)
  | inr t ↦ let (u, v) = and_parts (a == b) (nat_lt i j) t in inr (sym (eqb-true a b u), omega (arith, ltb-true i j v))
]

second_false : (a b : Bool) → a ≡ true → (a && b) ≡ false → b ≡ false
second_false true b t e = e
second_false false b t e = absurd (true≢false (sym t))

tie_false : (a b i j : ℕ) → a ≡ b → ((a == b) && nat_lt i j) ≡ false → j ≤ i
tie_false a b i j e out = ltb-false i j (second_false (a == b) (nat_lt i j) (eq-eqb a b e) out)

leads_false : (a i b j : ℕ) → (nat_lt b a || ((a == b) && nat_lt i j)) ≡ false → Leads b j a i
leads_false a i b j e = elim (cases_order a b) [
  | inl same ↦ inr (same, tie_false a b i j same (or_parts (nat_lt b a) ((a == b) && nat_lt i j) e).1)
  | inr apart ↦ elim apart [
    | inl less ↦ inl less
    | inr more ↦ absurd (both_ways (nat_lt b a || ((a == b) && nat_lt i j)) e (ap (λ x. x || ((a == b) && nat_lt i j)) (lt-ltb b a more)))
  ]
]

abbrev pub LeadsPort : List Flow → ℕ → List ℕ → Port → Port → Type 0
LeadsPort flows ports coflows p q = Leads (load_of_all flows coflows p) (port_place ports p) (load_of_all flows coflows q) (port_place ports q)

picks_port : (flows : List Flow) (ports : ℕ) (coflows : List ℕ) (q p : Port) (b : Bool) → better_port flows ports coflows q p ≡ b →
    LeadsPort flows ports coflows (if b then q else p) q × LeadsPort flows ports coflows (if b then q else p) p
picks_port flows ports coflows q p true e = (
  leads_self (load_of_all flows coflows q) (port_place ports q),
  leads_true (load_of_all flows coflows q) (port_place ports q) (load_of_all flows coflows p) (port_place ports p)
      e,
)
picks_port flows ports coflows q p false e = (
  leads_false (load_of_all flows coflows q) (port_place ports q) (load_of_all flows coflows p) (port_place ports p) e,
  leads_self (load_of_all flows coflows p) (port_place ports p),
)

in_ports : (s : Side) (a n k : ℕ) → a ≤ k → k < a + n → Contains (ports_from s a n) (on_side s k)
in_ports s a zero k low high = absurd (omega arith)
in_ports s a (suc n) k low high = elim (cases_eq a k) [
  | inl e ↦ subst (λ x. Contains (ports_from s a (suc n)) (on_side s x)) e (in_first (on_side s a) (ports_from s (a + 1) n))
  | inr ne ↦ in_tail (on_side s a) (ports_from s (a + 1) n) (on_side s k) (in_ports s (a + 1) n k (omega arith) (omega arith))
]

ports_below : (s : Side) (a n : ℕ) (p : Port) → Contains (ports_from s a n) p → p.number < a + n
ports_below s a zero p has = absurd (nothing_in p has)
ports_below s a (suc n) p has = elim (first_or_tail (on_side s a) (ports_from s (a + 1) n) p has) [
  | inl e ↦ omega (arith, ap (λ (x : Port). x.number) e)
  | inr h ↦ omega (arith, ports_below s (a + 1) n p h)
]

is_port : (ports : ℕ) (s : Side) (k : ℕ) → k < ports → Contains (all_ports ports) (on_side s k)
is_port ports Ingress k lt = Contains-append_left (ports_from Ingress 0 ports) (ports_from Egress 0 ports) (on_side Ingress k)
    (in_ports Ingress 0 ports k (omega arith) (omega arith))
is_port ports Egress k lt = Contains-append_right (ports_from Ingress 0 ports) (ports_from Egress 0 ports) (on_side Egress k)
    (in_ports Egress 0 ports k (omega arith) (omega arith))

port_below : (ports : ℕ) (p : Port) → 1 ≤ ports → Contains (on_side Ingress 0 ∷ all_ports ports) p → p.number < ports
port_below ports p some has = elim (first_or_tail (on_side Ingress 0) (all_ports ports) p has) [
  | inl e ↦ omega (arith, ap (λ (x : Port). x.number) e)
  | inr h ↦ elim (Contains-append_cases (ports_from Ingress 0 ports) (ports_from Egress 0 ports) p h) [
    | inl l ↦ omega (arith, ports_below Ingress 0 ports p l)
    | inr r ↦ omega (arith, ports_below Egress 0 ports p r)
  ]
]

pub port_is_first : (flows : List Flow) (ports : ℕ) (coflows : List ℕ) → 1 ≤ ports → IsFirstGreatest flows ports coflows (chosen_port flows ports coflows)
port_is_first flows ports coflows some = record {
  in_range = port_below ports (chosen_port flows ports coflows) some (best_member (better_port flows ports coflows) (on_side Ingress 0) (all_ports ports));
  greatest = λ other lt. best_is_best {X = Port} (λ p. Unit {0}) (LeadsPort flows ports coflows) (better_port flows ports coflows)
      (λ q p _ _. picks_port flows ports coflows q p (better_port flows ports coflows q p) refl)
      (λ p _. leads_self (load_of_all flows coflows p) (port_place ports p))
      (λ x y z _ _ _ xy yz. leads_chain (load_of_all flows coflows x) (port_place ports x) (load_of_all flows coflows y) (port_place ports y) (load_of_all flows coflows z)
      (port_place ports z) xy yz)
      (on_side Ingress 0) (all_ports ports) (λ y h. tt) other (in_tail (on_side Ingress 0) (all_ports ports) other (is_port ports other.side other.number lt));
}

-- ---- the coflow where the front has no load

picks_greatest : (d a : ℕ) (b : Bool) → nat_lt a d ≡ b → (d ≤ (if b then d else a)) × (a ≤ (if b then d else a))
picks_greatest d a true e = (omega arith, omega (arith, ltb-true a d e))
picks_greatest d a false e = (ltb-false a d e, omega arith)

pub idle_member : (cs : List ℕ) (d : ℕ) → Contains cs d → Contains cs (best_idle cs)
idle_member [] d has = absurd (nothing_in d has)
idle_member (c ∷ cs) d has = best_member (λ d a. nat_lt a d) c cs

pub idle_greatest : (cs : List ℕ) (d : ℕ) → Contains cs d → d ≤ best_idle cs
idle_greatest [] d has = absurd (nothing_in d has)
idle_greatest (c ∷ cs) d has = best_is_best {X = ℕ} (λ x. Unit {0}) (λ x y. y ≤ x) (λ d a. nat_lt a d)
    (λ x a _ _. picks_greatest x a (nat_lt a x) refl) (λ x _. le_refl x) (λ x y z _ _ _ xy yz. le_trans yz xy) c cs (λ y h. tt) d has

-- ---- the coflow where the front has load

-- the ratio of c is less than that of d, or the same and c is no less than d
abbrev pub Beats : (ℕ → ℕ) → (ℕ → ℕ) → ℕ → ℕ → Type 0
Beats r l c d = (r c * l d < r d * l c) ⊎ ((r c * l d ≡ r d * l c) × (d ≤ c))

beats_true : (r l : ℕ → ℕ) (d c : ℕ) → better_coflow r l d c ≡ true → Beats r l d c
beats_true r l d c e = elim (or_cases (nat_lt (r d * l c) (r c * l d)) ((r d * l c == r c * l d) && nat_lt c d) e) [
  | inl t ↦ inl (ltb-true (r d * l c) (r c * l d) t)
  | inr t ↦ let (u, v) = and_parts (r d * l c == r c * l d) (nat_lt c d) t in inr (eqb-true (r d * l c) (r c * l d) u, omega (arith, ltb-true c d v))
]

beats_false : (r l : ℕ → ℕ) (d c : ℕ) → better_coflow r l d c ≡ false → Beats r l c d
beats_false r l d c e =
    let (f, g) = or_parts (nat_lt (r d * l c) (r c * l d)) ((r d * l c == r c * l d) && nat_lt c d) e in
    let le = ltb-false (r d * l c) (r c * l d) f in
    elim (cases_lt (r c * l d) (r d * l c)) [
      | inl less ↦ inl less
      | inr more ↦
          let same : r d * l c ≡ r c * l d = omega arith in
          inr (sym same, tie_false (r d * l c) (r c * l d) c d same g)
    ]

picks_beats : (r l : ℕ → ℕ) (d c : ℕ) (b : Bool) → better_coflow r l d c ≡ b → Beats r l (if b then d else c) d × Beats r l (if b then d else c) c
picks_beats r l d c true e = (inr (refl, omega arith), beats_true r l d c e)
picks_beats r l d c false e = (beats_false r l d c e, inr (refl, omega arith))

ratio_lt : (rc lc rd ld re le : ℕ) → rc * ld * le < re * ld * lc → rc * le < re * lc
ratio_lt rc lc rd ld re le less = lt_of_mul-lt-mul_right ld (omega (arith, less))

beats_chain : (r l : ℕ → ℕ) (c d e : ℕ) → 0 < l c → 0 < l d → 0 < l e → Beats r l c d → Beats r l d e → Beats r l c e
beats_chain r l c d e pc pd pe (inl x) (inl y) =
    inl (ratio_lt (r c) (l c) (r d) (l d) (r e) (l e) (omega (arith, strict (r c * l d) (r d * l c) (l e) x pe, mul-le-mul_right (l c) (le_of_lt y))))
beats_chain r l c d e pc pd pe (inl x) (inr y) =
    inl (ratio_lt (r c) (l c) (r d) (l d) (r e) (l e) (omega (arith, strict (r c * l d) (r d * l c) (l e) x pe, ap (λ n. n * l c) y.0)))
beats_chain r l c d e pc pd pe (inr x) (inl y) =
    inl (ratio_lt (r c) (l c) (r d) (l d) (r e) (l e) (omega (arith, ap (λ n. n * l e) x.0, strict (r d * l e) (r e * l d) (l c) y pc)))
beats_chain r l c d e pc pd pe (inr x) (inr y) =
    let up = ratio_le (r c) (l c) (r d) (l d) (r e) (l e) pd (omega (arith, x.0)) (omega (arith, y.0)) in
    let down = ratio_le (r e) (l e) (r d) (l d) (r c) (l c) pd (omega (arith, y.0)) (omega (arith, x.0)) in
    inr (omega (arith, up, down), omega (arith, x.1, y.1))

pub busy_member : (r l : ℕ → ℕ) (cs : List ℕ) (d : ℕ) → Contains cs d → Contains cs (best_busy r l cs)
busy_member r l [] d has = absurd (nothing_in d has)
busy_member r l (c ∷ cs) d has = best_member (better_coflow r l) c cs

pub busy_beats : (r l : ℕ → ℕ) (cs : List ℕ) → ((c : ℕ) → Contains cs c → 0 < l c) → (d : ℕ) → Contains cs d → Beats r l (best_busy r l cs) d
busy_beats r l [] some d has = absurd (nothing_in d has)
busy_beats r l (c ∷ cs) some d has = best_is_best {X = ℕ} (λ x. 0 < l x) (Beats r l) (better_coflow r l)
    (λ x a _ _. picks_beats r l x a (better_coflow r l x a) refl) (λ x _. inr (refl, le_refl x)) (λ x y z px py pz xy yz. beats_chain r l x y z px py pz xy yz) c cs some d has
