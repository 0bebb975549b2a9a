-- What stands at the ports, where a rank goes out or in.
use Rattle.std.proofs.Common.{◌≡◌, ◌≢◌, ℕ, ◌+◌, ◌-◌, ◌*◌, ◌^◌, ◌≤◌, ◌<◌, ◌⊎◌, inl, inr, List, length, get_or, set, Contains, refl, sym, ap, subst, ◌∙◌, arith, length-set}
use Rattle.std.specs.Prelude.{if◌then◌else◌, ◌==◌, sum_by}
use Rattle.std.proofs.Math.Pow.{pow_mono}
use Rattle.std.proofs.lemmas.Bool.{cases_eq, eq-eqb, ne_eqb}
use Rattle.std.proofs.lemmas.Grind.{get_or-set_at}
use Rattle.std.proofs.lemmas.List.{get_or-set_other}
use Rattle.std.proofs.lemmas.List.Sums.{sum_by-set}
use Rattle.std.proofs.lemmas.Nat.{pow-add}
use Rattle.matching.specs.Kept.{Graph, Touches}
use Rattle.matching.specs.Waits.{IsPushed}
use Rattle.matching.specs.Board.{no_rank, IsGraph, Stands, IsBoard, weight, IsFreed, IsPlaced}

-- ---- the same number at two places

abbrev pub with_two : List ℕ → ℕ → ℕ → ℕ → List ℕ
with_two at f s v = set (set at f v) s v

pub cells : (at : List ℕ) (f s v p : ℕ) → f < length at → s < length at →
    ((((p ≡ f) ⊎ (p ≡ s)) × (get_or (with_two at f s v) p 0 ≡ v)) ⊎ ((p ≢ f) × (p ≢ s) × (get_or (with_two at f s v) p 0 ≡ get_or at p 0)))
cells at f s v p lf ls = elim (cases_eq p s) [
  | inl e ↦ inl (inr e, get_or-set_at (set at f v) s p v 0 e (omega (arith, length-set at f v)))
  | inr ns ↦ elim (cases_eq p f) [
    | inl e ↦ inl (inl e, get_or-set_other (set at f v) s p v 0 ns ∙ get_or-set_at at f p v 0 e lf)
    | inr nf ↦ inr (nf, ns, get_or-set_other (set at f v) s p v 0 ns ∙ get_or-set_other at f p v 0 nf)
  ]
]

two_weigh : (w : ℕ → ℕ) (at : List ℕ) (f s v : ℕ) → f < length at → s < length at → s ≢ f →
    sum_by w (with_two at f s v) + (w (get_or at f 0) + w (get_or at s 0)) ≡ sum_by w at + (w v + w v)
two_weigh w at f s v lf ls ne =
    omega (arith, sum_by-set w at f v 0 lf, sum_by-set w (set at f v) s v 0 (omega (arith, length-set at f v)), ap w (get_or-set_other at f s v 0 ne))

-- ---- weights

weight_none : (count n : ℕ) → count ≤ n → weight count n ≡ 1
weight_none count n le =
    let e : count - n ≡ 0 = omega arith in
    ap (λ k. 2 ^ (2 * k)) e

pub weight_falls : (count r s : ℕ) → r < s → r < count → 4 * weight count s ≤ weight count r
weight_falls count r s less lt =
    let le : 2 * (count - s) + 2 ≤ 2 * (count - r) = omega arith in
    omega (arith, pow_mono le, pow-add 2 (2 * (count - s)) 2)

-- ---- a rank goes out

abbrev pub freed_at : Graph → List ℕ → ℕ → List ℕ
freed_at g at r = with_two at (g.first r) (g.second r) no_rank

pub sides_apart : (ports : ℕ) (g : Graph) (r s : ℕ) → IsGraph ports g → r < g.count → s < g.count → g.first r ≢ g.second s
sides_apart ports g r s k lr ls e = omega (arith, k.first r lr, k.second_from s ls, e)

first_in : (ports : ℕ) (g : Graph) (at : List ℕ) (r : ℕ) → IsGraph ports g → IsBoard ports g at → r < g.count → g.first r < length at
first_in ports g at r k b lt = omega (arith, k.first r lt, b.size)

second_in : (ports : ℕ) (g : Graph) (at : List ℕ) (r : ℕ) → IsGraph ports g → IsBoard ports g at → r < g.count → g.second r < length at
second_in ports g at r k b lt = omega (arith, k.second r lt, b.size)

pub is_rank : (g : Graph) (r : ℕ) → r < g.count → g.count ≤ no_rank → r ≡ no_rank → ⊥
is_rank g r lt few e = omega (arith, lt, few, e)

pub freed_board : (ports : ℕ) (g : Graph) (at : List ℕ) (r : ℕ) → IsGraph ports g → IsBoard ports g at → Stands g at r → IsBoard ports g (freed_at g at r)
freed_board ports g at r k b (lt, here) =
    let lf = first_in ports g at r k b lt in
    let ls = second_in ports g at r k b lt in
    let there = b.across r lt here in
    record {
      size = omega (arith, length-set (set at (g.first r) no_rank) (g.second r) no_rank, length-set at (g.first r) no_rank, b.size);
      own = λ p low. elim (cells at (g.first r) (g.second r) no_rank p lf ls) [
        | inl (_, e) ↦ inl e
        | inr (_, _, e) ↦ elim (b.own p low) [
          | inl n ↦ inl (e ∙ n)
          | inr (lt', t) ↦ inr (subst (λ x. (x < g.count) × Touches g p x) (sym e) (lt', t))
        ]
      ];
      across = λ q lq at_q. elim (cells at (g.first r) (g.second r) no_rank (g.first q) lf ls) [
        | inl (_, e) ↦ absurd (is_rank g q lq k.few (sym at_q ∙ e))
        | inr (nf, _, e) ↦ elim (cells at (g.first r) (g.second r) no_rank (g.second q) lf ls) [
          | inl (inl x, _) ↦ absurd (sides_apart ports g r q k lt lq (sym x))
          | inl (inr x, _) ↦ absurd (nf (ap g.first (sym (b.across q lq (sym e ∙ at_q)) ∙ ap (λ p. get_or at p 0) x ∙ there)))
          | inr (_, _, e') ↦ e' ∙ b.across q lq (sym e ∙ at_q)
        ]
      ];
      back = λ q lq at_q. elim (cells at (g.first r) (g.second r) no_rank (g.second q) lf ls) [
        | inl (_, e) ↦ absurd (is_rank g q lq k.few (sym at_q ∙ e))
        | inr (_, ns, e) ↦ elim (cells at (g.first r) (g.second r) no_rank (g.first q) lf ls) [
          | inl (inr x, _) ↦ absurd (sides_apart ports g q r k lq lt x)
          | inl (inl x, _) ↦ absurd (ns (ap g.second (sym (b.back q lq (sym e ∙ at_q)) ∙ ap (λ p. get_or at p 0) x ∙ here)))
          | inr (_, _, e') ↦ e' ∙ b.back q lq (sym e ∙ at_q)
        ]
      ];
    }

-- what stands at a port stands at both of its ports
pub stands_at : (ports : ℕ) (g : Graph) (at : List ℕ) (p r : ℕ) → IsBoard ports g at → p < ports + ports → r ≢ no_rank → get_or at p 0 ≡ r → Stands g at r × Touches g p r
stands_at ports g at p r b low some e = elim (b.own p low) [
  | inl n ↦ absurd (some (sym e ∙ n))
  | inr (lt, t) ↦
      let lt' : r < g.count = omega (arith, e, lt) in
      let t' = subst (λ x. Touches g p x) e t in
      ((lt', from lt' t'), t')
] where
  from : r < g.count → Touches g p r → get_or at (g.first r) 0 ≡ r
  from lt (inl same) = ap (λ q. get_or at q 0) same ∙ e
  from lt (inr same) = b.back r lt (ap (λ q. get_or at q 0) same ∙ e)

other_waits_first : (g : Graph) (more : List ℕ) (port r : ℕ) → Touches g port r → Contains more (if g.first r == port then g.second r else g.first r) →
    (g.first r ≡ port) ⊎ Contains more (g.first r)
other_waits_first g more port r t has = elim (cases_eq (g.first r) port) [
  | inl e ↦ inl e
  | inr ne ↦ inr (subst (λ b. Contains more (if b then g.second r else g.first r)) (ne_eqb (g.first r) port ne) has)
]

other_waits_second : (g : Graph) (more : List ℕ) (port r : ℕ) → Touches g port r → Contains more (if g.first r == port then g.second r else g.first r) →
    (g.second r ≡ port) ⊎ Contains more (g.second r)
other_waits_second g more port r (inr same) has = inl same
other_waits_second g more port r (inl same) has = inr (subst (λ b. Contains more (if b then g.second r else g.first r)) (eq-eqb (g.first r) port same) has)

pub freed : (ports : ℕ) (g : Graph) (at waits more : List ℕ) (port r : ℕ) → IsGraph ports g → IsBoard ports g at → port < ports + ports → r ≢ no_rank → get_or at port 0 ≡ r →
    IsPushed waits more (if g.first r == port then g.second r else g.first r) → IsFreed ports g at (freed_at g at r) waits more port
freed ports g at waits more port r k b low some e pushed =
    let ((lt, here), touches) = stands_at ports g at port r b low some e in
    let lf = first_in ports g at r k b lt in
    let ls = second_in ports g at r k b lt in
    let there = b.across r lt here in
    let one = weight_none g.count no_rank k.few in
    record {
      gone = λ p lp same. elim (cells at (g.first r) (g.second r) no_rank p lf ls) [
        | inl (_, is) ↦ is
        | inr (nf, ns, _) ↦
            let (_, t) = stands_at ports g at p r b lp some (same ∙ e) in
            elim t [ inl x ↦ absurd (nf (sym x)) | inr x ↦ absurd (ns (sym x)) ]
      ];
      kept = λ p lp other. elim (cells at (g.first r) (g.second r) no_rank p lf ls) [
        | inl (inl x, _) ↦ absurd (other (ap (λ q. get_or at q 0) x ∙ here ∙ sym e))
        | inl (inr x, _) ↦ absurd (other (ap (λ q. get_or at q 0) x ∙ there ∙ sym e))
        | inr (_, _, is) ↦ is
      ];
      weighs = omega (
        arith,
        two_weigh (weight g.count) at (g.first r) (g.second r) no_rank lf ls (λ x. sides_apart ports g r r k lt lt (sym x)),
        ap (weight g.count) here,
        ap (weight g.count) there,
        ap (weight g.count) e,
        one,
      );
      stays = pushed.keeps;
      first = λ q lq is. let same : q ≡ r = sym is ∙ e in
          subst (λ x. (g.first x ≡ port) ⊎ Contains more (g.first x)) (sym same) (other_waits_first g more port r touches pushed.has);
      second = λ q lq is. let same : q ≡ r = sym is ∙ e in
          subst (λ x. (g.second x ≡ port) ⊎ Contains more (g.second x)) (sym same) (other_waits_second g more port r touches pushed.has);
      one_more = pushed.one_more;
    }

-- nothing stood there
pub nothing_freed : (ports : ℕ) (g : Graph) (at waits : List ℕ) (port : ℕ) → IsGraph ports g → get_or at port 0 ≡ no_rank → IsFreed ports g at at waits waits port
nothing_freed ports g at waits port k none = record {
  gone = λ p lp same. same ∙ none;
  kept = λ p lp other. refl;
  weighs = omega (arith, ap (weight g.count) none, weight_none g.count no_rank k.few);
  stays = λ p has. has;
  first = λ r lt is. absurd (is_rank g r lt k.few (sym is ∙ none));
  second = λ r lt is. absurd (is_rank g r lt k.few (sym is ∙ none));
  one_more = omega arith;
}

-- ---- a rank goes in

pub survived : (ports : ℕ) (g : Graph) (old new waits more : List ℕ) (port p r : ℕ) → IsGraph ports g → IsFreed ports g old new waits more port → p < ports + ports → r < g.count →
    get_or new p 0 ≡ r → (get_or old p 0 ≡ r) × (r ≢ get_or old port 0)
survived ports g old new waits more port p r k f lp lt is = elim (cases_eq (get_or old p 0) (get_or old port 0)) [
  | inl same ↦ absurd (is_rank g r lt k.few (sym is ∙ f.gone p lp same))
  | inr ne ↦ let e = sym (f.kept p lp ne) ∙ is in (e, λ x. ne (e ∙ x))
]

pub remains : (ports : ℕ) (g : Graph) (old new waits more : List ℕ) (port p r : ℕ) → IsFreed ports g old new waits more port → p < ports + ports → get_or old p 0 ≡ r →
    r ≢ get_or old port 0 → get_or new p 0 ≡ r
remains ports g old new waits more port p r f lp is ne = f.kept p lp (λ x. ne (sym is ∙ x)) ∙ is

-- both ports of the rank were freed, one after the other
pub record IsCleared (ports : ℕ) (g : Graph) (old mid new waits some more : List ℕ) (rank : ℕ) : Type 0 where
  pub graph : IsGraph ports g
  pub known : rank < g.count
  pub low_first : rank < get_or old (g.first rank) 0
  pub low_second : rank < get_or old (g.second rank) 0
  pub board : IsBoard ports g old
  pub between : IsBoard ports g mid
  pub now : IsBoard ports g new
  pub first : IsFreed ports g old mid waits some (g.first rank)
  pub second : IsFreed ports g mid new some more (g.second rank)

pub first_low : (ports : ℕ) (g : Graph) (r : ℕ) → IsGraph ports g → r < g.count → g.first r < ports + ports
first_low ports g r k lt = omega (arith, k.first r lt)

first_is_free : (ports : ℕ) (g : Graph) (old mid new waits some more : List ℕ) (h : ℕ) → IsCleared ports g old mid new waits some more h → get_or new (g.first h) 0 ≡ no_rank
first_is_free ports g old mid new waits some more h c =
    let low = first_low ports g h c.graph c.known in
    let gone = c.first.gone (g.first h) low refl in
    elim (cases_eq (get_or mid (g.first h) 0) (get_or mid (g.second h) 0)) [
      | inl same ↦ c.second.gone (g.first h) low same
      | inr ne ↦ c.second.kept (g.first h) low ne ∙ gone
    ]

second_is_free : (ports : ℕ) (g : Graph) (old mid new waits some more : List ℕ) (h : ℕ) → IsCleared ports g old mid new waits some more h → get_or new (g.second h) 0 ≡ no_rank
second_is_free ports g old mid new waits some more h c = c.second.gone (g.second h) (c.graph.second h c.known) refl

abbrev pub placed_at : Graph → List ℕ → ℕ → List ℕ
placed_at g at h = with_two at (g.first h) (g.second h) h

pub placed_board : (ports : ℕ) (g : Graph) (old mid new waits some more : List ℕ) (h : ℕ) → IsCleared ports g old mid new waits some more h → IsBoard ports g (placed_at g new h)
placed_board ports g old mid new waits some more h c =
    let k = c.graph in
    let b = c.now in
    let lf = first_in ports g new h k b c.known in
    let ls = second_in ports g new h k b c.known in
    record {
      size = omega (arith, length-set (set new (g.first h) h) (g.second h) h, length-set new (g.first h) h, b.size);
      own = λ p low. elim (cells new (g.first h) (g.second h) h p lf ls) [
        | inl (inl x, e) ↦ inr (subst (λ y. (y < g.count) × Touches g p y) (sym e) (c.known, inl (sym x)))
        | inl (inr x, e) ↦ inr (subst (λ y. (y < g.count) × Touches g p y) (sym e) (c.known, inr (sym x)))
        | inr (_, _, e) ↦ elim (b.own p low) [
          | inl n ↦ inl (e ∙ n)
          | inr (lt', t) ↦ inr (subst (λ y. (y < g.count) × Touches g p y) (sym e) (lt', t))
        ]
      ];
      across = λ q lq at_q. elim (cells new (g.first h) (g.second h) h (g.first q) lf ls) [
        | inl (_, e) ↦
            let same : h ≡ q = sym e ∙ at_q in
            elim (cells new (g.first h) (g.second h) h (g.second q) lf ls) [
              | inl (_, e') ↦ e' ∙ same
              | inr (_, ns, _) ↦ absurd (ns (ap g.second (sym same)))
            ]
        | inr (_, _, e) ↦
            let there = b.across q lq (sym e ∙ at_q) in
            elim (cells new (g.first h) (g.second h) h (g.second q) lf ls) [
              | inl (inl x, _) ↦ absurd (sides_apart ports g h q k c.known lq (sym x))
              | inl (inr x, _) ↦ absurd (is_rank g q lq k.few (sym there ∙ ap (λ p. get_or new p 0) x ∙ second_is_free ports g old mid new waits some more h c))
              | inr (_, _, e') ↦ e' ∙ there
            ]
      ];
      back = λ q lq at_q. elim (cells new (g.first h) (g.second h) h (g.second q) lf ls) [
        | inl (_, e) ↦
            let same : h ≡ q = sym e ∙ at_q in
            elim (cells new (g.first h) (g.second h) h (g.first q) lf ls) [
              | inl (_, e') ↦ e' ∙ same
              | inr (nf, _, _) ↦ absurd (nf (ap g.first (sym same)))
            ]
        | inr (_, _, e) ↦
            let here = b.back q lq (sym e ∙ at_q) in
            elim (cells new (g.first h) (g.second h) h (g.first q) lf ls) [
              | inl (inr x, _) ↦ absurd (sides_apart ports g q h k lq c.known x)
              | inl (inl x, _) ↦ absurd (is_rank g q lq k.few (sym here ∙ ap (λ p. get_or new p 0) x ∙ first_is_free ports g old mid new waits some more h c))
              | inr (_, _, e') ↦ e' ∙ here
            ]
      ];
    }

still_later : (ports : ℕ) (g : Graph) (old mid new waits some more : List ℕ) (h : ℕ) → IsCleared ports g old mid new waits some more h → h < get_or mid (g.second h) 0
still_later ports g old mid new waits some more h c =
    let low = c.graph.second h c.known in
    elim (cases_eq (get_or old (g.second h) 0) (get_or old (g.first h) 0)) [
      | inl same ↦ omega (arith, c.first.gone (g.second h) low same, c.known, c.graph.few)
      | inr ne ↦ omega (arith, c.first.kept (g.second h) low ne, c.low_second)
    ]

-- what stands at one of the two ports has it
meets_first : (ports : ℕ) (g : Graph) (at : List ℕ) (h r : ℕ) → IsGraph ports g → IsBoard ports g at → h < g.count → r < g.count → get_or at (g.first h) 0 ≡ r →
    g.first r ≡ g.first h
meets_first ports g at h r k b lh lr e = elim (stands_at ports g at (g.first h) r b (first_low ports g h k lh) (is_rank g r lr k.few) e).1 [
  | inl x ↦ x
  | inr x ↦ absurd (sides_apart ports g h r k lh lr (sym x))
]

meets_second : (ports : ℕ) (g : Graph) (at : List ℕ) (h r : ℕ) → IsGraph ports g → IsBoard ports g at → h < g.count → r < g.count → get_or at (g.second h) 0 ≡ r →
    g.second r ≡ g.second h
meets_second ports g at h r k b lh lr e = elim (stands_at ports g at (g.second h) r b (k.second h lh) (is_rank g r lr k.few) e).1 [
  | inl x ↦ absurd (sides_apart ports g r h k lr lh x)
  | inr x ↦ x
]

pub placed : (ports : ℕ) (g : Graph) (old mid new waits some more : List ℕ) (h : ℕ) → IsCleared ports g old mid new waits some more h →
    IsPlaced g old (placed_at g new h) waits more h
placed ports g old mid new waits some more h c =
    let k = c.graph in
    let lf = first_in ports g new h k c.now c.known in
    let ls = second_in ports g new h k c.now c.known in
    let low = λ (r : ℕ) (lr : r < g.count). first_low ports g r k lr in
    record {
      in' = (c.known, elim (cells new (g.first h) (g.second h) h (g.first h) lf ls) [ inl (_, e) ↦ e | inr (nf, _, _) ↦ absurd (nf refl) ]);
      from = λ r (lr, at_r). elim (cells new (g.first h) (g.second h) h (g.first r) lf ls) [
        | inl (_, e) ↦ inl (sym at_r ∙ e)
        | inr (nf, _, e) ↦
            let (in_mid, other) = survived ports g mid new some more (g.second h) (g.first r) r k c.second (low r lr) lr (sym e ∙ at_r) in
            let (in_old, _) = survived ports g old mid waits some (g.first h) (g.first r) r k c.first (low r lr) lr in_mid in
            inr ((lr, in_old), λ m. elim m [ inl x ↦ nf x | inr x ↦ other (sym (ap (λ p. get_or mid p 0) (sym x) ∙ c.between.across r lr in_mid)) ])
      ];
      keeps = λ r (lr, at_r) out.
          let in_mid = remains ports g old mid waits some (g.first h) (g.first r) r c.first (low r lr) at_r
          (λ e. out (inl (meets_first ports g old h r k c.board c.known lr (sym e)))) in
          let in_new = remains ports g mid new some more (g.second h) (g.first r) r c.second (low r lr) in_mid
          (λ e. out (inr (meets_second ports g mid h r k c.between c.known lr (sym e)))) in (
            lr,
            elim (cells new (g.first h) (g.second h) h (g.first r) lf ls) [
              | inl (inl x, _) ↦ absurd (out (inl x))
              | inl (inr x, _) ↦ absurd (sides_apart ports g r h k lr c.known x)
              | inr (_, _, e) ↦ e ∙ in_new
            ],
          );
      stays = λ p has. c.second.stays p (c.first.stays p has);
      freed_first = λ s (l, at_s) m. elim m [
        | inl x ↦ inl x
        | inr x ↦ elim (cases_eq s (get_or old (g.first h) 0)) [
          | inl e ↦ inl (meets_first ports g old h s k c.board c.known l (sym e))
          | inr ne ↦
              let in_mid = remains ports g old mid waits some (g.first h) (g.second s) s c.first (k.second s l) (c.board.across s l at_s) ne in
              elim (c.second.first s l (ap (λ p. get_or mid p 0) (sym x) ∙ in_mid)) [
                | inl y ↦ absurd (sides_apart ports g s h k l c.known y)
                | inr has ↦ inr has
              ]
        ]
      ];
      freed_second = λ s (l, at_s) m. elim m [
        | inr x ↦ inl x
        | inl x ↦ elim (c.first.second s l (ap (λ p. get_or old p 0) (sym x) ∙ at_s)) [
          | inl y ↦ absurd (sides_apart ports g h s k c.known l (sym y))
          | inr has ↦ inr (c.second.stays (g.second s) has)
        ]
      ];
      rises = omega (
        arith,
        two_weigh (weight g.count) new (g.first h) (g.second h) h lf ls (λ x. sides_apart ports g h h k c.known c.known (sym x)),
        ap (weight g.count) (first_is_free ports g old mid new waits some more h c),
        ap (weight g.count) (second_is_free ports g old mid new waits some more h c),
        weight_none g.count no_rank k.few,
        c.first.weighs,
        c.second.weighs,
        weight_falls g.count h (get_or old (g.first h) 0) c.low_first c.known,
        weight_falls g.count h (get_or mid (g.second h) 0) (still_later ports g old mid new waits some more h c) c.known,
      );
      two_more = omega (arith, c.first.one_more, c.second.one_more);
    }
