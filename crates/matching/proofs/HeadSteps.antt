-- The head between two ports is another.
use Rattle.std.proofs.Common.{length-set, ◌≡◌, ◌≢◌, ℕ, ◌+◌, ◌-◌, ◌*◌, ◌/◌, ◌%◌, ◌≤◌, ◌<◌, ◌⊎◌, inl, inr, List, length, get_or, set, sym, ap, subst, ◌∙◌, arith}
use Rattle.std.proofs.lemmas.Bool.{cases_eq}
use Rattle.std.proofs.lemmas.Grind.{get_or-set_at}
use Rattle.std.proofs.lemmas.List.{get_or-set_other}
use Rattle.std.proofs.lemmas.Nat.{div-mul-add, mod-mul-add, mul-add-lt}
use Rattle.matching.specs.Kept.{Graph, Touches}
use Rattle.matching.specs.Board.{no_rank, IsGraph}
use Rattle.matching.specs.Heads.{opposite, head_at, IsHead, IsHeads, IsBetween, IsReplaced, IsNext, IsChain, IsOwingBehind, from_on}
use Rattle.matching.proofs.BoardSteps.{with_two, cells, sides_apart}
use Rattle.matching.proofs.SettleSteps.{opposite_first, opposite_second, sided, touches_as}

-- ---- places in the table

same_row : (w p k q j : ℕ) → k < w → j < w → p * w + k ≡ q * w + j → p ≡ q
same_row w p k q j lk lj e = sym (div-mul-add p w k lk) ∙ ap (λ x. x / w) e ∙ div-mul-add q w j lj

same_column : (w p k q j : ℕ) → k < w → j < w → p * w + k ≡ q * w + j → k ≡ j
same_column w p k q j lk lj e = sym (mod-mul-add p w k lk) ∙ ap (λ x. x % w) e ∙ mod-mul-add q w j lj

-- two ports of two sides
pub record IsPair (ports first second : ℕ) : Type 0 where
  pub first_low : first < ports
  pub second_from : ports ≤ second
  pub second_low : second < ports + ports

pub place_first : (ports first second : ℕ) → IsPair ports first second → first * ports + (second - ports) < (ports + ports) * ports
place_first ports first second h = omega (arith, mul-add-lt first ports (second - ports) (ports + ports) (omega (arith, h.first_low)) (omega (arith, h.second_low, h.second_from)))

place_second : (ports first second : ℕ) → IsPair ports first second → second * ports + first < (ports + ports) * ports
place_second ports first second h = omega (arith, mul-add-lt second ports first (ports + ports) h.second_low h.first_low)

-- a place of the table is between the ports exactly where it is one of their two
between_place : (ports first second p k : ℕ) → IsPair ports first second → k < ports → IsBetween ports first second p k →
    (p * ports + k ≡ first * ports + (second - ports)) ⊎ (p * ports + k ≡ second * ports + first)
between_place ports first second p k h lk (inl (a, b)) =
    let low : p < ports = omega (arith, a, h.first_low) in
    let e : k ≡ second - ports = omega (arith, b, opposite_first ports p k low) in
    inl (ap (λ x. x * ports + k) a ∙ ap (λ x. first * ports + x) e)
between_place ports first second p k h lk (inr (a, b)) =
    let high : ports ≤ p = omega (arith, a, h.second_from) in
    let e : k ≡ first = omega (arith, b, opposite_second ports p k high) in
    inr (ap (λ x. x * ports + k) a ∙ ap (λ x. second * ports + x) e)

place_between : (ports first second p k : ℕ) → IsPair ports first second → k < ports →
    (p * ports + k ≡ first * ports + (second - ports)) ⊎ (p * ports + k ≡ second * ports + first) → IsBetween ports first second p k
place_between ports first second p k h lk (inl e) =
    let lj : second - ports < ports = omega (arith, h.second_low, h.second_from) in
    let a = same_row ports p k first (second - ports) lk lj e in
    let b = same_column ports p k first (second - ports) lk lj e in
    inl (a, omega (arith, opposite_first ports p k (omega (arith, a, h.first_low)), b, h.second_from))
place_between ports first second p k h lk (inr e) =
    let a = same_row ports p k second first lk h.first_low e in
    let b = same_column ports p k second first lk h.first_low e in
    inr (a, omega (arith, opposite_second ports p k (omega (arith, a, h.second_from)), b))

pub replaced : (ports : ℕ) (old : List ℕ) (first second head : ℕ) → length old ≡ (ports + ports) * ports → IsPair ports first second →
    IsReplaced ports old (with_two old (first * ports + (second - ports)) (second * ports + first) head) first second head
replaced ports old first second head size h =
    let lf : first * ports + (second - ports) < length old = omega (arith, size, place_first ports first second h) in
    let ls : second * ports + first < length old = omega (arith, size, place_second ports first second h) in
    record {
      here = λ p k lp lk b. elim (cells old (first * ports + (second - ports)) (second * ports + first) head (p * ports + k) lf ls) [
        | inl (_, e) ↦ e
        | inr (nf, ns, _) ↦ elim (between_place ports first second p k h lk b) [ inl x ↦ absurd (nf x) | inr x ↦ absurd (ns x) ]
      ];
      others = λ p k lp lk out. elim (cells old (first * ports + (second - ports)) (second * ports + first) head (p * ports + k) lf ls) [
        | inl (x, _) ↦ absurd (out (place_between ports first second p k h lk x))
        | inr (_, _, e) ↦ e
      ];
    }

-- ---- which ranks are between two ports

pub between_or_not : (ports first second p k : ℕ) → IsBetween ports first second p k ⊎ (IsBetween ports first second p k → ⊥)
between_or_not ports first second p k = elim (cases_eq p first) [
  | inl a ↦ elim (cases_eq (opposite ports p k) second) [
    | inl b ↦ inl (inl (a, b))
    | inr nb ↦ elim (cases_eq p second) [
      | inl c ↦ elim (cases_eq (opposite ports p k) first) [ inl d ↦ inl (inr (c, d)) | inr nd ↦ inr (λ x. elim x [ inl (_, b) ↦ nb b | inr (_, d) ↦ nd d ]) ]
      | inr nc ↦ inr (λ x. elim x [ inl (_, b) ↦ nb b | inr (c, _) ↦ nc c ])
    ]
  ]
  | inr na ↦ elim (cases_eq p second) [
    | inl c ↦ elim (cases_eq (opposite ports p k) first) [ inl d ↦ inl (inr (c, d)) | inr nd ↦ inr (λ x. elim x [ inl (a, _) ↦ na a | inr (_, d) ↦ nd d ]) ]
    | inr nc ↦ inr (λ x. elim x [ inl (a, _) ↦ na a | inr (c, _) ↦ nc c ])
  ]
]

touches_between : (ports : ℕ) (g : Graph) (p k r : ℕ) → IsGraph ports g → r < g.count → k < ports → Touches g p r → Touches g (opposite ports p k) r →
    IsBetween ports (g.first r) (g.second r) p k
touches_between ports g p k r gr lt lk tp tq = elim (sided ports g p r gr lt tp) [
  | inl (low, e) ↦ elim (sided ports g (opposite ports p k) r gr lt tq) [
    | inl (low', _) ↦ absurd (omega (arith, opposite_first ports p k low, low'))
    | inr (_, e') ↦ inl (sym e, sym e')
  ]
  | inr (high, e) ↦ elim (sided ports g (opposite ports p k) r gr lt tq) [
    | inl (_, e') ↦ inr (sym e, sym e')
    | inr (high', _) ↦ absurd (omega (arith, opposite_second ports p k high, high', lk))
  ]
]

between_touches : (ports : ℕ) (g : Graph) (p k r : ℕ) → IsBetween ports (g.first r) (g.second r) p k → Touches g p r × Touches g (opposite ports p k) r
between_touches ports g p k r (inl (a, b)) = (inl (sym a), inr (sym b))
between_touches ports g p k r (inr (a, b)) = (inr (sym a), inl (sym b))

same_pair : (ports : ℕ) (g : Graph) (p k r s : ℕ) → IsGraph ports g → r < g.count → s < g.count → IsBetween ports (g.first r) (g.second r) p k →
    IsBetween ports (g.first s) (g.second s) p k → (g.first s ≡ g.first r) × (g.second s ≡ g.second r)
same_pair ports g p k r s gr lr ls (inl (a, b)) (inl (c, d)) = (sym c ∙ a, sym d ∙ b)
same_pair ports g p k r s gr lr ls (inl (a, b)) (inr (c, d)) = absurd (sides_apart ports g r s gr lr ls (sym a ∙ c))
same_pair ports g p k r s gr lr ls (inr (a, b)) (inl (c, d)) = absurd (sides_apart ports g s r gr ls lr (sym c ∙ a))
same_pair ports g p k r s gr lr ls (inr (a, b)) (inr (c, d)) = (sym d ∙ b, sym c ∙ a)

-- a rank between the same ports as another
pair_of : (ports : ℕ) (g : Graph) (p k r s : ℕ) → IsGraph ports g → r < g.count → s < g.count → k < ports → IsBetween ports (g.first r) (g.second r) p k → Touches g p s →
    Touches g (opposite ports p k) s → (g.first s ≡ g.first r) × (g.second s ≡ g.second r)
pair_of ports g p k r s gr lr ls lk b tp tq = same_pair ports g p k r s gr lr ls b (touches_between ports g p k s gr ls lk tp tq)

-- ---- a rank ends

pub record IsEnding (ports : ℕ) (g : Graph) (left lower : ℕ → ℕ) (rank next : ℕ) : Type 0 where
  pub graph : IsGraph ports g
  pub known : rank < g.count
  pub owes : 0 < left rank
  pub ended : lower rank ≡ 0
  pub others : (r : ℕ) → r ≢ rank → lower r ≡ left r
  pub top : (s : ℕ) → s < g.count → 0 < left s → g.first s ≡ g.first rank → g.second s ≡ g.second rank → rank ≤ s
  pub behind : IsOwingBehind g left
  pub next_is : IsNext g rank next

owed_before : (ports : ℕ) (g : Graph) (left lower : ℕ → ℕ) (rank next r : ℕ) → IsEnding ports g left lower rank next → 0 < lower r → (r ≢ rank) × (0 < left r)
owed_before ports g left lower rank next r e some =
    let ne : r ≢ rank = λ same. omega (arith, e.ended, ap lower same, some) in
    (ne, omega (arith, e.others r ne, some))

pub ended_behind : (ports : ℕ) (g : Graph) (left lower : ℕ → ℕ) (rank next : ℕ) → IsEnding ports g left lower rank next → IsOwingBehind g lower
ended_behind ports g left lower rank next e r s less ls a b some =
    let (ne, owed) = owed_before ports g left lower rank next r e some in
    elim (cases_eq s rank) [
      | inl same ↦ absurd (omega (arith, same, less, e.top r (omega (arith, less, ls)) owed (sym a ∙ ap g.first same) (sym b ∙ ap g.second same)))
      | inr ns ↦ omega (arith, e.others s ns, e.behind r s less ls a b owed)
    ]

pub ended_heads : (ports : ℕ) (g : Graph) (left lower : ℕ → ℕ) (rank next : ℕ) (old new : List ℕ) → IsEnding ports g left lower rank next → length new ≡ length old →
    IsReplaced ports old new (g.first rank) (g.second rank) next → IsHeads ports g left old → IsHeads ports g lower new
ended_heads ports g left lower rank next old new e size re h = record {
  size = size ∙ h.size;
  head = λ p k lp lk. elim (between_or_not ports (g.first rank) (g.second rank) p k) [
    | inl b ↦ subst (λ x. IsHead g lower p (opposite ports p k) x) (sym (re.here p k lp lk b)) (here p k lk b)
    | inr out ↦ subst (λ x. IsHead g lower p (opposite ports p k) x) (sym (re.others p k lp lk out)) (there p k lp lk out (h.head p k lp lk))
  ];
} where
  here : (p k : ℕ) → k < ports → IsBetween ports (g.first rank) (g.second rank) p k → IsHead g lower p (opposite ports p k) next
  here p k lk b =
      let t = between_touches ports g p k rank b in
      record {
        one = elim e.next_is.one [
          | inl none ↦ inl none
          | inr (lt, less, a, c) ↦ inr (
            lt,
            omega (arith, e.others next (omega (arith, less)), e.behind rank next less lt a c e.owes),
            touches_as g p rank next a c t.0,
            touches_as g (opposite ports p k) rank next a c t.1,
          )
        ];
        least = λ r lr some tp tq.
            let (ne, owed) = owed_before ports g left lower rank next r e some in
            let (a, c) = pair_of ports g p k rank r e.graph e.known lr lk b tp tq in
            e.next_is.least r lr (omega (arith, ne, e.top r lr owed a c)) a c;
      }

  there : (p k : ℕ) → p < ports + ports → k < ports → (IsBetween ports (g.first rank) (g.second rank) p k → ⊥) → IsHead g left p (opposite ports p k) (head_at ports old p k) →
      IsHead g lower p (opposite ports p k) (head_at ports old p k)
  there p k lp lk out hd = record {
    one = elim hd.one [
      | inl none ↦ inl none
      | inr (lt, owed, tp, tq) ↦
          let ne : head_at ports old p k ≢ rank =
          λ same. out (subst (λ x. IsBetween ports (g.first x) (g.second x) p k) same (touches_between ports g p k (head_at ports old p k) e.graph lt lk tp tq)) in
          inr (lt, omega (arith, e.others (head_at ports old p k) ne, owed), tp, tq)
    ];
    least = λ r lr some tp tq. hd.least r lr (owed_before ports g left lower rank next r e some).1 tp tq;
  }

-- ---- the table is filled from the last rank to the first

pub filled_heads : (ports : ℕ) (g : Graph) (k : ℕ) (old new : List ℕ) → IsGraph ports g → k < g.count → length new ≡ length old →
    IsReplaced ports old new (g.first k) (g.second k) k → IsHeads ports g (from_on (k + 1)) old → IsHeads ports g (from_on k) new
filled_heads ports g n old new gr lt size re h = record {
  size = size ∙ h.size;
  head = λ p k lp lk. elim (between_or_not ports (g.first n) (g.second n) p k) [
    | inl b ↦ subst (λ x. IsHead g (from_on n) p (opposite ports p k) x) (sym (re.here p k lp lk b)) (here p k b)
    | inr out ↦ subst (λ x. IsHead g (from_on n) p (opposite ports p k) x) (sym (re.others p k lp lk out)) (there p k lp lk out (h.head p k lp lk))
  ];
} where
  here : (p k : ℕ) → IsBetween ports (g.first n) (g.second n) p k → IsHead g (from_on n) p (opposite ports p k) n
  here p k b =
      let t = between_touches ports g p k n b in
      record {
        one = inr (lt, omega arith, t.0, t.1);
        least = λ r lr some tp tq. omega (arith, some);
      }

  there : (p k : ℕ) → p < ports + ports → k < ports → (IsBetween ports (g.first n) (g.second n) p k → ⊥) →
      IsHead g (from_on (n + 1)) p (opposite ports p k) (head_at ports old p k) → IsHead g (from_on n) p (opposite ports p k) (head_at ports old p k)
  there p k lp lk out hd = record {
    one = elim hd.one [ inl none ↦ inl none | inr (lt', owed, tp, tq) ↦ inr (lt', omega (arith, owed), tp, tq) ];
    least = λ r lr some tp tq. elim (cases_eq r n) [
      | inl same ↦ absurd (out (subst (λ x. IsBetween ports (g.first x) (g.second x) p k) same (touches_between ports g p k r gr lr lk tp tq)))
      | inr ne ↦ hd.least r lr (omega (arith, ne, some)) tp tq
    ];
  }

-- what the head was is the next rank
pub head_is_next : (ports : ℕ) (g : Graph) (n p k head : ℕ) → IsGraph ports g → n < g.count → k < ports → IsBetween ports (g.first n) (g.second n) p k →
    IsHead g (from_on (n + 1)) p (opposite ports p k) head → IsNext g n head
head_is_next ports g n p k head gr lt lk b hd =
    let t = between_touches ports g p k n b in
    record {
      one = elim hd.one [
        | inl none ↦ inl none
        | inr (lt', owed, tp, tq) ↦ let (a, c) = pair_of ports g p k n head gr lt lt' lk b tp tq in inr (lt', omega (arith, owed), a, c)
      ];
      least = λ s ls less a c. hd.least s ls (omega (arith, less)) (touches_as g p n s a c t.0) (touches_as g (opposite ports p k) n s a c t.1);
    }

pub next_chain : (g : Graph) (next : List ℕ) (n head : ℕ) → n < g.count → IsNext g n head → IsChain g next (n + 1) → IsChain g (set next n head) n
next_chain g next n head lt is c = record {
  fits = omega (arith, c.fits, length-set next n head);
  next_is = λ r from lr. elim (cases_eq r n) [
    | inl same ↦ subst (λ x. IsNext g r x) (sym (get_or-set_at next n r head 0 same (omega (arith, lt, c.fits)))) (subst (λ x. IsNext g x head) (sym same) is)
    | inr ne ↦ subst (λ x. IsNext g r x) (sym (get_or-set_other next n r head 0 ne)) (c.next_is r (omega (arith, from, ne)) lr)
  ];
}

-- nothing owes
pub no_heads : (ports : ℕ) (g : Graph) (heads : List ℕ) → IsGraph ports g → length heads ≡ (ports + ports) * ports → ((k : ℕ) → k < length heads → get_or heads k 0 ≡ no_rank) →
    IsHeads ports g (from_on g.count) heads
no_heads ports g heads gr size none = record {
  size = size;
  head = λ p k lp lk.
      let e : head_at ports heads p k ≡ no_rank = none (p * ports + k) (omega (arith, size, mul-add-lt p ports k (ports + ports) lp lk)) in
      record {
        one = inl e;
        least = λ r lr some tp tq. absurd (omega (arith, some, lr));
      };
}

pub no_chain : (g : Graph) (next : List ℕ) → g.count ≤ length next → IsChain g next g.count
no_chain g next fits = record {
  fits = fits;
  next_is = λ r from lr. absurd (omega (arith, from, lr));
}

-- when all ranks are there, each of them owes
pub heads_all : (ports : ℕ) (g : Graph) (heads : List ℕ) → IsHeads ports g (from_on 0) heads → IsHeads ports g (λ r. r + 1) heads
heads_all ports g heads h = record {
  size = h.size;
  head = λ p k lp lk.
      let of = h.head p k lp lk in
      record {
        one = elim of.one [ inl none ↦ inl none | inr (lt, _, a, b) ↦ inr (lt, omega arith, a, b) ];
        least = λ r lr _ a b. of.least r lr (omega arith) a b;
      };
}
