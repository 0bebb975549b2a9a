-- One row of a pass, and its beginning and end.
use Rattle.std.proofs.Common.{◌≡◌, ◌≢◌, ℕ, ◌+◌, ◌-◌, ◌*◌, ◌≤◌, ◌<◌, ◌⊎◌, inl, inr, List, length, get_or, None, Some, refl, sym, ap, subst, ◌∙◌, arith}
use Rattle.std.proofs.lemmas.Bool.{cases_eq, cases_lt}
use Rattle.matching.specs.declared.heads.Heads.{Heads}
use Rattle.matching.specs.declared.ranks.Ranks.{Ranks}
use Rattle.matching.specs.declared.rows.Rows.{Rows}
use Rattle.matching.specs.Kept.{Graph, IsCovered, Meets}
use Rattle.matching.specs.Board.{graph_of, no_rank, IsGraph, IsRanks, Stands, IsBoard, IsKeptBelow, IsPlaced}
use Rattle.matching.specs.Heads.{IsChain, IsHead, IsHeads, IsOwingBehind}
use Rattle.matching.specs.Rows.{bit_of, owes_at, row_of, IsLeastFree, IsRows}
use Rattle.matching.specs.Pass.{IsFree, IsPassed, IsPassing}
use Rattle.matching.specs.Sound.{IsFirstOfPair, IsSettledBelow}
use Rattle.matching.proofs.BoardSteps.{stands_at}
use Rattle.matching.proofs.SettleSteps.{meets_at, opposite_first}

-- what a row of the pass begins with
pub record IsRowScene (ports : ℕ) (g : Graph) (left : ℕ → ℕ) (heads : List ℕ) (rows : Rows) (at free : List ℕ) (bound k : ℕ) : Type 0 where
  pub graph : IsGraph ports g
  pub table : IsHeads ports g left heads
  pub layout : IsRows ports g left rows
  pub all : rows.ranked ≡ g.count
  pub low : k < rows.count
  pub passing : IsPassing ports g left rows at free bound k

-- a rank of the row that was not passed before
pub record IsFresh (g : Graph) (left : ℕ → ℕ) (rows : Rows) (bound k r : ℕ) : Type 0 where
  pub known : r < g.count
  pub owes : 0 < left r
  pub here : row_of rows r ≡ k
  pub new : bound ≤ r

stands_rank : (g : Graph) (ports : ℕ) (at : List ℕ) (p : ℕ) → IsBoard ports g at → p < ports + ports → get_or at p 0 ≢ no_rank → Stands g at (get_or at p 0)
stands_rank g ports at p b low some = (stands_at ports g at p (get_or at p 0) b low some refl).0

module _ (ports : ℕ) (g : Graph) (left : ℕ → ℕ) (heads : List ℕ) (rows : Rows) (at free : List ℕ) (bound k : ℕ) (s : IsRowScene ports g left heads rows at free bound k) where
  -- what stands comes before each rank of the row that was not passed
  stood_before : (r q : ℕ) → IsFresh g left rows bound k r → Stands g at q → q ≤ r
  stood_before r q n has = elim (s.passing.before q has) [
    | inl low ↦ omega (arith, low, n.new)
    | inr less ↦ elim (cases_lt r q) [
      | inr le ↦ le
      | inl lt ↦ absurd (omega (arith, less, n.here, s.layout.follows r q lt (omega (arith, has.0, s.all))))
    ]
  ]

  -- a port of it is taken
  covered_at : (r p : ℕ) → IsFresh g left rows bound k r → p < ports + ports → (g.first r ≡ p) ⊎ (g.second r ≡ p) → get_or at p 0 ≢ no_rank → IsCovered g (Stands g at) r
  covered_at r p n low touches some =
      let (stands, touches') = stands_at ports g at p (get_or at p 0) s.passing.board low some refl in
      (get_or at p 0, stands, stood_before r (get_or at p 0) n stands, meets_at ports g p (get_or at p 0) r s.graph stands.0 n.known touches' touches)

  first_at : (r : ℕ) → r < g.count → row_of rows r ≡ k → g.first r ≡ get_or rows.first.items k 0
  first_at r lt here = sym (s.layout.first r (omega (arith, lt, s.all))) ∙ ap (λ j. get_or rows.first.items j 0) here

  -- the row is done where each of its ranks is covered
  pub row_done : ((r : ℕ) → IsFresh g left rows bound k r → IsCovered g (Stands g at) r) → IsPassing ports g left rows at free bound (k + 1)
  row_done all = record {
    board = s.passing.board;
    owed = s.passing.owed;
    top = s.passing.top;
    before = λ r has. elim (s.passing.before r has) [ inl low ↦ inl low | inr less ↦ inr (omega (arith, less)) ];
    covered = λ r lt some passed. elim (cases_lt r bound) [
      | inl low ↦ s.passing.covered r lt some (inl low)
      | inr new ↦ elim (cases_lt (row_of rows r) k) [
        | inl less ↦ s.passing.covered r lt some (inr less)
        | inr ge ↦ all r (record { known = lt; owes = some; here = in_row r passed new ge; new = new })
      ]
    ];
    free = s.passing.free;
  } where
    in_row : (r : ℕ) → IsPassed rows bound (k + 1) r → bound ≤ r → k ≤ row_of rows r → row_of rows r ≡ k
    in_row r (inl low) new ge = absurd (omega (arith, low, new))
    in_row r (inr less) new ge = omega (arith, less, ge)

  pub port_is_taken : get_or at (get_or rows.first.items k 0) 0 < no_rank → IsPassing ports g left rows at free bound (k + 1)
  port_is_taken low = row_done (λ r n.
      covered_at r (get_or rows.first.items k 0) n (omega (arith, s.layout.inside k s.low)) (inl (first_at r n.known n.here)) (λ e. omega (arith, e, low)))

  -- the second port of a rank of the row
  second_at : (r : ℕ) → r < g.count → g.second r ≡ ports + (g.second r - ports)
  second_at r lt = omega (arith, s.graph.second_from r lt)

  taken_at : (r : ℕ) → IsFresh g left rows bound k r → (owes_at rows k (g.second r - ports) ≡ 1 → bit_of free 0 (g.second r - ports) ≡ 0) → get_or at (g.second r) 0 ≢ no_rank
  taken_at r n shut =
      let e = g.second r - ports in
      let owed : owes_at rows k e ≡ 1 = ap (λ j. owes_at rows j e) (sym n.here) ∙ s.layout.owed r e (omega (arith, n.known, s.all)) n.owes (second_at r n.known) in
      λ none. s.passing.free.taken e (omega (arith, s.graph.second r n.known, s.graph.second_from r n.known)) (shut owed)
      (ap (λ p. get_or at p 0) (sym (second_at r n.known)) ∙ none)

  pub none_is_free : IsLeastFree rows free k None → IsPassing ports g left rows at free bound (k + 1)
  none_is_free shut = row_done (λ r n.
      covered_at r (g.second r) n (s.graph.second r n.known) (inr refl)
      (taken_at r n (shut (g.second r - ports) (omega (arith, s.graph.second r n.known, s.graph.second_from r n.known, s.layout.shape.wide)))))

  -- ---- the first rank that owes and finds its other port free

  pub record IsGranted (across h : ℕ) : Type 0 where
    pub known : h < g.count
    pub owes : 0 < left h
    pub first : g.first h ≡ get_or rows.first.items k 0
    pub second : g.second h ≡ ports + across
    pub top : (q : ℕ) → q < g.count → 0 < left q → g.first q ≡ g.first h → g.second q ≡ g.second h → h ≤ q
    pub above : (r : ℕ) × (h ≤ r) × (r < rows.ranked) × (row_of rows r ≡ k) × (g.second r ≡ ports + across)

  pub across_low : (across : ℕ) → IsLeastFree rows free k (Some across) → across < ports
  across_low across (low, owed, open', shut) =
      let (r, lr, here, at_r, some) = s.layout.only k across (omega (arith, s.low, s.layout.fits)) low owed in
      omega (arith, at_r, s.graph.second r (omega (arith, lr, s.all)))

  pub head_granted : (across : ℕ) → IsLeastFree rows free k (Some across) → IsGranted across (get_or heads (get_or rows.first.items k 0 * ports + across) 0)
  head_granted across (low, owed, open', shut) =
      let (r, lr, here, at_r, some) = s.layout.only k across (omega (arith, s.low, s.layout.fits)) low owed in
      let lt : r < g.count = omega (arith, lr, s.all) in
      let i = get_or rows.first.items k 0 in
      let inside : i < ports = s.layout.inside k s.low in
      let lk : across < ports = omega (arith, at_r, s.graph.second r lt) in
      let head : IsHead g left i (ports + across) (get_or heads (i * ports + across) 0) =
      subst (λ q. IsHead g left i q (get_or heads (i * ports + across) 0)) (opposite_first ports i across inside) (s.table.head i across (omega (arith, inside)) lk) in
      let le = head.least r lt some (inl (first_at r lt here)) (inr at_r) in
      elim head.one [
        | inl none ↦ absurd (omega (arith, none, le, lt, s.graph.few))
        | inr (known, owes, ti, te) ↦
            let first = at_first (get_or heads (i * ports + across) 0) i inside known ti in
            let second = at_second (get_or heads (i * ports + across) 0) (ports + across) (omega arith) known te in
            record {
              known = known;
              owes = owes;
              first = first;
              second = second;
              top = λ q lq some' a b. head.least q lq some' (inl (a ∙ first)) (inr (b ∙ second));
              above = (r, le, lr, here, at_r);
            }
      ]
    where
      at_first : (h i : ℕ) → i < ports → h < g.count → (g.first h ≡ i) ⊎ (g.second h ≡ i) → g.first h ≡ i
      at_first h i inside known (inl e) = e
      at_first h i inside known (inr e) = absurd (omega (arith, e, inside, s.graph.second_from h known))

      at_second : (h q : ℕ) → ports ≤ q → h < g.count → (g.first h ≡ q) ⊎ (g.second h ≡ q) → g.second h ≡ q
      at_second h q inside known (inr e) = e
      at_second h q inside known (inl e) = absurd (omega (arith, e, inside, s.graph.first h known))

  -- what stood does not meet it
  apart_from : (h q : ℕ) → h < g.count → get_or at (g.first h) 0 ≡ no_rank → get_or at (g.second h) 0 ≡ no_rank → Stands g at q → Meets g q h → ⊥
  apart_from h q known none none' (lt, at_q) (inl e) = omega (arith, sym at_q ∙ ap (λ p. get_or at p 0) e ∙ none, lt, s.graph.few)
  apart_from h q known none none' (lt, at_q) (inr e) = omega (arith, sym (s.passing.board.across q lt at_q) ∙ ap (λ p. get_or at p 0) e ∙ none', lt, s.graph.few)

  -- the rank went in, and its second port is not free any more
  pub record IsGoneIn (across h : ℕ) (new bits waits more : List ℕ) : Type 0 where
    pub found : IsLeastFree rows free k (Some across)
    pub granted : IsGranted across h
    pub none : get_or at (g.first h) 0 ≡ no_rank
    pub none' : get_or at (g.second h) 0 ≡ no_rank
    pub board : IsBoard ports g new
    pub placed : IsPlaced g at new waits more h
    pub here : bit_of bits 0 across ≡ 0
    pub others : (e : ℕ) → e < ports → e ≢ across → bit_of bits 0 e ≡ bit_of free 0 e

  pub rank_is_granted : (across h : ℕ) (new bits waits more : List ℕ) → IsGoneIn across h new bits waits more → IsPassing ports g left rows new bits bound (k + 1)
  rank_is_granted across h new bits waits more d = record {
    board = d.board;
    owed = λ r has. elim (d.placed.from r has) [ inl e ↦ subst (λ x. 0 < left x) (sym e) d.granted.owes | inr (old, _) ↦ s.passing.owed r old ];
    top = λ r q has lq some a b. elim (d.placed.from r has) [
      | inl e ↦ subst (λ x. x ≤ q) (sym e) (d.granted.top q lq some (a ∙ ap g.first e) (b ∙ ap g.second e))
      | inr (old, _) ↦ s.passing.top r q old lq some a b
    ];
    before = λ r has. elim (d.placed.from r has) [
      | inl e ↦ inr (subst (λ x. row_of rows x < k + 1) (sym e) in_row)
      | inr (old, _) ↦ elim (s.passing.before r old) [ inl low ↦ inl low | inr less ↦ inr (omega (arith, less)) ]
    ];
    covered = λ r lt some passed. elim (cases_lt r bound) [
      | inl low ↦ still r (s.passing.covered r lt some (inl low))
      | inr fresh ↦ elim (cases_lt (row_of rows r) k) [
        | inl less ↦ still r (s.passing.covered r lt some (inr less))
        | inr ge ↦ of_row r (record { known = lt; owes = some; here = last r passed fresh ge; new = fresh })
      ]
    ];
    free = record {
      free = λ e le one. elim (cases_eq e across) [
        | inl same ↦ absurd (omega (arith, d.here, ap (λ x. bit_of bits 0 x) same, one))
        | inr ne ↦ still_free e le ne (s.passing.free.free e le (sym (d.others e le ne) ∙ one))
      ];
      taken = λ e le zero. elim (cases_eq e across) [
        | inl same ↦ λ none. absurd (omega (
          arith,
          d.board.across h d.granted.known d.placed.in'.1,
          ap (λ p. get_or new p 0) (d.granted.second ∙ ap (λ x. ports + x) (sym same)),
          none,
          d.granted.known,
          s.graph.few,
        ))
        | inr ne ↦ still_taken e le (s.passing.free.taken e le (sym (d.others e le ne) ∙ zero))
      ];
    };
  } where
    above : (r : ℕ) × (h ≤ r) × (r < rows.ranked) × (row_of rows r ≡ k) × (g.second r ≡ ports + across)
    above = d.granted.above

    in_row : row_of rows h < k + 1
    in_row = elim (cases_eq h above.0) [
      | inl e ↦ omega (arith, ap (row_of rows) e, above.3)
      | inr ne ↦ omega (arith, s.layout.follows h above.0 (omega (arith, ne, above.1)) above.2, above.3)
    ]

    last : (r : ℕ) → IsPassed rows bound (k + 1) r → bound ≤ r → k ≤ row_of rows r → row_of rows r ≡ k
    last r (inl low) fresh ge = absurd (omega (arith, low, fresh))
    last r (inr less) fresh ge = omega (arith, less, ge)

    stays : (q : ℕ) → Stands g at q → Stands g new q
    stays q has = d.placed.keeps q has (apart_from h q d.granted.known d.none d.none' has)

    still : (r : ℕ) → IsCovered g (Stands g at) r → IsCovered g (Stands g new) r
    still r (q, has, le, meets) = (q, stays q has, le, meets)

    of_row : (r : ℕ) → IsFresh g left rows bound k r → IsCovered g (Stands g new) r
    of_row r n = elim (cases_lt r h) [
      | inr le ↦ (h, d.placed.in', le, inl (d.granted.first ∙ sym (first_at r n.known n.here)))
      | inl less ↦
          let earlier = s.layout.rises r above.0 (omega (arith, less, above.1)) above.2 (n.here ∙ sym above.3) in
          let low : g.second r - ports < across = omega (arith, earlier, above.4, s.graph.second_from r n.known) in
          still r (covered_at r (g.second r) n (s.graph.second r n.known) (inr refl) (taken_at r n (d.found.3 (g.second r - ports) low)))
    ]

    ends_at : (q e : ℕ) → q < g.count → (g.first q ≡ ports + e) ⊎ (g.second q ≡ ports + e) → g.second q ≡ ports + e
    ends_at q e lt (inr is) = is
    ends_at q e lt (inl is) = absurd (omega (arith, is, s.graph.first q lt))

    still_free : (e : ℕ) → e < ports → e ≢ across → get_or at (ports + e) 0 ≡ no_rank → get_or new (ports + e) 0 ≡ no_rank
    still_free e le ne none = elim (d.board.own (ports + e) (omega arith)) [
      | inl is ↦ is
      | inr (lt, touches) ↦
          let q = get_or new (ports + e) 0 in
          let (stands, _) = stands_at ports g new (ports + e) q d.board (omega arith) (λ x. omega (arith, x, lt, s.graph.few)) refl in
          let second : g.second q ≡ ports + e = ends_at q e lt touches in
          elim (d.placed.from q stands) [
            | inl same ↦ absurd (ne (omega (arith, ap g.second same, second, d.granted.second)))
            | inr ((lq, old), _) ↦ absurd (omega (arith, s.passing.board.across q lq old, ap (λ p. get_or at p 0) second, none, lq, s.graph.few))
          ]
    ]

    still_taken : (e : ℕ) → e < ports → get_or at (ports + e) 0 ≢ no_rank → get_or new (ports + e) 0 ≢ no_rank
    still_taken e le some =
        let q = get_or at (ports + e) 0 in
        let (stands, touches) = stands_at ports g at (ports + e) q s.passing.board (omega arith) some refl in
        let (lq, now) = stays q stands in
        λ none. omega (arith, sym (ap (λ p. get_or new p 0) (ends_at q e lq touches)) ∙ d.board.across q lq now, none, lq, s.graph.few)

-- at a port where no rank stands
pub nothing_at : (ports : ℕ) (g : Graph) (at : List ℕ) (p : ℕ) → IsGraph ports g → IsBoard ports g at → p < ports + ports → no_rank ≤ get_or at p 0 → get_or at p 0 ≡ no_rank
nothing_at ports g at p k b low ge = elim (b.own p low) [ inl none ↦ none | inr (lt, _) ↦ absurd (omega (arith, lt, ge, k.few)) ]

-- ---- the beginning

pub kept_stands : (g : Graph) (ports : ℕ) (old new : List ℕ) (bound r : ℕ) → IsGraph ports g → IsBoard ports g old → bound ≤ g.count → IsKeptBelow old new bound → Stands g new r →
    Stands g old r × (r < bound)
kept_stands g ports old new bound r k b few kept (lt, at_r) =
    let inside : g.first r < length old = omega (arith, k.first r lt, b.size) in
    elim (cases_lt (get_or old (g.first r) 0) bound) [
      | inl low ↦ let same = kept.below (g.first r) inside low in ((lt, sym same ∙ at_r), omega (arith, same, at_r, low))
      | inr high ↦ absurd (omega (arith, kept.gone (g.first r) inside high, at_r, lt, k.few))
    ]

pub stands_kept : (g : Graph) (ports : ℕ) (old new : List ℕ) (bound r : ℕ) → IsGraph ports g → IsBoard ports g old → IsKeptBelow old new bound → Stands g old r → r < bound →
    Stands g new r
stands_kept g ports old new bound r k b kept (lt, at_r) low =
    (lt, kept.below (g.first r) (omega (arith, k.first r lt, b.size)) (omega (arith, at_r, low)) ∙ at_r)

pub kept_board : (g : Graph) (ports : ℕ) (old new : List ℕ) (bound : ℕ) → IsGraph ports g → IsBoard ports g old → bound ≤ g.count → IsKeptBelow old new bound → IsBoard ports g new
kept_board g ports old new bound k b few kept = record {
  size = kept.size ∙ b.size;
  own = λ p low. let inside : p < length old = omega (arith, low, b.size) in elim (cases_lt (get_or old p 0) bound) [
    | inr high ↦ inl (kept.gone p inside high)
    | inl less ↦ let same = kept.below p inside less in elim (b.own p low) [
      | inl none ↦ inl (same ∙ none)
      | inr (lt, touches) ↦ inr (subst (λ x. (x < g.count) × ((g.first x ≡ p) ⊎ (g.second x ≡ p))) (sym same) (lt, touches))
    ]
  ];
  across = λ r lt at_r. let (old_r, low) = kept_stands g ports old new bound r k b few kept (lt, at_r) in
      let there = b.across r lt old_r.1 in
      kept.below (g.second r) (omega (arith, k.second r lt, b.size)) (omega (arith, there, low)) ∙ there;
  back = λ r lt at_r. let inside : g.second r < length old = omega (arith, k.second r lt, b.size) in elim (cases_lt (get_or old (g.second r) 0) bound) [
    | inr high ↦ absurd (omega (arith, kept.gone (g.second r) inside high, at_r, lt, k.few))
    | inl less ↦
        let same = kept.below (g.second r) inside less in
        let here = b.back r lt (sym same ∙ at_r) in
        kept.below (g.first r) (omega (arith, k.first r lt, b.size)) (omega (arith, here, same, at_r, less)) ∙ here
  ];
}

pub pass_begins : (ports : ℕ) (g : Graph) (left : ℕ → ℕ) (rows : Rows) (old new bits : List ℕ) (bound : ℕ) → IsGraph ports g → IsRows ports g left rows →
    rows.ranked ≡ g.count → IsBoard ports g old → bound < g.count → ((r : ℕ) → Stands g old r → 0 < left r) → IsFirstOfPair g left (Stands g old) →
    IsSettledBelow g left (Stands g old) bound → IsKeptBelow old new bound → IsFree ports new bits → IsPassing ports g left rows new bits bound (row_of rows bound)
pass_begins ports g left rows old new bits bound k w all b lt owed top settled kept free = record {
  board = kept_board g ports old new bound k b (omega (arith, lt)) kept;
  owed = λ r has. owed r (kept_stands g ports old new bound r k b (omega (arith, lt)) kept has).0;
  top = λ r q has lq some x y. top r q (kept_stands g ports old new bound r k b (omega (arith, lt)) kept has).0 lq some x y;
  before = λ r has. inl (kept_stands g ports old new bound r k b (omega (arith, lt)) kept has).1;
  covered = λ r lr some passed.
      let low : r < bound = elim (cases_lt r bound) [ inl less ↦ less | inr ge ↦ above r lr passed ge ] in
      let (q, has, le, meets) = settled r low lr some in
      (q, stands_kept g ports old new bound q k b kept has (omega (arith, le, low)), le, meets);
  free = free;
} where
  above : (r : ℕ) → r < g.count → IsPassed rows bound (row_of rows bound) r → bound ≤ r → r < bound
  above r lr (inl low) ge = low
  above r lr (inr less) ge = elim (cases_eq r bound) [
    | inl e ↦ absurd (omega (arith, ap (row_of rows) e, less))
    | inr ne ↦ absurd (omega (arith, w.follows bound r (omega (arith, ne, ge)) (omega (arith, lr, all)), less))
  ]

-- ---- the end

pub pass_covers : (ports : ℕ) (g : Graph) (left : ℕ → ℕ) (rows : Rows) (at bits : List ℕ) (bound k : ℕ) → IsRows ports g left rows → rows.ranked ≡ g.count → rows.count ≤ k →
    IsPassing ports g left rows at bits bound k → (r : ℕ) → r < g.count → 0 < left r → IsCovered g (Stands g at) r
pass_covers ports g left rows at bits bound k w all le p r lt some = p.covered r lt some (inr (omega (arith, w.row r (omega (arith, lt, all)), le)))

-- two that stand and meet are one
pub stands_apart : (ports : ℕ) (g : Graph) (at : List ℕ) (r q : ℕ) → IsBoard ports g at → Stands g at r → Stands g at q → Meets g r q → r ≡ q
stands_apart ports g at r q b (lr, at_r) (lq, at_q) (inl e) = sym at_r ∙ ap (λ p. get_or at p 0) e ∙ at_q
stands_apart ports g at r q b (lr, at_r) (lq, at_q) (inr e) = sym (b.across r lr at_r) ∙ ap (λ p. get_or at p 0) e ∙ b.across q lq at_q

-- ---- what a pass does not change

pub record IsReady (ranks : Ranks) (left : List ℕ) (heads : Heads) : Type 0 where
  pub known : IsRanks ranks
  pub lefts : ranks.count ≤ length left
  pub table : IsHeads ranks.ports (graph_of ranks) (λ r. get_or left r 0) heads.least.items
  pub chain : IsChain (graph_of ranks) heads.next.items 0
  pub behind : IsOwingBehind (graph_of ranks) (λ r. get_or left r 0)
  pub rows : IsRows ranks.ports (graph_of ranks) (λ r. get_or left r 0) heads.rows
  pub ranked : heads.rows.ranked ≡ ranks.count
  pub few : heads.rows.width ≤ 32

pub ready_again : (ranks ranks' : Ranks) (left left' : List ℕ) (heads heads' : Heads) → ranks' ≡ ranks → left' ≡ left → heads' ≡ heads → IsReady ranks left heads →
    IsReady ranks' left' heads'
ready_again ranks ranks' left left' heads heads' a b c r =
    subst (λ x. IsReady x left' heads') (sym a) (subst (λ x. IsReady ranks x heads') (sym b) (subst (λ x. IsReady ranks left x) (sym c) r))
