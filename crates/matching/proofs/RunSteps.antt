-- All granted flows lose units.
use Rattle.std.proofs.Common.{◌≡◌, ◌≢◌, ℕ, ◌-◌, ◌≤◌, ◌<◌, ◌⊎◌, inl, inr, List, [], ◌∷◌, get_or, min, Contains, refl, sym, ap, subst, ◌∙◌, arith}
use Rattle.std.specs.Prelude.{if◌then◌else◌, ◌↔◌}
use Rattle.std.proofs.lemmas.Bool.{cases_eq, cases_lt, eq-eqb, ne_eqb}
use Rattle.coflow_units.specs.declared.fabric.Flow.{Flow}
use Rattle.coflow_units.specs.LeastLeft.{IsLeastLeft}
use Rattle.coflow_units.specs.Flows.{ingress_of}
use Rattle.coflow_units.proofs.Sums.{all_of_members, any_in, any_not, in_first, nothing_in}
use Rattle.matching.specs.declared.ranks.Ranks.{Ranks}
use Rattle.matching.specs.declared.tables.Tables.{Tables}
use Rattle.matching.specs.Kept.{Graph, IsLined, IsTold}
use Rattle.matching.specs.Board.{no_rank, first_of, graph_of, IsGraph, IsRanks, IsBoard, Stands}
use Rattle.matching.specs.Matching.{IsGrantedAt, IsLess, IsMatching, IsRankTaken, IsRunLess, IsSettled, listed_in}
use Rattle.matching.specs.Ranking.{number_of}
use Rattle.matching.specs.Sound.{left_at, rank_at}
use Rattle.matching.proofs.BoardSteps.{stands_at}
use Rattle.matching.proofs.RankSteps.{one_number}
use Rattle.matching.proofs.SourceSteps.{IsOneMore}

-- ---- what is granted at an ingress

-- what stands at an ingress begins there
pub begins_at : (ports : ℕ) (g : Graph) (at : List ℕ) (i : ℕ) → IsGraph ports g → IsBoard ports g at → i < ports → get_or at i 0 ≢ no_rank →
    Stands g at (get_or at i 0) × (g.first (get_or at i 0) ≡ i)
begins_at ports g at i k b low some =
    let (stands, touches) = stands_at ports g at i (get_or at i 0) b (omega (arith, low)) some refl in (
      stands,
      elim touches [
        | inl e ↦ e
        | inr e ↦ absurd (omega (arith, e, low, k.second_from (get_or at i 0) stands.0))
      ],
    )

pub granted_stands : (m : Tables) (i f : ℕ) → IsRanks m.ranks → IsBoard m.ranks.ports (graph_of m.ranks) m.board.at.items → IsGrantedAt m i f →
    Stands (graph_of m.ranks) m.board.at.items (rank_at m i) × (first_of m.ranks (rank_at m i) ≡ i)
granted_stands m i f k b (low, known, _) = begins_at m.ranks.ports (graph_of m.ranks) m.board.at.items i k.graph b low (λ e. omega (arith, e, known, k.graph.few))

pub stands_granted : (m : Tables) (r : ℕ) → IsRanks m.ranks → Stands (graph_of m.ranks) m.board.at.items r → IsGrantedAt m (first_of m.ranks r) (number_of m.ranks r)
stands_granted m r k (known, here) = (k.graph.first r known, omega (arith, here, known), ap (number_of m.ranks) here)

-- the listed flows are those that are granted
pub told_at : (flows : List Flow) (line : List ℕ) (left : ℕ → ℕ) (m : Tables) (i f : ℕ) (told : List ℕ) → IsRanks m.ranks →
    IsBoard m.ranks.ports (graph_of m.ranks) m.board.at.items →
    IsLined flows line left m.ranks.ports (number_of m.ranks) (graph_of m.ranks) → IsTold (number_of m.ranks) (Stands (graph_of m.ranks) m.board.at.items) told →
    IsGrantedAt m i f ↔ (Contains told f × (ingress_of flows f ≡ i))
told_at flows line left m i f told k b l t = (
  λ granted.
      let (st, e) = granted_stands m i f k b granted in
      let is = granted.2 in
      (subst (λ x. Contains told x) is (t.all (rank_at m i) st), sym (l.first_is (rank_at m i) st.0 ∙ ap (ingress_of flows) is) ∙ e),
  λ (has, at). let (r, st, is) = t.from f has in
      let (low, known, number) = stands_granted m r k st in
      let e : first_of m.ranks r ≡ i = l.first_is r st.0 ∙ ap (ingress_of flows) is ∙ at in
      subst (λ x. IsGrantedAt m x f) e (low, known, number ∙ is),
)

-- ---- the least of the units left

-- the least so far, and 0 as long as nothing stands
pub record IsLeastUpto (g : Graph) (left : ℕ → ℕ) (at : List ℕ) (done : ℕ → Type 0) (least : ℕ) : Type 0 where
  pub below : (r : ℕ) → Stands g at r → done (g.first r) → least ≤ left r
  pub some : (r : ℕ) → Stands g at r → done (g.first r) → 0 < least
  pub reached : (least ≡ 0) ⊎ ((r : ℕ) × Stands g at r × (left r ≡ least))

pub least_begins : (g : Graph) (left : ℕ → ℕ) (at : List ℕ) (done : ℕ → Type 0) → ((p : ℕ) → done p → ⊥) → IsLeastUpto g left at done 0
least_begins g left at done none = record {
  below = λ r st d. absurd (none (g.first r) d);
  some = λ r st d. absurd (none (g.first r) d);
  reached = inl refl;
}

pub least_skips : (g : Graph) (left : ℕ → ℕ) (at : List ℕ) (done more : ℕ → Type 0) (n least : ℕ) → IsOneMore done more n → g.count ≤ no_rank → get_or at n 0 ≡ no_rank →
    IsLeastUpto g left at done least → IsLeastUpto g left at more least
least_skips g left at done more n least one few none s = record {
  below = λ r st m. s.below r st (before r st m);
  some = λ r st m. s.some r st (before r st m);
  reached = s.reached;
} where
  before : (r : ℕ) → Stands g at r → more (g.first r) → done (g.first r)
  before r st m = elim (one.from (g.first r) m) [
    | inl e ↦ absurd (omega (arith, st.0, few, st.1, ap (λ p. get_or at p 0) e, none))
    | inr d ↦ d
  ]

-- the first, or the lesser one
abbrev pub IsLesser : ℕ → ℕ → ℕ → Type 0
IsLesser least next new = ((least ≡ 0) × (next ≡ new)) ⊎ ((0 < least) × (next ≡ min least new))

pub least_takes : (ports : ℕ) (g : Graph) (left : ℕ → ℕ) (at : List ℕ) (done more : ℕ → Type 0) (n least next r : ℕ) → IsOneMore done more n → IsBoard ports g at → n < ports →
    r ≢ no_rank → r ≡ get_or at n 0 → 0 < left r → IsLesser least next (left r) → IsLeastUpto g left at done least → IsLeastUpto g left at more next
least_takes ports g left at done more n least next r one b low known e owes how s = record {
  below = λ q st m. elim (one.from (g.first q) m) [
    | inl same ↦ let is : q ≡ r = sym st.1 ∙ ap (λ p. get_or at p 0) same ∙ sym e in omega (arith, at_most, ap left is)
    | inr d ↦ omega (arith, within (s.some q st d), s.below q st d)
  ];
  some = λ q st m. elim how [
    | inl (_, is) ↦ omega (arith, is, owes)
    | inr (some, is) ↦ omega (arith, is, some, owes)
  ];
  reached = elim how [
    | inl (_, is) ↦ inr (r, here, sym is)
    | inr (some, is) ↦ elim (cases_lt (left r) least) [
      | inl less ↦ inr (r, here, omega (arith, is, less))
      | inr high ↦ elim s.reached [
        | inl zero ↦ absurd (omega (arith, zero, some))
        | inr (q, st, at_q) ↦ inr (q, st, omega (arith, at_q, is, high))
      ]
    ]
  ];
} where
  here : Stands g at r
  here = (stands_at ports g at n r b (omega (arith, low)) known (sym e)).0

  at_most : next ≤ left r
  at_most = elim how [ inl (_, is) ↦ omega (arith, is) | inr (_, is) ↦ omega (arith, is) ]

  within : 0 < least → next ≤ least
  within some = elim how [ inl (zero, _) ↦ absurd (omega (arith, zero, some)) | inr (_, is) ↦ omega (arith, is) ]

first_of_some : (xs : List ℕ) → xs ≢ [] → (f : ℕ) × Contains xs f
first_of_some [] ne = absurd (ne refl)
first_of_some (x ∷ xs) ne = (x, in_first x xs)

pub least_is : (flows : List Flow) (line : List ℕ) (left : ℕ → ℕ) (m : Tables) (done : ℕ → Type 0) (least : ℕ) →
    ((r : ℕ) → r < m.ranks.count → done (first_of m.ranks r)) → IsRanks m.ranks →
    IsBoard m.ranks.ports (graph_of m.ranks) m.board.at.items → IsSettled flows line left m →
    IsLeastUpto (graph_of m.ranks) (left_at m) m.board.at.items done least → IsLeastLeft left (listed_in m) least
least_is flows line left m done least all k b s l = record {
  none = λ e. elim l.reached [
    | inl zero ↦ zero
    | inr (r, st, _) ↦ absurd (nothing_in (number_of m.ranks r) (subst (λ (xs : List ℕ). Contains xs (number_of m.ranks r)) e (listed r st)))
  ];
  below = all_of_members (λ f. least ≤ left f) (listed_in m) (λ f has. let (st, is, lt) = standing f has in omega (arith, l.below (rank f) st lt, units (rank f) st, ap left is));
  reached = λ ne. elim l.reached [
    | inl zero ↦ let (f, has) = first_of_some (listed_in m) ne in let (st, _, lt) = standing f has in absurd (omega (arith, l.some (rank f) st lt, zero))
    | inr (r, st, at_r) ↦ let (j, lt, at) = listed r st in (j, number_of m.ranks r, lt, at, omega (arith, units r st, at_r))
  ];
} where
  rank : ℕ → ℕ
  rank f = rank_at m (ingress_of flows f)

  units : (r : ℕ) → Stands (graph_of m.ranks) m.board.at.items r → left_at m r ≡ left (number_of m.ranks r)
  units r st = s.matching.units r st.0

  listed : (r : ℕ) → Stands (graph_of m.ranks) m.board.at.items r → Contains (listed_in m) (number_of m.ranks r)
  listed r st = ((s.at (first_of m.ranks r) (number_of m.ranks r)).0 (stands_granted m r k st)).0

  standing : (f : ℕ) → Contains (listed_in m) f → Stands (graph_of m.ranks) m.board.at.items (rank f) × (number_of m.ranks (rank f) ≡ f) × done (first_of m.ranks (rank f))
  standing f has =
      let granted = (s.at (ingress_of flows f) f).1 (has, refl) in
      let (st, _) = granted_stands m (ingress_of flows f) f k b granted in
      (st, granted.2, all (rank f) st.0)

-- ---- one flow is taken

pub lined_again : (flows : List Flow) (line : List ℕ) (left lower : ℕ → ℕ) (ports : ℕ) (number : ℕ → ℕ) (g : Graph) → ((f : ℕ) → lower f ≤ left f) →
    IsLined flows line left ports number g → IsLined flows line lower ports number g
lined_again flows line left lower ports number g less l = record {
  flow = l.flow;
  in_line = l.in_line;
  rises = l.rises;
  all = λ f lt in' some. l.all f lt in' (omega (arith, less f, some));
  first_is = l.first_is;
  second_is = l.second_is;
}

taken_here : (old new : Tables) (rank units : ℕ) → IsRankTaken old new rank units → left_at new rank ≡ left_at old rank - units
taken_here old new rank units t = t.left rank ∙ ap (λ b. left_at old rank - (if b then units else 0)) (eq-eqb rank rank refl)

not_taken : (old new : Tables) (rank units r : ℕ) → IsRankTaken old new rank units → r ≢ rank → left_at new r ≡ left_at old r
not_taken old new rank units r t ne =
    let e : left_at new r ≡ left_at old r - 0 = t.left r ∙ ap (λ b. left_at old r - (if b then units else 0)) (ne_eqb r rank ne) in omega (arith, e)

pub flow_taken : (flows : List Flow) (line : List ℕ) (left lower : ℕ → ℕ) (old new : Tables) (ingress f units : ℕ) → IsRanks old.ranks → new.ranks ≡ old.ranks →
    IsRankTaken old new (rank_at old ingress) units → IsGrantedAt old ingress f →
    IsMatching flows line left old → IsLess left lower f units → IsMatching flows line lower new
flow_taken flows line left lower old new ingress f units k same t (_, known, is) m less = record {
  lined = subst (λ (x : Ranks). IsLined flows line lower x.ports (number_of x) (graph_of x)) (sym same)
      (lined_again flows line left lower old.ranks.ports (number_of old.ranks) (graph_of old.ranks) (λ f. omega (arith, less f)) m.lined);
  units = subst (λ (x : Ranks). (r : ℕ) → r < x.count → left_at new r ≡ lower (number_of x r)) (sym same) each;
} where
  rank : ℕ
  rank = rank_at old ingress

  each : (r : ℕ) → r < old.ranks.count → left_at new r ≡ lower (number_of old.ranks r)
  each r lt =
      let n = number_of old.ranks r in
      elim (cases_eq r rank) [
        | inl e ↦
            let cut : lower n ≡ left n - units = less n ∙ ap (λ b. left n - (if b then units else 0)) (eq-eqb n f (ap (number_of old.ranks) e ∙ is)) in
            omega (arith, ap (left_at new) e, taken_here old new rank units t, ap (left_at old) e, m.units r lt, cut)
        | inr ne ↦
            let kept : lower n ≡ left n - 0 = less n ∙ ap (λ b. left n - (if b then units else 0)) (ne_eqb n f (λ e. ne (one_number old.ranks r rank k lt known (e ∙ sym is)))) in
            omega (arith, not_taken old new rank units r t ne, m.units r lt, kept)
      ]

pub others_granted : (old new : Tables) (ingress units i f : ℕ) → IsRanks old.ranks → IsBoard old.ranks.ports (graph_of old.ranks) old.board.at.items → new.ranks ≡ old.ranks →
    IsRankTaken old new (rank_at old ingress) units → ingress < old.ranks.ports → rank_at old ingress ≢ no_rank →
    i ≢ ingress → IsGrantedAt old i f → IsGrantedAt new i f
others_granted old new ingress units i f k b same t low some ne (li, known, is) =
    let here = begins_at old.ranks.ports (graph_of old.ranks) old.board.at.items ingress k.graph b low some in
    let e : rank_at new i ≡ rank_at old i = t.others i li (λ x. ne (x ∙ here.1)) in (
      omega (arith, li, ap (λ (x : Ranks). x.ports) same),
      omega (arith, e, known, ap (λ (x : Ranks). x.count) same),
      ap (λ (x : Ranks). number_of x (rank_at new i)) same ∙ ap (number_of old.ranks) e ∙ is,
    )

-- ---- a run is taken, port after port

-- the flows that are granted at the ports so far have lost their units
pub record IsRunTaken (old new : Tables) (done : ℕ → Type 0) (units : ℕ) : Type 0 where
  pub before : (p : ℕ) → p < old.ranks.ports → (done p → ⊥) → rank_at new p ≡ rank_at old p
  pub taken : (r : ℕ) → Stands (graph_of old.ranks) old.board.at.items r → done (first_of old.ranks r) → left_at new r ≡ left_at old r - units
  pub others : (r : ℕ) → (Stands (graph_of old.ranks) old.board.at.items r → done (first_of old.ranks r) → ⊥) → left_at new r ≡ left_at old r

pub run_begins : (m : Tables) (done : ℕ → Type 0) (units : ℕ) → ((p : ℕ) → done p → ⊥) → IsRunTaken m m done units
run_begins m done units none = record {
  before = λ p low out. refl;
  taken = λ r st d. absurd (none (first_of m.ranks r) d);
  others = λ r out. refl;
}

pub run_skips : (old new : Tables) (done more : ℕ → Type 0) (n units : ℕ) → IsOneMore done more n → n < old.ranks.ports → IsRanks old.ranks → rank_at new n ≡ no_rank →
    IsRunTaken old new done units → IsRunTaken old new more units
run_skips old new done more n units one low k none t = record {
  before = λ p lt out. t.before p lt (λ d. out (one.keeps p d));
  taken = λ r st m. elim (one.from (first_of old.ranks r) m) [
    | inl e ↦ absurd (omega (arith, st.0, k.graph.few, st.1, ap (rank_at old) e, t.before n low one.fresh, none))
    | inr d ↦ t.taken r st d
  ];
  others = λ r out. t.others r (λ st d. out st (one.keeps (first_of old.ranks r) d));
}

pub run_takes : (first old new : Tables) (done more : ℕ → Type 0) (n units : ℕ) → IsOneMore done more n → IsRanks first.ranks →
    IsBoard first.ranks.ports (graph_of first.ranks) first.board.at.items → old.ranks ≡ first.ranks → n < first.ranks.ports → rank_at old n ≢ no_rank →
    IsRankTaken old new (rank_at old n) units → IsRunTaken first old done units → IsRunTaken first new more units
run_takes first old new done more n units one k b same low some t s = record {
  before = λ p lt out. t.others p (omega (arith, lt, ap (λ (x : Ranks). x.ports) same)) (λ e. out (subst more (sym (e ∙ begins)) one.has))
      ∙ s.before p lt (λ d. out (one.keeps p d));
  taken = λ r st m. elim (one.from (first_of first.ranks r) m) [
    | inl e ↦
        let is : r ≡ rank = sym st.1 ∙ ap (rank_at first) e ∙ sym here in
        let before = s.others r (λ _ d. one.fresh (subst done e d)) in
        omega (arith, ap (left_at new) is, taken_here old new rank units t, ap (left_at old) is, before)
    | inr d ↦
        let other : r ≢ rank = λ is. one.fresh (subst done (ap (first_of first.ranks) is ∙ begins_there) d) in
        omega (arith, not_taken old new rank units r t other, s.taken r st d)
  ];
  others = λ r out.
      let other : r ≢ rank = λ is. out (subst (λ x. Stands (graph_of first.ranks) first.board.at.items x) (sym is) stands)
      (subst more (sym (ap (first_of first.ranks) is ∙ begins_there)) one.has) in
      not_taken old new rank units r t other ∙ s.others r (λ st d. out st (one.keeps (first_of first.ranks r) d));
} where
  rank : ℕ
  rank = rank_at old n

  here : rank ≡ rank_at first n
  here = s.before n low one.fresh

  stood : Stands (graph_of first.ranks) first.board.at.items (rank_at first n) × (first_of first.ranks (rank_at first n) ≡ n)
  stood = begins_at first.ranks.ports (graph_of first.ranks) first.board.at.items n k.graph b low (λ e. some (here ∙ e))

  stands : Stands (graph_of first.ranks) first.board.at.items rank
  stands = subst (λ x. Stands (graph_of first.ranks) first.board.at.items x) (sym here) stood.0

  begins_there : first_of first.ranks rank ≡ n
  begins_there = ap (first_of first.ranks) here ∙ stood.1

  begins : first_of old.ranks rank ≡ n
  begins = ap (λ (x : Ranks). first_of x rank) same ∙ begins_there

-- what is kept after the run
pub run_matching : (flows : List Flow) (line : List ℕ) (left lower : ℕ → ℕ) (old new : Tables) (done : ℕ → Type 0) (units : ℕ) →
    ((r : ℕ) → r < old.ranks.count → done (first_of old.ranks r)) → IsRanks old.ranks →
    IsBoard old.ranks.ports (graph_of old.ranks) old.board.at.items → new.ranks ≡ old.ranks → IsRunTaken old new done units →
    IsSettled flows line left old → IsRunLess left lower (listed_in old) units → IsMatching flows line lower new
run_matching flows line left lower old new done units all k b same t s less = record {
  lined = subst (λ (x : Ranks). IsLined flows line lower x.ports (number_of x) (graph_of x)) (sym same) lined;
  units = subst (λ (x : Ranks). (r : ℕ) → r < x.count → left_at new r ≡ lower (number_of x r)) (sym same) each;
} where
  lined : IsLined flows line lower old.ranks.ports (number_of old.ranks) (graph_of old.ranks)
  lined = lined_again flows line left lower old.ranks.ports (number_of old.ranks) (graph_of old.ranks) (λ f. omega (arith, less f)) s.matching.lined

  -- a listed rank stands
  stands : (r : ℕ) → r < old.ranks.count → Contains (listed_in old) (number_of old.ranks r) → rank_at old (first_of old.ranks r) ≡ r
  stands r lt has =
      let f = number_of old.ranks r in
      let granted = (s.at (first_of old.ranks r) f).1 (has, sym (s.matching.lined.first_is r lt)) in
      one_number old.ranks (rank_at old (first_of old.ranks r)) r k granted.1 lt granted.2

  each : (r : ℕ) → r < old.ranks.count → left_at new r ≡ lower (number_of old.ranks r)
  each r lt =
      let f = number_of old.ranks r in
      elim (cases_eq (rank_at old (first_of old.ranks r)) r) [
        | inl here ↦
            let has = ((s.at (first_of old.ranks r) f).0 (stands_granted old r k (lt, here))).0 in
            let cut : lower f ≡ left f - units = less f ∙ ap (λ b. left f - (if b then units else 0)) (any_in (listed_in old) f has) in
            omega (arith, t.taken r (lt, here) (all r lt), s.matching.units r lt, cut)
        | inr ne ↦
            let kept : lower f ≡ left f - 0 = less f ∙ ap (λ b. left f - (if b then units else 0)) (any_not (listed_in old) f (λ has. ne (stands r lt has))) in
            omega (arith, t.others r (λ st _. ne st.1), s.matching.units r lt, kept)
      ]
