-- The grants that are kept, from the flows of a line to the list of those that are granted.
use Rattle.std.proofs.Common.{◌≡◌, ◌≢◌, ℕ, ◌+◌, ◌^◌, ◌≤◌, ◌<◌, inl, inr, List, length, get_or, map, take, Contains, sym, ap, subst, ◌∙◌, arith}
use Rattle.std.specs.Prelude.{All}
use Rattle.std.proofs.lemmas.List.{ext_get_or, get_or-map, get_or-take, get_or_default, length-map, length-take, length-take-le}
use Rattle.std.proofs.lemmas.List.Elements.{Contains-get_or}
use Rattle.coflow_units.specs.declared.fabric.Flow.{Flow}
use Rattle.coflow_units.specs.Flows.{coflow_of, ingress_of}
use Rattle.coflow_units.specs.Grants.{place_in, ComesBefore}
use Rattle.coflow_units.proofs.LinePlaces.{place_of_member, at_place, not_itself}
use Rattle.matching.specs.declared.ranks.Ranks.{Ranks}
use Rattle.matching.specs.declared.tables.Tables.{Tables}
use Rattle.matching.specs.Kept.{IsLined, IsTold}
use Rattle.matching.specs.Board.{no_rank, first_of, graph_of, IsRanks, IsBoard, Stands}
use Rattle.matching.specs.Listing.{IsFirstSide, IsListed, IsShown}
use Rattle.matching.specs.Matching.{IsBegun, IsMatching, listed_in, ports_listed_in}
use Rattle.matching.specs.Ranking.{number_of, IsRanking}
use Rattle.matching.specs.Sound.{IsSound, left_at}
use Rattle.matching.proofs.BoardSteps.{stands_at}
use Rattle.matching.proofs.EndSteps.{same_heads}
use Rattle.matching.proofs.RowSteps.{IsSameOwing, same_rows}
use Rattle.matching.proofs.RankSteps.{distinct_below}

-- ---- the list

pub first_side : (ranks : Ranks) (at : List ℕ) → IsRanks ranks → IsBoard ranks.ports (graph_of ranks) at → IsFirstSide ranks (take ranks.ports at)
first_side ranks at k b = λ p lt.
    let low : p < ranks.ports = omega (arith, lt, length-take ranks.ports at) in
    let e = get_or-take ranks.ports at p 0 low in
    elim (b.own p (omega (arith, low))) [
      | inl none ↦ inl (e ∙ none)
      | inr (known, inl first) ↦ inr (omega (arith, e, known), ap (first_of ranks) e ∙ first)
      | inr (known, inr second) ↦ absurd (omega (arith, second, low, k.graph.second_from (get_or at p 0) known))
    ]

-- what is shown is what stands, so the list tells it
pub shown_told : (ranks : Ranks) (at shown flows ports : List ℕ) → IsRanks ranks → IsBoard ranks.ports (graph_of ranks) at → shown ≡ take ranks.ports at →
    IsShown ranks shown flows ports → IsTold (number_of ranks) (Stands (graph_of ranks) at) flows
shown_told ranks at shown flows ports k b is s = record {
  ascending = λ j lt. s.rises j (j + 1) (omega arith) lt;
  from = λ f (j, lt, e).
      let r = get_or shown (get_or ports j 0) 0 in
      let low : get_or ports j 0 < ranks.ports = omega (arith, s.low j lt, size) in
      let same : get_or at (get_or ports j 0) 0 ≡ r = sym (seen (get_or ports j 0) low) in
      let some : r ≢ no_rank = λ x. omega (arith, x, s.known j lt, k.graph.few) in
      (r, (stands_at ranks.ports (graph_of ranks) at (get_or ports j 0) r b (omega (arith, low)) some same).0, s.number j lt ∙ sym (get_or_default flows j f 0 lt) ∙ e);
  all = λ r (lr, at_r).
      let low = k.graph.first r lr in
      let here : get_or shown (first_of ranks r) 0 ≡ r = seen (first_of ranks r) low ∙ at_r in
      let (j, lt, at_j) = s.all (first_of ranks r) (omega (arith, low, size)) (omega (arith, here, lr)) in
      let number : get_or flows j 0 ≡ number_of ranks r = sym (s.number j lt) ∙ ap (λ p. number_of ranks (get_or shown p 0)) at_j ∙ ap (number_of ranks) here in
      subst (λ n. Contains flows n) number (Contains-get_or flows j 0 lt);
} where
  size : length shown ≡ ranks.ports
  size = ap (λ (xs : List ℕ). length xs) is ∙ length-take-le ranks.ports at (omega (arith, b.size))

  seen : (p : ℕ) → p < ranks.ports → get_or shown p 0 ≡ get_or at p 0
  seen p low = ap (λ xs. get_or xs p 0) is ∙ get_or-take ranks.ports at p 0 low

-- the ports beside the list are those at which its flows begin
pub ports_are : (flows : List Flow) (line : List ℕ) (left : ℕ → ℕ) (m : Tables) → m.ranks.count ≤ no_rank → IsListed m.ranks m.listing → IsMatching flows line left m →
    ports_listed_in m ≡ map (ingress_of flows) (listed_in m)
ports_are flows line left m few s at =
    ext_get_or 0 (ports_listed_in m) (map (ingress_of flows) (listed_in m)) (omega (arith, s.size, length-map (listed_in m) (ingress_of flows))) (λ j lt.
    let lj : j < length (listed_in m) = omega (arith, lt, s.size) in
    let p = get_or (ports_listed_in m) j 0 in
    let r = get_or m.listing.shown.items p 0 in
    elim (s.side p (s.low j lj)) [
      | inl none ↦ absurd (omega (arith, none, s.known j lj, few))
      | inr (known, first) ↦ sym first ∙ at.lined.first_is r known ∙ ap (ingress_of flows) (s.number j lj) ∙ sym (get_or-map (ingress_of flows) (listed_in m) j 0 0 lj)
    ])

-- ---- the beginning

pub ranking_fits : (flows : List Flow) (line : List ℕ) (left : ℕ → ℕ) (k n : ℕ) (ranks : Ranks) → IsRanking flows line left k n ranks → ranks.count ≤ length flows
ranking_fits flows line left k n ranks r =
    distinct_below (number_of ranks) ranks.count (length flows) r.flow
    (λ p q less lt same. not_itself flows line (number_of ranks q) (subst (λ x. ComesBefore flows line x (number_of ranks q)) same (r.rises p q less lt)))

pub ranking_made : (flows : List Flow) (line : List ℕ) (left : ℕ → ℕ) (k n : ℕ) (ranks : Ranks) → length flows < 2 ^ 32 → length flows ≤ length ranks.flows.items →
    All (λ (x : Flow). x.ingress < ranks.ports) flows → All (λ (x : Flow). x.egress < ranks.ports) flows →
    ranks.sources.room ≡ ranks.ports → IsRanking flows line left k n ranks → IsRanks ranks
ranking_made flows line left k n ranks few room ins outs sources r = record {
  fits = omega (arith, ranking_fits flows line left k n ranks r, room);
  graph = record {
    few = omega (arith, ranking_fits flows line left k n ranks r, few);
    first = λ p lt. omega (arith, r.first_is p lt, ins (number_of ranks p) record { coflow = 0; ingress = 0; egress = 0; units = 0 } (r.flow p lt));
    second_from = λ p lt. omega (arith, r.second_is p lt);
    second = λ p lt. omega (arith, r.second_is p lt, outs (number_of ranks p) record { coflow = 0; ingress = 0; egress = 0; units = 0 } (r.flow p lt));
  };
  apart = λ p q less lt same. not_itself flows line (number_of ranks q) (subst (λ x. ComesBefore flows line x (number_of ranks q)) same (r.rises p q less lt));
  source_room = sources;
  sources = r.sources;
}

place_has : (line : List ℕ) (c : ℕ) → place_in line c < length line → Contains line c
place_has line c lt = (place_in line c, lt, at_place line c lt)

pub ranking_lined : (flows : List Flow) (line : List ℕ) (left : ℕ → ℕ) (ranks : Ranks) → IsRanking flows line left (length line) 0 ranks →
    IsLined flows line left ranks.ports (number_of ranks) (graph_of ranks)
ranking_lined flows line left ranks r = record {
  flow = r.flow;
  in_line = λ p lt. elim (r.looked_at p lt) [
    | inl low ↦ place_has line (coflow_of flows (number_of ranks p)) low
    | inr (_, low) ↦ absurd (omega (arith, low))
  ];
  rises = r.rises;
  all = λ f lt in' some. r.all f lt (inl (place_of_member line (coflow_of flows f) in')) some;
  first_is = r.first_is;
  second_is = r.second_is;
}

pub begun_sound : (flows : List Flow) (line : List ℕ) (left : ℕ → ℕ) (m : Tables) → IsBegun flows line left m → IsSound m (λ p. Contains m.board.waiting.ports p)
begun_sound flows line left m b =
    let g = graph_of m.ranks in
    let owes : (r : ℕ) → r < m.ranks.count → 0 < left_at m r = λ r lt. omega (arith, b.units r lt, b.ranking.owed r lt) in
    let same : IsSameOwing g.count (λ r. r + 1) (left_at m) = λ r lt. (λ _. owes r lt, λ _. omega arith) in
    let first_low = λ (r : ℕ) (lt : r < m.ranks.count). b.ranks.graph.first r lt in
    record {
      ranks = b.ranks;
      lefts = b.lefts;
      heads = same_heads m.ranks.ports g (λ r. r + 1) (left_at m) m.heads.least.items same b.heads;
      chain = b.chain;
      behind = λ r s less ls _ _ _. owes s ls;
      rows = same_rows m.ranks.ports g (λ r. r + 1) (left_at m) m.heads.rows same b.rows;
      board = record {
        size = b.size;
        own = λ p lt. inl (b.none p lt);
        across = λ r lt at_r. absurd (omega (arith, lt, b.ranks.graph.few, at_r, b.none (g.first r) (omega (arith, first_low r lt))));
        back = λ r lt at_r. absurd (omega (arith, lt, b.ranks.graph.few, at_r, b.none (g.second r) (b.ranks.graph.second r lt)));
      };
      room = b.room;
      kept = record {
        known = λ r has. has.0;
        owed = λ r has. owes r has.0;
        apart = λ r s hr hs m'. absurd (omega (arith, hr.0, b.ranks.graph.few, hr.1, b.none (g.first r) (omega (arith, first_low r hr.0))));
        rest = λ r lt some. inr (inl (b.all (g.first r) (omega (arith, first_low r lt))));
      };
      top = λ r s hr ls _ _ _. absurd (omega (arith, hr.0, b.ranks.graph.few, hr.1, b.none (g.first r) (omega (arith, first_low r hr.0))));
      settled = λ r low. absurd (omega (arith, low, b.start));
    }

pub begun_matching : (flows : List Flow) (line : List ℕ) (left : ℕ → ℕ) (m : Tables) → IsBegun flows line left m → IsMatching flows line left m
begun_matching flows line left m b = record {
  lined = ranking_lined flows line left m.ranks b.ranking;
  units = b.units;
}
