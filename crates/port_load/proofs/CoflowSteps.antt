-- A table of loads is filled coflow by coflow.
use Rattle.std.proofs.Common.{◌≡◌, ◌≢◌, ℕ, ◌+◌, ◌-◌, ◌<◌, ◌≤◌, inl, inr, Bool, true, false, List, length, take, take_all, zero, suc, refl, sym, ap, subst, ◌∙◌, arith}
use Rattle.std.specs.Prelude.{◌==◌, ◌&&◌, if◌then◌else◌, slice_index, sum, sum_by}
use Rattle.std.proofs.lemmas.Bool.{both_ways, cases_Bool, cases_eq, cases_lt, ne_eqb}
use Rattle.std.proofs.lemmas.List.Sums.{get_or-le-sum_by, sum_by-take-le}
use Rattle.coflow_units.specs.declared.fabric.Flow.{Flow}
use Rattle.coflow_units.specs.declared.fabric.Port.{Port}
use Rattle.coflow_units.specs.declared.fabric.Side.{Side}
use Rattle.coflow_units.specs.declared.fabric.Side.TheVariants.{Ingress, Egress}
use Rattle.coflow_units.specs.Flows.{coflow_of}
use Rattle.coflow_units.specs.Load.{load, loads}
use Rattle.coflow_units.specs.Starts.{IsStarts}
use Rattle.coflow_units.proofs.Bools.{part}
use Rattle.coflow_units.proofs.Sums.{sum_mono}
use Rattle.coflow_units.proofs.WhatIsLeft.{same_length}
use Rattle.port_load.specs.declared.filling.Pending.{Pending}
use Rattle.port_load.specs.LoadTable.{IsSameSize, LoadTable, is_present, load_at, total_at}
use Rattle.port_load.specs.Pending.{pending_at, pending_on}
use Rattle.port_load.proofs.FlowSteps.{flows_left, left_more, none_of, other_coflow, owing_at, port_of, test_both, total_within, units_are_left}

-- ---- the flows before the start of a coflow and behind its end are of other coflows

-- flows of other coflows add nothing to its load
passed : (flows : List Flow) (left : List ℕ) (c : ℕ) (port : Port) (k m : ℕ) → k + m ≤ length flows →
    ((f : ℕ) → k ≤ f → f < k + m → coflow_of flows f ≢ c) →
    load (take (k + m) (flows_left left flows)) c port ≡ load (take k (flows_left left flows)) c port
passed flows left c port k zero le others = let e : k + zero ≡ k = omega arith in ap (λ j. load (take j (flows_left left flows)) c port) e
passed flows left c port k (suc m) le others =
    let e : k + suc m ≡ (k + m) + 1 = omega arith in
    ap (λ j. load (take j (flows_left left flows)) c port) e
    ∙ omega (
      arith,
      left_more flows left (k + m) c port (omega arith),
      other_coflow c (slice_index left (k + m)) port (owing_at left flows (k + m)) (others (k + m) (omega arith) (omega arith)),
      passed flows left c port k m (omega arith) (λ f from to. others f from (omega arith)),
    )

before_start : (flows : List Flow) (starts : List ℕ) (c f : ℕ) → IsStarts flows starts → f < length flows → f < slice_index starts c → coflow_of flows f ≢ c
before_start flows starts c f is lt before = λ e.
    let (long, from, to) = is.all f lt in
    omega (arith, from, before, ap (slice_index starts) e)

behind_end : (flows : List Flow) (starts : List ℕ) (c f : ℕ) → IsStarts flows starts → f < length flows → slice_index starts (c + 1) ≤ f → coflow_of flows f ≢ c
behind_end flows starts c f is lt behind = λ e.
    let (long, from, to) = is.all f lt in
    omega (arith, to, behind, ap (λ k. slice_index starts (k + 1)) e)

none_before : (flows : List Flow) (left starts : List ℕ) (c : ℕ) (port : Port) → IsStarts flows starts → c < length starts →
    load (take (slice_index starts c) (flows_left left flows)) c port ≡ 0
none_before flows left starts c port is lt =
    let s = slice_index starts c in
    let within : s ≤ length flows = is.within c 0 lt in
    let e : 0 + s ≡ s = omega arith in
    sym (ap (λ j. load (take j (flows_left left flows)) c port) e) ∙
    passed flows left c port 0 s (omega (arith, within)) (λ f from to. before_start flows starts c f is (omega (arith, within, to)) (omega (arith, to)))

whole_behind : (flows : List Flow) (left starts : List ℕ) (c : ℕ) (port : Port) (k : ℕ) → IsStarts flows starts → slice_index starts (c + 1) ≤ k → k ≤ length flows →
    load (take k (flows_left left flows)) c port ≡ load (flows_left left flows) c port
whole_behind flows left starts c port k is end le =
    let m = length flows - k in
    let all : k + m ≡ length flows = omega arith in
    sym (passed flows left c port k m (omega arith) (λ f from to. behind_end flows starts c f is (omega (arith, to, all)) (omega (arith, end, from))))
    ∙ ap (λ xs. load xs c port) (take_all (k + m) (flows_left left flows) (omega (arith, all, same_length (λ f. slice_index left f) flows)))

-- ---- the flows of one coflow, flow by flow

-- the flows before the place k are counted, each at its egress port, and at its ingress port together with what is pending
pub record AddedSoFar (old new : LoadTable) (flows : List Flow) (left : List ℕ) (coflow : ℕ) (p : Pending) (k : ℕ) : Type 0 where
  pub within : k ≤ length flows
  pub size : IsSameSize old new
  pub ingress : 0 < p.units → p.ingress < old.ports
  pub own : (port : Port) → port.number < old.ports →
      load_at new coflow port + pending_at coflow p coflow port ≡ load (take k (flows_left left flows)) coflow port
  pub others : (other : ℕ) (port : Port) → other < old.coflows → other ≢ coflow → port.number < old.ports → load_at new other port ≡ load_at old other port

nothing_on : (s : Side) (of : ℕ) (p : Pending) (c n : ℕ) → p.units ≡ 0 → pending_on s of p c n ≡ 0
nothing_on Ingress of p c n none = none_of ((of == c) && (p.ingress == n)) p.units none
nothing_on Egress of p c n none = refl

pub added_none : (old : LoadTable) (flows : List Flow) (left starts : List ℕ) (coflow : ℕ) (p : Pending) → p.units ≡ 0 → IsStarts flows starts → coflow < length starts →
    ((port : Port) → port.number < old.ports → load_at old coflow port ≡ 0) →
    AddedSoFar old old flows left coflow p (slice_index starts coflow)
added_none old flows left starts coflow p nothing is lt none = record {
  within = is.within coflow 0 lt;
  size = record { coflows = refl; ports = refl };
  ingress = λ some. absurd (omega (arith, some, nothing));
  own = λ port lp. omega (arith, none port lp, none_before flows left starts coflow port is lt, nothing_on port.side coflow p coflow port.number nothing);
  others = λ other port lo ne lp. refl;
}

-- a flow that has nothing left adds nothing
pub added_paid : (old new : LoadTable) (flows : List Flow) (left : List ℕ) (coflow : ℕ) (p : Pending) (k : ℕ) → AddedSoFar old new flows left coflow p k → k < length flows →
    slice_index left k ≡ 0 → AddedSoFar old new flows left coflow p (k + 1)
added_paid old new flows left coflow p k so_far lt paid = record {
  within = omega (arith, lt);
  size = so_far.size;
  ingress = so_far.ingress;
  own = λ port lp. so_far.own port lp ∙
      omega (arith, left_more flows left k coflow port lt, none_of (loads coflow port (owing_at left flows k)) (slice_index left k) paid);
  others = so_far.others;
}

-- what is pending of another coflow counts nothing
not_pending_on : (s : Side) (of : ℕ) (p : Pending) (c n : ℕ) → of ≢ c → pending_on s of p c n ≡ 0
not_pending_on Ingress of p c n ne = ap (λ b. if (b && (p.ingress == n)) then p.units else 0) (ne_eqb of c ne)
not_pending_on Egress of p c n ne = refl

pub added_more : (old between new : LoadTable) (flows : List Flow) (left : List ℕ) (coflow : ℕ) (p q : Pending) (k : ℕ) → AddedSoFar old between flows left coflow p k →
    k < length flows → coflow < old.coflows → coflow_of flows k ≡ coflow → q.ingress < between.ports →
    IsSameSize between new → ((c : ℕ) (port : Port) → c < between.coflows → port.number < between.ports →
    load_at new c port + pending_at (coflow_of flows k) q c port
    ≡ load_at between c port + pending_at (coflow_of flows k) p c port + (if loads c port (owing_at left flows k) then slice_index left k else 0)) →
    AddedSoFar old new flows left coflow q (k + 1)
added_more old between new flows left coflow p q k so_far lt lc of in' size adds =
    let coflow_in = λ (c : ℕ) (lo : c < old.coflows). subst (λ n. c < n) (sym so_far.size.coflows) lo in
    let port_in = λ (port : Port) (lp : port.number < old.ports). subst (λ n. port.number < n) (sym so_far.size.ports) lp in
    record {
      within = omega (arith, lt);
      size = record { coflows = size.coflows ∙ so_far.size.coflows; ports = size.ports ∙ so_far.size.ports };
      ingress = λ some. subst (λ n. q.ingress < n) so_far.size.ports in';
      own = λ port lp.
          let own_adds = subst (λ o. load_at new coflow port + pending_at o q coflow port
          ≡ load_at between coflow port + pending_at o p coflow port + (if loads coflow port (owing_at left flows k) then slice_index left k else 0)) of
          (adds coflow port (coflow_in coflow lc) (port_in port lp)) in
          omega (arith, own_adds, so_far.own port lp, left_more flows left k coflow port lt);
      others = λ other port lo ne lp.
          let apart : coflow_of flows k ≢ other = λ e. ne (sym e ∙ of) in
          omega (
            arith,
            adds other port (coflow_in other lo) (port_in port lp),
            so_far.others other port lo ne lp,
            other_coflow other (slice_index left k) port (owing_at left flows k) apart,
            not_pending_on port.side (coflow_of flows k) p other port.number apart,
            not_pending_on port.side (coflow_of flows k) q other port.number apart,
          );
    }

-- what a table gains where that which is pending is added
abbrev pub GainsPending : LoadTable → LoadTable → ℕ → Pending → Type 0
GainsPending between new coflow p = (c : ℕ) (port : Port) → c < between.coflows → port.number < between.ports →
    load_at new c port ≡ load_at between c port + pending_at coflow p c port

pub added_all : (old between new : LoadTable) (flows : List Flow) (left starts : List ℕ) (coflow : ℕ) (p : Pending) (k : ℕ) → AddedSoFar old between flows left coflow p k →
    IsStarts flows starts → slice_index starts (coflow + 1) ≤ k → coflow < old.coflows → GainsPending between new coflow p →
    (port : Port) → port.number < old.ports → load_at new coflow port ≡ load (flows_left left flows) coflow port
added_all old between new flows left starts coflow p k so_far is end lc gains port lp =
    gains coflow port (subst (λ n. coflow < n) (sym so_far.size.coflows) lc) (subst (λ n. port.number < n) (sym so_far.size.ports) lp)
    ∙ so_far.own port lp ∙ whole_behind flows left starts coflow port k is end so_far.within

pub added_others : (old between new : LoadTable) (flows : List Flow) (left : List ℕ) (coflow : ℕ) (p : Pending) (k : ℕ) → AddedSoFar old between flows left coflow p k →
    GainsPending between new coflow p →
    (other : ℕ) (port : Port) → other < old.coflows → other ≢ coflow → port.number < old.ports → load_at new other port ≡ load_at old other port
added_others old between new flows left coflow p k so_far gains other port lo ne lp =
    omega (
      arith,
      gains other port (subst (λ n. other < n) (sym so_far.size.coflows) lo) (subst (λ n. port.number < n) (sym so_far.size.ports) lp),
      so_far.others other port lo ne lp,
      not_pending_on port.side coflow p other port.number (λ e. ne (sym e)),
    )

-- ---- the units of the flows bound each total

-- each coflow has at most the load of its flows
abbrev pub HasAtMost : LoadTable → List Flow → List ℕ → Type 0
HasAtMost t flows left = (c : ℕ) (port : Port) → c < t.coflows → port.number < t.ports → load_at t c port ≤ load (flows_left left flows) c port

all_units : (flows : List Flow) (left : List ℕ) → length left ≡ length flows → sum_by (λ (x : Flow). x.units) (flows_left left flows) ≡ sum left
all_units flows left same =
    let n = length flows in
    let whole = ap (λ xs. sum_by (λ (x : Flow). x.units) xs) (take_all n (flows_left left flows) (omega (arith, same_length (λ f. slice_index left f) flows))) in
    let left_whole = ap (λ xs. sum_by (λ k. k) xs) (take_all n left (omega (arith, same))) in
    sym whole ∙ units_are_left left flows n same (omega arith) ∙ left_whole

pub total_at_most : (t : LoadTable) (flows : List Flow) (left : List ℕ) → HasAtMost t flows left → length left ≡ length flows →
    (port : Port) → port.number < t.ports → total_at t port ≤ sum left
total_at_most t flows left most same port lp =
    omega (arith, total_within (flows_left left flows) t port lp (λ c lc. most c port lc lp), all_units flows left same)

pub one_at_most : (left : List ℕ) (k : ℕ) → k < length left → slice_index left k ≤ sum left
one_at_most left k lt = get_or-le-sum_by (λ n. n) left k 0 lt

pub added_at_most : (old new : LoadTable) (flows : List Flow) (left : List ℕ) (coflow : ℕ) (p : Pending) (k : ℕ) → AddedSoFar old new flows left coflow p k →
    HasAtMost old flows left → HasAtMost new flows left
added_at_most old new flows left coflow p k so_far most = λ c port lc lp.
    let lc' = subst (λ n. c < n) so_far.size.coflows lc in
    let lp' = subst (λ n. port.number < n) so_far.size.ports lp in
    elim (cases_eq c coflow) [
      | inl e ↦
          let part = sum_by-take-le (λ (x : Flow). if loads coflow port x then x.units else 0) (flows_left left flows) k in
          subst (λ j. load_at new j port ≤ load (flows_left left flows) j port) (sym e) (omega (arith, so_far.own port lp', part))
      | inr ne ↦ omega (arith, so_far.others c port lc' ne lp', most c port lc' lp')
    ]

-- what is pending is within the load of its port, and so within the units of all flows
pub pending_at_most : (old new : LoadTable) (flows : List Flow) (left : List ℕ) (coflow : ℕ) (p : Pending) (k : ℕ) → AddedSoFar old new flows left coflow p k →
    length left ≡ length flows → p.units ≤ sum left
pending_at_most old new flows left coflow p k so_far same = elim (cases_lt 0 p.units) [
  | inl some ↦
      let here = so_far.own (port_of Ingress p.ingress) (so_far.ingress some) in
      let f = λ (x : Flow). if loads coflow (port_of Ingress p.ingress) x then x.units else 0 in
      omega (
        arith,
        here,
        test_both coflow coflow p.ingress p.ingress p.units refl refl,
        sum_by-take-le f (flows_left left flows) k,
        sum_mono f (λ (x : Flow). x.units) (flows_left left flows) (λ x has. part (loads coflow (port_of Ingress p.ingress) x) x.units),
        all_units flows left same,
      )
  | inr none ↦ omega (arith, none)
]

-- ---- coflow by coflow

pub record PresentSoFar (old new : LoadTable) (flows : List Flow) (left : List ℕ) (present : List Bool) (done : ℕ) : Type 0 where
  pub size : IsSameSize old new
  pub present_are : (c : ℕ) (port : Port) → c < old.coflows → port.number < old.ports → c < done → is_present present c ≡ true →
      load_at new c port ≡ load (flows_left left flows) c port
  pub absent_are : (c : ℕ) (port : Port) → c < old.coflows → port.number < old.ports → is_present present c ≡ false → load_at new c port ≡ 0
  pub later : (c : ℕ) (port : Port) → c < old.coflows → port.number < old.ports → done ≤ c → load_at new c port ≡ 0

pub present_none : (old new : LoadTable) (flows : List Flow) (left : List ℕ) (present : List Bool) → IsSameSize old new →
    ((c : ℕ) (port : Port) → c < old.coflows → port.number < old.ports → load_at new c port ≡ 0) → PresentSoFar old new flows left present 0
present_none old new flows left present size none = record {
  size = size;
  present_are = λ c port lc lp before. absurd (omega (arith, before));
  absent_are = λ c port lc lp f. none c port lc lp;
  later = λ c port lc lp from. none c port lc lp;
}

pub present_passed : (old new : LoadTable) (flows : List Flow) (left : List ℕ) (present : List Bool) (done : ℕ) → PresentSoFar old new flows left present done →
    is_present present done ≡ false → PresentSoFar old new flows left present (done + 1)
present_passed old new flows left present done so_far out = record {
  size = so_far.size;
  present_are = λ c port lc lp before t. elim (cases_eq c done) [
    | inl e ↦ absurd (both_ways (is_present present c) (ap (is_present present) e ∙ out) t)
    | inr ne ↦ so_far.present_are c port lc lp (omega (arith, before, ne)) t
  ];
  absent_are = so_far.absent_are;
  later = λ c port lc lp from. so_far.later c port lc lp (omega (arith, from));
}

pub present_more : (old between new : LoadTable) (flows : List Flow) (left : List ℕ) (present : List Bool) (done : ℕ) → PresentSoFar old between flows left present done →
    is_present present done ≡ true → IsSameSize between new →
    ((port : Port) → port.number < between.ports → load_at new done port ≡ load (flows_left left flows) done port) →
    ((c : ℕ) (port : Port) → c < between.coflows → c ≢ done → port.number < between.ports → load_at new c port ≡ load_at between c port) →
    PresentSoFar old new flows left present (done + 1)
present_more old between new flows left present done so_far in' size own others =
    let coflow_in = λ (c : ℕ) (lo : c < old.coflows). subst (λ n. c < n) (sym so_far.size.coflows) lo in
    let port_in = λ (port : Port) (lp : port.number < old.ports). subst (λ n. port.number < n) (sym so_far.size.ports) lp in
    record {
      size = record { coflows = size.coflows ∙ so_far.size.coflows; ports = size.ports ∙ so_far.size.ports };
      present_are = λ c port lc lp before t. elim (cases_eq c done) [
        | inl e ↦ subst (λ j. load_at new j port ≡ load (flows_left left flows) j port) (sym e) (own port (port_in port lp))
        | inr ne ↦ others c port (coflow_in c lc) ne (port_in port lp) ∙ so_far.present_are c port lc lp (omega (arith, before, ne)) t
      ];
      absent_are = λ c port lc lp f. elim (cases_eq c done) [
        | inl e ↦ absurd (both_ways (is_present present c) f (ap (is_present present) e ∙ in'))
        | inr ne ↦ others c port (coflow_in c lc) ne (port_in port lp) ∙ so_far.absent_are c port lc lp f
      ];
      later = λ c port lc lp from. others c port (coflow_in c lc) (λ e. omega (arith, e, from)) (port_in port lp) ∙ so_far.later c port lc lp (omega (arith, from));
    }

pub present_at_most : (old new : LoadTable) (flows : List Flow) (left : List ℕ) (present : List Bool) (done : ℕ) → PresentSoFar old new flows left present done →
    HasAtMost new flows left
present_at_most old new flows left present done so_far = λ c port lc lp.
    let lc' = subst (λ n. c < n) so_far.size.coflows lc in
    let lp' = subst (λ n. port.number < n) so_far.size.ports lp in
    elim (cases_lt c done) [
      | inl before ↦ elim (cases_Bool (is_present present c)) [
        | inl t ↦ omega (arith, so_far.present_are c port lc' lp' before t)
        | inr f ↦ omega (arith, so_far.absent_are c port lc' lp' f)
      ]
      | inr after ↦ omega (arith, so_far.later c port lc' lp' (omega (arith, after)))
    ]
