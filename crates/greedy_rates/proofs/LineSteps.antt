-- One coflow of the line after another, and the grants once all were looked at.
use Rattle.std.proofs.Common.{◌≡◌, ℕ, ◌+◌, ◌≤◌, ◌<◌, inl, inr, Bool, List, Option, Some, None, length, get_or, Contains, sym, ap, ◌∙◌, arith}
use Rattle.std.specs.Prelude.{All}
use Rattle.std.specs.List.Sorted.{IsStrictlyIncreasing}
use Rattle.std.proofs.lemmas.Bool.{cases_lt}
use Rattle.std.proofs.lemmas.List.{get_or_past}
use Rattle.coflow_units.specs.declared.fabric.Flow.{Flow}
use Rattle.coflow_units.specs.Flows.{coflow_of, ingress_of, IsDistinct, SharesPort}
use Rattle.coflow_units.specs.Grants.{place_in, ComesBefore, IsGrants}
use Rattle.coflow_units.proofs.LinePlaces.{at_place, at_place_zero, place_at, place_of_member}
use Rattle.coflow_units.proofs.Sums.{all_of_members}
use Rattle.coflow_units.specs.Starts.{IsStarts}
use Rattle.greedy_rates.specs.Room.{flow_at_ingress, TellsIngresses}
use Rattle.greedy_rates.specs.Pass.{Stands, IsGranting, IsListing, IsNext}
use Rattle.greedy_rates.proofs.PassSteps.{front_moves, not_none, same_some}

-- ---- one coflow after another

-- the flows between two starts are those of the coflow at this place
pub next_coflow : (flows : List Flow) (line starts : List ℕ) (k : ℕ) → IsStarts flows starts → IsDistinct line → k < length line → get_or line k 0 + 1 < length starts →
    IsNext flows line k (get_or starts (get_or line k 0) 0) (get_or starts (get_or line k 0 + 1) 0)
next_coflow flows line starts k at once lt in' = record {
  placed = λ f low high. ap (place_in line) (at.own (get_or line k 0) f in' low high) ∙ place_at line k once lt;
  all = λ f within here.
      let own : coflow_of flows f ≡ get_or line k 0 = sym (at_place_zero line (coflow_of flows f) (omega (arith, here, lt))) ∙ ap (λ (i : ℕ). get_or line i 0) here in
      let (_, low, high) = at.all f within in
      (omega (arith, low, ap (λ (d : ℕ). get_or starts d 0) own), omega (arith, high, ap (λ (d : ℕ). get_or starts (d + 1) 0) own));
}

-- before its flows are looked at
pub coflow_begins : (flows : List Flow) (line : List ℕ) (left : ℕ → ℕ) (k first end : ℕ) (at : List (Option ℕ)) (busy : List Bool) → IsNext flows line k first end →
    IsGranting flows line left k 0 at busy → IsGranting flows line left k first at busy
coflow_begins flows line left k first end at busy next so_far = front_moves flows line left k 0 k first at busy
    (λ f lt seen. elim seen [
      | inl low ↦ inl low
      | inr (_, low) ↦ absurd (omega (arith, low))
    ])
    (λ f lt seen. elim seen [
      | inl low ↦ inl low
      | inr (here, low) ↦ absurd (omega (arith, low, (next.all f lt here).0))
    ]) so_far

-- once all its flows were looked at
pub coflow_ends : (flows : List Flow) (line : List ℕ) (left : ℕ → ℕ) (k first end n : ℕ) (at : List (Option ℕ)) (busy : List Bool) → IsNext flows line k first end → end ≤ n →
    IsGranting flows line left k n at busy → IsGranting flows line left (k + 1) 0 at busy
coflow_ends flows line left k first end n at busy next le so_far = front_moves flows line left k n (k + 1) 0 at busy
    (λ f lt seen. elim seen [
      | inl low ↦ inl (omega (arith, low))
      | inr (here, _) ↦ inl (omega (arith, here))
    ])
    (λ f lt seen. elim seen [
      | inl low ↦ elim (cases_lt (place_in line (coflow_of flows f)) k) [
        | inl less ↦ inl less
        | inr more ↦ let here : place_in line (coflow_of flows f) ≡ k = omega (arith, low, more) in inr (here, omega (arith, (next.all f lt here).1, le))
      ]
      | inr (_, low) ↦ absurd (omega (arith, low))
    ]) so_far

-- ---- all flows were looked at

within : (at : List (Option ℕ)) (p f : ℕ) → flow_at_ingress at p ≡ Some f → p < length at
within at p f e = elim (cases_lt p (length at)) [
  | inl lt ↦ lt
  | inr ge ↦ absurd (not_none (flow_at_ingress at p) f (get_or_past at p None ge) e)
]

never_before_itself : (flows : List Flow) (line : List ℕ) (f g : ℕ) → f ≡ g → ComesBefore flows line g f → ⊥
never_before_itself flows line f g e (inl low) = omega (arith, low, ap (λ (x : ℕ). place_in line (coflow_of flows x)) e)
never_before_itself flows line f g e (inr (_, low)) = omega (arith, low, e)

same_flow : (flows : List Flow) (line : List ℕ) (left : ℕ → ℕ) (k n : ℕ) (at : List (Option ℕ)) (busy : List Bool) (f g : ℕ) → IsGranting flows line left k n at busy →
    Stands flows at f → Stands flows at g → SharesPort flows g f → f ≡ g
same_flow flows line left k n at busy f g all sf sg (inl e) = same_some f g (sym sf ∙ ap (flow_at_ingress at) (sym e) ∙ sg)
same_flow flows line left k n at busy f g all sf sg (inr e) = all.apart f g sf sg (sym e)

-- a flow of the list stands, and one that stands is in the list
listed_stands : (flows : List Flow) (line : List ℕ) (left : ℕ → ℕ) (k n : ℕ) (at : List (Option ℕ)) (busy : List Bool) (listed : List ℕ) → IsGranting flows line left k n at busy →
    IsListing at (length at) listed → (f : ℕ) → Contains listed f → Stands flows at f
listed_stands flows line left k n at busy listed all list f has =
    let (p, _, e) = list.from f has in
    ap (flow_at_ingress at) (all.own p f e) ∙ e

pub grants_are : (flows : List Flow) (line : List ℕ) (left : ℕ → ℕ) (at : List (Option ℕ)) (busy : List Bool) (listed : List ℕ) →
    IsGranting flows line left (length line) 0 at busy → IsListing at (length at) listed → IsStrictlyIncreasing listed → IsGrants flows line left listed
grants_are flows line left at busy listed all list ascends =
    let stands = λ (f : ℕ) (has : Contains listed f). listed_stands flows line left (length line) 0 at busy listed all list f has in
    let there = λ (f : ℕ) (s : Stands flows at f). list.all (ingress_of flows f) f (within at (ingress_of flows f) f s) s in
    record {
      ascending = ascends;
      flow = all_of_members (λ f. f < length flows) listed (λ f has. all.flow f (stands f has));
      in_line = all_of_members (λ f. Contains line (coflow_of flows f)) listed (λ f has. elim (all.looked_at f (stands f has)) [
        | inl low ↦ (place_in line (coflow_of flows f), low, at_place line (coflow_of flows f) low)
        | inr (_, low) ↦ absurd (omega (arith, low))
      ]);
      owed = λ f has. all.owed f (stands f has);
      free = λ f has (g, in', before, shares). never_before_itself flows line f g (same_flow flows line left (length line) 0 at busy f g all (stands f has) (stands g in') shares)
          before;
      rest = λ f lt in' some. elim (all.rest f lt (inl (place_of_member line (coflow_of flows f) in')) some) [
        | inl s ↦ inl (there f s)
        | inr (g, s, before, shares) ↦ inr (g, there g s, before, shares)
      ];
    }

pub ingresses_are : (flows : List Flow) (line : List ℕ) (left : ℕ → ℕ) (k n : ℕ) (at : List (Option ℕ)) (busy : List Bool) (listed : List ℕ) →
    IsGranting flows line left k n at busy → IsListing at (length at) listed → TellsIngresses flows listed at
ingresses_are flows line left k n at busy listed all list =
    λ p f. (
      (λ e. (list.all p f (within at p f e) e, all.own p f e)),
      (λ (has, e). ap (flow_at_ingress at) (sym e) ∙ listed_stands flows line left k n at busy listed all list f has),
    )

pub flows_are : (flows : List Flow) (line : List ℕ) (left : ℕ → ℕ) (k n : ℕ) (at : List (Option ℕ)) (busy : List Bool) (listed : List ℕ) → IsGranting flows line left k n at busy →
    IsListing at (length at) listed → All (λ f. f < length flows) listed
flows_are flows line left k n at busy listed all list =
    all_of_members (λ f. f < length flows) listed (λ f has. all.flow f (listed_stands flows line left k n at busy listed all list f has))

pub one_ingress : (flows : List Flow) (line : List ℕ) (left : ℕ → ℕ) (k n : ℕ) (at : List (Option ℕ)) (busy : List Bool) → IsGranting flows line left k n at busy → (p q f : ℕ) →
    flow_at_ingress at p ≡ Some f → flow_at_ingress at q ≡ Some f → p ≡ q
one_ingress flows line left k n at busy all p q f a b = sym (all.own p f a) ∙ all.own q f b

pub stands_within : (flows : List Flow) (line : List ℕ) (left : ℕ → ℕ) (k n : ℕ) (at : List (Option ℕ)) (busy : List Bool) (p f : ℕ) → IsGranting flows line left k n at busy →
    flow_at_ingress at p ≡ Some f → f < length flows
stands_within flows line left k n at busy p f all e = all.flow f (ap (flow_at_ingress at) (all.own p f e) ∙ e)
