-- The pass over the flows that owe, group after group.
use Rattle.std.proofs.Common.{◌≡◌, ℕ, ◌+◌, ◌-◌, ◌≤◌, ◌<◌, inl, inr, zero, suc, Bool, true, false, true≢false, List, Option, Some, None, length, get_or, set, refl, sym, ap, subst}
use Rattle.std.proofs.Common.{◌∙◌, arith}
use Rattle.std.specs.Prelude.{◌&&◌, not, nat_lt, All}
use Rattle.std.specs.Option.{is_some}
use Rattle.std.proofs.lemmas.Bool.{cases_lt, lt-ltb}
use Rattle.std.proofs.lemmas.Grind.{get_or-set_at}
use Rattle.std.proofs.lemmas.List.{get_or-set_other}
use Rattle.coflow_units.specs.declared.fabric.Flow.{Flow}
use Rattle.coflow_units.specs.Flows.{coflow_of, ingress_of, egress_of, SharesPort}
use Rattle.coflow_units.specs.Grants.{place_in}
use Rattle.greedy_rates.specs.Room.{flow_at_ingress}
use Rattle.greedy_rates.specs.Pass.{Stands, IsGranting, IsNext}
use Rattle.greedy_rates.specs.Owed.{Owed, IsOwed, IsTally}
use Rattle.coflow_units.specs.Starts.{IsStarts}
use Rattle.coflow_units.proofs.Bools.{second_not}
use Rattle.greedy_rates.specs.OpenPorts.{open_ingresses, open_egresses}
use Rattle.greedy_rates.proofs.PassSteps.{skip_flow, grant_flow}
use Rattle.greedy_rates.proofs.LineSteps.{coflow_begins, coflow_ends}
use Rattle.greedy_rates.proofs.OpenPortSteps.{one_closes, none_open}
use Rattle.greedy_rates.proofs.Tallies.{left_within}

-- ---- flows that cannot be granted are passed over

-- a flow that stands shares a port with this one
abbrev pub IsCut : List Flow → List (Option ℕ) → ℕ → Type 0
IsCut flows at f = (g : ℕ) × Stands flows at g × SharesPort flows g f

skip_by : (flows : List Flow) (line : List ℕ) (left : ℕ → ℕ) (k n d : ℕ) (at : List (Option ℕ)) (busy : List Bool) →
    ((f : ℕ) → n ≤ f → f < n + d → place_in line (coflow_of flows f) ≡ k) →
    ((f : ℕ) → n ≤ f → f < n + d → 0 < left f → IsCut flows at f) → IsGranting flows line left k n at busy → IsGranting flows line left k (n + d) at busy
skip_by flows line left k n zero at busy placed cut so_far = let e : n ≡ n + zero = omega arith in subst (λ (m : ℕ). IsGranting flows line left k m at busy) e so_far
skip_by flows line left k n (suc d) at busy placed cut so_far =
    let e : n + d + 1 ≡ n + suc d = omega arith in
    subst (λ (m : ℕ). IsGranting flows line left k m at busy) e
    (skip_flow flows line left k (n + d) at busy (placed (n + d) (omega arith) (omega arith)) (cut (n + d) (omega arith) (omega arith))
    (skip_by flows line left k n d at busy (λ f from to. placed f from (omega (arith, to))) (λ f from to. cut f from (omega (arith, to))) so_far))

pub skip_to : (flows : List Flow) (line : List ℕ) (left : ℕ → ℕ) (k n m : ℕ) (at : List (Option ℕ)) (busy : List Bool) → n ≤ m →
    ((f : ℕ) → n ≤ f → f < m → place_in line (coflow_of flows f) ≡ k) →
    ((f : ℕ) → n ≤ f → f < m → 0 < left f → IsCut flows at f) → IsGranting flows line left k n at busy → IsGranting flows line left k m at busy
skip_to flows line left k n m at busy le placed cut so_far =
    let e : n + (m - n) ≡ m = omega (arith, le) in
    subst (λ (x : ℕ). IsGranting flows line left k x at busy) e
    (skip_by flows line left k n (m - n) at busy (λ f from to. placed f from (omega (arith, to, le))) (λ f from to. cut f from (omega (arith, to, le))) so_far)

-- the flow at an ingress stands
pub stands_at : (flows : List Flow) (line : List ℕ) (left : ℕ → ℕ) (k n : ℕ) (at : List (Option ℕ)) (busy : List Bool) (f : ℕ) → IsGranting flows line left k n at busy →
    is_some (flow_at_ingress at (ingress_of flows f)) ≡ true → IsCut flows at f
stands_at flows line left k n at busy f so_far is = go (flow_at_ingress at (ingress_of flows f)) refl is where
  go : (o : Option ℕ) → flow_at_ingress at (ingress_of flows f) ≡ o → is_some o ≡ true → IsCut flows at f
  go None e fails = absurd (true≢false (sym fails))
  go (Some g) e _ = let same = so_far.own (ingress_of flows f) g e in (g, ap (flow_at_ingress at) same ∙ e, inl same)

-- a group whose ingress has a flow
pub group_is_cut : (flows : List Flow) (line : List ℕ) (left : ℕ → ℕ) (k n m : ℕ) (at : List (Option ℕ)) (busy : List Bool) → n ≤ m →
    ((f : ℕ) → n ≤ f → f < m → place_in line (coflow_of flows f) ≡ k) →
    ((f : ℕ) → n ≤ f → f < m → ingress_of flows f ≡ ingress_of flows n) → is_some (flow_at_ingress at (ingress_of flows n)) ≡ true → IsGranting flows line left k n at busy →
    IsGranting flows line left k m at busy
group_is_cut flows line left k n m at busy le placed same is so_far =
    skip_to flows line left k n m at busy le placed
    (λ f from to _. stands_at flows line left k n at busy f so_far (ap (λ (i : ℕ). is_some (flow_at_ingress at i)) (same f from to) ∙ is)) so_far

-- a group that owes nothing
pub group_owes_nothing : (flows : List Flow) (line : List ℕ) (left : ℕ → ℕ) (k n m : ℕ) (at : List (Option ℕ)) (busy : List Bool) → n ≤ m →
    ((f : ℕ) → n ≤ f → f < m → place_in line (coflow_of flows f) ≡ k) →
    ((f : ℕ) → n ≤ f → f < m → left f ≡ 0) → IsGranting flows line left k n at busy → IsGranting flows line left k m at busy
group_owes_nothing flows line left k n m at busy le placed none so_far =
    skip_to flows line left k n m at busy le placed (λ f from to some. absurd (omega (arith, some, none f from to))) so_far

-- the next flow is granted, and the flows of its group behind it find its ingress taken
pub group_is_granted : (flows : List Flow) (line : List ℕ) (left : ℕ → ℕ) (k n m : ℕ) (at : List (Option ℕ)) (busy : List Bool) → n < m → n < length flows →
    ((f : ℕ) → n ≤ f → f < m → place_in line (coflow_of flows f) ≡ k) →
    ((f : ℕ) → n ≤ f → f < m → ingress_of flows f ≡ ingress_of flows n) → 0 < left n → ingress_of flows n < length at → egress_of flows n < length busy →
    flow_at_ingress at (ingress_of flows n) ≡ None → get_or busy (egress_of flows n) false ≡ false → IsGranting flows line left k n at busy →
    IsGranting flows line left k m (set at (ingress_of flows n) (Some n)) (set busy (egress_of flows n) true)
group_is_granted flows line left k n m at busy less lt placed same some in_range out_range in_free out_free so_far =
    let i = ingress_of flows n in
    let after = set at i (Some n) in
    let new : Stands flows after n = get_or-set_at at i i (Some n) None refl in_range in
    skip_to flows line left k (n + 1) m after (set busy (egress_of flows n) true) (omega (arith, less)) (λ f from to. placed f (omega (arith, from)) to)
    (λ f from to _. (n, new, inl (sym (same f (omega (arith, from)) to))))
    (grant_flow flows line left k n at busy lt (placed n (omega arith) less) some in_range out_range in_free out_free so_far)

-- a coflow that owes nothing
pub coflow_owes_nothing : (flows : List Flow) (line : List ℕ) (left : ℕ → ℕ) (k first end : ℕ) (at : List (Option ℕ)) (busy : List Bool) → IsNext flows line k first end →
    ((f : ℕ) → first ≤ f → f < end → left f ≡ 0) →
    IsGranting flows line left k 0 at busy → IsGranting flows line left (k + 1) 0 at busy
coflow_owes_nothing flows line left k first end at busy next none so_far =
    let begun = coflow_begins flows line left k first end at busy next so_far in
    elim (cases_lt first end) [
      | inl less ↦ coflow_ends flows line left k first end end at busy next (omega arith)
          (group_owes_nothing flows line left k first end at busy (omega (arith, less)) (λ f from to. next.placed f from to) none begun)
      | inr more ↦ coflow_ends flows line left k first end first at busy next (omega (arith, more)) begun
    ]

-- no flow of the rest of the line can be granted
pub rest_is_cut : (flows : List Flow) (line : List ℕ) (left : ℕ → ℕ) (k : ℕ) (at : List (Option ℕ)) (busy : List Bool) → k ≤ length line →
    ((f : ℕ) → f < length flows → 0 < left f → IsCut flows at f) →
    IsGranting flows line left k 0 at busy → IsGranting flows line left (length line) 0 at busy
rest_is_cut flows line left k at busy le cut so_far =
    let seen : (f : ℕ) → Stands flows at f → place_in line (coflow_of flows f) < k = λ f s. elim (so_far.looked_at f s) [
      | inl low ↦ low
      | inr (_, low) ↦ absurd (omega (arith, low))
    ] in
    record {
      own = so_far.own;
      flow = so_far.flow;
      looked_at = λ f s. inl (omega (arith, seen f s, le));
      owed = so_far.owed;
      apart = so_far.apart;
      used = so_far.used;
      by = so_far.by;
      rest = λ f lt in' some. elim (cases_lt (place_in line (coflow_of flows f)) k) [
        | inl low ↦ so_far.rest f lt (inl low) some
        | inr high ↦ let (g, s, shares) = cut f lt some in inr (g, s, inl (omega (arith, seen g s, high)), shares)
      ];
    }

-- ---- open ports

-- a flow that owes makes its ports owe
pub owes_at : (key : ℕ → ℕ) (left table : List ℕ) (f : ℕ) → IsTally key left table → f < length left → 0 < get_or left f 0 → 0 < get_or table (key f) 0
owes_at key left table f tally lt some = omega (arith, left_within key left table f tally lt, some)

pub no_ingress_open : (flows : List Flow) (line : List ℕ) (left : List ℕ) (k n : ℕ) (table : List ℕ) (at : List (Option ℕ)) (busy : List Bool) →
    IsTally (ingress_of flows) left table → length left ≡ length flows → open_ingresses table at ≡ 0 →
    IsGranting flows line (λ f. get_or left f 0) k n at busy → (f : ℕ) → f < length flows → 0 < get_or left f 0 → IsCut flows at f
no_ingress_open flows line left k n table at busy tally same none so_far f lt some =
    let in' : f < length left = omega (arith, lt, same) in
    let i = ingress_of flows f in
    stands_at flows line (λ g. get_or left g 0) k n at busy f so_far
    (second_not (nat_lt 0 (get_or table i 0)) (is_some (flow_at_ingress at i)) (lt-ltb 0 (get_or table i 0) (owes_at (ingress_of flows) left table f tally in' some))
    (none_open (λ p. nat_lt 0 (get_or table p 0) && not (is_some (flow_at_ingress at p))) table i none (tally.within f in')))

pub no_egress_open : (flows : List Flow) (line : List ℕ) (left : List ℕ) (k n : ℕ) (table : List ℕ) (at : List (Option ℕ)) (busy : List Bool) →
    IsTally (egress_of flows) left table → length left ≡ length flows → open_egresses table busy ≡ 0 →
    IsGranting flows line (λ f. get_or left f 0) k n at busy → (f : ℕ) → f < length flows → 0 < get_or left f 0 → IsCut flows at f
no_egress_open flows line left k n table at busy tally same none so_far f lt some =
    let in' : f < length left = omega (arith, lt, same) in
    let e = egress_of flows f in
    let (g, s, there) = so_far.by e
    (second_not (nat_lt 0 (get_or table e 0)) (get_or busy e false) (lt-ltb 0 (get_or table e 0) (owes_at (egress_of flows) left table f tally in' some))
    (none_open (λ p. nat_lt 0 (get_or table p 0) && not (get_or busy p false)) table e none (tally.within f in'))) in
    (g, s, inr there)

both_true : (a b : Bool) → a ≡ true → b ≡ false → (a && not b) ≡ true
both_true true false _ _ = refl
both_true true true _ e = absurd (true≢false e)
both_true false b e _ = absurd (true≢false (sym e))

closed : (a b : Bool) → b ≡ true → (a && not b) ≡ false
closed true true _ = refl
closed true false e = absurd (true≢false (sym e))
closed false b _ = refl

pub ingress_closes : (table : List ℕ) (at : List (Option ℕ)) (i n : ℕ) → i < length table → i < length at → 0 < get_or table i 0 → flow_at_ingress at i ≡ None →
    open_ingresses table (set at i (Some n)) + 1 ≡ open_ingresses table at
ingress_closes table at i n lt in_range some free =
    one_closes (λ p. nat_lt 0 (get_or table p 0) && not (is_some (flow_at_ingress at p)))
    (λ p. nat_lt 0 (get_or table p 0) && not (is_some (flow_at_ingress (set at i (Some n)) p))) table i lt
    (both_true (nat_lt 0 (get_or table i 0)) (is_some (flow_at_ingress at i)) (lt-ltb 0 (get_or table i 0) some) (ap is_some free))
    (closed (nat_lt 0 (get_or table i 0)) (is_some (flow_at_ingress (set at i (Some n)) i)) (ap is_some (get_or-set_at at i i (Some n) None refl in_range)))
    (λ p ne. ap (λ (o : Option ℕ). nat_lt 0 (get_or table p 0) && not (is_some o)) (get_or-set_other at i p (Some n) None ne))

pub egress_closes : (table : List ℕ) (busy : List Bool) (e : ℕ) → e < length table → e < length busy → 0 < get_or table e 0 → get_or busy e false ≡ false →
    open_egresses table (set busy e true) + 1 ≡ open_egresses table busy
egress_closes table busy e lt in_range some free =
    one_closes (λ p. nat_lt 0 (get_or table p 0) && not (get_or busy p false)) (λ p. nat_lt 0 (get_or table p 0) && not (get_or (set busy e true) p false)) table e lt
    (both_true (nat_lt 0 (get_or table e 0)) (get_or busy e false) (lt-ltb 0 (get_or table e 0) some) free)
    (closed (nat_lt 0 (get_or table e 0)) (get_or (set busy e true) e false) (get_or-set_at busy e e true false refl in_range))
    (λ p ne. ap (λ (b : Bool). nat_lt 0 (get_or table p 0) && not b) (get_or-set_other busy e p true false ne))

-- ---- the first flow of a group that owes and finds its egress free

-- a number of a flow of the group that begins with the first flow
pub record IsOfGroup (flows : List Flow) (o : Owed) (first behind number : ℕ) : Type 0 where
  pub owed : IsOwed flows o
  pub first_in : first < length flows
  pub behind_is : behind ≡ get_or o.behind first 0
  pub from : first ≤ number
  pub below : number < behind

-- the flow owes, and its ports are free
pub record IsFound (flows : List Flow) (o : Owed) (at : List (Option ℕ)) (busy : List Bool) (first behind number : ℕ) : Type 0 where
  pub group : IsOfGroup flows o first behind number
  pub some : 0 < get_or o.left number 0
  pub in_range : ingress_of flows number < length at
  pub out_range : egress_of flows number < length busy
  pub in_free : flow_at_ingress at (ingress_of flows number) ≡ None
  pub out_free : get_or busy (egress_of flows number) false ≡ false

pub number_in_flows : (flows : List Flow) (o : Owed) (first behind number : ℕ) → IsOwed flows o → first < length flows → behind ≡ get_or o.behind first 0 → number < behind →
    number < length flows
number_in_flows flows o first behind number owed lt is below = omega (arith, below, is, owed.groups.within first lt)

pub same_ingress : (flows : List Flow) (o : Owed) (first behind number : ℕ) → IsOwed flows o → first < length flows → behind ≡ get_or o.behind first 0 → first ≤ number →
    number < behind → ingress_of flows number ≡ ingress_of flows first
same_ingress flows o first behind number owed lt is from below = owed.groups.ingress first number lt from (omega (arith, below, is))

pub found_at : (flows : List Flow) (o : Owed) (at : List (Option ℕ)) (busy now : List Bool) (first behind number : ℕ) → IsOwed flows o → first < length flows →
    behind ≡ get_or o.behind first 0 → first ≤ number → number < behind → 0 < get_or o.left number 0 → All (λ (x : Flow). x.ingress < length at) flows →
    All (λ (x : Flow). x.egress < length busy) flows → flow_at_ingress at (ingress_of flows first) ≡ None → now ≡ busy → get_or now (egress_of flows number) false ≡ false →
    IsFound flows o at busy first behind number
found_at flows o at busy now first behind number owed first_in behind_is from below some in_range out_range free same out_free =
    let lt = number_in_flows flows o first behind number owed first_in behind_is below in
    let none : Flow = record { coflow = 0; ingress = 0; egress = 0; units = 0 } in
    record {
      group = record { owed = owed; first_in = first_in; behind_is = behind_is; from = from; below = below };
      some = some;
      in_range = in_range number none lt;
      out_range = out_range number none lt;
      in_free =
          ap (flow_at_ingress at) (same_ingress flows o first behind number owed first_in behind_is from below) ∙ free;
      out_free = ap (λ (bs : List Bool). get_or bs (egress_of flows number) false) (sym same) ∙ out_free;
    }

pub found_closes_ingress : (flows : List Flow) (o : Owed) (at : List (Option ℕ)) (busy : List Bool) (first behind number : ℕ) → IsFound flows o at busy first behind number →
    open_ingresses o.at_ingress (set at (ingress_of flows number) (Some number)) + 1 ≡ open_ingresses o.at_ingress at
found_closes_ingress flows o at busy first behind number found =
    let lt : number < length o.left =
    omega (arith, number_in_flows flows o first behind number found.group.owed found.group.first_in found.group.behind_is found.group.below, found.group.owed.count) in
    ingress_closes o.at_ingress at (ingress_of flows number) number (found.group.owed.ingresses.within number lt) found.in_range
    (owes_at (ingress_of flows) o.left o.at_ingress number found.group.owed.ingresses lt found.some) found.in_free

pub found_closes_egress : (flows : List Flow) (o : Owed) (at : List (Option ℕ)) (busy : List Bool) (first behind number : ℕ) → IsFound flows o at busy first behind number →
    open_egresses o.at_egress (set busy (egress_of flows number) true) + 1 ≡ open_egresses o.at_egress busy
found_closes_egress flows o at busy first behind number found =
    let lt : number < length o.left =
    omega (arith, number_in_flows flows o first behind number found.group.owed found.group.first_in found.group.behind_is found.group.below, found.group.owed.count) in
    egress_closes o.at_egress busy (egress_of flows number) (found.group.owed.egresses.within number lt) found.out_range
    (owes_at (egress_of flows) o.left o.at_egress number found.group.owed.egresses lt found.some) found.out_free

pub found_is_granted : (flows : List Flow) (line : List ℕ) (o : Owed) (k : ℕ) (at : List (Option ℕ)) (busy : List Bool) (first behind number : ℕ) →
    IsFound flows o at busy first behind number →
    ((f : ℕ) → first ≤ f → f < behind → place_in line (coflow_of flows f) ≡ k) → IsGranting flows line (λ f. get_or o.left f 0) k number at busy →
    IsGranting flows line (λ f. get_or o.left f 0) k behind (set at (ingress_of flows number) (Some number)) (set busy (egress_of flows number) true)
found_is_granted flows line o k at busy first behind number found placed so_far =
    let here = same_ingress flows o first behind number found.group.owed found.group.first_in found.group.behind_is found.group.from found.group.below in
    group_is_granted flows line (λ f. get_or o.left f 0) k number behind at busy found.group.below
    (number_in_flows flows o first behind number found.group.owed found.group.first_in found.group.behind_is found.group.below)
    (λ f from to. placed f (omega (arith, from, found.group.from)) to)
    (λ f from to. same_ingress flows o first behind f found.group.owed found.group.first_in found.group.behind_is (omega (arith, from, found.group.from)) to ∙ sym here)
    found.some found.in_range found.out_range found.in_free found.out_free so_far

-- what was read from a list that is lent
pub owes : (left lent : List ℕ) (f : ℕ) → lent ≡ left → (get_or lent f 0 ≡ 0 → ⊥) → 0 < get_or left f 0
owes left lent f e some = subst (λ (xs : List ℕ). 0 < get_or xs f 0) e (omega (arith, some))

pub owes_not : (left lent : List ℕ) (f : ℕ) → lent ≡ left → get_or lent f 0 ≡ 0 → 0 < get_or left f 0 → ⊥
owes_not left lent f e none some = omega (arith, none, some, ap (λ (xs : List ℕ). get_or xs f 0) e)

-- a loop over a group ends behind it
pub ends_at : (flows : List Flow) (o : Owed) (first behind number : ℕ) → IsOwed flows o → first < length flows → behind ≡ get_or o.behind first 0 →
    (first ≤ behind → number ≤ behind) → behind ≤ number → number ≡ behind
ends_at flows o first behind number owed lt is le done = omega (arith, le (omega (arith, is, owed.groups.above first lt)), done)

-- ---- one group after another

-- the flows of a group are of the coflow at the same place
pub group_placed : (flows : List Flow) (o : Owed) (line : List ℕ) (k first end group behind : ℕ) → IsOwed flows o → IsNext flows line k first end → group < length flows →
    behind ≡ get_or o.behind group 0 → first ≤ group → group < end →
    (f : ℕ) → group ≤ f → f < behind → place_in line (coflow_of flows f) ≡ k
group_placed flows o line k first end group behind owed next lt is from below f le to = ap (place_in line) (owed.groups.coflow group f lt le (omega (arith, to, is))) ∙
    next.placed group from below

-- a group whose sum is 0 owes nothing
pub group_is_empty : (flows : List Flow) (o : Owed) (group behind : ℕ) → IsOwed flows o → group < length flows → behind ≡ get_or o.behind group 0 → get_or o.of_group behind 0 ≡ 0 →
    (f : ℕ) → group ≤ f → f < behind → get_or o.left f 0 ≡ 0
group_is_empty flows o group behind owed lt is none f le to =
    let in' : f < length flows = omega (arith, to, is, owed.groups.within group lt) in
    let same : get_or o.behind f 0 ≡ behind = owed.groups.same group f lt le (omega (arith, to, is)) ∙ sym is in
    omega (arith, left_within (λ g. get_or o.behind g 0) o.left o.of_group f owed.group_sums (omega (arith, in', owed.count)), ap (λ (n : ℕ). get_or o.of_group n 0) same, none)

-- a coflow whose sum is 0 owes nothing
pub coflow_is_empty : (flows : List Flow) (o : Owed) (c f : ℕ) → IsOwed flows o → f < length flows → coflow_of flows f ≡ c → get_or o.of_coflow c 0 ≡ 0 → get_or o.left f 0 ≡ 0
coflow_is_empty flows o c f owed lt is none =
    omega (arith, left_within (coflow_of flows) o.left o.of_coflow f owed.coflows (omega (arith, lt, owed.count)), ap (λ (n : ℕ). get_or o.of_coflow n 0) is, none)

-- a number below the start of the next coflow is a flow's
pub number_of_coflow : (flows : List Flow) (starts : List ℕ) (c f : ℕ) → IsStarts flows starts → c + 1 < length starts → get_or starts c 0 ≤ f → f < get_or starts (c + 1) 0 →
    f < length flows
number_of_coflow flows starts c f is lt from to = omega (arith, to, is.within (c + 1) 0 lt)
