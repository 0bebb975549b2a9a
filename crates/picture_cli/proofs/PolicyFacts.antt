-- The policies of the rankers on a table: which coflows they complete, what they cost, and that each answers an order.
use Rattle.std.proofs.Common.{◌≡◌, ◌≢◌, ℕ, ◌++◌, ◌*◌, ◌≤◌, ◌<◌, ◌^◌, ◌∙◌, arith, inl, inr, refl, sym, ap, subst, suc}
use Rattle.std.proofs.Common.{Bool, true, false, cond, List, [], ◌∷◌, Contains, length, map, replicate, get_or}
use Rattle.std.specs.Prelude.{All, count_by, filter, ltb, slice_index, sum_by, ◌==◌}
use Rattle.std.proofs.Common.{le_trans}
use Rattle.std.specs.Cmp.{both_ways}
use Rattle.std.specs.List.{range_with_len}
use Rattle.std.proofs.lemmas.Bool.{cases_Bool, eq-eqb, lt-ltb, ltb-true}
use Rattle.std.proofs.lemmas.List.{length-map}
use Rattle.std.proofs.lemmas.List.Elements.{All-cons, All-contains, All-map, All-nil}
use Rattle.std.proofs.lemmas.List.FromFn.{length-range_with_len}
use Rattle.std.proofs.lemmas.List.Sums.{count_by-le-length, length-filter}
use Rattle.coflow_units.specs.declared.limits.TheConstants.{MAX_COFLOWS, MAX_SLOT}
use Rattle.coflow_units.specs.Completion.{completion, cost, holds_coflow, last_where}
use Rattle.coflow_units.specs.Flows.{Instance, coflow_of, units_of}
use Rattle.coflow_units.specs.Schedule.{IsClear, IsValid, holds}
use Rattle.coflow_units.specs.Served.{IsServed}
use Rattle.coflow_units.proofs.Lists.{any_from, any_where, keeps, number_below, number_in}
use Rattle.coflow_units.proofs.Numbers.{zero_or_more}
use Rattle.coflow_units.proofs.ServedLaws.{served_valid}
use Rattle.coflow_units.proofs.Sums.{any_has, first_or_tail, in_first, in_tail, nothing_in}
use Rattle.flow_table.specs.Table.{IsTable, TableFacts, instance_of}
use Rattle.picture.specs.declared.policies_value.PoliciesPicture.{PoliciesPicture}
use Rattle.picture.specs.declared.policies_value.Policy.{Policy}
use Rattle.picture.specs.Policies.{IsPoliciesOf, IsPolicyOf, IsReady, served_ends}
use Rattle.plans.proofs.PlanTotals.{bound_low}
use Rattle.plans.proofs.ServedRuns.{few_slots}
use Rattle.plans.specs.Totals.{IsPlanBound}
use Rattle.rankers.specs.declared.ending.Ended.{Ended as Row}
use Rattle.rankers.specs.declared.scoring.Came.{Came}
use Rattle.rankers.specs.declared.scoring.Came.TheVariants as came
use Rattle.rankers.specs.Ends.{AreSecondEnds, IsOwn, IsSecondEnds, IsSecondRound}
use Rattle.rankers.specs.FactsTold.{FactsTold, IsFacts, IsFactsOf, coflows_in}
use Rattle.rankers.specs.Meaning.{Meaning}
use Rattle.rankers.specs.Scores.{ends_in}
use Rattle.rankers.proofs.OwnOrders.{own_fits}
use Rattle.rankers.proofs.SecondRounds.{round_valid}
use Rattle.schedule_model.proofs.CostSums.{cost_by_ends, parts_small}
use Rattle.schedule_model.proofs.LastSlots.{last_within}
use Rattle.schedule_model.proofs.Slots.{last_here_not, last_here_yes, last_later}
use Rattle.picture_cli.specs.Policies.{ArePolicies, AreShown, HasEnds, IsPolicyOfRanker, IsShown, ShowsPolicies, coflows_with_units, has_flow, rankers_for}

-- ---- the last that passes a test

last_some : {X : Type 0} (p : X → Bool) (xs : List X) → 0 < last_where p xs → (x : X) × Contains xs x × (p x ≡ true)
last_some p [] lt = absurd (omega (arith, lt))
last_some p (x ∷ xs) lt = elim (cases_Bool (p x)) [
  | inl t ↦ (x, in_first x xs, t)
  | inr out ↦ elim (zero_or_more (last_where p xs)) [
    | inl e ↦ absurd (omega (arith, last_here_not p x xs e out, lt))
    | inr some ↦ let (y, has, at) = last_some p xs some in (y, in_tail x xs y has, at)
  ]
]

last_of_some : {X : Type 0} (p : X → Bool) (xs : List X) (x : X) → Contains xs x → p x ≡ true → 0 < last_where p xs
last_of_some p [] x has t = absurd (nothing_in x has)
last_of_some p (y ∷ ys) x has t = elim (zero_or_more (last_where p ys)) [
  | inr some ↦ omega (arith, last_later p y ys some)
  | inl e ↦ elim (first_or_tail y ys x has) [
    | inl same ↦ omega (arith, last_here_yes p y ys e (ap p same ∙ t))
    | inr later ↦ let some = last_of_some p ys x later t in absurd (omega (arith, e, some))
  ]
]

counted_some : {X : Type 0} (p : X → Bool) (xs : List X) → 1 ≤ count_by p xs → (x : X) × Contains xs x × (p x ≡ true)
counted_some p [] some = absurd (omega (arith, some))
counted_some p (x ∷ xs) some = elim (cases_Bool (p x)) [
  | inl t ↦ (x, in_first x xs, t)
  | inr out ↦
      let same : count_by p (x ∷ xs) ≡ count_by p xs = rw out refl in
      let (y, has, at) = counted_some p xs (omega (arith, some, same)) in
      (y, in_tail x xs y has, at)
]

-- ---- a schedule completes the coflows that have a flow

module _ (t : TableFacts) (slots : List (List ℕ)) (is : IsTable t) (valid : IsValid t.flows slots) where
  ended_has_flow : (c : ℕ) → 0 < completion t.flows slots c → has_flow t.flows c ≡ true
  ended_has_flow c some =
      let (slot, has, held) = last_some (λ slot. holds_coflow t.flows slot c) slots some in
      let (f, inside, of) = any_where (λ f. coflow_of t.flows f == c) slot held in
      let clear = All-contains (IsClear t.flows) slots slot valid.clear has in
      let below : f < length t.flows = All-contains (λ f. f < length t.flows) slot f clear.flow inside in
      any_from (λ f. coflow_of t.flows f == c) (range_with_len 0 (length t.flows)) f (number_in 0 (length t.flows) f (omega arith) (omega (arith, below))) of

  flow_has_end : (c : ℕ) → has_flow t.flows c ≡ true → 0 < completion t.flows slots c
  flow_has_end c some =
      let (f, inside, of) = any_where (λ f. coflow_of t.flows f == c) (range_with_len 0 (length t.flows)) some in
      let below : f < length t.flows = omega (arith, number_below 0 (length t.flows) f inside) in
      let owed : 1 ≤ units_of t.flows f = is.units f record { coflow = 0; ingress = 0; egress = 0; units = 0 } below in
      let (slot, has, held) = counted_some (λ slot. holds slot f) slots (omega (arith, valid.served f below, owed)) in
      last_of_some (λ slot. holds_coflow t.flows slot c) slots slot has (any_from (λ f. coflow_of t.flows f == c) slot f (any_has slot f held) of)

  pub completed : (c : ℕ) → ltb 0 (completion t.flows slots c) ≡ has_flow t.flows c
  completed c = both_ways (ltb 0 (completion t.flows slots c)) (has_flow t.flows c) (λ lt. ended_has_flow c (ltb-true 0 (completion t.flows slots c) lt))
      (λ some. lt-ltb 0 (completion t.flows slots c) (flow_has_end c some))

kept_step : (e : ℕ → ℕ) (p : ℕ → Bool) (c : ℕ) (ends cs : List ℕ) (b : Bool) → length ends ≡ length cs → length (cond b (e c ∷ ends) ends) ≡ length (cond b (c ∷ cs) cs)
kept_step e p c ends cs true same = ap suc same
kept_step e p c ends cs false same = same

kept_both : (e : ℕ → ℕ) (p : ℕ → Bool) (cs : List ℕ) → ((c : ℕ) → ltb 0 (e c) ≡ p c) → length (filter (ltb 0) (map e cs)) ≡ length (filter p cs)
kept_both e p [] same = refl
kept_both e p (c ∷ cs) same =
    ap (λ b. length (cond b (e c ∷ filter (ltb 0) (map e cs)) (filter (ltb 0) (map e cs)))) (same c) ∙
    kept_step e p c (filter (ltb 0) (map e cs)) (filter p cs) (p c) (kept_both e p cs same)

pub each_completed : (t : TableFacts) (ws : List ℕ) (slots : List (List ℕ)) → IsTable t → IsValid t.flows slots →
    length (served_ends (ends_in (instance_of t ws) slots)) ≡ coflows_with_units t
each_completed t ws slots is valid = kept_both (completion t.flows slots) (has_flow t.flows) (range_with_len 0 (length t.ids)) (completed t slots is valid)

-- ---- how many coflows have units

some_first : {X : Type 0} (xs : List X) → xs ≢ [] → 0 < length xs
some_first [] some = absurd (some refl)
some_first (x ∷ xs) some = omega arith

some_length : {X : Type 0} (xs : List X) → 0 < length xs → xs ≢ []
some_length xs lt = λ e. let none : length xs ≡ 0 = ap (λ l. length l) e in omega (arith, none, lt)

pub some_units : (t : TableFacts) → IsTable t → t.flows ≢ [] → 1 ≤ coflows_with_units t
some_units t is some =
    let first : 0 < length t.flows = some_first t.flows some in
    let c : ℕ = coflow_of t.flows 0 in
    let below : c < length t.ids = is.coflow 0 record { coflow = 0; ingress = 0; egress = 0; units = 0 } first in
    let has : has_flow t.flows c ≡ true =
    any_from (λ f. coflow_of t.flows f == c) (range_with_len 0 (length t.flows)) 0 (number_in 0 (length t.flows) 0 (omega arith) (omega (arith, first))) (eq-eqb c c refl) in
    let (k, lt, at) = keeps (has_flow t.flows) (range_with_len 0 (length t.ids)) c (number_in 0 (length t.ids) c (omega arith) (omega (arith, below))) has in
    omega (arith, lt)

pub few_with_units : (t : TableFacts) → IsTable t → coflows_with_units t ≤ MAX_COFLOWS
few_with_units t is =
    let all = range_with_len 0 (length t.ids) in
    omega (arith, length-filter (has_flow t.flows) all, count_by-le-length (has_flow t.flows) all, length-range_with_len 0 (length t.ids), is.few_coflows)

-- ---- what comes of a second round

served_short : (t : TableFacts) (order : List ℕ) (slots : List (List ℕ)) → IsTable t → IsServed t.flows order slots → length slots ≤ MAX_SLOT
served_short t order slots is served = omega (arith, few_slots t.flows order slots served, is.few_units)

ends_short : (t : TableFacts) (ws : List ℕ) (slots : List (List ℕ)) → length slots ≤ MAX_SLOT → All (λ end. end ≤ MAX_SLOT) (ends_in (instance_of t ws) slots)
ends_short t ws slots short =
    All-map (λ end. end ≤ MAX_SLOT) (completion t.flows slots) (range_with_len 0 (length t.ids))
    (λ k d lt. le_trans (last_within (λ slot. holds_coflow t.flows slot (get_or (range_with_len 0 (length t.ids)) k d)) slots) short)

module _ (t : TableFacts) (ws : List ℕ) (facts : FactsTold) (is : IsTable t) (fit : IsFacts facts) (same : length t.ids ≡ coflows_in facts) (count : length ws ≡ length t.ids)
    (some : t.flows ≢ []) where
  came_ends : (m : Meaning) (c : Came) → IsOwn m → IsSecondEnds (instance_of t ws) facts m c → (row : Row) → row.came ≡ c → HasEnds (length t.ids) row
  came_ends m (came.Unfit place) own second row e =
      absurd (own_fits (instance_of t ws) facts m place fit own (length-range_with_len 0 (length t.ids) ∙ same) second)
  came_ends m (came.Ends ends) own second row e =
      let (slots, served, ends_are) = second.came_is in
      let valid = served_valid t.flows _ slots served.served in
      let all : List ℕ = ends_in (instance_of t ws) slots in
      let has : served_ends all ≢ [] = some_length (served_ends all) (omega (arith, each_completed t ws slots is valid, some_units t is some)) in
      record {
        ends = ends;
        came_is = e;
        each = ap (λ xs. length xs) ends_are ∙ length-map (range_with_len 0 (length t.ids)) (completion t.flows slots) ∙ length-range_with_len 0 (length t.ids);
        short = subst (λ xs. All (λ end. end ≤ MAX_SLOT) xs) (sym ends_are) (ends_short t ws slots (served_short t _ slots is served.served));
        some = subst (λ xs. served_ends xs ≢ []) (sym ends_are) has;
      }

  total_is : (slots : List (List ℕ)) (ends : List ℕ) → ends ≡ ends_in (instance_of t ws) slots →
      sum_by (λ c. slice_index ws c * slice_index ends c) (range_with_len 0 (length ws)) ≡ cost t.flows (instance_of t ws).weight (instance_of t ws).coflows slots
  total_is slots ends are =
      ap (λ n. sum_by (λ c. slice_index ws c * slice_index ends c) (range_with_len 0 n)) count ∙ cost_by_ends t.flows slots ws ends (length t.ids) are

  policy_is : (m : Meaning) (row : Row) (x : Policy) → row.name ≡ m.name → IsSecondEnds (instance_of t ws) facts m row.came → IsShown ws row x →
      IsPolicyOfRanker (instance_of t ws) facts m x × IsReady (coflows_with_units t) x
  policy_is m row x named second shown =
      let i = instance_of t ws in
      let told = subst (IsSecondEnds i facts m) shown.came_is second in
      let (slots, served, ends_are) = told.came_is in
      let round : IsSecondRound i facts m slots = record { later = told.later; told = told.told; served = served } in
      let valid = round_valid i facts m slots round in
      let all : List ℕ = ends_in i slots in
      let ready : length (served_ends shown.ends) ≡ coflows_with_units t = ap (λ xs. length (served_ends xs)) ends_are ∙ each_completed t ws slots is valid in (
        record {
          slots = slots;
          round = round;
          valid = valid;
          policy = subst (λ name. IsPolicyOf name (cost t.flows i.weight i.coflows slots) all x) named
              (subst (λ total. IsPolicyOf row.name total all x) (total_is slots shown.ends ends_are)
              (subst (λ xs. IsPolicyOf row.name (sum_by (λ c. slice_index ws c * slice_index shown.ends c) (range_with_len 0 (length ws))) xs x) ends_are shown.policy));
        },
        subst (λ n. IsReady n x) ready shown.ready,
      )

  -- the rows of rankers of the crate all have ends
  abbrev AreOwn : List Meaning → Type 0
  AreOwn [] = Unit {0}
  AreOwn (m ∷ ms) = IsOwn m × AreOwn ms

  pub row_ends : (ms : List Meaning) (rows : List Row) → AreOwn ms → AreSecondEnds (instance_of t ws) facts ms rows → All (HasEnds (length t.ids)) rows
  row_ends [] rows own none = subst (All (HasEnds (length t.ids))) (sym none) (All-nil (HasEnds (length t.ids)))
  row_ends (m ∷ ms) rows (own, others) (c, rest, second, e, more) =
      let row : Row = record { name = m.name; came = c } in
      subst (All (HasEnds (length t.ids))) (sym e) (All-cons (HasEnds (length t.ids)) row rest (came_ends m c own second row refl) (row_ends ms rest others more))

  pub five_own : AreOwn (rankers_for (length t.ids))
  five_own = (inl refl, (inr (inl refl), (inr (inr (inl refl)), (inr (inr (inr (inl refl))), (inr (inr (inr (inr (replicate (length t.ids) 0, refl)))), tt)))))

  pub policies_are : (ms : List Meaning) (rows : List Row) (xs : List Policy) → AreSecondEnds (instance_of t ws) facts ms rows → AreShown ws rows xs →
      ArePolicies (instance_of t ws) facts ms xs × All (IsReady (coflows_with_units t)) xs
  policies_are [] rows xs none shown =
      let empty : xs ≡ [] = subst (λ rs. AreShown ws rs xs) none shown in
      (empty, subst (All (IsReady (coflows_with_units t))) (sym empty) (All-nil (IsReady (coflows_with_units t))))
  policies_are (m ∷ ms) rows xs (c, rest, second, e, more) shown =
      let row : Row = record { name = m.name; came = c } in
      let (x, others, one, f, later) = subst (λ rs. AreShown ws rs xs) e shown in
      let (policy, ready) = policy_is m row x refl second one in
      let (policies, all) = policies_are ms rest others more later in (
        (x, others, policy, f, policies),
        subst (All (IsReady (coflows_with_units t))) (sym f) (All-cons (IsReady (coflows_with_units t)) x others ready all),
      )

-- ---- the picture of the policies

pub as_many : (i : Instance) (facts : FactsTold) (ms : List Meaning) (xs : List Policy) → ArePolicies i facts ms xs → length xs ≡ length ms
as_many i facts [] xs none = ap (λ l. length l) none
as_many i facts (m ∷ ms) xs (x, rest, is, e, more) = ap (λ l. length l) e ∙ ap suc (as_many i facts ms rest more)

cost_small : (t : TableFacts) (ws : List ℕ) (slots : List (List ℕ)) → IsTable t → All (λ w. w ≤ 4294967296) ws → length slots ≤ MAX_SLOT →
    cost t.flows (instance_of t ws).weight (instance_of t ws).coflows slots ≤ 2 ^ 96
cost_small t ws slots is small short = omega (arith, parts_small t.flows ws slots 0 (length t.ids) small short, is.few_coflows)

pub costs_small : (t : TableFacts) (ws : List ℕ) (facts : FactsTold) (ms : List Meaning) (xs : List Policy) → IsTable t → All (λ w. w ≤ 4294967296) ws →
    ArePolicies (instance_of t ws) facts ms xs → All (λ (x : Policy). x.cost ≤ 2 ^ 96) xs
costs_small t ws facts [] xs is small none = subst (All (λ (x : Policy). x.cost ≤ 2 ^ 96)) (sym none) (All-nil (λ (x : Policy). x.cost ≤ 2 ^ 96))
costs_small t ws facts (m ∷ ms) xs is small (x, rest, p, e, more) =
    let here = cost_small t ws p.slots is small (served_short t _ p.slots is p.round.served.served) in
    subst (All (λ (x : Policy). x.cost ≤ 2 ^ 96)) (sym e)
    (All-cons (λ (x : Policy). x.cost ≤ 2 ^ 96) x rest (subst (λ n. n ≤ 2 ^ 96) (sym p.policy.cost_is) here) (costs_small t ws facts ms rest is small more))

pub costs_above : (i : Instance) (facts : FactsTold) (b : ℕ) (ms : List Meaning) (xs : List Policy) → IsPlanBound i b → ArePolicies i facts ms xs →
    All (λ (x : Policy). b ≤ x.cost) xs
costs_above i facts b [] xs low none = subst (All (λ (x : Policy). b ≤ x.cost)) (sym none) (All-nil (λ (x : Policy). b ≤ x.cost))
costs_above i facts b (m ∷ ms) xs low (x, rest, p, e, more) =
    let here = bound_low i b low p.slots p.valid in
    subst (All (λ (x : Policy). b ≤ x.cost)) (sym e)
    (All-cons (λ (x : Policy). b ≤ x.cost) x rest (subst (λ n. b ≤ n) (sym p.policy.cost_is) here) (costs_above i facts b ms rest low more))

pub shows_by : (t : TableFacts) (ws : List ℕ) (facts : FactsTold) (xs : List Policy) (n b : ℕ) (p : PoliciesPicture) → IsFacts facts → IsFactsOf t ws facts →
    ArePolicies (instance_of t ws) facts (rankers_for (length t.ids)) xs → IsPlanBound (instance_of t ws) b → n ≡ coflows_with_units t → IsPoliciesOf xs n b p →
    ShowsPolicies t ws p
shows_by t ws facts xs n b p fit facts_are policies low n_is shows =
    let i = instance_of t ws in
    let planned : IsPlanBound i p.bound = subst (IsPlanBound i) (sym shows.bound_is) low in
    let same : ArePolicies i facts (rankers_for (length t.ids)) p.policies = subst (ArePolicies i facts (rankers_for (length t.ids))) (sym shows.policies_are) policies in
    record {
      facts = facts;
      facts_fit = fit;
      facts_are = facts_are;
      policies = same;
      bound_is = planned;
      bounds = bound_low i p.bound planned;
      below = costs_above i facts p.bound (rankers_for (length t.ids)) p.policies planned same;
      coflows_are = shows.coflows_is ∙ n_is;
      shows = subst (λ l. IsPoliciesOf l p.coflows p.bound p) (sym shows.policies_are)
          (subst (λ c. IsPoliciesOf xs c p.bound p) (sym shows.coflows_is) (subst (λ x. IsPoliciesOf xs n x p) (sym shows.bound_is) shows));
    }

-- ---- one row more

pub shown_more : (ws : List ℕ) (rows : List Row) (xs : List Policy) (row : Row) (x : Policy) → AreShown ws rows xs → IsShown ws row x →
    AreShown ws (rows ++ row ∷ []) (xs ++ x ∷ [])
shown_more ws [] xs row x none one = (x, [], one, ap (λ l. l ++ x ∷ []) none, refl)
shown_more ws (r ∷ rows) xs row x (y, rest, is, e, more) one = (y, rest ++ x ∷ [], is, ap (λ l. l ++ x ∷ []) e, shown_more ws rows rest row x more one)

-- ---- the bench

-- what an equation says that something is
abbrev pub target : {X : Type 0} {a b : X} → a ≡ b → X
target {X} {a} {b} e = b

pub five_same : {X : Type 0} {a b c d e u v w x y : X} → a ≡ u → b ≡ v → c ≡ w → d ≡ x → e ≡ y → a ∷ b ∷ c ∷ d ∷ e ∷ [] ≡ u ∷ v ∷ w ∷ x ∷ y ∷ []
five_same p q r s t = λ i. p i ∷ q i ∷ r i ∷ s i ∷ t i ∷ []
