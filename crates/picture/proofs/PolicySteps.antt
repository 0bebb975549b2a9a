-- Policies, one more.
use Rattle.std.proofs.Common.{◌≡◌, ◌≢◌, ℕ, ◌<◌, ◌≤◌, ◌+◌, ◌-◌, ◌^◌, ◌⊎◌, inl, inr, List, [], ◌∷◌, ◌++◌, append_assoc, append-nil, length, take, get_or, map, Contains, refl, sym}
use Rattle.std.proofs.Common.{◌∙◌, ap, arith, subst, ltb, ltb-true}
use Rattle.std.specs.Prelude.{All, AllPairs, max}
use Rattle.std.proofs.lemmas.Bool.{cases_lt}
use Rattle.std.proofs.lemmas.Grind.{flat_map-append}
use Rattle.std.proofs.lemmas.List.{get_or_default, get_or-map, length-map, length-take-le, map_more, take_more}
use Rattle.std.proofs.lemmas.List.Elements.{All-append, All-cons, All-contains, All-map, All-nil, All-tail, All-weaker}
use Rattle.std.proofs.lemmas.List.Elements.{Contains-append_left, Contains-append_right, Contains-get_or}
use Rattle.std.proofs.lemmas.List.Sums.{count_by-le-length, length-filter}
use Rattle.coflow_stats.specs.Stats.{IsSmall}
use Rattle.coflow_stats.specs.Summary.{IsSummary}
use Rattle.coflow_units.proofs.Lists.{filter_in}
use Rattle.coflow_units.specs.declared.limits.TheConstants.{MAX_COFLOWS, MAX_SLOT}
use Rattle.coflow_units.proofs.Sums.{in_first, nothing_in}
use Rattle.picture.specs.declared.policies_value.PoliciesPicture.{PoliciesPicture}
use Rattle.picture.specs.declared.policies_value.Policy.{Policy}
use Rattle.picture.specs.declared.policies_value.TheConstants.{MAX_POLICIES}
use Rattle.picture.specs.declared.value.Step.{Step}
use Rattle.picture.specs.Curve.{IsCurve}
use Rattle.picture.specs.Policies.{IsGreatestOf, IsPoliciesDrawable, IsReady, costs_of, served_ends, step_slots}
use Rattle.picture.specs.PoliciesSvg.{each_policy}
use Rattle.picture.proofs.RunSteps.{curve_within}
use Rattle.picture.proofs.TextSteps.{more}

each_append : (text : ℕ → Policy → List ℕ) (place : ℕ) (xs : List Policy) (x : Policy) →
    each_policy text place (xs ++ (x ∷ [])) ≡ each_policy text place xs ++ text (place + length xs) x
each_append text place [] x = append-nil (text place x) ∙ ap (λ n. text n x) (omega arith)
each_append text place (y ∷ ys) x =
    ap (λ t. text place y ++ t) (each_append text (place + 1) ys x) ∙
    (sym (append_assoc (text place y) (each_policy text (place + 1) ys) (text (place + 1 + length ys) x)) ∙
    ap (λ n. (text place y ++ each_policy text (place + 1) ys) ++ text n x) (omega arith))

-- the text of one policy more
pub policy_more : (text : ℕ → Policy → List ℕ) (xs : List Policy) (k : ℕ) (x : Policy) (a b c : List ℕ) → k < length xs → x ≡ get_or xs k x →
    b ≡ a ++ each_policy text 0 (take k xs) → c ≡ b ++ text k x → c ≡ a ++ each_policy text 0 (take (k + 1) xs)
policy_more text xs k x a b c lt here old step =
    let grown : take (k + 1) xs ≡ take k xs ++ (x ∷ []) = take_more xs k x lt ∙ ap (λ y. take k xs ++ (y ∷ [])) (sym here) in
    let count : 0 + length (take k xs) ≡ k = omega (arith, length-take-le k xs (omega (arith, lt))) in
    let whole : each_policy text 0 (take (k + 1) xs) ≡ each_policy text 0 (take k xs) ++ text k x =
    ap (each_policy text 0) grown ∙ (each_append text 0 (take k xs) x ∙ ap (λ n. each_policy text 0 (take k xs) ++ text n x) count) in
    more a (each_policy text 0 (take k xs)) (text k x) old step ∙ ap (λ t. a ++ t) (sym whole)

-- ---- the greatest of numbers

-- the greatest of these numbers, or 0 where there are none
pub record IsMostOf (numbers : List ℕ) (most : ℕ) : Type 0 where
  pub among : ((numbers ≡ []) × (most ≡ 0)) ⊎ Contains numbers most
  pub upto : All (λ n. n ≤ most) numbers

pub most_none : IsMostOf [] 0
most_none = record { among = inl (refl, refl); upto = λ k d lt. absurd (omega arith) }

pub most_one : (x : ℕ) → IsMostOf (x ∷ []) x
most_one x = record { among = inr (in_first x []); upto = All-cons (λ n. n ≤ x) x [] (omega arith) (All-nil (λ n. n ≤ x)) }

pub most_greatest : (xs : List ℕ) (m : ℕ) → IsGreatestOf xs m → IsMostOf xs m
most_greatest xs m is = record { among = inr is.among; upto = is.most }

pub greatest_most : (xs : List ℕ) (m : ℕ) → xs ≢ [] → IsMostOf xs m → IsGreatestOf xs m
greatest_most xs m some is = record {
  among = elim is.among [
    | inl none ↦ absurd (some none.0)
    | inr has ↦ has
  ];
  most = is.upto;
}

pub most_more : (xs ys : List ℕ) (m n : ℕ) → IsMostOf xs m → IsMostOf ys n → IsMostOf (xs ++ ys) (max n m)
most_more xs ys m n a b = record {
  among = elim (cases_lt n m) [
    | inl lt ↦ subst (λ k. ((xs ++ ys ≡ []) × (k ≡ 0)) ⊎ Contains (xs ++ ys) k) (above n m lt) (elim a.among [
      | inl none ↦ absurd (omega (arith, lt, none.1))
      | inr has ↦ inr (Contains-append_left xs ys m has)
    ])
    | inr le ↦ subst (λ k. ((xs ++ ys ≡ []) × (k ≡ 0)) ⊎ Contains (xs ++ ys) k) (below n m le) (elim b.among [
      | inl none ↦ nothing none le
      | inr has ↦ inr (Contains-append_right xs ys n has)
    ])
  ];
  upto = All-append (λ k. k ≤ max n m) xs ys
      (All-weaker (λ k. k ≤ m) (λ k. k ≤ max n m) (λ k le. grind (arith, le)) xs a.upto)
      (All-weaker (λ k. k ≤ n) (λ k. k ≤ max n m) (λ k le. grind (arith, le)) ys b.upto);
}
  where
    above : (n m : ℕ) → n < m → m ≡ max n m
    above n m lt = grind (arith, lt)

    below : (n m : ℕ) → m ≤ n → n ≡ max n m
    below n m le = grind (arith, le)

    nothing : (ys ≡ []) × (n ≡ 0) → m ≤ n → ((xs ++ ys ≡ []) × (n ≡ 0)) ⊎ Contains (xs ++ ys) n
    nothing none le = elim a.among [
      | inl left ↦ inl (ap (λ l. l ++ ys) left.0 ∙ none.0, none.1)
      | inr has ↦ inr (subst (Contains (xs ++ ys)) (omega (arith, none.1, le)) (Contains-append_left xs ys m has))
    ]

-- ---- costs and slots of policies

none_left : (ss : List Step) (rest : List ℕ) → map (λ (s : Step). s.slot) ss ++ rest ≡ [] → ss ≡ []
none_left [] rest e = refl
none_left (s ∷ ss) rest e = absurd (cc)

pub some_slots : (ps : List Policy) → ps ≢ [] → All (λ (x : Policy). x.steps ≢ []) ps → step_slots ps ≢ []
some_slots [] some each e = some refl
some_slots (x ∷ xs) some each e = each 0 x (omega arith) (none_left x.steps (step_slots xs) e)

pub some_costs : (ps : List Policy) → ps ≢ [] → costs_of ps ≢ []
some_costs [] some e = some refl
some_costs (x ∷ xs) some e = absurd (cc)

-- the costs of one policy more
pub costs_more : (ps : List Policy) (k : ℕ) (x : Policy) (m n : ℕ) → k < length ps → x ≡ get_or ps k x → n ≡ max x.cost m → IsMostOf (costs_of (take k ps)) m →
    IsMostOf (costs_of (take (k + 1) ps)) n
costs_more ps k x m n lt here is so_far =
    let grown : costs_of (take (k + 1) ps) ≡ costs_of (take k ps) ++ (x.cost ∷ []) =
    map_more (λ (y : Policy). y.cost) ps k x lt ∙ ap (λ (y : Policy). costs_of (take k ps) ++ (y.cost ∷ [])) (sym here) in
    subst (λ l. IsMostOf l n) (sym grown)
    (subst (IsMostOf (costs_of (take k ps) ++ (x.cost ∷ []))) (sym is) (most_more (costs_of (take k ps)) (x.cost ∷ []) m x.cost so_far (most_one x.cost)))

-- the slots of one policy more
pub slots_more : (ps : List Policy) (k : ℕ) (x : Policy) (last m n : ℕ) → k < length ps → x ≡ get_or ps k x → n ≡ max last m →
    IsGreatestOf (map (λ (s : Step). s.slot) x.steps) last → IsMostOf (step_slots (take k ps)) m → IsMostOf (step_slots (take (k + 1) ps)) n
slots_more ps k x last m n lt here is mine so_far =
    let own = map (λ (s : Step). s.slot) x.steps in
    let one_more : take (k + 1) ps ≡ take k ps ++ (x ∷ []) = take_more ps k x lt ∙ ap (λ y. take k ps ++ (y ∷ [])) (sym here) in
    let grown : step_slots (take (k + 1) ps) ≡ step_slots (take k ps) ++ own =
    ap step_slots one_more ∙ (flat_map-append (λ (y : Policy). map (λ (s : Step). s.slot) y.steps) (take k ps) (x ∷ []) ∙
    ap (λ l. step_slots (take k ps) ++ l) (append-nil own)) in
    subst (λ l. IsMostOf l n) (sym grown)
    (subst (IsMostOf (step_slots (take k ps) ++ own)) (sym is) (most_more (step_slots (take k ps)) own m last so_far (most_greatest own last mine)))

-- ---- policies that can be drawn

all_slots : (P : ℕ → Type 0) (ps : List Policy) → All (λ (x : Policy). All (λ (s : Step). P s.slot) x.steps) ps → All P (step_slots ps)
all_slots P [] each = All-nil P
all_slots P (x ∷ xs) each =
    All-append P (map (λ (s : Step). s.slot) x.steps) (step_slots xs) (All-map P (λ (s : Step). s.slot) x.steps (each 0 x (omega arith)))
    (all_slots P xs (All-tail (λ (y : Policy). All (λ (s : Step). P s.slot) y.steps) x xs each))

each_slot : (P : ℕ → Type 0) (ps : List Policy) → All P (step_slots ps) → All (λ (x : Policy). All (λ (s : Step). P s.slot) x.steps) ps
each_slot P [] all = All-nil (λ (x : Policy). All (λ (s : Step). P s.slot) x.steps)
each_slot P (x ∷ xs) all =
    let own = map (λ (s : Step). s.slot) x.steps in
    All-cons (λ (y : Policy). All (λ (s : Step). P s.slot) y.steps) x xs
    (λ k d lt. subst P (get_or-map (λ (s : Step). s.slot) x.steps k d d.slot lt)
    (All-contains P (step_slots (x ∷ xs)) (get_or own k d.slot) all
    (Contains-append_left own (step_slots xs) (get_or own k d.slot) (Contains-get_or own k d.slot (subst (λ n. k < n) (sym (length-map x.steps (λ (s : Step). s.slot))) lt)))))
    (each_slot P xs (λ k d lt. All-contains P (step_slots (x ∷ xs)) (get_or (step_slots xs) k d) all
    (Contains-append_right own (step_slots xs) (get_or (step_slots xs) k d) (Contains-get_or (step_slots xs) k d lt))))

pub drawable : (p : PoliciesPicture) → p.policies ≢ [] → length p.policies ≤ MAX_POLICIES → 1 ≤ p.coflows → p.coflows ≤ MAX_COFLOWS → All (IsReady p.coflows) p.policies →
    All (λ (x : Policy). p.bound ≤ x.cost) p.policies → All (λ (x : Policy). x.cost ≤ 2 ^ 96) p.policies → IsGreatestOf (costs_of p.policies) p.most →
    IsGreatestOf (step_slots p.policies) p.last → IsPoliciesDrawable p
drawable p some few counted few_coflows ready above small costs slots =
    let ps = p.policies in
    let counts = all_slots (λ n. 1 ≤ n) ps (All-weaker (IsReady p.coflows) (λ (x : Policy). All (λ (s : Step). 1 ≤ s.slot) x.steps) (λ x is. is.counted) ps ready) in
    let shorts = all_slots (λ n. n ≤ MAX_SLOT) ps (All-weaker (IsReady p.coflows) (λ (x : Policy). All (λ (s : Step). s.slot ≤ MAX_SLOT) x.steps) (λ x is. is.short) ps ready) in
    let inside : All (λ (x : Policy). All (λ (s : Step). s.slot ≤ p.last) x.steps) ps = each_slot (λ n. n ≤ p.last) ps slots.most in
    record {
      few = few;
      each = λ k d lt. record {
        ready = ready k d lt;
        above = above k d lt;
        most = subst (λ n. n ≤ p.most) (get_or-map (λ (x : Policy). x.cost) ps k d d.cost lt)
            (costs.most k d.cost (subst (λ n. k < n) (sym (length-map ps (λ (x : Policy). x.cost))) lt));
        inside = inside k d lt;
      };
      above = All-contains (λ n. p.bound ≤ n) (costs_of ps) p.most (All-map (λ n. p.bound ≤ n) (λ (x : Policy). x.cost) ps above) costs.among;
      small_cost = All-contains (λ n. n ≤ 2 ^ 96) (costs_of ps) p.most (All-map (λ n. n ≤ 2 ^ 96) (λ (x : Policy). x.cost) ps small) costs.among;
      counted = All-contains (λ n. 1 ≤ n) (step_slots ps) p.last counts slots.among;
      short = All-contains (λ n. n ≤ MAX_SLOT) (step_slots ps) p.last shorts slots.among;
      some_coflows = counted;
      few_coflows = few_coflows;
    }

-- ---- the steps of a policy

-- the last of steps that ascend
pub last_greatest : (steps : List Step) (x : Step) → AllPairs (λ (a : Step) (b : Step). a.slot < b.slot) steps → 0 < length steps → x ≡ get_or steps (length steps - 1) x →
    IsGreatestOf (map (λ (s : Step). s.slot) steps) x.slot
last_greatest steps x order some here =
    let end = length steps - 1 in
    let within : end < length steps = omega arith in
    let count : length (map (λ (s : Step). s.slot) steps) ≡ length steps = length-map steps (λ (s : Step). s.slot) in
    let slot : get_or (map (λ (s : Step). s.slot) steps) end x.slot ≡ x.slot =
    get_or-map (λ (s : Step). s.slot) steps end x x.slot within ∙ ap (λ (s : Step). s.slot) (sym here) in
    let at : (d : Step) → get_or steps end d ≡ x = λ (d : Step). get_or_default steps end d x within ∙ sym here in
    record {
      among = subst (Contains (map (λ (s : Step). s.slot) steps)) slot (Contains-get_or (map (λ (s : Step). s.slot) steps) end x.slot (omega (arith, count)));
      most = All-map (λ n. n ≤ x.slot) (λ (s : Step). s.slot) steps (λ k d lt. elim (cases_lt k end) [
        | inl before ↦ omega (arith, subst (λ (s : Step). (get_or steps k d).slot < s.slot) (at d) (order k end d before within))
        | inr after ↦ omega (arith, ap (λ (s : Step). s.slot) (ap (λ n. get_or steps n d) (same k lt after) ∙ at d))
      ]);
    }
  where
    same : (k : ℕ) → k < length steps → length steps - 1 ≤ k → k ≡ length steps - 1
    same k lt after = omega (arith, lt, after)

some_steps : (served : List ℕ) (steps : List Step) → served ≢ [] → IsCurve served steps → steps ≢ []
some_steps [] steps some curve none = some refl
some_steps (y ∷ ys) steps some curve none =
    nothing_in y (subst (λ (l : List Step). Contains (map (λ (s : Step). s.slot) l) y) none (curve.all y (in_first y ys)))

pub few_served : (ends : List ℕ) → length (served_ends ends) ≤ length ends
few_served ends = omega (arith, length-filter (ltb 0) ends, count_by-le-length (ltb 0) ends)

pub is_ready : (ends : List ℕ) (x : Policy) → All (λ end. end ≤ MAX_SLOT) ends → served_ends ends ≢ [] → IsCurve (served_ends ends) x.steps →
    IsSummary (served_ends ends) x.times → IsSmall x.times → IsReady (length (served_ends ends)) x
is_ready ends x short some curve times small = record {
  some = some_steps (served_ends ends) x.steps some curve;
  ascending = curve.ascending;
  counted = λ k d lt. omega (arith, ltb-true 0 (get_or x.steps k d).slot (filter_in (ltb 0) ends (get_or x.steps k d).slot (curve.each_step k d lt).rises).1);
  short = λ k d lt. All-contains (λ end. end ≤ MAX_SLOT) ends (get_or x.steps k d).slot short
      (filter_in (ltb 0) ends (get_or x.steps k d).slot (curve.each_step k d lt).rises).0;
  few = curve_within (served_ends ends) x.steps (length (served_ends ends)) refl curve;
  times = small;
  each = times.count_is;
}
