-- The grants of a slot, computed.
use Rattle.std.proofs.Common.{◌≡◌, ℕ, ◌≤◌, ◌<◌, ◌⊎◌, inl, inr, Bool, true, false, not, List, [], ◌∷◌, length, Contains, refl, sym, ap, subst, ◌∙◌, arith}
use Rattle.std.specs.Prelude.{◌==◌, ◌||◌, ◌&&◌, if◌then◌else◌, nat_lt}
use Rattle.std.specs.List.{list_any, filter, range_with_len}
use Rattle.std.proofs.lemmas.Bool.{ltb-true, ltb-false, lt-ltb, not-true, eqb-true, eq-eqb, both_ways, or_cases, and_parts, and_from}
use Rattle.coflow_units.specs.declared.fabric.Flow.{Flow}
use Rattle.coflow_units.specs.Flows.{coflow_of, ingress_of, egress_of, SharesPort}
use Rattle.coflow_units.specs.Grants.{place_in, ComesBefore, IsBlocked, IsGrants}
use Rattle.coflow_units.proofs.Lists.{any_where, any_from, filter_in, keeps, number_in, number_below, numbers_apart}
use Rattle.coflow_units.proofs.Bools.{second_not}
use Rattle.coflow_units.proofs.Ranges.{range_rises}
use Rattle.coflow_units.proofs.GrantLaws.{rank, rank_falls}
use Rattle.coflow_units.proofs.ServedLaws.{some_order}
use Rattle.coflow_units.proofs.Sums.{any_has, any_in, in_first, in_tail, nothing_in, first_or_tail, all_of_members, Apart, or_right}

-- ---- numbers sorted by a key

abbrev pub insert_by : (ℕ → ℕ) → ℕ → List ℕ → List ℕ
insert_by key x [] = x ∷ []
insert_by key x (y ∷ ys) = if nat_lt (key x) (key y) then x ∷ y ∷ ys else y ∷ insert_by key x ys

abbrev pub sorted_by : (ℕ → ℕ) → List ℕ → List ℕ
sorted_by key [] = []
sorted_by key (x ∷ xs) = insert_by key x (sorted_by key xs)

abbrev pub Rises : (ℕ → ℕ) → List ℕ → Type 0
Rises key [] = Unit {0}
Rises key (x ∷ xs) = ((y : ℕ) → Contains xs y → key x < key y) × Rises key xs

insert_in_step : (key : ℕ → ℕ) (x y : ℕ) (ys : List ℕ) (z : ℕ) → (Contains (insert_by key x ys) z → (x ≡ z) ⊎ Contains ys z) → (b : Bool) →
    Contains (if b then x ∷ y ∷ ys else y ∷ insert_by key x ys) z → (x ≡ z) ⊎ Contains (y ∷ ys) z
insert_in_step key x y ys z before true has = first_or_tail x (y ∷ ys) z has
insert_in_step key x y ys z before false has = elim (first_or_tail y (insert_by key x ys) z has) [
  | inl e ↦ inr (subst (λ n. Contains (y ∷ ys) n) e (in_first y ys))
  | inr h ↦ elim (before h) [
    | inl e ↦ inl e
    | inr h' ↦ inr (in_tail y ys z h')
  ]
]

insert_in : (key : ℕ → ℕ) (x : ℕ) (ys : List ℕ) (z : ℕ) → Contains (insert_by key x ys) z → (x ≡ z) ⊎ Contains ys z
insert_in key x [] z has = first_or_tail x [] z has
insert_in key x (y ∷ ys) z has = insert_in_step key x y ys z (insert_in key x ys z) (nat_lt (key x) (key y)) has

insert_new_step : (x y : ℕ) (ys more : List ℕ) → Contains more x → (b : Bool) → Contains (if b then x ∷ y ∷ ys else y ∷ more) x
insert_new_step x y ys more has true = in_first x (y ∷ ys)
insert_new_step x y ys more has false = in_tail y more x has

insert_new : (key : ℕ → ℕ) (x : ℕ) (ys : List ℕ) → Contains (insert_by key x ys) x
insert_new key x [] = in_first x []
insert_new key x (y ∷ ys) = insert_new_step x y ys (insert_by key x ys) (insert_new key x ys) (nat_lt (key x) (key y))

insert_old_step : (x y : ℕ) (ys more : List ℕ) (z : ℕ) → Contains (y ∷ ys) z → Contains (y ∷ more) z → (b : Bool) → Contains (if b then x ∷ y ∷ ys else y ∷ more) z
insert_old_step x y ys more z has has' true = in_tail x (y ∷ ys) z has
insert_old_step x y ys more z has has' false = has'

insert_old : (key : ℕ → ℕ) (x : ℕ) (ys : List ℕ) (z : ℕ) → Contains ys z → Contains (insert_by key x ys) z
insert_old key x [] z has = absurd (nothing_in z has)
insert_old key x (y ∷ ys) z has =
    let later : Contains (y ∷ insert_by key x ys) z = elim (first_or_tail y ys z has) [
      | inl e ↦ subst (λ n. Contains (y ∷ insert_by key x ys) n) e (in_first y (insert_by key x ys))
      | inr h ↦ in_tail y (insert_by key x ys) z (insert_old key x ys z h)
    ] in
    insert_old_step x y ys (insert_by key x ys) z has later (nat_lt (key x) (key y))

above : (y x z : ℕ) → y ≤ x → (x ≡ y → ⊥) → x ≡ z → y < z
above y x z le ne e = omega arith

insert_rises_step : (key : ℕ → ℕ) (x y : ℕ) (ys : List ℕ) → (key x ≡ key y → ⊥) → Rises key (y ∷ ys) → Rises key (insert_by key x ys) → (b : Bool) → nat_lt (key x) (key y) ≡ b →
    Rises key (if b then x ∷ y ∷ ys else y ∷ insert_by key x ys)
insert_rises_step key x y ys ne up later true e = (
  (λ z has. elim (first_or_tail y ys z has) [
    | inl same ↦ omega (arith, ltb-true (key x) (key y) e, ap key same)
    | inr h ↦ omega (arith, ltb-true (key x) (key y) e, up.0 z h)
  ]),
  up,
)
insert_rises_step key x y ys ne up later false e = (
  (λ z has. elim (insert_in key x ys z has) [
    | inl same ↦ above (key y) (key x) (key z) (ltb-false (key x) (key y) e) ne (ap key same)
    | inr h ↦ up.0 z h
  ]),
  later,
)

insert_rises : (key : ℕ → ℕ) (x : ℕ) (ys : List ℕ) → ((y : ℕ) → Contains ys y → key x ≡ key y → ⊥) → Rises key ys → Rises key (insert_by key x ys)
insert_rises key x [] ne up = ((λ z has. absurd (nothing_in z has)), tt)
insert_rises key x (y ∷ ys) ne up =
    insert_rises_step key x y ys (ne y (in_first y ys)) up (insert_rises key x ys (λ z has. ne z (in_tail y ys z has)) up.1) (nat_lt (key x) (key y)) refl

pub sorted_in : (key : ℕ → ℕ) (xs : List ℕ) (z : ℕ) → Contains (sorted_by key xs) z → Contains xs z
sorted_in key [] z has = has
sorted_in key (x ∷ xs) z has = elim (insert_in key x (sorted_by key xs) z has) [
  | inl e ↦ subst (λ n. Contains (x ∷ xs) n) e (in_first x xs)
  | inr h ↦ in_tail x xs z (sorted_in key xs z h)
]

pub sorted_has : (key : ℕ → ℕ) (xs : List ℕ) (z : ℕ) → Contains xs z → Contains (sorted_by key xs) z
sorted_has key [] z has = has
sorted_has key (x ∷ xs) z has = elim (first_or_tail x xs z has) [
  | inl e ↦ subst (λ n. Contains (insert_by key x (sorted_by key xs)) n) e (insert_new key x (sorted_by key xs))
  | inr h ↦ insert_old key x (sorted_by key xs) z (sorted_has key xs z h)
]

-- keys that differ wherever the numbers do
pub sorted_rises : (key : ℕ → ℕ) (xs : List ℕ) → Apart xs → ((a b : ℕ) → Contains xs a → Contains xs b → key a ≡ key b → a ≡ b) → Rises key (sorted_by key xs)
sorted_rises key [] apart one = tt
sorted_rises key (x ∷ xs) apart one =
    insert_rises key x (sorted_by key xs)
    (λ y has e. apart.0 (subst (λ n. Contains xs n) (sym (one x y (in_first x xs) (in_tail x xs y (sorted_in key xs y has)) e)) (sorted_in key xs y has)))
    (sorted_rises key xs apart.1 (λ a b ha hb. one a b (in_tail x xs a ha) (in_tail x xs b hb)))

-- ---- one pass over the flows in their order

abbrev pub shares : List Flow → ℕ → ℕ → Bool
shares flows f g = (ingress_of flows g == ingress_of flows f) || (egress_of flows g == egress_of flows f)

shares_true : (flows : List Flow) (f g : ℕ) → shares flows f g ≡ true → SharesPort flows g f
shares_true flows f g e = elim (or_cases (ingress_of flows g == ingress_of flows f) (egress_of flows g == egress_of flows f) e) [
  | inl t ↦ inl (eqb-true (ingress_of flows g) (ingress_of flows f) t)
  | inr t ↦ inr (eqb-true (egress_of flows g) (egress_of flows f) t)
]

shares_from : (flows : List Flow) (f g : ℕ) → SharesPort flows g f → shares flows f g ≡ true
shares_from flows f g (inl e) = ap (λ b. b || (egress_of flows g == egress_of flows f)) (eq-eqb (ingress_of flows g) (ingress_of flows f) e)
shares_from flows f g (inr e) = or_right (ingress_of flows g == ingress_of flows f) (egress_of flows g == egress_of flows f) (eq-eqb (egress_of flows g) (egress_of flows f) e)

abbrev pub pass : List Flow → (ℕ → Bool) → List ℕ → List ℕ → List ℕ
pass flows wants busy [] = []
pass flows wants busy (f ∷ fs) = if wants f && not (list_any (shares flows f) busy) then f ∷ pass flows wants (f ∷ busy) fs else pass flows wants busy fs

pub record IsPass (flows : List Flow) (key : ℕ → ℕ) (wants : ℕ → Bool) (busy fs got : List ℕ) : Type 0 where
  pub inside : (f : ℕ) → Contains got f → Contains fs f
  pub wanted : (f : ℕ) → Contains got f → wants f ≡ true
  pub clear : (f b : ℕ) → Contains got f → Contains busy b → SharesPort flows b f → ⊥
  pub free : (f g : ℕ) → Contains got f → Contains got g → key g < key f → SharesPort flows g f → ⊥
  pub rest : (f : ℕ) → Contains fs f → wants f ≡ true →
      Contains got f ⊎ (((b : ℕ) × Contains busy b × SharesPort flows b f) ⊎ ((g : ℕ) × Contains got g × (key g < key f) × SharesPort flows g f))

taken_rest : (flows : List Flow) (key : ℕ → ℕ) (busy got : List ℕ) (f x : ℕ) → key f < key x →
    (Contains got x ⊎ (((b : ℕ) × Contains (f ∷ busy) b × SharesPort flows b x) ⊎ ((g : ℕ) × Contains got g × (key g < key x) × SharesPort flows g x))) →
    Contains (f ∷ got) x ⊎ (((b : ℕ) × Contains busy b × SharesPort flows b x) ⊎ ((g : ℕ) × Contains (f ∷ got) g × (key g < key x) × SharesPort flows g x))
taken_rest flows key busy got f x lt (inl h) = inl (in_tail f got x h)
taken_rest flows key busy got f x lt (inr (inl (b, in', sh))) = elim (first_or_tail f busy b in') [
  | inl e ↦ inr (inr (f, in_first f got, lt, subst (λ n. SharesPort flows n x) (sym e) sh))
  | inr h ↦ inr (inl (b, h, sh))
]
taken_rest flows key busy got f x lt (inr (inr (g, has, less, sh))) = inr (inr (g, in_tail f got g has, less, sh))

taken : (flows : List Flow) (key : ℕ → ℕ) (wants : ℕ → Bool) (busy fs got : List ℕ) (f : ℕ) → ((y : ℕ) → Contains fs y → key f < key y) → wants f ≡ true →
    list_any (shares flows f) busy ≡ false →
    IsPass flows key wants (f ∷ busy) fs got → IsPass flows key wants busy (f ∷ fs) (f ∷ got)
taken flows key wants busy fs got f up want out p = record {
  inside = λ x has. elim (first_or_tail f got x has) [
    | inl e ↦ subst (λ n. Contains (f ∷ fs) n) e (in_first f fs)
    | inr h ↦ in_tail f fs x (p.inside x h)
  ];
  wanted = λ x has. elim (first_or_tail f got x has) [
    | inl e ↦ subst (λ n. wants n ≡ true) e want
    | inr h ↦ p.wanted x h
  ];
  clear = λ x b has in' sh. elim (first_or_tail f got x has) [
    | inl e ↦ both_ways (list_any (shares flows f) busy) out (any_from (shares flows f) busy b in' (shares_from flows f b (subst (λ n. SharesPort flows b n) (sym e) sh)))
    | inr h ↦ p.clear x b h (in_tail f busy b in') sh
  ];
  free = λ x y hx hy lt sh. elim (first_or_tail f got x hx) [
    | inl e ↦ elim (first_or_tail f got y hy) [
      | inl e' ↦ omega (arith, lt, ap key e, ap key e')
      | inr h' ↦ omega (arith, lt, ap key e, up y (p.inside y h'))
    ]
    | inr h ↦ elim (first_or_tail f got y hy) [
      | inl e' ↦ p.clear x f h (in_first f busy) (subst (λ n. SharesPort flows n x) (sym e') sh)
      | inr h' ↦ p.free x y h h' lt sh
    ]
  ];
  rest = λ x has w. elim (first_or_tail f fs x has) [
    | inl e ↦ inl (subst (λ n. Contains (f ∷ got) n) e (in_first f got))
    | inr h ↦ taken_rest flows key busy got f x (up x h) (p.rest x h w)
  ];
}

passed : (flows : List Flow) (key : ℕ → ℕ) (wants : ℕ → Bool) (busy fs got : List ℕ) (f : ℕ) → (wants f && not (list_any (shares flows f) busy)) ≡ false →
    IsPass flows key wants busy fs got → IsPass flows key wants busy (f ∷ fs) got
passed flows key wants busy fs got f out p = record {
  inside = λ x has. in_tail f fs x (p.inside x has);
  wanted = p.wanted;
  clear = p.clear;
  free = p.free;
  rest = λ x has w. elim (first_or_tail f fs x has) [
    | inl e ↦
        let wf : wants f ≡ true = ap wants e ∙ w in
        let (b, in', at) = any_where (shares flows f) busy (second_not (wants f) (list_any (shares flows f) busy) wf out) in
        inr (inl (b, in', subst (λ n. SharesPort flows b n) e (shares_true flows f b at)))
    | inr h ↦ p.rest x h w
  ];
}

pass_step : (flows : List Flow) (key : ℕ → ℕ) (wants : ℕ → Bool) (busy fs : List ℕ) (f : ℕ) → ((y : ℕ) → Contains fs y → key f < key y) →
    IsPass flows key wants (f ∷ busy) fs (pass flows wants (f ∷ busy) fs) → IsPass flows key wants busy fs (pass flows wants busy fs) → (b : Bool) →
    (wants f && not (list_any (shares flows f) busy)) ≡ b →
    IsPass flows key wants busy (f ∷ fs) (if b then f ∷ pass flows wants (f ∷ busy) fs else pass flows wants busy fs)
pass_step flows key wants busy fs f up yes' no' true e =
    let (w, n) = and_parts (wants f) (not (list_any (shares flows f) busy)) e in
    taken flows key wants busy fs (pass flows wants (f ∷ busy) fs) f up w (not-true (list_any (shares flows f) busy) n) yes'
pass_step flows key wants busy fs f up yes' no' false e = passed flows key wants busy fs (pass flows wants busy fs) f e no'

pub pass_is : (flows : List Flow) (key : ℕ → ℕ) (wants : ℕ → Bool) (busy fs : List ℕ) → Rises key fs → IsPass flows key wants busy fs (pass flows wants busy fs)
pass_is flows key wants busy [] up = record {
  inside = λ f has. has;
  wanted = λ f has. absurd (nothing_in f has);
  clear = λ f b has _ _. absurd (nothing_in f has);
  free = λ f g has _ _ _. absurd (nothing_in f has);
  rest = λ f has _. absurd (nothing_in f has);
}
pass_is flows key wants busy (f ∷ fs) up =
    pass_step flows key wants busy fs f up.0 (pass_is flows key wants (f ∷ busy) fs up.1) (pass_is flows key wants busy fs up.1) (wants f && not (list_any (shares flows f) busy))
    refl

-- ---- the set

abbrev pub numbers_of : List Flow → List ℕ
numbers_of flows = range_with_len 0 (length flows)

abbrev pub wants_in : List Flow → List ℕ → (ℕ → ℕ) → ℕ → Bool
wants_in flows line left f = nat_lt 0 (left f) && list_any (λ c. c == coflow_of flows f) line

abbrev pub passed_of : List Flow → List ℕ → (ℕ → ℕ) → List ℕ
passed_of flows line left = pass flows (wants_in flows line left) [] (sorted_by (rank flows line) (numbers_of flows))

abbrev pub grants_of : List Flow → List ℕ → (ℕ → ℕ) → List ℕ
grants_of flows line left = filter (λ f. list_any (λ g. g == f) (passed_of flows line left)) (numbers_of flows)

rank_before : (flows : List Flow) (line : List ℕ) (g f : ℕ) → g < length flows → ComesBefore flows line g f → rank flows line g < rank flows line f
rank_before flows line g f lt before = rank_falls (place_in line (coflow_of flows g)) (place_in line (coflow_of flows f)) g f (length flows) lt before

rank_one : (flows : List Flow) (line : List ℕ) (a b : ℕ) → Contains (numbers_of flows) a → Contains (numbers_of flows) b → rank flows line a ≡ rank flows line b → a ≡ b
rank_one flows line a b ha hb e = elim (some_order flows line a b) [
  | inl same ↦ same
  | inr order ↦ elim order [
    | inl before ↦ absurd (omega (arith, e, rank_before flows line a b (omega (arith, number_below 0 (length flows) a ha)) before))
    | inr before ↦ absurd (omega (arith, e, rank_before flows line b a (omega (arith, number_below 0 (length flows) b hb)) before))
  ]
]

before_rank : (flows : List Flow) (line : List ℕ) (g f : ℕ) → f < length flows → rank flows line g < rank flows line f → ComesBefore flows line g f
before_rank flows line g f lt less = elim (some_order flows line g f) [
  | inl same ↦ absurd (omega (arith, less, ap (rank flows line) same))
  | inr order ↦ elim order [
    | inl before ↦ before
    | inr before ↦ absurd (omega (arith, less, rank_before flows line f g lt before))
  ]
]

rest_of : (flows : List Flow) (line : List ℕ) (left : ℕ → ℕ) (f : ℕ) → f < length flows → (granted got : List ℕ) → ((g : ℕ) → Contains got g → Contains granted g) →
    (Contains got f ⊎ (((b : ℕ) × Contains [] b × SharesPort flows b f) ⊎ ((g : ℕ) × Contains got g × (rank flows line g < rank flows line f) × SharesPort flows g f))) →
    Contains granted f ⊎ IsBlocked flows line granted f
rest_of flows line left f lt granted got from (inl has) = inl (from f has)
rest_of flows line left f lt granted got from (inr (inl (b, none, sh))) = absurd (nothing_in b none)
rest_of flows line left f lt granted got from (inr (inr (g, has, less, sh))) = inr (g, from g has, before_rank flows line g f lt less, sh)

pub grants_exist : (flows : List Flow) (line : List ℕ) (left : ℕ → ℕ) → IsGrants flows line left (grants_of flows line left)
grants_exist flows line left =
    let key = rank flows line in
    let wants = wants_in flows line left in
    let got = passed_of flows line left in
    let numbers = numbers_of flows in
    let p = pass_is flows key wants [] (sorted_by key numbers) (sorted_rises key numbers (numbers_apart 0 (length flows)) (rank_one flows line)) in
    let test = λ (f : ℕ). list_any (λ g. g == f) got in
    let to = λ (f : ℕ) (has : Contains (grants_of flows line left) f). any_has got f (filter_in test numbers f has).1 in
    let low = λ (f : ℕ) (has : Contains (grants_of flows line left) f). number_below 0 (length flows) f (filter_in test numbers f has).0 in
    let from = λ (f : ℕ) (has : Contains got f). keeps test numbers f (sorted_in key numbers f (p.inside f has)) (any_in got f has) in
    record {
      ascending = range_rises test (length flows);
      flow = all_of_members (λ f. f < length flows) (grants_of flows line left) (λ f has. omega (arith, low f has));
      in_line = all_of_members (λ f. Contains line (coflow_of flows f)) (grants_of flows line left)
          (λ f has. any_has line (coflow_of flows f) (and_parts (nat_lt 0 (left f)) (list_any (λ c. c == coflow_of flows f) line) (p.wanted f (to f has))).1);
      owed = λ f has. ltb-true 0 (left f) (and_parts (nat_lt 0 (left f)) (list_any (λ c. c == coflow_of flows f) line) (p.wanted f (to f has))).0;
      free = λ f has blocked. p.free f blocked.0 (to f has) (to blocked.0 blocked.1) (rank_before flows line blocked.0 f (omega (arith, low blocked.0 blocked.1)) blocked.2)
          blocked.3;
      rest = λ f lt in' some. rest_of flows line left f lt (grants_of flows line left) got from
          (p.rest f (sorted_has key numbers f (number_in 0 (length flows) f (omega arith) (omega arith)))
          (and_from (nat_lt 0 (left f)) (list_any (λ c. c == coflow_of flows f) line) (lt-ltb 0 (left f) some) (any_in line (coflow_of flows f) in')));
    }
