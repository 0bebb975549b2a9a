-- Ids that name coflows, one after another.
use Rattle.std.proofs.Common.{◌≡◌, ℕ, ◌+◌, ◌-◌, ◌≤◌, ◌<◌, inl, inr, Bool, true, false, cond, List, [], ◌∷◌, ◌++◌, length, get_or, take, nat_eq, refl, sym, ap, subst, ◌∙◌, arith}
use Rattle.std.proofs.Common.{Contains}
use Rattle.std.specs.Prelude.{◌==◌, ◌||◌, All, None, Option, Some, map, slice_index, unwrap_or}
use Rattle.std.specs.List.{list_any, position_or_len, range_with_len}
use Rattle.std.proofs.lemmas.Bool.{cases_Bool, cases_lt, false≢true}
use Rattle.std.proofs.lemmas.List.{get_or-map, get_or-take, get_or_default, length-map, length-take-le, map_push, take_all, take_more}
use Rattle.std.proofs.lemmas.List.Elements.{All-contains}
use Rattle.std.proofs.lemmas.List.FromFn.{length-range_with_len}
use Rattle.std.proofs.lemmas.List.Folds.{list_any-append}
use Rattle.coflow_units.specs.declared.fabric.Side.TheVariants.{Ingress}
use Rattle.coflow_units.specs.Flows.{IsDistinct}
use Rattle.coflow_units.proofs.LinePlaces.{at_place, place_of_member}
use Rattle.coflow_units.proofs.Lists.{number_in}
use Rattle.coflow_units.proofs.Sums.{Apart, any_has, any_in, apart_from_pairs, first_or_tail, members_at_most, sum_ones}
use Rattle.report_text.specs.declared.value.PlaceLine.{PlaceLine}
use Rattle.report_text.specs.Text.{place_at}
use Rattle.cert_check.specs.Places.{IsFirstWrong, IsNew, IsNotNew, IsWrong, NamesEach, coflow_with, ids_in}
use Rattle.cert_check.proofs.IdSteps.{found, found_at, found_not}

-- ---- ids and the coflows that they name

pub known_within : (ids : List ℕ) (id : ℕ) → Contains ids id → coflow_with ids id < length ids
known_within ids id has = place_of_member ids id has

pub within_known : (ids : List ℕ) (id : ℕ) → coflow_with ids id < length ids → Contains ids id
within_known ids id lt = (coflow_with ids id, lt, at_place ids id lt)

-- coflows that are one have one id
pub same_id : (ids : List ℕ) (a b : ℕ) → coflow_with ids a < length ids → coflow_with ids a ≡ coflow_with ids b → a ≡ b
same_id ids a b lt e =
    sym (at_place ids a lt) ∙ get_or_default ids (coflow_with ids a) a b lt ∙ ap (λ k. get_or ids k b) e ∙ at_place ids b (omega arith)

-- an id that is found, and one that is not
found_known : (ids : List ℕ) (id coflow : ℕ) → found ids id ≡ Some coflow → Contains ids id × (coflow_with ids id ≡ coflow)
found_known ids id coflow e = elim (cases_lt (position_or_len (λ x. x == id) ids) (length ids)) [
  | inl lt ↦
      let here : coflow_with ids id ≡ position_or_len (λ x. x == id) ids = ap (λ o. unwrap_or o (length ids)) (found_at ids id lt) in
      (within_known ids id (omega arith), ap (λ o. unwrap_or o (length ids)) e)
  | inr le ↦ let no : None ≡ Some coflow = sym (found_not ids id le) ∙ e in cc
]

not_found : (ids : List ℕ) (id : ℕ) → found ids id ≡ None → Contains ids id → ⊥
not_found ids id e has =
    let lt = known_within ids id has in
    let past : coflow_with ids id ≡ length ids = ap (λ o. unwrap_or o (length ids)) e in
    omega arith

-- ---- the ids of places

pub count_ids : (places : List PlaceLine) → length (ids_in places) ≡ length places
count_ids places = length-map places (λ (p : PlaceLine). p.id)

pub id_at : (places : List PlaceLine) (k : ℕ) → k < length places → (place_at places k).id ≡ slice_index (ids_in places) k
id_at places k lt =
    let nowhere : PlaceLine = record { id = 0; port = record { side = Ingress; number = 0 }; y = 0; done = 0 } in
    sym (get_or-map (λ (p : PlaceLine). p.id) places k nowhere 0 lt)

-- ---- the places so far

-- the coflows of the first k ids, and the ids that are left to be named with their coflows
pub record NamedSoFar (ids stated : List ℕ) (k : ℕ) (left : ℕ → Option ℕ) (coflows : List ℕ) : Type 0 where
  pub inside : k ≤ length stated
  pub coflows_are : coflows ≡ map (coflow_with ids) (take k stated)
  pub left_are : (id : ℕ) → left id ≡ cond (list_any (λ x. x == id) (take k stated)) None (found ids id)
  pub new : (j : ℕ) → j < k → IsNew ids stated j

pub named_none : (ids stated : List ℕ) (left : ℕ → Option ℕ) (coflows : List ℕ) → ((id : ℕ) → left id ≡ found ids id) → coflows ≡ [] → NamedSoFar ids stated 0 left coflows
named_none ids stated left coflows is none = record {
  inside = omega arith;
  coflows_are = none;
  left_are = is;
  new = λ j lt. absurd (omega arith);
}

pub named_count : (ids stated : List ℕ) (k : ℕ) (left : ℕ → Option ℕ) (coflows : List ℕ) → NamedSoFar ids stated k left coflows → length coflows ≡ k
named_count ids stated k left coflows so_far = ap (λ l. length l) so_far.coflows_are ∙ length-map (take k stated) (coflow_with ids) ∙ length-take-le k stated so_far.inside

-- the next id is new where it is left
pub is_new : (ids stated : List ℕ) (k : ℕ) (o : Option ℕ) (coflow : ℕ) (b : Bool) → list_any (λ x. x == slice_index stated k) (take k stated) ≡ b →
    o ≡ cond b None (found ids (slice_index stated k)) → o ≡ Some coflow →
    IsNew ids stated k × (coflow_with ids (slice_index stated k) ≡ coflow)
is_new ids stated k o coflow true e is some = let no : None ≡ Some coflow = sym is ∙ some in cc
is_new ids stated k o coflow false e is some =
    let (known, at) = found_known ids (slice_index stated k) coflow (sym is ∙ some) in
    (record { known = known; once = λ has. false≢true (sym e ∙ any_in (take k stated) (slice_index stated k) has) }, at)

pub is_not_new : (ids stated : List ℕ) (k : ℕ) (o : Option ℕ) (b : Bool) → list_any (λ x. x == slice_index stated k) (take k stated) ≡ b →
    o ≡ cond b None (found ids (slice_index stated k)) → o ≡ None → IsNotNew ids stated k
is_not_new ids stated k o true e is none = inr (any_has (take k stated) (slice_index stated k) e)
is_not_new ids stated k o false e is none = inl (not_found ids (slice_index stated k) (sym is ∙ none))

left_more : (ids stated : List ℕ) (k id : ℕ) (a b : Bool) (o : Option ℕ) → list_any (λ x. x == id) (take k stated) ≡ a → slice_index stated k == id ≡ b → k < length stated →
    o ≡ cond b None (cond a None (found ids id)) →
    o ≡ cond (list_any (λ x. x == id) (take (k + 1) stated)) None (found ids id)
left_more ids stated k id a b o before here lt is =
    is ∙ both a b ∙ ap {B = Option ℕ} (λ t. cond t None (found ids id)) (sym any)
  where
    plain : (a b : Bool) → (a || (b || false)) ≡ (a || b)
    plain true b = refl
    plain false true = refl
    plain false false = refl

    any : list_any (λ x. x == id) (take (k + 1) stated) ≡ (a || b)
    any =
        ap (list_any (λ x. x == id)) (take_more stated k 0 lt) ∙ list_any-append (λ x. x == id) (take k stated) (slice_index stated k ∷ [])
        ∙ ap (λ t. t || list_any (λ x. x == id) (slice_index stated k ∷ [])) before ∙ ap (λ t. a || (t || false)) here ∙ plain a b

    both : (a b : Bool) → cond b None (cond a None (found ids id)) ≡ cond (a || b) None (found ids id)
    both true true = refl
    both true false = refl
    both false true = refl
    both false false = refl

-- one place more
pub named_more : (ids stated : List ℕ) (k : ℕ) (left after : ℕ → Option ℕ) (coflows : List ℕ) (id coflow : ℕ) → NamedSoFar ids stated k left coflows → k < length stated →
    id ≡ slice_index stated k → left id ≡ Some coflow →
    ((q : ℕ) → after q ≡ cond (nat_eq id q) None (left q)) → NamedSoFar ids stated (k + 1) after (coflows ++ coflow ∷ [])
named_more ids stated k left after coflows id coflow so_far lt at some updates =
    let (here, named) = is_new ids stated k (left (slice_index stated k)) coflow (list_any (λ x. x == slice_index stated k) (take k stated)) refl
    (so_far.left_are (slice_index stated k)) (sym (ap left at) ∙ some) in
    record {
      inside = omega arith;
      coflows_are =
          ap (λ l. l ++ coflow ∷ []) so_far.coflows_are ∙ ap (λ n. map (coflow_with ids) (take k stated) ++ n ∷ []) (sym named)
          ∙ sym (ap (map (coflow_with ids)) (take_more stated k 0 lt) ∙ map_push (coflow_with ids) (take k stated) (slice_index stated k));
      left_are = λ q.
          left_more ids stated k q (list_any (λ x. x == q) (take k stated)) (slice_index stated k == q) (after q) refl refl lt
          (updates q ∙ ap {B = Option ℕ} (λ x. cond (nat_eq x q) None (left q)) at ∙ ap {B = Option ℕ} (λ o. cond (slice_index stated k == q) None o) (so_far.left_are q));
      new = λ j before. elim (cases_lt j k) [
        | inl earlier ↦ so_far.new j earlier
        | inr le ↦ let e : k ≡ j = omega arith in subst (λ n. IsNew ids stated n) e here
      ];
    }

-- a place that names no new coflow
pub named_wrong : (ids stated : List ℕ) (k : ℕ) (left : ℕ → Option ℕ) (coflows : List ℕ) (id place : ℕ) → NamedSoFar ids stated k left coflows → k < length stated →
    id ≡ slice_index stated k → left id ≡ None → place ≡ length coflows + 1 →
    IsFirstWrong ids stated place
named_wrong ids stated k left coflows id place so_far lt at none count =
    let next : place ≡ k + 1 = omega (arith, count, named_count ids stated k left coflows so_far) in
    let not_new = is_not_new ids stated k (left (slice_index stated k)) (list_any (λ x. x == slice_index stated k) (take k stated)) refl (so_far.left_are (slice_index stated k))
    (sym (ap left at) ∙ none) in
    let here : k ≡ place - 1 = omega arith in
    record {
      counted = omega arith;
      wrong = subst (λ n. IsWrong ids stated n) here (inl (lt, not_new));
      before = λ j before. so_far.new j (omega arith);
    }

-- the places end, and some coflow has none
pub named_short : (ids stated : List ℕ) (k : ℕ) (left : ℕ → Option ℕ) (coflows : List ℕ) (place : ℕ) → NamedSoFar ids stated k left coflows → length stated ≤ k →
    length coflows < length ids → place ≡ length coflows + 1 → IsFirstWrong ids stated place
named_short ids stated k left coflows place so_far all less count =
    let n = named_count ids stated k left coflows so_far in
    let next : place ≡ k + 1 = omega (arith, count, n) in
    let here : k ≡ place - 1 = omega arith in
    record {
      counted = omega arith;
      wrong = subst (λ m. IsWrong ids stated m) here (inr (omega (arith, so_far.inside), omega (arith, n)));
      before = λ j before. so_far.new j (omega arith);
    }

-- ---- new ids name different coflows

new_apart : (ids stated : List ℕ) (k : ℕ) → k ≤ length stated → ((j : ℕ) → j < k → IsNew ids stated j) → IsDistinct (map (coflow_with ids) (take k stated))
new_apart ids stated k inside new i j d lt in' =
    let count = length-take-le k stated inside in
    let below : j < k = omega (arith, in', length-map (take k stated) (coflow_with ids)) in
    let at_i : get_or (map (coflow_with ids) (take k stated)) i d ≡ coflow_with ids (slice_index stated i) = get_or-map (coflow_with ids) (take k stated) i 0 d (omega arith) ∙
    ap (coflow_with ids) (get_or-take k stated i 0 (omega arith)) in
    let at_j : get_or (map (coflow_with ids) (take k stated)) j d ≡ coflow_with ids (slice_index stated j) = get_or-map (coflow_with ids) (take k stated) j 0 d (omega arith) ∙
    ap (coflow_with ids) (get_or-take k stated j 0 below) in
    λ e.
    let id : slice_index stated i ≡ slice_index stated j =
    same_id ids (slice_index stated i) (slice_index stated j) (known_within ids (slice_index stated i) (new i (omega arith)).known) (sym at_i ∙ e ∙ at_j) in
    (new j below).once (
      i,
      omega (arith, length-take-le j stated (omega arith)),
      get_or-take j stated i (slice_index stated j) lt ∙
          get_or_default stated i (slice_index stated j) 0 (omega arith) ∙ id,
    )

new_within : (ids stated : List ℕ) (k : ℕ) → k ≤ length stated → ((j : ℕ) → j < k → IsNew ids stated j) → All (λ c. c < length ids) (map (coflow_with ids) (take k stated))
new_within ids stated k inside new j d lt =
    let below : j < k = omega (arith, lt, length-map (take k stated) (coflow_with ids), length-take-le k stated inside) in
    let at : get_or (map (coflow_with ids) (take k stated)) j d ≡ coflow_with ids (slice_index stated j) =
    get_or-map (coflow_with ids) (take k stated) j 0 d (omega (arith, length-take-le k stated inside)) ∙ ap (coflow_with ids) (get_or-take k stated j 0 below) in
    omega (arith, at, known_within ids (slice_index stated j) (new j below).known)

-- different numbers below n are at most n
pub at_most : (xs : List ℕ) (n : ℕ) → Apart xs → ((x : ℕ) → Contains xs x → x < n) → length xs ≤ n
at_most xs n apart below =
    omega (
      arith,
      members_at_most (λ (x : ℕ). 1) xs (range_with_len 0 n) apart (λ x has some. number_in 0 n x (omega arith) (omega (arith, below x has))),
      sum_ones xs,
      sum_ones (range_with_len 0 n),
      length-range_with_len 0 n,
    )

-- and n of them are all
pub all_of_them : (xs : List ℕ) (n c : ℕ) → Apart xs → ((x : ℕ) → Contains xs x → x < n) → n ≤ length xs → c < n → Contains xs c
all_of_them xs n c apart below many lt = elim (cases_Bool (list_any (λ x. x == c) xs)) [
  | inl has ↦ any_has xs c has
  | inr none ↦
      let longer = at_most (c ∷ xs) n ((λ has. false≢true (sym none ∙ any_in xs c has)), apart) (λ x has. elim (first_or_tail c xs x has) [
        | inl e ↦ omega arith
        | inr later ↦ below x later
      ]) in
      absurd (omega (arith, longer))
]

pub named_few : (ids stated : List ℕ) (k : ℕ) (left : ℕ → Option ℕ) (coflows : List ℕ) → NamedSoFar ids stated k left coflows → length coflows ≤ length ids
named_few ids stated k left coflows so_far =
    let named = map (coflow_with ids) (take k stated) in
    omega (
      arith,
      ap (λ l. length l) so_far.coflows_are,
      at_most named (length ids) (apart_from_pairs named (new_apart ids stated k so_far.inside so_far.new))
          (λ x has. All-contains (λ c. c < length ids) named x (new_within ids stated k so_far.inside so_far.new) has),
    )

-- all places name coflows, and all coflows have places
pub named_all : (ids stated : List ℕ) (k : ℕ) (left : ℕ → Option ℕ) (coflows : List ℕ) → NamedSoFar ids stated k left coflows → length stated ≤ k → length ids ≤ length coflows →
    (coflows ≡ map (coflow_with ids) stated) × NamesEach (length ids) (map (coflow_with ids) stated)
named_all ids stated k left coflows so_far whole many =
    let all : take k stated ≡ stated = take_all k stated whole in
    let once = subst (λ l. IsDistinct (map (coflow_with ids) l)) all (new_apart ids stated k so_far.inside so_far.new) in
    let within = subst (λ l. All (λ c. c < length ids) (map (coflow_with ids) l)) all (new_within ids stated k so_far.inside so_far.new) in
    let is = so_far.coflows_are ∙ ap (map (coflow_with ids)) all in
    let named = map (coflow_with ids) stated in (
      is,
      record {
        once = once;
        coflow = within;
        all = λ c lt. all_of_them named (length ids) c (apart_from_pairs named once) (λ x has. All-contains (λ c. c < length ids) named x within has)
            (omega (arith, ap (λ l. length l) is)) lt;
      },
    )
