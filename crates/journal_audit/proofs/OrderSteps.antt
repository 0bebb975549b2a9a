-- Orders beside one another, place by place and version by version.
use Rattle.std.proofs.Common.{◌≡◌, ◌≢◌, ℕ, ◌+◌, ◌-◌, ◌≤◌, ◌<◌, inl, inr, true, false, List, [], ◌∷◌, ◌++◌, get_or, length, map, min, sym, ap, ◌∙◌, subst, arith}
use Rattle.std.specs.Prelude.{MatchOption, None, Option, Some, is_some, slice_index}
use Rattle.std.specs.List.{slice_index_or}
use Rattle.std.proofs.lemmas.Bool.{cases_lt, false≢true}
use Rattle.std.proofs.lemmas.List.{ext_get_or, get_or-map, length-map}
use Rattle.std.proofs.lemmas.Option.{slice_get-get_or, slice_get_past}
use Rattle.coflow_units.specs.declared.plan.Place.{Place}
use Rattle.journal.specs.declared.command.Entry.{Entry}
use Rattle.journal.specs.declared.opening.Opening.{Opening}
use Rattle.journal.specs.Journal.{is_version, version_of}
use Rattle.journal.proofs.Growth.{order_kept, version_append}
use Rattle.master_core.specs.Published.{ranked}
use Rattle.journal_audit.proofs.EntriesAnew.{one_more}
use Rattle.journal_audit.specs.declared.orders.WrongOrder.{WrongOrder}
use Rattle.journal_audit.specs.Orders.{AreOrders, HasOrder, IsWrongOrder, order_ids}
use Rattle.journal_audit.specs.Parted.{IsFirstPlace}
use Rattle.journal_audit.proofs.Partings.{none_is_not_some, same_some}

-- ---- place by place

abbrev pub Same : List ℕ → List ℕ → ℕ → Type 0
Same a b n = (k : ℕ) → k < n → slice_index a k ≡ slice_index b k

pub place_apart : (a b : List ℕ) (k : ℕ) → k < length a → k < length b → Same a b k → slice_index a k ≢ slice_index b k → (a ≢ b) × IsFirstPlace a b (k + 1)
place_apart a b k in_a in_b same differ = (
  λ e. differ (ap (λ l. slice_index l k) e),
  record {
    counted = omega arith;
    in_stated = omega (arith, in_a);
    in_real = omega (arith, in_b);
    before = λ j lt. same j (omega (arith, lt));
    parted = λ s r. subst (λ i. slice_index a i ≢ slice_index b i) (omega arith) differ;
  },
)

pub place_ended : (a b : List ℕ) (k : ℕ) → k ≡ min (length a) (length b) → length a ≢ length b → Same a b k → (a ≢ b) × IsFirstPlace a b (k + 1)
place_ended a b k few differ same = (
  λ e. differ (ap length e),
  record {
    counted = omega arith;
    in_stated = omega (arith, few);
    in_real = omega (arith, few);
    before = λ j lt. same j (omega (arith, lt));
    parted = λ s r. absurd (omega (arith, few, differ, s, r));
  },
)

pub same_order : (a b : List ℕ) (k : ℕ) → k ≡ min (length a) (length b) → length a ≡ length b → Same a b k → a ≡ b
same_order a b k few lengths same = ext_get_or 0 a b lengths (λ i lt. same i (omega (arith, few, lengths, lt)))

-- the id at a place
pub id_at : (ids : List ℕ) (places : List Place) (k : ℕ) (d : Place) → k < length places →
    slice_index (map (λ coflow. slice_index ids coflow) (ranked places)) k ≡ slice_index ids (get_or places k d).coflow
id_at ids places k d lt =
    get_or-map (λ coflow. slice_index ids coflow) (ranked places) k 0 0 (omega (arith, lt, length-map places (λ (x : Place). x.coflow)))
    ∙ ap (λ c. slice_index ids c) (get_or-map (λ (x : Place). x.coflow) places k d 0 lt)

pub count_places : (ids : List ℕ) (places : List Place) → length (map (λ coflow. slice_index ids coflow) (ranked places)) ≡ length places
count_places ids places = length-map (ranked places) (λ coflow. slice_index ids coflow) ∙ length-map places (λ (x : Place). x.coflow)

-- ---- version by version

-- an order that is there
pub has_order : (o : Opening) (journal : List Entry) (orders : List (List ℕ)) (version : ℕ) → 1 ≤ version → version - 1 < length orders →
    slice_index_or orders (version - 1) [] ≡ order_ids o journal version → HasOrder o journal orders (version - 1)
has_order o journal orders version some within e =
    slice_get-get_or orders (version - 1) [] within ∙ ap Some (e ∙ ap (order_ids o journal) (omega (arith, some)))

pub has_no_order : (o : Opening) (journal : List Entry) (orders : List (List ℕ)) (version : ℕ) → 1 ≤ version → version - 1 < length orders →
    slice_index_or orders (version - 1) [] ≢ order_ids o journal version → HasOrder o journal orders (version - 1) → ⊥
has_no_order o journal orders version some within differ has =
    differ (same_some (slice_index_or orders (version - 1) []) (order_ids o journal version)
    (sym (slice_get-get_or orders (version - 1) [] within) ∙ has ∙ ap (λ v. Some (order_ids o journal v)) (omega (arith, some))))

pub lacks_order : (o : Opening) (journal : List Entry) (orders : List (List ℕ)) (k : ℕ) → length orders ≤ k → HasOrder o journal orders k → ⊥
lacks_order o journal orders k past has = none_is_not_some (order_ids o journal (k + 1)) (sym (slice_get_past orders k past) ∙ has)

-- an order that is not there begins otherwise at place 1
pub lacks_place : (a b : List ℕ) → a ≡ [] → IsFirstPlace a b 1
lacks_place a b e = record {
  counted = omega arith;
  in_stated = omega arith;
  in_real = omega arith;
  before = λ j lt. absurd (omega (arith, lt));
  parted = λ s r. absurd (omega (arith, s, ap length e));
}

-- what is found of the newest version
abbrev pub Newest : Opening → List Entry → List (List ℕ) → Option WrongOrder → ℕ → Type 0
Newest o journal orders found v =
    MatchOption found (HasOrder o journal orders (v - 1))
    (λ w. (w.version ≡ v) × (HasOrder o journal orders (v - 1) → ⊥) × IsFirstPlace (slice_index_or orders (v - 1) []) (order_ids o journal v) w.place)

-- a version has the order that it had
module _ (o : Opening) (before : List Entry) (e : Entry) (orders : List (List ℕ)) where
  order_stays : (v : ℕ) → v ≤ version_of before → order_ids o (before ++ e ∷ []) v ≡ order_ids o before v
  order_stays v le = ap (map (λ coflow. slice_index o.table.ids coflow)) (order_kept o before (e ∷ []) v le)

  stays : (k : ℕ) → k < version_of before → HasOrder o before orders k → HasOrder o (before ++ e ∷ []) orders k
  stays k lt has = has ∙ ap Some (sym (order_stays (k + 1) (omega (arith, lt))))

  stays_back : (k : ℕ) → k < version_of before → HasOrder o (before ++ e ∷ []) orders k → HasOrder o before orders k
  stays_back k lt has = has ∙ ap Some (order_stays (k + 1) (omega (arith, lt)))

  pub wrong_stays : (w : WrongOrder) → IsWrongOrder o before orders w → IsWrongOrder o (before ++ e ∷ []) orders w
  wrong_stays w h = record {
    counted = h.counted;
    made = omega (arith, h.made, version_append before (e ∷ []));
    before = λ k lt. stays k (omega (arith, lt, h.made)) (h.before k lt);
    wrong = λ has. h.wrong (stays_back (w.version - 1) (omega (arith, h.made, h.counted)) has);
    place_is = subst (λ real. IsFirstPlace (slice_index_or orders (w.version - 1) []) real w.place) (sym (order_stays w.version h.made)) h.place_is;
  }

  pub none_made : is_version e.reply ≡ false → ((k : ℕ) → k < version_of before → HasOrder o before orders k) →
      (k : ℕ) → k < version_of (before ++ e ∷ []) → HasOrder o (before ++ e ∷ []) orders k
  none_made is all k lt =
      let within : k < version_of before = omega (arith, lt, one_more before e false is) in
      stays k within (all k within)

  pub one_made : is_version e.reply ≡ true → ((k : ℕ) → k < version_of before → HasOrder o before orders k) →
      HasOrder o (before ++ e ∷ []) orders (version_of (before ++ e ∷ []) - 1) →
      (k : ℕ) → k < version_of (before ++ e ∷ []) → HasOrder o (before ++ e ∷ []) orders k
  one_made is all newest k lt = elim (cases_lt k (version_of before)) [
    | inl less ↦ stays k less (all k less)
    | inr le ↦
        let last : version_of (before ++ e ∷ []) - 1 ≡ k = omega (arith, lt, le, one_more before e true is) in
        subst (HasOrder o (before ++ e ∷ []) orders) last newest
  ]

  pub wrong_made : (w : WrongOrder) → is_version e.reply ≡ true → ((k : ℕ) → k < version_of before → HasOrder o before orders k) →
      w.version ≡ version_of (before ++ e ∷ []) → (HasOrder o (before ++ e ∷ []) orders (version_of (before ++ e ∷ []) - 1) → ⊥) →
      IsFirstPlace (slice_index_or orders (version_of (before ++ e ∷ []) - 1) []) (order_ids o (before ++ e ∷ []) (version_of (before ++ e ∷ []))) w.place →
      IsWrongOrder o (before ++ e ∷ []) orders w
  wrong_made w is all version wrong place = record {
    counted = omega (arith, version, one_more before e true is);
    made = omega (arith, version);
    before = λ k lt. let less : k < version_of before = omega (arith, lt, version, one_more before e true is) in stays k less (all k less);
    wrong = λ has. wrong (subst (λ v. HasOrder o (before ++ e ∷ []) orders (v - 1)) version has);
    place_is = subst (λ v. IsFirstPlace (slice_index_or orders (v - 1) []) (order_ids o (before ++ e ∷ []) v) w.place) (sym version) place;
  }

  -- whatever is found of the newest version
  pub newest_looked : (found : Option WrongOrder) → is_version e.reply ≡ true → ((k : ℕ) → k < version_of before → HasOrder o before orders k) →
      MatchOption found (HasOrder o (before ++ e ∷ []) orders (version_of (before ++ e ∷ []) - 1))
      (λ w. (w.version ≡ version_of (before ++ e ∷ [])) × (HasOrder o (before ++ e ∷ []) orders (version_of (before ++ e ∷ []) - 1) → ⊥)
      × IsFirstPlace (slice_index_or orders (version_of (before ++ e ∷ []) - 1) []) (order_ids o (before ++ e ∷ []) (version_of (before ++ e ∷ []))) w.place) →
      AreOrders o (before ++ e ∷ []) orders found
  newest_looked None is all newest = one_made is all newest
  newest_looked (Some w) is all (version, wrong, place) = wrong_made w is all version wrong place

  -- the same, by what was found before
  pub some_stays : (wrong : Option WrongOrder) → is_some wrong ≡ true → AreOrders o before orders wrong → AreOrders o (before ++ e ∷ []) orders wrong
  some_stays None is h = absurd (false≢true is)
  some_stays (Some w) is h = wrong_stays w h

  pub none_stays : (wrong : Option WrongOrder) → is_some wrong ≡ false → is_version e.reply ≡ false → AreOrders o before orders wrong →
      (k : ℕ) → k < version_of (before ++ e ∷ []) → HasOrder o (before ++ e ∷ []) orders k
  none_stays None none is h = none_made is h
  none_stays (Some w) none is h = absurd (false≢true (sym none))

  pub newest_found : (wrong found : Option WrongOrder) → is_some wrong ≡ false → is_version e.reply ≡ true → AreOrders o before orders wrong →
      MatchOption found (HasOrder o (before ++ e ∷ []) orders (version_of (before ++ e ∷ []) - 1))
      (λ w. (w.version ≡ version_of (before ++ e ∷ [])) × (HasOrder o (before ++ e ∷ []) orders (version_of (before ++ e ∷ []) - 1) → ⊥)
      × IsFirstPlace (slice_index_or orders (version_of (before ++ e ∷ []) - 1) []) (order_ids o (before ++ e ∷ []) (version_of (before ++ e ∷ []))) w.place) →
      AreOrders o (before ++ e ∷ []) orders found
  newest_found None found none is h newest = newest_looked found is h newest
  newest_found (Some w) found none is h newest = absurd (false≢true (sym none))
