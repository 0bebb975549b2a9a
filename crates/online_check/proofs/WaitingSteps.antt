-- Coflows that are served though they have not come.
use Rattle.std.proofs.Common.{◌≡◌, ℕ, ◌+◌, ◌-◌, ◌≤◌, ◌<◌, ◌⊎◌, inl, inr, true, false, List, [], ◌∷◌, ◌++◌}
use Rattle.std.proofs.Common.{length, get_or, take, replicate, Contains, refl, sym, ap, subst, ◌∙◌, arith}
use Rattle.std.specs.Prelude.{All, MatchOption, None, Option, Some, ◌==◌}
use Rattle.std.proofs.lemmas.Bool.{cases_Bool, cases_lt, eq-eqb, eqb-true, true≢false}
use Rattle.std.proofs.lemmas.List.{get_or-take, get_or_append_left, get_or_at, length-append, length-take, take_all, take-append-le}
use Rattle.std.proofs.lemmas.List.Elements.{All-append, All-replicate, All-take}
use Rattle.std.proofs.lemmas.List.Folds.{list_any_at}
use Rattle.std.proofs.Math.Seq.{take-append-add}
use Rattle.coflow_units.specs.declared.fabric.Flow.{Flow}
use Rattle.coflow_units.specs.Completion.{holds_coflow}
use Rattle.coflow_units.specs.Flows.{coflow_of}
use Rattle.coflow_units.proofs.Sums.{in_first, in_tail}
use Rattle.schedule_model.proofs.RepeatSteps.{in_earlier, in_here, in_more}
use Rattle.schedule_model.proofs.Standing.{which_slot}
use Rattle.online_check.specs.Early.{IsEarly, IsFirstEarly}
use Rattle.online_check.specs.Waiting.{HoldsWaiting}

-- a flow of the coflow among the numbers, and the test for it
pub held : (flows : List Flow) (c : ℕ) (slot : List ℕ) → holds_coflow flows slot c ≡ true → (f : ℕ) × Contains slot f × (coflow_of flows f ≡ c)
held flows c [] e = absurd (true≢false (sym e))
held flows c (f ∷ fs) e = elim (cases_Bool (coflow_of flows f == c)) [
  | inl t ↦ (f, in_first f fs, eqb-true (coflow_of flows f) c t)
  | inr n ↦
      let rest : holds_coflow flows fs c ≡ true = rw n at e in
      let (g, has, at) = held flows c fs rest in
      (g, in_tail f fs g has, at)
]

pub holds_it : (flows : List Flow) (c : ℕ) (slot : List ℕ) (f : ℕ) → Contains slot f → coflow_of flows f ≡ c → holds_coflow flows slot c ≡ true
holds_it flows c slot f (k, lt, at) e =
    list_any_at (λ g. coflow_of flows g == c) slot k f lt (eq-eqb (coflow_of flows (get_or slot k f)) c (ap (coflow_of flows) at ∙ e))

-- ---- the least coflow that waits, one number more

module _ (flows : List Flow) (arrival : ℕ → ℕ) (gone : ℕ) where
  abbrev pub LeastWaiting : List ℕ → ℕ → Option ℕ → Type 0
  LeastWaiting numbers count least = MatchOption least ((c : ℕ) → HoldsWaiting flows arrival gone numbers c → ⊥)
      (λ c. HoldsWaiting flows arrival gone numbers c × (c < count) × ((d : ℕ) → HoldsWaiting flows arrival gone numbers d → c ≤ d))

  waits_earlier : (numbers : List ℕ) (k c : ℕ) → k < length numbers → HoldsWaiting flows arrival gone (take k numbers) c → HoldsWaiting flows arrival gone (take (k + 1) numbers) c
  waits_earlier numbers k c lt w = record { flow = w.flow; has = in_earlier numbers k w.flow lt w.has; of_coflow = w.of_coflow; waits = w.waits }

  waits_split : (numbers : List ℕ) (k c : ℕ) → k < length numbers → HoldsWaiting flows arrival gone (take (k + 1) numbers) c →
      HoldsWaiting flows arrival gone (take k numbers) c ⊎ ((coflow_of flows (get_or numbers k 0) ≡ c) × (gone < arrival c))
  waits_split numbers k c lt w = elim (in_more numbers k w.flow lt w.has) [
    | inl before ↦ inl (record { flow = w.flow; has = before; of_coflow = w.of_coflow; waits = w.waits })
    | inr e ↦ inr (ap (coflow_of flows) e ∙ w.of_coflow, w.waits)
  ]

  -- the coflow of the number has come
  pub least_stays : (numbers : List ℕ) (k coflow count : ℕ) (least : Option ℕ) → k < length numbers → coflow ≡ coflow_of flows (get_or numbers k 0) → arrival coflow ≤ gone →
      LeastWaiting (take k numbers) count least → LeastWaiting (take (k + 1) numbers) count least
  least_stays numbers k coflow count None lt is come none = λ c w. elim (waits_split numbers k c lt w) [
    | inl before ↦ none c before
    | inr (e, waits) ↦ let same : coflow ≡ c = is ∙ e in omega (arith, ap arrival same)
  ]
  least_stays numbers k coflow count (Some b) lt is come (has, inside, least) = (
    waits_earlier numbers k b lt has,
    inside,
    (λ d w. elim (waits_split numbers k d lt w) [
      | inl before ↦ least d before
      | inr (e, waits) ↦ let same : coflow ≡ d = is ∙ e in absurd (omega (arith, ap arrival same))
    ]),
  )

  -- the coflow of the number waits
  pub least_falls : (numbers : List ℕ) (k coflow count m : ℕ) (least : Option ℕ) → k < length numbers → coflow ≡ coflow_of flows (get_or numbers k 0) → coflow < count →
      gone < arrival coflow → LeastWaiting (take k numbers) count least → m ≤ coflow → MatchOption least (m ≡ coflow) (λ b. (m ≤ b) × ((m ≡ b) ⊎ (m ≡ coflow))) →
      LeastWaiting (take (k + 1) numbers) count (Some m)
  least_falls numbers k coflow count m None lt is inside waits none le which =
      let here : HoldsWaiting flows arrival gone (take (k + 1) numbers) coflow =
      record { flow = get_or numbers k 0; has = in_here numbers k lt; of_coflow = sym is; waits = waits } in (
        subst (HoldsWaiting flows arrival gone (take (k + 1) numbers)) (sym which) here,
        omega arith,
        (λ d w. elim (waits_split numbers k d lt w) [
          | inl before ↦ absurd (none d before)
          | inr (e, late) ↦ omega (arith, is, e)
        ]),
      )
  least_falls numbers k coflow count m (Some b) lt is inside waits (has, within, least) le (low, which) =
      let here : HoldsWaiting flows arrival gone (take (k + 1) numbers) coflow =
      record { flow = get_or numbers k 0; has = in_here numbers k lt; of_coflow = sym is; waits = waits } in (
        elim which [
          | inl same ↦ subst (HoldsWaiting flows arrival gone (take (k + 1) numbers)) (sym same) (waits_earlier numbers k b lt has)
          | inr same ↦ subst (HoldsWaiting flows arrival gone (take (k + 1) numbers)) (sym same) here
        ],
        omega arith,
        (λ d w. elim (waits_split numbers k d lt w) [
          | inl before ↦ omega (arith, low, least d before)
          | inr (e, late) ↦ omega (arith, is, e, le)
        ]),
      )

-- ---- slots that hold nobody early

module _ (flows : List Flow) (arrival : ℕ → ℕ) where
  abbrev pub NoneEarly : List (List ℕ) → Type 0
  NoneEarly slots = (c : ℕ) → All (λ slot. holds_coflow flows slot c ≡ false) (take (arrival c) slots)

  pub no_early : (slots : List (List ℕ)) (t c : ℕ) → NoneEarly slots → IsEarly flows arrival slots t c → ⊥
  no_early slots t c none early =
      let inside : t - 1 < length (take (arrival c) slots) = omega (arith, length-take (arrival c) slots, early.counted, early.inside, early.by_arrival) in
      let free = none c (t - 1) [] inside in
      let same = get_or-take (arrival c) slots (t - 1) [] (omega (arith, early.counted, early.by_arrival)) in
      true≢false (sym early.has ∙ ap (λ slot. holds_coflow flows slot c) (sym same) ∙ free)

  early_before : (before rest : List (List ℕ)) (t c : ℕ) → IsEarly flows arrival (before ++ rest) t c → t ≤ length before → IsEarly flows arrival before t c
  early_before before rest t c early le = record {
    counted = early.counted;
    inside = le;
    by_arrival = early.by_arrival;
    has = ap (λ slot. holds_coflow flows slot c) (sym (get_or_append_left before rest [] (t - 1) (omega (arith, early.counted)))) ∙ early.has;
  }

  -- the first slot of a run is the first that holds a coflow early
  pub first_early_at : (before rest : List (List ℕ)) (h : List ℕ) (c count : ℕ) → NoneEarly before → LeastWaiting flows arrival (length before) h count (Some c) →
      IsFirstEarly flows arrival (before ++ (h ∷ rest)) (length before + 1) c
  first_early_at before rest h c count none (w, inside, least) =
      let place : length before ≡ length before + 1 - 1 = omega arith in
      let at : h ≡ get_or (before ++ (h ∷ rest)) (length before + 1 - 1) [] = sym (get_or_at before h rest [] (length before) refl) ∙
      ap (λ n. get_or (before ++ (h ∷ rest)) n []) place in
      record {
        early = record {
          counted = omega arith;
          inside = omega (arith, length-append before (h ∷ rest));
          by_arrival = omega (arith, w.waits);
          has = ap (λ slot. holds_coflow flows slot c) (sym at) ∙ holds_it flows c h w.flow w.has w.of_coflow;
        };
        first = λ t other early. elim (which_slot t (length before)) [
          | inl le ↦ absurd (no_early before t other none (early_before before (h ∷ rest) t other early le))
          | inr later ↦ elim later [
            | inl e ↦
                let here : get_or (before ++ (h ∷ rest)) (t - 1) [] ≡ h = ap (λ n. get_or (before ++ (h ∷ rest)) (n - 1) []) e ∙ sym at in
                let (f, has, of) = held flows other h (ap (λ slot. holds_coflow flows slot other) (sym here) ∙ early.has) in
                inr (sym e, least other (record { flow = f; has = has; of_coflow = of; waits = omega (arith, early.by_arrival, e) }))
            | inr lt ↦ inl lt
          ]
        ];
      }

  free_of : (h : List ℕ) (gone c count : ℕ) → LeastWaiting flows arrival gone h count None → gone < arrival c → holds_coflow flows h c ≡ false
  free_of h gone c count none waits = elim (cases_Bool (holds_coflow flows h c)) [
    | inl t ↦ let (f, has, of) = held flows c h t in absurd (none c (record { flow = f; has = has; of_coflow = of; waits = waits }))
    | inr n ↦ n
  ]

  -- a run that holds nobody early at its first slot holds nobody early
  pub none_more : (before : List (List ℕ)) (h : List ℕ) (n count : ℕ) → NoneEarly before → LeastWaiting flows arrival (length before) h count None →
      NoneEarly (before ++ replicate n h)
  none_more before h n count none free c = elim (cases_lt (length before) (arrival c)) [
    | inl lt ↦
        let split : length before + (arrival c - length before) ≡ arrival c = omega arith in
        let whole : take (arrival c) before ≡ before = take_all (arrival c) before (omega arith) in
        subst (λ (l : List (List ℕ)). All (λ slot. holds_coflow flows slot c ≡ false) l)
        (sym (ap (λ m. take m (before ++ replicate n h)) (sym split) ∙ take-append-add before (replicate n h) (arrival c - length before)))
        (All-append (λ slot. holds_coflow flows slot c ≡ false) before (take (arrival c - length before) (replicate n h))
        (subst (λ (l : List (List ℕ)). All (λ slot. holds_coflow flows slot c ≡ false) l) whole (none c))
        (All-take (λ slot. holds_coflow flows slot c ≡ false) (arrival c - length before) (replicate n h)
        (All-replicate (λ slot. holds_coflow flows slot c ≡ false) n h (free_of h (length before) c count free lt))))
    | inr le ↦ subst (λ (l : List (List ℕ)). All (λ slot. holds_coflow flows slot c ≡ false) l) (sym (take-append-le (arrival c) before (replicate n h) le)) (none c)
  ]
