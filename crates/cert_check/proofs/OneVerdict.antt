-- A report has one verdict.
use Rattle.std.proofs.Common.{◌≡◌, ℕ, ◌+◌, ◌-◌, ◌≤◌, ◌<◌, ◌⊎◌, inl, inr, cond, List, length, map, take, refl, sym, ap, subst, ◌∙◌, arith, zero, suc}
use Rattle.std.specs.Prelude.{◌==◌, None, Option, Some, slice_index}
use Rattle.std.specs.List.{list_any}
use Rattle.std.proofs.lemmas.Bool.{cases_lt}
use Rattle.coflow_units.specs.declared.fabric.Flow.{Flow}
use Rattle.coflow_units.specs.declared.fabric.Port.{Port}
use Rattle.coflow_units.specs.declared.fabric.Side.{Side}
use Rattle.coflow_units.specs.declared.fabric.Side.TheVariants.{Egress, Ingress}
use Rattle.coflow_units.specs.Completion.{completion}
use Rattle.coflow_units.specs.Flows.{Instance, IsDistinct, units_of}
use Rattle.coflow_units.specs.Schedule.{times}
use Rattle.flow_table.specs.Table.{TableFacts, instance_of}
use Rattle.report_text.specs.declared.value.PlaceLine.{PlaceLine}
use Rattle.report_text.specs.declared.value.Report.{Report}
use Rattle.report_text.specs.Text.{place_at}
use Rattle.schedule_model.specs.Fault.{IsFirstClash, IsFirstMiscount, IsFirstNoFlow, IsNoLater, number_no_later}
use Rattle.schedule_model.specs.RunList.{slots_in}
use Rattle.cert_check.specs.declared.verdict.Reason.{Reason}
use Rattle.cert_check.specs.declared.verdict.Reason.TheVariants.{BoundTooHigh, ClashIn, CostWrong, DoneWrong, Infeasible, NoFlow, NotPermutation, PortRange, RatioBroken}
use Rattle.cert_check.specs.declared.verdict.Reason.TheVariants.{SlackWrong, UnitsOf, WeightWrong}
use Rattle.cert_check.specs.declared.verdict.Verdict.{Verdict}
use Rattle.cert_check.specs.declared.verdict.Verdict.TheVariants.{No, Yes}
use Rattle.cert_check.specs.Places.{IsFirstOutOfRange, IsFirstWrong, IsNew, IsNotNew, IsWrong, NamesEach, coflow_with, coflows_in, ends_in, ids_in}
use Rattle.cert_check.specs.Reasons.{IsFirstReason, IsVerdict, kind}
use Rattle.cert_check.specs.Stated.{IsLeastWrong, IsLeastWrongOfAny}
use Rattle.cert_check.proofs.IdSteps.{found}
use Rattle.cert_check.proofs.OneOfEach.{between, one_bad_port, one_clash, one_flow, one_miscount, one_wrong_place}
use Rattle.cert_check.proofs.NameSteps.{NamedSoFar, is_new, is_not_new, named_all, named_short}
use Rattle.cert_check.proofs.Verdicts.{refuses}

-- ---- either a place is the first wrong one, or all coflows are named

new_or_not : (ids stated : List ℕ) (k : ℕ) → IsNew ids stated k ⊎ IsNotNew ids stated k
new_or_not ids stated k = go (cond (list_any (λ x. x == slice_index stated k) (take k stated)) None (found ids (slice_index stated k))) refl
  where
    go : (o : Option ℕ) → o ≡ cond (list_any (λ x. x == slice_index stated k) (take k stated)) None (found ids (slice_index stated k)) → IsNew ids stated k ⊎ IsNotNew ids stated k
    go (Some coflow) e = inl (is_new ids stated k (Some coflow) coflow (list_any (λ x. x == slice_index stated k) (take k stated)) refl e refl).0
    go None e = inr (is_not_new ids stated k None (list_any (λ x. x == slice_index stated k) (take k stated)) refl e refl)

abbrev HasWrong : List ℕ → List ℕ → Type 0
HasWrong ids stated = (place : ℕ) × IsFirstWrong ids stated place

wrong_or_new : (ids stated : List ℕ) (k : ℕ) → k ≤ length stated → HasWrong ids stated ⊎ ((j : ℕ) → j < k → IsNew ids stated j)
wrong_or_new ids stated zero le = inr (λ j lt. absurd (omega arith))
wrong_or_new ids stated (suc k) le = elim (wrong_or_new ids stated k (omega arith)) [
  | inl wrong ↦ inl wrong
  | inr new ↦ elim (new_or_not ids stated k) [
    | inl here ↦ inr (λ j lt. elim (cases_lt j k) [
      | inl earlier ↦ new j earlier
      | inr upto ↦ let e : k ≡ j = omega arith in subst (λ n. IsNew ids stated n) e here
    ])
    | inr not_new ↦
        let at : k ≡ k + 1 - 1 = omega arith in
        let wrong : IsFirstWrong ids stated (k + 1) =
        record { counted = omega arith; wrong = subst (λ n. IsWrong ids stated n) at (inl (omega arith, not_new)); before = λ j lt. new j (omega arith) } in
        inl (k + 1, wrong)
  ]
]

wrong_or_named : (ids stated : List ℕ) → HasWrong ids stated ⊎ NamesEach (length ids) (map (coflow_with ids) stated)
wrong_or_named ids stated = elim (wrong_or_new ids stated (length stated) (omega arith)) [
  | inl wrong ↦ inl wrong
  | inr new ↦
      let k = length stated in
      let coflows = map (coflow_with ids) (take k stated) in
      let so_far : NamedSoFar ids stated k (λ id. cond (list_any (λ x. x == id) (take k stated)) None (found ids id)) coflows =
      record { inside = omega arith; coflows_are = refl; left_are = λ id. refl; new = new } in
      elim (cases_lt (length coflows) (length ids)) [
        | inl less ↦ inl (length coflows + 1, named_short ids stated k _ coflows (length coflows + 1) so_far (omega arith) less refl)
        | inr many ↦ inr (named_all ids stated k _ coflows so_far (omega arith) many).1
      ]
]

-- ---- one reason of each kind

no_lesser_wrong : (coflows stated : List ℕ) (real : ℕ → ℕ) (a b s s' x x' : ℕ) → IsLeastWrong coflows stated real a s x → IsLeastWrong coflows stated real b s' x' → a < b → ⊥
no_lesser_wrong coflows stated real a b s s' x x' wa wb lt =
    wa.differ (sym wa.says ∙ wb.least wa.place wa.inside (omega (arith, wa.of_coflow)) ∙ ap real wa.of_coflow ∙ wa.should)

same_place : (coflows : List ℕ) (j k : ℕ) → IsDistinct coflows → j < length coflows → k < length coflows → slice_index coflows j ≡ slice_index coflows k → j ≡ k
same_place coflows j k once lj lk e = between j k (λ lt. once j k 0 lt lk e) (λ lt. once k j 0 lt lj (sym e))

one_wrong : (coflows stated : List ℕ) (real : ℕ → ℕ) (a b s s' x x' : ℕ) → IsDistinct coflows → IsLeastWrong coflows stated real a s x → IsLeastWrong coflows stated real b s' x' →
    (a ≡ b) × (s ≡ s') × (x ≡ x')
one_wrong coflows stated real a b s s' x x' once wa wb =
    let e : a ≡ b = between a b (no_lesser_wrong coflows stated real a b s s' x x' wa wb) (no_lesser_wrong coflows stated real b a s' s x' x wb wa) in
    let place = same_place coflows wa.place wb.place once wa.inside wb.inside (wa.of_coflow ∙ e ∙ sym wb.of_coflow) in
    (e, sym wa.says ∙ ap (slice_index stated) place ∙ wb.says, sym wa.should ∙ ap real e ∙ wb.should)

one_wrong_of_any : (coflows : List ℕ) (stated : Option (List ℕ)) (real : ℕ → ℕ) (a b s s' x x' : ℕ) → IsDistinct coflows → IsLeastWrongOfAny coflows stated real a s x →
    IsLeastWrongOfAny coflows stated real b s' x' → (a ≡ b) × (s ≡ s') × (x ≡ x')
one_wrong_of_any coflows None real a b s s' x x' once wa wb = absurd wa
one_wrong_of_any coflows (Some stated) real a b s s' x x' once wa wb = one_wrong coflows stated real a b s s' x x' once wa wb

module _ (i : Instance) (ids : List ℕ) (r : Report) where
  -- with no wrong place, the coflows of the places differ
  apart_where_named : (reason : Reason) → 0 < kind reason → IsFirstReason i ids r reason → IsDistinct (coflows_in ids r.places)
  apart_where_named reason later first = elim (wrong_or_named ids (ids_in r.places)) [
    | inl (place, wrong) ↦ absurd (first.first (NotPermutation place) later wrong)
    | inr names ↦ names.once
  ]

  same_reason : (a b : Reason) → kind a ≡ kind b → IsFirstReason i ids r a → IsFirstReason i ids r b → a ≡ b
  same_reason (NotPermutation p) (NotPermutation q) e fa fb =
      ap NotPermutation (one_wrong_place ids (ids_in r.places) p q fa.holds fb.holds)
  same_reason (PortRange p m) (PortRange q n) e fa fb =
      let both = one_bad_port i.ports r.places p q m n fa.holds fb.holds in
      ap (λ k. PortRange k m) both.0 ∙ ap (PortRange q) both.1
  same_reason (WeightWrong c s x) (WeightWrong d t y) e fa fb =
      let both = one_wrong_of_any (coflows_in ids r.places) r.weights i.weight c d s t x y (apart_where_named (WeightWrong c s x) (omega arith) fa) fa.holds fb.holds in
      ap (λ n. WeightWrong n s x) both.0 ∙ ap (λ n. WeightWrong d n x) both.1 ∙ ap (WeightWrong d t) both.2
  same_reason (Infeasible c) (Infeasible d) e fa fb =
      ap Infeasible (between c d (λ lt. omega (arith, fa.holds.above, fb.holds.least c lt)) (λ lt. omega (arith, fb.holds.above, fa.holds.least d lt)))
  same_reason (BoundTooHigh s x) (BoundTooHigh t y) e fa fb = ap (λ n. BoundTooHigh n x) (fa.holds.0 ∙ sym fb.holds.0) ∙ ap (BoundTooHigh t) (fa.holds.1 ∙ sym fb.holds.1)
  same_reason (SlackWrong s x) (SlackWrong t y) e fa fb = ap (λ n. SlackWrong n x) (fa.holds.0 ∙ sym fb.holds.0) ∙ ap (SlackWrong t) (fa.holds.1 ∙ sym fb.holds.1)
  same_reason (NoFlow s f) (NoFlow t g) e fa fb =
      let both = one_flow i.flows (slots_in r.runs) s t f g fa.holds fb.holds in
      ap (λ n. NoFlow n f) both.0 ∙ ap (NoFlow t) both.1
  same_reason (ClashIn s p) (ClashIn t q) e fa fb =
      let both = one_clash i.flows (slots_in r.runs) s t p q fa.holds fb.holds in
      let side = ap (λ (x : Side). ClashIn t record { side = x; number = p.number }) both.1 in
      let number = ap (λ n. ClashIn t record { side = q.side; number = n }) both.2 in
      ap (λ n. ClashIn n p) both.0 ∙ side ∙ number
  same_reason (UnitsOf f h w) (UnitsOf g k v) e fa fb =
      let both = one_miscount i.flows (slots_in r.runs) f g h k w v fa.holds fb.holds in
      ap (λ n. UnitsOf n h w) both.0 ∙ ap (λ n. UnitsOf g n w) both.1 ∙ ap (UnitsOf g k) both.2
  same_reason (DoneWrong c s x) (DoneWrong d t y) e fa fb =
      let both = one_wrong (coflows_in ids r.places) (ends_in r.places) (completion i.flows (slots_in r.runs)) c d s t x y (apart_where_named (DoneWrong c s x) (omega arith) fa)
      fa.holds fb.holds in
      ap (λ n. DoneWrong n s x) both.0 ∙ ap (λ n. DoneWrong d n x) both.1 ∙ ap (DoneWrong d t) both.2
  same_reason (CostWrong s x) (CostWrong t y) e fa fb = ap (λ n. CostWrong n x) (fa.holds.0 ∙ sym fb.holds.0) ∙ ap (CostWrong t) (fa.holds.1 ∙ sym fb.holds.1)
  same_reason (RatioBroken c m) (RatioBroken d n) e fa fb = ap (λ k. RatioBroken k m) (fa.holds.0 ∙ sym fb.holds.0) ∙ ap (RatioBroken d) (fa.holds.1 ∙ sym fb.holds.1)
  same_reason _ _ e fa fb = absurd (omega arith)

  one_reason : (a b : Reason) → IsFirstReason i ids r a → IsFirstReason i ids r b → a ≡ b
  one_reason a b fa fb =
      let e : kind a ≡ kind b = between (kind a) (kind b) (λ lt. fb.first a lt fa.holds) (λ lt. fa.first b lt fb.holds) in
      same_reason a b e fa fb

pub one_verdict : (t : TableFacts) (weights : List ℕ) (r : Report) (a b : Verdict) → IsVerdict (instance_of t weights) t.ids r a → IsVerdict (instance_of t weights) t.ids r b →
    a ≡ b
one_verdict t weights r Yes Yes va vb = refl
one_verdict t weights r Yes (No reason) va vb = absurd (refuses t weights r va reason vb.holds)
one_verdict t weights r (No reason) Yes va vb = absurd (refuses t weights r vb reason va.holds)
one_verdict t weights r (No a) (No b) va vb = ap No (one_reason (instance_of t weights) t.ids r a b va vb)
