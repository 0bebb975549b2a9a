-- An online run has one verdict.
use Rattle.std.proofs.Common.{◌≡◌, ℕ, ◌+◌, ◌-◌, ◌≤◌, ◌<◌, ◌⊎◌, inl, inr, List, refl, sym, ap, subst, ◌∙◌, arith}
use Rattle.std.specs.Prelude.{slice_index}
use Rattle.std.proofs.lemmas.Bool.{cases_lt}
use Rattle.std.proofs.lemmas.List.Elements.{All-contains}
use Rattle.coflow_units.specs.declared.fabric.Flow.{Flow}
use Rattle.coflow_units.specs.declared.fabric.Port.{Port}
use Rattle.coflow_units.specs.declared.fabric.Side.{Side}
use Rattle.coflow_units.specs.declared.fabric.Side.TheVariants.{Egress, Ingress}
use Rattle.coflow_units.specs.Certificate.{budget, used}
use Rattle.coflow_units.specs.Completion.{completion}
use Rattle.coflow_units.specs.Flows.{Instance, units_of}
use Rattle.coflow_units.specs.Schedule.{times}
use Rattle.cert_check.specs.Places.{IsFirstOutOfRange, IsFirstWrong, IsNew, IsNotNew, ids_in}
use Rattle.flow_table.specs.Table.{TableFacts, instance_of}
use Rattle.online_text.specs.declared.value.Online.{Online}
use Rattle.release_bound.specs.Release.{entries_of}
use Rattle.release_bound.specs.ReleaseTable.{IsLeastReleasedInfeasible, StaysAt}
use Rattle.release_bound.specs.declared.place.ReleasePlace.{ReleasePlace}
use Rattle.report_text.specs.declared.value.PlaceLine.{PlaceLine}
use Rattle.report_text.specs.Text.{place_at}
use Rattle.schedule_model.specs.Fault.{IsFirstClash, IsFirstMiscount, IsFirstNoFlow, IsNoLater, number_no_later}
use Rattle.schedule_model.specs.RunList.{slots_in}
use Rattle.online_check.specs.declared.verdict.OnlineReason.{OnlineReason}
use Rattle.online_check.specs.declared.verdict.OnlineReason.TheVariants.{ClashIn, CostWrong, DoneWrong, Early, Infeasible, Listed, NoFlow, NotPermutation, PortRange}
use Rattle.online_check.specs.declared.verdict.OnlineReason.TheVariants.{TotalTooHigh, UnitsOf}
use Rattle.online_check.specs.declared.verdict.OnlineVerdict.{OnlineVerdict}
use Rattle.online_check.specs.declared.verdict.OnlineVerdict.TheVariants.{No, Yes}
use Rattle.online_check.specs.Done.{IsFirstUnlisted, IsFirstWrongEnd, IsListed, ids_done, slots_done}
use Rattle.online_check.specs.Early.{IsFirstEarly}
use Rattle.online_check.specs.Reasons.{IsFirstOnlineReason, IsOnlineVerdict, online_kind}
use Rattle.online_check.specs.Released.{plain_lines, released_in}
use Rattle.cert_check.proofs.OneOfEach.{first_of_both, one_bad_port, one_clash, one_flow, one_miscount, one_wrong_place, only_one}
use Rattle.online_check.proofs.Verdicts.{yes_where_sound}

-- ---- one number of each kind

one_infeasible : (flows : List Flow) (weight : ℕ → ℕ) (places : List ReleasePlace) (a b : ℕ) → IsLeastReleasedInfeasible flows weight places a →
    IsLeastReleasedInfeasible flows weight places b → a ≡ b
one_infeasible flows weight places = only_one lesser where
  lesser : (a b : ℕ) → IsLeastReleasedInfeasible flows weight places a → IsLeastReleasedInfeasible flows weight places b → a < b → ⊥
  lesser a b ia ib less =
      let stays = All-contains (λ (r : ReleasePlace). r.coflow < b → StaysAt flows weight places r) places ia.place ib.least ia.stands (omega (arith, ia.coflow_is)) in
      let here = subst (λ c. used flows (entries_of places) c + ia.place.z ≤ budget weight c) ia.coflow_is stays in
      omega (arith, ia.above, here)

one_unlisted : (ids stated : List ℕ) (a b : ℕ) → IsFirstUnlisted ids stated a → IsFirstUnlisted ids stated b → a ≡ b
one_unlisted ids stated = only_one earlier where
  earlier : (a b : ℕ) → IsFirstUnlisted ids stated a → IsFirstUnlisted ids stated b → a < b → ⊥
  earlier a b ua ub less =
      let right : IsListed ids stated (a - 1) = ub.before (a - 1) (omega (arith, ua.counted)) in
      elim ua.wrong [
        | inl (coflow, line, differ) ↦ differ right.id_is
        | inr missing ↦ elim missing [
          | inl (coflow, past) ↦ omega (arith, right.line, past)
          | inr (past, line) ↦ omega (arith, right.coflow, past)
        ]
      ]

one_wrong_end : (stated : List ℕ) (real : ℕ → ℕ) (a b s t x y : ℕ) → IsFirstWrongEnd stated real a s x → IsFirstWrongEnd stated real b t y → (a ≡ b) × (s ≡ t) × (x ≡ y)
one_wrong_end stated real a b s t x y wa wb =
    let coflow : a ≡ b = only_one lesser a b (s, x, wa) (t, y, wb) in
    (coflow, sym wa.says ∙ ap (slice_index stated) coflow ∙ wb.says, sym wa.should ∙ ap real coflow ∙ wb.should)
  where
    lesser : (a b : ℕ) → (s x : ℕ) × IsFirstWrongEnd stated real a s x → (t y : ℕ) × IsFirstWrongEnd stated real b t y → a < b → ⊥
    lesser a b (s, x, wa) (t, y, wb) less = wa.differ (sym wa.says ∙ wb.least a less ∙ wa.should)

-- ---- one slot of each kind, and what is first in it

one_early : (flows : List Flow) (arrival : ℕ → ℕ) (slots : List (List ℕ)) (s t c d : ℕ) → IsFirstEarly flows arrival slots s c → IsFirstEarly flows arrival slots t d →
    (s ≡ t) × (c ≡ d)
one_early flows arrival slots s t c d a b =
    let both = first_of_both s t (c ≤ d) (d ≤ c) (a.first t d b.early) (b.first s c a.early) in
    (both.0, omega (arith, both.1, both.2))

-- ---- one reason, and one verdict

module _ (i : Instance) (arrival : ℕ → ℕ) (ids : List ℕ) (o : Online) where
  same_reason : (a b : OnlineReason) → online_kind a ≡ online_kind b → IsFirstOnlineReason i arrival ids o a → IsFirstOnlineReason i arrival ids o b → a ≡ b
  same_reason (NotPermutation p) (NotPermutation q) e fa fb = ap NotPermutation (one_wrong_place ids (ids_in (plain_lines o.release)) p q fa.holds fb.holds)
  same_reason (PortRange p m) (PortRange q n) e fa fb =
      let both = one_bad_port i.ports (plain_lines o.release) p q m n fa.holds fb.holds in
      ap (λ k. PortRange k m) both.0 ∙ ap (PortRange q) both.1
  same_reason (Infeasible c) (Infeasible d) e fa fb = ap Infeasible (one_infeasible i.flows i.weight (released_in ids o.release) c d fa.holds fb.holds)
  same_reason (TotalTooHigh s x) (TotalTooHigh t y) e fa fb = ap (λ n. TotalTooHigh n x) (fa.holds.0 ∙ sym fb.holds.0) ∙ ap (TotalTooHigh t) (fa.holds.1 ∙ sym fb.holds.1)
  same_reason (NoFlow s f) (NoFlow t g) e fa fb =
      let both = one_flow i.flows (slots_in o.runs) s t f g fa.holds fb.holds in
      ap (λ n. NoFlow n f) both.0 ∙ ap (NoFlow t) both.1
  same_reason (ClashIn s p) (ClashIn t q) e fa fb =
      let both = one_clash i.flows (slots_in o.runs) s t p q fa.holds fb.holds in
      let side = ap (λ (x : Side). ClashIn t record { side = x; number = p.number }) both.1 in
      let number = ap (λ n. ClashIn t record { side = q.side; number = n }) both.2 in
      ap (λ n. ClashIn n p) both.0 ∙ side ∙ number
  same_reason (UnitsOf f h v) (UnitsOf g k w) e fa fb =
      let all = one_miscount i.flows (slots_in o.runs) f g h k v w fa.holds fb.holds in
      ap (λ n. UnitsOf n h v) all.0 ∙ ap (λ n. UnitsOf g n v) all.1 ∙ ap (UnitsOf g k) all.2
  same_reason (Early s c) (Early t d) e fa fb =
      let both = one_early i.flows arrival (slots_in o.runs) s t c d fa.holds fb.holds in
      ap (λ n. Early n c) both.0 ∙ ap (Early t) both.1
  same_reason (Listed m) (Listed n) e fa fb = ap Listed (one_unlisted ids (ids_done o.done) m n fa.holds fb.holds)
  same_reason (DoneWrong c s x) (DoneWrong d t y) e fa fb =
      let all = one_wrong_end (slots_done o.done) (completion i.flows (slots_in o.runs)) c d s t x y fa.holds fb.holds in
      ap (λ n. DoneWrong n s x) all.0 ∙ ap (λ n. DoneWrong d n x) all.1 ∙ ap (DoneWrong d t) all.2
  same_reason (CostWrong s x) (CostWrong t y) e fa fb = ap (λ n. CostWrong n x) (fa.holds.0 ∙ sym fb.holds.0) ∙ ap (CostWrong t) (fa.holds.1 ∙ sym fb.holds.1)
  same_reason _ _ e fa fb = absurd (omega arith)

  one_reason : (a b : OnlineReason) → IsFirstOnlineReason i arrival ids o a → IsFirstOnlineReason i arrival ids o b → a ≡ b
  one_reason a b fa fb =
      let earlier = λ (x y : OnlineReason) (fx : IsFirstOnlineReason i arrival ids o x) (fy : IsFirstOnlineReason i arrival ids o y) (less : online_kind x < online_kind y).
      fy.first x less fx.holds in
      elim (cases_lt (online_kind a) (online_kind b)) [
        | inl less ↦ absurd (earlier a b fa fb less)
        | inr le ↦ elim (cases_lt (online_kind b) (online_kind a)) [
          | inl less ↦ absurd (earlier b a fb fa less)
          | inr ge ↦ same_reason a b (omega (arith, le, ge)) fa fb
        ]
      ]

module _ (t : TableFacts) (weights : List ℕ) (arrival : ℕ → ℕ) (o : Online) where
  abbrev Told : OnlineVerdict → Type 0
  Told verdict = IsOnlineVerdict (instance_of t weights) arrival t.ids o verdict

  right_or_not : (reason : OnlineReason) → Told Yes → Told (No reason) → ⊥
  right_or_not reason right told = let e : No reason ≡ Yes = (yes_where_sound t weights arrival o (No reason) told).1 right in cc

  pub one_online_verdict : (a b : OnlineVerdict) → Told a → Told b → a ≡ b
  one_online_verdict Yes Yes va vb = refl
  one_online_verdict Yes (No reason) va vb = absurd (right_or_not reason va vb)
  one_online_verdict (No reason) Yes va vb = absurd (right_or_not reason vb va)
  one_online_verdict (No a) (No b) va vb = ap No (one_reason (instance_of t weights) arrival t.ids o a b va vb)
