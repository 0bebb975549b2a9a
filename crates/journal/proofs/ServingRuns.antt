-- Which driven runs end a flow, and how they serve an order.
use Rattle.std.proofs.Common.{◌≡◌, ℕ, ◌+◌, ◌-◌, ◌<◌, ◌⊎◌, inl, inr, true, List, [], ◌∷◌, ◌++◌, Contains, get_or, length, min, refl, sym, ap, subst, ◌∙◌, arith, append_assoc, None}
use Rattle.std.specs.Prelude.{◌==◌, if◌then◌else◌}
use Rattle.coflow_units.specs.Flows.{ingress_of}
use Rattle.coflow_units.specs.Grants.{IsGrants, IsRunLength}
use Rattle.coflow_units.specs.Served.{IsServedSoFar, left_after}
use Rattle.coflow_units.proofs.ServedRuns.{run_goes_on, same_grants}
use Rattle.coflow_units.proofs.Sums.{any_in}
use Rattle.journal.specs.declared.command.Command.{Command}
use Rattle.journal.specs.declared.command.Command.TheVariants.{Open}
use Rattle.journal.specs.declared.command.Entry.{Entry}
use Rattle.journal.specs.declared.command.Reply.{Reply}
use Rattle.journal.specs.declared.command.Reply.TheVariants.{StillOpen, NothingLeft, Late, Opened}
use Rattle.journal.specs.declared.opening.Opening.{Opening}
use Rattle.journal.specs.State.{owed, slot_end, State}
use Rattle.journal.specs.Line.{owing}
use Rattle.journal.specs.Runs.{granted, slots_for}
use Rattle.journal.specs.Fold.{state_of}
use Rattle.journal.specs.Answer.{in_range, on_run, opened}
use Rattle.journal.specs.Journal.{entry, IsLegal, line_of}
use Rattle.journal.specs.Sound.{InRange}
use Rattle.journal.proofs.Legal.{legal_front}
use Rattle.journal.proofs.Opened.{run_length_is}
use Rattle.journal.proofs.Sound.{branch}
use Rattle.journal.specs.Closed.{schedule_of}
use Rattle.journal.specs.Driven.{closing, Drive, driven, GoesOnByRun, IsDriven, IsSentWhole, opened_in, opening}
use Rattle.journal.proofs.Between.{answered}
use Rattle.journal.proofs.Counting.{opened_grant}
use Rattle.journal.proofs.Driving.{driven_even, driven_goes_on, free, legal_open}
use Rattle.journal.proofs.Leaving.{others_leave}
use Rattle.journal.proofs.Along.{all_front}
use Rattle.journal.proofs.EntryTells.{entry_tells}
use Rattle.journal.proofs.ScheduleTimes.{times_is_sent}

-- ---- a driven run that was sent whole

abbrev most_of : Command → ℕ
most_of (Open most) = most
most_of k = 0

opening_tells : (o : Opening) (before after : List Entry) (d : Drive) → IsLegal o after → IsDriven o before after d →
    IsLegal o (opened_in before d ++ (opening d ∷ (d.between ++ closing d ∷ [])))
opening_tells o before after d legal h = legal_open o before (closing d ∷ []) d (subst (IsLegal o) h.goes_on legal)

-- what is owed in the journal in which the run is opened is what was owed before
sent_there : (o : Opening) (before after : List Entry) (d : Drive) → IsLegal o after → IsDriven o before after d → (f : ℕ) →
    (state_of o (opened_in before d)).sent f ≡ (state_of o before).sent f
sent_there o before after d legal h f =
    (others_leave o before d.earlier (legal_front o [] (opened_in before d) (opening d ∷ (d.between ++ closing d ∷ [])) (opening_tells o before after d legal h))
    (λ k e lt. free (get_or d.earlier k e) (h.under_way.earlier k e lt))).slots.sent f

-- a granted flow gets a unit in each slot
sent_whole : (o : Opening) (before after : List Entry) (d : Drive) (f : ℕ) → GoesOnByRun o before after d → IsSentWhole o before d → Contains (driven o before d) f →
    (state_of o after).sent f ≡ (state_of o before).sent f + d.slots
sent_whole o before after d f x whole in' =
    x.sent f ∙ ap (λ n. (state_of o before).sent f + n) (ap {B = ℕ} (λ b. if b then d.sent (ingress_of o.table.flows f) else 0) (any_in (driven o before d) f in') ∙ whole f in')

-- the run is as long as was asked, as the slots that are left allow, and as its flows owe
pub as_long : (o : Opening) (before after : List Entry) (d : Drive) → IsLegal o after → IsDriven o before after d →
    IsRunLength (owed o (state_of o (opened_in before d))) (driven o before d) (min d.most (slot_end - (state_of o (opened_in before d)).next)) d.slots
as_long o before after d legal h =
    let s = state_of o (opened_in before d) in
    let tells = entry_tells o (opened_in before d) (d.between ++ closing d ∷ []) (opening d) (opening_tells o before after d legal h) in
    let most : tells.0 ≡ d.most = ap most_of (sym tells.1) in
    subst (IsRunLength (owed o s) (driven o before d) (min d.most (slot_end - s.next))) (sym (tells.5 ∙ ap (slots_for o s) most)) (run_length_is o s d.most)

same_next : (o : Opening) (before after : List Entry) (d : Drive) → IsLegal o after → IsDriven o before after d → (state_of o (opened_in before d)).next ≡ d.first
same_next o before after d legal h = sym (entry_tells o (opened_in before d) (d.between ++ closing d ∷ []) (opening d) (opening_tells o before after d legal h)).4

-- a run that was sent whole had all the slots that were asked for and that were left, or it ended a flow
pub ends_a_flow : (o : Opening) (before after : List Entry) (d : Drive) → IsLegal o after → InRange o after → IsDriven o before after d → IsSentWhole o before d →
    (d.slots ≡ min d.most (slot_end - d.first)) ⊎ ((f : ℕ) × Contains (driven o before d) f × (0 < owed o (state_of o before) f) × (owed o (state_of o after) f ≡ 0))
ends_a_flow o before after d legal ok h whole =
    let x = driven_goes_on o before after d legal ok h in
    let length' = as_long o before after d legal h in
    elim length'.longest [
      | inl all ↦ inl (all ∙ ap (λ n. min d.most (slot_end - n)) (same_next o before after d legal h))
      | inr one ↦
          let (f, in', is) = one in
          let there = sent_there o before after d legal h f in
          inr (f, in', omega (arith, x.grants.owed f in', there), omega (arith, is, there, sent_whole o before after d f x whole in'))
    ]

-- ---- runs that serve an order

-- where the schedule serves an order so far, and the line is that order, it does so after a driven run that was sent whole
pub serves_on : (o : Opening) (before after : List Entry) (d : Drive) → IsLegal o after → InRange o after → IsDriven o before after d → IsSentWhole o before d →
    IsServedSoFar o.table.flows (line_of o (opened_in before d)) (schedule_of o before) → IsServedSoFar o.table.flows (line_of o (opened_in before d)) (schedule_of o after)
serves_on o before after d legal ok h whole served =
    let flows = o.table.flows in
    let j1 = opened_in before d in
    let gs = driven o before d in
    let x = driven_goes_on o before after d legal ok h in
    let legal1 = opening_tells o before after d legal h in
    let front = legal_front o [] before (d.earlier ++ (opening d ∷ (d.between ++ closing d ∷ [])))
    (subst (IsLegal o) (append_assoc before d.earlier (opening d ∷ (d.between ++ closing d ∷ []))) legal1) in
    let ok1 : InRange o before = all_front (λ (e : Entry). in_range o e.command ≡ true) before (d.earlier ++ (opening d ∷ (d.between ++ closing d ∷ [])))
    (subst (InRange o) (h.goes_on ∙ append_assoc (j1 ++ opening d ∷ []) d.between (closing d ∷ []) ∙ append_assoc j1 (opening d ∷ []) (d.between ++ closing d ∷ []) ∙
    append_assoc before d.earlier (opening d ∷ (d.between ++ closing d ∷ []))) ok) in
    let left = λ (f : ℕ). left_after flows (schedule_of o before) f in
    let same : (f : ℕ) → left f ≡ owed o (state_of o j1) f = λ f. omega (arith, times_is_sent o before f front ok1, sent_there o before after d legal h f) in
    let grants : IsGrants flows (line_of o j1) (left_after flows (schedule_of o before)) gs =
    same_grants flows (line_of o j1) (owed o (state_of o j1)) (left_after flows (schedule_of o before)) gs (λ f lt some. omega (arith, some, same f))
    (λ f lt some. omega (arith, some, same f)) x.grants in
    let tells = entry_tells o j1 (d.between ++ closing d ∷ []) (opening d) legal1 in
    let (f, in') = opened_grant o (state_of o j1) tells.3 in
    let length' = as_long o before after d legal h in
    subst (IsServedSoFar flows (line_of o j1)) (sym (x.schedule ∙ ap (λ l. schedule_of o before ++ l) (driven_even o before d whole)))
    (run_goes_on flows (line_of o j1) (schedule_of o before) gs d.slots f served grants in' (λ g has. omega (arith, length'.owed g has, same g)))
