-- What the driver's openings come to, and which answers never come.
use Rattle.std.proofs.Common.{◌≡◌, ℕ, ◌+◌, ◌<◌, ◌≤◌, inl, inr, Bool, true, false, true≢false, List, [], ◌∷◌, ◌++◌, length, refl, sym, ap, subst, ◌∙◌, arith, append-nil}
use Rattle.std.specs.Prelude.{All, not, nat_lt, ◌==◌, cond}
use Rattle.std.proofs.lemmas.Bool.{and_parts, not-true}
use Rattle.std.proofs.lemmas.List.Elements.{All-contains, All-head, All-tail, All-weaker, Contains-append_right}
use Rattle.coflow_units.proofs.Sums.{in_first}
use Rattle.journal.specs.declared.command.Command.{Command}
use Rattle.journal.specs.declared.command.Command.TheVariants.{Open}
use Rattle.journal.specs.declared.command.Entry.{Entry}
use Rattle.journal.specs.declared.command.Reply.{Reply}
use Rattle.journal.specs.declared.command.Reply.TheVariants.{Late, NothingLeft, Skipped}
use Rattle.journal.specs.declared.opening.Opening.{Opening}
use Rattle.journal.specs.Answer.{in_range}
use Rattle.journal.specs.Closed.{LeavesSlots}
use Rattle.journal.specs.Counts.{furthest_skip, is_noting, is_skipping, skipped_to}
use Rattle.journal.specs.Driven.{driver_entries, is_other}
use Rattle.journal.specs.Entries.{is_driving, TellsEntry}
use Rattle.journal.specs.Fold.{state_of}
use Rattle.journal.specs.Journal.{entry, IsLegal}
use Rattle.journal.specs.State.{IsOpening, State}
use Rattle.journal.proofs.Along.{all_front}
use Rattle.journal.proofs.Counting.{units_within}
use Rattle.journal.proofs.EntryTells.{entry_tells}
use Rattle.journal.proofs.Leaving.{leaves_push, others_leave, slots_both}
use Rattle.journal.proofs.Legal.{legal_fits, legal_front}
use Rattle.journal.proofs.NextSlots.{few_by_units}
use Rattle.client_session.specs.Desk.{DrivenByRoot, IsSeen}
use Rattle.client_session.specs.Drivers.{GrownByOthers}
use Rattle.client_session.specs.Models.{HallModel}
use Rattle.slot_runner.specs.Models.{RunnerModel}
use Rattle.slot_runner.specs.Slots.{IsAnswered}
use Rattle.slot_runner.proofs.Turns.{others_are_other}
use Rattle.live_model.specs.Rounds.{Spell}
use Rattle.live_rounds.specs.Drivers.{AreOpenings}
use Rattle.live_rounds.proofs.DriversTold.{others_open_none}
use Rattle.live_serving.proofs.ClosedTold.{from_splits}
use Rattle.live_serving.proofs.Counted.{openings_are_quiet, QuietEntry}
use Rattle.live_serving.specs.Driving.{MayDrive}

-- ---- no slot is skipped

abbrev SkipsNone : Entry → Type 0
SkipsNone e = skipped_to e.reply ≡ 1

skip_reply : (o : Opening) (s : State) (k : Command) (reply : Reply) → TellsEntry o s k reply → is_skipping k ≡ false → skipped_to reply ≡ 1
skip_reply o s k (Skipped slot) tells quiet = absurd (true≢false (sym (ap is_skipping tells.1) ∙ quiet))
skip_reply o s k reply tells quiet = refl

none_skipped : (es : List Entry) → All SkipsNone es → furthest_skip es ≡ 1
none_skipped [] all = refl
none_skipped (e ∷ es) all = omega (arith, All-head SkipsNone e es all, none_skipped es (All-tail SkipsNone e es all))

no_skips : (o : Opening) (journal : List Entry) → IsLegal o journal → All QuietEntry journal → furthest_skip journal ≡ 1
no_skips o journal legal quiet =
    none_skipped journal (from_splits SkipsNone [] journal (λ front more e is.
    let mine = All-contains QuietEntry (front ++ e ∷ more) e (subst (All QuietEntry) is quiet) (Contains-append_right front (e ∷ more) e (in_first e more)) in
    skip_reply o (state_of o front) e.command e.reply (entry_tells o front more e (subst (IsLegal o) is legal)) mine.1))

-- ---- no opening comes too late

pub seen_front : (o : Opening) (before more : List Entry) → IsSeen o (before ++ more) → IsSeen o before
seen_front o before more s = record {
  legal = legal_front o [] before more s.legal;
  in_range = all_front (λ (e : Entry). in_range o e.command ≡ true) before more s.in_range;
  driven = all_front (λ (e : Entry). is_driving e.command ≡ true → e.who ≡ 0) before more s.driven;
}

abbrev opens : Command → Bool
opens (Open most) = true
opens k = false

too_late : (o : Opening) (most slot : ℕ) (before : List Entry) (spells : List Spell) → IsOpening o → IsSeen o before → AreOpenings most before spells →
    IsLegal o (before ++ entry 0 (Open most) (Late slot) ∷ []) → ⊥
too_late o most slot before spells ok seen openings legal =
    let quiet = openings_are_quiet o most before spells seen openings in
    let few = few_by_units o before seen.legal seen.in_range (All-weaker QuietEntry (λ (e : Entry). is_noting e.command ≡ false) (λ e q. q.0) before quiet) in
    let within = units_within o before seen.legal seen.in_range in
    let first = no_skips o before seen.legal quiet in
    let tells = entry_tells o before [] (entry 0 (Open most) (Late slot)) legal in
    elim tells.1 [
      | inl (most', is, at, end, some) ↦ omega (arith, end, few, within, first, ok.table.few_units)
      | inr (is, low, none) ↦ absurd (true≢false (ap opens is))
    ]

module _ (o : Opening) (most : ℕ) (old new : RunnerModel) (reply : Reply) (x : IsAnswered o most old new reply) where
  abbrev met : List Entry
  met = x.turn.before

  pub answered : new.driver.journal ≡ met ++ entry 0 (Open most) reply ∷ []
  answered = x.turn.journal ∙ ap (λ r. met ++ entry 0 (Open most) r ∷ []) x.reply_is

  pub seen_met : IsSeen o met
  seen_met = seen_front o met (entry 0 (Open most) x.receipt.reply ∷ []) (subst (IsSeen o) x.turn.journal x.turn.seen)

pub never_late : (hall : HallModel) (most slot : ℕ) (old new : RunnerModel) → IsOpening hall.setting.opening → MayDrive hall most old →
    IsAnswered hall.setting.opening most old new (Late slot) → ⊥
never_late hall most slot old new ok h x =
    let o = hall.setting.opening in
    let before = x.turn.before in
    too_late o most slot before h.spells ok (seen_met o most old new (Late slot) x) (others_open_none most old.driver.journal before h.spells x.turn.others h.openings)
    (subst (IsLegal o) (answered o most old new (Late slot) x) x.turn.seen.legal)

-- ---- the driver has calls for a run

few_driven : (es : List Entry) → length (driver_entries es) ≤ length es
few_driven [] = omega arith
few_driven (e ∷ es) = go (e.who == 0) (few_driven es)
  where
    go : (b : Bool) → length (driver_entries es) ≤ length es → length (cond b (e ∷ driver_entries es) (driver_entries es)) ≤ length (e ∷ es)
    go true le = omega (arith, le)
    go false le = omega (arith, le)

pub never_spent : (hall : HallModel) (most : ℕ) (old : RunnerModel) → IsOpening hall.setting.opening → MayDrive hall most old → old.driver.left < old.ports + 2 → ⊥
never_spent hall most old ok h low =
    let o = hall.setting.opening in
    omega (arith, low, h.calls, few_driven old.driver.journal, legal_fits o old.driver.journal h.seen.legal, ok.few_entries, ok.table.few_ports, h.may.ports)

-- ---- what leaves the slots

pub others_leave_slots : (o : Opening) (before after : List Entry) → IsSeen o after → GrownByOthers before after → LeavesSlots o before after
others_leave_slots o before after seen (others, is, far) =
    let here = subst (IsSeen o) is seen in
    let other = others_are_other before others [] (subst DrivenByRoot (sym (append-nil (before ++ others))) here.driven) far in
    let quiet = All-weaker (λ (e : Entry). is_other e ≡ true) (λ (e : Entry). is_driving e.command ≡ false)
    (λ e is. not-true (is_driving e.command) (and_parts (nat_lt 0 e.who) (not (is_driving e.command)) is).1) others other in
    subst (LeavesSlots o before) (sym is) (others_leave o before others here.legal quiet).slots

pub nothing_leaves_slots : (o : Opening) (most : ℕ) (old new : RunnerModel) → IsAnswered o most old new NothingLeft → LeavesSlots o old.driver.journal new.driver.journal
nothing_leaves_slots o most old new x =
    let before = x.turn.before in
    let last = entry 0 (Open most) NothingLeft in
    subst (LeavesSlots o old.driver.journal) (sym (answered o most old new NothingLeft x))
    (slots_both o old.driver.journal before (before ++ last ∷ []) (others_leave_slots o old.driver.journal before (seen_met o most old new NothingLeft x) x.turn.others)
    (leaves_push o before last refl).slots)
