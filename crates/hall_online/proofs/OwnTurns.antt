-- The turns of a driver that is alone: each adds its entry, which has the answer that the journal tells.
use Rattle.std.proofs.Common.{◌≡◌, ℕ, ◌+◌, ◌≤◌, ◌<◌, false, List, [], ◌∷◌, ◌++◌, length, refl, sym, ap, subst, ◌∙◌, arith, None}
use Rattle.coflow_units.specs.declared.plan.Place.{Place}
use Rattle.bssi_order.specs.Order.{IsOrder}
use Rattle.journal.specs.declared.command.Command.{Command}
use Rattle.journal.specs.declared.command.Command.TheVariants.{Publish, Skip}
use Rattle.journal.specs.declared.command.Entry.{Entry}
use Rattle.journal.specs.declared.command.Reply.TheVariants.{Skipped, StillOpen, Version}
use Rattle.journal.specs.declared.opening.Opening.{Opening}
use Rattle.journal.specs.Answer.{answer, on_run, room}
use Rattle.journal.specs.Entries.{is_driving}
use Rattle.journal.specs.Fold.{state_of}
use Rattle.journal.specs.Journal.{entry, IsLegal, left_at}
use Rattle.journal.specs.Line.{version}
use Rattle.journal.specs.State.{what_is_left}
use Rattle.journal.proofs.Between.{answered}
use Rattle.journal.proofs.EntryTells.{quiet}
use Rattle.journal.proofs.Along.{next_of}
use Rattle.journal.proofs.Growth.{state_snoc}
use Rattle.journal.proofs.Leaving.{leaves_push}
use Rattle.journal.proofs.MovingEntries.{by_skip}
use Rattle.client_session.specs.declared.receipt.Answer.{Answer}
use Rattle.client_session.specs.declared.receipt.Answer.TheVariants.{Done, Full, Spent}
use Rattle.client_session.specs.declared.receipt.Receipt.{Receipt}
use Rattle.client_session.specs.Drivers.{HandsOut, IsDriverTurn}
use Rattle.client_session.specs.Models.{DriverModel, HallModel}
use Rattle.slot_runner.specs.Models.{RunnerModel}
use Rattle.hall_plan.specs.Halls.{IsAlone}
use Rattle.hall_plan.proofs.PlanTurns.{added, not_stopped}
use Rattle.hall_online.specs.Halls.{HasAsked, IsReady}

-- ---- one turn

pub record IsTurn (hall : HallModel) (k : Command) (new : DriverModel) (journal : List Entry) (a : Answer) : Type 0 where
  pub receipt : Receipt
  pub is : a ≡ Done receipt
  pub alone : IsAlone hall new (journal ++ entry 0 k receipt.reply ∷ [])
  pub reply : receipt.reply ≡ answer hall.setting.opening (state_of hall.setting.opening journal) k

pub turn_taken : (hall : HallModel) (k : Command) (old new : DriverModel) (journal : List Entry) (a : Answer) → IsAlone hall old journal → length journal < room
    hall.setting.opening k →
    1 ≤ old.left → IsDriverTurn hall.setting.opening k 1 old new a → IsTurn hall k new journal a
turn_taken hall k old new journal (Done r) h lt some turn =
    let next = added hall k old new journal r h turn.place (turn.done r refl) in
    record { receipt = r; is = refl; alone = next; reply = answered hall.setting.opening journal [] (entry 0 k r.reply) next.seen.legal }
turn_taken hall k old new journal (Full count) h lt some turn = absurd (not_stopped hall k old new journal count h lt (turn.full count refl))
turn_taken hall k old new journal Spent h lt some turn = absurd (omega (arith, (turn.spent refl).0, some))

-- ---- the turn of a runner's driver

pub has_calls : (hall : HallModel) (old : RunnerModel) → IsReady hall old → length old.driver.journal < hall.setting.opening.limit → 1 ≤ old.driver.left
has_calls hall old h lt = omega (arith, h.alone.calls, lt, h.alone.opening.few_entries)

module _ (hall : HallModel) (old : RunnerModel) (w : DriverModel) (k : Command) (a : Answer) (h : IsReady hall old)
    (has_room : length old.driver.journal < hall.setting.opening.limit)
    (room_is : room hall.setting.opening k ≡ hall.setting.opening.limit) (turn : IsDriverTurn hall.setting.opening k 1 old.driver w a) where
  abbrev o : Opening
  o = hall.setting.opening

  abbrev j : List Entry
  j = old.driver.journal

  taken : IsTurn hall k w j a
  taken = turn_taken hall k old.driver w j a h.alone (omega (arith, has_room, room_is)) (has_calls hall old h has_room) turn

  pub is_done : (r : Receipt) × (a ≡ Done r)
  is_done = (taken.receipt, taken.is)

  pub asked_so : HasAsked o k old (record old { driver = w })
  asked_so = taken.alone.journal_is ∙ ap (λ r. j ++ entry 0 k r ∷ []) taken.reply

  alone_now : IsAlone hall w w.journal
  alone_now = subst (IsAlone hall w) (sym taken.alone.journal_is) taken.alone

  legal_now : IsLegal o (j ++ entry 0 k taken.receipt.reply ∷ [])
  legal_now = taken.alone.seen.legal

  ready_so : ((state_of o (j ++ entry 0 k taken.receipt.reply ∷ [])).run ≡ None) → ((state_of o j).next ≤ (state_of o (j ++ entry 0 k taken.receipt.reply ∷ [])).next) →
      IsReady hall (record old { driver = w })
  ready_so none later = record {
    alone = alone_now;
    may = record {
      driver = alone_now.driver_of;
      ports = h.may.ports;
      closed = ap (λ l. (state_of o l).run) taken.alone.journal_is ∙ none;
      later = omega (arith, h.may.later, later, ap (λ l. (state_of o l).next) taken.alone.journal_is);
    };
  }

  -- a turn that drives no run
  pub ready_quiet : is_driving k ≡ false → IsReady hall (record old { driver = w })
  ready_quiet still =
      let e = entry 0 k taken.receipt.reply in
      let leaves = leaves_push o j e (quiet o (state_of o j) k taken.receipt.reply (next_of o j [] e legal_now).tells still) in
      ready_so (leaves.run ∙ h.may.closed) (omega (arith, leaves.slots.next))

pub ready_skipped : (hall : HallModel) (old : RunnerModel) (w : DriverModel) (to : ℕ) (a : Answer) (h : IsReady hall old)
    (has_room : length old.driver.journal < hall.setting.opening.limit) →
    (turn : IsDriverTurn hall.setting.opening (Skip to) 1 old.driver w a) → answer hall.setting.opening (state_of hall.setting.opening old.driver.journal) (Skip to) ≡ Skipped to →
    IsReady hall (record old { driver = w })
ready_skipped hall old w to a h has_room turn idle =
    let o = hall.setting.opening in
    let j = old.driver.journal in
    let t = taken hall old w (Skip to) a h has_room refl turn in
    let e = entry 0 (Skip to) t.receipt.reply in
    let goes = by_skip o j e to t.alone.seen.legal h.alone.seen.in_range (t.reply ∙ idle) in
    ready_so hall old w (Skip to) a h has_room refl turn goes.run_after (omega (arith, goes.next, goes.later))

-- ---- a publishing

pub places_out : (hall : HallModel) (old : RunnerModel) (w : DriverModel) (a : Answer) (h : IsReady hall old) (has_room : length old.driver.journal < hall.setting.opening.limit) →
    (turn : IsDriverTurn hall.setting.opening Publish 1 old.driver w a) → (before places : List Place) → HandsOut hall.setting.opening w.journal a before places →
    IsOrder (left_at hall.setting.opening old.driver.journal) places
places_out hall old w a h has_room turn before places out =
    let o = hall.setting.opening in
    let j = old.driver.journal in
    let t = taken hall old w Publish a h has_room refl turn in
    let v = version (state_of o j) + 1 in
    let reply : t.receipt.reply ≡ Version v = t.reply ∙ ap (λ x. on_run x (λ r. StillOpen r.first) (Version v)) h.may.closed in
    let same : left_at o w.journal ≡ left_at o j =
    ap (left_at o) t.alone.journal_is ∙ ap (λ r. left_at o (j ++ entry 0 Publish r ∷ [])) reply ∙ ap (what_is_left o) (state_snoc o j (entry 0 Publish (Version v))) in
    subst (λ i. IsOrder i places) same (out.places v (t.receipt, t.is, reply))
