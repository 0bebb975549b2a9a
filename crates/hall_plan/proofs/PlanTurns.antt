-- The turns of a driver that is alone, up to the published order.
use Rattle.std.proofs.Common.{◌≡◌, ℕ, ◌+◌, ◌≤◌, ◌<◌, false, List, [], ◌∷◌, ◌++◌, length, map, refl, sym, ap, subst, ◌∙◌, arith, append-nil}
use Rattle.std.specs.Prelude.{if◌then◌else◌}
use Rattle.std.specs.List.{range_with_len}
use Rattle.std.proofs.lemmas.List.{length-append, length-map, map-append}
use Rattle.std.proofs.lemmas.List.FromFn.{length-range_with_len}
use Rattle.coflow_units.specs.declared.plan.Place.{Place}
use Rattle.coflow_units.proofs.Lists.{number_below}
use Rattle.coflow_units.proofs.Ranges.{range_append}
use Rattle.coflow_units.proofs.Sums.{any_not}
use Rattle.flow_table.specs.Table.{instance_of}
use Rattle.bssi_order.specs.Order.{IsOrder}
use Rattle.master_core.specs.Published.{ranked}
use Rattle.journal.specs.declared.command.Command.{Command}
use Rattle.journal.specs.declared.command.Command.TheVariants.{Publish, Register}
use Rattle.journal.specs.declared.command.Entry.{Entry}
use Rattle.journal.specs.declared.command.Reply.{Reply}
use Rattle.journal.specs.declared.command.Reply.TheVariants.{Already, Joined, Version}
use Rattle.journal.specs.declared.opening.Opening.{Opening}
use Rattle.journal.specs.Answer.{answer, room}
use Rattle.journal.specs.State.{has, State}
use Rattle.journal.specs.Fold.{start, state_of}
use Rattle.journal.specs.Journal.{entry, left_at, order_in}
use Rattle.journal.proofs.Between.{answered}
use Rattle.client_session.specs.declared.receipt.Answer.{Answer}
use Rattle.client_session.specs.declared.receipt.Answer.TheVariants.{Done, Full, Spent}
use Rattle.client_session.specs.declared.receipt.Receipt.{Receipt}
use Rattle.client_session.specs.Desk.{IsSeen}
use Rattle.client_session.specs.Drivers.{HandsOut, IsDrivenOn, IsDriverTurn, IsStopped, StaysInHall}
use Rattle.client_session.specs.Models.{DriverModel, HallModel}
use Rattle.slot_runner.specs.Models.{first_runner}
use Rattle.hall_plan.specs.Halls.{IsAlone, MayPlan}
use Rattle.hall_plan.specs.Journals.{beginning, joins, plan_order}
use Rattle.hall_plan.proofs.Begun.{after_joins, begun_is, joined_is, left_is_whole, order_is}
use Rattle.hall_plan.proofs.PlanEntries.{joining}

-- ---- one turn

pub added : (hall : HallModel) (k : Command) (old new : DriverModel) (journal : List Entry) (r : Receipt) → IsAlone hall old journal → StaysInHall old new →
    IsDrivenOn hall.setting.opening k old new r → IsAlone hall new (journal ++ entry 0 k r.reply ∷ [])
added hall k old new journal r h place on =
    let is : new.journal ≡ journal ++ entry 0 k r.reply ∷ [] = on.journal ∙ ap (λ l. l ++ entry 0 k r.reply ∷ []) (on.alone h.made ∙ h.journal_is) in
    record {
      driver_of = (place.gate ∙ h.driver_of.0, place.setting ∙ h.driver_of.1, (λ i. (place.rank i).table) ∙ h.driver_of.2);
      made = place.made ∙ h.made;
      journal_is = is;
      seen = subst (IsSeen hall.setting.opening) is on.seen;
      opening = h.opening;
      room = h.room;
      calls = omega (arith, h.calls, on.left, length-append journal (entry 0 k r.reply ∷ []));
    }

pub not_stopped : (hall : HallModel) (k : Command) (old new : DriverModel) (journal : List Entry) (count : ℕ) → IsAlone hall old journal →
    length journal < room hall.setting.opening k → IsStopped hall.setting.opening k old new count → ⊥
not_stopped hall k old new journal count h lt on =
    let is : new.journal ≡ journal = on.alone h.made ∙ h.journal_is in
    omega (arith, lt, on.limit, on.length_is, ap (λ (l : List Entry). length l) is)

-- the turn of a driver that is alone adds its entry, which is answered by what the journal tells
record IsAdded (hall : HallModel) (k : Command) (new : DriverModel) (journal : List Entry) (a : Answer) : Type 0 where
  pub receipt : Receipt
  pub is : a ≡ Done receipt
  pub alone : IsAlone hall new (journal ++ entry 0 k receipt.reply ∷ [])
  pub reply : receipt.reply ≡ answer hall.setting.opening (state_of hall.setting.opening journal) k

one_turn : (hall : HallModel) (k : Command) (old new : DriverModel) (journal : List Entry) (a : Answer) → IsAlone hall old journal →
    length journal < room hall.setting.opening k → 1 ≤ old.left → IsDriverTurn hall.setting.opening k 1 old new a → IsAdded hall k new journal a
one_turn hall k old new journal (Done r) h lt some turn =
    let next = added hall k old new journal r h turn.place (turn.done r refl) in
    record { receipt = r; is = refl; alone = next; reply = answered hall.setting.opening journal [] (entry 0 k r.reply) next.seen.legal }
one_turn hall k old new journal (Full count) h lt some turn = absurd (not_stopped hall k old new journal count h lt (turn.full count refl))
one_turn hall k old new journal Spent h lt some turn = absurd (omega (arith, (turn.spent refl).0, some))

-- ---- the coflows join

joins_length : (n : ℕ) → length (joins n) ≡ n
joins_length n = length-map (range_with_len 0 n) joining ∙ length-range_with_len 0 n

joins_more : (n : ℕ) → joins (n + 1) ≡ joins n ++ joining n ∷ []
joins_more n =
    let e : 0 + n ≡ n = omega arith in
    ap (map joining) (range_append 0 n 1) ∙ map-append joining (range_with_len 0 n) (range_with_len (0 + n) 1) ∙ ap (λ c. joins n ++ joining c ∷ []) e

joins_now : (o : Opening) (c : ℕ) → answer o (state_of o (joins c)) (Register c) ≡ Joined
joins_now o c =
    let fresh : has (range_with_len 0 c) c ≡ false = any_not (range_with_len 0 c) c (λ in'. absurd (omega (arith, number_below 0 c c in'))) in
    ap (λ (s : State). if has s.joined c then Already else Joined) (after_joins o (start o) 0 c) ∙ ap {B = Reply} (λ b. if b then Already else Joined) fresh

pub may_ask : (hall : HallModel) (old : DriverModel) (journal : List Entry) → IsAlone hall old journal → length journal ≤ length hall.setting.opening.table.ids → 1 ≤ old.left
may_ask hall old journal h short = omega (arith, h.calls, h.opening.table.few_coflows, short)

joins_one : (hall : HallModel) (old new : DriverModel) (c : ℕ) (a : Answer) → IsAlone hall old (joins c) → c < length hall.setting.opening.table.ids →
    IsDriverTurn hall.setting.opening (Register c) 1 old new a → IsAdded hall (Register c) new (joins c) a
joins_one hall old new c a h lt turn =
    one_turn hall (Register c) old new (joins c) a h (omega (arith, h.room, joins_length c, lt)) (may_ask hall old (joins c) h (omega (arith, joins_length c, lt))) turn

pub one_joined : (hall : HallModel) (old new : DriverModel) (c : ℕ) (a : Answer) → IsAlone hall old (joins c) → c < length hall.setting.opening.table.ids →
    IsDriverTurn hall.setting.opening (Register c) 1 old new a → IsAlone hall new (joins (c + 1))
one_joined hall old new c a h lt turn =
    let x = joins_one hall old new c a h lt turn in
    let reply : x.receipt.reply ≡ Joined = x.reply ∙ joins_now hall.setting.opening c in
    subst (IsAlone hall new) (ap (λ r. joins c ++ entry 0 (Register c) r ∷ []) reply ∙ sym (joins_more c)) x.alone

pub joins_done : (hall : HallModel) (old new : DriverModel) (c : ℕ) (a : Answer) → IsAlone hall old (joins c) → c < length hall.setting.opening.table.ids →
    IsDriverTurn hall.setting.opening (Register c) 1 old new a → (r : Receipt) × (a ≡ Done r)
joins_done hall old new c a h lt turn = let x = joins_one hall old new c a h lt turn in (x.receipt, x.is)

-- ---- the order is published

module _ (hall : HallModel) (old new : DriverModel) (a : Answer) (h : IsAlone hall old (joins (length hall.setting.opening.table.ids)))
    (turn : IsDriverTurn hall.setting.opening Publish 1 old new a) where
  abbrev o : Opening
  o = hall.setting.opening

  abbrev all : List Entry
  all = joins (length hall.setting.opening.table.ids)

  publishes : IsAdded hall Publish new all a
  publishes =
      let n = length hall.setting.opening.table.ids in
      one_turn hall Publish old new all a h (omega (arith, h.room, joins_length n)) (may_ask hall old all h (omega (arith, joins_length n))) turn

  reply_is : publishes.receipt.reply ≡ Version 1
  reply_is = publishes.reply ∙ ap (λ (s : State). answer o s Publish) (joined_is o)

  pub published : IsAlone hall new (beginning hall.setting.opening)
  published = subst (λ r. IsAlone hall new (all ++ entry 0 Publish r ∷ [])) reply_is publishes.alone

  pub published_done : (r : Receipt) × (a ≡ Done r)
  published_done = (publishes.receipt, publishes.is)

  module _ (before places : List Place) (out : HandsOut hall.setting.opening new.journal a before places) where
    pub places_are : IsOrder (instance_of hall.setting.opening.table hall.setting.opening.weights) places
    places_are = subst (λ i. IsOrder i places) (ap (left_at o) published.journal_is ∙ left_is_whole o h.opening) (out.places 1 (publishes.receipt, publishes.is, reply_is))

    pub order_of_places : ranked places ≡ plan_order hall.setting.opening
    order_of_places = out.order 1 (publishes.receipt, publishes.is, reply_is) ∙ ap (λ l. order_in o l 1) published.journal_is ∙ order_is o h.opening

-- ---- the runner of a driver that published

pub first_plan : (hall : HallModel) (driver : DriverModel) (ports : ℕ) → IsAlone hall driver (beginning hall.setting.opening) → ports ≡ hall.setting.opening.table.ports →
    MayPlan hall (first_runner driver ports) []
first_plan hall driver ports h is =
    let o = hall.setting.opening in
    record {
      may = record {
        driver = h.driver_of;
        ports = is;
        closed = ap (λ l. (state_of o l).run) h.journal_is ∙ ap (λ (s : State). s.run) (begun_is o);
        later = omega arith;
      };
      alone = subst (IsAlone hall driver) (sym (append-nil (beginning o))) h;
    }
