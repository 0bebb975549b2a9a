-- What a driver's publishing hands out.
use Rattle.std.proofs.Common.{◌≡◌, ℕ, true, false, List, [], ◌∷◌, ◌++◌, refl, sym, ap, ◌∙◌, subst, arith, Result, Ok, Err, true≢false}
use Rattle.std.specs.Prelude.{if◌then◌else◌}
use Rattle.coflow_units.specs.declared.plan.Place.{Place}
use Rattle.coflow_units.specs.Flows.{Instance}
use Rattle.bssi_order.specs.Order.{IsOrder}
use Rattle.journal.specs.declared.command.Command.TheVariants.{Publish}
use Rattle.journal.specs.declared.command.Entry.{Entry}
use Rattle.journal.specs.declared.command.Reply.{Reply}
use Rattle.journal.specs.declared.command.Reply.TheVariants.{Version}
use Rattle.journal.specs.declared.opening.Opening.{Opening}
use Rattle.journal.specs.State.{State, what_is_left}
use Rattle.journal.specs.Fold.{after as state_after, state_of}
use Rattle.journal.specs.Journal.{entry, is_version, left_at, LegalFrom, IsLegal, order_in, version_of}
use Rattle.journal.proofs.Growth.{state_snoc, version_append}
use Rattle.journal.proofs.Legal.{legal_rest}
use Rattle.journal.proofs.Versions.{version_is_next}
use Rattle.master_core.specs.Published.{ranked, TellsPlaces}
use Rattle.master_core.proofs.PublishTells.{last_is}
use Rattle.client_session.specs.declared.receipt.Answer.{Answer}
use Rattle.client_session.specs.Answers.{answer_of, makes_version}
use Rattle.client_session.specs.declared.receipt.Receipt.{Receipt}
use Rattle.client_session.specs.Desk.{AddsEntry, IsSeen}
use Rattle.client_session.specs.Drivers.{HandsOut}
use Rattle.client_session.proofs.Agreement.{not_version}
use Rattle.client_session.proofs.Turning.{done_in, is_done}

-- the places of the last publishing
places_of_last : (published : List Instance) (i : Instance) (places : List Place) → TellsPlaces (published ++ i ∷ []) places → IsOrder i places
places_of_last [] i places told = told
places_of_last (j ∷ js) i places told = subst (λ (z : Instance). IsOrder z places) (last_is j js i) told

module _ (o : Opening) (journal after : List Entry) (r : Receipt) (v : ℕ) (seen : IsSeen o after) (adds : AddsEntry journal after 0 Publish r) (is : r.reply ≡ Version v) where
  there : LegalFrom o journal (entry 0 Publish r.reply ∷ [])
  there = legal_rest o [] journal (entry 0 Publish r.reply ∷ []) (subst (IsLegal o) adds.journal seen.legal)

  newest : v ≡ version_of after
  newest =
      let next = version_is_next o journal Publish v (sym there.0 ∙ is) in
      let one : (if is_version r.reply then 1 else 0) ≡ 1 = ap {B = ℕ} (λ (x : Reply). if is_version x then 1 else 0) is in
      omega (arith, next, one, ap version_of adds.journal, version_append journal (entry 0 Publish r.reply ∷ []))

  left_there : (places : List Place) → TellsPlaces (state_of o after).published places → IsOrder (left_at o after) places
  left_there places told =
      let state : state_of o after ≡ state_after o (state_of o journal) Publish (Version v) =
      ap (state_of o) adds.journal ∙ (state_snoc o journal (entry 0 Publish r.reply) ∙ ap (state_after o (state_of o journal) Publish) is) in
      let order = places_of_last (state_of o journal).published (what_is_left o (state_of o journal)) places
      (subst (λ (s : State). TellsPlaces s.published places) state told) in
      subst (λ (s : State). IsOrder (what_is_left o s) places) (sym state) order

pub hands_out : (o : Opening) (journal after : List Entry) (result : Result Receipt ℕ) (old new : List Place) → IsSeen o after →
    ((r : Receipt) → result ≡ Ok r → AddsEntry journal after 0 Publish r) →
    (makes_version result ≡ true → (ranked new ≡ order_in o after (version_of after)) × TellsPlaces (state_of o after).published new) →
    (makes_version result ≡ false → new ≡ old) → HandsOut o after (answer_of result) old new
hands_out o journal after (Ok r) old new seen one told kept = record {
  order = λ v a.
      let is : r.reply ≡ Version v = ap (λ (x : Answer). (done_in r x).reply) a.1 ∙ a.2 in
      (told (ap is_version is)).0 ∙ ap (order_in o after) (sym (newest o journal after r v seen (one r refl) is));
  places = λ v a.
      let is : r.reply ≡ Version v = ap (λ (x : Answer). (done_in r x).reply) a.1 ∙ a.2 in
      left_there o journal after r v seen (one r refl) is new (told (ap is_version is)).1;
  kept = λ none. kept (not_version r.reply (λ v e. none v (r, refl, e)));
}
hands_out o journal after (Err n) old new seen one told kept = record {
  order = λ v a. absurd (true≢false (sym (ap is_done a.1)));
  places = λ v a. absurd (true≢false (sym (ap is_done a.1)));
  kept = λ none. kept refl;
}

-- where no turn was taken nothing is handed out
pub hands_nothing : (o : Opening) (journal : List Entry) (a : Answer) (places : List Place) → is_done a ≡ false → HandsOut o journal a places places
hands_nothing o journal a places never = record {
  order = λ v x. absurd (true≢false (sym (ap is_done x.1) ∙ never));
  places = λ v x. absurd (true≢false (sym (ap is_done x.1) ∙ never));
  kept = λ none. refl;
}
