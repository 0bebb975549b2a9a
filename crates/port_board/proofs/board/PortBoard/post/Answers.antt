use Rattle.std.proofs.Common.{rules, ◌≡◌, ℕ, ◌+◌, ◌<◌, [], ◌∷◌, ◌++◌, ◌∙◌, sym, ap, refl, subst, set, arith, length, true, false}
use Rattle.port_board.specs.declared.view.View.{View}
use Rattle.port_board.specs.declared.view.Step.TheVariants.{Counted}
use Rattle.port_board.specs.declared.view.Grant.{Grant}
use Rattle.coflow_units.specs.PortWord.{FitsWord, slot_of, flow_of}
use Rattle.coflow_units.specs.PortWord.PortStage.{granted}
use Rattle.port_board.specs.Tells.{counted}
use Rattle.port_board.specs.Views.{IsHeld, is_unsettled, last_slot, posted_too, grant}
use Rattle.coflow_units.proofs.PortWords.{slot_of-granted, flow_of-granted}
use Rattle.port_board.proofs.AgentSteps.{M}
use Rattle.port_board.proofs.PostSteps.{measuring, posting, posting_again}
use Rattle.port_board.proofs.Posting.{PosterFits, after_post, carry_poster, port_in, number_held}
use Rattle.port_board.proofs.board.PortBoard.post.Goals.{After-index-held, After-store-else-held-length-2}
use Rattle.port_board.proofs.board.PortBoard.post.Goals as goal

-- the poster keeps a flag of the port
in_reach : (c : After-index-held) → c.args.port < length c.poster.inside.posted.items
in_reach c =
    let table = ap (λ u. u.at) c.poster.view_is ∙ (c.requires.own ∙ sym (ap (λ u. u.id) c.self.view_is)) in
    port_in c.args.port (length c.poster.inside.posted.items) c.self.inside.ports c.poster.inside.place.table_id c.self.inside.table.table_id (search rules)
    c.poster.invariant.4 table c.self.invariant.0

-- where the number that it keeps is the length, its last post there was settled by this number
held : (c : After-index-held) → c.index-held.result.now ≡ c.args.length → IsHeld c.args.port c.args.length c.poster.inside.place.me.0
held c same = number_held c.poster.inside.agents c.poster.inside.posted.items c.poster.inside.counts.items _ c.poster.inside.place.me c.args.port _ c.args.length
    c.poster.invariant (in_reach c) c.index-held.ensures same c.requires.length.0

above : (c : After-index-held) → last_slot c.args.port c.poster.inside.place.me.0.posts < c.args.slot
above c = subst (λ (v : View). last_slot c.args.port v.posts < c.args.slot) (sym (ap (λ u. u.view) c.poster.view_is)) c.requires.slot.0

fits : (c : After-index-held) → FitsWord c.args.slot c.args.flow
fits c = (omega (arith, c.requires.slot.1), c.requires.flow)

-- the grant that the stored word shows is the one of the call
shown : (c : After-index-held) →
    grant c.args.port (slot_of c.bits-word.result) (flow_of c.bits-word.result) c.args.length ≡ grant c.args.port c.args.slot c.args.flow c.args.length
shown c =
    let is = c.bits-word.ensures.word granted refl in
    let slot_is = ap slot_of is ∙ slot_of-granted c.args.slot c.args.flow (fits c) in
    let flow_is = ap flow_of is ∙ flow_of-granted c.args.slot c.args.flow (fits c) in
    λ i. grant c.args.port (slot_is i) (flow_is i) c.args.length

-- what the poster keeps after the post
kept : (c : After-index-held) → let g : Grant = grant c.args.port (slot_of c.bits-word.result) (flow_of c.bits-word.result) c.args.length in
    is_unsettled c.args.port (c.poster.inside.place.me.0.posts ++ g ∷ []) c.poster.inside.place.me.0.settled ≡ true
    → PosterFits c.poster.inside.agents (set c.poster.inside.posted.items c.args.port true) (set c.poster.inside.counts.items c.args.port 0)
    c.poster.inside.place.table_id.words (posted_too g c.poster.inside.place.me.0, c.poster.inside.place.me.1)
kept c new =
    after_post c.poster.inside.agents c.poster.inside.posted.items c.poster.inside.counts.items _ c.poster.inside.place.me c.args.port _ c.poster.invariant refl (in_reach c) new

-- the length and the word were stored one after the other
stored : (c : After-store-else-held-length-2) → c.store-else-held-length-2.new.seat.me ≡
    (posted_too (grant c.args.port (slot_of c.bits-word.result) (flow_of c.bits-word.result) c.args.length) c.poster.inside.place.me.0, c.poster.inside.place.me.1)
stored c =
    let word : ℕ = c.bits-word.result in
    c.store-else-held-length-2.ensures.told.0
    ∙ ap (λ (m : M). (posted_too (grant c.args.port (slot_of word) (flow_of word) (counted m.0.step)) m.0, m.1)) c.store-else-held-length.ensures.told

pub store-requires-clause-allowed : goal.store-requires-clause-allowed
store-requires-clause-allowed c =
    let b = (goal.at.store-requires-clause-allowed c).After-index-held in
    posting_again _ _ _ _ _ _ _ c.args.flow c.args.length c.poster.invariant.2 c.poster.invariant.1 (search rules) (above b) (fits b) c.requires.length.0 c.requires.length.1
    (c.bits-word.ensures.word granted refl) (held b c.if-held-length.true)

pub store-requires-clause-leaves : goal.store-requires-clause-leaves
store-requires-clause-leaves c after told =
    ap (λ (m : M). m.0.looks) (told c.args.length (held (goal.at.store-requires-clause-leaves c).After-index-held c.if-held-length.true)).0

pub store-requires-else-held-length-clause-allowed : goal.store-requires-else-held-length-clause-allowed
store-requires-else-held-length-clause-allowed c =
    let view = ap (λ u. u.view) c.poster.view_is in
    let table = ap (λ u. u.at) c.poster.view_is ∙ (c.requires.own ∙ sym (ap (λ u. u.id) c.self.view_is)) in
    let free = subst (λ (v : View). is_unsettled c.args.port v.posts v.settled ≡ false) (sym view) c.requires.settled in
    measuring _ _ _ _ _ _ _ c.poster.invariant.2 c.poster.invariant.1 free (search rules) (search rules)

pub store-requires-else-held-length-2-clause-allowed : goal.store-requires-else-held-length-2-clause-allowed
store-requires-else-held-length-2-clause-allowed c =
    let b = (goal.at.store-requires-else-held-length-2-clause-allowed c).After-index-held in
    let e = c.store-else-held-length.ensures.told in
    let at = c.count_place-count.ensures ∙ ap (λ z. z + c.args.port) (sym c.self.invariant.1) in
    posting _ _ _ _ _ _ _ c.args.flow c.args.length (ap (λ (m : M). m.0.kind) e ∙ c.poster.invariant.2) (ap (λ (m : M). m.0.step) e ∙ ap (λ z. Counted z c.args.length) at)
    (search rules) (subst (λ (m : M). last_slot c.args.port m.0.posts < c.args.slot) (sym e) (above b)) (fits b) c.requires.length.0 c.requires.length.1
    (c.bits-word.ensures.word granted refl)

pub invariant_of-poster : goal.invariant_of-poster
invariant_of-poster c =
    let b = (goal.at.invariant_of-poster c).After-index-held in
    let told = c.store.ensures.told c.args.length (held b c.if-held-length.true) in
    carry_poster _ _ _ _ _ _ _ c.store.ensures.own.0 told.0 (kept b (subst (λ (m : M). is_unsettled c.args.port m.0.posts m.0.settled ≡ true) told.0 told.1))

pub invariant_of-poster-else-held-length : goal.invariant_of-poster-else-held-length
invariant_of-poster-else-held-length c =
    let b = (goal.at.invariant_of-poster-else-held-length c).After-index-held in
    let new = subst (λ (m : M). is_unsettled c.args.port m.0.posts m.0.settled ≡ true) (stored c) c.store-else-held-length-2.ensures.told.1 in
    carry_poster _ _ _ _ _ _ _ (c.store-else-held-length-2.ensures.own.0 ∙ c.store-else-held-length.ensures.own.0) (stored c) (kept b new)

pub returns-then-held-length-clause-post : goal.returns-then-held-length-clause-post
returns-then-held-length-clause-post c =
    let b = (goal.at.returns-then-held-length-clause-post c).After-index-held in
    let told = c.store.ensures.told c.args.length (held b c.if-held-length.true) in
    ap (λ (m : M). m.0) told.0 ∙ (λ i. posted_too (shown b i) (c.poster.view_is i).view)

pub returns-then-held-length-clause-unsettled : goal.returns-then-held-length-clause-unsettled
returns-then-held-length-clause-unsettled c =
    (c.store.ensures.told c.args.length (held (goal.at.returns-then-held-length-clause-unsettled c).After-index-held c.if-held-length.true)).1

pub returns-else-held-length-clause-post : goal.returns-else-held-length-clause-post
returns-else-held-length-clause-post c =
    let b = (goal.at.returns-else-held-length-clause-post c).After-index-held in
    ap (λ (m : M). m.0) (stored c) ∙ (λ i. posted_too (shown b i) (c.poster.view_is i).view)
