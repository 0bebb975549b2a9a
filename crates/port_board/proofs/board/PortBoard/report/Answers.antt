use Rattle.std.proofs.Common.{◌≡◌, ℕ, ◌+◌, ◌<◌, ◌≤◌, inl, inr, sym, ap, ◌∙◌, subst, arith, refl}
use Rattle.std.specs.Prelude.{Contains}
use Rattle.std.proofs.lemmas.List.Elements.{All-contains}
use Rattle.coflow_units.specs.PortWord.{FitsWord, slot_of}
use Rattle.coflow_units.specs.PortWord.PortStage.{reported}
use Rattle.port_board.specs.declared.view.Grant.{Grant}
use Rattle.port_board.specs.declared.view.View.{View}
use Rattle.port_board.specs.declared.view.Step.TheVariants.{Counted, Rests}
use Rattle.port_board.specs.Views.{grant, reported_as}
use Rattle.port_board.specs.declared.view.Step.{Step}
use Rattle.port_board.specs.Tells.{count_held}
use Rattle.coflow_units.proofs.PortWords.{slot_of-reported}
use Rattle.atomic_table.specs.Seated.{TableId}
use Rattle.port_board.proofs.AgentSteps.{M}
use Rattle.port_board.proofs.AgentReports.{WroteCount, count_told, counting, reporting}
use Rattle.port_board.proofs.Sitting.{SeatOk, in_board, after_report, carry}
use Rattle.port_board.proofs.board.PortBoard.report.Goals as goal
use Rattle.port_board.proofs.board.PortBoard.report.Goals.{then-sent-length, else-sent-length}

-- the grant stands among those that the seat has out
held : (ports : ℕ) (v w : View) (g h : Grant) (words : ℕ) (m : M) → m.0 ≡ w → SeatOk ports words m → h ≡ g → Contains w.out g →
    Contains m.0.out h × (h.port < ports) × FitsWord h.slot h.flow
held ports v w g h words m same ok it has =
    let here : Contains m.0.out h = subst (λ (z : View × Grant). Contains z.0.out z.1) (λ i. (sym same i, sym it i)) has in
    let fits = All-contains (λ (g : Grant). (g.port < ports) × FitsWord g.slot g.flow) m.0.out h ok.4 here in
    (here, fits.0, fits.1)

-- the place as it is once the number is written where it is less than the length: its count word holds the number
abbrev Wrote : ℕ → ℕ → Grant → ℕ → TableId → M → ℕ → TableId → M → Type 0
Wrote n sent g p t old q u new = (st : Step) × (q ≡ p) × (u ≡ t) × (new ≡ (record old.0 { step = st }, old.1)) × WroteCount n g.port g.length sent st

wrote : (n sent i : ℕ) (g : Grant) (p : ℕ) (t : TableId) (old : M) (u : TableId) (new : M) → u ≡ t → new ≡ (record old.0 { step = Counted i sent }, old.1) → i ≡ n + g.port →
    Wrote n sent g p t old p u new
wrote n sent i g p t old u new same is at = (Counted i sent, refl, same, is, inl (ap (λ z. Counted z sent) at))

wrote_none : (n sent : ℕ) (g : Grant) (p : ℕ) (t : TableId) (old : M) → old.0.step ≡ Rests → g.length ≡ sent → Wrote n sent g p t old p t old
wrote_none n sent g p t old rests whole = (Rests, refl, refl, (λ i. (record old.0 { step = rests i }, old.1)), inr (refl, whole))

pub store-requires-clause-allowed : goal.store-requires-clause-allowed
store-requires-clause-allowed c =
    let g : Grant = grant c.drawn.inside.port c.drawn.inside.slot c.drawn.inside.flow c.drawn.inside.length in
    let view = ap (λ u. u.view) c.seat.view_is in
    let has = held c.seat.inside.ports c.seat.inside.place.me.0 c.args.seat.now.view c.args.drawn g _ c.seat.inside.place.me view c.seat.invariant c.drawn.view_is c.requires.drawn
    in
    let table = ap (λ u. u.at) c.seat.view_is ∙ (c.requires.own ∙ sym (ap (λ u. u.id) c.self.view_is)) in
    let range = in_board c.drawn.inside.port c.seat.inside.ports c.self.inside.ports c.self.inside.table.key c.seat.inside.place.table_id c.self.inside.table.table_id
    has.1 c.seat.invariant.3 table c.self.invariant.0 c.self.invariant.1 in
    let at = c.count_place-count.ensures ∙ ap (λ z. z + c.drawn.inside.port) range.0 in
    counting _ _ _ _ _ _ _ _ g c.seat.invariant.2 c.seat.invariant.1 has.0 refl range.1 at

pub store-requires-2-clause-allowed : goal.store-requires-2-clause-allowed
store-requires-2-clause-allowed c =
    let g : Grant = grant c.drawn.inside.port c.drawn.inside.slot c.drawn.inside.flow c.drawn.inside.length in
    let view = ap (λ u. u.view) c.seat.view_is in
    let has = held c.seat.inside.ports c.seat.inside.place.me.0 c.args.seat.now.view c.args.drawn g _ c.seat.inside.place.me view c.seat.invariant c.drawn.view_is c.requires.drawn
    in
    let table = ap (λ u. u.at) c.seat.view_is ∙ (c.requires.own ∙ sym (ap (λ u. u.id) c.self.view_is)) in
    let range = in_board c.drawn.inside.port c.seat.inside.ports c.self.inside.ports c.self.inside.table.key c.seat.inside.place.table_id c.self.inside.table.table_id
    has.1 c.seat.invariant.3 table c.self.invariant.0 c.self.invariant.1 in
    let most : c.args.sent ≤ c.drawn.inside.length = subst (λ (h : Grant). c.args.sent ≤ h.length) (sym c.drawn.view_is) c.requires.sent in
    let joined : Wrote c.self.inside.table.key c.args.sent g c.seat.inside.ports c.seat.inside.place.table_id c.seat.inside.place.me
    c.if-sent-length.seat-inside.ports c.if-sent-length.seat-inside.place.table_id c.if-sent-length.seat-inside.place.me = elim c.if-sent-length.branch [
      | then-sent-length w ↦ subst (λ z. Wrote c.self.inside.table.key c.args.sent g c.seat.inside.ports c.seat.inside.place.table_id c.seat.inside.place.me z.ports z.place.table_id z.place.me) (sym w.seat-inside-is)
          (wrote c.self.inside.table.key c.args.sent w.count_place-count.result g c.seat.inside.ports c.seat.inside.place.table_id c.seat.inside.place.me
          w.store.new.seat.table_id w.store.new.seat.me w.store.ensures.own.0 w.store.ensures.told (w.count_place-count.ensures ∙ ap (λ z. z + c.drawn.inside.port) range.0))
      | else-sent-length w ↦ subst (λ z. Wrote c.self.inside.table.key c.args.sent g c.seat.inside.ports c.seat.inside.place.table_id c.seat.inside.place.me z.ports z.place.table_id z.place.me) (sym w.seat-inside-is)
          (wrote_none c.self.inside.table.key c.args.sent g c.seat.inside.ports c.seat.inside.place.table_id c.seat.inside.place.me c.seat.invariant.1 (omega (arith, w.if-sent-length, most)))
    ] in
    let now : Contains c.if-sent-length.seat-inside.place.me.0.out g = subst (λ (m : M). Contains m.0.out g) (sym joined.3) has.0 in
    reporting _ _ _ _ _ _ c.args.sent _ g (ap (λ (m : M). m.0.kind) joined.3 ∙ c.seat.invariant.2)
    (subst (λ (m : M). WroteCount c.self.inside.table.key g.port g.length c.args.sent m.0.step) (sym joined.3) joined.4) now refl range.1
    (c.bits-word.ensures.word (reported 0 c.args.sent) refl)

pub store-requires-2-clause-leaves : goal.store-requires-2-clause-leaves
store-requires-2-clause-leaves c after told =
    let g : Grant = grant c.drawn.inside.port c.drawn.inside.slot c.drawn.inside.flow c.drawn.inside.length in
    let view = ap (λ u. u.view) c.seat.view_is in
    let has = held c.seat.inside.ports c.seat.inside.place.me.0 c.args.seat.now.view c.args.drawn g _ c.seat.inside.place.me view c.seat.invariant c.drawn.view_is c.requires.drawn
    in
    let table = ap (λ u. u.at) c.seat.view_is ∙ (c.requires.own ∙ sym (ap (λ u. u.id) c.self.view_is)) in
    let range = in_board c.drawn.inside.port c.seat.inside.ports c.self.inside.ports c.self.inside.table.key c.seat.inside.place.table_id c.self.inside.table.table_id
    has.1 c.seat.invariant.3 table c.self.invariant.0 c.self.invariant.1 in
    let most : c.args.sent ≤ c.drawn.inside.length = subst (λ (h : Grant). c.args.sent ≤ h.length) (sym c.drawn.view_is) c.requires.sent in
    let joined : Wrote c.self.inside.table.key c.args.sent g c.seat.inside.ports c.seat.inside.place.table_id c.seat.inside.place.me
    c.if-sent-length.seat-inside.ports c.if-sent-length.seat-inside.place.table_id c.if-sent-length.seat-inside.place.me = elim c.if-sent-length.branch [
      | then-sent-length w ↦ subst (λ z. Wrote c.self.inside.table.key c.args.sent g c.seat.inside.ports c.seat.inside.place.table_id c.seat.inside.place.me z.ports z.place.table_id z.place.me) (sym w.seat-inside-is)
          (wrote c.self.inside.table.key c.args.sent w.count_place-count.result g c.seat.inside.ports c.seat.inside.place.table_id c.seat.inside.place.me
          w.store.new.seat.table_id w.store.new.seat.me w.store.ensures.own.0 w.store.ensures.told (w.count_place-count.ensures ∙ ap (λ z. z + c.drawn.inside.port) range.0))
      | else-sent-length w ↦ subst (λ z. Wrote c.self.inside.table.key c.args.sent g c.seat.inside.ports c.seat.inside.place.table_id c.seat.inside.place.me z.ports z.place.table_id z.place.me) (sym w.seat-inside-is)
          (wrote_none c.self.inside.table.key c.args.sent g c.seat.inside.ports c.seat.inside.place.table_id c.seat.inside.place.me c.seat.invariant.1 (omega (arith, w.if-sent-length, most)))
    ] in
    let now : Contains c.if-sent-length.seat-inside.place.me.0.out g = subst (λ (m : M). Contains m.0.out g) (sym joined.3) has.0 in
    let slot_is = sym (ap slot_of (c.bits-word.ensures.word (reported 0 0) refl) ∙ slot_of-reported 0 0 c.drawn.inside.slot c.drawn.inside.flow has.2) in
    ap (λ (m : M). m.0.looks) (told g now refl slot_is)

pub invariant_of-seat : goal.invariant_of-seat
invariant_of-seat c =
    let g : Grant = grant c.drawn.inside.port c.drawn.inside.slot c.drawn.inside.flow c.drawn.inside.length in
    let view = ap (λ u. u.view) c.seat.view_is in
    let has = held c.seat.inside.ports c.seat.inside.place.me.0 c.args.seat.now.view c.args.drawn g _ c.seat.inside.place.me view c.seat.invariant c.drawn.view_is c.requires.drawn
    in
    let table = ap (λ u. u.at) c.seat.view_is ∙ (c.requires.own ∙ sym (ap (λ u. u.id) c.self.view_is)) in
    let range = in_board c.drawn.inside.port c.seat.inside.ports c.self.inside.ports c.self.inside.table.key c.seat.inside.place.table_id c.self.inside.table.table_id
    has.1 c.seat.invariant.3 table c.self.invariant.0 c.self.invariant.1 in
    let most : c.args.sent ≤ c.drawn.inside.length = subst (λ (h : Grant). c.args.sent ≤ h.length) (sym c.drawn.view_is) c.requires.sent in
    let joined : Wrote c.self.inside.table.key c.args.sent g c.seat.inside.ports c.seat.inside.place.table_id c.seat.inside.place.me
    c.if-sent-length.seat-inside.ports c.if-sent-length.seat-inside.place.table_id c.if-sent-length.seat-inside.place.me = elim c.if-sent-length.branch [
      | then-sent-length w ↦ subst (λ z. Wrote c.self.inside.table.key c.args.sent g c.seat.inside.ports c.seat.inside.place.table_id c.seat.inside.place.me z.ports z.place.table_id z.place.me) (sym w.seat-inside-is)
          (wrote c.self.inside.table.key c.args.sent w.count_place-count.result g c.seat.inside.ports c.seat.inside.place.table_id c.seat.inside.place.me
          w.store.new.seat.table_id w.store.new.seat.me w.store.ensures.own.0 w.store.ensures.told (w.count_place-count.ensures ∙ ap (λ z. z + c.drawn.inside.port) range.0))
      | else-sent-length w ↦ subst (λ z. Wrote c.self.inside.table.key c.args.sent g c.seat.inside.ports c.seat.inside.place.table_id c.seat.inside.place.me z.ports z.place.table_id z.place.me) (sym w.seat-inside-is)
          (wrote_none c.self.inside.table.key c.args.sent g c.seat.inside.ports c.seat.inside.place.table_id c.seat.inside.place.me c.seat.invariant.1 (omega (arith, w.if-sent-length, most)))
    ] in
    let now : Contains c.if-sent-length.seat-inside.place.me.0.out g = subst (λ (m : M). Contains m.0.out g) (sym joined.3) has.0 in
    let slot_is = sym (ap slot_of (c.bits-word.ensures.word (reported 0 0) refl) ∙ slot_of-reported 0 0 c.drawn.inside.slot c.drawn.inside.flow has.2) in
    let went = c.store-2.ensures.told g now refl slot_is ∙ (ap (λ (m : M). (reported_as g (count_held m.0.step g.length) m.0, m.1)) joined.3 ∙
    ap (λ k. (reported_as g k c.seat.inside.place.me.0, c.seat.inside.place.me.1)) (count_told c.self.inside.table.key g.port g.length c.args.sent joined.0 joined.4)) in
    subst (λ (q : ℕ). SeatOk q c.store-2.new.seat.table_id.words c.store-2.new.seat.me) (sym joined.1)
    (carry _ _ _ _ _ (c.store-2.ensures.own.0 ∙ joined.2) went (after_report c.seat.inside.ports _ c.args.sent g c.seat.inside.place.me c.seat.invariant))

pub returns-clause-report : goal.returns-clause-report
returns-clause-report c =
    let g : Grant = grant c.drawn.inside.port c.drawn.inside.slot c.drawn.inside.flow c.drawn.inside.length in
    let view = ap (λ u. u.view) c.seat.view_is in
    let has = held c.seat.inside.ports c.seat.inside.place.me.0 c.args.seat.now.view c.args.drawn g _ c.seat.inside.place.me view c.seat.invariant c.drawn.view_is c.requires.drawn
    in
    let table = ap (λ u. u.at) c.seat.view_is ∙ (c.requires.own ∙ sym (ap (λ u. u.id) c.self.view_is)) in
    let range = in_board c.drawn.inside.port c.seat.inside.ports c.self.inside.ports c.self.inside.table.key c.seat.inside.place.table_id c.self.inside.table.table_id
    has.1 c.seat.invariant.3 table c.self.invariant.0 c.self.invariant.1 in
    let most : c.args.sent ≤ c.drawn.inside.length = subst (λ (h : Grant). c.args.sent ≤ h.length) (sym c.drawn.view_is) c.requires.sent in
    let joined : Wrote c.self.inside.table.key c.args.sent g c.seat.inside.ports c.seat.inside.place.table_id c.seat.inside.place.me
    c.if-sent-length.seat-inside.ports c.if-sent-length.seat-inside.place.table_id c.if-sent-length.seat-inside.place.me = elim c.if-sent-length.branch [
      | then-sent-length w ↦ subst (λ z. Wrote c.self.inside.table.key c.args.sent g c.seat.inside.ports c.seat.inside.place.table_id c.seat.inside.place.me z.ports z.place.table_id z.place.me) (sym w.seat-inside-is)
          (wrote c.self.inside.table.key c.args.sent w.count_place-count.result g c.seat.inside.ports c.seat.inside.place.table_id c.seat.inside.place.me
          w.store.new.seat.table_id w.store.new.seat.me w.store.ensures.own.0 w.store.ensures.told (w.count_place-count.ensures ∙ ap (λ z. z + c.drawn.inside.port) range.0))
      | else-sent-length w ↦ subst (λ z. Wrote c.self.inside.table.key c.args.sent g c.seat.inside.ports c.seat.inside.place.table_id c.seat.inside.place.me z.ports z.place.table_id z.place.me) (sym w.seat-inside-is)
          (wrote_none c.self.inside.table.key c.args.sent g c.seat.inside.ports c.seat.inside.place.table_id c.seat.inside.place.me c.seat.invariant.1 (omega (arith, w.if-sent-length, most)))
    ] in
    let now : Contains c.if-sent-length.seat-inside.place.me.0.out g = subst (λ (m : M). Contains m.0.out g) (sym joined.3) has.0 in
    let slot_is = sym (ap slot_of (c.bits-word.ensures.word (reported 0 0) refl) ∙ slot_of-reported 0 0 c.drawn.inside.slot c.drawn.inside.flow has.2) in
    let went = c.store-2.ensures.told g now refl slot_is ∙ (ap (λ (m : M). (reported_as g (count_held m.0.step g.length) m.0, m.1)) joined.3 ∙
    ap (λ k. (reported_as g k c.seat.inside.place.me.0, c.seat.inside.place.me.1)) (count_told c.self.inside.table.key g.port g.length c.args.sent joined.0 joined.4)) in
    ap (λ (m : M). m.0) went ∙ (λ i. reported_as (c.drawn.view_is i) c.args.sent (view i))
