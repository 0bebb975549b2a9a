-- A turn adds the session's entry, or finds no room.
use Rattle.std.proofs.Common.{◌≡◌, ◌-◌, ◌<◌, ◌≤◌, sym, ap, ◌∙◌, subst, arith}
use Rattle.std.specs.Prelude.{unwrap_or, vec_capacity}
use Rattle.std.proofs.lemmas.Bool.{ltb-false}
use Rattle.turnstile.specs.Histories.{GoesOn}
use Rattle.client_session.specs.declared.desk.Setting.{Setting}
use Rattle.client_session.specs.Models.{SessionModel}
use Rattle.client_session.specs.declared.receipt.Answer.TheVariants.{Done, Full}
use Rattle.client_session.specs.Desk.{IsSeen}
use Rattle.client_session.specs.Turns.{IsTurn}
use Rattle.client_session.proofs.Turning.{left_is, may_leave, model, session_answered, session_refused, turn_done, turn_full, who_of}
use Rattle.client_session.proofs.session.Session.ask.Goals as goal

pub leave-requires-clause-list : goal.leave-requires-clause-list
leave-requires-clause-list g c =
    let a = c.answer-answer.ensures in
    may_leave c.self.inside.seat c.enter-turn.new.seat c.self.inside.number c.enter-turn.result.value.journal c.answer-answer.new.self.journal c.args.command c.answer-answer.result
    c.enter-turn.ensures.seat c.self.invariant.number_is a.entry (λ n e. (a.full n e).0)

pub invariant_of-self : goal.invariant_of-self
invariant_of-self g c =
    let journal = c.enter-turn.result.value.journal in
    let after = c.answer-answer.new.self.journal in
    let seat = c.self.inside.seat in
    let number = c.self.inside.number in
    let a = c.answer-answer.ensures in
    let final = left_is seat c.enter-turn.new.seat c.leave.new.seat journal after c.enter-turn.ensures.seat c.leave.ensures.seat in
    let goes = subst (λ n. GoesOn who_of journal n seat.seen) c.self.invariant.number_is c.enter-turn.ensures.list in
    let some : 0 < c.self.inside.left = omega (arith, ltb-false c.self.inside.left 1 (sym c.is_spent.ensures ∙ c.if-is_spent.false)) in
    session_answered seat c.leave.new.seat c.self.inside.rank c.answer-answer.new.seat number c.self.inside.left c.self.inside.position c.position-self-inside.result journal
    after final goes some
    c.position-self-inside.ensures.position c.self.inside.receipts.items c.push_reserved.new.self.items _ _ c.self.invariant c.args.command c.in-Ok.receipt
    (a.entry c.in-Ok.receipt c.in-Ok.is)
    (a.met c.in-Ok.receipt c.in-Ok.is) a.seat.2 c.push_reserved.ensures.items c.push_reserved.ensures.capacity

pub invariant_of-self-in-Err : goal.invariant_of-self-in-Err
invariant_of-self-in-Err g c =
    let journal = c.enter-turn.result.value.journal in
    let after = c.answer-answer.new.self.journal in
    let seat = c.self.inside.seat in
    let number = c.self.inside.number in
    let a = c.answer-answer.ensures in
    let final = left_is seat c.enter-turn.new.seat c.leave.new.seat journal after c.enter-turn.ensures.seat c.leave.ensures.seat in
    let goes = subst (λ n. GoesOn who_of journal n seat.seen) c.self.invariant.number_is c.enter-turn.ensures.list in
    let some : 0 < c.self.inside.left = omega (arith, ltb-false c.self.inside.left 1 (sym c.is_spent.ensures ∙ c.if-is_spent.false)) in
    session_refused seat c.leave.new.seat c.self.inside.rank c.answer-answer.new.seat number c.self.inside.left c.self.inside.position c.position-self-inside.result journal
    after final goes some
    c.position-self-inside.ensures.position c.self.inside.receipts.items c.self.inside.receipts.items (vec_capacity c.self.inside.receipts) (vec_capacity c.self.inside.receipts)
    c.self.invariant (a.full c.in-Err.entries c.in-Err.is).0 a.seat.2 a.seat.4

pub returns-in-Ok : goal.returns-in-Ok
returns-in-Ok g c =
    let o = c.args.hall.now.setting.opening in
    let journal = c.enter-turn.result.value.journal in
    let after = c.answer-answer.new.self.journal in
    let seat = c.self.inside.seat in
    let number = c.self.inside.number in
    let a = c.answer-answer.ensures in
    let final = left_is seat c.enter-turn.new.seat c.leave.new.seat journal after c.enter-turn.ensures.seat c.leave.ensures.seat in
    let goes = subst (λ n. GoesOn who_of journal n seat.seen) c.self.invariant.number_is c.enter-turn.ensures.list in
    let some : 0 < c.self.inside.left = omega (arith, ltb-false c.self.inside.left 1 (sym c.is_spent.ensures ∙ c.if-is_spent.false)) in
    let setting : c.answer-answer.new.self.setting ≡ c.args.hall.now.setting =
    a.setting ∙ ap (λ x. unwrap_or x c.args.hall.now.setting) (sym c.enter-turn.ensures.setting ∙ (ap (λ (m : SessionModel). m.setting) c.self.view_is ∙ c.requires.own.1)) in
    let seen = subst (λ (x : Setting). IsSeen x.opening after) setting c.position-self-inside.ensures.seen in
    let done = turn_done seat c.leave.new.seat c.self.inside.rank c.answer-answer.new.seat number c.self.inside.left c.self.inside.position c.position-self-inside.result
    journal after final goes some c.position-self-inside.ensures.position o c.args.command c.requires.kind seen c.self.invariant.position_is a.seat.0 a.seat.1 a.seat.2 a.seat.3
    a.seat.4 c.in-Ok.receipt (a.entry c.in-Ok.receipt c.in-Ok.is) (a.met c.in-Ok.receipt c.in-Ok.is) in
    let new = model c.leave.new.seat c.answer-answer.new.seat number (c.self.inside.left - 1) c.position-self-inside.result in
    record { turn = subst (λ (s : SessionModel). IsTurn o c.args.command s new (Done c.in-Ok.receipt)) c.self.view_is done }

pub returns-in-Err : goal.returns-in-Err
returns-in-Err g c =
    let o = c.args.hall.now.setting.opening in
    let journal = c.enter-turn.result.value.journal in
    let after = c.answer-answer.new.self.journal in
    let seat = c.self.inside.seat in
    let number = c.self.inside.number in
    let a = c.answer-answer.ensures in
    let final = left_is seat c.enter-turn.new.seat c.leave.new.seat journal after c.enter-turn.ensures.seat c.leave.ensures.seat in
    let goes = subst (λ n. GoesOn who_of journal n seat.seen) c.self.invariant.number_is c.enter-turn.ensures.list in
    let some : 0 < c.self.inside.left = omega (arith, ltb-false c.self.inside.left 1 (sym c.is_spent.ensures ∙ c.if-is_spent.false)) in
    let f = a.full c.in-Err.entries c.in-Err.is in
    let entered : c.enter-turn.result.value.setting ≡ c.args.hall.now.setting =
    ap (λ x. unwrap_or x c.args.hall.now.setting) (sym c.enter-turn.ensures.setting ∙ (ap (λ (m : SessionModel). m.setting) c.self.view_is ∙ c.requires.own.1)) in
    let seen = subst (λ (x : Setting). IsSeen x.opening after) (a.setting ∙ entered) c.position-self-inside.ensures.seen in
    let limit = subst (λ (x : Setting). x.opening.limit ≤ c.in-Err.entries) entered f.2 in
    let full = turn_full seat c.leave.new.seat c.self.inside.rank c.answer-answer.new.seat number c.self.inside.left c.self.inside.position c.position-self-inside.result
    journal after final goes some c.position-self-inside.ensures.position o c.args.command c.requires.kind seen c.self.invariant.position_is a.seat.0 a.seat.1 a.seat.2 a.seat.3
    a.seat.4 c.in-Err.entries f.0 f.1 limit in
    let new = model c.leave.new.seat c.answer-answer.new.seat number (c.self.inside.left - 1) c.position-self-inside.result in
    record { turn = subst (λ (s : SessionModel). IsTurn o c.args.command s new (Full c.in-Err.entries)) c.self.view_is full }
