-- The driver and the session met, and have seen one list.
use Rattle.std.proofs.Common.{◌≡◌, ap, ◌∙◌, subst, arith}
use Rattle.std.specs.Prelude.{vec_capacity}
use Rattle.rank_board.specs.Models.{saw_front, SeatModel}
use Rattle.client_session.specs.Levels.{IsMetByOne}
use Rattle.client_session.specs.Models.{DriverModel, SessionModel}
use Rattle.client_session.proofs.Driving.{driver_model}
use Rattle.client_session.proofs.Turning.{model}
use Rattle.client_session.proofs.Levelling.{driver_after, one_met, session_after}
use Rattle.client_session.proofs.hall.Hall.meet_one.Goals as goal

pub invariant_of-driver : goal.invariant_of-driver
invariant_of-driver c =
    let d = c.driver.inside in
    let s = c.session.inside in
    let m = c.meet.ensures in
    driver_after d.root c.meet.new.root s.seat c.meet.new.seat m.root m.seat m.same d.rank d.left d.turned d.position d.granted s.rank s.rank s.rank s.rank s.number s.left
    s.position c.greater-position.result s.receipts.items (vec_capacity s.receipts) c.driver.invariant c.session.invariant m.root_list m.seat_list m.numbers
    c.greater-position.ensures

pub invariant_of-session : goal.invariant_of-session
invariant_of-session c =
    let d = c.driver.inside in
    let s = c.session.inside in
    let m = c.meet.ensures in
    let from = c.tell.ensures.from in
    let rank = c.tell-2.new.to in
    let rank_is : rank ≡ saw_front rank.seen s.rank = c.tell-2.ensures.to ∙ ap (saw_front rank.seen) from in
    session_after d.root c.meet.new.root s.seat c.meet.new.seat m.root m.seat m.same d.rank d.left d.turned d.position d.granted s.rank rank s.rank s.rank s.number s.left
    s.position c.greater-position.result s.receipts.items (vec_capacity s.receipts) c.driver.invariant c.session.invariant m.root_list m.seat_list m.numbers
    c.greater-position.ensures
    rank_is (omega (arith, c.tell-2.ensures.seen.1, ap (λ (x : SeatModel). x.seen) from))

pub returns : goal.returns
returns c =
    let d = c.driver.inside in
    let s = c.session.inside in
    let m = c.meet.ensures in
    let top = c.greater-position.result in
    let from = c.tell.ensures.from in
    let rank = c.tell-2.new.to in
    let heard = c.args.heard.now in
    let last = c.tell-2.new.from in
    let same = ap (λ (x : SeatModel). x.seen) c.tell-2.ensures.from in
    let rank_is : rank ≡ saw_front rank.seen s.rank = c.tell-2.ensures.to ∙ ap (saw_front rank.seen) from in
    let met = one_met d.root c.meet.new.root s.seat c.meet.new.seat m.root m.seat m.same d.rank d.left d.turned d.position d.granted s.rank rank heard last s.number s.left
    s.position top s.receipts.items (vec_capacity s.receipts) c.driver.invariant c.session.invariant m.root_list m.seat_list m.numbers c.greater-position.ensures
    rank_is (omega (arith, c.tell-2.ensures.seen.1, ap (λ (x : SeatModel). x.seen) from))
    (ap (λ (x : SeatModel). x.table) c.tell-2.ensures.from ∙ ap (λ (x : SeatModel). x.table) c.tell.ensures.to) (omega (arith, same, c.tell.ensures.seen.1))
    (omega (arith, same, c.tell.ensures.seen.0)) (omega (arith, same, c.tell-2.ensures.seen.0)) in
    let new_driver = driver_model c.meet.new.root d.rank d.left d.turned top in
    let new_session = model c.meet.new.seat rank s.number s.left top in
    record {
      met = subst (λ (x : DriverModel). IsMetByOne x new_driver heard last c.args.session.now new_session) c.driver.view_is
          (subst (λ (x : SessionModel). IsMetByOne (driver_model d.root d.rank d.left d.turned d.position) new_driver heard last x new_session) c.session.view_is met);
    }
