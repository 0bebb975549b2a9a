use Rattle.std.proofs.Common.{ℕ, ◌+◌, ◌∷◌, [], length, length-append, sym, ap, subst, ◌∙◌, arith, List}
use Rattle.std.specs.Prelude.{All}
use Rattle.std.proofs.lemmas.List.Elements.{All-push}
use Rattle.client_session.specs.Models.{DriverModel, IsSessionOf, SessionModel}
use Rattle.live_serving.specs.Followed.{AreBegun}
use Rattle.live_serving.proofs.Seated.{seated}
use Rattle.live_serving.proofs.seats.seat_clients.Goals as goal

pub loop-made-preserved : goal.loop-made-preserved
loop-made-preserved c =
    let at = c.loop-made in
    let i = at.invariant in
    let hall = c.args.hall.now in
    let s = c.in_ok-session.session in
    let new = c.in_ok-session.ensures.session in
    let items = c.push_reserved.ensures.items in
    let made = i.as_many in
    let room = i.room in
    let is = i.driver ∙ ap (λ (n : ℕ). record c.args.driver.now { made = n }) (sym made) in
    record {
      driver = c.in_ok-session.ensures.counted ∙ ap (λ (d : DriverModel). record d { made = d.made + 1 }) i.driver;
      own = subst (All (IsSessionOf hall)) (sym items) (All-push (IsSessionOf hall) at.sessions.items s i.own new.hall_is);
      begun = subst (AreBegun c.args.calls 1) (sym items)
          (seated hall c.args.driver.now at.driver c.args.calls at.sessions.items s c.requires.nothing_seen is new i.begun);
      as_many = omega (arith, made, ap (λ (l : List SessionModel). length l) items, length-append at.sessions.items (s ∷ []));
      room = omega (arith, room, c.push_reserved.ensures.capacity);
    }
