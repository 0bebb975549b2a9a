-- The clients that were asked are of the hall.
use Rattle.std.proofs.Common.{◌≡◌, ◌++◌, ◌-◌, ◌∙◌, ℕ, ap, length, drop, List, arith}
use Rattle.std.specs.Prelude.{All}
use Rattle.std.proofs.lemmas.List.{length-drop}
use Rattle.std.proofs.lemmas.List.Elements.{All-append, All-take}
use Rattle.client_session.specs.Models.{HallModel, IsSessionOf, SessionModel}
use Rattle.hall_example.proofs.main.Goals as goal

pub close-requires-clause-sessions : goal.close-requires-clause-sessions
close-requires-clause-sessions g c =
    let hall : HallModel = c.in_ok-hall.hall in
    let new : List SessionModel = c.ask.new.clients in
    let old : List SessionModel = c.in_ok-hall.clients.items in
    let same : length new ≡ length old = c.ask.auto.clients ∙ ap (λ (xs : List SessionModel). length xs) c.deref_mut.ensures.value in
    let none : All (IsSessionOf hall) (drop (length new) old) = λ k d lt. absurd (omega (arith, lt, length-drop (length new) old, same)) in
    All-take (IsSessionOf hall) c.in_ok-hall.clients.len (new ++ drop (length new) old)
    (All-append (IsSessionOf hall) new (drop (length new) old) c.ask.ensures.own none)
