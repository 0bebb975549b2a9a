-- The clients that were played are of the hall, and so are those that they replace.
use Rattle.std.proofs.Common.{◌++◌, length, take, drop, List}
use Rattle.std.specs.Prelude.{All}
use Rattle.std.proofs.lemmas.List.Elements.{All-append, All-drop, All-take, All-weaker}
use Rattle.client_session.specs.Models.{HallModel, IsSessionOf}
use Rattle.hall_runs.specs.Callers.{IsClientOf}
use Rattle.hall_runs.specs.declared.callers.Client.{Client}
use Rattle.hall_runs.proofs.playing.host.Goals as goal

abbrev OfHall : HallModel → Client → Type 0
OfHall hall c = IsSessionOf hall c.session

pub closed-requires-clause-clients : goal.closed-requires-clause-clients
closed-requires-clause-clients g c =
    let hall : HallModel = c.args.hall in
    let new : List Client = c.asked-took.new.clients in
    let old : List Client = c.args.clients.items in
    let ready : All (IsClientOf hall c.args.size.commands) old = c.requires.clients in
    let were : All (OfHall hall) old = All-weaker (IsClientOf hall c.args.size.commands) (OfHall hall) (λ x is. is.own) old ready in
    let are : All (OfHall hall) new = c.asked-took.ensures.clients in
    let behind : All (OfHall hall) (drop (length new) old) = All-drop (OfHall hall) (length new) old were in
    All-take (OfHall hall) c.args.clients.len (new ++ drop (length new) old) (All-append (OfHall hall) new (drop (length new) old) are behind)
