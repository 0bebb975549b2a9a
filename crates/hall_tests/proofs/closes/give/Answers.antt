-- The session that is given back is of the hall, as those that stand there are.
use Rattle.std.proofs.Common.{◌∷◌, ◌++◌, [], List}
use Rattle.std.specs.Prelude.{All}
use Rattle.std.proofs.lemmas.List.Elements.{All-push, All-same}
use Rattle.client_session.specs.Models.{HallModel, IsSessionOf, SessionModel}
use Rattle.hall_tests.proofs.closes.give.Goals as goal

pub returns : goal.returns
returns g c =
    let hall : HallModel = c.args._hall.now in
    let old : List SessionModel = c.args.sessions.now.items in
    let kept : List SessionModel = c.reserve.new.self.items in
    let new : List SessionModel = c.push_reserved.new.self.items in
    let last : SessionModel = c.args.last in
    let were : All (IsSessionOf hall) kept =
    All-same (IsSessionOf hall) kept old c.reserve.ensures.items c.requires.sessions in
    record {
      sessions = All-same (IsSessionOf hall) new (kept ++ last ∷ []) c.push_reserved.ensures.items
          (All-push (IsSessionOf hall) kept last were c.requires.last);
    }
