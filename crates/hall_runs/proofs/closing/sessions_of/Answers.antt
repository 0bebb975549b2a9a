-- The session that is taken is of the hall, and so are those that are left.
use Rattle.std.proofs.Common.{◌≡◌, ◌∷◌, ◌++◌, [], ap, arith, length, subst, List}
use Rattle.std.specs.Prelude.{All}
use Rattle.std.specs.Vec.Iter.{into_iter_items}
use Rattle.std.proofs.lemmas.List.Elements.{All-head, All-push, All-same, All-tail}
use Rattle.client_session.specs.Models.{HallModel, IsSessionOf}
use Rattle.hall_runs.specs.declared.callers.Client.{Client}
use Rattle.hall_runs.proofs.closing.sessions_of.Goals as goal

abbrev OfHall : HallModel → Client → Type 0
OfHall hall c = IsSessionOf hall c.session

pub loop-client-preserved : goal.loop-client-preserved
loop-client-preserved c =
    let at = c.loop-client in
    let hall : HallModel = c.args._hall.now in
    let x : Client = c.in-Some.client in
    let rest : List Client = into_iter_items c.next.new.self in
    let steps : into_iter_items at.client-iterator ≡ x ∷ rest = c.in-Some.ensures.steps.0 in
    let left : All (OfHall hall) (x ∷ rest) = subst (All (OfHall hall)) steps at.invariant.left in
    record {
      left = All-tail (OfHall hall) x rest left;
      taken = All-same (IsSessionOf hall) c.push_reserved.new.self.items (at.sessions.items ++ x.session ∷ []) c.push_reserved.ensures.items
          (All-push (IsSessionOf hall) at.sessions.items x.session at.invariant.taken (All-head (OfHall hall) x rest left));
      room = omega (arith, at.invariant.room, ap (λ xs. length xs) steps, c.push_reserved.ensures.len, c.push_reserved.ensures.capacity);
    }

pub push_reserved-requires : goal.push_reserved-requires
push_reserved-requires c = omega (arith, c.loop-client.invariant.room, ap (λ xs. length xs) c.in-Some.ensures.steps.0)
