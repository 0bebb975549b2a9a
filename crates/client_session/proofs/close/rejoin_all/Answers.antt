-- Each session came back with what it had seen.
use Rattle.std.proofs.Common.{◌≡◌, [], ◌∷◌, ◌++◌, length, sym, ap, ◌∙◌, subst, arith, append_assoc}
use Rattle.std.specs.Vec.Iter.{into_iter_items}
use Rattle.std.proofs.lemmas.List.{map_push}
use Rattle.journal.specs.declared.command.Entry.{Entry}
use Rattle.turnstile.specs.Models.{handed_back, RootModel}
use Rattle.client_session.specs.declared.desk.Setting.{Setting}
use Rattle.client_session.specs.Models.{SessionModel}
use Rattle.client_session.specs.Returns.{AreReturned, IsReturned}
use Rattle.client_session.proofs.Endings.{grown_on, returned_more, root_more}
use Rattle.client_session.proofs.close.rejoin_all.Goals as goal

pub loop-session-preserved : goal.loop-session-preserved
loop-session-preserved c =
    let at = c.loop-session in
    let first = c.args.root.now in
    let new = c.rejoin.new.root in
    let x = c.in-Some.session in
    let seat = c.into_seats-seat.result.0 in
    let is = c.into_seats-seat.ensures.seat in
    let steps : into_iter_items at.session-iterator ≡ x ∷ into_iter_items c.next.new.self = c.in-Some.ensures.steps.0 in
    let one : IsReturned x (handed_back seat.number seat.seen) = record { number = is.number; position = is.position; own = is.own; notes = c.into_seats-seat.ensures.notes } in
    record {
      items = append_assoc at.yielded (x ∷ []) _ ∙ rw (← steps) at.invariant.items;
      len = (let was = at.invariant.len in let gone = c.in-Some.ensures.steps.1 in let short = ap length steps in omega arith);
      root = root_more first at.root new seat at.invariant.root c.rejoin.ensures.root;
      own = grown_on first.seen at.root.seen new.seen at.invariant.own c.rejoin.ensures.own_entries;
      back = subst (AreReturned (at.yielded ++ x ∷ [])) (ap (λ (r : RootModel Entry Setting). r.back) (sym c.rejoin.ensures.root)) (returned_more at.yielded at.root.back x
          (handed_back seat.number seat.seen) at.invariant.back one);
      few = c.rejoin.ensures.few;
      ranks = c.push_reserved.ensures.items ∙ ((λ i. at.invariant.ranks i ++ c.into_seats-seat.ensures.rank i ∷ []) ∙ sym (map_push (λ (s : SessionModel). s.rank) at.yielded x));
      room = c.push_reserved.ensures.capacity ∙ at.invariant.room;
    }
