-- Each seat met the publisher of one journal.
use Rattle.std.proofs.Common.{◌≡◌, [], ◌∷◌, length, ap, ◌∙◌, subst, arith, append_assoc}
use Rattle.std.specs.Prelude.{All}
use Rattle.std.specs.Vec.Iter.{into_iter_items}
use Rattle.std.proofs.lemmas.List.Elements.{All-push}
use Rattle.rank_board.specs.Models.{SeatModel}
use Rattle.client_session.specs.Desk.{DeskModel, IsRanked, WasMet}
use Rattle.client_session.proofs.desk.meet_all.Goals as goal

pub loop-rank-preserved : goal.loop-rank-preserved
loop-rank-preserved c =
    let at = c.loop-rank in
    let x = c.in-Some.rank in
    let steps : into_iter_items at.rank-iterator ≡ x ∷ into_iter_items c.next.new.self = c.in-Some.ensures.steps.0 in
    let pulls : All (IsRanked at.desk.setting.opening at.desk.journal) x.pulls =
    subst (λ (r : SeatModel). All (IsRanked at.desk.setting.opening at.desk.journal) r.pulls) c.meet.ensures.seat c.meet.ensures.pulls in
    let met : WasMet at.desk.setting.opening at.desk.journal x = (c.meet.ensures.seen, pulls) in
    record {
      items = append_assoc at.yielded (x ∷ []) _ ∙ rw (← steps) at.invariant.items;
      len = (let was = at.invariant.len in let gone = c.in-Some.ensures.steps.1 in let short = ap length steps in omega arith);
      desk = c.meet.ensures.desk ∙ at.invariant.desk;
      met = All-push (WasMet c.args.desk.now.setting.opening c.args.desk.now.journal) at.yielded x at.invariant.met
          (subst (λ (d : DeskModel). WasMet d.setting.opening d.journal x) at.invariant.desk met);
    }
