-- A pull that is noted, and one whose rank was hidden.
use Rattle.std.proofs.Common.{◌∷◌, [], sym, ap, ◌∙◌, subst}
use Rattle.live_rounds.specs.declared.answer.PullDone.{PullDone}
use Rattle.live_rounds.specs.Lines.{ComesTo}
use Rattle.live_rounds.proofs.Coming.{comes_hidden, comes_noted, turn_tells}
use Rattle.live_rounds.proofs.line.pull.Goals as goal

pub pull_by_turn-requires : goal.pull_by_turn-requires
pull_by_turn-requires g c = record {
  reply = turn_tells c.args.hall.now.setting.opening c.args.coflow c.pull.new.self c.pull_turn-answer.new.self c.pull_turn-answer.result c.pull_turn-answer.ensures.turn;
}

pub returns-in-Rank : goal.returns-in-Rank
returns-in-Rank g c =
    let e = c.pull.ensures in
    let x = comes_noted c.args.hall.now.setting.opening c.args.line c.args.coflow c.in-Rank.version c.in-Rank.rank c.args.session.now c.pull.new.self c.requires.asked e.later
    e.board e.rest
    (e.rank c.in-Rank.version c.in-Rank.rank c.in-Rank.is).2 in
    (x.0, x.1, ap (λ (p : PullDone). p ∷ []) c.told.ensures ∙ x.2, x.3)

pub returns-in-Unranked : goal.returns-in-Unranked
returns-in-Unranked g c =
    let e = c.pull.ensures in
    let x = comes_noted c.args.hall.now.setting.opening c.args.line c.args.coflow c.in-Unranked.version 0 c.args.session.now c.pull.new.self c.requires.asked e.later e.board e.rest
    (e.unranked c.in-Unranked.version c.in-Unranked.is) in
    (x.0, x.1, ap (λ (p : PullDone). p ∷ []) c.told-in-Unranked.ensures ∙ x.2, x.3)

pub returns-in-Moved : goal.returns-in-Moved
returns-in-Moved g c =
    let e = c.pull.ensures in
    let o = c.args.hall.now.setting.opening in
    let m = e.moved c.in-Moved.front c.in-Moved.found c.in-Moved.is in
    subst (ComesTo o c.args.line c.args.session.now c.pull_turn-answer.new.self) (sym c.pull_by_turn.ensures)
    (comes_hidden o c.args.line c.args.coflow c.in-Moved.front c.in-Moved.found c.args.session.now c.pull.new.self c.pull_turn-answer.new.self c.pull_turn-answer.result
    c.requires.asked
    (record { later = e.later; board = e.board; rest = e.rest; some = m.0; far = m.1; another = m.2 }) c.pull_turn-answer.ensures.turn)
