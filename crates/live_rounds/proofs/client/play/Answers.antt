-- A client goes on line by line.
use Rattle.std.proofs.Common.{◌≡◌, ◌<◌, length, get_or, ap, subst, ◌∙◌, arith, true, Vec}
use Rattle.std.specs.declared.alloc.Global.{Global}
use Rattle.workload.specs.declared.script.ScriptLine.{ScriptLine}
use Rattle.live_rounds.specs.Parts.{Keeps}
use Rattle.live_rounds.proofs.Steps.{comes_in_hall, plays_in_room, plays_next, plays_none}
use Rattle.live_rounds.proofs.client.play.Goals as goal

pub loop-index-init : goal.loop-index-init
loop-index-init g c = record {
  own = c.requires.own;
  so_far = plays_none c.args.session.now c.args.part.now c.requires.ready.none_told c.requires.ready.going;
}

pub keep-going-requires : goal.keep-going-requires
keep-going-requires g c =
    let at = c.loop-index in
    let less : at.index < length c.args.part.now.lines.items = omega (arith, c.loop-index-test.true, c.len-index-end.ensures, c.args.part.now.lines.ok.0) in
    record { room = plays_in_room c.args.session.now at.session c.args.part.now at.part at.index at.invariant.so_far less c.requires.ready.room }

pub loop-index-preserved : goal.loop-index-preserved
loop-index-preserved g c =
    let at = c.loop-index in
    let o = c.args.hall.now.setting.opening in
    let line = c.index-line.result.now in
    let answer = c.carry_out-answer in
    let less : at.index < length c.args.part.now.lines.items = omega (arith, c.loop-index-test.true, c.len-index-end.ensures, c.args.part.now.lines.ok.0) in
    let there : line ≡ get_or c.args.part.now.lines.items at.index line = c.index-line.ensures ∙ ap (λ (l : Vec ScriptLine Global). get_or l.items at.index line)
    at.invariant.so_far.lines in
    let keeps = subst (Keeps at.part c.keep-going.new.part answer.result) c.if-not-going.false c.keep-going.ensures in
    record {
      own = comes_in_hall o c.args.hall.now line at.session answer.new.session answer.result answer.ensures at.invariant.own;
      so_far = plays_next o c.args.session.now at.session answer.new.session c.args.part.now at.part c.keep-going.new.part at.index line answer.result at.invariant.so_far less
          there answer.ensures keeps;
    }
