use Rattle.std.proofs.Common.{◌<◌, [], length, subst, sym, arith}
use Rattle.run_list.specs.Kept.{HasRoom}
use Rattle.run_list.specs.Runs.{Walked}
use Rattle.run_list.proofs.Keeping.{length-runs_of}
use Rattle.run_list.proofs.Walking.{IsWalk-next, part_ascends, part_fits}
use Rattle.run_list.proofs.walk.Walk.enter.Goals as goal

pub bounds-self-inside-self-inside : goal.bounds-self-inside-self-inside
bounds-self-inside-self-inside c =
    let w = c.self.inside in
    let more = subst (λ (walk : Walked). walk.entered < length walk.runs) (sym c.self.view_is) c.requires in
    omega (arith, more, length-runs_of [] w.marks.now w.numbers.now)

pub follow-self-inside-requires-clause-room : goal.follow-self-inside-requires-clause-room
follow-self-inside-requires-clause-room c =
    let w = c.self.inside in
    let more = subst (λ (walk : Walked). walk.entered < length walk.runs) (sym c.self.view_is) c.requires in
    let left : w.entered < length w.marks.now = omega (arith, more, length-runs_of [] w.marks.now w.numbers.now) in
    part_fits w.marks.now w.numbers.now w.entered w.read w.flows.items w.count w.next.items w.turnover _ c.self.invariant left

pub follow-self-inside-requires-clause-numbers : goal.follow-self-inside-requires-clause-numbers
follow-self-inside-requires-clause-numbers c =
    let w = c.self.inside in
    let more = subst (λ (walk : Walked). walk.entered < length walk.runs) (sym c.self.view_is) c.requires in
    let left : w.entered < length w.marks.now = omega (arith, more, length-runs_of [] w.marks.now w.numbers.now) in
    part_ascends w.marks.now w.numbers.now w.entered w.read w.flows.items w.count w.next.items w.turnover _ c.self.invariant left

pub invariant_of-self : goal.invariant_of-self
invariant_of-self c =
    let w = c.self.inside in
    let news = c.follow-self-inside.new in
    let ensures = c.follow-self-inside.ensures in
    let more = subst (λ (walk : Walked). walk.entered < length walk.runs) (sym c.self.view_is) c.requires in
    let left : w.entered < length w.marks.now = omega (arith, more, length-runs_of [] w.marks.now w.numbers.now) in
    let room = c.self.invariant.room in
    let wide : HasRoom news.turnover (length w.flows.items) (length w.flows.items) =
    record { for_gone = omega (arith, room.for_gone, ensures.gone_room); for_come = omega (arith, room.for_come, ensures.come_room) } in
    IsWalk-next w.marks.now w.numbers.now w.entered w.read w.flows.items w.count w.next.items w.turnover _ c.follow-self-inside.result news.flows.items news.next.items
    news.turnover c.self.invariant left ensures.told ensures.held ensures.room ensures.same ensures.turn wide
