use Rattle.std.proofs.Common.{◌≡◌, ◌+◌, ◌-◌, [], length, ap, arith}
use Rattle.run_list.specs.Runs.{run_of}
use Rattle.run_list.proofs.Keeping.{IsKept-lengthened, last_slots, length-runs_of, runs_lengthened}
use Rattle.run_list.proofs.runs.Runs.lengthen.Goals as goal

pub overflow_add-index_mut : goal.overflow_add-index_mut
overflow_add-index_mut c =
    let marks = c.self.inside.marks.items in
    let numbers = c.self.inside.numbers.items in
    let last = c.len-last.result - 1 in
    let seen = ap length c.self.view_is in
    let counted = length-runs_of [] marks numbers in
    let at : last + 1 ≡ length marks = omega arith in
    let mark = c.index_mut.result.now in
    omega (
      arith,
      c.requires.fits last (run_of 0 []) (omega arith),
      last_slots marks numbers c.args.self.now last (run_of 0 []) mark c.self.view_is at c.index_mut.ensures.value,
    )

pub invariant_of-self : goal.invariant_of-self
invariant_of-self c =
    let kept = c.self.inside in
    let last = c.len-last.result - 1 in
    let seen = ap length c.self.view_is in
    let counted = length-runs_of [] kept.marks.items kept.numbers.items in
    let mark = c.index_mut.result.now in
    IsKept-lengthened kept.marks.items kept.numbers.items kept.last.items kept.widest kept.bound last mark c.args.slots c.self.invariant (omega arith) c.index_mut.ensures.value

pub returns : goal.returns
returns c = λ k r e.
    let marks = c.self.inside.marks.items in
    let numbers = c.self.inside.numbers.items in
    let last = c.len-last.result - 1 in
    let seen = ap length c.self.view_is in
    let counted = length-runs_of [] marks numbers in
    let mark = c.index_mut.result.now in
    runs_lengthened marks numbers c.args.self.now last k r mark c.args.slots c.self.view_is (omega arith) c.index_mut.ensures.value e
