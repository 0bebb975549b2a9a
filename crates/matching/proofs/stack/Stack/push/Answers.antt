use Rattle.std.proofs.Common.{get_or, take, ◌+◌, set, subst, ap, arith, ◌<◌, length, ◌≡◌, false}
use Rattle.matching.specs.Waits.{IsPushed}
use Rattle.matching.proofs.WaitSteps.{has_place, pushed_marks, pushed, read_as}
use Rattle.matching.proofs.stack.Stack.push.Goals as goal

pub index_mut-requires-2 : goal.index_mut-requires-2
index_mut-requires-2 c =
    let s = c.self.inside in
    let lt : c.args.port < length s.marks.items = omega (arith, c.requires, ap (λ v. v.room) c.self.view_is) in
    let free : get_or s.marks.items c.args.port false ≡ false = read_as s.marks.items c.args.port c.index.result.now false lt c.index.ensures c.if-index.false in
    omega (arith, has_place s.count s.ports.items s.marks.items c.args.port c.self.invariant lt free)

pub overflow_add-self : goal.overflow_add-self
overflow_add-self c =
    let s = c.self.inside in
    let lt : c.args.port < length s.marks.items = omega (arith, c.requires, ap (λ v. v.room) c.self.view_is) in
    let free : get_or s.marks.items c.args.port false ≡ false = read_as s.marks.items c.args.port c.index.result.now false lt c.index.ensures c.if-index.false in
    omega (arith, has_place s.count s.ports.items s.marks.items c.args.port c.self.invariant lt free)

pub invariant_of-self : goal.invariant_of-self
invariant_of-self c =
    let s = c.self.inside in
    let lt : c.args.port < length s.marks.items = omega (arith, c.requires, ap (λ v. v.room) c.self.view_is) in
    let free : get_or s.marks.items c.args.port false ≡ false = read_as s.marks.items c.args.port c.index.result.now false lt c.index.ensures c.if-index.false in
    pushed_marks s.count s.ports.items s.marks.items c.args.port c.self.invariant lt free

pub returns-clause-pushed : goal.returns-clause-pushed
returns-clause-pushed c =
    let s = c.self.inside in
    let lt : c.args.port < length s.marks.items = omega (arith, c.requires, ap (λ v. v.room) c.self.view_is) in
    let free : get_or s.marks.items c.args.port false ≡ false = read_as s.marks.items c.args.port c.index.result.now false lt c.index.ensures c.if-index.false in
    subst (λ xs. IsPushed xs (take (s.count + 1) (set s.ports.items s.count c.args.port)) c.args.port) (ap (λ v. v.ports) c.self.view_is)
    (pushed s.count s.ports.items s.marks.items c.args.port c.self.invariant lt free)
