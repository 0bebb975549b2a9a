use Rattle.std.proofs.Common.{◌≤◌, ◌^◌, arith, sym, subst}
use Rattle.text_fields.specs.Numbers.{AreIds}
use Rattle.orders.proofs.Places.{large_is_unknown}
use Rattle.orders.proofs.coflows.Coflows.number.Goals as goal

pub returns-then-id-from-clause-number : goal.returns-then-id-from-clause-number
returns-then-id-from-clause-number c n is =
    let large : 2 ^ 32 ≤ n = omega (arith, is, c.from.ensures, c.if-id-from.true) in
    let ids : AreIds c.args.self.now = subst AreIds c.self.view_is c.self.invariant.1 in
    sym (large_is_unknown c.args.self.now n ids large)
