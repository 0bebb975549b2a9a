-- The next flow to the front joins the group behind it or is the last of its own.
use Rattle.std.proofs.Common.{◌≡◌, ℕ, ◌+◌, ◌-◌, subst, arith}
use Rattle.greedy_rates.proofs.Groups.{IsGroupsFrom, groups_are, group_joins, group_ends}
use Rattle.greedy_rates.proofs.owing.groups_of.Goals as goal

pub loop-first-preserved-then-goes_on : goal.loop-first-preserved-then-goes_on
loop-first-preserved-then-goes_on c =
    let next : c.loop-first.first ≡ c.loop-first.first - 1 + 1 = omega (arith, c.loop-first-test.true) in
    let (lt, coflow, ingress) = c.goes_on.ensures.0 c.if-goes_on.true in (
      omega (arith, c.loop-first.invariant.0),
      group_joins c.args.flows.now c.loop-first.behind.items (c.loop-first.first - 1) c.index.result.now c.index.ensures lt coflow ingress
          (subst (λ (n : ℕ). IsGroupsFrom c.args.flows.now c.loop-first.behind.items n) next c.loop-first.invariant.1),
    )

pub loop-first-preserved : goal.loop-first-preserved
loop-first-preserved c =
    let next : c.loop-first.first ≡ c.loop-first.first - 1 + 1 = omega (arith, c.loop-first-test.true) in (
      omega (arith, c.loop-first.invariant.0),
      group_ends c.args.flows.now c.loop-first.behind.items (c.loop-first.first - 1) (omega (arith, c.loop-first.invariant.0, c.loop-first-test.true))
          (subst (λ (n : ℕ). IsGroupsFrom c.args.flows.now c.loop-first.behind.items n) next c.loop-first.invariant.1),
    )

pub returns : goal.returns
returns c = groups_are c.args.flows.now c.loop-first.behind.items
    (subst (λ (n : ℕ). IsGroupsFrom c.args.flows.now c.loop-first.behind.items n) (omega (arith, c.loop-first-test.false)) c.loop-first.invariant.1)
