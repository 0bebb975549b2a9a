use Rattle.std.proofs.Common.{◌≡◌, ◌<◌, ◌+◌, length, get_or, subst, sym, ◌∙◌, arith}
use Rattle.std.proofs.lemmas.Grind.{get_or_default_zero}
use Rattle.std.proofs.lemmas.List.{get_or_default}
use Rattle.flow_table.specs.declared.spots.Spot.{Spot}
use Rattle.flow_table.specs.Targets.{whole_to}
use Rattle.flow_table.proofs.TargetSteps.{TargetsSoFar, targets_all, targets_begin, targets_push, targets_reach, targets_reach_all, whole_bound}
use Rattle.flow_table.proofs.targets.targets_of.Goals as goal

pub targets-init : goal.targets-init
targets-init c = (
  0,
  subst (λ l. TargetsSoFar c.args.rests.now (whole_to c.args.unit.megabytes c.args.line.now) 0 0 l) (sym c.new-targets.ensures.items)
      (targets_begin c.args.rests.now (whole_to c.args.unit.megabytes c.args.line.now)),
)

pub targets-preserved : goal.targets-preserved
targets-preserved c =
    let (egress, so_far) = c.targets.invariant in
    let rests = c.args.rests.now in
    let wholes = whole_to c.args.unit.megabytes c.args.line.now in
    let first = c.targets.first in
    let x : Spot = get_or rests first record { location = 0; number = 0 } in
    let is : x ≡ get_or rests first x = get_or_default rests first record { location = 0; number = 0 } x c.targets-test.true in
    let up = c.requires.sorted.locations in
    let lt : x.location < c.args.ports = c.requires.within first record { location = 0; number = 0 } c.targets-test.true in
    let whole : c.index.result.now ≡ wholes x.location =
    c.index.ensures ∙ get_or_default_zero c.in_ok-wholes.wholes.items x.location c.index.result.now (omega (arith, lt, c.in_ok-wholes.ensures.count)) ∙
    c.in_ok-wholes.ensures.wholes x.location lt in (
      x.location + 1,
      subst (λ l. TargetsSoFar rests wholes (x.location + 1) c.end_of-end.result l) (sym c.in_ok-push.ensures.items)
          (targets_push rests wholes x.location first c.end_of-end.result c.targets.targets.items up
          (targets_reach rests wholes egress first c.targets.targets.items x up so_far c.targets-test.true is) c.end_of-end.ensures c.index.result.now whole),
    )

pub returns-clause-targets : goal.returns-clause-targets
returns-clause-targets c = let (egress, so_far) = c.targets.invariant in
    targets_all c.args.rests.now (whole_to c.args.unit.megabytes c.args.line.now) egress c.targets.first c.targets.targets.items c.requires.sorted
    (λ e. omega (arith, whole_bound c.args.unit.megabytes c.args.line.now e, c.requires.units)) so_far

pub returns-clause-all : goal.returns-clause-all
returns-clause-all c = let (egress, so_far) = c.targets.invariant in
    targets_reach_all c.args.rests.now (whole_to c.args.unit.megabytes c.args.line.now) egress c.targets.first c.targets.targets.items so_far (omega (arith, c.targets-test.false))
