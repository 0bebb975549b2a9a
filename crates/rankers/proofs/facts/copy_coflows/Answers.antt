use Rattle.std.proofs.Common.{◌≡◌, ◌≢◌, ℕ, ◌<◌, get_or, length, ap, sym, ◌∙◌, arith, below_more, get_or-set_other, get_or-set_same}
use Rattle.std.specs.Prelude.{map}
use Rattle.std.proofs.lemmas.List.{ext_get_or, get_or-map, length-map, length-set}
use Rattle.coflow_units.specs.declared.plan.Place.{Place}
use Rattle.rankers.proofs.facts.copy_coflows.Goals as goal

pub returns : goal.returns
returns c =
    let places = map (λ (x : Place). x.coflow) c.args.places.now in
    let count : length c.loop-place.order ≡ length places = omega (arith, c.loop-place.invariant.count, c.requires, length-map c.args.places.now (λ (x : Place). x.coflow)) in
    ext_get_or 0 c.loop-place.order places count (λ k lt. c.loop-place.invariant.copied k (omega (arith, lt, c.loop-place-test.false, c.loop-place.invariant.count)))
