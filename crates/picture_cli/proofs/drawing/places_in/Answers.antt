use Rattle.std.proofs.Common.{◌≡◌, ◌∙◌, List, ℕ, length, ap, arith}
use Rattle.cert_check.proofs.InstanceFacts.{count_coflows, few_places}
use Rattle.cert_check.proofs.Refusals.{no_wrong_place}
use Rattle.cert_check.specs.Places.{coflows_in}
use Rattle.picture_cli.proofs.drawing.places_in.Goals as goal

pub unreachable-requires : goal.unreachable-requires
unreachable-requires c = no_wrong_place c.args.table.now.ids c.args.lines.now c.in-Wrong.field-0 c.requires (rw c.in-Wrong.is at c.in_ok-order.ensures)

pub places_of-requires-clause-few : goal.places_of-requires-clause-few
places_of-requires-clause-few c =
    let ids = c.args.table.now.ids in
    let lines = c.args.lines.now in
    let order : c.deref.result.now ≡ coflows_in ids lines = c.deref.ensures.value ∙ (rw c.in-Coflows.is at c.in_ok-order.ensures).0 in
    omega (
      arith,
      ap (λ (l : List ℕ). length l) order,
      count_coflows ids lines,
      few_places ids lines c.requires,
      c.coflows.ensures.table.few_coflows,
    )
