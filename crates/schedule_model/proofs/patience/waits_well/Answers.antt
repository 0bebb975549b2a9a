use Rattle.std.proofs.Common.{◌+◌, ◌<◌, ℕ, length, arith}
use Rattle.coflow_units.specs.declared.fabric.Flow.{Flow}
use Rattle.coflow_units.specs.declared.fabric.Side.TheVariants.{Ingress, Egress}
use Rattle.coflow_units.specs.Flows.{egress_of, ingress_of}
use Rattle.schedule_model.proofs.WaitSteps.{IsTable, waits_from, waits_to}
use Rattle.schedule_model.proofs.patience.waits_well.Goals as goal

pub returns : goal.returns
returns c =
    let flows = c.args.flows.now in
    let order = c.args.order.now in
    let places = c.args.places.now in
    let slot = c.args.slot.now in
    let ingress = c.note_places.new.least in
    let egress = c.note_places-2.new.least in
    let none : Flow = record { coflow = 0; ingress = 0; egress = 0; units = 0 } in
    let ti : IsTable flows places Ingress slot (length order + 1) ingress = λ p m in' small. c.note_places.ensures p m (omega (arith, in', c.note_places.auto.least)) small in
    let te : IsTable flows places Egress slot (length order + 1) egress = λ p m in' small. c.note_places-2.ensures p m (omega (arith, in', c.note_places-2.auto.least)) small in
    let in_i = λ (f : ℕ) (lt : f < length flows). let h : ingress_of flows f < length ingress = omega (arith, c.requires.ingress f none lt, c.note_places.auto.least) in h in
    let in_e = λ (f : ℕ) (lt : f < length flows). let h : egress_of flows f < length egress = omega (arith, c.requires.egress f none lt, c.note_places-2.auto.least) in h in (
      (λ t f lt left. waits_from flows order places slot ingress egress f c.requires.names c.requires.places lt (in_i f lt) (in_e f lt) ti te (c.all_wait.ensures.0 t f lt left)),
      (λ all. c.all_wait.ensures.1 (λ f lt left. waits_to flows order places slot ingress egress f c.requires.names c.requires.places lt (in_i f lt) (in_e f lt) ti te
          (all f lt left))),
    )
