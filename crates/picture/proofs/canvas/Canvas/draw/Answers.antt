use Rattle.std.proofs.Common.{◌<◌, ◌∙◌, arith, get_or, length}
use Rattle.coflow_units.specs.declared.fabric.Flow.{Flow}
use Rattle.schedule_model.specs.Repeat.{end_number}
use Rattle.picture.proofs.DrawSteps.{draw_more}
use Rattle.picture.proofs.canvas.Canvas.draw.Goals as goal

pub loop-number-preserved : goal.loop-number-preserved
loop-number-preserved c =
    let flows = c.args.flows.now in
    let x = get_or c.args.numbers.now c.loop-number.number-index 0 in
    let none : Flow = record { coflow = 0; ingress = 0; egress = 0; units = 0 } in
    let port : end_number flows c.args.window.side x < length c.args.self.now.rows.items =
    c.requires.ports x none (c.requires.clear.flow c.loop-number.number-index 0 c.loop-number-test.true) in
    let inside : c.port_at.result < length c.loop-number.self.rows.items = omega (arith, port, c.port_at.ensures, c.loop-number.invariant.row_each) in
    record {
      row_each = c.in_ok-add.ensures.row_each ∙ c.loop-number.invariant.row_each;
      drawn = draw_more c.args.flows.now c.args.numbers.now c.loop-number.number-index c.port_at.result c.args.window c.args.self.now.rows.items c.loop-number.self.rows.items
          c.add.new.self.rows.items c.args.self.now.count c.loop-number.self.count c.add.new.self.count c.requires.clear c.loop-number-test.true c.port_at.ensures inside
          c.loop-number.invariant.drawn c.in_ok-add.ensures.added;
    }
