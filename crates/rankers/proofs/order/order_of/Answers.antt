use Rattle.std.proofs.Common.{◌∙◌, ap, length, replicate, true}
use Rattle.flow_table.specs.Table.{instance_of}
use Rattle.bssi_order.proofs.AllCoflows.{all_coflows}
use Rattle.rankers.proofs.order.order_of.Goals as goal

pub returns : goal.returns
returns c =
    let table = c.args.table.now in
    let weights = c.args.weights.now in
    record {
      order = c.run.ensures.order (instance_of table weights)
          (all_coflows (length table.ids) table.ports table.flows weights c.in_ok-loads.loads c.in_ok-present.present.items c.deref.result.now c.deref.ensures.value
          (c.in_ok-present.ensures.items_if_clones_equal (λ y same. same) ∙ ap (λ n. replicate n true) c.requires.count) c.in_ok-loads.ensures.coflows_are
          c.in_ok-loads.ensures.ports_are c.in_ok-loads.ensures.loads_are);
    }
