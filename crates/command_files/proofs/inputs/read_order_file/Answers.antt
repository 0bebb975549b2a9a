use Rattle.std.proofs.Common.{◌≡◌}
use Rattle.orders.specs.Orders.{order_in}
use Rattle.command_files.specs.Faults.{IsStatusOfOrder}
use Rattle.command_files.proofs.OrderFacts.{order_cause}
use Rattle.command_files.proofs.ShelfFacts.{passed_as}
use Rattle.command_files.proofs.inputs.read_order_file.Goals as goal

pub returns-in_err-order-clause-cause : goal.returns-in_err-order-clause-cause
returns-in_err-order-clause-cause g c =
    passed_as c.from_residual-in_err-order.result (IsStatusOfOrder c.in_err-order.field-0.0) _ c.from_residual-in_err-order.ensures.1
    (λ s is. order_cause c.args.table.now.ids (g.H.Shelf.faults c.args.shelf.now) (g.H.Shelf.faults c.read_file.new.shelf) (g.H.Shelf.told c.args.shelf.now)
    (g.H.Shelf.told c.read_file.new.shelf) c.args.name.now c.in_ok-bytes.bytes.items c.deref.result.now
    (λ order. order ≡ order_in c.deref.result.now c.args.table.now.ids) c.in_err-order.field-0.0 s
    c.in_ok-bytes.ensures.bytes c.deref.ensures.value c.in_ok-bytes.ensures.short c.in_err-order.ensures is)
