use Rattle.std.proofs.Common.{◌+◌, ◌-◌, ◌*◌, length, arith}
use Rattle.matching.proofs.LookSteps.{looked_first, looked_second, row_end}
use Rattle.matching.proofs.heads.Heads.look.Goals as goal

pub slice_bounds-row-end : goal.slice_bounds-row-end
slice_bounds-row-end c =
    omega (arith, row_end c.args.ranks.now.ports c.args.port (length c.args.self.now.least.items) c.requires.port c.requires.size, c.deref.ensures.len)

pub returns-then-port-ranks : goal.returns-then-port-ranks
returns-then-port-ranks c =
    let ports = c.args.ranks.now.ports in
    let heads = c.args.self.now.least.items in
    let at = c.args.board.now.at.items in
    let start = c.args.port * ports in
    let row = rw c.deref.ensures.value at c.least_open-least.ensures in
    let both = rw c.deref-then-port-ranks.ensures.value at row in
    looked_first ports c.args.port c.least_open-least.result (start + ports - start) heads at c.requires.port c.requires.size (omega arith) (length at - ports) c.if-port-ranks.true
    (omega (arith, c.requires.board)) both

pub returns : goal.returns
returns c =
    let ports = c.args.ranks.now.ports in
    let heads = c.args.self.now.least.items in
    let at = c.args.board.now.at.items in
    let start = c.args.port * ports in
    let row = rw c.deref.ensures.value at c.least_open-least-2.ensures in
    let both = rw c.deref-2.ensures.value at row in
    looked_second ports c.args.port c.least_open-least-2.result (start + ports - start) heads at c.requires.port c.requires.size (omega arith)
    (omega (arith, c.if-port-ranks.false)) both
