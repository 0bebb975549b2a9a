use Rattle.std.proofs.Common.{length, ap, arith}
use Rattle.std.proofs.lemmas.List.{length-take}
use Rattle.report_text.proofs.FlowsText.{width_most}
use Rattle.report_text.proofs.piece.Piece.append_flows.Goals as goal

pub write_flows-self-inside-requires : goal.write_flows-self-inside-requires
write_flows-self-inside-requires c = omega (
  arith,
  ap length c.self.view_is,
  length-take c.self.inside.filled c.self.inside.bytes.items,
  width_most c.args.flows.now (λ k. omega (arith, c.type_inv.flows k)),
)
