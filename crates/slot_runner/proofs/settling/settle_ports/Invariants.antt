-- the flows so far are settled, and what was sent of them is listed
use Rattle.std.proofs.Common.{◌≡◌, List, map, take}
use Rattle.std.specs.Prelude.{vec_capacity}
use Rattle.journal.specs.declared.command.Entry.{Entry}
use Rattle.journal.specs.Driven.{Drive, driven, sent_from}
use Rattle.journal.specs.Runs.{grant_in}
use Rattle.slot_runner.specs.Settling.{AreToSettle, IsOpenRunOf}
use Rattle.slot_runner.proofs.Settled.{AreSettledOf}
use Rattle.slot_runner.proofs.settling.settle_ports.Given as goal

abbrev pub invariant-loop-port : goal.invariant-loop-port
invariant-loop-port l = record {
  at : l.poster.at ≡ l.fn.poster.at;
  room : vec_capacity l.sent ≡ vec_capacity l.fn.sent;
  settled : (before : List Entry) (d : Drive) → IsOpenRunOf l.hall.setting.opening before d l.driver →
      AreToSettle (grant_in l.hall.setting.opening.table.flows (driven l.hall.setting.opening before d)) d.sent d.first d.slots l.board.ports l.fn.poster.view →
      AreSettledOf l.hall.setting.opening.table.flows d.sent d.first d.slots l.fn.poster.view l.poster.view (take l.port-index (driven l.hall.setting.opening before d));
  sent : (before : List Entry) (d : Drive) → IsOpenRunOf l.hall.setting.opening before d l.driver →
      AreToSettle (grant_in l.hall.setting.opening.table.flows (driven l.hall.setting.opening before d)) d.sent d.first d.slots l.board.ports l.fn.poster.view →
      l.sent.items ≡ map (sent_from l.hall.setting.opening.table.flows d) (take l.port-index (driven l.hall.setting.opening before d));
}
