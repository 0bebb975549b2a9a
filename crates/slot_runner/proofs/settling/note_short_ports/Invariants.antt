-- the ports so far are noted
use Rattle.std.proofs.Common.{◌≡◌, List}
use Rattle.journal.specs.declared.command.Entry.{Entry}
use Rattle.journal.specs.Driven.{Drive, driven}
use Rattle.journal.specs.Runs.{grant_in}
use Rattle.client_session.specs.Desk.{IsSeen}
use Rattle.client_session.specs.Models.{IsDriverOf}
use Rattle.slot_runner.specs.Settling.{AreNoted, IsFirstShort, IsListedSent, IsOpenRunOf}
use Rattle.slot_runner.proofs.settling.note_short_ports.Given as goal

abbrev pub invariant-loop-port : goal.invariant-loop-port
invariant-loop-port g l = record {
  driver : IsDriverOf l.hall l.driver;
  seen : IsSeen l.hall.setting.opening l.driver.journal;
  noted : (before : List Entry) (d : Drive) → l.length ≡ d.slots → IsOpenRunOf l.hall.setting.opening before d l.fn.driver → IsListedSent l.hall.setting.opening before d l.sent →
      AreNoted l.hall.setting.opening before d l.fn.driver l.driver l.port;
  first_short : (before : List Entry) (d : Drive) → l.length ≡ d.slots → IsOpenRunOf l.hall.setting.opening before d l.fn.driver →
      IsListedSent l.hall.setting.opening before d l.sent →
      IsFirstShort (grant_in l.hall.setting.opening.table.flows (driven l.hall.setting.opening before d)) d.sent d.slots l.port l.fault;
}
