-- A run of `live` before its first round.
use Rattle.std.proofs.Common.{◌≡◌, ℕ, ◌^◌, List, [], length, sym, ap, subst, ◌∙◌, arith}
use Rattle.std.specs.Prelude.{All}
use Rattle.std.proofs.lemmas.List.Elements.{All-nil}
use Rattle.journal.specs.declared.command.Entry.{Entry}
use Rattle.journal.specs.Driven.{driver_entries}
use Rattle.journal.specs.Fold.{state_of}
use Rattle.workload.specs.declared.script.Script.{Script}
use Rattle.client_session.specs.Desk.{IsSeen}
use Rattle.client_session.proofs.Agreement.{nothing_seen}
use Rattle.client_session.specs.Halls.{IsFirstDriver}
use Rattle.client_session.specs.Models.{DriverModel, HallModel, IsDriverOf, IsSessionOf, SessionModel}
use Rattle.slot_runner.specs.Models.{first_runner}
use Rattle.live_model.specs.Script.{lines_of}
use Rattle.live_rounds.proofs.DriversTold.{none_opened}
use Rattle.live_rounds.specs.Drivers.{AreOpenings}
use Rattle.live_serving.specs.Followed.{AreBegun}
use Rattle.live_serving.proofs.RoundsOn.{none_done}
use Rattle.live_serving.specs.Going.{IsFor, IsGoing}
use Rattle.slot_runner.specs.Cuts.{AllSentWhole}
use Rattle.live_serving.proofs.PullsInTable.{InTable}
use Rattle.live_serving.proofs.SentWhole.{whole_first}

pub begins : (hall : HallModel) (script : Script) (most ports : ℕ) (first driver : DriverModel) (sessions : List SessionModel) → IsFor hall script →
    IsFirstDriver hall (2 ^ 40) first → driver ≡ record first { made = script.clients } → All (IsSessionOf hall) sessions →
    AreBegun (length (lines_of script)) 1 sessions → length sessions ≡ script.clients → ports ≡ hall.setting.opening.table.ports →
    IsGoing hall script most 0 (first_runner driver ports) sessions []
begins hall script most ports first driver sessions for' f is own begun each ports_are =
    let o = hall.setting.opening in
    let empty : driver.journal ≡ [] = ap (λ (d : DriverModel). d.journal) is ∙ f.journal in
    let driver_of : IsDriverOf hall driver = ((λ i. (is i).gate) ∙ f.hall_is.0, (λ i. (is i).setting) ∙ f.hall_is.1, (λ i. (is i).rank.table) ∙ f.hall_is.2) in record {
      hall_is = for';
      seated = record { driver_of = driver_of; own = own; each = each; made = ap (λ (d : DriverModel). d.made) is };
      drives = record {
        may = record {
          driver = driver_of;
          ports = ports_are;
          closed = ap (λ l. (state_of o l).run) empty;
          later = omega arith;
        };
        seen = subst (IsSeen o) (sym empty) (nothing_seen o);
        calls = omega (arith, ap (λ (d : DriverModel). d.left) is, f.left, ap (λ (l : List Entry). length (driver_entries l)) empty);
        spells = [];
        openings = subst (λ l. AreOpenings most l []) (sym empty) (none_opened most);
        whole = subst (AllSentWhole o) (sym empty) (whole_first o);
      };
      done = none_done most (length (lines_of script)) driver sessions empty (ap (λ (d : DriverModel). d.position) is ∙ f.position) begun;
      coflows = All-nil (InTable (length o.table.ids));
    }
