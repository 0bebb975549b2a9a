-- What an open run comes to, from its posts to its close.
use Rattle.std.specs.Prelude.{◌≡◌, ℕ, ◌+◌, List, ◌++◌, length, Option}
use Rattle.journal.specs.declared.command.Entry.{Entry}
use Rattle.journal.specs.declared.command.Reply.{Reply}
use Rattle.journal.specs.declared.opening.Opening.{Opening}
use Rattle.journal.specs.Driven.{Drive, driven, IsDriven}
use Rattle.journal.specs.Runs.{grant_in}
use Rattle.turnstile.specs.Histories.{NoneAbove}
use Rattle.client_session.specs.Desk.{IsSeen}
use Rattle.client_session.specs.Drivers.{StaysInHall, who_of}
use Rattle.slot_runner.specs.Models.{RunnerModel}
use Rattle.slot_runner.specs.Posts.{posts_of, settlements_of}
use Rattle.slot_runner.specs.Settling.{CallsFall, IsFirstShort}
use Rattle.slot_runner.specs.Slots.{AreSent}

-- the run with what was sent from each port, the entries after its opening, and what its close was answered
abbrev pub ended : Drive → (ℕ → ℕ) → List Entry → Reply → Drive
ended d sent between answer = record d { sent = sent; between = between; answer = answer }

module _ {W : Type 0} (faults : W → ℕ) (runs : W → Option (List (ℕ × ℕ × ℕ))) where
  -- The run that is open was closed with what was sent, and its grants were posted, settled and listed. The answer is
  -- the first port that sent less than the run has slots.
  pub record IsCarriedOut (o : Opening) (before : List Entry) (d : Drive) (old new : RunnerModel) (ws ws' : List W)
      (short : Option (ℕ × ℕ)) : Type 0 where
    pub sent : ℕ → ℕ
    pub between : List Entry
    pub answer : Reply
    pub place : StaysInHall old.driver new.driver
    pub journal : IsDriven o before new.driver.journal (ended d sent between answer)
    pub position : new.driver.position ≡ length new.driver.journal
    pub seen : IsSeen o new.driver.journal
    pub numbers : NoneAbove who_of new.driver.made new.driver.journal
    pub calls : CallsFall old.driver new.driver
    pub granted : new.granted ≡ driven o before d
    pub ports : new.ports ≡ old.ports
    pub posts : new.posts
        ≡ old.posts ++ posts_of o.table.flows (driven o before d) d.first d.slots
    pub settled : new.settled
        ≡ old.settled ++ settlements_of o.table.flows (driven o before d) sent d.first d.slots
    pub posted_to : new.posted_to ≡ d.first + d.slots
    pub wires : AreSent faults runs (ended d sent between answer)
        (grant_in o.table.flows (driven o before d)) old.ports ws ws'
    pub first_short : IsFirstShort (grant_in o.table.flows (driven o before d)) sent d.slots old.ports short
