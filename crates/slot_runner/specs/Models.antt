-- What contracts see of a runner, and what it keeps between its runs.
use Rattle.std.specs.Prelude.{◌≡◌, ℕ, ◌<◌, ◌≤◌, false, List, [], All, AllPairs, Contains, length, None}
use Rattle.journal.specs.Fold.{state_of}
use Rattle.port_board.specs.declared.view.Came.{Came}
use Rattle.port_board.specs.declared.view.Grant.{Grant}
use Rattle.port_board.specs.declared.view.Report.{Report}
use Rattle.port_board.specs.declared.view.Settlement.{Settlement}
use Rattle.port_board.specs.declared.view.View.{View}
use Rattle.port_board.specs.Agreement.{EachPosted, SharesNothing}
use Rattle.port_board.specs.Views.{is_unsettled}
use Rattle.client_session.specs.Models.{DriverModel, HallModel, IsDriverOf}

-- a runner: its driver, its number of ports, the slot before which all of its runs ended, its posts on the ports and how
-- it settled them, and the flows of its last run
pub record RunnerModel : Type 0 where
  pub driver : DriverModel
  pub ports : ℕ
  pub posted_to : ℕ
  pub posts : List Grant
  pub settled : List Settlement
  pub granted : List ℕ

-- a runner that has made no run yet
abbrev pub first_runner : DriverModel → ℕ → RunnerModel
first_runner driver ports =
    record { driver = driver; ports = ports; posted_to = 0; posts = []; settled = []; granted = [] }

-- The runner may open a run in the hall: the driver is the hall's and has no run open, the ports are those of the
-- hall's table, and the driver has seen that all slots of the runner's runs have passed.
pub record MayRun (hall : HallModel) (r : RunnerModel) : Type 0 where
  pub driver : IsDriverOf hall r.driver
  pub ports : r.ports ≡ hall.setting.opening.table.ports
  pub closed : (state_of hall.setting.opening r.driver.journal).run ≡ None
  pub later : r.posted_to ≤ (state_of hall.setting.opening r.driver.journal).next

-- a seat that came back drew the grant and reported it
abbrev pub WasReported : View → Grant → Type 0
WasReported v g = (c : Came) × (r : Report) × Contains v.back c × Contains c.done r × (r.grant ≡ g)

-- What the poster keeps between runs: no agent is out, each post is settled, was drawn and reported, and is of a slot
-- before this one, and the seats that came back drew posts alone, no two of them the same.
pub record IsIdle (posted_to : ℕ) (v : View) : Type 0 where
  pub none_out : length v.back ≡ v.made
  pub all_settled : (port : ℕ) → is_unsettled port v.posts v.settled ≡ false
  pub posts_before : All (λ (g : Grant). g.slot < posted_to) v.posts
  pub settled_before : All (λ (s : Settlement). s.grant.slot < posted_to) v.settled
  pub posted : EachPosted v
  pub apart : AllPairs SharesNothing v.back
  pub reported : All (WasReported v) v.posts
