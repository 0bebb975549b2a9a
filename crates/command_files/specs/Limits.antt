-- Which quantities a command may find outside their ranges.
use Rattle.std.specs.Prelude.{List, ℕ}
use Rattle.command_words.specs.Jobs.{Job}
use Rattle.command_words.specs.Jobs.Job.{live_job, online_job, record_job, replay_job, serve_job}
use Rattle.coflow_units.specs.declared.limits.TheConstants.{MAX_REPORT, MAX_TEXT}
use Rattle.coflow_units.specs.declared.quantity.Quantity.{Quantity}
use Rattle.coflow_units.specs.declared.quantity.Quantity.TheVariants.{Clients, Commands, Epochs}

-- the job serves coflows as they arrive
abbrev pub ServesArrivals : Job → Type 0
ServesArrivals (online_job trace) = Unit {0}
ServesArrivals (replay_job trace) = Unit {0}
ServesArrivals (record_job trace policy) = Unit {0}
ServesArrivals job = ⊥

-- the job is a script of clients
abbrev pub RunsClients : Job → Type 0
RunsClients (live_job trace script) = Unit {0}
RunsClients job = ⊥

-- A command with this job may end at a limit of this quantity: an online run or a replay at that of its epochs, a script
-- at those of its clients and its commands, and each of them at those of the bytes of its files, the trace, the weights
-- and the table.
abbrev pub MayLimit : Job → Quantity → Type 0
MayLimit job Epochs = ServesArrivals job
MayLimit job Clients = RunsClients job
MayLimit job Commands = RunsClients job
MayLimit job which = Unit {0}

-- each command may end at a limit of this quantity
abbrev pub EachMayLimit : Quantity → Type 0
EachMayLimit which = (job : Job) → MayLimit job which

-- each command that runs a script may do so
abbrev pub ClientsMayLimit : Quantity → Type 0
ClientsMayLimit which = (trace script : List ℕ) → MayLimit (live_job trace script) which

-- how many bytes the report, the printed journal or the order of a job has at most
abbrev pub most_bytes : Job → ℕ
most_bytes (serve_job trace order) = MAX_TEXT
most_bytes job = MAX_REPORT
