-- Which steps may be taken in a world.
use Rattle.std.specs.Prelude.{ℕ, ◌==◌, ◌&&◌, Bool, true, false, not, nat_le, nat_lt, if◌then◌else◌, Option, Some, None}
use Rattle.std.specs.Prelude.{is_none, is_some, unwrap_or}
use Rattle.std.specs.List.{list_all, range_with_len}
use Rattle.coflow_units.specs.PortWord.{is_drawn_by, is_granted}
use Rattle.journal.specs.declared.command.Command.{Command}
use Rattle.journal.specs.declared.command.Command.TheVariants.{Short}
use Rattle.journal.specs.declared.command.Command.TheVariants.{Close as CloseRun}
use Rattle.journal.specs.declared.opening.Opening.{Opening}
use Rattle.journal.specs.State.{Run}
use Rattle.journal.specs.Runs.{grant_in, note_in}
use Rattle.journal.specs.Answer.{in_range}
use Rattle.world_model.specs.declared.event.Event.{Event}
use Rattle.world_model.specs.declared.event.Event.TheVariants.{Ask, Post, Draw, Send, Report, Settle, Note, Close}
use Rattle.world_model.specs.Port.{PortFacts}
use Rattle.world_model.specs.Sent.{sent_for}
use Rattle.world_model.specs.World.{WorldFacts, port_at, run_of}

-- the command is neither Short nor Close: the driver asks these by the steps Note and Close
abbrev pub is_free : Command → Bool
is_free (Short port units) = false
is_free CloseRun = false
is_free k = true

-- a run is open, and the test holds of it
abbrev pub in_run : Option Run → (Run → Bool) → Bool
in_run None test = false
in_run (Some r) test = test r

-- the port was posted in the run: first slots of runs rise strictly
abbrev pub is_posted : Run → PortFacts → Bool
is_posted r x = x.slot == r.first

-- the port is settled with fewer units than the run has slots
abbrev pub is_short : Run → PortFacts → Bool
is_short r x = is_some x.settled && nat_lt (unwrap_or x.settled 0) r.slots

-- the port has no grant in the run; or it is settled, and where it is short its number is noted
abbrev pub is_done : Opening → Run → ℕ → PortFacts → Bool
is_done o r port x =
    if is_none (grant_in o.table.flows r.granted port) then true
    else is_some x.settled && (if is_short r x then is_some (note_in r.notes port) &&
    (unwrap_or (note_in r.notes port) 0 == unwrap_or x.settled 0) else true)

-- The step may be taken. A caller asks commands in range, free ones. The driver posts a grant of the open run once,
-- settles a post once, notes a port that is short, and closes the run where
-- each port with a grant in it is done. An agent draws a post that nobody drew, sends once for what it drew, from 1
-- unit to the count, and reports what it drew.
abbrev pub can : WorldFacts → Event → Bool
can w (Ask who k) = is_free k && in_range w.opening k
can w (Post port) =
    nat_lt port w.opening.table.ports && in_run (run_of w)
    (λ r. is_some (grant_in w.opening.table.flows r.granted port) && not (is_posted r (port_at w port)))
can w (Draw agent port) = nat_lt port w.opening.table.ports &&
    (nat_lt agent w.agents && is_granted (port_at w port).stage)
can w (Send agent port units) =
    nat_lt port w.opening.table.ports && (nat_lt agent w.agents && (is_drawn_by agent (port_at w port).stage
    && ((sent_for w.sent port (port_at w port).slot == 0) && (nat_lt 0 units && nat_le units (port_at w port).count))))
can w (Report agent port) = nat_lt port w.opening.table.ports &&
    (nat_lt agent w.agents && is_drawn_by agent (port_at w port).stage)
can w (Settle port) = nat_lt port w.opening.table.ports && in_run (run_of w)
    (λ r. is_posted r (port_at w port) && is_none (port_at w port).settled)
can w (Note port) = nat_lt port w.opening.table.ports && in_run (run_of w) (λ r. is_short r (port_at w port))
can w Close = in_run (run_of w)
    (λ r. list_all (λ port. is_done w.opening r port (port_at w port)) (range_with_len 0 w.opening.table.ports))
