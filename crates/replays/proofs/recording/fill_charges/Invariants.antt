-- the coflows of the places so far have what these charge
use Rattle.std.proofs.Common.{◌≡◌, ℕ, get_or, length, take, Contains}
use Rattle.coflow_units.specs.Certificate.{front}
use Rattle.bssi_order.specs.Order.{entries_of}
use Rattle.online_text.specs.declared.value.OnlinePlace.{OnlinePlace}
use Rattle.online_runs.specs.Value.{place_line}
use Rattle.replays.specs.Recorded.{charge_of}
use Rattle.replays.proofs.recording.fill_charges.Given as goal

abbrev pub invariant-loop-place : goal.invariant-loop-place
invariant-loop-place l = record {
  each : length l.charges ≡ length l.table.ids;
  filled : (c : ℕ) (none : OnlinePlace) → Contains (front (entries_of (take l.place-index l.places))) c →
      get_or l.charges c none ≡ place_line l.table.ids (charge_of (entries_of (take l.place-index l.places)) c);
}
