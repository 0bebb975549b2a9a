-- the charges of the coflows so far
use Rattle.std.proofs.Common.{◌≡◌, ℕ, get_or, map, take}
use Rattle.online_text.specs.declared.value.OnlinePlace.{OnlinePlace}
use Rattle.replays.proofs.recording.charges_of.Given as goal

abbrev pub invariant-loop-coflow : goal.invariant-loop-coflow
invariant-loop-coflow l = (none : OnlinePlace) → l.charged.items ≡ map (λ (c : ℕ). get_or l.charges c none) (take l.coflow-index l.line)
