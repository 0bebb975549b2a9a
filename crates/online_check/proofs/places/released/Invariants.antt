-- the places so far
use Rattle.std.proofs.Common.{◌≡◌, ℕ, List, map, take}
use Rattle.cert_check.specs.Places.{coflows_in}
use Rattle.online_check.specs.Released.{plain_lines, released_for}
use Rattle.online_check.proofs.places.released.Given as goal

abbrev pub invariant-loop-index : goal.invariant-loop-index
invariant-loop-index l = (ids : List ℕ) → l.coflows ≡ coflows_in ids (plain_lines l.lines) → l.places.items ≡ map (released_for ids) (take l.index l.lines)
