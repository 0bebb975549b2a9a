use Rattle.turnstile.proofs.OwnEntries.{own_entries}
use Rattle.turnstile.proofs.laws.own_entries_are_seen.Goals as goal

pub returns : goal.returns
returns g c = record { own = own_entries g.T.Chronicle.by }
