-- The journal is that of the master to which the hall was closed.
use Rattle.std.proofs.lemmas.Option.{IfSome_then}
use Rattle.test_support.proofs.small.SmallHall.journal.Goals as goal

pub returns : goal.returns
returns c = record {
  journal = IfSome_then c.journal_of-journal.result c.journal_of-journal.ensures.journal (λ it same. (c.in-Some.master, c.in-Some.ensures.closed, same));
}
