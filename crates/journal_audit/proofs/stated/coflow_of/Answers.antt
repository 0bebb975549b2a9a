use Rattle.std.proofs.Common.{nat_eq}
use Rattle.indexmap.specs.IndexMap.{get}
use Rattle.journal_audit.proofs.KnownIds.{known_or_not}
use Rattle.journal_audit.proofs.stated.coflow_of.Goals as goal

pub returns : goal.returns
returns c = λ ids finds. known_or_not ids (get nat_eq c.args.coflows.now) c.args.id _ c.found.ensures finds
