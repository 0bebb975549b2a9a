use Rattle.journal.proofs.FurtherRoom.{few_versions}
use Rattle.journal.proofs.VersionEntries.{counted, made, only}
use Rattle.journal.proofs.laws.versions_have_their_entries.Goals as goal

pub returns-clause-made : goal.returns-clause-made
returns-clause-made c = made

pub returns-clause-once : goal.returns-clause-once
returns-clause-once c = λ o journal v legal some le. (counted o journal v legal).once some le

pub returns-clause-only : goal.returns-clause-only
returns-clause-only c = only

pub returns-clause-later : goal.returns-clause-later
returns-clause-later c = λ o journal v legal lt. (counted o journal v legal).above lt

pub returns-clause-few : goal.returns-clause-few
returns-clause-few c = few_versions
