use Rattle.journal.proofs.FurtherRoom.{further_room}
use Rattle.journal.proofs.laws.journals_have_further_room.Goals as goal

pub returns : goal.returns
returns c = further_room
