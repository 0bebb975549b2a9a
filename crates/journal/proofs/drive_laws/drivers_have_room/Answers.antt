use Rattle.journal.proofs.UnderWay.{few_endings, room_to_end}
use Rattle.journal.proofs.drive_laws.drivers_have_room.Goals as goal

pub returns-clause-few : goal.returns-clause-few
returns-clause-few c = few_endings

pub returns-clause-room : goal.returns-clause-room
returns-clause-room c = room_to_end
