use Rattle.std.proofs.Common.{ℕ, get_or}
use Rattle.matching.proofs.MatchingSteps.{begun_sound, begun_matching}
use Rattle.matching.proofs.RoomSteps.{room_again, room_stays}
use Rattle.matching.proofs.tables.Tables.begin.Goals as goal

pub repair-requires-clause-sound : goal.repair-requires-clause-sound
repair-requires-clause-sound c = begun_sound c.args.flows.now c.args.line.now (λ f. get_or c.args.left.now f 0) c.lay_out.new.self c.lay_out.ensures.begun

pub returns-clause-settled : goal.returns-clause-settled
returns-clause-settled c =
    let left = λ (f : ℕ). get_or c.args.left.now f 0 in
    c.repair.ensures.settled c.args.flows.now c.args.line.now left (begun_matching c.args.flows.now c.args.line.now left c.lay_out.new.self c.lay_out.ensures.begun)

pub returns-clause-whole : goal.returns-clause-whole
returns-clause-whole c =
    let old = c.args.self.now in
    let new = c.repair.new.self in
    record {
      sound = c.repair.ensures.sound;
      room = room_stays old new (room_again old c.lay_out.new.self new c.lay_out.ensures.room c.repair.ensures.room) c.requires.whole.room;
      listing = c.repair.ensures.listing;
    }
