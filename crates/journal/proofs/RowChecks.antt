-- The rows, computed.
use Rattle.std.proofs.Common.{refl}
use Rattle.journal.specs.Chosen.{the_ordering, the_grants}
use Rattle.journal.specs.Rows.{Doors, SkipsBack, LateJoiner, ByJoining, ByOrder, NewestNote, LeftWork, ClosesInFull, Ranks, Fills, Runs, LastSlot, Weights}

pub ranks : Ranks
unfolding the_ordering the_grants
ranks = (refl, (refl, (refl, (refl, (refl, (refl, (refl, (refl, tt))))))))

pub fills : Fills
unfolding the_ordering the_grants
fills = (refl, (refl, (refl, (refl, tt))))

pub runs : Runs
unfolding the_ordering the_grants
runs = (refl, (refl, (refl, (refl, (refl, (refl, (refl, (refl, (refl, (refl, (refl, (refl, tt))))))))))))

pub last_slot : LastSlot
unfolding the_ordering the_grants
last_slot = (refl, (refl, (refl, (refl, (refl, (refl, (refl, tt)))))))

pub weights : Weights
unfolding the_ordering the_grants
weights = (refl, (refl, (refl, (refl, (refl, (refl, (refl, (refl, (refl, (refl, (refl, (refl, tt))))))))))))

pub closes_in_full : ClosesInFull
unfolding the_ordering the_grants
closes_in_full = (refl, (refl, (refl, (refl, (refl, (refl, (refl, (refl, (refl, tt)))))))))

pub doors : Doors
unfolding the_ordering the_grants
doors = (refl, (refl, (refl, (refl, (refl, tt)))))

pub skips_back : SkipsBack
unfolding the_ordering the_grants
skips_back = (refl, (refl, (refl, (refl, tt))))

pub late_joiner : LateJoiner
unfolding the_ordering the_grants
late_joiner = (refl, (refl, (refl, (refl, (refl, (refl, tt))))))

pub by_joining : ByJoining
unfolding the_ordering the_grants
by_joining = (refl, (refl, (refl, tt)))

pub by_order : ByOrder
unfolding the_ordering the_grants
by_order = (refl, (refl, (refl, (refl, (refl, tt)))))

pub newest_note : NewestNote
unfolding the_ordering the_grants
newest_note = (refl, (refl, (refl, (refl, (refl, (refl, (refl, (refl, (refl, (refl, tt))))))))))

pub left_work : LeftWork
unfolding the_ordering the_grants
left_work = (refl, (refl, (refl, (refl, (refl, (refl, (refl, (refl, (refl, (refl, (refl, tt)))))))))))
