use Rattle.std.proofs.Common.{◌≡◌, take}
use Rattle.rank_board.proofs.board.write_bank.Given as goal

abbrev pub invariant-loop-coflow : goal.invariant-loop-coflow
invariant-loop-coflow l =
    (l.place.table_id ≡ l.initial.place.table_id)
    × (l.place.me ≡ (record l.initial.place.me.0 { next = take l.coflow l.ranks }, l.initial.place.me.1))
