use Rattle.std.proofs.Common.{refl}
use Rattle.rankers.proofs.laws.rows_hold.Goals as goal

pub returns-clause-by_key : goal.returns-clause-by_key
returns-clause-by_key c = record {
  ties = refl;
  past = refl;
  none = refl;
}

pub returns-clause-answers : goal.returns-clause-answers
returns-clause-answers c = record {
  of_bssi = refl;
  of_sebf = refl;
  of_wsebf = refl;
  of_wsebf_weighted = refl;
  of_fifo = refl;
  of_attained = refl;
  fifo_told = refl;
  attained_holds = refl;
  attained_told = refl;
  room_for_one = refl;
  no_room = refl;
}
