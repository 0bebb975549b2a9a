use Rattle.std.proofs.Common.{◌≡◌, ◌++◌, length}
use Rattle.std.specs.Prelude.{All}
use Rattle.std.specs.Vec.Iter.{into_iter_items, into_iter_len}
use Rattle.client_session.specs.Desk.{WasMet}
use Rattle.client_session.proofs.desk.meet_all.Given as goal

abbrev pub invariant-loop-rank : goal.invariant-loop-rank
invariant-loop-rank l = record {
  items : l.yielded ++ into_iter_items l.rank-iterator ≡ l.fn.ranks.items;
  len : into_iter_len l.rank-iterator ≡ length (into_iter_items l.rank-iterator);
  desk : l.desk ≡ l.fn.desk;
  met : All (WasMet l.fn.desk.setting.opening l.fn.desk.journal) l.yielded;
}
