use Rattle.std.proofs.Common.{◌≡◌, ◌≤◌, ℕ, None}
use Rattle.port_board.specs.Views.{last_at}
use Rattle.hall_tests.proofs.agents.post_all.Given as goal

abbrev pub invariant-loop-port : goal.invariant-loop-port
invariant-loop-port l = record {
  own : l.poster.at ≡ l.board.id;
  none : (q : ℕ) → l.port ≤ q → last_at q l.poster.view.posts ≡ None;
  range : l.port-end ≤ 1025;
}
