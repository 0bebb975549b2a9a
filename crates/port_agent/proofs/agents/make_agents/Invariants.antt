-- the agents so far
use Rattle.std.proofs.Common.{◌≡◌, ◌+◌, length, vec_capacity}
use Rattle.std.specs.Prelude.{All}
use Rattle.port_agent.specs.Attended.{IsFresh}
use Rattle.port_agent.proofs.agents.make_agents.Given as goal

abbrev pub invariant-loop-number : goal.invariant-loop-number
invariant-loop-number l = record {
  at : l.poster.at ≡ l.fn.poster.at;
  same : l.poster.id ≡ l.fn.poster.id;
  poster : l.poster.view ≡ record l.fn.poster.view { made = l.fn.poster.view.made + l._number };
  many : length l.seats.items ≡ l._number;
  fresh : All (IsFresh l.board.id l.fn.poster.view.posts) l.seats.items;
  room : vec_capacity l.seats ≡ vec_capacity l.fn.seats;
}
