-- the seats so far came back
use Rattle.std.proofs.Common.{◌≡◌, ◌++◌, length}
use Rattle.std.specs.Vec.Iter.{into_iter_items, into_iter_len}
use Rattle.port_agent.specs.Attended.{AreBack}
use Rattle.port_agent.proofs.agents.take_back.Given as goal

abbrev pub invariant-loop-agent : goal.invariant-loop-agent
invariant-loop-agent l = record {
  at : l.poster.at ≡ l.fn.poster.at;
  same : l.poster.id ≡ l.fn.poster.id;
  items : l.yielded ++ into_iter_items l.agent-iterator ≡ l.fn.seats.items;
  len : into_iter_len l.agent-iterator ≡ length (into_iter_items l.agent-iterator);
  back : AreBack l.fn.poster.view l.poster.view l.yielded;
}
