use Rattle.std.proofs.Common.{◌≡◌, ◌≤◌, ◌++◌, length, map}
use Rattle.std.specs.Prelude.{vec_capacity}
use Rattle.std.specs.Vec.Iter.{into_iter_items, into_iter_len}
use Rattle.turnstile.specs.Histories.{GoesOn}
use Rattle.client_session.specs.Drivers.{who_of}
use Rattle.client_session.specs.Models.{SessionModel}
use Rattle.client_session.specs.Returns.{AreReturned}
use Rattle.client_session.proofs.close.rejoin_all.Given as goal

abbrev pub invariant-loop-session : goal.invariant-loop-session
invariant-loop-session l = record {
  items : l.yielded ++ into_iter_items l.session-iterator ≡ l.fn.sessions.items;
  len : into_iter_len l.session-iterator ≡ length (into_iter_items l.session-iterator);
  root : l.root ≡ record l.fn.root { seen = l.root.seen; back = l.root.back };
  own : GoesOn who_of l.root.seen 0 l.fn.root.seen;
  back : AreReturned l.yielded l.root.back;
  few : length l.root.back ≤ l.root.made;
  ranks : l.ranks.items ≡ map (λ (s : SessionModel). s.rank) l.yielded;
  room : vec_capacity l.ranks ≡ vec_capacity l.fn.ranks;
}
