-- the flows so far are posted
use Rattle.std.proofs.Common.{◌≡◌, length, take}
use Rattle.client_session.specs.Grants.{all_granted}
use Rattle.slot_runner.specs.Posts.{IsPosted}
use Rattle.slot_runner.proofs.posting.post_grants.Given as goal

abbrev pub invariant-loop-flow : goal.invariant-loop-flow
invariant-loop-flow l = record {
  at : l.poster.at ≡ l.fn.poster.at;
  posted : IsPosted l.hall.setting.opening.table.flows (take (length l.yielded) (all_granted l.hall.setting.opening l.driver.journal)) l.slot l.length l.fn.poster.view
      l.poster.view;
}
