use Rattle.std.proofs.Common.{◌≡◌, ◌∙◌, ap, subst, sym}
use Rattle.journal.specs.declared.opening.Opening.{Opening}
use Rattle.live_model.specs.Script.{limit_of}
use Rattle.slot_runner.specs.Models.{first_runner, RunnerModel}
use Rattle.live_serving.specs.Going.{IsGoing}
use Rattle.flow_table.specs.Table.{TableFacts}
use Rattle.live_serving.specs.Ends.{MayBeAsked}
use Rattle.live_serving.specs.Followed.{AreBegun}
use Rattle.live_serving.proofs.Begins.{begins}
use Rattle.live_serving.proofs.beginning.begin.Goals as goal

pub returns-in-Ok-new-clause-under_way : goal.returns-in-Ok-new-clause-under_way
returns-in-Ok-new-clause-under_way c = λ most.
    let hall = c.in_ok-hall.hall in
    let opening = c.in_ok-hall.ensures.opening in
    let driver = c.seat_clients.new.driver in
    let sessions = c.in-Ok.sessions.items in
    let script = c.args.script.now in
    subst (λ (x : RunnerModel). IsGoing hall script most 0 x sessions c.new-in-Ok-new.result.items) (sym c.in-Ok-new.ensures.runner)
    (subst (IsGoing hall script most 0 (first_runner driver c.ports-ports.result) sessions) (sym c.new-in-Ok-new.ensures.items)
    (begins hall script most c.ports-ports.result c.in_ok-hall.driver driver sessions
    (record {
      limit = subst (λ (x : Opening). x.limit ≡ limit_of x script) (sym opening) c.requires.limit;
      asked = subst (λ (x : Opening). MayBeAsked x script) (sym opening) c.requires.asked;
    }) c.in_ok-hall.ensures.driver c.in-Ok.ensures.driver c.in-Ok.ensures.own
    (subst (λ n. AreBegun n 1 sessions) c.commands_of-calls.ensures c.in-Ok.ensures.begun) c.in-Ok.ensures.as_many
    (c.ports-ports.ensures.ports ∙ ap (λ (t : TableFacts). t.ports) (c.table.ensures ∙ ap (λ (x : Opening). x.table) (sym opening)))))
