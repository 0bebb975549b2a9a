use Rattle.std.proofs.Common.{◌<◌, ◌≡◌, ◌∙◌, ap, length, subst, sym}
use Rattle.std.specs.Prelude.{All}
use Rattle.journal.specs.Fold.{state_of}
use Rattle.journal.specs.Runs.{flows_granted}
use Rattle.journal.proofs.Sound.{legal_sound}
use Rattle.master_runs.proofs.Granted.{granted_there}
use Rattle.master_runs.proofs.game.take_down.Goals as goal

pub take-requires : goal.take-requires
take-requires c =
    let o = c.args.master.now.opening in
    let state = state_of o c.args.master.now.journal in
    let sound = legal_sound o c.args.master.now.journal c.journal.ensures.legal c.journal.ensures.in_range in
    let all : All (λ f. f < length o.table.flows) (flows_granted state.run) = granted_there o.table.flows state.sent state.next state.run sound.open_run in
    let flows : c.flows.result.now ≡ o.table.flows = c.flows.ensures.flows ∙ ap (λ t. t.flows) c.table.ensures in
    let here : All (λ f. f < length c.flows.result.now) (flows_granted state.run) = subst (λ fs. All (λ f. f < length fs) (flows_granted state.run)) (sym flows) all in
    subst (λ xs. All (λ f. f < length c.flows.result.now) xs) (sym c.granted_flows.ensures) here
