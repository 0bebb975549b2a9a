use Rattle.std.proofs.Common.{rules, ◌≡◌, ◌∙◌, ◌<◌, ◌≤◌, arith, subst, sym, true, inl, inr}
use Rattle.std.specs.Prelude.{Some}
use Rattle.std.proofs.lemmas.Bool.{cases_lt}
use Rattle.journal.specs.Runs.{slots_of}
use Rattle.world_model.specs.World.{port_at, run_of}
use Rattle.world_model.specs.Guards.{in_run, is_done}
use Rattle.world_model.proofs.Fields.{all_done_true, one_not_done}
use Rattle.world_model.proofs.world.World.can_close.Goals as goal

pub returns-then-not-is_done-clause-may : goal.returns-then-not-is_done-clause-may
returns-then-not-is_done-clause-may c =
    let w = c.args.self.now in
    let low : c.loop-port.port < w.opening.table.ports = search rules in
    sym (one_not_done (run_of w) (λ r port. is_done w.opening r port (port_at w port)) w.opening.table.ports c.loop-port.port low (sym c.is_done.ensures ∙ c.if-not-is_done.true))

pub loop-port-preserved : goal.loop-port-preserved
loop-port-preserved c =
    let w = c.args.self.now in
    λ p lt. elim (cases_lt p c.loop-port.port) [
      | inl less ↦ c.loop-port.invariant p less
      | inr ge ↦
          let at : c.loop-port.port ≡ p = omega (arith, ge, lt) in
          subst (λ q. in_run (run_of w) (λ r. is_done w.opening r q (port_at w q)) ≡ true) at (sym c.is_done.ensures ∙ c.if-not-is_done.false)
    ]

pub returns-clause-may : goal.returns-clause-may
returns-clause-may c =
    let w = c.args.self.now in
    let ends : w.opening.table.ports ≤ c.loop-port.port = search rules in
    let opens : Some c.in-Some.slots ≡ slots_of (run_of w) = search rules in
    sym (all_done_true (run_of w) (λ r port. is_done w.opening r port (port_at w port)) w.opening.table.ports c.in-Some.slots opens
    (λ p lt. c.loop-port.invariant p (omega (arith, lt, ends))))
