-- Turns that are no pull.
use Rattle.std.proofs.Common.{sym, ap, subst}
use Rattle.journal.specs.declared.command.Command.TheVariants.{Publish, Register, Reweigh, Withdraw}
use Rattle.live_model.specs.Script.{command_of, is_pull}
use Rattle.live_rounds.specs.Lines.{ComesTo}
use Rattle.live_rounds.proofs.Coming.{comes_by_turn}
use Rattle.live_rounds.proofs.line.carry_out.Goals as goal

pub returns-in-Register : goal.returns-in-Register
returns-in-Register g c =
    let o = c.args.hall.now.setting.opening in
    subst (ComesTo o c.args.line c.args.session.now c.register.new.self) (sym c.no_pull.ensures)
    (comes_by_turn o (Register c.in-Register.coflow) c.args.line c.args.session.now c.register.new.self c.register.result c.register.ensures.turn
    (sym (ap command_of c.in-Register.is)) (ap is_pull c.in-Register.is))

pub returns-in-Withdraw : goal.returns-in-Withdraw
returns-in-Withdraw g c =
    let o = c.args.hall.now.setting.opening in
    subst (ComesTo o c.args.line c.args.session.now c.withdraw.new.self) (sym c.no_pull-in-Withdraw.ensures)
    (comes_by_turn o (Withdraw c.in-Withdraw.coflow) c.args.line c.args.session.now c.withdraw.new.self c.withdraw.result c.withdraw.ensures.turn
    (sym (ap command_of c.in-Withdraw.is)) (ap is_pull c.in-Withdraw.is))

pub returns-in-Publish : goal.returns-in-Publish
returns-in-Publish g c =
    let o = c.args.hall.now.setting.opening in
    subst (ComesTo o c.args.line c.args.session.now c.publish.new.self) (sym c.no_pull-in-Publish.ensures)
    (comes_by_turn o Publish c.args.line c.args.session.now c.publish.new.self c.publish.result c.publish.ensures.turn (sym (ap command_of c.in-Publish.is))
    (ap is_pull c.in-Publish.is))

pub returns-in-Reweigh : goal.returns-in-Reweigh
returns-in-Reweigh g c =
    let o = c.args.hall.now.setting.opening in
    subst (ComesTo o c.args.line c.args.session.now c.reweigh.new.self) (sym c.no_pull-in-Reweigh.ensures)
    (comes_by_turn o (Reweigh c.in-Reweigh.coflow c.in-Reweigh.weight) c.args.line c.args.session.now c.reweigh.new.self c.reweigh.result c.reweigh.ensures.turn
    (sym (ap command_of c.in-Reweigh.is)) (ap is_pull c.in-Reweigh.is))
