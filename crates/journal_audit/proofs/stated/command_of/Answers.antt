use Rattle.std.proofs.Common.{ap}
use Rattle.journal.specs.declared.command.Command.TheVariants.{Pull, Register, Reweigh, Withdraw}
use Rattle.journal_audit.proofs.stated.command_of.Goals as goal

pub returns-in_ok-coflow_of-in-Register : goal.returns-in_ok-coflow_of-in-Register
returns-in_ok-coflow_of-in-Register c = λ ids finds.
    let known = c.in_ok-coflow_of-in-Register.ensures ids finds in
    rw c.in-Register.is (known.0, ap Register known.1)

pub returns-in_ok-coflow_of-in-Withdraw : goal.returns-in_ok-coflow_of-in-Withdraw
returns-in_ok-coflow_of-in-Withdraw c = λ ids finds.
    let known = c.in_ok-coflow_of-in-Withdraw.ensures ids finds in
    rw c.in-Withdraw.is (known.0, ap Withdraw known.1)

pub returns-in_ok-coflow_of-in-Pull : goal.returns-in_ok-coflow_of-in-Pull
returns-in_ok-coflow_of-in-Pull c = λ ids finds.
    let known = c.in_ok-coflow_of-in-Pull.ensures ids finds in
    rw c.in-Pull.is (known.0, ap Pull known.1)

pub returns-in_ok-coflow_of-in-Reweigh : goal.returns-in_ok-coflow_of-in-Reweigh
returns-in_ok-coflow_of-in-Reweigh c = λ ids finds.
    let known = c.in_ok-coflow_of-in-Reweigh.ensures ids finds in
    rw c.in-Reweigh.is (known.0, ap (λ coflow. Reweigh coflow c.in-Reweigh.weight) known.1)
