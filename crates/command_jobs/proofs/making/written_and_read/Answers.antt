use Rattle.std.proofs.Common.{◌∙◌}
use Rattle.command_jobs.proofs.MadePlan.{read_is_planned}
use Rattle.command_jobs.proofs.making.written_and_read.Goals as goal

pub read_back-requires-clause-few : goal.read_back-requires-clause-few
read_back-requires-clause-few c = rw (c.deref.ensures.value ∙ c.in_ok-bytes.ensures ∙ c.in_ok-text.ensures.text) c.requires.few

pub read_back-requires-clause-written : goal.read_back-requires-clause-written
read_back-requires-clause-written c =
    (c.args.report, record { report = c.requires.report; small = c.requires.small; text = c.deref.ensures.value ∙ c.in_ok-bytes.ensures ∙ c.in_ok-text.ensures.text })

pub returns : goal.returns
returns c =
    read_is_planned c.args.report c.in_ok-read.read c.in_ok-text.text c.deref.result.now c.requires.report c.requires.small c.in_ok-text.ensures.text
    (c.deref.ensures.value ∙ c.in_ok-bytes.ensures) c.in_ok-read.ensures
