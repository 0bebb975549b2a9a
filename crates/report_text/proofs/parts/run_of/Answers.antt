use Rattle.report_text.proofs.parts.run_of.Goals as goal

pub returns-in_default : goal.returns-in_default
returns-in_default c = rw c.in_default.is at c.in_ok-length.ensures

pub returns : goal.returns
returns c = rw c.from_vec-flows.ensures (rw c.in-Some.is at c.in_ok-length.ensures)
