use Rattle.report_text.proofs.writing.push_version.Goals as goal

pub returns-in_ok-extend_from_slice-in-Some : goal.returns-in_ok-extend_from_slice-in-Some
returns-in_ok-extend_from_slice-in-Some c = rw c.in-Some.is c.in_ok-extend_from_slice-in-Some.ensures.items

pub returns-in_ok-extend_from_slice-in-None : goal.returns-in_ok-extend_from_slice-in-None
returns-in_ok-extend_from_slice-in-None c = rw c.in-None.is c.in_ok-extend_from_slice-in-None.ensures.items
