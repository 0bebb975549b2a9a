use Rattle.command_files.proofs.messages.write_order_fault.Goals as goal

pub returns-in-UnknownId : goal.returns-in-UnknownId
returns-in-UnknownId g c = λ plain ok. rw c.in-UnknownId.is (c.write-in-UnknownId.ensures.writes plain ok)

pub returns-in-DuplicateId : goal.returns-in-DuplicateId
returns-in-DuplicateId g c = λ plain ok. rw c.in-DuplicateId.is (c.write-in-DuplicateId.ensures.writes plain ok)
