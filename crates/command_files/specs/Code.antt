-- The exit codes.
use Rattle.std.specs.Prelude.{ℕ}
use Rattle.command_files.specs.declared.status.Status.{Status}
use Rattle.command_files.specs.declared.status.Status.TheVariants.{Ok, No, Usage, BadTrace, BadWeights, BadReport, BadScript, Limit, ReadFault, WriteFault, WireFault, NoMemory, BadOrder, UnknownPolicy}

-- the exit code of a status
abbrev pub code_of : Status → ℕ
code_of Ok = 0
code_of No = 1
code_of Usage = 2
code_of (BadTrace fault) = 3
code_of (BadWeights fault) = 4
code_of (BadReport line) = 5
code_of (BadScript line field) = 6
code_of (Limit which count) = 7
code_of (ReadFault count) = 8
code_of (WriteFault count) = 9
code_of (WireFault port count) = 10
code_of NoMemory = 11
code_of (BadOrder fault) = 12
code_of UnknownPolicy = 13
