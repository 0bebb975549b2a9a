-- Why a list of flows ends early.
use Rattle.flow_table.specs.declared.stop.Stop.{Stop}
use Rattle.flow_table.specs.declared.stop.Stop.TheVariants.{Full, NoMemory}

-- the list ends early for this reason; want of memory is free
abbrev pub StopsFor : Type 0 → Stop → Type 0
StopsFor reason Full = reason
StopsFor reason NoMemory = Unit {0}
