-- One value for each place.
use Rattle.outside.specs.declared.shelf.Place4.{Place4}
use Rattle.outside.specs.declared.shelf.Place4.TheVariants.{Trace, Weights, Report, Script}

abbrev pub at_place : {X : Type 0} → X → X → X → X → Place4 → X
at_place trace weights report script Trace = trace
at_place trace weights report script Weights = weights
at_place trace weights report script Report = report
at_place trace weights report script Script = script
