-- the numbers so far stand behind the text
use Rattle.std.proofs.Common.{◌≡◌, ◌+◌, ◌++◌, length, take}
use Rattle.std.specs.List.{flat_map}
use Rattle.coflow_units.specs.Text.{spaced}
use Rattle.report_text.proofs.FlowsText.{width}
use Rattle.report_text.proofs.numbers.write_flows.Given as goal

abbrev pub invariant-loop-flow : goal.invariant-loop-flow
invariant-loop-flow l = record {
  len : length l.text ≡ length l.fn.text;
  end : l.end ≡ l.start + width (take l.flow-index l.flows);
  text : take l.end l.text ≡ take l.start l.fn.text ++ flat_map spaced (take l.flow-index l.flows);
}
