-- the entries so far stand behind the text
use Rattle.std.proofs.Common.{◌≡◌, ◌++◌, take}
use Rattle.picture.specs.PoliciesSvg.{each_policy, policy_entry}
use Rattle.picture.proofs.policies_legend.push_entries.Given as goal

abbrev pub invariant-loop-place : goal.invariant-loop-place
invariant-loop-place l = l.text.items ≡ l.fn.text.items ++ each_policy policy_entry 0 (take l.place l.policies)
