-- The lines of completions.
use Rattle.std.proofs.Common.{◌≡◌, ℕ, List, map, ap, arith}
use Rattle.std.specs.Prelude.{slice_index}
use Rattle.std.specs.List.{range_with_len}
use Rattle.coflow_units.specs.declared.fabric.Flow.{Flow}
use Rattle.coflow_units.specs.Completion.{completion}
use Rattle.coflow_units.proofs.Lists.{number_below}
use Rattle.cert_check.proofs.EndFacts.{AreOf, number_at}
use Rattle.journal.proofs.TallySteps.{map_same}
use Rattle.online_text.specs.declared.value.DoneLine.{DoneLine}

abbrev pub line_at : List ℕ → List ℕ → ℕ → DoneLine
line_at ids ends c = record { id = slice_index ids c; slot = slice_index ends c }

abbrev line_of : List ℕ → ℕ → ℕ → DoneLine
line_of ids slot c = record { id = slice_index ids c; slot = slot }

pub lines_of : (flows : List Flow) (slots : List (List ℕ)) (ends ids : List ℕ) (n : ℕ) → AreOf ends (completion flows slots) n →
    map (line_at ids ends) (range_with_len 0 n) ≡ map (λ c. line_of ids (completion flows slots c) c) (range_with_len 0 n)
lines_of flows slots ends ids n are = map_same (line_at ids ends) (λ c. line_of ids (completion flows slots c) c) (range_with_len 0 n)
    (λ c in'. ap (λ slot. line_of ids slot c) (number_at ends (completion flows slots) n c are (omega (arith, number_below 0 n c in'))))
