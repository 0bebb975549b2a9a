-- Each ranker of a bench has a row.
use Rattle.std.proofs.Common.{ℕ, ◌+◌, inl, inr, List, [], ◌∷◌, Contains, subst}
use Rattle.coflow_units.proofs.Sums.{first_or_tail, nothing_in}
use Rattle.rankers.specs.Meaning.{Meaning}
use Rattle.replays.specs.declared.rows.Replayed.{Replayed}
use Rattle.replays.specs.declared.rows.ReplayRow.{ReplayRow}
use Rattle.replays.specs.Moments.{Input}
use Rattle.replays.specs.Replayed.{AreRowsFrom, IsReplayed}

pub has_row : (x : Input) (index : ℕ) (bench : List Meaning) (rows : List ReplayRow) (ranker : Meaning) → AreRowsFrom x index bench rows → Contains bench ranker →
    (result : Replayed) × IsReplayed x ranker result
has_row x index [] rows ranker are has = absurd (nothing_in ranker has)
has_row x index (m ∷ ms) rows ranker (result, rest, replayed, is, more) has = elim (first_or_tail m ms ranker has) [
  | inl same ↦ (result, subst (λ r. IsReplayed x r result) same replayed)
  | inr later ↦ has_row x (index + 1) ms rest ranker more later
]
