-- No cost of a row is below a bound on the cost of replays.
use Rattle.std.proofs.Common.{ℕ, ◌+◌, ◌≤◌, List, [], ◌∷◌, sym, subst, arith}
use Rattle.std.specs.Prelude.{All}
use Rattle.std.proofs.lemmas.List.Elements.{All-cons, All-nil}
use Rattle.rankers.specs.Meaning.{Meaning}
use Rattle.replays.specs.declared.rows.Replayed.{Replayed}
use Rattle.replays.specs.declared.rows.Replayed.TheVariants.{Cost, Unfit}
use Rattle.replays.specs.declared.rows.ReplayRow.{ReplayRow}
use Rattle.replays.specs.Moments.{Input}
use Rattle.replays.specs.Replayed.{AreRowsFrom, IsReplay, IsReplayed, cost_of_slots}
use Rattle.replays.specs.Reported.{CostsAtLeast}

module _ (x : Input) (least : ℕ) (below : (ranker : Meaning) (slots : List (List ℕ)) → IsReplay x ranker slots → least ≤ cost_of_slots x slots) where
  cost_at_least : (ranker : Meaning) (result : Replayed) → IsReplayed x ranker result → CostsAtLeast least result
  cost_at_least ranker (Cost total) (slots, replay, is) = omega (arith, below ranker slots replay, is)
  cost_at_least ranker (Unfit epoch place) unfit = tt

  pub rows_at_least : (index : ℕ) (bench : List Meaning) (rows : List ReplayRow) → AreRowsFrom x index bench rows →
      All (λ (row : ReplayRow). CostsAtLeast least row.result) rows
  rows_at_least index [] rows is = subst (All (λ (row : ReplayRow). CostsAtLeast least row.result)) (sym is) (All-nil (λ (row : ReplayRow). CostsAtLeast least row.result))
  rows_at_least index (m ∷ ms) rows (result, rest, replayed, is, more) =
      let P = λ (row : ReplayRow). CostsAtLeast least row.result in
      subst (All P) (sym is)
      (All-cons P (record { index = index; name = m.name; result = result }) rest (cost_at_least m result replayed) (rows_at_least (index + 1) ms rest more))
