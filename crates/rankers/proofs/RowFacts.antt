-- What rows of a comparison say: which rankers they name, and that their costs are those of schedules.
use Rattle.std.proofs.Common.{◌≡◌, ℕ, ◌+◌, ◌≤◌, ◌<◌, List, [], ◌∷◌, drop, length, map, take, refl, sym, ap, subst, ◌∙◌, arith}
use Rattle.std.specs.Prelude.{All}
use Rattle.std.proofs.lemmas.List.Elements.{All-cons, All-map, All-nil}
use Rattle.std.proofs.lemmas.List.{length-map, take_all}
use Rattle.coflow_units.specs.Completion.{cost}
use Rattle.coflow_units.specs.Flows.{Instance}
use Rattle.coflow_units.specs.Schedule.{IsValid}
use Rattle.coflow_units.proofs.ServedLaws.{served_valid}
use Rattle.flow_table.specs.Table.{TableFacts, instance_of}
use Rattle.rankers.specs.declared.row.Row.{Row}
use Rattle.rankers.specs.declared.row.Scored.{Scored}
use Rattle.rankers.specs.declared.row.Scored.TheVariants as scored
use Rattle.rankers.specs.FactsTold.{FactsTold}
use Rattle.rankers.specs.Meaning.{Meaning}
use Rattle.rankers.specs.Rounds.{IsRowsFrom}
use Rattle.rankers.specs.Scores.{IsScore}
use Rattle.report_text.specs.declared.compared.Compare.{Compare}
use Rattle.report_text.specs.declared.compared.RowLine.{RowLine}
use Rattle.rankers.specs.Comparison.{CostsAtLeast, IsBelowCosts, IsComparison, line_of, names_of, worth_of}

-- ---- a fact of both rows of each ranker

module _ (i : Instance) (facts : FactsTold) (P : Row → Type 0) where
  each_row : (index : ℕ) (ms : List Meaning) (rows : List Row) →
      ((k round : ℕ) (order : List ℕ) (s : Scored) → index ≤ k → k < index + length ms → IsScore i order s → P (record { index = k; round = round; result = s })) →
      IsRowsFrom i facts index ms rows → All P rows
  each_row index [] rows holds is = subst (All P) (sym is) (All-nil P)
  each_row index (m ∷ ms) rows holds (first, second, rest, rounds, is, more) =
      subst (All P) (sym is)
      (All-cons P (record { index = index; round = 1; result = first }) (record { index = index; round = 2; result = second } ∷ rest)
      (holds index 1 _ first (omega arith) (omega arith) rounds.at_first)
      (All-cons P (record { index = index; round = 2; result = second }) rest (holds index 2 _ second (omega arith) (omega arith) rounds.at_last)
      (each_row (index + 1) ms rest (λ k round order s low high score. holds k round order s (omega (arith, low)) (omega (arith, high)) score) more)))

-- ---- the rankers that rows name

pub rows_count : (i : Instance) (facts : FactsTold) (ms : List Meaning) (rows : List Row) → IsRowsFrom i facts 1 ms rows → All (λ (row : Row). 1 ≤ row.index) rows
rows_count i facts ms rows is = each_row i facts (λ row. 1 ≤ row.index) 1 ms rows (λ k round order s low high score. low) is

pub rows_known : (i : Instance) (facts : FactsTold) (ms : List Meaning) (names : List (List ℕ)) (rows : List Row) → length names ≡ length ms → IsRowsFrom i facts 1 ms rows →
    All (λ (row : Row). row.index ≤ length names) rows
rows_known i facts ms names rows same is =
    each_row i facts (λ row. row.index ≤ length names) 1 ms rows (λ k round order s low high score. omega (arith, high, same)) is

each_name : {B : Type 0} (mean : B → Meaning) (bench : List B) → map (λ b. (mean b).name) bench ≡ names_of (map mean bench)
each_name mean [] = refl
each_name mean (b ∷ bench) = ap (λ (l : List (List ℕ)). (mean b).name ∷ l) (each_name mean bench)

-- the names of all are known once none is left
pub names_done : {B : Type 0} (mean : B → Meaning) (bench : List B) (k : ℕ) (names : List (List ℕ)) → names ≡ map (λ b. (mean b).name) (take k bench) → length bench ≤ k →
    names ≡ names_of (map mean bench)
names_done mean bench k names so_far all = so_far ∙ ap (λ bs. map (λ b. (mean b).name) bs) (take_all k bench all) ∙ each_name mean bench

pub names_count : (ms : List Meaning) (names : List (List ℕ)) → names ≡ names_of ms → length names ≡ length ms
names_count ms names is = ap (λ xs. length xs) is ∙ length-map ms (λ (m : Meaning). m.name)

-- ---- costs are those of schedules

cost_above : (i : Instance) (bound : ℕ) (order : List ℕ) (s : Scored) → ((slots : List (List ℕ)) → IsValid i.flows slots → bound ≤ cost i.flows i.weight i.coflows slots) →
    IsScore i order s → CostsAtLeast bound (worth_of s)
cost_above i bound order (scored.Cost total) least (slots, served, is) = omega (arith, is, least slots (served_valid i.flows order slots served.served))
cost_above i bound order (scored.Unfit place) least score = tt

pub costs_above : (t : TableFacts) (weights : List ℕ) (bench : List Meaning) (c : Compare) → IsComparison t weights bench c →
    ((slots : List (List ℕ)) → IsValid t.flows slots → c.bound ≤ cost t.flows (instance_of t weights).weight (instance_of t weights).coflows slots) → IsBelowCosts c
costs_above t weights bench c is least =
    subst (All (λ (line : RowLine). CostsAtLeast c.bound line.scored)) (sym is.lines_are)
    (All-map (λ (line : RowLine). CostsAtLeast c.bound line.scored) (line_of (names_of bench)) is.rows
    (each_row (instance_of t weights) is.facts (λ row. CostsAtLeast c.bound (worth_of row.result)) 1 bench is.rows
    (λ k round order s low high score. cost_above (instance_of t weights) c.bound order s least score) is.rows_are))

-- those that are gone were asked
pub left_asked : {X F : Type 0} (A : X → F → Type 0) (P Q : F → Type 0) (f : F) (xs new : List X) → P f → Q f →
    ((reached : ℕ) × (new ≡ drop reached xs) × All (λ b. A b f) (take reached xs)) →
    (reached : ℕ) × (new ≡ drop reached xs) × All (λ b. (facts : F) × P facts × Q facts × A b facts) (take reached xs)
left_asked A P Q f xs new fit is (reached, rest, all) = (reached, rest, λ k d lt. (f, fit, is, all k d lt))
