-- What the spots and the targets of a coflow say of what it sends.
use Rattle.std.proofs.Common.{◌≡◌, ◌≢◌, ℕ, ◌+◌, ◌*◌, ◌%◌, ◌<◌, List, [], get_or, length, sym, ap, subst, ◌∙◌}
use Rattle.std.specs.Prelude.{All, nat_lt, slice_index, sum_by, ◌==◌, if◌then◌else◌}
use Rattle.std.proofs.lemmas.Bool.{ne_eqb}
use Rattle.std.proofs.lemmas.List.{get_or_read}
use Rattle.coflow_units.specs.declared.trace.CoflowLine.{CoflowLine}
use Rattle.coflow_units.specs.declared.trace.Reducer.{Reducer}
use Rattle.coflow_units.specs.declared.trace.Trace.{Trace}
use Rattle.coflow_units.proofs.Sums.{sum_same}
use Rattle.flow_table.specs.declared.spots.Spot.{Spot}
use Rattle.flow_table.specs.declared.targets.Target.{Target}
use Rattle.flow_table.specs.Sent.{line_of, places, sent, sent_by}
use Rattle.flow_table.specs.Spots.{pairs, spots_at, sum_at}
use Rattle.flow_table.specs.Targets.{SendsTo, whole_to}
use Rattle.flow_table.specs.Units.{units_of_reducer}
use Rattle.flow_table.proofs.Shares.{mappers_at, mappers_below, none_picked, picked, sent_by_is, sum_ones}
use Rattle.flow_table.proofs.SpotSteps.{none_pass}

module _ (unit : ℕ) (x : CoflowLine) (at_mappers rests : List Spot)
    (mappers : (f : ℕ → ℕ) (location : ℕ) → sum_at f at_mappers location ≡ sum_by (λ place. if slice_index x.mappers place == location then f place else 0) (places x))
    (reducers : (f : ℕ → ℕ) (location : ℕ) →
    sum_at f rests location ≡ sum_by (λ (r : Reducer). if r.location == location then f (units_of_reducer unit r % length x.mappers) else 0) x.reducers) where
  count_is : (i : ℕ) → mappers_at x i ≡ length (spots_at at_mappers i)
  count_is i = sym (mappers (λ place. 1) i) ∙ sum_ones (spots_at at_mappers i)

  pairs_are : (i e : ℕ) → sum_by (λ (r : Reducer). if r.location == e then mappers_below x i (units_of_reducer unit r % length x.mappers) else 0) x.reducers ≡
      pairs (spots_at at_mappers i) (spots_at rests e)
  pairs_are i e =
      sym (reducers (mappers_below x i) e)
      ∙ sum_same (λ (s : Spot). mappers_below x i s.number) (λ s. sum_at (λ place. if nat_lt place s.number then 1 else 0) at_mappers i) (spots_at rests e)
      (λ s has. sym (mappers (λ place. if nat_lt place s.number then 1 else 0) i))

  -- what a coflow sends, by its spots
  pub sent_is : (i e : ℕ) → sent_by unit x i e ≡ whole_to unit x e * length (spots_at at_mappers i) + pairs (spots_at at_mappers i) (spots_at rests e)
  sent_is i e = sent_by_is unit x i e ∙
      ap (λ n. whole_to unit x e * n + sum_by (λ (r : Reducer). if r.location == e then mappers_below x i (units_of_reducer unit r % length x.mappers) else 0) x.reducers)
      (count_is i)
      ∙ ap (λ n. whole_to unit x e * length (spots_at at_mappers i) + n) (pairs_are i e)

  -- no reducer is where no rest is
  nothing_to : (i e : ℕ) → All (λ (s : Spot). s.location ≢ e) rests → sent_by unit x i e ≡ 0
  nothing_to i e out =
      let none : spots_at rests e ≡ [] = none_pass (λ (s : Spot). s.location == e) rests (λ k d lt. ne_eqb (get_or rests k d).location e (out k d lt)) in
      let no_reducer : sum_by (λ (r : Reducer). picked (r.location == e) 1) x.reducers ≡ 0 = sym (reducers (λ n. 1) e) ∙ ap (sum_by (λ (s : Spot). 1)) none in
      none_picked (λ (r : Reducer). r.location == e) (λ r. _) x.reducers no_reducer

  pub sends_to : (targets : List Target) → All (λ (t : Target). t.whole ≡ whole_to unit x t.egress) targets →
      ((e : ℕ) → All (λ (t : Target). t.egress ≢ e) targets → All (λ (s : Spot). s.location ≢ e) rests)
      → (i : ℕ) (row : ℕ → ℕ) → ((e : ℕ) → row e ≡ sent_by unit x i e) → SendsTo row (spots_at at_mappers i) targets rests
  sends_to targets wholes all i row is = record {
    to = λ k d lt.
        let t = get_or targets k d in
        is t.egress ∙ sent_is i t.egress ∙ ap (λ n. n * length (spots_at at_mappers i) + pairs (spots_at at_mappers i) (spots_at rests t.egress)) (sym (wholes k d lt));
    elsewhere = λ e none. is e ∙ nothing_to i e (all e none);
  }

-- the same, of the lists as they are lent
pub lent_sends_to : (unit : ℕ) (x : CoflowLine) (at_mappers rests searched ps rs : List Spot) (targets ts : List Target)
    → ((f : ℕ → ℕ) (location : ℕ) → sum_at f at_mappers location ≡ sum_by (λ place. if slice_index x.mappers place == location then f place else 0) (places x))
    → ((f : ℕ → ℕ) (location : ℕ) →
    sum_at f rests location ≡ sum_by (λ (r : Reducer). if r.location == location then f (units_of_reducer unit r % length x.mappers) else 0) x.reducers)
    → All (λ (t : Target). t.whole ≡ whole_to unit x t.egress) targets → ((e : ℕ) → All (λ (t : Target). t.egress ≢ e) targets → All (λ (s : Spot). s.location ≢ e) searched)
    → searched ≡ rests → ps ≡ at_mappers → rs ≡ rests → ts ≡ targets → (i : ℕ) (row : ℕ → ℕ) → ((e : ℕ) → row e ≡ sent_by unit x i e) → SendsTo row (spots_at ps i) ts rs
lent_sends_to unit x at_mappers rests searched ps rs targets ts mappers reducers wholes all same same_places same_rests same_targets i row is =
    subst (λ l. SendsTo row (spots_at l i) ts rs) (sym same_places)
    (subst (λ l. SendsTo row (spots_at at_mappers i) ts l) (sym same_rests) (subst (λ l. SendsTo row (spots_at at_mappers i) l rests) (sym same_targets)
    (sends_to unit x at_mappers rests mappers reducers targets wholes (λ e out. subst (All (λ (s : Spot). s.location ≢ e)) same (all e out)) i row is)))

-- what the line of a coflow sends, its coflow sends
pub line_sends : (t : Trace) (unit k : ℕ) (items : List CoflowLine) (x : CoflowLine) → items ≡ t.coflows → k < length items → x ≡ get_or items k x → (i e : ℕ) →
    sent t unit k i e ≡ sent_by unit x i e
line_sends t unit k items x same lt is i e =
    let here : x ≡ line_of t k = get_or_read items k x lt is record { id = 0; arrival = 0; mappers = []; reducers = [] } ∙
    ap (λ l. get_or l k record { id = 0; arrival = 0; mappers = []; reducers = [] }) same in
    ap (λ y. sent_by unit y i e) (sym here)
