-- What becomes of an action, action by action.
use Rattle.std.proofs.Common.{◌≡◌, ℕ, ◌+◌, ◌-◌, List, [], length, Option, None, Some, refl, sym, ap, subst, ◌∙◌, arith}
use Rattle.std.specs.Prelude.{map, slice_index}
use Rattle.std.specs.List.{range_with_len}
use Rattle.std.proofs.lemmas.List.FromFn.{fill_by_all}
use Rattle.coflow_units.specs.declared.fabric.Flow.{Flow}
use Rattle.coflow_units.specs.Completion.{completion, cost}
use Rattle.schedule_model.specs.Weights.{weighted_cost}
use Rattle.epochs.specs.declared.action.Action.{Action}
use Rattle.epochs.specs.declared.action.Action.TheVariants.{End, Publish, Register, Run, Skip, Withdraw}
use Rattle.flow_table.specs.Table.{TableFacts}
use Rattle.rankers.specs.Meaning.{Meaning}
use Rattle.replays.specs.declared.kept.Kept.{Kept}
use Rattle.replays.specs.declared.rows.Replayed.TheVariants.{Cost, Unfit}
use Rattle.replays.specs.Acting.{EndsAs, GoesOnFrom, MayAct}
use Rattle.replays.specs.Kept.{IsAt, MayDo, MayDoOf, Tells}
use Rattle.replays.specs.Moments.{DoesNext, Input, IsNext, IsServedFor, Moment, joined_at, left_the_line, served_at}
use Rattle.replays.specs.Publishing.{BecomesOf, IsPublishing}
use Rattle.replays.specs.Replayed.{cost_of_slots}

pub may : (table : TableFacts) (weights : List ℕ) (kept : Kept) (action own : Action) → MayAct table weights kept action → action ≡ own → MayDo kept own
may table weights kept action own (x, m, at, same, weights_are, does) is = (x, m, at, subst (DoesNext x m) is does)

pub may_of : (table : TableFacts) (weights : List ℕ) (kept : Kept) (action own : Action) → MayAct table weights kept action → action ≡ own → MayDoOf table kept own
may_of table weights kept action own (x, m, at, same, weights_are, does) is = (x, m, at, same, subst (DoesNext x m) is does)

pub goes_joined : (table : TableFacts) (old new : Kept) (before : Meaning) (action : Action) (coflow : ℕ) → action ≡ Register coflow →
    ((x : Input) (m : Moment) → IsAt x m old → DoesNext x m (Register coflow) → Tells x (joined_at m coflow) new) → GoesOnFrom table old before action new before
goes_joined table old new before action coflow is tells x m at same does ranker =
    (joined_at m coflow, subst (λ a. IsNext x m a (joined_at m coflow)) (sym is) refl, tells x m at (subst (DoesNext x m) is does), ranker)

pub goes_left : (table : TableFacts) (old new : Kept) (before : Meaning) (action : Action) (coflow : ℕ) → action ≡ Withdraw coflow →
    ((x : Input) (m : Moment) → IsAt x m old → DoesNext x m (Withdraw coflow) → Tells x (left_the_line m coflow) new) → GoesOnFrom table old before action new before
goes_left table old new before action coflow is tells x m at same does ranker =
    (left_the_line m coflow, subst (λ a. IsNext x m a (left_the_line m coflow)) (sym is) refl, tells x m at (subst (DoesNext x m) is does), ranker)

pub goes_run : (table : TableFacts) (old new : Kept) (before : Meaning) (action : Action) (most : ℕ) → action ≡ Run most →
    ((x : Input) (m : Moment) → IsAt x m old → x.table ≡ table → DoesNext x m (Run most) → (next : Moment) × IsServedFor x m most next × Tells x next new) →
    GoesOnFrom table old before action new before
goes_run table old new before action most is runs x m at same does ranker =
    let (next, served, tells) = runs x m at same (subst (DoesNext x m) is does) in
    (next, subst (λ a. IsNext x m a next) (sym is) served, tells, ap (λ (n : Moment). n.ranker) served.next_is ∙ ranker)

pub goes_skipped : (table : TableFacts) (old new : Kept) (before : Meaning) (action : Action) (to : ℕ) → action ≡ Skip to →
    ((x : Input) (m : Moment) → IsAt x m old → DoesNext x m (Skip to) → Tells x (served_at m (to - 1 - old.progress.time) []) new) → GoesOnFrom table old before action new before
goes_skipped table old new before action to is tells x m at same does ranker =
    let next = served_at m (to - 1 - old.progress.time) [] in
    (next, subst (λ a. IsNext x m a next) (sym is) (ap (λ n. served_at m (to - 1 - n) []) at.tells.progress.time_is), tells x m at (subst (DoesNext x m) is does), ranker)

pub goes_published : (table : TableFacts) (old new : Kept) (before after : Meaning) (action : Action) (unfit : Option ℕ) → action ≡ Publish → unfit ≡ None →
    IsPublishing table old before new after unfit → GoesOnFrom table old before action new after
goes_published table old new before after action unfit is none publishes x m at same does ranker =
    let (next, published, tells, later) = subst (BecomesOf x m new after) none (publishes x m at same (subst (DoesNext x m) is does) ranker) in
    (next, subst (λ a. IsNext x m a next) (sym is) published, tells, later)

-- an answer that is no order
pub ends_unfit : (table : TableFacts) (weights : List ℕ) (old new : Kept) (before after : Meaning) (action : Action) (unfit : Option ℕ) (epoch place : ℕ) → action ≡ Publish →
    unfit ≡ Some place → epoch ≡ old.questions.published + 1 → IsPublishing table old before new after unfit → EndsAs table weights old before action (Unfit epoch place)
ends_unfit table weights old new before after action unfit epoch place is some count publishes x m ranker reached at same weights_are does is_ranker =
    let does' = subst (DoesNext x m) is does in
    let (facts, asked, place_is) = subst (BecomesOf x m new after) some (publishes x m at same does' is_ranker) in
    record {
      moment = m;
      reached = reached;
      publishes = does';
      epoch_is = count ∙ ap (λ n. n + 1) at.tells.published;
      facts = facts;
      asked = asked;
      place_is = place_is;
    }

-- ---- the end

-- the completions, as they are kept
pub ends_listed : (x : Input) (m : Moment) (kept : Kept) (ends : List ℕ) (n : ℕ) → IsAt x m kept → ends ≡ kept.progress.ends.items → n ≡ length x.table.ids →
    ends ≡ map (λ c. completion x.table.flows m.slots c) (range_with_len 0 n)
ends_listed x m kept ends n at lent count =
    let t = at.tells in
    lent ∙ fill_by_all (λ c. completion x.table.flows m.slots c) kept.progress.ends.items n 0 (t.each.ends ∙ sym count) (λ c lt. t.progress.ends_are c (omega (arith, lt, count)))

pub cost_listed : (x : Input) (m : Moment) (kept : Kept) (ends weights : List ℕ) (total : ℕ) → IsAt x m kept → x.weights ≡ weights → ends ≡ kept.progress.ends.items →
    ((flows : List Flow) (slots : List (List ℕ)) → ends ≡ map (λ c. completion flows slots c) (range_with_len 0 (length weights)) → total ≡ weighted_cost flows weights slots) →
    total ≡ cost_of_slots x m.slots
cost_listed x m kept ends weights total at is lent costs =
    let count : length weights ≡ length x.table.ids = ap (λ (l : List ℕ). length l) (sym is) ∙ at.input.each_weight in
    costs x.table.flows m.slots (ends_listed x m kept ends (length weights) at lent count) ∙
    ap (λ n. cost x.table.flows (λ k. slice_index weights k) (range_with_len 0 n) m.slots) count ∙
    ap (λ (w : List ℕ). cost x.table.flows (λ k. slice_index w k) (range_with_len 0 (length x.table.ids)) m.slots) (sym is)

pub ends_served : (table : TableFacts) (weights : List ℕ) (old : Kept) (before : Meaning) (action : Action) (total : ℕ) → action ≡ End →
    ((x : Input) (m : Moment) → IsAt x m old → x.table ≡ table → x.weights ≡ weights → total ≡ cost_of_slots x m.slots) → EndsAs table weights old before action (Cost total)
ends_served table weights old before action total is costs x m ranker reached at same weights_are does is_ranker =
    (m.slots, record { moment = m; reached = reached; ends = subst (DoesNext x m) is does; slots_are = refl }, costs x m at same weights_are)
