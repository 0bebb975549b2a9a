-- A run of a replay.
use Rattle.std.proofs.Common.{◌≡◌, ℕ, ◌+◌, ◌-◌, ◌<◌, ◌≤◌, ◌⊎◌, inl, inr, false, List, ◌++◌, length, replicate, Contains}
use Rattle.std.proofs.Common.{sym, ap, subst, ◌∙◌, arith}
use Rattle.std.specs.Prelude.{if◌then◌else◌, min, slice_index, sum, sum_by}
use Rattle.std.specs.List.{range_with_len}
use Rattle.coflow_units.proofs.Lists.{by_number}
use Rattle.coflow_units.proofs.ServedExists.{left_sum}
use Rattle.std.proofs.Math.Path.{fun_ext}
use Rattle.std.proofs.lemmas.List.Elements.{All-contains}
use Rattle.coflow_units.specs.declared.fabric.Flow.{Flow}
use Rattle.coflow_units.specs.Completion.{holds_coflow}
use Rattle.coflow_units.specs.Grants.{IsGrants, IsRunLength}
use Rattle.coflow_units.specs.LeastLeft.{IsLeastLeft}
use Rattle.coflow_units.specs.Schedule.{holds}
use Rattle.coflow_units.specs.Served.{left_after}
use Rattle.coflow_units.proofs.Sums.{nothing_in, sum_same}
use Rattle.epochs.specs.Choice.{Runs}
use Rattle.epochs.specs.declared.action.Action.TheVariants.{Run}
use Rattle.flow_table.specs.Table.{TableFacts}
use Rattle.matching.specs.declared.tables.Tables.{Tables}
use Rattle.replays.specs.declared.kept.Kept.{Kept}
use Rattle.matching.specs.Matching.{IsRunLess, IsSettled, listed_in}
use Rattle.slot_switch.proofs.RunSteps.{left_after_run}
use Rattle.replays.specs.declared.progress.Progress.{Progress}
use Rattle.epochs.specs.Tallies.{IsTallied}
use Rattle.replays.specs.Kept.{Holds, IsAt, TellsProgress}
use Rattle.replays.specs.Moments.{DoesNext, Input, Moment, owed_at, served_at, time_at}
use Rattle.replays.proofs.Holding.{longer, run_takes}
use Rattle.replays.specs.Replayed.{IsInput}
use Rattle.replays.proofs.Remaining.{few_left, some_is_granted, some_slot}
use Rattle.replays.proofs.Telling.{completion_on}

-- the functions of what is left are one
pub left_same : (x : Input) (m : Moment) (p : Progress) → TellsProgress x m p → (λ f. slice_index p.left.items f) ≡ left_after x.table.flows m.slots
left_same x m p t = fun_ext (λ f. t.left_is f)

-- the lesser of the slots that may pass and of the least units left
pub run_of_least : (left : ℕ → ℕ) (granted : List ℕ) (most least n g : ℕ) → Contains granted g → IsLeastLeft left granted least → n ≡ min most least →
    IsRunLength left granted most n
run_of_least left granted most least n g has is e =
    let (k, f, lt, at, reached) = is.reached (λ none. nothing_in g (subst (λ l. Contains l g) none has)) in
    record {
      asked = omega (arith, e);
      owed = λ f has. omega (arith, e, All-contains (λ f. least ≤ left f) granted f is.below has);
      longest = elim (which most least) [
        | inl all ↦ inl (omega (arith, e, all))
        | inr some ↦ inr (f, (k, lt, at), omega (arith, e, some, reached))
      ];
    } where
      which : (a b : ℕ) → (min a b ≡ a) ⊎ (min a b ≡ b)
      which a b = grind arith

-- what is known of a run: the grants, and for how many slots they are served
pub record IsRunOf (x : Input) (m : Moment) (most : ℕ) (granted : List ℕ) (n : ℕ) : Type 0 where
  pub grants : IsGrants x.table.flows m.line (left_after x.table.flows m.slots) granted
  pub run : IsRunLength (left_after x.table.flows m.slots) granted most n
  pub some : 1 ≤ n
  pub short : time_at m + n ≤ 2199023255551

pub is_run : (x : Input) (m : Moment) (most least n : ℕ) (granted : List ℕ) → Holds x m → Runs m.course (time_at m) (owed_at x m) most →
    IsGrants x.table.flows m.line (left_after x.table.flows m.slots) granted → IsLeastLeft (left_after x.table.flows m.slots) granted least → n ≡ min most least →
    IsRunOf x m most granted n
is_run x m most least n granted h does grants is e =
    let (g, has) = some_is_granted x m granted h does.owing grants in
    let run = run_of_least (left_after x.table.flows m.slots) granted most least n g has is e in
    record {
      grants = grants;
      run = run;
      some = some_slot x m granted most n h does grants run;
      short = omega (arith, run_takes x.table.flows m.line m.slots granted n g grants has (run.owed g has), h.short);
    }

pub served_progress : (x : Input) (m : Moment) (granted : List ℕ) (n : ℕ) (old new : Progress) → TellsProgress x m old → 1 ≤ n → new.time ≡ old.time + n →
    IsTallied x.table.flows new.left.items new.owed.items →
    ((f : ℕ) → slice_index new.left.items f ≡ slice_index old.left.items f - (if holds granted f then n else 0)) →
    ((c : ℕ) → c < length x.table.ids → slice_index new.ends.items c ≡ (if holds_coflow x.table.flows granted c then old.time + n else slice_index old.ends.items c)) →
    TellsProgress x (served_at m n granted) new
served_progress x m granted n old new t some time tallied left ends =
    let flows = x.table.flows in
    record {
      time_is = omega (arith, time, t.time_is, longer m n granted);
      left_is = λ f. omega (arith, left f, t.left_is f, left_after_run flows m.slots granted n f);
      tallied = tallied;
      ends_are = λ c lt.
          ends c lt ∙ ap {B = ℕ} (λ k. if holds_coflow flows granted c then k + n else slice_index old.ends.items c) t.time_is
          ∙ ap {B = ℕ} (λ k. if holds_coflow flows granted c then length m.slots + n else k) (t.ends_are c lt)
          ∙ sym (completion_on flows m.slots granted n c some);
    }

-- what is left after the run, as the grants see it
pub run_less : (x : Input) (m : Moment) (granted : List ℕ) (n : ℕ) →
    IsRunLess (left_after x.table.flows m.slots) (left_after x.table.flows (m.slots ++ replicate n granted)) granted n
run_less x m granted n f = left_after_run x.table.flows m.slots granted n f

-- the grants as they are kept, and as the moment has them
pub settled_kept : (x : Input) (m : Moment) (kept : Kept) (table : TableFacts) (left : List ℕ) → IsAt x m kept → x.table ≡ table → left ≡ kept.progress.left.items →
    kept.line.stale ≡ false → IsSettled table.flows kept.line.coflows.items (λ f. slice_index left f) kept.line.grants
settled_kept x m kept table left at same lent fresh =
    subst (λ (t : TableFacts). IsSettled t.flows kept.line.coflows.items (λ f. slice_index left f) kept.line.grants) same
    (subst (λ l. IsSettled x.table.flows kept.line.coflows.items (λ f. slice_index l f) kept.line.grants) (sym lent)
    (subst (λ (l : ℕ → ℕ). IsSettled x.table.flows kept.line.coflows.items l kept.line.grants) (sym (left_same x m kept.progress at.tells.progress))
    (subst (λ l. IsSettled x.table.flows l (left_after x.table.flows m.slots) kept.line.grants) (sym at.tells.line.coflows_are) (at.tells.line.settled fresh))))

pub settled_moment : (x : Input) (m : Moment) (kept : Kept) (table : TableFacts) (left : List ℕ) (grants : Tables) → IsAt x m kept → x.table ≡ table →
    left ≡ kept.progress.left.items →
    IsSettled table.flows kept.line.coflows.items (λ f. slice_index left f) grants → IsSettled x.table.flows m.line (left_after x.table.flows m.slots) grants
settled_moment x m kept table left grants at same lent settled =
    subst (λ l. IsSettled x.table.flows l (left_after x.table.flows m.slots) grants) at.tells.line.coflows_are
    (subst (λ (l : ℕ → ℕ). IsSettled x.table.flows kept.line.coflows.items l grants) (left_same x m kept.progress at.tells.progress)
    (subst (λ l. IsSettled x.table.flows kept.line.coflows.items (λ f. slice_index l f) grants) lent
    (subst (λ (t : TableFacts). IsSettled t.flows kept.line.coflows.items (λ f. slice_index left f) grants) (sym same) settled)))

-- what is known of the run that is served
pub run_kept : (x : Input) (m : Moment) (kept : Kept) (table : TableFacts) (left : List ℕ) (grants : Tables) (most least n : ℕ) → IsAt x m kept → x.table ≡ table →
    DoesNext x m (Run most) → left ≡ kept.progress.left.items →
    IsSettled table.flows kept.line.coflows.items (λ f. slice_index left f) grants →
    ((flows : List Flow) (line : List ℕ) (left : ℕ → ℕ) → IsSettled flows line left grants → IsLeastLeft left (listed_in grants) least) → n ≡ min most least →
    IsRunOf x m most (listed_in grants) n
run_kept x m kept table left grants most least n at same does lent settled is_least e =
    let here = settled_moment x m kept table left grants at same lent settled in
    is_run x m most least n (listed_in grants) at.holds does.applies here.grants (is_least x.table.flows m.line (left_after x.table.flows m.slots) here) e

-- no more units are left than there are
pub units_kept : (x : Input) (m : Moment) (p : Progress) → IsInput x → TellsProgress x m p → sum p.left.items ≤ 1099511627776
units_kept x m p input t =
    let left = p.left.items in
    let all : sum left ≡ sum_by (λ f. slice_index left f) (range_with_len 0 (length left)) = by_number (λ (n : ℕ). n) 0 left in
    let same : sum_by (λ f. slice_index left f) (range_with_len 0 (length x.table.flows)) ≡ left_sum x.table.flows m.slots =
    sum_same (λ f. slice_index left f) (left_after x.table.flows m.slots) (range_with_len 0 (length x.table.flows)) (λ f has. t.left_is f) in
    omega (arith, all, ap (λ n. sum_by (λ f. slice_index left f) (range_with_len 0 n)) t.tallied.each_flow, same, few_left x m input)
