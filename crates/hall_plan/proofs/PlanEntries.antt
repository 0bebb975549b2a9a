-- The entries of the journal of a plan: what holds of each, and how many there are.
use Rattle.std.proofs.Common.{◌≡◌, ℕ, ◌+◌, ◌*◌, ◌≤◌, ◌<◌, true, false, List, [], ◌∷◌, length, map, refl, arith, suc, zero, cond}
use Rattle.std.specs.Prelude.{All, flat_map}
use Rattle.std.specs.List.{range_with_len}
use Rattle.std.proofs.lemmas.Bool.{lt-ltb}
use Rattle.std.proofs.lemmas.List.{length-append, length-map}
use Rattle.std.proofs.lemmas.List.Elements.{All-append, All-cons, All-nil}
use Rattle.std.proofs.lemmas.List.FromFn.{length-range_with_len}
use Rattle.std.proofs.lemmas.List.Sums.{sum_by-append, sum_by-cons}
use Rattle.coflow_units.specs.declared.limits.TheConstants.{MAX_SLOT}
use Rattle.journal.specs.declared.command.Command.TheVariants.{Close, Open, Publish, Register}
use Rattle.journal.specs.declared.command.Entry.{Entry}
use Rattle.journal.specs.declared.command.Reply.TheVariants.{Closed, Joined, Opened, Version}
use Rattle.journal.specs.declared.opening.Opening.{Opening}
use Rattle.journal.specs.Answer.{in_range}
use Rattle.journal.specs.Counts.{closings, furthest_skip, is_closing, is_noting, skipped_to}
use Rattle.journal.specs.Journal.{entry}
use Rattle.journal.specs.Sound.{InRange}
use Rattle.hall_plan.specs.Journals.{beginning, joins, plan_journal, run_entries}

abbrev pub joining : ℕ → Entry
joining c = entry 0 (Register c) Joined

all_joins : (P : Entry → Type 0) (a n : ℕ) → ((c : ℕ) → a ≤ c → c < a + n → P (joining c)) → All P (map joining (range_with_len a n))
all_joins P a zero each = All-nil P
all_joins P a (suc n) each =
    All-cons P (joining a) (map joining (range_with_len (a + 1) n)) (each a (omega arith) (omega arith))
    (all_joins P (a + 1) n (λ c low high. each c (omega (arith, low)) (omega (arith, high))))

all_runs : (P : Entry → Type 0) (runs : List (ℕ × ℕ × ℕ)) → ((r : ℕ × ℕ × ℕ) → P (entry 0 (Open MAX_SLOT) (Opened r.0 r.1 r.2)) × P (entry 0 Close (Closed r.0))) →
    All P (flat_map run_entries runs)
all_runs P [] each = All-nil P
all_runs P (r ∷ rs) each =
    let opened = entry 0 (Open MAX_SLOT) (Opened r.0 r.1 r.2) in
    let closed = entry 0 Close (Closed r.0) in
    All-cons P opened (closed ∷ flat_map run_entries rs) (each r).0 (All-cons P closed (flat_map run_entries rs) (each r).1 (all_runs P rs each))

-- what holds of each kind of entry holds of all
pub all_entries : (P : Entry → Type 0) (o : Opening) (runs : List (ℕ × ℕ × ℕ)) → ((c : ℕ) → c < length o.table.ids → P (joining c)) → P (entry 0 Publish (Version 1)) →
    ((r : ℕ × ℕ × ℕ) → P (entry 0 (Open MAX_SLOT) (Opened r.0 r.1 r.2)) × P (entry 0 Close (Closed r.0))) → All P (plan_journal o runs)
all_entries P o runs join publish run =
    All-append P (beginning o) (flat_map run_entries runs)
    (All-append P (joins (length o.table.ids)) (entry 0 Publish (Version 1) ∷ []) (all_joins P 0 (length o.table.ids) (λ c low high. join c (omega (arith, high))))
    (All-cons P (entry 0 Publish (Version 1)) [] publish (All-nil P)))
    (all_runs P runs run)

pub commands_fit : (o : Opening) (runs : List (ℕ × ℕ × ℕ)) → InRange o (plan_journal o runs)
commands_fit o runs = all_entries (λ (e : Entry). in_range o e.command ≡ true) o runs (λ c lt. lt-ltb c (length o.table.ids) lt) refl (λ r. (refl, refl))

pub no_notes : (o : Opening) (runs : List (ℕ × ℕ × ℕ)) → All (λ (e : Entry). is_noting e.command ≡ false) (plan_journal o runs)
no_notes o runs = all_entries (λ (e : Entry). is_noting e.command ≡ false) o runs (λ c lt. refl) refl (λ r. (refl, refl))

-- ---- no slot is skipped

never_skipped : (es : List Entry) → All (λ (e : Entry). skipped_to e.reply ≡ 1) es → furthest_skip es ≡ 1
never_skipped [] all = refl
never_skipped (e ∷ es) all = omega (arith, all 0 e (omega arith), never_skipped es (λ k d lt. all (suc k) d (omega arith)))

pub no_skips : (o : Opening) (runs : List (ℕ × ℕ × ℕ)) → furthest_skip (plan_journal o runs) ≡ 1
no_skips o runs = never_skipped (plan_journal o runs) (all_entries (λ (e : Entry). skipped_to e.reply ≡ 1) o runs (λ c lt. refl) refl (λ r. (refl, refl)))

-- ---- counts

abbrev closes : Entry → ℕ
closes e = cond (is_closing e.reply) 1 0

closed_none : (a n : ℕ) → closings (map joining (range_with_len a n)) ≡ 0
closed_none a zero = refl
closed_none a (suc n) = omega (arith, sum_by-cons closes (joining a) (map joining (range_with_len (a + 1) n)), closed_none (a + 1) n)

closed_runs_are : (runs : List (ℕ × ℕ × ℕ)) → closings (flat_map run_entries runs) ≡ length runs
closed_runs_are [] = refl
closed_runs_are (r ∷ rs) =
    let one : closings (run_entries r) ≡ 1 = refl in
    omega (arith, sum_by-append closes (run_entries r) (flat_map run_entries rs), one, closed_runs_are rs)

-- each run is closed once
pub closings_are_runs : (o : Opening) (runs : List (ℕ × ℕ × ℕ)) → closings (plan_journal o runs) ≡ length runs
closings_are_runs o runs =
    let none : closings (entry 0 Publish (Version 1) ∷ []) ≡ 0 = refl in
    omega (
      arith,
      none,
      sum_by-append closes (beginning o) (flat_map run_entries runs),
      sum_by-append closes (joins (length o.table.ids)) (entry 0 Publish (Version 1) ∷ []),
      closed_none 0 (length o.table.ids),
      closed_runs_are runs,
    )

run_count : (runs : List (ℕ × ℕ × ℕ)) → length (flat_map run_entries runs) ≡ 2 * length runs
run_count [] = refl
run_count (r ∷ rs) = omega (arith, run_count rs)

pub beginning_count : (o : Opening) → length (beginning o) ≡ length o.table.ids + 1
beginning_count o =
    omega (
      arith,
      length-append (joins (length o.table.ids)) (entry 0 Publish (Version 1) ∷ []),
      length-map (range_with_len 0 (length o.table.ids)) joining,
      length-range_with_len 0 (length o.table.ids),
    )

pub entry_count : (o : Opening) (runs : List (ℕ × ℕ × ℕ)) → length (plan_journal o runs) ≡ length o.table.ids + 1 + 2 * length runs
entry_count o runs = omega (arith, length-append (beginning o) (flat_map run_entries runs), run_count runs, beginning_count o)
