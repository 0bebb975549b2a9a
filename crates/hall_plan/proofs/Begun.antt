-- The state after the beginning of a plan, and the line from then on.
use Rattle.std.proofs.Common.{◌≡◌, ℕ, ◌+◌, ◌<◌, true, List, [], ◌∷◌, ◌++◌, length, map, refl, sym, ap, subst, ◌∙◌, arith, suc, zero, append_assoc, append-nil}
use Rattle.std.specs.Prelude.{Contains, flat_map, not}
use Rattle.std.specs.List.{range_with_len}
use Rattle.std.proofs.lemmas.Bool.{and_from}
use Rattle.std.proofs.lemmas.List.Elements.{All-contains}
use Rattle.coflow_units.specs.Flows.{IsInstance}
use Rattle.coflow_units.specs.Certificate.{front, order_of}
use Rattle.coflow_units.specs.Ordering.{IsOrdering}
use Rattle.coflow_units.specs.Served.{IsServed}
use Rattle.coflow_units.proofs.Lists.{into_reverse, number_in, number_below}
use Rattle.coflow_units.proofs.Sums.{any_has, any_in}
use Rattle.flow_table.specs.Table.{instance_of}
use Rattle.journal.specs.declared.command.Command.TheVariants.{Publish}
use Rattle.journal.specs.declared.command.Reply.TheVariants.{Version}
use Rattle.journal.specs.declared.opening.Opening.{Opening}
use Rattle.journal.specs.Chosen.{the_order, the_ordering}
use Rattle.journal.specs.State.{has, IsOpening, State, what_is_left}
use Rattle.journal.specs.Line.{line, newest, order}
use Rattle.journal.specs.Fold.{start, state_from, state_of}
use Rattle.journal.specs.Journal.{entry, left_at, line_of, order_in}
use Rattle.journal.proofs.Growth.{state_append, state_snoc}
use Rattle.journal.proofs.Instances.{is_the_ordering, left_is_instance, only_ordering}
use Rattle.journal.proofs.WholeWork.{line_is_newest, whole_is_left}
use Rattle.hall_plan.specs.Journals.{beginning, joins, plan_journal, plan_order, run_entries}
use Rattle.hall_plan.specs.Plans.{IsPlanned}
use Rattle.hall_plan.proofs.PlanEntries.{joining}

-- ---- all coflows join

pub after_joins : (o : Opening) (s : State) (a n : ℕ) → state_from o s (map joining (range_with_len a n)) ≡ record s { joined = s.joined ++ range_with_len a n }
after_joins o s a zero = ap (λ l. record s { joined = l }) (sym (append-nil s.joined))
after_joins o s a (suc n) =
    after_joins o (record s { joined = s.joined ++ a ∷ [] }) (a + 1) n ∙ ap (λ l. record s { joined = l }) (append_assoc s.joined (a ∷ []) (range_with_len (a + 1) n))

abbrev pub all_joined : Opening → State
all_joined o = record (start o) { joined = range_with_len 0 (length o.table.ids) }

pub joined_is : (o : Opening) → state_of o (joins (length o.table.ids)) ≡ all_joined o
joined_is o = after_joins o (start o) 0 (length o.table.ids)

is_here : (n c : ℕ) → c < n → has (range_with_len 0 n) c ≡ true
is_here n c lt = any_in (range_with_len 0 n) c (number_in 0 n c (omega arith) (omega (arith, lt)))

-- ---- and an order is published

abbrev pub begun : Opening → State
begun o = record (all_joined o) { published = what_is_left o (all_joined o) ∷ [] }

pub begun_is : (o : Opening) → state_of o (beginning o) ≡ begun o
begun_is o =
    state_snoc o (joins (length o.table.ids)) (entry 0 Publish (Version 1))
    ∙ ap (λ (s : State). record s { published = s.published ++ what_is_left o s ∷ [] }) (joined_is o)

whole : (o : Opening) (s : State) → IsOpening o → s.joined ≡ range_with_len 0 (length o.table.ids) → s.left ≡ [] → s.sent ≡ (λ f. 0) → s.weight ≡ (start o).weight →
    what_is_left o s ≡ instance_of o.table o.weights
whole o s ok joined left sent weight =
    whole_is_left o s ok
    (λ c lt. and_from (has s.joined c) _ (ap (λ l. has l c) joined ∙ is_here (length o.table.ids) c lt) (ap (λ l. not (has l c)) left))
    (λ f. ap (λ (w : ℕ → ℕ). w f) sent) (λ c. ap (λ (w : ℕ → ℕ). w c) weight)

pub what_is_whole : (o : Opening) → IsOpening o → what_is_left o (all_joined o) ≡ instance_of o.table o.weights
what_is_whole o ok = whole o (all_joined o) ok refl refl refl refl

pub left_is_whole : (o : Opening) → IsOpening o → left_at o (beginning o) ≡ instance_of o.table o.weights
left_is_whole o ok = ap (what_is_left o) (begun_is o) ∙ whole o (begun o) ok refl refl refl refl

newest_is : (o : Opening) → IsOpening o → newest (begun o) ≡ plan_order o
newest_is o ok = ap the_order (what_is_whole o ok)

pub order_is : (o : Opening) → IsOpening o → order_in o (beginning o) 1 ≡ plan_order o
order_is o ok = ap (λ (s : State). order s 1) (begun_is o) ∙ newest_is o ok

-- ---- the line

pub plan_instance : (o : Opening) → IsOpening o → IsInstance (instance_of o.table o.weights)
plan_instance o ok = subst IsInstance (what_is_whole o ok) (left_is_instance o (all_joined o) ok)

pub plan_ordering : (o : Opening) → IsOpening o → IsOrdering (instance_of o.table o.weights) (the_ordering (instance_of o.table o.weights))
plan_ordering o ok = is_the_ordering (instance_of o.table o.weights) (plan_instance o ok)

-- each coflow has a place
pub in_order : (o : Opening) → IsOpening o → (c : ℕ) → c < length o.table.ids → Contains (plan_order o) c
in_order o ok c lt =
    let entries = the_ordering (instance_of o.table o.weights) in
    into_reverse (front entries) c
    (All-contains (Contains (front entries)) (range_with_len 0 (length o.table.ids)) c (plan_ordering o ok).certificate.all
    (number_in 0 (length o.table.ids) c (omega arith) (omega (arith, lt))))

line_begun : (o : Opening) → IsOpening o → line (begun o) ≡ plan_order o
line_begun o ok =
    line_is_newest (begun o)
    (λ c j.
    let in' = any_has (range_with_len 0 (length o.table.ids)) c j in
    ap (λ l. has l c) (newest_is o ok) ∙ any_in (plan_order o) c (in_order o ok c (omega (arith, number_below 0 (length o.table.ids) c in'))))
    (λ c. refl) ∙ newest_is o ok

line_runs : (o : Opening) (s : State) (runs : List (ℕ × ℕ × ℕ)) → line (state_from o s (flat_map run_entries runs)) ≡ line s
line_runs o s [] = refl
line_runs o s (r ∷ rs) = line_runs o (state_from o s (run_entries r)) rs

pub line_is : (o : Opening) (runs : List (ℕ × ℕ × ℕ)) → IsOpening o → line_of o (plan_journal o runs) ≡ plan_order o
line_is o runs ok =
    ap line (state_append o (start o) (beginning o) (flat_map run_entries runs)) ∙ line_runs o (state_of o (beginning o)) runs ∙ ap line (begun_is o) ∙ line_begun o ok

-- the schedule of the table's ordering certificate serves the order of the plan
pub planned_serves : (o : Opening) (slots : List (List ℕ)) → IsOpening o → IsPlanned o.table o.weights slots → IsServed o.table.flows (plan_order o) slots
planned_serves o slots ok h =
    subst (λ e. IsServed o.table.flows (order_of e) slots) (only_ordering (instance_of o.table o.weights) h.entries (plan_instance o ok) h.ordering) h.served
