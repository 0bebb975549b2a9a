-- What coflows owe, and what their flows do.
use Rattle.std.proofs.Common.{◌≡◌, ℕ, ◌-◌, ◌<◌, ◌≤◌, inl, inr, List, length, ap, arith}
use Rattle.std.specs.Prelude.{◌==◌, if◌then◌else◌, slice_index}
use Rattle.std.specs.List.{range_with_len}
use Rattle.std.proofs.lemmas.Bool.{cases_lt, eq-eqb, eqb-true}
use Rattle.std.proofs.lemmas.List.{get_or_past}
use Rattle.std.proofs.lemmas.List.FromFn.{get_or-map-range_with_len, length-map-range_with_len}
use Rattle.coflow_units.specs.Flows.{coflow_of, units_of}
use Rattle.coflow_units.proofs.Lists.{number_below, number_in}
use Rattle.coflow_units.proofs.Sums.{member_within_sum, some_term, sum_same}
use Rattle.journal.specs.declared.command.Entry.{Entry}
use Rattle.journal.specs.declared.opening.Opening.{Opening}
use Rattle.journal.specs.State.{owed, State}
use Rattle.journal.specs.Closed.{LeavesSlots}
use Rattle.journal.specs.Fold.{state_of}
use Rattle.journal.proofs.Ranges.{range_same}
use Rattle.epochs.proofs.Tallying.{some_share}
use Rattle.online_runs.specs.Deeds.{coflow_owes, owed_after}

pub owes_at : (o : Opening) (j : List Entry) (c : ℕ) → c < length o.table.ids → slice_index (owed_after o j) c ≡ coflow_owes o (state_of o j) c
owes_at o j c lt = get_or-map-range_with_len (coflow_owes o (state_of o j)) 0 (length o.table.ids) c c 0 lt (omega arith)

owes_past : (o : Opening) (j : List Entry) (c : ℕ) → length o.table.ids ≤ c → slice_index (owed_after o j) c ≡ 0
owes_past o j c past = get_or_past (owed_after o j) c 0 (omega (arith, past, length-map-range_with_len (coflow_owes o (state_of o j)) 0 (length o.table.ids)))

-- a flow of the coflow owes a unit
pub record OwesBy (o : Opening) (j : List Entry) (c f : ℕ) : Type 0 where
  pub flow_in : f < length o.table.flows
  pub of_coflow : coflow_of o.table.flows f ≡ c
  pub owes : 0 < owed o (state_of o j) f

abbrev share : Opening → State → ℕ → ℕ → ℕ
share o s c f = if coflow_of o.table.flows f == c then owed o s f else 0

pub flow_owes : (o : Opening) (j : List Entry) (c : ℕ) → 0 < slice_index (owed_after o j) c → (f : ℕ) × OwesBy o j c f
flow_owes o j c some = elim (cases_lt c (length o.table.ids)) [
  | inl lt ↦
      let s = state_of o j in
      let (f, in', owes) = some_term (share o s c) (range_with_len 0 (length o.table.flows)) (omega (arith, some, owes_at o j c lt)) in
      let (is, more) = some_share (coflow_of o.table.flows f == c) (owed o s f) owes in (
        f,
        record {
          flow_in = omega (arith, number_below 0 (length o.table.flows) f in');
          of_coflow = eqb-true (coflow_of o.table.flows f) c is;
          owes = more;
        },
      )
  | inr past ↦ absurd (omega (arith, some, owes_past o j c past))
]

pub owes_by_flow : (o : Opening) (j : List Entry) (c f : ℕ) → c < length o.table.ids → OwesBy o j c f → 0 < slice_index (owed_after o j) c
owes_by_flow o j c f lt h =
    let s = state_of o j in
    let all = range_with_len 0 (length o.table.flows) in
    let here : share o s c f ≡ owed o s f = ap {B = ℕ} (λ b. if b then owed o s f else 0) (eq-eqb (coflow_of o.table.flows f) c h.of_coflow) in
    omega (arith, h.owes, here, owes_at o j c lt, member_within_sum (share o s c) all f (number_in 0 (length o.table.flows) f (omega arith) (omega (arith, h.flow_in))))

-- where each flow owes as before each coflow does
pub owes_as_flows : (o : Opening) (j k : List Entry) → ((f : ℕ) → owed o (state_of o k) f ≡ owed o (state_of o j) f) → owed_after o k ≡ owed_after o j
owes_as_flows o j k same =
    range_same (coflow_owes o (state_of o k)) (coflow_owes o (state_of o j)) 0 (length o.table.ids)
    (λ c low high.
    sum_same (share o (state_of o k) c) (share o (state_of o j) c) (range_with_len 0 (length o.table.flows))
    (λ f in'. ap {B = ℕ} (λ n. if coflow_of o.table.flows f == c then n else 0) (same f)))

-- where no slot passes all owe as before
pub same_owes : (o : Opening) (j k : List Entry) → LeavesSlots o j k → owed_after o k ≡ owed_after o j
same_owes o j k l = owes_as_flows o j k (λ f. ap (λ n. units_of o.table.flows f - n) (l.sent f))
