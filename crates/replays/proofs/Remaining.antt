-- What remains to be done at a moment of a replay falls with each action.
use Rattle.std.proofs.Common.{◌≡◌, ℕ, ◌+◌, ◌-◌, ◌<◌, ◌≤◌, inl, inr, List, [], length, get_or, Contains}
use Rattle.std.proofs.Common.{sym, ap, subst, arith}
use Rattle.std.specs.Prelude.{◌==◌, if◌then◌else◌, slice_index}
use Rattle.std.specs.List.{range_with_len}
use Rattle.std.proofs.lemmas.Bool.{cases_lt, eqb-true}
use Rattle.std.proofs.lemmas.List.{get_or_past}
use Rattle.std.proofs.lemmas.List.FromFn.{get_or-map-range_with_len, length-map-range_with_len}
use Rattle.coflow_units.specs.declared.limits.TheConstants.{MAX_PUBLISHINGS}
use Rattle.coflow_units.specs.Flows.{coflow_of}
use Rattle.coflow_units.specs.Grants.{IsGrants, IsRunLength}
use Rattle.coflow_units.specs.Served.{left_after}
use Rattle.coflow_units.proofs.Lists.{number_below}
use Rattle.coflow_units.proofs.RunLengths.{some_grant}
use Rattle.coflow_units.proofs.ServedExists.{left_sum}
use Rattle.coflow_units.proofs.GrantsExist.{numbers_of}
use Rattle.coflow_units.proofs.Sums.{some_term, sum_mono}
use Rattle.slot_switch.proofs.RunSteps.{units_in_all}
use Rattle.epochs.specs.declared.action.Action.{Action}
use Rattle.epochs.specs.declared.action.Action.TheVariants.{End, Publish, Register, Run, Skip, TooMany, Withdraw}
use Rattle.epochs.specs.Choice.{Registers, Runs, Skips, Withdraws}
use Rattle.epochs.specs.Course.{Course, SomeOwes}
use Rattle.epochs.proofs.Actions.{marked_below}
use Rattle.epochs.proofs.Tallying.{some_share}
use Rattle.replays.specs.Kept.{Holds}
use Rattle.replays.specs.Moments.{DoesNext, Input, IsNext, IsPublished, Moment, joined_at, left_the_line, owed_at, owes, published_at, served_at, time_at}
use Rattle.replays.specs.Replayed.{IsInput}
use Rattle.replays.proofs.Marks.{fewer_unmarked, here_from, unmarked}
use Rattle.replays.proofs.Holding.{holds_joined, holds_left, holds_published, holds_served, longer, run_takes, skip_leaves}

-- the coflows that may still join and leave, the orders that may still be published, the units that are left, and the
-- slots up to the latest arrival
abbrev pub remaining : ℕ → Course → ℕ → ℕ → ℕ
remaining n course left time =
    unmarked n course.registered + unmarked n course.withdrawn + (MAX_PUBLISHINGS - course.published) + left + (4294967296 - time)

abbrev pub remaining_at : Input → Moment → ℕ
remaining_at x m = remaining (length x.table.ids) m.course (left_sum x.table.flows m.slots) (time_at m)

-- it holds of the next moment, at which less remains
pub record GoesOn (x : Input) (m next : Moment) : Type 0 where
  pub holds : Holds x next
  pub less : remaining_at x next < remaining_at x m

-- ---- who joins, and who leaves

on_joined : (x : Input) (m : Moment) (coflow : ℕ) → IsInput x → Holds x m → Registers m.course (time_at m) coflow → GoesOn x m (joined_at m coflow)
on_joined x m coflow input h does =
    let n = length x.table.ids in
    let low : coflow < n = omega (arith, does.waits.coflow_in, ap (λ (l : List ℕ). length l) h.arrivals_are, input.each_arrival) in
    let fewer = fewer_unmarked n m.course.registered coflow low (omega (arith, low, h.registered)) does.waits.waits in
    record { holds = holds_joined x m coflow h input does; less = omega (arith, fewer) }

on_left : (x : Input) (m : Moment) (coflow : ℕ) → Holds x m → Withdraws m.course (time_at m) (owed_at x m) coflow → GoesOn x m (left_the_line m coflow)
on_left x m coflow h does =
    let n = length x.table.ids in
    let joined = does.served.is_present.joined in
    let low : coflow < n = omega (arith, marked_below m.course.registered coflow joined, h.registered) in
    let fewer = fewer_unmarked n m.course.withdrawn coflow low (omega (arith, low, h.withdrawn)) does.served.is_present.stays in
    record { holds = holds_left x m coflow h joined; less = omega (arith, fewer) }

on_published : (x : Input) (m next : Moment) → Holds x m → m.course.published < MAX_PUBLISHINGS → IsPublished x m next → GoesOn x m next
on_published x m next h few is =
    let made : remaining_at x (published_at x m is.facts) < remaining_at x m = omega (arith, few) in
    record { holds = holds_published x m next h is; less = subst (λ t. remaining_at x t < remaining_at x m) (sym is.next_is) made }

-- ---- runs

pub owed_is : (x : Input) (m : Moment) (c : ℕ) → c < length x.table.ids → slice_index (owed_at x m) c ≡ owes x m c
owed_is x m c lt = get_or-map-range_with_len (owes x m) 0 (length x.table.ids) c c 0 lt (omega arith)

-- a coflow that owes a unit has a flow that does
pub some_owed : (x : Input) (m : Moment) (c : ℕ) → 0 < slice_index (owed_at x m) c →
    (f : ℕ) × (f < length x.table.flows) × (coflow_of x.table.flows f ≡ c) × (0 < left_after x.table.flows m.slots f)
some_owed x m c some = elim (cases_lt c (length x.table.ids)) [
  | inl lt ↦
      let flows = x.table.flows in
      let (f, has, share) = some_term (λ f. if coflow_of flows f == c then left_after flows m.slots f else 0) (range_with_len 0 (length flows))
      (omega (arith, some, owed_is x m c lt)) in
      let (is, more) = some_share (coflow_of flows f == c) (left_after flows m.slots f) share in
      (f, omega (arith, number_below 0 (length flows) f has), eqb-true (coflow_of flows f) c is, more)
  | inr past ↦ absurd (omega (arith, some, get_or_past (owed_at x m) c 0 (omega (arith, past, length-map-range_with_len (owes x m) 0 (length x.table.ids)))))
]

-- where a coflow that is present owes a unit, a flow is granted
pub some_is_granted : (x : Input) (m : Moment) (granted : List ℕ) → Holds x m → SomeOwes m.course.registered m.course.withdrawn (owed_at x m) →
    IsGrants x.table.flows m.line (left_after x.table.flows m.slots) granted → (g : ℕ) × Contains granted g
some_is_granted x m granted h (c, present, owing) grants =
    let (f, low, of, left) = some_owed x m c owing in
    some_grant x.table.flows m.line (left_after x.table.flows m.slots) granted f grants low
    (subst (Contains m.line) (sym of) (h.lined c (here_from m c present.joined present.stays))) left

-- a run has a slot
pub some_slot : (x : Input) (m : Moment) (granted : List ℕ) (most n : ℕ) → Holds x m → Runs m.course (time_at m) (owed_at x m) most →
    IsGrants x.table.flows m.line (left_after x.table.flows m.slots) granted → IsRunLength (left_after x.table.flows m.slots) granted most n → 1 ≤ n
some_slot x m granted most n h does grants is = elim is.longest [
  | inl all ↦ omega (arith, all, does.stop.later)
  | inr (f, has, e) ↦ omega (arith, e, grants.owed f has)
]

pub on_run : (x : Input) (m : Moment) (granted : List ℕ) (most n : ℕ) → Holds x m → Runs m.course (time_at m) (owed_at x m) most →
    IsGrants x.table.flows m.line (left_after x.table.flows m.slots) granted → IsRunLength (left_after x.table.flows m.slots) granted most n →
    GoesOn x m (served_at m n granted)
on_run x m granted most n h does grants is =
    let (g, has) = some_is_granted x m granted h does.owing grants in
    let some = some_slot x m granted most n h does grants is in
    let takes = run_takes x.table.flows m.line m.slots granted n g grants has (is.owed g has) in
    let time = longer m n granted in
    record {
      holds = holds_served x m n granted h (omega (arith, takes, h.short));
      less = omega (arith, takes, some, time);
    }

-- ---- slots in which nobody is served

-- the next arrival is after now, and is the time then
pub skip_time : (x : Input) (m : Moment) (to : ℕ) → IsInput x → Holds x m → Skips m.course (time_at m) to →
    (time_at m < to - 1) × (to - 1 ≤ 4294967296) × (1 ≤ to)
skip_time x m to input h does =
    let (at, next, is) = does.arrival in
    let (c, low, arrives) = next.arrival in
    let same = ap (λ (l : List ℕ). get_or l c 0) h.arrivals_are in
    let below : c < length x.arrivals = omega (arith, low, ap (λ (l : List ℕ). length l) h.arrivals_are) in
    let most : get_or x.arrivals c 0 ≤ 4294967296 = input.arrival c 0 below in
    (omega (arith, is, next.later), omega (arith, is, arrives, same, most), omega (arith, is))

-- no more units are left than there are
pub few_left : (x : Input) (m : Moment) → IsInput x → left_sum x.table.flows m.slots ≤ 1099511627776
few_left x m input =
    let flows = x.table.flows in
    let less = sum_mono (left_after flows m.slots) (left_after flows []) (numbers_of flows) (λ f has. omega arith) in
    omega (arith, less, units_in_all flows, input.table.few_units)

pub on_skip : (x : Input) (m : Moment) (to : ℕ) → IsInput x → Holds x m → Skips m.course (time_at m) to → GoesOn x m (served_at m (to - 1 - time_at m) [])
on_skip x m to input h does =
    let (later, most, some) = skip_time x m to input h does in
    let n = to - 1 - time_at m in
    let leaves = skip_leaves x.table.flows m.slots n in
    let time = longer m n [] in
    record {
      holds = holds_served x m n [] h (omega (arith, leaves, later, most, h.short, few_left x m input));
      less = omega (arith, leaves, later, most, time);
    }

-- ---- each action

pub goes_on : (x : Input) (m next : Moment) (action : Action) → IsInput x → Holds x m → DoesNext x m action → IsNext x m action next → GoesOn x m next
goes_on x m next (Register coflow) input h does is = subst (GoesOn x m) (sym is) (on_joined x m coflow input h does.applies)
goes_on x m next (Withdraw coflow) input h does is = subst (GoesOn x m) (sym is) (on_left x m coflow h does.applies)
goes_on x m next Publish input h does is = on_published x m next h does.applies.1 is
goes_on x m next (Run most) input h does is = subst (GoesOn x m) (sym is.next_is) (on_run x m is.granted most is.count h does.applies is.grants is.run)
goes_on x m next (Skip to) input h does is = subst (GoesOn x m) (sym is) (on_skip x m to input h does.applies)
goes_on x m next End input h does is = absurd is
goes_on x m next (TooMany count) input h does is = absurd is
