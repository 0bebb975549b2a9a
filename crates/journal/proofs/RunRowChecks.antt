-- The rows, computed.
use Rattle.std.proofs.Common.{◌≡◌, ℕ, ◌<◌, ◌≤◌, ◌⊎◌, true, inl, inr, List, [], ◌∷◌, Contains, refl, ap, cond, subst, arith}
use Rattle.std.specs.Prelude.{All, AllPairs}
use Rattle.std.proofs.lemmas.Bool.{cases_eq, ne_eqb}
use Rattle.std.proofs.lemmas.List.Elements.{All-cons, All-nil}
use Rattle.coflow_units.specs.Flows.{ingress_of}
use Rattle.coflow_units.specs.Rows.{all_ties, two_flows}
use Rattle.coflow_units.proofs.Sums.{first_or_tail, in_first, in_tail, nothing_in}
use Rattle.journal.specs.Chosen.{the_ordering, the_grants}
use Rattle.journal.specs.declared.command.Command.TheVariants.{Register, Withdraw, Publish, Pull, Short, Reweigh}
use Rattle.journal.specs.declared.command.Reply.TheVariants.{Joined, Left, StillOpen, Unranked, Noted, Weighed}
use Rattle.journal.specs.declared.command.Entry.{Entry}
use Rattle.journal.specs.Journal.{entry}
use Rattle.journal.specs.Driven.{is_other, IsNotedBefore, IsShortOf, NoneNotedFrom, notes_due, sent_from, times_noted}
use Rattle.journal.specs.RunRows.{CountedGrants, CountedKinds, CountedNotes, CountedRuns, DrivenApart, EndedFlows, first_apart, FurthestSkips}
use Rattle.journal.specs.RunRows.{NotedRun, NotesInOrder, one_run, OneRun, OpenRun, ServedOrder, SkippedSlots, TwiceOnAWire}
use Rattle.journal.specs.RunRows.{second_apart, SlotsOfARun, TalliedSlots, TwoPorts, WithdrawalBetween}
use Rattle.journal.proofs.UnderWay.{note_in_order, others_in_order}

pub served_order_is : ServedOrder
unfolding the_ordering the_grants
served_order_is = ((refl, refl, (refl, refl, (refl, refl, (refl, refl, (refl, refl, (refl, refl, (refl, refl, (refl, refl, tt)))))))), refl, refl, refl)

pub noted_run_is : NotedRun
unfolding the_ordering the_grants
noted_run_is = ((refl, refl, (refl, refl, (refl, refl, (refl, refl, (refl, refl, (refl, refl, tt)))))), refl, refl, refl)

pub skipped_slots_are : SkippedSlots
unfolding the_ordering the_grants
skipped_slots_are = ((refl, refl, (refl, refl, (refl, refl, (refl, refl, tt)))), refl, refl, refl)

pub withdrawal_between_is : WithdrawalBetween
unfolding the_ordering the_grants
withdrawal_between_is = ((refl, refl, (refl, refl, (refl, refl, (refl, refl, (refl, refl, (refl, refl, (refl, refl, (refl, refl, tt)))))))), refl, refl, refl)

pub two_ports_are : TwoPorts
unfolding the_ordering the_grants
two_ports_are = ((refl, refl, (refl, refl, (refl, refl, (refl, refl, (refl, refl, (refl, refl, (refl, refl, (refl, refl, (refl, refl, (refl, refl, tt)))))))))), refl, refl, refl)

pub twice_is : TwiceOnAWire
twice_is = (refl, refl, refl, refl, refl, refl, refl)

pub open_run_is : OpenRun
unfolding the_ordering the_grants
open_run_is = ((refl, refl, (refl, refl, (refl, refl, tt))), refl, refl, refl)

only_one : (f : ℕ) → Contains (0 ∷ []) f → 0 ≡ f
only_one f in' = elim (first_or_tail 0 [] f in') [
  | inl e ↦ e
  | inr h ↦ absurd (nothing_in f h)
]

abbrev Between : List ℕ → Entry → Type 0
Between granted e = (is_other e ≡ true) ⊎ IsShortOf two_flows granted one_run e

between_is : (granted : List ℕ) → Contains granted 0 → All (Between granted) one_run.between
between_is granted in' =
    let weighed = entry 4 (Reweigh 0 2) (Weighed 1) in
    let left = entry 4 (Withdraw 1) Left in
    let noted = entry 0 (Short 0 1) (Noted 1) in
    let kept = entry 4 Publish (StillOpen 1) in
    let P = Between granted in
    let last = All-cons P weighed (left ∷ []) (inl refl) (All-cons P left [] (inl refl) (All-nil P)) in
    All-cons P (entry 3 (Pull 0) (Unranked 0)) (kept ∷ noted ∷ weighed ∷ left ∷ []) (inl refl)
    (All-cons P kept (noted ∷ weighed ∷ left ∷ []) (inl refl) (All-cons P noted (weighed ∷ left ∷ []) (inr (0, in', refl, refl, omega arith)) last))

earlier_is : All (λ e. is_other e ≡ true) one_run.earlier
earlier_is = All-cons (λ e. is_other e ≡ true) (entry 3 (Register 1) Joined) [] refl (All-nil (λ e. is_other e ≡ true))

once_is : (port : ℕ) → times_noted one_run.between port ≤ 1
once_is port = elim (cases_eq 0 port) [
  | inl same ↦ subst (λ p. times_noted one_run.between p ≤ 1) same (omega arith)
  | inr other ↦ omega (arith, ap {B = ℕ} (λ b. cond b 1 0) (ne_eqb 0 port other))
]

in_order_is : AllPairs IsNotedBefore one_run.between
in_order_is =
    let pull = entry 3 (Pull 0) (Unranked 0) in
    let kept = entry 4 Publish (StillOpen 1) in
    let weighed = entry 4 (Reweigh 0 2) (Weighed 1) in
    let left = entry 4 (Withdraw 1) Left in
    let P = λ (e : Entry). is_other e ≡ true in
    let before = others_in_order [] (pull ∷ kept ∷ []) (λ i j x less lt. absurd (omega arith)) (All-cons P pull (kept ∷ []) refl (All-cons P kept [] refl (All-nil P))) in
    others_in_order (pull ∷ kept ∷ entry 0 (Short 0 1) (Noted 1) ∷ []) (weighed ∷ left ∷ []) (note_in_order (pull ∷ kept ∷ []) 0 1 (Noted 1) before (λ port le. refl))
    (All-cons P weighed (left ∷ []) refl (All-cons P left [] refl (All-nil P)))

noted_is : (f : ℕ) → 0 ≡ f → times_noted one_run.between (ingress_of two_flows f) ≡ 1
noted_is f e = subst (λ g. times_noted one_run.between (ingress_of two_flows g) ≡ 1) e refl

pub one_run_is : OneRun
unfolding the_ordering the_grants
one_run_is = (
  (refl, refl, (refl, refl, (refl, refl, (refl, refl, (refl, refl, (refl, refl, (refl, refl, (refl, refl, (refl, refl, tt))))))))),
  record {
    goes_on = refl;
    under_way = record { goes_on = refl; earlier = earlier_is; between = between_is (0 ∷ []) (in_first 0 []); once = once_is; in_order = in_order_is };
    within = λ f in'. omega arith;
    noted = λ f in'. noted_is f (only_one f in');
  },
  refl,
  refl,
)

pub counted_runs_are : CountedRuns
unfolding the_ordering the_grants
counted_runs_are = (refl, refl, refl, refl, refl)

pub counted_grants_are : CountedGrants
unfolding the_ordering the_grants
counted_grants_are = (refl, refl, refl, refl, refl)

pub furthest_skips_are : FurthestSkips
furthest_skips_are = (refl, refl, refl, refl)

pub counted_notes_are : CountedNotes
counted_notes_are = (refl, refl, refl, refl, refl)

pub notes_in_order_are : NotesInOrder
notes_in_order_are =
    let first = entry 0 (Short 0 0) (Noted 0) in
    let pull = entry 3 (Pull 0) (Unranked 0) in
    let P = λ (e : Entry). is_other e ≡ true in
    let before = others_in_order (first ∷ []) (pull ∷ []) (λ i j x less lt. absurd (omega (arith, less, lt))) (All-cons P pull [] refl (All-nil P)) in
    let no_later : NoneNotedFrom (first ∷ pull ∷ []) 1 = λ port le. omega (arith, ap {B = ℕ} (λ b. cond b 1 0) (ne_eqb 0 port (omega (arith, le)))) in (
      note_in_order (first ∷ pull ∷ []) 1 0 (Noted 0) before no_later,
      λ pairs. absurd (omega (arith, pairs 0 2 first (omega arith) (omega arith) 1 0 0 0 refl refl)),
      λ pairs. absurd (omega (arith, pairs 0 2 first (omega arith) (omega arith) 1 1 0 0 refl refl)),
    )

-- ---- two ports

both : (f : ℕ) → Contains (0 ∷ 3 ∷ []) f → (0 ≡ f) ⊎ (3 ≡ f)
both f in' = elim (first_or_tail 0 (3 ∷ []) f in') [
  | inl e ↦ inl e
  | inr h ↦ elim (first_or_tail 3 [] f h) [
    | inl e ↦ inr e
    | inr h ↦ absurd (nothing_in f h)
  ]
]

of_both : (P : ℕ → Type 0) → P 0 → P 3 → (f : ℕ) → Contains (0 ∷ 3 ∷ []) f → P f
of_both P zero' three f in' = elim (both f in') [
  | inl e ↦ subst P e zero'
  | inr e ↦ subst P e three
]

within_one : 1 ≤ 1
within_one = omega arith

none_within : 0 ≤ 1
none_within = omega arith

none_below : 0 < 1
none_below = omega arith

once_apart : (port : ℕ) → times_noted first_apart.between port ≤ 1
once_apart port = elim (cases_eq 1 port) [
  | inl same ↦ subst (λ p. times_noted first_apart.between p ≤ 1) same within_one
  | inr other ↦ omega (arith, ap {B = ℕ} (λ b. cond b 1 0) (ne_eqb 1 port other))
]

abbrev Apart : List ℕ → Entry → Type 0
Apart granted e = (is_other e ≡ true) ⊎ IsShortOf all_ties.flows granted first_apart e

between_apart : (granted : List ℕ) → Contains granted 3 → All (Apart granted) first_apart.between
between_apart granted in' =
    All-cons (Apart granted) (entry 0 (Short 1 0) (Noted 0)) [] (inr (3, in', refl, refl, none_below)) (All-nil (Apart granted))

abbrev AnyBetween : List ℕ → Entry → Type 0
AnyBetween granted e = (is_other e ≡ true) ⊎ IsShortOf all_ties.flows granted second_apart e

no_between : (granted : List ℕ) → All (AnyBetween granted) []
no_between granted = All-nil (AnyBetween granted)

pub driven_apart_are : DrivenApart
unfolding the_ordering the_grants
driven_apart_are = (
  refl,
  record {
    goes_on = refl;
    under_way = record {
      goes_on = refl;
      earlier = All-nil (λ e. is_other e ≡ true);
      between = between_apart (0 ∷ 3 ∷ []) (in_tail 0 (3 ∷ []) 3 (in_first 3 []));
      once = once_apart;
      in_order = λ i j x less lt. absurd (omega (arith, less, lt));
    };
    within = of_both (λ f. sent_from all_ties.flows first_apart f ≤ 1) within_one none_within;
    noted = of_both (λ f. times_noted first_apart.between (ingress_of all_ties.flows f) ≡ notes_due all_ties.flows first_apart f) refl refl;
  },
  refl,
  refl,
  record {
    goes_on = refl;
    under_way = record {
      goes_on = refl;
      earlier = All-nil (λ e. is_other e ≡ true);
      between = no_between (1 ∷ 2 ∷ []);
      once = λ port. none_within;
      in_order = λ i j x less lt.
          absurd (omega arith);
    };
    within = λ f in'. within_one;
    noted = λ f in'. refl;
  },
  λ f in'. refl,
)

pub counted_kinds_are : CountedKinds
counted_kinds_are = (refl, refl)

pub slots_of_a_run_are : SlotsOfARun
slots_of_a_run_are = ((omega arith, omega arith), (omega arith, omega arith), λ h. absurd (omega (arith, h.0)), λ h. absurd (omega (arith, h.1)))

pub ended_flows_are : EndedFlows
unfolding the_ordering the_grants
ended_flows_are = (refl, refl, refl, refl, refl, refl)

pub tallied_slots_are : TalliedSlots
unfolding the_ordering the_grants
tallied_slots_are = (refl, refl, refl, refl, refl)
