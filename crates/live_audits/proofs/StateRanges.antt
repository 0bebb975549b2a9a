-- The numbers that the state of a legal journal has are in their ranges.
use Rattle.std.proofs.Common.{◌≡◌, ℕ, ◌+◌, ◌≤◌, ◌<◌, ◌==◌, zero, suc, inl, inr, Bool, List, [], ◌∷◌, length, map, get_or, sym, ap, subst, arith, Option, None, Some}
use Rattle.std.specs.Prelude.{All, if◌then◌else◌}
use Rattle.std.specs.List.{range_with_len}
use Rattle.std.proofs.lemmas.Bool.{cases_Bool}
use Rattle.std.proofs.lemmas.List.{length-reverse}
use Rattle.std.proofs.lemmas.List.Elements.{All-head, All-nil, All-push, All-tail}
use Rattle.std.proofs.lemmas.List.Kept.{AllPairs-from_increasing}
use Rattle.coflow_units.specs.declared.limits.TheConstants.{MAX_WEIGHT}
use Rattle.coflow_units.specs.Certificate.{front}
use Rattle.coflow_units.specs.Flows.{Instance, IsDistinct}
use Rattle.coflow_units.specs.Grants.{place_in}
use Rattle.coflow_units.proofs.LinePlaces.{place_of_member}
use Rattle.coflow_units.proofs.Lists.{filter_in}
use Rattle.coflow_units.proofs.Ranges.{in_range}
use Rattle.coflow_units.proofs.Sums.{any_has}
use Rattle.journal.specs.declared.command.Command.{Command}
use Rattle.journal.specs.declared.command.Command.TheVariants.{Reweigh}
use Rattle.journal.specs.declared.command.Entry.{Entry}
use Rattle.journal.specs.declared.command.Reply.{Reply}
use Rattle.journal.specs.declared.command.Reply.TheVariants.{Closed, Version, Weighed}
use Rattle.journal.specs.declared.opening.Opening.{Opening}
use Rattle.journal.specs.Chosen.{the_order, the_ordering}
use Rattle.journal.specs.Entries.{TellsEntry}
use Rattle.journal.specs.Fold.{after, closed, coflow_named, start, state_of, weight_named}
use Rattle.journal.specs.Answer.{IsInRange}
use Rattle.journal.specs.Journal.{IsLegal}
use Rattle.journal.specs.Line.{line, order, rank, rank_in}
use Rattle.journal.specs.Runs.{granted}
use Rattle.journal.specs.State.{has, is_present, IsOpening, owed, Run, State, what_is_left}
use Rattle.journal.proofs.Along.{along, all_front}
use Rattle.journal.proofs.Growth.{state_snoc}
use Rattle.journal.proofs.Instances.{are_the_grants, is_the_ordering, left_is_instance}
use Rattle.master_core.proofs.AttendanceSteps.{joined_few}
use Rattle.live_audits.proofs.Choices.{by_choice}
use Rattle.live_audits.proofs.Ended.{all_behind}

-- ---- orders and grants

-- the order of what is left names no more coflows than the table has
order_few : (o : Opening) (s : State) → IsOpening o → length (the_order (what_is_left o s)) ≤ length o.table.ids
order_few o s ok =
    let places = front (the_ordering (what_is_left o s)) in
    let certificate = (is_the_ordering (what_is_left o s) (left_is_instance o s ok)).certificate in
    let below : All (λ (c : ℕ). c < length o.table.ids) places = λ k d lt. in_range (length o.table.ids) (get_or places k d)
    (filter_in (is_present s) (range_with_len 0 (length o.table.ids)) (get_or places k d) (certificate.coflow k d lt)).0 in
    omega (arith, length-reverse places, joined_few places (length o.table.ids) certificate.once below)

-- the grants of a run are no more than the flows
pub grants_few : (o : Opening) (s : State) → length (granted o s) ≤ length o.table.flows
grants_few o s =
    let grants = are_the_grants o.table.flows (line s) (owed o s) in
    let apart : IsDistinct (granted o s) = λ i j d lt less same. omega (arith, AllPairs-from_increasing (granted o s) grants.ascending i j d lt less, same) in
    joined_few (granted o s) (length o.table.flows) apart grants.flow

-- ---- states

pub record StateFits (o : Opening) (s : State) : Type 0 where
  pub weights : (c : ℕ) → c < length o.table.ids → (1 ≤ s.weight c) × (s.weight c ≤ MAX_WEIGHT)
  pub orders : All (λ (i : Instance). length (the_order i) ≤ length o.table.ids) s.published

start_fits : (o : Opening) → IsOpening o → StateFits o (start o)
start_fits o ok = record {
  weights = λ c lt. ok.weight c 0 (omega (arith, lt, ok.each_weight));
  orders = All-nil (λ (i : Instance). length (the_order i) ≤ length o.table.ids);
}

reweighs : (o : Opening) (s : State) (k : Command) (old : ℕ) → TellsEntry o s k (Weighed old) → IsInRange o k → StateFits o s → StateFits o (after o s k (Weighed old))
reweighs o s k old (c, w, is, there, old_is) range fits =
    let inside : IsInRange o (Reweigh c w) = subst (IsInRange o) is range in
    let named : weight_named k ≡ w = ap weight_named is in
    record {
      weights = λ a lt. by_choice (a == coflow_named k) (weight_named k) (s.weight a) (λ n. (1 ≤ n) × (n ≤ MAX_WEIGHT))
          (omega (arith, inside.1, named), omega (arith, inside.2, named)) (fits.weights a lt);
      orders = fits.orders;
    }

closed_fits : (o : Opening) (s : State) (run : Option Run) → StateFits o s → StateFits o (closed o s run)
closed_fits o s None fits = fits
closed_fits o s (Some r) fits = record { weights = fits.weights; orders = fits.orders }

after_fits : (o : Opening) (s : State) (k : Command) (r : Reply) → IsOpening o → TellsEntry o s k r → IsInRange o k → StateFits o s → StateFits o (after o s k r)
after_fits o s k (Version v) ok tells range fits = record {
  weights = fits.weights;
  orders = All-push (λ (i : Instance). length (the_order i) ≤ length o.table.ids) s.published (what_is_left o s) fits.orders (order_few o s ok);
}
after_fits o s k (Weighed old) ok tells range fits = reweighs o s k old tells range fits
after_fits o s k (Closed slot) ok tells range fits = closed_fits o s s.run fits
after_fits o s k r ok tells range fits = record { weights = fits.weights; orders = fits.orders }

-- the command of the entry is in range
abbrev pub InRangeAt : Opening → Entry → Type 0
InRangeAt o e = IsInRange o e.command

pub state_fits : (o : Opening) (journal : List Entry) → IsOpening o → IsLegal o journal → All (InRangeAt o) journal → StateFits o (state_of o journal)
state_fits o journal ok legal =
    along o (λ j. All (InRangeAt o) j → StateFits o (state_of o j))
    (λ before e next h ranges.
    let range = All-head (InRangeAt o) e [] (all_behind (InRangeAt o) before (e ∷ []) ranges) in
    subst (StateFits o) (sym (state_snoc o before e))
    (after_fits o (state_of o before) e.command e.reply ok next.tells range (h (all_front (InRangeAt o) before (e ∷ []) ranges)))) (λ none. start_fits o ok) journal legal

-- ---- ranks

few_at : (n : ℕ) (ps : List Instance) (k : ℕ) → All (λ (i : Instance). length (the_order i) ≤ n) ps → length (get_or (map the_order ps) k []) ≤ n
few_at n [] k h = omega arith
few_at n (i ∷ is) zero h = All-head (λ (i : Instance). length (the_order i) ≤ n) i is h
few_at n (i ∷ is) (suc k) h = few_at n is k (All-tail (λ (i : Instance). length (the_order i) ≤ n) i is h)

order_at : (n : ℕ) (ps : List Instance) (v : ℕ) → All (λ (i : Instance). length (the_order i) ≤ n) ps → length (get_or ([] ∷ map the_order ps) v []) ≤ n
order_at n ps zero h = omega arith
order_at n ps (suc v) h = few_at n ps v h

rank_within : (xs : List ℕ) (c : ℕ) → rank_in xs c ≤ length xs
rank_within xs c = elim (cases_Bool (has xs c)) [
  | inl t ↦
      let is : rank_in xs c ≡ place_in xs c + 1 = ap (λ (b : Bool). if b then place_in xs c + 1 else 0) t in
      omega (arith, is, place_of_member xs c (any_has xs c t))
  | inr f ↦
      let is : rank_in xs c ≡ 0 = ap (λ (b : Bool). if b then place_in xs c + 1 else 0) f in
      omega (arith, is)
]

pub rank_few : (o : Opening) (s : State) (v c : ℕ) → StateFits o s → rank s v c ≤ length o.table.ids
rank_few o s v c fits = omega (arith, rank_within (order s v) c, order_at (length o.table.ids) s.published v fits.orders)
