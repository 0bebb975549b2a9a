-- What holds of each moment of a replay.
use Rattle.std.proofs.Common.{◌≡◌, ℕ, ◌+◌, ◌<◌, ◌≤◌, inl, inr, Bool, true, false, true≢false, cond, List, [], ◌∷◌, ◌++◌, length, replicate, Contains}
use Rattle.std.proofs.Common.{refl, sym, ap, subst, ◌∙◌, arith, length-append}
use Rattle.std.specs.Prelude.{◌==◌, ◌||◌, ◌≢◌, if◌then◌else◌, map, not, slice_set}
use Rattle.std.specs.List.{range_with_len}
use Rattle.std.proofs.lemmas.Bool.{both_ways, cases_Bool, cases_eq, eq-eqb, ne_eqb, not-true, not_from_false}
use Rattle.std.proofs.lemmas.List.{length-replicate, length-set}
use Rattle.std.proofs.lemmas.List.Elements.{All-contains, Contains-append_left, Contains-get_or, Contains-push, Contains-push_cases}
use Rattle.std.proofs.lemmas.List.FromFn.{length-map-range_with_len}
use Rattle.std.proofs.lemmas.List.Kept.{AllPairs-filter}
use Rattle.std.proofs.lemmas.List.Quantifiers.{all_pairs_push}
use Rattle.coflow_units.specs.declared.fabric.Flow.{Flow}
use Rattle.coflow_units.specs.Grants.{IsGrants}
use Rattle.coflow_units.specs.Schedule.{holds}
use Rattle.coflow_units.specs.Served.{left_after}
use Rattle.coflow_units.proofs.GrantsExist.{numbers_of}
use Rattle.coflow_units.proofs.Lists.{filter_in, keeps, number_in, numbers_apart}
use Rattle.coflow_units.proofs.ServedExists.{left_sum}
use Rattle.coflow_units.proofs.Sums.{any_in, nothing_in, picked_one, sum_add, sum_mono, sum_same}
use Rattle.epochs.specs.Choice.{Registers}
use Rattle.epochs.specs.Course.{is_marked}
use Rattle.epochs.proofs.Actions.{marked_below, none_marked}
use Rattle.rankers.specs.Meaning.{Meaning, answer_of}
use Rattle.slot_switch.proofs.RunSteps.{left_after_run, units_in_all}
use Rattle.replays.specs.Kept.{Holds}
use Rattle.replays.specs.Moments.{Input, IsPublished, Moment, asked_at, first_moment, is_here, is_news}
use Rattle.replays.specs.Moments.{joined_at, left_the_line, published_at, served_at, time_at, told_at}
use Rattle.replays.specs.Replayed.{IsInput}
use Rattle.epochs.proofs.Actions.{marked_again, stays_marked}
use Rattle.replays.proofs.Marks.{here_from, here_parts, is_now, others_stay}

pub holds_first : (x : Input) (ranker : Meaning) → IsInput x → Holds x (first_moment x ranker)
holds_first x ranker input =
    let n = length x.arrivals in
    record {
      arrivals_are = refl;
      every_is = refl;
      registered = length-replicate n false ∙ input.each_arrival;
      withdrawn = length-replicate n false ∙ input.each_arrival;
      told = length-replicate (length x.table.ids) false;
      gone = λ c is. absurd (true≢false (sym is ∙ none_marked n c));
      distinct = λ i j d lt in'. absurd (omega (arith, in'));
      stands = λ c has. absurd (nothing_in c has);
      lined = λ c is. absurd (true≢false (sym (here_parts (first_moment x ranker) c is).0 ∙ none_marked n c));
      short = omega (arith, units_in_all x.table.flows, input.table.few_units);
    }

-- ---- who joins, and who leaves

pub holds_joined : (x : Input) (m : Moment) (coflow : ℕ) → Holds x m → IsInput x → Registers m.course (time_at m) coflow → Holds x (joined_at m coflow)
holds_joined x m coflow h input does =
    let next = joined_at m coflow in
    let none : is_marked m.course.registered coflow ≡ false = does.waits.waits in
    let low : coflow < length m.course.registered =
    omega (arith, does.waits.coflow_in, ap (λ (l : List ℕ). length l) h.arrivals_are, input.each_arrival, h.registered) in
    let stays : is_marked m.course.withdrawn coflow ≡ false = elim (cases_Bool (is_marked m.course.withdrawn coflow)) [
      | inl away ↦ absurd (both_ways (is_marked m.course.registered coflow) none (h.gone coflow away))
      | inr here ↦ here
    ] in
    let new : is_here next coflow ≡ true = here_from next coflow (is_now m.course.registered coflow true low) stays in
    let out = λ (has : Contains m.line coflow). both_ways (is_marked m.course.registered coflow) none (here_parts m coflow (h.stands coflow has)).0 in
    record {
      arrivals_are = h.arrivals_are;
      every_is = h.every_is;
      registered = length-set m.course.registered coflow true ∙ h.registered;
      withdrawn = h.withdrawn;
      told = h.told;
      gone = λ c is. stays_marked m.course.registered coflow c (h.gone c is);
      distinct = all_pairs_push (λ (a : ℕ) (b : ℕ). a ≢ b) m.line coflow h.distinct
          (λ k d lt e. out (subst (Contains m.line) e (Contains-get_or m.line k d lt)));
      stands = λ c has. elim (Contains-push_cases m.line coflow c has) [
        | inl old ↦ let (joined, present) = here_parts m c (h.stands c old) in here_from next c (stays_marked m.course.registered coflow c joined) present
        | inr same ↦ ap (is_here next) (sym same) ∙ new
      ];
      lined = λ c is. elim (cases_eq coflow c) [
        | inl same ↦ subst (Contains (m.line ++ coflow ∷ [])) same (Contains-push m.line coflow)
        | inr other ↦
            let (joined, present) = here_parts next c is in
            Contains-append_left m.line (coflow ∷ []) c
            (h.lined c (here_from m c (sym (others_stay m.course.registered coflow c true (λ e. other (sym e))) ∙ joined) present))
      ];
      short = h.short;
    }

pub holds_left : (x : Input) (m : Moment) (coflow : ℕ) → Holds x m → is_marked m.course.registered coflow ≡ true → Holds x (left_the_line m coflow)
holds_left x m coflow h joined =
    let next = left_the_line m coflow in
    let low : coflow < length m.course.withdrawn = omega (arith, marked_below m.course.registered coflow joined, h.registered, h.withdrawn) in
    let test = λ (c : ℕ). not (c == coflow) in
    record {
      arrivals_are = h.arrivals_are;
      every_is = h.every_is;
      registered = h.registered;
      withdrawn = length-set m.course.withdrawn coflow true ∙ h.withdrawn;
      told = h.told;
      gone = λ c is. elim (marked_again m.course.withdrawn coflow c is) [
        | inl same ↦ ap (is_marked m.course.registered) same ∙ joined
        | inr old ↦ h.gone c old
      ];
      distinct = AllPairs-filter (λ (a : ℕ) (b : ℕ). a ≢ b) test m.line h.distinct;
      stands = λ c has.
          let (old, passes) = filter_in test m.line c has in
          let other : c ≢ coflow = λ e. both_ways (c == coflow) (not-true (c == coflow) passes) (eq-eqb c coflow e) in
          let (here, present) = here_parts m c (h.stands c old) in
          here_from next c here (others_stay m.course.withdrawn coflow c true other ∙ present);
      lined = λ c is.
          let (here, present) = here_parts next c is in
          let other : c ≢ coflow = λ e. both_ways (is_marked (slice_set m.course.withdrawn coflow true) c) present
          (ap (is_marked (slice_set m.course.withdrawn coflow true)) e ∙ is_now m.course.withdrawn coflow true low) in
          keeps test m.line c (h.lined c (here_from m c here (sym (others_stay m.course.withdrawn coflow c true other) ∙ present)))
          (not_from_false (c == coflow) (ne_eqb c coflow other));
      short = h.short;
    }

-- ---- an order is published

pub told_len : (x : Input) (m : Moment) → length m.told ≡ length x.table.ids → length (told_at x m) ≡ length x.table.ids
told_len x m is = elim (cases_Bool (m.course.published == 0)) [
  | inl none ↦ ap (λ (b : Bool). length (if b then m.told else map (λ c. is_marked m.told c || is_news x m c) (range_with_len 0 (length x.table.ids)))) none ∙ is
  | inr some ↦ ap (λ (b : Bool). length (if b then m.told else map (λ c. is_marked m.told c || is_news x m c) (range_with_len 0 (length x.table.ids)))) some ∙
      length-map-range_with_len (λ c. is_marked m.told c || is_news x m c) 0 (length x.table.ids)
]

pub holds_published : (x : Input) (m next : Moment) → Holds x m → IsPublished x m next → Holds x next
holds_published x m next h is =
    let answer = answer_of (asked_at x m) is.facts in
    let made : Holds x (published_at x m is.facts) = record {
      arrivals_are = h.arrivals_are;
      every_is = h.every_is;
      registered = h.registered;
      withdrawn = h.withdrawn;
      told = told_len x m h.told;
      gone = h.gone;
      distinct = AllPairs-filter (λ (a : ℕ) (b : ℕ). a ≢ b) (is_here m) answer is.order.distinct;
      stands = λ c has. (filter_in (is_here m) answer c has).1;
      lined = λ c here. keeps (is_here m) answer c
          (is.order.all c (omega (arith, marked_below m.course.registered c (here_parts m c here).0, h.registered, is.each))) here;
      short = h.short;
    } in
    subst (Holds x) (sym is.next_is) made

-- ---- slots pass

pub longer : (m : Moment) (count : ℕ) (granted : List ℕ) → time_at (served_at m count granted) ≡ time_at m + count
longer m count granted = omega (arith, length-append m.slots (replicate count granted), length-replicate count granted)

-- where the slots stay short
pub holds_served : (x : Input) (m : Moment) (count : ℕ) (granted : List ℕ) → Holds x m →
    time_at m + count + left_sum x.table.flows (m.slots ++ replicate count granted) ≤ 1103806595072 → Holds x (served_at m count granted)
holds_served x m count granted h short = record {
  arrivals_are = h.arrivals_are;
  every_is = h.every_is;
  registered = h.registered;
  withdrawn = h.withdrawn;
  told = h.told;
  gone = h.gone;
  distinct = h.distinct;
  stands = h.stands;
  lined = h.lined;
  short = omega (arith, short, longer m count granted);
}

pub run_takes : (flows : List Flow) (line : List ℕ) (slots : List (List ℕ)) (granted : List ℕ) (n g : ℕ) →
    IsGrants flows line (left_after flows slots) granted → Contains granted g → n ≤ left_after flows slots g →
    left_sum flows (slots ++ replicate n granted) + n ≤ left_sum flows slots
run_takes flows line slots granted n g grants has long =
    let ns = numbers_of flows in
    let after = left_after flows (slots ++ replicate n granted) in
    omega (
      arith,
      sum_mono (λ f. after f + cond (g == f) n 0) (left_after flows slots) ns (λ f _. at f),
      sum_add after (λ f. cond (g == f) n 0) ns,
      picked_one g (λ _. n) ns (numbers_apart 0 (length flows))
          (number_in 0 (length flows) g (omega arith) (omega (arith, All-contains (λ x. x < length flows) granted g grants.flow has))),
    ) where
      at : (f : ℕ) → left_after flows (slots ++ replicate n granted) f + cond (g == f) n 0 ≤ left_after flows slots f
      at f = elim (cases_eq g f) [
        | inl e ↦ omega (
          arith,
          left_after_run flows slots granted n f,
          ap {B = ℕ} (λ b. cond b n 0) (ap (holds granted) (sym e) ∙ any_in granted g has),
          ap {B = ℕ} (λ b. cond b n 0) (eq-eqb g f e),
          ap (left_after flows slots) e,
          long,
        )
        | inr ne ↦ omega (arith, left_after_run flows slots granted n f, ap {B = ℕ} (λ b. cond b n 0) (ne_eqb g f ne))
      ]

-- slots in which nobody is served leave what is left
pub skip_leaves : (flows : List Flow) (slots : List (List ℕ)) (n : ℕ) → left_sum flows (slots ++ replicate n []) ≡ left_sum flows slots
skip_leaves flows slots n = sum_same (left_after flows (slots ++ replicate n [])) (left_after flows slots) (numbers_of flows)
    (λ f has. omega (arith, left_after_run flows slots [] n f))
