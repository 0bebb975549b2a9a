-- Which actions apply: what is known where one is the first that does.
use Rattle.std.proofs.Common.{◌≡◌, ℕ, ◌+◌, ◌-◌, ◌*◌, ◌/◌, ◌%◌, ◌<◌, ◌≤◌, ◌⊎◌, inl, inr, Bool, true, false, true≢false, List, get_or, length, Contains, refl, sym, ap, subst}
use Rattle.std.proofs.Common.{◌∙◌, arith, suc, zero}
use Rattle.std.specs.Prelude.{◌==◌, ◌&&◌, ◌||◌, not, nat_le, nat_lt, replicate, slice_index, slice_set}
use Rattle.std.specs.List.{list_any}
use Rattle.std.proofs.lemmas.Bool.{and_from, and_parts, cases_eq, cases_lt, eq-eqb, eqb-true, le-leb, leb-true, lt-ltb, ltb-true, not-true, not_from_false, or_cases, or_left, or_right}
use Rattle.std.proofs.lemmas.List.{get_or_default, get_or_past, get_or-replicate, get_or-set_other, get_or-set_same, length-replicate}
use Rattle.std.proofs.lemmas.List.Elements.{Contains-get_or}
use Rattle.std.proofs.lemmas.Nat.{div-add-mod', mod_below}
use Rattle.std.proofs.Math.Nat.{add-mod_right, mul-mod_left}
use Rattle.coflow_units.specs.declared.limits.TheConstants.{MAX_PUBLISHINGS}
use Rattle.coflow_units.proofs.Numbers.{zero_or_more}
use Rattle.coflow_units.proofs.Sums.{any_has, any_in}
use Rattle.epochs.specs.declared.action.Action.{Action}
use Rattle.epochs.specs.declared.action.Action.TheVariants.{End, Publish, Register, Run, Skip, TooMany, Withdraw}
use Rattle.epochs.specs.Choice.{Applies, IsDue, IsFirstAction, place}
use Rattle.epochs.specs.Course.{Course, IsArrival, IsNextArrival, IsNextStop, IsPresent, IsStop, IsWaiting, SomeOwes, Waits, arrival_of, is_marked}
use Rattle.epochs.proofs.Searching.{first_true, IsFirstTrue, IsLeastTrue, least_true, NoLater}

-- ---- marks

pub marked_below : (marks : List Bool) (c : ℕ) → is_marked marks c ≡ true → c < length marks
marked_below marks c is = elim (cases_lt c (length marks)) [
  | inl lt ↦ lt
  | inr past ↦ absurd (true≢false (sym is ∙ get_or_past marks c false past))
]

pub none_marked : (n c : ℕ) → is_marked (replicate n false) c ≡ false
none_marked n c = elim (cases_lt c n) [
  | inl lt ↦ get_or-replicate n c false false lt
  | inr past ↦ get_or_past (replicate n false) c false (omega (arith, past, length-replicate n false))
]

abbrev is_here : Course → ℕ → Bool
is_here s c = is_marked s.registered c && not (is_marked s.withdrawn c)

here_present : (s : Course) (c : ℕ) → is_here s c ≡ true → IsPresent s.registered s.withdrawn c
here_present s c is =
    let (a, b) = and_parts (is_marked s.registered c) (not (is_marked s.withdrawn c)) is in
    record { joined = a; stays = not-true (is_marked s.withdrawn c) b }

present_here : (s : Course) (c : ℕ) → IsPresent s.registered s.withdrawn c → is_here s c ≡ true
present_here s c h = and_from (is_marked s.registered c) (not (is_marked s.withdrawn c)) h.joined (not_from_false (is_marked s.withdrawn c) h.stays)

-- ---- an order is due

abbrev is_served : Course → List ℕ → ℕ → Bool
is_served s owed c = is_here s c && (slice_index owed c == 0)

served_here : (s : Course) (owed : List ℕ) (c : ℕ) → IsPresent s.registered s.withdrawn c → slice_index owed c ≡ 0 → is_served s owed c ≡ true
served_here s owed c h none = and_from (is_here s c) (slice_index owed c == 0) (present_here s c h) (eq-eqb (slice_index owed c) 0 none)

pub due_applies : (s : Course) (time : ℕ) (owed : List ℕ) → s.published ≤ MAX_PUBLISHINGS → IsDue s time owed → (a : Action) × Applies s time owed a × (place a ≤ 3)
due_applies s time owed few due = elim (first_true (is_served s owed) (length s.registered)) [
  | inl (c, h) ↦
      let parts = and_parts (is_here s c) (slice_index owed c == 0) h.passes in (
        Withdraw c,
        record {
          due = due;
          served = record {
            is_present = here_present s c parts.0;
            served = eqb-true (slice_index owed c) 0 parts.1;
            first = λ other present none.
                elim (cases_lt other c) [
                  | inl lt ↦ absurd (true≢false (sym (served_here s owed other present none) ∙ h.first other lt))
                  | inr le ↦ le
                ];
          };
        },
        omega arith,
      )
  | inr none ↦
      let owing : (c : ℕ) → IsPresent s.registered s.withdrawn c → 0 < slice_index owed c =
      λ c present.
      elim (zero_or_more (slice_index owed c)) [
        | inl zero' ↦ absurd (true≢false (sym (served_here s owed c present zero') ∙ none c (marked_below s.registered c present.joined)))
        | inr more ↦ more
      ] in
      elim (cases_lt s.published MAX_PUBLISHINGS) [
        | inl lt ↦ (Publish, (record { due = due; owing = owing }, lt), omega arith)
        | inr ge ↦ (TooMany (MAX_PUBLISHINGS + 1), record { ready = record { due = due; owing = owing }; published = omega (arith, few, ge); is_next = refl }, omega arith)
      ]
]

-- ---- a present coflow owes

abbrev is_stop : Course → ℕ → Bool
is_stop s t = (t % s.every == 0) || list_any (λ a. a == t) s.arrivals

arrival_in : (arrivals : List ℕ) (t : ℕ) → IsArrival arrivals t → Contains arrivals t
arrival_in arrivals t (c, lt, is) = subst (Contains arrivals) is (Contains-get_or arrivals c 0 lt)

in_arrival : (arrivals : List ℕ) (t : ℕ) → Contains arrivals t → IsArrival arrivals t
in_arrival arrivals t (c, lt, is) = (c, lt, get_or_default arrivals c 0 t lt ∙ is)

stop_true : (s : Course) (t : ℕ) → IsStop s t → is_stop s t ≡ true
stop_true s t (inl multiple) = or_left (t % s.every == 0) (list_any (λ a. a == t) s.arrivals) (eq-eqb (t % s.every) 0 multiple)
stop_true s t (inr arrival) = or_right (t % s.every == 0) (list_any (λ a. a == t) s.arrivals) (any_in s.arrivals t (arrival_in s.arrivals t arrival))

true_stop : (s : Course) (t : ℕ) → is_stop s t ≡ true → IsStop s t
true_stop s t is = elim (or_cases (t % s.every == 0) (list_any (λ a. a == t) s.arrivals) is) [
  | inl multiple ↦ inl (eqb-true (t % s.every) 0 multiple)
  | inr there ↦ inr (in_arrival s.arrivals t (any_has s.arrivals t there))
]

-- the next start of an epoch comes within an epoch
start_within : (every time : ℕ) → 1 ≤ every → (time + 1 + (every - 1 - time % every)) % every ≡ 0
start_within every time some =
    let e : time + 1 + (every - 1 - time % every) ≡ time / every * every + every = omega (arith, div-add-mod' time every, mod_below time every some) in
    ap (λ n. n % every) e ∙ add-mod_right (time / every * every) every ∙ mul-mod_left (time / every) every

pub next_stop : (s : Course) (time : ℕ) → 1 ≤ s.every → (t : ℕ) × IsNextStop s time t
next_stop s time some =
    let last = s.every - 1 - time % s.every in
    elim (first_true (λ k. is_stop s (time + 1 + k)) (last + 1)) [
      | inl (k, h) ↦ (
        time + 1 + k,
        record {
          later = omega arith;
          stop = true_stop s (time + 1 + k) h.passes;
          first = λ other later stop.
              elim (cases_lt other (time + 1 + k)) [
                | inl lt ↦
                    let e : other ≡ time + 1 + (other - (time + 1)) = omega (arith, later) in
                    absurd (true≢false (sym (stop_true s other stop) ∙ ap (is_stop s) e ∙ h.first (other - (time + 1)) (omega (arith, lt, later))))
                | inr le ↦ le
              ];
        },
      )
      | inr none ↦ absurd (true≢false (sym (stop_true s (time + 1 + last) (inl (start_within s.every time some))) ∙ none last (omega arith)))
    ]

pub owing_runs : (s : Course) (time : ℕ) (owed : List ℕ) → 1 ≤ s.every → SomeOwes s.registered s.withdrawn owed → (most : ℕ) × Applies s time owed (Run most)
owing_runs s time owed some owes =
    let (t, h) = next_stop s time some in
    let e : t ≡ time + (t - time) = omega (arith, h.later) in
    (t - time, record { owing = owes; stop = subst (IsNextStop s time) e h })

-- ---- a coflow waits

abbrev waits_till : Course → ℕ → ℕ → Bool
waits_till s time c = not (is_marked s.registered c) && nat_le (arrival_of s c) time

waits_so : (s : Course) (time c : ℕ) → c < length s.arrivals → waits_till s time c ≡ true → Waits s c × (arrival_of s c ≤ time)
waits_so s time c lt is =
    let (a, b) = and_parts (not (is_marked s.registered c)) (nat_le (arrival_of s c) time) is in
    (record { coflow_in = lt; waits = not-true (is_marked s.registered c) a }, leb-true (arrival_of s c) time b)

so_waits : (s : Course) (time c : ℕ) → Waits s c → arrival_of s c ≤ time → waits_till s time c ≡ true
so_waits s time c w le =
    and_from (not (is_marked s.registered c)) (nat_le (arrival_of s c) time) (not_from_false (is_marked s.registered c) w.waits) (le-leb (arrival_of s c) time le)

comes_first : (s : Course) (m k : ℕ) → NoLater (arrival_of s) m k → (arrival_of s m < arrival_of s k) ⊎ ((arrival_of s m ≡ arrival_of s k) × (m ≤ k))
comes_first s m k h = h

pub waiting_acts : (s : Course) (time : ℕ) (owed : List ℕ) (c : ℕ) → Waits s c → (a : Action) × Applies s time owed a × (place a ≤ 5)
waiting_acts s time owed c w = elim (cases_lt time (arrival_of s c)) [
  | inl later ↦
      elim (least_true (λ k. nat_lt time (arrival_of s k)) (arrival_of s) (length s.arrivals)) [
        | inl (m, h) ↦ (
          Skip (arrival_of s m + 1),
          record {
            some = (c, w);
            arrival = (
              arrival_of s m,
              record {
                later = ltb-true time (arrival_of s m) h.passes;
                arrival = (m, h.below, refl);
                first = λ other past (k, lt, is).
                    elim (h.least k lt (lt-ltb time (arrival_of s k) (omega (arith, past, is)))) [
                      | inl low ↦ omega (arith, low, is)
                      | inr (e, le) ↦ omega (arith, e, is)
                    ];
              },
              refl,
            );
          },
          omega arith,
        )
        | inr none ↦ absurd (true≢false (sym (lt-ltb time (arrival_of s c) later) ∙ none c w.coflow_in))
      ]
  | inr now ↦
      elim (least_true (waits_till s time) (arrival_of s) (length s.arrivals)) [
        | inl (m, h) ↦
            let (waits, arrived) = waits_so s time m h.below h.passes in (
              Register m,
              record {
                waits = waits;
                arrived = arrived;
                first = λ other w' le. comes_first s m other (h.least other w'.coflow_in (so_waits s time other w' le));
              },
              omega arith,
            )
        | inr none ↦ absurd (true≢false (sym (so_waits s time c w now) ∙ none c w.coflow_in))
      ]
]

-- ---- what the first action tells

pub run_not_due : (s : Course) (time : ℕ) (owed : List ℕ) (most : ℕ) → s.published ≤ MAX_PUBLISHINGS → IsFirstAction s time owed (Run most) → IsDue s time owed → ⊥
run_not_due s time owed most few h due = let (a, applies, le) = due_applies s time owed few due in omega (arith, h.first a applies, le)

pub skip_none_owes : (s : Course) (time : ℕ) (owed : List ℕ) (to : ℕ) → 1 ≤ s.every → IsFirstAction s time owed (Skip to) → SomeOwes s.registered s.withdrawn owed → ⊥
skip_none_owes s time owed to some h owes = let (most, applies) = owing_runs s time owed some owes in omega (arith, h.first (Run most) applies)

pub end_none_owes : (s : Course) (time : ℕ) (owed : List ℕ) → 1 ≤ s.every → IsFirstAction s time owed End → SomeOwes s.registered s.withdrawn owed → ⊥
end_none_owes s time owed some h owes = let (most, applies) = owing_runs s time owed some owes in omega (arith, h.first (Run most) applies)

pub end_none_waits : (s : Course) (time : ℕ) (owed : List ℕ) (c : ℕ) → IsFirstAction s time owed End → Waits s c → ⊥
end_none_waits s time owed c h w = let (a, applies, le) = waiting_acts s time owed c w in omega (arith, h.first a applies, le)

-- ---- one mark more

pub marked_again : (marks : List Bool) (c d : ℕ) → is_marked (slice_set marks c true) d ≡ true → (d ≡ c) ⊎ (is_marked marks d ≡ true)
marked_again marks c d is = elim (cases_eq d c) [
  | inl same ↦ inl same
  | inr other ↦ inr (sym (get_or-set_other marks c d true false other) ∙ is)
]

pub stays_marked : (marks : List Bool) (c d : ℕ) → is_marked marks d ≡ true → is_marked (slice_set marks c true) d ≡ true
stays_marked marks c d is = elim (cases_eq d c) [
  | inl same ↦
      let low : c < length marks = omega (arith, marked_below marks d is, same) in
      ap (λ i. get_or (slice_set marks c true) i false) same ∙ get_or-set_same marks c true false low
  | inr other ↦ get_or-set_other marks c d true false other ∙ is
]
