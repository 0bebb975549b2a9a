-- The first stop of a run: the next start of an epoch, or the next arrival.
use Rattle.std.proofs.Common.{◌≡◌, ℕ, ◌+◌, ◌-◌, ◌*◌, ◌/◌, ◌%◌, ◌<◌, ◌≤◌, inl, inr, min, None, refl, ap, subst, ◌∙◌, arith}
use Rattle.std.proofs.lemmas.Bool.{cases_lt}
use Rattle.std.proofs.lemmas.Nat.{div-add-mod', mod_below}
use Rattle.std.proofs.Math.Nat.{add-mod_right, mul-le-mul_right, mul-mod_left}
use Rattle.epochs.specs.Course.{Course, HaveJoined, IsLaterArrival, IsNextArrival, IsNextStop, Waits, arrival_of}

-- ---- the next start of an epoch

abbrev pub next_start : ℕ → ℕ → ℕ
next_start every time = time - time % every + every

by_quotient : (every time : ℕ) → next_start every time ≡ time / every * every + every
by_quotient every time = omega (arith, div-add-mod' time every)

pub start_is_later : (every time : ℕ) → 1 ≤ every → time < next_start every time
start_is_later every time some = omega (arith, div-add-mod' time every, mod_below time every some)

pub start_is_multiple : (every time : ℕ) → next_start every time % every ≡ 0
start_is_multiple every time =
    ap (λ n. n % every) (by_quotient every time) ∙ add-mod_right (time / every * every) every ∙ mul-mod_left (time / every) every

pub start_is_least : (every time other : ℕ) → time < other → other % every ≡ 0 → next_start every time ≤ other
start_is_least every time other later multiple =
    let here = div-add-mod' time every in
    let there = div-add-mod' other every in
    elim (cases_lt (time / every) (other / every)) [
      | inl lt ↦
          let le : (time / every + 1) * every ≤ other / every * every = mul-le-mul_right every (omega (arith, lt)) in
          omega (arith, le, here, there, multiple)
      | inr ge ↦
          let le : other / every * every ≤ time / every * every = mul-le-mul_right every ge in
          absurd (omega (arith, le, here, there, multiple, later))
    ]

pub stop_without_arrival : (s : Course) (time : ℕ) → 1 ≤ s.every → IsLaterArrival s.arrivals time None → IsNextStop s time (next_start s.every time)
stop_without_arrival s time some none = record {
  later = start_is_later s.every time some;
  stop = inl (start_is_multiple s.every time);
  first = λ other later stop. elim stop [
    | inl multiple ↦ start_is_least s.every time other later multiple
    | inr arrival ↦ absurd (none other later arrival)
  ];
}

stop_at_start : (s : Course) (time at : ℕ) → 1 ≤ s.every → IsNextArrival s.arrivals time at → next_start s.every time ≤ at → IsNextStop s time (next_start s.every time)
stop_at_start s time at some next le = record {
  later = start_is_later s.every time some;
  stop = inl (start_is_multiple s.every time);
  first = λ other later stop. elim stop [
    | inl multiple ↦ start_is_least s.every time other later multiple
    | inr arrival ↦ omega (arith, le, next.first other later arrival)
  ];
}

stop_at_arrival : (s : Course) (time at : ℕ) → IsNextArrival s.arrivals time at → at ≤ next_start s.every time → IsNextStop s time at
stop_at_arrival s time at next le = record {
  later = next.later;
  stop = inr next.arrival;
  first = λ other later stop. elim stop [
    | inl multiple ↦ omega (arith, le, start_is_least s.every time other later multiple)
    | inr arrival ↦ next.first other later arrival
  ];
}

pub stop_with_arrival : (s : Course) (time at stop : ℕ) → 1 ≤ s.every → IsNextArrival s.arrivals time at → stop ≡ min (next_start s.every time) at → IsNextStop s time stop
stop_with_arrival s time at stop some next is = elim (cases_lt at (next_start s.every time)) [
  | inl lt ↦
      let e : at ≡ stop = omega (arith, is, lt) in
      subst (λ n. IsNextStop s time n) e (stop_at_arrival s time at next (omega (arith, lt)))
  | inr ge ↦
      let e : next_start s.every time ≡ stop = omega (arith, is, ge) in
      subst (λ n. IsNextStop s time n) e (stop_at_start s time at some next ge)
]

-- ---- where nobody owes anything

pub none_comes : (s : Course) (time : ℕ) → HaveJoined s time → IsLaterArrival s.arrivals time None → (c : ℕ) → Waits s c → ⊥
none_comes s time joined none c waits = none (arrival_of s c) (joined c waits) (c, waits.coflow_in, refl)
