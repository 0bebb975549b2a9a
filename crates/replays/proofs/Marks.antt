-- Marks of coflows, and who is present.
use Rattle.std.proofs.Common.{◌≡◌, ℕ, ◌<◌, inl, inr, Bool, true, false, List, length, ap, arith}
use Rattle.std.specs.Prelude.{not, slice_set, sum_by, if◌then◌else◌}
use Rattle.std.specs.List.{range_with_len}
use Rattle.std.proofs.lemmas.Bool.{and_from, and_parts, cases_eq, not-true, not_from_false}
use Rattle.std.proofs.lemmas.List.{get_or-set_other, get_or-set_same}
use Rattle.coflow_units.proofs.Lists.{number_in}
use Rattle.coflow_units.proofs.Sums.{sum_less}
use Rattle.epochs.specs.Course.{is_marked}
use Rattle.replays.specs.Moments.{Moment, is_here}

pub others_stay : (marks : List Bool) (c d : ℕ) (mark : Bool) → (d ≡ c → ⊥) → is_marked (slice_set marks c mark) d ≡ is_marked marks d
others_stay marks c d mark other = get_or-set_other marks c d mark false other

pub is_now : (marks : List Bool) (c : ℕ) (mark : Bool) → c < length marks → is_marked (slice_set marks c mark) c ≡ mark
is_now marks c mark lt = get_or-set_same marks c mark false lt

-- ---- who is present

pub here_parts : (m : Moment) (c : ℕ) → is_here m c ≡ true → (is_marked m.course.registered c ≡ true) × (is_marked m.course.withdrawn c ≡ false)
here_parts m c is =
    let (joined, stays) = and_parts (is_marked m.course.registered c) (not (is_marked m.course.withdrawn c)) is in
    (joined, not-true (is_marked m.course.withdrawn c) stays)

pub here_from : (m : Moment) (c : ℕ) → is_marked m.course.registered c ≡ true → is_marked m.course.withdrawn c ≡ false → is_here m c ≡ true
here_from m c joined stays =
    and_from (is_marked m.course.registered c) (not (is_marked m.course.withdrawn c)) joined (not_from_false (is_marked m.course.withdrawn c) stays)

-- ---- how many of n coflows are not marked

abbrev pub unmarked : ℕ → List Bool → ℕ
unmarked n marks = sum_by (λ c. if is_marked marks c then 0 else 1) (range_with_len 0 n)

pub fewer_unmarked : (n : ℕ) (marks : List Bool) (c : ℕ) → c < n → c < length marks → is_marked marks c ≡ false → unmarked n (slice_set marks c true) < unmarked n marks
fewer_unmarked n marks c lt low none =
    let old = λ (d : ℕ). if is_marked marks d then 0 else 1 in
    let new = λ (d : ℕ). if is_marked (slice_set marks c true) d then 0 else 1 in
    let is_old : old c ≡ 1 = ap {B = ℕ} (λ b. if b then 0 else 1) none in
    let is_new : new c ≡ 0 = ap {B = ℕ} (λ b. if b then 0 else 1) (is_now marks c true low) in
    sum_less new old (range_with_len 0 n) c
    (λ d. elim (cases_eq d c) [
      | inl same ↦ omega (arith, ap new same, is_new)
      | inr other ↦ omega (arith, ap {B = ℕ} (λ b. if b then 0 else 1) (others_stay marks c d true other))
    ])
    (number_in 0 n c (omega arith) (omega (arith, lt))) (omega (arith, is_old, is_new))
