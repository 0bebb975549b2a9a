-- The class of a coflow by what is before it, where an order is cut into parts of equal size.
use Rattle.std.proofs.Common.{◌≡◌, ℕ, ◌+◌, ◌*◌, ◌/◌, ◌≤◌, ◌<◌, Bool, true, false, List, length, take, refl, arith}
use Rattle.std.specs.Prelude.{All, if◌then◌else◌, min, sum_by, ◌==◌, ◌^◌}
use Rattle.std.specs.List.{slice_index_or}
use Rattle.std.proofs.Math.Nat.{div-lt_iff_lt-mul, div-mul-le_self, mul-le-mul_left, mul-le-mul_right}
use Rattle.std.proofs.lemmas.Bool.{eqb-false, eqb-true}
use Rattle.std.proofs.lemmas.List.Sums.{sum_by-le}
use Rattle.std.proofs.lemmas.Nat.{le-div}
use Rattle.class_rates.specs.Classes.{class_at, class_behind, size_by}
use Rattle.class_rates.specs.declared.fold.Fold.{Fold}
use Rattle.class_rates.specs.declared.fold.Fold.TheVariants.{Count, Load}

-- a greater number has no smaller quotient
quotients_rise : (a b n : ℕ) → a ≤ b → 0 < n → a / n ≤ b / n
quotients_rise a b n le some = le-div (a / n) b n some (omega (arith, le, div-mul-le_self a n))

-- what begins before the end begins in one of the parts
share_below : (all classes before : ℕ) → before < all → 1 ≤ classes → (before * classes) / all < classes
share_below all classes before lt some =
    let grown : classes * (before + 1) ≤ classes * all = mul-le-mul_left classes (omega (arith, lt)) in
    let less : before * classes < classes * all = omega (arith, grown, some) in
    let pos : 0 < all = omega (arith, lt) in
    (div-lt_iff_lt-mul pos).1 less

-- the class, by the answer of the test whether there is no size at all
abbrev class_where : Bool → ℕ → ℕ → ℕ → ℕ
class_where none all classes before = if none then 1 else min classes (1 + before * classes / all)

where_within : (none : Bool) (all classes before : ℕ) → 1 ≤ classes → (1 ≤ class_where none all classes before) × (class_where none all classes before ≤ classes)
where_within true all classes before some = (omega arith, some)
where_within false all classes before some = (omega arith, omega arith)

where_rises : (none : Bool) (all classes a b : ℕ) → (all == 0) ≡ none → a ≤ b → class_where none all classes a ≤ class_where none all classes b
where_rises true all classes a b e le = omega arith
where_rises false all classes a b e le =
    let some : 0 < all = omega (arith, eqb-false all 0 e) in
    let less : a * classes ≤ b * classes = mul-le-mul_right classes le in
    omega (arith, quotients_rise (a * classes) (b * classes) all less some)

where_before_the_end : (none : Bool) (all classes before : ℕ) → (all == 0) ≡ none → before < all → 1 ≤ classes → class_where none all classes before ≡ class_at all classes before
where_before_the_end true all classes before e lt some = absurd (omega (arith, eqb-true all 0 e))
where_before_the_end false all classes before e lt some = omega (arith, share_below all classes before lt some)

-- it is one of the classes
pub behind_within : (all classes before : ℕ) → 1 ≤ classes → (1 ≤ class_behind all classes before) × (class_behind all classes before ≤ classes)
behind_within all classes before = where_within (all == 0) all classes before

-- behind more it is no smaller
pub behind_rises : (all classes a b : ℕ) → a ≤ b → class_behind all classes a ≤ class_behind all classes b
behind_rises all classes a b = where_rises (all == 0) all classes a b refl

-- before the end it needs no bound
pub behind_before_the_end : (all classes before : ℕ) → before < all → 1 ≤ classes → class_behind all classes before ≡ class_at all classes before
behind_before_the_end all classes before = where_before_the_end (all == 0) all classes before refl

-- ---- sizes that fit

size_small : (by : Fold) (loads : List ℕ) (c : ℕ) → ((k : ℕ) → slice_index_or loads k 0 < 2 ^ 64) → size_by by (λ k. slice_index_or loads k 0) c ≤ 2 ^ 64
size_small Count loads c fit = omega arith
size_small Load loads c fit = omega (arith, fit c)

-- the sizes of few coflows together
pub sizes_fit : (by : Fold) (loads order : List ℕ) → ((k : ℕ) → slice_index_or loads k 0 < 2 ^ 64) → length order ≤ 2 ^ 32 →
    sum_by (size_by by (λ k. slice_index_or loads k 0)) order ≤ 2 ^ 96
sizes_fit by loads order fit few =
    let size = size_by by (λ k. slice_index_or loads k 0) in
    let each : All (λ c. size c ≤ 2 ^ 64) order = λ k d lt. size_small by loads _ fit in
    omega (arith, sum_by-le size (2 ^ 64) order each)
