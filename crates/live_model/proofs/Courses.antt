-- Facts of all pairs of lines, where there is little to say.
use Rattle.std.proofs.Common.{ℕ, ◌≤◌, ◌<◌, Bool, true, false, List, [], arith}
use Rattle.std.specs.Prelude.{◌==◌, All, AllPairs, if◌then◌else◌}
use Rattle.live_model.specs.Deeds.{Deed, ForLaterRounds, HasEntry, IsPull, IsTwoAbove}

-- the deeds of two clients, and none of others
abbrev pub of_two : List Deed → List Deed → ℕ → List Deed
of_two xs ys client = if 1 == client then xs else (if 2 == client then ys else [])

by_bools : (P : List Deed → Type 0) (xs ys : List Deed) (a b : Bool) → P xs → P ys → P [] → P (if a then xs else (if b then ys else []))
by_bools P xs ys true b x y n = x
by_bools P xs ys false true x y n = y
by_bools P xs ys false false x y n = n

-- what holds of the deeds of either, and of none, holds of all clients
pub of_clients : (P : List Deed → Type 0) (xs ys : List Deed) → P xs → P ys → P [] → (client : ℕ) → P (of_two xs ys client)
of_clients P xs ys x y n client = by_bools P xs ys (1 == client) (2 == client) x y n

-- no pull has an entry
pub record NoneMoved (deeds : List Deed) : Type 0 where
  pub none : All (λ d. IsPull d → HasEntry d → ⊥) deeds

pub none_above : (deeds : List Deed) → NoneMoved deeds → AllPairs IsTwoAbove deeds
none_above deeds h i j d lt lj p e = absurd (h.none j d lj p e)

pub none_first : (deeds : List Deed) → NoneMoved deeds → All (λ d. IsPull d → HasEntry d → 2 ≤ d.version) deeds
none_first deeds h j d lj p e = absurd (h.none j d lj p e)

pub none_across : (deeds : ℕ → List Deed) → ((client : ℕ) → NoneMoved (deeds client)) → ForLaterRounds deeds (λ a b. HasEntry a → IsTwoAbove a b)
none_across deeds h client other i d lt i' d' lt' later has p e = absurd ((h other).none i' d' lt' p e)

-- the deeds of one list and those of another, in rounds later than theirs
abbrev pub Later : (Deed → Deed → Type 0) → List Deed → List Deed → Type 0
Later R xs ys = All (λ a. All (λ b. a.round < b.round → R a b) ys) xs

none_later : (R : Deed → Deed → Type 0) (xs : List Deed) → Later R xs []
none_later R xs i d lt j e less = absurd (omega (arith, less))

-- what holds of each two lists of the two clients holds across rounds
pub across : (R : Deed → Deed → Type 0) (xs ys : List Deed) → Later R xs xs → Later R xs ys → Later R ys xs → Later R ys ys → ForLaterRounds (of_two xs ys) R
across R xs ys xx xy yx yy client other =
    of_clients (λ (l : List Deed). Later R l (of_two xs ys other)) xs ys
    (of_clients (λ (l : List Deed). Later R xs l) xs ys xx xy (none_later R xs) other)
    (of_clients (λ (l : List Deed). Later R ys l) xs ys yx yy (none_later R ys) other)
    (λ i d less. absurd (omega (arith, less)))
    client

-- deeds of one round
pub same_round : (R : Deed → Deed → Type 0) (xs ys : List Deed) (n : ℕ) → All (λ d. n ≤ d.round) xs → All (λ d. d.round ≤ n) ys → Later R xs ys
same_round R xs ys n low high i d lt j e lj less = absurd (omega (arith, low i d lt, high j e lj, less))
