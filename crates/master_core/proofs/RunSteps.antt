-- The length of a run, and its notes.
use Rattle.std.proofs.Common.{◌≡◌, ℕ, ◌<◌, ◌≤◌, inl, inr, List, [], ◌∷◌, length, min, replicate, Contains, None, refl, subst, arith, zero, suc}
use Rattle.std.proofs.lemmas.Bool.{cases_lt}
use Rattle.std.proofs.lemmas.List.Elements.{All-contains}
use Rattle.coflow_units.specs.Grants.{IsRunLength}
use Rattle.coflow_units.proofs.RunLengths.{one_run_length}
use Rattle.coflow_units.proofs.Sums.{nothing_in}
use Rattle.coflow_units.specs.LeastLeft.{IsLeastLeft}
use Rattle.journal.specs.Runs.{least_of}
use Rattle.master_core.specs.OpenRun.{note_at}
use Rattle.journal.proofs.Opened.{least_longest}
use Rattle.journal.proofs.Sound.{least_below, least_each}

longest_is : (left : ℕ → ℕ) (granted : List ℕ) (most : ℕ) → IsRunLength left granted most (least_of left granted most)
longest_is left granted most = record { asked = least_below left granted most; owed = λ f in'. least_each left granted most f in'; longest = least_longest left granted most }

some_not_none : (granted : List ℕ) (g : ℕ) → Contains granted g → granted ≡ [] → ⊥
some_not_none granted g in' e = nothing_in g (subst (λ l. Contains l g) e in')

-- the least units left, what was asked and the slots that remain give the length of the run
pub least_is : (left : ℕ → ℕ) (granted : List ℕ) (n most room g : ℕ) → IsLeastLeft left granted n → Contains granted g →
    min (min n most) room ≡ least_of left granted (min most room)
least_is left granted n most room g least in' =
    let m = min most room in
    let short : IsRunLength left granted m (min (min n most) room) = record {
      asked = omega arith;
      owed = λ f has. omega (arith, All-contains (λ (x : ℕ). n ≤ left x) granted f least.below has);
      longest = elim (cases_lt n m) [
        | inl lt ↦ let (k, x, low, at, is) = least.reached (some_not_none granted g in') in inr (x, (k, low, at), omega (arith, is, lt))
        | inr ge ↦ inl (omega arith)
      ];
    } in
    one_run_length left granted m (min (min n most) room) (least_of left granted m) short (longest_is left granted m)

pub some_of : (l : List ℕ) → 0 < length l → (g : ℕ) × Contains l g
some_of [] some = absurd (omega (arith, some))
some_of (g ∷ rest) some = (g, (0, omega arith, refl))

pub none_noted : (n ingress : ℕ) → note_at (replicate n None) ingress ≡ None
none_noted zero ingress = refl
none_noted (suc n) zero = refl
none_noted (suc n) (suc ingress) = none_noted n ingress
