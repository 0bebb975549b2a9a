-- What each step tells the end that takes it.
use Rattle.std.specs.Prelude.{◌≡◌, ◌≢◌, ℕ, [], ◌∷◌, Option, Some, None}
use Rattle.atomic_table.specs.Table.{Me, Step}
use Rattle.errands.specs.declared.view.Stage.{Stage}
use Rattle.errands.specs.declared.view.Stage.TheVariants.{Free, Busy, Over}
use Rattle.errands.specs.declared.view.Role.TheVariants.{Helper}
use Rattle.errands.specs.declared.view.View.{View}

module _ {T K : Type 0} where
  abbrev pub at : Stage T → View T K → View T K
  at st v = record v { stage = st }

  abbrev pub begins : Step (Option T) → Me (Option T) (View T K) → ℕ → Me (Option T) (View T K) → Type 0
  begins st m found m' = m' ≡ (at Free m.0, (0, None) ∷ m.1)

  abbrev pub gives : Step (Option T) → Me (Option T) (View T K) → ℕ → Me (Option T) (View T K) → Type 0
  gives st m found m' = (x : T) → m.1 ≡ (0, Some x) ∷ [] → m' ≡ (at (Busy x) m.0, [])

  abbrev pub answers : Step (Option T) → Me (Option T) (View T K) → ℕ → Me (Option T) (View T K) → Type 0
  answers st m found m' = (y : T) → m.1 ≡ (0, Some y) ∷ [] → m' ≡ (at Free m.0, [])

  abbrev pub ends : Step (Option T) → Me (Option T) (View T K) → ℕ → Me (Option T) (View T K) → Type 0
  ends st m found m' = m.1 ≡ (0, None) ∷ [] → m' ≡ (at Over m.0, [])

  abbrev pub recalls : Step (Option T) → Me (Option T) (View T K) → ℕ → Me (Option T) (View T K) → Type 0
  recalls st m found m' = (x : T) → m.0.stage ≡ Busy x →
      (found ≡ 1 → m' ≡ (at Free m.0, (0, Some x) ∷ m.1)) × (found ≢ 1 → m' ≡ m)

  abbrev pub takes : (K → T → Type 0) → Step (Option T) → Me (Option T) (View T K) → ℕ → Me (Option T) (View T K) →
      Type 0
  takes fits st m found m' =
      (found ≡ 1 → (x : T) × fits m.0.about x × (m' ≡ (at (Busy x) m.0, (0, Some x) ∷ m.1))) × (found ≢ 1 → m' ≡ m)

  abbrev pub fetches : (K → T → T → Type 0) → Step (Option T) → Me (Option T) (View T K) → ℕ →
      Me (Option T) (View T K) → Type 0
  fetches done st m found m' = (x : T) → m.0.stage ≡ Busy x →
      (found ≡ 3 → (y : T) × done m.0.about x y × (m' ≡ (at Free m.0, (0, Some y) ∷ m.1))) × (found ≢ 3 → m' ≡ m)

  abbrev pub same : View T K → View T K
  same v = v

  abbrev pub newcomer : View T K → View T K
  newcomer v = record { role = Helper; stage = Free; about = v.about }
