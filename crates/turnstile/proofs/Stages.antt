-- Between two calls a seat is idle and holds no slot, or it has the turn and holds the slot of the value.
use Rattle.std.proofs.Common.{◌≡◌, ℕ, true, false, List, [], ◌∷◌, Option, None, refl}
use Rattle.std.proofs.lemmas.Bool.{true≢false, false≢true}
use Rattle.turnstile.specs.declared.view.Stage.{Stage}
use Rattle.turnstile.specs.declared.view.Stage.TheVariants.{Idle, Waiting, InTurn}
use Rattle.turnstile.specs.Models.{is_in_turn}
use Rattle.turnstile.specs.Tells.{Holds}

module _ {T : Type 0} where
  pub is_idle : (stage : Stage) (slots : List (ℕ × Option T)) → Holds stage slots → is_in_turn stage ≡ false → (stage ≡ Idle) × (slots ≡ [])
  is_idle Idle slots h e = (refl, h)
  is_idle (Waiting t) slots h e = absurd h
  is_idle (InTurn t) slots h e = absurd (true≢false e)

  pub is_turning : (stage : Stage) (slots : List (ℕ × Option T)) → Holds stage slots → is_in_turn stage ≡ true → ((t : ℕ) × (stage ≡ InTurn t)) × (slots ≡ (0, None) ∷ [])
  is_turning Idle slots h e = absurd (false≢true e)
  is_turning (Waiting t) slots h e = absurd h
  is_turning (InTurn t) slots h e = ((t, refl), h)
