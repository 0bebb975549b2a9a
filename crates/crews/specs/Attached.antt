-- The trays of the stations of a crew.
use Rattle.std.specs.Prelude.{◌≡◌, ℕ, List, ◌∷◌, ◌++◌, true, false, length, slice_index_or, None}
use Rattle.errands.specs.Models.{EndModel, TrayModel}
use Rattle.port_board.specs.Views.{Board}
use Rattle.crews.specs.declared.part.Part.{Part}

module _ {W : Type 0} where
  -- the end at this place of the crew is that of the tray at this place, and nothing is given there
  pub record IsAttached (board : Board) (trays : List (TrayModel Board)) (k : ℕ) (e : EndModel (Part W) Board) : Type 0
    where
      pub tray : (t : TrayModel Board) → e.at ≡ (slice_index_or trays k t).id
      pub about : e.about ≡ board
      pub free : e.out ≡ None
      pub going : e.over ≡ false

  abbrev pub AreAttached : Board → List (TrayModel Board) → List (EndModel (Part W) Board × ℕ × ℕ) → Type 0
  AreAttached board trays ps = (before : List (EndModel (Part W) Board × ℕ × ℕ)) (p : EndModel (Part W) Board × ℕ × ℕ)
      (after : List (EndModel (Part W) Board × ℕ × ℕ)) → ps ≡ before ++ p ∷ after →
      IsAttached board trays (length before) p.0

  -- nothing is given there any more
  pub record IsOver (trays : List (TrayModel Board)) (k : ℕ) (e : EndModel (Part W) Board) : Type 0 where
    pub tray : (t : TrayModel Board) → e.at ≡ (slice_index_or trays k t).id
    pub over : e.over ≡ true

  abbrev pub AreOver : List (TrayModel Board) → List (EndModel (Part W) Board × ℕ × ℕ) → Type 0
  AreOver trays ps = (before : List (EndModel (Part W) Board × ℕ × ℕ)) (p : EndModel (Part W) Board × ℕ × ℕ)
      (after : List (EndModel (Part W) Board × ℕ × ℕ)) → ps ≡ before ++ p ∷ after → IsOver trays (length before) p.0
