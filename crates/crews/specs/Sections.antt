-- The stations of a crew: where the parts of a run are given to helpers.
use Rattle.std.specs.Prelude.{◌≡◌, ℕ, ◌+◌, ◌*◌, ◌≤◌, List, ◌∷◌, ◌++◌, true, false, length, vec_capacity, None}
use Rattle.errands.specs.Models.{EndModel, TrayModel}
use Rattle.port_board.specs.Views.{Board}
use Rattle.crews.specs.declared.part.Part.{Part}
use Rattle.crews.specs.declared.serving.Station.{Station}
use Rattle.crews.specs.Attached.{IsAttached}

module _ {W : Type 0} where
  -- the free helper of this tray
  abbrev pub helper_at : Board → TrayModel Board → EndModel (Part W) Board
  helper_at board t = record { at = t.id; about = board; out = None; over = false }

  -- a station without its outlets: the giver's end, how many outlets are there, and for how many there is room
  abbrev pub place_of : Station W → EndModel (Part W) Board × ℕ × ℕ
  place_of s = (s.giver, length s.outlets.items, vec_capacity s.outlets)

  -- the place, once nothing is given there any more
  abbrev pub ended : EndModel (Part W) Board × ℕ × ℕ → EndModel (Part W) Board × ℕ × ℕ
  ended p = (record p.0 { over = true }, p.1, p.2)

  -- the station at this place of the crew is ready: its tray is the one at this place, nothing is given there, and it
  -- has no outlet, and room for a share of so many ports
  pub record IsReady (board : Board) (trays : List (TrayModel Board)) (share k : ℕ)
      (p : EndModel (Part W) Board × ℕ × ℕ)
      : Type 0 where
    pub attached : IsAttached board trays k p.0
    pub none : p.1 ≡ 0
    pub room : share ≤ p.2

  abbrev pub EachReady : Board → List (TrayModel Board) → ℕ → List (EndModel (Part W) Board × ℕ × ℕ) → Type 0
  EachReady board trays share ps = (before : List (EndModel (Part W) Board × ℕ × ℕ))
      (p : EndModel (Part W) Board × ℕ × ℕ) (after : List (EndModel (Part W) Board × ℕ × ℕ)) → ps ≡ before
      ++ p ∷ after →
      IsReady board trays share (length before) p

  -- so many ports are no more than a share for each station, and one for the driver
  pub record AreReady (board : Board) (trays : List (TrayModel Board)) (ports : ℕ)
      (ps : List (EndModel (Part W) Board × ℕ × ℕ)) : Type 0 where
    pub share : ℕ
    pub some : 1 ≤ share
    pub enough : ports ≤ (length ps + 1) * share
    pub each : EachReady board trays share ps
