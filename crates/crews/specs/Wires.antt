-- The wires of the ports, of which some are out with a helper.
use Rattle.std.specs.Prelude.{◌≡◌, ◌≢◌, ℕ, List, [], ◌∷◌, All, AllPairs, Contains, length, map, slice_index_or, Option, Some, None, IsSome}
use Rattle.crews.specs.declared.part.Outlet.{Outlet}

-- no port twice
abbrev pub Distinct : List ℕ → Type 0
Distinct ports = AllPairs (λ p q. p ≢ q) ports

module _ {W : Type 0} where
  -- what stands at these ports
  abbrev pub at_ports : List ℕ → List (Option W) → List (Option W)
  at_ports ports wires = map (λ p. slice_index_or wires p None) ports

  -- a wire is at each of these ports
  abbrev pub AreThere : List ℕ → List (Option W) → Type 0
  AreThere ports wires = All (λ p. IsSome (slice_index_or wires p None)) ports

  -- a wire is at every port
  abbrev pub AllThere : List (Option W) → Type 0
  AllThere wires = All (λ (w : Option W). IsSome w) wires

  -- the wires that are there, in the order of their ports
  abbrev pub wires_of : List (Option W) → List W
  wires_of [] = []
  wires_of (None ∷ ws) = wires_of ws
  wires_of (Some w ∷ ws) = w ∷ wires_of ws

  -- the other ports have what they had
  pub record StayElsewhere (ports : List ℕ) (old new : List (Option W)) : Type 0 where
    pub many : length new ≡ length old
    pub rest : (p : ℕ) → (Contains ports p → ⊥) → slice_index_or new p None ≡ slice_index_or old p None

  -- the wires of these ports went into these outlets, in the order of the ports
  pub record AreTaken (ports : List ℕ) (old new : List (Option W)) (outlets : List (Outlet W)) : Type 0 where
    pub at : map (λ (o : Outlet W). o.port) outlets ≡ ports
    pub wires : at_ports ports old ≡ map (λ (o : Outlet W). Some o.wire) outlets
    pub gone : at_ports ports new ≡ map (λ p. None) ports
    pub stay : StayElsewhere ports old new
