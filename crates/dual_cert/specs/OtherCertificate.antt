-- A feasible certificate that is not the ordering one.
use Rattle.std.specs.Prelude.{List, [], ◌∷◌}
use Rattle.coflow_units.specs.declared.fabric.Side.TheVariants.{Ingress}
use Rattle.coflow_units.specs.Certificate.{Entry}

-- of two coflows at one port the first pays for its own load alone, and the last place is free
abbrev pub first_pays : List Entry
first_pays =
    record { coflow = 1; port = record { side = Ingress; number = 0 }; y = 0 }
    ∷ record { coflow = 0; port = record { side = Ingress; number = 0 }; y = 366503875925 } ∷ []
