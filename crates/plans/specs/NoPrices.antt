-- A certificate that charges nothing, for two flows at one pair of ports. It is no ordering certificate.
use Rattle.std.specs.Prelude.{List, [], ◌∷◌}
use Rattle.coflow_units.specs.Certificate.{Entry}
use Rattle.coflow_units.specs.SmallCases.{first_ingress}

-- coflow 0 has place 1, coflow 1 has place 2
abbrev pub no_prices : List Entry
no_prices = record { coflow = 1; port = first_ingress; y = 0 } ∷ record { coflow = 0; port = first_ingress; y = 0 } ∷ []
