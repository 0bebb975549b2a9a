-- A small instance with arrivals, and the certificate that was worked out for it by hand.
use Rattle.std.specs.Prelude.{ℕ, ◌==◌, if◌then◌else◌, List, [], ◌∷◌}
use Rattle.coflow_units.specs.declared.fabric.Flow.{Flow}
use Rattle.coflow_units.specs.declared.fabric.Side.TheVariants.{Ingress}
use Rattle.coflow_units.specs.Flows.{Instance}
use Rattle.release_bound.specs.declared.place.ReleasePlace.{ReleasePlace}

-- a coflow of 6 units and one of 1 unit, each of one flow, at the same two ports
abbrev pub long_and_short : List Flow
long_and_short = record { coflow = 0; ingress = 0; egress = 1; units = 6 } ∷ record {
  coflow = 1;
  ingress = 0;
  egress = 1;
  units = 1;
} ∷ []

-- the short one arrives at time 2
abbrev pub short_is_late : ℕ → ℕ
short_is_late coflow = if coflow == 1 then 2 else 0

-- the same two, with weights 1
abbrev pub long_and_short_alike : Instance
long_and_short_alike = record { coflows = 0 ∷ 1 ∷ []; weight = λ c. 1; ports = 3; flows = long_and_short }

-- the long one arrives at time 3, and the short one at time 2
abbrev pub both_are_late : ℕ → ℕ
both_are_late coflow = if coflow == 1 then 2 else 3

-- the long one pays for all load and keeps 4 parts, and the short one, which arrives after the 1 unit of its front
-- could be served, pays for its earliest end alone
abbrev pub long_after_short : List ReleasePlace
long_after_short =
    record { coflow = 0; port = record { side = Ingress; number = 0 }; y = 183251937962; z = 4 }
    ∷ record { coflow = 1; port = record { side = Ingress; number = 0 }; y = 0; z = 916259689814 } ∷ []

-- the same with one part more for the earliest end of the long one
abbrev pub one_part_more : List ReleasePlace
one_part_more =
    record { coflow = 0; port = record { side = Ingress; number = 0 }; y = 183251937962; z = 5 }
    ∷ record { coflow = 1; port = record { side = Ingress; number = 0 }; y = 0; z = 916259689814 } ∷ []
