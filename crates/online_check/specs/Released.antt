-- The lines of a released certificate. They name coflows by their ids, and stand from place 1 on, while a certificate
-- stands from its last place to its first.
use Rattle.std.specs.Prelude.{ℕ, List, map, reverse}
use Rattle.online_text.specs.declared.value.ReleaseLine.{ReleaseLine}
use Rattle.release_bound.specs.declared.place.ReleasePlace.{ReleasePlace}
use Rattle.report_text.specs.declared.value.PlaceLine.{PlaceLine}
use Rattle.cert_check.specs.Places.{coflow_with}

-- the line as one of a plan, without its z; it states no completion
abbrev pub plain_line : ReleaseLine → PlaceLine
plain_line r = record { id = r.id; port = r.port; y = r.y; done = 0 }

-- the lines as those of a plan
abbrev pub plain_lines : List ReleaseLine → List PlaceLine
plain_lines lines = map plain_line lines

-- what a line of the coflow says as a place of a released certificate
abbrev pub released_with : ℕ → ReleaseLine → ReleasePlace
released_with coflow r = record { coflow = coflow; port = r.port; y = r.y; z = r.z }

-- what a line says as a place of a released certificate
abbrev pub released_for : List ℕ → ReleaseLine → ReleasePlace
released_for ids r = released_with (coflow_with ids r.id) r

-- the lines as a released certificate
abbrev pub released_in : List ℕ → List ReleaseLine → List ReleasePlace
released_in ids lines = reverse (map (released_for ids) lines)
