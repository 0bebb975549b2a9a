-- Ports at which a pass can still grant: some flow owes there, and none stands.
use Rattle.std.specs.Prelude.{ℕ, ◌&&◌, Bool, false, not, if◌then◌else◌, List, Option, length, nat_lt, slice_index}
use Rattle.std.specs.Prelude.{sum_by}
use Rattle.std.specs.List.{range_with_len, slice_index_or}
use Rattle.std.specs.Option.{is_some}
use Rattle.greedy_rates.specs.Room.{flow_at_ingress}

-- how many numbers below the length of a table pass the test
abbrev pub how_many : (ℕ → Bool) → List ℕ → ℕ
how_many test table = sum_by (λ p. if test p then 1 else 0) (range_with_len 0 (length table))

-- the ingress ports where units are owed and no flow stands
abbrev pub open_ingresses : List ℕ → List (Option ℕ) → ℕ
open_ingresses owed at = how_many (λ p. nat_lt 0 (slice_index owed p) && not (is_some (flow_at_ingress at p))) owed

-- the egress ports where units are owed and which are not busy
abbrev pub open_egresses : List ℕ → List Bool → ℕ
open_egresses owed busy = how_many (λ p. nat_lt 0 (slice_index owed p) && not (slice_index_or busy p false)) owed
