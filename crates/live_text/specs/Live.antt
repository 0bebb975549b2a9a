-- What a printed journal must meet.
use Rattle.std.specs.Prelude.{◌≡◌, ◌≢◌, ◌⊎◌, ℕ, ◌+◌, ◌<◌, ◌≤◌, ◌^◌, List, All, length, sum_by}
use Rattle.std.specs.List.{slice_index_or}
use Rattle.coflow_units.specs.declared.limits.TheConstants.{MAX_CLIENTS, MAX_SLOT, MAX_WEIGHT}
use Rattle.coflow_units.specs.declared.plan.Run.{Run}
use Rattle.report_text.specs.Readers.{IsRun}
use Rattle.live_text.specs.declared.value.TheConstants.{MAX_ENTRIES}
use Rattle.live_text.specs.declared.value.EntryLine.{EntryLine}
use Rattle.live_text.specs.declared.value.Live.{Live}
use Rattle.live_text.specs.declared.value.PullLine.{PullLine}
use Rattle.live_text.specs.declared.value.Said.{Said}
use Rattle.live_text.specs.declared.value.Said.TheVariants.{Joined, Already, Left, NotHere, Version, StillOpen, Rank}
use Rattle.live_text.specs.declared.value.Said.TheVariants.{Unranked, Opened, Nothing, Closed, Weighed}
use Rattle.live_text.specs.declared.value.Word.{Word}
use Rattle.live_text.specs.declared.value.Word.TheVariants.{Register, Withdraw, Publish, Pull, Open, Close, Reweigh}

-- an id, a line, a version, a rank or a count
abbrev pub IsSmall : ℕ → Type 0
IsSmall n = n < 2 ^ 32

-- a slot or a number of slots
abbrev pub IsLong : ℕ → Type 0
IsLong n = n < 2 ^ 64

abbrev pub IsWeight : ℕ → Type 0
IsWeight n = (1 ≤ n) × (n ≤ MAX_WEIGHT)

-- the numbers of a command are in their ranges; a run may have one slot at least
abbrev pub IsWord : Word → Type 0
IsWord (Register id) = IsSmall id
IsWord (Withdraw id) = IsSmall id
IsWord Publish = Unit {0}
IsWord (Pull id) = IsSmall id
IsWord (Open most) = (1 ≤ most) × IsLong most
IsWord Close = Unit {0}
IsWord (Reweigh id weight) = IsSmall id × IsWeight weight

-- the command may have the reply, whose numbers are in their ranges
abbrev pub IsAnswerOf : Word → Said → Type 0
IsAnswerOf (Register id) said = (said ≡ Joined) ⊎ (said ≡ Already)
IsAnswerOf (Withdraw id) said = (said ≡ Left) ⊎ (said ≡ NotHere)
IsAnswerOf Publish said = ((version : ℕ) × IsSmall version × (said ≡ Version version)) ⊎
    ((slot : ℕ) × IsLong slot × (said ≡ StillOpen slot))
IsAnswerOf (Pull id) said =
    ((version : ℕ) × (rank : ℕ) × IsSmall version × IsSmall rank × (said ≡ Rank version rank)) ⊎
    ((version : ℕ) × IsSmall version × (said ≡ Unranked version))
IsAnswerOf (Open most) said = ((slot : ℕ) × (slots : ℕ) × (count : ℕ) × IsLong slot × IsLong slots × IsSmall count ×
    (said ≡ Opened slot slots count)) ⊎ (said ≡ Nothing)
IsAnswerOf Close said = (slot : ℕ) × IsLong slot × (said ≡ Closed slot)
IsAnswerOf (Reweigh id weight) said = ((old : ℕ) × IsWeight old × (said ≡ Weighed old)) ⊎ (said ≡ NotHere)

-- an entry of a client, or of the driver, who is number 0
pub record IsEntry (e : EntryLine) : Type 0 where
  pub who_is : e.who ≤ MAX_CLIENTS
  pub command : IsWord e.word
  pub reply : IsAnswerOf e.word e.said

pub record IsPull (p : PullLine) : Type 0 where
  pub client_from : 1 ≤ p.client
  pub client_to : p.client ≤ MAX_CLIENTS
  pub line_fits : IsSmall p.line
  pub id_fits : IsSmall p.id
  pub version_fits : IsSmall p.version
  pub rank_fits : IsSmall p.rank

-- the pull is one of a lesser client, or of a lesser line of the same client
abbrev pub IsBefore : PullLine → PullLine → Type 0
IsBefore a b = (a.client < b.client) ⊎ ((a.client ≡ b.client) × (a.line < b.line))

-- the fact holds of each two neighbours
abbrev pub ForNeighbours : {X : Type 0} → (X → X → Type 0) → List X → Type 0
ForNeighbours {X} fact xs = (k : ℕ) (d : X) → k + 1 < length xs →
    fact (slice_index_or xs k d) (slice_index_or xs (k + 1) d)

-- There are at most 2^23 entries, versions fit their type, and so do ids. Pulls rise by client and then by line. Runs
-- have slots, at most 2^41 - 1 together; the flows of a run ascend, and neighbouring runs differ in their flows.
pub record IsLive (l : Live) : Type 0 where
  pub few_entries : length l.entries ≤ MAX_ENTRIES
  pub entry : All IsEntry l.entries
  pub few_orders : IsSmall (length l.orders)
  pub order : All (All IsSmall) l.orders
  pub pull : All IsPull l.pulls
  pub rising : ForNeighbours IsBefore l.pulls
  pub run : All IsRun l.runs
  pub few_slots : sum_by (λ (run : Run). run.length) l.runs ≤ MAX_SLOT
  pub maximal : ForNeighbours (λ (a b : Run). a.flows ≢ b.flows) l.runs
