-- What the readers of the parts of a line answer.
use Rattle.std.specs.Prelude.{◌≡◌, ◌≢◌, ℕ, ◌<◌, ◌≤◌, ◌^◌, ◌++◌, Bool, true, false, List, [], ◌∷◌, Option, Some}
use Rattle.std.specs.Prelude.{◌⊎◌, None, All, codes, drop, length, take}
use Rattle.coflow_units.specs.declared.limits.TheConstants.{MAX_SLOT, MAX_WEIGHT}
use Rattle.std.specs.Char.{is_ascii_digit}
use Rattle.std.specs.Str.{all_ascii_digits}
use Rattle.std.specs.Str.Parse.{digits_value}
use Rattle.std.specs.List.Sorted.{IsStrictlyIncreasing}
use Rattle.std.specs.List.{flat_map}
use Rattle.coflow_units.specs.declared.fabric.Side.{Side}
use Rattle.coflow_units.specs.declared.plan.Run.{Run}
use Rattle.report_text.specs.declared.value.PlaceLine.{PlaceLine}
use Rattle.report_text.specs.Report.{IsSmallPlace}
use Rattle.report_text.specs.Text.{charge_words, place_line, run_line, side_word, version_line, weight_word}
use Rattle.coflow_units.specs.Text.{ended, spaced}

-- a number ends where these bytes follow: there are none, or the first is no digit
abbrev pub Stops : List ℕ → Type 0
Stops [] = Unit {0}
Stops (b ∷ bs) = is_ascii_digit b ≡ false

-- no byte is a line feed
abbrev pub IsOneLine : List ℕ → Type 0
IsOneLine [] = Unit {0}
IsOneLine (b ∷ bs) = (b ≢ 10) × IsOneLine bs

-- the weights of a text that has them, or none
abbrev pub weights_if : Bool → List ℕ → Option (List ℕ)
weights_if true weights = Some weights
weights_if false weights = None

-- the weight as a list of one, or none
abbrev pub weights_list : Option ℕ → List ℕ
weights_list (Some weight) = weight ∷ []
weights_list None = []

-- the line is the first one of a text with weights, or without; or it is no first line
abbrev pub IsVersionOf : List ℕ → Option Bool → Type 0
IsVersionOf line (Some weighed) = (weights : List ℕ) → line ≡ version_line (weights_if weighed weights)
IsVersionOf line None = (weights : Option (List ℕ)) → line ≡ version_line weights → ⊥

-- the bytes begin with a whole line, and these are the line and what follows; or they do not begin so
abbrev pub IsLineThen : {V : Type 0} → (V → List ℕ × List ℕ) → List ℕ → Option V → Type 0
IsLineThen view bytes (Some v) = IsOneLine (view v).0 × (bytes ≡ ended (view v).0 ++ (view v).1)
IsLineThen view bytes None = (line rest : List ℕ) → bytes ≡ ended line ++ rest → ⊥

-- the bytes begin with a space and a number of at most `most`, and these are the number and what follows; or they do
-- not begin so
abbrev pub IsNumberThen : {V : Type 0} → (V → ℕ × List ℕ) → ℕ → List ℕ → Option V → Type 0
IsNumberThen view most bytes (Some v) = ((view v).0 ≤ most) × (bytes ≡ spaced (view v).0 ++ (view v).1) ×
    Stops (view v).1
IsNumberThen view most bytes None = (n : ℕ) (rest : List ℕ) → n ≤ most → Stops rest → bytes ≡ spaced n ++ rest → ⊥

-- so many leading digits, and the number that they are: all of them, or enough for a number above `most`
abbrev pub IsLeading : ℕ → List ℕ → ℕ → ℕ → Type 0
IsLeading most bytes number count = (count ≤ length bytes) × (all_ascii_digits (take count bytes) ≡ true) ×
    (digits_value 10 (take count bytes) ≡ number) × ((most < number) ⊎ Stops (drop count bytes))

-- the bytes begin with a space and the word of a side, and these are the side and what follows; or they do not begin so
abbrev pub IsSideThen : {V : Type 0} → (V → Side × List ℕ) → List ℕ → Option V → Type 0
IsSideThen view bytes (Some v) = bytes ≡ codes " " ++ side_word (view v).0 ++ (view v).1
IsSideThen view bytes None = (side : Side) (rest : List ℕ) → bytes ≡ codes " " ++ side_word side ++ rest → ⊥

-- the bytes begin with what a place line says of a place, and these are the place and what follows; or they do not
-- begin so
abbrev pub IsChargeThen : {V : Type 0} → (V → PlaceLine × List ℕ) → List ℕ → Option V → Type 0
IsChargeThen view bytes (Some v) = IsSmallPlace (view v).0 × (bytes ≡ charge_words (view v).0 ++ (view v).1) ×
    Stops (view v).1
IsChargeThen view bytes None = (p : PlaceLine) (rest : List ℕ) → IsSmallPlace p → Stops rest →
    bytes ≡ charge_words p ++ rest → ⊥

-- a report with weights has a weight from 1 to 2^32 at each place, and one without has none
abbrev pub IsWeight : Bool → Option ℕ → Type 0
IsWeight true (Some weight) = (1 ≤ weight) × (weight ≤ MAX_WEIGHT)
IsWeight true None = ⊥
IsWeight false (Some weight) = ⊥
IsWeight false None = Unit {0}

-- the bytes are the end of a place line, and this is the weight; or they are not
abbrev pub IsWeightWord : Bool → List ℕ → Option (Option ℕ) → Type 0
IsWeightWord weighed bytes (Some weight) = IsWeight weighed weight × (bytes ≡ weight_word weight)
IsWeightWord weighed bytes None = (weight : Option ℕ) → IsWeight weighed weight → bytes ≡ weight_word weight → ⊥

-- the line is that of place k, and these are the place and its weight; or it is not
abbrev pub IsPlaceOf : ℕ → Bool → List ℕ → Option (PlaceLine × Option ℕ) → Type 0
IsPlaceOf k weighed line (Some v) = IsSmallPlace v.0 × IsWeight weighed v.1 × (line ≡ place_line k v.0 v.1)
IsPlaceOf k weighed line None = (p : PlaceLine) (weight : Option ℕ) → IsSmallPlace p → IsWeight weighed weight →
    line ≡ place_line k p weight → ⊥

-- the line is the word and this number; or it is not the word and a number below 2^128
abbrev pub IsTotalOf : List ℕ → List ℕ → Option ℕ → Type 0
IsTotalOf word line (Some n) = (n < 2 ^ 128) × (line ≡ word ++ spaced n)
IsTotalOf word line None = (n : ℕ) → n < 2 ^ 128 → line ≡ word ++ spaced n → ⊥

-- flow numbers ascend and fit their type
abbrev pub AreFlows : List ℕ → Type 0
AreFlows flows = IsStrictlyIncreasing flows × All (λ f. f < 2 ^ 32) flows

-- the answer tells whether the list still ascends with the number behind it
abbrev pub Rises : List ℕ → ℕ → Bool → Type 0
Rises flows flow true = IsStrictlyIncreasing flows → IsStrictlyIncreasing (flows ++ (flow ∷ []))
Rises flows flow false = IsStrictlyIncreasing (flows ++ (flow ∷ [])) → ⊥

-- the bytes are spaced flow numbers, and these are the numbers; or they are not
abbrev pub IsFlowsOf : List ℕ → Option (List ℕ) → Type 0
IsFlowsOf bytes (Some flows) = AreFlows flows × (bytes ≡ flat_map spaced flows)
IsFlowsOf bytes None = (flows : List ℕ) → AreFlows flows → bytes ≡ flat_map spaced flows → ⊥

-- the run of so many slots that serves the flows, or none
abbrev pub run_if : Option ℕ → List ℕ → Option Run
run_if (Some length) flows = Some (record { length = length; flows = flows })
run_if None flows = None

-- a run of 1 to 2^41 - 1 slots
abbrev pub IsRun : Run → Type 0
IsRun run = (1 ≤ run.length) × (run.length ≤ MAX_SLOT) × AreFlows run.flows

-- the line is that of this run; or it is none of a run
abbrev pub IsRunOf : List ℕ → Option Run → Type 0
IsRunOf line (Some run) = IsRun run × (line ≡ run_line run)
IsRunOf line None = (run : Run) → IsRun run → line ≡ run_line run → ⊥
