-- What the readers of the parts of a line answer.
use Rattle.std.specs.Prelude.{◌≡◌, ℕ, ◌≤◌, ◌++◌, List, Option, Some, None, All}
use Rattle.std.specs.List.{flat_map}
use Rattle.report_text.specs.Readers.{Stops}
use Rattle.coflow_units.specs.Text.{spaced}
use Rattle.live_text.specs.declared.value.TheConstants.{MAX_ENTRIES}
use Rattle.live_text.specs.declared.value.EntryLine.{EntryLine}
use Rattle.live_text.specs.declared.value.PullLine.{PullLine}
use Rattle.live_text.specs.declared.value.Said.{Said}
use Rattle.live_text.specs.declared.value.Word.{Word}
use Rattle.live_text.specs.Live.{IsAnswerOf, IsEntry, IsPull, IsSmall, IsWord}
use Rattle.live_text.specs.Text.{command_words, entry_line, order_line, pull_line, reply_words}

-- the bytes begin with a word, a space and a number from `least` to `most`, and these are the number and what follows;
-- or they do not begin so
abbrev pub IsFieldThen : {V : Type 0} → (V → ℕ × List ℕ) → List ℕ → ℕ → ℕ → List ℕ → Option V → Type 0
IsFieldThen view word least most bytes (Some v) = (least ≤ (view v).0) × ((view v).0 ≤ most) ×
    (bytes ≡ word ++ (spaced (view v).0 ++ (view v).1)) × Stops (view v).1
IsFieldThen view word least most bytes None = (n : ℕ) (rest : List ℕ) → least ≤ n → n ≤ most → Stops rest →
    bytes ≡ word ++ (spaced n ++ rest) → ⊥

-- the bytes are a word, a space and this number from `least` to `most`; or they are not
abbrev pub IsLastOf : List ℕ → ℕ → ℕ → List ℕ → Option ℕ → Type 0
IsLastOf word least most bytes (Some n) = (least ≤ n) × (n ≤ most) × (bytes ≡ word ++ spaced n)
IsLastOf word least most bytes None = (n : ℕ) → least ≤ n → n ≤ most → bytes ≡ word ++ spaced n → ⊥

-- the bytes are the words of this reply to the command; or they are those of none
abbrev pub IsReplyTo : Word → List ℕ → Option Said → Type 0
IsReplyTo word bytes (Some said) = IsAnswerOf word said × (bytes ≡ reply_words said)
IsReplyTo word bytes None = (said : Said) → IsAnswerOf word said → bytes ≡ reply_words said → ⊥

-- the bytes are the words of this command and of its reply; or they are those of none
abbrev pub IsDealOf : List ℕ → Option (Word × Said) → Type 0
IsDealOf bytes (Some d) = IsWord d.0 × IsAnswerOf d.0 d.1 × (bytes ≡ command_words d.0 ++ reply_words d.1)
IsDealOf bytes None = (word : Word) (said : Said) → IsWord word → IsAnswerOf word said →
    bytes ≡ command_words word ++ reply_words said → ⊥

-- the line is that of the entry at the position, and this is the entry; or it is not
abbrev pub IsEntryOf : ℕ → List ℕ → Option EntryLine → Type 0
IsEntryOf position line (Some e) = (position ≤ MAX_ENTRIES) × IsEntry e × (line ≡ entry_line position e)
IsEntryOf position line None = (e : EntryLine) → 1 ≤ position → position ≤ MAX_ENTRIES → IsEntry e →
    line ≡ entry_line position e → ⊥

-- the bytes are spaced ids, and these are the ids; or they are not
abbrev pub AreIdsOf : List ℕ → Option (List ℕ) → Type 0
AreIdsOf bytes (Some ids) = All IsSmall ids × (bytes ≡ flat_map spaced ids)
AreIdsOf bytes None = (ids : List ℕ) → All IsSmall ids → bytes ≡ flat_map spaced ids → ⊥

-- the line is that of the order of the version, and these are the ids; or it is not
abbrev pub IsOrderOf : ℕ → List ℕ → Option (List ℕ) → Type 0
IsOrderOf version line (Some ids) = IsSmall version × All IsSmall ids × (line ≡ order_line version ids)
IsOrderOf version line None = (ids : List ℕ) → 1 ≤ version → IsSmall version → All IsSmall ids →
    line ≡ order_line version ids → ⊥

-- the line is that of this pull; or it is none of a pull
abbrev pub IsPullOf : List ℕ → Option PullLine → Type 0
IsPullOf line (Some p) = IsPull p × (line ≡ pull_line p)
IsPullOf line None = (p : PullLine) → IsPull p → line ≡ pull_line p → ⊥
