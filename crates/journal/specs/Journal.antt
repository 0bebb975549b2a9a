-- Journals: what a command adds, which ones are legal, and what is read from them.
use Rattle.std.specs.Prelude.{◌≡◌, ℕ, ◌+◌, ◌==◌, ◌&&◌, Bool, true, false, if◌then◌else◌, List, [], ◌∷◌, ◌++◌}
use Rattle.coflow_units.specs.Flows.{Instance}
use Rattle.journal.specs.declared.command.Command.{Command}
use Rattle.journal.specs.declared.command.Reply.{Reply}
use Rattle.journal.specs.declared.command.Reply.TheVariants.{Full, Already, NotHere, StillOpen, Version, NothingLeft}
use Rattle.journal.specs.declared.command.Reply.TheVariants.{Late, NotGranted, NoneOpen, StillOwed, Weighed}
use Rattle.journal.specs.declared.command.Entry.{Entry}
use Rattle.journal.specs.declared.opening.Opening.{Opening}
use Rattle.journal.specs.State.{what_is_left}
use Rattle.journal.specs.Line.{line, order, rank}
use Rattle.journal.specs.Fold.{coflow_named, state_of}
use Rattle.journal.specs.Answer.{reply_of}

abbrev pub entry : ℕ → Command → Reply → Entry
entry who k reply = record { who = who; command = k; reply = reply }

-- who asked, and what
abbrev pub asked : Entry → ℕ × Command
asked e = (e.who, e.command)

-- the reply says that the journal is full
abbrev pub is_full : Reply → Bool
is_full (Full n) = true
is_full reply = false

-- the reply refuses the command
abbrev pub is_refusal : Reply → Bool
is_refusal (Full n) = true
is_refusal Already = true
is_refusal NotHere = true
is_refusal (StillOpen slot) = true
is_refusal NothingLeft = true
is_refusal (Late slot) = true
is_refusal (NotGranted port) = true
is_refusal NoneOpen = true
is_refusal (StillOwed flow) = true
is_refusal reply = false

-- the entries that a command adds: one, unless the journal is full
abbrev pub adds : ℕ → Command → Reply → List Entry
adds who k reply = if is_full reply then [] else entry who k reply ∷ []

-- the journal after a command
abbrev pub journal_after : Opening → List Entry → ℕ → Command → List Entry
journal_after o journal who k = journal ++ adds who k (reply_of o journal k)

-- after the entries before, each entry has the reply to its command there, and none is full
abbrev pub LegalFrom : Opening → List Entry → List Entry → Type 0
LegalFrom o before [] = Unit {0}
LegalFrom o before (e ∷ es) = (e.reply ≡ reply_of o before e.command) × (is_full e.reply ≡ false) ×
    LegalFrom o (before ++ e ∷ []) es

abbrev pub IsLegal : Opening → List Entry → Type 0
IsLegal o journal = LegalFrom o [] journal

-- ---- what is read from a journal

-- the reply tells the old weight of a coflow that gets a new one
abbrev pub is_weighed : Reply → Bool
is_weighed (Weighed old) = true
is_weighed reply = false

-- the entry gives the coflow a weight
abbrev pub gives_weight : Entry → ℕ → Bool
gives_weight e coflow = is_weighed e.reply && (coflow == coflow_named e.command)

-- the reply tells a new version
abbrev pub is_version : Reply → Bool
is_version (Version v) = true
is_version reply = false

-- the newest version of a journal: how many versions it tells
abbrev pub version_of : List Entry → ℕ
version_of [] = 0
version_of (e ∷ es) = (if is_version e.reply then 1 else 0) + version_of es

-- the order of a version of the journal
abbrev pub order_in : Opening → List Entry → ℕ → List ℕ
order_in o journal v = order (state_of o journal) v

-- the place of a coflow in a version of the journal, or 0
abbrev pub rank_of : Opening → List Entry → ℕ → ℕ → ℕ
rank_of o journal v coflow = rank (state_of o journal) v coflow

-- the coflows that are served after the journal, the first first
abbrev pub line_of : Opening → List Entry → List ℕ
line_of o journal = line (state_of o journal)

-- what is left after the journal
abbrev pub left_at : Opening → List Entry → Instance
left_at o journal = what_is_left o (state_of o journal)
