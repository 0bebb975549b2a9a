-- The text of a printed journal, line by line.
use Rattle.std.specs.Prelude.{ℕ, ◌+◌, ◌++◌, List, [], ◌∷◌, codes, map}
use Rattle.std.specs.List.{flat_map, slice_index_or}
use Rattle.report_text.specs.Text.{run_line}
use Rattle.coflow_units.specs.Text.{spaced, text_of}
use Rattle.live_text.specs.declared.value.EntryLine.{EntryLine}
use Rattle.live_text.specs.declared.value.Live.{Live}
use Rattle.live_text.specs.declared.value.PullLine.{PullLine}
use Rattle.live_text.specs.declared.value.Said.{Said}
use Rattle.live_text.specs.declared.value.Said.TheVariants.{Joined, Already, Left, NotHere, Version, StillOpen, Rank}
use Rattle.live_text.specs.declared.value.Said.TheVariants.{Unranked, Opened, Nothing, Closed, Weighed}
use Rattle.live_text.specs.declared.value.Word.{Word}
use Rattle.live_text.specs.declared.value.Word.TheVariants.{Register, Withdraw, Publish, Pull, Open, Close, Reweigh}

-- the words of a command
abbrev pub command_words : Word → List ℕ
command_words (Register id) = codes " register" ++ spaced id
command_words (Withdraw id) = codes " withdraw" ++ spaced id
command_words Publish = codes " publish"
command_words (Pull id) = codes " pull" ++ spaced id
command_words (Open most) = codes " open" ++ spaced most
command_words Close = codes " close"
command_words (Reweigh id weight) = codes " reweigh" ++ spaced id ++ spaced weight

-- the words of a reply
abbrev pub reply_words : Said → List ℕ
reply_words Joined = codes " joined"
reply_words Already = codes " already"
reply_words Left = codes " left"
reply_words NotHere = codes " nothere"
reply_words (Version version) = codes " version" ++ spaced version
reply_words (StillOpen slot) = codes " stillopen" ++ spaced slot
reply_words (Rank version rank) = codes " rank" ++ spaced version ++ spaced rank
reply_words (Unranked version) = codes " unranked" ++ spaced version
reply_words (Opened slot slots count) = codes " opened" ++ spaced slot ++ spaced slots ++ spaced count
reply_words Nothing = codes " nothing"
reply_words (Closed slot) = codes " closed" ++ spaced slot
reply_words (Weighed weight) = codes " weighed" ++ spaced weight

-- the line of the entry at a position
abbrev pub entry_line : ℕ → EntryLine → List ℕ
entry_line position e = codes "entry" ++ spaced position ++ spaced e.who ++ command_words e.word ++ reply_words e.said

-- the line of the order of a version: its ids, first place first
abbrev pub order_line : ℕ → List ℕ → List ℕ
order_line version ids = codes "order" ++ spaced version ++ flat_map spaced ids

-- the line of a pull
abbrev pub pull_line : PullLine → List ℕ
pull_line p = codes "pull" ++ spaced p.client ++ spaced p.line ++ spaced p.id ++ spaced p.version ++ spaced p.rank

-- the fourth byte of a line or of a command's words, or 0 where there is none
abbrev pub mark : List ℕ → ℕ
mark bytes = slice_index_or bytes 3 0

-- the lines of a list whose elements are counted from k on
abbrev pub numbered : {X : Type 0} → (ℕ → X → List ℕ) → ℕ → List X → List (List ℕ)
numbered line k [] = []
numbered line k (x ∷ xs) = line k x ∷ numbered line (k + 1) xs

-- the lines of a printed journal without the last one
abbrev pub body_lines : Live → List (List ℕ)
body_lines l = (codes "sincronia live 1" ∷ []) ++ numbered entry_line 1 l.entries ++ numbered order_line 1 l.orders ++
    map pull_line l.pulls ++ map run_line l.runs

-- the lines of a printed journal
abbrev pub live_lines : Live → List (List ℕ)
live_lines l = body_lines l ++ (codes "end" ∷ [])

-- the text of a printed journal
abbrev pub live_text : Live → List ℕ
live_text l = text_of (live_lines l)
