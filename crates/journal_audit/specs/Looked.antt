-- What is known while the entries of a printed journal are looked through.
use Rattle.std.specs.Prelude.{◌≡◌, ℕ, List, All, map}
use Rattle.live_text.specs.declared.value.EntryLine.{EntryLine}
use Rattle.journal_audit.specs.declared.stated.Stated.{Stated}
use Rattle.journal_audit.specs.declared.stated.Stated.TheVariants.{Commands, Unknown}
use Rattle.journal_audit.specs.Reasons.{IsFirstUnknown}
use Rattle.journal_audit.specs.Stated.{IsKnown, command_for}

-- the commands are those of the entries, whose ids are coflows', or the first unknown id is told
abbrev pub IsStated : List ℕ → List EntryLine → Stated → Type 0
IsStated ids entries (Commands commands) =
    (commands.items ≡ map (λ (e : EntryLine). command_for ids e.word) entries)
    × All (λ (e : EntryLine). IsKnown ids e.word) entries
IsStated ids entries (Unknown position) = IsFirstUnknown ids entries position
