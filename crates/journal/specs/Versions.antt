-- The entries that are answered with a version.
use Rattle.std.specs.Prelude.{◌≡◌, ℕ, ◌+◌, ◌==◌, Bool, false, List, ◌∷◌, ◌++◌, count_by}
use Rattle.journal.specs.declared.command.Command.TheVariants.{Publish}
use Rattle.journal.specs.declared.command.Entry.{Entry}
use Rattle.journal.specs.declared.command.Reply.{Reply}
use Rattle.journal.specs.declared.command.Reply.TheVariants.{Version}
use Rattle.journal.specs.Journal.{version_of}

-- the reply is this version
abbrev pub is_the_version : ℕ → Reply → Bool
is_the_version v (Version w) = w == v
is_the_version v reply = false

-- how many of the entries are answered with this version
abbrev pub times_made : List Entry → ℕ → ℕ
times_made journal v = count_by (λ (e : Entry). is_the_version v e.reply) journal

-- the journal has a publishing that is answered with the version, and before it the versions below
pub record IsMade (journal : List Entry) (v : ℕ) : Type 0 where
  pub before : List Entry
  pub entry : Entry
  pub more : List Entry
  pub stands : journal ≡ before ++ entry ∷ more
  pub publishes : entry.command ≡ Publish
  pub reply : entry.reply ≡ Version v
  pub below : version_of before + 1 ≡ v
