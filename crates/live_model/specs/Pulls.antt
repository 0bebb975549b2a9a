-- Which versions the pulls of the clients were told.
use Rattle.std.specs.Prelude.{◌≡◌, ℕ, ◌<◌, ◌≤◌, List, [], ◌∷◌, ◌++◌, All, Any}
use Rattle.std.specs.Option.{IfSome}
use Rattle.journal.specs.declared.command.Entry.{Entry}
use Rattle.journal.specs.declared.command.Reply.TheVariants.{Version}
use Rattle.journal.specs.declared.opening.Opening.{Opening}
use Rattle.journal.specs.Answer.{pulled}
use Rattle.journal.specs.Journal.{rank_of, version_of}
use Rattle.live_model.specs.Deeds.{Deed, Deeds, ForLaterLines, ForLaterRounds, HasEntry, IsPull, numbered}

-- the entry that made the version stands before the position
abbrev pub IsMadeBefore : List Entry → ℕ → ℕ → Type 0
IsMadeBefore journal version position = Any (λ x. (x.0 < position) × (x.1.reply ≡ Version version)) (numbered journal)

-- where the first deed is a pull that was told a version, the entry that made that version stands before the entry of
-- the other
abbrev pub IsMadeFor : List Entry → Deed → Deed → Type 0
IsMadeFor journal a b = IsPull a → 1 ≤ a.version → IfSome b.position (λ p. IsMadeBefore journal a.version p)

-- The versions of a client are versions of the journal and never fall, those of its entries included. No pull is told
-- less than the newest version after an entry of an earlier round, and none is told a version that was made only after
-- an entry of a later line or a later round.
pub record TellVersions (journal : List Entry) (deeds : Deeds) : Type 0 where
  pub known : (client : ℕ) → All (λ d. d.version ≤ version_of journal) (deeds client)
  pub never_fall : ForLaterLines deeds (λ a b. a.version ≤ b.version)
  pub seen : ForLaterRounds deeds (λ a b. HasEntry a → IsPull b → a.version ≤ b.version)
  pub made_for_lines : ForLaterLines deeds (IsMadeFor journal)
  pub made_for_rounds : ForLaterRounds deeds (IsMadeFor journal)

-- a pull after these entries is answered the rank of its coflow in the newest version, which is also the newest after
-- it
pub record IsAnswered (o : Opening) (before : List Entry) (e : Entry) (coflow : ℕ) : Type 0 where
  pub reply : e.reply ≡ pulled (version_of before) (rank_of o before (version_of before) coflow)
  pub newest : version_of (before ++ e ∷ []) ≡ version_of before
