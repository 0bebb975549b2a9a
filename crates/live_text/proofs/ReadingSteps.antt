-- What was read of the bytes begins a printed journal, and where no printed journal goes on the line is wrong.
use Rattle.std.proofs.Common.{◌≡◌, ◌≢◌, ℕ, List, [], ◌∷◌, ◌++◌, append-nil, refl, sym, subst}
use Rattle.std.specs.Prelude.{codes}
use Rattle.report_text.proofs.ReadingText.{AreLines}
use Rattle.report_text.proofs.WholeLines.{IsBegun, IsStopped}
use Rattle.live_text.specs.declared.draft.Draft.{Draft}
use Rattle.live_text.specs.declared.draft.Stage.{Stage}
use Rattle.live_text.specs.declared.draft.Stage.TheVariants.{First, Lines, Done}
use Rattle.live_text.specs.declared.value.Live.{Live}
use Rattle.live_text.specs.Live.{IsLive}
use Rattle.live_text.specs.Text.{live_lines}
use Rattle.live_text.specs.Draft.{IsDraft, Refuses, draft_lines, lines_before, live_of}
use Rattle.live_text.specs.Reading.{IsBadAt, IsBeginning}
use Rattle.live_text.proofs.NextLine.{live_are_lines}
use Rattle.live_text.proofs.Refusals.{unfinished}

-- the lines of a printed journal
abbrev pub IsLiveText : List (List ℕ) → Type 0
IsLiveText ls = (l : Live) × IsLive l × (live_lines l ≡ ls)

pub are_lines : (ls : List (List ℕ)) → IsLiveText ls → AreLines ls
are_lines ls (l, live, is) = subst AreLines is (live_are_lines l live)

-- the lines of a printed journal behind those before the stage
abbrev pub lines_after : Stage → Live → List (List ℕ)
lines_after First l = live_lines l
lines_after Lines l = codes "end" ∷ []
lines_after Done l = []

lines_parted : (s : Stage) (l : Live) → live_lines l ≡ lines_before s l ++ lines_after s l
lines_parted First l = refl
lines_parted Lines l = refl
lines_parted Done l = sym (append-nil (live_lines l))

-- what was read begins a printed journal
pub draft_begins : (d : Draft) → IsDraft d → IsLiveText (draft_lines d ++ lines_after d.stage (live_of d))
draft_begins d h = (live_of d, h.live, lines_parted d.stage (live_of d))

pub refused : (d : Draft) (line : List ℕ) → Refuses d line → (more : List (List ℕ)) → IsLiveText (draft_lines d ++ (line ∷ more)) → ⊥
refused d line refuses more (l, live, is) = refuses l more live is

pub no_whole : (d : Draft) → IsDraft d → d.stage ≢ Done → IsLiveText (draft_lines d) → ⊥
no_whole d h early (l, live, is) = unfinished d l h early live is

pub bad_at : (bytes : List ℕ) (n : ℕ) → IsStopped IsLiveText bytes n → IsBadAt bytes n
bad_at bytes n stopped = record {
  no_text = λ l t. stopped.no_text (live_lines l) (l, t.live, refl) t.text;
  counted = stopped.counted;
  before = λ k lt. there k (stopped.before k lt);
  here = λ b. stopped.here (record { front = b.front; others = b.others; lines = (b.whole, b.live, b.lines); count = b.count; rest = b.rest; text = b.text });
}
  where
    there : (k : ℕ) → IsBegun IsLiveText bytes k → IsBeginning bytes k
    there k b =
        let (l, live, is) = b.lines in
        record { whole = l; live = live; front = b.front; others = b.others; lines = is; count = b.count; rest = b.rest; text = b.text }
