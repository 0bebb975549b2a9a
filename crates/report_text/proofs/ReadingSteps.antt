-- What was read of the bytes begins a report, and where no report goes on the line is wrong.
use Rattle.std.proofs.Common.{◌≡◌, ◌≢◌, ℕ, ◌<◌, List, [], ◌∷◌, ◌++◌, append-nil, refl, subst, ap, ◌∙◌, arith}
use Rattle.report_text.specs.declared.draft.Draft.{Draft}
use Rattle.report_text.specs.declared.draft.Stage.TheVariants.{Done}
use Rattle.report_text.specs.declared.value.Report.{Report}
use Rattle.report_text.specs.Report.{HasSmallNumbers, IsReport}
use Rattle.report_text.specs.Text.{report_lines, report_text}
use Rattle.coflow_units.specs.Text.{text_of}
use Rattle.report_text.specs.Draft.{IsDraft, Refuses, draft_lines, lines_before, report_of}
use Rattle.report_text.specs.Reading.{IsBadAt, IsBeginning, IsTextOf}
use Rattle.report_text.proofs.OneLine.{report_is_lines}
use Rattle.report_text.proofs.LastLine.{lines_after, lines_parted, unfinished}
use Rattle.report_text.proofs.ReadingText.{AreLines}
use Rattle.report_text.proofs.WholeLines.{IsBegun, IsRead, IsStopped}

-- the lines of a report
abbrev pub IsReportText : List (List ℕ) → Type 0
IsReportText ls = (r : Report) × IsReport r × HasSmallNumbers r × (report_lines r ≡ ls)

pub are_lines : (ls : List (List ℕ)) → IsReportText ls → AreLines ls
are_lines ls (r, report, small, is) = subst AreLines is (report_is_lines r report small)

-- what was read begins a report
pub draft_begins : (d : Draft) → IsDraft d → IsReportText (draft_lines d ++ lines_after d.stage (report_of d))
draft_begins d h = (report_of d, h.report, h.small, lines_parted d.stage (report_of d))

pub refused : (d : Draft) (line : List ℕ) → Refuses d line → (more : List (List ℕ)) → IsReportText (draft_lines d ++ (line ∷ more)) → ⊥
refused d line refuses more (r, report, small, is) = refuses r more report small is

pub no_whole : (d : Draft) → d.stage ≢ Done → IsReportText (draft_lines d) → ⊥
no_whole d early (r, report, small, is) = unfinished d.stage (report_of d) r early is

-- a report that was read to its end is that of the bytes
pub all_read : (d : Draft) (r : Report) (bytes rest : List ℕ) (n : ℕ) → IsDraft d → d.stage ≡ Done → r ≡ report_of d → IsRead IsReportText bytes rest (draft_lines d) n →
    rest ≡ [] → IsTextOf bytes r
all_read d r bytes rest n h done is read none =
    let lines : text_of (draft_lines d) ≡ report_text (report_of d) = ap (λ s. text_of (lines_before s (report_of d))) done in
    let text : bytes ≡ report_text (report_of d) = read.text ∙ (ap (λ x. text_of (draft_lines d) ++ x) none ∙ (append-nil (text_of (draft_lines d)) ∙ lines)) in
    rw is (record { report = h.report; small = h.small; text = text })

pub bad_at : (bytes : List ℕ) (n : ℕ) → IsStopped IsReportText bytes n → IsBadAt bytes n
bad_at bytes n stopped = record {
  no_text = λ r t. stopped.no_text (report_lines r) (r, t.report, t.small, refl) t.text;
  counted = stopped.counted;
  before = λ k lt. there k (stopped.before k lt);
  here = λ b. stopped.here (record {
    front = b.front;
    others = b.others;
    lines = (b.whole, b.report, b.small, b.lines);
    count = b.count;
    rest = b.rest;
    text = b.text;
  });
}
  where
    there : (k : ℕ) → IsBegun IsReportText bytes k → IsBeginning bytes k
    there k b =
        let (r, report, small, is) = b.lines in
        record { whole = r; report = report; small = small; front = b.front; others = b.others; lines = is; count = b.count; rest = b.rest; text = b.text }

-- ---- one line is the first that is wrong

not_before : (bytes : List ℕ) (a b : ℕ) → IsBadAt bytes a → IsBadAt bytes b → a < b → ⊥
not_before bytes a b ha hb less = ha.here (hb.before a less)

pub line_is_one : (bytes : List ℕ) (a b : ℕ) → IsBadAt bytes a → IsBadAt bytes b → a ≡ b
line_is_one bytes a b ha hb = grind (arith, not_before bytes a b ha hb, not_before bytes b a hb ha)
