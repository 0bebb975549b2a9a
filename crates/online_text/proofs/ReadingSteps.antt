-- What was read of the bytes begins an online run, and where no online run goes on the line is wrong.
use Rattle.std.proofs.Common.{◌≡◌, ◌≢◌, ℕ, ◌+◌, List, [], ◌∷◌, ◌++◌, append_assoc, append-nil, length, refl, sym, ap, subst, ◌∙◌}
use Rattle.std.specs.Prelude.{◌↔◌, codes, map}
use Rattle.std.specs.List.{flat_map}
use Rattle.report_text.specs.Readers.{IsOneLine}
use Rattle.report_text.specs.Text.{bound_line, cost_line, run_line}
use Rattle.coflow_units.specs.Text.{ended, text_of}
use Rattle.report_text.proofs.ReadingText.{AreLines}
use Rattle.report_text.proofs.WholeLines.{IsBegun, IsRead, IsStopped, cut_at, early_at, none_yet, one_more, refused_at}
use Rattle.online_text.specs.declared.value.Online.{Online}
use Rattle.online_text.specs.Online.{HasSmallNumbers, IsOnline}
use Rattle.online_text.specs.Text.{done_line, epoch_lines, lines_from_done, lines_from_release, lines_from_runs, online_lines, order_line, release_line, total_line}
use Rattle.online_text.proofs.OneText.{online_are_lines, online_nested}
use Rattle.online_text.specs.declared.draft.Draft.{Draft}
use Rattle.online_text.specs.declared.draft.Stage.{Stage}
use Rattle.online_text.specs.declared.draft.Stage.TheVariants.{First, Epochs, Places, Done, Release, Runs, Ended}
use Rattle.online_text.specs.Draft.{Follows, GoesOn, GoesOnAt, IsDraft, Refuses, lines_from, online_at, online_of, opened}
use Rattle.online_text.specs.Reading.{IsBadAt, IsBeginning, IsTextOf}
use Rattle.online_text.proofs.StageSteps.{goes_at, goes_back}

-- the lines of an online run
abbrev pub IsOnlineText : List (List ℕ) → Type 0
IsOnlineText ls = (o : Online) × IsOnline o × HasSmallNumbers o × (online_lines o ≡ ls)

are_lines : (ls : List (List ℕ)) → IsOnlineText ls → AreLines ls
are_lines ls (o, online, small, is) = subst AreLines is (online_are_lines o online small)

bad_at : (bytes : List ℕ) (n : ℕ) → IsStopped IsOnlineText bytes n → IsBadAt bytes n
bad_at bytes n stopped = record {
  no_text = λ o t. stopped.no_text (online_lines o) (o, t.online, t.small, refl) t.text;
  counted = stopped.counted;
  before = λ k lt. there k (stopped.before k lt);
  here = λ b. stopped.here (record {
    front = b.front;
    others = b.others;
    lines = (b.whole, b.online, b.small, b.lines);
    count = b.count;
    rest = b.rest;
    text = b.text;
  });
}
  where
    there : (k : ℕ) → IsBegun IsOnlineText bytes k → IsBeginning bytes k
    there k b =
        let (o, online, small, is) = b.lines in
        record { whole = o; online = online; small = small; front = b.front; others = b.others; lines = is; count = b.count; rest = b.rest; text = b.text }

-- ---- what is left

-- the online run with what was read goes on
own_left : (s : Stage) (d : Draft) → (lines : List (List ℕ)) × GoesOnAt s d (online_at s d) lines
own_left First d = (online_lines (online_at First d), (tt, refl))
own_left Epochs d = (lines_from_done (online_at Epochs d), (tt, ([], sym (append-nil d.epochs.items), refl)))
own_left Places d = (
  bound_line 0 ∷ lines_from_done (online_at Places d),
  (tt, (opened d, [], refl, refl, ([], sym (append-nil d.places.items), refl))),
)
own_left Done d = (cost_line d.cost ∷ lines_from_release (online_at Done d), (refl, ([], sym (append-nil d.done.items), refl)))
own_left Release d = (total_line d.total ∷ lines_from_runs (online_at Release d), ((refl, refl, refl), ([], sym (append-nil d.release.items), refl)))
own_left Runs d = (codes "end" ∷ [], ((refl, refl, refl, refl, refl), ([], sym (append-nil d.runs), refl)))
own_left Ended d = ([], (refl, refl))

-- a list with a line in it is not empty
not_none : (xs ys : List (List ℕ)) (l : List ℕ) → [] ≡ xs ++ (l ∷ ys) → ⊥
not_none [] ys l e = cc
not_none (x ∷ xs) ys l e = cc

none_behind : (xs ys : List (List ℕ)) → [] ≡ xs ++ ys → [] ≡ ys
none_behind [] ys e = e
none_behind (x ∷ xs) ys e = absurd cc

goes_to_end : (s : Stage) (d : Draft) (o : Online) → s ≢ Ended → GoesOnAt s d o [] → ⊥
goes_to_end First d o early (before, e) = not_none [] (flat_map epoch_lines o.epochs ++ lines_from_done o) (codes "sincronia online 2") (e ∙ online_nested o)
goes_to_end Epochs d o early (before, (es, has, e)) =
    not_none (map done_line o.done) (lines_from_release o) (cost_line o.cost) (none_behind (flat_map epoch_lines es) (lines_from_done o) e)
goes_to_end Places d o early (before, (x, es, has, time, (ys, all, e))) =
    not_none (lines_from order_line (length d.places.items) ys) (flat_map epoch_lines es ++ lines_from_done o) (bound_line x.bound) e
goes_to_end Done d o early (before, (ys, all, e)) = not_none (lines_from (λ k. done_line) (length d.done.items) ys) (lines_from_release o) (cost_line o.cost) e
goes_to_end Release d o early (before, (ys, all, e)) = not_none (lines_from release_line (length d.release.items) ys) (lines_from_runs o) (total_line o.total) e
goes_to_end Runs d o early (before, (ys, all, e)) = not_none (lines_from (λ k. run_line) (length d.runs) ys) [] (codes "end") e
goes_to_end Ended d o early g = early refl

-- ---- what was read

-- the online runs that begin with these lines are those with which the draft goes on
abbrev BeginsAs : Draft → List (List ℕ) → Type 0
BeginsAs d read = (o : Online) (more : List (List ℕ)) → IsOnline o → HasSmallNumbers o → (online_lines o ≡ read ++ more) ↔ GoesOn d o more

-- what the loop over the lines has read
pub record ReadSoFar (bytes rest : List ℕ) (d : Draft) (n : ℕ) : Type 0 where
  pub draft : IsDraft d
  pub read : List (List ℕ)
  pub is_read : IsRead IsOnlineText bytes rest read n
  pub goes_on : BeginsAs d read

draft_begins : (d : Draft) (read : List (List ℕ)) → IsDraft d → BeginsAs d read → IsOnlineText (read ++ (own_left d.stage d).0)
draft_begins d read h goes_on =
    let left = own_left d.stage d in
    (online_of d, h.online, h.small, (goes_on (online_of d) left.0 h.online h.small).1 left.1)

pub nothing_read : (bytes : List ℕ) (d : Draft) → IsDraft d → d.stage ≡ First → ReadSoFar bytes bytes d 1
nothing_read bytes d h stage = record {
  draft = h;
  read = [];
  is_read = none_yet IsOnlineText bytes [] (own_left d.stage d).0 refl (draft_begins d [] h all);
  goes_on = all;
}
  where
    all : BeginsAs d []
    all o more online small = ((λ e. goes_back d First o more stage (tt, sym e)), (λ g. sym (goes_at d First o more stage g).1))

pub line_read : (bytes rest behind line : List ℕ) (d new : Draft) (n : ℕ) → ReadSoFar bytes rest d n → IsDraft new → Follows d new line → IsOneLine line →
    rest ≡ ended line ++ behind → ReadSoFar bytes behind new (n + 1)
line_read bytes rest behind line d new n r h follows one e = record {
  draft = h;
  read = longer;
  is_read = one_more IsOnlineText bytes rest behind line r.read longer (own_left new.stage new).0 n r.is_read refl (draft_begins new longer h all) one e;
  goes_on = all;
}
  where
    longer : List (List ℕ)
    longer = r.read ++ (line ∷ [])

    all : BeginsAs new longer
    all o more online small = (
      (λ f. (follows o more online small).0 ((r.goes_on o (line ∷ more) online small).0 (f ∙ append_assoc r.read (line ∷ []) more))),
      (λ g. (r.goes_on o (line ∷ more) online small).1 ((follows o more online small).1 g) ∙ sym (append_assoc r.read (line ∷ []) more)),
    )

-- ---- where no online run goes on

-- the rest begins with no whole line
pub cut_short : (bytes rest : List ℕ) (d : Draft) (n : ℕ) → ReadSoFar bytes rest d n → (rest ≡ [] → ⊥) → ((line behind : List ℕ) → rest ≡ ended line ++ behind → ⊥) →
    IsBadAt bytes n
cut_short bytes rest d n r some none = bad_at bytes n (cut_at IsOnlineText are_lines bytes rest r.read n r.is_read some none)

-- the next line is refused
pub line_refused : (bytes rest line behind : List ℕ) (d : Draft) (n : ℕ) → ReadSoFar bytes rest d n → (rest ≡ [] → ⊥) → IsOneLine line → rest ≡ ended line ++ behind →
    Refuses d line → IsBadAt bytes n
line_refused bytes rest line behind d n r some one e refuses =
    bad_at bytes n (refused_at IsOnlineText are_lines bytes rest line behind r.read n r.is_read some one e refused)
  where
    refused : (more : List (List ℕ)) → IsOnlineText (r.read ++ (line ∷ more)) → ⊥
    refused more (o, online, small, is) = refuses o more online small ((r.goes_on o (line ∷ more) online small).0 is)

-- nothing is left, and the last line was not read
pub ends_early : (bytes rest : List ℕ) (d : Draft) (n : ℕ) → ReadSoFar bytes rest d n → rest ≡ [] → d.stage ≢ Ended → IsBadAt bytes n
ends_early bytes rest d n r none early = bad_at bytes n (early_at IsOnlineText are_lines bytes rest r.read n r.is_read none no_whole)
  where
    no_whole : IsOnlineText r.read → ⊥
    no_whole (o, online, small, is) = goes_to_end d.stage d o early ((r.goes_on o [] online small).0 (is ∙ sym (append-nil r.read)))

-- all was read
pub all_read : (bytes rest : List ℕ) (d : Draft) (n : ℕ) (o : Online) → ReadSoFar bytes rest d n → rest ≡ [] → d.stage ≡ Ended → o ≡ online_of d → IsTextOf bytes o
all_read bytes rest d n o r none stage is =
    let own : GoesOn d (online_of d) [] = goes_back d Ended (online_of d) [] stage (ap (λ s. online_at s d) stage, refl) in
    let lines : online_lines (online_of d) ≡ r.read = (r.goes_on (online_of d) [] r.draft.online r.draft.small).1 own ∙ append-nil r.read in
    subst (IsTextOf bytes) (sym is) (record {
      online = r.draft.online;
      small = r.draft.small;
      text = r.is_read.text ∙ (ap (λ x. text_of r.read ++ x) none ∙ (append-nil (text_of r.read) ∙ ap text_of (sym lines)));
    })
