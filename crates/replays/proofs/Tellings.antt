-- What is kept once the ranker was told the news.
use Rattle.std.proofs.Common.{◌≡◌, ◌≢◌, ℕ, Bool, true, false, List, length, refl, sym, ap, subst, ◌∙◌}
use Rattle.std.specs.Prelude.{◌==◌, ◌||◌, if◌then◌else◌, filter, map}
use Rattle.std.specs.List.{range_with_len}
use Rattle.std.proofs.lemmas.Bool.{eq-eqb, ne_eqb}
use Rattle.coflow_units.specs.Completion.{completion}
use Rattle.epochs.specs.Course.{is_marked}
use Rattle.rankers.specs.ByKey.{by_key, key_in}
use Rattle.rankers.specs.Meaning.{Meaning, after_notes}
use Rattle.replays.specs.declared.kept.Kept.{Kept}
use Rattle.replays.specs.declared.progress.Progress.{Progress}
use Rattle.replays.specs.Kept.{FitsTable, Holds, IsAt, Tells, TellsLine, TellsProgress, is_untold}
use Rattle.replays.specs.Moments.{Input, Moment, asked_at, is_news, news, told_at}
use Rattle.replays.specs.Publishing.{told_moment}
use Rattle.replays.specs.Recording.{TellsRecording}
use Rattle.replays.proofs.Holding.{told_len}
use Rattle.replays.proofs.NewsSteps.{asked_is, told_is}
use Rattle.replays.proofs.Recordings.{same_recording}
use Rattle.replays.proofs.Telling.{same_progress}

holds_told : (x : Input) (m : Moment) → Holds x m → Holds x (told_moment x m)
holds_told x m h = record {
  arrivals_are = h.arrivals_are;
  every_is = h.every_is;
  registered = h.registered;
  withdrawn = h.withdrawn;
  told = told_len x m h.told;
  gone = h.gone;
  distinct = h.distinct;
  stands = h.stands;
  lined = h.lined;
  short = h.short;
}

line_told : (x : Input) (m : Moment) (kept : Kept) → Tells x m kept → TellsLine x (told_moment x m) kept.line
line_told x m kept t = record { coflows_are = t.line.coflows_are; ports = t.line.ports; room = t.line.room; settled = t.line.settled }

-- before the first question nothing is told
pub quiet : (x : Input) (m : Moment) (kept : Kept) (before : Meaning) → IsAt x m kept → kept.questions.published ≡ 0 →
    IsAt x (told_moment x m) kept × (m.ranker ≡ before → before ≡ asked_at x m)
quiet x m kept before at none =
    let t = at.tells in
    let first : (m.course.published == 0) ≡ true = eq-eqb m.course.published 0 (sym t.published ∙ none) in
    let told : told_at x m ≡ m.told =
    ap (λ (b : Bool). if b then m.told else map (λ c. is_marked m.told c || is_news x m c) (range_with_len 0 (length x.table.ids))) first in
    let asked : asked_at x m ≡ m.ranker =
    ap (λ (b : Bool). if b then m.ranker else after_notes m.ranker (completion x.table.flows m.slots) (news x m)) first in (
      record {
        input = at.input;
        holds = holds_told x m at.holds;
        tells = record {
          progress = same_progress x m (told_moment x m) kept.progress refl t.progress;
          marks = record { joined_are = t.marks.joined_are; present_are = t.marks.present_are; told_are = t.marks.told_are ∙ sym told };
          each = t.each;
          line = line_told x m kept t;
          fits = t.fits;
          published = t.published;
          recording = same_recording x m (told_moment x m) kept.recording refl refl t.recording;
        };
      },
      λ is. sym is ∙ sym asked,
    )

-- else the news are told
pub told_on : (x : Input) (m : Moment) (old new : Kept) (n : ℕ) (before after : Meaning) → IsAt x m old → old.questions.published ≢ 0 → n ≡ length x.table.ids →
    after ≡ after_notes before (key_in old.progress.ends.items) (filter (is_untold old.marks old.progress) (by_key (key_in old.progress.ends.items) n)) →
    new.marks.told.items ≡ map (λ c. is_marked old.marks.told.items c || is_untold old.marks old.progress c) (range_with_len 0 n) →
    new.marks.joined ≡ old.marks.joined → new.marks.present ≡ old.marks.present → new.progress ≡ old.progress → new.line ≡ old.line →
    FitsTable x.table x.weights new.questions → new.questions.published ≡ old.questions.published → new.recording ≡ old.recording →
    IsAt x (told_moment x m) new × (m.ranker ≡ before → after ≡ asked_at x m)
told_on x m old new n before after at some count notes marks joined present progress line fits published recording =
    let t = at.tells in
    let later : (m.course.published == 0) ≡ false = ne_eqb m.course.published 0 (λ e. some (t.published ∙ e)) in
    let told = told_is x m old n new.marks.told.items t later count marks in
    let next = told_moment x m in (
      record {
        input = at.input;
        holds = holds_told x m at.holds;
        tells = record {
          progress = subst (λ p. TellsProgress x next p) (sym progress) (same_progress x m next old.progress refl t.progress);
          marks = record {
            joined_are = ap (λ v. v.items) joined ∙ t.marks.joined_are;
            present_are = λ c. ap (λ v. is_marked v.items c) present ∙ t.marks.present_are c;
            told_are = told;
          };
          each = record {
            joined = ap (λ v. length v.items) joined ∙ t.each.joined;
            present = ap (λ v. length v.items) present ∙ t.each.present;
            told = ap (λ (l : List Bool). length l) told ∙ told_len x m at.holds.told;
            owed = ap (λ (p : Progress). length p.owed.items) progress ∙ t.each.owed;
            ends = ap (λ (p : Progress). length p.ends.items) progress ∙ t.each.ends;
          };
          line = subst (λ l. TellsLine x next l) (sym line) (line_told x m old t);
          fits = fits;
          published = published ∙ t.published;
          recording = subst (TellsRecording x next) (sym recording) (same_recording x m next old.recording refl refl t.recording);
        };
      },
      λ is. asked_is x m old n before after t is later count notes,
    )
