-- What is kept after an action tells the moment after it.
use Rattle.std.proofs.Common.{◌≡◌, ℕ, ◌+◌, ◌-◌, ◌<◌, ◌≤◌, Bool, true, false, List, [], ◌∷◌, ◌++◌, None, length, replicate, refl, sym, ap, subst, ◌∙◌, arith}
use Rattle.std.specs.Prelude.{All, ◌==◌, ◌&&◌, filter, map, not, slice_index, slice_set}
use Rattle.std.proofs.Math.Path.{fun_ext}
use Rattle.std.proofs.lemmas.Bool.{both_ways}
use Rattle.std.proofs.lemmas.List.{length-replicate, length-set}
use Rattle.coflow_units.specs.declared.fabric.Flow.{Flow}
use Rattle.coflow_units.specs.Flows.{IsDistinct}
use Rattle.coflow_units.specs.Served.{left_after}
use Rattle.coflow_units.proofs.Sums.{all_of_members}
use Rattle.epochs.specs.declared.action.Action.TheVariants.{Register, Skip, Withdraw}
use Rattle.epochs.specs.Course.{is_marked}
use Rattle.epochs.proofs.Actions.{marked_below, none_marked}
use Rattle.matching.specs.Matching.{IsRunLess, IsSettled, listed_in, ports_of, room_of}
use Rattle.rankers.specs.Meaning.{Meaning}
use Rattle.slot_switch.proofs.RunSteps.{all_left, left_after_run}
use Rattle.replays.specs.declared.kept.Kept.{Kept}
use Rattle.replays.specs.declared.line.Line.{Line}
use Rattle.replays.specs.declared.news.Marks.{Marks}
use Rattle.replays.specs.declared.progress.Progress.{Progress}
use Rattle.epochs.specs.Tallies.{IsTallied}
use Rattle.replays.specs.Kept.{FitsTable, HasSameRoom, IsAt, Tells, TellsLine, TellsMarks, TellsProgress}
use Rattle.replays.specs.Moments.{DoesNext, Input, Moment, first_moment, is_here, joined_at, left_the_line, served_at}
use Rattle.replays.specs.Recording.{BothRecorded, IsRunRecorded, TellsRecording}
use Rattle.replays.specs.Replayed.{IsInput}
use Rattle.replays.proofs.Holding.{longer}
use Rattle.replays.proofs.Marks.{here_parts}
use Rattle.replays.proofs.Publishings.{same_marks}
use Rattle.replays.proofs.Recordings.{run_recorded, same_recording}
use Rattle.replays.proofs.Remaining.{skip_time}
use Rattle.replays.proofs.Running.{run_less}
use Rattle.replays.proofs.Telling.{completion_on, here_joined, here_left, same_progress, stale_line}

-- ---- a coflow joins

pub joins_low : (x : Input) (m : Moment) (coflow : ℕ) (old : Kept) → IsAt x m old → DoesNext x m (Register coflow) → coflow < length x.table.ids
joins_low x m coflow old at does = omega (arith, does.applies.waits.coflow_in, ap (λ (l : List ℕ). length l) at.holds.arrivals_are, at.input.each_arrival)

pub joined_tells : (x : Input) (m : Moment) (coflow : ℕ) (old new : Kept) → IsAt x m old → DoesNext x m (Register coflow) → new.progress ≡ old.progress →
    new.marks.joined.items ≡ slice_set old.marks.joined.items coflow true → new.marks.present.items ≡ slice_set old.marks.present.items coflow true →
    new.marks.told ≡ old.marks.told → new.line.coflows.items ≡ old.line.coflows.items ++ coflow ∷ [] → new.line.stale ≡ true → new.line.grants ≡ old.line.grants →
    new.questions ≡ old.questions → new.recording ≡ old.recording → Tells x (joined_at m coflow) new
joined_tells x m coflow old new at does progress joined present told line stale grants questions recording =
    let t = at.tells in
    let next = joined_at m coflow in
    let low = joins_low x m coflow old at does in
    record {
      progress = subst (TellsProgress x next) (sym progress) (same_progress x m next old.progress refl t.progress);
      marks = record {
        joined_are = joined ∙ ap (λ l. slice_set l coflow true) t.marks.joined_are;
        present_are = λ c. ap (λ l. is_marked l c) present ∙
            here_joined x m old.marks.present.items coflow at.holds (omega (arith, low, at.holds.registered)) (omega (arith, low, t.each.present))
            does.applies.waits.waits t.marks.present_are c;
        told_are = ap (λ v. v.items) told ∙ t.marks.told_are;
      };
      each = record {
        joined = ap (λ (l : List Bool). length l) joined ∙ length-set old.marks.joined.items coflow true ∙ t.each.joined;
        present = ap (λ (l : List Bool). length l) present ∙ length-set old.marks.present.items coflow true ∙ t.each.present;
        told = ap (λ v. length v.items) told ∙ t.each.told;
        owed = ap (λ (p : Progress). length p.owed.items) progress ∙ t.each.owed;
        ends = ap (λ (p : Progress). length p.ends.items) progress ∙ t.each.ends;
      };
      line = stale_line x m next old.line new.line t.line (line ∙ ap (λ l. l ++ coflow ∷ []) t.line.coflows_are) stale grants;
      fits = subst (FitsTable x.table x.weights) (sym questions) t.fits;
      published = ap (λ q. q.published) questions ∙ t.published;
      recording = subst (TellsRecording x next) (sym recording) (same_recording x m next old.recording refl refl t.recording);
    }

-- ---- a coflow leaves

pub leaves_low : (x : Input) (m : Moment) (coflow : ℕ) (old : Kept) → IsAt x m old → DoesNext x m (Withdraw coflow) → coflow < length x.table.ids
leaves_low x m coflow old at does = omega (arith, marked_below m.course.registered coflow does.applies.served.is_present.joined, at.holds.registered)

pub left_tells : (x : Input) (m : Moment) (coflow : ℕ) (old new : Kept) → IsAt x m old → DoesNext x m (Withdraw coflow) → new.progress ≡ old.progress →
    new.marks.joined ≡ old.marks.joined → new.marks.present.items ≡ slice_set old.marks.present.items coflow false →
    new.marks.told ≡ old.marks.told → new.line.coflows.items ≡ filter (λ c. not (c == coflow)) old.line.coflows.items → new.line.stale ≡ true →
    new.line.grants ≡ old.line.grants → new.questions ≡ old.questions → new.recording ≡ old.recording → Tells x (left_the_line m coflow) new
left_tells x m coflow old new at does progress joined present told line stale grants questions recording =
    let t = at.tells in
    let next = left_the_line m coflow in
    let low = leaves_low x m coflow old at does in
    record {
      progress = subst (TellsProgress x next) (sym progress) (same_progress x m next old.progress refl t.progress);
      marks = record {
        joined_are = ap (λ v. v.items) joined ∙ t.marks.joined_are;
        present_are = λ c. ap (λ l. is_marked l c) present ∙
            here_left m old.marks.present.items coflow (omega (arith, low, at.holds.withdrawn)) (omega (arith, low, t.each.present)) t.marks.present_are c;
        told_are = ap (λ v. v.items) told ∙ t.marks.told_are;
      };
      each = record {
        joined = ap (λ v. length v.items) joined ∙ t.each.joined;
        present = ap (λ (l : List Bool). length l) present ∙ length-set old.marks.present.items coflow false ∙ t.each.present;
        told = ap (λ v. length v.items) told ∙ t.each.told;
        owed = ap (λ (p : Progress). length p.owed.items) progress ∙ t.each.owed;
        ends = ap (λ (p : Progress). length p.ends.items) progress ∙ t.each.ends;
      };
      line = stale_line x m next old.line new.line t.line (line ∙ ap (filter (λ c. not (c == coflow))) t.line.coflows_are) stale grants;
      fits = subst (FitsTable x.table x.weights) (sym questions) t.fits;
      published = ap (λ q. q.published) questions ∙ t.published;
      recording = subst (TellsRecording x next) (sym recording) (same_recording x m next old.recording refl refl t.recording);
    }

-- ---- slots pass

-- slots in which nobody is served leave what is left
skip_left : (flows : List Flow) (slots : List (List ℕ)) (n : ℕ) → left_after flows slots ≡ left_after flows (slots ++ replicate n [])
skip_left flows slots n = fun_ext (λ f. sym (omega (arith, left_after_run flows slots [] n f)))

skipped_line : (x : Input) (m : Moment) (n : ℕ) (line : Line) → TellsLine x m line → TellsLine x (served_at m n []) line
skipped_line x m n line t = record {
  coflows_are = t.coflows_are;
  ports = t.ports;
  room = t.room;
  settled = λ fresh. subst (λ (left : ℕ → ℕ). IsSettled x.table.flows m.line left line.grants) (skip_left x.table.flows m.slots n) (t.settled fresh);
}

skipped_progress : (x : Input) (m : Moment) (n : ℕ) (old new : Progress) → TellsProgress x m old → 1 ≤ n → new.time ≡ old.time + n → new.left ≡ old.left → new.owed ≡ old.owed →
    new.ends ≡ old.ends → TellsProgress x (served_at m n []) new
skipped_progress x m n old new t some time left owed ends = record {
  time_is = omega (arith, time, t.time_is, longer m n []);
  left_is = λ f. ap (λ v. slice_index v.items f) left ∙ t.left_is f ∙ ap (λ (l : ℕ → ℕ). l f) (skip_left x.table.flows m.slots n);
  tallied = subst (λ v. IsTallied x.table.flows v.items new.owed.items) (sym left) (subst (λ v. IsTallied x.table.flows old.left.items v.items) (sym owed) t.tallied);
  ends_are = λ c lt. ap (λ v. slice_index v.items c) ends ∙ t.ends_are c lt ∙ sym (completion_on x.table.flows m.slots [] n c some);
}

pub skipped_tells : (x : Input) (m : Moment) (to : ℕ) (old new : Kept) → IsAt x m old → DoesNext x m (Skip to) → new.progress.time ≡ to - 1 →
    new.progress.left ≡ old.progress.left → new.progress.owed ≡ old.progress.owed → new.progress.ends ≡ old.progress.ends → new.marks ≡ old.marks → new.line ≡ old.line →
    new.questions ≡ old.questions → BothRecorded old.recording new.recording (IsRunRecorded (to - 1 - old.progress.time) []) →
    Tells x (served_at m (to - 1 - old.progress.time) []) new
skipped_tells x m to old new at does time left owed ends marks line questions both =
    let t = at.tells in
    let n = to - 1 - old.progress.time in
    let next = served_at m n [] in
    let (later, most, some) = skip_time x m to at.input at.holds does.applies in
    let one : 1 ≤ n = omega (arith, later, t.progress.time_is) in
    let passes : new.progress.time ≡ old.progress.time + n = omega (arith, time, later, t.progress.time_is) in
    record {
      progress = skipped_progress x m n old.progress new.progress t.progress one passes left owed ends;
      marks = subst (TellsMarks next) (sym marks) (same_marks m next old.marks refl refl refl t.marks);
      each = record {
        joined = ap (λ (k : Marks). length k.joined.items) marks ∙ t.each.joined;
        present = ap (λ (k : Marks). length k.present.items) marks ∙ t.each.present;
        told = ap (λ (k : Marks). length k.told.items) marks ∙ t.each.told;
        owed = ap (λ v. length v.items) owed ∙ t.each.owed;
        ends = ap (λ v. length v.items) ends ∙ t.each.ends;
      };
      line = subst (TellsLine x next) (sym line) (skipped_line x m n old.line t.line);
      fits = subst (FitsTable x.table x.weights) (sym questions) t.fits;
      published = ap (λ q. q.published) questions ∙ t.published;
      recording = run_recorded x m n [] old.recording new.recording both t.recording;
    }

-- ---- a run

-- the line may be granted
pub line_is_distinct : (x : Input) (m : Moment) (old : Kept) → IsAt x m old → IsDistinct old.line.coflows.items
line_is_distinct x m old at = subst IsDistinct (sym at.tells.line.coflows_are) at.holds.distinct

pub line_is_known : (x : Input) (m : Moment) (old : Kept) → IsAt x m old → All (λ c. c < length x.table.ids) old.line.coflows.items
line_is_known x m old at =
    subst (All (λ c. c < length x.table.ids)) (sym at.tells.line.coflows_are)
    (all_of_members (λ c. c < length x.table.ids) m.line
    (λ c has. omega (arith, marked_below m.course.registered c (here_parts m c (at.holds.stands c has)).0, at.holds.registered)))

-- the grants after the run are those of the moment after it
pub ran_line : (x : Input) (m : Moment) (granted : List ℕ) (n : ℕ) (old between new : Line) → TellsLine x m old →
    between.coflows ≡ old.coflows → HasSameRoom old.grants between.grants →
    IsSettled x.table.flows m.line (left_after x.table.flows m.slots) between.grants → granted ≡ listed_in between.grants →
    new.coflows ≡ between.coflows → HasSameRoom between.grants new.grants →
    ((flows : List Flow) (line : List ℕ) (left lower : ℕ → ℕ) → IsSettled flows line left between.grants → IsRunLess left lower (listed_in between.grants) n →
    IsSettled flows line lower new.grants) → TellsLine x (served_at m n granted) new
ran_line x m granted n old between new t first room settled listed second later passes = record {
  coflows_are = ap (λ v. v.items) second ∙ ap (λ v. v.items) first ∙ t.coflows_are;
  ports = later.ports ∙ room.ports ∙ t.ports;
  room = omega (arith, later.room, room.room, t.room);
  settled = λ fresh. passes x.table.flows m.line (left_after x.table.flows m.slots) (left_after x.table.flows (m.slots ++ replicate n granted)) settled
      (subst (λ g. IsRunLess (left_after x.table.flows m.slots) (left_after x.table.flows (m.slots ++ replicate n granted)) g n) listed (run_less x m granted n));
}

pub ran_tells : (x : Input) (m : Moment) (granted : List ℕ) (n : ℕ) (old new : Kept) → IsAt x m old → TellsProgress x (served_at m n granted) new.progress →
    TellsLine x (served_at m n granted) new.line →
    length new.progress.owed.items ≡ length old.progress.owed.items → length new.progress.ends.items ≡ length old.progress.ends.items →
    new.marks ≡ old.marks → new.questions ≡ old.questions → BothRecorded old.recording new.recording (IsRunRecorded n granted) → Tells x (served_at m n granted) new
ran_tells x m granted n old new at progress line owed ends marks questions both =
    let t = at.tells in
    let next = served_at m n granted in
    record {
      progress = progress;
      marks = subst (TellsMarks next) (sym marks) (same_marks m next old.marks refl refl refl t.marks);
      each = record {
        joined = ap (λ (k : Marks). length k.joined.items) marks ∙ t.each.joined;
        present = ap (λ (k : Marks). length k.present.items) marks ∙ t.each.present;
        told = ap (λ (k : Marks). length k.told.items) marks ∙ t.each.told;
        owed = owed ∙ t.each.owed;
        ends = ends ∙ t.each.ends;
      };
      line = line;
      fits = subst (FitsTable x.table x.weights) (sym questions) t.fits;
      published = ap (λ q. q.published) questions ∙ t.published;
      recording = run_recorded x m n granted old.recording new.recording both t.recording;
    }

-- ---- before the first action

pub first_tells : (x : Input) (ranker : Meaning) (kept : Kept) → IsInput x → kept.progress.time ≡ 0 → kept.progress.left.items ≡ map (λ (f : Flow). f.units) x.table.flows →
    length kept.progress.owed.items ≡ length x.table.ids → IsTallied x.table.flows kept.progress.left.items kept.progress.owed.items →
    length kept.progress.ends.items ≡ length x.table.ids → All (λ end. end ≡ 0) kept.progress.ends.items →
    kept.marks.joined.items ≡ replicate (length x.table.ids) false → kept.marks.present.items ≡ replicate (length x.table.ids) false →
    kept.marks.told.items ≡ replicate (length x.table.ids) false → kept.line.coflows.items ≡ [] → kept.line.stale ≡ true → ports_of kept.line.grants ≡ x.table.ports →
    room_of kept.line.grants ≡ length x.table.flows → FitsTable x.table x.weights kept.questions → kept.questions.published ≡ 0 → kept.recording ≡ None →
    Tells x (first_moment x ranker) kept
first_tells x ranker kept input time left each_owed tallied each_end ends joined present told none stale ports room fits published nothing =
    let n = length x.table.ids in
    let as_long : replicate n false ≡ replicate (length x.arrivals) false = ap (λ k. replicate k false) (sym input.each_arrival) in
    record {
      progress = record {
        time_is = time;
        left_is = λ f. ap (λ (l : ℕ → ℕ). l f) (all_left x.table.flows kept.progress.left.items left);
        tallied = tallied;
        ends_are = λ c lt. ends c 0 (omega (arith, lt, each_end));
      };
      marks = record {
        joined_are = joined ∙ as_long;
        present_are = λ c. ap (λ l. is_marked l c) present ∙ none_marked n c ∙ sym (nobody_here x ranker c);
        told_are = told;
      };
      each = record {
        joined = ap (λ (l : List Bool). length l) joined ∙ length-replicate n false;
        present = ap (λ (l : List Bool). length l) present ∙ length-replicate n false;
        told = ap (λ (l : List Bool). length l) told ∙ length-replicate n false;
        owed = each_owed;
        ends = each_end;
      };
      line = record { coflows_are = none; ports = ports; room = omega (arith, room); settled = λ fresh. absurd (both_ways kept.line.stale fresh stale) };
      fits = fits;
      published = published;
      recording = subst (TellsRecording x (first_moment x ranker)) (sym nothing) tt;
    } where
      nobody_here : (x : Input) (ranker : Meaning) (c : ℕ) → is_here (first_moment x ranker) c ≡ false
      nobody_here x ranker c = ap (λ b. b && not (is_marked (replicate (length x.arrivals) false) c)) (none_marked (length x.arrivals) c)
