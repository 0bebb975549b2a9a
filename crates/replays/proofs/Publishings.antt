-- What is kept after a publishing.
use Rattle.std.proofs.Common.{◌≡◌, ℕ, ◌+◌, ◌<◌, ◌≤◌, Option, None, Some, Bool, true, List, length, refl, sym, ap, subst, ◌∙◌}
use Rattle.std.specs.Prelude.{All, MatchOption, if◌then◌else◌, filter, not, ◌&&◌, slice_index}
use Rattle.coflow_units.specs.Flows.{coflow_of}
use Rattle.coflow_units.specs.Served.{left_after}
use Rattle.coflow_units.proofs.Lists.{filter_same}
use Rattle.class_rates.specs.Classes.{IsPermutation}
use Rattle.epochs.specs.Course.{is_marked}
use Rattle.flow_table.specs.Table.{TableFacts}
use Rattle.rankers.specs.FactsTold.{FactsTold, IsFacts, IsFactsOf, with_left}
use Rattle.rankers.specs.Meaning.{Meaning, answer_of}
use Rattle.rankers.specs.Scores.{IsFirstUnfit}
use Rattle.replays.specs.declared.kept.Kept.{Kept}
use Rattle.replays.specs.declared.line.Line.{Line}
use Rattle.replays.specs.declared.news.Marks.{Marks}
use Rattle.replays.specs.declared.questions.Questions.{Questions}
use Rattle.replays.specs.declared.recording.Recording.{Recording}
use Rattle.replays.specs.Kept.{FitsTable, Tells, TellsMarks}
use Rattle.replays.specs.Moments.{Input, IsAsked, IsPublished, Moment, asked_at, is_here, left_here, published_at}
use Rattle.replays.specs.Publishing.{told_moment}
use Rattle.replays.specs.Recording.{TellsRecording}
use Rattle.replays.proofs.Telling.{same_progress, stale_line}

pub same_marks : (m next : Moment) (marks : Marks) → next.course.registered ≡ m.course.registered → next.course.withdrawn ≡ m.course.withdrawn → next.told ≡ m.told →
    TellsMarks m marks → TellsMarks next marks
same_marks m next marks joined left told t = record {
  joined_are = t.joined_are ∙ sym joined;
  present_are = λ c. t.present_are c ∙ ap (λ l. is_marked l c && not (is_marked m.course.withdrawn c)) (sym joined) ∙
      ap (λ l. is_marked next.course.registered c && not (is_marked l c)) (sym left);
  told_are = t.told_are ∙ sym told;
}

-- what the ranker was asked of
pub asked_facts : (x : Input) (m : Moment) (table : TableFacts) (weights left : List ℕ) (present : List Bool) (facts : FactsTold) → x.table ≡ table → weights ≡ x.weights →
    IsFacts facts → ((f : ℕ) → slice_index left f ≡ left_after x.table.flows m.slots f) → ((c : ℕ) → is_marked present c ≡ is_here m c) →
    ((units : ℕ → ℕ) → ((f : ℕ) → f < length table.flows → units f ≡ (if is_marked present (coflow_of table.flows f) then slice_index left f else 0)) →
    IsFactsOf (with_left table units) weights facts) → IsAsked x m facts
asked_facts x m table weights left present facts same weights_are hold left_is present_are told = record {
  facts_hold = hold;
  facts_are = subst (λ w. IsFactsOf (with_left x.table (left_here x m)) w facts) weights_are
      (subst (λ t. IsFactsOf (with_left t (left_here x m)) weights facts) (sym same)
      (told (left_here x m) (λ f lt.
      ap {B = ℕ} (λ b. if b then left_after x.table.flows m.slots f else 0) (sym (present_are (coflow_of x.table.flows f))) ∙
      ap {B = ℕ} (λ n. if is_marked present (coflow_of x.table.flows f) then n else 0) (sym (left_is f)) ∙
      ap {B = ℕ} (λ (t : TableFacts). if is_marked present (coflow_of t.flows f) then slice_index left f else 0) same)));
}

-- the order is published
pub is_published : (x : Input) (m : Moment) (facts : FactsTold) (answer : List ℕ) (before : Meaning) → IsAsked x m facts → before ≡ asked_at x m →
    answer ≡ answer_of before facts → IsPermutation answer → length answer ≡ length x.table.ids → IsPublished x m (published_at x m facts)
is_published x m facts answer before asked is answers order each =
    let same : answer ≡ answer_of (asked_at x m) facts = answers ∙ ap (λ r. answer_of r facts) is in
    record {
      facts = facts;
      asked = asked;
      order = subst IsPermutation same order;
      each = ap (λ (l : List ℕ). length l) (sym same) ∙ each;
      next_is = refl;
    }

-- what is kept then
pub published_tells : (x : Input) (m : Moment) (facts : FactsTold) (mid : Kept) (line : Line) (q : Questions) (answer : List ℕ) (present : List Bool) (before : Meaning)
    (recording : Option Recording) →
    Tells x (told_moment x m) mid → before ≡ asked_at x m → answer ≡ answer_of before facts → present ≡ mid.marks.present.items →
    line.coflows.items ≡ filter (is_marked present) answer → line.stale ≡ true → line.grants ≡ mid.line.grants → FitsTable x.table x.weights q →
    q.published ≡ mid.questions.published + 1 → TellsRecording x (published_at x m facts) recording →
    Tells x (published_at x m facts) (record { progress = mid.progress; marks = mid.marks; line = line; questions = q; recording = recording })
published_tells x m facts mid line q answer present before recording t is answers lent lined stale grants fits count recorded =
    let next = published_at x m facts in
    record {
      progress = same_progress x (told_moment x m) next mid.progress refl t.progress;
      marks = same_marks (told_moment x m) next mid.marks refl refl refl t.marks;
      each = t.each;
      line = stale_line x (told_moment x m) next mid.line line t.line
          (lined ∙ ap (λ l. filter (is_marked l) answer) lent ∙ filter_same (is_marked mid.marks.present.items) (is_here m) answer (λ c has. t.marks.present_are c) ∙
          ap (filter (is_here m)) (answers ∙ ap (λ r. answer_of r facts) is))
          stale grants;
      fits = fits;
      published = count ∙ ap (λ n. n + 1) t.published;
      recording = recorded;
    }

-- ---- as the publishing meets them

-- room for questions, whatever the weights are called
pub fits_own : (t : TableFacts) (weights : List ℕ) (q : Questions) → FitsTable t weights q → FitsTable t q.facts.weights q
fits_own t weights q fits = subst (λ w. FitsTable t w q) (sym fits.weights_are) fits

-- and whatever was published
pub fits_again : (t : TableFacts) (weights : List ℕ) (q next : Questions) → FitsTable t weights q → next.facts ≡ q.facts → next.ordering ≡ q.ordering → next.everyone ≡ q.everyone →
    next.answer ≡ q.answer → FitsTable t weights next
fits_again t weights q next fits facts ordering everyone answer = record {
  count = fits.count;
  weights_are = ap (λ f. f.weights) facts ∙ fits.weights_are;
  arrivals_are = ap (λ f. f.arrivals) facts ∙ fits.arrivals_are;
  ports_are = ap (λ f. f.loads.ports) facts ∙ fits.ports_are;
  each_mark = ap (λ v. length v.items) everyone ∙ fits.each_mark;
  marked = subst (λ v. All (λ mark. mark ≡ true) v.items) (sym everyone) fits.marked;
  room = subst (λ o. length t.ids ≤ o.room) (sym ordering) fits.room;
  each_place = ap (λ v. length v.items) answer ∙ fits.each_place;
}

-- the same table
pub fits_there : (t u : TableFacts) (weights own : List ℕ) (q : Questions) → t ≡ u → own ≡ weights → FitsTable u own q → FitsTable t weights q
fits_there t u weights own q same is fits = subst (λ w. FitsTable t w q) is (subst (λ a. FitsTable a own q) (sym same) fits)

-- the first place that is unfit, or an order
pub unfit_at : (o : Option ℕ) (place n m : ℕ) (answer own : List ℕ) → MatchOption o (IsPermutation answer) (λ k. IsFirstUnfit n answer k) → o ≡ Some place → n ≡ m → answer ≡ own →
    IsFirstUnfit m own place
unfit_at o place n m answer own is some count same =
    let here : IsFirstUnfit n answer place = subst (λ r. MatchOption r (IsPermutation answer) (λ k. IsFirstUnfit n answer k)) some is in
    subst (λ k. IsFirstUnfit k own place) count (subst (λ a. IsFirstUnfit n a place) same here)

pub is_order : (o : Option ℕ) (n : ℕ) (answer : List ℕ) → MatchOption o (IsPermutation answer) (λ k. IsFirstUnfit n answer k) → ((k : ℕ) → o ≡ Some k → ⊥) → IsPermutation answer
is_order None n answer is none = is
is_order (Some k) n answer is none = absurd (none k refl)
