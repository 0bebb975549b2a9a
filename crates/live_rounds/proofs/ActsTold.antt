-- From what lines came to, to deeds.
use Rattle.std.proofs.Common.{◌≡◌, ℕ, ◌+◌, ◌-◌, ◌<◌, ◌≤◌, true, false, true≢false, List, [], ◌∷◌, ◌++◌, map, take, drop, get_or, refl, sym, ap, subst, ◌∙◌}
use Rattle.std.proofs.Common.{arith, suc}
use Rattle.std.specs.Prelude.{All, AllPairs, Contains}
use Rattle.std.specs.Option.{IfSome, IsSome}
use Rattle.std.proofs.lemmas.List.{map-append, take-append-drop}
use Rattle.std.proofs.lemmas.List.Elements.{All-contains, All-cons, All-head, All-nil, All-tail}
use Rattle.std.proofs.lemmas.List.Kept.{AllPairs-cons}
use Rattle.live_rounds.proofs.Acting.{acted_none, over_less}
use Rattle.journal.specs.declared.command.Command.{Command}
use Rattle.journal.specs.declared.command.Entry.{Entry}
use Rattle.journal.specs.declared.opening.Opening.{Opening}
use Rattle.journal.specs.Journal.{version_of}
use Rattle.journal.proofs.Growth.{version_append}
use Rattle.rank_board.specs.declared.pulls.Pull.{Pull as Note}
use Rattle.workload.specs.declared.script.Asked.{Asked}
use Rattle.workload.specs.declared.script.Script.{Script}
use Rattle.client_session.specs.Closes.{HasEnded, IsTrueNote}
use Rattle.client_session.specs.Levels.{IsRaised}
use Rattle.client_session.specs.Models.{SessionModel}
use Rattle.client_session.specs.Own.{own_entries, OwnEntry}
use Rattle.live_model.specs.Script.{command_of, is_pull, lines_by}
use Rattle.live_model.specs.Deeds.{Deed, HasEntry, IsPull, version_after}
use Rattle.live_model.specs.Levels.{AreKept, IsBetween, IsSession, IsSteady, kept_at, Levels, RisesOver, version_before}
use Rattle.live_model.proofs.OwnStands.{own_have, own_rise_over}
use Rattle.live_rounds.specs.Acts.{Act, entered, entries_at, entries_in, FitsLine, HasActed, has_entry, IsOver, IsPullByTurn, noted, notes_at, notes_in, Outcome, StaysPut}
use Rattle.live_rounds.specs.Acts.{version_at}
use Rattle.live_rounds.specs.Told.{acts_of, deed_of, deeds_of, ForEntry, IsNew, IsRoundBetween, LiesBetween, lines_of, position_at}

-- ---- what holds of all entries, and of all noted pulls, line by line

abbrev OnNote : (Note → Type 0) → Outcome → Type 0
OnNote P (entered e) = Unit {0}
OnNote P (noted n) = P n

left_part : {X : Type 0} (P : X → Type 0) (xs ys : List X) → All P (xs ++ ys) → All P xs
left_part P [] ys all = All-nil P
left_part P (x ∷ xs) ys all = All-cons P x xs (All-head P x (xs ++ ys) all) (left_part P xs ys (All-tail P x (xs ++ ys) all))

right_part : {X : Type 0} (P : X → Type 0) (xs ys : List X) → All P (xs ++ ys) → All P ys
right_part P [] ys all = all
right_part P (x ∷ xs) ys all = right_part P xs ys (All-tail P x (xs ++ ys) all)

one_entry : (P : OwnEntry → Type 0) (x : Outcome) → All P (entries_at x) → ForEntry P x
one_entry P (entered e) all = All-head P e [] all
one_entry P (noted n) all = tt

one_note : (P : Note → Type 0) (x : Outcome) → All P (notes_at x) → OnNote P x
one_note P (entered e) all = tt
one_note P (noted n) all = All-head P n [] all

each_entry : (P : OwnEntry → Type 0) (acts : List Act) → All P (entries_in acts) → All (λ (a : Act). ForEntry P a.outcome) acts
each_entry P [] all = All-nil (λ (a : Act). ForEntry P a.outcome)
each_entry P (a ∷ acts) all =
    All-cons (λ (a : Act). ForEntry P a.outcome) a acts (one_entry P a.outcome (left_part P (entries_at a.outcome) (entries_in acts) all))
    (each_entry P acts (right_part P (entries_at a.outcome) (entries_in acts) all))

each_note : (P : Note → Type 0) (acts : List Act) → All P (notes_in acts) → All (λ (a : Act). OnNote P a.outcome) acts
each_note P [] all = All-nil (λ (a : Act). OnNote P a.outcome)
each_note P (a ∷ acts) all =
    All-cons (λ (a : Act). OnNote P a.outcome) a acts (one_note P a.outcome (left_part P (notes_at a.outcome) (notes_in acts) all))
    (each_note P acts (right_part P (notes_at a.outcome) (notes_in acts) all))

-- ---- the journal

abbrev IsNewest : List Entry → OwnEntry → Type 0
IsNewest journal e = e.version ≡ version_after journal e.position

known_version : (journal : List Entry) (p : ℕ) → version_after journal p ≤ version_of journal
known_version journal p = omega (arith, ap version_of (take-append-drop p journal), version_append (take p journal) (drop p journal))

known_outcome : (o : Opening) (journal : List Entry) (own : List OwnEntry) (x : Outcome) → ForEntry (IsNewest journal) x → OnNote (IsTrueNote o journal own) x → version_at x ≤
    version_of journal
known_outcome o journal own (entered e) is note = omega (arith, is, known_version journal e.position)
known_outcome o journal own (noted n) is note = note.version

-- a version that is no later than the line was made before its entry
over_before : (journal : List Entry) (v : ℕ) (x : Outcome) → ForEntry (RisesOver journal) x → IsOver v x → IfSome (position_at x) (λ p. v ≤ version_before journal p)
over_before journal v (entered e) rises over = omega (arith, rises, over)
over_before journal v (noted n) rises over = tt

over_at : (v : ℕ) (x : Outcome) → IsOver v x → v ≤ version_at x
over_at v (entered e) over = omega (arith, over)
over_at v (noted n) over = over

by_turn : (x : Outcome) → IsSome (position_at x) → has_entry x ≡ true
by_turn (entered e) some = refl
by_turn (noted n) some = absurd (true≢false (sym some))

-- ---- deeds

kept_one : (asked : Asked) (x : Outcome) → FitsLine asked x →
    map (λ (e : OwnEntry). (e.position, e.version, e.command)) (entries_at x) ≡ kept_at (position_at x) (version_at x) (command_of asked)
kept_one asked (entered e) fits = ap (λ (k : Command). (e.position, e.version, k) ∷ []) fits.0
kept_one asked (noted n) fits = refl

abbrev Fits : Act → Type 0
Fits a = FitsLine a.line.asked a.outcome

kept_all : (told : List (ℕ × Act)) → All Fits (acts_of told) → AreKept (entries_in (acts_of told)) (deeds_of told)
kept_all [] all = refl
kept_all (x ∷ told) all =
    let f : OwnEntry → ℕ × ℕ × Command = λ e. (e.position, e.version, e.command) in
    map-append f (entries_at x.1.outcome) (entries_in (acts_of told))
    ∙ (λ i. kept_one x.1.line.asked x.1.outcome (All-head Fits x.1 (acts_of told) all) i ++ kept_all told (All-tail Fits x.1 (acts_of told) all) i)

has_command : (asked : Asked) (x : Outcome) → FitsLine asked x → is_pull asked ≡ false → IsSome (position_at x)
has_command asked (entered e) fits none = refl
has_command asked (noted n) fits none = absurd (true≢false (sym (ap is_pull fits) ∙ none))

-- what holds of the outcomes holds of the deeds
from_acts : (P : Act → Type 0) (Q : Deed → Type 0) → ((n : ℕ) (a : Act) → P a → Q (deed_of n a)) → (told : List (ℕ × Act)) → All P (acts_of told) → All Q (deeds_of told)
from_acts P Q f [] all = All-nil Q
from_acts P Q f (x ∷ told) all = All-cons Q (deed_of x.0 x.1) (deeds_of told) (f x.0 x.1 (All-head P x.1 (acts_of told) all))
    (from_acts P Q f told (All-tail P x.1 (acts_of told) all))

no_pairs : {X : Type 0} (R : X → X → Type 0) → AllPairs R []
no_pairs R i j d lt lj = absurd (omega (arith, lj))

pairs_from_acts : (P : Act → Type 0) (R : Act → Act → Type 0) (Q : Deed → Deed → Type 0) →
    ((n m : ℕ) (a b : Act) → P b → R a b → Q (deed_of n a) (deed_of m b)) → (told : List (ℕ × Act)) → All P (acts_of told) → AllPairs R (acts_of told) → AllPairs Q (deeds_of told)
pairs_from_acts P R Q f [] all pairs = no_pairs Q
pairs_from_acts P R Q f (x ∷ told) all pairs =
    let tail = All-tail P x.1 (acts_of told) all in
    AllPairs-cons Q (deed_of x.0 x.1) (deeds_of told)
    (from_acts (λ b. P b × R x.1 b) (Q (deed_of x.0 x.1)) (λ m b h. f x.0 m x.1 b h.0 h.1) told (λ k d lt. (tail k d lt, pairs 0 (suc k) d (omega arith) (omega (arith, lt)))))
    (pairs_from_acts P R Q f told tail (λ i j d lt lj. pairs (suc i) (suc j) d (omega (arith, lt)) (omega (arith, lj))))

-- ---- a session that was new

abbrev Follows : Act → Act → Type 0
Follows a b = IsOver (version_at a.outcome) b.outcome × (IsPullByTurn b → version_at a.outcome + 2 ≤ version_at b.outcome)

steady_pair : (journal : List Entry) (n m : ℕ) (a b : Act) → ForEntry (RisesOver journal) b.outcome → Follows a b → IsSteady journal (deed_of n a) (deed_of m b)
steady_pair journal n m a b rises follows = record {
  never_fall = over_at (version_at a.outcome) b.outcome follows.0;
  made = over_before journal (version_at a.outcome) b.outcome rises follows.0;
  moved = λ pull some. follows.1 (pull, by_turn b.outcome some);
}

same_lines : (told : List (ℕ × Act)) → map (λ (d : Deed). (d.round, d.line)) (deeds_of told) ≡ lines_of told
same_lines [] = refl
same_lines (x ∷ told) = ap (λ l. (x.0, x.1.line) ∷ l) (same_lines told)

pub session_carries_out : (o : Opening) (journal : List Entry) (script : Script) (fresh last : SessionModel) (told : List (ℕ × Act)) → IsNew fresh → HasActed fresh last
    (acts_of told) →
    HasEnded o journal last → lines_of told ≡ lines_by script last.number → IsSession script journal last.number last.own (deeds_of told)
session_carries_out o journal script fresh last told new h ended asks =
    let acts = acts_of told in
    let own : last.own ≡ entries_in acts = h.own ∙ ap (λ l. l ++ entries_in acts) new.own in
    let notes : last.rank.pulls ≡ notes_in acts = h.notes ∙ ap (λ l. l ++ notes_in acts) new.notes in
    let is : entries_in acts ≡ own_entries last.number journal = sym own ∙ ended.own in
    let rises = each_entry (RisesOver journal) acts (subst (All (RisesOver journal)) (sym is) (own_rise_over journal last.number)) in
    let newest = each_entry (IsNewest journal) acts (subst (All (IsNewest journal)) (sym is) (own_have journal last.number).versions) in
    let true_notes = each_note (IsTrueNote o journal last.own) acts (subst (All (IsTrueNote o journal last.own)) notes ended.notes) in
    record {
      lines = same_lines told ∙ asks;
      entries = ended.own;
      kept = subst (λ l. AreKept l (deeds_of told)) (sym own) (kept_all told h.fits);
      commands = from_acts Fits (λ d. is_pull d.line.asked ≡ false → HasEntry d) (λ n a fits none. has_command a.line.asked a.outcome fits none) told h.fits;
      known = from_acts (λ a. ForEntry (IsNewest journal) a.outcome × OnNote (IsTrueNote o journal last.own) a.outcome) (λ d. d.version ≤ version_of journal)
          (λ n a k. known_outcome o journal last.own a.outcome k.0 k.1) told (λ i d lt. (newest i d lt, true_notes i d lt));
      first = from_acts (λ a. IsPullByTurn a → fresh.rank.seen + 2 ≤ version_at a.outcome) (λ d. IsPull d → HasEntry d → 2 ≤ d.version)
          (λ n a moved pull some. omega (arith, moved (pull, by_turn a.outcome some))) told h.moved;
      steady = pairs_from_acts (λ b. ForEntry (RisesOver journal) b.outcome) Follows (IsSteady journal) (λ n m a b. steady_pair journal n m a b) told rises
          (λ i j d lt lj. (h.steady i j d lt lj, h.moved_on i j d lt lj));
    }

-- ---- rounds and levels

-- a levelling carries out no line
pub raised_acted : (old new : SessionModel) → IsRaised old new → HasActed old new []
raised_acted old new h =
    let place : StaysPut old new = record {
      gate = ap (λ (s : SessionModel). s.gate) h.rest;
      setting = ap (λ (s : SessionModel). s.setting) h.rest;
      number = ap (λ (s : SessionModel). s.number) h.rest;
      board = ap (λ (s : SessionModel). s.rank.table) h.rest;
    } in
    acted_none old new place (ap (λ (s : SessionModel). s.own) h.rest) (ap (λ (s : SessionModel). s.rank.pulls) h.rest) h.position h.version

abbrev Between : ℕ → ℕ → OwnEntry → Type 0
Between low high e = (low < e.position) × (e.position ≤ high)

wider : (low high l h : ℕ) (x : Outcome) → l ≤ low → high ≤ h → ForEntry (Between low high) x → ForEntry (Between l h) x
wider low high l h (entered e) le le' w = (omega (arith, le, w.0), omega (arith, le', w.1))
wider low high l h (noted n) le le' w = tt

pub round_lies_between : (levels : Levels) (round : ℕ) (old new : SessionModel) (acts : List Act) → HasActed old new acts → IsRoundBetween levels round old new →
    All (LiesBetween levels round) acts
round_lies_between levels round old new acts h lies =
    let low = lies.version in
    let high = lies.newest in
    let stands = each_entry (Between old.position new.position) acts h.positions in
    λ i a lt.
    let x = get_or acts i a in
    let v = h.versions i a lt in record {
      position = wider old.position new.position (levels.position round) (levels.position (round + 1)) x.outcome lies.position lies.end (stands i a lt);
      over = over_less (levels.version round) old.rank.seen x.outcome low v.0;
      moved = λ by. omega (arith, low, h.moved i a lt by);
      within = omega (arith, v.1, high);
    }

stands_above : (low high : ℕ) (x : Outcome) → ForEntry (Between low high) x → IfSome (position_at x) (λ p. low < p)
stands_above low high (entered e) h = h.0
stands_above low high (noted k) h = tt

stands_within : (low high : ℕ) (x : Outcome) → ForEntry (Between low high) x → IfSome (position_at x) (λ p. p ≤ high)
stands_within low high (entered e) h = h.1
stands_within low high (noted k) h = tt

between_levels : (journal : List Entry) (levels : Levels) (round : ℕ) (a : Act) → ForEntry (RisesOver journal) a.outcome → LiesBetween levels round a →
    IsBetween journal levels (deed_of round a)
between_levels journal levels round a rises h =
    let x = a.outcome in record {
      above = stands_above (levels.position round) (levels.position (round + 1)) x h.position;
      within = stands_within (levels.position round) (levels.position (round + 1)) x h.position;
      seen = λ pull. over_at (levels.version round) x h.over;
      shown = h.within;
      made = over_before journal (levels.version round) x rises h.over;
      moved = λ pull some. h.moved (pull, by_turn x some);
    }

all_between : (journal : List Entry) (levels : Levels) (told : List (ℕ × Act)) → All (λ (a : Act). ForEntry (RisesOver journal) a.outcome) (acts_of told) →
    All (λ (x : ℕ × Act). LiesBetween levels x.0 x.1) told → All (IsBetween journal levels) (deeds_of told)
all_between journal levels [] rises lie = All-nil (IsBetween journal levels)
all_between journal levels (x ∷ told) rises lie =
    let P = λ (a : Act). ForEntry (RisesOver journal) a.outcome in
    let Q = λ (x : ℕ × Act). LiesBetween levels x.0 x.1 in
    All-cons (IsBetween journal levels) (deed_of x.0 x.1) (deeds_of told) (between_levels journal levels x.0 x.1 (All-head P x.1 (acts_of told) rises) (All-head Q x told lie))
    (all_between journal levels told (All-tail P x.1 (acts_of told) rises) (All-tail Q x told lie))

pub lines_lie_between : (o : Opening) (journal : List Entry) (levels : Levels) (last : SessionModel) (told : List (ℕ × Act)) → HasEnded o journal last →
    All (Contains last.own) (entries_in (acts_of told)) → All (λ (x : ℕ × Act). LiesBetween levels x.0 x.1) told → All (IsBetween journal levels) (deeds_of told)
lines_lie_between o journal levels last told ended among lie =
    let all = subst (All (RisesOver journal)) (sym ended.own) (own_rise_over journal last.number) in
    let entries = entries_in (acts_of told) in
    let rises = each_entry (RisesOver journal) (acts_of told) (λ i e lt. All-contains (RisesOver journal) last.own (get_or entries i e) all (among i e lt)) in
    all_between journal levels told rises lie
