-- A client after some of its lines.
use Rattle.std.proofs.Common.{◌≡◌, ℕ, ◌+◌, ◌<◌, ◌≤◌, Bool, true, false, cond, List, [], ◌∷◌, ◌++◌, length, map, take, get_or, filter, vec_capacity, refl, sym, ap, subst, ◌∙◌}
use Rattle.std.proofs.Common.{arith}
use Rattle.std.proofs.Common.{Option, Some, None, Result, Ok, Err, option_to_list, true≢false, append-nil, length-append}
use Rattle.std.proofs.lemmas.List.{length-map, length-take, map-append, take_all, take_more}
use Rattle.std.proofs.lemmas.Grind.{flat_map-append}
use Rattle.std.proofs.lemmas.List.Elements.{filter-append}
use Rattle.journal.specs.declared.opening.Opening.{Opening}
use Rattle.workload.specs.declared.script.ScriptLine.{ScriptLine}
use Rattle.client_session.specs.Models.{HallModel, IsSessionOf, SessionModel}
use Rattle.live_model.specs.Script.{is_pull}
use Rattle.live_rounds.specs.declared.answer.PullDone.{PullDone}
use Rattle.live_rounds.specs.declared.answer.TurnStop.{TurnStop}
use Rattle.live_rounds.specs.declared.answer.TurnStop.TheVariants.{Full, Spent}
use Rattle.live_rounds.specs.declared.part.Part.{Part}
use Rattle.live_rounds.specs.Acts.{Act, act, entries_at, entries_in, HasActed, Outcome, pull_done, pulls_in, StaysPut}
use Rattle.live_rounds.specs.Lines.{ComesTo}
use Rattle.live_rounds.specs.Parts.{Keeps, Plays}
use Rattle.live_rounds.specs.Stops.{Ends, IsStoppedAt}
use Rattle.live_rounds.proofs.Acting.{acted_none, acted_on, stays}

-- so many lines are carried out
pub record PlaysSoFar (old new : SessionModel) (before now : Part) (count : ℕ) : Type 0 where
  pub acts : List Act
  pub acted : HasActed old new acts
  pub pulls : now.pulls.items ≡ pulls_in acts
  pub lines : now.lines ≡ before.lines
  pub done : map (λ (a : Act). a.line) acts ≡ take count before.lines.items
  pub left : new.left + length (entries_in acts) ≡ old.left
  pub going : now.stop ≡ None
  pub room : vec_capacity now.pulls ≡ vec_capacity before.pulls

pub stays_own : (hall : HallModel) (old new : SessionModel) → StaysPut old new → IsSessionOf hall old → IsSessionOf hall new
stays_own hall old new place h = (place.gate ∙ h.0, place.setting ∙ h.1, place.board ∙ h.2)

short_filter : (p : Act → Bool) (xs : List Act) → length (filter p xs) ≤ length xs
short_filter p [] = omega arith
short_filter p (x ∷ xs) = go (p x) (short_filter p xs)
  where
    go : (b : Bool) → length (filter p xs) ≤ length xs → length (cond b (x ∷ filter p xs) (filter p xs)) ≤ length (x ∷ xs)
    go true h = omega (arith, h)
    go false h = omega (arith, h)

pub few_pulls : (acts : List Act) → length (pulls_in acts) ≤ length acts
few_pulls acts = omega (arith, length-map (filter (λ (a : Act). is_pull a.line.asked) acts) pull_done, short_filter (λ (a : Act). is_pull a.line.asked) acts)

pub pulls_append : (xs ys : List Act) → pulls_in (xs ++ ys) ≡ pulls_in xs ++ pulls_in ys
pulls_append xs ys =
    ap (map pull_done) (filter-append (λ (a : Act). is_pull a.line.asked) xs ys)
    ∙ map-append pull_done (filter (λ (a : Act). is_pull a.line.asked) xs) (filter (λ (a : Act). is_pull a.line.asked) ys)

abbrev line_in : Act → ScriptLine
line_in a = a.line

-- as many lines are carried out as were counted
pub as_many : (acts : List Act) (lines : List ScriptLine) (count : ℕ) → map line_in acts ≡ take count lines → count ≤ length lines → length acts ≡ count
as_many acts lines count done le = omega (arith, length-map acts line_in, ap (λ l. length l) done, length-take count lines, le)

pub plays_none : (s : SessionModel) (p : Part) → p.pulls.items ≡ [] → p.stop ≡ None → PlaysSoFar s s p p 0
plays_none s p told going = record {
  acts = [];
  acted = acted_none s s (stays s) refl refl (omega arith) (omega arith);
  pulls = told;
  lines = refl;
  done = refl;
  left = omega arith;
  going = going;
  room = refl;
}

-- one line more
pub plays_on : (old mid new : SessionModel) (before now next : Part) (count : ℕ) (line : ScriptLine) (x : Outcome) (told : List PullDone) → PlaysSoFar old mid before now count →
    count < length before.lines.items → line ≡ get_or before.lines.items count line → HasActed mid new (act line x ∷ []) → told ≡ pulls_in (act line x ∷ []) →
    new.left + length (entries_at x) ≡ mid.left → next.pulls.items ≡ now.pulls.items ++ told → next.lines ≡ now.lines → next.stop ≡ now.stop →
    vec_capacity next.pulls ≡ vec_capacity now.pulls → PlaysSoFar old new before next (count + 1)
plays_on old mid new before now next count line x told h lt at acted told_is left pulls lines stop room =
    let a = act line x in record {
      acts = h.acts ++ a ∷ [];
      acted = acted_on old mid new h.acts (a ∷ []) h.acted acted;
      pulls = pulls ∙ (ap (λ l. l ++ told) h.pulls ∙ (ap (λ l. pulls_in h.acts ++ l) told_is ∙ sym (pulls_append h.acts (a ∷ []))));
      lines = lines ∙ h.lines;
      done = map-append line_in h.acts (a ∷ []) ∙ (ap (λ l. l ++ line ∷ []) h.done
          ∙ (ap (λ (y : ScriptLine). take count before.lines.items ++ y ∷ []) at ∙ sym (take_more before.lines.items count line lt)));
      left = omega (
        arith,
        h.left,
        left,
        length-append (entries_in h.acts) (entries_in (a ∷ [])),
        length-append (entries_at x) [],
        ap (λ l. length l) (flat_map-append (λ (b : Act). entries_at b.outcome) h.acts (a ∷ [])),
      );
      going = stop ∙ h.going;
      room = room ∙ h.room;
    }

-- there is room for one pull more
pub plays_in_room : (old new : SessionModel) (before now : Part) (count : ℕ) → PlaysSoFar old new before now count → count < length before.lines.items →
    length before.lines.items ≤ vec_capacity before.pulls → length now.pulls.items < vec_capacity now.pulls
plays_in_room old new before now count h lt room =
    omega (arith, lt, room, h.room, few_pulls h.acts, as_many h.acts before.lines.items count h.done (omega (arith, lt)), ap (λ l. length l) h.pulls)

-- all lines are carried out
pub plays_whole : (o : Opening) (old new : SessionModel) (before now : Part) → PlaysSoFar old new before now (length before.lines.items) → Plays o old new before now
plays_whole o old new before now h = record {
  acts = h.acts;
  acted = h.acted;
  pulls = h.pulls;
  ends = subst (Ends o before.lines.items old new h.acts) (sym h.going)
      (h.done ∙ take_all (length before.lines.items) before.lines.items (omega arith), h.left);
}

stopped_at : (o : Opening) (old mid new : SessionModel) (many : ℕ) (t : TurnStop) → mid.left + many ≡ old.left → IsStoppedAt o mid new 0 t → IsStoppedAt o old new many t
stopped_at o old mid new many (Full entries) e h = (omega (arith, e, h.0), h.1, h.2)
stopped_at o old mid new many Spent e h = (h.0, omega (arith, e, h.1))

-- the client stopped at the next line
pub plays_stopped : (o : Opening) (old mid new : SessionModel) (before now next : Part) (count : ℕ) (t : TurnStop) → PlaysSoFar old mid before now count → count < length
    before.lines.items →
    HasActed mid new [] → IsStoppedAt o mid new 0 t → next.pulls.items ≡ now.pulls.items → next.stop ≡ Some t → Plays o old new before next
plays_stopped o old mid new before now next count t h lt acted stop pulls is =
    let many = as_many h.acts before.lines.items count h.done (omega (arith, lt)) in record {
      acts = h.acts;
      acted = subst (HasActed old new) (append-nil h.acts) (acted_on old mid new h.acts [] h.acted acted);
      pulls = pulls ∙ h.pulls;
      ends = subst (Ends o before.lines.items old new h.acts) (sym is)
          (h.done ∙ ap (λ n. take n before.lines.items) (sym many), omega (arith, lt, many), stopped_at o old mid new (length (entries_in h.acts)) t h.left stop);
    }

-- ---- what a part keeps of a line

-- a line was carried out, and the part goes on
pub plays_next : (o : Opening) (old mid new : SessionModel) (before now next : Part) (count : ℕ) (line : ScriptLine) (a : Result (Option PullDone) TurnStop) → PlaysSoFar old
    mid before now count →
    count < length before.lines.items → line ≡ get_or before.lines.items count line → ComesTo o line mid new a → Keeps now next a true → PlaysSoFar old new before next (count + 1)
plays_next o old mid new before now next count line (Ok pull) h lt at comes keeps =
    plays_on old mid new before now next count line comes.0 (option_to_list pull) h lt at comes.1 comes.2 comes.3 keeps.2 keeps.1 keeps.4 keeps.3
plays_next o old mid new before now next count line (Err t) h lt at comes keeps = absurd (true≢false keeps.0)

-- the client stopped, and so does the part
pub plays_cut : (o : Opening) (old mid new : SessionModel) (before now next : Part) (count : ℕ) (line : ScriptLine) (a : Result (Option PullDone) TurnStop) → PlaysSoFar old
    mid before now count →
    count < length before.lines.items → ComesTo o line mid new a → Keeps now next a false → Plays o old new before next
plays_cut o old mid new before now next count line (Ok pull) h lt comes keeps = absurd (true≢false (sym keeps.0))
plays_cut o old mid new before now next count line (Err t) h lt comes keeps = plays_stopped o old mid new before now next count t h lt comes.0 comes.1 keeps.2 keeps.3

-- the session stays in its hall
pub comes_in_hall : (o : Opening) (hall : HallModel) (line : ScriptLine) (mid new : SessionModel) (a : Result (Option PullDone) TurnStop) → ComesTo o line mid new a →
    IsSessionOf hall mid → IsSessionOf hall new
comes_in_hall o hall line mid new (Ok pull) comes own = stays_own hall mid new comes.1.place own
comes_in_hall o hall line mid new (Err t) comes own = stays_own hall mid new comes.0.place own

-- no more lines are carried out than there are
pub few_acts : (o : Opening) (lines : List ScriptLine) (s m : SessionModel) (acts : List Act) (stop : Option TurnStop) → Ends o lines s m acts stop → length acts ≤ length lines
few_acts o lines s m acts None ends = omega (arith, length-map acts (λ (a : Act). a.line), ap (λ (l : List ScriptLine). length l) ends.0)
few_acts o lines s m acts (Some stop) ends = let lt = ends.1 in omega (arith, lt)
