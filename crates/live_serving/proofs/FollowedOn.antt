-- What the clients carried out, with one round more.
use Rattle.std.proofs.Common.{◌≡◌, ℕ, ◌+◌, ◌≤◌, ◌==◌, Bool, true, false, List, [], ◌∷◌, ◌++◌, length, length-append, map}
use Rattle.std.proofs.Common.{refl, sym, ap, subst, ◌∙◌, arith, append-nil, Option, Some, None, true≢false}
use Rattle.std.specs.Prelude.{All, if◌then◌else◌}
use Rattle.std.proofs.lemmas.List.Elements.{All-append, All-cons, All-head, All-nil, All-tail, All-weaker}
use Rattle.journal.specs.declared.opening.Opening.{Opening}
use Rattle.workload.specs.declared.script.Round.{Round}
use Rattle.workload.specs.declared.script.ScriptLine.{ScriptLine}
use Rattle.client_session.specs.Levels.{AreRaised, IsRaised}
use Rattle.client_session.specs.Models.{SessionModel}
use Rattle.live_model.specs.Levels.{Levels}
use Rattle.live_rounds.specs.Acts.{Act, entries_in, HasActed}
use Rattle.live_rounds.specs.Parts.{lines_for}
use Rattle.live_rounds.specs.Rounds.{ArePlayed, IsPlayed, Played}
use Rattle.live_rounds.specs.Stops.{Ends, first_stop}
use Rattle.live_rounds.proofs.Acting.{acted_on}
use Rattle.live_rounds.specs.Told.{acts_of, IsRoundBetween}
use Rattle.live_rounds.proofs.ActsTold.{raised_acted, round_lies_between}
use Rattle.live_serving.specs.Followed.{AreFollowed, IsFollowed, told_from}
use Rattle.live_serving.proofs.LevelsOn.{acts_more, all_told, cut_high, cut_low, IsDoneBy, levels_on, Lies, lines_in_more, lines_told, numbered, still_between, told_in}

-- ---- one session

-- what is known of a session before, after and behind a round
pub record IsAround (levels : Levels) (n position version : ℕ) (s m w : SessionModel) : Type 0 where
  pub low : levels.position n ≤ s.position
  pub seen : levels.version n ≤ s.rank.seen
  pub high : m.position ≤ position
  pub newest : m.rank.seen ≤ version
  pub raised : IsRaised m w

pub ends_whole : (o : Opening) (lines : List ScriptLine) (s m : SessionModel) (p : Played) → p.stop ≡ None → IsPlayed o lines s m p →
    (map (λ (a : Act). a.line) p.acts ≡ lines) × (m.left + length (entries_in p.acts) ≡ s.left)
ends_whole o lines s m p none played = subst (Ends o lines s m p.acts) none played.ends

followed_on : (o : Opening) (levels : Levels) (rounds : List Round) (r : Round) (calls client position version : ℕ) (s m w : SessionModel) (told : List (ℕ × Act)) (p : Played) →
    IsFollowed levels rounds calls client s told → IsPlayed o (lines_for client r.lines) s m p → p.stop ≡ None → IsAround levels (length rounds) position version s m w →
    IsFollowed (levels_on levels (length rounds) position version) (rounds ++ r ∷ []) calls client w (told ++ told_in (length rounds) p.acts)
followed_on o levels rounds r calls client position version s m w told p h played going around =
    let n = length rounds in
    let acts = p.acts in
    let rest = around.raised.rest in
    let whole = ends_whole o (lines_for client r.lines) s m p going played in
    let on : HasActed s w acts = subst (HasActed s w) (append-nil acts) (acted_on s m w acts [] played.acted (raised_acted m w around.raised)) in
    let long : length (rounds ++ r ∷ []) ≡ n + 1 = length-append rounds (r ∷ []) in
    let own : w.own ≡ s.own ++ entries_in acts = ap (λ (x : SessionModel). x.own) rest ∙ played.acted.own in
    let left : w.left ≡ m.left = ap (λ (x : SessionModel). x.left) rest in
    let next = levels_on levels n position version in
    let between : IsRoundBetween next n s m = record {
      position = omega (arith, cut_low levels.position n position n (omega arith), around.low);
      version = omega (arith, cut_low levels.version n version n (omega arith), around.seen);
      end = omega (arith, cut_high levels.position n position (n + 1) (omega arith), around.high);
      newest = omega (arith, cut_high levels.version n version (n + 1) (omega arith), around.newest);
    } in
    record {
      first = h.first;
      new = h.new;
      acted = subst (HasActed h.first w) (sym (acts_more told n acts)) (acted_on h.first s w (acts_of told) acts h.acted on);
      number = ap (λ (x : SessionModel). x.number) rest ∙ played.acted.place.number ∙ h.number;
      calls_are = omega (arith, ap (λ l. length l) own, length-append s.own (entries_in acts), left, whole.1, h.calls_are);
      lines = lines_told told n acts ∙ (λ i. h.lines i ++ numbered n (whole.0 i)) ∙ sym (lines_in_more rounds r client);
      rounds_done = All-append (IsDoneBy (length (rounds ++ r ∷ []))) told (told_in n acts)
          (All-weaker (IsDoneBy n) (IsDoneBy (length (rounds ++ r ∷ []))) (λ x lt. omega (arith, lt, long)) told h.rounds_done)
          (all_told (IsDoneBy (length (rounds ++ r ∷ []))) n acts (λ i d lt. omega (arith, long)));
      between = All-append (Lies next) told (told_in n acts) (still_between levels n position version told h.rounds_done h.between)
          (all_told (Lies next) n acts (round_lies_between next n s m acts played.acted between));
    }

-- ---- all sessions

abbrev pub IsLow : Levels → ℕ → SessionModel → Type 0
IsLow levels n s = (levels.position n ≤ s.position) × (levels.version n ≤ s.rank.seen)

abbrev pub IsHigh : ℕ → ℕ → SessionModel → Type 0
IsHigh position version m = (m.position ≤ position) × (m.rank.seen ≤ version)

abbrev is_there : {T : Type 0} → Option T → Bool
is_there None = false
is_there (Some t) = true

none_head : {T : Type 0} (F : List (Option T) → Option T) → ((t : T) (ts : List (Option T)) → F (Some t ∷ ts) ≡ Some t) → ((ts : List (Option T)) → F (None ∷ ts) ≡ F ts) →
    (stop : Option T) (stops : List (Option T)) → F (stop ∷ stops) ≡ None → (stop ≡ None) × (F stops ≡ None)
none_head F some none None stops e = (refl, sym (none stops) ∙ e)
none_head F some none (Some t) stops e = absurd (true≢false (ap is_there (sym (some t stops) ∙ e)))

pub none_first : (p : Played) (ps : List Played) → first_stop (map (λ (q : Played). q.stop) (p ∷ ps)) ≡ None →
    (p.stop ≡ None) × (first_stop (map (λ (q : Played). q.stop) ps) ≡ None)
none_first p ps e = none_head first_stop (λ t ts. refl) (λ ts. refl) p.stop (map (λ (q : Played). q.stop) ps) e

-- what the client of a number did in the round, where clients count from this one
abbrev pub acts_from : ℕ → List Played → ℕ → List Act
acts_from client [] k = []
acts_from client (p ∷ ps) k = if client == k then p.acts else acts_from (client + 1) ps k

told_here : (more rest : List (ℕ × Act)) (acts : List Act) (n : ℕ) (t : List (ℕ × Act)) (mine : List Act) (b : Bool) → more ≡ rest ++ told_in n acts →
    (if b then t ++ told_in n mine else more) ≡ (if b then t else rest) ++ told_in n (if b then mine else acts)
told_here more rest acts n t mine true e = refl
told_here more rest acts n t mine false e = e

pub all_followed : (o : Opening) (levels : Levels) (rounds : List Round) (r : Round) (calls client position version : ℕ) (olds mids news : List SessionModel)
    (told : List (List (ℕ × Act))) (played : List Played) → AreFollowed levels rounds calls client olds told → ArePlayed o r.lines client olds mids played →
    first_stop (map (λ (p : Played). p.stop) played) ≡ None → AreRaised mids news → All (IsLow levels (length rounds)) olds → All (IsHigh position version) mids →
    (more : List (List (ℕ × Act))) × AreFollowed (levels_on levels (length rounds) position version) (rounds ++ r ∷ []) calls client news more
    × ((k : ℕ) → told_from client more k ≡ told_from client told k ++ told_in (length rounds) (acts_from client played k))
all_followed o levels rounds r calls client position version [] [] [] [] [] h each going raised low high = ([], tt, λ k. refl)
all_followed o levels rounds r calls client position version [] [] [] (t ∷ ts) played h each going raised low high = absurd h
all_followed o levels rounds r calls client position version [] [] [] [] (p ∷ ps) h each going raised low high = absurd each
all_followed o levels rounds r calls client position version [] [] (w ∷ ws) told played h each going raised low high = absurd raised
all_followed o levels rounds r calls client position version [] (m ∷ ms) news told played h each going raised low high = absurd each
all_followed o levels rounds r calls client position version (s ∷ ss) [] news told played h each going raised low high = absurd each
all_followed o levels rounds r calls client position version (s ∷ ss) (m ∷ ms) [] told played h each going raised low high = absurd raised
all_followed o levels rounds r calls client position version (s ∷ ss) (m ∷ ms) (w ∷ ws) [] played h each going raised low high = absurd h
all_followed o levels rounds r calls client position version (s ∷ ss) (m ∷ ms) (w ∷ ws) (t ∷ ts) [] h each going raised low high = absurd each
all_followed o levels rounds r calls client position version (s ∷ ss) (m ∷ ms) (w ∷ ws) (t ∷ ts) (p ∷ ps) h each going raised low high =
    let n = length rounds in
    let none = none_first p ps going in
    let l = All-head (IsLow levels n) s ss low in
    let k = All-head (IsHigh position version) m ms high in
    let more = all_followed o levels rounds r calls (client + 1) position version ss ms ws ts ps h.1 each.1 none.1 raised.1 (All-tail (IsLow levels n) s ss low)
    (All-tail (IsHigh position version) m ms high) in (
      (t ++ told_in n p.acts) ∷ more.0,
      (
        followed_on o levels rounds r calls client position version s m w t p h.0 each.0 none.0
            (record { low = l.0; seen = l.1; high = k.0; newest = k.1; raised = raised.0 }),
        more.1,
      ),
      λ j. told_here (told_from (client + 1) more.0 j) (told_from (client + 1) ts j) (acts_from (client + 1) ps j) n t p.acts (client == j) (more.2 j),
    )

-- versions that sessions had seen before the round they have seen behind it
abbrev pub HasSeen : ℕ → SessionModel → Type 0
HasSeen v s = v ≤ s.rank.seen

pub seen_on : (o : Opening) (lines : List ScriptLine) (client v : ℕ) (olds mids news : List SessionModel) (played : List Played) → ArePlayed o lines client olds mids played →
    AreRaised mids news → All (HasSeen v) olds → All (HasSeen v) news
seen_on o lines client v [] [] [] played each raised all = All-nil (HasSeen v)
seen_on o lines client v [] [] (w ∷ ws) played each raised all = absurd raised
seen_on o lines client v [] (m ∷ ms) news played each raised all = absurd each
seen_on o lines client v (s ∷ ss) [] news played each raised all = absurd each
seen_on o lines client v (s ∷ ss) (m ∷ ms) [] played each raised all = absurd raised
seen_on o lines client v (s ∷ ss) (m ∷ ms) (w ∷ ws) [] each raised all = absurd each
seen_on o lines client v (s ∷ ss) (m ∷ ms) (w ∷ ws) (p ∷ ps) each raised all =
    let first = All-head (HasSeen v) s ss all in
    All-cons (HasSeen v) w ws (omega (arith, first, each.0.acted.later.1, raised.0.version))
    (seen_on o lines (client + 1) v ss ms ws ps each.1 raised.1 (All-tail (HasSeen v) s ss all))
