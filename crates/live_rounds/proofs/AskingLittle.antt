-- How much the clients of a round ask, and what those met that stopped.
use Rattle.std.proofs.Common.{◌≡◌, ℕ, ◌+◌, ◌<◌, ◌≤◌, inl, inr, Bool, true, false, true≢false, List, [], ◌∷◌, ◌++◌, length, length-append, map}
use Rattle.std.proofs.Common.{refl, sym, ap, subst, arith, suc, Option, Some, None}
use Rattle.std.proofs.lemmas.Option.{none-some, same_Some}
use Rattle.journal.specs.declared.opening.Opening.{Opening}
use Rattle.workload.specs.declared.script.ScriptLine.{ScriptLine}
use Rattle.client_session.specs.Models.{SessionModel}
use Rattle.client_session.specs.Own.{OwnEntry}
use Rattle.live_rounds.specs.declared.answer.PullDone.{PullDone}
use Rattle.live_rounds.specs.declared.answer.RoundStop.{RoundStop}
use Rattle.live_rounds.specs.declared.answer.RoundStop.TheVariants as round
use Rattle.live_rounds.specs.declared.answer.TurnStop.{TurnStop}
use Rattle.live_rounds.specs.declared.answer.TurnStop.TheVariants.{Full, Spent}
use Rattle.live_rounds.specs.Acts.{Act, entries_at, entries_in, Outcome, entered, noted}
use Rattle.live_rounds.specs.Asking.{AddFew, AddsFew, LackCalls, MetFull}
use Rattle.live_rounds.specs.Parts.{lines_for}
use Rattle.live_rounds.specs.Rounds.{ArePlayed, IsCutShort, IsPlayed, IsRoundDone, Played}
use Rattle.live_rounds.specs.Stops.{Ends, first_stop, stop_for}
use Rattle.live_rounds.proofs.Steps.{few_acts}

at_most_one : (x : Outcome) → length (entries_at x) ≤ 1
at_most_one (entered e) = omega arith
at_most_one (noted n) = omega arith

-- each line has at most one entry
pub few_entries : (acts : List Act) → length (entries_in acts) ≤ length acts
few_entries [] = omega arith
few_entries (a ∷ acts) = omega (arith, at_most_one a.outcome, few_entries acts, length-append (entries_at a.outcome) (entries_in acts))

one_few : (o : Opening) (lines : List ScriptLine) (s m : SessionModel) (p : Played) → IsPlayed o lines s m p → AddsFew lines s m
one_few o lines s m p h = record {
  number = h.acted.place.number;
  own = omega (
    arith,
    ap (λ (l : List OwnEntry). length l) h.acted.own,
    length-append s.own (entries_in p.acts),
    few_entries p.acts,
    few_acts o lines s m p.acts p.stop h.ends,
  );
}

all_few : (o : Opening) (lines : List ScriptLine) (client : ℕ) (olds news : List SessionModel) (played : List Played) → ArePlayed o lines client olds news played →
    AddFew lines client olds news
all_few o lines client [] [] played each = tt
all_few o lines client [] (m ∷ ms) played each = absurd each
all_few o lines client (s ∷ ss) [] played each = absurd each
all_few o lines client (s ∷ ss) (m ∷ ms) [] each = absurd each
all_few o lines client (s ∷ ss) (m ∷ ms) (p ∷ ps) each = (one_few o (lines_for client lines) s m p each.0, all_few o lines (client + 1) ss ms ps each.1)

pub done_few : (o : Opening) (lines : List ScriptLine) (olds news : List SessionModel) (pulls : List PullDone) → IsRoundDone o lines olds news pulls → AddFew lines 1 olds news
done_few o lines olds news pulls h = all_few o lines 1 olds news h.played h.each

pub cut_few : (o : Opening) (lines : List ScriptLine) (olds news : List SessionModel) (stop : RoundStop) → IsCutShort o lines olds news stop → AddFew lines 1 olds news
cut_few o lines olds news stop h = all_few o lines 1 olds news h.played h.each

abbrev is_full : RoundStop → Bool
is_full (round.Full entries) = true
is_full stop = false

-- what the first one met that stopped
abbrev Met : Opening → List ScriptLine → ℕ → List SessionModel → List SessionModel → TurnStop → Type 0
Met o lines client olds news (Full entries) = MetFull o news
Met o lines client olds news Spent = LackCalls lines client olds

met_here : (o : Opening) (lines : List ScriptLine) (client : ℕ) (s m : SessionModel) (ss ms : List SessionModel) (acts : List Act) (stop : TurnStop) →
    Ends o (lines_for client lines) s m acts (Some stop) → Met o lines client (s ∷ ss) (m ∷ ms) stop
met_here o lines client s m ss ms acts (Full entries) ends =
    let at = ends.2 in
    (0, m, omega arith, refl, omega (arith, at.1, at.2))
met_here o lines client s m ss ms acts Spent ends =
    let at = ends.2 in
    let lt = ends.1 in
    inl (omega (arith, lt, at.1, few_entries acts))

met_later : (o : Opening) (lines : List ScriptLine) (client : ℕ) (s m : SessionModel) (ss ms : List SessionModel) (stop : TurnStop) → Met o lines (client + 1) ss ms stop →
    Met o lines client (s ∷ ss) (m ∷ ms) stop
met_later o lines client s m ss ms (Full entries) met = let (k, x, lt, at, full) = met in (suc k, x, omega (arith, lt), at, full)
met_later o lines client s m ss ms Spent met = inr met

first_met : (o : Opening) (lines : List ScriptLine) (client : ℕ) (olds news : List SessionModel) (played : List Played) (by : TurnStop) →
    ArePlayed o lines client olds news played →
    first_stop (map (λ (p : Played). p.stop) played) ≡ Some by → Met o lines client olds news by
first_met o lines client [] [] [] by each first = absurd (none-some by first)
first_met o lines client [] [] (p ∷ ps) by each first = absurd each
first_met o lines client [] (m ∷ ms) played by each first = absurd each
first_met o lines client (s ∷ ss) [] played by each first = absurd each
first_met o lines client (s ∷ ss) (m ∷ ms) [] by each first = absurd each
first_met o lines client (s ∷ ss) (m ∷ ms) (p ∷ ps) by each first = go p.stop (λ k. first_met o lines (client + 1) ss ms ps by each.1 k) first each.0.ends
  where
    rest : List (Option TurnStop)
    rest = map (λ (q : Played). q.stop) ps

    go : (stop : Option TurnStop) → (first_stop rest ≡ Some by → Met o lines (client + 1) ss ms by) →
        first_stop (stop ∷ rest) ≡ Some by → Ends o (lines_for client lines) s m p.acts stop →
        Met o lines client (s ∷ ss) (m ∷ ms) by
    go None more first ends = met_later o lines client s m ss ms by (more first)
    go (Some stop) more first ends = subst (Met o lines client (s ∷ ss) (m ∷ ms)) (same_Some stop by first) (met_here o lines client s m ss ms p.acts stop ends)

pub full_met : (o : Opening) (lines : List ScriptLine) (olds news : List SessionModel) (entries : ℕ) → IsCutShort o lines olds news (round.Full entries) → MetFull o news
full_met o lines olds news entries h = go h.by h.stop_is (first_met o lines 1 olds news h.played h.by h.each h.first)
  where
    go : (by : TurnStop) → round.Full entries ≡ stop_for by → Met o lines 1 olds news by → MetFull o news
    go (Full n) is met = met
    go Spent is met = absurd (true≢false (ap is_full is))

pub spent_lacks : (o : Opening) (lines : List ScriptLine) (olds news : List SessionModel) → IsCutShort o lines olds news round.Spent → LackCalls lines 1 olds
spent_lacks o lines olds news h = go h.by h.stop_is (first_met o lines 1 olds news h.played h.by h.each h.first)
  where
    go : (by : TurnStop) → round.Spent ≡ stop_for by → Met o lines 1 olds news by → LackCalls lines 1 olds
    go (Full n) is met = absurd (true≢false (sym (ap is_full is)))
    go Spent is met = met
