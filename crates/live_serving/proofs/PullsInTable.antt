-- The coflows of the pulls of a round are in the table.
use Rattle.std.proofs.Common.{◌≡◌, ℕ, ◌+◌, ◌<◌, ◌==◌, Bool, true, false, true≢false, cond, List, [], ◌∷◌, length, map, filter, flat_map, refl, sym, subst, None}
use Rattle.std.specs.Prelude.{All}
use Rattle.std.proofs.lemmas.List.Elements.{All-append, All-cons, All-head, All-nil, All-tail}
use Rattle.journal.specs.declared.opening.Opening.{Opening}
use Rattle.journal.specs.Answer.{IsInRange}
use Rattle.workload.specs.declared.script.Asked.{Asked}
use Rattle.workload.specs.declared.script.Asked.TheVariants.{Publish, Pull, Register, Reweigh, Withdraw}
use Rattle.workload.specs.declared.script.ScriptLine.{ScriptLine}
use Rattle.client_session.specs.Models.{SessionModel}
use Rattle.live_model.specs.Script.{command_of, coflow_pulled, is_pull}
use Rattle.live_rounds.specs.declared.answer.PullDone.{PullDone}
use Rattle.live_rounds.specs.Acts.{Act, pull_done, pulls_in}
use Rattle.live_rounds.specs.Parts.{lines_for}
use Rattle.live_rounds.specs.Rounds.{ArePlayed, IsRoundDone, MayAsk, Played}
use Rattle.live_rounds.specs.Stops.{first_stop}
use Rattle.live_serving.proofs.FollowedOn.{ends_whole, none_first}

abbrev pub InTable : ℕ → PullDone → Type 0
InTable coflows p = p.coflow < coflows

coflow_in : (o : Opening) (asked : Asked) → is_pull asked ≡ true → IsInRange o (command_of asked) → coflow_pulled asked < length o.table.ids
coflow_in o (Pull c) is range = range
coflow_in o (Register c) is range = absurd (true≢false (sym is))
coflow_in o (Withdraw c) is range = absurd (true≢false (sym is))
coflow_in o Publish is range = absurd (true≢false (sym is))
coflow_in o (Reweigh c w) is range = absurd (true≢false (sym is))

acts_in : (o : Opening) (clients : ℕ) (acts : List Act) → All (MayAsk o clients) (map (λ (a : Act). a.line) acts) → All (InTable (length o.table.ids)) (pulls_in acts)
acts_in o clients [] all = All-nil (InTable (length o.table.ids))
acts_in o clients (a ∷ acts) all =
    go (is_pull a.line.asked) refl (acts_in o clients acts (All-tail (MayAsk o clients) a.line (map (λ (b : Act). b.line) acts) all))
  where
    rest : List Act
    rest = filter (λ (b : Act). is_pull b.line.asked) acts

    go : (b : Bool) → is_pull a.line.asked ≡ b → All (InTable (length o.table.ids)) (pulls_in acts) → All (InTable (length o.table.ids)) (map pull_done (cond b (a ∷ rest) rest))
    go true is more =
        let may = All-head (MayAsk o clients) a.line (map (λ (b : Act). b.line) acts) all in
        All-cons (InTable (length o.table.ids)) (pull_done a) (map pull_done rest) (coflow_in o a.line.asked is may.2) more
    go false is more = more

lines_may : (o : Opening) (clients client : ℕ) (lines : List ScriptLine) → All (MayAsk o clients) lines → All (MayAsk o clients) (lines_for client lines)
lines_may o clients client [] all = All-nil (MayAsk o clients)
lines_may o clients client (l ∷ ls) all = go (l.client == client) (lines_may o clients client ls (All-tail (MayAsk o clients) l ls all))
  where
    go : (b : Bool) → All (MayAsk o clients) (lines_for client ls) → All (MayAsk o clients) (cond b (l ∷ lines_for client ls) (lines_for client ls))
    go true more = All-cons (MayAsk o clients) l (lines_for client ls) (All-head (MayAsk o clients) l ls all) more
    go false more = more

played_in : (o : Opening) (clients client : ℕ) (lines : List ScriptLine) (olds mids : List SessionModel) (played : List Played) → All (MayAsk o clients) lines →
    ArePlayed o lines client olds mids played → first_stop (map (λ (p : Played). p.stop) played) ≡ None →
    All (InTable (length o.table.ids)) (flat_map (λ (p : Played). pulls_in p.acts) played)
played_in o clients client lines [] [] [] may each going = All-nil (InTable (length o.table.ids))
played_in o clients client lines [] [] (p ∷ ps) may each going = absurd each
played_in o clients client lines [] (m ∷ ms) played may each going = absurd each
played_in o clients client lines (s ∷ ss) [] played may each going = absurd each
played_in o clients client lines (s ∷ ss) (m ∷ ms) [] may each going = absurd each
played_in o clients client lines (s ∷ ss) (m ∷ ms) (p ∷ ps) may each going =
    let none = none_first p ps going in
    let whole = ends_whole o (lines_for client lines) s m p none.0 each.0 in
    All-append (InTable (length o.table.ids)) (pulls_in p.acts) (flat_map (λ (q : Played). pulls_in q.acts) ps)
    (acts_in o clients p.acts (subst (All (MayAsk o clients)) (sym whole.0) (lines_may o clients client lines may)))
    (played_in o clients (client + 1) lines ss ms ps may each.1 none.1)

pub round_in_table : (o : Opening) (clients : ℕ) (lines : List ScriptLine) (olds mids : List SessionModel) (pulls : List PullDone) → All (MayAsk o clients) lines →
    IsRoundDone o lines olds mids pulls → All (λ (p : PullDone). p.coflow < length o.table.ids) pulls
round_in_table o clients lines olds mids pulls may h =
    subst (All (InTable (length o.table.ids))) (sym h.pulls_are) (played_in o clients 1 lines olds mids h.played may h.each h.none_stopped)
