-- The pulls of one round more.
use Rattle.std.proofs.Common.{◌≡◌, ◌≢◌, ℕ, ◌+◌, ◌<◌, ◌==◌, ◌⊎◌, inl, inr, Bool, true, false, cond, List, [], ◌∷◌, ◌++◌, map, flat_map, filter}
use Rattle.std.proofs.Common.{refl, sym, ap, subst, ◌∙◌, arith, append-nil, None}
use Rattle.std.specs.Prelude.{All, if◌then◌else◌}
use Rattle.std.proofs.lemmas.Bool.{cases_lt, eq-eqb, eqb-true, ne_eqb}
use Rattle.std.proofs.lemmas.List.Elements.{All-cons, All-head, All-nil, All-tail, filter-append}
use Rattle.journal.specs.declared.opening.Opening.{Opening}
use Rattle.workload.specs.declared.script.ScriptLine.{ScriptLine}
use Rattle.client_session.specs.Models.{SessionModel}
use Rattle.live_model.specs.Script.{is_pull}
use Rattle.live_rounds.specs.declared.answer.PullDone.{PullDone}
use Rattle.live_rounds.specs.Acts.{Act, pull_done, pulls_in}
use Rattle.live_rounds.specs.Parts.{lines_for}
use Rattle.live_rounds.specs.Rounds.{ArePlayed, IsPlayed, Played}
use Rattle.live_rounds.specs.Stops.{first_stop}
use Rattle.live_rounds.proofs.Steps.{pulls_append}
use Rattle.live_rounds.specs.Told.{acts_of}
use Rattle.live_serving.specs.Followed.{pulls_for, told_from}
use Rattle.live_serving.proofs.LevelsOn.{acts_more, told_in}
use Rattle.live_serving.proofs.FollowedOn.{acts_from, ends_whole, none_first}

-- ---- the pulls of a round

cases_eq : (a b : ℕ) → (a ≡ b) ⊎ (a ≢ b)
cases_eq a b = elim (cases_lt a b) [
  | inl lt ↦ inr (λ e. omega (arith, e, lt))
  | inr le ↦ elim (cases_lt b a) [
    | inl lt ↦ inr (λ e. omega (arith, e, lt))
    | inr ge ↦ inl (omega (arith, le, ge))
  ]
]

abbrev IsOf : ℕ → Act → Type 0
IsOf client a = a.line.client ≡ client

lines_are_own : (client : ℕ) (lines : List ScriptLine) → All (λ (l : ScriptLine). l.client ≡ client) (lines_for client lines)
lines_are_own client [] = All-nil (λ (l : ScriptLine). l.client ≡ client)
lines_are_own client (l ∷ ls) = go (l.client == client) refl (lines_are_own client ls)
  where
    go : (b : Bool) → (l.client == client) ≡ b → All (λ (x : ScriptLine). x.client ≡ client) (lines_for client ls) →
        All (λ (x : ScriptLine). x.client ≡ client) (cond b (l ∷ lines_for client ls) (lines_for client ls))
    go true e h = All-cons (λ (x : ScriptLine). x.client ≡ client) l (lines_for client ls) (eqb-true l.client client e) h
    go false e h = h

acts_are_own : (client : ℕ) (acts : List Act) → All (λ (l : ScriptLine). l.client ≡ client) (map (λ (a : Act). a.line) acts) → All (IsOf client) acts
acts_are_own client [] h = All-nil (IsOf client)
acts_are_own client (a ∷ acts) h =
    let P = λ (l : ScriptLine). l.client ≡ client in
    let more = map (λ (b : Act). b.line) acts in
    All-cons (IsOf client) a acts (All-head P a.line more h) (acts_are_own client acts (All-tail P a.line more h))

-- the pulls of a client are those of its own lines alone
own_pulls : (client : ℕ) (acts : List Act) → All (IsOf client) acts → pulls_for client (pulls_in acts) ≡ pulls_in acts
own_pulls client [] all = refl
own_pulls client (a ∷ acts) all = go (is_pull a.line.asked) (own_pulls client acts (All-tail (IsOf client) a acts all))
  where
    rest : List Act
    rest = filter (λ (b : Act). is_pull b.line.asked) acts

    go : (b : Bool) → pulls_for client (pulls_in acts) ≡ pulls_in acts → pulls_for client (map pull_done (cond b (a ∷ rest) rest)) ≡ map pull_done (cond b (a ∷ rest) rest)
    go true e =
        ap (λ c. cond c (pull_done a ∷ pulls_for client (pulls_in acts)) (pulls_for client (pulls_in acts))) (eq-eqb a.line.client client (All-head (IsOf client) a acts all))
        ∙ ap (λ l. pull_done a ∷ l) e
    go false e = e

other_pulls : (client k : ℕ) (acts : List Act) → client ≢ k → All (IsOf client) acts → pulls_for k (pulls_in acts) ≡ []
other_pulls client k [] other all = refl
other_pulls client k (a ∷ acts) other all = go (is_pull a.line.asked) (other_pulls client k acts other (All-tail (IsOf client) a acts all))
  where
    rest : List Act
    rest = filter (λ (b : Act). is_pull b.line.asked) acts

    go : (b : Bool) → pulls_for k (pulls_in acts) ≡ [] → pulls_for k (map pull_done (cond b (a ∷ rest) rest)) ≡ []
    go true e =
        let mine = All-head (IsOf client) a acts all in
        ap (λ c. cond c (pull_done a ∷ pulls_for k (pulls_in acts)) (pulls_for k (pulls_in acts))) (ne_eqb a.line.client k (λ is. other (sym mine ∙ is))) ∙ e
    go false e = e

none_from : (client k : ℕ) (ps : List Played) → k < client → acts_from client ps k ≡ []
none_from client k [] lt = refl
none_from client k (p ∷ ps) lt =
    ap (λ b. if b then p.acts else acts_from (client + 1) ps k) (ne_eqb client k (λ e. omega (arith, e, lt))) ∙ none_from (client + 1) k ps (omega (arith, lt))

played_own : (o : Opening) (lines : List ScriptLine) (client : ℕ) (s m : SessionModel) (p : Played) → IsPlayed o (lines_for client lines) s m p → p.stop ≡ None →
    All (IsOf client) p.acts
played_own o lines client s m p played going =
    acts_are_own client p.acts (subst (All (λ (l : ScriptLine). l.client ≡ client)) (sym (ends_whole o (lines_for client lines) s m p going played).0)
    (lines_are_own client lines))

pub round_pulls : (o : Opening) (lines : List ScriptLine) (client k : ℕ) (olds mids : List SessionModel) (played : List Played) → ArePlayed o lines client olds mids played →
    first_stop (map (λ (p : Played). p.stop) played) ≡ None → pulls_for k (flat_map (λ (p : Played). pulls_in p.acts) played) ≡ pulls_in (acts_from client played k)
round_pulls o lines client k [] [] [] each going = refl
round_pulls o lines client k [] [] (p ∷ ps) each going = absurd each
round_pulls o lines client k [] (m ∷ ms) played each going = absurd each
round_pulls o lines client k (s ∷ ss) [] played each going = absurd each
round_pulls o lines client k (s ∷ ss) (m ∷ ms) [] each going = absurd each
round_pulls o lines client k (s ∷ ss) (m ∷ ms) (p ∷ ps) each going =
    let none = none_first p ps going in
    let own = played_own o lines client s m p each.0 none.0 in
    let rest = flat_map (λ (q : Played). pulls_in q.acts) ps in
    let again = round_pulls o lines (client + 1) k ss ms ps each.1 none.1 in
    filter-append (λ (x : PullDone). x.client == k) (pulls_in p.acts) rest ∙ elim (cases_eq client k) [
      | inl e ↦
          let mine : pulls_for k (pulls_in p.acts) ≡ pulls_in p.acts = subst (λ j. pulls_for j (pulls_in p.acts) ≡ pulls_in p.acts) e (own_pulls client p.acts own) in
          let last : pulls_for k rest ≡ [] = again ∙ ap pulls_in (none_from (client + 1) k ps (omega (arith, e))) in
          (λ i. mine i ++ last i) ∙ append-nil (pulls_in p.acts)
          ∙ ap (λ b. pulls_in (if b then p.acts else acts_from (client + 1) ps k)) (sym (eq-eqb client k e))
      | inr other ↦
          (λ i. other_pulls client k p.acts other own i ++ again i) ∙ ap (λ b. pulls_in (if b then p.acts else acts_from (client + 1) ps k)) (sym (ne_eqb client k other))
    ]

pub told_on : (told next : List (List (ℕ × Act))) (played : List Played) (pulls more : List PullDone) (n k : ℕ) → pulls_for k pulls ≡ pulls_in (acts_of (told_from 1 told k)) →
    told_from 1 next k ≡ told_from 1 told k ++ told_in n (acts_from 1 played k) → pulls_for k more ≡ pulls_in (acts_from 1 played k) →
    pulls_for k (pulls ++ more) ≡ pulls_in (acts_of (told_from 1 next k))
told_on told next played pulls more n k before goes here =
    let t = told_from 1 told k in
    let acts = acts_from 1 played k in
    filter-append (λ (x : PullDone). x.client == k) pulls more ∙ (λ i. before i ++ here i) ∙ sym (pulls_append (acts_of t) acts) ∙ ap pulls_in (sym (acts_more t n acts))
    ∙ ap (λ l. pulls_in (acts_of l)) (sym goes)
