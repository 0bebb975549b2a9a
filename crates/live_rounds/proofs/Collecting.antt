-- What the parts of a round come to together.
use Rattle.std.proofs.Common.{◌≡◌, List, [], ◌∷◌, ◌++◌, length, refl, sym, ap, subst, ◌∙◌, suc}
use Rattle.std.proofs.Common.{Option, Some, None, Result, Ok, Err, IfOk, append-nil, Vec}
use Rattle.std.specs.declared.alloc.Global.{Global}
use Rattle.std.proofs.lemmas.Grind.{flat_map-append}
use Rattle.std.proofs.lemmas.List.{map-append}
use Rattle.std.proofs.lemmas.Option.{none-some}
use Rattle.journal.specs.declared.opening.Opening.{Opening}
use Rattle.workload.specs.declared.script.ScriptLine.{ScriptLine}
use Rattle.std.specs.Prelude.{All}
use Rattle.std.proofs.lemmas.List.Elements.{All-cons, All-head, All-tail}
use Rattle.client_session.specs.Models.{HallModel, IsSessionOf, SessionModel}
use Rattle.live_rounds.specs.declared.answer.PullDone.{PullDone}
use Rattle.live_rounds.specs.declared.answer.RoundStop.{RoundStop}
use Rattle.live_rounds.specs.declared.answer.TurnStop.{TurnStop}
use Rattle.live_rounds.specs.declared.answer.TurnStop.TheVariants.{Full, Spent}
use Rattle.live_rounds.specs.declared.part.Part.{Part}
use Rattle.live_rounds.specs.Parts.{Collects, Each, Plays, pulls_together, stops_of}
use Rattle.live_rounds.specs.Rounds.{IsCutShort, IsRoundDone, IsRoundStopped}
use Rattle.live_rounds.specs.Stops.{first_stop, stop_for}
use Rattle.live_rounds.proofs.PartsBuilt.{Built}
use Rattle.live_rounds.proofs.Steps.{stays_own}

pub as_long : {A B : Type 0} (R : A → A → B → B → Type 0) (xs ys : List A) (zs ws : List B) → Each R xs ys zs ws → length ws ≡ length zs
as_long R [] [] [] [] h = refl
as_long R (x ∷ xs) (y ∷ ys) (z ∷ zs) (w ∷ ws) h = ap suc (as_long R xs ys zs ws h.1)
as_long R [] (y ∷ ys) zs ws h = absurd h
as_long R [] [] (z ∷ zs) ws h = absurd h
as_long R [] [] [] (w ∷ ws) h = absurd h
as_long R (x ∷ xs) [] zs ws h = absurd h
as_long R (x ∷ xs) (y ∷ ys) [] ws h = absurd h
as_long R (x ∷ xs) (y ∷ ys) (z ∷ zs) [] h = absurd h

pub as_many_sessions : {A B : Type 0} (R : A → A → B → B → Type 0) (xs ys : List A) (zs ws : List B) → Each R xs ys zs ws → length ys ≡ length xs
as_many_sessions R [] [] [] [] h = refl
as_many_sessions R (x ∷ xs) (y ∷ ys) (z ∷ zs) (w ∷ ws) h = ap suc (as_many_sessions R xs ys zs ws h.1)
as_many_sessions R [] (y ∷ ys) zs ws h = absurd h
as_many_sessions R [] [] (z ∷ zs) ws h = absurd h
as_many_sessions R [] [] [] (w ∷ ws) h = absurd h
as_many_sessions R (x ∷ xs) [] zs ws h = absurd h
as_many_sessions R (x ∷ xs) (y ∷ ys) [] ws h = absurd h
as_many_sessions R (x ∷ xs) (y ∷ ys) (z ∷ zs) [] h = absurd h

-- the sessions stay in their hall
pub all_own : (o : Opening) (hall : HallModel) (olds news : List SessionModel) (ps qs : List Part) → Each (Plays o) olds news ps qs → All (IsSessionOf hall) olds → All
    (IsSessionOf hall) news
all_own o hall [] [] [] [] h own = own
all_own o hall (s ∷ olds) (t ∷ news) (p ∷ ps) (q ∷ qs) h own =
    All-cons (IsSessionOf hall) t news (stays_own hall s t h.0.acted.place (All-head (IsSessionOf hall) s olds own))
    (all_own o hall olds news ps qs h.1 (All-tail (IsSessionOf hall) s olds own))
all_own o hall [] (t ∷ news) ps qs h own = absurd h
all_own o hall [] [] (p ∷ ps) qs h own = absurd h
all_own o hall [] [] [] (q ∷ qs) h own = absurd h
all_own o hall (s ∷ olds) [] ps qs h own = absurd h
all_own o hall (s ∷ olds) (t ∷ news) [] qs h own = absurd h
all_own o hall (s ∷ olds) (t ∷ news) (p ∷ ps) [] h own = absurd h

none_first : (xs ys : List (Option TurnStop)) → first_stop xs ≡ None → first_stop (xs ++ ys) ≡ first_stop ys
none_first [] ys none = refl
none_first (None ∷ xs) ys none = none_first xs ys none
none_first (Some t ∷ xs) ys none = absurd (none-some t (sym none))

first_alone : (o : Option TurnStop) (xs : List (Option TurnStop)) (t : TurnStop) → o ≡ Some t → first_stop (o ∷ xs) ≡ Some t
first_alone o xs t is = ap (λ (p : Option TurnStop). first_stop (p ∷ xs)) is

-- the first part that stopped
pub stop_here : (before rest : List Part) (p : Part) (t : TurnStop) → first_stop (stops_of before) ≡ None → p.stop ≡ Some t → first_stop (stops_of (before ++ p ∷ rest)) ≡ Some t
stop_here before rest p t none is =
    ap first_stop (map-append (λ (q : Part). q.stop) before (p ∷ rest)) ∙ (none_first (stops_of before) (stops_of (p ∷ rest)) none ∙ first_alone p.stop (stops_of rest) t is)

is_none : (o : Option TurnStop) → ((t : TurnStop) → o ≡ Some t → ⊥) → o ≡ None
is_none None h = refl
is_none (Some t) h = absurd (h t refl)

-- a part more that did not stop
pub none_more : (before : List Part) (p : Part) → first_stop (stops_of before) ≡ None → ((t : TurnStop) → p.stop ≡ Some t → ⊥) → first_stop (stops_of (before ++ p ∷ [])) ≡ None
none_more before p none going =
    ap first_stop (map-append (λ (q : Part). q.stop) before (p ∷ [])) ∙ (none_first (stops_of before) (stops_of (p ∷ [])) none ∙ ap
    (λ (o : Option TurnStop). first_stop (o ∷ [])) (is_none p.stop going))

pub pulls_more : (before : List Part) (p : Part) → pulls_together (before ++ p ∷ []) ≡ pulls_together before ++ p.pulls.items
pulls_more before p = flat_map-append (λ (q : Part). q.pulls.items) before (p ∷ []) ∙ ap (λ l. pulls_together before ++ l) (append-nil p.pulls.items)

-- all clients carried out their lines
pub done_of : (o : Opening) (lines : List ScriptLine) (olds news : List SessionModel) (qs : List Part) (result : Result (Vec PullDone Global) RoundStop) → Built o lines 1 olds
    news qs →
    Collects qs result → IfOk result (λ pulls. IsRoundDone o lines olds news pulls.items)
done_of o lines olds news qs (Ok pulls) b c = record { played = b.played; each = b.each; none_stopped = ap first_stop (sym b.stops) ∙ c.0; pulls_are = c.1 ∙ b.pulls }
done_of o lines olds news qs (Err stop) b c = tt

-- some client stopped
pub stopped_of : (o : Opening) (lines : List ScriptLine) (olds news : List SessionModel) (qs : List Part) (stop : RoundStop) → Built o lines 1 olds news qs → Collects qs
    (Err stop) →
    IsRoundStopped o lines olds news stop
stopped_of o lines olds news qs stop b c = go c.0 c.1 c.2
  where
    cut : (t : TurnStop) → first_stop (stops_of qs) ≡ Some t → IsCutShort o lines olds news (stop_for t)
    cut t first = record { played = b.played; each = b.each; by = t; first = ap first_stop (sym b.stops) ∙ first; stop_is = refl }

    go : (t : TurnStop) → first_stop (stops_of qs) ≡ Some t → stop ≡ stop_for t → IsRoundStopped o lines olds news stop
    go (Full entries) first is = subst (IsRoundStopped o lines olds news) (sym is) (cut (Full entries) first)
    go Spent first is = subst (IsRoundStopped o lines olds news) (sym is) (cut Spent first)
