-- What one line comes to.
use Rattle.std.proofs.Common.{◌≡◌, ℕ, ◌+◌, ◌≤◌, Bool, true, false, true≢false, cond, [], ◌∷◌, length, map, refl, sym, ap, subst, ◌∙◌, arith}
use Rattle.std.specs.Prelude.{if◌then◌else◌}
use Rattle.journal.specs.declared.command.Command.{Command}
use Rattle.journal.specs.declared.command.Command.TheVariants.{Pull as PullCommand}
use Rattle.journal.specs.declared.command.Reply.{Reply}
use Rattle.journal.specs.declared.command.Reply.TheVariants.{Rank, Unranked}
use Rattle.journal.specs.declared.opening.Opening.{Opening}
use Rattle.rank_board.specs.Models.{pulled}
use Rattle.rank_board.specs.Pulls.{pull_of}
use Rattle.workload.specs.declared.script.Asked.TheVariants.{Pull}
use Rattle.workload.specs.declared.script.ScriptLine.{ScriptLine}
use Rattle.client_session.specs.declared.receipt.Answer.{Answer}
use Rattle.client_session.specs.declared.receipt.Answer.TheVariants.{Done, Full, Spent}
use Rattle.client_session.specs.Models.{SessionModel}
use Rattle.client_session.specs.Own.{own_entry}
use Rattle.client_session.specs.Turns.{IsFull, IsTurn, KeepsPlace}
use Rattle.live_model.specs.Script.{command_of, coflow_pulled, is_pull}
use Rattle.live_rounds.specs.declared.answer.TurnStop.{TurnStop}
use Rattle.live_rounds.specs.declared.answer.TurnStop.TheVariants as stop
use Rattle.live_rounds.specs.Acts.{Act, act, entered, entries_at, HasActed, noted, Outcome, pull_done, pulls_in, rank_at, version_at}
use Rattle.live_rounds.specs.Lines.{ComesTo, pull_told, TellsVersion, with_pull, without_pull}
use Rattle.live_rounds.specs.Stops.{IsStoppedAt}
use Rattle.live_rounds.proofs.Acting.{acted_none, acted_on, by_turn_acted, hidden_acted, noted_acted, pull_tells, stays, turn_acted, WasHidden}

no_pull_told : (a : Act) (b : Bool) → b ≡ false → [] ≡ map pull_done (cond b (a ∷ []) [])
no_pull_told a true e = absurd (true≢false e)
no_pull_told a false e = refl

one_told : (a : Act) (b : Bool) → b ≡ true → pull_done a ∷ [] ≡ map pull_done (cond b (a ∷ []) [])
one_told a true e = refl
one_told a false e = absurd (true≢false (sym e))

-- the pull of a line that is one
one_pull : (line : ScriptLine) (coflow : ℕ) (x : Outcome) → line.asked ≡ Pull coflow → pull_told line coflow (version_at x) (rank_at x) ∷ [] ≡ pulls_in (act line x ∷ [])
one_pull line coflow x asked =
    ap (λ (c : ℕ). pull_told line c (version_at x) (rank_at x) ∷ []) (sym (ap coflow_pulled asked)) ∙ one_told (act line x) (is_pull line.asked) (ap is_pull asked)

full_acted : (o : Opening) (old new : SessionModel) (count : ℕ) → KeepsPlace old new → IsFull o old new count → HasActed old new []
full_acted o old new count place f =
    let longer = f.not_shorter in
    let position = f.position in
    acted_none old new (record { gate = place.gate; setting = place.setting; number = place.number; board = place.board }) f.own place.notes (omega (arith, longer, position))
    place.version

full_stops : (o : Opening) (old new : SessionModel) (count : ℕ) → IsFull o old new count → IsStoppedAt o old new 0 (stop.Full count)
full_stops o old new count f = let left = f.left in (omega (arith, left), f.limit, f.position)

spent_acted : (old new : SessionModel) → new ≡ old → HasActed old new []
spent_acted old new same = subst (λ (s : SessionModel). HasActed old s []) (sym same) (acted_none old old (stays old) refl refl (omega arith) (omega arith))

spent_stops : (o : Opening) (old new : SessionModel) → old.left ≡ 0 → new ≡ old → IsStoppedAt o old new 0 stop.Spent
spent_stops o old new none same = (ap (λ (s : SessionModel). s.left) same ∙ none, sym none)

-- a turn that is no pull
pub comes_by_turn : (o : Opening) (k : Command) (line : ScriptLine) (old new : SessionModel) (a : Answer) → IsTurn o k old new a → k ≡ command_of line.asked → is_pull
    line.asked ≡ false →
    ComesTo o line old new (without_pull a)
comes_by_turn o k line old new (Done r) t command none =
    let d = t.done r refl in
    let x = entered (own_entry r.position r.version k r.reply) in (
      x,
      turn_acted o k line old new r t.place d command (λ p. absurd (true≢false (sym p ∙ none))) (λ p. absurd (true≢false (sym p ∙ none))),
      no_pull_told (act line x) (is_pull line.asked) none,
      d.left,
    )
comes_by_turn o k line old new (Full count) t command none = (full_acted o old new count t.place (t.full count refl), full_stops o old new count (t.full count refl))
comes_by_turn o k line old new Spent t command none = let s = t.spent refl in (spent_acted old new s.1, spent_stops o old new s.0 s.1)

-- a pull that the session noted
pub comes_noted : (o : Opening) (line : ScriptLine) (coflow v rank : ℕ) (old new : SessionModel) → line.asked ≡ Pull coflow → old.rank.seen ≤ new.rank.seen → new.rank.table ≡
    old.rank.table →
    new ≡ record old { rank = new.rank } → new.rank ≡ pulled v coflow rank (length old.own) old.rank →
    (x : Outcome) × HasActed old new (act line x ∷ []) × (pull_told line coflow v rank ∷ [] ≡ pulls_in (act line x ∷ [])) × (new.left + length (entries_at x) ≡ old.left)
comes_noted o line coflow v rank old new asked later board rest is =
    let x = noted (pull_of v coflow rank (length old.own)) in
    let left : new.left ≡ old.left = ap (λ (s : SessionModel). s.left) rest in
    (x, noted_acted line coflow v rank old new asked later board rest is, one_pull line coflow x asked, omega (arith, left))

stopped_before : (o : Opening) (old mid new : SessionModel) (t : TurnStop) → mid.left ≡ old.left → IsStoppedAt o mid new 0 t → IsStoppedAt o old new 0 t
stopped_before o old mid new (stop.Full count) e h = (h.0 ∙ e, h.1, h.2)
stopped_before o old mid new stop.Spent e h = (h.0, h.1 ∙ e)

-- a pull whose rank was hidden, and that asked in a turn
pub comes_hidden : (o : Opening) (line : ScriptLine) (coflow front found : ℕ) (old mid new : SessionModel) (a : Answer) → line.asked ≡ Pull coflow → WasHidden old mid coflow
    front found →
    IsTurn o (PullCommand coflow) mid new a → ComesTo o line old new (with_pull line coflow a)
comes_hidden o line coflow front found old mid new (Done r) asked h t =
    let d = t.done r refl in
    let x = entered (own_entry r.position r.version (PullCommand coflow) r.reply) in
    let left : mid.left ≡ old.left = ap (λ (s : SessionModel). s.left) h.rest in
    let one = d.left in
    (x, by_turn_acted o line coflow front found old mid new r asked h t.place d, one_pull line coflow x asked, omega (arith, one, left))
comes_hidden o line coflow front found old mid new (Full count) asked h t =
    let f = t.full count refl in (
      acted_on old mid new [] [] (hidden_acted old mid coflow front found h) (full_acted o mid new count t.place f),
      stopped_before o old mid new (stop.Full count) (ap (λ (s : SessionModel). s.left) h.rest) (full_stops o mid new count f),
    )
comes_hidden o line coflow front found old mid new Spent asked h t =
    let s = t.spent refl in (
      acted_on old mid new [] [] (hidden_acted old mid coflow front found h) (spent_acted mid new s.1),
      stopped_before o old mid new stop.Spent (ap (λ (s : SessionModel). s.left) h.rest) (spent_stops o mid new s.0 s.1),
    )

-- a pull in a turn tells the newest version
pub turn_tells : (o : Opening) (coflow : ℕ) (old new : SessionModel) (a : Answer) → IsTurn o (PullCommand coflow) old new a → TellsVersion a
turn_tells o coflow old new a t r is = pull_tells o coflow old new r (t.done r is)

-- such a reply tells a version
pub tells_neither : (reply : Reply) (b : Bool) (v rank : ℕ) → reply ≡ (if b then Unranked v else Rank v rank) → ((x x' : ℕ) → reply ≡ Rank x x' → ⊥) →
    ((x : ℕ) → reply ≡ Unranked x → ⊥) → ⊥
tells_neither reply true v rank e ranks unranks = unranks v e
tells_neither reply false v rank e ranks unranks = ranks v rank e
