-- The parts of a round: how they are made, and what they come to together.
use Rattle.std.proofs.Common.{◌≡◌, ℕ, ◌+◌, ◌≤◌, Bool, true, false, cond, List, [], ◌∷◌, ◌++◌, length, map, filter, refl, sym, ap, subst, arith}
use Rattle.std.proofs.Common.{length-append, flat_map, nat_le, ◌==◌}
use Rattle.std.specs.Prelude.{All}
use Rattle.std.proofs.lemmas.List.Elements.{All-cons, All-filter, All-nil, All-weaker}
use Rattle.std.proofs.lemmas.Bool.{eqb-true, le-leb, leb-true, lt-leb}
use Rattle.journal.specs.declared.opening.Opening.{Opening}
use Rattle.journal.specs.Answer.{IsInRange}
use Rattle.workload.specs.declared.script.ScriptLine.{ScriptLine}
use Rattle.client_session.specs.Models.{SessionModel}
use Rattle.live_model.specs.Script.{command_of}
use Rattle.live_rounds.specs.declared.part.Part.{Part}
use Rattle.live_rounds.specs.Acts.{pulls_in}
use Rattle.live_rounds.specs.Parts.{AreParts, Each, IsPart, IsReady, lines_for, Plays, pulls_together, stops_of}
use Rattle.live_rounds.specs.Rounds.{ArePlayed, MayAsk, Played}
use Rattle.live_rounds.specs.Stops.{Ends}
use Rattle.live_rounds.proofs.Steps.{few_acts, few_pulls}

-- one part more
pub parts_more : (lines : List ScriptLine) (client : ℕ) (ps : List Part) (p : Part) → AreParts lines client ps → IsPart lines (client + length ps) p → AreParts lines client
    (ps ++ p ∷ [])
parts_more lines client [] p h is = (let e : client + 0 ≡ client = omega arith in subst (λ n. IsPart lines n p) e is, tt)
parts_more lines client (q ∷ ps) p h is =
    let e : client + length (q ∷ ps) ≡ client + 1 + length ps = omega arith in
    (h.0, parts_more lines (client + 1) ps p h.1 (subst (λ n. IsPart lines n p) e is))

-- the parts of lines that may be asked can be played
pub parts_ready : (o : Opening) (clients : ℕ) (lines : List ScriptLine) (client : ℕ) (ps : List Part) → All (MayAsk o clients) lines → AreParts lines client ps → All (IsReady o) ps
parts_ready o clients lines client [] may h = All-nil (IsReady o)
parts_ready o clients lines client (p ∷ ps) may h =
    let Range : ScriptLine → Type 0 = λ l. IsInRange o (command_of l.asked) in
    let all = All-filter (λ (l : ScriptLine). l.client == client) Range lines (All-weaker (MayAsk o clients) Range (λ l m. m.2) lines may) in
    All-cons (IsReady o) p ps (record { range = subst (All Range) (sym h.0.lines_are) all; none_told = h.0.none_told; room = h.0.room; going = h.0.going })
    (parts_ready o clients lines (client + 1) ps may h.1)

-- ---- what they come to

-- the lines of clients whose numbers are no less
abbrev lines_from : ℕ → List ScriptLine → List ScriptLine
lines_from client lines = filter (λ l. nat_le client l.client) lines

both_kinds : (x : ScriptLine) (here rest from : List ScriptLine) (b c d : Bool) → (b ≡ true → d ≡ false) → (b ≡ true → c ≡ true) → (d ≡ true → c ≡ true) →
    length here + length rest ≤ length from → length (cond b (x ∷ here) here) + length (cond d (x ∷ rest) rest) ≤ length (cond c (x ∷ from) from)
both_kinds x here rest from true c d apart bc dc h =
    rw (apart refl, bc refl) (omega (arith, h))
both_kinds x here rest from false c true apart bc dc h = rw (dc refl) (omega (arith, h))
both_kinds x here rest from false true false apart bc dc h = omega (arith, h)
both_kinds x here rest from false false false apart bc dc h = omega (arith, h)

-- the lines of one client, and those of later ones, are no more than those of all of them
one_and_later : (client : ℕ) (lines : List ScriptLine) → length (lines_for client lines) + length (lines_from (client + 1) lines) ≤ length (lines_from client lines)
one_and_later client [] = omega arith
one_and_later client (x ∷ lines) =
    both_kinds x (lines_for client lines) (lines_from (client + 1) lines) (lines_from client lines) (x.client == client) (nat_le client x.client) (nat_le (client + 1) x.client)
    (λ e. let is : x.client ≡ client = eqb-true x.client client e in lt-leb (client + 1) x.client (omega (arith, is)))
    (λ e. let is : x.client ≡ client = eqb-true x.client client e in le-leb client x.client (omega (arith, is)))
    (λ e. le-leb client x.client (let le = leb-true (client + 1) x.client e in omega (arith, le)))
    (one_and_later client lines)

-- what the parts of clients from this one on came to
pub record Built (o : Opening) (lines : List ScriptLine) (client : ℕ) (olds news : List SessionModel) (parts : List Part) : Type 0 where
  pub played : List Played
  pub each : ArePlayed o lines client olds news played
  pub pulls : pulls_together parts ≡ flat_map (λ (p : Played). pulls_in p.acts) played
  pub stops : stops_of parts ≡ map (λ (p : Played). p.stop) played
  pub few : length (pulls_together parts) ≤ length (lines_from client lines)

pub built : (o : Opening) (lines : List ScriptLine) (client : ℕ) (olds news : List SessionModel) (ps qs : List Part) → AreParts lines client ps → Each (Plays o) olds news ps
    qs → Built o lines client olds news qs
built o lines client [] [] [] [] are each = record { played = []; each = tt; pulls = refl; stops = refl; few = omega arith }
built o lines client (s ∷ olds) (t ∷ news) (p ∷ ps) (q ∷ qs) are each =
    let rest = built o lines (client + 1) olds news ps qs are.1 each.1 in
    let x = each.0 in
    let ends : Ends o (lines_for client lines) s t x.acts q.stop = subst (λ l. Ends o l s t x.acts q.stop) are.0.lines_are x.ends in
    let one : Played = record { acts = x.acts; stop = q.stop } in record {
      played = one ∷ rest.played;
      each = (record { acted = x.acted; ends = ends }, rest.each);
      pulls = (λ i. x.pulls i ++ rest.pulls i);
      stops = ap (λ l. q.stop ∷ l) rest.stops;
      few = omega (
        arith,
        rest.few,
        one_and_later client lines,
        length-append q.pulls.items (pulls_together qs),
        ap (λ l. length l) x.pulls,
        few_pulls x.acts,
        few_acts o (lines_for client lines) s t x.acts q.stop ends,
      );
    }
built o lines client [] (t ∷ news) ps qs are each = absurd each
built o lines client [] [] (p ∷ ps) qs are each = absurd each
built o lines client [] [] [] (q ∷ qs) are each = absurd each
built o lines client (s ∷ olds) [] ps qs are each = absurd each
built o lines client (s ∷ olds) (t ∷ news) [] qs are each = absurd each
built o lines client (s ∷ olds) (t ∷ news) (p ∷ ps) [] are each = absurd each

-- together no more pulls than there are lines
pub from_all : (client : ℕ) (lines : List ScriptLine) → length (lines_from client lines) ≤ length lines
from_all client [] = omega arith
from_all client (x ∷ lines) = go (nat_le client x.client) (from_all client lines)
  where
    go : (b : Bool) → length (lines_from client lines) ≤ length lines → length (cond b (x ∷ lines_from client lines) (lines_from client lines)) ≤ length (x ∷ lines)
    go true h = omega (arith, h)
    go false h = omega (arith, h)
