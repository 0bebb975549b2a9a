-- All grants of a run are played, one after another in the order of their ports.
use Rattle.std.proofs.Common.{◌≡◌, ◌≢◌, ℕ, ◌<◌, ◌≤◌, Bool, true, false, List, [], ◌∷◌, ◌++◌, length, get_or, refl, inl, inr, sym, ap, subst, ◌∙◌, arith, Option, Some}
use Rattle.std.proofs.Common.{None, ◌+◌, suc, zero, unwrap_or, append-nil, append_assoc}
use Rattle.std.specs.Prelude.{◌==◌, ◌&&◌, if◌then◌else◌}
use Rattle.std.specs.List.{flat_map, range_with_len}
use Rattle.std.proofs.lemmas.Bool.{cases_eq, ne_eqb}
use Rattle.coflow_units.specs.PortWord.PortStage.{reported}
use Rattle.journal.specs.declared.command.Entry.{Entry}
use Rattle.journal.specs.declared.opening.Opening.{Opening}
use Rattle.journal.specs.State.{Run}
use Rattle.journal.specs.Runs.{grant_in}
use Rattle.journal.specs.Fold.{state_of}
use Rattle.journal.specs.Driven.{Drive}
use Rattle.world_model.specs.declared.event.Event.{Event}
use Rattle.world_model.specs.declared.event.SentRun.{SentRun}
use Rattle.world_model.specs.Port.{PortFacts, idle_port}
use Rattle.world_model.specs.Sent.{sent_for}
use Rattle.world_model.specs.Played.{run_at, turn_at}
use Rattle.world_model.proofs.PortSteps.{mkp}
use Rattle.world_model.proofs.SendSteps.{sent_more}
use Rattle.world_model.proofs.Turns.{AreSteps, IsTurn, mkw, no_steps, steps_then, turned}

-- nothing was posted, settled or sent at the port in the run, and no more units are to be sent than the run has slots
pub record IsReady (xs : List PortFacts) (s : List SentRun) (r : Run) (d : Drive) (p : ℕ) : Type 0 where
  pub fresh : (get_or xs p idle_port).slot ≢ r.first
  pub clear : (get_or xs p idle_port).settled ≡ None
  pub unsent : sent_for s p r.first ≡ 0
  pub fits : d.sent p ≤ r.slots

-- the port of a granted flow is settled with what was sent from it
abbrev pub settled_port : (ℕ → ℕ) → Drive → ℕ → ℕ → PortFacts
settled_port agent_at d p f = mkp d.first f (reported (agent_at p) (d.sent p)) (d.sent p) (Some (d.sent p))

-- ---- the turn of one port

-- after the turn of a port with this grant it is settled, and the others are as before
record IsPortTurn (o : Opening) (j : List Entry) (a : ℕ) (xs : List PortFacts) (s : List SentRun) (agent_at : ℕ → ℕ) (d : Drive) (p : ℕ) (g : Option ℕ) : Type 0 where
  ys : List PortFacts
  goes : AreSteps (mkw o j a xs s) (turn_at agent_at d p g) (mkw o j a ys (s ++ run_at d p g))
  wide : length ys ≡ length xs
  settled : (f : ℕ) → g ≡ Some f → get_or ys p idle_port ≡ settled_port agent_at d p f
  others : (q : ℕ) → q ≢ p → get_or ys q idle_port ≡ get_or xs q idle_port

port_turned : (o : Opening) (j : List Entry) (a : ℕ) (xs : List PortFacts) (s : List SentRun) (r : Run) (agent_at : ℕ → ℕ) (d : Drive) (p : ℕ) (g : Option ℕ) → p < o.table.ports →
    length xs ≡ o.table.ports → agent_at p < a → (state_of o j).run ≡ Some r → r.first ≡ d.first → grant_in o.table.flows r.granted p ≡ g →
    ((f : ℕ) → g ≡ Some f → IsReady xs s r d p) → IsPortTurn o j a xs s agent_at d p g
port_turned o j a xs s r agent_at d p None low wide agent open' first grant ready = record {
  ys = xs;
  goes = no_steps (mkw o j a xs s) (mkw o j a xs (s ++ [])) (ap (λ l. mkw o j a xs l) (sym (append-nil s)));
  wide = refl;
  settled = λ f is. absurd (cc);
  others = λ q ne. refl;
}
port_turned o j a xs s r agent_at d p (Some f) low wide agent open' first grant ready =
    let m = agent_at p in
    let n = d.sent p in
    let h = ready f refl in
    let one : IsTurn o j a xs s d.first m p f n =
    subst (λ k. IsTurn o j a xs s k m p f n) first (turned o j a xs s r m p f n low wide agent open' grant h.fresh h.clear h.unsent h.fits) in
    record {
      ys = one.ys;
      goes = one.goes;
      wide = one.set.wide;
      settled = λ g is. one.set.here ∙ ap (λ (t : Option ℕ). settled_port agent_at d p (unwrap_or t 0)) is;
      others = one.set.others;
    }

-- what is sent at a port changes nothing of what was sent at another
sent_elsewhere : (s : List SentRun) (slot f p n q first : ℕ) (b : Bool) → p ≢ q →
    sent_for (s ++ (if b then [] else record { slot = slot; flow = f; units = n; port = p } ∷ [])) q first ≡ sent_for s q first
sent_elsewhere s slot f p n q first true ne = ap (λ l. sent_for l q first) (append-nil s)
sent_elsewhere s slot f p n q first false ne =
    omega (arith, sent_more s (record { slot = slot; flow = f; units = n; port = p }) q first, ap {B = ℕ} (λ b. if b && (slot == first) then n else 0) (ne_eqb p q ne))

run_elsewhere : (s : List SentRun) (d : Drive) (p q first : ℕ) (g : Option ℕ) → p ≢ q → sent_for (s ++ run_at d p g) q first ≡ sent_for s q first
run_elsewhere s d p q first None ne = ap (λ l. sent_for l q first) (append-nil s)
run_elsewhere s d p q first (Some f) ne = sent_elsewhere s d.first f p (d.sent p) q first (d.sent p == 0) ne

-- ---- the turns of ports in a row

-- what the run sends from so many ports from this one on, and their turns
abbrev runs_from : (ℕ → Option ℕ) → Drive → ℕ → ℕ → List SentRun
runs_from granted d k n = flat_map (λ p. run_at d p (granted p)) (range_with_len k n)

abbrev turns_from : (ℕ → ℕ) → (ℕ → Option ℕ) → Drive → ℕ → ℕ → List Event
turns_from agent_at granted d k n = flat_map (λ p. turn_at agent_at d p (granted p)) (range_with_len k n)

-- after the turns of so many ports from this one on, those with a grant are settled, and the ports before and after are as they were
pub record AreTurned (o : Opening) (j : List Entry) (a : ℕ) (xs : List PortFacts) (s : List SentRun) (granted : ℕ → Option ℕ) (agent_at : ℕ → ℕ) (d : Drive) (k n : ℕ) :
    Type 0 where
  pub ys : List PortFacts
  pub goes : AreSteps (mkw o j a xs s) (turns_from agent_at granted d k n) (mkw o j a ys (s ++ runs_from granted d k n))
  pub wide : length ys ≡ length xs
  pub settled : (p f : ℕ) → k ≤ p → p < k + n → granted p ≡ Some f → get_or ys p idle_port ≡ settled_port agent_at d p f
  pub others : (q : ℕ) → q < k → get_or ys q idle_port ≡ get_or xs q idle_port

pub all_turned : (o : Opening) (j : List Entry) (a : ℕ) (xs : List PortFacts) (s : List SentRun) (r : Run) (agent_at : ℕ → ℕ) (d : Drive) (k n : ℕ) → k + n ≤ o.table.ports →
    length xs ≡ o.table.ports → ((port : ℕ) → port < o.table.ports → agent_at port < a) → (state_of o j).run ≡ Some r → r.first ≡ d.first →
    ((p f : ℕ) → k ≤ p → p < k + n → grant_in o.table.flows r.granted p ≡ Some f → IsReady xs s r d p) → AreTurned o j a xs s (grant_in o.table.flows r.granted) agent_at d k n
all_turned o j a xs s r agent_at d k zero low wide agents open' first ready = record {
  ys = xs;
  goes = no_steps (mkw o j a xs s) (mkw o j a xs (s ++ [])) (ap (λ l. mkw o j a xs l) (sym (append-nil s)));
  wide = refl;
  settled = λ p f ge lt grant. absurd (omega (arith, ge, lt));
  others = λ q lt. refl;
}
all_turned o j a xs s r agent_at d k (suc n) low wide agents open' first ready =
    let granted = grant_in o.table.flows r.granted in
    let below : k < o.table.ports = omega (arith, low) in
    let one = port_turned o j a xs s r agent_at d k (granted k) below wide (agents k below) open' first refl (λ f is. ready k f (omega arith) (omega arith) is) in
    let s' = s ++ run_at d k (granted k) in
    let rest = all_turned o j a one.ys s' r agent_at d (k + 1) n (omega (arith, low)) (one.wide ∙ wide) agents open' first (λ p f ge lt grant.
    let h = ready p f (omega (arith, ge)) (omega (arith, lt)) grant in
    let same = one.others p (λ e. absurd (omega (arith, ge, e))) in
    record {
      fresh = λ e. h.fresh (sym (ap (λ (x : PortFacts). x.slot) same) ∙ e);
      clear = ap (λ (x : PortFacts). x.settled) same ∙ h.clear;
      unsent = run_elsewhere s d k p r.first (granted k) (λ e. absurd (omega (arith, ge, e))) ∙ h.unsent;
      fits = h.fits;
    }) in
    record {
      ys = rest.ys;
      goes = subst (λ l. AreSteps (mkw o j a xs s) (turns_from agent_at granted d k (suc n)) (mkw o j a rest.ys l))
          (append_assoc s (run_at d k (granted k)) (runs_from granted d (k + 1) n))
          (steps_then (mkw o j a xs s) (mkw o j a one.ys s') (mkw o j a rest.ys (s' ++ runs_from granted d (k + 1) n)) (turn_at agent_at d k (granted k))
          (turns_from agent_at granted d (k + 1) n) one.goes rest.goes);
      wide = rest.wide ∙ one.wide;
      settled = λ p f ge lt grant. elim (cases_eq p k) [
        | inl e ↦ subst (λ q. get_or rest.ys q idle_port ≡ settled_port agent_at d q f) (sym e)
            (rest.others k (omega arith) ∙ one.settled f (sym (ap granted e) ∙ grant))
        | inr ne ↦ rest.settled p f (omega (arith, ge, ne)) (omega (arith, lt)) grant
      ];
      others = λ q lt. rest.others q (omega (arith, lt)) ∙ one.others q (λ e. absurd (omega (arith, lt, e)));
    }
