-- The entries of a driven run are steps of a world.
use Rattle.std.proofs.Common.{◌≡◌, ℕ, ◌<◌, ◌⊎◌, Bool, true, false, true≢false, List, [], ◌∷◌, ◌++◌, map, get_or, Contains, refl, inl, inr, sym, ap, subst, ◌∙◌}
use Rattle.std.proofs.Common.{arith, suc, Option, Some, unwrap_or, is_some, append-nil, append_assoc}
use Rattle.std.specs.Prelude.{All, ◌&&◌, if◌then◌else◌, nat_lt}
use Rattle.std.proofs.lemmas.Bool.{and_from, lt-ltb}
use Rattle.std.proofs.lemmas.List.Elements.{All-push}
use Rattle.coflow_units.specs.Flows.{ingress_of}
use Rattle.journal.specs.declared.command.Command.{Command}
use Rattle.journal.specs.declared.command.Command.TheVariants.{Short}
use Rattle.journal.specs.declared.command.Command.TheVariants.{Close as CloseRun}
use Rattle.journal.specs.declared.command.Entry.{Entry}
use Rattle.journal.specs.declared.command.Reply.{Reply}
use Rattle.journal.specs.declared.command.Reply.TheVariants.{Opened}
use Rattle.journal.specs.declared.opening.Opening.{Opening}
use Rattle.journal.specs.State.{Run, State}
use Rattle.journal.specs.Fold.{state_of}
use Rattle.journal.specs.Answer.{in_range, reply_of}
use Rattle.journal.specs.Journal.{adds, entry, is_full, IsLegal}
use Rattle.journal.specs.Entries.{is_driving, is_moving, TellsEntry}
use Rattle.journal.specs.Counts.{is_noting}
use Rattle.journal.specs.Driven.{Drive, is_other, IsShortOf, sent_from}
use Rattle.journal.proofs.Between.{between, mkr}
use Rattle.journal.proofs.Driving.{free}
use Rattle.journal.proofs.EntryTells.{entry_tells, quiet}
use Rattle.journal.proofs.Versions.{legal_there}
use Rattle.world_model.specs.declared.event.Event.TheVariants.{Ask, Note}
use Rattle.world_model.specs.declared.event.SentRun.{SentRun}
use Rattle.world_model.specs.Port.{PortFacts, idle_port}
use Rattle.world_model.specs.World.{WorldFacts, run_of}
use Rattle.world_model.specs.Guards.{in_run, is_free, is_short}
use Rattle.world_model.specs.Played.{step_by, step_of}
use Rattle.world_model.specs.Steps.{asks, cleared, is_opened, ports_after}
use Rattle.world_model.proofs.GrantTurns.{settled_port}
use Rattle.world_model.proofs.Turns.{AreSteps, IsStep, mkw, no_steps, step_is, step_then}

-- ---- the entry of a command

abbrev asked_by : Opening → List Entry → ℕ → List PortFacts → List SentRun → ℕ → Command → Reply → WorldFacts
asked_by o j a xs s who k reply = mkw o (j ++ adds who k reply) a (ports_after xs reply) s

asked_is : (o : Opening) (j : List Entry) (a : ℕ) (xs : List PortFacts) (s : List SentRun) (e : Entry) → e.reply ≡ reply_of o j e.command → is_full e.reply ≡ false →
    is_opened e.reply ≡ false →
    asks (mkw o j a xs s) e.who e.command ≡ mkw o (j ++ e ∷ []) a xs s
asked_is o j a xs s e is room still =
    ap (asked_by o j a xs s e.who e.command) (sym is) ∙ ap (λ (b : Bool). mkw o (j ++ (if b then [] else entry e.who e.command e.reply ∷ [])) a (ports_after xs e.reply) s) room
    ∙ ap (λ (b : Bool). mkw o (j ++ e ∷ []) a (if b then cleared xs else xs) s) still

-- ---- an entry of another caller

not_opened : (r : Reply) → is_moving r ≡ false → is_opened r ≡ false
not_opened (Opened slot slots count) e = absurd (true≢false e)
not_opened r e = refl

free_step : (who : ℕ) (k : Command) → is_driving k ≡ false → step_by who k ≡ Ask who k
free_step who (Short port units) e = absurd (true≢false e)
free_step who k e = refl

may_ask : (k : Command) → is_driving k ≡ false → is_free k ≡ true
may_ask (Short port units) e = absurd (true≢false e)
may_ask CloseRun e = absurd (true≢false e)
may_ask k e = refl

pub other_goes : (o : Opening) (j more : List Entry) (a : ℕ) (xs : List PortFacts) (s : List SentRun) (e : Entry) → IsLegal o (j ++ (e ∷ more)) → in_range o e.command ≡ true →
    is_other e ≡ true →
    IsStep (mkw o j a xs s) (step_of e) (mkw o (j ++ e ∷ []) a xs s)
other_goes o j more a xs s e legal low other =
    let w = mkw o j a xs s in
    let quiet' = free e other in
    let there = legal_there o j more e legal in
    let still = not_opened e.reply (quiet o (state_of o j) e.command e.reply (entry_tells o j more e legal) quiet') in
    subst (λ k. IsStep w k (mkw o (j ++ e ∷ []) a xs s)) (sym (free_step e.who e.command quiet'))
    (step_is w (mkw o (j ++ e ∷ []) a xs s) (Ask e.who e.command) (and_from (is_free e.command) (in_range o e.command) (may_ask e.command quiet') low) refl
    (asked_is o j a xs s e there.0 there.1 still))

-- ---- a note of the driver

short_opens_none : (o : Opening) (s : State) (port units : ℕ) (r : Reply) → TellsEntry o s (Short port units) r → is_opened r ≡ false
short_opens_none o s port units (Opened slot slots count) t = absurd (true≢false (ap is_noting t.1))
short_opens_none o s port units r t = refl

pub short_is : (r : Run) (x : PortFacts) (n : ℕ) (b : Bool) → x.settled ≡ Some n → nat_lt n r.slots ≡ b → is_short r x ≡ b
short_is r x n b is less = ap (λ (t : Option ℕ). is_some t && nat_lt (unwrap_or t 0) r.slots) is ∙ less

pub note_goes : (o : Opening) (j more : List Entry) (a : ℕ) (xs : List PortFacts) (s : List SentRun) (agent_at : ℕ → ℕ) (d : Drive) (r : Run)
    (granted : List ℕ) (e : Entry) → IsLegal o (j ++ (e ∷ more)) →
    ((f : ℕ) → Contains granted f → ingress_of o.table.flows f < o.table.ports) →
    ((f : ℕ) → Contains granted f → get_or xs (ingress_of o.table.flows f) idle_port ≡ settled_port agent_at d (ingress_of o.table.flows f) f) →
    (state_of o j).run ≡ Some r → r.slots ≡ d.slots → IsShortOf o.table.flows granted d e →
    IsStep (mkw o j a xs s) (step_of e) (mkw o (j ++ e ∷ []) a xs s)
note_goes o j more a xs s agent_at d r granted e legal low settled open' slots (f, in', who, asks', less) =
    let w = mkw o j a xs s in
    let p = ingress_of o.table.flows f in
    let n = sent_from o.table.flows d f in
    let x = get_or xs p idle_port in
    let is : x.settled ≡ Some n = ap (λ (y : PortFacts). y.settled) (settled f in') in
    let there = legal_there o j more e legal in
    let still = short_opens_none o (state_of o j) p n e.reply (subst (λ k. TellsEntry o (state_of o j) k e.reply) asks' (entry_tells o j more e legal)) in
    let may : in_run (run_of w) (λ r. is_short r x) ≡ true = ap (λ (y : Option Run). in_run y (λ r. is_short r x)) open' ∙
    short_is r x n true is (lt-ltb n r.slots (omega (arith, less, slots))) in
    subst (λ k. IsStep w (step_by e.who k) (mkw o (j ++ e ∷ []) a xs s)) (sym asks')
    (step_is w (mkw o (j ++ e ∷ []) a xs s) (Note p) (and_from (nat_lt p o.table.ports) (in_run (run_of w) (λ r. is_short r x)) (lt-ltb p o.table.ports (low f in')) may) refl
    (ap (λ (t : Option ℕ). asks w 0 (Short p (unwrap_or t 0))) is ∙ ap (λ k. asks w 0 k) (sym asks') ∙ ap (λ m. asks w m e.command) (sym who) ∙
    asked_is o j a xs s e there.0 there.1 still))

-- ---- lists of entries

-- where each entry of a list is a step, under something that it keeps, so is the list
pub entries_go : (o : Opening) (a : ℕ) (xs : List PortFacts) (s : List SentRun) (P : Entry → Type 0) (Q : List Entry → Type 0) →
    ((j more : List Entry) (e : Entry) → IsLegal o (j ++ (e ∷ more)) → P e → Q j → IsStep (mkw o j a xs s) (step_of e) (mkw o (j ++ e ∷ []) a xs s) × Q (j ++ e ∷ [])) →
    (j es more : List Entry) → IsLegal o (j ++ (es ++ more)) → All P es → Q j → AreSteps (mkw o j a xs s) (map step_of es) (mkw o (j ++ es) a xs s)
entries_go o a xs s P Q step j [] more legal all h = no_steps (mkw o j a xs s) (mkw o (j ++ []) a xs s) (ap (λ l. mkw o l a xs s) (sym (append-nil j)))
entries_go o a xs s P Q step j (e ∷ es) more legal all h =
    let (goes, kept) = step j (es ++ more) e legal (all 0 e (omega arith)) h in
    step_then (mkw o j a xs s) (mkw o (j ++ e ∷ []) a xs s) (mkw o (j ++ (e ∷ es)) a xs s) (step_of e) (map step_of es) goes
    (subst (λ l. AreSteps (mkw o (j ++ e ∷ []) a xs s) (map step_of es) (mkw o l a xs s)) (append_assoc j (e ∷ []) es)
    (entries_go o a xs s P Q step (j ++ e ∷ []) es more (subst (IsLegal o) (sym (append_assoc j (e ∷ []) (es ++ more))) legal) (λ k d lt. all (suc k) d (omega arith)) kept))

-- entries of others are steps
pub others_go : (o : Opening) (a : ℕ) (xs : List PortFacts) (s : List SentRun) (j es more : List Entry) → IsLegal o (j ++ (es ++ more)) →
    All (λ (e : Entry). in_range o e.command ≡ true) es →
    All (λ e. is_other e ≡ true) es → AreSteps (mkw o j a xs s) (map step_of es) (mkw o (j ++ es) a xs s)
others_go o a xs s j es more legal low others =
    entries_go o a xs s (λ e. (in_range o e.command ≡ true) × (is_other e ≡ true)) (λ j. Unit {0}) (λ j more e legal h q. (other_goes o j more a xs s e legal h.0 h.1, tt)) j es
    more legal
    (λ k d lt. (low k d lt, others k d lt)) tt

-- and so are entries of others and notes of the driver while a run is open and its ports are settled
pub between_go : (o : Opening) (a : ℕ) (xs : List PortFacts) (s : List SentRun) (agent_at : ℕ → ℕ) (d : Drive) (granted : List ℕ) (j es more : List Entry) → IsLegal o
    (j ++ (es ++ more)) →
    All (λ (e : Entry). in_range o e.command ≡ true) es → All (λ e. (is_other e ≡ true) ⊎ IsShortOf o.table.flows granted d e) es →
    ((f : ℕ) → Contains granted f → ingress_of o.table.flows f < o.table.ports) →
    ((f : ℕ) → Contains granted f → get_or xs (ingress_of o.table.flows f) idle_port ≡ settled_port agent_at d (ingress_of o.table.flows f) f) →
    (state_of o j).run ≡ Some (mkr d.first d.slots granted []) → AreSteps (mkw o j a xs s) (map step_of es) (mkw o (j ++ es) a xs s)
between_go o a xs s agent_at d granted j es more legal low each ports settled open' =
    let P = λ (e : Entry). (in_range o e.command ≡ true) × ((is_other e ≡ true) ⊎ IsShortOf o.table.flows granted d e) in
    let Q = λ (j : List Entry). (notes : List (ℕ × ℕ)) × ((state_of o j).run ≡ Some (mkr d.first d.slots granted notes)) in
    entries_go o a xs s P Q (λ j more e legal h q.
    let now = between o d d.first granted j (e ∷ []) more q.0 legal q.1
    (All-push (λ e. (is_other e ≡ true) ⊎ IsShortOf o.table.flows granted d e) [] e (λ k x low. absurd (omega arith)) h.1) in (
      elim h.1 [
        | inl other ↦ other_goes o j more a xs s e legal h.0 other
        | inr short ↦ note_goes o j more a xs s agent_at d (mkr d.first d.slots granted q.0) granted e legal ports settled q.1 refl short
      ],
      (now.notes, now.run),
    )) j es more legal (λ k d lt. (low k d lt, each k d lt)) ([], open')
