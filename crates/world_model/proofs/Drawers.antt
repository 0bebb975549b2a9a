-- Who drew a post is one of the agents.
use Rattle.std.proofs.Common.{◌≡◌, ℕ, ◌<◌, Bool, true, false, List, [], ◌∷◌, ◌++◌, length, map, get_or, replicate, refl, sym, ap, subst, ◌∙◌, arith, zero, suc, Option, Some, None}
use Rattle.std.proofs.Common.{unwrap_or}
use Rattle.std.specs.Prelude.{◌&&◌, if◌then◌else◌, nat_lt, slice_set}
use Rattle.std.proofs.lemmas.Bool.{and_parts, ltb-true}
use Rattle.coflow_units.specs.PortWord.{PortStage, is_drawn_by, is_granted}
use Rattle.coflow_units.specs.PortWord.PortStage.{unposted, granted, drawn, reported, taken_back}
use Rattle.journal.specs.declared.command.Command.{Command}
use Rattle.journal.specs.declared.command.Command.TheVariants.{Close as CloseRun}
use Rattle.journal.specs.declared.opening.Opening.{Opening}
use Rattle.journal.specs.declared.command.Reply.{Reply}
use Rattle.journal.specs.State.{IsOpening, Run}
use Rattle.journal.specs.Runs.{grant_in}
use Rattle.journal.specs.Answer.{reply_of}
use Rattle.world_model.specs.declared.event.Event.{Event}
use Rattle.world_model.specs.declared.event.Event.TheVariants.{Ask, Post, Draw, Send, Report, Settle, Note, Close}
use Rattle.world_model.specs.Port.{PortFacts, idle_port, settled_by}
use Rattle.world_model.specs.World.{WorldFacts, new_world, port_at, run_of}
use Rattle.world_model.specs.Guards.{can}
use Rattle.world_model.specs.Lawful.{AreDrawnByAgents, IsOfAgent, IsWorld}
use Rattle.world_model.specs.Steps.{asks, cleared, is_opened, moved, ports_after, posted, sent_at, settled_note, with_port, world_after, world_of}
use Rattle.world_model.proofs.Events.{new_is_world, step_keeps}
use Rattle.world_model.proofs.PortSteps.{port_set}

and_first : (a b : Bool) → (a && b) ≡ true → a ≡ true
and_first a b both = (and_parts a b both).0

-- ---- one step

stage_cleared : (xs : List PortFacts) (q : ℕ) → (get_or (cleared xs) q idle_port).stage ≡ (get_or xs q idle_port).stage
stage_cleared [] q = refl
stage_cleared (x ∷ xs) zero = refl
stage_cleared (x ∷ xs) (suc q) = stage_cleared xs q

cleared_if : (agents : ℕ) (xs : List PortFacts) (q : ℕ) (b : Bool) → IsOfAgent agents (get_or xs q idle_port).stage →
    IsOfAgent agents (get_or (if b then cleared xs else xs) q idle_port).stage
cleared_if agents xs q true h = subst (IsOfAgent agents) (sym (stage_cleared xs q)) h
cleared_if agents xs q false h = h

one_port : (w : WorldFacts) (p : ℕ) (x : PortFacts) → p < length w.ports → IsOfAgent w.agents x.stage → AreDrawnByAgents w → AreDrawnByAgents (with_port w p x)
one_port w p x lt new h = λ q. port_set (λ y. IsOfAgent w.agents y.stage) w.ports p x q lt (λ e. new) (h q)

by_post : (w : WorldFacts) (p : ℕ) (run : Option Run) → p < length w.ports → AreDrawnByAgents w → AreDrawnByAgents (posted w p run)
by_post w p None lt h = h
by_post w p (Some r) lt h = one_port w p
    (record (port_at w p) { slot = r.first; flow = unwrap_or (grant_in w.opening.table.flows r.granted p) 0; stage = granted; count = r.slots }) lt tt h

by_settle : (agents : ℕ) (x : PortFacts) (stage : PortStage) → x.stage ≡ stage → IsOfAgent agents x.stage → IsOfAgent agents (settled_by x stage).stage
by_settle agents x (reported agent units) is h = h
by_settle agents x granted is h = tt
by_settle agents x stage is h = h

moved_drawn : (w : WorldFacts) (e : Event) → length w.ports ≡ w.opening.table.ports → can w e ≡ true → AreDrawnByAgents w → AreDrawnByAgents (moved w e)
moved_drawn w (Ask who k) wide may h = λ q. cleared_if w.agents w.ports q (is_opened (reply_of w.opening w.journal k)) (h q)
moved_drawn w (Note p) wide may h = λ q. cleared_if w.agents w.ports q (is_opened (reply_of w.opening w.journal (settled_note w p))) (h q)
moved_drawn w Close wide may h = λ q. cleared_if w.agents w.ports q (is_opened (reply_of w.opening w.journal CloseRun)) (h q)
moved_drawn w (Send agent p units) wide may h = h
moved_drawn w (Post p) wide may h = by_post w p (run_of w) (omega (arith, wide, ltb-true p w.opening.table.ports (and_first (nat_lt p w.opening.table.ports) _ may))) h
moved_drawn w (Settle p) wide may h =
    one_port w p (settled_by (port_at w p) (port_at w p).stage) (omega (arith, wide, ltb-true p w.opening.table.ports (and_first (nat_lt p w.opening.table.ports) _ may)))
    (by_settle w.agents (port_at w p) (port_at w p).stage refl (h p)) h
moved_drawn w (Draw agent p) wide may h =
    let parts = and_parts (nat_lt p w.opening.table.ports) (nat_lt agent w.agents && is_granted (port_at w p).stage) may in
    one_port w p (record (port_at w p) { stage = drawn agent }) (omega (arith, wide, ltb-true p w.opening.table.ports parts.0))
    (ltb-true agent w.agents (and_parts (nat_lt agent w.agents) (is_granted (port_at w p).stage) parts.1).0) h
moved_drawn w (Report agent p) wide may h =
    let parts = and_parts (nat_lt p w.opening.table.ports) (nat_lt agent w.agents && is_drawn_by agent (port_at w p).stage) may in
    one_port w p (record (port_at w p) { stage = reported agent (sent_at w p); count = sent_at w p }) (omega (arith, wide, ltb-true p w.opening.table.ports parts.0))
    (ltb-true agent w.agents (and_parts (nat_lt agent w.agents) (is_drawn_by agent (port_at w p).stage) parts.1).0) h

step_by : (w : WorldFacts) (e : Event) (b : Bool) → length w.ports ≡ w.opening.table.ports → can w e ≡ b → AreDrawnByAgents w → AreDrawnByAgents (if b then moved w e else w)
step_by w e true wide may h = moved_drawn w e wide may h
step_by w e false wide may h = h

pub step_drawn : (w : WorldFacts) (e : Event) → IsWorld w → AreDrawnByAgents w → AreDrawnByAgents (world_after w e)
step_drawn w e ok h = step_by w e (can w e) ok.kept.wide refl h

-- ---- lists of steps

steps_drawn : (w : WorldFacts) (es : List Event) → IsWorld w → AreDrawnByAgents w → AreDrawnByAgents (world_of w es)
steps_drawn w [] ok h = h
steps_drawn w (e ∷ es) ok h = steps_drawn (world_after w e) es (step_keeps w e ok) (step_drawn w e ok h)

idle_all : (agents n q : ℕ) → IsOfAgent agents (get_or (replicate n idle_port) q idle_port).stage
idle_all agents zero q = tt
idle_all agents (suc n) zero = tt
idle_all agents (suc n) (suc q) = idle_all agents n q

pub drawn_by_agents : (o : Opening) (agents : ℕ) (events : List Event) → IsOpening o → AreDrawnByAgents (world_of (new_world o agents) events)
drawn_by_agents o agents events ok = steps_drawn (new_world o agents) events (new_is_world o agents ok) (idle_all agents o.table.ports)
