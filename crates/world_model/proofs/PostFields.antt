-- What the fields of a world tell of a post, and how the world changes with it.
use Rattle.std.proofs.Common.{◌≡◌, ◌≢◌, ℕ, ◌<◌, true, false, List, get_or, refl, sym, ap, ◌∙◌, arith}
use Rattle.std.proofs.Common.{Option, Some, None, unwrap_or, is_some, inl, inr}
use Rattle.std.specs.Prelude.{nat_lt, ◌&&◌, not, slice_set}
use Rattle.std.proofs.lemmas.Bool.{and_from, eq-eqb, ne_eqb, lt-ltb}
use Rattle.coflow_units.specs.declared.fabric.Flow.{Flow}
use Rattle.coflow_units.specs.PortWord.PortStage.{granted}
use Rattle.journal.specs.State.{Run}
use Rattle.journal.specs.Runs.{flow_at, grant_in, slots_of}
use Rattle.journal.specs.Fold.{state_of}
use Rattle.master_core.specs.Master.{MasterFacts}
use Rattle.journal.specs.Sound.{OnRun}
use Rattle.world_model.specs.declared.event.Event.TheVariants.{Post}
use Rattle.world_model.specs.declared.port.Stage.TheVariants.{Granted}
use Rattle.world_model.specs.declared.port.PortState.{PortState}
use Rattle.world_model.specs.declared.event.SentRun.{SentRun}
use Rattle.world_model.specs.Port.{PortFacts}
use Rattle.world_model.specs.Sent.{sent_for}
use Rattle.world_model.specs.World.{WorldFacts, port_at, run_of, world_facts}
use Rattle.world_model.specs.Guards.{can, in_run, is_posted}
use Rattle.world_model.specs.Steps.{moved, posted, with_port}
use Rattle.world_model.specs.Kept.{IsPort, TellsSent}
use Rattle.world_model.specs.Lawful.{IsWorld}
use Rattle.world_model.proofs.Tallies.{tells_set}
use Rattle.world_model.proofs.Events.{sound_of}
use Rattle.world_model.proofs.Fields.{and_no, first_is_next, no_slots, port_changed, port_read, ports_wide, some_same}

post_in_run : (flows : List Flow) (run : Option Run) (p next slots flow : ℕ) (y : PortFacts) → OnRun run (λ r. r.first ≡ next) → Some slots ≡ slots_of run →
    Some flow ≡ flow_at flows run p → y.slot ≢ next →
    in_run run (λ r. is_some (grant_in flows r.granted p) && not (is_posted r y)) ≡ true
post_in_run flows None p next slots flow y first opens there other = no_slots slots opens
post_in_run flows (Some r) p next slots flow y first opens there other =
    and_from (is_some (grant_in flows r.granted p)) (not (is_posted r y)) (ap is_some (sym there)) (ap not (ne_eqb y.slot r.first (λ e. other (e ∙ first))))

post_again : (flows : List Flow) (run : Option Run) (p next : ℕ) (y : PortFacts) → OnRun run (λ r. r.first ≡ next) → y.slot ≡ next →
    in_run run (λ r. is_some (grant_in flows r.granted p) && not (is_posted r y)) ≡ false
post_again flows None p next y first same = refl
post_again flows (Some r) p next y first same = and_no (is_some (grant_in flows r.granted p)) (not (is_posted r y)) (ap not (eq-eqb y.slot r.first (same ∙ sym first)))

pub may_post : (m : MasterFacts) (agents : ℕ) (xs : List PortState) (sent : List SentRun) (p slots flow next : ℕ) (x : PortState) → IsWorld (world_facts m agents xs sent) →
    p < m.opening.table.ports → x ≡ get_or xs p x →
    Some slots ≡ slots_of (state_of m.opening m.journal).run → Some flow ≡ flow_at m.opening.table.flows (state_of m.opening m.journal).run p →
    next ≡ (state_of m.opening m.journal).next → x.slot ≢ next →
    can (world_facts m agents xs sent) (Post p) ≡ true
may_post m agents xs sent p slots flow next x h low is opens there at other =
    let w = world_facts m agents xs sent in
    let s = state_of m.opening m.journal in
    let read : x.slot ≡ (port_at w p).slot = ap (λ (z : PortFacts). z.slot) (port_read m agents xs sent p x h low is) in
    and_from (nat_lt p m.opening.table.ports) (in_run (run_of w) (λ r. is_some (grant_in m.opening.table.flows r.granted p) && not (is_posted r (port_at w p))))
    (lt-ltb p m.opening.table.ports low)
    (post_in_run m.opening.table.flows s.run p s.next slots flow (port_at w p) (first_is_next m.opening.table.flows s.sent s.next s.run (sound_of w h)) opens there
    (λ e. other (read ∙ e ∙ sym at)))

pub posted_before : (m : MasterFacts) (agents : ℕ) (xs : List PortState) (sent : List SentRun) (p next : ℕ) (x : PortState) → IsWorld (world_facts m agents xs sent) →
    p < m.opening.table.ports → x ≡ get_or xs p x →
    next ≡ (state_of m.opening m.journal).next → x.slot ≡ next → can (world_facts m agents xs sent) (Post p) ≡ false
posted_before m agents xs sent p next x h low is at same =
    let w = world_facts m agents xs sent in
    let s = state_of m.opening m.journal in
    let read : x.slot ≡ (port_at w p).slot = ap (λ (z : PortFacts). z.slot) (port_read m agents xs sent p x h low is) in
    and_no (nat_lt p m.opening.table.ports) (in_run (run_of w) (λ r. is_some (grant_in m.opening.table.flows r.granted p) && not (is_posted r (port_at w p))))
    (post_again m.opening.table.flows s.run p s.next (port_at w p) (first_is_next m.opening.table.flows s.sent s.next s.run (sound_of w h)) (sym read ∙ same ∙ at))

nothing_there : (flows : List Flow) (next : ℕ) (run : Option Run) (sent : List SentRun) (p slots : ℕ) (y : PortFacts) → OnRun run (λ r. r.first ≡ next) →
    Some slots ≡ slots_of run → y.slot ≢ next → IsPort flows next run sent p y → sent_for sent p next ≡ 0
nothing_there flows next None sent p slots y first opens other h = no_slots slots opens
nothing_there flows next (Some r) sent p slots y first opens other (inl x, n) = ap (sent_for sent p) (sym first) ∙ x.3
nothing_there flows next (Some r) sent p slots y first opens other (inr x, n) = absurd (other (x.0 ∙ first))

-- where the port was not posted in the run, a post tells that nothing was sent for it
pub tells_posted : (m : MasterFacts) (agents : ℕ) (xs : List PortState) (sent : List SentRun) (p slots flow next : ℕ) (x : PortState) → IsWorld (world_facts m agents xs sent) →
    TellsSent xs sent → p < m.opening.table.ports → x ≡ get_or xs p x →
    Some slots ≡ slots_of (state_of m.opening m.journal).run → next ≡ (state_of m.opening m.journal).next → x.slot ≢ next →
    TellsSent (slice_set xs p (record { slot = next; flow = flow; stage = Granted; count = slots; settled = x.settled; sent = 0 })) sent
tells_posted m agents xs sent p slots flow next x h tells low is opens at other =
    let w = world_facts m agents xs sent in
    let s = state_of m.opening m.journal in
    let read : x.slot ≡ (port_at w p).slot = ap (λ (z : PortFacts). z.slot) (port_read m agents xs sent p x h low is) in
    let none = nothing_there m.opening.table.flows s.next s.run sent p slots (port_at w p) (first_is_next m.opening.table.flows s.sent s.next s.run (sound_of w h)) opens
    (λ e. other (read ∙ e ∙ sym at)) (h.kept.port p low) in
    tells_set xs sent p (record { slot = next; flow = flow; stage = Granted; count = slots; settled = x.settled; sent = 0 }) tells
    (omega (arith, ports_wide m agents xs sent h, low)) (sym (ap (sent_for sent p) at ∙ none))

abbrev post_at : WorldFacts → ℕ → PortFacts → ℕ → ℕ → ℕ → WorldFacts
post_at w p y slot flow count = with_port w p (record y { slot = slot; flow = flow; stage = granted; count = count })

posted_is : (w : WorldFacts) (p : ℕ) (run : Option Run) (next slots flow : ℕ) → OnRun run (λ r. r.first ≡ next) → Some slots ≡ slots_of run →
    Some flow ≡ flow_at w.opening.table.flows run p →
    post_at w p (port_at w p) next flow slots ≡ posted w p run
posted_is w p None next slots flow first opens there = no_slots slots opens
posted_is w p (Some r) next slots flow first opens there =
    ap (λ n. post_at w p (port_at w p) n flow slots) (sym first) ∙ ap (λ n. post_at w p (port_at w p) r.first flow n) (some_same slots r.slots opens)
    ∙ ap (λ (o : Option ℕ). post_at w p (port_at w p) r.first (unwrap_or o 0) r.slots) there

pub posted_world : (m : MasterFacts) (agents : ℕ) (xs : List PortState) (sent : List SentRun) (p slots flow next : ℕ) (x : PortState) → IsWorld (world_facts m agents xs sent) →
    p < m.opening.table.ports → x ≡ get_or xs p x →
    Some slots ≡ slots_of (state_of m.opening m.journal).run → Some flow ≡ flow_at m.opening.table.flows (state_of m.opening m.journal).run p →
    next ≡ (state_of m.opening m.journal).next →
    world_facts m agents (slice_set xs p (record { slot = next; flow = flow; stage = Granted; count = slots; settled = x.settled; sent = 0 })) sent ≡
    moved (world_facts m agents xs sent) (Post p)
posted_world m agents xs sent p slots flow next x h low is opens there at =
    let w = world_facts m agents xs sent in
    let s = state_of m.opening m.journal in
    let read = port_read m agents xs sent p x h low is in
    port_changed m agents xs sent p (record { slot = next; flow = flow; stage = Granted; count = slots; settled = x.settled; sent = 0 })
    (record (port_at w p) { slot = next; flow = flow; stage = granted; count = slots })
    (ap (λ (y : PortFacts). record y { slot = next; flow = flow; stage = granted; count = slots }) read)
    ∙ ap (λ n. post_at w p (port_at w p) n flow slots) at ∙ posted_is w p s.run s.next slots flow (first_is_next m.opening.table.flows s.sent s.next s.run (sound_of w h)) opens
    there
