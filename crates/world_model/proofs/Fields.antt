-- What the fields of a world tell of it, and how the world changes with them.
use Rattle.std.proofs.Common.{◌≡◌, ◌≢◌, ℕ, ◌≤◌, ◌<◌, ◌^◌, Bool, true, false, List, [], ◌∷◌, ◌++◌, length, map, get_or, replicate, refl, sym, ap, subst, ◌∙◌, arith, zero, suc}
use Rattle.std.proofs.Common.{Option, Some, None, unwrap_or, is_some, is_none, inl, inr}
use Rattle.std.specs.Prelude.{if◌then◌else◌, nat_lt, nat_le, ◌==◌, ◌&&◌, not, slice_set}
use Rattle.std.specs.List.{list_all, range_with_len}
use Rattle.std.proofs.lemmas.Bool.{and_from, and_parts, eq-eqb, ne_eqb, le-leb, lt-ltb, ltb-true}
use Rattle.std.proofs.lemmas.List.{get_or-map, get_or_default, length-map, map-set}
use Rattle.std.proofs.Math.Seq.{map-set_same}
use Rattle.std.proofs.lemmas.List.Elements.{All-contains}
use Rattle.std.proofs.lemmas.List.FromFn.{get_or-range_with_len, length-range_with_len}
use Rattle.std.proofs.lemmas.List.Folds.{list_all_at}
use Rattle.std.proofs.lemmas.List.Sums.{list_all-from_AllPass}
use Rattle.coflow_units.specs.declared.fabric.Flow.{Flow}
use Rattle.coflow_units.specs.PortWord.{is_drawn_by, is_granted}
use Rattle.coflow_units.specs.PortWord.PortStage.{drawn, reported}
use Rattle.journal.specs.declared.command.Entry.{Entry}
use Rattle.journal.specs.declared.command.Command.TheVariants.{Short}
use Rattle.journal.specs.declared.opening.Opening.{Opening}
use Rattle.journal.specs.State.{Run}
use Rattle.journal.specs.Runs.{slots_of}
use Rattle.journal.specs.Fold.{state_of}
use Rattle.master_core.specs.Master.{MasterFacts}
use Rattle.journal.specs.Sound.{IsSound, OnRun}
use Rattle.world_model.specs.declared.event.Event.{Event}
use Rattle.world_model.specs.declared.event.Event.TheVariants.{Draw, Send, Report, Settle, Note}
use Rattle.world_model.specs.declared.event.Happened.{Happened}
use Rattle.world_model.specs.declared.event.Happened.TheVariants.{Blocked}
use Rattle.world_model.specs.declared.port.Stage.TheVariants.{Drawn, Reported}
use Rattle.world_model.specs.declared.port.PortState.{PortState}
use Rattle.world_model.specs.declared.event.SentRun.{SentRun}
use Rattle.world_model.specs.Port.{PortFacts, answered_by, idle_port, port_of, ports_of, settled_by, stage_of}
use Rattle.world_model.specs.Sent.{sent_for}
use Rattle.world_model.specs.World.{WorldFacts, new_world, port_at, run_of, world_facts}
use Rattle.world_model.specs.Guards.{can, in_run, is_posted, is_short}
use Rattle.world_model.specs.Steps.{answered, cleared, happened, moved, sent_at, settled_note, with_port, world_after}
use Rattle.world_model.specs.Kept.{IsPort, TellsSent}
use Rattle.world_model.specs.Lawful.{IsWorld}
use Rattle.journal.proofs.Replies.{no_way}
use Rattle.journal.proofs.Ingresses.{grant_is}
use Rattle.world_model.proofs.Tallies.{tells_read, tells_sent, tells_set, unsettled}
use Rattle.world_model.proofs.Events.{sound_of}

-- ---- steps that may be taken, and others

pub stepped : (w w' : WorldFacts) (e : Event) → can w e ≡ true → w' ≡ moved w e → w' ≡ world_after w e
stepped w w' e may is = is ∙ sym (ap (λ b. if b then moved w e else w) may)

pub told : (w : WorldFacts) (e : Event) (x : Happened) → can w e ≡ true → x ≡ answered w e → x ≡ happened w e
told w e x may is = is ∙ sym (ap (λ b. if b then answered w e else Blocked) may)

pub stays : (w : WorldFacts) (e : Event) → can w e ≡ false → w ≡ world_after w e
stays w e not = sym (ap (λ b. if b then moved w e else w) not)

pub blocked : (w : WorldFacts) (e : Event) → can w e ≡ false → Blocked ≡ happened w e
blocked w e not = sym (ap (λ b. if b then answered w e else Blocked) not)

-- ---- ports

-- there is a port for each ingress
pub ports_wide : (m : MasterFacts) (agents : ℕ) (xs : List PortState) (sent : List SentRun) → IsWorld (world_facts m agents xs sent) → length xs ≡ m.opening.table.ports
ports_wide m agents xs sent h = sym (length-map xs port_of) ∙ h.kept.wide

pub port_read : (m : MasterFacts) (agents : ℕ) (xs : List PortState) (sent : List SentRun) (p : ℕ) (x : PortState) → IsWorld (world_facts m agents xs sent) →
    p < m.opening.table.ports → x ≡ get_or xs p x → port_of x ≡ port_at (world_facts m agents xs sent) p
port_read m agents xs sent p x h lt is = ap port_of is ∙ sym (get_or-map port_of xs p x idle_port (omega (arith, ports_wide m agents xs sent h, lt)))

-- two readings of one place are the same
pub same_read : (xs : List PortState) (p : ℕ) (x y : PortState) → p < length xs → x ≡ get_or xs p x → y ≡ get_or xs p y → x ≡ y
same_read xs p x y lt ex ey = ex ∙ get_or_default xs p x y lt ∙ sym ey

-- a port keeps its last post and what was sent for it
pub tells_stays : (m : MasterFacts) (agents : ℕ) (xs : List PortState) (sent : List SentRun) (p : ℕ) (x y : PortState) → IsWorld (world_facts m agents xs sent) →
    TellsSent xs sent → p < m.opening.table.ports → x ≡ get_or xs p x →
    y.slot ≡ x.slot → y.sent ≡ x.sent → TellsSent (slice_set xs p y) sent
tells_stays m agents xs sent p x y h tells low is slot same =
    let lt : p < length xs = omega (arith, ports_wide m agents xs sent h, low) in
    tells_set xs sent p y tells lt (same ∙ tells_read xs sent p x tells lt is ∙ ap (sent_for sent p) (sym slot))

-- what is kept beside a port is what was sent for its last post
pub tells_at : (m : MasterFacts) (agents : ℕ) (xs : List PortState) (sent : List SentRun) (p : ℕ) (x : PortState) → IsWorld (world_facts m agents xs sent) → TellsSent xs sent →
    p < m.opening.table.ports → x ≡ get_or xs p x → x.sent ≡ sent_for sent p x.slot
tells_at m agents xs sent p x h tells low is = tells_read xs sent p x tells (omega (arith, ports_wide m agents xs sent h, low)) is

abbrev with_ports : MasterFacts → ℕ → List SentRun → List PortFacts → WorldFacts
with_ports m agents sent l = record { opening = m.opening; journal = m.journal; agents = agents; ports = l; sent = sent }

pub port_changed : (m : MasterFacts) (agents : ℕ) (xs : List PortState) (sent : List SentRun) (p : ℕ) (x : PortState) (y : PortFacts) → port_of x ≡ y →
    world_facts m agents (slice_set xs p x) sent ≡ with_port (world_facts m agents xs sent) p y
port_changed m agents xs sent p x y is = ap (with_ports m agents sent) (map-set port_of xs p x ∙ ap (slice_set (ports_of xs) p) is)

-- ---- the open run, and the next slot

pub first_is_next : (flows : List Flow) (credited : ℕ → ℕ) (next : ℕ) (run : Option Run) → IsSound flows credited next run → OnRun run (λ r. r.first ≡ next)
first_is_next flows credited next None h = tt
first_is_next flows credited next (Some r) h = h.open_run.first

pub and_no : (a b : Bool) → b ≡ false → (a && b) ≡ false
and_no true b e = e
and_no false b e = refl

pub some_same : (m n : ℕ) → ◌≡◌ {A = Option ℕ} (Some m) (Some n) → m ≡ n
some_same m n e = ap (λ (o : Option ℕ). unwrap_or o 0) e

pub no_slots : {A : Type 0} (n : ℕ) → ◌≡◌ {A = Option ℕ} (Some n) None → A
no_slots n e = no_way (sym (ap is_some e))

-- ---- a draw

pub may_draw : (m : MasterFacts) (agents : ℕ) (xs : List PortState) (sent : List SentRun) (a p : ℕ) (x : PortState) → IsWorld (world_facts m agents xs sent) →
    p < m.opening.table.ports → a < agents →
    x ≡ get_or xs p x → is_granted (stage_of x.stage) ≡ true → can (world_facts m agents xs sent) (Draw a p) ≡ true
may_draw m agents xs sent a p x h low few is waits =
    let w = world_facts m agents xs sent in
    and_from (nat_lt p m.opening.table.ports) (nat_lt a agents && is_granted (port_at w p).stage) (lt-ltb p m.opening.table.ports low)
    (and_from (nat_lt a agents) (is_granted (port_at w p).stage) (lt-ltb a agents few) (ap (λ (y : PortFacts). is_granted y.stage) (sym (port_read m agents xs sent p x h low is)) ∙
    waits))

pub drawn_world : (m : MasterFacts) (agents : ℕ) (xs : List PortState) (sent : List SentRun) (a p : ℕ) (x : PortState) → IsWorld (world_facts m agents xs sent) →
    p < m.opening.table.ports → x ≡ get_or xs p x →
    world_facts m agents (slice_set xs p (record x { stage = Drawn a })) sent ≡ moved (world_facts m agents xs sent) (Draw a p)
drawn_world m agents xs sent a p x h low is =
    let w = world_facts m agents xs sent in
    port_changed m agents xs sent p (record x { stage = Drawn a }) (record (port_at w p) { stage = drawn a })
    (ap (λ (y : PortFacts). record y { stage = drawn a }) (port_read m agents xs sent p x h low is))

-- ---- a report

pub low_report : (w : WorldFacts) (a p : ℕ) → can w (Report a p) ≡ true → (p < w.opening.table.ports) × (is_drawn_by a (port_at w p).stage ≡ true)
low_report w a p may =
    let (low, more) = and_parts (nat_lt p w.opening.table.ports) (nat_lt a w.agents && is_drawn_by a (port_at w p).stage) may in
    (ltb-true p w.opening.table.ports low, (and_parts (nat_lt a w.agents) (is_drawn_by a (port_at w p).stage) more).1)

pub reported_world : (m : MasterFacts) (agents : ℕ) (xs : List PortState) (sent : List SentRun) (a p n : ℕ) (x : PortState) → IsWorld (world_facts m agents xs sent) →
    p < m.opening.table.ports → x ≡ get_or xs p x → n ≡ sent_for sent p x.slot →
    world_facts m agents (slice_set xs p (record x { stage = Reported a n; count = n; sent = n })) sent ≡ moved (world_facts m agents xs sent) (Report a p)
reported_world m agents xs sent a p n x h low is count =
    let w = world_facts m agents xs sent in
    let read = port_read m agents xs sent p x h low is in
    let same : n ≡ sent_at w p = count ∙ ap (λ (z : PortFacts). sent_for sent p z.slot) read in
    port_changed m agents xs sent p (record x { stage = Reported a n; count = n; sent = n }) (record (port_at w p) { stage = reported a (sent_at w p); count = sent_at w p })
    (ap (λ (y : PortFacts). record y { stage = reported a n; count = n }) read ∙ ap (λ k. record (port_at w p) { stage = reported a k; count = k }) same)

-- ---- a sending

may_send : (m : MasterFacts) (agents : ℕ) (xs : List PortState) (sent : List SentRun) (a p u : ℕ) (x : PortState) → IsWorld (world_facts m agents xs sent) →
    can (world_facts m agents xs sent) (Report a p) ≡ true →
    x ≡ get_or xs p x → sent_for sent p x.slot ≡ 0 → 0 < u → u ≤ x.count → can (world_facts m agents xs sent) (Send a p u) ≡ true
may_send m agents xs sent a p u x h may is none some fits =
    let w = world_facts m agents xs sent in
    let y = port_at w p in
    let (low, more) = and_parts (nat_lt p w.opening.table.ports) (nat_lt a w.agents && is_drawn_by a (port_at w p).stage) may in
    let (few, drew) = and_parts (nat_lt a w.agents) (is_drawn_by a (port_at w p).stage) more in
    let read = port_read m agents xs sent p x h (ltb-true p w.opening.table.ports low) is in
    let none' : sent_for sent p y.slot ≡ 0 = ap (λ (z : PortFacts). sent_for sent p z.slot) (sym read) ∙ none in
    let fits' : u ≤ y.count = omega (arith, fits, ap (λ (z : PortFacts). z.count) read) in
    let last = and_from (nat_lt 0 u) (nat_le u y.count) (lt-ltb 0 u some) (le-leb u y.count fits') in
    let empty = and_from (sent_for sent p y.slot == 0) (nat_lt 0 u && nat_le u y.count) (eq-eqb (sent_for sent p y.slot) 0 none') last in
    let drawn_by = and_from (is_drawn_by a y.stage) ((sent_for sent p y.slot == 0) && (nat_lt 0 u && nat_le u y.count)) drew empty in
    and_from (nat_lt p w.opening.table.ports) (nat_lt a w.agents && (is_drawn_by a y.stage && ((sent_for sent p y.slot == 0) && (nat_lt 0 u && nat_le u y.count)))) low
    (and_from (nat_lt a w.agents) (is_drawn_by a y.stage && ((sent_for sent p y.slot == 0) && (nat_lt 0 u && nat_le u y.count))) few drawn_by)

sent_world : (m : MasterFacts) (agents : ℕ) (xs : List PortState) (sent new : List SentRun) (a p u : ℕ) (x : PortState) → IsWorld (world_facts m agents xs sent) →
    p < m.opening.table.ports → x ≡ get_or xs p x →
    new ≡ sent ++ record { slot = x.slot; flow = x.flow; units = u; port = p } ∷ [] →
    world_facts m agents (slice_set xs p (record x { sent = u })) new ≡ moved (world_facts m agents xs sent) (Send a p u)
sent_world m agents xs sent new a p u x h low is more =
    ap (with_ports m agents new) (map-set_same port_of xs p (record x { sent = u }) x (ap port_of is)) ∙
    ap (world_facts m agents xs) (more ∙
    ap (λ (z : PortFacts). sent ++ record { slot = z.slot; flow = z.flow; units = u; port = p } ∷ []) (port_read m agents xs sent p x h low is))

-- the first run is sent for a post, read twice, and the port changes by its units
pub send_step : (m : MasterFacts) (agents : ℕ) (xs : List PortState) (sent new : List SentRun) (a p u : ℕ) (x y : PortState) → IsWorld (world_facts m agents xs sent) →
    TellsSent xs sent → can (world_facts m agents xs sent) (Report a p) ≡ true →
    x ≡ get_or xs p x → y ≡ get_or xs p y → x.sent ≤ 0 → u ≢ 0 → u ≤ x.count → new ≡ sent ++ record { slot = x.slot; flow = x.flow; units = u; port = p } ∷ [] →
    (can (world_facts m agents xs sent) (Send a p u) ≡ true) ×
    (world_facts m agents (slice_set xs p (record y { sent = u })) new ≡ moved (world_facts m agents xs sent) (Send a p u)) ×
    TellsSent (slice_set xs p (record y { sent = u })) new
send_step m agents xs sent new a p u x y h tells may is again none some fits more =
    let low = (low_report (world_facts m agents xs sent) a p may).0 in
    let lt : p < length xs = omega (arith, ports_wide m agents xs sent h, low) in
    let same = same_read xs p x y lt is again in
    let here : sent_for sent p x.slot ≡ 0 = omega (arith, tells_read xs sent p x tells lt is, none) in
    let empty : y.sent ≡ 0 = omega (arith, ap (λ (z : PortState). z.sent) same, none) in
    let more' : new ≡ sent ++ record { slot = y.slot; flow = y.flow; units = u; port = p } ∷ [] =
    more ∙ ap (λ (z : PortState). sent ++ record { slot = z.slot; flow = z.flow; units = u; port = p } ∷ []) same in (
      may_send m agents xs sent a p u x h may is here (omega (arith, some)) fits,
      sent_world m agents xs sent new a p u y h low again more',
      tells_sent xs sent new p u y tells lt again empty more',
    )

-- ---- a settling

settle_in_run : (run : Option Run) (next : ℕ) (y : PortFacts) → OnRun run (λ r. r.first ≡ next) → is_none (slots_of run) ≡ false → y.slot ≡ next → is_none y.settled ≡ true →
    in_run run (λ r. is_posted r y && is_none y.settled) ≡ true
settle_in_run None next y first opens same none = no_way (sym opens)
settle_in_run (Some r) next y first opens same none = and_from (is_posted r y) (is_none y.settled) (eq-eqb y.slot r.first (same ∙ sym first)) none

no_left : (a b : Bool) → a ≡ false → (a && b) ≡ false
no_left a b e = ap (λ c. c && b) e

settle_other : (run : Option Run) (next : ℕ) (y : PortFacts) → OnRun run (λ r. r.first ≡ next) → y.slot ≢ next → in_run run (λ r. is_posted r y && is_none y.settled) ≡ false
settle_other None next y first other = refl
settle_other (Some r) next y first other = no_left (is_posted r y) (is_none y.settled) (ne_eqb y.slot r.first (λ e. other (e ∙ first)))

none_if_not : (o : Option ℕ) → is_some o ≡ false → is_none o ≡ true
none_if_not None e = refl
none_if_not (Some n) e = no_way (sym e)

pub may_settle : (m : MasterFacts) (agents : ℕ) (xs : List PortState) (sent : List SentRun) (p next : ℕ) (x : PortState) → IsWorld (world_facts m agents xs sent) →
    p < m.opening.table.ports → x ≡ get_or xs p x →
    is_none (slots_of (state_of m.opening m.journal).run) ≡ false → next ≡ (state_of m.opening m.journal).next → x.slot ≡ next → is_some x.settled ≡ false →
    can (world_facts m agents xs sent) (Settle p) ≡ true
may_settle m agents xs sent p next x h low is opens at same none =
    let w = world_facts m agents xs sent in
    let s = state_of m.opening m.journal in
    let read = port_read m agents xs sent p x h low is in
    and_from (nat_lt p m.opening.table.ports) (in_run (run_of w) (λ r. is_posted r (port_at w p) && is_none (port_at w p).settled)) (lt-ltb p m.opening.table.ports low)
    (settle_in_run s.run s.next (port_at w p) (first_is_next m.opening.table.flows s.sent s.next s.run (sound_of w h)) opens (ap (λ (z : PortFacts). z.slot) (sym read) ∙ same ∙ at)
    (ap (λ (z : PortFacts). is_none z.settled) (sym read) ∙ none_if_not x.settled none))

pub settle_not_posted : (m : MasterFacts) (agents : ℕ) (xs : List PortState) (sent : List SentRun) (p next : ℕ) (x : PortState) → IsWorld (world_facts m agents xs sent) →
    p < m.opening.table.ports → x ≡ get_or xs p x →
    next ≡ (state_of m.opening m.journal).next → x.slot ≢ next → can (world_facts m agents xs sent) (Settle p) ≡ false
settle_not_posted m agents xs sent p next x h low is at other =
    let w = world_facts m agents xs sent in
    let s = state_of m.opening m.journal in
    let read : x.slot ≡ (port_at w p).slot = ap (λ (z : PortFacts). z.slot) (port_read m agents xs sent p x h low is) in
    and_no (nat_lt p m.opening.table.ports) (in_run (run_of w) (λ r. is_posted r (port_at w p) && is_none (port_at w p).settled))
    (settle_other s.run s.next (port_at w p) (first_is_next m.opening.table.flows s.sent s.next s.run (sound_of w h)) (λ e. other (read ∙ e ∙ sym at)))

post_fits : (o : Opening) (credited : ℕ → ℕ) (next : ℕ) (run : Option Run) (sent : List SentRun) (p : ℕ) (y : PortFacts) → length o.table.flows ≤ 2 ^ 20 →
    IsSound o.table.flows credited next run → IsPort o.table.flows next run sent p y →
    is_none (slots_of run) ≡ false → y.slot ≡ next → (y.slot < 2199023255552) × (y.flow < 1048576)
post_fits o credited next None sent p y few sound h opens same = no_way (sym opens)
post_fits o credited next (Some r) sent p y few sound (inl x, n) opens same = absurd (omega (arith, x.1, same, sound.open_run.first))
post_fits o credited next (Some r) sent p y few sound (inr x, n) opens same =
    let low = sound.open_run.clear.flow in
    let in' = (grant_is o.table.flows r.granted p y.flow x.1).0 in
    (omega (arith, x.0, sound.open_run.ends, sound.open_run.some), omega (arith, few, All-contains (λ f. f < length o.table.flows) r.granted y.flow low in'))

-- the word of a post of the open run has room for its slot and its flow
pub settle_fits : (m : MasterFacts) (agents : ℕ) (xs : List PortState) (sent : List SentRun) (p next : ℕ) (x : PortState) → IsWorld (world_facts m agents xs sent) →
    p < m.opening.table.ports → x ≡ get_or xs p x →
    is_none (slots_of (state_of m.opening m.journal).run) ≡ false → next ≡ (state_of m.opening m.journal).next → x.slot ≡ next → (x.slot < 2199023255552) × (x.flow < 1048576)
settle_fits m agents xs sent p next x h low is opens at same =
    let w = world_facts m agents xs sent in
    let s = state_of m.opening m.journal in
    let read = port_read m agents xs sent p x h low is in
    subst (λ (z : PortFacts). (z.slot < 2199023255552) × (z.flow < 1048576)) (sym read)
    (post_fits m.opening s.sent s.next s.run sent p (port_at w p) h.opening.table.few_flows (sound_of w h) (h.kept.port p low) opens
    (ap (λ (z : PortFacts). z.slot) (sym read) ∙ same ∙ at))

pub settled_world : (m : MasterFacts) (agents : ℕ) (xs : List PortState) (sent : List SentRun) (p : ℕ) (x y : PortState) → IsWorld (world_facts m agents xs sent) →
    p < m.opening.table.ports → x ≡ get_or xs p x →
    port_of y ≡ settled_by (port_of x) (stage_of x.stage) → world_facts m agents (slice_set xs p y) sent ≡ moved (world_facts m agents xs sent) (Settle p)
settled_world m agents xs sent p x y h low is made =
    let w = world_facts m agents xs sent in
    port_changed m agents xs sent p y (settled_by (port_at w p) (port_at w p).stage) (made ∙ ap (λ (z : PortFacts). settled_by z z.stage) (port_read m agents xs sent p x h low is))

pub settled_answer : (m : MasterFacts) (agents : ℕ) (xs : List PortState) (sent : List SentRun) (p : ℕ) (x : PortState) → IsWorld (world_facts m agents xs sent) →
    p < m.opening.table.ports → x ≡ get_or xs p x →
    answered_by (port_of x) (stage_of x.stage) ≡ answered (world_facts m agents xs sent) (Settle p)
settled_answer m agents xs sent p x h low is = ap (λ (z : PortFacts). answered_by z z.stage) (port_read m agents xs sent p x h low is)

-- ---- a note

note_in_run : (run : Option Run) (y : PortFacts) (slots units : ℕ) → Some slots ≡ slots_of run → y.settled ≡ Some units → units < slots → in_run run (λ r. is_short r y) ≡ true
note_in_run None y slots units opens settled lt = no_slots slots opens
note_in_run (Some r) y slots units opens settled lt =
    let same = some_same slots r.slots opens in
    ap (λ (o : Option ℕ). is_some o && nat_lt (unwrap_or o 0) r.slots) settled ∙ lt-ltb units r.slots (omega (arith, same, lt))

pub may_note : (m : MasterFacts) (agents : ℕ) (xs : List PortState) (sent : List SentRun) (p slots units : ℕ) (x : PortState) → IsWorld (world_facts m agents xs sent) →
    p < m.opening.table.ports → x ≡ get_or xs p x →
    Some slots ≡ slots_of (state_of m.opening m.journal).run → x.settled ≡ Some units → units < slots → can (world_facts m agents xs sent) (Note p) ≡ true
may_note m agents xs sent p slots units x h low is opens settled lt =
    let w = world_facts m agents xs sent in
    and_from (nat_lt p m.opening.table.ports) (in_run (run_of w) (λ r. is_short r (port_at w p))) (lt-ltb p m.opening.table.ports low)
    (note_in_run (run_of w) (port_at w p) slots units opens (ap (λ (z : PortFacts). z.settled) (sym (port_read m agents xs sent p x h low is)) ∙ settled) lt)

pub noted_units : (m : MasterFacts) (agents : ℕ) (xs : List PortState) (sent : List SentRun) (p units : ℕ) (x : PortState) → IsWorld (world_facts m agents xs sent) →
    p < m.opening.table.ports → x ≡ get_or xs p x → x.settled ≡ Some units →
    Short p units ≡ settled_note (world_facts m agents xs sent) p
noted_units m agents xs sent p units x h low is settled =
    ap (λ (o : Option ℕ). Short p (unwrap_or o 0)) (sym settled) ∙ ap (λ (z : PortFacts). Short p (unwrap_or z.settled 0)) (port_read m agents xs sent p x h low is)

-- ---- a closing

pub all_done_true : (run : Option Run) (test : Run → ℕ → Bool) (ports slots : ℕ) → Some slots ≡ slots_of run → ((p : ℕ) → p < ports → in_run run (λ r. test r p) ≡ true) →
    in_run run (λ r. list_all (test r) (range_with_len 0 ports)) ≡ true
all_done_true None test ports slots opens all = no_slots slots opens
all_done_true (Some r) test ports slots opens all = list_all-from_AllPass (test r) (range_with_len 0 ports) (λ i d lt.
    let low : i < ports = omega (arith, lt, length-range_with_len 0 ports) in
    let at : get_or (range_with_len 0 ports) i d ≡ i = omega (arith, get_or-range_with_len 0 ports i d low) in
    subst (λ k. test r k ≡ true) (sym at) (all i low))

pub one_not_done : (run : Option Run) (test : Run → ℕ → Bool) (ports p : ℕ) → p < ports → in_run run (λ r. test r p) ≡ false →
    in_run run (λ r. list_all (test r) (range_with_len 0 ports)) ≡ false
one_not_done None test ports p low not = refl
one_not_done (Some r) test ports p low not =
    let at : get_or (range_with_len 0 ports) p 0 ≡ p = omega (arith, get_or-range_with_len 0 ports p 0 low) in
    list_all_at (test r) (range_with_len 0 ports) p 0 (omega (arith, low, length-range_with_len 0 ports)) (subst (λ k. test r k ≡ false) (sym at) not)

-- ---- a new world

abbrev new_with : Opening → ℕ → List Entry → WorldFacts
new_with o agents journal = record { opening = o; journal = journal; agents = agents; ports = replicate o.table.ports idle_port; sent = [] }

same_ports : (n : ℕ) (x : PortState) → port_of x ≡ idle_port → ports_of (replicate n x) ≡ replicate n idle_port
same_ports zero x is = refl
same_ports (suc n) x is = ap (λ y. y ∷ ports_of (replicate n x)) is ∙ ap (λ l. idle_port ∷ l) (same_ports n x is)

pub new_facts : (m : MasterFacts) (agents n : ℕ) (xs : List PortState) (sent : List SentRun) (x : PortState) → m.journal ≡ [] → n ≡ m.opening.table.ports → xs ≡ replicate n x →
    port_of x ≡ idle_port → sent ≡ [] →
    world_facts m agents xs sent ≡ new_world m.opening agents
new_facts m agents n xs sent x empty ports all idle none =
    ap (λ (l : List PortState). world_facts m agents l sent) (all ∙ ap (λ k. replicate k x) ports) ∙
    ap (λ (l : List SentRun). world_facts m agents (replicate m.opening.table.ports x) l) none
    ∙ ap (λ (l : List PortFacts). with_ports m agents [] l) (same_ports m.opening.table.ports x idle) ∙ ap (new_with m.opening agents) empty

-- ---- nothing settled

pub cleared_is : (xs : List PortState) → ports_of (map unsettled xs) ≡ cleared (ports_of xs)
cleared_is [] = refl
cleared_is (x ∷ xs) = ap (λ l. record (port_of x) { settled = None } ∷ l) (cleared_is xs)
