-- Each step keeps what must hold of a world.
use Rattle.std.proofs.Common.{◌≡◌, ℕ, ◌≤◌, ◌<◌, Bool, true, false, List, [], ◌∷◌, ◌++◌, length, min, max, get_or, replicate, refl, sym, ap, subst, ◌∙◌, arith, zero, suc, Option}
use Rattle.std.proofs.Common.{Some, None, unwrap_or, is_some, is_none, inl, inr}
use Rattle.std.specs.Prelude.{if◌then◌else◌, nat_lt, nat_le, slice_index_or, ◌==◌, ◌&&◌, not, slice_set}
use Rattle.std.specs.List.{list_all, range_with_len}
use Rattle.std.proofs.lemmas.Bool.{and_parts, cases_lt, eqb-true, leb-true, ltb-true}
use Rattle.std.proofs.lemmas.List.FromFn.{get_or-range_with_len, length-range_with_len}
use Rattle.std.proofs.lemmas.List.Sums.{AllPass-from_list_all}
use Rattle.coflow_units.specs.declared.fabric.Flow.{Flow}
use Rattle.coflow_units.specs.Flows.{Instance, ingress_of}
use Rattle.coflow_units.specs.PortWord.{PortStage, is_drawn_by, is_granted}
use Rattle.coflow_units.specs.PortWord.PortStage.{drawn, reported}
use Rattle.journal.specs.declared.command.Command.{Command}
use Rattle.journal.specs.declared.command.Command.TheVariants.{Register, Withdraw, Publish, Pull, Open, Short, Skip, Reweigh}
use Rattle.journal.specs.declared.command.Command.TheVariants.{Close as CloseRun}
use Rattle.journal.specs.declared.command.Reply.{Reply}
use Rattle.journal.specs.declared.command.Reply.TheVariants.{Full, Already, Joined, NotHere, Left, NothingLeft, Late, Opened, StillOwed, Skipped, Weighed, Rank, Unranked}
use Rattle.journal.specs.declared.command.Entry.{Entry}
use Rattle.journal.specs.declared.opening.Opening.{Opening}
use Rattle.journal.specs.State.{has, is_present, IsOpening, Run, slot_end, State}
use Rattle.journal.specs.Line.{owing, rank, version}
use Rattle.journal.specs.Runs.{grant_in, granted, slots_for}
use Rattle.journal.specs.Fold.{after, noted_in, state_of}
use Rattle.journal.specs.Answer.{answer, in_range, noted, reply_of, room}
use Rattle.journal.specs.Journal.{journal_after}
use Rattle.journal.specs.Sound.{IsSound, SoundState}
use Rattle.journal.proofs.Growth.{state_after}
use Rattle.journal.proofs.Sound.{branch, legal_sound}
use Rattle.world_model.specs.declared.event.Event.{Event}
use Rattle.world_model.specs.declared.event.Event.TheVariants.{Ask, Post, Draw, Send, Report, Settle, Note, Close}
use Rattle.world_model.specs.declared.event.SentRun.{SentRun}
use Rattle.world_model.specs.Port.{PortFacts, idle_port, settled_by}
use Rattle.world_model.specs.Sent.{sent_for}
use Rattle.world_model.specs.World.{WorldFacts, new_world, port_at, run_of}
use Rattle.world_model.specs.Guards.{can, in_run, is_done, is_free, is_posted, is_short}
use Rattle.world_model.specs.Steps.{asks, moved, ports_after, posted, run_sent, sent_at, settled_note, world_after, world_of}
use Rattle.world_model.specs.Kept.{IsKept, IsPort, IsKeptWorld}
use Rattle.world_model.specs.Credited.{CreditsSent, IsCredited}
use Rattle.world_model.specs.Lawful.{IsLegalWorld, IsWorld}
use Rattle.world_model.proofs.PortSteps.{draw_ok, is_some_value, kept_port, mkp, post_ok, report_ok, settle_ok}
use Rattle.journal.proofs.Replies.{no_way}
use Rattle.world_model.proofs.SendSteps.{drawn_facts, kept_send, not_open}
use Rattle.world_model.proofs.OpenSteps.{kept_later, kept_note, kept_open}
use Rattle.world_model.proofs.CloseSteps.{credits_sent, kept_close}
use Rattle.world_model.proofs.Credits.{credited_after, credited_send, in_open_run}
use Rattle.world_model.proofs.Legality.{moved_legal}

-- ---- the master's part

abbrev mk : List ℕ → List ℕ → (ℕ → ℕ) → List Instance → (ℕ → ℕ) → Option Run → ℕ → State
mk joined left weight published sent run next = record { joined = joined; left = left; weight = weight; published = published; sent = sent; run = run; next = next }

abbrev KeptState : Opening → List PortFacts → List SentRun → State → Type 0
KeptState o xs sent s = IsKept o.table.flows o.table.ports s.sent s.next s.run xs sent

-- after the reply the world is kept, the next slot is no earlier, and what a closing credits was sent
record KeptBy (o : Opening) (s : State) (xs : List PortFacts) (sent : List SentRun) (k : Command) (r : Reply) : Type 0 where
  kept : KeptState o (ports_after xs r) sent (after o s k r)
  later : s.next ≤ (after o s k r).next
  credits : CreditsSent o sent (after o s k r).next r s.run

ask_step : (o : Opening) (j l : List ℕ) (w : ℕ → ℕ) (p : List Instance) (credited : ℕ → ℕ) (run : Option Run) (next : ℕ) (xs : List PortFacts) (sent : List SentRun) (k : Command) →
    is_free k ≡ true →
    IsKept o.table.flows o.table.ports credited next run xs sent → KeptBy o (mk j l w p credited run next) xs sent k (answer o (mk j l w p credited run next) k)
ask_step o j l w p credited run next xs sent (Register c) free h =
    let s = mk j l w p credited run next in
    branch (KeptBy o s xs sent (Register c)) (has s.joined c) Already Joined (λ e. record { kept = h; later = omega arith; credits = tt })
    (λ e. record { kept = h; later = omega arith; credits = tt })
ask_step o j l w p credited run next xs sent (Withdraw c) free h =
    let s = mk j l w p credited run next in
    branch (KeptBy o s xs sent (Withdraw c)) (is_present s c) Left NotHere (λ e. record { kept = h; later = omega arith; credits = tt })
    (λ e. record { kept = h; later = omega arith; credits = tt })
ask_step o j l w p credited None next xs sent Publish free h = record { kept = h; later = omega arith; credits = tt }
ask_step o j l w p credited (Some r) next xs sent Publish free h = record { kept = h; later = omega arith; credits = tt }
ask_step o j l w p credited run next xs sent (Pull c) free h =
    let s = mk j l w p credited run next in branch (KeptBy o s xs sent (Pull c)) (rank s (version s) c == 0) (Unranked (version s)) (Rank (version s) (rank s (version s) c))
    (λ e. record { kept = h; later = omega arith; credits = tt }) (λ e. record { kept = h; later = omega arith; credits = tt })
ask_step o j l w p credited None next xs sent (Open most) free h =
    let s = mk j l w p credited None next in
    let last = if s.next == slot_end then Late s.next else Opened s.next (slots_for o s most) (length (granted o s)) in
    branch (KeptBy o s xs sent (Open most)) (length (owing o s) == 0) NothingLeft last (λ e. record { kept = h; later = omega arith; credits = tt })
    (λ e. branch (KeptBy o s xs sent (Open most)) (s.next == slot_end) (Late s.next) (Opened s.next (slots_for o s most) (length (granted o s)))
    (λ e. record { kept = h; later = omega arith; credits = tt })
    (λ e. record { kept = kept_open o.table.flows o.table.ports credited next (slots_for o s most) (granted o s) xs sent h; later = omega arith; credits = tt }))
ask_step o j l w p credited (Some r) next xs sent (Open most) free h = record { kept = h; later = omega arith; credits = tt }
ask_step o j l w p credited run next xs sent (Short port units) free h = no_way free
ask_step o j l w p credited run next xs sent CloseRun free h = no_way free
ask_step o j l w p credited None next xs sent (Skip to) free h =
    let s = mk j l w p credited None next in
    let last = if nat_le slot_end to then Late to else Skipped (max s.next to) in
    branch (KeptBy o s xs sent (Skip to)) (nat_lt 0 (length (owing o s))) (StillOwed (slice_index_or (owing o s) 0 0)) last
    (λ e. record { kept = h; later = omega arith; credits = tt })
    (λ e. branch (KeptBy o s xs sent (Skip to)) (nat_le slot_end to) (Late to) (Skipped (max s.next to)) (λ e. record { kept = h; later = omega arith; credits = tt })
    (λ e. record { kept = kept_later o.table.flows o.table.ports credited next (max next to) xs sent (omega arith) h; later = omega arith; credits = tt }))
ask_step o j l w p credited (Some r) next xs sent (Skip to) free h = record { kept = h; later = omega arith; credits = tt }
ask_step o j l w p credited run next xs sent (Reweigh c x) free h =
    let s = mk j l w p credited run next in branch (KeptBy o s xs sent (Reweigh c x)) (is_present s c) (Weighed (s.weight c)) NotHere
    (λ e. record { kept = h; later = omega arith; credits = tt }) (λ e. record { kept = h; later = omega arith; credits = tt })

noted_kept : (o : Opening) (s : State) (r : Run) (xs : List PortFacts) (sent : List SentRun) (port : ℕ) (g : Option ℕ) → s.run ≡ Some r →
    is_short r (get_or xs port idle_port) ≡ true → KeptState o xs sent s →
    IsKept o.table.flows o.table.ports s.sent s.next (Some r) xs sent →
    KeptBy o s xs sent (Short port (unwrap_or (get_or xs port idle_port).settled 0)) (noted r port (unwrap_or (get_or xs port idle_port).settled 0) g)
noted_kept o s r xs sent port None is short h here = record { kept = h; later = omega arith; credits = tt }
noted_kept o s r xs sent port (Some f) is short h here =
    let x = get_or xs port idle_port in
    let (some, below) = and_parts (is_some x.settled) (nat_lt (unwrap_or x.settled 0) r.slots) short in
    let lt = ltb-true (unwrap_or x.settled 0) r.slots below in
    let same : unwrap_or x.settled 0 ≡ min (unwrap_or x.settled 0) r.slots = omega arith in
    record {
      kept = subst (λ (z : Option Run). IsKept o.table.flows o.table.ports s.sent s.next (noted_in z port (min (unwrap_or x.settled 0) r.slots)) xs sent) (sym is)
          (kept_note o.table.flows o.table.ports s.sent s.next r xs sent port (min (unwrap_or x.settled 0) r.slots) (is_some_value x.settled some ∙ ap (λ (n : ℕ). Some n) same)
          (omega arith) here);
      later = omega arith;
      credits = tt;
    }

note_step : (o : Opening) (j l : List ℕ) (w : ℕ → ℕ) (p : List Instance) (credited : ℕ → ℕ) (run : Option Run) (next : ℕ) (xs : List PortFacts) (sent : List SentRun) (port : ℕ) →
    in_run run (λ r. is_short r (get_or xs port idle_port)) ≡ true → IsKept o.table.flows o.table.ports credited next run xs sent →
    KeptBy o (mk j l w p credited run next) xs sent (Short port (unwrap_or (get_or xs port idle_port).settled 0))
    (answer o (mk j l w p credited run next) (Short port (unwrap_or (get_or xs port idle_port).settled 0)))
note_step o j l w p credited None next xs sent port short h = no_way short
note_step o j l w p credited (Some r) next xs sent port short h =
    noted_kept o (mk j l w p credited (Some r) next) r xs sent port (grant_in o.table.flows r.granted port) refl short h h

past : (xs : List Flow) (f : ℕ) (d : Flow) → length xs ≤ f → get_or xs f d ≡ d
past [] f d le = refl
past (x ∷ xs) zero d le = absurd (omega arith)
past (x ∷ xs) (suc f) d le = past xs f d (omega arith)

pub low_of : (o : Opening) → IsOpening o → (f : ℕ) → ingress_of o.table.flows f < o.table.ports
low_of o ok f = elim (cases_lt f (length o.table.flows)) [
  | inl lt ↦ ok.table.ingress f record { coflow = 0; ingress = 0; egress = 0; units = 0 } lt
  | inr ge ↦ omega (arith, ok.table.has_ports, ap (λ (x : Flow). x.ingress) (past o.table.flows f record { coflow = 0; ingress = 0; egress = 0; units = 0 } ge))
]

all_done : (ports p : ℕ) (test : ℕ → Bool) → list_all test (range_with_len 0 ports) ≡ true → p < ports → test p ≡ true
all_done ports p test e lt =
    let at : get_or (range_with_len 0 ports) p 0 ≡ p = omega (arith, get_or-range_with_len 0 ports p 0 lt) in
    subst (λ k. test k ≡ true) at (AllPass-from_list_all test (range_with_len 0 ports) e p 0 (omega (arith, lt, length-range_with_len 0 ports)))

close_step : (o : Opening) (j l : List ℕ) (w : ℕ → ℕ) (p : List Instance) (credited : ℕ → ℕ) (run : Option Run) (next : ℕ) (xs : List PortFacts) (sent : List SentRun) →
    IsOpening o →
    in_run run (λ r. list_all (λ port. is_done o r port (get_or xs port idle_port)) (range_with_len 0 o.table.ports)) ≡ true → IsSound o.table.flows credited next run →
    IsKept o.table.flows o.table.ports credited next run xs sent →
    KeptBy o (mk j l w p credited run next) xs sent CloseRun (answer o (mk j l w p credited run next) CloseRun)
close_step o j l w p credited None next xs sent ok done sound h = no_way done
close_step o j l w p credited (Some r) next xs sent ok done sound h =
    let each = λ (q : ℕ) (lt : q < o.table.ports). all_done o.table.ports q (λ port. is_done o r port (get_or xs port idle_port)) done lt in
    record {
      kept = kept_close o credited next r xs sent (low_of o ok) each sound h;
      later = omega (arith, sound.open_run.first);
      credits = (omega arith, λ f. sym (in_open_run o.table.flows next r sent f h.each_sent sound.open_run.clear ∙ credits_sent o credited next r xs sent (low_of o ok) each h f));
    }

-- what a command leaves, with room in the journal or without
asked_kept : (w : WorldFacts) (who : ℕ) (k : Command) → KeptBy w.opening (state_of w.opening w.journal) w.ports w.sent k (reply_of w.opening w.journal k) → IsWorld w →
    IsKeptWorld (asks w who k) × IsCredited w.opening w.sent (state_of w.opening (journal_after w.opening w.journal who k)).next (journal_after w.opening w.journal who k)
asked_kept w who k by h =
    let o = w.opening in
    let is = sym (state_after o w.journal who k) in (
      subst (KeptState o (ports_after w.ports (reply_of o w.journal k)) w.sent) is by.kept,
      subst (λ (s : State). IsCredited o w.sent s.next (journal_after o w.journal who k)) is
          (credited_after o w.sent (state_of o w.journal).next (after o (state_of o w.journal) k (reply_of o w.journal k)).next w.journal who k by.later h.credited by.credits),
    )

with_room : (o : Opening) (journal : List Entry) (k : Command) (xs : List PortFacts) (sent : List SentRun) → KeptState o xs sent (state_of o journal) →
    KeptBy o (state_of o journal) xs sent k (answer o (state_of o journal) k) → KeptBy o (state_of o journal) xs sent k (reply_of o journal k)
with_room o journal k xs sent h new =
    branch (KeptBy o (state_of o journal) xs sent k) (nat_le (room o k) (length journal)) (Full (length journal)) (answer o (state_of o journal) k)
    (λ e. record { kept = h; later = omega arith; credits = tt }) (λ e. new)

pub sound_of : (w : WorldFacts) → IsWorld w → SoundState w.opening (state_of w.opening w.journal)
sound_of w h = legal_sound w.opening w.journal h.legal.0 h.legal.1

-- ---- steps

post_run : (w : WorldFacts) (port : ℕ) (credited : ℕ → ℕ) (run : Option Run) (next : ℕ) → port < w.opening.table.ports →
    in_run run (λ r. is_some (grant_in w.opening.table.flows r.granted port) && not (is_posted r (port_at w port))) ≡ true →
    IsKept w.opening.table.flows w.opening.table.ports credited next run w.ports w.sent →
    IsKept w.opening.table.flows w.opening.table.ports credited next run (posted w port run).ports w.sent
post_run w port credited None next lt may h = no_way may
post_run w port credited (Some r) next lt may h =
    let y = port_at w port in
    let (some, apart) = and_parts (is_some (grant_in w.opening.table.flows r.granted port)) (not (is_posted r (port_at w port))) may in
    kept_port w.opening.table.flows w.opening.table.ports credited next (Some r) w.ports w.sent port
    (record {
      slot = r.first;
      flow = unwrap_or (grant_in w.opening.table.flows r.granted port) 0;
      stage = Rattle.coflow_units.specs.PortWord.PortStage.granted;
      count = r.slots;
      settled = y.settled;
    }) lt h
    (post_ok w.opening.table.flows next r w.sent port y.slot y.flow y.stage y.count y.settled some apart)

posted_kept : (w : WorldFacts) (port : ℕ) (run : Option Run) →
    IsKept w.opening.table.flows w.opening.table.ports (state_of w.opening w.journal).sent (state_of w.opening w.journal).next (state_of w.opening w.journal).run
    (posted w port run).ports w.sent →
    IsCredited w.opening w.sent (state_of w.opening w.journal).next w.journal → IsLegalWorld (posted w port run) → IsOpening w.opening → IsWorld (posted w port run)
posted_kept w port None h credited legal ok = record { opening = ok; legal = legal; kept = h; credited = credited }
posted_kept w port (Some r) h credited legal ok = record { opening = ok; legal = legal; kept = h; credited = credited }

send_run : (flows : List Flow) (ports : ℕ) (credited : ℕ → ℕ) (next : ℕ) (run : Option Run) (xs : List PortFacts) (sent : List SentRun) (p a u : ℕ) → p < ports →
    is_drawn_by a (get_or xs p idle_port).stage ≡ true →
    sent_for sent p (get_or xs p idle_port).slot ≡ 0 → 0 < u → u ≤ (get_or xs p idle_port).count → IsSound flows credited next run → IsKept flows ports credited next run xs sent →
    IsKept flows ports credited next run xs (sent ++ record { slot = (get_or xs p idle_port).slot; flow = (get_or xs p idle_port).flow; units = u; port = p } ∷ [])
send_run flows ports credited next None xs sent p a u lt drew none some fits sound h =
    let y = get_or xs p idle_port in absurd (not_open flows next sent p y.slot y.flow y.stage y.count y.settled a drew (h.port p lt))
send_run flows ports credited next (Some r) xs sent p a u lt drew none some fits sound h = kept_send flows ports credited next r xs sent p a u lt drew none some fits sound h

settle_run : (w : WorldFacts) (port : ℕ) (credited : ℕ → ℕ) (run : Option Run) (next : ℕ) → port < w.opening.table.ports →
    in_run run (λ r. is_posted r (port_at w port) && is_none (port_at w port).settled) ≡ true →
    IsKept w.opening.table.flows w.opening.table.ports credited next run w.ports w.sent →
    IsKept w.opening.table.flows w.opening.table.ports credited next run (slice_set w.ports port (settled_by (port_at w port) (port_at w port).stage)) w.sent
settle_run w port credited None next lt may h = no_way may
settle_run w port credited (Some r) next lt may h =
    let y = port_at w port in
    let (is, none) = and_parts (is_posted r (port_at w port)) (is_none (port_at w port).settled) may in
    kept_port w.opening.table.flows w.opening.table.ports credited next (Some r) w.ports w.sent port (settled_by y y.stage) lt h
    (settle_ok w.opening.table.flows next r w.sent port y.slot y.flow y.stage y.count y.settled is none)

-- what is sent begins no earlier than the next slot
not_early : (flows : List Flow) (credited : ℕ → ℕ) (next : ℕ) (run : Option Run) (sent : List SentRun) (p slot flow : ℕ) (stage : PortStage) (count : ℕ) (settled : Option ℕ)
    (a : ℕ) → is_drawn_by a stage ≡ true → IsSound flows credited next run →
    IsPort flows next run sent p (mkp slot flow stage count settled) → next ≤ slot
not_early flows credited next None sent p slot flow stage count settled a drew sound h = absurd (not_open flows next sent p slot flow stage count settled a drew h)
not_early flows credited next (Some r) sent p slot flow stage count settled a drew sound h =
    omega (arith, sound.open_run.first, (drawn_facts flows next r sent p slot flow stage count settled a drew h).0)

-- a command that is asked keeps the world where its reply does
asked_world : (w : WorldFacts) (who : ℕ) (k : Command) → IsWorld w → IsLegalWorld (asks w who k) →
    KeptBy w.opening (state_of w.opening w.journal) w.ports w.sent k (answer w.opening (state_of w.opening w.journal) k) → IsWorld (asks w who k)
asked_world w who k h legal by =
    let all = asked_kept w who k (with_room w.opening w.journal k w.ports w.sent h.kept by) h in
    record { opening = h.opening; legal = legal; kept = all.0; credited = all.1 }

pub ask_keeps : (w : WorldFacts) (who : ℕ) (k : Command) → IsWorld w → can w (Ask who k) ≡ true → IsWorld (moved w (Ask who k))
ask_keeps w who k h may =
    let s = state_of w.opening w.journal in
    asked_world w who k h (moved_legal w (Ask who k) h.legal may)
    (ask_step w.opening s.joined s.left s.weight s.published s.sent s.run s.next w.ports w.sent k (and_parts (is_free k) (in_range w.opening k) may).0 h.kept)

pub post_keeps : (w : WorldFacts) (port : ℕ) → IsWorld w → can w (Post port) ≡ true → IsWorld (moved w (Post port))
post_keeps w port h may =
    let s = state_of w.opening w.journal in
    let (low, more) = and_parts (nat_lt port w.opening.table.ports)
    (in_run (run_of w) (λ r. is_some (grant_in w.opening.table.flows r.granted port) && not (is_posted r (port_at w port)))) may in
    posted_kept w port (run_of w) (post_run w port s.sent (run_of w) s.next (ltb-true port w.opening.table.ports low) more h.kept) h.credited
    (moved_legal w (Post port) h.legal may) h.opening

pub draw_keeps : (w : WorldFacts) (agent port : ℕ) → IsWorld w → can w (Draw agent port) ≡ true → IsWorld (moved w (Draw agent port))
draw_keeps w agent port h may =
    let s = state_of w.opening w.journal in
    let y = port_at w port in
    let (low, more) = and_parts (nat_lt port w.opening.table.ports) (nat_lt agent w.agents && is_granted (port_at w port).stage) may in
    record {
      opening = h.opening;
      legal = moved_legal w (Draw agent port) h.legal may;
      kept = kept_port w.opening.table.flows w.opening.table.ports s.sent s.next s.run w.ports w.sent port (record (port_at w port) { stage = drawn agent })
          (ltb-true port w.opening.table.ports low) h.kept
          (draw_ok w.opening.table.flows s.next s.run w.sent port y.slot y.flow y.stage y.count y.settled agent
          (and_parts (nat_lt agent w.agents) (is_granted (port_at w port).stage) more).1);
      credited = h.credited;
    }

pub send_keeps : (w : WorldFacts) (agent port units : ℕ) → IsWorld w → can w (Send agent port units) ≡ true → IsWorld (moved w (Send agent port units))
send_keeps w agent port units h may =
    let s = state_of w.opening w.journal in
    let y = port_at w port in
    let empty = sent_for w.sent port (port_at w port).slot == 0 in
    let fits = nat_lt 0 units && nat_le units (port_at w port).count in
    let drew = is_drawn_by agent (port_at w port).stage in
    let (low, more) = and_parts (nat_lt port w.opening.table.ports) (nat_lt agent w.agents && (drew && (empty && fits))) may in
    let more' = (and_parts (nat_lt agent w.agents) (drew && (empty && fits)) more).1 in
    let (d, rest) = and_parts drew (empty && fits) more' in
    let (z, rest') = and_parts empty fits rest in
    let (some, most) = and_parts (nat_lt 0 units) (nat_le units (port_at w port).count) rest' in
    let lt = ltb-true port w.opening.table.ports low in
    record {
      opening = h.opening;
      legal = moved_legal w (Send agent port units) h.legal may;
      kept = send_run w.opening.table.flows w.opening.table.ports s.sent s.next s.run w.ports w.sent port agent units lt d
          (eqb-true (sent_for w.sent port (port_at w port).slot) 0 z) (ltb-true 0 units some)
          (leb-true units (port_at w port).count most) (sound_of w h) h.kept;
      credited = credited_send w.opening w.sent (run_sent w port units) s.next _ w.journal
          (not_early w.opening.table.flows s.sent s.next s.run w.sent port y.slot y.flow y.stage y.count y.settled agent d (sound_of w h) (h.kept.port port lt)) h.credited;
    }

pub report_keeps : (w : WorldFacts) (agent port : ℕ) → IsWorld w → can w (Report agent port) ≡ true → IsWorld (moved w (Report agent port))
report_keeps w agent port h may =
    let s = state_of w.opening w.journal in
    let y = port_at w port in
    let (low, more) = and_parts (nat_lt port w.opening.table.ports) (nat_lt agent w.agents && is_drawn_by agent (port_at w port).stage) may in
    record {
      opening = h.opening;
      legal = moved_legal w (Report agent port) h.legal may;
      kept = kept_port w.opening.table.flows w.opening.table.ports s.sent s.next s.run w.ports w.sent port
          (record (port_at w port) { stage = reported agent (sent_at w port); count = sent_at w port })
          (ltb-true port w.opening.table.ports low) h.kept
          (report_ok w.opening.table.flows s.next s.run w.sent port y.slot y.flow y.stage y.count y.settled agent
          (and_parts (nat_lt agent w.agents) (is_drawn_by agent (port_at w port).stage) more).1);
      credited = h.credited;
    }

pub settle_keeps : (w : WorldFacts) (port : ℕ) → IsWorld w → can w (Settle port) ≡ true → IsWorld (moved w (Settle port))
settle_keeps w port h may =
    let s = state_of w.opening w.journal in
    let (low, more) = and_parts (nat_lt port w.opening.table.ports) (in_run (run_of w) (λ r. is_posted r (port_at w port) && is_none (port_at w port).settled)) may in
    record {
      opening = h.opening;
      legal = moved_legal w (Settle port) h.legal may;
      kept = settle_run w port s.sent (run_of w) s.next (ltb-true port w.opening.table.ports low) more h.kept;
      credited = h.credited;
    }

pub note_keeps : (w : WorldFacts) (port : ℕ) → IsWorld w → can w (Note port) ≡ true → IsWorld (moved w (Note port))
note_keeps w port h may =
    let s = state_of w.opening w.journal in
    let (low, more) = and_parts (nat_lt port w.opening.table.ports) (in_run (run_of w) (λ r. is_short r (port_at w port))) may in
    asked_world w 0 (settled_note w port) h (moved_legal w (Note port) h.legal may)
    (note_step w.opening s.joined s.left s.weight s.published s.sent s.run s.next w.ports w.sent port more h.kept)

pub close_keeps : (w : WorldFacts) → IsWorld w → can w Close ≡ true → IsWorld (moved w Close)
close_keeps w h may =
    let s = state_of w.opening w.journal in
    asked_world w 0 CloseRun h (moved_legal w Close h.legal may)
    (close_step w.opening s.joined s.left s.weight s.published s.sent s.run s.next w.ports w.sent h.opening may (sound_of w h) h.kept)

pub move_keeps : (w : WorldFacts) (e : Event) → IsWorld w → can w e ≡ true → IsWorld (moved w e)
move_keeps w (Ask who k) h may = ask_keeps w who k h may
move_keeps w (Post port) h may = post_keeps w port h may
move_keeps w (Draw agent port) h may = draw_keeps w agent port h may
move_keeps w (Send agent port units) h may = send_keeps w agent port units h may
move_keeps w (Report agent port) h may = report_keeps w agent port h may
move_keeps w (Settle port) h may = settle_keeps w port h may
move_keeps w (Note port) h may = note_keeps w port h may
move_keeps w Close h may = close_keeps w h may

step_by : (w : WorldFacts) (e : Event) (b : Bool) → can w e ≡ b → IsWorld w → IsWorld (if b then moved w e else w)
step_by w e true may h = move_keeps w e h may
step_by w e false may h = h

pub step_keeps : (w : WorldFacts) (e : Event) → IsWorld w → IsWorld (world_after w e)
step_keeps w e h = step_by w e (can w e) refl h

pub steps_keep : (w : WorldFacts) (es : List Event) → IsWorld w → IsWorld (world_of w es)
steps_keep w [] h = h
steps_keep w (e ∷ es) h = steps_keep (world_after w e) es (step_keeps w e h)

-- ---- the first world

same_all : (n p : ℕ) (x : PortFacts) → get_or (replicate n x) p x ≡ x
same_all zero p x = refl
same_all (suc n) zero x = refl
same_all (suc n) (suc p) x = same_all n p x

many : (n : ℕ) (x : PortFacts) → length (replicate n x) ≡ n
many zero x = refl
many (suc n) x = ap suc (many n x)

pub new_is_world : (o : Opening) (agents : ℕ) → IsOpening o → IsWorld (new_world o agents)
new_is_world o agents ok = record {
  opening = ok;
  legal = (tt, λ k d lt. absurd (omega arith));
  kept = record {
    wide = many o.table.ports idle_port;
    each_sent = λ k d lt. absurd (omega arith);
    apart = λ i j d lt in'. absurd (omega arith);
    accounted = λ f. omega arith;
    port = λ p lt. subst (IsPort o.table.flows 1 None [] p) (sym (same_all o.table.ports p idle_port)) (tt, omega arith);
  };
  credited = tt;
}
