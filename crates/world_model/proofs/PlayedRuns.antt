-- A run of the driver among entries of others is a list of steps.
use Rattle.std.proofs.Common.{◌≡◌, ℕ, ◌+◌, ◌<◌, ◌≤◌, Bool, true, false, List, [], ◌∷◌, ◌++◌, length, map, get_or, Contains, refl, inl, inr, sym, ap, subst, ◌∙◌, arith, Option}
use Rattle.std.proofs.Common.{Some, None, unwrap_or, is_some, is_none, append_assoc}
use Rattle.std.specs.Prelude.{All, ◌==◌, ◌&&◌, if◌then◌else◌}
use Rattle.std.proofs.lemmas.Bool.{and_from, cases_lt, eq-eqb, le-ltb, lt-ltb}
use Rattle.std.proofs.lemmas.List.{get_or-append-add, length-append, length-map}
use Rattle.coflow_units.specs.Flows.{ingress_of}
use Rattle.coflow_units.proofs.ServedLaws.{grants_clear}
use Rattle.journal.specs.declared.command.Command.TheVariants.{Open}
use Rattle.journal.specs.declared.command.Command.TheVariants.{Close as CloseRun}
use Rattle.journal.specs.declared.command.Entry.{Entry}
use Rattle.journal.specs.declared.command.Reply.TheVariants.{Opened}
use Rattle.journal.specs.declared.opening.Opening.{Opening}
use Rattle.journal.specs.State.{owed, Run}
use Rattle.journal.specs.Runs.{grant_in, note_in, slots_of}
use Rattle.journal.specs.Fold.{state_of}
use Rattle.journal.specs.Answer.{in_range, reply_of}
use Rattle.journal.specs.Journal.{adds, IsLegal, line_of}
use Rattle.journal.specs.Sound.{InRange}
use Rattle.journal.specs.Driven.{closed_in, closing, Drive, driven, IsDriven, IsNotedAsDue, IsWithinRun, notes_port, opened_in, opening, sent_from, times_noted}
use Rattle.journal.proofs.Along.{all_front}
use Rattle.journal.proofs.Between.{mkr}
use Rattle.journal.proofs.Driving.{any_counted, at, IsAt, legal_between, legal_open}
use Rattle.journal.proofs.Ingresses.{grant_at, grant_is}
use Rattle.journal.proofs.Opened.{opened_grants}
use Rattle.journal.proofs.Versions.{legal_there}
use Rattle.world_model.specs.declared.event.Event.TheVariants.{Ask, Close}
use Rattle.world_model.specs.declared.event.SentRun.{SentRun}
use Rattle.world_model.specs.Port.{PortFacts, idle_port}
use Rattle.world_model.specs.Sent.{sent_for}
use Rattle.world_model.specs.World.{WorldFacts}
use Rattle.world_model.specs.Guards.{can, in_run, is_done, is_short}
use Rattle.world_model.specs.Kept.{IsKept}
use Rattle.world_model.specs.Lawful.{IsWorld}
use Rattle.world_model.specs.Played.{AreAgents, AreTaken, driven_at, events_of, IsPlayed, runs_sent, step_of, turns}
use Rattle.world_model.specs.Steps.{cleared, ports_after, world_of}
use Rattle.world_model.proofs.Events.{low_of}
use Rattle.world_model.proofs.EntrySteps.{between_go, others_go, short_is}
use Rattle.world_model.proofs.Fields.{all_done_true}
use Rattle.world_model.proofs.GrantTurns.{all_turned, AreTurned, IsReady, settled_port}
use Rattle.world_model.proofs.OpenSteps.{cleared_at, none_at}
use Rattle.world_model.proofs.Turns.{AreSteps, IsStep, mkw, no_steps, step_is, step_then, steps_then}

all_rest : {X : Type 0} (P : X → Type 0) (xs ys : List X) → All P (xs ++ ys) → All P ys
all_rest P xs ys all = λ k d lt. subst P (get_or-append-add xs ys k d) (all (length xs + k) d (omega (arith, length-append xs ys, lt)))

-- ---- the opening

open_goes : (o : Opening) (j more : List Entry) (a : ℕ) (xs : List PortFacts) (s : List SentRun) (d : Drive) → IsLegal o (j ++ (opening d ∷ more)) →
    in_range o (Open d.most) ≡ true →
    IsStep (mkw o j a xs s) (Ask 0 (Open d.most)) (mkw o (j ++ opening d ∷ []) a (cleared xs) s)
open_goes o j more a xs s d legal low =
    let is : Opened d.first d.slots d.count ≡ reply_of o j (Open d.most) = (legal_there o j more (opening d) legal).0 in
    step_is (mkw o j a xs s) (mkw o (j ++ opening d ∷ []) a (cleared xs) s) (Ask 0 (Open d.most)) low refl
    (ap (λ r. mkw o (j ++ adds 0 (Open d.most) r) a (ports_after xs r) s) (sym is))

-- before the run each port is ready for a post
ready : (o : Opening) (xs : List PortFacts) (s : List SentRun) (credited : ℕ → ℕ) (next : ℕ) (granted : List ℕ) (notes : List (ℕ × ℕ)) (d : Drive) (p : ℕ) →
    IsKept o.table.flows o.table.ports credited next None xs s → next ≡ d.first → p < o.table.ports → d.sent p ≤ d.slots →
    IsReady (cleared xs) s (mkr d.first d.slots granted notes) d p
ready o xs s credited next granted notes d p h first low fits =
    let is = cleared_at xs p (omega (arith, h.wide, low)) in
    record {
      fresh = λ e. omega (arith, ap (λ (x : PortFacts). x.slot) is, e, first, (h.port p low).1);
      clear = ap (λ (x : PortFacts). x.settled) is;
      unsent = ap (sent_for s p) (sym first) ∙ none_at o.table.flows next s p h.each_sent;
      fits = fits;
    }

-- ---- the closing

note_done : (r : Run) (x : PortFacts) (note : Option ℕ) (n : ℕ) → x.settled ≡ Some n → (n < r.slots → note ≡ Some n) →
    (is_some x.settled && (if is_short r x then is_some note && (unwrap_or note 0 == unwrap_or x.settled 0) else true)) ≡ true
note_done r x note n is told =
    and_from (is_some x.settled) (if is_short r x then is_some note && (unwrap_or note 0 == unwrap_or x.settled 0) else true) (ap (λ (t : Option ℕ). is_some t) is)
    (elim (cases_lt n r.slots) [
      | inl lt ↦
          let noted = told lt in
          ap (λ (b : Bool). if b then is_some note && (unwrap_or note 0 == unwrap_or x.settled 0) else true) (short_is r x n true is (lt-ltb n r.slots lt))
          ∙ and_from (is_some note) (unwrap_or note 0 == unwrap_or x.settled 0) (ap (λ (t : Option ℕ). is_some t) noted)
          (eq-eqb (unwrap_or note 0) (unwrap_or x.settled 0) (ap (λ (t : Option ℕ). unwrap_or t 0) (noted ∙ sym is)))
      | inr ge ↦ ap (λ (b : Bool). if b then is_some note && (unwrap_or note 0 == unwrap_or x.settled 0) else true) (short_is r x n false is (le-ltb n r.slots ge))
    ])

done_at : (o : Opening) (r : Run) (p : ℕ) (x : PortFacts) (g : Option ℕ) → grant_in o.table.flows r.granted p ≡ g →
    ((f : ℕ) → g ≡ Some f → (n : ℕ) × (x.settled ≡ Some n) × (n < r.slots → note_in r.notes p ≡ Some n)) → is_done o r p x ≡ true
done_at o r p x None grant told =
    ap (λ (g : Option ℕ). if is_none g then true else is_some x.settled &&
    (if is_short r x then is_some (note_in r.notes p) && (unwrap_or (note_in r.notes p) 0 == unwrap_or x.settled 0) else true)) grant
done_at o r p x (Some f) grant told =
    let (n, is, noted) = told f refl in
    ap (λ (g : Option ℕ). if is_none g then true else is_some x.settled &&
    (if is_short r x then is_some (note_in r.notes p) && (unwrap_or (note_in r.notes p) 0 == unwrap_or x.settled 0) else true)) grant
    ∙ note_done r x (note_in r.notes p) n is noted

close_goes : (o : Opening) (j : List Entry) (a : ℕ) (ys : List PortFacts) (s : List SentRun) (d : Drive) (r : Run) → IsLegal o (j ++ closing d ∷ []) → (state_of o j).run ≡ Some r →
    ((p f : ℕ) → grant_in o.table.flows r.granted p ≡ Some f → (n : ℕ) × ((get_or ys p idle_port).settled ≡ Some n) × (n < r.slots → note_in r.notes p ≡ Some n)) →
    IsStep (mkw o j a ys s) Close (mkw o (j ++ closing d ∷ []) a (ports_after ys d.answer) s)
close_goes o j a ys s d r legal open' told =
    let w = mkw o j a ys s in
    let there = legal_there o j [] (closing d) legal in
    let may : can w Close ≡ true =
    all_done_true (state_of o j).run (λ r port. is_done o r port (get_or ys port idle_port)) o.table.ports r.slots (sym (ap slots_of open'))
    (λ p lt. ap (λ (y : Option Run). in_run y (λ r. is_done o r p (get_or ys p idle_port))) open' ∙
    done_at o r p (get_or ys p idle_port) (grant_in o.table.flows r.granted p) refl (told p)) in
    step_is w (mkw o (j ++ closing d ∷ []) a (ports_after ys d.answer) s) Close may refl
    (ap (λ x. mkw o (j ++ adds 0 CloseRun x) a (ports_after ys x) s) (sym there.0)
    ∙ ap (λ (b : Bool). mkw o (j ++ (if b then [] else closing d ∷ [])) a (ports_after ys d.answer) s) there.1)

-- ---- the whole run

-- what is known of the parts of the journal
record HasParts (o : Opening) (before : List Entry) (d : Drive) : Type 0 where
  earlier : IsLegal o (before ++ (d.earlier ++ (opening d ∷ (d.between ++ closing d ∷ []))))
  opened : IsLegal o (opened_in before d ++ (opening d ∷ (d.between ++ closing d ∷ [])))
  between : IsLegal o ((opened_in before d ++ opening d ∷ []) ++ (d.between ++ closing d ∷ []))
  closed : IsLegal o (closed_in before d ++ closing d ∷ [])
  low_earlier : All (λ (e : Entry). in_range o e.command ≡ true) d.earlier
  low_open : in_range o (Open d.most) ≡ true
  low_between : All (λ (e : Entry). in_range o e.command ≡ true) d.between

parts : (o : Opening) (before : List Entry) (d : Drive) → IsLegal o (closed_in before d ++ closing d ∷ []) → InRange o (closed_in before d ++ closing d ∷ []) → HasParts o before d
parts o before d legal low =
    let R = λ (e : Entry). in_range o e.command ≡ true in
    let j1 = opened_in before d in
    let opened = legal_open o before (closing d ∷ []) d legal in
    let low3 : All R (closed_in before d) = all_front R (closed_in before d) (closing d ∷ []) low in
    let low2 : All R (j1 ++ opening d ∷ []) = all_front R (j1 ++ opening d ∷ []) d.between low3 in
    record {
      earlier = subst (IsLegal o) (append_assoc before d.earlier (opening d ∷ (d.between ++ closing d ∷ []))) opened;
      opened = opened;
      between = legal_between o before (closing d ∷ []) d legal;
      closed = legal;
      low_earlier = all_rest R before d.earlier (all_front R j1 (opening d ∷ []) low2);
      low_open = all_rest R j1 (opening d ∷ []) low2 0 (opening d) (omega arith);
      low_between = all_rest R (j1 ++ opening d ∷ []) d.between low3;
    }

-- before the run no run is open and the ports are as the world keeps them
kept_before : (w : WorldFacts) (d : Drive) → IsWorld w → IsAt w.opening w.journal d →
    IsKept w.opening.table.flows w.opening.table.ports (state_of w.opening w.journal).sent (state_of w.opening w.journal).next None w.ports w.sent
kept_before w d h x =
    let s = state_of w.opening w.journal in
    subst (λ r. IsKept w.opening.table.flows w.opening.table.ports s.sent s.next r w.ports w.sent) x.none h.kept

-- the turns of the ports
run_turned : (w : WorldFacts) (agent_at : ℕ → ℕ) (d : Drive) → IsWorld w → AreAgents w agent_at → IsAt w.opening w.journal d → IsWithinRun w.opening w.journal d →
    AreTurned w.opening (opened_in w.journal d ++ opening d ∷ []) w.agents (cleared w.ports) w.sent (driven_at w d) agent_at d 0 w.opening.table.ports
run_turned w agent_at d h agents x within =
    let o = w.opening in
    let s = state_of o w.journal in
    let gs = driven o w.journal d in
    let kept = kept_before w d h x in
    let r = mkr d.first d.slots gs [] in
    let run = (opened_grants o (opened_in w.journal d) (opening d) d.first d.slots d.count refl).0 in
    all_turned o (opened_in w.journal d ++ opening d ∷ []) w.agents (cleared w.ports) w.sent r agent_at d 0 o.table.ports (omega arith)
    (length-map w.ports (λ (x : PortFacts). record x { settled = None }) ∙ kept.wide)
    agents run refl
    (λ p f ge lt grant.
    let (in', here) = grant_is o.table.flows gs p f grant in
    ready o w.ports w.sent s.sent s.next gs [] d p kept (sym x.at_next) (omega (arith, lt)) (subst (λ q. d.sent q ≤ d.slots) here (within f in')))

-- the port of each granted flow is settled after them
each_settled : (w : WorldFacts) (agent_at : ℕ → ℕ) (d : Drive) (ys : List PortFacts) → IsWorld w → IsAt w.opening w.journal d →
    ((p f : ℕ) → 0 ≤ p → p < 0 + w.opening.table.ports → driven_at w d p ≡ Some f → get_or ys p idle_port ≡ settled_port agent_at d p f) →
    (f : ℕ) → Contains (driven w.opening w.journal d) f →
    get_or ys (ingress_of w.opening.table.flows f) idle_port ≡ settled_port agent_at d (ingress_of w.opening.table.flows f) f
each_settled w agent_at d ys h x settled f in' =
    let o = w.opening in
    let before = w.journal in
    let gs = driven o before d in
    let p = ingress_of o.table.flows f in
    let clear = grants_clear o.table.flows (line_of o (opened_in before d)) (owed o (state_of o (opened_in before d))) gs x.grants in
    settled p f (omega arith) (omega (arith, low_of o h.opening f)) ((grant_at o.table.flows gs p f clear).1 (in', refl))

-- a settled port that is short is noted
told_at : (o : Opening) (before : List Entry) (agent_at : ℕ → ℕ) (d : Drive) (ys : List PortFacts) (x : IsAt o before d) → IsNotedAsDue o before d →
    ((f : ℕ) → Contains (driven o before d) f → get_or ys (ingress_of o.table.flows f) idle_port ≡ settled_port agent_at d (ingress_of o.table.flows f) f) → (p f : ℕ) →
    grant_in o.table.flows (driven o before d) p ≡ Some f → (n : ℕ) × ((get_or ys p idle_port).settled ≡ Some n) × (n < d.slots → note_in x.mid.notes p ≡ Some n)
told_at o before agent_at d ys x noted settled p f grant =
    let flows = o.table.flows in
    let (in', here) = grant_is flows (driven o before d) p f grant in
    let is : (get_or ys p idle_port).settled ≡ Some (sent_from flows d f) = ap (λ q. (get_or ys q idle_port).settled) (sym here) ∙
    ap (λ (y : PortFacts). y.settled) (settled f in') in
    let hit = λ (lt : sent_from flows d f < d.slots). any_counted (λ (e : Entry). notes_port p e.command) d.between
    (omega (arith, ap (times_noted d.between) here, noted f in', ap {B = ℕ} (λ b. if b then 1 else 0) (lt-ltb (sent_from flows d f) d.slots lt))) in
    (sent_from flows d f, is, λ lt. x.mid.told p f grant (inr (hit lt)) ∙ ap (λ q. Some (d.sent q)) (sym here))

-- A run of the driver among entries of others, whose parts are legal, is played by its steps: each is taken, and they
-- make the run's journal and send what it says.
pub played_by : (w : WorldFacts) (agent_at : ℕ → ℕ) (d : Drive) → IsWorld w → AreAgents w agent_at → IsLegal w.opening (closed_in w.journal d ++ closing d ∷ []) →
    InRange w.opening (closed_in w.journal d ++ closing d ∷ []) →
    IsDriven w.opening w.journal (closed_in w.journal d ++ closing d ∷ []) d →
    (ys : List PortFacts)
    × AreSteps w (events_of w agent_at d)
    (mkw w.opening (closed_in w.journal d ++ closing d ∷ []) w.agents ys (w.sent ++ runs_sent (driven_at w d) d w.opening.table.ports))
played_by w agent_at d h agents legal low driven' =
    let o = w.opening in
    let a = w.agents in
    let j1 = opened_in w.journal d in
    let j2 = j1 ++ opening d ∷ [] in
    let j3 = closed_in w.journal d in
    let gs = driven o w.journal d in
    let k = parts o w.journal d legal low in
    let x = at o w.journal (closing d ∷ []) d legal driven'.under_way in
    let t = run_turned w agent_at d h agents x driven'.within in
    let s = w.sent ++ runs_sent (driven_at w d) d o.table.ports in
    let settled = each_settled w agent_at d t.ys h x t.settled in
    let run = (opened_grants o j1 (opening d) d.first d.slots d.count refl).0 in
    let zs = ports_after t.ys d.answer in
    let v1 = mkw o j1 a w.ports w.sent in
    let v2 = mkw o j2 a (cleared w.ports) w.sent in
    let v3 = mkw o j2 a t.ys s in
    let v4 = mkw o j3 a t.ys s in
    let v5 = mkw o (j3 ++ closing d ∷ []) a zs s in
    let last = map step_of d.between ++ (Close ∷ []) in
    let turned = turns agent_at (driven_at w d) d o.table.ports in
    let rest = turned ++ last in
    let one : AreSteps w (map step_of d.earlier) v1 =
    others_go o a w.ports w.sent w.journal d.earlier (opening d ∷ (d.between ++ closing d ∷ [])) k.earlier k.low_earlier driven'.under_way.earlier in
    let two : IsStep v1 (Ask 0 (Open d.most)) v2 = open_goes o j1 (d.between ++ closing d ∷ []) a w.ports w.sent d k.opened k.low_open in
    let four : AreSteps v3 (map step_of d.between) v4 =
    between_go o a t.ys s agent_at d gs j2 d.between (closing d ∷ []) k.between k.low_between driven'.under_way.between (λ f in'. low_of o h.opening f) settled run in
    let five : IsStep v4 Close v5 =
    close_goes o j3 a t.ys s d (mkr d.first d.slots gs x.mid.notes) legal x.mid.run (told_at o w.journal agent_at d t.ys x driven'.noted settled) in (
      zs,
      steps_then w v1 v5 (map step_of d.earlier) (Ask 0 (Open d.most) ∷ rest) one
          (step_then v1 v2 v5 (Ask 0 (Open d.most)) rest two
          (steps_then v2 v3 v5 turned last t.goes
          (steps_then v3 v4 v5 (map step_of d.between) (Close ∷ []) four
          (step_then v4 v5 v5 Close [] five (no_steps v5 v5 refl))))),
    )

-- the same for any journal that goes on by the run
run_steps : (w : WorldFacts) (agent_at : ℕ → ℕ) (after : List Entry) (d : Drive) → IsWorld w → AreAgents w agent_at → IsLegal w.opening after → InRange w.opening after →
    IsDriven w.opening w.journal after d →
    (ys : List PortFacts)
    × AreSteps w (events_of w agent_at d) (mkw w.opening after w.agents ys (w.sent ++ runs_sent (driven_at w d) d w.opening.table.ports))
run_steps w agent_at after d h agents legal low driven' =
    subst (λ l. (ys : List PortFacts)
    × AreSteps w (events_of w agent_at d) (mkw w.opening l w.agents ys (w.sent ++ runs_sent (driven_at w d) d w.opening.table.ports))) (sym driven'.goes_on)
    (played_by w agent_at d h agents (subst (IsLegal w.opening) driven'.goes_on legal) (subst (InRange w.opening) driven'.goes_on low)
    (record { goes_on = refl; under_way = driven'.under_way; within = driven'.within; noted = driven'.noted }))

pub runs_are_taken : (w : WorldFacts) (agent_at : ℕ → ℕ) (after : List Entry) (d : Drive) → IsWorld w → AreAgents w agent_at → IsLegal w.opening after → InRange w.opening after →
    IsDriven w.opening w.journal after d → AreTaken w (events_of w agent_at d)
runs_are_taken w agent_at after d h agents legal low driven' = (run_steps w agent_at after d h agents legal low driven').1.taken

pub runs_are_played : (w : WorldFacts) (agent_at : ℕ → ℕ) (after : List Entry) (d : Drive) → IsWorld w → AreAgents w agent_at → IsLegal w.opening after → InRange w.opening after →
    IsDriven w.opening w.journal after d → IsPlayed w (world_of w (events_of w agent_at d)) after d
runs_are_played w agent_at after d h agents legal low driven' =
    let goes = (run_steps w agent_at after d h agents legal low driven').1.goes in
    record {
      opening = ap (λ (v : WorldFacts). v.opening) goes;
      journal = ap (λ (v : WorldFacts). v.journal) goes;
      sent = ap (λ (v : WorldFacts). v.sent) goes;
    }
