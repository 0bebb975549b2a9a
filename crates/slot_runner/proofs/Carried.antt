-- A run from its posts to its close.
use Rattle.std.proofs.Common.{◌≡◌, ⊎_elim, ℕ, ◌+◌, ◌<◌, ◌≤◌, true, List, [], ◌∷◌, ◌++◌, length, get_or, Option, Some, None, refl, sym, ap}
use Rattle.std.proofs.Common.{subst, ◌∙◌, arith, length-append}
use Rattle.std.specs.Prelude.{All, AllPairs, Contains, map}
use Rattle.std.proofs.lemmas.Bool.{cases_lt}
use Rattle.std.proofs.lemmas.List.{get_or_append_left, get_or-append_right}
use Rattle.std.proofs.lemmas.List.Elements.{All-append, All-contains, Contains-append_left, Contains-get_or}
use Rattle.coflow_units.specs.declared.fabric.Flow.{Flow}
use Rattle.coflow_units.specs.Flows.{ingress_of}
use Rattle.coflow_units.specs.Schedule.{IsClear}
use Rattle.journal.specs.declared.command.Command.TheVariants.{Close}
use Rattle.journal.specs.declared.command.Entry.{Entry}
use Rattle.journal.specs.declared.opening.Opening.{Opening}
use Rattle.journal.specs.Driven.{Drive, driven, is_other, IsDriven}
use Rattle.journal.specs.Journal.{entry}
use Rattle.journal.specs.Runs.{grant_in}
use Rattle.journal.specs.State.{IsOpening}
use Rattle.journal.proofs.Ingresses.{grant_at, no_grant_at}
use Rattle.journal.proofs.UnderWay.{closes, noted_both, others_note_none, sent_told}
use Rattle.port_board.specs.declared.view.Came.{Came}
use Rattle.port_board.specs.declared.view.Grant.{Grant}
use Rattle.port_board.specs.declared.view.Report.{Report}
use Rattle.port_board.specs.declared.view.Settlement.{Settlement}
use Rattle.port_board.specs.declared.view.View.{View}
use Rattle.port_board.specs.Views.{came_of, grant, is_left, is_unsettled, report, Sits}
use Rattle.port_board.specs.Agreement.{SharesNothing}
use Rattle.port_agent.specs.Served.{SentOn}
use Rattle.turnstile.specs.Histories.{NoneAbove}
use Rattle.client_session.specs.Desk.{DrivenByRoot, IsSeen}
use Rattle.client_session.specs.Drivers.{IsDrivenOn, StaysInHall, who_of}
use Rattle.client_session.specs.Models.{DriverModel}
use Rattle.client_session.specs.declared.receipt.Receipt.{Receipt}
use Rattle.slot_runner.specs.Carried.{ended, IsCarriedOut}
use Rattle.slot_runner.specs.Models.{IsIdle, WasReported}
use Rattle.slot_runner.specs.Posts.{posts_of, settlements_of}
use Rattle.slot_runner.specs.Settling.{AreNoted, AreSettled, CallsFall, IsFirstShort, IsOpenRunOf}
use Rattle.slot_runner.specs.Slots.{AreSent, IsSentAt}
use Rattle.slot_runner.proofs.Notes.{calls_fall, stays}
use Rattle.slot_runner.proofs.OnePort.{AreGrantsServed, reported_is, sent_of, was_sent}
use Rattle.slot_runner.proofs.Opens.{facts_clear, OpenFacts}
use Rattle.slot_runner.proofs.PortPosts.{in_posts, in_settlements, last_without}
use Rattle.slot_runner.proofs.Turns.{met_under_way, others_are_other}

-- what is sent may be told before the first note
pub told_open : (o : Opening) (before : List Entry) (d : Drive) (driver : DriverModel) (sent : ℕ → ℕ) → IsOpenRunOf o before d driver → IsOpenRunOf o before
    (record d { sent = sent }) driver
told_open o before d driver sent x = record {
  under_way = sent_told o before driver.journal d sent x.under_way (subst (All (λ e. is_other e ≡ true)) (sym x.no_notes) (λ k e lt. absurd (omega arith)));
  no_notes = x.no_notes;
  calls = x.calls;
  position = x.position;
}

-- what the close makes of the driver
pub record IsClosedBy (o : Opening) (before : List Entry) (d : Drive) (old new : DriverModel) : Type 0 where
  pub between : List Entry
  pub place : StaysInHall old new
  pub journal : (r : Receipt) × IsDriven o before new.journal (record d { between = between; answer = r.reply })
  pub calls : CallsFall old new
  pub position : new.position ≡ length new.journal
  pub seen : IsSeen o new.journal
  pub numbers : NoneAbove who_of new.made new.journal

module _ (o : Opening) (before : List Entry) (d : Drive) (now : List Entry) (within : IsOpening o) (facts : OpenFacts o before now d) where
  -- a granted flow is granted at its ingress, which is a port
  pub at_ingress : (f : ℕ) → Contains (driven o before d) f → (ingress_of o.table.flows f < o.table.ports) ×
      (grant_in o.table.flows (driven o before d) (ingress_of o.table.flows f) ≡ Some f)
  at_ingress f has = (
    within.table.ingress f (record { coflow = 0; ingress = 0; egress = 0; units = 0 }) (All-contains (λ (x : ℕ). x < length o.table.flows) (driven o before d) f
        facts.grants.flow has),
    (grant_at o.table.flows (driven o before d) (ingress_of o.table.flows f) f (facts_clear o before now d facts)).1 (has, refl),
  )

  pub closes_run : (old mid new : DriverModel) (r : Receipt) → AreNoted o before d old mid o.table.ports → IsDrivenOn o Close mid new r → StaysInHall mid new →
      ((p f : ℕ) → p < o.table.ports → grant_in o.table.flows (driven o before d) p ≡ Some f → d.sent p ≤ d.slots) → IsClosedBy o before d old new
  closes_run old mid new r x on place low =
      let e = entry 0 Close r.reply in
      let others = on.others.0 in
      let driving = subst DrivenByRoot on.journal on.seen.driven in
      let way = met_under_way o before mid.journal on.before (e ∷ []) (record d { between = x.between }) x.under_way on.others driving in
      let free = others_are_other mid.journal others (e ∷ []) (subst (λ l. DrivenByRoot (l ++ e ∷ [])) on.others.1 driving) on.others.2 in
      let done = closes o before on.before (record d { between = x.between ++ others }) r.reply way
      (λ f has. let at = at_ingress f has in low (ingress_of o.table.flows f) f at.0 at.1)
      (λ f has.
      let at = at_ingress f has in
      noted_both x.between others (ingress_of o.table.flows f) ∙ omega (arith, others_note_none others (ingress_of o.table.flows f) free) ∙
      x.noted (ingress_of o.table.flows f) f at.0 at.1) in record {
        between = x.between ++ others;
        place = stays old mid new x.place place;
        journal = (r, subst (λ l. IsDriven o before l (record d { between = x.between ++ others; answer = r.reply })) (sym on.journal) done);
        calls = omega (arith, x.calls, calls_fall o Close mid new r on);
        position = on.position ∙ on.length_is;
        seen = on.seen;
        numbers = on.numbers;
      }

-- past the ports nothing is granted
none_past : (flows : List Flow) (gs : List ℕ) (ports : ℕ) → ((f : ℕ) → Contains gs f → ingress_of flows f < ports) → (p : ℕ) → ports ≤ p → grant_in flows gs p ≡ None
none_past flows gs ports inside p le = (no_grant_at flows gs p).1 (λ f in' at. absurd (omega (arith, inside f in', at, le)))

module _ {W : Type 0} (faults : W → ℕ) (runs : W → Option (List (ℕ × ℕ × ℕ))) (flows : List Flow) (gs : List ℕ) (first slots ports to : ℕ) (clear : IsClear flows gs)
    (inside : (f : ℕ) → Contains gs f → ingress_of flows f < ports) (v0 v w u : View) (ws ws' : List W)
    (idle : IsIdle to v0) (late : to ≤ first) (posts_are : v.posts ≡ v0.posts ++ posts_of flows gs first slots) (settled_are : v.settled ≡ v0.settled)
    (back_is : v.back ≡ v0.back)
    (all : AreGrantsServed faults runs (grant_in flows gs) v w ws ws') (wires : length ws ≡ ports) (done : AreSettled flows gs (sent_of all.took) first slots w u ports) where
  abbrev granted : ℕ → Option ℕ
  granted = grant_in flows gs

  -- the wire of each port
  one_wire : (p : ℕ) (b a : W) → p < ports → (o : Option ℕ) → granted p ≡ o → (d : Drive) → d.first ≡ first → d.slots ≡ slots → d.sent ≡ sent_of all.took →
      IsSentAt faults runs d p (get_or ws p b) (get_or ws' p a) o
  one_wire p b a lt None e d x y z = all.rest p b a (omega (arith, lt, wires)) e
  one_wire p b a lt (Some f) e d x y z =
      let (c, among, has) = done.reported p f lt e in
      let is = reported_is faults runs flows gs first slots ports to clear inside v0 v w ws ws' idle late posts_are settled_are back_is all wires p f (sent_of all.took p) c b a lt
      e among has in
      subst (λ (q : ℕ × ℕ × ℕ). SentOn faults runs (get_or ws p b) (get_or ws' p a) (report (grant p q.0 f q.1) q.2))
      (λ i. (sym x i, sym y i, sym (ap (λ h. h p) z) i))
      (was_sent faults runs flows gs first slots ports to clear inside v0 v w ws ws' idle late posts_are settled_are back_is all wires p f (get_or ws p b) (get_or ws' p a)
      (all.took p) is
      (all.each p f b a (omega (arith, lt, wires)) e).wire)

  -- the wires of the ports, and those behind them
  pub are_sent : (far : List W) (whole whole' : List W) → whole ≡ ws ++ far → whole' ≡ ws' ++ far → (d : Drive) → d.first ≡ first → d.slots ≡ slots → d.sent ≡ sent_of all.took →
      AreSent faults runs d granted ports whole whole'
  are_sent far whole whole' x y d a b c =
      let m = all.as_many in
      let long = length-append ws far in
      let long' = length-append ws' far in record {
        as_many = omega (arith, ap (λ (l : List W). length l) x, ap (λ (l : List W). length l) y, long, long', m);
        each = λ p s t lt.
            let s_is : get_or whole p s ≡ get_or ws p s = ap (λ l. get_or l p s) x ∙ get_or_append_left ws far s p (omega (arith, lt, wires)) in
            let t_is : get_or whole' p t ≡ get_or ws' p t = ap (λ l. get_or l p t) y ∙ get_or_append_left ws' far t p (omega (arith, lt, wires, m)) in
            subst (λ (z : W × W). IsSentAt faults runs d p z.0 z.1 (granted p)) (λ i. (sym s_is i, sym t_is i)) (one_wire p s t lt (granted p) refl d a b c);
        further = λ i t le.
            ap (λ l. get_or l i t) y ∙ get_or-append_right ws' far ports i t (omega (arith, wires, m)) le ∙ sym (get_or-append_right ws far ports i t wires le) ∙
            sym (ap (λ l. get_or l i t) x);
      }

  posts_u : u.posts ≡ v0.posts ++ posts_of flows gs first slots
  posts_u = done.posts ∙ all.posts ∙ posts_are

  settled_u : u.settled ≡ v0.settled ++ settlements_of flows gs (sent_of all.took) first slots
  settled_u = done.settled ∙ ap (λ (l : List Settlement). l ++ settlements_of flows gs (sent_of all.took) first slots) (all.settled ∙ settled_are)

  back_u : u.back ≡ v0.back ++ map (λ (s : Sits). came_of s.view) all.seats
  back_u = done.back ∙ all.back ∙ ap (λ (l : List Came). l ++ map (λ (s : Sits). came_of s.view) all.seats) back_is

  each_of : {X : Type 0} (P : X → Type 0) (xs : List X) → ((x : X) → Contains xs x → P x) → All P xs
  each_of P xs h k d lt = h (get_or xs k d) (Contains-get_or xs k d lt)

  -- between runs again
  pub idle_again : 1 ≤ slots → IsIdle (first + slots) u
  idle_again some = record {
    none_out = ap (λ (l : List Came). length l) done.back ∙ all.none_out ∙ sym done.made;
    all_settled = λ q. ⊎_elim (λ lt. done.settled_there q lt)
        (λ le. done.rest q le ∙ ap (λ (x : List Grant × List Settlement). is_unsettled q x.0 x.1) (λ i. ((all.posts ∙ posts_are) i, (all.settled ∙ settled_are) i)) ∙
        ap (λ (o : Option Grant). is_left o v0.settled) (last_without flows gs first slots ports clear inside v0.posts q (none_past flows gs ports inside q le)) ∙
        idle.all_settled q)
        (cases_lt q ports);
    posts_before = subst (All (λ (g : Grant). g.slot < first + slots)) (sym posts_u) (All-append (λ (g : Grant). g.slot < first + slots) v0.posts
        (posts_of flows gs first slots)
        (λ k d lt. omega (arith, idle.posts_before k d lt, late))
        (each_of (λ (g : Grant). g.slot < first + slots) (posts_of flows gs first slots)
        (λ g has. let (p, f, lt, e, is) = in_posts flows gs first slots ports clear inside g has in omega (arith, ap (λ (x : Grant). x.slot) is, some))));
    settled_before = subst (All (λ (s : Settlement). s.grant.slot < first + slots)) (sym settled_u)
        (All-append (λ (s : Settlement). s.grant.slot < first + slots) v0.settled (settlements_of flows gs (sent_of all.took) first slots)
        (λ k d lt. omega (arith, idle.settled_before k d lt, late))
        (each_of (λ (s : Settlement). s.grant.slot < first + slots) (settlements_of flows gs (sent_of all.took) first slots)
        (λ s has. omega (arith, in_settlements flows gs first slots ports clear inside (sent_of all.took) s has, some))));
    posted = subst (λ (x : List Came × List Grant). All (λ (c : Came). All (λ (r : Report). Contains x.1 r.grant) c.done) x.0) (λ i. (sym done.back i, sym done.posts i))
        all.posted;
    apart = subst (AllPairs SharesNothing) (sym done.back) all.apart;
    reported = subst (All (WasReported u)) (sym posts_u) (All-append (WasReported u) v0.posts (posts_of flows gs first slots)
        (λ k g lt.
        let (c, r, among, has, is) = idle.reported k g lt in
        (c, r, subst (λ l. Contains l c) (sym back_u) (Contains-append_left v0.back (map (λ (s : Sits). came_of s.view) all.seats) c among), has, is))
        (each_of (WasReported u) (posts_of flows gs first slots)
        (λ g has.
        let (p, f, lt, e, is) = in_posts flows gs first slots ports clear inside g has in
        let (c, among, told) = done.reported p f lt e in
        (c, report (grant p first f slots) (sent_of all.took p), subst (λ l. Contains l c) (sym done.back) among, told, is))));
  }

  -- the run was carried out
  pub carried_out : (o : Opening) (before now : List Entry) (d : Drive) → IsOpening o → OpenFacts o before now d → flows ≡ o.table.flows → gs ≡ driven o before d →
      d.first ≡ first → d.slots ≡ slots →
      ports ≡ o.table.ports → (driver mid end : DriverModel) (r : Receipt) → AreNoted o before (record d { sent = sent_of all.took }) driver mid ports → IsDrivenOn o
      Close mid end r →
      StaysInHall mid end → ((p f : ℕ) → p < ports → granted p ≡ Some f → sent_of all.took p ≤ slots) →
      (short : Option (ℕ × ℕ)) → IsFirstShort granted (sent_of all.took) slots ports short → (far : List W) (whole whole' : List W) → whole ≡ ws ++ far → whole' ≡ ws' ++
      far →
      (listed before_listed : List ℕ) → listed ≡ driven o before d →
      IsCarriedOut faults runs o before d (record { driver = driver; ports = ports; posted_to = to; posts = v0.posts; settled = v0.settled; granted = before_listed })
      (record { driver = end; ports = ports; posted_to = first + slots; posts = u.posts; settled = u.settled; granted = listed }) whole whole' short
  carried_out o before now d within facts flows_is gs_is first_is slots_is ports_is driver mid end r noted on place low short is_short far whole whole' x y listed before_listed
      listed_are =
      let granted_is : granted ≡ grant_in o.table.flows (driven o before d) = (λ i. grant_in (flows_is i) (gs_is i)) in
      let sent = sent_of all.took in
      let ended_by = closes_run o before (record d { sent = sent }) now within (record {
        some = facts.some;
        first = facts.first;
        long = facts.long;
        ends = facts.ends;
        next = facts.next;
        grants = facts.grants;
        told = facts.told;
        flows = facts.flows;
      }) driver mid end r (subst (AreNoted o before (record d { sent = sent }) driver mid) ports_is noted) on place
      (λ p f lt e. subst (λ n. sent p ≤ n) (sym slots_is) (low p f (omega (arith, lt, ports_is)) (ap (λ (h : ℕ → Option ℕ). h p) granted_is ∙ e))) in
      record {
        sent = sent;
        between = ended_by.between;
        answer = ended_by.journal.0.reply;
        place = ended_by.place;
        journal = ended_by.journal.1;
        position = ended_by.position;
        seen = ended_by.seen;
        numbers = ended_by.numbers;
        calls = ended_by.calls;
        granted = listed_are;
        ports = refl;
        posts = posts_u ∙ (λ i. v0.posts ++ posts_of (flows_is i) (gs_is i) (sym first_is i) (sym slots_is i));
        settled = settled_u ∙ (λ i. v0.settled ++ settlements_of (flows_is i) (gs_is i) sent (sym first_is i) (sym slots_is i));
        posted_to = (λ i. sym first_is i + sym slots_is i);
        wires = subst (λ (h : ℕ → Option ℕ). AreSent faults runs (ended d sent ended_by.between ended_by.journal.0.reply) h ports whole whole') granted_is
            (are_sent far whole whole' x y (ended d sent ended_by.between ended_by.journal.0.reply) first_is slots_is refl);
        first_short = subst (λ (z : (ℕ → Option ℕ) × ℕ). IsFirstShort z.0 sent z.1 ports short) (λ i. (granted_is i, sym slots_is i)) is_short;
      }
