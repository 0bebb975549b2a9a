-- From the posts of an open run to its close, step by step.
use Rattle.std.proofs.Common.{◌≡◌, ℕ, ◌+◌, ◌<◌, ◌≤◌, List, ◌++◌, length, Option, refl, sym, ap, subst, ◌∙◌, arith}
use Rattle.std.specs.Prelude.{All, AllPairs, Contains, map}
use Rattle.std.proofs.lemmas.List.Elements.{All-weaker, Contains-append_left}
use Rattle.coflow_units.specs.declared.fabric.Flow.{Flow}
use Rattle.coflow_units.specs.Flows.{ingress_of}
use Rattle.coflow_units.specs.Schedule.{IsClear}
use Rattle.journal.specs.declared.command.Command.TheVariants.{Close}
use Rattle.journal.specs.declared.command.Entry.{Entry}
use Rattle.journal.specs.declared.opening.Opening.{Opening}
use Rattle.journal.specs.Driven.{Drive, driven, IsUnderWay, sent_from}
use Rattle.journal.specs.Runs.{grant_in}
use Rattle.journal.specs.State.{IsOpening}
use Rattle.port_board.specs.declared.view.Came.{Came}
use Rattle.port_board.specs.declared.view.Grant.{Grant}
use Rattle.port_board.specs.declared.view.Report.{Report}
use Rattle.port_board.specs.declared.view.View.{View}
use Rattle.port_board.specs.Agreement.{EachPosted, SharesNothing}
use Rattle.client_session.specs.Desk.{IsSeen}
use Rattle.client_session.specs.Grants.{all_granted}
use Rattle.client_session.specs.Drivers.{IsDrivenOn, StaysInHall}
use Rattle.client_session.specs.Models.{DriverModel}
use Rattle.client_session.specs.declared.receipt.Receipt.{Receipt}
use Rattle.port_agent.specs.Attended.{IsServedBy}
use Rattle.crews.specs.Served.{IsCrewed}
use Rattle.slot_runner.specs.Carried.{IsCarriedOut}
use Rattle.slot_runner.specs.Models.{IsIdle}
use Rattle.slot_runner.specs.Posts.{IsPosted, posts_of}
use Rattle.slot_runner.specs.Settling.{AreNoted, AreSettled, AreToSettle, IsFirstShort, IsListedSent, IsOpenRunOf}
use Rattle.slot_runner.proofs.Carried.{at_ingress, carried_out, idle_again, told_open}
use Rattle.slot_runner.proofs.Crewed.{crew_served}
use Rattle.slot_runner.proofs.OnePort.{AreGrantsServed, grants_served, sent_of, to_settle}
use Rattle.slot_runner.proofs.Opens.{facts_clear, open_facts, OpenFacts}

-- what seats drew before is still posted
pub posted_on : (flows : List Flow) (granted : List ℕ) (first slots : ℕ) (v w : View) → IsPosted flows granted first slots v w → EachPosted v → AllPairs SharesNothing v.back →
    EachPosted w × AllPairs SharesNothing w.back
posted_on flows granted first slots v w x posted apart = (
  subst (λ (z : List Came × List Grant). All (λ (c : Came). All (λ (r : Report). Contains z.1 r.grant) c.done) z.0) (λ i. (sym x.back i, sym x.posts i))
      (All-weaker (λ (c : Came). All (λ (r : Report). Contains v.posts r.grant) c.done) (λ (c : Came). All (λ (r : Report). Contains
      (v.posts ++ posts_of flows granted first slots) r.grant) c.done)
      (λ c all. All-weaker (λ (r : Report). Contains v.posts r.grant) (λ (r : Report). Contains (v.posts ++ posts_of flows granted first slots) r.grant)
      (λ r has. Contains-append_left v.posts (posts_of flows granted first slots) r.grant has) c.done all) v.back posted),
  subst (AllPairs SharesNothing) (sym x.back) apart,
)

pub none_out_on : (flows : List Flow) (granted : List ℕ) (first slots : ℕ) (v w : View) → IsPosted flows granted first slots v w → length v.back ≡ v.made → length w.back ≡ w.made
none_out_on flows granted first slots v w x none = ap (λ (l : List Came). length l) x.back ∙ none ∙ sym x.made

module _ (o : Opening) (before : List Entry) (d : Drive) (driver : DriverModel) (within : IsOpening o) (seen : IsSeen o driver.journal) (open' : IsOpenRunOf o before d driver)
    (slot slots ports to : ℕ) (first_is : slot ≡ d.first) (slots_is : slots ≡ d.slots) (ports_is : ports ≡ o.table.ports) (v0 v1 : View) (idle : IsIdle to v0) (low : to ≤ slot)
    (posted : IsPosted o.table.flows (all_granted o driver.journal) slot slots v0 v1) where
  pub facts : OpenFacts o before driver.journal d
  facts = open_facts o before driver.journal d seen.legal seen.in_range open'.under_way

  abbrev pub granted : ℕ → Option ℕ
  granted = grant_in o.table.flows (driven o before d)

  posted' : IsPosted o.table.flows (driven o before d) d.first d.slots v0 v1
  posted' = subst (λ (z : List ℕ × ℕ × ℕ). IsPosted o.table.flows z.0 z.1 z.2 v0 v1) (λ i. (facts.flows i, first_is i, slots_is i)) posted

  clear : IsClear o.table.flows (driven o before d)
  clear = facts_clear o before driver.journal d facts

  inside : (f : ℕ) → Contains (driven o before d) f → ingress_of o.table.flows f < ports
  inside f has = let low = (at_ingress o before d driver.journal within facts f has).0 in omega (arith, low, ports_is)

  late : to ≤ d.first
  late = omega (arith, low, first_is)

  -- agents that served all ports served the grants of the run
  pub all_served : {W : Type 0} (faults : W → ℕ) (runs : W → Option (List (ℕ × ℕ × ℕ))) (v2 : View) (near near' : List W) → IsServedBy faults runs v1 v2 near near' →
      length near ≡ ports → AreGrantsServed faults runs granted v1 v2 near near'
  all_served faults runs v2 near near' all many = grants_served faults runs o.table.flows (driven o before d) d.first d.slots ports to clear inside v0 v1 v2 near near' idle late
      posted'.posts posted'.settled posted'.back all many

  -- a crew that served the granted ports served the grants of the run
  pub grants_crewed : {W : Type 0} (faults : W → ℕ) (runs : W → Option (List (ℕ × ℕ × ℕ))) (v2 : View) (near near' : List W) (list : List ℕ) →
      list ≡ map (ingress_of o.table.flows) (all_granted o driver.journal) → IsCrewed faults runs v1 v2 list near near' → AreGrantsServed faults runs granted v1 v2 near near'
  grants_crewed faults runs v2 near near' list are all =
      crew_served faults runs o.table.flows (driven o before d) list (are ∙ ap (map (ingress_of o.table.flows)) facts.flows) v1 v2 near near' all

  module _ {W : Type 0} (faults : W → ℕ) (runs : W → Option (List (ℕ × ℕ × ℕ))) (v2 : View) (near near' : List W) (all : AreGrantsServed faults runs granted v1 v2 near near')
      (many : length near ≡ ports) where
    abbrev pub sent : ℕ → ℕ
    sent = sent_of all.took

    pub waiting : AreToSettle granted sent d.first d.slots ports v2
    waiting = to_settle faults runs o.table.flows (driven o before d) d.first d.slots ports to clear inside v0 v1 v2 near near' idle late posted'.posts posted'.settled
        posted'.back all many

    pub told : IsOpenRunOf o before (record d { sent = sent }) driver
    told = told_open o before d driver sent open'

    -- what was sent of each granted flow is listed
    pub listed : (list : List ℕ) → list ≡ map (sent_from o.table.flows (record d { sent = sent })) (driven o before d) → IsListedSent o before (record d { sent = sent }) list
    listed list is = record {
      listed = is;
      within = λ f has. waiting.within (ingress_of o.table.flows f) f (inside f has) (at_ingress o before d driver.journal within facts f has).1;
    }

    module _ (v3 : View) (mid : DriverModel) (short : Option (ℕ × ℕ))
        (settled : AreSettled o.table.flows (driven o before d) sent d.first d.slots v2 v3 ports) (noted : AreNoted o before (record d { sent = sent }) driver mid ports)
        (is_short : IsFirstShort granted sent d.slots ports short) where
      pub call_left : 1 ≤ mid.left
      call_left = let left = noted.left in omega (arith, left, ports_is)

      pub still_under_way : (start : List Entry) × (y : Drive) × IsUnderWay o start mid.journal y
      still_under_way = (before, record d { sent = sent; between = noted.between }, noted.under_way)

      pub idle_then : IsIdle (slot + slots) v3
      idle_then = subst (λ n. IsIdle n v3) (λ i. sym first_is i + sym slots_is i)
          (idle_again faults runs o.table.flows (driven o before d) d.first d.slots ports to clear inside v0 v1 v2 v3 near near' idle late posted'.posts posted'.settled
          posted'.back all many settled facts.long)

      pub through : (end : DriverModel) (r : Receipt) → IsDrivenOn o Close mid end r → StaysInHall mid end → (far whole whole' : List W) → whole ≡ near ++ far → whole' ≡ near'
          ++ far →
          (flows before_flows : List ℕ) → flows ≡ all_granted o driver.journal →
          IsCarriedOut faults runs o before d (record { driver = driver; ports = ports; posted_to = to; posts = v0.posts; settled = v0.settled; granted = before_flows })
          (record { driver = end; ports = ports; posted_to = slot + slots; posts = v3.posts; settled = v3.settled; granted = flows }) whole whole' short
      through end r on place far whole whole' x y flows before_flows flows_are =
          let it = carried_out faults runs o.table.flows (driven o before d) d.first d.slots ports to clear inside v0 v1 v2 v3 near near' idle late posted'.posts posted'.settled
          posted'.back all many settled o
          before driver.journal d within
          facts refl refl refl refl ports_is driver mid end r noted on place waiting.within short is_short far whole whole' x y flows before_flows
          (flows_are ∙ facts.flows) in
          subst (λ n. IsCarriedOut faults runs o before d (record {
            driver = driver;
            ports = ports;
            posted_to = to;
            posts = v0.posts;
            settled = v0.settled;
            granted =
                before_flows;
          })
          (record { driver = end; ports = ports; posted_to = n; posts = v3.posts; settled = v3.settled; granted = flows }) whole whole' short)
          (λ i. sym first_is i + sym slots_is i) it
