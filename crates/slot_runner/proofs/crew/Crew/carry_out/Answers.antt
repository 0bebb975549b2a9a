-- The steps of an open run of a crew, one after the other.
use Rattle.std.proofs.Common.{rules, ◌≡◌, ℕ, ◌+◌, ◌≤◌, List, [], length, Option, ap, sym, ◌∙◌, subst, arith}
use Rattle.std.proofs.lemmas.List.{append-nil}
use Rattle.coflow_units.proofs.Fronts.{written_back}
use Rattle.journal.specs.declared.command.Entry.{Entry}
use Rattle.journal.specs.Driven.{Drive}
use Rattle.client_session.specs.Grants.{all_granted}
use Rattle.client_session.specs.Models.{IsDriverOf}
use Rattle.crews.specs.Wires.{AllThere, wires_of}
use Rattle.crews.proofs.Whole.{as_long}
use Rattle.slot_runner.specs.Carried.{IsCarriedOut}
use Rattle.slot_runner.specs.Crews.{CrewModel}
use Rattle.slot_runner.specs.Models.{RunnerModel}
use Rattle.slot_runner.specs.Settling.{IsOpenRunOf}
use Rattle.slot_runner.proofs.Apart.{clear_granted}
use Rattle.slot_runner.proofs.Crewed.{of_places, ports_apart, ports_below}
use Rattle.slot_runner.proofs.OnePort.{sent_of}
use Rattle.slot_runner.proofs.Opens.{flow_in_range, open_facts}
use Rattle.slot_runner.proofs.Through.{call_left, grants_crewed, idle_then, listed, posted_on, still_under_way, through, told, waiting}
use Rattle.slot_runner.proofs.crew.Crew.carry_out.Goals as goal

pub post_grants-requires-clause-flows : goal.post_grants-requires-clause-flows
post_grants-requires-clause-flows g c =
    let i = c.self.inside in
    let o = c.args.hall.now.setting.opening in
    let is = sym (ap (λ (m : CrewModel g.row.W.Denot). m.runner) c.self.view_is) in
    let here_ports : i.ports ≡ c.args.site.now.board.ports = ap (λ (m : CrewModel g.row.W.Denot). m.runner.ports) c.self.view_is ∙ c.requires.site.ports in
    let own = subst (λ (m : RunnerModel). IsDriverOf c.args.hall.now m.driver × (m.ports ≡ o.table.ports)) is c.requires.own in
    let low = subst (λ (m : RunnerModel). m.posted_to ≤ c.args.slot) is c.requires.later in
    let seen = c.made-seen.ensures.seen c.args.hall.now.setting own.0.1 in
    let within = c.coflows-within.ensures.opening in
    let idle = c.self.invariant.1 in
    let (before, d, first, long, open') = subst (λ (m : RunnerModel). (b : List Entry) × (x : Drive) × (c.args.slot ≡ x.first) × (c.args.slots ≡ x.slots) × IsOpenRunOf o b x
    m.driver) is c.requires.run in
    let facts = open_facts o before i.driver.journal d seen.legal seen.in_range open'.under_way in
    λ port f e. flow_in_range o before i.driver.journal d within facts port f e

pub post_grants-requires-clause-slot : goal.post_grants-requires-clause-slot
post_grants-requires-clause-slot g c =
    let i = c.self.inside in
    let o = c.args.hall.now.setting.opening in
    let is = sym (ap (λ (m : CrewModel g.row.W.Denot). m.runner) c.self.view_is) in
    let here_ports : i.ports ≡ c.args.site.now.board.ports = ap (λ (m : CrewModel g.row.W.Denot). m.runner.ports) c.self.view_is ∙ c.requires.site.ports in
    let own = subst (λ (m : RunnerModel). IsDriverOf c.args.hall.now m.driver × (m.ports ≡ o.table.ports)) is c.requires.own in
    let low = subst (λ (m : RunnerModel). m.posted_to ≤ c.args.slot) is c.requires.later in
    let seen = c.made-seen.ensures.seen c.args.hall.now.setting own.0.1 in
    let within = c.coflows-within.ensures.opening in
    let idle = c.self.invariant.1 in
    let (before, d, first, long, open') = subst (λ (m : RunnerModel). (b : List Entry) × (x : Drive) × (c.args.slot ≡ x.first) × (c.args.slots ≡ x.slots) × IsOpenRunOf o b x
    m.driver) is c.requires.run in
    let facts = open_facts o before i.driver.journal d seen.legal seen.in_range open'.under_way in
    let some = facts.some in
    let last = facts.first in
    (omega (arith, first, some), omega (arith, first, last), λ k x lt. omega (arith, idle.posts_before k x lt, low))

pub post_grants-requires-clause-length : goal.post_grants-requires-clause-length
post_grants-requires-clause-length g c =
    let i = c.self.inside in
    let o = c.args.hall.now.setting.opening in
    let is = sym (ap (λ (m : CrewModel g.row.W.Denot). m.runner) c.self.view_is) in
    let here_ports : i.ports ≡ c.args.site.now.board.ports = ap (λ (m : CrewModel g.row.W.Denot). m.runner.ports) c.self.view_is ∙ c.requires.site.ports in
    let own = subst (λ (m : RunnerModel). IsDriverOf c.args.hall.now m.driver × (m.ports ≡ o.table.ports)) is c.requires.own in
    let low = subst (λ (m : RunnerModel). m.posted_to ≤ c.args.slot) is c.requires.later in
    let seen = c.made-seen.ensures.seen c.args.hall.now.setting own.0.1 in
    let within = c.coflows-within.ensures.opening in
    let idle = c.self.invariant.1 in
    let (before, d, first, long, open') = subst (λ (m : RunnerModel). (b : List Entry) × (x : Drive) × (c.args.slot ≡ x.first) × (c.args.slots ≡ x.slots) × IsOpenRunOf o b x
    m.driver) is c.requires.run in
    let facts = open_facts o before i.driver.journal d seen.legal seen.in_range open'.under_way in
    let some = facts.long in
    let last = facts.ends in
    (omega (arith, long, some), omega (arith, long, last))

pub serve_crew-requires-clause-ports : goal.serve_crew-requires-clause-ports
serve_crew-requires-clause-ports g c =
    let i = c.self.inside in
    let o = c.args.hall.now.setting.opening in
    let is = sym (ap (λ (m : CrewModel g.row.W.Denot). m.runner) c.self.view_is) in
    let here_ports : i.ports ≡ c.args.site.now.board.ports = ap (λ (m : CrewModel g.row.W.Denot). m.runner.ports) c.self.view_is ∙ c.requires.site.ports in
    let own = subst (λ (m : RunnerModel). IsDriverOf c.args.hall.now m.driver × (m.ports ≡ o.table.ports)) is c.requires.own in
    let seen = c.made-seen.ensures.seen c.args.hall.now.setting own.0.1 in
    let are = c.granted_ports.ensures c.args.hall.now.setting own.0.1 in
    let clear = clear_granted o i.driver.journal seen.legal seen.in_range in
    let within = c.coflows-within.ensures.opening in
    ports_below o (all_granted o i.driver.journal) c.granted_ports.result.now c.args.site.now.board.ports are within clear (sym here_ports ∙ own.1)

pub serve_crew-requires-clause-distinct : goal.serve_crew-requires-clause-distinct
serve_crew-requires-clause-distinct g c =
    let i = c.self.inside in
    let o = c.args.hall.now.setting.opening in
    let is = sym (ap (λ (m : CrewModel g.row.W.Denot). m.runner) c.self.view_is) in
    let here_ports : i.ports ≡ c.args.site.now.board.ports = ap (λ (m : CrewModel g.row.W.Denot). m.runner.ports) c.self.view_is ∙ c.requires.site.ports in
    let own = subst (λ (m : RunnerModel). IsDriverOf c.args.hall.now m.driver × (m.ports ≡ o.table.ports)) is c.requires.own in
    let seen = c.made-seen.ensures.seen c.args.hall.now.setting own.0.1 in
    let are = c.granted_ports.ensures c.args.hall.now.setting own.0.1 in
    let clear = clear_granted o i.driver.journal seen.legal seen.in_range in
    ports_apart o.table.flows (all_granted o i.driver.journal) c.granted_ports.result.now are clear

pub serve_crew-requires-clause-posted : goal.serve_crew-requires-clause-posted
serve_crew-requires-clause-posted g c =
    let i = c.self.inside in
    posted_on c.args.hall.now.setting.opening.table.flows (all_granted c.args.hall.now.setting.opening i.driver.journal) c.args.slot c.args.slots i.poster.view
    c.post_grants.new.poster.view
    c.post_grants.ensures.posted c.self.invariant.1.posted c.self.invariant.1.apart

pub settle_ports-requires-clause-run : goal.settle_ports-requires-clause-run
settle_ports-requires-clause-run g c =
    let i = c.self.inside in
    let o = c.args.hall.now.setting.opening in
    let is = sym (ap (λ (m : CrewModel g.row.W.Denot). m.runner) c.self.view_is) in
    let here_ports : i.ports ≡ c.args.site.now.board.ports = ap (λ (m : CrewModel g.row.W.Denot). m.runner.ports) c.self.view_is ∙ c.requires.site.ports in
    let own = subst (λ (m : RunnerModel). IsDriverOf c.args.hall.now m.driver × (m.ports ≡ o.table.ports)) is c.requires.own in
    let low = subst (λ (m : RunnerModel). m.posted_to ≤ c.args.slot) is c.requires.later in
    let seen = c.made-seen.ensures.seen c.args.hall.now.setting own.0.1 in
    let within = c.coflows-within.ensures.opening in
    let idle = c.self.invariant.1 in
    let (before, d, first, long, open') = subst (λ (m : RunnerModel). (b : List Entry) × (x : Drive) × (c.args.slot ≡ x.first) × (c.args.slots ≡ x.slots) × IsOpenRunOf o b x
    m.driver) is c.requires.run in
    let many : length (wires_of i.wires.items) ≡ c.args.site.now.board.ports = as_long i.wires.items c.self.invariant.3 ∙ c.self.invariant.2 ∙ here_ports in
    let all = grants_crewed o before d i.driver within seen open' c.args.slot c.args.slots c.args.site.now.board.ports i.posted_to first long (sym here_ports ∙ own.1)
    i.poster.view c.post_grants.new.poster.view idle low c.post_grants.ensures.posted g.W.Wire.faults g.W.Wire.runs c.serve_crew.new.poster.view (wires_of i.wires.items)
    (wires_of c.serve_crew.new.wires) c.granted_ports.result.now (c.granted_ports.ensures c.args.hall.now.setting own.0.1)
    (of_places g.W.Wire.faults g.W.Wire.runs c.post_grants.new.poster.view c.serve_crew.new.poster.view c.granted_ports.result.now c.deref_mut.result.now i.wires.items
    c.serve_crew.new.wires (search rules) c.serve_crew.ensures.served) in
    let sent = sent_of all.took in (
      before,
      record d { sent = sent },
      told o before d i.driver within seen open' c.args.slot c.args.slots c.args.site.now.board.ports i.posted_to first long (sym here_ports ∙ own.1) i.poster.view
          c.post_grants.new.poster.view idle low c.post_grants.ensures.posted g.W.Wire.faults g.W.Wire.runs c.serve_crew.new.poster.view (wires_of i.wires.items)
          (wires_of c.serve_crew.new.wires) all many,
      waiting o before d i.driver within seen open' c.args.slot c.args.slots c.args.site.now.board.ports i.posted_to first long (sym here_ports ∙ own.1) i.poster.view
          c.post_grants.new.poster.view idle low c.post_grants.ensures.posted g.W.Wire.faults g.W.Wire.runs c.serve_crew.new.poster.view (wires_of i.wires.items)
          (wires_of c.serve_crew.new.wires) all many,
    )

pub note_short_ports-fault-requires-clause-run : goal.note_short_ports-fault-requires-clause-run
note_short_ports-fault-requires-clause-run g c =
    let i = c.self.inside in
    let o = c.args.hall.now.setting.opening in
    let is = sym (ap (λ (m : CrewModel g.row.W.Denot). m.runner) c.self.view_is) in
    let here_ports : i.ports ≡ c.args.site.now.board.ports = ap (λ (m : CrewModel g.row.W.Denot). m.runner.ports) c.self.view_is ∙ c.requires.site.ports in
    let own = subst (λ (m : RunnerModel). IsDriverOf c.args.hall.now m.driver × (m.ports ≡ o.table.ports)) is c.requires.own in
    let low = subst (λ (m : RunnerModel). m.posted_to ≤ c.args.slot) is c.requires.later in
    let seen = c.made-seen.ensures.seen c.args.hall.now.setting own.0.1 in
    let within = c.coflows-within.ensures.opening in
    let idle = c.self.invariant.1 in
    let (before, d, first, long, open') = subst (λ (m : RunnerModel). (b : List Entry) × (x : Drive) × (c.args.slot ≡ x.first) × (c.args.slots ≡ x.slots) × IsOpenRunOf o b x
    m.driver) is c.requires.run in
    let many : length (wires_of i.wires.items) ≡ c.args.site.now.board.ports = as_long i.wires.items c.self.invariant.3 ∙ c.self.invariant.2 ∙ here_ports in
    let all = grants_crewed o before d i.driver within seen open' c.args.slot c.args.slots c.args.site.now.board.ports i.posted_to first long (sym here_ports ∙ own.1)
    i.poster.view c.post_grants.new.poster.view idle low c.post_grants.ensures.posted g.W.Wire.faults g.W.Wire.runs c.serve_crew.new.poster.view (wires_of i.wires.items)
    (wires_of c.serve_crew.new.wires) c.granted_ports.result.now (c.granted_ports.ensures c.args.hall.now.setting own.0.1)
    (of_places g.W.Wire.faults g.W.Wire.runs c.post_grants.new.poster.view c.serve_crew.new.poster.view c.granted_ports.result.now c.deref_mut.result.now i.wires.items
    c.serve_crew.new.wires (search rules) c.serve_crew.ensures.served) in
    let sent = sent_of all.took in
    let here = waiting o before d i.driver within seen open' c.args.slot c.args.slots c.args.site.now.board.ports i.posted_to first long (sym here_ports ∙ own.1) i.poster.view
    c.post_grants.new.poster.view idle low c.post_grants.ensures.posted g.W.Wire.faults g.W.Wire.runs c.serve_crew.new.poster.view (wires_of i.wires.items)
    (wires_of c.serve_crew.new.wires) all many in
    let there = told o before d i.driver within seen open' c.args.slot c.args.slots c.args.site.now.board.ports i.posted_to first long (sym here_ports ∙ own.1) i.poster.view
    c.post_grants.new.poster.view idle low c.post_grants.ensures.posted g.W.Wire.faults g.W.Wire.runs c.serve_crew.new.poster.view (wires_of i.wires.items)
    (wires_of c.serve_crew.new.wires) all many in
    let settled = c.settle_ports.ensures.settled before (record d { sent = sent }) there here in
    let list = listed o before d i.driver within seen open' c.args.slot c.args.slots c.args.site.now.board.ports i.posted_to first long (sym here_ports ∙ own.1) i.poster.view
    c.post_grants.new.poster.view idle low c.post_grants.ensures.posted g.W.Wire.faults g.W.Wire.runs c.serve_crew.new.poster.view (wires_of i.wires.items)
    (wires_of c.serve_crew.new.wires) all many c.deref-2.result.now
    (c.deref-2.ensures.value ∙ c.settle_ports.ensures.sent before (record d { sent = sent }) there here) in
    (before, record d { sent = sent }, long, there, list)

pub close_run-requires-clause-own : goal.close_run-requires-clause-own
close_run-requires-clause-own g c =
    let i = c.self.inside in
    let o = c.args.hall.now.setting.opening in
    let is = sym (ap (λ (m : CrewModel g.row.W.Denot). m.runner) c.self.view_is) in
    let here_ports : i.ports ≡ c.args.site.now.board.ports = ap (λ (m : CrewModel g.row.W.Denot). m.runner.ports) c.self.view_is ∙ c.requires.site.ports in
    let own = subst (λ (m : RunnerModel). IsDriverOf c.args.hall.now m.driver × (m.ports ≡ o.table.ports)) is c.requires.own in
    let low = subst (λ (m : RunnerModel). m.posted_to ≤ c.args.slot) is c.requires.later in
    let seen = c.made-seen.ensures.seen c.args.hall.now.setting own.0.1 in
    let within = c.coflows-within.ensures.opening in
    let idle = c.self.invariant.1 in
    let (before, d, first, long, open') = subst (λ (m : RunnerModel). (b : List Entry) × (x : Drive) × (c.args.slot ≡ x.first) × (c.args.slots ≡ x.slots) × IsOpenRunOf o b x
    m.driver) is c.requires.run in
    let many : length (wires_of i.wires.items) ≡ c.args.site.now.board.ports = as_long i.wires.items c.self.invariant.3 ∙ c.self.invariant.2 ∙ here_ports in
    let all = grants_crewed o before d i.driver within seen open' c.args.slot c.args.slots c.args.site.now.board.ports i.posted_to first long (sym here_ports ∙ own.1)
    i.poster.view c.post_grants.new.poster.view idle low c.post_grants.ensures.posted g.W.Wire.faults g.W.Wire.runs c.serve_crew.new.poster.view (wires_of i.wires.items)
    (wires_of c.serve_crew.new.wires) c.granted_ports.result.now (c.granted_ports.ensures c.args.hall.now.setting own.0.1)
    (of_places g.W.Wire.faults g.W.Wire.runs c.post_grants.new.poster.view c.serve_crew.new.poster.view c.granted_ports.result.now c.deref_mut.result.now i.wires.items
    c.serve_crew.new.wires (search rules) c.serve_crew.ensures.served) in
    let sent = sent_of all.took in
    let here = waiting o before d i.driver within seen open' c.args.slot c.args.slots c.args.site.now.board.ports i.posted_to first long (sym here_ports ∙ own.1)
    i.poster.view c.post_grants.new.poster.view idle low c.post_grants.ensures.posted g.W.Wire.faults g.W.Wire.runs c.serve_crew.new.poster.view (wires_of i.wires.items)
    (wires_of c.serve_crew.new.wires) all many in
    let there = told o before d i.driver within seen open' c.args.slot c.args.slots c.args.site.now.board.ports i.posted_to first long (sym here_ports ∙ own.1)
    i.poster.view c.post_grants.new.poster.view idle low c.post_grants.ensures.posted g.W.Wire.faults g.W.Wire.runs c.serve_crew.new.poster.view (wires_of i.wires.items)
    (wires_of c.serve_crew.new.wires) all many in
    let settled = c.settle_ports.ensures.settled before (record d { sent = sent }) there here in
    let list = listed o before d i.driver within seen open' c.args.slot c.args.slots c.args.site.now.board.ports i.posted_to first long (sym here_ports ∙ own.1) i.poster.view
    c.post_grants.new.poster.view idle low c.post_grants.ensures.posted g.W.Wire.faults g.W.Wire.runs c.serve_crew.new.poster.view (wires_of i.wires.items)
    (wires_of c.serve_crew.new.wires) all many c.deref-2.result.now
    (c.deref-2.ensures.value ∙ c.settle_ports.ensures.sent before (record d { sent = sent }) there here) in
    let noted = c.note_short_ports-fault.ensures.noted before (record d { sent = sent }) long there list in
    let short = c.note_short_ports-fault.ensures.first_short before (record d { sent = sent }) long there list in
    (noted.place.gate ∙ own.0.0, noted.place.setting ∙ own.0.1, (λ j. (noted.place.rank j).table) ∙ own.0.2)

pub close_run-requires-clause-call : goal.close_run-requires-clause-call
close_run-requires-clause-call g c =
    let i = c.self.inside in
    let o = c.args.hall.now.setting.opening in
    let is = sym (ap (λ (m : CrewModel g.row.W.Denot). m.runner) c.self.view_is) in
    let here_ports : i.ports ≡ c.args.site.now.board.ports = ap (λ (m : CrewModel g.row.W.Denot). m.runner.ports) c.self.view_is ∙ c.requires.site.ports in
    let own = subst (λ (m : RunnerModel). IsDriverOf c.args.hall.now m.driver × (m.ports ≡ o.table.ports)) is c.requires.own in
    let low = subst (λ (m : RunnerModel). m.posted_to ≤ c.args.slot) is c.requires.later in
    let seen = c.made-seen.ensures.seen c.args.hall.now.setting own.0.1 in
    let within = c.coflows-within.ensures.opening in
    let idle = c.self.invariant.1 in
    let (before, d, first, long, open') = subst (λ (m : RunnerModel). (b : List Entry) × (x : Drive) × (c.args.slot ≡ x.first) × (c.args.slots ≡ x.slots) × IsOpenRunOf o b x
    m.driver) is c.requires.run in
    let many : length (wires_of i.wires.items) ≡ c.args.site.now.board.ports = as_long i.wires.items c.self.invariant.3 ∙ c.self.invariant.2 ∙ here_ports in
    let all = grants_crewed o before d i.driver within seen open' c.args.slot c.args.slots c.args.site.now.board.ports i.posted_to first long (sym here_ports ∙ own.1)
    i.poster.view c.post_grants.new.poster.view idle low c.post_grants.ensures.posted g.W.Wire.faults g.W.Wire.runs c.serve_crew.new.poster.view (wires_of i.wires.items)
    (wires_of c.serve_crew.new.wires) c.granted_ports.result.now (c.granted_ports.ensures c.args.hall.now.setting own.0.1)
    (of_places g.W.Wire.faults g.W.Wire.runs c.post_grants.new.poster.view c.serve_crew.new.poster.view c.granted_ports.result.now c.deref_mut.result.now i.wires.items
    c.serve_crew.new.wires (search rules) c.serve_crew.ensures.served) in
    let sent = sent_of all.took in
    let here = waiting o before d i.driver within seen open' c.args.slot c.args.slots c.args.site.now.board.ports i.posted_to first long (sym here_ports ∙ own.1)
    i.poster.view c.post_grants.new.poster.view idle low c.post_grants.ensures.posted g.W.Wire.faults g.W.Wire.runs c.serve_crew.new.poster.view (wires_of i.wires.items)
    (wires_of c.serve_crew.new.wires) all many in
    let there = told o before d i.driver within seen open' c.args.slot c.args.slots c.args.site.now.board.ports i.posted_to first long (sym here_ports ∙ own.1)
    i.poster.view c.post_grants.new.poster.view idle low c.post_grants.ensures.posted g.W.Wire.faults g.W.Wire.runs c.serve_crew.new.poster.view (wires_of i.wires.items)
    (wires_of c.serve_crew.new.wires) all many in
    let settled = c.settle_ports.ensures.settled before (record d { sent = sent }) there here in
    let list = listed o before d i.driver within seen open' c.args.slot c.args.slots c.args.site.now.board.ports i.posted_to first long (sym here_ports ∙ own.1) i.poster.view
    c.post_grants.new.poster.view idle low c.post_grants.ensures.posted g.W.Wire.faults g.W.Wire.runs c.serve_crew.new.poster.view (wires_of i.wires.items)
    (wires_of c.serve_crew.new.wires) all many c.deref-2.result.now
    (c.deref-2.ensures.value ∙ c.settle_ports.ensures.sent before (record d { sent = sent }) there here) in
    let noted = c.note_short_ports-fault.ensures.noted before (record d { sent = sent }) long there list in
    let short = c.note_short_ports-fault.ensures.first_short before (record d { sent = sent }) long there list in
    call_left o before d i.driver within seen open' c.args.slot c.args.slots c.args.site.now.board.ports i.posted_to first long (sym here_ports ∙ own.1) i.poster.view
    c.post_grants.new.poster.view idle low c.post_grants.ensures.posted g.W.Wire.faults g.W.Wire.runs c.serve_crew.new.poster.view (wires_of i.wires.items)
    (wires_of c.serve_crew.new.wires) all many c.settle_ports.new.poster.view c.note_short_ports-fault.new.driver c.note_short_ports-fault.result settled noted short

pub close_run-requires-clause-run : goal.close_run-requires-clause-run
close_run-requires-clause-run g c =
    let i = c.self.inside in
    let o = c.args.hall.now.setting.opening in
    let is = sym (ap (λ (m : CrewModel g.row.W.Denot). m.runner) c.self.view_is) in
    let here_ports : i.ports ≡ c.args.site.now.board.ports = ap (λ (m : CrewModel g.row.W.Denot). m.runner.ports) c.self.view_is ∙ c.requires.site.ports in
    let own = subst (λ (m : RunnerModel). IsDriverOf c.args.hall.now m.driver × (m.ports ≡ o.table.ports)) is c.requires.own in
    let low = subst (λ (m : RunnerModel). m.posted_to ≤ c.args.slot) is c.requires.later in
    let seen = c.made-seen.ensures.seen c.args.hall.now.setting own.0.1 in
    let within = c.coflows-within.ensures.opening in
    let idle = c.self.invariant.1 in
    let (before, d, first, long, open') = subst (λ (m : RunnerModel). (b : List Entry) × (x : Drive) × (c.args.slot ≡ x.first) × (c.args.slots ≡ x.slots) × IsOpenRunOf o b x
    m.driver) is c.requires.run in
    let many : length (wires_of i.wires.items) ≡ c.args.site.now.board.ports = as_long i.wires.items c.self.invariant.3 ∙ c.self.invariant.2 ∙ here_ports in
    let all = grants_crewed o before d i.driver within seen open' c.args.slot c.args.slots c.args.site.now.board.ports i.posted_to first long (sym here_ports ∙ own.1)
    i.poster.view c.post_grants.new.poster.view idle low c.post_grants.ensures.posted g.W.Wire.faults g.W.Wire.runs c.serve_crew.new.poster.view (wires_of i.wires.items)
    (wires_of c.serve_crew.new.wires) c.granted_ports.result.now (c.granted_ports.ensures c.args.hall.now.setting own.0.1)
    (of_places g.W.Wire.faults g.W.Wire.runs c.post_grants.new.poster.view c.serve_crew.new.poster.view c.granted_ports.result.now c.deref_mut.result.now i.wires.items
    c.serve_crew.new.wires (search rules) c.serve_crew.ensures.served) in
    let sent = sent_of all.took in
    let here = waiting o before d i.driver within seen open' c.args.slot c.args.slots c.args.site.now.board.ports i.posted_to first long (sym here_ports ∙ own.1)
    i.poster.view c.post_grants.new.poster.view idle low c.post_grants.ensures.posted g.W.Wire.faults g.W.Wire.runs c.serve_crew.new.poster.view (wires_of i.wires.items)
    (wires_of c.serve_crew.new.wires) all many in
    let there = told o before d i.driver within seen open' c.args.slot c.args.slots c.args.site.now.board.ports i.posted_to first long (sym here_ports ∙ own.1)
    i.poster.view c.post_grants.new.poster.view idle low c.post_grants.ensures.posted g.W.Wire.faults g.W.Wire.runs c.serve_crew.new.poster.view (wires_of i.wires.items)
    (wires_of c.serve_crew.new.wires) all many in
    let settled = c.settle_ports.ensures.settled before (record d { sent = sent }) there here in
    let list = listed o before d i.driver within seen open' c.args.slot c.args.slots c.args.site.now.board.ports i.posted_to first long (sym here_ports ∙ own.1) i.poster.view
    c.post_grants.new.poster.view idle low c.post_grants.ensures.posted g.W.Wire.faults g.W.Wire.runs c.serve_crew.new.poster.view (wires_of i.wires.items)
    (wires_of c.serve_crew.new.wires) all many c.deref-2.result.now
    (c.deref-2.ensures.value ∙ c.settle_ports.ensures.sent before (record d { sent = sent }) there here) in
    let noted = c.note_short_ports-fault.ensures.noted before (record d { sent = sent }) long there list in
    let short = c.note_short_ports-fault.ensures.first_short before (record d { sent = sent }) long there list in
    still_under_way o before d i.driver within seen open' c.args.slot c.args.slots c.args.site.now.board.ports i.posted_to first long (sym here_ports ∙ own.1) i.poster.view
    c.post_grants.new.poster.view idle low c.post_grants.ensures.posted g.W.Wire.faults g.W.Wire.runs c.serve_crew.new.poster.view (wires_of i.wires.items)
    (wires_of c.serve_crew.new.wires) all many c.settle_ports.new.poster.view c.note_short_ports-fault.new.driver c.note_short_ports-fault.result settled noted short

pub overflow_add-self : goal.overflow_add-self
overflow_add-self g c =
    let i = c.self.inside in
    let o = c.args.hall.now.setting.opening in
    let is = sym (ap (λ (m : CrewModel g.row.W.Denot). m.runner) c.self.view_is) in
    let here_ports : i.ports ≡ c.args.site.now.board.ports = ap (λ (m : CrewModel g.row.W.Denot). m.runner.ports) c.self.view_is ∙ c.requires.site.ports in
    let own = subst (λ (m : RunnerModel). IsDriverOf c.args.hall.now m.driver × (m.ports ≡ o.table.ports)) is c.requires.own in
    let low = subst (λ (m : RunnerModel). m.posted_to ≤ c.args.slot) is c.requires.later in
    let seen = c.made-seen.ensures.seen c.args.hall.now.setting own.0.1 in
    let within = c.coflows-within.ensures.opening in
    let idle = c.self.invariant.1 in
    let (before, d, first, long, open') = subst (λ (m : RunnerModel). (b : List Entry) × (x : Drive) × (c.args.slot ≡ x.first) × (c.args.slots ≡ x.slots) × IsOpenRunOf o b x
    m.driver) is c.requires.run in
    let facts = open_facts o before i.driver.journal d seen.legal seen.in_range open'.under_way in
    let last = facts.first in
    let ends = facts.ends in
    omega (arith, first, long, last, ends)

pub invariant_of-self : goal.invariant_of-self
invariant_of-self g c =
    let i = c.self.inside in
    let o = c.args.hall.now.setting.opening in
    let is = sym (ap (λ (m : CrewModel g.row.W.Denot). m.runner) c.self.view_is) in
    let here_ports : i.ports ≡ c.args.site.now.board.ports = ap (λ (m : CrewModel g.row.W.Denot). m.runner.ports) c.self.view_is ∙ c.requires.site.ports in
    let own = subst (λ (m : RunnerModel). IsDriverOf c.args.hall.now m.driver × (m.ports ≡ o.table.ports)) is c.requires.own in
    let low = subst (λ (m : RunnerModel). m.posted_to ≤ c.args.slot) is c.requires.later in
    let seen = c.made-seen.ensures.seen c.args.hall.now.setting own.0.1 in
    let within = c.coflows-within.ensures.opening in
    let idle = c.self.invariant.1 in
    let (before, d, first, long, open') = subst (λ (m : RunnerModel). (b : List Entry) × (x : Drive) × (c.args.slot ≡ x.first) × (c.args.slots ≡ x.slots) × IsOpenRunOf o b x
    m.driver) is c.requires.run in
    let many : length (wires_of i.wires.items) ≡ c.args.site.now.board.ports = as_long i.wires.items c.self.invariant.3 ∙ c.self.invariant.2 ∙ here_ports in
    let all = grants_crewed o before d i.driver within seen open' c.args.slot c.args.slots c.args.site.now.board.ports i.posted_to first long (sym here_ports ∙ own.1)
    i.poster.view c.post_grants.new.poster.view idle low c.post_grants.ensures.posted g.W.Wire.faults g.W.Wire.runs c.serve_crew.new.poster.view (wires_of i.wires.items)
    (wires_of c.serve_crew.new.wires) c.granted_ports.result.now (c.granted_ports.ensures c.args.hall.now.setting own.0.1)
    (of_places g.W.Wire.faults g.W.Wire.runs c.post_grants.new.poster.view c.serve_crew.new.poster.view c.granted_ports.result.now c.deref_mut.result.now i.wires.items
    c.serve_crew.new.wires (search rules) c.serve_crew.ensures.served) in
    let sent = sent_of all.took in
    let here = waiting o before d i.driver within seen open' c.args.slot c.args.slots c.args.site.now.board.ports i.posted_to first long (sym here_ports ∙ own.1)
    i.poster.view c.post_grants.new.poster.view idle low c.post_grants.ensures.posted g.W.Wire.faults g.W.Wire.runs c.serve_crew.new.poster.view (wires_of i.wires.items)
    (wires_of c.serve_crew.new.wires) all many in
    let there = told o before d i.driver within seen open' c.args.slot c.args.slots c.args.site.now.board.ports i.posted_to first long (sym here_ports ∙ own.1)
    i.poster.view c.post_grants.new.poster.view idle low c.post_grants.ensures.posted g.W.Wire.faults g.W.Wire.runs c.serve_crew.new.poster.view (wires_of i.wires.items)
    (wires_of c.serve_crew.new.wires) all many in
    let settled = c.settle_ports.ensures.settled before (record d { sent = sent }) there here in
    let list = listed o before d i.driver within seen open' c.args.slot c.args.slots c.args.site.now.board.ports i.posted_to first long (sym here_ports ∙ own.1) i.poster.view
    c.post_grants.new.poster.view idle low c.post_grants.ensures.posted g.W.Wire.faults g.W.Wire.runs c.serve_crew.new.poster.view (wires_of i.wires.items)
    (wires_of c.serve_crew.new.wires) all many c.deref-2.result.now
    (c.deref-2.ensures.value ∙ c.settle_ports.ensures.sent before (record d { sent = sent }) there here) in
    let noted = c.note_short_ports-fault.ensures.noted before (record d { sent = sent }) long there list in
    let short = c.note_short_ports-fault.ensures.first_short before (record d { sent = sent }) long there list in
    let room = c.list_granted.ensures.room in
    let there = c.serve_crew.ensures.wires in
    let near_is : c.deref_mut.result.now ≡ i.wires.items = search rules in
    let back = written_back i.wires.len c.serve_crew.new.wires i.wires.items (there.0 ∙ c.deref_mut.ensures.len) in (
      (
        (let was = c.self.invariant.0.0 in omega (arith, room, was)),
        (let was = c.self.invariant.0.1 in let kept = c.settle_ports.ensures.room in omega (arith, kept, was)),
      ),
      idle_then o before d i.driver within seen open' c.args.slot c.args.slots c.args.site.now.board.ports i.posted_to first long (sym here_ports ∙ own.1) i.poster.view
          c.post_grants.new.poster.view idle low c.post_grants.ensures.posted g.W.Wire.faults g.W.Wire.runs c.serve_crew.new.poster.view (wires_of i.wires.items)
          (wires_of c.serve_crew.new.wires) all many c.settle_ports.new.poster.view c.note_short_ports-fault.new.driver c.note_short_ports-fault.result settled noted
          short,
      ap (λ l. length l) back ∙ there.0 ∙ (ap (λ l. length l) near_is ∙ c.self.invariant.2),
      subst AllThere (sym back) there.1,
    )

pub returns : goal.returns
returns g c = record {
  run = λ before d first long opened.
      let i = c.self.inside in
      let o = c.args.hall.now.setting.opening in
      let is = sym (ap (λ (m : CrewModel g.row.W.Denot). m.runner) c.self.view_is) in
      let here_ports : i.ports ≡ c.args.site.now.board.ports = ap (λ (m : CrewModel g.row.W.Denot). m.runner.ports) c.self.view_is ∙ c.requires.site.ports in
      let own = subst (λ (m : RunnerModel). IsDriverOf c.args.hall.now m.driver × (m.ports ≡ o.table.ports)) is c.requires.own in
      let low = subst (λ (m : RunnerModel). m.posted_to ≤ c.args.slot) is c.requires.later in
      let seen = c.made-seen.ensures.seen c.args.hall.now.setting own.0.1 in
      let within = c.coflows-within.ensures.opening in
      let idle = c.self.invariant.1 in
      let open' = subst (λ (m : RunnerModel). IsOpenRunOf o before d m.driver) is opened in
      let many : length (wires_of i.wires.items) ≡ c.args.site.now.board.ports = as_long i.wires.items c.self.invariant.3 ∙ c.self.invariant.2 ∙ here_ports in
      let all = grants_crewed o before d i.driver within seen open' c.args.slot c.args.slots c.args.site.now.board.ports i.posted_to first long (sym here_ports ∙ own.1)
      i.poster.view c.post_grants.new.poster.view idle low c.post_grants.ensures.posted g.W.Wire.faults g.W.Wire.runs c.serve_crew.new.poster.view (wires_of i.wires.items)
      (wires_of c.serve_crew.new.wires) c.granted_ports.result.now (c.granted_ports.ensures c.args.hall.now.setting own.0.1)
      (of_places g.W.Wire.faults g.W.Wire.runs c.post_grants.new.poster.view c.serve_crew.new.poster.view c.granted_ports.result.now c.deref_mut.result.now i.wires.items
      c.serve_crew.new.wires (search rules) c.serve_crew.ensures.served) in
      let sent = sent_of all.took in
      let here = waiting o before d i.driver within seen open' c.args.slot c.args.slots c.args.site.now.board.ports i.posted_to first long (sym here_ports ∙ own.1)
      i.poster.view c.post_grants.new.poster.view idle low c.post_grants.ensures.posted g.W.Wire.faults g.W.Wire.runs c.serve_crew.new.poster.view
      (wires_of i.wires.items) (wires_of c.serve_crew.new.wires) all many in
      let there = told o before d i.driver within seen open' c.args.slot c.args.slots c.args.site.now.board.ports i.posted_to first long (sym here_ports ∙ own.1)
      i.poster.view c.post_grants.new.poster.view idle low c.post_grants.ensures.posted g.W.Wire.faults g.W.Wire.runs c.serve_crew.new.poster.view
      (wires_of i.wires.items) (wires_of c.serve_crew.new.wires) all many in
      let settled = c.settle_ports.ensures.settled before (record d { sent = sent }) there here in
      let list = listed o before d i.driver within seen open' c.args.slot c.args.slots c.args.site.now.board.ports i.posted_to first long (sym here_ports ∙ own.1) i.poster.view
      c.post_grants.new.poster.view idle low c.post_grants.ensures.posted g.W.Wire.faults g.W.Wire.runs c.serve_crew.new.poster.view (wires_of i.wires.items)
      (wires_of c.serve_crew.new.wires) all many c.deref-2.result.now
      (c.deref-2.ensures.value ∙ c.settle_ports.ensures.sent before (record d { sent = sent }) there here) in
      let noted = c.note_short_ports-fault.ensures.noted before (record d { sent = sent }) long there list in
      let short = c.note_short_ports-fault.ensures.first_short before (record d { sent = sent }) long there list in
      let (r, on) = c.close_run.ensures.done in
      let whole = through o before d i.driver within seen open' c.args.slot c.args.slots c.args.site.now.board.ports i.posted_to first long (sym here_ports ∙ own.1)
      i.poster.view c.post_grants.new.poster.view idle low c.post_grants.ensures.posted g.W.Wire.faults g.W.Wire.runs c.serve_crew.new.poster.view
      (wires_of i.wires.items) (wires_of c.serve_crew.new.wires) all many c.settle_ports.new.poster.view c.note_short_ports-fault.new.driver
      c.note_short_ports-fault.result settled noted short c.close_run.new.driver r on c.close_run.ensures.place [] (wires_of i.wires.items)
      (wires_of c.serve_crew.new.wires)
      (sym (append-nil (wires_of i.wires.items))) (sym (append-nil (wires_of c.serve_crew.new.wires))) c.list_granted.new.flows.items i.granted.items
      c.list_granted.ensures.flows in
      let mine = subst (λ (n : ℕ). IsCarriedOut g.W.Wire.faults g.W.Wire.runs o before d (record {
        driver = i.driver;
        ports = n;
        posted_to = i.posted_to;
        posts = i.poster.view.posts;
        settled = i.poster.view.settled;
        granted = i.granted.items;
      }) (record {
        driver = c.close_run.new.driver;
        ports = n;
        posted_to = c.args.slot + c.args.slots;
        posts = c.settle_ports.new.poster.view.posts;
        settled = c.settle_ports.new.poster.view.settled;
        granted = c.list_granted.new.flows.items;
      }) (wires_of i.wires.items) (wires_of c.serve_crew.new.wires) c.note_short_ports-fault.result) (sym here_ports) whole in
      let done = subst (λ (m : CrewModel g.row.W.Denot). IsCarriedOut g.W.Wire.faults g.W.Wire.runs o before d m.runner (record {
        driver = c.close_run.new.driver;
        ports = i.ports;
        posted_to = c.args.slot + c.args.slots;
        posts = c.settle_ports.new.poster.view.posts;
        settled = c.settle_ports.new.poster.view.settled;
        granted = c.list_granted.new.flows.items;
      }) m.wires (wires_of c.serve_crew.new.wires) c.note_short_ports-fault.result) c.self.view_is mine in
      let back = written_back i.wires.len c.serve_crew.new.wires i.wires.items (c.serve_crew.ensures.wires.0 ∙ c.deref_mut.ensures.len) in
      subst (λ (l : List (Option g.row.W.Denot)). IsCarriedOut g.W.Wire.faults g.W.Wire.runs o before d c.args.self.now.runner (record {
        driver = c.close_run.new.driver;
        ports = i.ports;
        posted_to = c.args.slot + c.args.slots;
        posts = c.settle_ports.new.poster.view.posts;
        settled = c.settle_ports.new.poster.view.settled;
        granted = c.list_granted.new.flows.items;
      }) c.args.self.now.wires (wires_of l) c.note_short_ports-fault.result) (sym back) done;
  stays = (
    c.settle_ports.ensures.own ∙ (c.serve_crew.ensures.own.0 ∙ (c.post_grants.ensures.own ∙ ap (λ (m : CrewModel g.row.W.Denot). m.at) c.self.view_is)),
    c.serve_crew.ensures.same ∙ ap (λ (m : CrewModel g.row.W.Denot). m.places) c.self.view_is,
  );
}

-- there is room for a flow of each port
pub list_granted-requires-clause-room : goal.list_granted-requires-clause-room
list_granted-requires-clause-room g c =
    let i = c.self.inside in
    let o = c.args.hall.now.setting.opening in
    let is = sym (ap (λ (m : CrewModel g.row.W.Denot). m.runner) c.self.view_is) in
    let here_ports : i.ports ≡ c.args.site.now.board.ports = ap (λ (m : CrewModel g.row.W.Denot). m.runner.ports) c.self.view_is ∙ c.requires.site.ports in
    let own = subst (λ (m : RunnerModel). IsDriverOf c.args.hall.now m.driver × (m.ports ≡ o.table.ports)) is c.requires.own in
    let low = subst (λ (m : RunnerModel). m.posted_to ≤ c.args.slot) is c.requires.later in
    let seen = c.made-seen.ensures.seen c.args.hall.now.setting own.0.1 in
    let within = c.coflows-within.ensures.opening in
    let idle = c.self.invariant.1 in
    let room = c.self.invariant.0.0 in
    let ports = own.1 in
    omega (arith, ports, room)
