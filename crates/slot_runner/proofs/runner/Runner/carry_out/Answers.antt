-- The steps of an open run, one after the other.
use Rattle.std.proofs.Common.{◌≡◌, ◌+◌, ◌≤◌, List, ◌++◌, sym, ◌∙◌, refl, subst, arith}
use Rattle.journal.specs.declared.command.Entry.{Entry}
use Rattle.journal.specs.Driven.{Drive}
use Rattle.client_session.specs.Grants.{all_granted}
use Rattle.client_session.specs.Models.{IsDriverOf}
use Rattle.slot_runner.specs.Carried.{IsCarriedOut}
use Rattle.slot_runner.specs.Models.{RunnerModel}
use Rattle.slot_runner.specs.Settling.{IsOpenRunOf}
use Rattle.slot_runner.proofs.OnePort.{sent_of}
use Rattle.slot_runner.proofs.Opens.{flow_in_range, open_facts}
use Rattle.slot_runner.proofs.Through.{all_served, call_left, idle_then, listed, posted_on, still_under_way, through, told, waiting}
use Rattle.slot_runner.proofs.runner.Runner.carry_out.Goals as goal

pub post_grants-requires-clause-flows : goal.post_grants-requires-clause-flows
post_grants-requires-clause-flows g c =
    let i = c.self.inside in
    let o = c.args.hall.now.setting.opening in
    let is = sym c.self.view_is in
    let own = subst (λ (m : RunnerModel). IsDriverOf c.args.hall.now m.driver × (m.ports ≡ o.table.ports)) is c.requires.own in
    let low = subst (λ (m : RunnerModel). m.posted_to ≤ c.args.slot) is c.requires.later in
    let seen = c.made-seen.ensures.seen c.args.hall.now.setting own.0.1 in
    let within = c.coflows-within.ensures.opening in
    let idle = c.self.invariant.2 in
    let (before, d, first, long, open') = subst (λ (m : RunnerModel). (b : List Entry) × (x : Drive) × (c.args.slot ≡ x.first) × (c.args.slots ≡ x.slots) × IsOpenRunOf o b x
    m.driver) is c.requires.run in
    let facts = open_facts o before i.driver.journal d seen.legal seen.in_range open'.under_way in
    λ port f e. flow_in_range o before i.driver.journal d within facts port f e

pub post_grants-requires-clause-slot : goal.post_grants-requires-clause-slot
post_grants-requires-clause-slot g c =
    let i = c.self.inside in
    let o = c.args.hall.now.setting.opening in
    let is = sym c.self.view_is in
    let own = subst (λ (m : RunnerModel). IsDriverOf c.args.hall.now m.driver × (m.ports ≡ o.table.ports)) is c.requires.own in
    let low = subst (λ (m : RunnerModel). m.posted_to ≤ c.args.slot) is c.requires.later in
    let seen = c.made-seen.ensures.seen c.args.hall.now.setting own.0.1 in
    let within = c.coflows-within.ensures.opening in
    let idle = c.self.invariant.2 in
    let (before, d, first, long, open') = subst (λ (m : RunnerModel). (b : List Entry) × (x : Drive) × (c.args.slot ≡ x.first) × (c.args.slots ≡ x.slots) × IsOpenRunOf o b x
    m.driver) is c.requires.run in
    let facts = open_facts o before i.driver.journal d seen.legal seen.in_range open'.under_way in
    let some = facts.some in
    let last = facts.first in
    (omega (arith, first, some), omega (arith, first, last), λ k x lt. omega (arith, idle.posts_before k x lt, low))

pub post_grants-requires-clause-length : goal.post_grants-requires-clause-length
post_grants-requires-clause-length g c =
    let i = c.self.inside in
    let o = c.args.hall.now.setting.opening in
    let is = sym c.self.view_is in
    let own = subst (λ (m : RunnerModel). IsDriverOf c.args.hall.now m.driver × (m.ports ≡ o.table.ports)) is c.requires.own in
    let low = subst (λ (m : RunnerModel). m.posted_to ≤ c.args.slot) is c.requires.later in
    let seen = c.made-seen.ensures.seen c.args.hall.now.setting own.0.1 in
    let within = c.coflows-within.ensures.opening in
    let idle = c.self.invariant.2 in
    let (before, d, first, long, open') = subst (λ (m : RunnerModel). (b : List Entry) × (x : Drive) × (c.args.slot ≡ x.first) × (c.args.slots ≡ x.slots) × IsOpenRunOf o b x
    m.driver) is c.requires.run in
    let facts = open_facts o before i.driver.journal d seen.legal seen.in_range open'.under_way in
    let some = facts.long in
    let last = facts.ends in
    (omega (arith, long, some), omega (arith, long, last))

pub serve_run-requires-clause-posted : goal.serve_run-requires-clause-posted
serve_run-requires-clause-posted g c κs within =
    let i = c.self.inside in
    posted_on c.args.hall.now.setting.opening.table.flows (all_granted c.args.hall.now.setting.opening i.driver.journal) c.args.slot c.args.slots i.poster.view
    c.post_grants.new.poster.view
    c.post_grants.ensures.posted
    c.self.invariant.2.posted c.self.invariant.2.apart

pub settle_ports-requires-clause-run : goal.settle_ports-requires-clause-run
settle_ports-requires-clause-run g c =
    let i = c.self.inside in
    let o = c.args.hall.now.setting.opening in
    let is = sym c.self.view_is in
    let own = subst (λ (m : RunnerModel). IsDriverOf c.args.hall.now m.driver × (m.ports ≡ o.table.ports)) is c.requires.own in
    let low = subst (λ (m : RunnerModel). m.posted_to ≤ c.args.slot) is c.requires.later in
    let seen = c.made-seen.ensures.seen c.args.hall.now.setting own.0.1 in
    let within = c.coflows-within.ensures.opening in
    let idle = c.self.invariant.2 in
    let (before, d, first, long, open') = subst (λ (m : RunnerModel). (b : List Entry) × (x : Drive) × (c.args.slot ≡ x.first) × (c.args.slots ≡ x.slots) × IsOpenRunOf o b x
    m.driver) is c.requires.run in
    let many = c.split_at_mut-near.ensures.front_len ∙ c.ports.ensures.ports in
    let all = all_served o before d i.driver within seen open' c.args.slot c.args.slots i.board.ports i.posted_to first long own.1 i.poster.view c.post_grants.new.poster.view
    idle low c.post_grants.ensures.posted g.W.Wire.faults g.W.Wire.runs c.serve_run.new.poster.view _ c.serve_run.new.wires c.serve_run.ensures.served many in
    let sent = sent_of all.took in (
      before,
      record d { sent = sent },
      told o before d i.driver within seen open' c.args.slot c.args.slots i.board.ports i.posted_to first long own.1 i.poster.view
          c.post_grants.new.poster.view idle low c.post_grants.ensures.posted g.W.Wire.faults g.W.Wire.runs c.serve_run.new.poster.view _ c.serve_run.new.wires all many,
      waiting
          o before d i.driver within seen open' c.args.slot c.args.slots i.board.ports i.posted_to first long own.1 i.poster.view c.post_grants.new.poster.view idle low
          c.post_grants.ensures.posted g.W.Wire.faults g.W.Wire.runs c.serve_run.new.poster.view _ c.serve_run.new.wires all many,
    )

pub note_short_ports-fault-requires-clause-run : goal.note_short_ports-fault-requires-clause-run
note_short_ports-fault-requires-clause-run g c =
    let i = c.self.inside in
    let o = c.args.hall.now.setting.opening in
    let is = sym c.self.view_is in
    let own = subst (λ (m : RunnerModel). IsDriverOf c.args.hall.now m.driver × (m.ports ≡ o.table.ports)) is c.requires.own in
    let low = subst (λ (m : RunnerModel). m.posted_to ≤ c.args.slot) is c.requires.later in
    let seen = c.made-seen.ensures.seen c.args.hall.now.setting own.0.1 in
    let within = c.coflows-within.ensures.opening in
    let idle = c.self.invariant.2 in
    let (before, d, first, long, open') = subst (λ (m : RunnerModel). (b : List Entry) × (x : Drive) × (c.args.slot ≡ x.first) × (c.args.slots ≡ x.slots) × IsOpenRunOf o b x
    m.driver) is c.requires.run in
    let many = c.split_at_mut-near.ensures.front_len ∙ c.ports.ensures.ports in
    let all = all_served o before d i.driver within seen open' c.args.slot c.args.slots i.board.ports i.posted_to first long own.1 i.poster.view c.post_grants.new.poster.view
    idle low c.post_grants.ensures.posted g.W.Wire.faults g.W.Wire.runs c.serve_run.new.poster.view _ c.serve_run.new.wires c.serve_run.ensures.served many in
    let sent = sent_of all.took in
    let here = waiting o before d i.driver within seen open' c.args.slot c.args.slots i.board.ports i.posted_to first long own.1 i.poster.view c.post_grants.new.poster.view
    idle low c.post_grants.ensures.posted g.W.Wire.faults g.W.Wire.runs c.serve_run.new.poster.view _ c.serve_run.new.wires all many in
    let there = told o before d i.driver within seen open' c.args.slot c.args.slots i.board.ports i.posted_to first long own.1 i.poster.view c.post_grants.new.poster.view idle
    low c.post_grants.ensures.posted g.W.Wire.faults g.W.Wire.runs c.serve_run.new.poster.view _ c.serve_run.new.wires all many in
    let settled = c.settle_ports.ensures.settled before (record d { sent = sent }) there here in
    let list = listed o before d i.driver within seen open' c.args.slot c.args.slots i.board.ports i.posted_to first long own.1 i.poster.view c.post_grants.new.poster.view idle low
    c.post_grants.ensures.posted g.W.Wire.faults g.W.Wire.runs c.serve_run.new.poster.view _ c.serve_run.new.wires all many c.deref.result.now
    (c.deref.ensures.value ∙ c.settle_ports.ensures.sent before (record d { sent = sent }) there here) in
    (before, record d { sent = sent }, long, there, list)

pub close_run-requires-clause-own : goal.close_run-requires-clause-own
close_run-requires-clause-own g c =
    let i = c.self.inside in
    let o = c.args.hall.now.setting.opening in
    let is = sym c.self.view_is in
    let own = subst (λ (m : RunnerModel). IsDriverOf c.args.hall.now m.driver × (m.ports ≡ o.table.ports)) is c.requires.own in
    let low = subst (λ (m : RunnerModel). m.posted_to ≤ c.args.slot) is c.requires.later in
    let seen = c.made-seen.ensures.seen c.args.hall.now.setting own.0.1 in
    let within = c.coflows-within.ensures.opening in
    let idle = c.self.invariant.2 in
    let (before, d, first, long, open') = subst (λ (m : RunnerModel). (b : List Entry) × (x : Drive) × (c.args.slot ≡ x.first) × (c.args.slots ≡ x.slots) × IsOpenRunOf o b x
    m.driver) is c.requires.run in
    let many = c.split_at_mut-near.ensures.front_len ∙ c.ports.ensures.ports in
    let all = all_served o before d i.driver within seen open' c.args.slot c.args.slots i.board.ports i.posted_to first long own.1 i.poster.view c.post_grants.new.poster.view
    idle low c.post_grants.ensures.posted g.W.Wire.faults g.W.Wire.runs c.serve_run.new.poster.view _ c.serve_run.new.wires c.serve_run.ensures.served many in
    let sent = sent_of all.took in
    let here = waiting o before d i.driver within seen open' c.args.slot c.args.slots i.board.ports i.posted_to first long own.1 i.poster.view c.post_grants.new.poster.view
    idle low c.post_grants.ensures.posted g.W.Wire.faults g.W.Wire.runs c.serve_run.new.poster.view _ c.serve_run.new.wires all many in
    let there = told o before d i.driver within seen open' c.args.slot c.args.slots i.board.ports i.posted_to first long own.1 i.poster.view c.post_grants.new.poster.view idle
    low c.post_grants.ensures.posted g.W.Wire.faults g.W.Wire.runs c.serve_run.new.poster.view _ c.serve_run.new.wires all many in
    let settled = c.settle_ports.ensures.settled before (record d { sent = sent }) there here in
    let list = listed o before d i.driver within seen open' c.args.slot c.args.slots i.board.ports i.posted_to first long own.1 i.poster.view c.post_grants.new.poster.view idle low
    c.post_grants.ensures.posted g.W.Wire.faults g.W.Wire.runs c.serve_run.new.poster.view _ c.serve_run.new.wires all many c.deref.result.now
    (c.deref.ensures.value ∙ c.settle_ports.ensures.sent before (record d { sent = sent }) there here) in
    let noted = c.note_short_ports-fault.ensures.noted before (record d { sent = sent }) long there list in
    let short = c.note_short_ports-fault.ensures.first_short before (record d { sent = sent }) long there list in
    (noted.place.gate ∙ own.0.0, noted.place.setting ∙ own.0.1, (λ j. (noted.place.rank j).table) ∙ own.0.2)

pub close_run-requires-clause-call : goal.close_run-requires-clause-call
close_run-requires-clause-call g c =
    let i = c.self.inside in
    let o = c.args.hall.now.setting.opening in
    let is = sym c.self.view_is in
    let own = subst (λ (m : RunnerModel). IsDriverOf c.args.hall.now m.driver × (m.ports ≡ o.table.ports)) is c.requires.own in
    let low = subst (λ (m : RunnerModel). m.posted_to ≤ c.args.slot) is c.requires.later in
    let seen = c.made-seen.ensures.seen c.args.hall.now.setting own.0.1 in
    let within = c.coflows-within.ensures.opening in
    let idle = c.self.invariant.2 in
    let (before, d, first, long, open') = subst (λ (m : RunnerModel). (b : List Entry) × (x : Drive) × (c.args.slot ≡ x.first) × (c.args.slots ≡ x.slots) × IsOpenRunOf o b x
    m.driver) is c.requires.run in
    let many = c.split_at_mut-near.ensures.front_len ∙ c.ports.ensures.ports in
    let all = all_served o before d i.driver within seen open' c.args.slot c.args.slots i.board.ports i.posted_to first long own.1 i.poster.view c.post_grants.new.poster.view
    idle low c.post_grants.ensures.posted g.W.Wire.faults g.W.Wire.runs c.serve_run.new.poster.view _ c.serve_run.new.wires c.serve_run.ensures.served many in
    let sent = sent_of all.took in
    let here = waiting o before d i.driver within seen open' c.args.slot c.args.slots i.board.ports i.posted_to first long own.1 i.poster.view c.post_grants.new.poster.view
    idle low c.post_grants.ensures.posted g.W.Wire.faults g.W.Wire.runs c.serve_run.new.poster.view _ c.serve_run.new.wires all many in
    let there = told o before d i.driver within seen open' c.args.slot c.args.slots i.board.ports i.posted_to first long own.1 i.poster.view c.post_grants.new.poster.view idle
    low c.post_grants.ensures.posted g.W.Wire.faults g.W.Wire.runs c.serve_run.new.poster.view _ c.serve_run.new.wires all many in
    let settled = c.settle_ports.ensures.settled before (record d { sent = sent }) there here in
    let list = listed o before d i.driver within seen open' c.args.slot c.args.slots i.board.ports i.posted_to first long own.1 i.poster.view c.post_grants.new.poster.view idle low
    c.post_grants.ensures.posted g.W.Wire.faults g.W.Wire.runs c.serve_run.new.poster.view _ c.serve_run.new.wires all many c.deref.result.now
    (c.deref.ensures.value ∙ c.settle_ports.ensures.sent before (record d { sent = sent }) there here) in
    let noted = c.note_short_ports-fault.ensures.noted before (record d { sent = sent }) long there list in
    let short = c.note_short_ports-fault.ensures.first_short before (record d { sent = sent }) long there list in
    call_left o before d i.driver within seen open' c.args.slot c.args.slots i.board.ports i.posted_to first long own.1 i.poster.view c.post_grants.new.poster.view idle low
    c.post_grants.ensures.posted
    g.W.Wire.faults g.W.Wire.runs c.serve_run.new.poster.view _ c.serve_run.new.wires all many c.settle_ports.new.poster.view c.note_short_ports-fault.new.driver
    c.note_short_ports-fault.result settled noted short

pub close_run-requires-clause-run : goal.close_run-requires-clause-run
close_run-requires-clause-run g c =
    let i = c.self.inside in
    let o = c.args.hall.now.setting.opening in
    let is = sym c.self.view_is in
    let own = subst (λ (m : RunnerModel). IsDriverOf c.args.hall.now m.driver × (m.ports ≡ o.table.ports)) is c.requires.own in
    let low = subst (λ (m : RunnerModel). m.posted_to ≤ c.args.slot) is c.requires.later in
    let seen = c.made-seen.ensures.seen c.args.hall.now.setting own.0.1 in
    let within = c.coflows-within.ensures.opening in
    let idle = c.self.invariant.2 in
    let (before, d, first, long, open') = subst (λ (m : RunnerModel). (b : List Entry) × (x : Drive) × (c.args.slot ≡ x.first) × (c.args.slots ≡ x.slots) × IsOpenRunOf o b x
    m.driver) is c.requires.run in
    let many = c.split_at_mut-near.ensures.front_len ∙ c.ports.ensures.ports in
    let all = all_served o before d i.driver within seen open' c.args.slot c.args.slots i.board.ports i.posted_to first long own.1 i.poster.view c.post_grants.new.poster.view
    idle low c.post_grants.ensures.posted g.W.Wire.faults g.W.Wire.runs c.serve_run.new.poster.view _ c.serve_run.new.wires c.serve_run.ensures.served many in
    let sent = sent_of all.took in
    let here = waiting o before d i.driver within seen open' c.args.slot c.args.slots i.board.ports i.posted_to first long own.1 i.poster.view c.post_grants.new.poster.view
    idle low c.post_grants.ensures.posted g.W.Wire.faults g.W.Wire.runs c.serve_run.new.poster.view _ c.serve_run.new.wires all many in
    let there = told o before d i.driver within seen open' c.args.slot c.args.slots i.board.ports i.posted_to first long own.1 i.poster.view c.post_grants.new.poster.view idle
    low c.post_grants.ensures.posted g.W.Wire.faults g.W.Wire.runs c.serve_run.new.poster.view _ c.serve_run.new.wires all many in
    let settled = c.settle_ports.ensures.settled before (record d { sent = sent }) there here in
    let list = listed o before d i.driver within seen open' c.args.slot c.args.slots i.board.ports i.posted_to first long own.1 i.poster.view c.post_grants.new.poster.view idle low
    c.post_grants.ensures.posted g.W.Wire.faults g.W.Wire.runs c.serve_run.new.poster.view _ c.serve_run.new.wires all many c.deref.result.now
    (c.deref.ensures.value ∙ c.settle_ports.ensures.sent before (record d { sent = sent }) there here) in
    let noted = c.note_short_ports-fault.ensures.noted before (record d { sent = sent }) long there list in
    let short = c.note_short_ports-fault.ensures.first_short before (record d { sent = sent }) long there list in
    still_under_way o before d i.driver within seen open' c.args.slot c.args.slots i.board.ports i.posted_to first long own.1 i.poster.view c.post_grants.new.poster.view idle
    low c.post_grants.ensures.posted
    g.W.Wire.faults g.W.Wire.runs c.serve_run.new.poster.view _ c.serve_run.new.wires all many c.settle_ports.new.poster.view c.note_short_ports-fault.new.driver
    c.note_short_ports-fault.result settled noted short

pub overflow_add-self : goal.overflow_add-self
overflow_add-self g c =
    let i = c.self.inside in
    let o = c.args.hall.now.setting.opening in
    let is = sym c.self.view_is in
    let own = subst (λ (m : RunnerModel). IsDriverOf c.args.hall.now m.driver × (m.ports ≡ o.table.ports)) is c.requires.own in
    let low = subst (λ (m : RunnerModel). m.posted_to ≤ c.args.slot) is c.requires.later in
    let seen = c.made-seen.ensures.seen c.args.hall.now.setting own.0.1 in
    let within = c.coflows-within.ensures.opening in
    let idle = c.self.invariant.2 in
    let (before, d, first, long, open') = subst (λ (m : RunnerModel). (b : List Entry) × (x : Drive) × (c.args.slot ≡ x.first) × (c.args.slots ≡ x.slots) × IsOpenRunOf o b x
    m.driver) is c.requires.run in
    let facts = open_facts o before i.driver.journal d seen.legal seen.in_range open'.under_way in
    let last = facts.first in
    let ends = facts.ends in
    omega (arith, first, long, last, ends)

pub invariant_of-self : goal.invariant_of-self
invariant_of-self g c =
    let i = c.self.inside in
    let o = c.args.hall.now.setting.opening in
    let is = sym c.self.view_is in
    let own = subst (λ (m : RunnerModel). IsDriverOf c.args.hall.now m.driver × (m.ports ≡ o.table.ports)) is c.requires.own in
    let low = subst (λ (m : RunnerModel). m.posted_to ≤ c.args.slot) is c.requires.later in
    let seen = c.made-seen.ensures.seen c.args.hall.now.setting own.0.1 in
    let within = c.coflows-within.ensures.opening in
    let idle = c.self.invariant.2 in
    let (before, d, first, long, open') = subst (λ (m : RunnerModel). (b : List Entry) × (x : Drive) × (c.args.slot ≡ x.first) × (c.args.slots ≡ x.slots) × IsOpenRunOf o b x
    m.driver) is c.requires.run in
    let many = c.split_at_mut-near.ensures.front_len ∙ c.ports.ensures.ports in
    let all = all_served o before d i.driver within seen open' c.args.slot c.args.slots i.board.ports i.posted_to first long own.1 i.poster.view c.post_grants.new.poster.view
    idle low c.post_grants.ensures.posted g.W.Wire.faults g.W.Wire.runs c.serve_run.new.poster.view _ c.serve_run.new.wires c.serve_run.ensures.served many in
    let sent = sent_of all.took in
    let here = waiting o before d i.driver within seen open' c.args.slot c.args.slots i.board.ports i.posted_to first long own.1 i.poster.view c.post_grants.new.poster.view
    idle low c.post_grants.ensures.posted g.W.Wire.faults g.W.Wire.runs c.serve_run.new.poster.view _ c.serve_run.new.wires all many in
    let there = told o before d i.driver within seen open' c.args.slot c.args.slots i.board.ports i.posted_to first long own.1 i.poster.view c.post_grants.new.poster.view idle
    low c.post_grants.ensures.posted g.W.Wire.faults g.W.Wire.runs c.serve_run.new.poster.view _ c.serve_run.new.wires all many in
    let settled = c.settle_ports.ensures.settled before (record d { sent = sent }) there here in
    let list = listed o before d i.driver within seen open' c.args.slot c.args.slots i.board.ports i.posted_to first long own.1 i.poster.view c.post_grants.new.poster.view idle low
    c.post_grants.ensures.posted g.W.Wire.faults g.W.Wire.runs c.serve_run.new.poster.view _ c.serve_run.new.wires all many c.deref.result.now
    (c.deref.ensures.value ∙ c.settle_ports.ensures.sent before (record d { sent = sent }) there here) in
    let noted = c.note_short_ports-fault.ensures.noted before (record d { sent = sent }) long there list in
    let short = c.note_short_ports-fault.ensures.first_short before (record d { sent = sent }) long there list in
    let room = c.list_granted.ensures.room in (
      c.settle_ports.ensures.own ∙ c.serve_run.ensures.own ∙ c.post_grants.ensures.own ∙ c.self.invariant.0,
      (
        (let was = c.self.invariant.1.0 in omega (arith, room, was)),
        (let was = c.self.invariant.1.1 in let kept = c.settle_ports.ensures.room in omega (arith, kept, was)),
      ),
      idle_then o before d i.driver within seen open' c.args.slot c.args.slots i.board.ports i.posted_to first long own.1 i.poster.view c.post_grants.new.poster.view idle low
          c.post_grants.ensures.posted
          g.W.Wire.faults g.W.Wire.runs c.serve_run.new.poster.view _ c.serve_run.new.wires all many c.settle_ports.new.poster.view c.note_short_ports-fault.new.driver
          c.note_short_ports-fault.result settled noted short,
    )

pub returns : goal.returns
returns g c = record {
  run = λ before d first long opened.
      let i = c.self.inside in
      let o = c.args.hall.now.setting.opening in
      let is = sym c.self.view_is in
      let own = subst (λ (m : RunnerModel). IsDriverOf c.args.hall.now m.driver × (m.ports ≡ o.table.ports)) is c.requires.own in
      let low = subst (λ (m : RunnerModel). m.posted_to ≤ c.args.slot) is c.requires.later in
      let seen = c.made-seen.ensures.seen c.args.hall.now.setting own.0.1 in
      let within = c.coflows-within.ensures.opening in
      let idle = c.self.invariant.2 in
      let open' = subst (λ (m : RunnerModel). IsOpenRunOf o before d m.driver) is opened in
      let many = c.split_at_mut-near.ensures.front_len ∙ c.ports.ensures.ports in
      let all = all_served o before d i.driver within seen open' c.args.slot c.args.slots i.board.ports i.posted_to first long own.1 i.poster.view c.post_grants.new.poster.view
      idle low c.post_grants.ensures.posted g.W.Wire.faults g.W.Wire.runs c.serve_run.new.poster.view _ c.serve_run.new.wires c.serve_run.ensures.served many in
      let sent = sent_of all.took in
      let here = waiting o before d i.driver within seen open' c.args.slot c.args.slots i.board.ports i.posted_to first long own.1 i.poster.view c.post_grants.new.poster.view
      idle low c.post_grants.ensures.posted g.W.Wire.faults g.W.Wire.runs c.serve_run.new.poster.view _ c.serve_run.new.wires all many in
      let there = told o before d i.driver within seen open' c.args.slot c.args.slots i.board.ports i.posted_to first long own.1 i.poster.view c.post_grants.new.poster.view
      idle low c.post_grants.ensures.posted g.W.Wire.faults g.W.Wire.runs c.serve_run.new.poster.view _ c.serve_run.new.wires all many in
      let settled = c.settle_ports.ensures.settled before (record d { sent = sent }) there here in
      let list = listed o before d i.driver within seen open' c.args.slot c.args.slots i.board.ports i.posted_to first long own.1 i.poster.view
      c.post_grants.new.poster.view idle low
      c.post_grants.ensures.posted g.W.Wire.faults g.W.Wire.runs c.serve_run.new.poster.view _ c.serve_run.new.wires all many c.deref.result.now
      (c.deref.ensures.value ∙ c.settle_ports.ensures.sent before (record d { sent = sent }) there here) in
      let noted = c.note_short_ports-fault.ensures.noted before (record d { sent = sent }) long there list in
      let short = c.note_short_ports-fault.ensures.first_short before (record d { sent = sent }) long there list in
      let (r, on) = c.close_run.ensures.done in
      subst (λ (m : RunnerModel). IsCarriedOut g.W.Wire.faults g.W.Wire.runs o before d m (record {
        driver = c.close_run.new.driver;
        ports = i.board.ports;
        posted_to = c.args.slot + c.args.slots;
        posts = c.settle_ports.new.poster.view.posts;
        settled = c.settle_ports.new.poster.view.settled;
        granted = c.list_granted.new.flows.items;
      }) c.args.wires.now (c.serve_run.new.wires ++ c.split_at_mut-near.result.1.now) c.note_short_ports-fault.result) c.self.view_is
      (through o before d i.driver within seen open' c.args.slot c.args.slots i.board.ports i.posted_to first long own.1 i.poster.view c.post_grants.new.poster.view idle low
      c.post_grants.ensures.posted
      g.W.Wire.faults g.W.Wire.runs c.serve_run.new.poster.view _ c.serve_run.new.wires all many c.settle_ports.new.poster.view c.note_short_ports-fault.new.driver
      c.note_short_ports-fault.result settled noted short c.close_run.new.driver r on c.close_run.ensures.place c.split_at_mut-near.result.1.now c.args.wires.now
      (c.serve_run.new.wires ++ c.split_at_mut-near.result.1.now) c.split_at_mut-near.ensures.value refl c.list_granted.new.flows.items i.granted.items
      c.list_granted.ensures.flows);
}

-- there is room for a flow of each port
pub list_granted-requires-clause-room : goal.list_granted-requires-clause-room
list_granted-requires-clause-room g c =
    let is = sym c.self.view_is in
    let ports : c.self.inside.board.ports ≡ c.args.hall.now.setting.opening.table.ports =
    subst (λ (m : RunnerModel). m.ports ≡ c.args.hall.now.setting.opening.table.ports) is c.requires.own.1 in
    let room = c.self.invariant.1.0 in
    omega (arith, ports, room)
