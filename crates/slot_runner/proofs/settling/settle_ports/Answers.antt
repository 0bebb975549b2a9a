-- One granted flow after the other is settled.
use Rattle.std.proofs.Common.{◌≡◌, ℕ, ◌<◌, true, List, [], ◌∷◌, ◌++◌, get_or, length, map, take, refl, sym, ap, ◌∙◌, subst, arith}
use Rattle.std.specs.Prelude.{Contains}
use Rattle.std.proofs.lemmas.List.{length-map, length-take-le, take_all}
use Rattle.coflow_units.specs.Flows.{ingress_of}
use Rattle.journal.specs.Driven.{driven, sent_from}
use Rattle.port_board.specs.declared.view.Came.{Came}
use Rattle.port_board.specs.Views.{is_unsettled, last_at}
use Rattle.client_session.proofs.FewGranted.{few_granted}
use Rattle.slot_runner.specs.Posts.{post_of}
use Rattle.slot_runner.proofs.Apart.{beside, take_next}
use Rattle.slot_runner.proofs.Carried.{at_ingress}
use Rattle.slot_runner.proofs.Opens.{facts_clear, open_facts}
use Rattle.slot_runner.proofs.Settled.{AreSettledOf, begins_settled, last_now, number_is, settled_all, settles, somebody_now, waits_still}
use Rattle.slot_runner.proofs.settling.settle_ports.Goals as goal

pub loop-port-init : goal.loop-port-init
loop-port-init c =
    let o = c.args.hall.now.setting.opening in
    let s = c.args.hall.now.setting in
    let own = c.requires.own.0.1 in
    let seen = c.made-seen.ensures.seen s own in
    let within = c.coflows-within.ensures.opening in
    let journal = c.args.driver.now.journal in
    let ys = c.granted_ports-port-items.result.now in
    record {
      at = refl;
      room = c.clear.ensures.capacity;
      settled = λ before d open' waiting.
          let facts = open_facts o before journal d seen.legal seen.in_range open'.under_way in
          let gs = driven o before d in
          let clear = facts_clear o before journal d facts in
          let inside : (f : ℕ) → Contains gs f → ingress_of o.table.flows f < c.args.board.now.ports =
          λ f has. (let low = (at_ingress o before d journal within facts f has).0 in omega (arith, low, c.requires.ports)) in
          let listed : ys ≡ map (ingress_of o.table.flows) gs = c.granted_ports-port-items.ensures s own ∙ ap (map (ingress_of o.table.flows)) facts.flows in
          begins_settled o.table.flows gs d.sent d.first d.slots c.args.board.now.ports clear inside c.args.poster.now.view waiting;
      sent = λ before d open' waiting. c.clear.ensures.items;
    }

pub settle_port-requires-clause-port : goal.settle_port-requires-clause-port
settle_port-requires-clause-port c =
    let o = c.args.hall.now.setting.opening in
    let s = c.args.hall.now.setting in
    let own = c.requires.own.0.1 in
    let seen = c.made-seen.ensures.seen s own in
    let within = c.coflows-within.ensures.opening in
    let journal = c.args.driver.now.journal in
    let ys = c.granted_ports-port-items.result.now in
    let k = c.loop-port.port-index in
    let (before, d, open', waiting) = c.requires.run in
    let facts = open_facts o before journal d seen.legal seen.in_range open'.under_way in
    let gs = driven o before d in
    let clear = facts_clear o before journal d facts in
    let inside : (f : ℕ) → Contains gs f → ingress_of o.table.flows f < c.args.board.now.ports =
    λ f has. (let low = (at_ingress o before d journal within facts f has).0 in omega (arith, low, c.requires.ports)) in
    let listed : ys ≡ map (ingress_of o.table.flows) gs = c.granted_ports-port-items.ensures s own ∙ ap (map (ingress_of o.table.flows)) facts.flows in
    let (low, port_is, is) = beside o.table.flows gs ys k 0 listed c.loop-port-test.true in
    let f = get_or gs k 0 in
    let so_far = c.loop-port.invariant.settled before d open' waiting in
    let low' = inside f (k, low, is) in
    omega (arith, low', port_is)

pub settle_port-requires-clause-waits : goal.settle_port-requires-clause-waits
settle_port-requires-clause-waits c =
    let o = c.args.hall.now.setting.opening in
    let s = c.args.hall.now.setting in
    let own = c.requires.own.0.1 in
    let seen = c.made-seen.ensures.seen s own in
    let within = c.coflows-within.ensures.opening in
    let journal = c.args.driver.now.journal in
    let ys = c.granted_ports-port-items.result.now in
    let k = c.loop-port.port-index in
    let (before, d, open', waiting) = c.requires.run in
    let facts = open_facts o before journal d seen.legal seen.in_range open'.under_way in
    let gs = driven o before d in
    let clear = facts_clear o before journal d facts in
    let inside : (f : ℕ) → Contains gs f → ingress_of o.table.flows f < c.args.board.now.ports =
    λ f has. (let low = (at_ingress o before d journal within facts f has).0 in omega (arith, low, c.requires.ports)) in
    let listed : ys ≡ map (ingress_of o.table.flows) gs = c.granted_ports-port-items.ensures s own ∙ ap (map (ingress_of o.table.flows)) facts.flows in
    let (low, port_is, is) = beside o.table.flows gs ys k 0 listed c.loop-port-test.true in
    let f = get_or gs k 0 in
    let so_far = c.loop-port.invariant.settled before d open' waiting in
    subst (λ p. is_unsettled p c.loop-port.poster.view.posts c.loop-port.poster.view.settled ≡ true) (sym port_is)
    (waits_still o.table.flows gs d.sent d.first d.slots c.args.board.now.ports clear inside c.args.poster.now.view waiting c.loop-port.poster.view k f low is so_far)

pub settle_port-requires-clause-none_out : goal.settle_port-requires-clause-none_out
settle_port-requires-clause-none_out c =
    let (before, d, open', waiting) = c.requires.run in
    let so_far = c.loop-port.invariant.settled before d open' waiting in
    ap (λ (l : List Came). length l) so_far.back ∙ waiting.none_out ∙ sym so_far.made

pub settle_port-requires-clause-somebody : goal.settle_port-requires-clause-somebody
settle_port-requires-clause-somebody c =
    let o = c.args.hall.now.setting.opening in
    let s = c.args.hall.now.setting in
    let own = c.requires.own.0.1 in
    let seen = c.made-seen.ensures.seen s own in
    let within = c.coflows-within.ensures.opening in
    let journal = c.args.driver.now.journal in
    let ys = c.granted_ports-port-items.result.now in
    let k = c.loop-port.port-index in
    let (before, d, open', waiting) = c.requires.run in
    let facts = open_facts o before journal d seen.legal seen.in_range open'.under_way in
    let gs = driven o before d in
    let clear = facts_clear o before journal d facts in
    let inside : (f : ℕ) → Contains gs f → ingress_of o.table.flows f < c.args.board.now.ports =
    λ f has. (let low = (at_ingress o before d journal within facts f has).0 in omega (arith, low, c.requires.ports)) in
    let listed : ys ≡ map (ingress_of o.table.flows) gs = c.granted_ports-port-items.ensures s own ∙ ap (map (ingress_of o.table.flows)) facts.flows in
    let (low, port_is, is) = beside o.table.flows gs ys k 0 listed c.loop-port-test.true in
    let f = get_or gs k 0 in
    let so_far = c.loop-port.invariant.settled before d open' waiting in (
      post_of o.table.flows d.first d.slots f,
      ap (λ p. last_at p c.loop-port.poster.view.posts) port_is ∙ last_now o.table.flows gs d.sent d.first d.slots c.args.board.now.ports clear inside c.args.poster.now.view
          waiting c.loop-port.poster.view k f low is so_far,
      somebody_now o.table.flows gs d.sent d.first d.slots c.args.board.now.ports clear inside c.args.poster.now.view waiting c.loop-port.poster.view k f low is so_far,
    )

pub push_reserved-requires : goal.push_reserved-requires
push_reserved-requires c =
    let o = c.args.hall.now.setting.opening in
    let s = c.args.hall.now.setting in
    let own = c.requires.own.0.1 in
    let seen = c.made-seen.ensures.seen s own in
    let within = c.coflows-within.ensures.opening in
    let journal = c.args.driver.now.journal in
    let ys = c.granted_ports-port-items.result.now in
    let k = c.loop-port.port-index in
    let (before, d, open', waiting) = c.requires.run in
    let facts = open_facts o before journal d seen.legal seen.in_range open'.under_way in
    let gs = driven o before d in
    let clear = facts_clear o before journal d facts in
    let inside : (f : ℕ) → Contains gs f → ingress_of o.table.flows f < c.args.board.now.ports =
    λ f has. (let low = (at_ingress o before d journal within facts f has).0 in omega (arith, low, c.requires.ports)) in
    let listed : ys ≡ map (ingress_of o.table.flows) gs = c.granted_ports-port-items.ensures s own ∙ ap (map (ingress_of o.table.flows)) facts.flows in
    let (low, port_is, is) = beside o.table.flows gs ys k 0 listed c.loop-port-test.true in
    let f = get_or gs k 0 in
    let so_far = c.loop-port.invariant.settled before d open' waiting in
    let few = few_granted o journal within seen.legal seen.in_range in
    let many = ap (λ (l : List ℕ). length l) facts.flows in
    let items = ap (λ (l : List ℕ). length l) (c.loop-port.invariant.sent before d open' waiting) in
    let long = length-map (take k gs) (sent_from o.table.flows d) in
    let taken = length-take-le k gs (omega (arith, low)) in
    let room = c.loop-port.invariant.room in
    omega (arith, few, many, items, long, taken, low, room, c.requires.room, c.requires.ports)

pub loop-port-preserved : goal.loop-port-preserved
loop-port-preserved c =
    let o = c.args.hall.now.setting.opening in
    let s = c.args.hall.now.setting in
    let own = c.requires.own.0.1 in
    let seen = c.made-seen.ensures.seen s own in
    let within = c.coflows-within.ensures.opening in
    let journal = c.args.driver.now.journal in
    let ys = c.granted_ports-port-items.result.now in
    let k = c.loop-port.port-index in
    record {
      at = c.settle_port.ensures.own ∙ c.loop-port.invariant.at;
      room = c.push_reserved.ensures.capacity ∙ c.loop-port.invariant.room;
      settled = λ before d open' waiting.
          let facts = open_facts o before journal d seen.legal seen.in_range open'.under_way in
          let gs = driven o before d in
          let clear = facts_clear o before journal d facts in
          let inside : (f : ℕ) → Contains gs f → ingress_of o.table.flows f < c.args.board.now.ports =
          λ f has. (let low = (at_ingress o before d journal within facts f has).0 in omega (arith, low, c.requires.ports)) in
          let listed : ys ≡ map (ingress_of o.table.flows) gs = c.granted_ports-port-items.ensures s own ∙ ap (map (ingress_of o.table.flows)) facts.flows in
          let (low, port_is, is) = beside o.table.flows gs ys k 0 listed c.loop-port-test.true in
          let f = get_or gs k 0 in
          let so_far = c.loop-port.invariant.settled before d open' waiting in
          let by = c.settle_port.ensures.sent (post_of o.table.flows d.first d.slots f)
          (ap (λ p. last_at p c.loop-port.poster.view.posts) port_is ∙ last_now o.table.flows gs d.sent d.first d.slots c.args.board.now.ports clear inside
          c.args.poster.now.view waiting c.loop-port.poster.view k f low is so_far) in
          settles o.table.flows gs d.sent d.first d.slots c.args.board.now.ports clear inside c.args.poster.now.view waiting c.loop-port.poster.view k f low is so_far
          c.settle_port.new.poster.view c.settle_port.result by;
      sent = λ before d open' waiting.
          let facts = open_facts o before journal d seen.legal seen.in_range open'.under_way in
          let gs = driven o before d in
          let clear = facts_clear o before journal d facts in
          let inside : (f : ℕ) → Contains gs f → ingress_of o.table.flows f < c.args.board.now.ports =
          λ f has. (let low = (at_ingress o before d journal within facts f has).0 in omega (arith, low, c.requires.ports)) in
          let listed : ys ≡ map (ingress_of o.table.flows) gs = c.granted_ports-port-items.ensures s own ∙ ap (map (ingress_of o.table.flows)) facts.flows in
          let (low, port_is, is) = beside o.table.flows gs ys k 0 listed c.loop-port-test.true in
          let f = get_or gs k 0 in
          let so_far = c.loop-port.invariant.settled before d open' waiting in
          let by = c.settle_port.ensures.sent (post_of o.table.flows d.first d.slots f)
          (ap (λ p. last_at p c.loop-port.poster.view.posts) port_is ∙ last_now o.table.flows gs d.sent d.first d.slots c.args.board.now.ports clear inside
          c.args.poster.now.view waiting c.loop-port.poster.view k f low is so_far) in
          let number = number_is o.table.flows gs d.sent d.first d.slots c.args.board.now.ports clear inside c.args.poster.now.view waiting c.loop-port.poster.view k f low is
          so_far c.settle_port.new.poster.view c.settle_port.result by in
          c.push_reserved.ensures.items ∙ (λ i. c.loop-port.invariant.sent before d open' waiting i ++ number i ∷ []) ∙
          sym (take_next (sent_from o.table.flows d) gs k f low is);
    }

pub returns-clause-settled : goal.returns-clause-settled
returns-clause-settled c = λ before d open' waiting.
    let o = c.args.hall.now.setting.opening in
    let s = c.args.hall.now.setting in
    let own = c.requires.own.0.1 in
    let seen = c.made-seen.ensures.seen s own in
    let within = c.coflows-within.ensures.opening in
    let journal = c.args.driver.now.journal in
    let ys = c.granted_ports-port-items.result.now in
    let k = c.loop-port.port-index in
    let facts = open_facts o before journal d seen.legal seen.in_range open'.under_way in
    let gs = driven o before d in
    let clear = facts_clear o before journal d facts in
    let inside : (f : ℕ) → Contains gs f → ingress_of o.table.flows f < c.args.board.now.ports =
    λ f has. (let low = (at_ingress o before d journal within facts f has).0 in omega (arith, low, c.requires.ports)) in
    let listed : ys ≡ map (ingress_of o.table.flows) gs = c.granted_ports-port-items.ensures s own ∙ ap (map (ingress_of o.table.flows)) facts.flows in
    let long = length-map gs (ingress_of o.table.flows) in
    let all = take_all k gs (omega (arith, c.loop-port-test.false, ap (λ (l : List ℕ). length l) listed, long)) in
    settled_all o.table.flows gs d.sent d.first d.slots c.args.board.now.ports clear inside c.args.poster.now.view waiting c.loop-port.poster.view
    (subst (AreSettledOf o.table.flows d.sent d.first d.slots c.args.poster.now.view c.loop-port.poster.view) all (c.loop-port.invariant.settled before d open' waiting))

pub returns-clause-sent : goal.returns-clause-sent
returns-clause-sent c = λ before d open' waiting.
    let o = c.args.hall.now.setting.opening in
    let s = c.args.hall.now.setting in
    let own = c.requires.own.0.1 in
    let seen = c.made-seen.ensures.seen s own in
    let within = c.coflows-within.ensures.opening in
    let journal = c.args.driver.now.journal in
    let ys = c.granted_ports-port-items.result.now in
    let k = c.loop-port.port-index in
    let facts = open_facts o before journal d seen.legal seen.in_range open'.under_way in
    let gs = driven o before d in
    let clear = facts_clear o before journal d facts in
    let inside : (f : ℕ) → Contains gs f → ingress_of o.table.flows f < c.args.board.now.ports =
    λ f has. (let low = (at_ingress o before d journal within facts f has).0 in omega (arith, low, c.requires.ports)) in
    let listed : ys ≡ map (ingress_of o.table.flows) gs = c.granted_ports-port-items.ensures s own ∙ ap (map (ingress_of o.table.flows)) facts.flows in
    let long = length-map gs (ingress_of o.table.flows) in
    let all = take_all k gs (omega (arith, c.loop-port-test.false, ap (λ (l : List ℕ). length l) listed, long)) in
    c.loop-port.invariant.sent before d open' waiting ∙ ap (map (sent_from o.table.flows d)) all
