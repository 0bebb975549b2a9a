-- The port at which a flow is posted is free, and its last post was earlier.
use Rattle.std.proofs.Common.{false, ◌≡◌, ◌<◌, length, take, refl, sym, ap, subst, ◌∙◌, arith}
use Rattle.std.proofs.lemmas.List.{length_push}
use Rattle.std.proofs.lemmas.Slice.Zip.{zip_turn}
use Rattle.coflow_units.specs.Flows.{ingress_of}
use Rattle.client_session.specs.Grants.{all_granted}
use Rattle.journal.proofs.Ingresses.{grant_at}
use Rattle.port_board.specs.Views.{is_unsettled, last_slot, grant, posted_too}
use Rattle.slot_runner.specs.Posts.{IsPosted}
use Rattle.slot_runner.proofs.Apart.{clear_granted, port_within, stands, told_at}
use Rattle.slot_runner.proofs.PostSteps.{is_free, is_later, posts_flow}
use Rattle.slot_runner.proofs.posting.post_grants.Goals as goal

pub post-requires-clause-settled : goal.post-requires-clause-settled
post-requires-clause-settled c =
    let o = c.args.hall.now.setting.opening in
    let s = c.args.hall.now.setting in
    let own = c.requires.own.0.1 in
    let seen = c.made-seen.ensures.seen s own in
    let gs = all_granted o c.args.driver.now.journal in
    let clear = clear_granted o c.args.driver.now.journal seen.legal seen.in_range in
    let xs = c.granted_flows.result.now in
    let ys = c.granted_ports.result.now in
    let k = length c.loop-flow.yielded in
    let (lt, less, at, there) = zip_turn xs ys c.loop-flow.yielded _ _ c.next.new.self _ (cc) (cc) c.loop-flow.yielded_by (c.in-Some.flow, c.in-Some.port) c.in-Some.is
    c.next.ensures.steps in
    let (low, is, port_is) = stands o.table.flows gs xs ys k c.in-Some.flow.now c.in-Some.port.now (c.granted_flows.ensures s own) (c.granted_ports.ensures s own) lt at there in
    subst (λ p. is_unsettled p c.loop-flow.poster.view.posts c.loop-flow.poster.view.settled ≡ false) (sym port_is)
    (is_free o.table.flows gs c.args.slot c.args.length c.args.poster.now.view k c.in-Some.flow.now low is clear c.loop-flow.poster.view c.loop-flow.invariant.posted
    c.requires.settled)

pub post-requires-clause-slot : goal.post-requires-clause-slot
post-requires-clause-slot c =
    let o = c.args.hall.now.setting.opening in
    let s = c.args.hall.now.setting in
    let own = c.requires.own.0.1 in
    let seen = c.made-seen.ensures.seen s own in
    let gs = all_granted o c.args.driver.now.journal in
    let clear = clear_granted o c.args.driver.now.journal seen.legal seen.in_range in
    let xs = c.granted_flows.result.now in
    let ys = c.granted_ports.result.now in
    let k = length c.loop-flow.yielded in
    let (lt, less, at, there) = zip_turn xs ys c.loop-flow.yielded _ _ c.next.new.self _ (cc) (cc) c.loop-flow.yielded_by (c.in-Some.flow, c.in-Some.port) c.in-Some.is
    c.next.ensures.steps in
    let (low, is, port_is) = stands o.table.flows gs xs ys k c.in-Some.flow.now c.in-Some.port.now (c.granted_flows.ensures s own) (c.granted_ports.ensures s own) lt at there in (
      subst (λ p. last_slot p c.loop-flow.poster.view.posts < c.args.slot) (sym port_is)
          (is_later o.table.flows gs c.args.slot c.args.length c.args.poster.now.view k c.in-Some.flow.now low is clear c.loop-flow.poster.view c.loop-flow.invariant.posted
          c.requires.slot.0 c.requires.slot.2),
      c.requires.slot.1,
    )

pub post-requires-clause-flow : goal.post-requires-clause-flow
post-requires-clause-flow c =
    let o = c.args.hall.now.setting.opening in
    let s = c.args.hall.now.setting in
    let own = c.requires.own.0.1 in
    let seen = c.made-seen.ensures.seen s own in
    let gs = all_granted o c.args.driver.now.journal in
    let clear = clear_granted o c.args.driver.now.journal seen.legal seen.in_range in
    let xs = c.granted_flows.result.now in
    let ys = c.granted_ports.result.now in
    let k = length c.loop-flow.yielded in
    let (lt, less, at, there) = zip_turn xs ys c.loop-flow.yielded _ _ c.next.new.self _ (cc) (cc) c.loop-flow.yielded_by (c.in-Some.flow, c.in-Some.port) c.in-Some.is
    c.next.ensures.steps in
    let (low, is, port_is) = stands o.table.flows gs xs ys k c.in-Some.flow.now c.in-Some.port.now (c.granted_flows.ensures s own) (c.granted_ports.ensures s own) lt at there in
    c.requires.flows (ingress_of o.table.flows c.in-Some.flow.now) c.in-Some.flow.now
    (told_at o c.args.driver.now.journal (ingress_of o.table.flows c.in-Some.flow.now) ∙
    (grant_at o.table.flows gs (ingress_of o.table.flows c.in-Some.flow.now) c.in-Some.flow.now clear).1
    ((k, low, is), refl))

pub post-requires-clause-port : goal.post-requires-clause-port
post-requires-clause-port c =
    let o = c.args.hall.now.setting.opening in
    let s = c.args.hall.now.setting in
    let own = c.requires.own.0.1 in
    let seen = c.made-seen.ensures.seen s own in
    let gs = all_granted o c.args.driver.now.journal in
    let clear = clear_granted o c.args.driver.now.journal seen.legal seen.in_range in
    let xs = c.granted_flows.result.now in
    let ys = c.granted_ports.result.now in
    let k = length c.loop-flow.yielded in
    let (lt, less, at, there) = zip_turn xs ys c.loop-flow.yielded _ _ c.next.new.self _ (cc) (cc) c.loop-flow.yielded_by (c.in-Some.flow, c.in-Some.port) c.in-Some.is
    c.next.ensures.steps in
    let (low, is, port_is) = stands o.table.flows gs xs ys k c.in-Some.flow.now c.in-Some.port.now (c.granted_flows.ensures s own) (c.granted_ports.ensures s own) lt at there in
    let inside = port_within o gs c.coflows-within.ensures.opening clear c.in-Some.flow.now (k, low, is) in
    omega (arith, inside, port_is, c.requires.ports)

pub loop-flow-preserved : goal.loop-flow-preserved
loop-flow-preserved c =
    let o = c.args.hall.now.setting.opening in
    let s = c.args.hall.now.setting in
    let own = c.requires.own.0.1 in
    let seen = c.made-seen.ensures.seen s own in
    let gs = all_granted o c.args.driver.now.journal in
    let clear = clear_granted o c.args.driver.now.journal seen.legal seen.in_range in
    let xs = c.granted_flows.result.now in
    let ys = c.granted_ports.result.now in
    let k = length c.loop-flow.yielded in
    let (lt, less, at, there) = zip_turn xs ys c.loop-flow.yielded _ _ c.next.new.self _ (cc) (cc) c.loop-flow.yielded_by (c.in-Some.flow, c.in-Some.port) c.in-Some.is
    c.next.ensures.steps in
    let (low, is, port_is) = stands o.table.flows gs xs ys k c.in-Some.flow.now c.in-Some.port.now (c.granted_flows.ensures s own) (c.granted_ports.ensures s own) lt at there in
    record {
      at = c.post.ensures.own ∙ c.loop-flow.invariant.at;
      posted = subst (λ n. IsPosted o.table.flows (take n gs) c.args.slot c.args.length c.args.poster.now.view c.post.new.poster.view)
          (sym (length_push c.loop-flow.yielded (c.in-Some.flow, c.in-Some.port)))
          (posts_flow o.table.flows gs c.args.slot c.args.length c.args.poster.now.view k c.in-Some.flow.now low is clear c.loop-flow.poster.view
          c.loop-flow.invariant.posted c.post.new.poster.view
          (c.post.ensures.post ∙ ap (λ p. posted_too (grant p c.args.slot c.in-Some.flow.now c.args.length) c.loop-flow.poster.view) port_is));
    }
