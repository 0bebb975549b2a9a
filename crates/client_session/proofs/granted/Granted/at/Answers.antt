-- The place of the port among the ingresses is that of the flow.
use Rattle.std.proofs.Common.{◌≡◌, ◌==◌, ℕ, map, position, Some, get_or, sym, ap, ◌∙◌}
use Rattle.coflow_units.specs.Flows.{ingress_of}
use Rattle.client_session.specs.Grants.{GrantedModel}
use Rattle.client_session.proofs.Places.{found_at, none_at}
use Rattle.client_session.proofs.granted.Granted.at.Goals as goal

pub returns-in_err-place : goal.returns-in_err-place
returns-in_err-place c = λ flows beside.
    let port = c.args.ingress in
    let listed : position (λ p. p == port) (map (ingress_of flows) c.args.self.now.flows) ≡ position (λ p. p == port) c.self.inside.ingresses.items =
    ap (position (λ p. p == port)) (sym (ap (λ (m : GrantedModel). m.ingresses) c.self.view_is ∙ beside)) in
    c.from_residual.ensures ∙ sym (none_at flows port c.args.self.now.flows
    (listed ∙ ap (position (λ p. p == port)) (sym c.deref.ensures.value) ∙ sym c.find_place.ensures ∙ c.in_err-place.was))

pub returns : goal.returns
returns c = λ flows beside.
    let port = c.args.ingress in
    let listed : position (λ p. p == port) (map (ingress_of flows) c.args.self.now.flows) ≡ position (λ p. p == port) c.self.inside.ingresses.items =
    ap (position (λ p. p == port)) (sym (ap (λ (m : GrantedModel). m.ingresses) c.self.view_is ∙ beside)) in
    let found = found_at flows port c.args.self.now.flows c.in_ok-place.place c.index.result.now
    (listed ∙ ap (position (λ p. p == port)) (sym c.deref.ensures.value) ∙ sym c.find_place.ensures ∙ c.in_ok-place.was) in
    ap (λ (f : ℕ). Some f) (c.index.ensures ∙ ap (λ (m : GrantedModel). get_or m.flows c.in_ok-place.place c.index.result.now) c.self.view_is) ∙ sym found
