-- A run has at most a flow for each port.
use Rattle.std.proofs.Common.{◌≡◌, ℕ, List, Some, length, ap, ◌∙◌, arith}
use Rattle.client_session.specs.Grants.{all_granted}
use Rattle.client_session.proofs.FewGranted.{few_granted}
use Rattle.client_session.specs.Models.{DriverModel}
use Rattle.client_session.proofs.driver.Driver.list_granted.Goals as goal

pub list_flows-requires : goal.list_flows-requires
list_flows-requires c =
    let d = c.self.inside in
    let s = c.args.hall.now.setting in
    let own : d.root.setting ≡ Some s = ap (λ (m : DriverModel). m.setting) c.self.view_is ∙ c.requires.own.1 in
    let seen = c.self.invariant.seen s own in
    let told = c.self.invariant.grants s own in
    let few = few_granted s.opening _ c.coflows-within.ensures.opening seen.legal seen.in_range in
    let long = ap (λ (l : List ℕ). length l) told.flows in
    omega (arith, few, long, c.requires.room)

pub returns-clause-flows : goal.returns-clause-flows
returns-clause-flows c =
    let d = c.self.inside in
    let s = c.args.hall.now.setting in
    let own : d.root.setting ≡ Some s = ap (λ (m : DriverModel). m.setting) c.self.view_is ∙ c.requires.own.1 in
    c.list_flows.ensures.flows ∙ (c.self.invariant.grants s own).flows ∙ ap (all_granted s.opening) (ap (λ (m : DriverModel). m.journal) c.self.view_is)
