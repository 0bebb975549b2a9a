-- There is room for the flows of the open run, and for their ports.
use Rattle.std.proofs.Common.{List, length, ap, arith, ℕ}
use Rattle.std.proofs.lemmas.List.{length-map}
use Rattle.coflow_units.specs.Flows.{ingress_of}
use Rattle.client_session.specs.Grants.{GrantedModel, all_granted}
use Rattle.client_session.proofs.FewGranted.{few_granted}
use Rattle.client_session.proofs.granted.Granted.tell.Goals as goal

pub copy_numbers-requires : goal.copy_numbers-requires
copy_numbers-requires c =
    let m = c.args.master.now in
    let few = few_granted m.opening m.journal c.journal-legal.ensures.opening c.journal-legal.ensures.legal c.journal-legal.ensures.in_range in
    let ports = ap (λ (g : GrantedModel). g.ports) c.self.view_is in
    let room = c.self.invariant.0 in record {
      room = omega (arith, few, ports, room, ap (λ (l : List ℕ). length l) c.granted_flows.ensures, c.requires.ports);
    }

pub copy_numbers-requires-2 : goal.copy_numbers-requires-2
copy_numbers-requires-2 c =
    let m = c.args.master.now in
    let few = few_granted m.opening m.journal c.journal-legal.ensures.opening c.journal-legal.ensures.legal c.journal-legal.ensures.in_range in
    let ports = ap (λ (g : GrantedModel). g.ports) c.self.view_is in
    let room = c.self.invariant.1 in
    let long = length-map (all_granted m.opening m.journal) (ingress_of m.opening.table.flows) in record {
      room = omega (arith, few, ports, room, long, ap (λ (l : List ℕ). length l) c.granted_ports.ensures, c.requires.ports);
    }
