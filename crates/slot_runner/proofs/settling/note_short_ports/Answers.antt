-- One port after the other is noted where it sent less than the run has slots.
use Rattle.std.proofs.Common.{◌≡◌, ℕ, ◌+◌, ◌<◌, map, refl, sym, ap, ◌∙◌, subst, arith}
use Rattle.std.proofs.lemmas.Option.{none-some}
use Rattle.coflow_units.specs.Flows.{ingress_of}
use Rattle.journal.specs.declared.command.Command.TheVariants.{Short}
use Rattle.journal.specs.Driven.{driven}
use Rattle.journal.specs.Runs.{grant_in}
use Rattle.journal.proofs.Ingresses.{grant_is}
use Rattle.client_session.specs.Drivers.{IsDrivenOn}
use Rattle.slot_runner.specs.Settling.{AreNoted, IsFirstShort}
use Rattle.slot_runner.proofs.Listed.{as_long, found_units, no_units, whole_at}
use Rattle.slot_runner.proofs.Notes.{all_noted, begins_noted, keeps_noted, one_noted}
use Rattle.slot_runner.proofs.Opens.{facts_clear, open_facts}
use Rattle.slot_runner.proofs.Settled.{first_of, first_stays}
use Rattle.slot_runner.proofs.settling.note_short_ports.Goals as goal

pub returns-then-are_whole-clause-noted : goal.returns-then-are_whole-clause-noted
returns-then-are_whole-clause-noted g c = λ before d long open' list.
    let o = c.args.hall.now.setting.opening in
    let beside : map (ingress_of o.table.flows) (driven o before d) ≡ map (ingress_of o.table.flows) (driven o before d) = refl in
    all_noted o before d c.args.driver.now open'
    (λ p f e. whole_at o.table.flows (driven o before d) d _ c.args.sent.now beside list.listed c.args.length (c.are_whole.ensures c.if-are_whole.true) p f e ∙ long)
    c.args.board.now.ports

pub returns-then-are_whole-clause-first_short : goal.returns-then-are_whole-clause-first_short
returns-then-are_whole-clause-first_short g c = λ before d long open' list p f lt e.
    let o = c.args.hall.now.setting.opening in
    let beside : map (ingress_of o.table.flows) (driven o before d) ≡ map (ingress_of o.table.flows) (driven o before d) = refl in
    whole_at o.table.flows (driven o before d) d _ c.args.sent.now beside list.listed c.args.length (c.are_whole.ensures c.if-are_whole.true) p f e ∙ long

pub loop-port-init : goal.loop-port-init
loop-port-init g c = record {
  driver = c.requires.own;
  seen = c.made-seen.ensures.seen c.args.hall.now.setting c.requires.own.1;
  noted = λ before d long open' list. begins_noted c.args.hall.now.setting.opening before d c.args.driver.now open';
  first_short = λ before d long open' list p f lt e. absurd (omega arith);
}

pub units_at-requires : goal.units_at-requires
units_at-requires g c =
    let o = c.args.hall.now.setting.opening in
    let s = c.args.hall.now.setting in
    let k = c.loop-port.port in
    let seen = c.loop-port.invariant.seen in
    let journal = c.loop-port.driver.journal in
    let (before, d, long, open', list) = c.requires.run in
    let noted = c.loop-port.invariant.noted before d long open' list in
    let first = c.loop-port.invariant.first_short before d long open' list in
    let facts = open_facts o before journal (record d { between = noted.between }) seen.legal seen.in_range noted.under_way in
    let gs = driven o before d in
    let G = grant_in o.table.flows gs in
    let clear = facts_clear o before journal (record d { between = noted.between }) facts in
    let ports = c.granted_ports.ensures s c.loop-port.invariant.driver.1 ∙ ap (map (ingress_of o.table.flows)) facts.flows in
    as_long o.table.flows gs d c.granted_ports.result.now c.args.sent.now ports list.listed

pub loop-port-preserved-in_default : goal.loop-port-preserved-in_default
loop-port-preserved-in_default g c =
    let o = c.args.hall.now.setting.opening in
    let s = c.args.hall.now.setting in
    let k = c.loop-port.port in
    let seen = c.loop-port.invariant.seen in
    let journal = c.loop-port.driver.journal in
    record {
      driver = c.loop-port.invariant.driver;
      seen = seen;
      noted = λ before d long open' list.
          let noted = c.loop-port.invariant.noted before d long open' list in
          let first = c.loop-port.invariant.first_short before d long open' list in
          let facts = open_facts o before journal (record d { between = noted.between }) seen.legal seen.in_range noted.under_way in
          let gs = driven o before d in
          let G = grant_in o.table.flows gs in
          let clear = facts_clear o before journal (record d { between = noted.between }) facts in
          let ports = c.granted_ports.ensures s c.loop-port.invariant.driver.1 ∙ ap (map (ingress_of o.table.flows)) facts.flows in
          let none = no_units o.table.flows gs d c.granted_ports.result.now c.args.sent.now ports list.listed k (c.units_at.ensures.none c.in_default.is) in
          keeps_noted o before d c.args.driver.now c.loop-port.driver k noted (λ f e. absurd (none-some f (sym none ∙ e)));
      first_short = λ before d long open' list.
          let noted = c.loop-port.invariant.noted before d long open' list in
          let first = c.loop-port.invariant.first_short before d long open' list in
          let facts = open_facts o before journal (record d { between = noted.between }) seen.legal seen.in_range noted.under_way in
          let gs = driven o before d in
          let G = grant_in o.table.flows gs in
          let clear = facts_clear o before journal (record d { between = noted.between }) facts in
          let ports = c.granted_ports.ensures s c.loop-port.invariant.driver.1 ∙ ap (map (ingress_of o.table.flows)) facts.flows in
          let none = no_units o.table.flows gs d c.granted_ports.result.now c.args.sent.now ports list.listed k (c.units_at.ensures.none c.in_default.is) in
          first_stays G d.sent d.slots k c.loop-port.fault first (λ f e. absurd (none-some f (sym none ∙ e)));
    }

pub loop-port-preserved-then-units-length : goal.loop-port-preserved-then-units-length
loop-port-preserved-then-units-length g c =
    let o = c.args.hall.now.setting.opening in
    let s = c.args.hall.now.setting in
    let k = c.loop-port.port in
    let seen = c.loop-port.invariant.seen in
    let journal = c.loop-port.driver.journal in
    record {
      driver = c.loop-port.invariant.driver;
      seen = seen;
      noted = λ before d long open' list.
          let noted = c.loop-port.invariant.noted before d long open' list in
          let first = c.loop-port.invariant.first_short before d long open' list in
          let facts = open_facts o before journal (record d { between = noted.between }) seen.legal seen.in_range noted.under_way in
          let gs = driven o before d in
          let G = grant_in o.table.flows gs in
          let clear = facts_clear o before journal (record d { between = noted.between }) facts in
          let ports = c.granted_ports.ensures s c.loop-port.invariant.driver.1 ∙ ap (map (ingress_of o.table.flows)) facts.flows in
          let (f, has, given, is) = found_units o.table.flows gs d c.granted_ports.result.now c.args.sent.now ports list.listed k c.in-Some.units clear
          (c.units_at.ensures.found c.in-Some.units c.in-Some.is) in
          let whole : d.sent k ≡ d.slots = omega (arith, is, c.if-units-length.true, long) in
          keeps_noted o before d c.args.driver.now c.loop-port.driver k noted (λ h e. whole);
      first_short = λ before d long open' list.
          let noted = c.loop-port.invariant.noted before d long open' list in
          let first = c.loop-port.invariant.first_short before d long open' list in
          let facts = open_facts o before journal (record d { between = noted.between }) seen.legal seen.in_range noted.under_way in
          let gs = driven o before d in
          let G = grant_in o.table.flows gs in
          let clear = facts_clear o before journal (record d { between = noted.between }) facts in
          let ports = c.granted_ports.ensures s c.loop-port.invariant.driver.1 ∙ ap (map (ingress_of o.table.flows)) facts.flows in
          let (f, has, given, is) = found_units o.table.flows gs d c.granted_ports.result.now c.args.sent.now ports list.listed k c.in-Some.units clear
          (c.units_at.ensures.found c.in-Some.units c.in-Some.is) in
          let whole : d.sent k ≡ d.slots = omega (arith, is, c.if-units-length.true, long) in
          first_stays G d.sent d.slots k c.loop-port.fault first (λ h e. whole);
    }

pub note-requires-clause-own : goal.note-requires-clause-own
note-requires-clause-own g c = c.loop-port.invariant.driver

pub note-requires-clause-port : goal.note-requires-clause-port
note-requires-clause-port g c = omega (arith, c.loop-port-test.true, c.ports-port-end.ensures.ports, c.requires.ports)

pub note-requires-clause-call : goal.note-requires-clause-call
note-requires-clause-call g c =
    let (before, d, long, open', list) = c.requires.run in
    let left = (c.loop-port.invariant.noted before d long open' list).left in
    omega (arith, left, c.loop-port-test.true, c.ports-port-end.ensures.ports, c.requires.ports)

pub note-requires-clause-run : goal.note-requires-clause-run
note-requires-clause-run g c =
    let (before, d, long, open', list) = c.requires.run in
    let noted = c.loop-port.invariant.noted before d long open' list in
    (before, record d { between = noted.between }, noted.under_way)

pub loop-port-preserved : goal.loop-port-preserved
loop-port-preserved g c =
    let o = c.args.hall.now.setting.opening in
    let s = c.args.hall.now.setting in
    let k = c.loop-port.port in
    let seen = c.loop-port.invariant.seen in
    let journal = c.loop-port.driver.journal in
    let place = c.note.ensures.place in
    let (r, on) = c.note.ensures.done in
    let own = c.loop-port.invariant.driver in
    record {
      driver = (place.gate ∙ own.0, place.setting ∙ own.1, (λ i. (place.rank i).table) ∙ own.2);
      seen = on.seen;
      noted = λ before d long open' list.
          let noted = c.loop-port.invariant.noted before d long open' list in
          let first = c.loop-port.invariant.first_short before d long open' list in
          let facts = open_facts o before journal (record d { between = noted.between }) seen.legal seen.in_range noted.under_way in
          let gs = driven o before d in
          let G = grant_in o.table.flows gs in
          let clear = facts_clear o before journal (record d { between = noted.between }) facts in
          let ports = c.granted_ports.ensures s c.loop-port.invariant.driver.1 ∙ ap (map (ingress_of o.table.flows)) facts.flows in
          let (f, has, given, is) = found_units o.table.flows gs d c.granted_ports.result.now c.args.sent.now ports list.listed k c.in-Some.units clear
          (c.units_at.ensures.found c.in-Some.units c.in-Some.is) in
          let most = list.within f has in
          let at = (grant_is o.table.flows gs k f given).1 in
          let short : d.sent k < d.slots = omega (arith, is, c.if-units-length.false, long, most, ap d.sent at) in
          one_noted o before d c.args.driver.now c.loop-port.driver c.note.new.driver k f r noted
          (subst (λ m. IsDrivenOn o (Short k m) c.loop-port.driver c.note.new.driver r) is on) place given short;
      first_short = λ before d long open' list.
          let noted = c.loop-port.invariant.noted before d long open' list in
          let first = c.loop-port.invariant.first_short before d long open' list in
          let facts = open_facts o before journal (record d { between = noted.between }) seen.legal seen.in_range noted.under_way in
          let gs = driven o before d in
          let G = grant_in o.table.flows gs in
          let clear = facts_clear o before journal (record d { between = noted.between }) facts in
          let ports = c.granted_ports.ensures s c.loop-port.invariant.driver.1 ∙ ap (map (ingress_of o.table.flows)) facts.flows in
          let (f, has, given, is) = found_units o.table.flows gs d c.granted_ports.result.now c.args.sent.now ports list.listed k c.in-Some.units clear
          (c.units_at.ensures.found c.in-Some.units c.in-Some.is) in
          let most = list.within f has in
          let at = (grant_is o.table.flows gs k f given).1 in
          let short : c.in-Some.units < d.slots = omega (arith, is, c.if-units-length.false, long, most, ap d.sent at) in
          subst (IsFirstShort G d.sent d.slots (k + 1)) (sym c.or-fault.ensures) (first_of G d.sent d.slots k c.loop-port.fault f c.in-Some.units first given (sym is) short);
    }

pub returns-clause-noted : goal.returns-clause-noted
returns-clause-noted g c = λ before d long open' list.
    let all : c.loop-port.port ≡ c.args.board.now.ports = omega (arith, c.loop-port-test.false, c.ports-port-end.ensures.ports, c.loop-port.auto.port-end) in
    subst (AreNoted c.args.hall.now.setting.opening before d c.args.driver.now c.loop-port.driver) all (c.loop-port.invariant.noted before d long open' list)

pub returns-clause-first_short : goal.returns-clause-first_short
returns-clause-first_short g c = λ before d long open' list.
    let all : c.loop-port.port ≡ c.args.board.now.ports = omega (arith, c.loop-port-test.false, c.ports-port-end.ensures.ports, c.loop-port.auto.port-end) in
    let o = c.args.hall.now.setting.opening in
    subst (λ (n : ℕ). IsFirstShort (grant_in o.table.flows (driven o before d)) d.sent d.slots n c.loop-port.fault) all
    (c.loop-port.invariant.first_short before d long open' list)
