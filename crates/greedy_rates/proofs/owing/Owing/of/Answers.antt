-- The units of the next flow fit beside those of the flows so far.
use Rattle.std.proofs.Common.{get_or, inl, inr, ap, ◌∙◌, arith}
use Rattle.std.proofs.lemmas.Bool.{cases_eq}
use Rattle.coflow_units.specs.Flows.{units_of}
use Rattle.greedy_rates.proofs.Tallies.{next_fits}
use Rattle.greedy_rates.proofs.owing.Owing.of.Goals as goal

pub give-requires-clause-room : goal.give-requires-clause-room
give-requires-clause-room c =
    let before = c.loop-number.invariant in
    omega (arith, next_fits c.args.flows.now c.loop-number.owing.left c.loop-number.number before.owed.count c.loop-number-test.true before.done before.rest, c.requires.units)

pub loop-number-preserved : goal.loop-number-preserved
loop-number-preserved c =
    let before = c.loop-number.invariant in
    let after = c.give.ensures in
    let n = c.loop-number.number in
    record {
      owed = after.owed;
      done = λ f lt. elim (cases_eq f n) [
        | inl same ↦
            omega (arith, ap (λ g. get_or c.give.new.self.left g 0) same, ap (units_of c.args.flows.now) same, after.more, before.rest n (omega arith))
        | inr ne ↦ after.others f ne ∙ before.done f (omega (arith, lt, ne))
      ];
      rest = λ f le. after.others f (λ same. omega (arith, le, same)) ∙ before.rest f (omega (arith, le));
      coflows_are = after.coflows_are ∙ before.coflows_are;
      ingresses_are = after.ports_are.0 ∙ before.ingresses_are;
      egresses_are = after.ports_are.1 ∙ before.egresses_are;
    }
