use Rattle.std.proofs.Common.{◌<◌, ◌+◌, refl, get_or, length, length-set, ap, ◌∙◌, arith}
use Rattle.coflow_units.specs.Flows.{ingress_of, egress_of}
use Rattle.matching.proofs.RankSteps.{IsRanked, coflow_begins, coflow_ends, has_room, skips, ranks_next}
use Rattle.matching.proofs.ranks.Ranks.rank_coflow.Goals as goal

pub loop-number-init : goal.loop-number-init
loop-number-init c = record {
  ports = refl;
  source_room = refl;
  len = refl;
  ranking = λ line k placed so_far. coflow_begins c.args.flows.now line (λ f. get_or c.args.left.now f 0) k c.args.first c.args.end c.args.self.now placed so_far;
}

pub loop-number-preserved-then-left-number-eq0 : goal.loop-number-preserved-then-left-number-eq0
loop-number-preserved-then-left-number-eq0 c =
    let before = c.loop-number.invariant in
    record {
      ports = before.ports;
      source_room = before.source_room;
      len = before.len;
      ranking = λ line k placed so_far. skips c.args.flows.now line (λ f. get_or c.args.left.now f 0) k c.loop-number.number c.loop-number.self c.if-left-number-eq0.true
          (before.ranking line k placed so_far);
    }

pub push-requires-clause-room : goal.push-requires-clause-room
push-requires-clause-room c =
    let (line, k, placed, so_far) = c.requires.ranking in
    let before = c.loop-number.invariant in
    let n = c.loop-number.number in
    let lt : n < length c.args.flows.now = omega (arith, c.requires.end, c.loop-number-test.true) in
    omega (
      arith,
      before.len,
      c.requires.room,
      has_room c.args.flows.now line (λ f. get_or c.args.left.now f 0) k n c.loop-number.self lt
          (placed.placed n c.loop-number.auto.number c.loop-number-test.true) (before.ranking line k placed so_far),
    )

pub push-requires-clause-count : goal.push-requires-clause-count
push-requires-clause-count c =
    let (line, k, placed, so_far) = c.requires.ranking in
    let before = c.loop-number.invariant in
    let n = c.loop-number.number in
    let lt : n < length c.args.flows.now = omega (arith, c.requires.end, c.loop-number-test.true) in
    omega (
      arith,
      c.requires.few,
      has_room c.args.flows.now line (λ f. get_or c.args.left.now f 0) k n c.loop-number.self lt (placed.placed n c.loop-number.auto.number c.loop-number-test.true)
          (before.ranking line k placed so_far),
    )

pub loop-number-preserved : goal.loop-number-preserved
loop-number-preserved c =
    let before = c.loop-number.invariant in
    let n = c.loop-number.number in
    let lt : n < length c.args.flows.now = omega (arith, c.requires.end, c.loop-number-test.true) in
    record {
      ports = c.push.ensures.ports ∙ before.ports;
      source_room = c.push.ensures.source_room ∙ before.source_room;
      len = ap length c.push.ensures.flows ∙ length-set c.loop-number.self.flows.items c.loop-number.self.count record {
        first = ingress_of c.args.flows.now n;
        second = c.loop-number.self.ports + egress_of c.args.flows.now n;
        number = n;
      } ∙ before.len;
      ranking = λ line k placed so_far.
          let old = before.ranking line k placed so_far in
          let here = placed.placed n c.loop-number.auto.number c.loop-number-test.true in
          let next : IsRanked c.args.flows.now n c.loop-number.self c.push.new.self record {
            first = ingress_of c.args.flows.now n;
            second = c.loop-number.self.ports + egress_of c.args.flows.now n;
            number = n;
          } = record {
            number_is = refl;
            first_is = refl;
            second_is = refl;
            ports = c.push.ensures.ports;
            count = c.push.ensures.count;
            items = c.push.ensures.flows;
            room = omega (arith, before.len, c.requires.room, has_room c.args.flows.now line (λ f. get_or c.args.left.now f 0) k n c.loop-number.self lt here old);
            source = c.push.ensures.source;
          } in
          ranks_next c.args.flows.now line (λ f. get_or c.args.left.now f 0) k n c.loop-number.self c.push.new.self record {
            first = ingress_of c.args.flows.now n;
            second = c.loop-number.self.ports + egress_of c.args.flows.now n;
            number = n;
          } next lt here
          (omega (arith, c.if-left-number-eq0.false)) old;
    }

pub returns-clause-ranking : goal.returns-clause-ranking
returns-clause-ranking c = λ line k placed so_far.
    coflow_ends c.args.flows.now line (λ f. get_or c.args.left.now f 0) k c.args.first c.args.end c.loop-number.number c.loop-number.self placed
    (omega (arith, c.loop-number-test.false)) (c.loop-number.invariant.ranking line k placed so_far)
