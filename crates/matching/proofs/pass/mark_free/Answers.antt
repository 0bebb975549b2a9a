use Rattle.std.proofs.Common.{◌≡◌, ◌/◌, ◌^◌, ◌<◌, get_or, ◌∙◌, arith, rules}
use Rattle.std.proofs.lemmas.List.{length-set}
use Rattle.matching.specs.Board.{no_rank}
use Rattle.matching.proofs.BitSteps.{set_in}
use Rattle.matching.proofs.FreeSteps.{free_next, taken_next}
use Rattle.matching.proofs.pass.mark_free.Goals as goal

pub loop-port-preserved-then-rank-lt-NONE : goal.loop-port-preserved-then-rank-lt-NONE
loop-port-preserved-then-rank-lt-NONE c = record {
  len = c.loop-port.invariant.len;
  so_far = taken_next c.args.at.now c.loop-port.free c.loop-port.port (λ e. omega (arith, c.if-rank-lt-NONE.true, e)) c.loop-port.invariant.so_far;
}

pub loop-port-preserved : goal.loop-port-preserved
loop-port-preserved c =
    let n = c.loop-port.port in
    let bits = c.loop-port.free in
    let fits : get_or c.args.at.now n 0 < 2 ^ 32 = search rules in
    let none : get_or c.args.at.now n 0 ≡ no_rank = omega (arith, fits, c.if-rank-lt-NONE.false) in
    record {
      len = length-set bits (n / 64) (set_in (get_or bits (n / 64) 0) n) ∙ c.loop-port.invariant.len;
      so_far = free_next c.args.at.now bits n (omega (arith, c.loop-port-test.true, c.requires.room, c.loop-port.invariant.len)) none c.loop-port.invariant.so_far;
    }
