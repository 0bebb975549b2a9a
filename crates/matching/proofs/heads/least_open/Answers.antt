use Rattle.std.proofs.Common.{inl, length, refl, arith}
use Rattle.std.proofs.lemmas.List.{length_push}
use Rattle.std.proofs.lemmas.Slice.Zip.{zip_turn, zip_end}
use Rattle.matching.proofs.LookSteps.{open_next, closed_next}
use Rattle.matching.proofs.heads.least_open.Goals as goal
use Rattle.matching.proofs.heads.least_open.Goals.{then-head-other, else-head-other}

pub loop-head-init : goal.loop-head-init
loop-head-init c = record {
  below = λ k lt _. absurd (omega (arith, lt));
  found = inl refl;
}

pub loop-head-preserved : goal.loop-head-preserved
loop-head-preserved c =
    let (lt, lt', head, other) = zip_turn c.args.heads.now c.args.others.now c.loop-head.yielded _ _ c.next.new.self _ (cc) (cc) c.loop-head.yielded_by
    (c.in-Some.head, c.in-Some.other) c.in-Some.is c.next.ensures.steps in
    elim c.if-head-other.branch [
      | then-head-other w ↦ open_next c.args.heads.now c.args.others.now (length c.loop-head.yielded) _ c.loop-head.least c.min-least.result c.if-head-other.open lt
          (length_push c.loop-head.yielded (c.in-Some.head, c.in-Some.other))
          (omega (arith, head 0, other 0, w.if-head-other.true)) (omega (arith, head 0, w.open-is)) c.min-least.ensures c.loop-head.invariant
      | else-head-other w ↦ closed_next c.args.heads.now c.args.others.now (length c.loop-head.yielded) _ c.loop-head.least c.min-least.result c.if-head-other.open
          (length_push c.loop-head.yielded (c.in-Some.head, c.in-Some.other))
          (omega (arith, head 0, other 0, w.if-head-other.false)) w.open-is c.min-least.ensures c.loop-head.invariant
    ]

pub returns : goal.returns
returns c =
    let all = zip_end c.args.heads.now c.args.others.now c.loop-head.yielded _ _ c.next.new.self _ (cc) (cc) c.loop-head.yielded_by c.in-None.is c.next.ensures.steps in
    record {
      below = λ k lt. c.loop-head.invariant.below k (omega (arith, all, lt, c.requires));
      found = c.loop-head.invariant.found;
    }
