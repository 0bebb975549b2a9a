use Rattle.std.proofs.Common.{◌≡◌, ◌+◌, ◌-◌, ◌≤◌, ◌<◌, ◌++◌, length, take, drop, arith, ap, ◌∙◌}
use Rattle.std.proofs.lemmas.List.{take-append-le, length-take}
use Rattle.outside.specs.declared.sink.Failed.{Failed}
use Rattle.outside.proofs.ReadSteps.{length_step, read_step, read_fault, read_too_long, read_no_memory}
use Rattle.outside.proofs.reading.read_all.Goals as goal

pub returns-in_default-clause-told : goal.returns-in_default-clause-told
returns-in_default-clause-told g c =
    read_fault Failed _ _ _ c.args.place c.loop-count.bytes.items _ c.args.most _ c.loop-count.invariant.short c.loop-count.invariant.told c.in_default.ensures.told

pub returns-then-count-most-clause-told : goal.returns-then-count-most-clause-told
returns-then-count-most-clause-told g c =
    let n = c.in-Ok.count in
    let came = c.loop-count.bytes.items in
    let bound : n ≤ length c.read.new.buffer = c.in-Ok.ensures.bound.0 in
    let told = read_step Failed _ _ _ c.args.place came c.read.new.buffer n c.loop-count.invariant.told c.in-Ok.ensures.told in
    let room = length-take (c.min-room.result + 1) c.loop-count.buffer in
    let more : c.args.most - length came < n = omega (arith, c.loop-count.bytes.ok.0) in
    let fits : n ≤ c.args.most - length came + 1 = omega (arith, room, c.loop-count.bytes.ok.0) in
    read_too_long _ _ c.args.place _ c.args.most (omega (arith, more, fits, length_step came c.read.new.buffer n bound)) told

pub loop-count-preserved : goal.loop-count-preserved
loop-count-preserved g c =
    let n = c.in-Ok.count in
    let came = c.loop-count.bytes.items in
    let bound : n ≤ length c.read.new.buffer = c.in-Ok.ensures.bound.0 in
    let told = read_step Failed _ _ _ c.args.place came c.read.new.buffer n c.loop-count.invariant.told c.in-Ok.ensures.told in
    let front = take-append-le n c.read.new.buffer (drop (c.min-room.result + 1) c.loop-count.buffer) bound in
    let items : c.extend_from_slice.new.self.items ≡ came ++ take n c.read.new.buffer = c.in-Ok-extend_from_slice.ensures.items ∙ ap (λ v. came ++ v) front in
    let within : n ≤ c.args.most - length came = omega (arith, c.loop-count.bytes.ok.0) in
    let short : length (came ++ take n c.read.new.buffer) ≤ c.args.most = omega (arith, within, length_step came c.read.new.buffer n bound) in
    record {
      short = rw items short;
      started = c.in-Ok.ensures.started ∙ c.loop-count.invariant.started;
      still = c.in-Ok.ensures.still ∙ c.loop-count.invariant.still;
      told = rw items told;
    }

pub returns-in_default-extend_from_slice-clause-told : goal.returns-in_default-extend_from_slice-clause-told
returns-in_default-extend_from_slice-clause-told g c =
    let n = c.in-Ok.count in
    let came = c.loop-count.bytes.items in
    let bound : n ≤ length c.read.new.buffer = c.in-Ok.ensures.bound.0 in
    let told = read_step Failed _ _ _ c.args.place came c.read.new.buffer n c.loop-count.invariant.told c.in-Ok.ensures.told in
    let within : n ≤ c.args.most - length came = omega (arith, c.loop-count.bytes.ok.0) in
    let short : length (came ++ take n c.read.new.buffer) ≤ c.args.most = omega (arith, within, length_step came c.read.new.buffer n bound) in
    read_no_memory _ _ c.args.place _ c.args.most short told
