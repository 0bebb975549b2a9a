use Rattle.std.proofs.Common.{◌≡◌, ℕ, arith, sym, ap, ◌∙◌, length, map, true, false}
use Rattle.std.proofs.lemmas.Bool.{both_ways}
use Rattle.std.proofs.lemmas.List.{length-map}
use Rattle.std.proofs.lemmas.Slice.Eq.{bytes_eq-Decides}
use Rattle.rankers.specs.Meaning.{Meaning}
use Rattle.command_jobs.proofs.PolicyFacts.{others_more, stands_at}
use Rattle.command_jobs.proofs.recording.place_of.Goals as goal

pub returns-then-is_named-clause-some : goal.returns-then-is_named-clause-some
returns-then-is_named-clause-some g c =
    stands_at (λ b. (goal.Ranker-dyn g (b.vtable, b.value)).meaning b.value) c.args.bench.now c.args.policy.now c.loop-place.place c.index-bench-place.result
    (omega (arith, c.loop-place-test.true)) (sym c.index-bench-place.is) ((bytes_eq-Decides _ _).0 (sym c.is_named.ensures ∙ c.if-is_named.true)) c.loop-place.invariant

pub loop-place-preserved : goal.loop-place-preserved
loop-place-preserved g c =
    others_more (λ b. (goal.Ranker-dyn g (b.vtable, b.value)).meaning b.value) c.args.bench.now c.args.policy.now c.loop-place.place c.index-bench-place.result
    (omega (arith, c.loop-place-test.true)) (sym c.index-bench-place.is) (λ e. both_ways _ (sym c.is_named.ensures ∙ c.if-is_named.false) ((bytes_eq-Decides _ _).1 e)) c.loop-place.invariant

pub returns-clause-none : goal.returns-clause-none
returns-clause-none g c = λ k d lt.
    c.loop-place.invariant k d (omega (arith, lt, length-map c.args.bench.now (λ b. (goal.Ranker-dyn g (b.vtable, b.value)).meaning b.value), c.loop-place-test.false))
