use Rattle.std.proofs.Common.{◌≡◌, ◌≤◌, length, slice_index, slice_index_or, arith, ap, ◌∙◌}
use Rattle.std.proofs.lemmas.Grind.{common_steps}
use Rattle.std.proofs.lemmas.List.{take_all}
use Rattle.coflow_units.specs.declared.fabric.Side.TheVariants.{Ingress}
use Rattle.coflow_units.specs.declared.plan.Place.{Place}
use Rattle.master_core.specs.Published.{ranked}
use Rattle.master_core.proofs.RankSteps.{place_at, ranked_len}
use Rattle.journal_audit.specs.Ranks.{told}
use Rattle.journal_audit.proofs.RankSteps.{found_rank, rank_more, told_rank}
use Rattle.journal_audit.proofs.ranks.ranks_of.Goals as goal

abbrev no_place : Place
no_place = record { coflow = 0; port = record { side = Ingress; number = 0 }; y = 0; rest = 0; load = 0 }

pub loop-index-preserved : goal.loop-index-preserved
loop-index-preserved c = λ coflow.
    let xs = ranked c.args.places.now in
    let at : slice_index xs c.loop-index.index ≡ (slice_index_or c.args.places.now c.loop-index.index no_place).coflow =
    place_at c.args.places.now c.loop-index.index no_place c.loop-index-test.true in
    let more = rank_more xs c.loop-index.index coflow (omega (arith, c.loop-index-test.true, ranked_len c.args.places.now)) in
    let here = c.loop-index.invariant coflow in
    let there = c.loop-index.invariant (slice_index xs c.loop-index.index) in
    grind (arith, common_steps)

pub returns : goal.returns
returns c = λ coflow.
    let all : length (ranked c.args.places.now) ≤ c.loop-index.index = omega (arith, c.loop-index-test.false, ranked_len c.args.places.now) in
    ap told (c.loop-index.invariant coflow ∙ ap (λ l. found_rank l coflow) (take_all c.loop-index.index (ranked c.args.places.now) all))
    ∙ told_rank (ranked c.args.places.now) coflow
