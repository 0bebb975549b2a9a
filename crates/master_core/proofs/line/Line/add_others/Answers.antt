-- The coflows without a rank, one after another.
use Rattle.std.proofs.Common.{◌∙◌, ◌∷◌, ℕ, true, false, List, [], ap, append-nil, arith, get_or, length, refl, sym}
use Rattle.std.specs.Prelude.{◌==◌, ◌&&◌}
use Rattle.std.proofs.lemmas.Bool.{ne_eqb, eq-eqb}
use Rattle.std.proofs.lemmas.List.{length-append}
use Rattle.master_core.specs.Attendance.{marked}
use Rattle.master_core.specs.Published.{ranked}
use Rattle.master_core.specs.Waiting.{Waiting, waits}
use Rattle.master_core.proofs.Bools.{both}
use Rattle.master_core.proofs.LineSteps.{all_looked_at, joins, passes_by}
use Rattle.master_core.proofs.line.Line.add_others.Goals as goal

pub loop-coflow-init : goal.loop-coflow-init
loop-coflow-init c = record {
  line = ap (λ (v : Waiting). v.coflows) c.self.view_is ∙ sym (append-nil c.args.self.now.coflows);
  few = omega (arith, ap (λ (v : Waiting). length v.coflows) c.self.view_is);
  room = ap (λ (v : Waiting). v.room) c.self.view_is;
}

pub push_reserved-requires : goal.push_reserved-requires
push_reserved-requires c =
    omega (arith, c.loop-coflow.invariant.few, c.loop-coflow.invariant.room, c.requires.room, c.loop-coflow-test.true)

pub loop-coflow-preserved-then-rank-ne0 : goal.loop-coflow-preserved-then-rank-ne0
loop-coflow-preserved-then-rank-ne0 c =
    let joined = c.args.joined.now in
    let x = get_or joined c.loop-coflow.coflow-index 0 in
    record {
      line = passes_by (waits (ranked c.args.orders.now.places) c.args.roster.now.present) c.args.self.now.coflows joined c.loop-coflow.self-inside.coflows.items
          c.loop-coflow.coflow-index x c.loop-coflow.invariant.line c.loop-coflow-test.true refl
          (ap (λ b. b && marked c.args.roster.now.present x) (ap (λ n. n == 0) (sym c.rank.ensures) ∙ ne_eqb c.rank.result 0 c.if-rank-ne0.true));
      few = omega (arith, c.loop-coflow.invariant.few);
      room = c.loop-coflow.invariant.room;
    }

pub loop-coflow-preserved-then-not-is_present : goal.loop-coflow-preserved-then-not-is_present
loop-coflow-preserved-then-not-is_present c =
    let joined = c.args.joined.now in
    let x = get_or joined c.loop-coflow.coflow-index 0 in
    record {
      line = passes_by (waits (ranked c.args.orders.now.places) c.args.roster.now.present) c.args.self.now.coflows joined c.loop-coflow.self-inside.coflows.items
          c.loop-coflow.coflow-index x c.loop-coflow.invariant.line c.loop-coflow-test.true refl
          (both _ (marked c.args.roster.now.present x) true false (ap (λ n. n == 0) (sym c.rank.ensures) ∙ eq-eqb c.rank.result 0 c.if-rank-ne0.false)
          (sym c.is_present.ensures ∙ c.if-not-is_present.true));
      few = omega (arith, c.loop-coflow.invariant.few);
      room = c.loop-coflow.invariant.room;
    }

pub loop-coflow-preserved : goal.loop-coflow-preserved
loop-coflow-preserved c =
    let joined = c.args.joined.now in
    let items = c.loop-coflow.self-inside.coflows.items in
    let x = get_or joined c.loop-coflow.coflow-index 0 in
    record {
      line = joins (waits (ranked c.args.orders.now.places) c.args.roster.now.present) c.args.self.now.coflows joined items c.push_reserved.new.self.items
          c.loop-coflow.coflow-index x c.loop-coflow.invariant.line c.loop-coflow-test.true refl
          (both _ (marked c.args.roster.now.present x) true true (ap (λ n. n == 0) (sym c.rank.ensures) ∙ eq-eqb c.rank.result 0 c.if-rank-ne0.false)
          (sym c.is_present.ensures ∙ c.if-not-is_present.false)) c.push_reserved.ensures.items;
      few = omega (arith, c.loop-coflow.invariant.few, length-append items (x ∷ []), ap (λ (l : List ℕ). length l) c.push_reserved.ensures.items);
      room = c.push_reserved.ensures.capacity ∙ c.loop-coflow.invariant.room;
    }

pub returns-clause-line : goal.returns-clause-line
returns-clause-line c =
    let p = waits (ranked c.args.orders.now.places) c.args.roster.now.present in
    all_looked_at p c.args.self.now.coflows c.args.joined.now c.loop-coflow.self-inside.coflows.items c.loop-coflow.coflow-index c.loop-coflow.invariant.line
    c.loop-coflow-test.false
