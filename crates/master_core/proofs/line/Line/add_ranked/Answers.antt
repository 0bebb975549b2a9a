-- The ranked coflows, one after another.
use Rattle.std.proofs.Common.{◌∙◌, ◌∷◌, ℕ, List, [], ap, arith, get_or, length, sym}
use Rattle.std.proofs.lemmas.List.{length-append}
use Rattle.coflow_units.specs.declared.fabric.Side.TheVariants.{Ingress}
use Rattle.coflow_units.specs.declared.plan.Place.{Place}
use Rattle.master_core.specs.Attendance.{marked}
use Rattle.master_core.specs.Published.{ranked}
use Rattle.master_core.specs.Waiting.{Waiting}
use Rattle.master_core.proofs.RankSteps.{place_at, ranked_len}
use Rattle.master_core.proofs.LineSteps.{all_looked_at, joins, passes_by}
use Rattle.master_core.proofs.line.Line.add_ranked.Goals as goal

abbrev no_place : Place
no_place = record { coflow = 0; port = record { side = Ingress; number = 0 }; y = 0; rest = 0; load = 0 }

pub loop-place-init : goal.loop-place-init
loop-place-init c = record {
  line = ap (λ (v : Waiting). v.coflows) c.self.view_is ∙ c.requires.empty;
  few = omega (arith, ap (λ (v : Waiting). length v.coflows) c.self.view_is, ap (λ (l : List _). length l) c.requires.empty);
  room = ap (λ (v : Waiting). v.room) c.self.view_is;
}

pub push_reserved-requires : goal.push_reserved-requires
push_reserved-requires c = omega (arith, c.loop-place.invariant.few, c.loop-place.invariant.room, c.requires.room, c.loop-place-test.true)

pub loop-place-preserved-then-not-is_present : goal.loop-place-preserved-then-not-is_present
loop-place-preserved-then-not-is_present c =
    let places = c.args.places.now in
    let k = c.loop-place.place-index in
    record {
      line = passes_by (marked c.args.roster.now.present) [] (ranked places) c.loop-place.self-inside.coflows.items k (get_or places k no_place).coflow c.loop-place.invariant.line
          (omega (arith, ranked_len places, c.loop-place-test.true))
          (place_at places k no_place c.loop-place-test.true) (sym c.is_present.ensures ∙ c.if-not-is_present.true);
      few = omega (arith, c.loop-place.invariant.few);
      room = c.loop-place.invariant.room;
    }

pub loop-place-preserved : goal.loop-place-preserved
loop-place-preserved c =
    let places = c.args.places.now in
    let k = c.loop-place.place-index in
    let items = c.loop-place.self-inside.coflows.items in
    let x = (get_or places k no_place).coflow in
    record {
      line = joins (marked c.args.roster.now.present) [] (ranked places) items c.push_reserved.new.self.items k x c.loop-place.invariant.line
          (omega (arith, ranked_len places, c.loop-place-test.true))
          (place_at places k no_place c.loop-place-test.true) (sym c.is_present.ensures ∙ c.if-not-is_present.false) c.push_reserved.ensures.items;
      few = omega (arith, c.loop-place.invariant.few, length-append items (x ∷ []), ap (λ (l : List ℕ). length l) c.push_reserved.ensures.items);
      room = c.push_reserved.ensures.capacity ∙ c.loop-place.invariant.room;
    }

pub returns-clause-line : goal.returns-clause-line
returns-clause-line c =
    let items = c.loop-place.self-inside.coflows.items in
    all_looked_at (marked c.args.roster.now.present) [] (ranked c.args.places.now) items c.loop-place.place-index c.loop-place.invariant.line
    (omega (arith, ranked_len c.args.places.now, c.loop-place-test.false))

pub returns-clause-few : goal.returns-clause-few
returns-clause-few c = omega (arith, c.loop-place.invariant.few, c.loop-place.auto.place-index-end)
