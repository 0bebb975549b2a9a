use Rattle.std.proofs.Common.{◌≡◌, ◌<◌, ◌+◌, length, get_or, subst, sym, arith}
use Rattle.std.proofs.lemmas.List.{get_or_default}
use Rattle.flow_table.specs.declared.spots.Spot.{Spot}
use Rattle.flow_table.specs.Spots.{IsAscending}
use Rattle.flow_table.specs.Targets.{SendsTo}
use Rattle.flow_table.proofs.RowSteps.{row_begins, rows_end}
use Rattle.flow_table.proofs.SpotSteps.{part_at, stands_here, stands_next}
use Rattle.flow_table.proofs.StopSteps.{passed_up}
use Rattle.flow_table.proofs.flows.push_sources.Goals as goal

pub sources-init : goal.sources-init
sources-init c = record {
  ingress = 0;
  at = record { within = omega arith; earlier = λ s d lt. absurd (omega (arith, lt)); later = λ s d low high. omega arith };
  few = c.requires.few;
  so_far = λ sends to before. before;
}

pub push_source-requires-clause-ascending : goal.push_source-requires-clause-ascending
push_source-requires-clause-ascending c =
    let a = c.args in
    let first = c.sources.first in
    let x : Spot = get_or a.places.now first record { location = 0; number = 0 } in
    let is : x ≡ get_or a.places.now first x = get_or_default a.places.now first record { location = 0; number = 0 } x c.sources-test.true in
    let at = stands_here a.places.now c.sources.invariant.ingress first x c.requires.sorted.locations c.sources.invariant.at c.sources-test.true is in
    subst IsAscending (sym (part_at a.places.now x.location first c.end_of-end.result c.requires.sorted.locations at c.end_of-end.ensures)) (c.requires.sorted.numbers x.location)

pub returns-in_err-push_source-clause-full : goal.returns-in_err-push_source-clause-full
returns-in_err-push_source-clause-full c =
    let a = c.args in
    let l = c.sources.invariant in
    let first = c.sources.first in
    let x : Spot = get_or a.places.now first record { location = 0; number = 0 } in
    let is : x ≡ get_or a.places.now first x = get_or_default a.places.now first record { location = 0; number = 0 } x c.sources-test.true in
    let up = c.requires.sorted.locations in
    let at = stands_here a.places.now l.ingress first x up l.at c.sources-test.true is in
    let part = part_at a.places.now x.location first c.end_of-end.result up at c.end_of-end.ensures in
    passed_up c.from_residual.result c.in_err-push_source.field-0.0 _ _ c.from_residual.ensures.1 c.in_err-push_source.ensures.full
    (λ full sends to before. full sends (subst (λ l. SendsTo (sends a.coflow x.location) l a.targets.now a.rests.now) (sym part) (to x.location))
    (row_begins sends a.coflow l.ingress first a.places.now a.rests.now a.targets.now x c.sources.flows.items up l.at c.sources-test.true is to (l.so_far sends to before)))

pub sources-preserved : goal.sources-preserved
sources-preserved c =
    let a = c.args in
    let l = c.sources.invariant in
    let first = c.sources.first in
    let x : Spot = get_or a.places.now first record { location = 0; number = 0 } in
    let is : x ≡ get_or a.places.now first x = get_or_default a.places.now first record { location = 0; number = 0 } x c.sources-test.true in
    let up = c.requires.sorted.locations in
    let at = stands_here a.places.now l.ingress first x up l.at c.sources-test.true is in
    let part = part_at a.places.now x.location first c.end_of-end.result up at c.end_of-end.ensures in
    record {
      ingress = x.location + 1;
      at = stands_next a.places.now x.location first c.end_of-end.result up at c.end_of-end.ensures;
      few = c.in_ok-push_source.ensures.few_still;
      so_far = λ sends to before. c.in_ok-push_source.ensures.pushed sends (subst (λ l. SendsTo (sends a.coflow x.location) l a.targets.now a.rests.now) (sym part) (to x.location))
          (row_begins sends a.coflow l.ingress first a.places.now a.rests.now a.targets.now x c.sources.flows.items up l.at c.sources-test.true is to (l.so_far sends to before));
    }

pub returns-clause-pushed : goal.returns-clause-pushed
returns-clause-pushed c = λ sends to before.
    let a = c.args in
    let l = c.sources.invariant in
    rows_end sends a.coflow l.ingress c.sources.first a.places.now a.rests.now a.targets.now c.sources.flows.items l.at (omega (arith, c.sources-test.false)) to
    (l.so_far sends to before)
