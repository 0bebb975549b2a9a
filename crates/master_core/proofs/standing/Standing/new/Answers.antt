-- The state before the first entry.
use Rattle.std.proofs.Common.{rules, ◌≡◌, ◌∙◌, arith, refl, subst, sym}
use Rattle.journal.specs.Fold.{start}
use Rattle.master_core.specs.declared.standing.Standing.{Standing}
use Rattle.master_core.specs.Standing.{IsFit, Tells}
use Rattle.master_core.proofs.StartTells.{start_fits, start_told}
use Rattle.master_core.proofs.standing.Standing.new.Goals as goal

pub returns-clause-tells : goal.returns-clause-tells
returns-clause-tells c =
    let o = c.args.opening.now in
    let x : Standing = record {
      roster = c.in-Ok-coflows_kept.coflows.0;
      weights = c.in_ok-weights.weights;
      orders = c.in-Ok-coflows_kept.coflows.1;
      line = c.in-Ok-coflows_kept.coflows.2;
      ledger = c.in-Ok.units.0;
      runs = c.in-Ok.units.1;
      next = 1;
    } in
    let weights : c.in_ok-weights.weights.items ≡ o.weights = c.in_ok-weights.ensures.items_if_clones_equal (search rules) ∙ c.as_slice.ensures in
    subst (Tells o (start o)) (sym c.of.ensures)
    (start_told o x c.in-Ok-coflows_kept.ensures.joined c.in-Ok-coflows_kept.ensures.present weights c.in-Ok-coflows_kept.ensures.version c.in-Ok-coflows_kept.ensures.places
    (c.in-Ok.ensures.owed ∙ c.in-Ok.ensures.units) c.in-Ok.ensures.run refl)

pub returns-clause-fit : goal.returns-clause-fit
returns-clause-fit c =
    let o = c.args.opening.now in
    let x : Standing = record {
      roster = c.in-Ok-coflows_kept.coflows.0;
      weights = c.in_ok-weights.weights;
      orders = c.in-Ok-coflows_kept.coflows.1;
      line = c.in-Ok-coflows_kept.coflows.2;
      ledger = c.in-Ok.units.0;
      runs = c.in-Ok.units.1;
      next = 1;
    } in
    let weights : c.in_ok-weights.weights.items ≡ o.weights = c.in_ok-weights.ensures.items_if_clones_equal (search rules) ∙ c.as_slice.ensures in
    subst (IsFit o) (sym c.of.ensures)
    (start_fits o x c.requires (c.in-Ok-coflows_kept.ensures.present_len ∙ c.coflows.ensures.coflows) weights (c.in-Ok-coflows_kept.ensures.coflows_are ∙ c.coflows.ensures.coflows)
    (c.in-Ok-coflows_kept.ensures.ports_are ∙ c.ports.ensures.ports) (omega (arith, c.in-Ok-coflows_kept.ensures.room, c.coflows.ensures.coflows)) c.in-Ok.ensures.units
    c.in-Ok.ensures.owed c.in-Ok.ensures.ports c.in-Ok.ensures.room
    c.in-Ok.ensures.stale c.in-Ok.ensures.run refl)
