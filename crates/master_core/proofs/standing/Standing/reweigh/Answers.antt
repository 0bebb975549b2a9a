use Rattle.std.proofs.Common.{◌∙◌, ◌<◌, Bool, ap, arith, length, refl, sym}
use Rattle.std.specs.Prelude.{if◌then◌else◌}
use Rattle.std.specs.Vec.{with_item}
use Rattle.std.proofs.lemmas.List.{get_or_default}
use Rattle.journal.specs.declared.command.Command.TheVariants.{Reweigh}
use Rattle.journal.specs.declared.command.Reply.TheVariants.{NotHere, Weighed}
use Rattle.master_core.proofs.TellSteps.{fits_weights, follows, weighed}
use Rattle.master_core.proofs.standing.Standing.reweigh.Goals as goal

pub returns-then-not-is_present : goal.returns-then-not-is_present
returns-then-not-is_present c =
    follows c.args.opening.now (Reweigh c.args.coflow c.args.weight) c.args.self.now NotHere c.args.self.now c.requires.fit
    (λ s t. (
      ap (λ (b : Bool). if b then Weighed (s.weight c.args.coflow) else NotHere)
          (sym (t.coflows.present_is c.args.coflow) ∙ sym c.is_present.ensures ∙ c.if-not-is_present.true),
      t,
    ))

pub returns : goal.returns
returns c =
    let old = c.args.self.now in
    let x = c.args.coflow in
    let o = c.args.opening.now in
    let here = sym c.is_present.ensures ∙ c.if-not-is_present.false in
    let lt : x < length old.weights.items = omega (arith, c.requires.coflow_in, c.requires.fit.weights_len) in
    follows o (Reweigh x c.args.weight) old (Weighed c.index-old.result.now) (record old { weights = with_item old.weights x c.args.weight })
    (fits_weights o old (with_item old.weights x c.args.weight) x c.args.weight c.requires.fit refl c.requires.weight_fits)
    (λ s t. (
      ap (λ (b : Bool). if b then Weighed (s.weight x) else NotHere) (sym (t.coflows.present_is x) ∙ here)
          ∙ ap Weighed (sym (t.weight x c.requires.coflow_in) ∙ get_or_default old.weights.items x 0 c.index-old.result.now lt ∙ sym c.index-old.ensures),
      record {
        coflows = t.coflows;
        weight = weighed (length o.table.ids) s.weight old.weights.items x c.args.weight lt t.weight;
        orders = t.orders;
        owed = t.owed;
        run = t.run;
        next = t.next;
      },
    ))
