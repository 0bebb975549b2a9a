-- A skip is refused while a run is open or units are owed, and past the last slot.
use Rattle.std.proofs.Common.{◌∙◌, Bool, Option, ap, arith, max, refl, sym}
use Rattle.std.specs.Prelude.{if◌then◌else◌}
use Rattle.std.proofs.lemmas.Bool.{le-leb, lt-leb}
use Rattle.journal.specs.declared.command.Command.TheVariants.{Skip}
use Rattle.journal.specs.declared.command.Reply.{Reply}
use Rattle.journal.specs.declared.command.Reply.TheVariants.{Late, Skipped, StillOpen, StillOwed}
use Rattle.journal.specs.State.{Run, slot_end}
use Rattle.journal.specs.Answer.{on_run, skipped}
use Rattle.master_core.proofs.OwingTells.{none_told, run_told, skip_free, skip_owed}
use Rattle.master_core.proofs.TellSteps.{fits_next, follows}
use Rattle.master_core.proofs.standing.Standing.skip.Goals as goal

abbrev still : Reply → Option Run → Reply
still other r = on_run r (λ r. StillOpen r.first) other

pub returns-in-Some : goal.returns-in-Some
returns-in-Some c =
    let o = c.args.opening.now in
    let old = c.args.self.now in
    let (k, is, first, slots, count) = c.in-Some.ensures in
    follows o (Skip c.args.to) old (StillOpen c.in-Some.run'.first) old c.requires.fit
    (λ s t. (run_told o.table.flows o.table.ports s.run old.runs.run k (skipped o s c.args.to) t.run is ∙ ap StillOpen (sym first), t))

pub returns-in-Some-first_flow_owing : goal.returns-in-Some-first_flow_owing
returns-in-Some-first_flow_owing c =
    let o = c.args.opening.now in
    let old = c.args.self.now in
    let f = c.in-Some-first_flow_owing.flow in
    follows o (Skip c.args.to) old (StillOwed f) c.refresh.new.self c.refresh.ensures.fit
    (λ s t.
    let t' = c.refresh.ensures.tells s t in
    let (rest, e) = c.in-Some-first_flow_owing.ensures s t' in
    (ap (still (skipped o s c.args.to)) (none_told o.table.flows o.table.ports s.run old.runs.run t.run c.in_default.ensures) ∙ skip_owed o s c.args.to f rest e, t'))

pub returns-then-to-gt-MAX_SLOT : goal.returns-then-to-gt-MAX_SLOT
returns-then-to-gt-MAX_SLOT c =
    let o = c.args.opening.now in
    let old = c.args.self.now in
    follows o (Skip c.args.to) old (Late c.args.to) c.refresh.new.self c.refresh.ensures.fit
    (λ s t.
    let t' = c.refresh.ensures.tells s t in (
      ap (still (skipped o s c.args.to)) (none_told o.table.flows o.table.ports s.run old.runs.run t.run c.in_default.ensures) ∙
          skip_free o s c.args.to (c.in_default-first_flow_owing.ensures s t')
          ∙ ap (λ (b : Bool). if b then Late c.args.to else Skipped (max s.next c.args.to)) (le-leb slot_end c.args.to (omega arith)),
      t',
    ))

pub returns : goal.returns
returns c =
    let o = c.args.opening.now in
    let old = c.args.self.now in
    let mid = c.refresh.new.self in
    let fit = c.refresh.ensures.fit in
    let n = c.max-self.result in
    follows o (Skip c.args.to) old (Skipped n) (record mid { next = n })
    (fits_next o mid n fit (omega (arith, c.max-self.ensures, fit.next_ends, c.if-to-gt-MAX_SLOT.false)))
    (λ s t.
    let t' = c.refresh.ensures.tells s t in (
      ap (still (skipped o s c.args.to)) (none_told o.table.flows o.table.ports s.run old.runs.run t.run c.in_default.ensures) ∙
          skip_free o s c.args.to (c.in_default-first_flow_owing.ensures s t')
          ∙ ap (λ (b : Bool). if b then Late c.args.to else Skipped (max s.next c.args.to)) (lt-leb slot_end c.args.to (omega arith)) ∙
          ap Skipped (ap (λ m. max m c.args.to) (sym t'.next) ∙ sym c.max-self.ensures),
      record { coflows = t'.coflows; weight = t'.weight; orders = t'.orders; owed = t'.owed; run = t'.run; next = refl },
    ))
