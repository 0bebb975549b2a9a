-- An opening is refused while a run is open, where nothing is owed and past the last slot.
use Rattle.std.proofs.Common.{◌≡◌, ◌∙◌, ◌<◌, ℕ, Bool, List, Option, Some, [], ap, arith, length, refl, subst, sym}
use Rattle.std.specs.Prelude.{if◌then◌else◌, slice_index}
use Rattle.std.proofs.lemmas.Bool.{eq-eqb, ne_eqb}
use Rattle.journal.specs.declared.command.Command.TheVariants.{Open}
use Rattle.journal.specs.declared.command.Reply.{Reply}
use Rattle.journal.specs.declared.command.Reply.TheVariants.{Late, NothingLeft, Opened, StillOpen}
use Rattle.journal.specs.State.{Run, slot_end}
use Rattle.journal.specs.Runs.{granted, slots_for}
use Rattle.journal.specs.Answer.{on_run, opened}
use Rattle.matching.specs.Matching.{listed_in}
use Rattle.master_core.specs.OpenRun.{FitsOpen, IsBegun, KeptRun}
use Rattle.master_core.specs.Standing.{TellsRun}
use Rattle.master_core.specs.Waiting.{line_of}
use Rattle.master_core.proofs.OpenTells.{begun_fits, begun_told, kept_granted, line_told, open_kept}
use Rattle.master_core.proofs.OwingTells.{granted_owes, none_told, open_free, open_owed, run_told, ungranted_none}
use Rattle.master_core.proofs.TellSteps.{fits_runs, follows}
use Rattle.master_core.proofs.standing.Standing.open.Goals as goal

abbrev still : Reply → Option Run → Reply
still other r = on_run r (λ r. StillOpen r.first) other

pub returns-in-Some : goal.returns-in-Some
returns-in-Some c =
    let o = c.args.opening.now in
    let old = c.args.self.now in
    let (k, is, first, slots, count) = c.in-Some.ensures in
    follows o (Open c.args.most) old (StillOpen c.in-Some.run'.first) old c.requires.fit
    (λ s t. (run_told o.table.flows o.table.ports s.run old.runs.run k (opened o s c.args.most) t.run is ∙ ap StillOpen (sym first), t))

pub returns-then-grants_nothing : goal.returns-then-grants_nothing
returns-then-grants_nothing c =
    let o = c.args.opening.now in
    let old = c.args.self.now in
    let mid = c.refresh.new.self in
    let fit = c.refresh.ensures.fit in
    follows o (Open c.args.most) old NothingLeft mid fit
    (λ s t. let t' = c.refresh.ensures.tells s t in (
      ap (still (opened o s c.args.most)) (none_told o.table.flows o.table.ports s.run old.runs.run t.run c.in_default.ensures) ∙
          open_free o s c.args.most
          (ungranted_none o s (listed_in mid.runs.tables) (kept_granted o s mid fit t' c.refresh.ensures.fresh) (c.if-grants_nothing.ensures.none refl)),
      t',
    ))

pub returns-then-self-gt-MAX_SLOT : goal.returns-then-self-gt-MAX_SLOT
returns-then-self-gt-MAX_SLOT c =
    let o = c.args.opening.now in
    let old = c.args.self.now in
    let mid = c.refresh.new.self in
    let fit = c.refresh.ensures.fit in
    let last : mid.next ≡ slot_end = omega (arith, fit.next_ends, c.if-self-gt-MAX_SLOT.true) in
    follows o (Open c.args.most) old (Late mid.next) mid fit
    (λ s t.
    let t' = c.refresh.ensures.tells s t in
    let (f, rest, e) = granted_owes o s (listed_in mid.runs.tables) (kept_granted o s mid fit t' c.refresh.ensures.fresh) (c.if-grants_nothing.ensures.some refl) in (
      ap (still (opened o s c.args.most)) (none_told o.table.flows o.table.ports s.run old.runs.run t.run c.in_default.ensures) ∙ open_owed o s c.args.most f rest e
          ∙ ap (λ (b : Bool). if b then Late s.next else Opened s.next (slots_for o s c.args.most) (length (granted o s))) (eq-eqb s.next slot_end (sym t'.next ∙ last)) ∙
          ap Late (sym t'.next),
      t',
    ))

pub returns : goal.returns
returns c =
    let o = c.args.opening.now in
    let old = c.args.self.now in
    let mid = c.refresh.new.self in
    let fit = c.refresh.ensures.fit in
    let line = line_of mid.roster mid.orders in
    let left = λ (f : ℕ). slice_index mid.ledger.owed f in
    let (k, run, begins, first, slots, count) = c.begin-run.ensures.begun in
    let settled = fit.grants c.refresh.ensures.fresh in
    let begun = subst (λ n. IsBegun o.table.flows n line left mid.next c.args.most k) fit.runs_ports (begins o.table.flows line left settled) in
    let x = c.begin-run.result in
    follows o (Open c.args.most) old (Opened x.first x.slots x.count) (record mid { runs = c.begin-run.new.self })
    (fits_runs o mid c.begin-run.new.self fit c.begin-run.ensures.ports c.begin-run.ensures.tables c.begin-run.ensures.fresh
    (subst (FitsOpen o.table.flows mid.ledger.owed) (sym run) (begun_fits o.table.flows o.table.ports line mid.ledger.owed mid.next c.args.most k fit.next_ends begun)))
    (λ s t.
    let t' = c.refresh.ensures.tells s t in
    let (f, rest, e) = granted_owes o s (listed_in mid.runs.tables) (kept_granted o s mid fit t' c.refresh.ensures.fresh) (c.if-grants_nothing.ensures.some refl) in
    let opens = begun_told o s line mid.ledger.owed o.table.ports mid.next c.args.most k (line_told s mid t'.coflows t'.orders) t'.owed t'.next begun in
    let early : mid.next < slot_end = omega (arith, c.if-self-gt-MAX_SLOT.false) in (
      ap (still (opened o s c.args.most)) (none_told o.table.flows o.table.ports s.run old.runs.run t.run c.in_default.ensures) ∙ open_owed o s c.args.most f rest e
          ∙ ap (λ (b : Bool). if b then Late s.next else Opened s.next (slots_for o s c.args.most) (length (granted o s)))
          (ne_eqb s.next slot_end (λ z. omega (arith, z, t'.next, early)))
          ∙ ap (λ n. Opened n (slots_for o s c.args.most) (length (granted o s))) (sym t'.next ∙ sym begun.first_is ∙ sym first)
          ∙ ap (λ n. Opened x.first n (length (granted o s))) (sym opens.slots_are ∙ sym slots) ∙ ap (λ (l : List ℕ). Opened x.first x.slots (length l)) (sym opens.granted_are) ∙
          ap (Opened x.first x.slots) (sym count),
      record {
        coflows = t'.coflows;
        weight = t'.weight;
        orders = t'.orders;
        owed = t'.owed;
        run = subst (λ (z : Option KeptRun). TellsRun o.table.flows o.table.ports (Some (record { first = x.first; slots = x.slots; granted = granted o s; notes = [] })) z)
            (sym run)
            (open_kept o.table.flows o.table.ports line left mid.next c.args.most x.first x.slots (granted o s) k begun
            (sym first) (sym slots) opens.granted_are);
        next = t'.next;
      },
    ))
