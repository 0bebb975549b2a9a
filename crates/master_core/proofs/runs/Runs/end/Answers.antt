-- The open run is closed.
use Rattle.std.proofs.Common.{◌∙◌, ◌<◌, ◌≤◌, List, ℕ, ap, get_or, length, refl, subst, sym}
use Rattle.std.specs.Prelude.{All}
use Rattle.std.specs.List.Sorted.{IsStrictlyIncreasing}
use Rattle.matching.specs.Matching.{IsSettled, listed_in}
use Rattle.master_core.specs.OpenRun.{KeptRuns}
use Rattle.master_core.proofs.CloseTells.{fits_kept}
use Rattle.master_core.proofs.KeptSteps.{paid_along, paid_equally, run_is, run_less, run_of}
use Rattle.master_core.proofs.runs.Runs.end.Goals as goal

pub returns-then-self-clause-run : goal.returns-then-self-clause-run
returns-then-self-clause-run c =
    let m = c.self.inside.grants in
    let noted = c.self.inside.noted.items in
    let x = c.in-Some.run' in (
      run_of m noted x,
      run_is m noted c.self.inside.current x c.args.self.now.run (ap (λ (v : KeptRuns). v.run) c.self.view_is) c.in-Some.is,
      refl,
      refl,
      paid_along c.args.flows.now c.credit_all.new.ledger.owed c.args.ledger.now.owed c.flows.result.now (listed_in m) c.deref.result.now noted x.slots c.flows.ensures
          c.deref.ensures.value c.credit_all.ensures.owed,
    )

pub credit_equally-requires : goal.credit_equally-requires
credit_equally-requires c =
    let m = c.self.inside.grants in
    let x = c.in-Some.run' in
    let run = run_is m c.self.inside.noted.items c.self.inside.current x c.args.self.now.run (ap (λ (v : KeptRuns). v.run) c.self.view_is) c.in-Some.is in
    let fits = fits_kept c.args.flows.now c.args.ledger.now.owed c.args.self.now.run (run_of m c.self.inside.noted.items x) c.requires.fits run in
    let same = sym c.flows-2.ensures in
    record {
      ascending = subst IsStrictlyIncreasing same fits.ascending;
      flow = subst (λ (l : List ℕ). All (λ f. f < length c.args.ledger.now.units) l) same
          (subst (λ n. All (λ f. f < n) (listed_in m)) (sym c.requires.units_len) fits.flow);
      owed_len = c.requires.owed_len ∙ sym c.requires.units_len;
      owed = subst (All (λ f. x.slots ≤ get_or c.args.ledger.now.owed f 0)) same fits.each_owes;
    }

pub returns-clause-run : goal.returns-clause-run
returns-clause-run c =
    let m = c.self.inside.grants in
    let noted = c.self.inside.noted.items in
    let x = c.in-Some.run' in (
      run_of m noted x,
      run_is m noted c.self.inside.current x c.args.self.now.run (ap (λ (v : KeptRuns). v.run) c.self.view_is) c.in-Some.is,
      refl,
      refl,
      paid_equally c.args.flows.now c.credit_equally.new.ledger.owed c.args.ledger.now.owed c.flows-2.result.now (listed_in m) noted x.slots c.flows-2.ensures
          (c.self.invariant.quiet c.if-self.false) c.credit_equally.ensures.owed,
    )

pub returns-clause-grants : goal.returns-clause-grants
returns-clause-grants c = λ line kept fresh.
    let m = c.self.inside.grants in
    let flows = c.args.flows.now in
    let noted = c.self.inside.noted.items in
    let old = c.args.ledger.now.owed in
    let new = c.credit_equally.new.ledger.owed in
    let quiet = c.self.invariant.quiet c.if-self.false in
    let paid = paid_equally flows new old c.flows-2.result.now (listed_in m) noted c.in-Some.run'.slots c.flows-2.ensures quiet c.credit_equally.ensures.owed in
    let settled = subst (IsSettled flows line (λ f. get_or old f 0)) (sym (ap (λ (v : KeptRuns). v.tables) c.self.view_is))
    (kept (sym (ap (λ (v : KeptRuns). v.fresh) c.self.view_is) ∙ fresh)) in
    c.repair.ensures.settled flows line (λ f. get_or new f 0)
    (c.take_run.ensures.matching flows line (λ f. get_or old f 0) (λ f. get_or new f 0) settled
    (run_less flows new old (listed_in m) noted c.in-Some.run'.slots quiet paid))
