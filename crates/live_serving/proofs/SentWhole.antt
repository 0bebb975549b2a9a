-- All runs so far were sent whole, from step to step.
use Rattle.std.proofs.Common.{List, [], ◌∷◌, sym, subst, ◌∙◌}
use Rattle.std.specs.Prelude.{All, Contains}
use Rattle.std.proofs.lemmas.List.Elements.{All-append, All-cons, All-nil}
use Rattle.journal.specs.declared.command.Entry.{Entry}
use Rattle.journal.specs.declared.opening.Opening.{Opening}
use Rattle.journal.specs.Closed.{closed_runs, LeavesSlots}
use Rattle.journal.specs.Driven.{Drive, GoesOnByRun, IsSentWhole}
use Rattle.slot_runner.specs.Cuts.{AllSentWhole, WasSentWhole}

-- before the first run
pub whole_first : (o : Opening) → AllSentWhole o []
whole_first o = All-nil (WasSentWhole o.table.flows)

-- where no run was closed
pub whole_still : (o : Opening) (before after : List Entry) → LeavesSlots o before after → AllSentWhole o before → AllSentWhole o after
whole_still o before after leaves = subst (All (WasSentWhole o.table.flows)) (sym leaves.closed)

-- after a run that was sent whole
pub whole_next : (o : Opening) (before after : List Entry) (d : Drive) → GoesOnByRun o before after d → IsSentWhole o before d → AllSentWhole o before → AllSentWhole o after
whole_next o before after d on whole so_far =
    let Whole = WasSentWhole o.table.flows in
    let (r, open', closed, first, slots, grants, credits) = on.closed in
    let last : Whole r = λ f in'. credits f in' ∙ whole f (subst (λ l. Contains l f) grants in') ∙ sym slots in
    subst (All Whole) (sym closed) (All-append Whole (closed_runs o before) (r ∷ []) so_far (All-cons Whole r [] last (All-nil Whole)))
