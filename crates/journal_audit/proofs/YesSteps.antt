-- What a right text says of its runs.
use Rattle.std.proofs.Common.{◌≡◌, ℕ, ◌≤◌, List, map, sym, ap, ◌∙◌, subst, arith}
use Rattle.std.specs.Prelude.{All}
use Rattle.coflow_units.specs.Flows.{units_of}
use Rattle.coflow_units.specs.Schedule.{IsClear, slots_of, times}
use Rattle.flow_table.specs.Table.{TableFacts}
use Rattle.journal.specs.Closed.{closed_runs}
use Rattle.journal.specs.Counts.{run_line}
use Rattle.journal.specs.Sound.{InRange}
use Rattle.journal.proofs.ScheduleTimes.{slots_clear, times_is_sent}
use Rattle.journal.proofs.Sound.{legal_sound}
use Rattle.journal.proofs.WholeRuns.{schedule_by_runs}
use Rattle.live_text.specs.declared.value.Live.{Live}
use Rattle.live_text.specs.Live.{IsLive}
use Rattle.schedule_model.specs.RunList.{slots_in}
use Rattle.journal_audit.specs.Sound.{IsSoundLive}
use Rattle.journal_audit.specs.Stated.{journal_in, opening_for}
use Rattle.journal_audit.proofs.InRanges.{stated_in_range, stated_plain}

module _ (t : TableFacts) (weights : List ℕ) (l : Live) (live : IsLive l) (right : IsSoundLive t weights l) where
  ranges : InRange (opening_for t weights l) (journal_in t l)
  ranges = stated_in_range (opening_for t weights l) l.entries right.known live.entry

  pub yes_slots : slots_in l.runs ≡ slots_of (map run_line (closed_runs (opening_for t weights l) (journal_in t l)))
  yes_slots = right.runs ∙ schedule_by_runs (opening_for t weights l) (journal_in t l) right.legal ranges (stated_plain t.ids l.entries)

  pub yes_clear : All (IsClear t.flows) (slots_in l.runs)
  yes_clear = subst (All (IsClear t.flows)) (sym right.runs) (slots_clear (opening_for t weights l) (journal_in t l) right.legal ranges)

  pub yes_within : (f : ℕ) → times (slots_in l.runs) f ≤ units_of t.flows f
  yes_within f = omega (
    arith,
    ap (λ slots. times slots f) right.runs,
    times_is_sent (opening_for t weights l) (journal_in t l) f right.legal ranges,
    (legal_sound (opening_for t weights l) (journal_in t l) right.legal ranges).within f,
  )
