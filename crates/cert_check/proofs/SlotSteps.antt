-- How many slots runs have.
use Rattle.std.proofs.Common.{◌≡◌, List, [], ◌∷◌, length, replicate, refl, arith}
use Rattle.std.specs.Prelude.{sum_by}
use Rattle.std.proofs.lemmas.List.{length-append, length-replicate}
use Rattle.std.proofs.lemmas.List.Sums.{sum_by-cons}
use Rattle.coflow_units.specs.declared.plan.Run.{Run}
use Rattle.schedule_model.specs.RunList.{IsKept, slots_in}
use Rattle.report_text.specs.declared.value.Report.{Report}
use Rattle.report_text.specs.Report.{IsReport}

pub slots_count : (runs : List Run) → length (slots_in runs) ≡ sum_by (λ (run : Run). run.length) runs
slots_count [] = refl
slots_count (r ∷ rs) =
    omega (arith, length-append (replicate r.length r.flows) (slots_in rs), length-replicate r.length r.flows, slots_count rs, sum_by-cons (λ (run : Run). run.length) r rs)

-- the runs of a report are those of a schedule
pub runs_kept : (r : Report) → IsReport r → IsKept r.runs
runs_kept r h = record { some = h.lengths; ascending = h.ascending; maximal = h.maximal; short = omega (arith, slots_count r.runs, h.few_slots) }
