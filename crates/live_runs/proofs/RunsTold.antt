-- The value of a run that was served tells it.
use Rattle.std.proofs.Common.{◌≡◌, ℕ, List, Option, ◌∙◌, sym, subst}
use Rattle.std.specs.Prelude.{All}
use Rattle.std.specs.Option.{IsSome}
use Rattle.journal.specs.declared.command.Entry.{Entry}
use Rattle.journal.specs.declared.opening.Opening.{Opening}
use Rattle.workload.specs.declared.script.Script.{Script}
use Rattle.live_text.specs.declared.value.Live.{Live}
use Rattle.live_text.specs.declared.value.PullLine.{PullLine}
use Rattle.live_model.specs.Printed.{told_entry}
use Rattle.live_runs.proofs.WordsOfRuns.{all_worded}
use Rattle.live_serving.specs.Served.{IsServed}
use Rattle.live_runs.specs.Run.{IsToldRun}
use Rattle.live_runs.specs.Value.{IsValueOf}

module _ {W : Type 0} (runs : W → Option (List (ℕ × ℕ × ℕ))) (o first kept : Opening) (script : Script) (most : ℕ) (journal : List Entry) (lines : List PullLine)
    (before now : List W) (begins : first ≡ o) (keeps : kept ≡ first) (served : IsServed runs first script most journal lines before now) where
  here : IsServed runs o script most journal lines before now
  here = subst (λ x. IsServed runs x script most journal lines before now) begins served

  -- each of its entries has words
  pub served_worded : All (λ (e : Entry). IsSome (told_entry kept e)) journal
  served_worded =
      subst (λ x. All (λ (e : Entry). IsSome (told_entry x e)) journal) (sym (keeps ∙ begins)) (all_worded o script most journal here.sent here.course here.carried)

  pub run_told : (live : Live) → IsValueOf kept journal lines live → IsToldRun runs o script most live before now
  run_told live value = record {
    journal = journal;
    sent = here.sent;
    run = record {
      course = here.course;
      carried = here.carried;
      told = record { entries = v.entries; orders = v.orders; pulls = v.pulls_are ∙ here.pulls; runs = v.runs };
    };
    wires = here.wires;
  }
    where
      v : IsValueOf o journal lines live
      v = subst (λ x. IsValueOf x journal lines live) (keeps ∙ begins) value
