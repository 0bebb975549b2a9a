-- What good files call for is one status, and the job ends by it.
use Rattle.std.proofs.Common.{◌≡◌, ℕ, inl, inr, List, Option, Some, None, refl, sym, ap, subst}
use Rattle.std.specs.Prelude.{◌⊎◌, IfSome, IsSomeAnd, slice_index}
use Rattle.cert_check.proofs.OneVerdict.{one_verdict}
use Rattle.flow_table.proofs.TablesOne.{tables_one}
use Rattle.flow_table.specs.Table.{TableFacts}
use Rattle.outside.specs.Shelf.{Told}
use Rattle.online_check.specs.declared.any_report.AnyReport.{AnyReport}
use Rattle.online_check.specs.declared.any_report.AnyReport.TheVariants.{Online, Plan}
use Rattle.online_check.specs.declared.verdict.OnlineVerdict.TheVariants as online_verdict
use Rattle.online_check.specs.AnyReport.{IsAnyBadAt}
use Rattle.online_check.specs.Arrivals.{arrivals_in}
use Rattle.online_check.proofs.OneOnline.{one_online_verdict}
use Rattle.online_check.proofs.OneReport.{any_text_one}
use Rattle.command_files.proofs.FileTurns.{done_in_turn}
use Rattle.command_files.proofs.GoodFacts.{files_end, no_order, no_script, report_is_good}
use Rattle.command_files.proofs.InputFacts.{weights_one}
use Rattle.command_files.proofs.ShelfFacts.{if_some}
use Rattle.command_files.specs.declared.status.Status.{Status}
use Rattle.command_files.specs.declared.status.Status.TheVariants as status
use Rattle.command_files.specs.Causes.{FilesGiveTable, HasCauseInFiles}
use Rattle.command_files.specs.Ends.{IsReadFault, IsStill}
use Rattle.command_files.specs.Inputs.{IsInput, bytes_if}
use Rattle.command_files.specs.Reports.{IsAnyReportOf}
use Rattle.command_files.specs.Shelves.{OfBoth, ReadsOut}
use Rattle.command_files.specs.Turns.{FilesInTurn}
use Rattle.stats_cli.proofs.NumberFacts.{cause_by}
use Rattle.stats_cli.specs.Complete.{AreGoodFiles, CallFor, IsAnswer}
use Rattle.stats_cli.specs.Numbers.{Given, HasNoNumbers, HasStatsCause, IsAccepted, IsRefused, IsYesButForRatio, TellsNumbers, check_of}
use Rattle.stats_cli.specs.Words.{StatsSaid}
use Rattle.stats_cli.specs.declared.status.StatsStatus.{StatsStatus}
use Rattle.stats_cli.specs.declared.status.StatsStatus.TheVariants.{Ended, No, Ok, Usage}

-- ---- a report is accepted or refused

apart : (t : TableFacts) (ws : List ℕ) (slot_ms : ℕ) (report : AnyReport) → IsAccepted t ws slot_ms report → IsRefused t ws slot_ms report → ⊥
apart t ws slot_ms (Plan r) (v, holds, fine) (w, other, refused) = refused (subst IsYesButForRatio (one_verdict t ws r v w holds other) fine)
apart t ws slot_ms (Online o) sound (reason, first) =
    let e : online_verdict.Yes ≡ online_verdict.No reason =
    one_online_verdict t ws (slice_index (arrivals_in t slot_ms)) o online_verdict.Yes (online_verdict.No reason) sound first in cc

-- ---- files have one table and one report

module _ (said : StatsSaid) (t : Told) (a b : Given (Some t) said) where
  one_table : a.table ≡ b.table
  one_table = tables_one _ said.unit a.table b.table a.input.table_fits b.input.table_fits a.input.gives.table_is b.input.gives.table_is

  one_list : a.list ≡ b.list
  one_list = weights_one (bytes_if t said.weights) _ a.list b.list a.input.gives.weights_are b.input.gives.weights_are

  one_report : a.report ≡ b.report
  one_report = any_text_one _ a.report b.report a.report_is.reads.1 b.report_is.reads.1

  right_or_wrong : IsAccepted a.table a.list said.slot_ms a.report → IsRefused b.table b.list said.slot_ms b.report → ⊥
  right_or_wrong accepted refused =
      apart a.table a.list said.slot_ms a.report accepted
      (subst (λ (x : TableFacts). IsRefused x a.list said.slot_ms a.report) (sym one_table)
      (subst (λ (x : List ℕ). IsRefused b.table x said.slot_ms a.report) (sym one_list)
      (subst (λ (x : AnyReport). IsRefused b.table b.list said.slot_ms x) (sym one_report) refused)))

-- ---- one status

pub answers_one : (said : StatsSaid) (t : Told) (a b : StatsStatus) → IsAnswer said t a → IsAnswer said t b → a ≡ b
answers_one said t Usage b x y = absurd x
answers_one said t (Ended s) b x y = absurd x
answers_one said t Ok Usage x y = absurd y
answers_one said t Ok (Ended s) x y = absurd y
answers_one said t Ok Ok x y = refl
answers_one said t Ok No (a, x) (b, y) = absurd (right_or_wrong said t a b x y)
answers_one said t No Usage x y = absurd y
answers_one said t No (Ended s) x y = absurd y
answers_one said t No Ok (a, x) (b, y) = absurd (right_or_wrong said t b a y x)
answers_one said t No No x y = refl

-- ---- so the job ends by it

files_past : (before now : ℕ) (t : Told) (new : Option Told) (said : StatsSaid) (s : Status) → HasCauseInFiles IsAnyBadAt before now (Some t) new (check_of said) s →
    AreGoodFiles said t → IsStill before now → s ≡ status.NoMemory
files_past before now t new said s cause (table, report) still =
    files_end before now t new (check_of said) s cause table (report_is_good (bytes_if t (Some said.report)) report) (no_script (check_of said) t refl)
    (no_order (check_of said) t refl) still

pub ends_at_files : (before now : ℕ) (old new : Option Told) (by said : StatsSaid) (s : Status) (answer : StatsStatus) → by ≡ said →
    HasCauseInFiles IsAnyBadAt before now old new (check_of by) s → IsSomeAnd old (CallFor said answer) → IsStill before now →
    (Ended s ≡ answer) ⊎ (Ended s ≡ Ended status.NoMemory)
ends_at_files before now None new by said s answer same cause call still = absurd call
ends_at_files before now (Some t) new by said s answer same cause (good, is) still =
    inr (ap Ended (files_past before now t new said s (subst (λ (x : StatsSaid). HasCauseInFiles IsAnyBadAt before now (Some t) new (check_of x) s) same cause) good still))

pub ends_at_verdict : (before now : ℕ) (old new : Option Told) (by said : StatsSaid) (table : TableFacts) (ws : List ℕ) (report : AnyReport) (s answer : StatsStatus) → by ≡ said →
    IsInput old by.trace by.weights by.unit table ws → IsAnyReportOf old by.report report → HasNoNumbers table ws by report s →
    IsSomeAnd old (CallFor said answer) → (s ≡ answer) ⊎ (s ≡ Ended status.NoMemory)
ends_at_verdict before now None new by said table ws report s answer same input is cause call = absurd call
ends_at_verdict before now (Some t) new by said table ws report s answer same input is cause (good, calls) =
    by_status s cause (cause_by before now (Some t) new by table ws report s input is cause)
  where
    by_status : (x : StatsStatus) → HasNoNumbers table ws by report x → HasStatsCause before now (Some t) new by x → (x ≡ answer) ⊎ (x ≡ Ended status.NoMemory)
    by_status No c why = inl (answers_one said t No answer (subst (λ (w : StatsSaid). IsAnswer w t No) same why) calls)
    by_status (Ended x) c why = inr (ap Ended c)
    by_status Ok c why = absurd why
    by_status Usage c why = absurd why

pub ends_told : (old : Option Told) (by said : StatsSaid) (text : List ℕ) (answer : StatsStatus) → by ≡ said → TellsNumbers old by text →
    IsSomeAnd old (CallFor said answer) → Ok ≡ answer
ends_told None by said text answer same tells call = absurd call
ends_told (Some t) by said text answer same tells (good, is) =
    answers_one said t Ok answer (subst (λ (w : StatsSaid). IsAnswer w t Ok) same (tells.given, tells.numbers.accepted)) is

-- ---- how far the files were looked at

pub past_in_turn : (old new : Option Told) (said : StatsSaid) (s : Status) → (IsReadFault s → ⊥) → IfSome old (AreGoodFiles said) →
    OfBoth old new (ReadsOut (check_of said).job (check_of said)) → OfBoth old new (FilesInTurn (check_of said) s)
past_in_turn old new said s other good out =
    done_in_turn old new (check_of said) s refl other
    (if_some old (AreGoodFiles said) (FilesGiveTable (check_of said)) (λ t (gives, report). gives) good) out
