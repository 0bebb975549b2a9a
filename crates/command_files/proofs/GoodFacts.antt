-- Good files have no fault.
use Rattle.std.proofs.Common.{◌≡◌, ℕ, inl, inr, List, Option, Some, None, refl, sym, ap, subst, ◌∙◌, arith}
use Rattle.std.specs.Prelude.{sum_by}
use Rattle.command_words.specs.Jobs.{order_name, report_name, script_name, trace_name}
use Rattle.command_words.specs.Words.{Said}
use Rattle.coflow_units.specs.declared.fabric.Flow.{Flow}
use Rattle.coflow_units.specs.declared.limits.TheConstants.{MAX_REPORT, MAX_TEXT}
use Rattle.coflow_units.specs.declared.quantity.Quantity.{Quantity}
use Rattle.coflow_units.specs.declared.trace.CoflowLine.{CoflowLine}
use Rattle.flow_table.specs.Sent.{sent}
use Rattle.flow_table.proofs.FlowsOne.{flows_one}
use Rattle.live_text.specs.Reading.{IsBadAt, IsTextOf}
use Rattle.orders.specs.declared.fault.OrderFault.{OrderFault}
use Rattle.outside.specs.Shelf.{Told, bytes_of}
use Rattle.workload.specs.declared.fault.ScriptFault.{ScriptFault}
use Rattle.workload.specs.declared.fault.ScriptFault.TheVariants as script_fault
use Rattle.trace_reader.specs.Trace.{trace_of}
use Rattle.weights.specs.declared.fault.WeightsFault.{WeightsFault}
use Rattle.command_files.specs.declared.status.Status.{Status}
use Rattle.command_files.specs.declared.status.Status.TheVariants as status
use Rattle.command_files.specs.Causes.{FilesBadOrder, FilesBadScript, FilesGiveOrder, FilesGiveScript, FilesGiveShared, FilesGiveTable, HasCauseInFiles, IsGiven}
use Rattle.command_files.specs.Causes.FilesLimit.{in_input, in_report, in_script, in_shared}
use Rattle.command_files.specs.Reports.{HasReportText, IsJournalText, IsReportText}
use Rattle.command_files.specs.Ends.{IsStill}
use Rattle.command_files.specs.InputCauses.{GiveTable, LimitCause}
use Rattle.command_files.specs.InputCauses.LimitCause.{in_table, in_trace, in_weights}
use Rattle.command_files.specs.Inputs.{GiveWeights, IsTraceText, bytes_if}
use Rattle.command_files.specs.Limits.{most_bytes}
use Rattle.command_files.specs.OrderCauses.{HasOrderFault}
use Rattle.command_files.specs.Orders.{HasOrderText}
use Rattle.command_files.specs.ReportCauses.{IsBadReport, ReportLimit}
use Rattle.command_files.specs.ScriptCauses.{HasScriptFault, ScriptLimit}
use Rattle.command_files.specs.Scripts.{HasMoreUnits, HasScriptText}
use Rattle.command_files.specs.TraceCauses.{HasTraceFault, TraceLimit}
use Rattle.command_files.specs.WeightsCauses.{IsFaultOf, WeightsLimit}
use Rattle.trace_reader.specs.declared.fault.TraceFault.{TraceFault}
use Rattle.online_check.specs.AnyReport.{IsAnyBadAt, IsAnyText}
use Rattle.online_check.proofs.OneReport.{text_or_bad}

-- ---- a text that reads has no fault

pub trace_is_good : (text : List ℕ) (fault : TraceFault) → IsTraceText text → HasTraceFault text fault → ⊥
trace_is_good text fault good bad = let clash : None ≡ Some fault = sym good.passes ∙ bad.first in cc

pub weights_are_good : (text : Option (List ℕ)) (coflows : List CoflowLine) (list : List ℕ) (fault : WeightsFault) → GiveWeights text coflows list → IsFaultOf text coflows fault →
    ⊥
weights_are_good None coflows list fault good bad = bad
weights_are_good (Some text) coflows list fault (short, passes, is) (low, first) = let clash : None ≡ Some fault = sym passes ∙ first in cc

pub trace_fits : (text : List ℕ) (which : Quantity) (count : ℕ) → IsTraceText text → TraceLimit text which count → ⊥
trace_fits text which count good (inl (is, told, long)) = absurd (omega (arith, good.short, long))
trace_fits text which count good (inr (line, bad)) = trace_is_good text _ good bad

pub weights_fit : (text : Option (List ℕ)) (coflows : List CoflowLine) (list : List ℕ) (which : Quantity) (count : ℕ) → GiveWeights text coflows list →
    WeightsLimit text coflows which count → ⊥
weights_fit None coflows list which count good (inl (is, told, long)) = long
weights_fit (Some text) coflows list which count (short, passes, is) (inl (text_is, told, long)) = absurd (omega (arith, short, long))
weights_fit None coflows list which count good (inr (line, bad)) = bad
weights_fit (Some text) coflows list which count good (inr (line, bad)) = weights_are_good (Some text) coflows list _ good bad

pub table_fits : (trace : List ℕ) (weights : Option (List ℕ)) (unit : ℕ) (which : Quantity) (count : ℕ) → GiveTable trace weights unit → LimitCause trace weights unit which count →
    ⊥
table_fits trace weights unit which count good (in_trace limit) = trace_fits trace which count good.gives.trace_text limit
table_fits trace weights unit which count good (in_weights text limit) = weights_fit weights _ good.list which count good.gives.weights_are limit
table_fits trace weights unit which count good (in_table text ws give cause) = good.fits which count cause

-- the report, where there is one, is not bad in this way, and has no more than so many bytes
pub record HasNoFault (IsBad : List ℕ → ℕ → Type 0) (most : ℕ) (report : Option (List ℕ)) : Type 0 where
  pub line : (n : ℕ) → IsBadReport IsBad report n → ⊥
  pub fits : (which : Quantity) (count : ℕ) → ReportLimit most report which count → ⊥

pub text_is_good : {R : Type 0} (IsText : List ℕ → R → Type 0) (IsBad : List ℕ → ℕ → Type 0) → ((bytes : List ℕ) (r : R) (line : ℕ) → IsText bytes r → IsBad bytes line → ⊥) →
    (report : Option (List ℕ)) → HasReportText IsText report → HasNoFault IsBad MAX_REPORT report
text_is_good IsText IsBad apart None good = absurd good
text_is_good IsText IsBad apart (Some text) (short, report, is) = record {
  line = λ n (low, bad). apart text report n is bad;
  fits = λ which count (text_is, told, long). absurd (omega (arith, short, long));
}

pub report_is_good : (report : Option (List ℕ)) → IsReportText report → HasNoFault IsAnyBadAt MAX_REPORT report
report_is_good report good = text_is_good IsAnyText IsAnyBadAt text_or_bad report good

pub journal_is_good : (journal : Option (List ℕ)) → IsJournalText journal → HasNoFault IsBadAt MAX_REPORT journal
journal_is_good journal good = text_is_good IsTextOf IsBadAt (λ bytes live line text bad. bad.no_text live text) journal good

pub no_report : (IsBad : List ℕ → ℕ → Type 0) (most : ℕ) → HasNoFault IsBad most None
no_report IsBad most = record { line = λ n bad. bad; fits = λ which count (is, told, long). long }

-- ---- a script has no fault

-- The table that the files give has no more units than clients share live, where a script is named. The script, where
-- there is one, has no fault.
pub record HasNoScriptFault (said : Said) (t : Told) : Type 0 where
  pub units : (g : FilesGiveTable said t) (count : ℕ) → IsGiven (script_name said.job) → HasMoreUnits g.table count → ⊥
  pub bad : (line field : ℕ) → FilesBadScript said line field t → ⊥
  pub fits : (s : FilesGiveShared said t) (which : Quantity) (count : ℕ) → ScriptLimit s.given.table.ids (bytes_if t (script_name said.job)) which count → ⊥

-- a job without a script
pub no_script : (said : Said) (t : Told) → script_name said.job ≡ None → HasNoScriptFault said t
no_script said t none = record {
  units = λ g count given more. subst IsGiven none given;
  bad = λ line field (s, bad). subst (λ (o : Option (List ℕ)). HasScriptFault s.given.table.ids (bytes_if t o) (script_fault.Bad line field)) none bad;
  fits = λ s which count limit. no_limit s which count (subst (λ (o : Option (List ℕ)). ScriptLimit s.given.table.ids (bytes_if t o) which count) none limit);
}
  where
    no_limit : (s : FilesGiveShared said t) (which : Quantity) (count : ℕ) → ScriptLimit s.given.table.ids None which count → ⊥
    no_limit s which count (inl (is, told, long)) = long
    no_limit s which count (inr bad) = bad

-- the tables of the files agree in their flows and their ids
same_flows : (said : Said) (t : Told) (a b : FilesGiveTable said t) → a.table.flows ≡ b.table.flows
same_flows said t a b =
    flows_one (sent (trace_of (bytes_of t (trace_name said.job))) said.unit) a.table.flows b.table.flows a.gives.table_is.flows b.gives.table_is.flows

same_ids : (said : Said) (t : Told) (a b : FilesGiveTable said t) → a.table.ids ≡ b.table.ids
same_ids said t a b = a.gives.table_is.ids ∙ sym b.gives.table_is.ids

-- a text that passes has no fault
passes_all : (ids : List ℕ) (file : Option (List ℕ)) (fault : ScriptFault) → HasScriptText ids file → HasScriptFault ids file fault → ⊥
passes_all ids None fault good bad = bad
passes_all ids (Some text) fault good (short, first) = let clash : None ≡ Some fault = sym good.passes ∙ first in cc

pub script_is_good : (said : Said) (t : Told) → FilesGiveScript said t → HasNoScriptFault said t
script_is_good said t (s, good) = record {
  units = λ g count given (is, more). absurd (omega (arith, more, s.shared, ap (λ (xs : List Flow). sum_by (λ (x : Flow). x.units) xs) (same_flows said t g s.given)));
  bad = λ line field (other, bad). passes_all other.given.table.ids _ (script_fault.Bad line field) (over other) bad;
  fits = λ other which count limit. fit other which count _ (over other) limit;
}
  where
    over : (other : FilesGiveShared said t) → HasScriptText other.given.table.ids (bytes_if t (script_name said.job))
    over other = subst (λ (ids : List ℕ). HasScriptText ids (bytes_if t (script_name said.job))) (same_ids said t s.given other.given) good

    fit : (other : FilesGiveShared said t) (which : Quantity) (count : ℕ) (file : Option (List ℕ)) → HasScriptText other.given.table.ids file →
        ScriptLimit other.given.table.ids file which count → ⊥
    fit other which count None text limit = text
    fit other which count (Some bytes) text (inl (is, told, long)) = absurd (omega (arith, text.short, long))
    fit other which count (Some bytes) text (inr bad) = passes_all other.given.table.ids (Some bytes) (script_fault.Limit which count) text bad

-- ---- an order has no fault

-- the order, where the job names one, has no fault
abbrev pub HasNoOrderFault : Said → Told → Type 0
HasNoOrderFault said t = (fault : OrderFault) → FilesBadOrder said fault t → ⊥

-- a job without an order
pub no_order : (said : Said) (t : Told) → order_name said.job ≡ None → HasNoOrderFault said t
no_order said t none fault (g, bad) = subst (λ (o : Option (List ℕ)). HasOrderFault g.table.ids (bytes_if t o) fault) none bad

-- an order that passes has no fault
order_passes : (ids : List ℕ) (file : Option (List ℕ)) (fault : OrderFault) → HasOrderText ids file → HasOrderFault ids file fault → ⊥
order_passes ids None fault good bad = bad
order_passes ids (Some text) fault good (short, first) = let clash : None ≡ Some fault = sym good.passes ∙ first in cc

pub order_is_good : (said : Said) (t : Told) → FilesGiveOrder said t → HasNoOrderFault said t
order_is_good said t (g, good) fault (other, bad) =
    order_passes other.table.ids _ fault (subst (λ (ids : List ℕ). HasOrderText ids (bytes_if t (order_name said.job))) (same_ids said t g other) good) bad

-- and it is not too long, nor bad at a line
pub order_is_short : (ids : List ℕ) (file : Option (List ℕ)) → HasOrderText ids file → HasNoFault (λ text line. ⊥) MAX_TEXT file
order_is_short ids None good = absurd good
order_is_short ids (Some text) good = record {
  line = λ n (low, bad). bad;
  fits = λ which count (is, told, long). absurd (omega (arith, good.short, long));
}

-- ---- so a command does not end early

pub files_end : {IsBad : List ℕ → ℕ → Type 0} (before now : ℕ) (t : Told) (new : Option Told) (said : Said) (s : Status) → HasCauseInFiles IsBad before now (Some t) new said s →
    FilesGiveTable said t → HasNoFault IsBad (most_bytes said.job) (bytes_if t (report_name said.job)) → HasNoScriptFault said t → HasNoOrderFault said t → IsStill before now →
    s ≡ status.NoMemory
files_end before now t new said (status.BadTrace fault) (form, bad) table report script order still = absurd (trace_is_good _ fault table.gives.trace_text bad)
files_end before now t new said (status.BadWeights fault) (form, (text, bad)) table report script order still =
    absurd (weights_are_good _ _ table.list fault table.gives.weights_are bad)
files_end before now t new said (status.BadReport line) (given, none, (gives, bad)) table report script order still = absurd (report.line line bad)
files_end before now t new said (status.Limit which count) (may, in_input limit) table report script order still = absurd (table_fits _ _ said.unit which count table limit)
files_end before now t new said (status.Limit which count) (may, in_report gives limit) table report script order still = absurd (report.fits which count limit)
files_end before now t new said (status.Limit which count) (may, in_shared given g is more) table report script order still = absurd (script.units g count given more)
files_end before now t new said (status.Limit which count) (may, in_script s limit) table report script order still = absurd (script.fits s which count limit)
files_end before now t new said (status.BadScript line field) (given, bad) table report script order still = absurd (script.bad line field bad)
files_end before now t new said (status.BadOrder fault) (form, given, bad) table report script order still = absurd (order fault bad)
files_end before now t new said (status.ReadFault count) (one, rose, failed) table report script order still = absurd (still rose)
files_end before now t new said status.NoMemory cause table report script order still = refl
files_end before now t new said status.Ok cause table report script order still = absurd cause
files_end before now t new said status.No cause table report script order still = absurd cause
files_end before now t new said status.Usage cause table report script order still = absurd cause
files_end before now t new said status.UnknownPolicy cause table report script order still = absurd cause
files_end before now t new said (status.WriteFault count) cause table report script order still = absurd cause
files_end before now t new said (status.WireFault port count) cause table report script order still = absurd cause
