-- What the files of a command call for is one, and the command ends by it.
use Rattle.std.proofs.Common.{◌≡◌, ◌+◌, ℕ, inl, inr, List, Option, Some, None, refl, sym, subst, ◌∙◌, ap, arith}
use Rattle.std.specs.Prelude.{◌⊎◌, IfSome, IsSomeAnd}
use Rattle.coflow_units.specs.declared.limits.TheConstants.{MAX_TEXT}
use Rattle.coflow_units.specs.declared.quantity.Quantity.{Quantity}
use Rattle.coflow_units.specs.declared.quantity.Quantity.TheVariants as quantity
use Rattle.coflow_units.specs.declared.trace.CoflowLine.{CoflowLine}
use Rattle.coflow_units.specs.declared.trace.Trace.{Trace}
use Rattle.command_words.specs.Jobs.{Job, report_name, script_name, trace_name}
use Rattle.command_words.specs.Jobs.Job.{audit_job, check_job, classes_job, compare_job, live_job, make_job, online_job, plan_job, record_job, replay_job, serve_job}
use Rattle.command_words.specs.Line.{Text}
use Rattle.command_words.specs.Words.{IsWords, Said}
use Rattle.command_words.proofs.OneMeaning.{words_one}
use Rattle.flow_table.specs.Causes.{ExceedsLimit}
use Rattle.flow_table.specs.Table.{TableFacts}
use Rattle.outside.specs.Shelf.{Told, bytes_of}
use Rattle.rankers.specs.Meaning.{Meaning}
use Rattle.workload.specs.declared.fault.ScriptFault.TheVariants as script_fault
use Rattle.trace_reader.specs.Trace.{trace_of}
use Rattle.trace_reader.specs.declared.fault.TraceFault.{TraceFault}
use Rattle.trace_reader.specs.declared.fault.TraceFault.TheVariants as trace_fault
use Rattle.weights.specs.declared.fault.WeightsFault.{WeightsFault}
use Rattle.weights.specs.declared.fault.WeightsFault.TheVariants as weights_fault
use Rattle.command_files.specs.declared.status.Status.{Status}
use Rattle.command_files.specs.declared.status.Status.TheVariants as status
use Rattle.sincronia_cli.specs.Causes.{CauseBy, HasCauseOf}
use Rattle.command_files.specs.JobCauses.{HasFilesCause, IsBadFor}
use Rattle.sincronia_cli.specs.Command.{IsOfFiles, ReadsFiles}
use Rattle.sincronia_cli.specs.Complete.{EndsWell}
use Rattle.command_files.specs.GoodFiles.{HasGoodFiles}
use Rattle.sincronia_cli.specs.FirstCause.{EndsBy, IsFirstCause, IsInterrupted}
use Rattle.command_files.specs.Causes.FilesLimit.{in_input, in_report, in_script as in_script_of, in_shared}
use Rattle.command_files.specs.InputCauses.{GiveTable, LimitCause}
use Rattle.command_files.specs.InputCauses.LimitCause.{in_table, in_trace, in_weights}
use Rattle.command_files.specs.Inputs.{GiveWeights, IsTraceText, bytes_if}
use Rattle.sincronia_cli.specs.Outcome.{IsOutcome}
use Rattle.command_files.specs.Limits.{most_bytes}
use Rattle.command_files.specs.ReportCauses.{IsBadReport, IsLongReport}
use Rattle.command_jobs.specs.Online.{FilesPublishMore}
use Rattle.command_jobs.specs.Publishing.{PublishesFew, PublishesOver}
use Rattle.command_jobs.specs.Record.{HasPolicy, LacksPolicy, RecordPublishesMore}
use Rattle.command_jobs.specs.Replay.{ReplaysPublishMore}
use Rattle.command_jobs.specs.Serving.{Serves, Service}
use Rattle.command_files.specs.TraceCauses.{HasTraceFault, IsTooLong, IsTraceForm}
use Rattle.command_files.specs.WeightsCauses.{AreTooLong, IsFaultOf, IsWeightsForm}
use Rattle.command_files.proofs.JobFacts.{bad_bytes, bad_line_one}
use Rattle.command_jobs.proofs.EndCauses.{by_epochs, by_policy, by_wire}
use Rattle.sincronia_cli.proofs.BeyondFacts.{Beyond, ScriptStops, alone_is_good, beyond_one, is_given, nothing_beyond, order_fault_short}
use Rattle.sincronia_cli.proofs.BeyondFacts.Beyond.{in_order, in_script, too_much, too_often}
use Rattle.sincronia_cli.proofs.BeyondFacts.ScriptStops.{bad_script, long_script}
use Rattle.command_jobs.proofs.PublishingFacts.{over_is}
use Rattle.command_files.proofs.GoodFacts.{HasNoFault, trace_is_good, weights_are_good}
use Rattle.sincronia_cli.proofs.CompleteFacts.{other_is_good, table_is_good, written_by}

-- ---- the status of a fault

abbrev of_trace : TraceFault → Status
of_trace (trace_fault.Limit line which count) = status.Limit which count
of_trace fault = status.BadTrace fault

abbrev of_weights : WeightsFault → Status
of_weights (weights_fault.Limit line which count) = status.Limit which count
of_weights fault = status.BadWeights fault

-- ---- why one step ends with a status

data TraceStops (text : List ℕ) (s : Status) : Type 0 where
  long_trace : IsTooLong text → s ≡ status.Limit quantity.Text (MAX_TEXT + 1) → TraceStops text s
  bad_trace : (f : TraceFault) → HasTraceFault text f → s ≡ of_trace f → TraceStops text s

data WeightsStop (file : Option (List ℕ)) (coflows : List CoflowLine) (s : Status) : Type 0 where
  long_weights : AreTooLong file → s ≡ status.Limit quantity.Text (MAX_TEXT + 1) → WeightsStop file coflows s
  bad_weights : (f : WeightsFault) → IsFaultOf file coflows f → s ≡ of_weights f → WeightsStop file coflows s

data TableStops (trace : Trace) (unit : ℕ) (s : Status) : Type 0 where
  over : (which : Quantity) (count : ℕ) → ExceedsLimit trace unit which count → s ≡ status.Limit which count → TableStops trace unit s

-- the report of this job, its printed journal or its order
data ReportStops (k : Job) (report : Option (List ℕ)) (s : Status) : Type 0 where
  long_report : IsLongReport (most_bytes k) report → s ≡ status.Limit quantity.Text (most_bytes k + 1) → ReportStops k report s
  bad_report : (line : ℕ) → IsBadReport (IsBadFor k) report line → s ≡ status.BadReport line → ReportStops k report s

-- ---- each step has one

trace_one : (text : List ℕ) (a b : Status) → TraceStops text a → TraceStops text b → a ≡ b
trace_one text a b (long_trace x e) (long_trace y f) = e ∙ sym f
trace_one text a b (long_trace x e) (bad_trace g h f) = absurd (omega (arith, x, h.short))
trace_one text a b (bad_trace g h f) (long_trace x e) = absurd (omega (arith, x, h.short))
trace_one text a b (bad_trace g h e) (bad_trace k l f) =
    let same : Some g ≡ Some k = sym h.first ∙ l.first in
    let one : g ≡ k = cc in
    e ∙ ap of_trace one ∙ sym f

weights_stop_one : (file : Option (List ℕ)) (coflows : List CoflowLine) (a b : Status) → WeightsStop file coflows a → WeightsStop file coflows b → a ≡ b
weights_stop_one None coflows a b (long_weights x e) y = absurd x
weights_stop_one None coflows a b (bad_weights g h e) y = absurd h
weights_stop_one (Some text) coflows a b (long_weights x e) (long_weights y f) = e ∙ sym f
weights_stop_one (Some text) coflows a b (long_weights x e) (bad_weights g (short, first) f) = absurd (omega (arith, x, short))
weights_stop_one (Some text) coflows a b (bad_weights g (short, first) f) (long_weights x e) = absurd (omega (arith, x, short))
weights_stop_one (Some text) coflows a b (bad_weights g (short, first) e) (bad_weights k (low, is) f) =
    let same : Some g ≡ Some k = sym first ∙ is in
    let one : g ≡ k = cc in
    e ∙ ap of_weights one ∙ sym f

table_one : (trace : Trace) (unit : ℕ) (a b : Status) → TableStops trace unit a → TableStops trace unit b → a ≡ b
table_one trace unit a b (over v m (inl (v_is, (many, m_is))) e) (over w n (inl (w_is, (more, n_is))) f) =
    let which : v ≡ w = v_is ∙ sym w_is in
    let count : m ≡ n = m_is ∙ sym n_is in
    e ∙ rw (which, count) (sym f)
table_one trace unit a b (over v m (inr (v_is, (few, m_is, long))) e) (over w n (inr (w_is, (less, n_is, many))) f) =
    let which : v ≡ w = v_is ∙ sym w_is in
    let count : m ≡ n = m_is ∙ sym n_is in
    e ∙ rw (which, count) (sym f)
table_one trace unit a b (over v m (inl (v_is, (many, m_is))) e) (over w n (inr (w_is, (few, n_is, long))) f) = absurd (omega (arith, many, few))
table_one trace unit a b (over v m (inr (v_is, (few, m_is, long))) e) (over w n (inl (w_is, (many, n_is))) f) = absurd (omega (arith, many, few))

report_one : (k : Job) (report : Option (List ℕ)) (a b : Status) → ReportStops k report a → ReportStops k report b → a ≡ b
report_one k None a b (long_report x e) y = absurd x
report_one k None a b (bad_report m x e) y = absurd x
report_one k (Some text) a b (long_report x e) (long_report y f) = e ∙ sym f
report_one k (Some text) a b (long_report x e) (bad_report m (short, bad) f) = absurd (omega (arith, x, short, bad_bytes k text m bad))
report_one k (Some text) a b (bad_report m (short, bad) f) (long_report x e) = absurd (omega (arith, x, short, bad_bytes k text m bad))
report_one k (Some text) a b (bad_report m (short, bad) e) (bad_report n (low, wrong) f) =
    let one : m ≡ n = bad_line_one k text m n bad wrong in
    e ∙ ap (λ k. status.BadReport k) one ∙ sym f

-- ---- a step that has one does not go on

trace_ends : (text : List ℕ) (a : Status) → TraceStops text a → IsTraceText text → ⊥
trace_ends text a (long_trace x e) good = absurd (omega (arith, x, good.short))
trace_ends text a (bad_trace f h e) good = trace_is_good text f good h

weights_end : (file : Option (List ℕ)) (coflows : List CoflowLine) (list : List ℕ) (a : Status) → WeightsStop file coflows a → GiveWeights file coflows list → ⊥
weights_end None coflows list a (long_weights x e) good = x
weights_end (Some text) coflows list a (long_weights x e) (short, passes, is) = absurd (omega (arith, x, short))
weights_end file coflows list a (bad_weights f h e) good = weights_are_good file coflows list f good h

table_ends : (trace : List ℕ) (file : Option (List ℕ)) (unit : ℕ) (a : Status) → TableStops (trace_of trace) unit a → GiveTable trace file unit → ⊥
table_ends trace file unit a (over which count x e) good = good.fits which count x

report_ends : (k : Job) (report : Option (List ℕ)) (a : Status) → ReportStops k report a → HasNoFault (IsBadFor k) (most_bytes k) report → ⊥
report_ends k None a (long_report x e) good = x
report_ends k (Some text) a (long_report x e) good = good.fits quantity.Text (most_bytes k + 1) (refl, refl, x)
report_ends k report a (bad_report line x e) good = good.line line x

-- ---- the steps in turn; the last one is what the job finds beyond trace, weights, table and report, and this holds of its status

data Stops (k : Job) (trace : List ℕ) (file : Option (List ℕ)) (unit : ℕ) (report : Option (List ℕ)) (More : Status → Type 0) (s : Status) : Type 0 where
  at_trace : TraceStops trace s → Stops k trace file unit report More s
  at_weights : IsTraceText trace → WeightsStop file (trace_of trace).coflows s → Stops k trace file unit report More s
  at_table : IsTraceText trace → (list : List ℕ) → GiveWeights file (trace_of trace).coflows list → TableStops (trace_of trace) unit s → Stops k trace file unit report More s
  at_report : GiveTable trace file unit → ReportStops k report s → Stops k trace file unit report More s
  beyond : GiveTable trace file unit → HasNoFault (IsBadFor k) (most_bytes k) report → More s → Stops k trace file unit report More s
  at_end : GiveTable trace file unit → HasNoFault (IsBadFor k) (most_bytes k) report → ((t : Status) → More t → ⊥) → s ≡ status.Ok → Stops k trace file unit report More s

module _ (k : Job) (trace : List ℕ) (file : Option (List ℕ)) (unit : ℕ) (report : Option (List ℕ)) (More : Status → Type 0) (one : (a b : Status) → More a → More b → a ≡ b) where
  abbrev coflows : List CoflowLine
  coflows = (trace_of trace).coflows

  stops_one : (a b : Status) → Stops k trace file unit report More a → Stops k trace file unit report More b → a ≡ b
  stops_one a b (at_trace x) (at_trace y) = trace_one trace a b x y
  stops_one a b (at_trace x) (at_weights text y) = absurd (trace_ends trace a x text)
  stops_one a b (at_trace x) (at_table text list give y) = absurd (trace_ends trace a x text)
  stops_one a b (at_trace x) (at_report table y) = absurd (trace_ends trace a x table.gives.trace_text)
  stops_one a b (at_trace x) (beyond table good y) = absurd (trace_ends trace a x table.gives.trace_text)
  stops_one a b (at_trace x) (at_end table good few y) = absurd (trace_ends trace a x table.gives.trace_text)
  stops_one a b (at_weights text x) (at_trace y) = absurd (trace_ends trace b y text)
  stops_one a b (at_weights text x) (at_weights again y) = weights_stop_one file coflows a b x y
  stops_one a b (at_weights text x) (at_table again list give y) = absurd (weights_end file coflows list a x give)
  stops_one a b (at_weights text x) (at_report table y) = absurd (weights_end file coflows table.list a x table.gives.weights_are)
  stops_one a b (at_weights text x) (beyond table good y) = absurd (weights_end file coflows table.list a x table.gives.weights_are)
  stops_one a b (at_weights text x) (at_end table good few y) = absurd (weights_end file coflows table.list a x table.gives.weights_are)
  stops_one a b (at_table text list give x) (at_trace y) = absurd (trace_ends trace b y text)
  stops_one a b (at_table text list give x) (at_weights again y) = absurd (weights_end file coflows list b y give)
  stops_one a b (at_table text list give x) (at_table again other gives y) = table_one (trace_of trace) unit a b x y
  stops_one a b (at_table text list give x) (at_report table y) = absurd (table_ends trace file unit a x table)
  stops_one a b (at_table text list give x) (beyond table good y) = absurd (table_ends trace file unit a x table)
  stops_one a b (at_table text list give x) (at_end table good few y) = absurd (table_ends trace file unit a x table)
  stops_one a b (at_report table x) (at_trace y) = absurd (trace_ends trace b y table.gives.trace_text)
  stops_one a b (at_report table x) (at_weights text y) = absurd (weights_end file coflows table.list b y table.gives.weights_are)
  stops_one a b (at_report table x) (at_table text list give y) = absurd (table_ends trace file unit b y table)
  stops_one a b (at_report table x) (at_report again y) = report_one k report a b x y
  stops_one a b (at_report table x) (beyond again good y) = absurd (report_ends k report a x good)
  stops_one a b (at_report table x) (at_end again good few y) = absurd (report_ends k report a x good)
  stops_one a b (beyond table good x) (at_trace y) = absurd (trace_ends trace b y table.gives.trace_text)
  stops_one a b (beyond table good x) (at_weights text y) = absurd (weights_end file coflows table.list b y table.gives.weights_are)
  stops_one a b (beyond table good x) (at_table text list give y) = absurd (table_ends trace file unit b y table)
  stops_one a b (beyond table good x) (at_report again y) = absurd (report_ends k report b y good)
  stops_one a b (beyond table good x) (beyond again fine y) = one a b x y
  stops_one a b (beyond table good x) (at_end again fine few y) = absurd (few a x)
  stops_one a b (at_end table good few x) (at_trace y) = absurd (trace_ends trace b y table.gives.trace_text)
  stops_one a b (at_end table good few x) (at_weights text y) = absurd (weights_end file coflows table.list b y table.gives.weights_are)
  stops_one a b (at_end table good few x) (at_table text list give y) = absurd (table_ends trace file unit b y table)
  stops_one a b (at_end table good few x) (at_report again y) = absurd (report_ends k report b y good)
  stops_one a b (at_end table good few x) (beyond again fine y) = absurd (few b y)
  stops_one a b (at_end table good few x) (at_end again fine fewer y) = x ∙ sym y

-- ---- a first cause is one of them

by_trace : (f : TraceFault) → IsTraceForm f → of_trace f ≡ status.BadTrace f
by_trace trace_fault.BadHeader form = refl
by_trace (trace_fault.BadLine line field) form = refl
by_trace (trace_fault.Missing have want) form = refl
by_trace (trace_fault.Extra line) form = refl
by_trace (trace_fault.DuplicateId line id) form = refl
by_trace (trace_fault.PortRange line port) form = refl
by_trace (trace_fault.Limit line which count) form = absurd form
by_trace trace_fault.NoMemory form = refl

by_weights : (f : WeightsFault) → IsWeightsForm f → of_weights f ≡ status.BadWeights f
by_weights (weights_fault.BadLine line field) form = refl
by_weights (weights_fault.UnknownId line id) form = refl
by_weights (weights_fault.DuplicateId line id) form = refl
by_weights (weights_fault.Limit line which count) form = absurd form
by_weights weights_fault.NoMemory form = refl

by_limit : (k : Job) (trace : List ℕ) (file : Option (List ℕ)) (unit : ℕ) (report : Option (List ℕ)) (More : Status → Type 0) (which : Quantity) (count : ℕ) →
    LimitCause trace file unit which count → Stops k trace file unit report More (status.Limit which count)
by_limit k trace file unit report More which count (in_trace (inl (is, told, long))) = at_trace (long_trace long (rw (is, told) refl))
by_limit k trace file unit report More which count (in_trace (inr (line, bad))) = at_trace (bad_trace _ bad refl)
by_limit k trace file unit report More which count (in_weights text (inl (is, told, long))) = at_weights text (long_weights long (rw (is, told) refl))
by_limit k trace file unit report More which count (in_weights text (inr (line, bad))) = at_weights text (bad_weights _ bad refl)
by_limit k trace file unit report More which count (in_table text list give cause) = at_table text list give (over which count cause refl)

stops_of : (bench : List Meaning) (words : List Text) (said : Said) (t : Told) (s : Status) → IsOfFiles words said → IsFirstCause bench said t s →
    Stops said.job (bytes_of t (trace_name said.job)) (bytes_if t said.weights) said.unit (bytes_if t (report_name said.job)) (Beyond bench said t) s
stops_of bench words said t (status.BadTrace f) is (form, bad) = at_trace (bad_trace f bad (sym (by_trace f form)))
stops_of bench words said t (status.BadWeights f) is (form, (text, bad)) = at_weights text (bad_weights f bad (sym (by_weights f form)))
stops_of bench words said t (status.BadReport line) is (table, bad) = at_report table (bad_report line bad refl)
stops_of bench words said t (status.BadScript line field) is (x, bad) =
    let stops : ScriptStops x.given.table.ids (bytes_if t (script_name said.job)) (status.BadScript line field) = bad_script (script_fault.Bad line field) bad refl in
    beyond x.given (alone_is_good said t (is_given bench said t (script_name said.job) x.given.table.ids (status.BadScript line field) stops)) (in_script x stops)
stops_of bench words said t (status.BadOrder f) is (form, (g, bad)) = beyond g (order_fault_short bench said t g.table.ids f bad) (in_order g f bad refl)
stops_of bench words said t (status.Limit which count) is (inr (epochs, many)) = by (over_is bench said t said.job count many)
  where
    by : ((trace : List ℕ) × (said.job ≡ online_job trace) × FilesPublishMore said count t)
        ⊎ (((trace : List ℕ) × (said.job ≡ replay_job trace) × ReplaysPublishMore bench said count t)
        ⊎ ((trace : List ℕ) × (policy : List ℕ) × (said.job ≡ record_job trace policy) × RecordPublishesMore bench policy said count t)) →
        Stops said.job (bytes_of t (trace_name said.job)) (bytes_if t said.weights) said.unit (bytes_if t (report_name said.job)) (Beyond bench said t)
        (status.Limit which count)
    by (inl (trace, same, more)) =
        beyond more.given (other_is_good said t (online_job trace) same more.given) (too_often count many (ap (λ w. status.Limit w count) epochs))
    by (inr (inl (trace, same, more))) =
        beyond more.given (other_is_good said t (replay_job trace) same more.given) (too_often count many (ap (λ w. status.Limit w count) epochs))
    by (inr (inr (trace, policy, same, more))) =
        beyond more.given (other_is_good said t (record_job trace policy) same more.given) (too_often count many (ap (λ w. status.Limit w count) epochs))
stops_of bench words said t (status.Limit which count) is (inl (in_input cause)) = by_limit said.job _ _ said.unit _ _ which count cause
stops_of bench words said t (status.Limit which count) is (inl (in_report table (text, told, long))) = at_report table (long_report long (rw (text, told) refl))
stops_of bench words said t (status.Limit which count) is (inl (in_shared given table units more)) =
    beyond table (alone_is_good said t given) (too_much given table count more (ap (λ w. status.Limit w count) units))
stops_of bench words said t (status.Limit which count) is (inl (in_script_of x (inl (text, told, long)))) =
    let stops : ScriptStops x.given.table.ids (bytes_if t (script_name said.job)) (status.Limit which count) = long_script long (rw (text, told) refl) in
    beyond x.given (alone_is_good said t (is_given bench said t (script_name said.job) x.given.table.ids (status.Limit which count) stops)) (in_script x stops)
stops_of bench words said t (status.Limit which count) is (inl (in_script_of x (inr bad))) =
    let stops : ScriptStops x.given.table.ids (bytes_if t (script_name said.job)) (status.Limit which count) = bad_script (script_fault.Limit which count) bad refl in
    beyond x.given (alone_is_good said t (is_given bench said t (script_name said.job) x.given.table.ids (status.Limit which count) stops)) (in_script x stops)
stops_of bench words said t status.Ok is good =
    at_end (table_is_good said t said.job is.reads good.0) (other_is_good said t said.job refl good.0) (nothing_beyond bench said t good.0 good.1) refl
stops_of bench words said t status.No is cause = absurd cause
stops_of bench words said t status.Usage is cause = absurd cause
stops_of bench words said t status.UnknownPolicy is cause = absurd cause
stops_of bench words said t (status.ReadFault count) is cause = absurd cause
stops_of bench words said t (status.WriteFault count) is cause = absurd cause
stops_of bench words said t (status.WireFault port count) is cause = absurd cause
stops_of bench words said t status.NoMemory is cause = absurd cause

pub first_cause_one : (bench : List Meaning) (words : List Text) (said : Said) (t : Told) (a b : Status) → IsOfFiles words said → IsFirstCause bench said t a →
    IsFirstCause bench said t b → a ≡ b
first_cause_one bench words said t a b is x y = stops_one said.job _ _ _ _ (Beyond bench said t) (beyond_one bench said t) a b (stops_of bench words said t a is x)
    (stops_of bench words said t b is y)

-- ---- so a command that reads files ends by it

by_cause : (bench : List Meaning) (words : List Text) (said : Said) (t : Told) (s cause : Status) → IsOfFiles words said → IsFirstCause bench said t s →
    IsFirstCause bench said t cause →
    EndsBy said.job s s → EndsBy said.job cause s ⊎ IsInterrupted s
by_cause bench words said t s cause is this x ends = inl (subst (λ (c : Status). EndsBy said.job c s) (first_cause_one bench words said t s cause is this x) ends)

files_end_by : (bench : List Meaning) (words : List Text) (said : Said) (before now : ℕ) (t : Told) (new : Option Told) (s cause : Status) → IsOfFiles words said →
    HasFilesCause before now (Some t) new said s → IsFirstCause bench said t cause → EndsBy said.job cause s ⊎ IsInterrupted s
files_end_by bench words said before now t new (status.BadTrace f) cause is why x = by_cause bench words said t (status.BadTrace f) cause is why x refl
files_end_by bench words said before now t new (status.BadWeights f) cause is why x = by_cause bench words said t (status.BadWeights f) cause is why x refl
files_end_by bench words said before now t new (status.BadReport line) cause is why x = by_cause bench words said t (status.BadReport line) cause is why.2 x refl
files_end_by bench words said before now t new (status.BadScript line field) cause is why x = by_cause bench words said t (status.BadScript line field) cause is why.1 x refl
files_end_by bench words said before now t new (status.BadOrder f) cause is why x = by_cause bench words said t (status.BadOrder f) cause is (why.0, why.2) x refl
files_end_by bench words said before now t new (status.Limit which count) cause is why x = by_cause bench words said t (status.Limit which count) cause is (inl why.1) x refl
files_end_by bench words said before now t new (status.ReadFault count) cause is why x = inr tt
files_end_by bench words said before now t new status.NoMemory cause is why x = inr tt
files_end_by bench words said before now t new status.Ok cause is why x = absurd why
files_end_by bench words said before now t new status.No cause is why x = absurd why
files_end_by bench words said before now t new status.Usage cause is why x = absurd why
files_end_by bench words said before now t new status.UnknownPolicy cause is why x = absurd why
files_end_by bench words said before now t new (status.WriteFault count) cause is why x = absurd why
files_end_by bench words said before now t new (status.WireFault port count) cause is why x = absurd why

-- where the files are good the job was interrupted, or it publishes too many orders
abbrev Goes : List Meaning → Option Told → Said → Job → Status → Type 0
Goes bench old said k s = IsInterrupted s ⊎ ((count : ℕ) × (s ≡ status.Limit quantity.Epochs count) × IfSome old (PublishesOver bench k said count))

of_files : (F : ℕ → Service → Type 0) (bench : List Meaning) (k : Job) (before now : ℕ) (old new : Option Told) (said : Said) (s : Status) → ReadsFiles k →
    HasPolicy bench k → CauseBy F bench k before now old new said s → HasFilesCause before now old new said s ⊎ Goes bench old said k s
of_files F bench (plan_job trace) before now old new said s reads known (inl why) = inl why
of_files F bench (plan_job trace) before now old new said s reads known (inr why) =
    let (port, count, is, p) = by_wire (λ port. Serves (F port) (plan_job trace) old said) s why in
    inr (inl (subst IsInterrupted (sym is) tt))
of_files F bench (online_job trace) before now old new said s reads known (inl why) = inl why
of_files F bench (online_job trace) before now old new said s reads known (inr (inl why)) =
    let (port, count, is, p) = by_wire (λ port. Serves (F port) (online_job trace) old said) s why in
    inr (inl (subst IsInterrupted (sym is) tt))
of_files F bench (online_job trace) before now old new said s reads known (inr (inr why)) = inr (inr (by_epochs (λ count. IfSome old (FilesPublishMore said count)) s why))
of_files F bench (replay_job trace) before now old new said s reads known (inl why) = inl why
of_files F bench (replay_job trace) before now old new said s reads known (inr why) = inr (inr (by_epochs (λ count. IfSome old (ReplaysPublishMore bench said count)) s why))
of_files F bench (record_job trace policy) before now old new said s reads known (inl why) = inl why
of_files F bench (record_job trace policy) before now old new said s reads known (inr (inl why)) =
    inr (inr (by_epochs (λ count. IfSome old (RecordPublishesMore bench policy said count)) s why))
of_files F bench (record_job trace policy) before now old new said s reads known (inr (inr why)) = absurd (known (by_policy (LacksPolicy bench (record_job trace policy)) s why).1)
of_files F bench (live_job trace script) before now old new said s reads known (inl why) = inl why
of_files F bench (live_job trace script) before now old new said s reads known (inr why) =
    let (port, count, is, p) = by_wire (λ port. Serves (F port) (live_job trace script) old said) s why in
    inr (inl (subst IsInterrupted (sym is) tt))
of_files F bench (check_job trace report) before now old new said s reads known why = inl why
of_files F bench (make_job seed) before now old new said s reads known why = absurd reads
of_files F bench (compare_job trace) before now old new said s reads known why = inl why
of_files F bench (classes_job trace) before now old new said s reads known why = inl why
of_files F bench (serve_job trace order) before now old new said s reads known why = inl why
of_files F bench (audit_job trace journal) before now old new said s reads known why = inl why

pub first_ends : (F : ℕ → Service → Type 0) (bench : List Meaning) (words : List Text) (by said : Said) (before now : ℕ) (old new : Option Told) (s cause : Status) →
    IsWords words by →
    IsOfFiles words said → HasPolicy bench said.job → HasCauseOf F bench before now old new by s → IsSomeAnd old (λ t. IsFirstCause bench said t cause) →
    EndsBy said.job cause s ⊎ IsInterrupted s
first_ends F bench words by said before now old new s cause read is known why x = go old here x
  where
    here : HasFilesCause before now old new said s ⊎ Goes bench old said said.job s
    here =
        of_files F bench said.job before now old new said s is.reads known
        (subst (λ (y : Said). HasCauseOf F bench before now old new y s) (words_one words by said read is.words_say) why)

    go : (told : Option Told) → HasFilesCause before now told new said s ⊎ Goes bench told said said.job s → IsSomeAnd told (λ t. IsFirstCause bench said t cause) →
        EndsBy said.job cause s ⊎ IsInterrupted s
    go None why x = absurd x
    go (Some t) (inl why) x = files_end_by bench words said before now t new s cause is why x
    go (Some t) (inr (inl interrupted)) x = inr interrupted
    go (Some t) (inr (inr (count, same, many))) x =
        subst (λ (y : Status). EndsBy said.job cause y ⊎ IsInterrupted y) (sym same)
        (by_cause bench words said t (status.Limit quantity.Epochs count) cause is (inr (refl, many)) x refl)

pub text_ends : (S : TableFacts → List (List ℕ) → Type 0) (words : List Text) (by said : Said) (old : Option Told) (bench : List Meaning) (s cause : Status) (text : List ℕ) →
    IsWords words by → IsOfFiles words said → IfSome old (HasGoodFiles by.job by) → IfSome old (PublishesFew bench by.job by) → IsOutcome S old by bench s text →
    IsSomeAnd old (λ t. IsFirstCause bench said t cause) →
    EndsBy said.job cause s ⊎ IsInterrupted s
text_ends S words by said old bench s cause text read is good few outcome x =
    go old (subst (λ (y : Said). IfSome old (HasGoodFiles y.job y)) same good) (subst (λ (y : Said). IfSome old (PublishesFew bench y.job y)) same few) x
  where
    same : by ≡ said
    same = words_one words by said read is.words_say

    ends : EndsWell said.job s
    ends = written_by S said.job old said bench s text (subst (λ (y : Said). IsOutcome S old y bench s text) same outcome)

    go : (told : Option Told) → IfSome told (HasGoodFiles said.job said) → IfSome told (PublishesFew bench said.job said) →
        IsSomeAnd told (λ t. IsFirstCause bench said t cause) → EndsBy said.job cause s ⊎ IsInterrupted s
    go None good few x = absurd x
    go (Some t) good few x =
        let one : status.Ok ≡ cause = first_cause_one bench words said t status.Ok cause is (good, few) x in
        inl (subst (λ (c : Status). EndsBy said.job c s) one ends)
