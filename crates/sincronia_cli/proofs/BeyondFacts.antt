-- What a job finds beyond trace, weights, table and report: too many orders of an online run or of a replay, too many units to be shared live, or the first fault of a script or
-- of a given order. It finds one.
use Rattle.std.proofs.Common.{◌≡◌, ℕ, ◌+◌, inl, inr, List, Option, Some, None, refl, sym, subst, ◌∙◌, ap, arith}
use Rattle.coflow_units.specs.declared.fabric.Flow.{Flow}
use Rattle.coflow_units.specs.declared.limits.TheConstants.{MAX_TEXT}
use Rattle.coflow_units.specs.declared.quantity.Quantity.TheVariants as quantity
use Rattle.std.specs.Prelude.{◌⊎◌, sum_by}
use Rattle.command_words.specs.Jobs.{Job, order_name, report_name, script_name, trace_name}
use Rattle.command_words.specs.Jobs.Job.{audit_job, check_job, classes_job, compare_job, live_job, make_job, online_job, plan_job, record_job, replay_job, serve_job}
use Rattle.command_words.specs.Words.{Said}
use Rattle.flow_table.specs.Sent.{sent}
use Rattle.flow_table.proofs.FlowsOne.{flows_one}
use Rattle.orders.specs.declared.fault.OrderFault.{OrderFault}
use Rattle.outside.specs.Shelf.{Told, bytes_of}
use Rattle.rankers.specs.Meaning.{Meaning}
use Rattle.workload.specs.declared.fault.ScriptFault.{ScriptFault}
use Rattle.workload.specs.declared.fault.ScriptFault.TheVariants as script_fault
use Rattle.trace_reader.specs.Trace.{trace_of}
use Rattle.command_files.specs.declared.status.Status.{Status}
use Rattle.command_files.specs.declared.status.Status.TheVariants as status
use Rattle.command_files.specs.Causes.{FilesGiveOrder, FilesGiveScript, FilesGiveShared, FilesGiveTable, IsGiven}
use Rattle.command_files.specs.Inputs.{bytes_if}
use Rattle.command_files.specs.Limits.{most_bytes}
use Rattle.command_files.specs.OrderCauses.{HasOrderFault}
use Rattle.command_files.specs.ScriptCauses.{HasScriptFault}
use Rattle.command_files.specs.Scripts.{HasMoreUnits, HasScriptText, table_units}
use Rattle.command_files.specs.WeightsCauses.{AreTooLong}
use Rattle.command_files.specs.JobCauses.{IsBadFor}
use Rattle.command_files.specs.GoodFiles.{HasGoodFiles}
use Rattle.command_jobs.specs.Online.{FilesPublishMore}
use Rattle.command_jobs.specs.Publishing.{PublishesFew, PublishesOver}
use Rattle.command_jobs.specs.Record.{RecordPublishesMore}
use Rattle.command_jobs.specs.Replay.{ReplaysPublishMore}
use Rattle.command_files.proofs.GoodFacts.{HasNoFault, order_is_good}
use Rattle.sincronia_cli.proofs.CompleteFacts.{no_report_of}
use Rattle.command_jobs.proofs.PublishingFacts.{over_is, over_one}

-- ---- the status of a fault of a script

abbrev pub of_script : ScriptFault → Status
of_script (script_fault.Bad line field) = status.BadScript line field
of_script (script_fault.Limit which count) = status.Limit which count
of_script script_fault.NoMemory = status.NoMemory

pub data ScriptStops (ids : List ℕ) (script : Option (List ℕ)) (s : Status) : Type 0 where
  long_script : AreTooLong script → s ≡ status.Limit quantity.Text (MAX_TEXT + 1) → ScriptStops ids script s
  bad_script : (f : ScriptFault) → HasScriptFault ids script f → s ≡ of_script f → ScriptStops ids script s

script_one : (ids : List ℕ) (script : Option (List ℕ)) (a b : Status) → ScriptStops ids script a → ScriptStops ids script b → a ≡ b
script_one ids None a b (long_script x e) y = absurd x
script_one ids None a b (bad_script g h e) y = absurd h
script_one ids (Some text) a b (long_script x e) (long_script y f) = e ∙ sym f
script_one ids (Some text) a b (long_script x e) (bad_script g (short, first) f) = absurd (omega (arith, x, short))
script_one ids (Some text) a b (bad_script g (short, first) f) (long_script x e) = absurd (omega (arith, x, short))
script_one ids (Some text) a b (bad_script g (short, first) e) (bad_script k (low, is) f) =
    let same : Some g ≡ Some k = sym first ∙ is in
    let one : g ≡ k = cc in
    e ∙ ap of_script one ∙ sym f

no_script : (ids : List ℕ) (s : Status) → ScriptStops ids None s → ⊥
no_script ids s (long_script x e) = x
no_script ids s (bad_script f x e) = x

script_ends : (ids : List ℕ) (script : Option (List ℕ)) (s : Status) → ScriptStops ids script s → HasScriptText ids script → ⊥
script_ends ids None s x good = no_script ids s x
script_ends ids (Some text) s (long_script x e) good = absurd (omega (arith, x, good.short))
script_ends ids (Some text) s (bad_script f (short, first) e) good = let clash : None ≡ Some f = sym good.passes ∙ first in cc

-- ---- what a job finds

pub data Beyond (bench : List Meaning) (said : Said) (t : Told) (s : Status) : Type 0 where
  too_often : (count : ℕ) → PublishesOver bench said.job said count t → s ≡ status.Limit quantity.Epochs count → Beyond bench said t s
  too_much : IsGiven (script_name said.job) → (g : FilesGiveTable said t) → (count : ℕ) → HasMoreUnits g.table count → s ≡ status.Limit quantity.Units count → Beyond bench said t s
  in_script : (x : FilesGiveShared said t) → ScriptStops x.given.table.ids (bytes_if t (script_name said.job)) s → Beyond bench said t s
  in_order : (g : FilesGiveTable said t) → (f : OrderFault) → HasOrderFault g.table.ids (bytes_if t (order_name said.job)) f → s ≡ status.BadOrder f → Beyond bench said t s

-- ---- only `serve` has an order

order_alone : (k : Job) → IsGiven (order_name k) → (trace name : List ℕ) × (k ≡ serve_job trace name)
order_alone (serve_job trace order) given = (trace, order, refl)
order_alone (plan_job trace) given = absurd given
order_alone (check_job trace report) given = absurd given
order_alone (make_job seed) given = absurd given
order_alone (compare_job trace) given = absurd given
order_alone (classes_job trace) given = absurd given
order_alone (audit_job trace journal) given = absurd given
order_alone (online_job trace) given = absurd given
order_alone (live_job trace script) given = absurd given
order_alone (replay_job trace) given = absurd given
order_alone (record_job trace policy) given = absurd given

fault_given : (t : Told) (name : Option (List ℕ)) (ids : List ℕ) (f : OrderFault) → HasOrderFault ids (bytes_if t name) f → IsGiven name
fault_given t None ids f bad = bad
fault_given t (Some name) ids f bad = tt

order_one : (ids : List ℕ) (file : Option (List ℕ)) (f g : OrderFault) → HasOrderFault ids file f → HasOrderFault ids file g → f ≡ g
order_one ids None f g bad wrong = absurd bad
order_one ids (Some text) f g (short, first) (low, is) = let same : Some f ≡ Some g = sym first ∙ is in cc

module _ (bench : List Meaning) (said : Said) (t : Told) where
  units_one : (a b : FilesGiveTable said t) → table_units a.table ≡ table_units b.table
  units_one a b =
      ap (λ (fs : List Flow). sum_by (λ (x : Flow). x.units) fs)
      (flows_one (sent (trace_of (bytes_of t (trace_name said.job))) said.unit) a.table.flows b.table.flows a.gives.table_is.flows b.gives.table_is.flows)

  ids_one : (a b : FilesGiveTable said t) → a.table.ids ≡ b.table.ids
  ids_one a b = a.gives.table_is.ids ∙ sym b.gives.table_is.ids

  -- an online run, a replay and a record have no script
  has_no_script : (count : ℕ) → PublishesOver bench said.job said count t → script_name said.job ≡ None
  has_no_script count over = none (over_is bench said t said.job count over)
    where
      none : ((trace : List ℕ) × (said.job ≡ online_job trace) × FilesPublishMore said count t)
          ⊎ (((trace : List ℕ) × (said.job ≡ replay_job trace) × ReplaysPublishMore bench said count t)
          ⊎ ((trace : List ℕ) × (policy : List ℕ) × (said.job ≡ record_job trace policy) × RecordPublishesMore bench policy said count t)) → script_name said.job ≡ None
      none (inl (trace, same, more)) = ap script_name same
      none (inr (inl (trace, same, more))) = ap script_name same
      none (inr (inr (trace, policy, same, more))) = ap script_name same

  over_given : (count : ℕ) → PublishesOver bench said.job said count t → IsGiven (script_name said.job) → ⊥
  over_given count over given = subst IsGiven (has_no_script count over) given

  over_script : (count : ℕ) (ids : List ℕ) (s : Status) → PublishesOver bench said.job said count t → ScriptStops ids (bytes_if t (script_name said.job)) s → ⊥
  over_script count ids s over stops =
      no_script ids s (subst (λ (n : Option (List ℕ)). ScriptStops ids (bytes_if t n) s) (has_no_script count over) stops)

  few_and_many : (a : FilesGiveTable said t) (count : ℕ) → HasMoreUnits a.table count → (x : FilesGiveShared said t) → ⊥
  few_and_many a count (is, many) x = absurd (omega (arith, many, x.shared, units_one a x.given))

  -- a job with an order has no script, and publishes no orders
  order_job : (ids : List ℕ) (f : OrderFault) → HasOrderFault ids (bytes_if t (order_name said.job)) f → (trace name : List ℕ) × (said.job ≡ serve_job trace name)
  order_job ids f bad = order_alone said.job (fault_given t (order_name said.job) ids f bad)

  order_or_script : (ids : List ℕ) (f : OrderFault) → HasOrderFault ids (bytes_if t (order_name said.job)) f → IsGiven (script_name said.job) → ⊥
  order_or_script ids f bad given = let (trace, name, same) = order_job ids f bad in subst (λ (k : Job). IsGiven (script_name k)) same given

  order_or_often : (ids : List ℕ) (f : OrderFault) (count : ℕ) → HasOrderFault ids (bytes_if t (order_name said.job)) f → PublishesOver bench said.job said count t → ⊥
  order_or_often ids f count bad over = let (trace, name, same) = order_job ids f bad in subst (λ (k : Job). PublishesOver bench k said count t) same over

  pub is_given : (n : Option (List ℕ)) (ids : List ℕ) (s : Status) → ScriptStops ids (bytes_if t n) s → IsGiven n
  is_given None ids s stops = no_script ids s stops
  is_given (Some name) ids s stops = tt

  pub beyond_one : (a b : Status) → Beyond bench said t a → Beyond bench said t b → a ≡ b
  beyond_one a b (too_often m over e) (too_often n beyond f) = e ∙ ap (λ c. status.Limit quantity.Epochs c) (over_one bench said t said.job m n over beyond) ∙ sym f
  beyond_one a b (too_often m over e) (too_much given g n more f) = absurd (over_given m over given)
  beyond_one a b (too_often m over e) (in_script x stops) = absurd (over_script m x.given.table.ids b over stops)
  beyond_one a b (too_much given g m more e) (too_often n over f) = absurd (over_given n over given)
  beyond_one a b (too_much given g m (m_is, many) e) (too_much again h n (n_is, more) f) =
      e ∙ ap (λ c. status.Limit quantity.Units c) (m_is ∙ units_one g h ∙ sym n_is) ∙ sym f
  beyond_one a b (too_much given g m more e) (in_script x stops) = absurd (few_and_many g m more x)
  beyond_one a b (in_script x stops) (too_often n over f) = absurd (over_script n x.given.table.ids a over stops)
  beyond_one a b (in_script x stops) (too_much given g n more f) = absurd (few_and_many g n more x)
  beyond_one a b (in_script x stops) (in_script y ends) =
      script_one x.given.table.ids (bytes_if t (script_name said.job)) a b stops
      (subst (λ (ids : List ℕ). ScriptStops ids (bytes_if t (script_name said.job)) b) (ids_one y.given x.given) ends)
  beyond_one a b (too_often m over e) (in_order g f bad is) = absurd (order_or_often g.table.ids f m bad over)
  beyond_one a b (too_much given h m more e) (in_order g f bad is) = absurd (order_or_script g.table.ids f bad given)
  beyond_one a b (in_script x stops) (in_order g f bad is) =
      absurd (order_or_script g.table.ids f bad (is_given (script_name said.job) x.given.table.ids a stops))
  beyond_one a b (in_order g f bad is) (too_often n over e) = absurd (order_or_often g.table.ids f n bad over)
  beyond_one a b (in_order g f bad is) (too_much given h n more e) = absurd (order_or_script g.table.ids f bad given)
  beyond_one a b (in_order g f bad is) (in_script x stops) =
      absurd (order_or_script g.table.ids f bad (is_given (script_name said.job) x.given.table.ids b stops))
  beyond_one a b (in_order g f bad is) (in_order h k wrong same) =
      let one : f ≡ k = order_one h.table.ids (bytes_if t (order_name said.job)) f k
      (subst (λ (ids : List ℕ). HasOrderFault ids (bytes_if t (order_name said.job)) f) (ids_one g h) bad) wrong in
      is ∙ ap (λ x. status.BadOrder x) one ∙ sym same

  -- ---- and nothing where its files are good, and it does not publish too many orders

  script_good : (k : Job) → HasGoodFiles k said t → IsGiven (script_name k) → FilesGiveScript said t
  script_good (live_job trace script) good given = good
  script_good (plan_job trace) good given = absurd given
  script_good (check_job trace report) good given = absurd given
  script_good (make_job seed) good given = absurd given
  script_good (compare_job trace) good given = absurd given
  script_good (classes_job trace) good given = absurd given
  script_good (serve_job trace order) good given = absurd given
  script_good (replay_job trace) good given = absurd given
  script_good (record_job trace policy) good given = absurd given
  script_good (audit_job trace journal) good given = absurd given
  script_good (online_job trace) good given = absurd given

  order_good : (k : Job) → HasGoodFiles k said t → IsGiven (order_name k) → FilesGiveOrder said t
  order_good k good given = let (trace, name, same) = order_alone k given in subst (λ (j : Job). HasGoodFiles j said t) same good

  pub nothing_beyond : HasGoodFiles said.job said t → PublishesFew bench said.job said t → (s : Status) → Beyond bench said t s → ⊥
  nothing_beyond good few s (too_often count over e) = few count over
  nothing_beyond good few s (too_much given g count more e) =
      let (shared, text) = script_good said.job good given in
      few_and_many g count more shared
  nothing_beyond good few s (in_script x stops) =
      let (shared, text) = script_good said.job good (is_given (script_name said.job) x.given.table.ids s stops) in
      script_ends x.given.table.ids (bytes_if t (script_name said.job)) s stops
      (subst (λ (ids : List ℕ). HasScriptText ids (bytes_if t (script_name said.job))) (ids_one shared.given x.given) text)
  nothing_beyond good few s (in_order g f bad e) =
      order_is_good said t (order_good said.job good (fault_given t (order_name said.job) g.table.ids f bad)) f (g, bad)

  -- an order with a fault is not too long, nor bad at a line
  pub order_fault_short : (ids : List ℕ) (f : OrderFault) → HasOrderFault ids (bytes_if t (order_name said.job)) f →
      HasNoFault (IsBadFor said.job) (most_bytes said.job) (bytes_if t (report_name said.job))
  order_fault_short ids f bad =
      let (trace, name, same) = order_job ids f bad in
      let (short, first) = subst (λ (k : Job). HasOrderFault ids (bytes_if t (order_name k)) f) same bad in
      subst (λ (k : Job). HasNoFault (IsBadFor k) (most_bytes k) (bytes_if t (report_name k))) (sym same) (record {
        line = λ n (low, wrong). wrong;
        fits = λ which count (is, told, long). absurd (omega (arith, short, long));
      })

-- where there is a script there is no report
script_alone : (k : Job) → IsGiven (script_name k) → report_name k ≡ None
script_alone (live_job trace script) given = refl
script_alone (plan_job trace) given = absurd given
script_alone (check_job trace report) given = absurd given
script_alone (make_job seed) given = absurd given
script_alone (compare_job trace) given = absurd given
script_alone (classes_job trace) given = absurd given
script_alone (serve_job trace order) given = absurd given
script_alone (replay_job trace) given = absurd given
script_alone (record_job trace policy) given = absurd given
script_alone (audit_job trace journal) given = absurd given
script_alone (online_job trace) given = absurd given

-- so none has a fault
pub alone_is_good : (said : Said) (t : Told) → IsGiven (script_name said.job) → HasNoFault (IsBadFor said.job) (most_bytes said.job) (bytes_if t (report_name said.job))
alone_is_good said t given = no_report_of said t said.job refl (script_alone said.job given)
