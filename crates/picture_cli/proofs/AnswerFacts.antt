-- What good files call for is one status, and the job ends by it.
use Rattle.std.proofs.Common.{◌≡◌, ℕ, ◌<◌, ◌≤◌, ◌^◌, ◌-◌, ◌∙◌, inl, inr, List, [], ◌∷◌, Option, Some, None, get_or, length, min, refl, sym, ap, subst, suc, arith}
use Rattle.std.specs.Prelude.{◌≢◌, ◌⊎◌, All, IfSome, IsSomeAnd, slice_index}
use Rattle.std.proofs.lemmas.List.Sums.{sum_by-cons}
use Rattle.cert_check.proofs.OneVerdict.{one_verdict}
use Rattle.cert_check.specs.declared.verdict.Verdict.TheVariants as verdict
use Rattle.coflow_units.specs.declared.fabric.Flow.{Flow}
use Rattle.flow_table.proofs.TablesOne.{tables_one}
use Rattle.flow_table.specs.Table.{TableFacts}
use Rattle.outside.specs.Shelf.{Told}
use Rattle.picture.proofs.RowLaws.{one_picture}
use Rattle.picture.specs.declared.value.Bar.{Bar}
use Rattle.picture.specs.declared.value.TheConstants.{MAX_BARS}
use Rattle.picture.specs.declared.value.Window.{Window}
use Rattle.picture.specs.Bars.{IsBar, IsBars, bar_count}
use Rattle.online_check.specs.declared.any_report.AnyReport.{AnyReport}
use Rattle.online_check.specs.declared.any_report.AnyReport.TheVariants.{Online, Plan}
use Rattle.online_check.specs.declared.verdict.OnlineVerdict.TheVariants as online_verdict
use Rattle.online_check.specs.AnyReport.{IsAnyBadAt}
use Rattle.online_check.specs.Arrivals.{arrivals_in}
use Rattle.online_check.proofs.OneOnline.{one_online_verdict}
use Rattle.online_check.proofs.OneReport.{any_text_one}
use Rattle.schedule_model.specs.RunList.{slots_in}
use Rattle.command_files.proofs.GoodFacts.{files_end, no_order, no_report, no_script, report_is_good}
use Rattle.command_files.proofs.InputFacts.{weights_one}
use Rattle.command_files.proofs.ShelfFacts.{if_some}
use Rattle.command_files.proofs.FileTurns.{done_in_turn}
use Rattle.command_files.specs.declared.status.Status.{Status}
use Rattle.command_files.specs.declared.status.Status.TheVariants as status
use Rattle.command_files.specs.Causes.{FilesGiveTable, HasCauseInFiles}
use Rattle.command_files.specs.Reports.{IsAnyReportOf}
use Rattle.command_files.specs.Ends.{IsStill, IsReadFault}
use Rattle.command_files.specs.Inputs.{IsInput, bytes_if}
use Rattle.command_files.specs.Shelves.{OfBoth, ReadsOut}
use Rattle.command_files.specs.Turns.{FilesInTurn}
use Rattle.picture_cli.proofs.PictureFacts.{cause_by}
use Rattle.picture_cli.specs.Complete.{AreGoodFiles, CallFor, CanBeDrawn, IsAnswer, IsPoliciesAnswer, IsReportAnswer}
use Rattle.picture_cli.specs.Drawn.{HasReportCause, job_for}
use Rattle.picture_cli.specs.Picture.{DrawsReport, HasNoPicture, HasVerdictCause, IsPlan, IsRight, IsWrong, Judged, ReportDrawn, check_of, slots_of, window_of}
use Rattle.picture_cli.specs.Policies.{Given, HasNoPolicies, compare_of}
use Rattle.picture_cli.specs.Words.{PictureSaid, PoliciesSaid, ReportSaid}
use Rattle.picture_cli.specs.Words.PictureSaid.{of_policies, of_report}
use Rattle.picture_cli.specs.declared.status.PictureStatus.{PictureStatus}
use Rattle.picture_cli.specs.declared.status.PictureStatus.TheVariants.{Ended, No, NoSlots, Ok, TooManyBars, Usage}

-- ---- the answer of a check is yes or no

apart : (t : TableFacts) (ws : List ℕ) (slot_ms : ℕ) (report : AnyReport) → IsRight t ws slot_ms report → IsWrong t ws slot_ms report → ⊥
apart t ws slot_ms (Plan r) holds (reason, other) = let e : verdict.Yes ≡ verdict.No reason = one_verdict t ws r verdict.Yes (verdict.No reason) holds other in cc
apart t ws slot_ms (Online o) sound (reason, first) =
    let e : online_verdict.Yes ≡ online_verdict.No reason =
    one_online_verdict t ws (slice_index (arrivals_in t slot_ms)) o online_verdict.Yes (online_verdict.No reason) sound first in cc

-- ---- files have one table, one report and one answer

module _ (said : ReportSaid) (t : Told) (U V : TableFacts → List ℕ → ℕ → AnyReport → Type 0) (a : Judged (Some t) said U) (b : Judged (Some t) said V) where
  pub one_table : a.table ≡ b.table
  one_table = tables_one _ said.unit a.table b.table a.input.table_fits b.input.table_fits a.input.gives.table_is b.input.gives.table_is

  pub one_list : a.list ≡ b.list
  one_list = weights_one (bytes_if t said.weights) _ a.list b.list a.input.gives.weights_are b.input.gives.weights_are

  pub one_report : a.report ≡ b.report
  one_report = any_text_one _ a.report b.report a.report_is.reads.1 b.report_is.reads.1

yes_or_no : (said : ReportSaid) (t : Told) → Judged (Some t) said IsRight → Judged (Some t) said IsWrong → ⊥
yes_or_no said t a b =
    apart a.table a.list said.slot_ms a.report a.answer_is
    (subst (λ (x : TableFacts). IsWrong x a.list said.slot_ms a.report) (sym (one_table said t IsRight IsWrong a b))
    (subst (λ (x : List ℕ). IsWrong b.table x said.slot_ms a.report) (sym (one_list said t IsRight IsWrong a b))
    (subst (λ (x : AnyReport). IsWrong b.table b.list said.slot_ms x) (sym (one_report said t IsRight IsWrong a b)) b.answer_is)))

module _ (said : ReportSaid) (t : Told) (a b : Judged (Some t) said IsRight) where
  report_is : a.report ≡ b.report
  report_is = one_report said t IsRight IsRight a b

  pub bars_of_both : (rows : List (List Bar)) → IsBars b.table.flows (slots_of b.report) b.table.ports (window_of said b.report) rows →
      IsBars a.table.flows (slots_of a.report) a.table.ports (window_of said a.report) rows
  bars_of_both rows is =
      subst (λ (x : AnyReport). IsBars a.table.flows (slots_of x) a.table.ports (window_of said x) rows) (sym report_is)
      (subst (λ (x : TableFacts). IsBars x.flows (slots_of b.report) x.ports (window_of said b.report) rows)
      (sym (one_table said t IsRight IsRight a b)) is)

  pub plan_of_both : IsPlan b.report → IsPlan a.report
  plan_of_both is = subst IsPlan (sym report_is) is

  pub last_is : (window_of said a.report).last ≡ (window_of said b.report).last
  last_is = ap (λ (x : AnyReport). (window_of said x).last) report_is

  pub slots_one : (f g l m : ℕ) → HasNoPicture a.table a.report said (NoSlots f l) → HasNoPicture b.table b.report said (NoSlots g m) → NoSlots f l ≡ NoSlots g m
  slots_one f g l m (fa, la, none) (fb, lb, empty) =
      let first : f ≡ g = fa ∙ sym fb in
      let last : l ≡ m = la ∙ last_is ∙ sym lb in
      λ i. NoSlots (first i) (last i)

  pub bars_one : (m n : ℕ) → HasNoPicture a.table a.report said (TooManyBars m) → HasNoPicture b.table b.report said (TooManyBars n) → TooManyBars m ≡ TooManyBars n
  bars_one m n (plan, (rows, is, many, m_is)) (other, (others, are, more, n_is)) =
      let same : rows ≡ others = one_picture a.table.flows (slots_of a.report) a.table.ports (window_of said a.report) rows others is (bars_of_both others are) in
      ap TooManyBars (m_is ∙ (ap (λ (xs : List (List Bar)). min (bar_count xs) (2 ^ 64 - 1)) same ∙ sym n_is))

-- ---- a window without slots has no bars

no_bar : (served : ℕ → ℕ → Type 0) (first last : ℕ) (row : List Bar) → last < first → All (IsBar served first last) row → row ≡ []
no_bar served first last [] lt all = refl
no_bar served first last (b ∷ bs) lt all = let is = all 0 b (omega arith) in absurd (omega (arith, lt, is.some, is.from, is.upto))

none_of_rows : (rows : List (List Bar)) → ((k : ℕ) → k < length rows → get_or rows k [] ≡ []) → bar_count rows ≡ 0
none_of_rows [] each = refl
none_of_rows (row ∷ rows) each =
    let here : length row ≡ 0 = ap (λ (xs : List Bar). length xs) (each 0 (omega arith)) in
    let others : bar_count rows ≡ 0 = none_of_rows rows (λ k lt. each (suc k) (omega arith)) in
    omega (arith, sum_by-cons (λ (xs : List Bar). length xs) row rows, here, others)

no_bars_at_all : (flows : List Flow) (slots : List (List ℕ)) (ports : ℕ) (w : Window) (rows : List (List Bar)) → w.last < w.first → IsBars flows slots ports w rows →
    bar_count rows ≡ 0
no_bars_at_all flows slots ports w rows lt is =
    none_of_rows rows (λ k l. no_bar _ w.first w.last (get_or rows k []) lt (is.row k (omega (arith, l, is.row_each))).bars)

-- ---- what was drawn has a slot, and no more bars than a picture may have

abbrev Fits : TableFacts → AnyReport → ReportSaid → Type 0
Fits t report said = ((window_of said report).first ≤ (window_of said report).last) × (IsPlan report → (rows : List (List Bar)) →
    IsBars t.flows (slots_of report) t.ports (window_of said report) rows → bar_count rows ≤ MAX_BARS)

fits_by : (t : TableFacts) (ws : List ℕ) (report : AnyReport) (said : ReportSaid) (text : List ℕ) → DrawsReport t ws report said text → Fits t report said
fits_by t ws (Online o) said text d = (omega (arith, d.shows.some, d.shows.first_is, d.shows.last_is), λ plan. absurd plan)
fits_by t ws (Plan r) said text d =
    let slots = slots_in r.runs in
    let window : Window = window_of said (Plan r) in (
      subst (λ (w : Window). w.first ≤ w.last) d.shows.window_is d.shows.some,
      λ plan rows is.
          let same : rows ≡ d.picture.rows =
          one_picture t.flows slots t.ports window rows d.picture.rows is (subst (λ (w : Window). IsBars t.flows slots t.ports w d.picture.rows) d.shows.window_is d.shows.bars) in
          subst (λ (xs : List (List Bar)). bar_count xs ≤ MAX_BARS) (sym same) d.shows.few,
    )

-- ---- one status

module _ (said : ReportSaid) (t : Told) where
  slots_or_bars : (first last bars : ℕ) (a b : Judged (Some t) said IsRight) → HasNoPicture a.table a.report said (NoSlots first last) →
      HasNoPicture b.table b.report said (TooManyBars bars) → ⊥
  slots_or_bars first last bars a b (f, l, none) (plan, (rows, is, many, bars_is)) =
      let empty : (window_of said a.report).last < said.from = omega (arith, f, l, none) in
      let count = no_bars_at_all a.table.flows (slots_of a.report) a.table.ports (window_of said a.report) rows empty (bars_of_both said t a b rows is) in
      absurd (omega (arith, many, count))

  drawn_or_slots : (first last : ℕ) (c : CanBeDrawn said t) (b : Judged (Some t) said IsRight) → HasNoPicture b.table b.report said (NoSlots first last) → ⊥
  drawn_or_slots first last c b (f, l, none) = absurd (omega (arith, c.some, last_is said t c.judged b, f, l, none))

  drawn_or_bars : (bars : ℕ) (c : CanBeDrawn said t) (b : Judged (Some t) said IsRight) → HasNoPicture b.table b.report said (TooManyBars bars) → ⊥
  drawn_or_bars bars c b (plan, (rows, is, many, bars_is)) =
      absurd (omega (arith, many, c.few (plan_of_both said t c.judged b plan) rows (bars_of_both said t c.judged b rows is)))

  report_answers_one : (a b : PictureStatus) → IsReportAnswer said t a → IsReportAnswer said t b → a ≡ b
  report_answers_one Usage b x y = absurd x
  report_answers_one (Ended s) b x y = absurd x
  report_answers_one Ok Usage x y = absurd y
  report_answers_one Ok (Ended s) x y = absurd y
  report_answers_one Ok Ok x y = refl
  report_answers_one Ok No x y = absurd (yes_or_no said t x.judged y)
  report_answers_one Ok (NoSlots first last) x (j, y) = absurd (drawn_or_slots first last x j y)
  report_answers_one Ok (TooManyBars bars) x (j, y) = absurd (drawn_or_bars bars x j y)
  report_answers_one No Usage x y = absurd y
  report_answers_one No (Ended s) x y = absurd y
  report_answers_one No Ok x y = absurd (yes_or_no said t y.judged x)
  report_answers_one No No x y = refl
  report_answers_one No (NoSlots first last) x (j, y) = absurd (yes_or_no said t j x)
  report_answers_one No (TooManyBars bars) x (j, y) = absurd (yes_or_no said t j x)
  report_answers_one (NoSlots f l) Usage x y = absurd y
  report_answers_one (NoSlots f l) (Ended s) x y = absurd y
  report_answers_one (NoSlots f l) Ok (j, x) y = absurd (drawn_or_slots f l y j x)
  report_answers_one (NoSlots f l) No (j, x) y = absurd (yes_or_no said t j y)
  report_answers_one (NoSlots f l) (NoSlots g m) (j, x) (k, y) = slots_one said t j k f g l m x y
  report_answers_one (NoSlots f l) (TooManyBars n) (j, x) (k, y) = absurd (slots_or_bars f l n j k x y)
  report_answers_one (TooManyBars m) Usage x y = absurd y
  report_answers_one (TooManyBars m) (Ended s) x y = absurd y
  report_answers_one (TooManyBars m) Ok (j, x) y = absurd (drawn_or_bars m y j x)
  report_answers_one (TooManyBars m) No (j, x) y = absurd (yes_or_no said t j y)
  report_answers_one (TooManyBars m) (NoSlots f l) (j, x) (k, y) = absurd (slots_or_bars f l m k j y x)
  report_answers_one (TooManyBars m) (TooManyBars n) (j, x) (k, y) = bars_one said t j k m n x y

  -- a picture that was drawn could be drawn
  pub drawn_by : (text : List ℕ) → ReportDrawn (Some t) said text → CanBeDrawn said t
  drawn_by text d =
      let (some, few) = fits_by d.judged.table d.judged.list d.judged.report said text d.draws in
      record { judged = d.judged; some = some; few = few }

-- ---- the policies of a table

module _ (said : PoliciesSaid) (t : Told) (P Q : TableFacts → List ℕ → Type 0) (a : Given (Some t) said P) (b : Given (Some t) said Q) where
  given_table : a.table ≡ b.table
  given_table = tables_one _ said.unit a.table b.table a.input.table_fits b.input.table_fits a.input.gives.table_is b.input.gives.table_is

policies_answers_one : (said : PoliciesSaid) (t : Told) (a b : PictureStatus) → IsPoliciesAnswer said t a → IsPoliciesAnswer said t b → a ≡ b
policies_answers_one said t Usage b x y = absurd x
policies_answers_one said t No b x y = absurd x
policies_answers_one said t (TooManyBars bars) b x y = absurd x
policies_answers_one said t (Ended s) b x y = absurd x
policies_answers_one said t Ok Usage x y = absurd y
policies_answers_one said t Ok No x y = absurd y
policies_answers_one said t Ok (TooManyBars bars) x y = absurd y
policies_answers_one said t Ok (Ended s) x y = absurd y
policies_answers_one said t Ok Ok x y = refl
policies_answers_one said t Ok (NoSlots f l) x y =
    absurd (x.holds (ap (λ (table : TableFacts). table.flows) (given_table said t (λ table ws. table.flows ≢ []) (λ table ws. HasNoPolicies table (NoSlots f l)) x y) ∙ y.holds.2))
policies_answers_one said t (NoSlots f l) Usage x y = absurd y
policies_answers_one said t (NoSlots f l) No x y = absurd y
policies_answers_one said t (NoSlots f l) (TooManyBars bars) x y = absurd y
policies_answers_one said t (NoSlots f l) (Ended s) x y = absurd y
policies_answers_one said t (NoSlots f l) Ok x y =
    absurd (y.holds (ap (λ (table : TableFacts). table.flows) (given_table said t (λ table ws. table.flows ≢ []) (λ table ws. HasNoPolicies table (NoSlots f l)) y x) ∙ x.holds.2))
policies_answers_one said t (NoSlots f l) (NoSlots g m) x y =
    let first : f ≡ g = x.holds.0 ∙ sym y.holds.0 in
    let last : l ≡ m = x.holds.1 ∙ sym y.holds.1 in
    λ i. NoSlots (first i) (last i)

pub answers_one : (said : PictureSaid) (t : Told) (a b : PictureStatus) → IsAnswer said t a → IsAnswer said t b → a ≡ b
answers_one (of_report said) t a b x y = report_answers_one said t a b x y
answers_one (of_policies said) t a b x y = policies_answers_one said t a b x y

-- ---- so the job ends by it

files_past : (before now : ℕ) (t : Told) (new : Option Told) (said : ReportSaid) (s : Status) → HasCauseInFiles IsAnyBadAt before now (Some t) new (check_of said) s →
    AreGoodFiles (of_report said) t → IsStill before now → s ≡ status.NoMemory
files_past before now t new said s cause (table, report) still =
    files_end before now t new (check_of said) s cause table
    (report_is_good (bytes_if t (Some said.report)) report) (no_script (check_of said) t refl)
    (no_order (check_of said) t refl) still

pub ends_at_files : (before now : ℕ) (old new : Option Told) (said : ReportSaid) (s : Status) (answer : PictureStatus) →
    HasCauseInFiles IsAnyBadAt before now old new (check_of said) s → IsSomeAnd old (CallFor (of_report said) answer) → IsStill before now →
    (Ended s ≡ answer) ⊎ (Ended s ≡ Ended status.NoMemory)
ends_at_files before now None new said s answer cause call still = absurd call
ends_at_files before now (Some t) new said s answer cause (good, is) still = inr (ap Ended (files_past before now t new said s cause good still))

pub ends_at_verdict : (before now : ℕ) (old new : Option Told) (said : ReportSaid) (table : TableFacts) (ws : List ℕ) (r : AnyReport) (s answer : PictureStatus) →
    IsInput old said.trace said.weights said.unit table ws → IsAnyReportOf old said.report r → HasVerdictCause table ws r said s →
    IsSomeAnd old (CallFor (of_report said) answer) → (s ≡ answer) ⊎ (s ≡ Ended status.NoMemory)
ends_at_verdict before now None new said table ws r s answer input report cause call = absurd call
ends_at_verdict before now (Some t) new said table ws r s answer input report cause (good, is) =
    by_status s cause (cause_by before now (Some t) new said table ws r s input report cause)
  where
    answered : (x : PictureStatus) → IsReportAnswer said t x → x ≡ answer
    answered x y = report_answers_one said t x answer y is

    by_status : (x : PictureStatus) → HasVerdictCause table ws r said x → HasReportCause before now (Some t) new said x → (x ≡ answer) ⊎ (x ≡ Ended status.NoMemory)
    by_status No c why = inl (answered No why)
    by_status (NoSlots first last) c why = inl (answered (NoSlots first last) why)
    by_status (TooManyBars bars) c why = inl (answered (TooManyBars bars) why)
    by_status (Ended x) c why = inr (ap Ended c)
    by_status Ok c why = absurd why
    by_status Usage c why = absurd why

pub ends_drawn : (old : Option Told) (said : ReportSaid) (text : List ℕ) (answer : PictureStatus) → ReportDrawn old said text →
    IsSomeAnd old (CallFor (of_report said) answer) → Ok ≡ answer
ends_drawn None said text answer draws call = absurd call
ends_drawn (Some t) said text answer draws (good, is) = report_answers_one said t Ok answer (drawn_by said t text draws) is

-- ---- and so does that of policies

pub policies_end_at_files : (before now : ℕ) (old new : Option Told) (said : PoliciesSaid) (s : Status) (answer : PictureStatus) →
    HasCauseInFiles IsAnyBadAt before now old new (compare_of said) s → IsSomeAnd old (CallFor (of_policies said) answer) → IsStill before now →
    (Ended s ≡ answer) ⊎ (Ended s ≡ Ended status.NoMemory)
policies_end_at_files before now None new said s answer cause call still = absurd call
policies_end_at_files before now (Some t) new said s answer cause (good, is) still =
    inr (ap Ended (files_end before now t new (compare_of said) s cause good (no_report IsAnyBadAt _) (no_script (compare_of said) t refl)
    (no_order (compare_of said) t refl) still))

pub policies_end : (old : Option Told) (said : PoliciesSaid) (table : TableFacts) (ws : List ℕ) (s answer : PictureStatus) →
    IsInput old said.trace said.weights said.unit table ws → HasNoPolicies table s → IsSomeAnd old (CallFor (of_policies said) answer) →
    (s ≡ answer) ⊎ (s ≡ Ended status.NoMemory)
policies_end None said table ws s answer input cause call = absurd call
policies_end (Some t) said table ws (NoSlots f l) answer input cause (good, is) =
    inl (policies_answers_one said t (NoSlots f l) answer (record { table = table; list = ws; input = input; holds = cause }) is)
policies_end (Some t) said table ws (Ended s) answer input cause call = inr (ap Ended cause)
policies_end (Some t) said table ws Ok answer input cause call = absurd cause
policies_end (Some t) said table ws No answer input cause call = absurd cause
policies_end (Some t) said table ws Usage answer input cause call = absurd cause
policies_end (Some t) said table ws (TooManyBars bars) answer input cause call = absurd cause

pub policies_end_drawn : (old : Option Told) (said : PoliciesSaid) (table : TableFacts) (ws : List ℕ) (answer : PictureStatus) →
    IsInput old said.trace said.weights said.unit table ws → table.flows ≢ [] → IsSomeAnd old (CallFor (of_policies said) answer) → Ok ≡ answer
policies_end_drawn None said table ws answer input some call = absurd call
policies_end_drawn (Some t) said table ws answer input some (good, is) =
    policies_answers_one said t Ok answer (record { table = table; list = ws; input = input; holds = some }) is

-- ---- how far the files were looked at

gives_table : (old : Option Told) (said : PictureSaid) → IfSome old (AreGoodFiles said) → IfSome old (FilesGiveTable (job_for said))
gives_table old (of_report said) good =
    if_some old (AreGoodFiles (of_report said)) (FilesGiveTable (check_of said)) (λ t (gives, report). gives) good
gives_table old (of_policies said) good = good

pub past_in_turn : (old new : Option Told) (said : PictureSaid) (s : Status) → (IsReadFault s → ⊥) → IfSome old (AreGoodFiles said) →
    OfBoth old new (ReadsOut (job_for said).job (job_for said)) → OfBoth old new (FilesInTurn (job_for said) s)
past_in_turn old new (of_report said) s other good out =
    done_in_turn old new (check_of said) s refl other (gives_table old (of_report said) good) out
past_in_turn old new (of_policies said) s other good out =
    done_in_turn old new (compare_of said) s refl other (gives_table old (of_policies said) good) out
