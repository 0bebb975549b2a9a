-- The words of a command line that asks for a picture.
use Rattle.std.specs.Prelude.{◌≡◌, ℕ, false, true, List, [], Option, Some, None, IfSome, codes, option_map}
use Rattle.clap.specs.Words.{fault_of, first_of, matches_of}
use Rattle.coflow_units.specs.declared.limits.TheConstants.{MAX_SLOT, MAX_SLOT_MS, MAX_UNIT}
use Rattle.coflow_units.specs.declared.fabric.Side.{Side}
use Rattle.coflow_units.specs.declared.fabric.Side.TheVariants.{Egress, Ingress}
use Rattle.command_words.specs.Jobs.{IsFileName}
use Rattle.command_words.specs.Line.{Text}
use Rattle.command_words.specs.Words.{IsSetting, is_used}
use Rattle.picture_cli.specs.Parser.{app}
use Rattle.picture_cli.specs.declared.value.Options.{Options}
use Rattle.picture_cli.specs.declared.value.PictureWords.{PictureWords}
use Rattle.picture_cli.specs.declared.value.PictureWords.TheVariants.{Policies, Report}
use Rattle.picture_cli.specs.declared.value.PoliciesWords.{PoliciesWords}
use Rattle.picture_cli.specs.declared.value.ReportWords.{ReportWords}

-- What a command line says that asks for the picture of a report.
pub record ReportSaid : Type 0 where
  pub trace : Text
  pub report : Text
  pub weights : Option Text
  pub unit : ℕ
  pub from : ℕ
  pub to : ℕ
  pub side : Side
  pub slot_ms : ℕ

-- What a command line says that asks for the picture of policies.
pub record PoliciesSaid : Type 0 where
  pub trace : Text
  pub weights : Option Text
  pub unit : ℕ

-- What a command line says.
pub data PictureSaid : Type 0 where
  of_report : ReportSaid → PictureSaid
  of_policies : PoliciesSaid → PictureSaid

-- What words that were read say.
abbrev pub report_by : ReportWords → ReportSaid
report_by w = record {
  trace = w.trace.now;
  report = w.report.now;
  weights = option_map (λ s. s.now) w.weights;
  unit = w.unit.megabytes;
  from = w.from;
  to = w.to;
  side = w.side;
  slot_ms = w.slot_ms;
}

abbrev pub policies_by : PoliciesWords → PoliciesSaid
policies_by w = record {
  trace = w.trace.now;
  weights = option_map (λ s. s.now) w.weights;
  unit = w.unit.megabytes;
}

abbrev pub said_by : PictureWords → PictureSaid
said_by (Report w) = of_report (report_by w)
said_by (Policies w) = of_policies (policies_by w)

-- what options say, with the name of a report
abbrev pub said_with : Options → Text → ReportSaid
said_with o report = record {
  trace = o.trace.now;
  report = report;
  weights = option_map (λ s. s.now) o.weights;
  unit = o.unit.megabytes;
  from = o.from;
  to = o.to;
  side = o.side;
  slot_ms = o.slot_ms;
}

-- `in` is ingress, `out` is egress, and ingress is the default
abbrev pub IsSide : Option Text → Side → Type 0
IsSide None side = side ≡ Ingress
IsSide (Some word) Ingress = word ≡ codes "in"
IsSide (Some word) Egress = word ≡ codes "out"

-- What is said besides the name of a report is what the arguments have as their values, and each value fits.
pub record IsSaidBesides (value : Text → Option Text) (said : ReportSaid) : Type 0 where
  pub trace : value (codes "TRACE") ≡ Some said.trace
  pub weights : value (codes "weights") ≡ said.weights
  pub unit : IsSetting MAX_UNIT 1 (value (codes "unit")) said.unit
  pub from : IsSetting MAX_SLOT 1 (value (codes "from")) said.from
  pub to : IsSetting MAX_SLOT MAX_SLOT (value (codes "to")) said.to
  pub side : IsSide (value (codes "side")) said.side
  pub slot_ms : IsSetting MAX_SLOT_MS 8 (value (codes "slot-ms")) said.slot_ms
  pub trace_fits : IsFileName said.trace
  pub weights_fit : IfSome said.weights IsFileName

-- The picture of a report is asked for: the report has a name that fits, and policies are not asked for.
pub record IsReportSaid (value : Text → Option Text) (said : ReportSaid) : Type 0 where
  pub besides : IsSaidBesides value said
  pub report : value (codes "REPORT") ≡ Some said.report
  pub report_fits : IsFileName said.report
  pub unasked : is_used (value (codes "policies")) ≡ false

-- what is said for policies among all that is said
abbrev pub policies_in : ReportSaid → PoliciesSaid
policies_in options = record { trace = options.trace; weights = options.weights; unit = options.unit }

-- The picture of policies is asked for: there is no report, and each option has a value that fits, though it needs no
-- window, no side and no time.
pub record IsPoliciesSaid (value : Text → Option Text) (said : PoliciesSaid) : Type 0 where
  pub options : ReportSaid
  pub besides : IsSaidBesides value options
  pub said_is : said ≡ policies_in options
  pub no_report : value (codes "REPORT") ≡ None
  pub asked : is_used (value (codes "policies")) ≡ true

-- What is said is what the arguments have as their values, and each value fits.
abbrev pub IsSaid : (Text → Option Text) → PictureSaid → Type 0
IsSaid value (of_report said) = IsReportSaid value said
IsSaid value (of_policies said) = IsPoliciesSaid value said

-- The words are accepted, and the arguments that they use say this.
pub record IsPictureWords (words : List Text) (said : PictureSaid) : Type 0 where
  pub accepted : fault_of app words ≡ []
  pub says : IsSaid (λ id. first_of id (matches_of app words)) said
