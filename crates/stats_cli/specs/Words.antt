-- The words of a command line that asks for the numbers of a schedule.
use Rattle.std.specs.Prelude.{◌≡◌, ℕ, Bool, List, [], Option, Some, None, IfSome, codes, if◌then◌else◌, is_some, option_map}
use Rattle.clap.specs.Words.{fault_of, first_of, matches_of}
use Rattle.coflow_units.specs.declared.limits.TheConstants.{MAX_SLOT_MS, MAX_UNIT}
use Rattle.command_words.specs.Jobs.{IsFileName}
use Rattle.command_words.specs.Line.{Text}
use Rattle.command_words.specs.Words.{IsSetting, is_used}
use Rattle.stats_cli.specs.Parser.{app}
use Rattle.stats_cli.specs.declared.value.StatsWords.{StatsWords}

-- What a command line says.
pub record StatsSaid : Type 0 where
  pub trace : Text
  pub report : Text
  pub weights : Option Text
  pub unit : ℕ
  pub slot_ms : ℕ
  pub in_ms : Bool
  pub csv : Bool

-- What words that were read say.
abbrev pub said_by : StatsWords → StatsSaid
said_by w = record {
  trace = w.trace.now;
  report = w.report.now;
  weights = option_map (λ s. s.now) w.weights;
  unit = w.unit.megabytes;
  slot_ms = w.slot_ms;
  in_ms = w.in_ms;
  csv = w.csv;
}

-- the milliseconds of a slot, where numbers are told in milliseconds too
abbrev pub ms_in : StatsSaid → Option ℕ
ms_in said = if said.in_ms then Some said.slot_ms else None

-- What is said is what the arguments have as their values, and each value fits.
pub record IsSaid (value : Text → Option Text) (said : StatsSaid) : Type 0 where
  pub trace : value (codes "TRACE") ≡ Some said.trace
  pub report : value (codes "REPORT") ≡ Some said.report
  pub weights : value (codes "weights") ≡ said.weights
  pub unit : IsSetting MAX_UNIT 1 (value (codes "unit")) said.unit
  pub slot_ms : IsSetting MAX_SLOT_MS 8 (value (codes "slot-ms")) said.slot_ms
  pub in_ms : said.in_ms ≡ is_some (value (codes "slot-ms"))
  pub csv : said.csv ≡ is_used (value (codes "csv"))
  pub trace_fits : IsFileName said.trace
  pub report_fits : IsFileName said.report
  pub weights_fit : IfSome said.weights IsFileName

-- The words are accepted, and the arguments that they use say this.
pub record IsStatsWords (words : List Text) (said : StatsSaid) : Type 0 where
  pub accepted : fault_of app words ≡ []
  pub says : IsSaid (λ id. first_of id (matches_of app words)) said
