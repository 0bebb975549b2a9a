-- The words of a command line.
use Rattle.std.specs.Prelude.{◌≡◌, ℕ, ◌≤◌, Bool, false, true, if◌then◌else◌, List, Option, Some, None, IfSome, codes, drop}
use Rattle.std.specs.Prelude.{option_map}
use Rattle.std.specs.Str.{bytes_eq}
use Rattle.class_rates.specs.declared.fold.Fold.{Fold}
use Rattle.class_rates.specs.declared.fold.Fold.TheVariants.{Count, Load}
use Rattle.coflow_units.specs.declared.limits.TheConstants.{MAX_OPTION_SLOTS, MAX_SLOT_MS, MAX_UNIT}
use Rattle.text_fields.specs.Numbers.{is_number, number}
use Rattle.command_words.specs.Line.{IsOnce, Text, Use, uses, value_of}
use Rattle.command_words.specs.Jobs.{IsFileName, IsPolicy, Job, job_by, job_in, with_policy}
use Rattle.command_words.specs.declared.options.TheConstants.{MAX_OPTION_AGENTS, MAX_OPTION_CLASSES}
use Rattle.command_words.specs.declared.options.Options.{Options}
use Rattle.command_words.specs.declared.words.Words.{Words}

-- What a command line says.
pub record Said : Type 0 where
  pub job : Job
  pub weights : Option Text
  pub unit : ℕ
  pub agents : ℕ
  pub epoch : ℕ
  pub run : ℕ
  pub slot_ms : ℕ
  pub classes : ℕ
  pub fold : Fold

-- what is said by a job with these options
abbrev pub said_with : Job → Options → Said
said_with job o = record {
  job = job;
  weights = option_map (λ s. s.now) o.weights;
  unit = o.unit.megabytes;
  agents = o.agents;
  epoch = o.epoch;
  run = o.run;
  slot_ms = o.slot_ms;
  classes = o.classes;
  fold = o.fold;
}

-- what words that were read say
abbrev pub said_by : Words → Said
said_by w = said_with (job_by w.job) w.options

-- n is the number that an option is given, from 1 to `most`, or the option's default where it is not used.
abbrev pub IsSetting : ℕ → ℕ → Option Text → ℕ → Type 0
IsSetting most default None n = n ≡ default
IsSetting most default (Some text) n = (is_number text ≡ true) × (1 ≤ number text) × (number text ≤ most) ×
    (n ≡ number text)

-- the value that the parser gives a flag is `true` where the flag is used
abbrev pub is_used : Option Text → Bool
is_used None = false
is_used (Some text) = bytes_eq text (codes "true")

-- the way to fold that an option is given: by count where it is not used, and none where its value is no way
abbrev pub fold_of : Option Text → Option Fold
fold_of None = Some Count
fold_of (Some text) = if bytes_eq text (codes "count") then Some Count
    else (if bytes_eq text (codes "load") then Some Load else None)

-- the job that the arguments give by their values, where COMMAND and FIRST have one
abbrev pub job_of_values : (Text → Option Text) → Option Job
job_of_values value = option_map (with_policy (value (codes "policy")))
    (job_in (value (codes "COMMAND")) (value (codes "FIRST")) (value (codes "SECOND")))

-- What is said is what the arguments have as their values, and each value fits.
pub record IsSaid (value : Text → Option Text) (said : Said) : Type 0 where
  pub job : job_of_values value ≡ Some said.job
  pub weights : value (codes "weights") ≡ said.weights
  pub unit : IsSetting MAX_UNIT 1 (value (codes "unit")) said.unit
  pub agents : IsSetting MAX_OPTION_AGENTS 4 (value (codes "agents")) said.agents
  pub epoch : IsSetting MAX_OPTION_SLOTS 1024 (value (codes "epoch")) said.epoch
  pub run : IsSetting MAX_OPTION_SLOTS 1 (value (codes "run")) said.run
  pub slot_ms : IsSetting MAX_SLOT_MS 8 (value (codes "slot-ms")) said.slot_ms
  pub classes : IsSetting MAX_OPTION_CLASSES 8 (value (codes "classes")) said.classes
  pub fold : fold_of (value (codes "fold")) ≡ Some said.fold
  pub weights_fit : IfSome said.weights IsFileName
  pub policy_fit : IfSome (value (codes "policy")) IsPolicy

-- The words behind the program's name use each argument at most once, and say this.
pub record IsWords (words : List Text) (said : Said) : Type 0 where
  pub used : List Use
  pub uses_are : uses None 1 (drop 1 words) ≡ Some used
  pub once : IsOnce used
  pub says : IsSaid (λ id. value_of id used) said
