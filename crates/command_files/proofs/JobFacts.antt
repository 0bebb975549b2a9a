-- The causes of the statuses of a command whose job says what its other file is.
use Rattle.std.proofs.Common.{◌≡◌, ◌<◌, ℕ, List, Option, arith, refl}
use Rattle.command_words.specs.Jobs.{Job, trace_name}
use Rattle.command_words.specs.Jobs.Job.{audit_job, check_job, classes_job, compare_job, live_job, make_job, online_job, plan_job, record_job, replay_job, serve_job}
use Rattle.command_words.specs.Words.{Said}
use Rattle.coflow_units.specs.declared.limits.TheConstants.{MAX_REPORT}
use Rattle.outside.specs.Shelf.{Told}
use Rattle.online_check.proofs.OneReport.{any_line_one}
use Rattle.command_files.specs.declared.status.Status.{Status}
use Rattle.command_files.specs.InputCauses.{HasInputCause}
use Rattle.command_files.specs.JobCauses.{HasFilesCause, IsBadFor}
use Rattle.command_files.specs.Limits.{most_bytes}
use Rattle.command_files.proofs.CauseFacts.{input_cause}

-- ---- the causes of trace and weights

pub from_input : (before now : ℕ) (old new : Option Told) (said : Said) (s : Status) → HasInputCause before now old new (trace_name said.job) said.weights said.unit s →
    HasFilesCause before now old new said s
from_input before now old new said s h = input_cause (IsBadFor said.job) before now old new said s h

-- ---- a text that is bad is bad at one line

pub bad_line_one : (k : Job) (bytes : List ℕ) (m n : ℕ) → IsBadFor k bytes m → IsBadFor k bytes n → m ≡ n
bad_line_one (plan_job trace) bytes m n x y = any_line_one bytes m n x y
bad_line_one (check_job trace report) bytes m n x y = any_line_one bytes m n x y
bad_line_one (make_job seed) bytes m n x y = any_line_one bytes m n x y
bad_line_one (compare_job trace) bytes m n x y = any_line_one bytes m n x y
bad_line_one (classes_job trace) bytes m n x y = any_line_one bytes m n x y
bad_line_one (online_job trace) bytes m n x y = any_line_one bytes m n x y
bad_line_one (live_job trace script) bytes m n x y = any_line_one bytes m n x y
bad_line_one (serve_job trace order) bytes m n x y = absurd x
bad_line_one (replay_job trace) bytes m n x y = any_line_one bytes m n x y
bad_line_one (record_job trace policy) bytes m n x y = any_line_one bytes m n x y
bad_line_one (audit_job trace journal) bytes m n x y =
    let not_less : (m < n → ⊥) = λ less. x.here (y.before m less) in
    let not_more : (n < m → ⊥) = λ less. y.here (x.before n less) in
    grind (arith, not_less, not_more)

-- and a job whose text may be bad at a line reads one of at most 2^30 bytes
pub bad_bytes : (k : Job) (bytes : List ℕ) (line : ℕ) → IsBadFor k bytes line → most_bytes k ≡ MAX_REPORT
bad_bytes (plan_job trace) bytes line bad = refl
bad_bytes (check_job trace report) bytes line bad = refl
bad_bytes (make_job seed) bytes line bad = refl
bad_bytes (compare_job trace) bytes line bad = refl
bad_bytes (classes_job trace) bytes line bad = refl
bad_bytes (audit_job trace journal) bytes line bad = refl
bad_bytes (online_job trace) bytes line bad = refl
bad_bytes (live_job trace script) bytes line bad = refl
bad_bytes (serve_job trace order) bytes line bad = absurd bad
bad_bytes (replay_job trace) bytes line bad = refl
bad_bytes (record_job trace policy) bytes line bad = refl
