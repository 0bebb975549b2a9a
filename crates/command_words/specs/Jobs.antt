-- The jobs: each command with what it takes.
use Rattle.std.specs.Prelude.{◌≡◌, ◌&&◌, ◌^◌, ℕ, Bool, true, Option, Some, None, codes, if◌then◌else◌, length, nat_le, nat_lt, not}
use Rattle.std.specs.Prelude.{[], option_map}
use Rattle.std.specs.List.{list_all}
use Rattle.std.specs.Str.{bytes_eq}
use Rattle.text_fields.specs.Numbers.{is_number, number}
use Rattle.command_words.specs.Line.{Text}
use Rattle.command_words.specs.declared.job.Job.{Job as JobWords}
use Rattle.command_words.specs.declared.job.Job.TheVariants.{Audit, Check, Classes, Compare, Live, Make, Online, Plan, Record, Replay, Serve}

-- What the program is asked to do: a command, with the names of files or the number behind it.
pub data Job : Type 0 where
  -- the name of a trace
  plan_job : Text → Job
  -- the names of a trace and of a report
  check_job : Text → Text → Job
  -- the number that a made trace begins with
  make_job : ℕ → Job
  -- the name of a trace
  compare_job : Text → Job
  -- the name of a trace
  classes_job : Text → Job
  -- the names of a trace and of a printed journal
  audit_job : Text → Text → Job
  -- the name of a trace
  online_job : Text → Job
  -- the names of a trace and of a script
  live_job : Text → Text → Job
  -- the names of a trace and of an order
  serve_job : Text → Text → Job
  -- the name of a trace
  replay_job : Text → Job
  -- the names of a trace and of a ranker
  record_job : Text → Text → Job

-- the job of words that were read
abbrev pub job_by : JobWords → Job
job_by (Plan trace) = plan_job trace.now
job_by (Check trace report) = check_job trace.now report.now
job_by (Make seed) = make_job seed
job_by (Compare trace) = compare_job trace.now
job_by (Classes trace) = classes_job trace.now
job_by (Audit trace journal) = audit_job trace.now journal.now
job_by (Online trace) = online_job trace.now
job_by (Live trace script) = live_job trace.now script.now
job_by (Serve trace order) = serve_job trace.now order.now
job_by (Replay trace) = replay_job trace.now
job_by (Record trace policy) = record_job trace.now policy.now

-- The name of a file is not empty and is not `-`.
abbrev pub is_file_name : Text → Bool
is_file_name name = nat_lt 0 (length name) && not (bytes_eq name (codes "-"))

abbrev pub IsFileName : Text → Type 0
IsFileName name = is_file_name name ≡ true

-- a text as the name of a file
abbrev pub file_of : Text → Option Text
file_of text = if is_file_name text then Some text else None

-- a lower-case letter
abbrev pub is_lower : ℕ → Bool
is_lower b = nat_le 97 b && nat_le b 122

-- The name of a ranker has from 1 to 16 lower-case letters.
abbrev pub is_policy : Text → Bool
is_policy name = nat_lt 0 (length name) && (nat_le (length name) 16 && list_all is_lower name)

abbrev pub IsPolicy : Text → Type 0
IsPolicy name = is_policy name ≡ true

-- a text as a number below 2^64, in decimal digits
abbrev pub seed_of : Text → Option ℕ
seed_of text = if is_number text && nat_lt (number text) (2 ^ 64) then Some (number text) else None

-- SECOND as the name of a file
abbrev pub file_in : Option Text → Option Text
file_in None = None
file_in (Some text) = file_of text

-- what FIRST gives where there is no SECOND
abbrev pub alone : {X : Type 0} → Option X → Option Text → Option X
alone given None = given
alone given (Some second) = None

-- the job of a trace and another file, where both are given
abbrev pub both_in : (Text → Text → Job) → Option Text → Option Text → Option Job
both_in job (Some trace) (Some other) = Some (job trace other)
both_in job _ _ = None

-- The job of a command's name, FIRST and SECOND: the table of commands. There is none where the name is no command's, or
-- where the command does not take what stands behind it.
abbrev pub job_of : Text → Text → Option Text → Option Job
job_of name first second = if bytes_eq name (codes "plan") then option_map plan_job (alone (file_of first) second)
    else (if bytes_eq name (codes "check") then both_in check_job (file_of first) (file_in second)
    else (if bytes_eq name (codes "make") then option_map make_job (alone (seed_of first) second)
    else (if bytes_eq name (codes "compare") then option_map compare_job (alone (file_of first) second)
    else (if bytes_eq name (codes "classes") then option_map classes_job (alone (file_of first) second)
    else (if bytes_eq name (codes "audit") then both_in audit_job (file_of first) (file_in second)
    else (if bytes_eq name (codes "online") then option_map online_job (alone (file_of first) second)
    else (if bytes_eq name (codes "live") then both_in live_job (file_of first) (file_in second)
    else (if bytes_eq name (codes "serve") then both_in serve_job (file_of first) (file_in second)
    else (if bytes_eq name (codes "replay") then option_map replay_job (alone (file_of first) second)
    else None)))))))))

-- The job of a command that takes one file, and none where the name is no such command's.
abbrev pub file_job : Text → Text → Option Job
file_job name trace = if bytes_eq name (codes "plan") then Some (plan_job trace)
    else (if bytes_eq name (codes "compare") then Some (compare_job trace)
    else (if bytes_eq name (codes "classes") then Some (classes_job trace)
    else (if bytes_eq name (codes "online") then Some (online_job trace)
    else (if bytes_eq name (codes "replay") then Some (replay_job trace)
    else None))))

-- The job of a command that takes two files.
abbrev pub files_job : Text → Text → Text → Option Job
files_job name trace other = if bytes_eq name (codes "check") then Some (check_job trace other)
    else (if bytes_eq name (codes "audit") then Some (audit_job trace other)
    else (if bytes_eq name (codes "live") then Some (live_job trace other)
    else (if bytes_eq name (codes "serve") then Some (serve_job trace other)
    else None)))

-- The job where the option `--policy` names a ranker: `replay` records the one of this name. With another job it changes
-- nothing.
abbrev pub with_policy : Option Text → Job → Job
with_policy (Some name) (replay_job trace) = record_job trace name
with_policy _ job = job

-- the job of the names by their places, where COMMAND and FIRST stand
abbrev pub job_in : Option Text → Option Text → Option Text → Option Job
job_in (Some name) (Some first) second = job_of name first second
job_in _ _ second = None

-- the name of the trace that a job reads, and no name where it reads no file
abbrev pub trace_name : Job → Text
trace_name (plan_job trace) = trace
trace_name (check_job trace report) = trace
trace_name (make_job seed) = []
trace_name (compare_job trace) = trace
trace_name (classes_job trace) = trace
trace_name (audit_job trace journal) = trace
trace_name (online_job trace) = trace
trace_name (live_job trace script) = trace
trace_name (serve_job trace order) = trace
trace_name (replay_job trace) = trace
trace_name (record_job trace policy) = trace

-- the name of the report, the printed journal or the order that a job reads, if it reads one
abbrev pub report_name : Job → Option Text
report_name (plan_job trace) = None
report_name (check_job trace report) = Some report
report_name (make_job seed) = None
report_name (compare_job trace) = None
report_name (classes_job trace) = None
report_name (audit_job trace journal) = Some journal
report_name (online_job trace) = None
report_name (live_job trace script) = None
report_name (serve_job trace order) = Some order
report_name (replay_job trace) = None
report_name (record_job trace policy) = None

-- the name of the script that a job reads, if it reads one
abbrev pub script_name : Job → Option Text
script_name (plan_job trace) = None
script_name (check_job trace report) = None
script_name (make_job seed) = None
script_name (compare_job trace) = None
script_name (classes_job trace) = None
script_name (audit_job trace journal) = None
script_name (online_job trace) = None
script_name (live_job trace script) = Some script
script_name (serve_job trace order) = None
script_name (replay_job trace) = None
script_name (record_job trace policy) = None

-- the name of the order that a job reads, if it reads one
abbrev pub order_name : Job → Option Text
order_name (serve_job trace order) = Some order
order_name job = None
