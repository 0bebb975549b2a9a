-- Which quantities the checks of a trace, of weights and of a script name.
use Rattle.std.proofs.Common.{◌≡◌, ℕ, ◌+◌, drop, length, Bool, true, false, List, [], ◌∷◌, ◌++◌, Some, None, inl, inr, refl, subst, sym}
use Rattle.std.specs.Prelude.{codes, cond}
use Rattle.std.specs.List.{flat_map, range_with_len}
use Rattle.command_words.specs.Jobs.{Job, script_name}
use Rattle.command_words.specs.Jobs.Job.{audit_job, check_job, classes_job, compare_job, live_job, make_job, online_job, plan_job, record_job, replay_job, serve_job}
use Rattle.coflow_units.specs.declared.quantity.Quantity.{Quantity}
use Rattle.coflow_units.specs.declared.quantity.Quantity.TheVariants.{Text}
use Rattle.coflow_units.specs.declared.trace.CoflowLine.{CoflowLine}
use Rattle.coflow_units.specs.declared.trace.Trace.{Trace}
use Rattle.flow_table.specs.Causes.{ExceedsLimit}
use Rattle.workload.specs.Checks.{ended_checks, line_checks as script_line, lines_checks as script_lines, text_checks as script_checks, word_checks}
use Rattle.workload.specs.Words.{is_word, word_of}
use Rattle.workload.specs.declared.fault.ScriptFault.{ScriptFault}
use Rattle.workload.specs.declared.fault.ScriptFault.TheVariants as script_fault
use Rattle.text_fields.specs.Checks.{Check, first_fault}
use Rattle.text_fields.specs.Fields.{Text as Field, field_at}
use Rattle.text_fields.specs.Lines.{Line, lines_of, without_first}
use Rattle.trace_reader.specs.Checks.{each}
use Rattle.trace_reader.specs.Coflow.{back_checks, behind_mappers, front_checks, id_of, line_checks, mapper_checks, mapper_count, reducer_checks, reducer_count}
use Rattle.trace_reader.specs.Header.{coflow_count, ports_of}
use Rattle.trace_reader.specs.Trace.{coflow_checks, lines_checks, missing, trace_checks}
use Rattle.trace_reader.specs.declared.fault.TraceFault.{TraceFault}
use Rattle.trace_reader.specs.declared.fault.TraceFault.TheVariants as trace_fault
use Rattle.weights.specs.Checks.{id_of as weights_id, lines_checks as weights_lines}
use Rattle.weights.specs.Weights.{text_checks}
use Rattle.weights.specs.declared.fault.WeightsFault.{WeightsFault}
use Rattle.weights.specs.declared.fault.WeightsFault.TheVariants as weights_fault
use Rattle.command_files.specs.Limits.{ClientsMayLimit, EachMayLimit, MayLimit}

-- ---- what holds of the fault of each check holds of the first one

module _ {F : Type 0} (P : F → Type 0) where
  abbrev pub Each : List (Check F) → Type 0
  Each [] = Unit {0}
  Each (x ∷ xs) = P x.1 × Each xs

  pub each_both : (xs ys : List (Check F)) → Each xs → Each ys → Each (xs ++ ys)
  each_both [] ys a b = b
  each_both (x ∷ xs) ys (p, a) b = (p, each_both xs ys a b)

  pub each_of : (f : ℕ → List (Check F)) (js : List ℕ) → ((j : ℕ) → Each (f j)) → Each (flat_map f js)
  each_of f [] all = tt
  each_of f (j ∷ js) all = each_both (f j) (flat_map f js) (all j) (each_of f js all)

  pub first_has : (xs : List (Check F)) (fault : F) → Each xs → first_fault xs ≡ Some fault → P fault
  first_has [] fault all e = let clash : None ≡ Some fault = e in cc
  first_has (x ∷ xs) fault (p, all) e = go x.0 refl (λ r. first_has xs fault all r)
    where
      go : (b : Bool) → x.0 ≡ b → (first_fault xs ≡ Some fault → P fault) → P fault
      go true t rest = rest (rw t at e)
      go false t rest = let same : Some x.1 ≡ Some fault = rw t at e in let one : x.1 ≡ fault = cc in subst P one p

-- ---- a trace

abbrev OfTrace : TraceFault → Type 0
OfTrace (trace_fault.Limit line which count) = EachMayLimit which
OfTrace fault = Unit {0}

of_front : (ports : ℕ) (earlier : List ℕ) (line : Line) → Each OfTrace (front_checks ports earlier line)
of_front ports earlier line =
    let mappers =
    each_of OfTrace (λ j. mapper_checks ports line.number (4 + j) (field_at (drop 3 line.texts) j)) (range_with_len 0 (mapper_count line)) (λ j. (tt, (tt, tt))) in
    (tt, (λ job. tt, (tt, (tt, (λ job. tt, (tt, (λ job. tt, mappers)))))))

of_back : (ports k : ℕ) (line : Line) → Each OfTrace (back_checks ports k line)
of_back ports k line = (
  tt,
  (
    λ job. tt,
    each_both OfTrace (each (reducer_checks ports line.number) (k + 1) (drop 1 line.texts) (reducer_count line)) _
        (each_of OfTrace (λ j. reducer_checks ports line.number (k + 1 + j) (field_at (drop 1 line.texts) j)) (range_with_len 0 (reducer_count line))
        (λ j. (tt, (tt, (λ job. tt, tt))))) (tt, tt),
  ),
)

of_coflows : (ports count : ℕ) (earlier : List ℕ) (lines : List Line) → Each OfTrace (coflow_checks ports count earlier lines)
of_coflows ports count earlier [] = tt
of_coflows ports count earlier (line ∷ lines) = (
  tt,
  each_both OfTrace (line_checks ports earlier line) _
      (each_both OfTrace (front_checks ports earlier line) (back_checks ports (4 + mapper_count line) (behind_mappers line)) (of_front ports earlier line)
      (of_back ports (4 + mapper_count line) (behind_mappers line)))
      (of_coflows ports count (earlier ++ (id_of line ∷ [])) lines),
)

of_lines : (lines : List Line) → Each OfTrace (lines_checks lines)
of_lines [] = (tt, tt)
of_lines (header ∷ lines) =
    let rest = each_both OfTrace (coflow_checks (ports_of header) (coflow_count header) [] lines) (missing (length lines) (coflow_count header) ∷ [])
    (of_coflows (ports_of header) (coflow_count header) [] lines) (tt, tt) in
    (tt, (λ job. tt, (λ job. tt, rest)))

-- each command may end at a limit of a trace
pub trace_may : (text : List ℕ) (line : ℕ) (which : Quantity) (count : ℕ) → first_fault (trace_checks text) ≡ Some (trace_fault.Limit line which count) → EachMayLimit which
trace_may text line which count first = first_has OfTrace (trace_checks text) (trace_fault.Limit line which count) (of_lines (lines_of text)) first

-- ---- weights

abbrev OfWeights : WeightsFault → Type 0
OfWeights (weights_fault.Limit line which count) = EachMayLimit which
OfWeights fault = Unit {0}

of_weights : (ids earlier : List ℕ) (lines : List Line) → Each OfWeights (weights_lines ids earlier lines)
of_weights ids earlier [] = tt
of_weights ids earlier (line ∷ lines) = (tt, (tt, (tt, (tt, (λ job. tt, (tt, of_weights ids (earlier ++ (weights_id line ∷ [])) lines))))))

-- each command may end at a limit of weights
pub weights_may : (text : List ℕ) (coflows : List CoflowLine) (line : ℕ) (which : Quantity) (count : ℕ) →
    first_fault (text_checks text coflows) ≡ Some (weights_fault.Limit line which count) → EachMayLimit which
weights_may text coflows line which count first =
    first_has OfWeights (text_checks text coflows) (weights_fault.Limit line which count) (of_weights _ [] (lines_of text)) first

-- ---- a table

-- each command may end at a limit of its table
pub table_may : (trace : Trace) (unit : ℕ) (which : Quantity) (count : ℕ) → ExceedsLimit trace unit which count → EachMayLimit which
table_may trace unit which count (inl (is, more)) = subst EachMayLimit (sym is) (λ job. tt)
table_may trace unit which count (inr (is, more)) = subst EachMayLimit (sym is) (λ job. tt)

-- ---- the bytes of a file

pub text_may : (which : Quantity) → which ≡ Text → EachMayLimit which
text_may which is = subst EachMayLimit (sym is) (λ job. tt)

-- ---- a script

abbrev OfScript : ScriptFault → Type 0
OfScript (script_fault.Limit which count) = ClientsMayLimit which
OfScript fault = Unit {0}

-- what holds of both holds of the one that is chosen
by_choice : {X : Type 0} (b : Bool) (x y : X) (P : X → Type 0) → P x → P y → P (cond b x y)
by_choice true x y P p q = p
by_choice false x y P p q = q

of_word : (ids : List ℕ) (field : Field) (line : Line) → Each OfScript (word_checks ids (word_of field) line)
of_word ids field line =
    by_choice (is_word (codes "register") field) _ _ (λ w. Each OfScript (word_checks ids w line)) (tt, (tt, (tt, tt)))
    (by_choice (is_word (codes "withdraw") field) _ _ (λ w. Each OfScript (word_checks ids w line)) (tt, (tt, (tt, tt)))
    (by_choice (is_word (codes "publish") field) _ _ (λ w. Each OfScript (word_checks ids w line)) (tt, tt)
    (by_choice (is_word (codes "pull") field) _ _ (λ w. Each OfScript (word_checks ids w line)) (tt, (tt, (tt, tt)))
    (by_choice (is_word (codes "reweigh") field) _ _ (λ w. Each OfScript (word_checks ids w line)) (tt, (tt, (tt, (λ trace script. tt, (tt, tt))))) (tt, tt)))))

of_line : (ids : List ℕ) (line : Line) → Each OfScript (script_line ids line)
of_line ids line =
    by_choice (is_word (codes "slot") (field_at line.texts 0)) _ _ (λ end. Each OfScript (ended_checks ids end line)) (tt, tt)
    (by_choice (is_word (codes "wait") (field_at line.texts 0)) _ _ (λ end. Each OfScript (ended_checks ids end line)) (tt, tt)
    (tt, (λ trace script. tt, of_word ids (field_at (without_first line).texts 0) (without_first (without_first line)))))

of_script : (ids : List ℕ) (count : ℕ) (lines : List Line) → Each OfScript (script_lines ids count lines)
of_script ids count [] = tt
of_script ids count (line ∷ lines) =
    each_both OfScript (script_line ids line) _ (of_line ids line) (λ trace script. tt, of_script ids (count + 1) lines)

-- a command that runs a script may end at a limit of it
pub script_may : (ids text : List ℕ) (which : Quantity) (count : ℕ) → first_fault (script_checks ids text) ≡ Some (script_fault.Limit which count) → ClientsMayLimit which
script_may ids text which count first =
    first_has OfScript (script_checks ids text) (script_fault.Limit which count) (of_script ids 0 (lines_of text)) first

-- and a job that names a script is one that runs it
pub job_may : (job : Job) (name : List ℕ) (which : Quantity) → script_name job ≡ Some name → ClientsMayLimit which → MayLimit job which
job_may (live_job trace script) name which is may = may trace script
job_may (plan_job trace) name which is may = let clash : None ≡ Some name = is in cc
job_may (check_job trace report) name which is may = let clash : None ≡ Some name = is in cc
job_may (make_job seed) name which is may = let clash : None ≡ Some name = is in cc
job_may (compare_job trace) name which is may = let clash : None ≡ Some name = is in cc
job_may (classes_job trace) name which is may = let clash : None ≡ Some name = is in cc
job_may (audit_job trace journal) name which is may = let clash : None ≡ Some name = is in cc
job_may (online_job trace) name which is may = let clash : None ≡ Some name = is in cc
job_may (serve_job trace order) name which is may = let clash : None ≡ Some name = is in cc
job_may (replay_job trace) name which is may = let clash : None ≡ Some name = is in cc
job_may (record_job trace policy) name which is may = let clash : None ≡ Some name = is in cc
