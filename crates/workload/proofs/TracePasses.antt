-- The trace of made coflows passes, and says the coflows.
use Rattle.std.proofs.Common.{◌≡◌, ℕ, ◌+◌, ◌<◌, ◌≤◌, ◌^◌, List, [], ◌∷◌, ◌++◌, None, Bool, true, false, get_or, length, length-append, map, refl, ap, ◌∙◌, arith}
use Rattle.std.specs.Prelude.{All, codes, nat_eq, nat_le, nat_lt, not}
use Rattle.std.specs.List.{list_all, list_any}
use Rattle.std.proofs.lemmas.Bool.Decides.{nat_tests}
use Rattle.std.proofs.lemmas.List.Elements.{All-nil, All-push}
use Rattle.std.proofs.lemmas.List.Folds.{list_any_none}
use Rattle.std.proofs.lemmas.List.Sums.{AllPass-from_list_all}
use Rattle.coflow_units.specs.declared.trace.Trace.{Trace}
use Rattle.text_fields.specs.Checks.{Check, first_fault}
use Rattle.text_fields.specs.Fields.{Text}
use Rattle.text_fields.specs.Lines.{Line, is_line_feed, lines_of}
use Rattle.text_fields.proofs.CheckLists.{pass_first}
use Rattle.trace_reader.specs.Coflow.{coflow_of, id_of, line_checks}
use Rattle.trace_reader.specs.Trace.{coflow_checks, lines_checks, lines_trace, missing, trace_checks, trace_of}
use Rattle.trace_reader.specs.declared.fault.TraceFault.{TraceFault}
use Rattle.workload.specs.declared.coflow.MadeCoflow.{MadeCoflow}
use Rattle.workload.specs.Made.{said_coflow}
use Rattle.workload.specs.Text.{coflow_line, trace_text}
use Rattle.workload.proofs.CoflowFields.{coflow_is_full, coflow_is_short, coflow_texts, fields_are}
use Rattle.workload.proofs.CoflowPasses.{id_is, line_passes, read_line, says}
use Rattle.workload.proofs.LineWords.{Lacks}
use Rattle.workload.proofs.MadeLines.{count_read, full_lines, numbered_are, read_lines, text_is_short}
use Rattle.workload.proofs.MadeRanges.{AreMade}
use Rattle.workload.proofs.TextLines.{lines_are}

-- the first line
abbrev header : Line
header = record { number = 1; texts = codes "150" ∷ codes "200" ∷ [] }

lacks : (p : ℕ → Bool) (text : Text) → list_all (λ b. not (p b)) text ≡ true → Lacks p text
lacks p text h = λ k d lt. let t = AllPass-from_list_all (λ b. not (p b)) text h k d lt in grind arith

lines_read : (m : ℕ) (cs : List MadeCoflow) → AreMade m cs → lines_of (trace_text cs) ≡ header ∷ read_lines coflow_texts 2 cs
lines_read m cs h =
    lines_are 1 (codes "150 200" ∷ map coflow_line cs) ((refl, lacks is_line_feed (codes "150 200") refl), full_lines coflow_line coflow_is_full m cs h)
    ∙ ap (λ (l : List Line). header ∷ l) (numbered_are coflow_line coflow_texts fields_are m 2 cs h)

-- an id that is greater than the earlier ones is none of them
pub unused : (m id : ℕ) (earlier : List ℕ) → id ≡ m → All (λ e. e < m) earlier → list_any (nat_eq id) earlier ≡ false
unused m id earlier e below = list_any_none (nat_eq id) earlier (λ k d lt. let less : get_or earlier k d < m = below k d lt in differ (get_or earlier k d) less)
  where
    differ : (x : ℕ) → x < m → nat_eq id x ≡ false
    differ x less = grind (arith, nat_tests)

coflows_pass : (n m : ℕ) (earlier : List ℕ) (cs : List MadeCoflow) → AreMade m cs → All (λ e. e < m) earlier → length earlier + length cs ≤ 200 →
    first_fault (coflow_checks 150 200 earlier (read_lines coflow_texts n cs)) ≡ None
coflows_pass n m earlier [] h below few = refl
coflows_pass n m earlier (c ∷ cs) h below few =
    let room : nat_lt (length earlier) 200 ≡ true = grind (arith, nat_tests) in
    let line = read_line n c in
    let others : List ℕ → List (Check TraceFault) = λ (ids : List ℕ). coflow_checks 150 200 ids (read_lines coflow_texts (n + 1) cs) in
    let more = length-append earlier (c.id ∷ []) in
    let id = h.0 in
    let all : All (λ e. e < m + 1) (earlier ++ c.id ∷ []) = All-push (λ e. e < m + 1) earlier c.id (λ k d lt. omega (arith, below k d lt)) (omega arith) in
    let next : first_fault (others (earlier ++ c.id ∷ [])) ≡ None = coflows_pass (n + 1) (m + 1) (earlier ++ c.id ∷ []) cs h.1.1 all (omega arith) in
    let rest : first_fault (others (earlier ++ id_of line ∷ [])) ≡ None = ap (λ (i : ℕ). first_fault (others (earlier ++ i ∷ []))) (id_is n c h.1.0) ∙ next in
    rw room (pass_first (line_checks 150 earlier line) (others (earlier ++ id_of line ∷ [])) (line_passes n c h.1.0 earlier (unused m c.id earlier h.0 below)) ∙ rest)

coflows_said : (n m : ℕ) (cs : List MadeCoflow) → AreMade m cs → map coflow_of (read_lines coflow_texts n cs) ≡ map said_coflow cs
coflows_said n m [] h = refl
coflows_said n m (c ∷ cs) h = ap (λ l. l ∷ map coflow_of (read_lines coflow_texts (n + 1) cs)) (says n c h.1.0) ∙
    ap (λ l. said_coflow c ∷ l) (coflows_said (n + 1) (m + 1) cs h.1.1)

-- all checks hold
pub trace_passes : (cs : List MadeCoflow) → AreMade 1 cs → length cs ≡ 200 → first_fault (trace_checks (trace_text cs)) ≡ None
trace_passes cs h count =
    let coflows : List (Check TraceFault) = coflow_checks 150 200 [] (read_lines coflow_texts 2 cs) in
    let many = count_read coflow_texts 2 cs in
    let enough : nat_le 200 (length (read_lines coflow_texts 2 cs)) ≡ true = grind (arith, nat_tests) in
    ap (λ (l : List Line). first_fault (lines_checks l)) (lines_read 1 cs h)
    ∙ (pass_first coflows (missing (length (read_lines coflow_texts 2 cs)) 200 ∷ []) (coflows_pass 2 1 [] cs h (All-nil (λ e. e < 1)) (omega arith)) ∙ rw enough refl)

-- the coflows are what the trace says
pub trace_says : (cs : List MadeCoflow) → AreMade 1 cs → ◌≡◌ {A = Trace} (trace_of (trace_text cs)) record { number = 150; coflows = map said_coflow cs }
trace_says cs h = ap lines_trace (lines_read 1 cs h) ∙ ap (λ l. record { number = 150; coflows = l }) (coflows_said 2 1 cs h)

-- the trace is short
pub trace_is_short : (cs : List MadeCoflow) → AreMade 1 cs → length cs ≡ 200 → length (trace_text cs) ≤ 2 ^ 26
trace_is_short cs h count = omega (arith, text_is_short coflow_line 140 coflow_is_short 1 cs h)
