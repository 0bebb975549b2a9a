-- A script that was read may be asked, and its journal is short.
use Rattle.std.proofs.Common.{◌≡◌, ℕ, ◌^◌, ◌+◌, ◌≤◌, ◌<◌, Bool, true, false, List, [], ◌∷◌, ◌++◌, Option, Some, None, length, map, subst, sym, ap, refl, ◌∙◌, arith, suc}
use Rattle.std.specs.Prelude.{All, codes, cond, is_some, max, nat_eq, nat_le, option_map, sum_by, unwrap_or}
use Rattle.std.proofs.lemmas.Bool.{and_parts, leb-true}
use Rattle.std.proofs.lemmas.List.{length-map, length-append}
use Rattle.std.proofs.lemmas.List.Elements.{All-cons, All-head, All-nil, All-tail}
use Rattle.coflow_units.specs.declared.fabric.Flow.{Flow}
use Rattle.coflow_units.specs.declared.limits.TheConstants.{MAX_CLIENTS, MAX_COMMANDS, MAX_LIVE_UNITS, MAX_WEIGHT}
use Rattle.journal.specs.Answer.{IsInRange}
use Rattle.journal.specs.declared.opening.Opening.{Opening}
use Rattle.text_fields.specs.Checks.{first_fault}
use Rattle.text_fields.specs.Fields.{Text, field_at}
use Rattle.text_fields.specs.Lines.{Line, lines_of as text_lines, without_first}
use Rattle.text_fields.specs.Numbers.{number}
use Rattle.text_fields.proofs.CheckLists.{all_hold, passed_parts}
use Rattle.workload.specs.Checks.{ask_checks, client_checks, coflow_checks, count_checks, end_checks, ended_checks, id_checks}
use Rattle.workload.specs.Checks.{line_checks, lines_checks, text_checks, weight_checks, weighing_checks, word_checks}
use Rattle.workload.specs.Operands.{coflow_in, coflow_with, weight_in}
use Rattle.workload.specs.Script.{asked_by, asked_of, client_of, clients_of, put_first, put_step, rounds_of, script_of, step_by, step_of}
use Rattle.workload.specs.Words.{is_word, word_of}
use Rattle.workload.specs.declared.script.Round.{Round}
use Rattle.workload.specs.declared.script.Script.{Script}
use Rattle.workload.specs.declared.script.ScriptLine.{ScriptLine}
use Rattle.live_model.specs.Script.{command_of, limit_of, lines_from}
use Rattle.live_rounds.specs.Rounds.{MayAsk}
use Rattle.live_serving.specs.Ends.{MayBeAsked}
use Rattle.live_runs.specs.Read.{IsRead}

max_left : (a b n : ℕ) → max a b ≤ n → a ≤ n
max_left a b n le = omega (arith, le)

max_right : (a b n : ℕ) → max a b ≤ n → b ≤ n
max_right a b n le = omega (arith, le)

max_within : (a b n : ℕ) → a ≤ n → b ≤ n → max a b ≤ n
max_within a b n left right = omega (arith, left, right)

-- ---- one line

-- what holds of both holds of the one that is chosen
by_choice : {X : Type 0} (b : Bool) (x y : X) (P : X → Type 0) → P x → P y → P (cond b x y)
by_choice true x y P p q = p
by_choice false x y P p q = q

-- an id that some coflow has
coflow_inside : (id : ℕ) (ids : List ℕ) → is_some (coflow_with id ids) ≡ true → unwrap_or (coflow_with id ids) 0 < length ids
coflow_inside id [] some = cc
coflow_inside id (x ∷ ids) some = go (nat_eq id x) refl (coflow_inside id ids)
  where
    behind : (o : Option ℕ) → is_some (option_map (λ k. k + 1) o) ≡ true → (is_some o ≡ true → unwrap_or o 0 < length ids) →
        unwrap_or (option_map (λ k. k + 1) o) 0 < suc (length ids)
    behind None some rest = cc
    behind (Some k) some rest = omega (arith, rest refl)

    go : (b : Bool) → nat_eq id x ≡ b → (is_some (coflow_with id ids) ≡ true → unwrap_or (coflow_with id ids) 0 < length ids) →
        unwrap_or (coflow_with id (x ∷ ids)) 0 < suc (length ids)
    go true t rest = rw t (omega arith)
    go false t rest = rw t (behind (coflow_with id ids) (rw t at some) rest)

module _ (o : Opening) where
  abbrev ids : List ℕ
  ids = o.table.ids

  id_fits : (line : Line) → first_fault (id_checks ids line.number (field_at line.texts 0)) ≡ None → coflow_in ids line < length ids
  id_fits line e = let (form, (some, rest)) = all_hold (id_checks ids line.number (field_at line.texts 0)) e in coflow_inside (number (field_at line.texts 0)) ids some

  alone_fits : (line : Line) → first_fault (coflow_checks ids line) ≡ None → coflow_in ids line < length ids
  alone_fits line e = id_fits line (passed_parts (id_checks ids line.number (field_at line.texts 0)) (end_checks (without_first line) 4) e).0

  weight_fits : (line : Line) → first_fault (weight_checks line.number (field_at line.texts 1)) ≡ None → (1 ≤ weight_in line) × (weight_in line ≤ MAX_WEIGHT)
  weight_fits line e =
      let (form, (range, rest)) = all_hold (weight_checks line.number (field_at line.texts 1)) e in
      let both = and_parts (nat_le 1 (number (field_at line.texts 1))) (nat_le (number (field_at line.texts 1)) MAX_WEIGHT) range in
      (leb-true 1 (number (field_at line.texts 1)) both.0, leb-true (number (field_at line.texts 1)) MAX_WEIGHT both.1)

  weighing_fits : (line : Line) → first_fault (weighing_checks ids line) ≡ None →
      (coflow_in ids line < length ids) × (1 ≤ weight_in line) × (weight_in line ≤ MAX_WEIGHT)
  weighing_fits line e =
      let weights = weight_checks line.number (field_at line.texts 1) in
      let last = end_checks (without_first (without_first line)) 5 in
      let parts = passed_parts (id_checks ids line.number (field_at line.texts 0)) (weights ++ last) e in
      let weight = weight_fits line (passed_parts weights last parts.1).0 in
      (id_fits line parts.0, weight.0, weight.1)

  asked_fits : (field : Text) (line : Line) → first_fault (word_checks ids (word_of field) line) ≡ None → IsInRange o (command_of (asked_by ids (word_of field) line))
  asked_fits field line =
      by_choice (is_word (codes "register") field) _ _ (λ w. first_fault (word_checks ids w line) ≡ None → IsInRange o (command_of (asked_by ids w line))) (alone_fits line)
      (by_choice (is_word (codes "withdraw") field) _ _ (λ w. first_fault (word_checks ids w line) ≡ None → IsInRange o (command_of (asked_by ids w line))) (alone_fits line)
      (by_choice (is_word (codes "publish") field) _ _ (λ w. first_fault (word_checks ids w line) ≡ None → IsInRange o (command_of (asked_by ids w line))) (λ e. tt)
      (by_choice (is_word (codes "pull") field) _ _ (λ w. first_fault (word_checks ids w line) ≡ None → IsInRange o (command_of (asked_by ids w line))) (alone_fits line)
      (by_choice (is_word (codes "reweigh") field) _ _ (λ w. first_fault (word_checks ids w line) ≡ None → IsInRange o (command_of (asked_by ids w line))) (weighing_fits line)
      (λ e. cc)))))

  -- the client is from 1 to the greatest, and what it asks is in range
  abbrev LineFits : Line → Type 0
  LineFits line =
      (1 ≤ number (field_at line.texts 0)) × (number (field_at line.texts 0) ≤ MAX_CLIENTS) × IsInRange o (command_of (asked_of ids (without_first line)))

  line_fits : (line : Line) → first_fault (client_checks line.number (field_at line.texts 0) ++ ask_checks ids (without_first line)) ≡ None → LineFits line
  line_fits line e =
      let clients = client_checks line.number (field_at line.texts 0) in
      let parts = passed_parts clients (ask_checks ids (without_first line)) e in
      let (form, (range, rest)) = all_hold clients parts.0 in
      let both = and_parts (nat_le 1 (number (field_at line.texts 0))) (nat_le (number (field_at line.texts 0)) MAX_CLIENTS) range in (
        leb-true 1 (number (field_at line.texts 0)) both.0,
        leb-true (number (field_at line.texts 0)) MAX_CLIENTS both.1,
        asked_fits (field_at (without_first line).texts 0) (without_first (without_first line)) parts.1,
      )

  -- ---- all lines

  abbrev AreAsked : ℕ → List Round → Type 0
  AreAsked n rounds = All (λ (r : Round). All (MayAsk o n) r.lines) rounds

  put_ask : (n : ℕ) (x : ScriptLine) (rounds : List Round) → 1 ≤ x.client → x.client ≤ n → IsInRange o (command_of x.asked) → AreAsked n rounds → AreAsked n (put_first x rounds)
  put_ask n x [] some few range all =
      All-cons (λ (r : Round). All (MayAsk o n) r.lines) _ [] (All-cons (MayAsk o n) x [] (some, few, range) (All-nil (MayAsk o n)))
      (All-nil (λ (r : Round). All (MayAsk o n) r.lines))
  put_ask n x (round ∷ rounds) some few range all =
      let P : Round → Type 0 = λ r. All (MayAsk o n) r.lines in
      All-cons P _ rounds (All-cons (MayAsk o n) x round.lines (some, few, range) (All-head P round rounds all)) (All-tail P round rounds all)

  put_fits : (n : ℕ) (line : Line) (rounds : List Round) → AreAsked n rounds → first_fault (line_checks ids line) ≡ None → client_of (step_of ids line) ≤ n →
      AreAsked n (put_step (step_of ids line) rounds)
  put_fits n line rounds all =
      by_choice (is_word (codes "slot") (field_at line.texts 0)) _ _
      (λ end. first_fault (ended_checks ids end line) ≡ None → client_of (step_by ids end line) ≤ n → AreAsked n (put_step (step_by ids end line) rounds))
      (λ e few. All-cons (λ (r : Round). All (MayAsk o n) r.lines) _ rounds (All-nil (MayAsk o n)) all)
      (by_choice (is_word (codes "wait") (field_at line.texts 0)) _ _
      (λ end. first_fault (ended_checks ids end line) ≡ None → client_of (step_by ids end line) ≤ n → AreAsked n (put_step (step_by ids end line) rounds))
      (λ e few. All-cons (λ (r : Round). All (MayAsk o n) r.lines) _ rounds (All-nil (MayAsk o n)) all)
      (λ e few. let fits = line_fits line e in put_ask n _ rounds fits.0 few fits.2 all))

  lines_fit : (count n : ℕ) (lines : List Line) → first_fault (lines_checks ids count lines) ≡ None → clients_of ids lines ≤ n → AreAsked n (rounds_of ids lines)
  lines_fit count n [] e few = All-nil (λ (r : Round). All (MayAsk o n) r.lines)
  lines_fit count n (line ∷ lines) e few =
      let here = passed_parts (line_checks ids line) (count_checks count ++ lines_checks ids (count + 1) lines) e in
      let there = passed_parts (count_checks count) (lines_checks ids (count + 1) lines) here.1 in
      put_fits n line (rounds_of ids lines) (lines_fit (count + 1) n lines there.1 (max_right (client_of (step_of ids line)) (clients_of ids lines) n few)) here.0
      (max_left (client_of (step_of ids line)) (clients_of ids lines) n few)

  step_client : (line : Line) → first_fault (line_checks ids line) ≡ None → client_of (step_of ids line) ≤ MAX_CLIENTS
  step_client line =
      by_choice (is_word (codes "slot") (field_at line.texts 0)) _ _ (λ end. first_fault (ended_checks ids end line) ≡ None → client_of (step_by ids end line) ≤ MAX_CLIENTS)
      (λ e. omega arith)
      (by_choice (is_word (codes "wait") (field_at line.texts 0)) _ _ (λ end. first_fault (ended_checks ids end line) ≡ None → client_of (step_by ids end line) ≤ MAX_CLIENTS)
      (λ e. omega arith) (λ e. (line_fits line e).1))

  few_clients : (count : ℕ) (lines : List Line) → first_fault (lines_checks ids count lines) ≡ None → clients_of ids lines ≤ MAX_CLIENTS
  few_clients count [] e = omega arith
  few_clients count (line ∷ lines) e =
      let here = passed_parts (line_checks ids line) (count_checks count ++ lines_checks ids (count + 1) lines) e in
      let there = passed_parts (count_checks count) (lines_checks ids (count + 1) lines) here.1 in
      max_within (client_of (step_of ids line)) (clients_of ids lines) MAX_CLIENTS (step_client line here.0)
      (few_clients (count + 1) lines there.1)

  may_be_asked : (text : Text) → first_fault (text_checks ids text) ≡ None → MayBeAsked o (script_of ids text)
  may_be_asked text e = lines_fit 0 (clients_of ids (text_lines text)) (text_lines text) e (omega arith)

  -- ---- how many there are

  few_lines : (count : ℕ) (lines : List Line) → count ≤ MAX_COMMANDS → first_fault (lines_checks ids count lines) ≡ None → count + length lines ≤ MAX_COMMANDS
  few_lines count [] few e = omega (arith, few)
  few_lines count (line ∷ lines) few e =
      let here = passed_parts (line_checks ids line) (count_checks count ++ lines_checks ids (count + 1) lines) e in
      let there = passed_parts (count_checks count) (lines_checks ids (count + 1) lines) here.1 in
      let (within, rest) = all_hold (count_checks count) there.0 in
      omega (arith, few_lines (count + 1) lines (leb-true (count + 1) MAX_COMMANDS within) there.1)

-- ---- lines and rounds

lines_at : (n : ℕ) (r : Round) (rs : List Round) → length (lines_from n (r ∷ rs)) ≡ length r.lines + length (lines_from (n + 1) rs)
lines_at n r rs =
    length-append (map (λ (x : ScriptLine). (n, x)) r.lines) (lines_from (n + 1) rs) ∙
    ap (λ (k : ℕ). k + length (lines_from (n + 1) rs)) (length-map r.lines (λ (x : ScriptLine). (n, x)))

-- lines are as many whatever their rounds' numbers are
renumbered : (n m : ℕ) (rs : List Round) → length (lines_from n rs) ≡ length (lines_from m rs)
renumbered n m [] = refl
renumbered n m (r ∷ rs) = omega (arith, lines_at n r rs, lines_at m r rs, renumbered (n + 1) (m + 1) rs)

-- the lines and the rounds, together
abbrev together : List Round → ℕ
together rs = length (lines_from 0 rs) + length rs

put_ask_together : (m : ℕ) (x : ScriptLine) (rs : List Round) → together rs ≤ m + 1 → together (put_first x rs) ≤ m + 2
put_ask_together m x [] le = omega (arith, lines_at 0 record { lines = x ∷ []; runs = false } [])
put_ask_together m x (r ∷ rs) le = omega (arith, le, lines_at 0 record { lines = x ∷ r.lines; runs = r.runs } rs, lines_at 0 r rs)

put_end_together : (m : ℕ) (runs : Bool) (rs : List Round) → together rs ≤ m + 1 → together (record { lines = []; runs = runs } ∷ rs) ≤ m + 2
put_end_together m runs rs le = omega (arith, le, renumbered 1 0 rs, lines_at 0 record { lines = []; runs = runs } rs)

put_ask_rounds : (x : ScriptLine) (rs : List Round) → length (put_first x rs) ≤ length rs + 1
put_ask_rounds x [] = omega arith
put_ask_rounds x (r ∷ rs) = omega arith

module _ (ids : List ℕ) (line : Line) (rs : List Round) where
  put_together : (m : ℕ) → together rs ≤ m + 1 → together (put_step (step_of ids line) rs) ≤ m + 2
  put_together m le =
      by_choice (is_word (codes "slot") (field_at line.texts 0)) _ _ (λ end. together (put_step (step_by ids end line) rs) ≤ m + 2) (put_end_together m true rs le)
      (by_choice (is_word (codes "wait") (field_at line.texts 0)) _ _ (λ end. together (put_step (step_by ids end line) rs) ≤ m + 2) (put_end_together m false rs le)
      (put_ask_together m _ rs le))

  put_rounds : length (put_step (step_of ids line) rs) ≤ length rs + 1
  put_rounds =
      by_choice (is_word (codes "slot") (field_at line.texts 0)) _ _ (λ end. length (put_step (step_by ids end line) rs) ≤ length rs + 1) (omega arith)
      (by_choice (is_word (codes "wait") (field_at line.texts 0)) _ _ (λ end. length (put_step (step_by ids end line) rs) ≤ length rs + 1) (omega arith)
      (put_ask_rounds _ rs))

few_together : (ids : List ℕ) (lines : List Line) → together (rounds_of ids lines) ≤ length lines + 1
few_together ids [] = omega arith
few_together ids (line ∷ lines) =
    omega (arith, put_together ids line (rounds_of ids lines) (length lines) (few_together ids lines))

few_rounds : (ids : List ℕ) (lines : List Line) → length (rounds_of ids lines) ≤ length lines
few_rounds ids [] = omega arith
few_rounds ids (line ∷ lines) = omega (arith, put_rounds ids line (rounds_of ids lines), few_rounds ids lines)

-- the journal of a script that was read is short where the table has few units
short_journal : (o : Opening) (text : Text) → first_fault (text_checks o.table.ids text) ≡ None →
    sum_by (λ (x : Flow). x.units) o.table.flows ≤ MAX_LIVE_UNITS → limit_of o (script_of o.table.ids text) ≤ 2 ^ 23
short_journal o text e few =
    let lines = text_lines text in
    omega (arith, few, few_lines o 0 lines (omega arith) e, few_together o.table.ids lines, few_rounds o.table.ids lines)

-- the clients are few, whatever the flows of the table are
script_clients : (ids : List ℕ) (text : Text) → first_fault (text_checks ids text) ≡ None → (script_of ids text).clients ≤ MAX_CLIENTS
script_clients ids text e =
    few_clients record { table = record { flows = []; starts = []; ports = 0; ids = ids; arrivals = [] }; weights = []; limit = 0 } 0 (text_lines text) e

-- ---- a script that was read

pub read_is_asked : (o : Opening) (script : Script) → IsRead o.table.ids script → MayBeAsked o script
read_is_asked o script read = subst (MayBeAsked o) (sym read.script_is) (may_be_asked o read.text read.passes)

pub read_clients : (ids : List ℕ) (script : Script) → IsRead ids script → script.clients ≤ MAX_CLIENTS
read_clients ids script read = subst (λ (s : Script). s.clients ≤ MAX_CLIENTS) (sym read.script_is) (script_clients ids read.text read.passes)

pub read_is_short : (o : Opening) (script : Script) → IsRead o.table.ids script → sum_by (λ (x : Flow). x.units) o.table.flows ≤ MAX_LIVE_UNITS → limit_of o script ≤ 2 ^ 23
read_is_short o script read few = subst (λ (s : Script). limit_of o s ≤ 2 ^ 23) (sym read.script_is) (short_journal o read.text read.passes few)
