-- The weights of made coflows pass, and say the weights.
use Rattle.std.proofs.Common.{◌≡◌, ℕ, suc, ◌+◌, ◌<◌, ◌≤◌, ◌^◌, List, [], ◌∷◌, ◌++◌, None, true, false, append-nil, get_or, length, map, refl, ap, ◌∙◌, arith}
use Rattle.std.specs.Prelude.{All, decimal, nat_eq, nat_le, ◌&&◌}
use Rattle.std.specs.List.{list_any}
use Rattle.std.proofs.lemmas.Bool.Decides.{nat_tests}
use Rattle.std.proofs.lemmas.List.{get_or-map, length-map}
use Rattle.std.proofs.lemmas.List.Elements.{All-nil, All-push}
use Rattle.std.proofs.lemmas.List.Folds.{list_any_at}
use Rattle.coflow_units.specs.declared.trace.CoflowLine.{CoflowLine}
use Rattle.coflow_units.specs.Trace.{ids_of}
use Rattle.text_fields.specs.Checks.{Check, first_fault}
use Rattle.text_fields.specs.Fields.{Text, fields}
use Rattle.text_fields.specs.Lines.{Line, lines_of}
use Rattle.text_fields.specs.Numbers.{number}
use Rattle.text_fields.proofs.CheckLists.{pass_first}
use Rattle.weights.specs.Checks.{end_checks, fresh_checks, id_checks, id_of, is_known, line_checks, lines_checks, weight_checks}
use Rattle.weights.specs.Weights.{text_checks, weight_of, weights_of}
use Rattle.weights.specs.declared.fault.WeightsFault.{WeightsFault}
use Rattle.workload.specs.declared.coflow.MadeCoflow.{MadeCoflow}
use Rattle.workload.specs.Made.{said_coflow}
use Rattle.workload.specs.Text.{weight_line, weights_text}
use Rattle.workload.proofs.DecimalFields.{is_a_number, is_word, value_is}
use Rattle.workload.proofs.LineWords.{AreWords, behind_spaces, words_are_fields, words_are_short}
use Rattle.workload.proofs.MadeLines.{full_lines, numbered_are, read_lines, text_is_short}
use Rattle.workload.proofs.MadeRanges.{AreMade, IsMade}
use Rattle.workload.proofs.TextLines.{IsFullLine, lines_are, words_are_full}
use Rattle.workload.proofs.TracePasses.{unused}

-- the fields of the line of a weight
abbrev weight_texts : MadeCoflow → List Text
weight_texts c = decimal c.id ∷ decimal c.weight ∷ []

abbrev weight_read : ℕ → MadeCoflow → Line
weight_read n c = record { number = n; texts = weight_texts c }

module _ (c : MadeCoflow) (h : IsMade c) where
  line_is : weight_line c ≡ decimal c.id ++ behind_spaces (decimal c.weight ∷ [])
  line_is = rw append-nil refl

  small_id : c.id < 2 ^ 64
  small_id = omega (arith, h.id_small)

  small_weight : c.weight < 2 ^ 64
  small_weight = omega (arith, h.weight_small)

  weight_is_word : AreWords (decimal c.weight ∷ [])
  weight_is_word = (is_word c.weight (omega (arith, h.weight_small)), tt)

  weight_fields : fields (weight_line c) ≡ weight_texts c
  weight_fields = ap fields line_is ∙ words_are_fields (decimal c.id) (decimal c.weight ∷ []) (is_word c.id (omega (arith, h.id_small))) weight_is_word

  weight_is_full : IsFullLine (weight_line c)
  weight_is_full = words_are_full (weight_line c) (decimal c.id) (decimal c.weight ∷ []) line_is (is_word c.id (omega (arith, h.id_small))) weight_is_word

  weight_is_short : length (weight_line c) + 1 ≤ 14
  weight_is_short = omega (arith, ap length line_is, words_are_short (decimal c.id) (decimal c.weight ∷ []) (is_word c.id (omega (arith, h.id_small))) weight_is_word)

  line_passes : (n : ℕ) (ids earlier : List ℕ) → is_known ids c.id ≡ true → list_any (nat_eq c.id) earlier ≡ false → first_fault (line_checks ids earlier (weight_read n c)) ≡ None
  line_passes n ids earlier known fresh =
      let low = h.has_weight in
      let high = h.weight_small in
      let is_one : is_known ids (number (decimal c.id)) ≡ true = rw (value_is c.id small_id) known in
      let is_new : list_any (nat_eq (number (decimal c.id))) earlier ≡ false = rw (value_is c.id small_id) fresh in
      let in_range : (nat_le 1 (number (decimal c.weight)) && nat_le (number (decimal c.weight)) (2 ^ 32)) ≡ true =
      rw (value_is c.weight small_weight) (grind (arith, nat_tests)) in
      let named : List (Check WeightsFault) = id_checks ids n (decimal c.id) in
      let once : List (Check WeightsFault) = fresh_checks earlier n (decimal c.id) in
      let weighed : List (Check WeightsFault) = weight_checks n (decimal c.weight) in
      let ended : List (Check WeightsFault) = end_checks (weight_read n c) in
      let a : first_fault named ≡ None = rw (is_a_number c.id small_id, is_one) refl in
      let b : first_fault once ≡ None = rw is_new refl in
      let d : first_fault weighed ≡ None = rw (is_a_number c.weight small_weight, in_range) refl in
      pass_first named (once ++ (weighed ++ ended)) a ∙ (pass_first once (weighed ++ ended) b ∙ pass_first weighed ended d)

weights_pass : (n m : ℕ) (ids earlier : List ℕ) (cs : List MadeCoflow) → AreMade m cs → All (λ (c : MadeCoflow). is_known ids c.id ≡ true) cs → All (λ e. e < m) earlier →
    first_fault (lines_checks ids earlier (read_lines weight_texts n cs)) ≡ None
weights_pass n m ids earlier [] h known below = refl
weights_pass n m ids earlier (c ∷ cs) h known below =
    let line = weight_read n c in
    let others : List ℕ → List (Check WeightsFault) = λ (before : List ℕ). lines_checks ids before (read_lines weight_texts (n + 1) cs) in
    let id = h.0 in
    let all : All (λ e. e < m + 1) (earlier ++ c.id ∷ []) = All-push (λ e. e < m + 1) earlier c.id (λ k d lt. omega (arith, below k d lt)) (omega arith) in
    let next : first_fault (others (earlier ++ c.id ∷ [])) ≡ None =
    weights_pass (n + 1) (m + 1) ids (earlier ++ c.id ∷ []) cs h.1.1 (λ k d lt. known (suc k) d (omega arith)) all in
    let rest : first_fault (others (earlier ++ id_of line ∷ [])) ≡ None = ap (λ (i : ℕ). first_fault (others (earlier ++ i ∷ []))) (value_is c.id (small_id c h.1.0)) ∙ next in
    pass_first (line_checks ids earlier line) (others (earlier ++ id_of line ∷ [])) (line_passes c h.1.0 n ids earlier (known 0 c (omega arith)) (unused m c.id earlier h.0 below))
    ∙ rest

-- the trace has the id of each made coflow
all_known : (cs : List MadeCoflow) → All (λ (c : MadeCoflow). is_known (ids_of (map said_coflow cs)) c.id ≡ true) cs
all_known cs = λ k d lt.
    let many = length-map cs said_coflow in
    let more = length-map (map said_coflow cs) (λ (x : CoflowLine). x.id) in
    let at : get_or (ids_of (map said_coflow cs)) k 0 ≡ (get_or cs k d).id = get_or-map (λ (x : CoflowLine). x.id) (map said_coflow cs) k (said_coflow d) 0 (omega arith) ∙
    ap (λ (x : CoflowLine). x.id) (get_or-map said_coflow cs k d (said_coflow d) lt) in
    list_any_at (nat_eq (get_or cs k d).id) (ids_of (map said_coflow cs)) k 0 (omega arith) (rw at (same (get_or cs k d).id))
  where
    same : (id : ℕ) → nat_eq id id ≡ true
    same id = grind (arith, nat_tests)

lines_read : (cs : List MadeCoflow) → AreMade 1 cs → lines_of (weights_text cs) ≡ read_lines weight_texts 1 cs
lines_read cs h = lines_are 1 (map weight_line cs) (full_lines weight_line weight_is_full 1 cs h) ∙ numbered_are weight_line weight_texts weight_fields 1 1 cs h

-- all checks hold
pub weights_text_passes : (cs : List MadeCoflow) → AreMade 1 cs → first_fault (text_checks (weights_text cs) (map said_coflow cs)) ≡ None
weights_text_passes cs h =
    ap (λ (l : List Line). first_fault (lines_checks (ids_of (map said_coflow cs)) [] l)) (lines_read cs h)
    ∙ weights_pass 1 1 (ids_of (map said_coflow cs)) [] cs h (all_known cs) (All-nil (λ e. e < 1))

-- the text is short
pub weights_are_short : (cs : List MadeCoflow) → AreMade 1 cs → length cs ≡ 200 → length (weights_text cs) ≤ 2 ^ 26
weights_are_short cs h count = omega (arith, text_is_short weight_line 14 weight_is_short 1 cs h)

-- a line of an earlier id says nothing of these coflows
later : (m k : ℕ) (line : Line) (lines : List Line) (cs : List MadeCoflow) → id_of line ≡ m → m < k → AreMade k cs →
    map (λ (x : CoflowLine). weight_of (line ∷ lines) x.id) (map said_coflow cs) ≡ map (λ (x : CoflowLine). weight_of lines x.id) (map said_coflow cs)
later m k line lines [] e less h = refl
later m k line lines (c ∷ cs) e less h =
    let differ : nat_eq c.id (id_of line) ≡ false = let id = h.0 in grind (arith, nat_tests) in
    rw differ (ap (λ l. weight_of lines c.id ∷ l) (later m (k + 1) line lines cs e (omega arith) h.1.1))

weights_said : (n m : ℕ) (cs : List MadeCoflow) → AreMade m cs →
    map (λ (x : CoflowLine). weight_of (read_lines weight_texts n cs) x.id) (map said_coflow cs) ≡ map (λ (c : MadeCoflow). c.weight) cs
weights_said n m [] h = refl
weights_said n m (c ∷ cs) h =
    let line = weight_read n c in
    let id : id_of line ≡ c.id = value_is c.id (small_id c h.1.0) in
    let own : nat_eq c.id (id_of line) ≡ true = grind (arith, nat_tests) in
    let rest = later m (m + 1) line (read_lines weight_texts (n + 1) cs) cs (id ∙ h.0) (omega arith) h.1.1 ∙ weights_said (n + 1) (m + 1) cs h.1.1 in
    rw own (ap (λ w. w ∷ map (λ (x : CoflowLine). weight_of (read_lines weight_texts n (c ∷ cs)) x.id) (map said_coflow cs)) (value_is c.weight (small_weight c h.1.0)) ∙
    ap (λ l. c.weight ∷ l) rest)

-- the weights are what the text says
pub weights_are_said : (cs : List MadeCoflow) → AreMade 1 cs → weights_of (weights_text cs) (map said_coflow cs) ≡ map (λ (c : MadeCoflow). c.weight) cs
weights_are_said cs h = ap (λ (l : List Line). map (λ (x : CoflowLine). weight_of l x.id) (map said_coflow cs)) (lines_read cs h) ∙ weights_said 1 1 cs h
