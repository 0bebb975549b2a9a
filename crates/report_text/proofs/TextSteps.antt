-- A text that grows by a line, or by lines.
use Rattle.std.proofs.Common.{◌≡◌, ℕ, ◌<◌, ◌+◌, Option, List, [], ◌∷◌, ◌++◌, append_assoc, append-nil, length, map, take, get_or, sym, ap, ◌∙◌, zero-add}
use Rattle.std.specs.Prelude.{Err, Ok, OnOk, Result, codes}
use Rattle.std.specs.List.{range_with_len}
use Rattle.std.proofs.lemmas.Grind.{flat_map-append}
use Rattle.std.proofs.lemmas.List.{map_more}
use Rattle.std.proofs.lemmas.List.FromFn.{map-range_with_len_more}
use Rattle.coflow_units.specs.declared.plan.Run.{Run}
use Rattle.report_text.specs.declared.value.PlaceLine.{PlaceLine}
use Rattle.report_text.specs.declared.value.Report.{Report}
use Rattle.report_text.specs.Text.{bound_line, charge_words, cost_line, place_line, place_line_at, place_lines, report_text, run_line, side_word, slack_line}
use Rattle.coflow_units.specs.Text.{ended, spaced}
use Rattle.coflow_units.specs.Text.{text_of}
use Rattle.report_text.specs.Text.{total_lines, version_line, weight_word}

text_more : (lines : List (List ℕ)) (line : List ℕ) → text_of (lines ++ (line ∷ [])) ≡ text_of lines ++ ended line
text_more lines line = flat_map-append ended lines (line ∷ []) ∙ ap (λ x. text_of lines ++ x) (append-nil (ended line))

-- one more line stands at the end of the text
pub one_more : (text new : List ℕ) (lines more : List (List ℕ)) (line : List ℕ) → text ≡ text_of lines → new ≡ text ++ ended line → more ≡ lines ++ (line ∷ []) → new ≡ text_of more
one_more text new lines more line old step grown = step ∙ (ap (λ x. x ++ ended line) old ∙ (sym (text_more lines line) ∙ ap text_of (sym grown)))

-- one more line stands at the end of the text, of which some lines are told
pub one_more_behind : (front text new : List ℕ) (lines more : List (List ℕ)) (line : List ℕ) → text ≡ front ++ text_of lines → new ≡ text ++ ended line →
    more ≡ lines ++ (line ∷ []) → new ≡ front ++ text_of more
one_more_behind front text new lines more line old step grown =
    step ∙ (ap (λ x. x ++ ended line) old ∙ (append_assoc front (text_of lines) (ended line) ∙ ap (λ x. front ++ x) (sym (text_more lines line) ∙ ap text_of (sym grown))))

-- the lines of one place more
pub place_step : (r : Report) (k : ℕ) (front text new : List ℕ) → text ≡ front ++ text_of (map (place_line_at r) (range_with_len 0 k)) → new ≡ text ++ ended (place_line_at r k) →
    new ≡ front ++ text_of (map (place_line_at r) (range_with_len 0 (k + 1)))
place_step r k front text new old step =
    one_more_behind front text new (map (place_line_at r) (range_with_len 0 k)) (map (place_line_at r) (range_with_len 0 (k + 1))) (place_line_at r k) old step
    (map-range_with_len_more (place_line_at r) 0 k k (zero-add k))

-- the line of one element more
pub each_step : {X : Type 0} (line : X → List ℕ) (xs : List X) (k : ℕ) (x : X) (front text new : List ℕ) → k < length xs → x ≡ get_or xs k x →
    text ≡ front ++ text_of (map line (take k xs)) → new ≡ text ++ ended (line x) → new ≡ front ++ text_of (map line (take (k + 1) xs))
each_step line xs k x front text new lt here old step =
    one_more_behind front text new (map line (take k xs)) (map line (take (k + 1) xs)) (line x) old step
    (map_more line xs k x lt ∙ ap (λ y. map line (take k xs) ++ (line y ∷ [])) (sym here))

-- more lines stand at the end of the text
pub lines_more : (lines more : List (List ℕ)) (text new : List ℕ) → text ≡ text_of lines → new ≡ text ++ text_of more → new ≡ text_of (lines ++ more)
lines_more lines more text new old step = step ∙ (ap (λ x. x ++ text_of more) old ∙ sym (flat_map-append ended lines more))

-- the lines of the runs and the last line stand behind a text, and end it
pub served : (lines : List (List ℕ)) (runs : List Run) (text all : List ℕ) → text ≡ text_of lines → all ≡ text ++ text_of (map run_line runs ++ (codes "end" ∷ [])) →
    all ≡ text_of (lines ++ map run_line runs ++ (codes "end" ∷ []))
served lines runs text all old step =
    lines_more lines (map run_line runs ++ (codes "end" ∷ [])) text all old step ∙ ap text_of (sym (append_assoc lines (map run_line runs) (codes "end" ∷ [])))

-- the parts of a text in turn
pub whole : (r : Report) (version places totals all : List ℕ) → version ≡ ended (version_line r.weights) → places ≡ version ++ text_of (place_lines r) →
    totals ≡ places ++ text_of (total_lines r) → all ≡ totals ++ text_of (map run_line r.runs ++ (codes "end" ∷ [])) → all ≡ report_text r
whole r version places totals all v p t e =
    let first = version_line r.weights ∷ [] in
    let to_places = lines_more first (place_lines r) version places (v ∙ sym (append-nil (ended (version_line r.weights)))) p in
    let to_totals = lines_more (first ++ place_lines r) (total_lines r) places totals to_places t in
    served (first ++ place_lines r ++ total_lines r) r.runs totals all to_totals e

-- the lines of all places
pub places_done : (r : Report) (k : ℕ) (front text : List ℕ) → k ≡ length r.places → text ≡ front ++ text_of (map (place_line_at r) (range_with_len 0 k)) →
    text ≡ front ++ text_of (place_lines r)
places_done r k front text is old = old ∙ ap (λ n. front ++ text_of (map (place_line_at r) (range_with_len 0 n))) is

-- one more word stands at the end of the text
pub grown : (text a b x y : List ℕ) → a ≡ text ++ x → b ≡ a ++ y → b ≡ text ++ (x ++ y)
grown text a b x y first next = next ∙ (ap (λ z. z ++ y) first ∙ append_assoc text x y)

-- the words of a place line in turn
pub place_written : (k : ℕ) (p : PlaceLine) (weight : Option ℕ) (text a b c d e : List ℕ) → a ≡ text ++ codes "place" → b ≡ a ++ spaced k → c ≡ b ++ charge_words p →
    d ≡ c ++ weight_word weight → e ≡ d ++ codes "\n" → e ≡ text ++ ended (place_line k p weight)
place_written k p weight text a b c d e ha hb hc hd he =
    let number = grown text a b (codes "place") (spaced k) ha hb in
    let charge = grown text b c (codes "place" ++ spaced k) (charge_words p) number hc in
    let words = grown text c d (codes "place" ++ spaced k ++ charge_words p) (weight_word weight) charge hd in
    grown text d e (place_line k p weight) (codes "\n") words he

-- the line of a name and a number
pub named_written : (name : List ℕ) (n : ℕ) (text a b c : List ℕ) → a ≡ text ++ name → b ≡ a ++ spaced n → c ≡ b ++ codes "\n" → c ≡ text ++ ended (name ++ spaced n)
named_written name n text a b c ha hb hc = grown text b c (name ++ spaced n) (codes "\n") (grown text a b name (spaced n) ha hb) hc

-- what a place line says of a place, in turn
pub charge_written : {T E : Type 0} (res : Result T E) (p : PlaceLine) (text a b c d e f : List ℕ) → a ≡ text ++ spaced p.id → b ≡ a ++ codes " " →
    c ≡ b ++ side_word p.port.side → d ≡ c ++ spaced p.port.number → e ≡ d ++ spaced p.y → OnOk res (f ≡ e ++ spaced p.done) → OnOk res (f ≡ text ++ charge_words p)
charge_written (Ok x) p text a b c d e f ha hb hc hd he hf =
    let space = grown text a b (spaced p.id) (codes " ") ha hb in
    let side = grown text b c (spaced p.id ++ codes " ") (side_word p.port.side) space hc in
    let number = grown text c d (spaced p.id ++ codes " " ++ side_word p.port.side) (spaced p.port.number) side hd in
    let own = grown text d e (spaced p.id ++ codes " " ++ side_word p.port.side ++ spaced p.port.number) (spaced p.y) number he in
    grown text e f (spaced p.id ++ codes " " ++ side_word p.port.side ++ spaced p.port.number ++ spaced p.y) (spaced p.done) own hf
charge_written (Err x) p text a b c d e f ha hb hc hd he hf = tt

-- the lines of the totals in turn
pub totals_written : {T E : Type 0} (res : Result T E) (r : Report) (text a b c : List ℕ) → a ≡ text ++ ended (bound_line r.bound) → b ≡ a ++ ended (slack_line r.slack) →
    OnOk res (c ≡ b ++ ended (cost_line r.cost)) → OnOk res (c ≡ text ++ text_of (total_lines r))
totals_written (Ok x) r text a b c ha hb hc =
    let bound = ended (bound_line r.bound) in
    let slack = ended (slack_line r.slack) in
    let cost = ended (cost_line r.cost) in
    let lines : (bound ++ slack) ++ cost ≡ text_of (total_lines r) = append_assoc bound slack cost ∙ ap (λ x. bound ++ (slack ++ x)) (sym (append-nil cost)) in
    grown text b c (bound ++ slack) cost (grown text a b bound slack ha hb) hc ∙ ap (λ x. text ++ x) lines
totals_written (Err x) r text a b c ha hb hc = tt
