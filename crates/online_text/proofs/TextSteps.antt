-- The text of an online run grows by lines.
use Rattle.std.proofs.Common.{◌≡◌, ℕ, ◌<◌, ◌+◌, List, [], ◌∷◌, ◌++◌, append_assoc, append-nil, length, map, take, get_or, refl, sym, ap, ◌∙◌, zero-add}
use Rattle.std.specs.Prelude.{codes}
use Rattle.std.specs.List.{flat_map, range_with_len}
use Rattle.std.proofs.lemmas.Grind.{flat_map-append}
use Rattle.std.proofs.lemmas.List.{take_more}
use Rattle.std.proofs.lemmas.List.FromFn.{map-range_with_len_more}
use Rattle.report_text.specs.Text.{bound_line, cost_line, run_line}
use Rattle.coflow_units.specs.Text.{ended, text_of}
use Rattle.report_text.proofs.TextSteps.{lines_more, one_more, one_more_behind, served}
use Rattle.online_text.specs.declared.value.Epoch.{Epoch}
use Rattle.online_text.specs.declared.value.Online.{Online}
use Rattle.online_text.specs.Text.{certificate_lines, done_line, epoch_lines, online_text, order_lines, time_line, total_line}

-- the line of one number more
pub number_step : (line : ℕ → List ℕ) (k : ℕ) (front text new : List ℕ) → text ≡ front ++ text_of (map line (range_with_len 0 k)) → new ≡ text ++ ended (line k) →
    new ≡ front ++ text_of (map line (range_with_len 0 (k + 1)))
number_step line k front text new old step =
    one_more_behind front text new (map line (range_with_len 0 k)) (map line (range_with_len 0 (k + 1))) (line k) old step (map-range_with_len_more line 0 k k (zero-add k))

-- more lines stand behind a text
pub lines_behind : (front text new : List ℕ) (lines more : List (List ℕ)) → text ≡ front ++ text_of lines → new ≡ text ++ text_of more → new ≡ front ++ text_of (lines ++ more)
lines_behind front text new lines more old step =
    step ∙ ap (λ x. x ++ text_of more) old ∙ append_assoc front (text_of lines) (text_of more) ∙ ap (λ x. front ++ x) (sym (flat_map-append ended lines more))

block_more : {X : Type 0} (block : X → List (List ℕ)) (xs : List X) (k : ℕ) (x : X) → k < length xs → x ≡ get_or xs k x →
    flat_map block (take (k + 1) xs) ≡ flat_map block (take k xs) ++ block x
block_more block xs k x lt here =
    ap (flat_map block) (take_more xs k x lt) ∙ flat_map-append block (take k xs) (get_or xs k x ∷ []) ∙
    ap (λ ls. flat_map block (take k xs) ++ ls) (append-nil (block (get_or xs k x)) ∙ ap block (sym here))

-- the lines of one element more
pub block_step : {X : Type 0} (block : X → List (List ℕ)) (xs : List X) (k : ℕ) (x : X) (front text new : List ℕ) → k < length xs → x ≡ get_or xs k x →
    text ≡ front ++ text_of (flat_map block (take k xs)) → new ≡ text ++ text_of (block x) → new ≡ front ++ text_of (flat_map block (take (k + 1) xs))
block_step block xs k x front text new lt here old step =
    lines_behind front text new (flat_map block (take k xs)) (block x) old step ∙ ap (λ ls. front ++ text_of ls) (sym (block_more block xs k x lt here))

-- the lines of a publishing
pub epoch_whole : (e : Epoch) (front time order all : List ℕ) → time ≡ front ++ ended (time_line e.time) → order ≡ time ++ text_of (order_lines e.places) →
    all ≡ order ++ ended (bound_line e.bound) → all ≡ front ++ text_of (epoch_lines e)
epoch_whole e front time order all t o b =
    let first = time_line e.time ∷ [] in
    let to_time = t ∙ ap (λ x. front ++ x) (sym (append-nil (ended (time_line e.time)))) in
    let to_order = lines_behind front time order first (order_lines e.places) to_time o in
    one_more_behind front order all (first ++ order_lines e.places) (epoch_lines e) (bound_line e.bound) to_order b
    (sym (append_assoc first (order_lines e.places) (bound_line e.bound ∷ [])))

-- the parts of the text in turn
pub whole : (o : Online) (first epochs done cost release total all : List ℕ) → first ≡ codes "sincronia online 2\n" →
    epochs ≡ first ++ text_of (flat_map epoch_lines o.epochs) → done ≡ epochs ++ text_of (map done_line o.done) → cost ≡ done ++ ended (cost_line o.cost) →
    release ≡ cost ++ text_of (certificate_lines o.release) →
    total ≡ release ++ ended (total_line o.total) → all ≡ total ++ text_of (map run_line o.runs ++ (codes "end" ∷ [])) → all ≡ online_text o
whole o first epochs done cost release total all f e d c r t n =
    let l0 = codes "sincronia online 2" ∷ [] in
    let l1 = l0 ++ flat_map epoch_lines o.epochs in
    let l2 = l1 ++ map done_line o.done in
    let l3 = l2 ++ (cost_line o.cost ∷ []) in
    let l4 = l3 ++ certificate_lines o.release in
    let l5 = l4 ++ (total_line o.total ∷ []) in
    let t1 = lines_more l0 (flat_map epoch_lines o.epochs) first epochs f e in
    let t2 = lines_more l1 (map done_line o.done) epochs done t1 d in
    let t3 = one_more done cost l2 l3 (cost_line o.cost) t2 c refl in
    let t4 = lines_more l3 (certificate_lines o.release) cost release t3 r in
    let t5 = one_more release total l4 l5 (total_line o.total) t4 t refl in
    served l5 o.runs total all t5 n
