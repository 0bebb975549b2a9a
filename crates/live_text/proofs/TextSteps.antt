-- The text of a printed journal grows by lines.
use Rattle.std.proofs.Common.{◌≡◌, ℕ, ◌<◌, ◌+◌, List, [], ◌∷◌, ◌++◌, length, map, take, get_or, sym, ap, ◌∙◌, arith, zero-add}
use Rattle.std.specs.Prelude.{codes}
use Rattle.std.proofs.lemmas.List.{length-take-le, take_more}
use Rattle.coflow_units.specs.Text.{ended, text_of}
use Rattle.report_text.specs.Text.{run_line}
use Rattle.report_text.proofs.TextSteps.{lines_more, one_more_behind, served}
use Rattle.live_text.specs.declared.value.Live.{Live}
use Rattle.live_text.specs.Text.{entry_line, live_text, numbered, order_line, pull_line}

-- the line of one element more
pub numbered_more : {X : Type 0} (line : ℕ → X → List ℕ) (k : ℕ) (xs : List X) (x : X) → numbered line k (xs ++ (x ∷ [])) ≡ numbered line k xs ++ (line (length xs + k) x ∷ [])
numbered_more line k [] x = ap (λ n. line n x ∷ []) (sym (zero-add k))
numbered_more line k (y ∷ ys) x =
    let place : length ys + (k + 1) ≡ length (y ∷ ys) + k = omega arith in
    ap (λ ls. line k y ∷ ls) (numbered_more line (k + 1) ys x ∙ ap (λ n. numbered line (k + 1) ys ++ (line n x ∷ [])) place)

pub numbered_step : {X : Type 0} (line : ℕ → X → List ℕ) (xs : List X) (k : ℕ) (x : X) (front text new : List ℕ) → k < length xs → x ≡ get_or xs k x →
    text ≡ front ++ text_of (numbered line 1 (take k xs)) → new ≡ text ++ ended (line (k + 1) x) → new ≡ front ++ text_of (numbered line 1 (take (k + 1) xs))
numbered_step line xs k x front text new lt here old step =
    one_more_behind front text new (numbered line 1 (take k xs)) (numbered line 1 (take (k + 1) xs)) (line (k + 1) x) old step
    (ap (numbered line 1) (take_more xs k x lt ∙ ap (λ y. take k xs ++ (y ∷ [])) (sym here)) ∙ (numbered_more line 1 (take k xs) x
    ∙ ap (λ n. numbered line 1 (take k xs) ++ (line (n + 1) x ∷ [])) (length-take-le k xs (omega (arith, lt)))))

-- the parts of the text in turn
pub whole : (l : Live) (first entries orders pulls all : List ℕ) → first ≡ codes "sincronia live 1\n" → entries ≡ first ++ text_of (numbered entry_line 1 l.entries) →
    orders ≡ entries ++ text_of (numbered order_line 1 l.orders) → pulls ≡ orders ++ text_of (map pull_line l.pulls) →
    all ≡ pulls ++ text_of (map run_line l.runs ++ (codes "end" ∷ [])) → all ≡ live_text l
whole l first entries orders pulls all f e o p n =
    let l0 = codes "sincronia live 1" ∷ [] in
    let l1 = l0 ++ numbered entry_line 1 l.entries in
    let l2 = l1 ++ numbered order_line 1 l.orders in
    let l3 = l2 ++ map pull_line l.pulls in
    let t1 = lines_more l0 (numbered entry_line 1 l.entries) first entries f e in
    let t2 = lines_more l1 (numbered order_line 1 l.orders) entries orders t1 o in
    let t3 = lines_more l2 (map pull_line l.pulls) orders pulls t2 p in
    served l3 l.runs pulls all t3 n
