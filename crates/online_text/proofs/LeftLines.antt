-- The lines that are left of a list of which some elements were read.
use Rattle.std.proofs.Common.{◌≡◌, ℕ, ◌+◌, List, [], ◌∷◌, ◌++◌, append_assoc, append-nil, length, length-append, map, get_or, refl, sym, ap, subst, ◌∙◌, arith}
use Rattle.std.specs.Prelude.{◌↔◌, All}
use Rattle.std.specs.List.{range_with_len}
use Rattle.std.proofs.lemmas.List.{get_or_append_left}
use Rattle.std.proofs.Math.Seq.{get_or-append_seam}
use Rattle.coflow_units.proofs.Fronts.{head_of}
use Rattle.report_text.proofs.LineLists.{tail_is}
use Rattle.online_text.specs.Draft.{AreLeft, lines_from}

pub all_middle : {X : Type 0} (P : X → Type 0) (xs ys : List X) (y : X) → All P (xs ++ (y ∷ ys)) → P y
all_middle P xs ys y h = subst P (get_or-append_seam xs y ys y) (h (length xs) y (omega (arith, length-append xs (y ∷ ys))))

pub all_front : {X : Type 0} (P : X → Type 0) (xs ys : List X) → All P (xs ++ ys) → All P xs
all_front P xs ys h k d lt = subst P (get_or_append_left xs ys d k lt) (h k d (omega (arith, lt, length-append xs ys)))

-- ---- an element that is read

pub item_taken : {X : Type 0} (f : ℕ → X → List ℕ) (P : X → Type 0) (xs new whole : List X) (x : X) (line closing : List ℕ) (rest more : List (List ℕ)) → All P whole →
    new ≡ xs ++ (x ∷ []) → line ≡ f (length xs + 1) x → (line ≡ closing → ⊥) → ((y : X) → P y → f (length xs + 1) y ≡ f (length xs + 1) x → y ≡ x) →
    AreLeft f xs whole (closing ∷ rest) (line ∷ more) ↔ AreLeft f new whole (closing ∷ rest) more
item_taken f P xs new whole x line closing rest more small grown is other unique = (forward, backward)
  where
    count : length new ≡ length xs + 1
    count = ap length grown ∙ length-append xs (x ∷ [])

    forward : AreLeft f xs whole (closing ∷ rest) (line ∷ more) → AreLeft f new whole (closing ∷ rest) more
    forward ([], has, e) = absurd (other (head_of line closing more rest e))
    forward (y ∷ ys, has, e) =
        let behind = lines_from f (length xs + 1) ys ++ (closing ∷ rest) in
        let same : y ≡ x = unique y (all_middle P xs ys y (subst (All P) has small)) (sym (head_of line (f (length xs + 1) y) more behind e) ∙ is) in (
          ys,
          has ∙ (ap (λ z. xs ++ (z ∷ ys)) same ∙ (sym (append_assoc xs (x ∷ []) ys) ∙ ap (λ z. z ++ ys) (sym grown))),
          tail_is line (f (length xs + 1) y) more behind e ∙ ap (λ k. lines_from f k ys ++ (closing ∷ rest)) (sym count),
        )

    backward : AreLeft f new whole (closing ∷ rest) more → AreLeft f xs whole (closing ∷ rest) (line ∷ more)
    backward (ys, has, e) = (
      x ∷ ys,
      has ∙ (ap (λ z. z ++ ys) grown ∙ append_assoc xs (x ∷ []) ys),
      (λ i. is i ∷ (e ∙ ap (λ k. lines_from f k ys ++ (closing ∷ rest)) count) i),
    )

-- ---- the line that ends the list

pub ended_with : {X : Type 0} (f : ℕ → X → List ℕ) (P : X → Type 0) (xs whole : List X) (line closing : List ℕ) (rest more : List (List ℕ)) → All P whole →
    ((y : X) → P y → line ≡ f (length xs + 1) y → ⊥) → AreLeft f xs whole (closing ∷ rest) (line ∷ more) → (whole ≡ xs) × (line ≡ closing) × (more ≡ rest)
ended_with f P xs whole line closing rest more small none ([], has, e) = (has ∙ append-nil xs, head_of line closing more rest e, tail_is line closing more rest e)
ended_with f P xs whole line closing rest more small none (y ∷ ys, has, e) =
    absurd (none y (all_middle P xs ys y (subst (All P) has small)) (head_of line (f (length xs + 1) y) more (lines_from f (length xs + 1) ys ++ (closing ∷ rest)) e))

pub ends_with : {X : Type 0} (f : ℕ → X → List ℕ) (xs whole : List X) (line closing : List ℕ) (rest more : List (List ℕ)) → whole ≡ xs → line ≡ closing → more ≡ rest →
    AreLeft f xs whole (closing ∷ rest) (line ∷ more)
ends_with f xs whole line closing rest more same is others = ([], same ∙ sym (append-nil xs), (λ i. is i ∷ others i))

-- ---- a list of which nothing was read

pub starts : {X : Type 0} (f : ℕ → X → List ℕ) (xs whole : List X) (closing lines : List (List ℕ)) → xs ≡ [] → lines ≡ lines_from f 0 whole ++ closing →
    AreLeft f xs whole closing lines
starts f xs whole closing lines none e = (whole, ap (λ z. z ++ whole) (sym none), e ∙ ap (λ (z : List _). lines_from f (length z) whole ++ closing) (sym none))

pub started : {X : Type 0} (f : ℕ → X → List ℕ) (xs whole : List X) (closing lines : List (List ℕ)) → xs ≡ [] → AreLeft f xs whole closing lines →
    lines ≡ lines_from f 0 whole ++ closing
started {X} f xs whole closing lines none (ys, has, e) =
    let all : whole ≡ ys = has ∙ ap (λ z. z ++ ys) none in
    e ∙ (ap (λ (z : List X). lines_from f (length z) ys ++ closing) none ∙ ap (λ z. lines_from f 0 z ++ closing) (sym all))

-- ---- the lines of a whole list

pub each_from : {X : Type 0} (line : X → List ℕ) (k : ℕ) (xs : List X) → map line xs ≡ lines_from (λ j. line) k xs
each_from line k [] = refl
each_from line k (x ∷ xs) = ap (λ ls. line x ∷ ls) (each_from line (k + 1) xs)

counted_on : {X : Type 0} (f : ℕ → X → List ℕ) (d : X) (front xs : List X) (n : ℕ) → length front ≡ n →
    map (λ k. f (k + 1) (get_or (front ++ xs) k d)) (range_with_len n (length xs)) ≡ lines_from f n xs
counted_on f d front [] n at = refl
counted_on f d front (x ∷ xs) n at =
    let here : get_or (front ++ (x ∷ xs)) n d ≡ x = ap (λ k. get_or (front ++ (x ∷ xs)) k d) (sym at) ∙ get_or-append_seam front x xs d in
    let longer : length (front ++ (x ∷ [])) ≡ n + 1 = omega (arith, length-append front (x ∷ []), at) in
    let more = counted_on f d (front ++ (x ∷ [])) xs (n + 1) longer in
    let same = ap (λ zs. map (λ k. f (k + 1) (get_or zs k d)) (range_with_len (n + 1) (length xs))) (append_assoc front (x ∷ []) xs) in
    λ i. f (n + 1) (here i) ∷ (sym same ∙ more) i

pub counted_from : {X : Type 0} (f : ℕ → X → List ℕ) (d : X) (xs : List X) → map (λ k. f (k + 1) (get_or xs k d)) (range_with_len 0 (length xs)) ≡ lines_from f 0 xs
counted_from f d xs = counted_on f d [] xs 0 refl
