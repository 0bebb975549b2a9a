-- Lists of lines that begin with one byte, up to a line that begins with another.
use Rattle.std.proofs.Common.{◌≡◌, ◌⊎◌, inl, inr, ℕ, zero, suc, ◌+◌, ◌<◌, List, [], ◌∷◌, ◌++◌, append_assoc, length, map, drop, get_or, refl, sym, ap, subst, ◌∙◌, arith, zero-add}
use Rattle.std.proofs.Common.{length-append}
use Rattle.std.specs.Prelude.{codes}
use Rattle.std.specs.List.{range_with_len}
use Rattle.std.proofs.lemmas.List.FromFn.{map-range_with_len_more, get_or-map-range_with_len, length-map-range_with_len}
use Rattle.std.proofs.Math.Seq.{get_or-append_seam}
use Rattle.report_text.specs.declared.value.Report.{Report}
use Rattle.report_text.specs.Text.{bound_line, cost_line, place_line_at, place_lines, report_lines, run_line, slack_line, total_lines, version_line}
use Rattle.coflow_units.proofs.Fronts.{head_of}

-- the first byte of a line
abbrev pub first : List ℕ → ℕ
first [] = 0
first (b ∷ bs) = b

-- each line begins with the byte
abbrev pub AllFirst : ℕ → List (List ℕ) → Type 0
AllFirst p [] = Unit {0}
AllFirst p (x ∷ xs) = (first x ≡ p) × AllFirst p xs

pub all_first : {X : Type 0} (p : ℕ) (f : X → List ℕ) → ((x : X) → first (f x) ≡ p) → (xs : List X) → AllFirst p (map f xs)
all_first p f h [] = tt
all_first p f h (x ∷ xs) = (h x, all_first p f h xs)

pub inner_first : (p : ℕ) (xs zs : List (List ℕ)) (l : List ℕ) → AllFirst p (xs ++ (l ∷ zs)) → first l ≡ p
inner_first p [] zs l h = h.0
inner_first p (x ∷ xs) zs l h = inner_first p xs zs l h.1

pub tail_is : (x y : List ℕ) (xs ys : List (List ℕ)) → x ∷ xs ≡ y ∷ ys → xs ≡ ys
tail_is x y xs ys e = ap (drop 1) e

-- a line behind some such lines is one more of them, or the line that ends them
pub next_after : (p : ℕ) (xs ys : List (List ℕ)) (l b : List ℕ) (more rest : List (List ℕ)) → AllFirst p xs → AllFirst p ys → (first b ≡ p → ⊥) →
    xs ++ (l ∷ more) ≡ ys ++ (b ∷ rest) → ((zs : List (List ℕ)) × (ys ≡ xs ++ (l ∷ zs))) ⊎ ((xs ≡ ys) × (l ≡ b) × (more ≡ rest))
next_after p [] [] l b more rest hx hy other e = inr (refl, head_of l b more rest e, tail_is l b more rest e)
next_after p [] (y ∷ ys) l b more rest hx hy other e = inl (ys, ap (λ x. x ∷ ys) (sym (head_of l y more (ys ++ (b ∷ rest)) e)))
next_after p (x ∷ xs) [] l b more rest hx hy other e = absurd (other (ap first (sym (head_of x b (xs ++ (l ∷ more)) rest e)) ∙ hx.0))
next_after p (x ∷ xs) (y ∷ ys) l b more rest hx hy other e = go (next_after p xs ys l b more rest hx.1 hy.1 other (tail_is x y (xs ++ (l ∷ more)) (ys ++ (b ∷ rest)) e))
  where
    same : x ≡ y
    same = head_of x y (xs ++ (l ∷ more)) (ys ++ (b ∷ rest)) e

    go : ((zs : List (List ℕ)) × (ys ≡ xs ++ (l ∷ zs))) ⊎ ((xs ≡ ys) × (l ≡ b) × (more ≡ rest)) →
        ((zs : List (List ℕ)) × (y ∷ ys ≡ x ∷ xs ++ (l ∷ zs))) ⊎ ((x ∷ xs ≡ y ∷ ys) × (l ≡ b) × (more ≡ rest))
    go (inl (zs, whole)) = inl (zs, (λ i. sym same i ∷ whole i))
    go (inr (w, lb, mr)) = inr ((λ i. same i ∷ w i), lb, mr)

-- where both lists are ended, they are one
pub both_ended : (p : ℕ) (xs ys : List (List ℕ)) (l b : List ℕ) (more rest : List (List ℕ)) → AllFirst p xs → AllFirst p ys → (first l ≡ p → ⊥) → (first b ≡ p → ⊥) →
    xs ++ (l ∷ more) ≡ ys ++ (b ∷ rest) → (xs ≡ ys) × (l ≡ b) × (more ≡ rest)
both_ended p xs ys l b more rest hx hy other_l other_b e = go (next_after p xs ys l b more rest hx hy other_b e)
  where
    go : ((zs : List (List ℕ)) × (ys ≡ xs ++ (l ∷ zs))) ⊎ ((xs ≡ ys) × (l ≡ b) × (more ≡ rest)) → (xs ≡ ys) × (l ≡ b) × (more ≡ rest)
    go (inl (zs, whole)) = absurd (other_l (inner_first p xs zs l (rw whole at hy)))
    go (inr all) = all

pub places_first : (r : Report) → AllFirst 112 (place_lines r)
places_first r = all_first 112 (place_line_at r) (λ k. refl) (range_with_len 0 (length r.places))

pub regroup : (a b c d : List (List ℕ)) → a ++ b ++ c ++ d ≡ a ++ (b ++ (c ++ d))
regroup a b c d = simp append_assoc

-- the lines behind the cost
abbrev pub last_lines : Report → List (List ℕ)
last_lines r = map run_line r.runs ++ (codes "end" ∷ [])

-- the lines behind the places
abbrev pub lines_behind : Report → List (List ℕ) → List (List ℕ)
lines_behind r rest = bound_line r.bound ∷ slack_line r.slack ∷ cost_line r.cost ∷ rest

pub lines_nested : (r : Report) → report_lines r ≡ version_line r.weights ∷ (place_lines r ++ lines_behind r (last_lines r))
lines_nested r = ap (λ x. version_line r.weights ∷ x) (regroup (place_lines r) (total_lines r) (map run_line r.runs) (codes "end" ∷ []))

-- the next place of a report whose place lines go on
pub next_place : (f g : ℕ → List ℕ) (n k : ℕ) (l : List ℕ) (zs : List (List ℕ)) → map f (range_with_len 0 n) ≡ map g (range_with_len 0 k) ++ (l ∷ zs) → (k < n) × (l ≡ f k)
next_place f g n k l zs e =
    let count : n ≡ k + suc (length zs) =
    sym (length-map-range_with_len f 0 n) ∙
    (ap length e ∙ (length_append (map g (range_with_len 0 k)) (l ∷ zs) ∙ ap (λ x. x + suc (length zs)) (length-map-range_with_len g 0 k))) in
    let lt : k < n = omega arith in (
      lt,
      sym (seam (map g (range_with_len 0 k)) k (length-map-range_with_len g 0 k) l zs) ∙
          (ap (λ x. get_or x k []) (sym e) ∙ get_or-map-range_with_len f 0 n k k [] lt (zero-add k)),
    )
  where
    length_append : (xs ys : List (List ℕ)) → length (xs ++ ys) ≡ length xs + length ys
    length_append xs ys = length-append xs ys

    seam : (xs : List (List ℕ)) (i : ℕ) → length xs ≡ i → (y : List ℕ) (ys : List (List ℕ)) → get_or (xs ++ (y ∷ ys)) i [] ≡ y
    seam xs i at y ys = rw (← at) (get_or-append_seam xs y ys [])

-- two ways to write the first n lines
pub same_lines : (f g : ℕ → List ℕ) (n : ℕ) → ((k : ℕ) → k < n → f k ≡ g k) → map f (range_with_len 0 n) ≡ map g (range_with_len 0 n)
same_lines f g zero h = refl
same_lines f g (suc n) h =
    let more : map f (range_with_len 0 n) ≡ map g (range_with_len 0 n) = same_lines f g n (λ k lt. h k (omega arith)) in
    let last : f n ≡ g n = h n (omega arith) in
    let e : n + 1 ≡ suc n = omega arith in
    subst (λ m. map f (range_with_len 0 m) ≡ map g (range_with_len 0 m)) e
    (map-range_with_len_more f 0 n n (zero-add n) ∙ ((λ i. more i ++ (last i ∷ [])) ∙ sym (map-range_with_len_more g 0 n n (zero-add n))))
