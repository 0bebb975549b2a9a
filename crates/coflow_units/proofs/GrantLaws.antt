-- Two sets that are grants have the same flows.
use Rattle.std.proofs.Common.{◌≡◌, ◌≢◌, ℕ, ◌+◌, ◌*◌, ◌≤◌, ◌<◌, ◌⊎◌, inl, inr, List, [], ◌∷◌, length, get_or, Contains, refl, sym, ap, subst, ◌∙◌, arith, zero, suc}
use Rattle.std.specs.List.Sorted.{IsStrictlyIncreasing}
use Rattle.std.proofs.lemmas.List.Kept.{AllPairs-from_increasing}
use Rattle.std.proofs.lemmas.List.Elements.{All-contains}
use Rattle.std.proofs.lemmas.Nat.{mul-add-lt}
use Rattle.coflow_units.specs.declared.fabric.Flow.{Flow}
use Rattle.coflow_units.specs.Flows.{coflow_of}
use Rattle.coflow_units.specs.Grants.{place_in, ComesBefore, IsGrants}

pub tail_rises : (x : ℕ) (xs : List ℕ) → IsStrictlyIncreasing (x ∷ xs) → IsStrictlyIncreasing xs
tail_rises x xs up k lt =
    let e : suc k + 1 ≡ suc (k + 1) = omega arith in
    subst (λ n. get_or xs k 0 < get_or (x ∷ xs) n 0) e (up (suc k) (omega arith))

pub above_first : (x : ℕ) (xs : List ℕ) (f : ℕ) → IsStrictlyIncreasing (x ∷ xs) → Contains xs f → x < f
above_first x xs f up (k, lt, at) = omega (arith, AllPairs-from_increasing (x ∷ xs) up 0 (suc k) f (omega arith) (omega arith), at)

first_least : (x : ℕ) (xs : List ℕ) (f : ℕ) → IsStrictlyIncreasing (x ∷ xs) → Contains (x ∷ xs) f → x ≤ f
first_least x xs f up (zero, lt, at) = omega (arith, at)
first_least x xs f up (suc k, lt, at) = omega (arith, above_first x xs f up (k, omega arith, at))

in_first : (x : ℕ) (xs : List ℕ) → Contains (x ∷ xs) x
in_first x xs = (0, omega arith, refl)

in_tail : (x : ℕ) (xs : List ℕ) (f : ℕ) → Contains xs f → Contains (x ∷ xs) f
in_tail x xs f (k, lt, at) = (suc k, omega arith, at)

out_of_first : (x : ℕ) (xs : List ℕ) (f : ℕ) → x ≢ f → Contains (x ∷ xs) f → Contains xs f
out_of_first x xs f ne (zero, lt, at) = absurd (ne at)
out_of_first x xs f ne (suc k, lt, at) = (k, omega arith, at)

same_tail : (x y : ℕ) (xs ys : List ℕ) → x ≡ y → IsStrictlyIncreasing (x ∷ xs) → ((f : ℕ) → Contains (x ∷ xs) f → Contains (y ∷ ys) f) → (f : ℕ) → Contains xs f → Contains ys f
same_tail x y xs ys e up to f has =
    let above = above_first x xs f up has in
    let ne : y ≢ f = omega arith in
    out_of_first y ys f ne (to f (in_tail x xs f has))

nothing : (f : ℕ) → Contains [] f → ⊥
nothing f (k, lt, at) = omega arith

pub same_rising : (xs ys : List ℕ) → IsStrictlyIncreasing xs → IsStrictlyIncreasing ys → ((f : ℕ) → Contains xs f → Contains ys f) → ((f : ℕ) → Contains ys f → Contains xs f) →
    xs ≡ ys
same_rising [] [] up also to from = refl
same_rising [] (y ∷ ys) up also to from = absurd (nothing y (from y (in_first y ys)))
same_rising (x ∷ xs) [] up also to from = absurd (nothing x (to x (in_first x xs)))
same_rising (x ∷ xs) (y ∷ ys) up also to from =
    let low = first_least y ys x also (to x (in_first x xs)) in
    let high = first_least x xs y up (from y (in_first y ys)) in
    let e : x ≡ y = omega arith in
    ap (λ n. n ∷ xs) e ∙ ap (λ l. y ∷ l) (same_rising xs ys (tail_rises x xs up) (tail_rises y ys also) (same_tail x y xs ys e up to) (same_tail y x ys xs (sym e) also from))

-- the place of a flow among all
abbrev pub rank : List Flow → List ℕ → ℕ → ℕ
rank flows line f = place_in line (coflow_of flows f) * length flows + f

pub rank_falls : (p q g f n : ℕ) → g < n → (p < q) ⊎ ((p ≡ q) × (g < f)) → p * n + g < q * n + f
rank_falls p q g f n inside (inl lt) = omega (arith, mul-add-lt p n g q lt inside)
rank_falls p q g f n inside (inr (e, lt)) = omega (arith, ap (λ x. x * n) e)

lower : (flows : List Flow) (line : List ℕ) (f g r : ℕ) → g < length flows → ComesBefore flows line g f → rank flows line f < suc r → rank flows line g < r
lower flows line f g r inside before low = omega (arith, rank_falls (place_in line (coflow_of flows g)) (place_in line (coflow_of flows f)) g f (length flows) inside before)

agree : (r : ℕ) (flows : List Flow) (line : List ℕ) (left : ℕ → ℕ) (a b : List ℕ) → IsGrants flows line left a → IsGrants flows line left b → (f : ℕ) → rank flows line f < r →
    Contains a f → Contains b f
agree zero flows line left a b ga gb f low has = absurd (omega arith)
agree (suc r) flows line left a b ga gb f low has =
    let inside = All-contains (λ x. x < length flows) a f ga.flow has in
    let here = All-contains (λ x. Contains line (coflow_of flows x)) a f ga.in_line has in
    elim (gb.rest f inside here (ga.owed f has)) [
      | inl h ↦ h
      | inr (g, has_g, before, shares) ↦
          absurd (ga.free f has (
            g,
            agree r flows line left b a gb ga g (lower flows line f g r (All-contains (λ x. x < length flows) b g gb.flow has_g) before low) has_g,
            before,
            shares,
          ))
    ]

pub one_grants : (flows : List Flow) (line : List ℕ) (left : ℕ → ℕ) (a b : List ℕ) → IsGrants flows line left a → IsGrants flows line left b → a ≡ b
one_grants flows line left a b ga gb =
    same_rising a b ga.ascending gb.ascending
    (λ f has. agree (suc (rank flows line f)) flows line left a b ga gb f (omega arith) has)
    (λ f has. agree (suc (rank flows line f)) flows line left b a gb ga f (omega arith) has)
