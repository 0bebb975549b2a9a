-- What changes from some flows to others, told as both are read.
use Rattle.std.proofs.Common.{◌≡◌, ℕ, ◌+◌, ◌≤◌, ◌<◌, inl, inr, ◌-◌, List, [], ◌∷◌, ◌++◌, false, not, nat_eq, length, get_or, take, drop, refl, sym, ap, subst, ◌∙◌, arith}
use Rattle.std.specs.List.{list_any}
use Rattle.std.specs.List.Sorted.{IsStrictlyIncreasing}
use Rattle.std.proofs.lemmas.Bool.{cases_lt}
use Rattle.std.proofs.lemmas.Bool.Decides.{nat_tests}
use Rattle.std.proofs.lemmas.List.{append_assoc, append-nil, drop_all, drop-drop, drop_more, length-append, take-append-drop, take_rest}
use Rattle.std.proofs.lemmas.List.Filters.{length-filter_both}
use Rattle.std.proofs.lemmas.List.Kept.{IsStrictlyIncreasing-filter}
use Rattle.run_list.specs.Kept.{toggled}
use Rattle.run_list.specs.Runs.{without}
use Rattle.run_list.proofs.Toggled.{Rises, Rises-lower, ascending, rises, toggled_rises}
use Rattle.run_list.proofs.Merging.{left_below, left_beyond, left_end, left_of, left_past, left_same}

without-nil : (xs : List ℕ) → without xs [] ≡ xs
without-nil [] = refl
without-nil (x ∷ xs) = ap (λ (zs : List ℕ). x ∷ zs) (without-nil xs)

pub without-ascends : (xs ys : List ℕ) → IsStrictlyIncreasing xs → IsStrictlyIncreasing (without xs ys)
without-ascends xs ys up = IsStrictlyIncreasing-filter (λ f. not (list_any (nat_eq f) ys)) xs up

length-without : (xs ys : List ℕ) → length (without xs ys) ≤ length xs
length-without xs ys = omega (arith, length-filter_both (λ f. not (list_any (nat_eq f) ys)) (λ f. not (not (list_any (nat_eq f) ys))) (λ f. refl) xs)

-- a number below all of a list does not stand in it
absent : (x low : ℕ) (ys : List ℕ) → x < low → Rises low ys → list_any (nat_eq x) ys ≡ false
absent x low [] lt up = refl
absent x low (y ∷ ys) lt up =
    let rest = absent x (y + 1) ys (omega arith) up.1 in
    grind (arith, nat_tests)

without_here : (x : ℕ) (xs ys : List ℕ) → without (x ∷ xs) (x ∷ ys) ≡ without xs (x ∷ ys)
without_here x xs ys = grind (arith, nat_tests)

without_low : (y low : ℕ) (xs ys : List ℕ) → y < low → Rises low xs → without xs (y ∷ ys) ≡ without xs ys
without_low y low [] ys lt up = refl
without_low y low (x ∷ xs) ys lt up =
    let rest = without_low y (x + 1) xs ys (omega arith) up.1 in
    grind (arith, nat_tests)

without_kept : (x low : ℕ) (xs ys : List ℕ) → x < low → Rises low ys → without (x ∷ xs) ys ≡ x ∷ without xs ys
without_kept x low xs ys lt up =
    let none = absent x low ys lt up in
    grind (arith, nat_tests)

-- `gone` and `come` are told of what was read, and `xs` and `ys` are left of the flows before and of the flows after
pub record IsTurning (olds news gone come xs ys : List ℕ) : Type 0 where
  pub olds_rise : Rises 0 xs
  pub news_rise : Rises 0 ys
  pub gone_so_far : gone ++ without xs ys ≡ without olds news
  pub come_so_far : come ++ without ys xs ≡ without news olds

IsTurning-both : (olds news gone come : List ℕ) (x : ℕ) (xs ys : List ℕ) → IsTurning olds news gone come (x ∷ xs) (x ∷ ys) → IsTurning olds news gone come xs ys
IsTurning-both olds news gone come x xs ys is =
    let one = without_here x xs ys ∙ without_low x (x + 1) xs ys (omega arith) is.olds_rise.1 in
    let two = without_here x ys xs ∙ without_low x (x + 1) ys xs (omega arith) is.news_rise.1 in
    record {
      olds_rise = Rises-lower 0 (x + 1) xs (omega arith) is.olds_rise.1;
      news_rise = Rises-lower 0 (x + 1) ys (omega arith) is.news_rise.1;
      gone_so_far = ap (λ (zs : List ℕ). gone ++ zs) (sym one) ∙ is.gone_so_far;
      come_so_far = ap (λ (zs : List ℕ). come ++ zs) (sym two) ∙ is.come_so_far;
    }

IsTurning-gone : (olds news gone come : List ℕ) (x : ℕ) (xs ys : List ℕ) → IsTurning olds news gone come (x ∷ xs) ys → Rises (x + 1) ys →
    IsTurning olds news (gone ++ x ∷ []) come xs ys
IsTurning-gone olds news gone come x xs ys is up =
    let one = without_kept x (x + 1) xs ys (omega arith) up in
    let two = without_low x (x + 1) ys xs (omega arith) up in
    record {
      olds_rise = Rises-lower 0 (x + 1) xs (omega arith) is.olds_rise.1;
      news_rise = is.news_rise;
      gone_so_far = append_assoc gone (x ∷ []) (without xs ys) ∙ ap (λ (zs : List ℕ). gone ++ zs) (sym one) ∙ is.gone_so_far;
      come_so_far = ap (λ (zs : List ℕ). come ++ zs) (sym two) ∙ is.come_so_far;
    }

IsTurning-swap : (olds news gone come xs ys : List ℕ) → IsTurning olds news gone come xs ys → IsTurning news olds come gone ys xs
IsTurning-swap olds news gone come xs ys is = record {
  olds_rise = is.news_rise;
  news_rise = is.olds_rise;
  gone_so_far = is.come_so_far;
  come_so_far = is.gone_so_far;
}

IsTurning-come : (olds news gone come : List ℕ) (y : ℕ) (xs ys : List ℕ) → IsTurning olds news gone come xs (y ∷ ys) → Rises (y + 1) xs →
    IsTurning olds news gone (come ++ y ∷ []) xs ys
IsTurning-come olds news gone come y xs ys is up =
    IsTurning-swap news olds (come ++ y ∷ []) gone ys xs (IsTurning-gone news olds come gone y ys xs (IsTurning-swap olds news gone come xs (y ∷ ys) is) up)

IsTurning-past : (olds news gone come zs xs ys : List ℕ) → IsTurning olds news gone come (zs ++ xs) (zs ++ ys) → IsTurning olds news gone come xs ys
IsTurning-past olds news gone come [] xs ys is = is
IsTurning-past olds news gone come (z ∷ zs) xs ys is =
    IsTurning-past olds news gone come zs xs ys (IsTurning-both olds news gone come z (zs ++ xs) (zs ++ ys) is)

-- no more is told than there are flows
pub gone_fits : (olds news gone come xs ys : List ℕ) → IsTurning olds news gone come xs ys → length gone ≤ length olds
gone_fits olds news gone come xs ys is = omega (arith, ap length is.gone_so_far, length-append gone (without xs ys), length-without olds news)

pub come_fits : (olds news gone come xs ys : List ℕ) → IsTurning olds news gone come xs ys → length come ≤ length news
come_fits olds news gone come xs ys is = gone_fits news olds come gone ys xs (IsTurning-swap olds news gone come xs ys is)

pub more_gone : (olds news gone come xs ys : List ℕ) (x : ℕ) → IsTurning olds news (gone ++ x ∷ []) come xs ys → length gone < length olds
more_gone olds news gone come xs ys x is = omega (arith, gone_fits olds news (gone ++ x ∷ []) come xs ys is, length-append gone (x ∷ []))

pub more_come : (olds news gone come xs ys : List ℕ) (y : ℕ) → IsTurning olds news gone (come ++ y ∷ []) xs ys → length come < length news
more_come olds news gone come xs ys y is = more_gone news olds come gone ys xs y (IsTurning-swap olds news gone (come ++ y ∷ []) xs ys is)

-- a list that ends with others fits where the numbers of a list fit
pub rest_fits : (olds news some rest : List ℕ) → some ++ rest ≡ without olds news → length some + length rest ≤ length olds
rest_fits olds news some rest all = omega (arith, ap length all, length-append some rest, length-without olds news)

-- where the flows before are at their end, the rest of those after comes
gone_end : (olds news gone come ys : List ℕ) → IsTurning olds news gone come [] ys → gone ≡ without olds news
gone_end olds news gone come ys is = sym (append-nil gone) ∙ is.gone_so_far

come_end : (olds news gone come ys : List ℕ) → IsTurning olds news gone come [] ys → come ++ ys ≡ without news olds
come_end olds news gone come ys is = ap (λ (zs : List ℕ). come ++ zs) (sym (without-nil ys)) ∙ is.come_so_far

rises_at : (xs : List ℕ) (i : ℕ) → i < length xs → Rises 0 (drop i xs) → Rises (get_or xs i 0 + 1) (drop (i + 1) xs)
rises_at xs i lt up =
    let both : Rises 0 (get_or xs i 0 ∷ drop (i + 1) xs) = subst (Rises 0) (drop_more xs i 0 lt) up in
    both.1

rises_above : (xs : List ℕ) (i y : ℕ) → (i < length xs → y < get_or xs i 0) → Rises 0 (drop i xs) → Rises (y + 1) (drop i xs)
rises_above xs i y above up = elim (cases_lt i (length xs)) [
  | inl lt ↦
      let first : y < get_or xs i 0 = above lt in
      subst (Rises (y + 1)) (sym (drop_more xs i 0 lt)) (omega arith, rises_at xs i lt up)
  | inr le ↦ subst (Rises (y + 1)) (sym (drop_all i xs le)) tt
]

rises_all : (xs : List ℕ) → IsStrictlyIncreasing xs → Rises 0 xs
rises_all xs up = rises 0 xs (λ some. omega arith) up

-- the flows before and after were compared up to those places
abbrev pub IsComparing : (olds news gone come : List ℕ) (i j : ℕ) → Type 0
IsComparing olds news gone come i j = IsTurning olds news gone come (drop i olds) (drop j news)

pub IsComparing-start : (olds news : List ℕ) → IsStrictlyIncreasing olds → IsStrictlyIncreasing news → IsComparing olds news [] [] 0 0
IsComparing-start olds news up also = record { olds_rise = rises_all olds up; news_rise = rises_all news also; gone_so_far = refl; come_so_far = refl }

pub IsComparing-both : (olds news gone come : List ℕ) (i j : ℕ) → i < length olds → j < length news → get_or olds i 0 ≡ get_or news j 0 →
    IsComparing olds news gone come i j → IsComparing olds news gone come (i + 1) (j + 1)
IsComparing-both olds news gone come i j lt also e is =
    let one = subst (λ (zs : List ℕ). IsTurning olds news gone come zs (drop j news)) (drop_more olds i 0 lt) is in
    let two = subst (λ (zs : List ℕ). IsTurning olds news gone come (get_or olds i 0 ∷ drop (i + 1) olds) zs) (drop_more news j 0 also) one in
    IsTurning-both olds news gone come (get_or news j 0) (drop (i + 1) olds) (drop (j + 1) news)
    (subst (λ (n : ℕ). IsTurning olds news gone come (n ∷ drop (i + 1) olds) (get_or news j 0 ∷ drop (j + 1) news)) e two)

pub IsComparing-gone : (olds news gone come : List ℕ) (i j : ℕ) → i < length olds → (j < length news → get_or olds i 0 < get_or news j 0) →
    IsComparing olds news gone come i j → IsComparing olds news (gone ++ get_or olds i 0 ∷ []) come (i + 1) j
IsComparing-gone olds news gone come i j lt above is =
    IsTurning-gone olds news gone come (get_or olds i 0) (drop (i + 1) olds) (drop j news)
    (subst (λ (zs : List ℕ). IsTurning olds news gone come zs (drop j news)) (drop_more olds i 0 lt) is) (rises_above news j (get_or olds i 0) above is.news_rise)

pub IsComparing-come : (olds news gone come : List ℕ) (i j : ℕ) → j < length news → (i < length olds → get_or news j 0 < get_or olds i 0) →
    IsComparing olds news gone come i j → IsComparing olds news gone (come ++ get_or news j 0 ∷ []) i (j + 1)
IsComparing-come olds news gone come i j lt above is =
    IsTurning-come olds news gone come (get_or news j 0) (drop i olds) (drop (j + 1) news)
    (subst (λ (zs : List ℕ). IsTurning olds news gone come (drop i olds) zs) (drop_more news j 0 lt) is) (rises_above olds i (get_or news j 0) above is.olds_rise)

pub compared_gone : (olds news gone come : List ℕ) (i j : ℕ) → (i < length olds → length news ≤ j) → IsComparing olds news gone come i j → gone ++ drop i olds ≡ without olds news
compared_gone olds news gone come i j over is = elim (cases_lt i (length olds)) [
  | inl lt ↦
      let none = subst (λ (zs : List ℕ). IsTurning olds news gone come (drop i olds) zs) (drop_all j news (over lt)) is in
      come_end news olds come gone (drop i olds) (IsTurning-swap olds news gone come (drop i olds) [] none)
  | inr le ↦
      let none = subst (λ (zs : List ℕ). IsTurning olds news gone come zs (drop j news)) (drop_all i olds le) is in
      ap (λ (zs : List ℕ). gone ++ zs) (drop_all i olds le) ∙ append-nil gone ∙ gone_end olds news gone come (drop j news) none
]

pub compared_come : (olds news gone come : List ℕ) (i j : ℕ) → (i < length olds → length news ≤ j) → IsComparing olds news gone come i j → come ++ drop j news ≡ without news olds
compared_come olds news gone come i j over is =
    let other : j < length news → length olds ≤ i = λ lt. elim (cases_lt i (length olds)) [ inl below ↦ absurd (omega (arith, over below)) | inr le ↦ le ] in
    compared_gone news olds come gone j i other (IsTurning-swap olds news gone come (drop i olds) (drop j news) is)

-- the flows and the numbers that change them were read up to those places
pub record IsChanging (xs ys gone come : List ℕ) (i j : ℕ) : Type 0 where
  pub changes_rise : Rises 0 (drop j ys)
  pub turning : IsTurning xs (toggled xs ys) gone come (drop i xs) (left_of xs ys i j)

pub IsChanging-start : (xs ys : List ℕ) → IsStrictlyIncreasing xs → IsStrictlyIncreasing ys → IsChanging xs ys [] [] 0 0
IsChanging-start xs ys up also = record {
  changes_rise = rises_all ys also;
  turning = record {
    olds_rise = rises_all xs up;
    news_rise = toggled_rises 0 xs ys (rises_all xs up) (rises_all ys also);
    gone_so_far = refl;
    come_so_far = refl;
  };
}

pub IsChanging-same : (xs ys gone come : List ℕ) (i j : ℕ) → i < length xs → j < length ys → get_or xs i 0 ≡ get_or ys j 0 →
    IsChanging xs ys gone come i j → IsChanging xs ys (gone ++ get_or ys j 0 ∷ []) come (i + 1) (j + 1)
IsChanging-same xs ys gone come i j lt also e is =
    let up = rises_at ys j also is.changes_rise in
    let one = subst (λ (zs : List ℕ). IsTurning xs (toggled xs ys) gone come (drop i xs) zs) (left_same xs ys i j lt also e) is.turning in
    let two = subst (λ (zs : List ℕ). IsTurning xs (toggled xs ys) gone come zs (left_of xs ys (i + 1) (j + 1))) (drop_more xs i 0 lt) one in
    let three = subst (λ (n : ℕ). IsTurning xs (toggled xs ys) gone come (n ∷ drop (i + 1) xs) (left_of xs ys (i + 1) (j + 1))) e two in
    let left : Rises (get_or ys j 0 + 1) (left_of xs ys (i + 1) (j + 1)) = toggled_rises (get_or ys j 0 + 1) (drop (i + 1) xs) (drop (j + 1) ys) three.olds_rise.1 up in
    record {
      changes_rise = Rises-lower 0 (get_or ys j 0 + 1) (drop (j + 1) ys) (omega arith) up;
      turning = IsTurning-gone xs (toggled xs ys) gone come (get_or ys j 0) (drop (i + 1) xs) (left_of xs ys (i + 1) (j + 1)) three left;
    }

pub IsChanging-below : (xs ys gone come : List ℕ) (i j : ℕ) → i < length xs → j < length ys → get_or xs i 0 < get_or ys j 0 →
    IsChanging xs ys gone come i j → IsChanging xs ys gone come (i + 1) j
IsChanging-below xs ys gone come i j lt also below is =
    let one = subst (λ (zs : List ℕ). IsTurning xs (toggled xs ys) gone come (drop i xs) zs) (left_below xs ys i j lt also below) is.turning in
    let two = subst (λ (zs : List ℕ). IsTurning xs (toggled xs ys) gone come zs (get_or xs i 0 ∷ left_of xs ys (i + 1) j)) (drop_more xs i 0 lt) one in
    record {
      changes_rise = is.changes_rise;
      turning = IsTurning-both xs (toggled xs ys) gone come (get_or xs i 0) (drop (i + 1) xs) (left_of xs ys (i + 1) j) two;
    }

pub IsChanging-beyond : (xs ys gone come : List ℕ) (i j : ℕ) → j < length ys → (i < length xs → get_or ys j 0 < get_or xs i 0) →
    IsChanging xs ys gone come i j → IsChanging xs ys gone (come ++ get_or ys j 0 ∷ []) i (j + 1)
IsChanging-beyond xs ys gone come i j also above is =
    let one = subst (λ (zs : List ℕ). IsTurning xs (toggled xs ys) gone come (drop i xs) zs) (left_beyond xs ys i j also above) is.turning in
    record {
      changes_rise = Rises-lower 0 (get_or ys j 0 + 1) (drop (j + 1) ys) (omega arith) (rises_at ys j also is.changes_rise);
      turning = IsTurning-come xs (toggled xs ys) gone come (get_or ys j 0) (drop i xs) (left_of xs ys i (j + 1)) one
          (rises_above xs i (get_or ys j 0) above is.turning.olds_rise);
    }

IsChanging-past : (xs ys gone come : List ℕ) (i j p : ℕ) → j < length ys → p ≤ length (drop i xs) → ((k : ℕ) → k < p → get_or (drop i xs) k 0 < get_or ys j 0) →
    IsChanging xs ys gone come i j → IsChanging xs ys gone come (i + p) j
IsChanging-past xs ys gone come i j p also le below is =
    let first : List ℕ = take p (drop i xs) in
    let parts : drop i xs ≡ first ++ drop (i + p) xs = sym (take-append-drop p (drop i xs)) ∙ ap (λ (zs : List ℕ). first ++ zs) (drop-drop p i xs) in
    let one = subst (λ (zs : List ℕ). IsTurning xs (toggled xs ys) gone come (drop i xs) zs) (left_past xs ys i j p also le below) is.turning in
    let two = subst (λ (zs : List ℕ). IsTurning xs (toggled xs ys) gone come zs (first ++ left_of xs ys (i + p) j)) parts one in
    record {
      changes_rise = is.changes_rise;
      turning = IsTurning-past xs (toggled xs ys) gone come first (drop (i + p) xs) (left_of xs ys (i + p) j) two;
    }

-- the same of the flows as the code reads them
pub IsChanging-copied : (xs ys gone come : List ℕ) (i j p : ℕ) → j < length ys → p ≤ length (take (length xs - i) (drop i xs)) →
    ((k : ℕ) → k < p → get_or (take (length xs - i) (drop i xs)) k 0 < get_or ys j 0) → IsChanging xs ys gone come i j → IsChanging xs ys gone come (i + p) j
IsChanging-copied xs ys gone come i j p also le below is =
    let whole = take_rest xs i in
    let fits = subst (λ (zs : List ℕ). p ≤ length zs) whole le in
    IsChanging-past xs ys gone come i j p also fits (λ k lt. subst (λ (zs : List ℕ). get_or zs k 0 < get_or ys j 0) whole (below k lt)) is

-- the flows that are left ascend, as the code reads them
pub left_ascends : (xs ys gone come : List ℕ) (i j : ℕ) → IsChanging xs ys gone come i j → IsStrictlyIncreasing (take (length xs - i) (drop i xs))
left_ascends xs ys gone come i j is = subst IsStrictlyIncreasing (sym (take_rest xs i)) (ascending 0 (drop i xs) is.turning.olds_rise)

changed_end : (xs ys gone come : List ℕ) (i j : ℕ) → (i < length xs → length ys ≤ j) → IsChanging xs ys gone come i j →
    IsTurning xs (toggled xs ys) gone come [] (drop j ys)
changed_end xs ys gone come i j over is =
    let one = subst (λ (zs : List ℕ). IsTurning xs (toggled xs ys) gone come (drop i xs) zs) (left_end xs ys i j over) is.turning in
    let two = subst (λ (zs : List ℕ). IsTurning xs (toggled xs ys) gone come zs (drop i xs ++ drop j ys)) (sym (append-nil (drop i xs))) one in
    IsTurning-past xs (toggled xs ys) gone come (drop i xs) [] (drop j ys) two

pub changed_gone : (xs ys gone come : List ℕ) (i j : ℕ) → (i < length xs → length ys ≤ j) → IsChanging xs ys gone come i j → gone ≡ without xs (toggled xs ys)
changed_gone xs ys gone come i j over is = gone_end xs (toggled xs ys) gone come (drop j ys) (changed_end xs ys gone come i j over is)

pub changed_come : (xs ys gone come : List ℕ) (i j : ℕ) → (i < length xs → length ys ≤ j) → IsChanging xs ys gone come i j →
    come ++ drop j ys ≡ without (toggled xs ys) xs
changed_come xs ys gone come i j over is = come_end xs (toggled xs ys) gone come (drop j ys) (changed_end xs ys gone come i j over is)
