-- A merge of two lists, number by number.
use Rattle.std.proofs.Common.{◌≡◌, ℕ, ◌+◌, ◌-◌, ◌≤◌, ◌<◌, List, [], ◌∷◌, ◌++◌, inl, inr, length, get_or, take, drop, refl, sym, ap, ◌∙◌, zero, suc, subst, arith}
use Rattle.std.specs.List.Sorted.{IsStrictlyIncreasing}
use Rattle.std.proofs.lemmas.Bool.{cases_lt}
use Rattle.std.proofs.lemmas.List.{append_assoc, append-nil, drop_all, drop_at, drop-drop, drop_more, get_or-drop, get_or_default}
use Rattle.std.proofs.lemmas.List.{length-append, length-drop, length-take-le, take_all, take-append-drop, take_rest}
use Rattle.run_list.specs.Kept.{toggled}
use Rattle.run_list.proofs.Toggled.{toggled_above, toggled_ascends, toggled_below, toggled_same, toggled_twice, toggled-nil}

-- what is left to merge, from those places on
abbrev pub left_of : List ℕ → List ℕ → ℕ → ℕ → List ℕ
left_of xs ys i j = toggled (drop i xs) (drop j ys)

pub left_same : (xs ys : List ℕ) (i j : ℕ) → i < length xs → j < length ys → get_or xs i 0 ≡ get_or ys j 0 → left_of xs ys i j ≡ left_of xs ys (i + 1) (j + 1)
left_same xs ys i j inside also e =
    rw (drop_more xs i 0 inside, drop_more ys j 0 also) (toggled_same (get_or xs i 0) (get_or ys j 0) (drop (i + 1) xs) (drop (j + 1) ys) e)

pub left_below : (xs ys : List ℕ) (i j : ℕ) → i < length xs → j < length ys → get_or xs i 0 < get_or ys j 0 → left_of xs ys i j ≡ get_or xs i 0 ∷ left_of xs ys (i + 1) j
left_below xs ys i j inside also lt =
    rw (drop_more xs i 0 inside, drop_more ys j 0 also) (toggled_below (get_or xs i 0) (get_or ys j 0) (drop (i + 1) xs) (drop (j + 1) ys) lt)

pub left_above : (xs ys : List ℕ) (i j : ℕ) → i < length xs → j < length ys → get_or ys j 0 < get_or xs i 0 → left_of xs ys i j ≡ get_or ys j 0 ∷ left_of xs ys i (j + 1)
left_above xs ys i j inside also lt =
    rw (drop_more xs i 0 inside, drop_more ys j 0 also) (toggled_above (get_or xs i 0) (get_or ys j 0) (drop (i + 1) xs) (drop (j + 1) ys) lt)

-- the numbers of the one list that are below the next of the other stay as they are
toggled_past : (xs ys : List ℕ) (y p : ℕ) → p ≤ length xs → ((k : ℕ) → k < p → get_or xs k 0 < y) → toggled xs (y ∷ ys) ≡ take p xs ++ toggled (drop p xs) (y ∷ ys)
toggled_past xs ys y zero le below = refl
toggled_past [] ys y (suc p) le below = absurd (omega arith)
toggled_past (x ∷ xs) ys y (suc p) le below =
    toggled_below x y xs ys (below 0 (omega arith)) ∙ ap (λ (zs : List ℕ). x ∷ zs) (toggled_past xs ys y p (omega arith) (λ k lt. below (suc k) (omega arith)))

pub left_past : (xs ys : List ℕ) (i j p : ℕ) → j < length ys → p ≤ length (drop i xs) → ((k : ℕ) → k < p → get_or (drop i xs) k 0 < get_or ys j 0) →
    left_of xs ys i j ≡ take p (drop i xs) ++ left_of xs ys (i + p) j
left_past xs ys i j p also le below =
    rw (← drop-drop p i xs, drop_more ys j 0 also) (toggled_past (drop i xs) (drop (j + 1) ys) (get_or ys j 0) p le below)

pub left_beyond : (xs ys : List ℕ) (i j : ℕ) → j < length ys → (i < length xs → get_or ys j 0 < get_or xs i 0) → left_of xs ys i j ≡ get_or ys j 0 ∷ left_of xs ys i (j + 1)
left_beyond xs ys i j also above = elim (cases_lt i (length xs)) [
  | inl lt ↦ left_above xs ys i j lt also (above lt)
  | inr le ↦ rw (drop_all i xs le) (drop_more ys j 0 also)
]

-- where one of the lists is at its end, what is left is the rest of both
pub left_end : (xs ys : List ℕ) (i j : ℕ) → (i < length xs → length ys ≤ j) → left_of xs ys i j ≡ drop i xs ++ drop j ys
left_end xs ys i j over = elim (cases_lt i (length xs)) [
  | inl lt ↦ rw (drop_all j ys (over lt), append-nil) (toggled-nil (drop i xs))
  | inr le ↦ rw (drop_all i xs le) refl
]

-- no number of an ascending list is below an earlier one
pub never_falls : (xs : List ℕ) → IsStrictlyIncreasing xs → (j k : ℕ) → k ≤ j → j < length xs → get_or xs k 0 ≤ get_or xs j 0
never_falls xs up zero k le lt =
    let same : k ≡ 0 = omega arith in
    rw same (omega arith)
never_falls xs up (suc j) k le lt = elim (cases_lt k (suc j)) [
  | inl below ↦
      let one : j + 1 ≡ suc j = omega arith in
      let step = subst (λ (n : ℕ). get_or xs j 0 < get_or xs n 0) one (up j (omega arith)) in
      omega (arith, never_falls xs up j k (omega arith) (omega arith), step)
  | inr over ↦
      let same : k ≡ suc j = omega arith in
      rw same (omega arith)
]

pub last_is_greatest : (xs : List ℕ) → IsStrictlyIncreasing xs → (k d : ℕ) → k < length xs → get_or xs k d ≤ get_or xs (length xs - 1) 0
last_is_greatest xs up k d lt = omega (arith, get_or_default xs k d 0 lt, never_falls xs up (length xs - 1) k (omega arith) (omega arith))

-- `done` is what was merged up to those places
pub record IsMerging (xs ys done : List ℕ) (i j : ℕ) : Type 0 where
  pub within : i ≤ length xs
  pub inside : j ≤ length ys
  pub written : done ++ left_of xs ys i j ≡ toggled xs ys

pub IsMerging-same : (xs ys done : List ℕ) (i j : ℕ) → i < length xs → j < length ys → get_or xs i 0 ≡ get_or ys j 0 → IsMerging xs ys done i j →
    IsMerging xs ys done (i + 1) (j + 1)
IsMerging-same xs ys done i j lt also e is =
    let next = left_same xs ys i j lt also e in
    record { within = omega arith; inside = omega arith; written = rw (← next) is.written }

pub IsMerging-below : (xs ys done : List ℕ) (i j : ℕ) → i < length xs → j < length ys → get_or xs i 0 < get_or ys j 0 → IsMerging xs ys done i j →
    IsMerging xs ys (done ++ get_or xs i 0 ∷ []) (i + 1) j
IsMerging-below xs ys done i j lt also below is =
    let next = left_below xs ys i j lt also below in
    record { within = omega arith; inside = is.inside; written = rw (append_assoc, ← next) is.written }

pub IsMerging-above : (xs ys done : List ℕ) (i j : ℕ) → i < length xs → j < length ys → get_or ys j 0 < get_or xs i 0 → IsMerging xs ys done i j →
    IsMerging xs ys (done ++ get_or ys j 0 ∷ []) i (j + 1)
IsMerging-above xs ys done i j lt also above is =
    let next = left_above xs ys i j lt also above in
    record { within = is.within; inside = omega arith; written = rw (append_assoc, ← next) is.written }

pub IsMerging-past : (xs ys done : List ℕ) (i j p : ℕ) → i ≤ length xs → j < length ys → p ≤ length (drop i xs) → ((k : ℕ) → k < p → get_or (drop i xs) k 0 < get_or ys j 0) →
    IsMerging xs ys done i j → IsMerging xs ys (done ++ take p (drop i xs)) (i + p) j
IsMerging-past xs ys done i j p within also le below is =
    let next = left_past xs ys i j p also le below in
    record { within = omega (arith, length-drop i xs); inside = is.inside; written = rw (append_assoc, ← next) is.written }

pub IsMerging-beyond : (xs ys done : List ℕ) (i j : ℕ) → j < length ys → (i < length xs → get_or ys j 0 < get_or xs i 0) → IsMerging xs ys done i j →
    IsMerging xs ys (done ++ get_or ys j 0 ∷ []) i (j + 1)
IsMerging-beyond xs ys done i j also above is =
    let next = left_beyond xs ys i j also above in
    record { within = is.within; inside = omega arith; written = rw (append_assoc, ← next) is.written }

-- the buffer has room for what was merged and what is left
pub merged_fits : (xs ys done : List ℕ) (i j : ℕ) → IsMerging xs ys done i j → length done + length (left_of xs ys i j) ≡ length (toggled xs ys)
merged_fits xs ys done i j is = omega (arith, ap length is.written, length-append done (left_of xs ys i j))

-- the same of a buffer behind whose first n numbers stands that part of the one list
pub IsMerging-copied : (xs ys done : List ℕ) (i j p : ℕ) → j < length ys → p ≤ length (take (length xs - i) (drop i xs)) →
    ((k : ℕ) → k < p → get_or (take (length xs - i) (drop i xs)) k 0 < get_or ys j 0) →
    IsMerging xs ys done i j → IsMerging xs ys (done ++ take (i + p - i) (drop i xs)) (i + p) j
IsMerging-copied xs ys done i j p also le below is =
    let whole = take_rest xs i in
    let size : i + p - i ≡ p = omega arith in
    let fits = subst (λ (zs : List ℕ). p ≤ length zs) whole le in
    let past = IsMerging-past xs ys done i j p is.within also fits (λ k lt. subst (λ (zs : List ℕ). get_or zs k 0 < get_or ys j 0) whole (below k lt)) is in
    subst (λ (n : ℕ). IsMerging xs ys (done ++ take n (drop i xs)) (i + p) j) (sym size) past

pub copied_rest : (xs : List ℕ) (i p y : ℕ) → (p < length (take (length xs - i) (drop i xs)) → y ≤ get_or (take (length xs - i) (drop i xs)) p 0) →
    i + p < length xs → y ≤ get_or xs (i + p) 0
copied_rest xs i p y rest lt =
    let also = subst (λ (zs : List ℕ). p < length zs → y ≤ get_or zs p 0) (take_rest xs i) rest in
    subst (λ (n : ℕ). y ≤ n) (get_or-drop i xs p 0) (also (omega (arith, length-drop i xs)))

pub copied_fits : (xs ys out more : List ℕ) (i j n : ℕ) → n ≤ length out → IsMerging xs ys (take n out ++ more) i j → n + length more ≤ length (toggled xs ys)
copied_fits xs ys out more i j n fits is =
    omega (arith, merged_fits xs ys (take n out ++ more) i j is, length-append (take n out) more, length-take-le n out fits)

pub IsMerging-end : (xs ys done : List ℕ) (i j : ℕ) → (i < length xs → length ys ≤ j) → IsMerging xs ys done i j → (done ++ drop i xs) ++ drop j ys ≡ toggled xs ys
IsMerging-end xs ys done i j over is = append_assoc done (drop i xs) (drop j ys) ∙ ap (λ (zs : List ℕ). done ++ zs) (sym (left_end xs ys i j over)) ∙ is.written

-- the same of a buffer, which has the first n numbers of the merge
pub length-merged : (xs ys out : List ℕ) (i j n : ℕ) → (i < length xs → length ys ≤ j) → n ≤ length out → IsMerging xs ys (take n out) i j →
    (n + length (drop i xs)) + length (drop j ys) ≡ length (toggled xs ys)
length-merged xs ys out i j n over fits is =
    let all = IsMerging-end xs ys (take n out) i j over is in
    let count = length-take-le n out fits in
    omega (arith, ap length all, length-append (take n out ++ drop i xs) (drop j ys), length-append (take n out) (drop i xs))

-- the same of a list, which has the merge behind what it had before
pub merged_behind : (xs ys olds news : List ℕ) (i j : ℕ) → (i < length xs → length ys ≤ j) → take (length olds) news ≡ olds → IsMerging xs ys (drop (length olds) news) i j →
    (news ++ drop i xs) ++ drop j ys ≡ olds ++ toggled xs ys
merged_behind xs ys olds news i j over front is =
    let all = IsMerging-end xs ys (drop (length olds) news) i j over is in
    let parts : news ≡ olds ++ drop (length olds) news = sym (take-append-drop (length olds) news) ∙ ap (λ (zs : List ℕ). zs ++ drop (length olds) news) front in
    ap (λ (zs : List ℕ). (zs ++ drop i xs) ++ drop j ys) parts
    ∙ ap (λ (zs : List ℕ). zs ++ drop j ys) (append_assoc olds (drop (length olds) news) (drop i xs))
    ∙ append_assoc olds (drop (length olds) news ++ drop i xs) (drop j ys)
    ∙ ap (λ (zs : List ℕ). olds ++ zs) all

pub length-merged_behind : (xs ys olds news : List ℕ) (i j : ℕ) → (i < length xs → length ys ≤ j) → take (length olds) news ≡ olds → IsMerging xs ys (drop (length olds) news) i j →
    length news + ((length xs - i) + (length ys - j)) ≡ length olds + length (toggled xs ys)
length-merged_behind xs ys olds news i j over front is =
    let all = ap length (merged_behind xs ys olds news i j over front is) in
    omega (arith, all, length-append (news ++ drop i xs) (drop j ys), length-append news (drop i xs), length-append olds (toggled xs ys), length-drop i xs, length-drop j ys)

-- the changes that stand behind what there was tell the next flows
pub told_back : (before flows olds news : List ℕ) (n : ℕ) → IsStrictlyIncreasing before → IsStrictlyIncreasing flows → news ≡ olds ++ toggled before flows →
    n ≡ length news - length olds → toggled before (take n (drop (length olds) news)) ≡ flows
told_back before flows olds news n up also told size =
    let behind : drop (length olds) news ≡ toggled before flows = ap (drop (length olds)) told ∙ drop_at olds (toggled before flows) (length olds) refl in
    let all : length (toggled before flows) ≤ n = omega (arith, ap length told, length-append olds (toggled before flows)) in
    rw (behind, take_all n (toggled before flows) all) (toggled_twice before flows up also)

pub told_ascends : (before flows olds news : List ℕ) → IsStrictlyIncreasing before → IsStrictlyIncreasing flows → news ≡ olds ++ toggled before flows →
    IsStrictlyIncreasing (drop (length olds) news)
told_ascends before flows olds news up also told =
    let behind : drop (length olds) news ≡ toggled before flows = ap (drop (length olds)) told ∙ drop_at olds (toggled before flows) (length olds) refl in
    subst IsStrictlyIncreasing (sym behind) (toggled_ascends before flows up also)
