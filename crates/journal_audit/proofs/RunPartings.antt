-- Where the schedules of two lists of runs part.
use Rattle.std.proofs.Common.{◌≡◌, ◌≢◌, ℕ, ◌+◌, ◌≤◌, ◌<◌, inl, inr, zero, suc, List, [], ◌∷◌, ◌++◌, length, get_or, take, drop, replicate, refl, sym, ap, ◌∙◌, subst, arith}
use Rattle.std.specs.Prelude.{Some, min, slice_get}
use Rattle.std.proofs.lemmas.Bool.{cases_lt}
use Rattle.std.proofs.lemmas.List.{append-nil, drop_more, get_or-drop, get_or_default, length-drop}
use Rattle.coflow_units.specs.declared.plan.Run.{Run}
use Rattle.schedule_model.specs.RunList.{IsKept, slots_in}
use Rattle.schedule_model.proofs.RunSlots.{all_runs, run_at, run_more, run_some, slots_parts}
use Rattle.journal_audit.specs.ClaimsLooked.{HaveInCommon}
use Rattle.journal_audit.specs.Parted.{IsPartedAt}
use Rattle.journal_audit.proofs.Partings.{end_parts, fewer_part, heads_part, none_is_not_some, parted_back, parted_behind, same_some}

-- the slots before a run, its own, and those after it
pub slots_apart : (runs : List Run) (k : ℕ) (r : Run) → k < length runs → r ≡ get_or runs k r →
    slots_in runs ≡ slots_in (take k runs) ++ (replicate r.length r.flows ++ slots_in (drop (k + 1) runs))
slots_apart runs k r lt e =
    slots_parts k runs
    ∙ ap (λ l. slots_in (take k runs) ++ slots_in l) (drop_more runs k r lt)
    ∙ ap (λ (x : Run). slots_in (take k runs) ++ (replicate x.length x.flows ++ slots_in (drop (k + 1) runs))) (sym e)

-- a list of runs begins with a slot of its first run
first_slot : (rs : List Run) (f : List ℕ) → ((d : Run) → 0 < length rs → (1 ≤ (get_or rs 0 d).length) × ((get_or rs 0 d).flows ≢ f)) → slice_get (slots_in rs) 0 ≢ Some f
first_slot [] f other = λ e. none_is_not_some f e
first_slot (r ∷ rs) f other = go r.length refl
  where
    here : (1 ≤ r.length) × (r.flows ≢ f)
    here = other r (omega arith)

    go : (n : ℕ) → n ≡ r.length → slice_get (replicate r.length r.flows ++ slots_in rs) 0 ≢ Some f
    go zero e = absurd (omega (arith, here.0))
    go (suc n) e = subst (λ m. slice_get (replicate m r.flows ++ slots_in rs) 0 ≢ Some f) e (λ same. here.1 (same_some r.flows f same))

-- behind a run the slots go on otherwise, or end
pub goes_on_otherwise : (runs : List Run) (k : ℕ) (r : Run) → IsKept runs → k < length runs → r ≡ get_or runs k r → slice_get (slots_in (drop (k + 1) runs)) 0 ≢ Some r.flows
goes_on_otherwise runs k r kept lt e = first_slot (drop (k + 1) runs) r.flows next
  where
    next : (d : Run) → 0 < length (drop (k + 1) runs) → (1 ≤ (get_or (drop (k + 1) runs) 0 d).length) × ((get_or (drop (k + 1) runs) 0 d).flows ≢ r.flows)
    next d some =
        let more : k + 1 < length runs = omega (arith, length-drop (k + 1) runs) in
        let at : get_or (drop (k + 1) runs) 0 d ≡ get_or runs (k + 1) d = get_or-drop (k + 1) runs 0 d ∙ ap (λ i. get_or runs i d) (omega arith) in
        let here : get_or runs k d ≡ r = get_or_default runs k d r lt ∙ sym e in
        let own : get_or runs (k + 1) d ≡ get_or runs (k + 1) (get_or runs (k + 1) d) = get_or_default runs (k + 1) d (get_or runs (k + 1) d) more in (
          subst (λ (x : Run). 1 ≤ x.length) (sym at) (run_some runs (k + 1) (get_or runs (k + 1) d) kept more own),
          λ same. kept.maximal k d more (ap (λ (x : Run). x.flows) here ∙ sym same ∙ ap (λ (x : Run). x.flows) at),
        )

both_start : (n m : ℕ) (f g : List ℕ) (xs ys : List (List ℕ)) → 1 ≤ n → 1 ≤ m → f ≢ g → IsPartedAt (replicate n f ++ xs) (replicate m g ++ ys) 0
both_start zero m f g xs ys some some' differ = absurd (omega arith)
both_start (suc n) zero f g xs ys some some' differ = absurd (omega arith)
both_start (suc n) (suc m) f g xs ys some some' differ = heads_part f g (replicate n f ++ xs) (replicate m g ++ ys) differ

pub common_few : (a b : Run) (n : ℕ) → HaveInCommon a b n → n ≤ a.length
common_few a b n (inl (differ, none)) = omega (arith, none)
common_few a b n (inr (flows, lengths, least)) = omega (arith, least)

-- one run more on each side, where the two are the same
pub same_more : (stated real : List Run) (k : ℕ) (a b : Run) → k < length stated → k < length real → a ≡ get_or stated k a → b ≡ get_or real k b →
    slots_in (take k stated) ≡ slots_in (take k real) → a.length ≡ b.length → a.flows ≡ b.flows → slots_in (take (k + 1) stated) ≡ slots_in (take (k + 1) real)
same_more stated real k a b in_s in_r is_a is_b same lengths flows =
    run_more stated k a in_s is_a ∙ ap (λ x. x ++ replicate a.length a.flows) same
    ∙ ap (λ n. slots_in (take k real) ++ replicate n a.flows) lengths ∙ ap (λ f. slots_in (take k real) ++ replicate b.length f) flows
    ∙ sym (run_more real k b in_r is_b)

-- runs that are not the same part after the slots that they have in common
pub runs_part : (stated real : List Run) (k : ℕ) (a b : Run) (n : ℕ) → IsKept stated → IsKept real → k < length stated → k < length real →
    a ≡ get_or stated k a → b ≡ get_or real k b → slots_in (take k stated) ≡ slots_in (take k real) → HaveInCommon a b n →
    IsPartedAt (slots_in stated) (slots_in real) (length (slots_in (take k stated)) + n)
runs_part stated real k a b n kept_s kept_r in_s in_r is_a is_b same common =
    subst (λ x. IsPartedAt x (slots_in real) (length (slots_in (take k stated)) + n)) (sym (slots_apart stated k a in_s is_a))
    (subst (λ y. IsPartedAt (slots_in (take k stated) ++ (replicate a.length a.flows ++ behind_a)) y (length (slots_in (take k stated)) + n))
    (ap (λ x. x ++ (replicate b.length b.flows ++ behind_b)) same ∙ sym (slots_apart real k b in_r is_b))
    (parted_behind (slots_in (take k stated)) (replicate a.length a.flows ++ behind_a) (replicate b.length b.flows ++ behind_b) n (here common)))
  where
    behind_a : List (List ℕ)
    behind_a = slots_in (drop (k + 1) stated)

    behind_b : List (List ℕ)
    behind_b = slots_in (drop (k + 1) real)

    some_a : 1 ≤ a.length
    some_a = run_some stated k a kept_s in_s is_a

    some_b : 1 ≤ b.length
    some_b = run_some real k b kept_r in_r is_b

    here : HaveInCommon a b n → IsPartedAt (replicate a.length a.flows ++ behind_a) (replicate b.length b.flows ++ behind_b) n
    here (inl (differ, none)) = subst (λ m. IsPartedAt (replicate a.length a.flows ++ behind_a) (replicate b.length b.flows ++ behind_b) m) (sym none)
        (both_start a.length b.length a.flows b.flows behind_a behind_b some_a some_b differ)
    here (inr (flows, lengths, least)) = elim (cases_lt a.length b.length) [
      | inl lt ↦
          let short : a.length ≡ n = omega (arith, least, lt) in
          subst (λ m. IsPartedAt (replicate a.length a.flows ++ behind_a) (replicate b.length b.flows ++ behind_b) m) short
          (subst (λ f. IsPartedAt (replicate a.length a.flows ++ behind_a) (replicate b.length f ++ behind_b) a.length) flows
          (fewer_part a.length b.length a.flows behind_a behind_b lt (goes_on_otherwise stated k a kept_s in_s is_a)))
      | inr le ↦
          let less : b.length < a.length = omega (arith, le, lengths) in
          let short : b.length ≡ n = omega (arith, least, less) in
          subst (λ m. IsPartedAt (replicate a.length a.flows ++ behind_a) (replicate b.length b.flows ++ behind_b) m) short
          (subst (λ f. IsPartedAt (replicate a.length f ++ behind_a) (replicate b.length b.flows ++ behind_b) b.length) (sym flows)
          (parted_back _ _ _ (fewer_part b.length a.length b.flows behind_b behind_a less (goes_on_otherwise real k b kept_r in_r is_b))))
    ]

ended_part : (a : List (List ℕ)) (f : List ℕ) (rest : List (List ℕ)) → IsPartedAt a (a ++ (f ∷ rest)) (length a + 0)
ended_part a f rest = subst (λ l. IsPartedAt l (a ++ (f ∷ rest)) (length a + 0)) (append-nil a) (parted_behind a [] (f ∷ rest) 0 (end_parts f rest))

ends : (xs ys : List Run) (k : ℕ) → IsKept ys → length xs ≤ k → k < length ys → slots_in (take k ys) ≡ slots_in (take k xs) →
    IsPartedAt (slots_in xs) (slots_in ys) (length (slots_in (take k ys)))
ends xs [] k kept all more same = absurd (omega arith)
ends xs (y ∷ ys) k kept all more same =
    let n : length (slots_in (take k (y ∷ ys))) + 0 ≡ length (slots_in (take k (y ∷ ys))) = omega arith in
    let e : get_or (y ∷ ys) k y ≡ get_or (y ∷ ys) k (get_or (y ∷ ys) k y) = get_or_default (y ∷ ys) k y (get_or (y ∷ ys) k y) more in
    subst (λ (m : ℕ). IsPartedAt (slots_in xs) (slots_in (y ∷ ys)) m) n
    (subst (λ l. IsPartedAt l (slots_in (y ∷ ys)) (length (slots_in (take k (y ∷ ys))) + 0)) (same ∙ all_runs xs k all)
    (subst (λ l. IsPartedAt (slots_in (take k (y ∷ ys))) l (length (slots_in (take k (y ∷ ys))) + 0)) (sym (run_at (y ∷ ys) k (get_or (y ∷ ys) k y) kept more e))
    (ended_part (slots_in (take k (y ∷ ys))) _ _)))

-- one of the lists ended, and the other goes on
pub one_ended : (stated real : List Run) (k : ℕ) → IsKept stated → IsKept real → k ≡ min (length stated) (length real) → length stated ≢ length real →
    slots_in (take k stated) ≡ slots_in (take k real) → IsPartedAt (slots_in stated) (slots_in real) (length (slots_in (take k stated)))
one_ended stated real k kept_s kept_r few differ same = elim (cases_lt (length stated) (length real)) [
  | inl lt ↦
      let all : length stated ≤ k = omega (arith, few, lt) in
      let in_r : k < length real = omega (arith, few, lt) in
      subst (λ n. IsPartedAt (slots_in stated) (slots_in real) n) (ap length (sym same))
      (ends stated real k kept_r all in_r (sym same))
  | inr le ↦
      let all : length real ≤ k = omega (arith, few, le) in
      let in_s : k < length stated = omega (arith, few, le, differ) in
      parted_back _ _ _ (ends real stated k kept_s all in_s same)
]
