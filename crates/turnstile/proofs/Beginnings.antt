-- Beginnings of a list that grows.
use Rattle.std.proofs.Common.{◌≡◌, ◌≢◌, ℕ, ◌+◌, ◌≤◌, List, [], ◌∷◌, ◌++◌, length, sym, refl, ap, ◌∙◌, subst, arith, length-append}
use Rattle.std.proofs.lemmas.List.{append-nil, append_assoc}
use Rattle.std.proofs.lemmas.List.Elements.{All-nil, All-append, All-tail, All-head, All-cons}
use Rattle.std.specs.Prelude.{All, nat_lt}
use Rattle.std.proofs.lemmas.Bool.{cond_both, ltb-true, ltb-false}
use Rattle.turnstile.specs.Histories.{NoneBy, NoneAbove, GoesOn, Begins, longer}

module _ {E : Type 0} where
  abbrev tail_of : List E → List E
  tail_of [] = []
  tail_of (z ∷ zs) = zs

  abbrev head_or : E → List E → E
  head_or d [] = d
  head_or d (z ∷ zs) = z

  same_rest : (us p q : List E) → us ++ p ≡ us ++ q → p ≡ q
  same_rest [] p q e = e
  same_rest (u ∷ us) p q e = same_rest us p q (ap tail_of e)

  pub begins_on : (log more seen : List E) → Begins log seen → Begins (log ++ more) seen
  begins_on log more seen h = (h.0 ++ more, ap (λ l. l ++ more) h.1 ∙ append_assoc seen h.0 more)

  -- of two beginnings of a list, the one that is no shorter begins with the other
  pub begins_with : (log xs ys : List E) → Begins log xs → Begins log ys → length xs ≤ length ys → Begins ys xs
  begins_with log [] ys a b l = (ys, refl)
  begins_with log (x ∷ xs) [] a b l = absurd (omega arith)
  begins_with log (x ∷ xs) (y ∷ ys) a b l =
      let e : x ∷ (xs ++ a.0) ≡ y ∷ (ys ++ b.0) = sym a.1 ∙ b.1 in
      let h = begins_with (xs ++ a.0) xs ys (a.0, refl) (b.0, ap tail_of e) (omega arith) in
      (h.0, λ i. head_or x (sym e i) ∷ h.1 i)

  -- a beginning that is no shorter than the list is the list
  pub whole_beginning : (log seen : List E) → Begins log seen → length log ≤ length seen → seen ≡ log
  whole_beginning log seen b l = same_as b.0 b.1
    where
      same_as : (rest : List E) → log ≡ seen ++ rest → seen ≡ log
      same_as [] e = sym (e ∙ append-nil seen)
      same_as (x ∷ xs) e = absurd (let n : length log ≡ length seen + length (x ∷ xs) = ap (λ (z : List E). length z) e ∙ length-append seen (x ∷ xs) in omega arith)

  pub longer_begins : (log xs ys : List E) → Begins log xs → Begins log ys → Begins log (longer xs ys)
  longer_begins log xs ys a b = cond_both (nat_lt (length xs) (length ys)) ys xs (Begins log) (λ _. b) (λ _. a)

  pub longer_left : (xs ys : List E) → length xs ≤ length (longer xs ys)
  longer_left xs ys = cond_both (nat_lt (length xs) (length ys)) ys xs (λ l. length xs ≤ length l) (λ lt. let m = ltb-true (length xs) (length ys) lt in
      omega arith) (λ _. omega arith)

  pub longer_right : (xs ys : List E) → length ys ≤ length (longer xs ys)
  longer_right xs ys = cond_both (nat_lt (length xs) (length ys)) ys xs (λ l. length ys ≤ length l) (λ _. omega arith) (λ lt. let m = ltb-false (length xs) (length ys) lt in
      omega arith)

  -- of a list and one that goes on after it, the longer is the second
  pub longer_is : (xs ys : List E) → Begins ys xs → longer xs ys ≡ ys
  longer_is xs ys b = cond_both (nat_lt (length xs) (length ys)) ys xs (λ l. l ≡ ys) (λ _. refl)
      (λ lt. let m = ltb-false (length xs) (length ys) lt in whole_beginning ys xs b (omega arith))

module _ {E : Type 0} (by : E → ℕ) where
  -- a list that goes on by entries of others
  pub goes_on : (log more : List E) (k : ℕ) (seen : List E) → NoneBy by k more → GoesOn by log k seen → GoesOn by (log ++ more) k seen
  goes_on log more k seen apart h = (h.0 ++ more, ap (λ l. l ++ more) h.1 ∙ append_assoc seen h.0 more, All-append (λ e. by e ≢ k) h.0 more h.2 apart)

  pub whole : (log : List E) (k : ℕ) → GoesOn by log k log
  whole log k = ([], sym (append-nil log), All-nil (λ e. by e ≢ k))

  all_front : (P : E → Type 0) (us vs : List E) → All P (us ++ vs) → All P us
  all_front P [] vs h = All-nil P
  all_front P (u ∷ us) vs h = All-cons P u us (All-head P u (us ++ vs) h) (all_front P us vs (All-tail P u (us ++ vs) h))

  none_back : (us vs : List E) (k : ℕ) → NoneBy by k (us ++ vs) → NoneBy by k vs
  none_back [] vs k h = h
  none_back (u ∷ us) vs k h = none_back us vs k (All-tail (λ e. by e ≢ k) u (us ++ vs) h)

  none_between : (log xs ys t : List E) (k : ℕ) → ys ≡ xs ++ t → (a : GoesOn by log k xs) → (b : Begins log ys) → NoneBy by k (t ++ b.0)
  none_between log xs ys t k is a b =
      let both : xs ++ a.0 ≡ xs ++ (t ++ b.0) = sym a.1 ∙ (b.1 ∙ (ap (λ z. z ++ b.0) is ∙ append_assoc xs t b.0)) in
      subst (NoneBy by k) (same_rest xs a.0 (t ++ b.0) both) a.2

  -- what is known of a caller's entries past one beginning is known past a longer one
  pub goes_longer : (log xs ys : List E) (k : ℕ) → GoesOn by log k xs → Begins log ys → length xs ≤ length ys → GoesOn by log k ys
  goes_longer log xs ys k a b l = let t = begins_with log xs ys (a.0, a.1) b l in (b.0, b.1, none_back t.0 b.0 k (none_between log xs ys t.0 k t.1 a b))

  -- and between the two the caller has no entry
  pub goes_between : (log xs ys : List E) (k : ℕ) → GoesOn by log k xs → Begins log ys → length xs ≤ length ys → GoesOn by ys k xs
  goes_between log xs ys k a b l = let t = begins_with log xs ys (a.0, a.1) b l in (t.0, t.1, all_front (λ e. by e ≢ k) t.0 b.0 (none_between log xs ys t.0 k t.1 a b))

  -- where a list has no entry of a number above, its beginnings have none
  pub above_beginning : (most : ℕ) (log seen : List E) → Begins log seen → NoneAbove by most log → NoneAbove by most seen
  above_beginning most log seen b h = all_front (λ e. by e ≤ most) seen b.0 (subst (All (λ e. by e ≤ most)) b.1 h)
