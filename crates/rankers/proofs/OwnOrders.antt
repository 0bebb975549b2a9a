-- The rankers of this crate answer orders.
use Rattle.std.proofs.Common.{◌≡◌, ◌≢◌, ℕ, ◌<◌, inl, inr, List, [], ◌∷◌, length, refl, sym, ap, subst, ◌∙◌, arith, suc, zero, Bool, true, false}
use Rattle.std.specs.Prelude.{if◌then◌else◌, nat_lt}
use Rattle.class_rates.specs.Classes.{ClassBefore, IsPermutation}
use Rattle.coflow_units.specs.Completion.{completion}
use Rattle.coflow_units.specs.Flows.{Instance}
use Rattle.coflow_units.proofs.Sums.{all_of_members}
use Rattle.rankers.specs.ByKey.{by_key, key_in, put_by_key}
use Rattle.rankers.specs.declared.scoring.Came.TheVariants as came
use Rattle.rankers.specs.Ends.{IsOwn, IsSecondEnds}
use Rattle.rankers.specs.FactsTold.{FactsTold, IsFacts, coflows_in}
use Rattle.rankers.specs.Kinds.{ratio_in}
use Rattle.rankers.specs.Meaning.{Meaning, after_note, after_notes, after_question, answer_of}
use Rattle.rankers.specs.Rounds.{IsToldOf}
use Rattle.rankers.proofs.KeyOrders.{by_key_all, by_key_is, by_key_low}
use Rattle.rankers.proofs.OneRow.{order_fits}

-- it has each of so many numbers once
record IsOrder (n : ℕ) (order : List ℕ) : Type 0 where
  count : length order ≡ n
  permutation : IsPermutation order

put_count_if : (key : ℕ → ℕ) (c x : ℕ) (xs : List ℕ) (here : Bool) → length (put_by_key key c xs) ≡ suc (length xs) →
    length (if here then c ∷ x ∷ xs else x ∷ put_by_key key c xs) ≡ suc (suc (length xs))
put_count_if key c x xs true before = refl
put_count_if key c x xs false before = ap suc before

put_count : (key : ℕ → ℕ) (c : ℕ) (xs : List ℕ) → length (put_by_key key c xs) ≡ suc (length xs)
put_count key c [] = refl
put_count key c (x ∷ xs) = put_count_if key c x xs (nat_lt (key c) (key x)) (put_count key c xs)

by_key_count : (key : ℕ → ℕ) (n : ℕ) → length (by_key key n) ≡ n
by_key_count key zero = refl
by_key_count key (suc n) = put_count key n (by_key key n) ∙ ap suc (by_key_count key n)

before_apart : (key : ℕ → ℕ) (x y : ℕ) → ClassBefore key x y → x ≢ y
before_apart key x y (inl less) e = omega (arith, less, ap key e)
before_apart key x y (inr both) e = omega (arith, both.1, e)

by_key_order : (key : ℕ → ℕ) (n : ℕ) → IsOrder n (by_key key n)
by_key_order key n =
    let order = by_key key n in
    let count = by_key_count key n in
    record {
      count = count;
      permutation = record {
        distinct = λ k l d lt in'. before_apart key _ _ ((by_key_is key n).sorted k l d lt in');
        known = all_of_members (λ c. c < length order) order (λ c has. omega (arith, count, by_key_low key n c has));
        all = λ c lt. by_key_all key n c (omega (arith, count, lt));
      };
    }

-- ---- it stays one of the crate

note_own : (m : Meaning) (coflow slot : ℕ) → IsOwn m → IsOwn (after_note m coflow slot)
note_own m coflow slot (inl e) = inl (ap (λ x. after_note x coflow slot) e)
note_own m coflow slot (inr (inl e)) = inr (inl (ap (λ x. after_note x coflow slot) e))
note_own m coflow slot (inr (inr (inl e))) = inr (inr (inl (ap (λ x. after_note x coflow slot) e)))
note_own m coflow slot (inr (inr (inr (inl e)))) = inr (inr (inr (inl (ap (λ x. after_note x coflow slot) e))))
note_own m coflow slot (inr (inr (inr (inr (held, e))))) = inr (inr (inr (inr (_, ap (λ x. after_note x coflow slot) e))))

notes_own : (m : Meaning) (end : ℕ → ℕ) (cs : List ℕ) → IsOwn m → IsOwn (after_notes m end cs)
notes_own m end [] own = own
notes_own m end (c ∷ cs) own = notes_own (after_note m c (end c)) end cs (note_own m c (end c) own)

question_own : (m : Meaning) (facts : FactsTold) → IsOwn m → IsOwn (after_question m facts)
question_own m facts (inl e) = inl (ap (λ x. after_question x facts) e)
question_own m facts (inr (inl e)) = inr (inl (ap (λ x. after_question x facts) e))
question_own m facts (inr (inr (inl e))) = inr (inr (inl (ap (λ x. after_question x facts) e)))
question_own m facts (inr (inr (inr (inl e)))) = inr (inr (inr (inl (ap (λ x. after_question x facts) e))))
question_own m facts (inr (inr (inr (inr (held, e))))) = inr (inr (inr (inr (held, ap (λ x. after_question x facts) e))))

told_own : (i : Instance) (order : List ℕ) (m later : Meaning) → IsOwn m → IsToldOf i order m later → IsOwn later
told_own i order m later own (inl (slots, served, e)) =
    subst IsOwn (sym e) (notes_own m (completion i.flows slots) (by_key (completion i.flows slots) (length i.coflows)) own)
told_own i order m later own (inr (place, unfit, e)) = subst IsOwn (sym e) own

-- ---- it answers an order

own_order : (facts : FactsTold) (m : Meaning) → IsFacts facts → IsOwn m → IsOrder (coflows_in facts) (answer_of m facts)
own_order facts m fit (inl e) =
    subst (λ x. IsOrder (coflows_in facts) (answer_of x facts)) (sym e) (record { count = fit.order_len; permutation = fit.order_is })
own_order facts m fit (inr (inl e)) =
    subst (λ x. IsOrder (coflows_in facts) (answer_of x facts)) (sym e) (by_key_order (ratio_in facts) (coflows_in facts))
own_order facts m fit (inr (inr (inl e))) =
    subst (λ x. IsOrder (coflows_in facts) (answer_of x facts)) (sym e) (by_key_order (key_in facts.bottlenecks) (coflows_in facts))
own_order facts m fit (inr (inr (inr (inl e)))) =
    subst (λ x. IsOrder (coflows_in facts) (answer_of x facts)) (sym e) (by_key_order (key_in facts.arrivals) (coflows_in facts))
own_order facts m fit (inr (inr (inr (inr (held, e))))) =
    subst (λ x. IsOrder (coflows_in facts) (answer_of x facts)) (sym e) (by_key_order (key_in held) (coflows_in facts))

pub own_fits : (i : Instance) (facts : FactsTold) (m : Meaning) (place : ℕ) → IsFacts facts → IsOwn m → length i.coflows ≡ coflows_in facts →
    IsSecondEnds i facts m (came.Unfit place) → ⊥
own_fits i facts m place fit own same second =
    let order = own_order facts second.later fit (told_own i (answer_of m facts) (after_question m facts) second.later (question_own m facts own) second.told) in
    order_fits (length i.coflows) (answer_of second.later facts) place (order.count ∙ sym same) order.permutation second.came_is
