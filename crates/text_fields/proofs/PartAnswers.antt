-- What the answer of a part of the checks says of all.
use Rattle.std.proofs.Common.{◌≡◌, List, ◌++◌, Some, None, Bool, true, false, sym, ◌∙◌, Err}
use Rattle.text_fields.specs.Checks.{AnswersChecks, Check, Unless, first_fault}
use Rattle.text_fields.proofs.CheckLists.{pass_first, fail_first}

module _ {V W F : Type 0} (is_free : F → Bool) (P : V → Type 0) (Q : W → Type 0) where
  -- A fault of some checks is told as that of others.
  pub retold : (xs ys : List (Check F)) (f : F) → (first_fault xs ≡ Some f → first_fault ys ≡ Some f) → AnswersChecks is_free xs P (Err f) → AnswersChecks is_free ys Q (Err f)
  retold xs ys f h a = go (is_free f) a
    where
      go : (b : Bool) → Unless b (first_fault xs ≡ Some f) → Unless b (first_fault ys ≡ Some f)
      go true a = tt
      go false a = h a

  -- A first part fails.
  pub part_fails : (xs ys : List (Check F)) (f : F) → AnswersChecks is_free xs P (Err f) → AnswersChecks is_free (xs ++ ys) Q (Err f)
  part_fails xs ys f a = retold xs (xs ++ ys) f (fail_first xs ys f) a

  -- The part behind one that passed fails.
  pub after_passed : (xs ys : List (Check F)) (f : F) → first_fault xs ≡ None → AnswersChecks is_free ys P (Err f) → AnswersChecks is_free (xs ++ ys) Q (Err f)
  after_passed xs ys f p a = retold ys (xs ++ ys) f (λ e. pass_first xs ys p ∙ e) a

  -- A first part fails of checks that have the same first fault as all.
  pub first_fails : (xs ys all : List (Check F)) (f : F) → first_fault (xs ++ ys) ≡ first_fault all → AnswersChecks is_free xs P (Err f) → AnswersChecks is_free all Q (Err f)
  first_fails xs ys all f same a = retold xs all f (λ e. sym same ∙ fail_first xs ys f e) a

  -- A middle part fails behind one that passed.
  pub second_fails : (xs ys zs : List (Check F)) (f : F) → first_fault xs ≡ None → AnswersChecks is_free ys P (Err f) → AnswersChecks is_free (xs ++ (ys ++ zs)) Q (Err f)
  second_fails xs ys zs f p a = retold ys (xs ++ (ys ++ zs)) f (λ e. pass_first xs (ys ++ zs) p ∙ fail_first ys zs f e) a
