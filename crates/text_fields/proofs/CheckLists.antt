-- A list of checks before another.
use Rattle.std.proofs.Common.{◌≡◌, List, [], ◌∷◌, ◌++◌, Some, None, Bool, true, false, refl}
use Rattle.text_fields.specs.Checks.{Check, first_fault}

-- Where the first ones hold, the others decide.
pub pass_first : {F : Type 0} (xs ys : List (Check F)) → first_fault xs ≡ None → first_fault (xs ++ ys) ≡ first_fault ys
pass_first [] ys e = refl
pass_first (x ∷ xs) ys e = go x.0 refl (λ r. pass_first xs ys r)
  where
    go : (b : Bool) → x.0 ≡ b → (first_fault xs ≡ None → first_fault (xs ++ ys) ≡ first_fault ys) → first_fault (x ∷ xs ++ ys) ≡ first_fault ys
    go true t rest = rw t (rest (rw t at e))
    go false t rest = let bad : Some x.1 ≡ None = rw t at e in cc

-- Where one of the first ones fails, the others are not looked at.
pub fail_first : {F : Type 0} (xs ys : List (Check F)) (f : F) → first_fault xs ≡ Some f → first_fault (xs ++ ys) ≡ Some f
fail_first [] ys f e = cc
fail_first (x ∷ xs) ys f e = go x.0 refl (λ r. fail_first xs ys f r)
  where
    go : (b : Bool) → x.0 ≡ b → (first_fault xs ≡ Some f → first_fault (xs ++ ys) ≡ Some f) → first_fault (x ∷ xs ++ ys) ≡ Some f
    go true t rest = rw t (rest (rw t at e))
    go false t rest = let s : Some x.1 ≡ Some f = rw t at e in rw t s

-- Each check holds.
abbrev pub Hold : {F : Type 0} → List (Check F) → Type 0
Hold [] = Unit {0}
Hold (x ∷ xs) = (x.0 ≡ true) × Hold xs

-- Where none fails, each check holds.
pub all_hold : {F : Type 0} (xs : List (Check F)) → first_fault xs ≡ None → Hold xs
all_hold [] e = tt
all_hold (x ∷ xs) e = go x.0 refl (λ r. all_hold xs r)
  where
    go : (b : Bool) → x.0 ≡ b → (first_fault xs ≡ None → Hold xs) → Hold (x ∷ xs)
    go true t rest = (t, rest (rw t at e))
    go false t rest = let bad : Some x.1 ≡ None = rw t at e in cc

-- Where none of all fails, none of either part does.
pub passed_parts : {F : Type 0} (xs ys : List (Check F)) → first_fault (xs ++ ys) ≡ None → (first_fault xs ≡ None) × (first_fault ys ≡ None)
passed_parts [] ys e = (refl, e)
passed_parts (x ∷ xs) ys e = go x.0 refl (λ r. passed_parts xs ys r)
  where
    go : (b : Bool) → x.0 ≡ b → (first_fault (xs ++ ys) ≡ None → (first_fault xs ≡ None) × (first_fault ys ≡ None)) → (first_fault (x ∷ xs) ≡ None) × (first_fault ys ≡ None)
    go true t rest = let r = rest (rw t at e) in (rw t r.0, r.1)
    go false t rest = let bad : Some x.1 ≡ None = rw t at e in cc
