-- Bytes that are put one after another.
use Rattle.std.proofs.Common.{◌≡◌, ℕ, ◌+◌, List, [], ◌++◌, append_assoc, append-nil, length, length-append, take, refl, subst, sym, ap, ◌∙◌, arith}
use Rattle.std.specs.Prelude.{Option, Some, None, Result, Ok, Err, codes}
use Rattle.std.specs.Result.{IsErr}
use Rattle.std.proofs.lemmas.List.{take-append-le}
use Rattle.std.proofs.Math.Seq.{take-append-add}
use Rattle.std.specs.List.{flat_map}
use Rattle.outside.specs.declared.sink.Failed.{Failed}
use Rattle.run_list.specs.Runs.{run_of}
use Rattle.coflow_units.specs.Text.{ended, spaced}
use Rattle.report_text.specs.Puts.{Puts}
use Rattle.report_text.specs.Text.{run_line}

-- the bytes were put
abbrev pub PutsAll : Option (List ℕ) → Option (List ℕ) → List ℕ → List ℕ → List ℕ → Type 0
PutsAll old new before after bytes = Puts {X = Unit {0}} {E = Failed} old new before after bytes (Ok tt)

-- the bytes of two steps
sum_of : (t t' p q r x y : List ℕ) → t ++ q ≡ p ++ x → t' ++ r ≡ q ++ y → (t ++ t') ++ r ≡ p ++ (x ++ y)
sum_of t t' p q r x y first next =
    append_assoc t t' r ∙ (ap (λ v. t ++ v) next ∙ (sym (append_assoc t q y) ∙ (ap (λ v. v ++ y) first ∙ append_assoc p x y)))

-- a step behind one that succeeded
pub puts_then : (a b c : Option (List ℕ)) (p q r x y : List ℕ) (res : Result (Unit {0}) Failed) → PutsAll a b p q x → Puts b c q r y res → Puts a c p r (x ++ y) res
puts_then None None c p q r x y res first next = next
puts_then None (Some s) c p q r x y res first next = cc
puts_then (Some o) None c p q r x y res first next = let bad = first.1 in cc
puts_then (Some o) (Some s) c p q r x y (Ok v) first next =
    let is : s ≡ o ++ first.0 = let e = first.1 in cc in
    (first.0 ++ next.0, next.1 ∙ ap Some (ap (λ v. v ++ next.0) is ∙ append_assoc o first.0 next.0), sum_of first.0 next.0 p q r x y first.2 next.2)
puts_then (Some o) (Some s) c p q r x y (Err v) first next =
    let t = first.0 in
    let is : s ≡ o ++ t = let e = first.1 in cc in
    let n = next.0 in
    let all : t ++ (q ++ y) ≡ p ++ (x ++ y) = sym (append_assoc t q y) ∙ (ap (λ v. v ++ y) first.2 ∙ append_assoc p x y) in
    let front : t ++ take n (q ++ y) ≡ take (length t + n) (p ++ (x ++ y)) = sym (take-append-add t (q ++ y) n) ∙ ap (take (length t + n)) all in (
      length t + n,
      omega (arith, next.1, ap length all, length-append t (q ++ y)),
      next.2 ∙ ap Some (ap (λ v. v ++ take n (q ++ y)) is ∙ (append_assoc o t (take n (q ++ y)) ∙ ap (λ v. o ++ v) front)),
    )

-- a step that failed is the last one
pub puts_cut : (a b : Option (List ℕ)) (p q r x y : List ℕ) (err : Failed) (res : Result (Unit {0}) Failed) → IsErr res → Puts {X = Unit {0}} a b p q x (Err err) →
    Puts a b p r (x ++ y) res
puts_cut None b p q r x y err res failed cut = cut
puts_cut (Some o) b p q r x y err (Ok v) failed cut = cc
puts_cut (Some o) b p q r x y err (Err v) failed cut =
    let n = cut.0 in
    let same : p ++ (x ++ y) ≡ (p ++ x) ++ y = sym (append_assoc p x y) in (
      n,
      omega (arith, cut.1, ap length same, length-append (p ++ x) y),
      cut.2 ∙ ap (λ v. Some (o ++ v)) (sym (take-append-le n (p ++ x) y (omega (arith, cut.1))) ∙ ap (take n) (sym same)),
    )

-- nothing is put
pub puts_none : (a : Option (List ℕ)) (p : List ℕ) → PutsAll a a p p []
puts_none None p = refl
puts_none (Some o) p = ([], ap Some (sym (append-nil o)), sym (append-nil p))

-- bytes for which there is room
pub puts_into : (a : Option (List ℕ)) (p q x : List ℕ) → q ≡ p ++ x → PutsAll a a p q x
puts_into None p q x grown = refl
puts_into (Some o) p q x grown = ([], ap Some (sym (append-nil o)), grown)

-- the words of the line of a run
pub puts_line : (a b : Option (List ℕ)) (p q : List ℕ) (slots : ℕ) (flows : List ℕ) (res : Result (Unit {0}) Failed) →
    Puts a b p q (codes "run" ++ (spaced slots ++ (flat_map spaced flows ++ codes "\n"))) res → Puts a b p q (ended (run_line (run_of slots flows))) res
puts_line a b p q slots flows res words = subst (λ x. Puts a b p q (codes "run" ++ x) res) (sym (append_assoc (spaced slots) (flat_map spaced flows) (codes "\n"))) words
