-- Spaced numbers in front of other text.
use Rattle.std.proofs.Common.{◌≡◌, ℕ, ◌<◌, ◌^◌, List, [], ◌∷◌, ◌++◌, append_assoc, append-nil, length, refl, sym, ◌∙◌, arith}
use Rattle.std.specs.List.{flat_map}
use Rattle.report_text.specs.Readers.{Stops}
use Rattle.coflow_units.specs.Text.{spaced}
use Rattle.report_text.proofs.NumberText.{spaced_unique}

-- each number is below 2^128
abbrev pub AreWide : List ℕ → Type 0
AreWide [] = Unit {0}
AreWide (n ∷ ns) = (n < 2 ^ 128) × AreWide ns

-- no digit follows the numbers
abbrev pub StopsBehind : List ℕ → List ℕ → Type 0
StopsBehind [] x = Unit {0}
StopsBehind (n ∷ ns) x = Stops x

pub stops_then : (ns x : List ℕ) → Stops x → Stops (flat_map spaced ns ++ x)
stops_then [] x h = h
stops_then (n ∷ ns) x h = refl

-- bytes begin with so many numbers in one way at most
pub numbers_unique : (ms ns x y : List ℕ) → length ms ≡ length ns → AreWide ms → AreWide ns → StopsBehind ms x → StopsBehind ns y →
    flat_map spaced ms ++ x ≡ flat_map spaced ns ++ y → (ms ≡ ns) × (x ≡ y)
numbers_unique [] [] x y n hm hn sx sy e = (refl, e)
numbers_unique [] (n ∷ ns) x y len hm hn sx sy e = absurd (omega (arith, len))
numbers_unique (m ∷ ms) [] x y len hm hn sx sy e = absurd (omega (arith, len))
numbers_unique (m ∷ ms) (n ∷ ns) x y len hm hn sx sy e =
    let one = spaced_unique (flat_map spaced ms ++ x) (flat_map spaced ns ++ y) m n hm.0 hn.0 (stops_then ms x sx) (stops_then ns y sy)
    (sym (append_assoc (spaced m) (flat_map spaced ms) x) ∙ (e ∙ append_assoc (spaced n) (flat_map spaced ns) y)) in
    let more = numbers_unique ms ns x y (omega (arith, len)) hm.1 hn.1 (behind ms x sx) (behind ns y sy) one.1 in
    ((λ i. one.0 i ∷ more.0 i), more.1)
  where
    behind : (ks z : List ℕ) → Stops z → StopsBehind ks z
    behind [] z h = tt
    behind (k ∷ ks) z h = h

-- one, two and three numbers behind some bytes
one_regroup : (w p x : List ℕ) → (w ++ p) ++ x ≡ w ++ ((p ++ []) ++ x)
one_regroup w p x = simp (append_assoc, append-nil)

two_regroup : (w p q x : List ℕ) → (w ++ p ++ q) ++ x ≡ w ++ ((p ++ (q ++ [])) ++ x)
two_regroup w p q x = simp (append_assoc, append-nil)

three_regroup : (w p q r x : List ℕ) → (w ++ p ++ q ++ r) ++ x ≡ w ++ ((p ++ (q ++ (r ++ []))) ++ x)
three_regroup w p q r x = simp (append_assoc, append-nil)

pub one_number : (w x : List ℕ) (a : ℕ) → (w ++ spaced a) ++ x ≡ w ++ (flat_map spaced (a ∷ []) ++ x)
one_number w x a = one_regroup w (spaced a) x

pub two_numbers : (w x : List ℕ) (a b : ℕ) → (w ++ spaced a ++ spaced b) ++ x ≡ w ++ (flat_map spaced (a ∷ b ∷ []) ++ x)
two_numbers w x a b = two_regroup w (spaced a) (spaced b) x

pub three_numbers : (w x : List ℕ) (a b c : ℕ) → (w ++ spaced a ++ spaced b ++ spaced c) ++ x ≡ w ++ (flat_map spaced (a ∷ b ∷ c ∷ []) ++ x)
three_numbers w x a b c = three_regroup w (spaced a) (spaced b) (spaced c) x
