-- The parts of a line in front of other text.
use Rattle.std.proofs.Common.{◌≡◌, ℕ, suc, ◌<◌, ◌≤◌, ◌^◌, List, [], ◌∷◌, ◌++◌, Bool, true, false, Option, Some, None, length, drop, get_or, append_assoc, append-nil, refl, sym, ap}
use Rattle.std.proofs.Common.{◌∙◌, arith}
use Rattle.std.specs.Prelude.{◌==◌, codes}
use Rattle.std.proofs.lemmas.Bool.Decides.{nat_tests}
use Rattle.std.proofs.lemmas.List.{append_cancel_left}
use Rattle.coflow_units.specs.declared.fabric.Side.{Side}
use Rattle.coflow_units.specs.declared.fabric.Side.TheVariants.{Ingress, Egress}
use Rattle.report_text.specs.declared.value.PlaceLine.{PlaceLine}
use Rattle.report_text.specs.Report.{IsSmallPlace}
use Rattle.report_text.specs.Text.{charge_words, place_line, side_word, weight_word}
use Rattle.coflow_units.specs.Text.{spaced}
use Rattle.report_text.specs.Readers.{IsWeight, Stops}
use Rattle.report_text.proofs.NumberText.{spaced_unique}

-- two numbers that the same bytes begin with are one
pub same_number : (bytes x y : List ℕ) (m n : ℕ) → m < 2 ^ 128 → n < 2 ^ 128 → Stops x → Stops y → bytes ≡ spaced m ++ x → bytes ≡ spaced n ++ y → (m ≡ n) × (x ≡ y)
same_number bytes x y m n hm hn sx sy a b = spaced_unique x y m n hm hn sx sy (sym a ∙ b)

pub side_unique : (s t : Side) (x y : List ℕ) → codes " " ++ side_word s ++ x ≡ codes " " ++ side_word t ++ y → (s ≡ t) × (x ≡ y)
side_unique Ingress Ingress x y e = (refl, ap (drop 3) e)
side_unique Egress Egress x y e = (refl, ap (drop 4) e)
side_unique Ingress Egress x y e = absurd (let h : 105 ≡ 111 = ap (λ l. get_or l 1 0) e in omega (arith, h))
side_unique Egress Ingress x y e = absurd (let h : 111 ≡ 105 = ap (λ l. get_or l 1 0) e in omega (arith, h))

-- what follows a part of a place line
abbrev pub after_y : PlaceLine → List ℕ → List ℕ
after_y p rest = spaced p.done ++ rest

abbrev pub after_number : PlaceLine → List ℕ → List ℕ
after_number p rest = spaced p.y ++ after_y p rest

abbrev pub after_side : PlaceLine → List ℕ → List ℕ
after_side p rest = spaced p.port.number ++ after_number p rest

abbrev pub after_id : PlaceLine → List ℕ → List ℕ
after_id p rest = codes " " ++ side_word p.port.side ++ after_side p rest

regroup : (a b c d e f r : List ℕ) → (a ++ b ++ c ++ d ++ e ++ f) ++ r ≡ a ++ (b ++ c ++ (d ++ (e ++ (f ++ r))))
regroup a b c d e f r = simp append_assoc

pub charge_parts : (p : PlaceLine) (rest : List ℕ) → charge_words p ++ rest ≡ spaced p.id ++ after_id p rest
charge_parts p rest = regroup (spaced p.id) (codes " ") (side_word p.port.side) (spaced p.port.number) (spaced p.y) (spaced p.done) rest

-- the words of a place that was read part by part
pub charge_found : (p : PlaceLine) (bytes r1 r2 r3 r4 rest : List ℕ) → bytes ≡ spaced p.id ++ r1 → r1 ≡ codes " " ++ side_word p.port.side ++ r2 →
    r2 ≡ spaced p.port.number ++ r3 → r3 ≡ spaced p.y ++ r4 → r4 ≡ spaced p.done ++ rest → bytes ≡ charge_words p ++ rest
charge_found p bytes r1 r2 r3 r4 rest a b d e f =
    let from_y = e ∙ ap (λ x. spaced p.y ++ x) f in
    let from_number = d ∙ ap (λ x. spaced p.port.number ++ x) from_y in
    let from_side = b ∙ ap (λ x. codes " " ++ side_word p.port.side ++ x) from_number in
    a ∙ (ap (λ x. spaced p.id ++ x) from_side ∙ sym (charge_parts p rest))

-- a part that was read is that of any place whose words the bytes begin with
pub id_is : (p : PlaceLine) (bytes rest r : List ℕ) (n : ℕ) → IsSmallPlace p → bytes ≡ charge_words p ++ rest → n < 2 ^ 128 → bytes ≡ spaced n ++ r → Stops r →
    (n ≡ p.id) × (r ≡ after_id p rest)
id_is p bytes rest r n small e s f stops = same_number bytes r (after_id p rest) n p.id s (omega (arith, small.id)) stops refl f (e ∙ charge_parts p rest)

pub side_is : (p : PlaceLine) (bytes rest r : List ℕ) (side : Side) → bytes ≡ after_id p rest → bytes ≡ codes " " ++ side_word side ++ r →
    (side ≡ p.port.side) × (r ≡ after_side p rest)
side_is p bytes rest r side e f = side_unique side p.port.side r (after_side p rest) (sym f ∙ e)

pub number_is : (p : PlaceLine) (bytes rest r : List ℕ) (n : ℕ) → IsSmallPlace p → bytes ≡ after_side p rest → n < 2 ^ 128 → bytes ≡ spaced n ++ r → Stops r →
    (n ≡ p.port.number) × (r ≡ after_number p rest)
number_is p bytes rest r n small e s f stops = same_number bytes r (after_number p rest) n p.port.number s (omega (arith, small.port)) stops refl f e

pub y_is : (p : PlaceLine) (bytes rest r : List ℕ) (n : ℕ) → IsSmallPlace p → bytes ≡ after_number p rest → n < 2 ^ 128 → bytes ≡ spaced n ++ r → Stops r →
    (n ≡ p.y) × (r ≡ after_y p rest)
y_is p bytes rest r n small e s f stops = same_number bytes r (after_y p rest) n p.y s small.y stops refl f e

-- bytes begin with the words of one place at most
pub charge_unique : (p q : PlaceLine) (x y : List ℕ) → IsSmallPlace p → IsSmallPlace q → Stops x → Stops y → charge_words p ++ x ≡ charge_words q ++ y → (p ≡ q) × (x ≡ y)
charge_unique p q x y sp sq stops_x stops_y e =
    let id = id_is q (charge_words p ++ x) y (after_id p x) p.id sq e (omega (arith, sp.id)) (charge_parts p x) refl in
    let side = side_is q (after_id p x) y (after_side p x) p.port.side id.1 refl in
    let number = number_is q (after_side p x) y (after_number p x) p.port.number sq side.1 (omega (arith, sp.port)) refl refl in
    let own = y_is q (after_number p x) y (after_y p x) p.y sq number.1 sp.y refl refl in
    let done = same_number (after_y p x) x y p.done q.done (omega (arith, sp.done)) (omega (arith, sq.done)) stops_x stops_y refl own.1 in
    (λ i. record { id = id.0 i; port = record { side = side.0 i; number = number.0 i }; y = own.0 i; done = done.0 i }, done.1)

-- no digit follows where a weight or nothing follows
pub weight_stops : (weight : Option ℕ) → Stops (weight_word weight)
weight_stops None = tt
weight_stops (Some w) = refl

-- without a number the bytes are no weight
pub no_weight : (weighed : Bool) (bytes : List ℕ) → weighed ≡ true → ((n : ℕ) (rest : List ℕ) → n ≤ 2 ^ 32 → Stops rest → bytes ≡ spaced n ++ rest → ⊥) → (weight : Option ℕ) →
    IsWeight weighed weight → bytes ≡ weight_word weight → ⊥
no_weight true bytes is none (Some w) h e = none w [] h.1 tt (e ∙ sym (append-nil (spaced w)))
no_weight true bytes is none None h e = h
no_weight false bytes is none weight h e = let bad : false ≡ true = is in cc

-- bytes that are a number and no more are no other weight
pub only_weight : (weighed : Bool) (bytes rest : List ℕ) (n : ℕ) → weighed ≡ true → n < 2 ^ 128 → bytes ≡ spaced n ++ rest → Stops rest → (weight : Option ℕ) →
    IsWeight weighed weight → bytes ≡ weight_word weight → (1 ≤ n) × (rest ≡ [])
only_weight true bytes rest n is small f stops (Some w) h e =
    let same = same_number bytes rest [] n w small (omega (arith, h.1)) stops tt f (e ∙ sym (append-nil (spaced w))) in
    (omega (arith, h.0, same.0), same.1)
only_weight true bytes rest n is small f stops None h e = absurd h
only_weight false bytes rest n is small f stops weight h e = let bad : false ≡ true = is in cc

-- bytes that are a number and no more are a weight
pub weight_found : (weighed : Bool) (bytes rest : List ℕ) (n : ℕ) → weighed ≡ true → (n ≡ 0 → ⊥) → n ≤ 2 ^ 32 → bytes ≡ spaced n ++ rest → rest ≡ [] →
    IsWeight weighed (Some n) × (bytes ≡ weight_word (Some n))
weight_found true bytes rest n is some le f none = ((omega (arith, some), le), f ∙ (ap (λ x. spaced n ++ x) none ∙ append-nil (spaced n)))
weight_found false bytes rest n is some le f none = let bad : false ≡ true = is in cc

-- the parts of a place line behind its first word
place_regroup : (a b c d : List ℕ) → a ++ b ++ c ++ d ≡ a ++ (b ++ (c ++ d))
place_regroup a b c d = simp append_assoc

pub place_parts : (k : ℕ) (p : PlaceLine) (weight : Option ℕ) → place_line k p weight ≡ codes "place" ++ (spaced k ++ (charge_words p ++ weight_word weight))
place_parts k p weight = place_regroup (codes "place") (spaced k) (charge_words p) (weight_word weight)

-- the line of a place that was read part by part
pub place_found : (k : ℕ) (p : PlaceLine) (weight : Option ℕ) (line r s t : List ℕ) → line ≡ codes "place" ++ r → r ≡ spaced k ++ s → s ≡ charge_words p ++ t →
    t ≡ weight_word weight → line ≡ place_line k p weight
place_found k p weight line r s t a b d e =
    let from_charge = d ∙ ap (λ x. charge_words p ++ x) e in
    let from_number = b ∙ ap (λ x. spaced k ++ x) from_charge in
    a ∙ (ap (λ x. codes "place" ++ x) from_number ∙ sym (place_parts k p weight))

pub behind_place : (k : ℕ) (p : PlaceLine) (weight : Option ℕ) (line rest : List ℕ) → line ≡ codes "place" ++ rest → line ≡ place_line k p weight →
    rest ≡ spaced k ++ (charge_words p ++ weight_word weight)
behind_place k p weight line rest f e = ap (drop 5) (sym f ∙ (e ∙ place_parts k p weight))

-- the number that was read is the place's
pub place_is : (k n : ℕ) (p : PlaceLine) (weight : Option ℕ) (line rest r : List ℕ) → k < 2 ^ 128 → n < 2 ^ 128 → line ≡ codes "place" ++ rest → line ≡ place_line k p weight →
    rest ≡ spaced n ++ r → Stops r → (n ≡ k) × (r ≡ charge_words p ++ weight_word weight)
place_is k n p weight line rest r sk sn f e g stops =
    same_number rest r (charge_words p ++ weight_word weight) n k sn sk stops refl g (behind_place k p weight line rest f e)

-- the line of a total
pub total_none : (word line rest : List ℕ) (n : ℕ) → line ≡ word ++ rest → line ≡ word ++ spaced n → rest ≡ spaced n ++ []
total_none word line rest n f e = append_cancel_left word rest (spaced n) (sym f ∙ e) ∙ sym (append-nil (spaced n))

pub empty_is : (xs : List ℕ) → true ≡ (length xs == 0) → xs ≡ []
empty_is [] h = refl
empty_is (x ∷ xs) h = absurd (grind (arith, nat_tests))

pub not_empty : (xs : List ℕ) → false ≡ (length xs == 0) → xs ≡ [] → ⊥
not_empty [] h e = let bad : false ≡ true = h in cc
not_empty (x ∷ xs) h e = let bad : suc (length xs) ≡ 0 = ap length e in absurd (omega arith)
