-- The line of a master's state after one coflow more joined or left, and after a publishing.
use Rattle.std.proofs.Common.{◌≡◌, ℕ, ◌+◌, inl, inr, Bool, true, false, List, [], ◌∷◌, ◌++◌, Contains, append-nil, append_assoc, cond, get_or, length, refl, sym, ap, ◌∙◌}
use Rattle.std.proofs.Math.Bool.{and_assoc}
use Rattle.std.specs.Prelude.{◌==◌, ◌&&◌, ◌||◌, map, not}
use Rattle.std.specs.List.{filter}
use Rattle.std.proofs.lemmas.Bool.{cases_eq, eq-eqb, ne_eqb}
use Rattle.std.proofs.lemmas.List.{length_push}
use Rattle.std.proofs.lemmas.List.Elements.{filter-append}
use Rattle.std.proofs.lemmas.List.Folds.{list_any-append}
use Rattle.coflow_units.specs.Flows.{Instance}
use Rattle.coflow_units.proofs.Lists.{filter_all, filter_same}
use Rattle.journal.specs.Chosen.{the_order}
use Rattle.journal.specs.Line.{line, newest_in}
use Rattle.journal.specs.State.{has, State}
use Rattle.journal.proofs.Filters.{filter_out}
use Rattle.journal.proofs.Growth.{made_at}

-- the line, where these joined and left, and these publishings were
abbrev pub line_from : List ℕ → List ℕ → List Instance → List ℕ
line_from joined left published = filter (λ c. not (has left c)) (newest_in published) ++
    filter (λ c. not (has (newest_in published) c) && not (has left c)) joined

pub same_line : (s t : State) → t.joined ≡ s.joined → t.left ≡ s.left → t.published ≡ s.published → line t ≡ line s
same_line s t joined left published =
    ap (λ l. line_from l t.left t.published) joined ∙ ap (λ l. line_from s.joined l t.published) left ∙ ap (line_from s.joined s.left) published

-- ---- who joins stands last

pub joined_line : (joined left : List ℕ) (published : List Instance) (c : ℕ) → has (newest_in published) c ≡ false → has left c ≡ false →
    line_from (joined ++ c ∷ []) left published ≡ line_from joined left published ++ c ∷ []
joined_line joined left published c unranked stays =
    let old = newest_in published in
    let waits = λ (k : ℕ). not (has old k) && not (has left k) in
    let front = filter (λ k. not (has left k)) old in
    let last : filter waits (c ∷ []) ≡ c ∷ [] =
    ap (λ b. cond (not b && not (has left c)) (c ∷ []) []) unranked ∙ ap (λ b. cond (not b) (c ∷ []) []) stays in
    ap (λ l. front ++ l) (filter-append waits joined (c ∷ []) ∙ ap (λ l. filter waits joined ++ l) last) ∙ sym (append_assoc front (filter waits joined) (c ∷ []))

-- ---- who leaves stands in it no longer

twice_one : (q : ℕ → Bool) (x : ℕ) (a : Bool) (both first : List ℕ) → both ≡ filter q first → cond (a && q x) (x ∷ both) both ≡ filter q (cond a (x ∷ first) first)
twice_one q x true both first is = ap (λ l. cond (q x) (x ∷ l) l) is
twice_one q x false both first is = is

filter_twice : (p q : ℕ → Bool) (xs : List ℕ) → filter (λ k. p k && q k) xs ≡ filter q (filter p xs)
filter_twice p q [] = refl
filter_twice p q (x ∷ xs) = twice_one q x (p x) (filter (λ k. p k && q k) xs) (filter p xs) (filter_twice p q xs)

neither : (a b : Bool) → not (a || (b || false)) ≡ (not a && not b)
neither true b = refl
neither false true = refl
neither false false = refl

turned : (c k : ℕ) → (c == k) ≡ (k == c)
turned c k = elim (cases_eq c k) [
  | inl same ↦ eq-eqb c k same ∙ sym (eq-eqb k c (sym same))
  | inr other ↦ ne_eqb c k other ∙ sym (ne_eqb k c (λ e. other (sym e)))
]

stays_still : (left : List ℕ) (c k : ℕ) → not (has (left ++ c ∷ []) k) ≡ (not (has left k) && not (k == c))
stays_still left c k =
    ap not (list_any-append (λ y. y == k) left (c ∷ [])) ∙ neither (has left k) (c == k) ∙ ap (λ b. not (has left k) && not b) (turned c k)

pub left_line : (joined left : List ℕ) (published : List Instance) (c : ℕ) →
    line_from joined (left ++ c ∷ []) published ≡ filter (λ k. not (k == c)) (line_from joined left published)
left_line joined left published c =
    let old = newest_in published in
    let other = λ (k : ℕ). not (k == c) in
    let stays = λ (k : ℕ). not (has left k) in
    let waits = λ (k : ℕ). not (has old k) && not (has left k) in
    let front : filter (λ k. not (has (left ++ c ∷ []) k)) old ≡ filter other (filter stays old) =
    filter_same (λ k. not (has (left ++ c ∷ []) k)) (λ k. stays k && other k) old (λ k in'. stays_still left c k) ∙ filter_twice stays other old in
    let rest : filter (λ k. not (has old k) && not (has (left ++ c ∷ []) k)) joined ≡ filter other (filter waits joined) =
    filter_same (λ k. not (has old k) && not (has (left ++ c ∷ []) k)) (λ k. waits k && other k) joined
    (λ k in'. ap (λ b. not (has old k) && b) (stays_still left c k) ∙ sym (and_assoc (not (has old k)) (stays k) (other k))) ∙ filter_twice waits other joined in
    ap (λ l. l ++ filter (λ k. not (has old k) && not (has (left ++ c ∷ []) k)) joined) front ∙ ap (λ l. filter other (filter stays old) ++ l) rest ∙
    sym (filter-append other (filter stays old) (filter waits joined))

-- ---- the line is the order that was published

pub newest_made : (published : List Instance) (left : Instance) → newest_in (published ++ left ∷ []) ≡ the_order left
newest_made published left =
    ap (λ n. get_or ([] ∷ map the_order (published ++ left ∷ [])) n []) (length_push published left) ∙
    ap (λ l. get_or ([] ∷ map the_order l) (length published + 1) []) (sym (append-nil (published ++ left ∷ []))) ∙
    made_at published left [] (length published) refl

-- where nobody of the order left, and everybody who joined and did not leave is of the order
pub published_line : (joined left : List ℕ) (published : List Instance) (new : Instance) → ((c : ℕ) → Contains (the_order new) c → not (has left c) ≡ true) →
    ((c : ℕ) → Contains joined c → (not (has (the_order new) c) && not (has left c)) ≡ false) → line_from joined left (published ++ new ∷ []) ≡ the_order new
published_line joined left published new stays ranked =
    let order = the_order new in
    ap (λ l. filter (λ c. not (has left c)) l ++ filter (λ c. not (has l c) && not (has left c)) joined) (newest_made published new) ∙
    ap (λ l. l ++ filter (λ c. not (has order c) && not (has left c)) joined) (filter_all (λ c. not (has left c)) order stays) ∙
    ap (λ l. order ++ l) (filter_out (λ c. not (has order c) && not (has left c)) joined ranked) ∙ append-nil order
