-- Entries of the caller 0 alone.
use Rattle.std.proofs.Common.{◌≡◌, ◌+◌, ◌≤◌, true, List, [], ◌∷◌, ◌++◌, length, refl, ap, subst, ◌∙◌, arith, suc, cond, append_assoc, append-nil}
use Rattle.std.specs.Prelude.{All, nat_lt, not}
use Rattle.std.proofs.lemmas.Bool.{and_parts, eq-eqb, ltb-true}
use Rattle.std.proofs.lemmas.List.{get_or-append-add, length-append}
use Rattle.journal.specs.declared.command.Entry.{Entry}
use Rattle.journal.specs.Driven.{driver_entries, is_other}
use Rattle.journal.specs.Entries.{is_driving}

pub all_back : {X : Type 0} (P : X → Type 0) (xs ys : List X) → All P (xs ++ ys) → All P ys
all_back P xs ys all k d lt = subst P (get_or-append-add xs ys k d) (all (length xs + k) d (omega (arith, lt, length-append xs ys)))

abbrev pub Own : Entry → Type 0
Own e = e.who ≤ 0

pub no_others : (es : List Entry) → All Own es → All (λ e. is_other e ≡ true) es → es ≡ []
no_others [] own others = refl
no_others (e ∷ es) own others =
    absurd (
    let some = ltb-true 0 e.who (and_parts (nat_lt 0 e.who) (not (is_driving e.command)) (others 0 e (omega arith))).0 in
    let none = own 0 e (omega arith) in
    omega (arith, some, none)
    )

pub all_own : (es : List Entry) → All Own es → driver_entries es ≡ es
all_own [] own = refl
all_own (e ∷ es) own =
    let mine : e.who ≡ 0 = let le = own 0 e (omega arith) in omega (arith, le) in
    ap (λ b. cond b (e ∷ driver_entries es) (driver_entries es)) (eq-eqb e.who 0 mine) ∙ ap (λ l. e ∷ l) (all_own es (λ k d lt. own (suc k) d (omega arith)))

pub shape : (before earlier between : List Entry) (a b : Entry) → earlier ≡ [] → between ≡ [] → (((before ++ earlier) ++ a ∷ []) ++ between) ++ b ∷ [] ≡ before ++ (a ∷ b ∷ [])
shape before earlier between a b e m =
    ap (λ l. (((before ++ l) ++ a ∷ []) ++ between) ++ b ∷ []) e ∙ ap (λ l. (((before ++ []) ++ a ∷ []) ++ l) ++ b ∷ []) m ∙
    ap (λ l. l ++ b ∷ []) (append-nil ((before ++ []) ++ a ∷ [])) ∙ ap (λ l. (l ++ a ∷ []) ++ b ∷ []) (append-nil before) ∙
    append_assoc before (a ∷ []) (b ∷ [])
