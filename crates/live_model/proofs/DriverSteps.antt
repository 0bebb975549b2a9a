-- How the driver's entries go on by a run.
use Rattle.std.proofs.Common.{◌≡◌, ℕ, ◌+◌, ◌<◌, Bool, true, false, List, [], ◌∷◌, ◌++◌, length, refl, ap, ◌∙◌, arith}
use Rattle.std.proofs.Common.{append_assoc, cond}
use Rattle.std.specs.Prelude.{◌==◌, All, nat_lt, not}
use Rattle.std.specs.List.{enumerate_from, filter}
use Rattle.std.proofs.lemmas.Bool.{and_parts, ltb-true, ne_eqb}
use Rattle.std.proofs.lemmas.List.{length-append}
use Rattle.std.proofs.lemmas.List.Elements.{All-head, All-tail}
use Rattle.journal.specs.declared.command.Command.TheVariants.{Open, Close}
use Rattle.journal.specs.declared.command.Entry.{Entry}
use Rattle.journal.specs.declared.command.Reply.TheVariants.{NothingLeft, Opened}
use Rattle.journal.specs.declared.opening.Opening.{Opening}
use Rattle.journal.specs.Journal.{entry}
use Rattle.journal.specs.Driven.{Drive, IsDriven, is_other}
use Rattle.journal.specs.Entries.{is_driving}
use Rattle.live_model.specs.Deeds.{entries_by}
use Rattle.live_model.specs.Rounds.{spell_entries}
use Rattle.live_model.specs.Levels.{spell_driven, spell_for_nothing}

abbrev own : ℕ → List Entry → List (ℕ × Entry)
own n es = filter (λ x. x.1.who == 0) (enumerate_from n es)

keeps : (b : Bool) (x : ℕ × Entry) (l m r : List (ℕ × Entry)) → l ≡ m ++ r → cond b (x ∷ l) l ≡ cond b (x ∷ m) m ++ r
keeps true x l m r e = ap (λ k. x ∷ k) e
keeps false x l m r e = e

own_append : (n : ℕ) (xs ys : List Entry) → own n (xs ++ ys) ≡ own n xs ++ own (n + length xs) ys
own_append n [] ys = ap (λ m. own m ys) (omega arith)
own_append n (x ∷ xs) ys =
    keeps (x.who == 0) (n, x) (own (n + 1) (xs ++ ys)) (own (n + 1) xs) (own (n + length (x ∷ xs)) ys)
    (own_append (n + 1) xs ys ∙ ap (λ m. own (n + 1) xs ++ own m ys) (omega arith))

some_other : (e : Entry) → is_other e ≡ true → 0 < e.who
some_other e other = ltb-true 0 e.who (and_parts (nat_lt 0 e.who) (not (is_driving e.command)) other).0

own_none : (n : ℕ) (es : List Entry) → All (λ (e : Entry). is_other e ≡ true) es → own n es ≡ []
own_none n [] all = refl
own_none n (e ∷ es) all =
    let P = λ (e : Entry). is_other e ≡ true in
    ap (λ b. cond b ((n, e) ∷ own (n + 1) es) (own (n + 1) es)) (ne_eqb e.who 0 (λ z. let some = some_other e (All-head P e es all) in omega (arith, z, some))) ∙ own_none
    (n + 1) es (All-tail P e es all)

-- entries of others, and then one of the driver
own_next : (n : ℕ) (es : List Entry) (e : Entry) → All (λ (e : Entry). is_other e ≡ true) es → e.who ≡ 0 → own n (es ++ e ∷ []) ≡ (n + length es, e) ∷ []
own_next n es e all who =
    own_append n es (e ∷ []) ∙ ap (λ l. l ++ own (n + length es) (e ∷ [])) (own_none n es all)
    ∙ ap (λ w. cond (w == 0) ((n + length es, e) ∷ []) []) who

pub nothing_is_spell : (round most : ℕ) (before earlier : List Entry) → All (λ (e : Entry). is_other e ≡ true) earlier →
    entries_by (before ++ earlier ++ entry 0 (Open most) NothingLeft ∷ []) 0 ≡ entries_by before 0 ++ spell_entries most (spell_for_nothing round before earlier)
nothing_is_spell round most before earlier others =
    let e = entry 0 (Open most) NothingLeft in
    ap (own 1) (append_assoc before earlier (e ∷ [])) ∙ own_append 1 before (earlier ++ e ∷ [])
    ∙ ap (λ l. own 1 before ++ l) (own_next (1 + length before) earlier e others refl)
    ∙ ap (λ n. own 1 before ++ (n, e) ∷ []) (omega arith)

pub driven_is_spell : (o : Opening) (round : ℕ) (before after : List Entry) (d : Drive) → IsDriven o before after d → All (λ (e : Entry). is_other e ≡ true) d.between →
    entries_by after 0 ≡ entries_by before 0 ++ spell_entries d.most (spell_driven round before d)
driven_is_spell o round before after d h others =
    let e = entry 0 (Open d.most) (Opened d.first d.slots d.count) in
    let c = entry 0 Close d.answer in
    let n = 1 + length before in
    let m = n + length (d.earlier ++ e ∷ []) in
    let regroup : after ≡ before ++ ((d.earlier ++ e ∷ []) ++ (d.between ++ c ∷ [])) =
    h.goes_on ∙ append_assoc (before ++ d.earlier ++ e ∷ []) d.between (c ∷ [])
    ∙ ap (λ l. l ++ (d.between ++ c ∷ [])) (append_assoc before d.earlier (e ∷ []))
    ∙ append_assoc before (d.earlier ++ e ∷ []) (d.between ++ c ∷ []) in
    let long = length-append d.earlier (e ∷ []) in
    let first : n + length d.earlier ≡ length before + length d.earlier + 1 = omega arith in
    let second : m + length d.between ≡ length before + length d.earlier + 1 + length d.between + 1 = omega (arith, long) in
    ap (own 1) regroup ∙ own_append 1 before ((d.earlier ++ e ∷ []) ++ (d.between ++ c ∷ []))
    ∙ ap (λ l. own 1 before ++ l) (own_append n (d.earlier ++ e ∷ []) (d.between ++ c ∷ []))
    ∙ ap (λ l. own 1 before ++ (l ++ own m (d.between ++ c ∷ []))) (own_next n d.earlier e h.under_way.earlier refl)
    ∙ ap (λ l. own 1 before ++ ((n + length d.earlier, e) ∷ l)) (own_next m d.between c others refl)
    ∙ ap (λ k. own 1 before ++ ((k, e) ∷ (m + length d.between, c) ∷ [])) first
    ∙ ap (λ k. own 1 before ++ ((length before + length d.earlier + 1, e) ∷ (k, c) ∷ [])) second
