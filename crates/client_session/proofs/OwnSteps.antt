-- A caller's own entries, in a journal that goes on.
use Rattle.std.proofs.Common.{◌≡◌, ◌≢◌, ℕ, ◌+◌, ◌≤◌, Bool, true, false, List, [], ◌∷◌, ◌++◌, length, refl, ap, ◌∙◌, arith, length-append, append-nil}
use Rattle.std.specs.Prelude.{if◌then◌else◌, ◌==◌}
use Rattle.std.proofs.lemmas.Bool.{eq-eqb, ne_eqb}
use Rattle.std.proofs.lemmas.List.Elements.{All-head, All-tail, All-weaker}
use Rattle.turnstile.specs.Histories.{GoesOn, NoneAbove, NoneBy}
use Rattle.journal.specs.declared.command.Command.{Command}
use Rattle.journal.specs.declared.command.Reply.{Reply}
use Rattle.journal.specs.declared.command.Entry.{Entry}
use Rattle.journal.specs.Journal.{entry, version_of}
use Rattle.journal.proofs.Growth.{version_append}
use Rattle.client_session.specs.Own.{own_entries, own_entry, own_from, OwnEntry, versions_in}

abbrev who_of : Entry → ℕ
who_of e = e.who

abbrev pick : Bool → OwnEntry → List OwnEntry → List OwnEntry
pick b x xs = if b then x ∷ xs else xs

pick_append : (b : Bool) (x : OwnEntry) (xs ys : List OwnEntry) → pick b x (xs ++ ys) ≡ pick b x xs ++ ys
pick_append true x xs ys = refl
pick_append false x xs ys = refl

pub own_append : (k n v : ℕ) (xs ys : List Entry) → own_from k n v (xs ++ ys) ≡ own_from k n v xs ++ own_from k (n + length xs) (v + version_of xs) ys
own_append k n v [] ys = (λ i. own_from k (zero_n i) (zero_v i) ys)
  where
    zero_n : n ≡ n + 0
    zero_n = omega arith

    zero_v : v ≡ v + 0
    zero_v = omega arith
own_append k n v (x ∷ xs) ys =
    let w = v + versions_in x.reply in
    let here = own_entry (n + 1) w x.command x.reply in
    let h = own_append k (n + 1) w xs ys in
    let en : (n + 1) + length xs ≡ n + length (x ∷ xs) = omega arith in
    let ev : w + version_of xs ≡ v + version_of (x ∷ xs) = omega arith in
    ap (λ l. if x.who == k then here ∷ l else l) (h ∙ (λ i. own_from k (n + 1) w xs ++ own_from k (en i) (ev i) ys))
    ∙ pick_append (x.who == k) here (own_from k (n + 1) w xs) (own_from k (n + length (x ∷ xs)) (v + version_of (x ∷ xs)) ys)

own_none : (k n v : ℕ) (xs : List Entry) → NoneBy who_of k xs → own_from k n v xs ≡ []
own_none k n v [] h = refl
own_none k n v (x ∷ xs) h =
    let w = v + versions_in x.reply in
    let rest = own_from k (n + 1) w xs in
    ap (λ b. pick b (own_entry (n + 1) w x.command x.reply) rest) (ne_eqb x.who k (All-head (λ e. who_of e ≢ k) x xs h))
    ∙ own_none k (n + 1) w xs (All-tail (λ e. who_of e ≢ k) x xs h)

-- the journal went on with no entry of the caller
pub own_same : (k : ℕ) (journal seen : List Entry) → GoesOn who_of journal k seen → own_entries k journal ≡ own_entries k seen
own_same k journal seen h =
    ap (own_entries k) h.1 ∙ (own_append k 0 0 seen h.0 ∙ (ap (λ l. own_entries k seen ++ l) (own_none k (0 + length seen) (0 + version_of seen) h.0 h.2) ∙ append-nil
    (own_entries k seen)))

-- and then with one
pub own_more : (k : ℕ) (journal seen after : List Entry) (c : Command) (r : Reply) → GoesOn who_of journal k seen → after ≡ journal ++ entry k c r ∷ [] →
    own_entries k after ≡ own_entries k seen ++ own_entry (length after) (version_of after) c r ∷ []
own_more k journal seen after c r h is =
    let n : 0 + length journal + 1 ≡ length after = omega (arith, length-append journal (entry k c r ∷ []), ap (λ (l : List Entry). length l) is) in
    let v : 0 + version_of journal + versions_in r ≡ version_of after = omega (arith, version_append journal (entry k c r ∷ []), ap version_of is) in
    let here = own_entry (0 + length journal + 1) (0 + version_of journal + versions_in r) c r in
    ap (own_entries k) is ∙ (own_append k 0 0 journal (entry k c r ∷ [])
    ∙ (ap (λ l. own_entries k journal ++ l) (ap (λ b. pick b here []) (eq-eqb k k refl))
    ∙ (λ i. own_same k journal seen h i ++ own_entry (n i) (v i) c r ∷ [])))

-- a caller of a number above all of the journal has no entry in it
pub own_above : (k most : ℕ) (journal : List Entry) → most + 1 ≤ k → NoneAbove who_of most journal → own_entries k journal ≡ []
own_above k most journal lt h = own_none k 0 0 journal (All-weaker (λ e. who_of e ≤ most) (λ e. who_of e ≢ k) (λ e le is. omega (arith, le, is, lt)) journal h)
