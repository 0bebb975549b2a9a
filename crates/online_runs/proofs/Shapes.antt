-- The entries by which actions are carried out.
use Rattle.std.proofs.Common.{◌≡◌, ℕ, List, [], ◌∷◌, ◌++◌, length, map, refl, sym, ap, ◌∙◌, arith, append_assoc, append-nil, cond}
use Rattle.std.specs.Prelude.{drop}
use Rattle.std.specs.List.{slice_index_or}
use Rattle.std.proofs.lemmas.Bool.{le-ltb}
use Rattle.std.proofs.lemmas.List.Elements.{All-nil}
use Rattle.journal.specs.declared.command.Command.{Command}
use Rattle.journal.specs.declared.command.Command.TheVariants.{Close, Open, Publish}
use Rattle.journal.specs.declared.command.Entry.{Entry}
use Rattle.journal.specs.declared.command.Reply.{Reply}
use Rattle.journal.specs.declared.command.Reply.TheVariants.{Closed, Opened}
use Rattle.journal.specs.declared.opening.Opening.{Opening}
use Rattle.journal.specs.Driven.{closed_in, closing, Drive, IsDriven, opening}
use Rattle.journal.specs.Journal.{asked, entry}

-- ---- entries of the caller 0 that ask commands

pub none_asked : (es : List Entry) → map asked es ≡ [] → es ≡ []
none_asked [] e = refl
none_asked (x ∷ xs) e = absurd (omega (arith, ap (λ (l : List (ℕ × Command)). length l) e))

first_asks : (x : Entry) (xs : List Entry) (k : Command) (ks : List (ℕ × Command)) → map asked (x ∷ xs) ≡ (0, k) ∷ ks → x ≡ entry 0 k x.reply
first_asks x xs k ks e =
    let who : x.who ≡ 0 = ap (λ (l : List (ℕ × Command)). (slice_index_or l 0 (0, Publish)).0) e in
    let command : x.command ≡ k = ap (λ (l : List (ℕ × Command)). (slice_index_or l 0 (0, Publish)).1) e in
    ap (λ w. entry w x.command x.reply) who ∙ ap (λ c. entry 0 c x.reply) command

pub one_asked : (es : List Entry) (k : Command) → map asked es ≡ (0, k) ∷ [] → (r : Reply) × (es ≡ entry 0 k r ∷ [])
one_asked [] k e = absurd (omega (arith, ap (λ (l : List (ℕ × Command)). length l) e))
one_asked (x ∷ xs) k e =
    let rest : map asked xs ≡ [] = ap (λ (l : List (ℕ × Command)). drop 1 l) e in
    (x.reply, ap (λ y. y ∷ xs) (first_asks x xs k [] e) ∙ ap (λ l. entry 0 k x.reply ∷ l) (none_asked xs rest))

pub two_asked : (es : List Entry) (k l : Command) → map asked es ≡ (0, k) ∷ (0, l) ∷ [] → (r s : Reply) × (es ≡ entry 0 k r ∷ entry 0 l s ∷ [])
two_asked [] k l e = absurd (omega (arith, ap (λ (l : List (ℕ × Command)). length l) e))
two_asked (x ∷ xs) k l e =
    let (s, is) = one_asked xs l (ap (λ (l : List (ℕ × Command)). drop 1 l) e) in
    (x.reply, s, ap (λ y. y ∷ xs) (first_asks x xs k ((0, l) ∷ []) e) ∙ ap (λ l. entry 0 k x.reply ∷ l) is)

-- ---- a run that is opened and closed

abbrev pub drive_of : ℕ → ℕ × ℕ × ℕ → Drive
drive_of most r = record { earlier = []; most = most; first = r.0; slots = r.1; count = r.2; between = []; answer = Closed r.0; sent = λ p. r.1 }

abbrev pub run_entries : ℕ → ℕ × ℕ × ℕ → List Entry
run_entries most r = entry 0 (Open most) (Opened r.0 r.1 r.2) ∷ entry 0 Close (Closed r.0) ∷ []

pub goes_on_so : (before : List Entry) (most : ℕ) (r : ℕ × ℕ × ℕ) → before ++ run_entries most r ≡ closed_in before (drive_of most r) ++ closing (drive_of most r) ∷ []
goes_on_so before most r =
    let d = drive_of most r in
    sym (
    ap (λ l. l ++ closing d ∷ []) (append-nil ((before ++ []) ++ opening d ∷ [])) ∙ ap (λ l. (l ++ opening d ∷ []) ++ closing d ∷ []) (append-nil before) ∙
    append_assoc before (opening d ∷ []) (closing d ∷ [])
    )

pub run_is_driven : (o : Opening) (before : List Entry) (most : ℕ) (r : ℕ × ℕ × ℕ) → IsDriven o before (before ++ run_entries most r) (drive_of most r)
run_is_driven o before most r = record {
  goes_on = goes_on_so before most r;
  under_way = record { goes_on = refl; earlier = All-nil _; between = All-nil _; once = λ port. omega arith; in_order = λ i j x less lt. absurd (omega arith) };
  within = λ f in'. omega arith;
  noted = λ f in'. sym (ap {B = ℕ} (λ b. cond b 1 0) (le-ltb r.1 r.1 (omega arith)));
}
