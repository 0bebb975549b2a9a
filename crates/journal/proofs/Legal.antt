-- Legal journals: beginnings, what a command adds, how long they are, and that their replies are determined.
use Rattle.std.proofs.Common.{◌≡◌, ℕ, ◌+◌, ◌≤◌, Bool, true, false, List, [], ◌∷◌, ◌++◌, length, map, drop, refl, sym, ap, subst, ◌∙◌, arith, append_assoc, append-nil, Option, Some}
use Rattle.std.proofs.Common.{None}
use Rattle.std.specs.Prelude.{if◌then◌else◌, nat_le, nat_lt, max, slice_index_or, ◌==◌}
use Rattle.std.proofs.lemmas.List.{length-append}
use Rattle.std.proofs.lemmas.Bool.{leb-false}
use Rattle.journal.specs.declared.command.Command.{Command}
use Rattle.journal.specs.declared.command.Command.TheVariants.{Register, Withdraw, Publish, Pull, Open, Short, Close, Skip, Reweigh}
use Rattle.journal.specs.declared.command.Reply.{Reply}
use Rattle.journal.specs.declared.command.Reply.TheVariants.{Full, Already, Joined, NotHere, Left, StillOpen, Version, NothingLeft, Late, Opened, NotGranted, NoneOpen, Closed}
use Rattle.journal.specs.declared.command.Reply.TheVariants.{StillOwed, Skipped, Weighed, Rank, Unranked}
use Rattle.journal.specs.declared.command.Entry.{Entry}
use Rattle.journal.specs.declared.opening.Opening.{Opening}
use Rattle.journal.specs.State.{has, is_present, Run, slot_end, State}
use Rattle.journal.specs.Line.{owing, rank, version}
use Rattle.journal.specs.Runs.{grant_in, granted, slots_for}
use Rattle.journal.specs.Fold.{state_of}
use Rattle.journal.specs.Answer.{answer, noted, on_run, opened, reply_of, room, skipped}
use Rattle.journal.specs.Journal.{asked, entry, is_full, journal_after, IsLegal, LegalFrom}

-- ---- beginnings

pub legal_front : (o : Opening) (before es more : List Entry) → LegalFrom o before (es ++ more) → LegalFrom o before es
legal_front o before [] more legal = tt
legal_front o before (e ∷ es) more legal = (legal.0, legal.1, legal_front o (before ++ e ∷ []) es more legal.2)

pub legal_rest : (o : Opening) (before es more : List Entry) → LegalFrom o before (es ++ more) → LegalFrom o (before ++ es) more
legal_rest o before [] more legal = subst (λ l. LegalFrom o l more) (sym (append-nil before)) legal
legal_rest o before (e ∷ es) more legal = subst (λ l. LegalFrom o l more) (append_assoc before (e ∷ []) es) (legal_rest o (before ++ e ∷ []) es more legal.2)

pub legal_join : (o : Opening) (before es more : List Entry) → LegalFrom o before es → LegalFrom o (before ++ es) more → LegalFrom o before (es ++ more)
legal_join o before [] more legal rest = subst (λ l. LegalFrom o l more) (append-nil before) rest
legal_join o before (e ∷ es) more legal rest =
    (legal.0, legal.1, legal_join o (before ++ e ∷ []) es more legal.2 (subst (λ l. LegalFrom o l more) (sym (append_assoc before (e ∷ []) es)) rest))

pub legal_snoc : (o : Opening) (journal : List Entry) (e : Entry) → IsLegal o journal → e.reply ≡ reply_of o journal e.command → is_full e.reply ≡ false →
    IsLegal o (journal ++ e ∷ [])
legal_snoc o journal e legal same room = legal_join o [] journal (e ∷ []) legal (same, room, tt)

-- ---- what a command adds

after_step : (o : Opening) (journal : List Entry) (who : ℕ) (k : Command) → IsLegal o journal → (b : Bool) → is_full (reply_of o journal k) ≡ b →
    IsLegal o (journal ++ (if b then [] else entry who k (reply_of o journal k) ∷ []))
after_step o journal who k legal true e = subst (IsLegal o) (sym (append-nil journal)) legal
after_step o journal who k legal false e = legal_snoc o journal (entry who k (reply_of o journal k)) legal refl e

pub legal_after : (o : Opening) (journal : List Entry) (who : ℕ) (k : Command) → IsLegal o journal → IsLegal o (journal_after o journal who k)
legal_after o journal who k legal = after_step o journal who k legal (is_full (reply_of o journal k)) refl

-- ---- full

neither : (b : Bool) (x y : Reply) → is_full x ≡ false → is_full y ≡ false → is_full (if b then x else y) ≡ false
neither true x y ex ey = ex
neither false x y ex ey = ey

on_run_not : (r : Option Run) (given : Run → Reply) (other : Reply) → ((x : Run) → is_full (given x) ≡ false) → is_full other ≡ false → is_full (on_run r given other) ≡ false
on_run_not None given other g e = e
on_run_not (Some x) given other g e = g x

noted_not : (r : Run) (port units : ℕ) (f : Option ℕ) → is_full (noted r port units f) ≡ false
noted_not r port units None = refl
noted_not r port units (Some f) = refl

opened_not : (o : Opening) (s : State) (most : ℕ) → is_full (opened o s most) ≡ false
opened_not o s most =
    neither (length (owing o s) == 0) NothingLeft (if s.next == slot_end then Late s.next else Opened s.next (slots_for o s most) (length (granted o s))) refl
    (neither (s.next == slot_end) (Late s.next) (Opened s.next (slots_for o s most) (length (granted o s))) refl refl)

skipped_not : (o : Opening) (s : State) (to : ℕ) → is_full (skipped o s to) ≡ false
skipped_not o s to =
    neither (nat_lt 0 (length (owing o s))) (StillOwed (slice_index_or (owing o s) 0 0)) (if nat_le slot_end to then Late to else Skipped (max s.next to)) refl
    (neither (nat_le slot_end to) (Late to) (Skipped (max s.next to)) refl refl)

-- only the length of the journal makes it full
pub answer_not : (o : Opening) (s : State) (k : Command) → is_full (answer o s k) ≡ false
answer_not o s (Register c) = neither (has s.joined c) Already Joined refl refl
answer_not o s (Withdraw c) = neither (is_present s c) Left NotHere refl refl
answer_not o s Publish = on_run_not s.run (λ r. StillOpen r.first) (Version (version s + 1)) (λ r. refl) refl
answer_not o s (Pull c) = neither (rank s (version s) c == 0) (Unranked (version s)) (Rank (version s) (rank s (version s) c)) refl refl
answer_not o s (Open most) = on_run_not s.run (λ r. StillOpen r.first) (opened o s most) (λ r. refl) (opened_not o s most)
answer_not o s (Short port units) =
    on_run_not s.run (λ r. noted r port units (grant_in o.table.flows r.granted port)) (NotGranted port) (λ r. noted_not r port units (grant_in o.table.flows r.granted port)) refl
answer_not o s Close = on_run_not s.run (λ r. Closed r.first) NoneOpen (λ r. refl) refl
answer_not o s (Skip to) = on_run_not s.run (λ r. StillOpen r.first) (skipped o s to) (λ r. refl) (skipped_not o s to)
answer_not o s (Reweigh c w) = neither (is_present s c) (Weighed (s.weight c)) NotHere refl refl

full_step : (b : Bool) (n : ℕ) (x : Reply) → is_full x ≡ false → is_full (if b then Full n else x) ≡ b
full_step true n x e = refl
full_step false n x e = e

-- a command is refused for want of room exactly where the journal has reached its room
pub full_is : (o : Opening) (journal : List Entry) (k : Command) → is_full (reply_of o journal k) ≡ nat_le (room o k) (length journal)
full_is o journal k = full_step (nat_le (room o k) (length journal)) (length journal) (answer o (state_of o journal) k) (answer_not o (state_of o journal) k)

room_most : (o : Opening) (k : Command) → room o k ≤ o.limit + o.table.ports + 1
room_most o (Short port units) = omega arith
room_most o Close = omega arith
room_most o k = omega arith

fits_from : (o : Opening) (before es : List Entry) → length before ≤ o.limit + o.table.ports + 1 → LegalFrom o before es → length (before ++ es) ≤ o.limit + o.table.ports + 1
fits_from o before [] le legal = omega (arith, length-append before [], le)
fits_from o before (e ∷ es) le legal =
    let had = leb-false (room o e.command) (length before) (sym (full_is o before e.command) ∙ ap is_full (sym legal.0) ∙ legal.1) in
    let next = fits_from o (before ++ e ∷ []) es (omega (arith, had, room_most o e.command, length-append before (e ∷ []))) legal.2 in
    omega (arith, length-append before (e ∷ es), length-append (before ++ e ∷ []) es, length-append before (e ∷ []), next)

-- a legal journal is within its limit and the further room
pub legal_fits : (o : Opening) (journal : List Entry) → IsLegal o journal → length journal ≤ o.limit + o.table.ports + 1
legal_fits o journal legal = fits_from o [] journal (omega arith) legal

-- ---- replies are determined

one_from : (o : Opening) (before a b : List Entry) → LegalFrom o before a → LegalFrom o before b → map asked a ≡ map asked b → a ≡ b
one_from o before [] [] la lb e = refl
one_from o before [] (y ∷ ys) la lb e = absurd (omega (arith, ap (λ (l : List (ℕ × Command)). length l) e))
one_from o before (x ∷ xs) [] la lb e = absurd (omega (arith, ap (λ (l : List (ℕ × Command)). length l) e))
one_from o before (x ∷ xs) (y ∷ ys) la lb e =
    let who : x.who ≡ y.who = ap (λ (l : List (ℕ × Command)). (slice_index_or l 0 (0, Publish)).0) e in
    let command : x.command ≡ y.command = ap (λ (l : List (ℕ × Command)). (slice_index_or l 0 (0, Publish)).1) e in
    let reply : x.reply ≡ y.reply = la.0 ∙ ap (reply_of o before) command ∙ sym lb.0 in
    let same : x ≡ y = ap (λ w. entry w x.command x.reply) who ∙ ap (λ k. entry y.who k x.reply) command ∙ ap (λ r. entry y.who y.command r) reply in
    let rest : map asked xs ≡ map asked ys = ap (λ (l : List (ℕ × Command)). drop 1 l) e in
    ap (λ z. z ∷ xs) same ∙ ap (λ l. y ∷ l) (one_from o (before ++ y ∷ []) xs ys (subst (λ z. LegalFrom o (before ++ z ∷ []) xs) same la.2) lb.2 rest)

-- the callers and their commands determine a legal journal
pub one_journal : (o : Opening) (a b : List Entry) → IsLegal o a → IsLegal o b → map asked a ≡ map asked b → a ≡ b
one_journal o a b la lb e = one_from o [] a b la lb e
