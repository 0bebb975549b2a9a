-- What further entries leave as it was.
use Rattle.std.proofs.Common.{◌≡◌, ℕ, ◌+◌, ◌≤◌, Bool, true, false, true≢false, List, [], ◌∷◌, ◌++◌, length, map, get_or, refl, sym, ap, ◌∙◌, arith, suc, append_assoc, append-nil}
use Rattle.std.proofs.Common.{Option, Some, None}
use Rattle.std.specs.Prelude.{if◌then◌else◌}
use Rattle.std.proofs.lemmas.List.{map-append, length-append, get_or_append_left, length-map}
use Rattle.std.proofs.Math.Seq.{get_or-append_seam}
use Rattle.coflow_units.specs.Flows.{Instance}
use Rattle.journal.specs.declared.command.Command.{Command}
use Rattle.journal.specs.declared.command.Reply.{Reply}
use Rattle.journal.specs.declared.command.Reply.TheVariants.{Full, Already, NotHere, StillOpen, Version, NothingLeft, Late, NotGranted, NoneOpen, Closed, StillOwed}
use Rattle.journal.specs.declared.command.Entry.{Entry}
use Rattle.journal.specs.declared.opening.Opening.{Opening}
use Rattle.journal.specs.Chosen.{the_order}
use Rattle.journal.specs.State.{Run, State, what_is_left}
use Rattle.journal.specs.Line.{order, rank_in}
use Rattle.journal.specs.Fold.{after, closed, start, state_from, state_of}
use Rattle.journal.specs.Answer.{reply_of}
use Rattle.journal.specs.Journal.{entry, is_full, is_refusal, is_version, journal_after, order_in, rank_of, version_of}

pub state_append : (o : Opening) (s : State) (before more : List Entry) → state_from o s (before ++ more) ≡ state_from o (state_from o s before) more
state_append o s [] more = refl
state_append o s (e ∷ es) more = state_append o (after o s e.command e.reply) es more

pub state_snoc : (o : Opening) (journal : List Entry) (e : Entry) → state_of o (journal ++ e ∷ []) ≡ after o (state_of o journal) e.command e.reply
state_snoc o journal e = state_append o (start o) journal (e ∷ [])

pub version_append : (before more : List Entry) → version_of (before ++ more) ≡ version_of before + version_of more
version_append [] more = omega arith
version_append (e ∷ es) more = omega (arith, version_append es more)

-- ---- publishings

abbrev one_if : Bool → ℕ
one_if b = if b then 1 else 0

abbrev pub Grows : List Instance → List Instance → ℕ → Type 0
Grows old new n = (more : List Instance) × (new ≡ old ++ more) × (length more ≡ n)

same : (old : List Instance) → Grows old old 0
same old = ([], sym (append-nil old), refl)

closed_same : (o : Opening) (s : State) (r : Option Run) → Grows s.published (closed o s r).published 0
closed_same o s None = same s.published
closed_same o s (Some r) = same s.published

step_grows : (o : Opening) (s : State) (k : Command) (reply : Reply) → Grows s.published (after o s k reply).published (one_if (is_version reply))
step_grows o s k (Version v) = (what_is_left o s ∷ [], refl, refl)
step_grows o s k (Closed slot) = closed_same o s s.run
step_grows o s k reply = same s.published

pub published_grows : (o : Opening) (s : State) (journal : List Entry) → Grows s.published (state_from o s journal).published (version_of journal)
published_grows o s [] = same s.published
published_grows o s (e ∷ es) =
    let (first, e1, n1) = step_grows o s e.command e.reply in
    let (rest, e2, n2) = published_grows o (after o s e.command e.reply) es in
    (first ++ rest, e2 ∙ ap (λ l. l ++ rest) e1 ∙ append_assoc s.published first rest, omega (arith, length-append first rest, n1, n2))

-- the state has as many publishings as the journal tells versions
pub version_counted : (o : Opening) (journal : List Entry) → length (state_of o journal).published ≡ version_of journal
version_counted o journal = let (more, e, n) = published_grows o (start o) journal in ap (λ (l : List Instance). length l) e ∙ n

order_stays : (old new : List Instance) (n v : ℕ) → Grows old new n → v ≤ length old → get_or ([] ∷ map the_order new) v [] ≡ get_or ([] ∷ map the_order old) v []
order_stays old new n v (more, e, m) le =
    ap (λ (l : List Instance). get_or ([] ∷ map the_order l) v []) e ∙ ap (λ (l : List (List ℕ)). get_or ([] ∷ l) v []) (map-append the_order old more)
    ∙ get_or_append_left ([] ∷ map the_order old) (map the_order more) [] v (omega (arith, length-map old the_order))

pub order_kept : (o : Opening) (journal more : List Entry) (v : ℕ) → v ≤ version_of journal → order_in o (journal ++ more) v ≡ order_in o journal v
order_kept o journal more v le =
    ap (λ (s : State). order s v) (state_append o (start o) journal more)
    ∙ order_stays (state_of o journal).published (state_from o (state_of o journal) more).published (version_of more) v (published_grows o (state_of o journal) more)
    (omega (arith, version_counted o journal))

pub rank_kept : (o : Opening) (journal more : List Entry) (v coflow : ℕ) → v ≤ version_of journal → rank_of o (journal ++ more) v coflow ≡ rank_of o journal v coflow
rank_kept o journal more v coflow le = ap (λ xs. rank_in xs coflow) (order_kept o journal more v le)

pub made_at : (old : List Instance) (w : Instance) (rest : List Instance) (n : ℕ) → length old ≡ n → get_or ([] ∷ map the_order ((old ++ w ∷ []) ++ rest)) (n + 1) [] ≡ the_order w
made_at old w rest n e =
    let k : n + 1 ≡ suc (length (map the_order old)) = omega (arith, length-map old the_order) in
    ap (λ i. get_or ([] ∷ map the_order ((old ++ w ∷ []) ++ rest)) i []) k
    ∙ ap (λ l. get_or (map the_order l) (length (map the_order old)) []) (append_assoc old (w ∷ []) rest)
    ∙ ap (λ l. get_or l (length (map the_order old)) []) (map-append the_order old (w ∷ rest))
    ∙ get_or-append_seam (map the_order old) (the_order w) (map the_order rest) []

-- the order of the version that a publishing makes is that of what was left there
pub order_made : (o : Opening) (journal more : List Entry) (e : Entry) (v : ℕ) → e.reply ≡ Version v →
    order_in o (journal ++ (e ∷ more)) (version_of journal + 1) ≡ the_order (what_is_left o (state_of o journal))
order_made o journal more e v tells =
    let s = state_of o journal in
    let (rest, grown, n) = published_grows o (after o s e.command (Version v)) more in
    ap (λ (s : State). order s (version_of journal + 1)) (state_append o (start o) journal (e ∷ more))
    ∙ ap (λ (r : Reply). order (state_from o (after o s e.command r) more) (version_of journal + 1)) tells
    ∙ ap (λ (l : List Instance). get_or ([] ∷ map the_order l) (version_of journal + 1) []) grown
    ∙ made_at s.published (what_is_left o s) rest (version_of journal) (version_counted o journal)

-- ---- the state after a command

full_keeps : (o : Opening) (s : State) (k : Command) (r : Reply) → is_full r ≡ true → after o s k r ≡ s
full_keeps o s k (Full n) e = refl
full_keeps o s k r e = absurd (true≢false (sym e))

after_is : (o : Opening) (journal : List Entry) (who : ℕ) (k : Command) (r : Reply) (b : Bool) → is_full r ≡ b →
    state_of o (journal ++ (if b then [] else entry who k r ∷ [])) ≡ after o (state_of o journal) k r
after_is o journal who k r true e = ap (state_of o) (append-nil journal) ∙ sym (full_keeps o (state_of o journal) k r e)
after_is o journal who k r false e = state_snoc o journal (entry who k r)

pub state_after : (o : Opening) (journal : List Entry) (who : ℕ) (k : Command) → state_of o (journal_after o journal who k) ≡ after o (state_of o journal) k (reply_of o journal k)
state_after o journal who k = after_is o journal who k (reply_of o journal k) (is_full (reply_of o journal k)) refl

refusal_keeps : (o : Opening) (s : State) (k : Command) (r : Reply) → is_refusal r ≡ true → after o s k r ≡ s
refusal_keeps o s k (Full n) e = refl
refusal_keeps o s k Already e = refl
refusal_keeps o s k NotHere e = refl
refusal_keeps o s k (StillOpen slot) e = refl
refusal_keeps o s k NothingLeft e = refl
refusal_keeps o s k (Late slot) e = refl
refusal_keeps o s k (NotGranted port) e = refl
refusal_keeps o s k NoneOpen e = refl
refusal_keeps o s k (StillOwed flow) e = refl
refusal_keeps o s k r e = absurd (true≢false (sym e))

pub state_stays : (o : Opening) (journal : List Entry) (who : ℕ) (k : Command) → is_refusal (reply_of o journal k) ≡ true →
    state_of o (journal_after o journal who k) ≡ state_of o journal
state_stays o journal who k e = state_after o journal who k ∙ refusal_keeps o (state_of o journal) k (reply_of o journal k) e

pub journal_stays : (o : Opening) (journal : List Entry) (who : ℕ) (k : Command) → is_full (reply_of o journal k) ≡ true → journal_after o journal who k ≡ journal
journal_stays o journal who k e = ap (λ (b : Bool). journal ++ (if b then [] else entry who k (reply_of o journal k) ∷ [])) e ∙ append-nil journal
