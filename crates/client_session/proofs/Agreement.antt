-- The tables that a board published agree with the journal, as it goes on and more is published.
use Rattle.std.proofs.Common.{◌≡◌, ℕ, ◌+◌, ◌<◌, ◌≤◌, Bool, true, false, List, [], ◌∷◌, ◌++◌}
use Rattle.std.proofs.Common.{length, get_or, refl, sym, ap, ◌∙◌, subst, arith, length-append, append-nil, true≢false, inl, inr}
use Rattle.std.specs.Prelude.{All, if◌then◌else◌, nat_le, ◌/◌}
use Rattle.std.proofs.lemmas.Bool.{cases_eq, cases_lt, eq-eqb, leb-false, leb-true, ne_eqb}
use Rattle.std.proofs.lemmas.List.Elements.{All-nil, All-push, All-weaker}
use Rattle.journal.specs.declared.command.Command.{Command}
use Rattle.journal.specs.declared.command.Command.TheVariants.{Close, Publish, Short}
use Rattle.journal.specs.declared.command.Reply.{Reply}
use Rattle.journal.specs.declared.command.Reply.TheVariants.{Full, Version}
use Rattle.journal.specs.declared.command.Entry.{Entry}
use Rattle.journal.specs.declared.opening.Opening.{Opening}
use Rattle.journal.specs.State.{State}
use Rattle.journal.specs.Entries.{is_driving, TellsEntry}
use Rattle.journal.specs.Fold.{state_of}
use Rattle.journal.specs.Answer.{answer, in_range, reply_of, room}
use Rattle.journal.proofs.Legal.{answer_not, full_is, legal_rest}
use Rattle.journal.specs.Journal.{adds, entry, is_full, is_version, IsLegal, journal_after, LegalFrom, rank_of, version_of}
use Rattle.journal.proofs.Growth.{journal_stays, rank_kept, version_append}
use Rattle.journal.proofs.EntryTells.{reply_tells}
use Rattle.rank_board.specs.Words.{rank_of as published_rank, WasPublished}
use Rattle.rank_board.specs.Pulls.{Agrees}
use Rattle.rank_board.specs.declared.pulls.Pull.{Pull}
use Rattle.rank_board.proofs.Ranks.{rank_stays, rank_new}
use Rattle.client_session.specs.Own.{look_version}
use Rattle.client_session.specs.Desk.{AgreesWith, DrivenByRoot, IsRanked, IsSeen}

-- further entries that make no version
pub agreement_stays : (o : Opening) (journal more : List Entry) (published : List (List ℕ)) → version_of more ≡ 0 → AgreesWith o journal published →
    AgreesWith o (journal ++ more) published
agreement_stays o journal more published zero_more h = record {
  versions = omega (arith, h.versions, version_append journal more, zero_more);
  rank = λ v c le lt. let low : v ≤ version_of journal = omega (arith, version_append journal more, zero_more, le) in h.rank v c low lt ∙ sym (rank_kept o journal more v c low);
}

-- further entries that make one version, whose ranks are published
pub agreement_grows : (o : Opening) (journal more : List Entry) (published : List (List ℕ)) (ranks : List ℕ) → version_of more ≡ 1 → AgreesWith o journal published →
    ((c : ℕ) → c < length o.table.ids → get_or ranks c 0 ≡ rank_of o (journal ++ more) (version_of (journal ++ more)) c) → AgreesWith o (journal ++ more) (published ++ ranks ∷ [])
agreement_grows o journal more published ranks one h new = record {
  versions = omega (arith, h.versions, version_append journal more, one, length-append published (ranks ∷ []));
  rank = λ v c le lt. elim (cases_lt (version_of journal) v) [
    | inl above ↦
        let is : v ≡ length published + 1 = omega (arith, h.versions, version_append journal more, one, above, le) in
        let top : v ≡ version_of (journal ++ more) = omega (arith, version_append journal more, one, above, le) in
        rank_new published ranks v c is ∙ (new c lt ∙ sym (ap (λ w. rank_of o (journal ++ more) w c) top))
    | inr low ↦
        rank_stays published ranks v c (omega (arith, h.versions, low)) ∙ (h.rank v c low lt ∙ sym (rank_kept o journal more v c low))
  ];
}

-- a word that was published has a version that was
pub found_was_published : (published : List (List ℕ)) (look : ℕ × ℕ) → WasPublished published look → look_version look ≤ length published
found_was_published published look was = elim (cases_eq look.0 0) [
  | inl front ↦ subst (λ b. (if b then look.1 else look.1 / 4294967296) ≤ length published) (sym (eq-eqb look.0 0 front)) (was.front front)
  | inr word ↦ subst (λ b. (if b then look.1 else look.1 / 4294967296) ≤ length published) (sym (ne_eqb look.0 0 word)) (was.rank (omega (arith, word))).0
]

-- a pull that agrees with what was published has the rank of its version
pub pulls_ranked : (o : Opening) (journal : List Entry) (published : List (List ℕ)) → AgreesWith o journal published → (pulls : List Pull) → All (Agrees published) pulls →
    All (IsRanked o journal) pulls
pulls_ranked o journal published h pulls all = All-weaker (Agrees published) (IsRanked o journal)
    (λ p a. let le : p.version ≤ version_of journal = omega (arith, h.versions, a.0) in (le, λ lt. a.1 ∙ h.rank p.version p.coflow le lt)) pulls all

-- only a publishing is answered by a version
quiet : (o : Opening) (s : State) (k : Command) (r : Reply) → TellsEntry o s k r → (k ≡ Publish → ⊥) → is_version r ≡ false
quiet o s k (Version v) tells other = absurd (other tells.0)
quiet o s k r tells other = refl

quiet_adds : (who : ℕ) (k : Command) (r : Reply) → is_version r ≡ false → version_of (adds who k r) ≡ 0
quiet_adds who k r e = go (is_full r)
  where
    go : (b : Bool) → version_of (if b then [] else entry who k r ∷ []) ≡ 0
    go true = refl
    go false = ap {B = ℕ} (λ b. (if b then 1 else 0) + 0) e

-- a command other than Publish leaves the newest version
pub version_stays : (o : Opening) (journal : List Entry) (who : ℕ) (k : Command) → (k ≡ Publish → ⊥) → version_of (journal_after o journal who k) ≡ version_of journal
version_stays o journal who k other =
    let e = quiet o (state_of o journal) k (reply_of o journal k) (reply_tells o journal k) other in
    omega (arith, version_append journal (adds who k (reply_of o journal k)), quiet_adds who k (reply_of o journal k) e)

pub not_version : (r : Reply) → ((v : ℕ) → r ≡ Version v → ⊥) → is_version r ≡ false
not_version (Version v) other = absurd (other v refl)
not_version r other = refl

-- a reply that is no version leaves what was published in agreement
pub agrees_after_other : (o : Opening) (journal : List Entry) (who : ℕ) (k : Command) (published : List (List ℕ)) → ((v : ℕ) → reply_of o journal k ≡ Version v → ⊥) →
    AgreesWith o journal published → AgreesWith o (journal_after o journal who k) published
agrees_after_other o journal who k published other h =
    agreement_stays o journal (adds who k (reply_of o journal k)) published (quiet_adds who k (reply_of o journal k) (not_version (reply_of o journal k) other)) h

version_adds : (who : ℕ) (k : Command) (r : Reply) (v : ℕ) → r ≡ Version v → version_of (adds who k r) ≡ 1
version_adds who k r v e = ap (λ r. version_of (adds who k r)) e

-- a version whose ranks are published
pub agrees_after_version : (o : Opening) (journal : List Entry) (who : ℕ) (k : Command) (published : List (List ℕ)) (ranks : List ℕ) (v : ℕ) → reply_of o journal k ≡ Version v →
    AgreesWith o journal published →
    ((c : ℕ) → c < length o.table.ids → get_or ranks c 0 ≡ rank_of o (journal_after o journal who k) (version_of (journal_after o journal who k)) c) →
    AgreesWith o (journal_after o journal who k) (published ++ ranks ∷ [])
agrees_after_version o journal who k published ranks v e h new =
    agreement_grows o journal (adds who k (reply_of o journal k)) published ranks (version_adds who k (reply_of o journal k) v e) h new

-- nothing is published for no journal
pub nothing_agrees : (o : Opening) → AgreesWith o [] []
nothing_agrees o = record {
  versions = refl;
  rank = λ v c le lt. let at_zero : v ≡ 0 = omega arith in subst (λ w. published_rank [] w c ≡ rank_of o [] w c) (sym at_zero) refl;
}

-- runs stay driven by the root
pub driven_more : (journal : List Entry) (who : ℕ) (k : Command) (r : Reply) → (is_driving k ≡ true → who ≡ 0) → DrivenByRoot journal → DrivenByRoot (journal ++ adds who k r)
driven_more journal who k r is h = go (is_full r)
  where
    go : (b : Bool) → All (λ (e : Entry). is_driving e.command ≡ true → e.who ≡ 0) (journal ++ (if b then [] else entry who k r ∷ []))
    go true = subst (All (λ (e : Entry). is_driving e.command ≡ true → e.who ≡ 0)) (sym (append-nil journal)) h
    go false = All-push (λ (e : Entry). is_driving e.command ≡ true → e.who ≡ 0) journal (entry who k r) h is

abbrev count_of : Reply → ℕ
count_of (Full n) = n
count_of r = 0

full_count : (b : Bool) (m n : ℕ) (x : Reply) → is_full x ≡ false → (if b then Full m else x) ≡ Full n → n ≡ m
full_count true m n x never e = sym (ap count_of e)
full_count false m n x never e = absurd (true≢false (sym (ap is_full e) ∙ never))

-- a reply Full tells how many entries there are
pub full_tells : (o : Opening) (journal : List Entry) (k : Command) (n : ℕ) → reply_of o journal k ≡ Full n → n ≡ length journal
full_tells o journal k n e = full_count (nat_le (room o k) (length journal)) (length journal) n (answer o (state_of o journal) k) (answer_not o (state_of o journal) k) e

pub quiet_room : (o : Opening) (k : Command) → is_driving k ≡ false → room o k ≡ o.limit
quiet_room o (Short port units) e = absurd (true≢false e)
quiet_room o Close e = absurd (true≢false e)
quiet_room o k e = refl

pub full_at_room : (o : Opening) (journal : List Entry) (k : Command) (n : ℕ) → reply_of o journal k ≡ Full n → room o k ≤ n
full_at_room o journal k n e =
    let is : nat_le (room o k) (length journal) ≡ true = sym (full_is o journal k) ∙ ap is_full e in
    omega (arith, leb-true (room o k) (length journal) is, full_tells o journal k n e)

pub full_at_limit : (o : Opening) (journal : List Entry) (k : Command) (n : ℕ) → is_driving k ≡ false → reply_of o journal k ≡ Full n → o.limit ≤ n
full_at_limit o journal k n quiet_command e = omega (arith, full_at_room o journal k n e, quiet_room o k quiet_command)

pub nothing_added : (o : Opening) (journal : List Entry) (who : ℕ) (k : Command) (n : ℕ) → reply_of o journal k ≡ Full n → journal_after o journal who k ≡ journal
nothing_added o journal who k n e = journal_stays o journal who k (ap is_full e)

not_full : (r : Reply) → ((n : ℕ) → r ≡ Full n → ⊥) → is_full r ≡ false
not_full (Full n) other = absurd (other n refl)
not_full r other = refl

-- a reply other than Full has its entry
pub one_added : (o : Opening) (journal : List Entry) (who : ℕ) (k : Command) → ((n : ℕ) → reply_of o journal k ≡ Full n → ⊥) →
    (is_full (reply_of o journal k) ≡ false) × (journal_after o journal who k ≡ journal ++ entry who k (reply_of o journal k) ∷ [])
one_added o journal who k other =
    let e = not_full (reply_of o journal k) other in
    (e, ap (λ b. journal ++ (if b then [] else entry who k (reply_of o journal k) ∷ [])) e)

-- the same as equations of what is before and after a step
pub agrees_published : (o p : Opening) (journal after : List Entry) (who : ℕ) (k : Command) (old new : List (List ℕ)) (ranks : List ℕ) (r : Reply) (v : ℕ) → p ≡ o →
    after ≡ journal_after o journal who k → r ≡ reply_of o journal k → r ≡ Version v → new ≡ old ++ ranks ∷ [] → AgreesWith o journal old →
    ((c : ℕ) → c < length p.table.ids → get_or ranks c 0 ≡ rank_of p after (version_of after) c) → AgreesWith p after new
agrees_published o p journal after who k old new ranks r v same is reply version published h each =
    let next = journal_after o journal who k in
    let each_o = subst (λ (x : Opening). (c : ℕ) → c < length x.table.ids → get_or ranks c 0 ≡ rank_of x after (version_of after) c) same each in
    let each_next = subst (λ (j : List Entry). (c : ℕ) → c < length o.table.ids → get_or ranks c 0 ≡ rank_of o j (version_of j) c) is each_o in
    subst (λ (x : Opening). AgreesWith x after new) (sym same)
    (subst (λ (j : List Entry). AgreesWith o j new) (sym is)
    (subst (AgreesWith o next) (sym published) (agrees_after_version o journal who k old ranks v (sym reply ∙ version) h each_next)))

pub agrees_unpublished : (o p : Opening) (journal after : List Entry) (who : ℕ) (k : Command) (old : List (List ℕ)) (r : Reply) → p ≡ o →
    after ≡ journal_after o journal who k → r ≡ reply_of o journal k → ((v : ℕ) → r ≡ Version v → ⊥) → AgreesWith o journal old → AgreesWith p after old
agrees_unpublished o p journal after who k old r same is reply other h =
    subst (λ (x : Opening). AgreesWith x after old) (sym same)
    (subst (λ (j : List Entry). AgreesWith o j old) (sym is) (agrees_after_other o journal who k old (λ v e. other v (reply ∙ e)) h))

pub driven_after : (o : Opening) (journal after : List Entry) (who : ℕ) (k : Command) → after ≡ journal_after o journal who k → (is_driving k ≡ true → who ≡ 0) →
    DrivenByRoot journal →
    DrivenByRoot after
driven_after o journal after who k is caller h = subst DrivenByRoot (sym is) (driven_more journal who k (reply_of o journal k) caller h)

-- a journal in which the last entry has a reply had room for it
pub room_met : (o : Opening) (journal after : List Entry) (who : ℕ) (k : Command) (r : Reply) → IsLegal o after → after ≡ journal ++ entry who k r ∷ [] → length journal < room o k
room_met o journal after who k r legal is =
    let there : LegalFrom o journal (entry who k r ∷ []) = legal_rest o [] journal (entry who k r ∷ []) (subst (IsLegal o) is legal) in
    let small : nat_le (room o k) (length journal) ≡ false = sym (full_is o journal k) ∙ (ap is_full (sym there.0) ∙ there.1) in
    omega (arith, leb-false (room o k) (length journal) small)

-- a caller that met an empty journal
pub nothing_seen : (o : Opening) → IsSeen o []
nothing_seen o = record {
  legal = tt;
  in_range = All-nil (λ (e : Entry). in_range o e.command ≡ true);
  driven = All-nil (λ (e : Entry). is_driving e.command ≡ true → e.who ≡ 0);
}
