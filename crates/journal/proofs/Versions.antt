-- What a publishing is answered, and the order that it makes.
use Rattle.std.proofs.Common.{◌≡◌, ℕ, ◌+◌, ◌⊎◌, inl, inr, Bool, true, false, List, [], ◌∷◌, ◌++◌, length, refl, sym, ap, ◌∙◌, arith, Option, Some, None, true≢false}
use Rattle.std.specs.Prelude.{if◌then◌else◌, nat_le, nat_lt, max, slice_index_or, ◌==◌}
use Rattle.coflow_units.specs.Certificate.{order_of}
use Rattle.coflow_units.specs.Certificate.{Entry as PlaceEntry}
use Rattle.coflow_units.specs.Ordering.{IsOrdering}
use Rattle.journal.specs.declared.command.Command.{Command}
use Rattle.journal.specs.declared.command.Command.TheVariants.{Register, Withdraw, Publish, Pull, Open, Short, Close, Skip, Reweigh}
use Rattle.journal.specs.declared.command.Reply.{Reply}
use Rattle.journal.specs.declared.command.Reply.TheVariants.{Full, Already, Joined, NotHere, Left, StillOpen, Version, NothingLeft, Late, Opened, NotGranted, NoneOpen, Closed}
use Rattle.journal.specs.declared.command.Reply.TheVariants.{StillOwed, Skipped, Weighed, Rank, Unranked}
use Rattle.journal.specs.declared.command.Entry.{Entry}
use Rattle.journal.specs.declared.opening.Opening.{Opening}
use Rattle.journal.specs.Chosen.{the_ordering}
use Rattle.journal.specs.State.{has, is_present, IsOpening, Run, slot_end, State}
use Rattle.journal.specs.Line.{owing, rank, version}
use Rattle.journal.specs.Runs.{grant_in, granted, slots_for}
use Rattle.journal.specs.Fold.{state_of}
use Rattle.journal.specs.Answer.{answer, noted, on_run, opened, reply_of, room, skipped}
use Rattle.journal.specs.Journal.{IsLegal, is_full, is_version, left_at, order_in, version_of}
use Rattle.journal.proofs.Growth.{order_made, version_counted}
use Rattle.journal.proofs.Instances.{left_is_instance, only_ordering}
use Rattle.journal.proofs.Legal.{legal_rest}

-- no version, or the next one
abbrev Next : ℕ → Reply → Type 0
Next n r = (is_version r ≡ false) ⊎ (r ≡ Version (n + 1))

pick : (n : ℕ) (b : Bool) (x y : Reply) → Next n x → Next n y → Next n (if b then x else y)
pick n true x y a c = a
pick n false x y a c = c

by_run : (n : ℕ) (r : Option Run) (given : Run → Reply) (other : Reply) → ((x : Run) → Next n (given x)) → Next n other → Next n (on_run r given other)
by_run n None given other g e = e
by_run n (Some x) given other g e = g x

noted_none : (n : ℕ) (r : Run) (port units : ℕ) (f : Option ℕ) → Next n (noted r port units f)
noted_none n r port units None = inl refl
noted_none n r port units (Some f) = inl refl

opened_none : (n : ℕ) (o : Opening) (s : State) (most : ℕ) → Next n (opened o s most)
opened_none n o s most =
    pick n (length (owing o s) == 0) NothingLeft (if s.next == slot_end then Late s.next else Opened s.next (slots_for o s most) (length (granted o s))) (inl refl)
    (pick n (s.next == slot_end) (Late s.next) (Opened s.next (slots_for o s most) (length (granted o s))) (inl refl) (inl refl))

skipped_none : (n : ℕ) (o : Opening) (s : State) (to : ℕ) → Next n (skipped o s to)
skipped_none n o s to =
    pick n (nat_lt 0 (length (owing o s))) (StillOwed (slice_index_or (owing o s) 0 0)) (if nat_le slot_end to then Late to else Skipped (max s.next to)) (inl refl)
    (pick n (nat_le slot_end to) (Late to) (Skipped (max s.next to)) (inl refl) (inl refl))

answer_next : (o : Opening) (s : State) (k : Command) → Next (version s) (answer o s k)
answer_next o s (Register c) = pick (version s) (has s.joined c) Already Joined (inl refl) (inl refl)
answer_next o s (Withdraw c) = pick (version s) (is_present s c) Left NotHere (inl refl) (inl refl)
answer_next o s Publish = by_run (version s) s.run (λ r. StillOpen r.first) (Version (version s + 1)) (λ r. inl refl) (inr refl)
answer_next o s (Pull c) = pick (version s) (rank s (version s) c == 0) (Unranked (version s)) (Rank (version s) (rank s (version s) c)) (inl refl) (inl refl)
answer_next o s (Open most) = by_run (version s) s.run (λ r. StillOpen r.first) (opened o s most) (λ r. inl refl) (opened_none (version s) o s most)
answer_next o s (Short port units) =
    by_run (version s) s.run (λ r. noted r port units (grant_in o.table.flows r.granted port)) (NotGranted port)
    (λ r. noted_none (version s) r port units (grant_in o.table.flows r.granted port)) (inl refl)
answer_next o s Close = by_run (version s) s.run (λ r. Closed r.first) NoneOpen (λ r. inl refl) (inl refl)
answer_next o s (Skip to) = by_run (version s) s.run (λ r. StillOpen r.first) (skipped o s to) (λ r. inl refl) (skipped_none (version s) o s to)
answer_next o s (Reweigh c w) = pick (version s) (is_present s c) (Weighed (s.weight c)) NotHere (inl refl) (inl refl)

abbrev told : Reply → ℕ
told (Version v) = v
told reply = 0

next_told : (n v : ℕ) (r : Reply) → Next n r → r ≡ Version v → v ≡ n + 1
next_told n v r (inl none) e = absurd (true≢false (ap is_version (sym e) ∙ none))
next_told n v r (inr is) e = ap told (sym e ∙ is)

pub version_is_next : (o : Opening) (journal : List Entry) (k : Command) (v : ℕ) → reply_of o journal k ≡ Version v → v ≡ version_of journal + 1
version_is_next o journal k v e =
    omega (
      arith,
      version_counted o journal,
      next_told (version (state_of o journal)) v (reply_of o journal k)
          (pick (version (state_of o journal)) (nat_le (room o k) (length journal)) (Full (length journal)) (answer o (state_of o journal) k) (inl refl)
          (answer_next o (state_of o journal) k)) e,
    )

pub legal_there : (o : Opening) (journal more : List Entry) (e : Entry) → IsLegal o (journal ++ (e ∷ more)) → (e.reply ≡ reply_of o journal e.command) × (is_full e.reply ≡ false)
legal_there o journal more e legal = let rest = legal_rest o [] journal (e ∷ more) legal in (rest.0, rest.1)

pub order_is : (o : Opening) (journal more : List Entry) (e : Entry) (v : ℕ) → IsLegal o (journal ++ (e ∷ more)) → e.reply ≡ Version v →
    order_in o (journal ++ (e ∷ more)) v ≡ order_of (the_ordering (left_at o journal))
order_is o journal more e v legal tells =
    ap (order_in o (journal ++ (e ∷ more))) (version_is_next o journal e.command v (sym (legal_there o journal more e legal).0 ∙ tells)) ∙ order_made o journal more e v tells

pub order_by_certificate : (o : Opening) (journal more : List Entry) (e : Entry) (v : ℕ) (entries : List PlaceEntry) → IsOpening o → IsLegal o (journal ++ (e ∷ more)) →
    e.reply ≡ Version v →
    IsOrdering (left_at o journal) entries → order_in o (journal ++ (e ∷ more)) v ≡ order_of entries
order_by_certificate o journal more e v entries ok legal tells ordering =
    order_is o journal more e v legal tells ∙ sym (ap order_of (only_ordering (left_at o journal) entries (left_is_instance o (state_of o journal) ok) ordering))
