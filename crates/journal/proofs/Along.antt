-- How a law is proved along a legal journal.
use Rattle.std.proofs.Common.{◌≡◌, ℕ, ◌+◌, true, false, true≢false, List, [], ◌∷◌, ◌++◌, length, max, refl, sym, ap, subst, ◌∙◌, arith, append_assoc, append-nil, Option, Some}
use Rattle.std.proofs.Common.{None}
use Rattle.std.specs.Prelude.{All, AllPairs, if◌then◌else◌, nat_lt, nat_le, slice_index_or, ◌==◌}
use Rattle.std.proofs.lemmas.Bool.{eqb-false, eqb-true}
use Rattle.std.proofs.lemmas.List.{get_or_append_left, length-append}
use Rattle.journal.specs.declared.command.Command.{Command}
use Rattle.journal.specs.declared.command.Command.TheVariants.{Register, Withdraw, Publish, Pull, Open, Short, Close, Skip, Reweigh}
use Rattle.journal.specs.declared.command.Entry.{Entry}
use Rattle.journal.specs.declared.command.Reply.{Reply}
use Rattle.journal.specs.declared.command.Reply.TheVariants.{Full, Already, Joined, NotHere, Left, StillOpen, Version, Rank, Unranked, NothingLeft, Late, Opened, NotGranted, Noted}
use Rattle.journal.specs.declared.command.Reply.TheVariants.{NoneOpen, Closed, StillOwed, Skipped, Weighed}
use Rattle.journal.specs.declared.opening.Opening.{Opening}
use Rattle.journal.specs.State.{has, is_present, Run, slot_end, State}
use Rattle.journal.specs.Line.{owing, rank, version}
use Rattle.journal.specs.Runs.{grant_in, granted, slots_for}
use Rattle.journal.specs.Fold.{state_of}
use Rattle.journal.specs.Answer.{answer, in_range, noted, on_run, opened, reply_of, room, skipped}
use Rattle.journal.specs.Journal.{IsLegal, LegalFrom}
use Rattle.journal.specs.Sound.{InRange, SoundState}
use Rattle.journal.proofs.Legal.{legal_front, legal_join, legal_rest}
use Rattle.journal.proofs.Sound.{branch, legal_sound}
use Rattle.journal.proofs.Versions.{legal_there}
use Rattle.journal.specs.Entries.{is_driving, is_moving, TellsEntry}
use Rattle.journal.proofs.EntryTells.{entry_tells}

-- an entry that a legal journal goes on by
pub record IsNext (o : Opening) (before : List Entry) (e : Entry) : Type 0 where
  pub legal : IsLegal o before
  pub reply : e.reply ≡ reply_of o before e.command
  pub tells : TellsEntry o (state_of o before) e.command e.reply

pub next_of : (o : Opening) (before more : List Entry) (e : Entry) → IsLegal o (before ++ (e ∷ more)) → IsNext o before e
next_of o before more e legal =
    record { legal = legal_front o [] before (e ∷ more) legal; reply = (legal_there o before more e legal).0; tells = entry_tells o before more e legal }

from : (o : Opening) (P : List Entry → Type 0) → ((before : List Entry) (e : Entry) → IsNext o before e → P before → P (before ++ e ∷ [])) → (before es : List Entry) →
    IsLegal o before → LegalFrom o before es → P before → P (before ++ es)
from o P step before [] legal rest h = subst P (sym (append-nil before)) h
from o P step before (e ∷ es) legal rest h =
    let more = legal_join o [] before (e ∷ []) legal (rest.0, rest.1, tt) in
    subst P (append_assoc before (e ∷ []) es) (from o P step (before ++ e ∷ []) es more rest.2 (step before e (next_of o before [] e more) h))

-- what holds of the empty journal, and goes on by each entry, holds of each legal journal
pub along : (o : Opening) (P : List Entry → Type 0) → ((before : List Entry) (e : Entry) → IsNext o before e → P before → P (before ++ e ∷ [])) → P [] → (journal : List Entry) →
    IsLegal o journal → P journal
along o P step none journal legal = from o P step [] journal tt legal none

-- so it is from a legal journal on
pub along_more : (o : Opening) (P : List Entry → Type 0) → ((before : List Entry) (e : Entry) → IsNext o before e → P before → P (before ++ e ∷ [])) → (before more : List Entry) →
    IsLegal o (before ++ more) → P before → P (before ++ more)
along_more o P step before more legal h = from o P step before more (legal_front o [] before more legal) (legal_rest o [] before more legal) h

pub all_front : {X : Type 0} (P : X → Type 0) (xs ys : List X) → All P (xs ++ ys) → All P xs
all_front P xs ys all = λ k d lt. subst P (get_or_append_left xs ys d k lt) (all k d (omega (arith, length-append xs ys)))

pub pairs_front : {X : Type 0} (R : X → X → Type 0) (xs ys : List X) → AllPairs R (xs ++ ys) → AllPairs R xs
pairs_front {X} R xs ys pairs = λ i j d less lt.
    subst (λ (x : X × X). R x.0 x.1) (λ t. (get_or_append_left xs ys d i (omega (arith, less, lt)) t, get_or_append_left xs ys d j lt t))
    (pairs i j d less (omega (arith, lt, length-append xs ys)))

-- the same for journals whose commands are in range: then each entry is answered in a sound state
pub along_sound : (o : Opening) (P : List Entry → Type 0) →
    ((before : List Entry) (e : Entry) → IsNext o before e → SoundState o (state_of o before) → P before → P (before ++ e ∷ [])) → P [] → (journal : List Entry) →
    IsLegal o journal → InRange o journal → P journal
along_sound o P step none journal legal =
    along o (λ j. InRange o j → P j)
    (λ before e next h ok.
    let front = all_front (λ (e : Entry). in_range o e.command ≡ true) before (e ∷ []) ok in
    step before e next (legal_sound o before next.legal front) (h front)) (λ ok. none) journal legal
