-- The lines of the entries of a journal that carries out a script have their numbers in range.
use Rattle.std.proofs.Common.{◌≡◌, ℕ, ◌^◌, ◌+◌, ◌≤◌, ◌<◌, zero, suc, inl, inr, List, [], ◌∷◌}
use Rattle.std.proofs.Common.{◌++◌, map, drop, get_or, append_assoc, refl, sym, ap, ◌∙◌, subst, arith, Option, None, Some}
use Rattle.std.specs.Prelude.{◌-◌, min, All}
use Rattle.std.proofs.lemmas.List.Elements.{All-cons, All-head, All-nil, All-tail}
use Rattle.coflow_units.specs.declared.limits.TheConstants.{MAX_CLIENTS}
use Rattle.journal.specs.declared.command.Command.{Command}
use Rattle.journal.specs.declared.command.Command.TheVariants as K
use Rattle.journal.specs.declared.command.Entry.{Entry}
use Rattle.journal.specs.declared.command.Reply.{Reply}
use Rattle.journal.specs.declared.command.Reply.TheVariants as R
use Rattle.journal.specs.declared.opening.Opening.{Opening}
use Rattle.journal.specs.Answer.{IsInRange}
use Rattle.journal.specs.Entries.{TellsEntry}
use Rattle.journal.specs.Line.{version}
use Rattle.journal.specs.Runs.{granted, slots_for}
use Rattle.journal.specs.Sound.{IsOpenRun, OnRun, SoundState}
use Rattle.journal.specs.State.{IsOpening, owed, Run, slot_end, State}
use Rattle.journal.proofs.Sound.{least_below}
use Rattle.live_text.specs.declared.value.EntryLine.{EntryLine}
use Rattle.live_text.specs.declared.value.Said.{Said}
use Rattle.live_text.specs.declared.value.Said.TheVariants as S
use Rattle.live_text.specs.declared.value.Word.{Word}
use Rattle.live_text.specs.declared.value.Word.TheVariants as W
use Rattle.live_text.specs.Live.{IsAnswerOf, IsEntry, IsSmall, IsWord}
use Rattle.live_model.specs.Printed.{entry_with, id_of, said_of, told_entry, word_of}
use Rattle.live_audits.proofs.AskedEntries.{IsAskedSo, OpensSo}
use Rattle.live_audits.proofs.StateRanges.{grants_few, rank_few, StateFits}
use Rattle.live_audits.proofs.Stated.{from_some}

-- an id is small, and so is the one that stands for no coflow
pub id_small : (ids : List ℕ) (c : ℕ) → All IsSmall ids → get_or ids c 0 < 2 ^ 32
id_small [] c h = omega arith
id_small (x ∷ ids) zero h = All-head IsSmall x ids h
id_small (x ∷ ids) (suc c) h = id_small ids c (All-tail IsSmall x ids h)

-- what holds of the words that a command and a reply have holds of these
both : (P : Word → Said → Type 0) (x : Word) (y : Said) (w : Word) (d : Said) → Some x ≡ Some w → Some y ≡ Some d → P x y → P w d
both P x y w d ew ed h = from_some (λ v. P v d) x w ew (from_some (P x) y d ed h)

module _ (o : Opening) (most : ℕ) (ok : IsOpening o) (small : All IsSmall o.table.ids) (long : most < 2 ^ 64) where
  word_fits : (k : Command) (r : Reply) (w : Word) → IsInRange o k → OpensSo most k r → word_of o k ≡ Some w → IsWord w
  word_fits (K.Register c) r w range opens e = from_some IsWord (W.Register (id_of o c)) w e (id_small o.table.ids c small)
  word_fits (K.Withdraw c) r w range opens e = from_some IsWord (W.Withdraw (id_of o c)) w e (id_small o.table.ids c small)
  word_fits K.Publish r w range opens e = from_some IsWord W.Publish w e tt
  word_fits (K.Pull c) r w range opens e = from_some IsWord (W.Pull (id_of o c)) w e (id_small o.table.ids c small)
  word_fits (K.Open n) r w range opens e = from_some IsWord (W.Open n) w e (range, omega (arith, long, opens.0))
  word_fits (K.Short port units) r w range opens e = cc
  word_fits K.Close r w range opens e = from_some IsWord W.Close w e tt
  word_fits (K.Skip to) r w range opens e = cc
  word_fits (K.Reweigh c n) r w range opens e = from_some IsWord (W.Reweigh (id_of o c) n) w e (id_small o.table.ids c small, (range.1, range.2))

  -- ---- the replies

  module _ (s : State) (fits : StateFits o s) (sound : SoundState o s) (few : version s + 1 < 2 ^ 32) where
    first_long : (r : Run) → s.run ≡ Some r → r.first < 2 ^ 64
    first_long r is =
        let open_run : IsOpenRun o.table.flows s.sent s.next r = subst (λ run. OnRun run (IsOpenRun o.table.flows s.sent s.next)) is sound.open_run in
        omega (arith, open_run.first, sound.next_ends)

    slots_long : (n : ℕ) → slots_for o s n < 2 ^ 64
    slots_long n = omega (arith, least_below (owed o s) (granted o s) (min n (slot_end - s.next)))

    word_is : (k : Command) (j : Command) (x w : Word) → k ≡ j → word_of o j ≡ Some x → word_of o k ≡ Some w → Some x ≡ Some w
    word_is k j x w is told ew = sym told ∙ sym (ap (word_of o) is) ∙ ew

    open_fits : (k : Command) (slot : ℕ) (w : Word) (d : Said) → TellsEntry o s k (R.StillOpen slot) → OpensSo most k (R.StillOpen slot) → word_of o k ≡ Some w →
        Some (S.StillOpen slot) ≡ Some d → IsAnswerOf w d
    open_fits k slot w d (r, run, is, inl asks) opens ew ed =
        both IsAnswerOf W.Publish (S.StillOpen slot) w d (word_is k K.Publish W.Publish w asks refl ew) ed (inr (slot, omega (arith, is, first_long r run), refl))
    open_fits k slot w d (r, run, is, inr (inl (n, asks))) opens ew ed = absurd ((subst (λ j. OpensSo most j (R.StillOpen slot)) asks opens).1 slot refl)
    open_fits k slot w d (r, run, is, inr (inr (to, asks))) opens ew ed = let none : None ≡ Some w = sym (ap (word_of o) asks) ∙ ew in cc

    away_fits : (k : Command) (w : Word) (d : Said) → TellsEntry o s k R.NotHere → word_of o k ≡ Some w → Some S.NotHere ≡ Some d → IsAnswerOf w d
    away_fits k w d (c, away, inl asks) ew ed =
        both IsAnswerOf (W.Withdraw (id_of o c)) S.NotHere w d (word_is k (K.Withdraw c) (W.Withdraw (id_of o c)) w asks refl ew) ed (inr refl)
    away_fits k w d (c, away, inr (n, asks)) ew ed =
        both IsAnswerOf (W.Reweigh (id_of o c) n) S.NotHere w d (word_is k (K.Reweigh c n) (W.Reweigh (id_of o c) n) w asks refl ew) ed (inr refl)

    said_fits : (k : Command) (r : Reply) (w : Word) (d : Said) → TellsEntry o s k r → IsInRange o k → OpensSo most k r → word_of o k ≡ Some w → said_of r ≡ Some d →
        IsAnswerOf w d
    said_fits k R.Joined w d (c, is, there) range opens ew ed =
        both IsAnswerOf (W.Register (id_of o c)) S.Joined w d (word_is k (K.Register c) (W.Register (id_of o c)) w is refl ew) ed (inl refl)
    said_fits k R.Already w d (c, is, there) range opens ew ed =
        both IsAnswerOf (W.Register (id_of o c)) S.Already w d (word_is k (K.Register c) (W.Register (id_of o c)) w is refl ew) ed (inr refl)
    said_fits k R.Left w d (c, is, there) range opens ew ed =
        both IsAnswerOf (W.Withdraw (id_of o c)) S.Left w d (word_is k (K.Withdraw c) (W.Withdraw (id_of o c)) w is refl ew) ed (inl refl)
    said_fits k R.NotHere w d tells range opens ew ed = away_fits k w d tells ew ed
    said_fits k (R.Version v) w d (is, run, next) range opens ew ed =
        both IsAnswerOf W.Publish (S.Version v) w d (word_is k K.Publish W.Publish w is refl ew) ed (inl (v, omega (arith, few, next), refl))
    said_fits k (R.StillOpen slot) w d tells range opens ew ed = open_fits k slot w d tells opens ew ed
    said_fits k (R.Rank v r) w d (c, is, newest, rank, some) range opens ew ed =
        both IsAnswerOf (W.Pull (id_of o c)) (S.Rank v r) w d (word_is k (K.Pull c) (W.Pull (id_of o c)) w is refl ew) ed
        (inl (v, r, omega (arith, few, newest), omega (arith, rank, rank_few o s v c fits, ok.table.few_coflows), refl))
    said_fits k (R.Unranked v) w d (c, is, newest, rank) range opens ew ed =
        both IsAnswerOf (W.Pull (id_of o c)) (S.Unranked v) w d (word_is k (K.Pull c) (W.Pull (id_of o c)) w is refl ew) ed (inr (v, omega (arith, few, newest), refl))
    said_fits k (R.Opened slot slots count) w d (n, is, run, owes, first, length_is, count_is, left) range opens ew ed =
        both IsAnswerOf (W.Open n) (S.Opened slot slots count) w d (word_is k (K.Open n) (W.Open n) w is refl ew) ed (inl (
          slot,
          slots,
          count,
          omega (arith, first, sound.next_ends),
          omega (arith, length_is, slots_long n),
          omega (arith, count_is, grants_few o s, ok.table.few_flows),
          refl,
        ))
    said_fits k R.NothingLeft w d (n, is, run, none) range opens ew ed =
        both IsAnswerOf (W.Open n) S.Nothing w d (word_is k (K.Open n) (W.Open n) w is refl ew) ed (inr refl)
    said_fits k (R.Closed slot) w d (r, is, run, first) range opens ew ed =
        both IsAnswerOf W.Close (S.Closed slot) w d (word_is k K.Close W.Close w is refl ew) ed (slot, omega (arith, first, first_long r run), refl)
    said_fits k (R.Weighed old) w d (c, n, is, there, old_is) range opens ew ed =
        let weight = fits.weights c (subst (IsInRange o) is range).0 in
        both IsAnswerOf (W.Reweigh (id_of o c) n) (S.Weighed old) w d (word_is k (K.Reweigh c n) (W.Reweigh (id_of o c) n) w is refl ew) ed
        (inl (old, (omega (arith, weight.0, old_is), omega (arith, weight.1, old_is)), refl))
    said_fits k (R.Full n) w d tells range opens ew ed = cc
    said_fits k (R.Late slot) w d tells range opens ew ed = cc
    said_fits k (R.NotGranted port) w d tells range opens ew ed = cc
    said_fits k (R.Noted n) w d tells range opens ew ed = cc
    said_fits k R.NoneOpen w d tells range opens ew ed = cc
    said_fits k (R.StillOwed f) w d tells range opens ew ed = cc
    said_fits k (R.Skipped slot) w d tells range opens ew ed = cc

    -- the line of an entry that is answered in this state
    pub entry_fits : (clients : ℕ) (e : Entry) (l : EntryLine) → clients ≤ MAX_CLIENTS → IsAskedSo o most clients e → TellsEntry o s e.command e.reply →
        told_entry o e ≡ Some l → IsEntry l
    entry_fits clients e l few_clients asked tells is = go (word_of o e.command) (said_of e.reply) refl refl is
      where
        go : (w : Option Word) (d : Option Said) → word_of o e.command ≡ w → said_of e.reply ≡ d → entry_with e.who w d ≡ Some l → IsEntry l
        go (Some w) (Some d) ew ed is =
            from_some IsEntry (record { who = e.who; word = w; said = d }) l is (record {
              who_is = omega (arith, asked.who_is, few_clients);
              command = word_fits e.command e.reply w asked.range asked.opens ew;
              reply = said_fits e.command e.reply w d tells asked.range asked.opens ew ed;
            })
        go None d ew ed is = cc
        go (Some w) None ew ed is = cc

-- ---- all entries

-- what holds of each entry with those before it holds of all
all_places : (P : Entry → Type 0) (journal before es : List Entry) → journal ≡ before ++ es →
    ((before more : List Entry) (e : Entry) → journal ≡ before ++ e ∷ more → P e) → All P es
all_places P journal before [] is h = All-nil P
all_places P journal before (e ∷ es) is h =
    All-cons P e es (h before es e is) (all_places P journal (before ++ e ∷ []) es (is ∙ sym (append_assoc before (e ∷ []) es)) h)

pub each_entry : (P : Entry → Type 0) (journal : List Entry) → ((before more : List Entry) (e : Entry) → journal ≡ before ++ e ∷ more → P e) → All P journal
each_entry P journal h = all_places P journal [] journal refl h

-- the line of the entry has its numbers in range
abbrev pub HasLine : Opening → Entry → Type 0
HasLine o e = (l : EntryLine) → told_entry o e ≡ Some l → IsEntry l

pub lines_fit : (o : Opening) (es : List Entry) (ls : List EntryLine) → All (HasLine o) es → map (told_entry o) es ≡ map Some ls → All IsEntry ls
lines_fit o [] [] fit e = All-nil IsEntry
lines_fit o [] (l ∷ ls) fit e = cc
lines_fit o (x ∷ es) [] fit e = cc
lines_fit o (x ∷ es) (l ∷ ls) fit e =
    let first : told_entry o x ≡ Some l = ap (λ xs. get_or xs 0 None) e in
    let behind : map (told_entry o) es ≡ map Some ls = ap (drop 1) e in
    All-cons IsEntry l ls (All-head (HasLine o) x es fit l first) (lines_fit o es ls (All-tail (HasLine o) x es fit) behind)
