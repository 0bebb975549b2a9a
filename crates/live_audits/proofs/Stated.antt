-- The entries of a printed journal state the journal that was printed.
use Rattle.std.proofs.Common.{◌≡◌, List, [], ◌∷◌, length, map, drop, get_or, refl, ap, ◌∙◌, subst, Option, None, Some}
use Rattle.std.specs.Prelude.{All}
use Rattle.std.proofs.lemmas.List.Elements.{All-cons, All-head, All-nil, All-tail, Contains-get_or}
use Rattle.coflow_units.specs.Flows.{IsDistinct}
use Rattle.coflow_units.proofs.LinePlaces.{place_at}
use Rattle.journal.specs.declared.command.Command.{Command}
use Rattle.journal.specs.declared.command.Command.TheVariants as K
use Rattle.journal.specs.declared.command.Entry.{Entry}
use Rattle.journal.specs.declared.command.Reply.{Reply}
use Rattle.journal.specs.declared.command.Reply.TheVariants as R
use Rattle.journal.specs.declared.opening.Opening.{Opening}
use Rattle.journal.specs.Journal.{entry}
use Rattle.live_text.specs.declared.value.EntryLine.{EntryLine}
use Rattle.live_text.specs.declared.value.Said.{Said}
use Rattle.live_text.specs.declared.value.Said.TheVariants as S
use Rattle.live_text.specs.declared.value.Word.{Word}
use Rattle.live_text.specs.declared.value.Word.TheVariants as W
use Rattle.live_model.specs.Printed.{entry_with, id_of, said_of, told_entry, word_of}
use Rattle.live_runs.specs.Names.{NamesCoflow}
use Rattle.journal_audit.specs.Stated.{command_for, entry_for, IsKnown, reply_for, stated_by}
use Rattle.live_audits.proofs.Callers.{Fits}

pub from_some : {X : Type 0} (P : X → Type 0) (x y : X) → Some x ≡ Some y → P x → P y
from_some P x y e p = let same : x ≡ y = cc in subst P same p

said_back : (r : Reply) (s : Said) → said_of r ≡ Some s → reply_for s ≡ r
said_back R.Joined s e = from_some (λ t. reply_for t ≡ R.Joined) S.Joined s e refl
said_back R.Already s e = from_some (λ t. reply_for t ≡ R.Already) S.Already s e refl
said_back R.Left s e = from_some (λ t. reply_for t ≡ R.Left) S.Left s e refl
said_back R.NotHere s e = from_some (λ t. reply_for t ≡ R.NotHere) S.NotHere s e refl
said_back (R.Version v) s e = from_some (λ t. reply_for t ≡ R.Version v) (S.Version v) s e refl
said_back (R.StillOpen slot) s e = from_some (λ t. reply_for t ≡ R.StillOpen slot) (S.StillOpen slot) s e refl
said_back (R.Rank v r) s e = from_some (λ t. reply_for t ≡ R.Rank v r) (S.Rank v r) s e refl
said_back (R.Unranked v) s e = from_some (λ t. reply_for t ≡ R.Unranked v) (S.Unranked v) s e refl
said_back (R.Opened slot slots count) s e = from_some (λ t. reply_for t ≡ R.Opened slot slots count) (S.Opened slot slots count) s e refl
said_back R.NothingLeft s e = from_some (λ t. reply_for t ≡ R.NothingLeft) S.Nothing s e refl
said_back (R.Closed slot) s e = from_some (λ t. reply_for t ≡ R.Closed slot) (S.Closed slot) s e refl
said_back (R.Weighed w) s e = from_some (λ t. reply_for t ≡ R.Weighed w) (S.Weighed w) s e refl
said_back (R.Full n) s e = cc
said_back (R.Late slot) s e = cc
said_back (R.NotGranted port) s e = cc
said_back (R.Noted n) s e = cc
said_back R.NoneOpen s e = cc
said_back (R.StillOwed f) s e = cc
said_back (R.Skipped slot) s e = cc

module _ (o : Opening) (once : IsDistinct o.table.ids) where
  abbrev Back : Command → Word → Type 0
  Back k w = (command_for o.table.ids w ≡ k) × IsKnown o.table.ids w

  word_back : (k : Command) (w : Word) → NamesCoflow (length o.table.ids) k → word_of o k ≡ Some w → Back k w
  word_back (K.Register c) w lt e =
      from_some (Back (K.Register c)) (W.Register (id_of o c)) w e (ap K.Register (place_at o.table.ids c once lt), Contains-get_or o.table.ids c 0 lt)
  word_back (K.Withdraw c) w lt e =
      from_some (Back (K.Withdraw c)) (W.Withdraw (id_of o c)) w e (ap K.Withdraw (place_at o.table.ids c once lt), Contains-get_or o.table.ids c 0 lt)
  word_back K.Publish w lt e = from_some (Back K.Publish) W.Publish w e (refl, tt)
  word_back (K.Pull c) w lt e =
      from_some (Back (K.Pull c)) (W.Pull (id_of o c)) w e (ap K.Pull (place_at o.table.ids c once lt), Contains-get_or o.table.ids c 0 lt)
  word_back (K.Open most) w lt e = from_some (Back (K.Open most)) (W.Open most) w e (refl, tt)
  word_back (K.Short port units) w lt e = cc
  word_back K.Close w lt e = from_some (Back K.Close) W.Close w e (refl, tt)
  word_back (K.Skip to) w lt e = cc
  word_back (K.Reweigh c n) w lt e =
      from_some (Back (K.Reweigh c n)) (W.Reweigh (id_of o c) n) w e
      (ap (λ b. K.Reweigh b n) (place_at o.table.ids c once lt), Contains-get_or o.table.ids c 0 lt)

  -- the line of an entry states it
  abbrev States : Entry → EntryLine → Type 0
  States e l = (entry_for o.table.ids l ≡ e) × IsKnown o.table.ids l.word

  entry_back : (e : Entry) (l : EntryLine) → NamesCoflow (length o.table.ids) e.command → told_entry o e ≡ Some l → States e l
  entry_back e l names is = go (word_of o e.command) (said_of e.reply) refl refl is
    where
      go : (w : Option Word) (s : Option Said) → word_of o e.command ≡ w → said_of e.reply ≡ s → entry_with e.who w s ≡ Some l → States e l
      go (Some w) (Some s) ew es is =
          let word = word_back e.command w names ew in
          from_some (States e) (record { who = e.who; word = w; said = s }) l is
          (ap (λ k. entry e.who k (reply_for s)) word.0 ∙ ap (entry e.who e.command) (said_back e.reply s es), word.1)
      go None s ew es is = cc
      go (Some w) None ew es is = cc

  pub record AreStated (journal : List Entry) (lines : List EntryLine) : Type 0 where
    pub same : stated_by o.table.ids lines ≡ journal
    pub known : All (λ (l : EntryLine). IsKnown o.table.ids l.word) lines

  pub entries_back : (es : List Entry) (ls : List EntryLine) → All (Fits (length o.table.ids)) es → map (told_entry o) es ≡ map Some ls → AreStated es ls
  entries_back [] [] fit e = record { same = refl; known = All-nil (λ (l : EntryLine). IsKnown o.table.ids l.word) }
  entries_back [] (l ∷ ls) fit e = cc
  entries_back (x ∷ es) [] fit e = cc
  entries_back (x ∷ es) (l ∷ ls) fit e =
      let first : told_entry o x ≡ Some l = ap (λ xs. get_or xs 0 None) e in
      let behind : map (told_entry o) es ≡ map Some ls = ap (drop 1) e in
      let here = entry_back x l (All-head (Fits (length o.table.ids)) x es fit).names first in
      let rest = entries_back es ls (All-tail (Fits (length o.table.ids)) x es fit) behind in
      record {
        same = ap (λ y. y ∷ stated_by o.table.ids ls) here.0 ∙ ap (λ ys. x ∷ ys) rest.same;
        known = All-cons (λ (l : EntryLine). IsKnown o.table.ids l.word) l ls here.1 rest.known;
      }
