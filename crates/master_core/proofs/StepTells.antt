-- A command that finds room adds its entry, and what is kept tells the state after it.
use Rattle.std.proofs.Common.{◌≡◌, ℕ, ◌<◌, Bool, true, false, List, [], ◌∷◌, ◌++◌, length, refl, sym, ap, subst, ◌∙◌, arith}
use Rattle.std.specs.Prelude.{◌&&◌, ◌^◌, if◌then◌else◌, nat_le, nat_lt}
use Rattle.std.proofs.lemmas.Bool.{and_from, le-leb, lt-leb, lt-ltb}
use Rattle.std.proofs.lemmas.List.Elements.{All-push}
use Rattle.journal.specs.declared.command.Command.{Command}
use Rattle.journal.specs.declared.command.Command.TheVariants.{Register, Withdraw, Publish, Pull, Open, Short, Close, Skip, Reweigh}
use Rattle.journal.specs.declared.command.Entry.{Entry}
use Rattle.journal.specs.declared.command.Reply.{Reply}
use Rattle.journal.specs.declared.command.Reply.TheVariants.{Full}
use Rattle.journal.specs.declared.opening.Opening.{Opening}
use Rattle.master_core.specs.declared.standing.Standing.{Standing}
use Rattle.journal.specs.Fold.{after, state_of}
use Rattle.journal.specs.Answer.{IsInRange, answer, in_range, reply_of, room}
use Rattle.journal.specs.Journal.{IsLegal, entry, is_full, journal_after}
use Rattle.master_core.specs.Master.{IsMaster}
use Rattle.journal.specs.Sound.{InRange}
use Rattle.master_core.specs.Standing.{Follows, Tells}
use Rattle.journal.proofs.Growth.{state_snoc}
use Rattle.journal.proofs.Legal.{full_is, legal_snoc}

pub range_told : (o : Opening) (k : Command) → IsInRange o k → in_range o k ≡ true
range_told o (Register c) h = lt-ltb c (length o.table.ids) h
range_told o (Withdraw c) h = lt-ltb c (length o.table.ids) h
range_told o Publish h = refl
range_told o (Pull c) h = lt-ltb c (length o.table.ids) h
range_told o (Open most) h = lt-ltb 0 most h
range_told o (Short port units) h = lt-ltb port o.table.ports h
range_told o Close h = refl
range_told o (Skip to) h = refl
range_told o (Reweigh c w) h =
    and_from (nat_lt c (length o.table.ids)) (nat_lt 0 w && nat_le w (2 ^ 32)) (lt-ltb c (length o.table.ids) h.0)
    (and_from (nat_lt 0 w) (nat_le w (2 ^ 32)) (lt-ltb 0 w h.1) (le-leb w (2 ^ 32) h.2))

-- where there is room, the reply is the answer of the state, and the journal is not full
pub answered : (o : Opening) (journal : List Entry) (k : Command) → length journal < room o k → reply_of o journal k ≡ answer o (state_of o journal) k
answered o journal k lt = ap (λ (b : Bool). if b then Full (length journal) else answer o (state_of o journal) k) (lt-leb (room o k) (length journal) lt)

pub not_full : (o : Opening) (journal : List Entry) (k : Command) → length journal < room o k → is_full (reply_of o journal k) ≡ false
not_full o journal k lt = full_is o journal k ∙ lt-leb (room o k) (length journal) lt

pub journal_is : (o : Opening) (journal new : List Entry) (who : ℕ) (k : Command) (r : Reply) → length journal < room o k → r ≡ answer o (state_of o journal) k →
    new ≡ journal ++ entry who k r ∷ [] → new ≡ journal_after o journal who k
journal_is o journal new who k r lt is more =
    more ∙ ap (λ (x : Reply). journal ++ entry who k x ∷ []) (is ∙ sym (answered o journal k lt))
    ∙ ap (λ l. journal ++ l) (sym (ap (λ (b : Bool). if b then [] else entry who k (reply_of o journal k) ∷ []) (not_full o journal k lt)))

pub master_goes_on : (o : Opening) (journal new : List Entry) (capacity capacity' : ℕ) (x y : Standing) (who : ℕ) (k : Command) (r : Reply) → IsMaster o journal capacity x →
    IsInRange o k → length journal < room o k → Follows o k x r y → new ≡ journal ++ entry who k r ∷ [] →
    capacity' ≡ capacity → IsMaster o new capacity' y
master_goes_on o journal new capacity capacity' x y who k r h range lt f more same =
    let s = state_of o journal in
    let is = f.reply_is s h.tells in
    let reply = is ∙ sym (answered o journal k lt) in
    let state : state_of o new ≡ after o s k (answer o s k) = ap (state_of o) more ∙ state_snoc o journal (entry who k r) ∙ ap (after o s k) is in
    record {
      legal = subst (IsLegal o) (sym more) (legal_snoc o journal (entry who k r) h.legal reply (ap is_full reply ∙ not_full o journal k lt));
      in_range = subst (InRange o) (sym more) (All-push (λ (e : Entry). in_range o e.command ≡ true) journal (entry who k r) h.in_range (range_told o k range));
      has_room = omega (arith, h.has_room, same);
      fit = f.fit;
      tells = subst (λ z. Tells o z y) (sym state) (f.state_is s h.tells);
    }
