-- The commands of a text whose ids are known are in range, and none of them notes units or skips slots.
use Rattle.std.proofs.Common.{◌≡◌, ℕ, List, [], ◌∷◌, true, length, refl, suc, arith}
use Rattle.std.specs.Prelude.{◌&&◌, All, nat_le, nat_lt}
use Rattle.std.proofs.lemmas.Bool.{and_from, le-leb, lt-ltb}
use Rattle.std.proofs.lemmas.List.Elements.{All-cons}
use Rattle.cert_check.specs.Places.{coflow_with}
use Rattle.cert_check.proofs.NameSteps.{known_within}
use Rattle.journal.specs.declared.command.Entry.{Entry}
use Rattle.journal.specs.declared.opening.Opening.{Opening}
use Rattle.journal.specs.Answer.{IsInRange, in_range}
use Rattle.journal.specs.Sound.{InRange}
use Rattle.live_text.specs.declared.value.EntryLine.{EntryLine}
use Rattle.live_text.specs.declared.value.Word.{Word}
use Rattle.live_text.specs.declared.value.Word.TheVariants.{Close, Open, Publish, Pull, Register, Reweigh, Withdraw}
use Rattle.live_text.specs.Live.{IsEntry, IsWord}
use Rattle.journal_audit.specs.Replay.{IsPlain, IsPlainCommand}
use Rattle.journal_audit.specs.Stated.{IsKnown, command_for, entry_for, stated_by}

pub range_for : (o : Opening) (w : Word) → IsKnown o.table.ids w → IsWord w → IsInRange o (command_for o.table.ids w)
range_for o (Register id) known word = known_within o.table.ids id known
range_for o (Withdraw id) known word = known_within o.table.ids id known
range_for o Publish known word = tt
range_for o (Pull id) known word = known_within o.table.ids id known
range_for o (Open most) known (some, small) = some
range_for o Close known word = tt
range_for o (Reweigh id weight) known (small, (some, most)) = (known_within o.table.ids id known, some, most)

pub in_range_for : (o : Opening) (w : Word) → IsKnown o.table.ids w → IsWord w → in_range o (command_for o.table.ids w) ≡ true
in_range_for o (Register id) known word = lt-ltb (coflow_with o.table.ids id) (length o.table.ids) (known_within o.table.ids id known)
in_range_for o (Withdraw id) known word = lt-ltb (coflow_with o.table.ids id) (length o.table.ids) (known_within o.table.ids id known)
in_range_for o Publish known word = refl
in_range_for o (Pull id) known word = lt-ltb (coflow_with o.table.ids id) (length o.table.ids) (known_within o.table.ids id known)
in_range_for o (Open most) known (some, small) = lt-ltb 0 most some
in_range_for o Close known word = refl
in_range_for o (Reweigh id weight) known (small, (some, most)) =
    and_from (nat_lt (coflow_with o.table.ids id) (length o.table.ids)) (nat_lt 0 weight && nat_le weight 4294967296)
    (lt-ltb (coflow_with o.table.ids id) (length o.table.ids) (known_within o.table.ids id known))
    (and_from (nat_lt 0 weight) (nat_le weight 4294967296) (lt-ltb 0 weight some) (le-leb weight 4294967296 most))

pub plain_for : (ids : List ℕ) (w : Word) → IsPlainCommand (command_for ids w)
plain_for ids (Register id) = (refl, refl)
plain_for ids (Withdraw id) = (refl, refl)
plain_for ids Publish = (refl, refl)
plain_for ids (Pull id) = (refl, refl)
plain_for ids (Open most) = (refl, refl)
plain_for ids Close = (refl, refl)
plain_for ids (Reweigh id weight) = (refl, refl)

pub stated_in_range : (o : Opening) (entries : List EntryLine) → All (λ (e : EntryLine). IsKnown o.table.ids e.word) entries → All IsEntry entries →
    InRange o (stated_by o.table.ids entries)
stated_in_range o [] known all = λ j d lt. absurd (omega arith)
stated_in_range o (e ∷ es) known all = All-cons (λ (x : Entry). in_range o x.command ≡ true) (entry_for o.table.ids e) (stated_by o.table.ids es)
    (in_range_for o e.word (known 0 e (omega arith)) (all 0 e (omega arith)).command)
    (stated_in_range o es (λ j d lt. known (suc j) d (omega arith)) (λ j d lt. all (suc j) d (omega arith)))

pub stated_plain : (ids : List ℕ) (entries : List EntryLine) → IsPlain (stated_by ids entries)
stated_plain ids [] = λ j d lt. absurd (omega arith)
stated_plain ids (e ∷ es) =
    All-cons (λ (x : Entry). IsPlainCommand x.command) (entry_for ids e) (stated_by ids es) (plain_for ids e.word) (stated_plain ids es)
