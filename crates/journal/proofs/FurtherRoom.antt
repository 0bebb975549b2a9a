-- How long a journal gets by its Short and Close entries.
use Rattle.std.proofs.Common.{◌≡◌, ℕ, ◌+◌, ◌≤◌, inl, inr, Bool, true, false, true≢false, List, [], ◌∷◌, ◌++◌, length, refl, sym, ap, ◌∙◌, arith, cond, append_assoc}
use Rattle.std.proofs.lemmas.Bool.{cases_Bool, leb-false}
use Rattle.std.proofs.lemmas.List.{length-append}
use Rattle.std.proofs.lemmas.List.Sums.{sum_by-cons}
use Rattle.journal.specs.declared.command.Command.{Command}
use Rattle.journal.specs.declared.command.Command.TheVariants.{Short, Close}
use Rattle.journal.specs.declared.command.Entry.{Entry}
use Rattle.journal.specs.declared.opening.Opening.{Opening}
use Rattle.journal.specs.Answer.{room}
use Rattle.journal.specs.Journal.{is_full, is_version, IsLegal, LegalFrom, version_of}
use Rattle.journal.proofs.Legal.{full_is, legal_rest}
use Rattle.journal.specs.Counts.{endings, is_ending}

pub room_is : (o : Opening) (k : Command) → is_ending k ≡ false → room o k ≡ o.limit
room_is o (Short port units) e = absurd (true≢false e)
room_is o Close e = absurd (true≢false e)
room_is o k e = refl

grows : (o : Opening) (before es : List Entry) (a : ℕ) → length before ≤ o.limit + a → LegalFrom o before es → length (before ++ es) ≤ o.limit + a + endings es
grows o before [] a le legal = omega (arith, length-append before [], le)
grows o before (e ∷ es) a le legal =
    let test = λ (x : Entry). cond {A = ℕ} (is_ending x.command) 1 0 in
    let longer = length-append before (e ∷ []) in
    let same = ap (λ (l : List Entry). length l) (append_assoc before (e ∷ []) es) in
    elim (cases_Bool (is_ending e.command)) [
      | inl yes' ↦
          let next = grows o (before ++ e ∷ []) es (a + 1) (omega (arith, le, longer)) legal.2 in
          omega (arith, next, same, sum_by-cons test e es, ap {B = ℕ} (λ b. cond b 1 0) yes')
      | inr not' ↦
          let had = leb-false (room o e.command) (length before) (sym (full_is o before e.command) ∙ ap is_full (sym legal.0) ∙ legal.1) in
          let next = grows o (before ++ e ∷ []) es a (omega (arith, had, room_is o e.command not', longer)) legal.2 in
          omega (arith, next, same, sum_by-cons test e es, ap {B = ℕ} (λ b. cond b 1 0) not')
    ]

-- a journal that goes on from its limit at most is longer than the limit by its Short and Close entries at most
pub further_room : (o : Opening) (before more : List Entry) → IsLegal o (before ++ more) → length before ≤ o.limit → length (before ++ more) ≤ o.limit + endings more
further_room o before more legal le = omega (arith, grows o before more 0 (omega (arith, le)) (legal_rest o [] before more legal))

one_or_none : (b : Bool) → cond {A = ℕ} b 1 0 ≤ 1
one_or_none true = omega arith
one_or_none false = omega arith

pub few_versions : (journal : List Entry) → version_of journal ≤ length journal
few_versions [] = omega arith
few_versions (e ∷ es) = omega (arith, one_or_none (is_version e.reply), few_versions es)
