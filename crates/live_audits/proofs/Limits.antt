-- The limit of the journal is read only where a command is answered: with another limit that is no less than the
-- journal's length all else is the same.
use Rattle.std.proofs.Common.{◌≡◌, ℕ, ◌-◌, ◌≤◌, ◌<◌, false, List, [], ◌∷◌, ◌++◌, length, map, refl, sym, ap, ◌∙◌, arith, Option, Some, None}
use Rattle.std.specs.List.{range_with_len}
use Rattle.std.proofs.lemmas.Bool.{leb-false}
use Rattle.std.proofs.lemmas.List.{length-append}
use Rattle.journal.specs.declared.command.Command.{Command}
use Rattle.journal.specs.declared.command.Command.TheVariants.{Register, Withdraw, Publish, Pull, Open, Short, Close, Skip, Reweigh}
use Rattle.journal.specs.declared.command.Entry.{Entry}
use Rattle.journal.specs.declared.command.Reply.{Reply}
use Rattle.journal.specs.declared.command.Reply.TheVariants.{Version, Opened, Closed}
use Rattle.journal.specs.declared.opening.Opening.{Opening}
use Rattle.journal.specs.State.{Run, State}
use Rattle.journal.specs.Fold.{after, closed, start, state_from, state_of}
use Rattle.journal.specs.Answer.{answer, reply_of, room}
use Rattle.journal.specs.Journal.{is_full, LegalFrom}
use Rattle.journal.specs.Closed.{closed_by, closed_from, closed_runs, flows_in, schedule_of}
use Rattle.journal.proofs.Legal.{full_is}
use Rattle.master_core.proofs.StepTells.{answered}

abbrev pub with_limit : Opening → ℕ → Opening
with_limit o n = record { table = o.table; weights = o.weights; limit = n }

module _ (o : Opening) (n : ℕ) where
  closed_same : (s : State) (run : Option Run) → closed (with_limit o n) s run ≡ closed o s run
  closed_same s None = refl
  closed_same s (Some r) = refl

  after_same : (s : State) (k : Command) (r : Reply) → after (with_limit o n) s k r ≡ after o s k r
  after_same s k (Version v) = refl
  after_same s k (Opened slot slots count) = refl
  after_same s k (Closed slot) = closed_same s s.run
  after_same s k r = refl

  from_same : (s : State) (es : List Entry) → state_from (with_limit o n) s es ≡ state_from o s es
  from_same s [] = refl
  from_same s (e ∷ es) = ap (λ t. state_from (with_limit o n) t es) (after_same s e.command e.reply) ∙ from_same (after o s e.command e.reply) es

  pub state_same : (journal : List Entry) → state_of (with_limit o n) journal ≡ state_of o journal
  state_same journal = from_same (start o) journal

  closed_from_same : (s : State) (es : List Entry) → closed_from (with_limit o n) s es ≡ closed_from o s es
  closed_from_same s [] = refl
  closed_from_same s (e ∷ es) =
      ap (λ l. closed_by e.reply s.run ++ l)
      (ap (λ t. closed_from (with_limit o n) t es) (after_same s e.command e.reply) ∙ closed_from_same (after o s e.command e.reply) es)

  pub schedule_same : (journal : List Entry) → schedule_of (with_limit o n) journal ≡ schedule_of o journal
  schedule_same journal =
      ap (λ (s : State). map (flows_in o.table.flows (closed_runs (with_limit o n) journal)) (range_with_len 1 (s.next - 1))) (state_same journal)
      ∙ ap (λ runs. map (flows_in o.table.flows runs) (range_with_len 1 ((state_of o journal).next - 1))) (closed_from_same (start o) journal)

  -- ---- what is answered

  answer_same : (s : State) (k : Command) → answer (with_limit o n) s k ≡ answer o s k
  answer_same s (Register c) = refl
  answer_same s (Withdraw c) = refl
  answer_same s Publish = refl
  answer_same s (Pull c) = refl
  answer_same s (Open most) = refl
  answer_same s (Short port units) = refl
  answer_same s Close = refl
  answer_same s (Skip to) = refl
  answer_same s (Reweigh c w) = refl

  room_least : (k : Command) → n ≤ room (with_limit o n) k
  room_least (Short port units) = omega arith
  room_least Close = omega arith
  room_least k = omega arith

  reply_same : (before : List Entry) (k : Command) → length before < n → is_full (reply_of o before k) ≡ false → reply_of o before k ≡ reply_of (with_limit o n) before k
  reply_same before k lt some =
      answered o before k (leb-false (room o k) (length before) (sym (full_is o before k) ∙ some)) ∙ sym (answer_same (state_of o before) k)
      ∙ ap (λ s. answer (with_limit o n) s k) (sym (state_same before)) ∙ sym (answered (with_limit o n) before k (omega (arith, lt, room_least k)))

  pub legal_same : (before es : List Entry) → length (before ++ es) ≤ n → LegalFrom o before es → LegalFrom (with_limit o n) before es
  legal_same before [] le legal = tt
  legal_same before (e ∷ es) le legal = (
    legal.0 ∙ reply_same before e.command (omega (arith, le, length-append before (e ∷ es))) (ap is_full (sym legal.0) ∙ legal.1),
    legal.1,
    legal_same (before ++ e ∷ []) es (omega (arith, le, length-append before (e ∷ es), length-append (before ++ e ∷ []) es, length-append before (e ∷ []))) legal.2,
  )
