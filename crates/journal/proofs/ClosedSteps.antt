-- How the closed runs, the wires and the state go on by one entry.
use Rattle.std.proofs.Common.{◌≡◌, ℕ, false, true≢false, List, [], ◌∷◌, ◌++◌, refl, sym, ap, ◌∙◌, append_assoc, append-nil}
use Rattle.std.specs.List.{flat_map}
use Rattle.std.proofs.lemmas.List.Concat.{flat_map-append}
use Rattle.journal.specs.declared.command.Command.{Command}
use Rattle.journal.specs.declared.command.Entry.{Entry}
use Rattle.journal.specs.declared.command.Reply.{Reply}
use Rattle.journal.specs.declared.command.Reply.TheVariants.{Opened, Noted, Closed, Skipped}
use Rattle.journal.specs.declared.opening.Opening.{Opening}
use Rattle.journal.specs.State.{State}
use Rattle.journal.specs.Fold.{after, start, state_from, state_of}
use Rattle.journal.specs.Closed.{closed_by, closed_from, closed_runs, sent_at, wire_of}
use Rattle.journal.specs.Entries.{is_moving}

closed_append : (o : Opening) (s : State) (xs ys : List Entry) → closed_from o s (xs ++ ys) ≡ closed_from o s xs ++ closed_from o (state_from o s xs) ys
closed_append o s [] ys = refl
closed_append o s (e ∷ es) ys =
    let next = after o s e.command e.reply in
    ap (λ l. closed_by e.reply s.run ++ l) (closed_append o next es ys) ∙
    sym (append_assoc (closed_by e.reply s.run) (closed_from o next es) (closed_from o (state_from o next es) ys))

-- an entry adds the run that it closes, where it closes one
pub closed_push : (o : Opening) (journal : List Entry) (e : Entry) → closed_runs o (journal ++ e ∷ []) ≡ closed_runs o journal ++ closed_by e.reply (state_of o journal).run
closed_push o journal e = closed_append o (start o) journal (e ∷ []) ∙ ap (λ l. closed_runs o journal ++ l) (append-nil (closed_by e.reply (state_of o journal).run))

pub wire_push : (o : Opening) (journal : List Entry) (e : Entry) (port : ℕ) →
    wire_of o (journal ++ e ∷ []) port ≡ wire_of o journal port ++ flat_map (sent_at o.table.flows port) (closed_by e.reply (state_of o journal).run)
wire_push o journal e port =
    ap (λ l. flat_map (sent_at o.table.flows port) l) (closed_push o journal e) ∙
    flat_map-append (sent_at o.table.flows port) (closed_runs o journal) (closed_by e.reply (state_of o journal).run)

-- a reply that does not move leaves the open run
pub record IsSame (s t : State) : Type 0 where
  pub run : t.run ≡ s.run

pub unmoved : (o : Opening) (s : State) (k : Command) (r : Reply) → is_moving r ≡ false → IsSame s (after o s k r)
unmoved o s k (Opened slot slots count) e = absurd (true≢false e)
unmoved o s k (Noted n) e = absurd (true≢false e)
unmoved o s k (Closed slot) e = absurd (true≢false e)
unmoved o s k (Skipped slot) e = absurd (true≢false e)
unmoved o s k r e = record { run = refl }
