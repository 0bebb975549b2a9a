-- Which entry gives a coflow its weight.
use Rattle.std.proofs.Common.{◌≡◌, ℕ, true, false, List, [], ◌∷◌, ◌++◌, Option, None, Some, refl, ap, ◌∙◌, arith}
use Rattle.std.specs.Prelude.{All, ◌==◌, ◌&&◌}
use Rattle.std.proofs.lemmas.List.Elements.{All-head, All-tail}
use Rattle.std.specs.List.{slice_index_or}
use Rattle.journal.specs.declared.command.Command.{Command}
use Rattle.journal.specs.declared.command.Command.TheVariants.{Reweigh}
use Rattle.journal.specs.declared.command.Reply.{Reply}
use Rattle.journal.specs.declared.command.Reply.TheVariants.{Full, Already, Joined, NotHere, Left, StillOpen, Version, Rank, Unranked, NothingLeft, Late, Opened, NotGranted, Noted}
use Rattle.journal.specs.declared.command.Reply.TheVariants.{NoneOpen, Closed, StillOwed, Skipped, Weighed}
use Rattle.journal.specs.declared.command.Entry.{Entry}
use Rattle.journal.specs.declared.opening.Opening.{Opening}
use Rattle.journal.specs.State.{Run, State}
use Rattle.journal.specs.Fold.{after, closed, coflow_named, start, state_from, state_of}
use Rattle.journal.specs.Journal.{gives_weight, is_weighed}
use Rattle.journal.proofs.Growth.{state_append}

closed_keeps : (o : Opening) (s : State) (r : Option Run) (c : ℕ) → (closed o s r).weight c ≡ s.weight c
closed_keeps o s None c = refl
closed_keeps o s (Some r) c = refl

-- an entry that gives the coflow no weight leaves its weight
after_keeps : (o : Opening) (s : State) (k : Command) (r : Reply) (c : ℕ) → (is_weighed r && (c == coflow_named k)) ≡ false → (after o s k r).weight c ≡ s.weight c
after_keeps o s k (Weighed old) c h = rw h refl
after_keeps o s k (Closed slot) c h = closed_keeps o s s.run c
after_keeps o s k (Full n) c h = refl
after_keeps o s k Already c h = refl
after_keeps o s k Joined c h = refl
after_keeps o s k NotHere c h = refl
after_keeps o s k Left c h = refl
after_keeps o s k (StillOpen slot) c h = refl
after_keeps o s k (Version v) c h = refl
after_keeps o s k (Rank v r) c h = refl
after_keeps o s k (Unranked v) c h = refl
after_keeps o s k NothingLeft c h = refl
after_keeps o s k (Late slot) c h = refl
after_keeps o s k (Opened slot slots count) c h = refl
after_keeps o s k (NotGranted port) c h = refl
after_keeps o s k (Noted n) c h = refl
after_keeps o s k NoneOpen c h = refl
after_keeps o s k (StillOwed f) c h = refl
after_keeps o s k (Skipped slot) c h = refl

from_keeps : (o : Opening) (s : State) (more : List Entry) (c : ℕ) → All (λ e. gives_weight e c ≡ false) more → (state_from o s more).weight c ≡ s.weight c
from_keeps o s [] c h = refl
from_keeps o s (e ∷ es) c h =
    from_keeps o (after o s e.command e.reply) es c (All-tail (λ (x : Entry). gives_weight x c ≡ false) e es h)
    ∙ after_keeps o s e.command e.reply c (All-head (λ (x : Entry). gives_weight x c ≡ false) e es h)

here : (o : Opening) (s : State) (k : Command) (r : Reply) (c w old : ℕ) → k ≡ Reweigh c w → r ≡ Weighed old → (after o s k r).weight c ≡ w
here o s k r c w old ek er = rw (ek, er) (rw (both_ways c) refl)
  where
    both_ways : (n : ℕ) → (n == n) ≡ true
    both_ways n = grind arith

-- the last entry that gives the coflow a weight decides
pub last_given : (o : Opening) (before more : List Entry) (e : Entry) (c w old : ℕ) → e.command ≡ Reweigh c w → e.reply ≡ Weighed old → All (λ x. gives_weight x c ≡ false) more →
    (state_of o (before ++ e ∷ more)).weight c ≡ w
last_given o before more e c w old ek er h =
    ap (λ (s : State). s.weight c) (state_append o (start o) before (e ∷ more))
    ∙ (from_keeps o (after o (state_of o before) e.command e.reply) more c h ∙ here o (state_of o before) e.command e.reply c w old ek er)

-- where none does, the weight is the opening's
pub never_given : (o : Opening) (journal : List Entry) (c : ℕ) → All (λ x. gives_weight x c ≡ false) journal → (state_of o journal).weight c ≡ slice_index_or o.weights c 0
never_given o journal c h = from_keeps o (start o) journal c h
