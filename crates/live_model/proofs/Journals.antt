-- Journals that are refused: another limit, a reply that is not the master's, and an entry without a line.
use Rattle.std.proofs.Common.{◌≡◌, ℕ, List, [], ◌∷◌, length, map, ap, arith}
use Rattle.journal.specs.declared.command.Command.{Command}
use Rattle.journal.specs.declared.command.Command.TheVariants.{Publish}
use Rattle.journal.specs.declared.command.Reply.{Reply}
use Rattle.journal.specs.declared.command.Reply.TheVariants.{Version}
use Rattle.workload.specs.declared.script.ScriptLine.{ScriptLine}
use Rattle.live_model.specs.Deeds.{asked_in, Deed}
use Rattle.live_model.proofs.Damaged.{placed}
use Rattle.live_model.specs.RefusedRows.{OtherLimit, StrangeEntry, WrongAnswer}

pub other_limit : OtherLimit → ⊥
other_limit h = let e : ◌≡◌ {A = ℕ} 17 16 = h.carried.work.limit in omega (arith, e)

abbrev version_in : Reply → ℕ
version_in (Version v) = v
version_in reply = 0

pub wrong_answer : WrongAnswer → ⊥
wrong_answer h = let e : ◌≡◌ {A = ℕ} 2 1 = ap version_in h.carried.work.legal.0 in omega (arith, e)

asked_without : (ds : List Deed) (x : ℕ × Command) → map placed ds ≡ [] → x ∷ [] ≡ asked_in ds → ⊥
asked_without [] x none e = omega (arith, ap (λ (l : List (ℕ × Command)). length l) e)
asked_without (d ∷ ds) x none e = omega (arith, ap (λ (l : List (ℕ × ScriptLine)). length l) none)

pub strange_entry : StrangeEntry → ⊥
strange_entry h = asked_without (h.course.deeds 1) (1, Publish) (h.carried.clients.lines 1) (h.carried.clients.entries 1 (omega arith))
