-- A command that the master refuses changes nothing but the journal.
use Rattle.std.proofs.Common.{◌≡◌, ℕ, Bool, true, false, List, refl, sym, ap, subst, ◌∙◌}
use Rattle.std.specs.Prelude.{if◌then◌else◌}
use Rattle.coflow_units.specs.PortWord.{PortStage}
use Rattle.coflow_units.specs.PortWord.PortStage.{drawn, reported}
use Rattle.journal.specs.declared.command.Command.{Command}
use Rattle.journal.specs.declared.command.Command.TheVariants.{Close as CloseRun}
use Rattle.journal.specs.declared.command.Reply.{Reply}
use Rattle.journal.specs.declared.command.Reply.TheVariants.{Opened}
use Rattle.journal.specs.Answer.{reply_of}
use Rattle.journal.specs.Journal.{is_refusal}
use Rattle.journal.proofs.Growth.{state_stays}
use Rattle.world_model.specs.declared.event.Event.{Event}
use Rattle.world_model.specs.declared.event.Event.TheVariants.{Ask, Settle, Note, Close}
use Rattle.world_model.specs.declared.event.Happened.{Happened}
use Rattle.world_model.specs.declared.event.Happened.TheVariants.{Blocked}
use Rattle.world_model.specs.Port.{PortFacts, answered_by}
use Rattle.world_model.specs.World.{WorldFacts, port_at}
use Rattle.world_model.specs.Guards.{can}
use Rattle.world_model.specs.Steps.{IsSameButJournal, answered, asks, cleared, happened, is_opened, is_refused_answer, moved, ports_after, settled_note, world_after}
use Rattle.journal.proofs.Replies.{no_way}

opens_none : (reply : Reply) → is_refusal reply ≡ true → is_opened reply ≡ false
opens_none (Opened slot slots count) e = no_way e
opens_none reply e = refl

ports_stay : (xs : List PortFacts) (reply : Reply) → is_refusal reply ≡ true → ports_after xs reply ≡ xs
ports_stay xs reply e = ap (λ b. if b then cleared xs else xs) (opens_none reply e)

refused_asks : (w : WorldFacts) (who : ℕ) (k : Command) → is_refusal (reply_of w.opening w.journal k) ≡ true → IsSameButJournal w (asks w who k)
refused_asks w who k e = (refl, refl, ports_stay w.ports (reply_of w.opening w.journal k) e, refl, state_stays w.opening w.journal who k e)

-- no settling is answered by a refusal
settles : (y : PortFacts) (stage : PortStage) → is_refused_answer (answered_by y stage) ≡ false
settles y (drawn agent) = refl
settles y (reported agent units) = refl
settles y stage = refl

answered_refused : (w : WorldFacts) (e : Event) → is_refused_answer (answered w e) ≡ true → IsSameButJournal w (moved w e)
answered_refused w (Ask who k) is = refused_asks w who k is
answered_refused w (Note port) is = refused_asks w 0 (settled_note w port) is
answered_refused w Close is = refused_asks w 0 CloseRun is
answered_refused w (Settle port) is = no_way (sym (settles (port_at w port) (port_at w port).stage) ∙ is)
answered_refused w e is = no_way is

refused_by : (w : WorldFacts) (e : Event) (b : Bool) → is_refused_answer (if b then answered w e else Blocked) ≡ true → IsSameButJournal w (if b then moved w e else w)
refused_by w e true is = answered_refused w e is
refused_by w e false is = no_way is

pub refused_leaves : (w : WorldFacts) (e : Event) → is_refused_answer (happened w e) ≡ true → IsSameButJournal w (world_after w e)
refused_leaves w e is = refused_by w e (can w e) is

pub refused_goes : (w v : WorldFacts) (e : Event) (answer : Happened) → answer ≡ happened w e → v ≡ world_after w e → is_refused_answer answer ≡ true → IsSameButJournal w v
refused_goes w v e answer is goes refused = subst (IsSameButJournal w) (sym goes) (refused_leaves w e (sym (ap is_refused_answer is) ∙ refused))
