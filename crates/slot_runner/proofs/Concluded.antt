-- A slot in which a run is opened: what it needs, and what it comes to.
use Rattle.std.proofs.Common.{◌≡◌, ⊎_elim, ℕ, ◌+◌, ◌≤◌, List, Option, Some, None, refl, sym, ◌∙◌, arith}
use Rattle.std.proofs.lemmas.Bool.{cases_lt}
use Rattle.journal.specs.declared.command.Command.{Command}
use Rattle.journal.specs.declared.command.Command.TheVariants.{Open}
use Rattle.journal.specs.declared.command.Entry.{Entry}
use Rattle.journal.specs.declared.command.Reply.TheVariants.{Opened}
use Rattle.journal.specs.declared.opening.Opening.{Opening}
use Rattle.journal.specs.Driven.{Drive}
use Rattle.journal.specs.State.{IsOpening}
use Rattle.client_session.specs.Drivers.{IsDrivenOn, IsDriverTurn}
use Rattle.client_session.specs.declared.receipt.Answer.{Answer}
use Rattle.client_session.specs.declared.receipt.Answer.TheVariants.{Done, Spent}
use Rattle.client_session.specs.declared.receipt.Receipt.{Receipt}
use Rattle.client_session.specs.Models.{DriverModel, HallModel}
use Rattle.slot_runner.specs.declared.answer.Ran.{Ran}
use Rattle.slot_runner.specs.declared.answer.Ran.TheVariants.{Ran as Whole, Late as TooLate, WireFault}
use Rattle.slot_runner.specs.Carried.{IsCarriedOut}
use Rattle.slot_runner.specs.Models.{MayRun, RunnerModel}
use Rattle.slot_runner.specs.Settling.{IsOpenRunOf}
use Rattle.slot_runner.specs.Slots.{IsFaulted, IsRan}
use Rattle.slot_runner.proofs.Answered.{is_faulted, is_ran, may_again}
use Rattle.slot_runner.proofs.Opens.{is_open, open_facts, OpenFacts, opened_run}

-- the numbers that an answer tells
abbrev pub late_slot : Ran → ℕ
late_slot (TooLate slot) = slot
late_slot answer = 0

abbrev pub run_slot : Ran → ℕ
run_slot (Whole slot slots count) = slot
run_slot answer = 0

abbrev pub run_slots : Ran → ℕ
run_slots (Whole slot slots count) = slots
run_slots answer = 0

abbrev pub run_count : Ran → ℕ
run_count (Whole slot slots count) = count
run_count answer = 0

abbrev pub fault_port : Ran → ℕ
fault_port (WireFault port units) = port
fault_port answer = 0

abbrev pub fault_units : Ran → ℕ
fault_units (WireFault port units) = units
fault_units answer = 0

not_done : (r : Receipt) → ◌≡◌ {A = Answer} Spent (Done r) → ⊥
not_done r e = let bad : ◌≡◌ {A = Answer} Spent (Done r) = e in absurd (cc)

-- a turn that added an entry had the calls that it needs
has_calls : (o : Opening) (k : Command) (need : ℕ) (old new : DriverModel) (a : Answer) (r : Receipt) → IsDriverTurn o k need old new a → a ≡ Done r → need ≤ old.left
has_calls o k need old new a r turn is = ⊎_elim (λ lt. absurd (not_done r (sym (turn.calls lt) ∙ is))) (λ le. le) (cases_lt old.left need)

module _ (hall : HallModel) (old : RunnerModel) (may : MayRun hall old) (most : ℕ) (mid : DriverModel) (a : Answer) (r : Receipt)
    (turn : IsDriverTurn hall.setting.opening (Open most) (hall.setting.opening.table.ports + 2) old.driver mid a) (is : a ≡ Done r) (first slots count : ℕ)
    (opened : r.reply ≡ Opened first slots count) where
  abbrev pub on : IsDrivenOn hall.setting.opening (Open most) old.driver mid r
  on = turn.done r is

  abbrev pub start : Drive
  start = opened_run on.others.0 most first slots count

  pub opens_run : IsOpenRunOf hall.setting.opening old.driver.journal start mid
  opens_run = is_open hall.setting.opening most old.driver mid r on may.closed first slots count opened
      (has_calls hall.setting.opening (Open most) (hall.setting.opening.table.ports + 2) old.driver mid a r turn is)

  -- the run that is to be carried out
  pub opened_here : (before : List Entry) × (d : Drive) × (first ≡ d.first) × (slots ≡ d.slots) × IsOpenRunOf hall.setting.opening before d mid
  opened_here = (old.driver.journal, start, refl, refl, opens_run)

  facts : OpenFacts hall.setting.opening old.driver.journal mid.journal start
  facts = open_facts hall.setting.opening old.driver.journal mid.journal start on.seen.legal on.seen.in_range opens_run.under_way

  -- it is behind all posts
  pub not_before : old.posted_to ≤ first
  not_before = let low = may.later in let next = facts.next in omega (arith, low, next)

  module _ {W : Type 0} (faults : W → ℕ) (runs : W → Option (List (ℕ × ℕ × ℕ))) (within : IsOpening hall.setting.opening) (new : RunnerModel) (ws ws' : List W)
      (short : Option (ℕ × ℕ))
      (x : IsCarriedOut faults runs hall.setting.opening old.driver.journal start (record old { driver = mid }) new ws ws' short) where
    pub whole_run : short ≡ None → IsRan faults runs hall.setting.opening most old new ws ws' first slots count
    whole_run none = is_ran faults runs hall.setting.opening most first slots count old new mid r turn.place on ws ws' within short facts x may.ports none

    pub short_run : (port units : ℕ) → short ≡ Some (port, units) → IsFaulted faults runs hall.setting.opening most old new ws ws' port units
    short_run port units e = is_faulted faults runs hall.setting.opening most first slots count old new mid r turn.place on ws ws' within short facts x port units e

    pub runs_again : MayRun hall new
    runs_again = may_again faults runs hall.setting.opening most first slots count old new mid r turn.place on ws ws' within short facts x hall refl may.driver may.ports
