-- The runs after the last round.
use Rattle.std.proofs.Common.{◌≡◌, ℕ, length, List, [], ◌∷◌, ◌++◌, refl, subst, ◌∙◌, arith, append_assoc}
use Rattle.std.specs.Option.{IsSome}
use Rattle.std.proofs.lemmas.List.Elements.{All-append, All-cons, All-nil, All-weaker}
use Rattle.journal.specs.declared.command.Reply.TheVariants.{NothingLeft}
use Rattle.journal.specs.declared.opening.Opening.{Opening}
use Rattle.journal.specs.Driven.{Drive, IsSentWhole}
use Rattle.workload.specs.declared.script.Round.{Round}
use Rattle.client_session.specs.Models.{DriverModel, SessionModel}
use Rattle.slot_runner.specs.Models.{RunnerModel}
use Rattle.slot_runner.specs.Slots.{HasRun, IsAnswered}
use Rattle.live_model.specs.Levels.{spell_driven, spell_for_nothing}
use Rattle.live_model.specs.Rounds.{Spell}
use Rattle.live_rounds.specs.declared.answer.PullDone.{PullDone}
use Rattle.live_rounds.specs.Drivers.{AreOpenings}
use Rattle.live_serving.specs.Driven.{HasOpened, StandsAfter}
use Rattle.live_serving.specs.Ends.{HasRunOut, IsRunningOut}
use Rattle.live_serving.specs.Rounds.{AreRoundsDone}
use Rattle.live_serving.proofs.DrivenOn.{journal_is, none_opened_more, nothing_stands, run_stands}

abbrev IsBeside : ℕ → Spell → Type 0
IsBeside round s = s.round ≡ round

abbrev HasClosed : Spell → Type 0
HasClosed s = IsSome s.closed

opened_on : (most round : ℕ) (a b c : DriverModel) (xs ys : List Spell) → HasOpened most round a b xs → HasOpened most round b c ys → HasOpened most round a c (xs ++ ys)
opened_on most round a b c xs ys h k =
    let up = k.later in
    let on = h.later in record {
      rounds_are = All-append (IsBeside round) xs ys h.rounds_are k.rounds_are;
      openings = λ spells i. subst (AreOpenings most c.journal) (append_assoc spells xs ys) (k.openings (spells ++ xs) (h.openings spells i));
      stand = All-append (StandsAfter a.position c.position) xs ys
          (All-weaker (StandsAfter a.position b.position) (StandsAfter a.position c.position) (λ s w. (w.0, omega (arith, w.1, up))) xs h.stand)
          (All-weaker (StandsAfter b.position c.position) (StandsAfter a.position c.position) (λ s w. (omega (arith, w.0, on), w.1)) ys k.stand);
      later = omega (arith, on, up);
    }

pub first_out : (most calls : ℕ) (rounds : List Round) (driver : DriverModel) (sessions : List SessionModel) (pulls : List PullDone) →
    AreRoundsDone most calls rounds driver sessions pulls → IsRunningOut most calls rounds driver sessions pulls
first_out most calls rounds driver sessions pulls h = record {
  before = driver;
  done = h;
  later = [];
  opened = none_opened_more most (length rounds) driver;
  runs = All-nil HasClosed;
}

pub run_out : (o : Opening) (most calls : ℕ) (rounds : List Round) (old new : RunnerModel) (d : Drive) (sessions : List SessionModel) (pulls : List PullDone) →
    IsRunningOut most calls rounds old.driver sessions pulls → HasRun o most d old new → IsSentWhole o old.driver.journal d →
    IsRunningOut most calls rounds new.driver sessions pulls
run_out o most calls rounds old new d sessions pulls h run whole =
    let n = length rounds in
    let s = spell_driven n old.driver.journal d in record {
      before = h.before;
      done = h.done;
      later = h.later ++ s ∷ [];
      opened = opened_on most n h.before old.driver new.driver h.later (s ∷ []) h.opened (run_stands o most n old new d run whole);
      runs = All-append HasClosed h.later (s ∷ []) h.runs (All-cons HasClosed s [] refl (All-nil HasClosed));
    }

pub nothing_out : (o : Opening) (most calls : ℕ) (rounds : List Round) (old new : RunnerModel) (sessions : List SessionModel) (pulls : List PullDone) →
    IsRunningOut most calls rounds old.driver sessions pulls → IsAnswered o most old new NothingLeft → HasRunOut most calls rounds new.driver sessions pulls
nothing_out o most calls rounds old new sessions pulls h a =
    let n = length rounds in record {
      before = old.driver;
      running = h;
      last = spell_for_nothing n old.driver.journal a.turn.others.0;
      opened = nothing_stands o most n old.driver new.driver a.receipt a.reply_is a.turn;
      last_is = refl;
      journal = old.driver.journal ++ a.turn.others.0;
      ends = journal_is o most n old.driver new.driver a.receipt a.reply_is a.turn;
      position = a.turn.position ∙ a.turn.length_is;
    }
