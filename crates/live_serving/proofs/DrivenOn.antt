-- What the driver opens beside a round.
use Rattle.std.proofs.Common.{◌≡◌, ℕ, ◌≤◌, length, length-append, List, [], ◌∷◌, ◌++◌, refl, sym, ap, subst, ◌∙◌, arith, append-nil}
use Rattle.std.specs.Prelude.{false, true, All}
use Rattle.std.proofs.lemmas.List.Elements.{All-cons, All-nil}
use Rattle.journal.specs.declared.command.Command.TheVariants.{Open}
use Rattle.journal.specs.declared.command.Entry.{Entry}
use Rattle.journal.specs.declared.command.Reply.TheVariants.{NothingLeft}
use Rattle.journal.specs.declared.opening.Opening.{Opening}
use Rattle.journal.specs.Driven.{closed_in, closing, Drive, is_other, IsSentWhole, opened_in, opening}
use Rattle.journal.specs.Journal.{entry}
use Rattle.client_session.specs.Desk.{DrivenByRoot}
use Rattle.client_session.specs.Drivers.{IsDrivenOn}
use Rattle.client_session.specs.Models.{DriverModel}
use Rattle.client_session.specs.declared.receipt.Receipt.{Receipt}
use Rattle.slot_runner.specs.Models.{RunnerModel}
use Rattle.slot_runner.specs.Slots.{HasRun, IsAnswered}
use Rattle.slot_runner.proofs.Turns.{others_are_other}
use Rattle.live_model.specs.Levels.{spell_driven, spell_for_nothing}
use Rattle.live_model.specs.Rounds.{Spell}
use Rattle.live_rounds.specs.Drivers.{AreOpenings}
use Rattle.live_rounds.proofs.DriversTold.{nothing_opened, run_opened}
use Rattle.live_serving.specs.Driven.{HasDriven, HasOpened, StandsAfter}

abbrev IsBeside : ℕ → Spell → Type 0
IsBeside round s = s.round ≡ round

one_opened : (most round : ℕ) (old new : DriverModel) (s : Spell) → s.round ≡ round →
    ((spells : List Spell) → AreOpenings most old.journal spells → AreOpenings most new.journal (spells ++ s ∷ [])) → StandsAfter old.position new.position s →
    old.position ≤ new.position → HasOpened most round old new (s ∷ [])
one_opened most round old new s is openings stands later = record {
  rounds_are = All-cons (IsBeside round) s [] is (All-nil (IsBeside round));
  openings = openings;
  stand = All-cons (StandsAfter old.position new.position) s [] stands (All-nil (StandsAfter old.position new.position));
  later = later;
}

-- a run that was sent whole is an opening with its closing
pub run_stands : (o : Opening) (most round : ℕ) (old new : RunnerModel) (d : Drive) → HasRun o most d old new → IsSentWhole o old.driver.journal d →
    HasOpened most round old.driver new.driver (spell_driven round old.driver.journal d ∷ [])
run_stands o most round old new d h whole =
    let before = old.driver.journal in
    let after = new.driver.journal in
    let all = ap (λ (l : List Entry). length l) h.journal.goes_on in
    let closed = length-append (closed_in before d) (closing d ∷ []) in
    let between = length-append (opened_in before d ++ opening d ∷ []) d.between in
    let opened = length-append (opened_in before d) (opening d ∷ []) in
    let earlier = length-append before d.earlier in
    one_opened most round old.driver new.driver (spell_driven round before d) refl
    (λ spells i. run_opened o round most before after d spells h.seen.legal h.journal whole h.asked i)
    (omega (arith, h.later, earlier), omega (arith, h.position, all, closed, between, opened, earlier))
    (omega (arith, h.later, h.position, all, closed, between, opened, earlier))

pub run_driven : (o : Opening) (most round : ℕ) (old new : RunnerModel) (d : Drive) → HasRun o most d old new → IsSentWhole o old.driver.journal d →
    HasDriven most round true old.driver new.driver
run_driven o most round old new d h whole = record {
  more = spell_driven round old.driver.journal d ∷ [];
  opened = run_stands o most round old new d h whole;
  as_asked = refl;
}

-- an opening that is answered that nothing is left, in a turn of the driver
module _ (o : Opening) (most round : ℕ) (old new : DriverModel) (r : Receipt) (is : r.reply ≡ NothingLeft) (on : IsDrivenOn o (Open most) old new r) where
  abbrev others : List Entry
  others = on.others.0

  abbrev e : Entry
  e = entry 0 (Open most) r.reply

  others_free : All (λ (x : Entry). is_other x ≡ true) others
  others_free = others_are_other old.journal others (e ∷ []) (subst (λ l. DrivenByRoot (l ++ e ∷ [])) on.others.1 (subst DrivenByRoot on.journal on.seen.driven)) on.others.2

  pub journal_is : new.journal ≡ old.journal ++ others ++ entry 0 (Open most) NothingLeft ∷ []
  journal_is = on.journal ∙ (λ i. on.others.1 i ++ entry 0 (Open most) (is i) ∷ [])

  pub nothing_stands : HasOpened most round old new (spell_for_nothing round old.journal others ∷ [])
  nothing_stands =
      let long = ap (λ (l : List Entry). length l) journal_is in
      let last = length-append (old.journal ++ others) (entry 0 (Open most) NothingLeft ∷ []) in
      let front = length-append old.journal others in
      one_opened most round old new (spell_for_nothing round old.journal others) refl
      (λ spells i. subst (λ l. AreOpenings most l (spells ++ spell_for_nothing round old.journal others ∷ [])) (sym journal_is)
      (nothing_opened round most old.journal others spells others_free i))
      (omega (arith, on.later, on.length_is, long, last, front), omega (arith, on.position, on.length_is, long, last, front))
      (omega (arith, on.later, on.position))

pub nothing_driven : (o : Opening) (most round : ℕ) (old new : RunnerModel) → IsAnswered o most old new NothingLeft → HasDriven most round true old.driver new.driver
nothing_driven o most round old new h = record {
  more = spell_for_nothing round old.driver.journal h.turn.others.0 ∷ [];
  opened = nothing_stands o most round old.driver new.driver h.receipt h.reply_is h.turn;
  as_asked = refl;
}

pub none_opened_more : (most round : ℕ) (driver : DriverModel) → HasOpened most round driver driver []
none_opened_more most round driver = record {
  rounds_are = All-nil (IsBeside round);
  openings = λ spells i. subst (AreOpenings most driver.journal) (sym (append-nil spells)) i;
  stand = All-nil (StandsAfter driver.position driver.position);
  later = omega arith;
}

pub none_driven : (most round : ℕ) (driver : DriverModel) → HasDriven most round false driver driver
none_driven most round driver = record { more = []; opened = none_opened_more most round driver; as_asked = refl }
