-- What a slot comes to.
use Rattle.std.proofs.Common.{◌≡◌, ℕ, ◌<◌, ◌≤◌, List, [], ◌∷◌, ◌++◌, length, get_or, Option, Some, None, refl, sym, ap}
use Rattle.std.proofs.Common.{subst, ◌∙◌, arith, length-append}
use Rattle.coflow_units.specs.Flows.{ingress_of}
use Rattle.journal.specs.declared.command.Command.TheVariants.{Open}
use Rattle.journal.specs.declared.command.Entry.{Entry}
use Rattle.journal.specs.declared.opening.Opening.{Opening}
use Rattle.journal.specs.Driven.{Drive, driven}
use Rattle.journal.specs.Fold.{state_of}
use Rattle.journal.specs.Journal.{entry}
use Rattle.journal.specs.Runs.{grant_in}
use Rattle.journal.specs.State.{IsOpening}
use Rattle.journal.proofs.Driving.{driven_goes_on}
use Rattle.outside.specs.Rose.{Rose}
use Rattle.client_session.specs.Drivers.{IsDrivenOn, StaysInHall}
use Rattle.client_session.specs.Models.{DriverModel, HallModel, IsDriverOf}
use Rattle.client_session.specs.declared.receipt.Receipt.{Receipt}
use Rattle.slot_runner.specs.Carried.{ended, IsCarriedOut}
use Rattle.slot_runner.specs.Models.{MayRun, RunnerModel}
use Rattle.slot_runner.specs.Posts.{posts_of, settlements_of}
use Rattle.slot_runner.specs.Settling.{IsFirstShort}
use Rattle.slot_runner.specs.Slots.{AreSent, HasRun, IsFaulted, IsRan, IsSentAt}
use Rattle.slot_runner.proofs.Carried.{at_ingress}
use Rattle.slot_runner.proofs.Notes.{calls_fall, stays}
use Rattle.slot_runner.proofs.Opens.{OpenFacts, opened_run}

module _ {W : Type 0} (faults : W → ℕ) (runs : W → Option (List (ℕ × ℕ × ℕ))) (o : Opening) (most first slots count : ℕ) (old new : RunnerModel) (mid : DriverModel)
    (r : Receipt)
    (place : StaysInHall old.driver mid) (on : IsDrivenOn o (Open most) old.driver mid r) (ws ws' : List W) (within : IsOpening o) (short : Option (ℕ × ℕ))
    (facts : OpenFacts o old.driver.journal mid.journal (opened_run on.others.0 most first slots count))
    (x : IsCarriedOut faults runs o old.driver.journal (opened_run on.others.0 most first slots count) (record old { driver = mid }) new ws ws' short) where
  abbrev start : Drive
  start = opened_run on.others.0 most first slots count

  abbrev whole_drive : Drive
  whole_drive = ended start x.sent x.between x.answer

  abbrev grants : List ℕ
  grants = driven o old.driver.journal start

  pub has_run : HasRun o most whole_drive old new
  has_run =
      let goes = driven_goes_on o old.driver.journal new.driver.journal whole_drive x.seen.legal x.seen.in_range x.journal in
      let e = entry 0 (Open most) r.reply in
      let long = ap (λ (l : List Entry). length l) on.journal in
      let met = ap (λ (l : List Entry). length l) on.others.1 in
      let wide = length-append on.before (e ∷ []) in
      let later = on.later in
      let is = on.length_is in
      let a = x.calls in
      let b = calls_fall o (Open most) old.driver mid r on in
      let next = goes.next in
      let at = goes.first in record {
        asked = refl;
        place = stays old.driver mid new.driver place x.place;
        journal = x.journal;
        goes_on = goes;
        seen = x.seen;
        numbers = x.numbers;
        later = omega arith;
        position = x.position;
        calls = omega arith;
        granted = x.granted;
        ports = x.ports;
        posts = x.posts ∙ ap (λ l. old.posts ++ posts_of o.table.flows l first slots) (sym x.granted);
        settled = x.settled ∙ ap (λ l. old.settled ++ settlements_of o.table.flows l x.sent first slots) (sym x.granted);
        posted_to = x.posted_to ∙ omega arith;
      }

  pub wires_are : AreSent faults runs whole_drive (grant_in o.table.flows new.granted) old.ports ws ws'
  wires_are = subst (λ l. AreSent faults runs whole_drive (grant_in o.table.flows l) old.ports ws ws') (sym x.granted) x.wires

  pub is_ran : old.ports ≡ o.table.ports → short ≡ None → IsRan faults runs o most old new ws ws' first slots count
  is_ran ports none = record {
    drive = whole_drive;
    run = has_run;
    first_is = refl;
    slots_is = refl;
    count_is = refl;
    whole = λ f has.
        let (low, at) = at_ingress o old.driver.journal start mid.journal within facts f has in
        subst (IsFirstShort (grant_in o.table.flows grants) x.sent slots old.ports) none x.first_short (ingress_of o.table.flows f) f (omega (arith, low, ports)) at;
    wires = wires_are;
  }

  rose_at : (p f : ℕ) (b a : W) → IsSentAt faults runs whole_drive p b a (Some f) → x.sent p < slots → Rose (faults b) (faults a)
  rose_at p f b a sent less = sent.cause less

  pub is_faulted : (port units : ℕ) → short ≡ Some (port, units) → IsFaulted faults runs o most old new ws ws' port units
  is_faulted port units is =
      let (f, low, at, n, less, least) = subst (IsFirstShort (grant_in o.table.flows grants) x.sent slots old.ports) is x.first_short in
      let given : grant_in o.table.flows new.granted port ≡ Some f = ap (λ l. grant_in o.table.flows l port) x.granted ∙ at in record {
        drive = whole_drive;
        run = has_run;
        in_range = low;
        flow = f;
        granted = given;
        units_is = n;
        short = less;
        rose = λ b a. rose_at port f (get_or ws port b) (get_or ws' port a)
            (subst (IsSentAt faults runs whole_drive port (get_or ws port b) (get_or ws' port a)) given (wires_are.each port b a low)) (omega (arith, n, less));
        least = λ p g lt e. least p g lt (ap (λ l. grant_in o.table.flows l p) (sym x.granted) ∙ e);
        wires = wires_are;
      }

  -- the runner may run again
  pub may_again : (hall : HallModel) → hall.setting.opening ≡ o → IsDriverOf hall old.driver → old.ports ≡ o.table.ports → MayRun hall new
  may_again hall is own ports =
      let goes = driven_goes_on o old.driver.journal new.driver.journal whole_drive x.seen.legal x.seen.in_range x.journal in
      let all = has_run.place in record {
        driver = (all.gate ∙ own.0, all.setting ∙ own.1, (λ i. (all.rank i).table) ∙ own.2);
        ports = x.ports ∙ ports ∙ ap (λ (y : Opening). y.table.ports) (sym is);
        closed = ap (λ y. (state_of y new.driver.journal).run) is ∙ goes.run_after;
        later = let at = has_run.posted_to in subst (λ y. new.posted_to ≤ (state_of y new.driver.journal).next) (sym is) (omega (arith, at));
      }
