-- How a run of `live` goes on by a round, and what it is where a turn found no room.
use Rattle.std.proofs.Common.{◌≡◌, ℕ, ◌+◌, ◌<◌, ◌≤◌, ◌⊎◌, inl, inr, ⊎_elim, Bool, List, [], ◌∷◌, ◌++◌, length, get_or, take, drop, refl, sym, ap, subst, ◌∙◌}
use Rattle.std.proofs.Common.{arith, Result, Ok, Err}
use Rattle.std.specs.Prelude.{All}
use Rattle.std.specs.declared.vec.Vec.{Vec}
use Rattle.std.specs.declared.alloc.Global.{Global}
use Rattle.std.proofs.lemmas.List.{length-take-le, take-append-drop, take_more}
use Rattle.std.proofs.lemmas.List.Elements.{All-append}
use Rattle.journal.specs.declared.opening.Opening.{Opening}
use Rattle.journal.specs.Driven.{driver_entries}
use Rattle.journal.specs.declared.command.Entry.{Entry}
use Rattle.workload.specs.declared.script.Round.{Round}
use Rattle.workload.specs.declared.script.Script.{Script}
use Rattle.client_session.specs.Desk.{IsSeen}
use Rattle.client_session.specs.Levels.{AreRaised, IsLevel}
use Rattle.client_session.proofs.Levelling.{are_raised_of}
use Rattle.client_session.specs.Models.{DriverModel, HallModel, SessionModel}
use Rattle.slot_runner.specs.Models.{MayRun, RunnerModel}
use Rattle.live_model.specs.Script.{lines_of}
use Rattle.live_rounds.proofs.DriversTold.{others_open_none}
use Rattle.live_rounds.specs.declared.answer.PullDone.{PullDone}
use Rattle.live_rounds.specs.declared.answer.RoundStop.TheVariants as round
use Rattle.live_rounds.specs.Asking.{AddFew}
use Rattle.live_rounds.specs.Rounds.{MayAsk}
use Rattle.live_rounds.proofs.AskingLittle.{cut_few, done_few, full_met, spent_lacks}
use Rattle.live_serving.specs.Driven.{HasDriven}
use Rattle.live_serving.specs.Room.{IsShort}
use Rattle.live_serving.specs.Rounds.{AreRoundsDone}
use Rattle.live_serving.proofs.RoundsOn.{round_done}
use Rattle.live_serving.specs.declared.stop.Stop.{Stop}
use Rattle.live_serving.specs.declared.stop.Stop.TheVariants.{Full}
use Rattle.live_serving.specs.Going.{AreSeated, IsFilled, IsGoing}
use Rattle.live_serving.specs.Openings.{GoesOn, HasMetFull}
use Rattle.live_serving.specs.Playing.{HasPlayed, Settles, Told}
use Rattle.slot_runner.specs.Cuts.{AllSentWhole}
use Rattle.live_serving.proofs.FewEntries.{all_short, AreWithin, few_found, few_spells, found_append, never_lack, one_spell, round_within, same_few}
use Rattle.live_serving.proofs.PullsInTable.{InTable, round_in_table}

abbrev Pulls : Type 0
Pulls = Vec PullDone Global

-- ---- levels keep the callers in their hall

raised_many : (olds news : List SessionModel) → AreRaised olds news → length news ≡ length olds
raised_many [] [] raised = refl
raised_many [] (w ∷ ws) raised = absurd raised
raised_many (m ∷ ms) [] raised = absurd raised
raised_many (m ∷ ms) (w ∷ ws) raised = let e = raised_many ms ws raised.1 in omega (arith, e)

-- ---- a round

module _ (hall : HallModel) (script : Script) (most n : ℕ) (old mid : RunnerModel) (olds mids : List SessionModel) (pulls : List PullDone) (r : Round)
    (h : IsGoing hall script most n old olds pulls) (lt : n < length script.rounds) (here : r ≡ get_or script.rounds n r) (may : MayRun hall mid) where
  abbrev o : Opening
  o = hall.setting.opening

  abbrev before : List Round
  before = take n script.rounds

  long : length before ≡ n
  long = length-take-le n script.rounds (omega (arith, lt))

  pub next_is : take (n + 1) script.rounds ≡ take n script.rounds ++ r ∷ []
  next_is = take_more script.rounds n r lt ∙ ap (λ x. take n script.rounds ++ x ∷ []) (sym here)

  whole_is : script.rounds ≡ (before ++ r ∷ []) ++ drop (n + 1) script.rounds
  whole_is = sym (take-append-drop (n + 1) script.rounds) ∙ ap (λ l. l ++ drop (n + 1) script.rounds) next_is

  within : AreWithin script before r.lines
  within = round_within script before (drop (n + 1) script.rounds) r whole_is

  pub asks : All (MayAsk hall.setting.opening (length olds)) r.lines
  asks =
      subst (λ k. All (MayAsk o k) r.lines) (sym h.seated.each)
      (subst (λ (x : Round). All (MayAsk o script.clients) x.lines) (sym here) (h.hall_is.asked n r lt))

  -- no session stops because it has no calls left
  pub never_out : (told : Told) → HasPlayed hall r.lines olds mids told → told ≡ Err round.Spent → ⊥
  never_out told p is = never_lack script h.done.levels before r.lines 1 olds h.done.told within h.done.clients (spent_lacks o r.lines olds mids (p.stopped round.Spent is))

  -- what all sessions have, whatever the round came to
  few : (told : Told) → HasPlayed hall r.lines olds mids told → All (IsShort script) mids
  few told p = short (come told p)
    where
      come : (told : Told) → HasPlayed hall r.lines olds mids told → (mids ≡ olds) ⊎ AddFew r.lines 1 olds mids
      come (Ok v) p = inr (done_few o r.lines olds mids v.items p.done)
      come (Err (round.Full entries)) p = inr (cut_few o r.lines olds mids (round.Full entries) (p.stopped (round.Full entries) refl))
      come (Err round.Spent) p = inr (cut_few o r.lines olds mids round.Spent (p.stopped round.Spent refl))
      come (Err round.NoMemory) p = inl (p.stopped round.NoMemory refl)

      le : 1 + length olds ≤ script.clients + 1
      le = omega (arith, h.seated.each)

      short : (mids ≡ olds) ⊎ AddFew r.lines 1 olds mids → All (IsShort script) mids
      short x = ⊎_elim
          (λ same. subst (All (IsShort script)) (sym same)
          (all_short script h.done.levels before [] (length (lines_of script)) 1 olds olds h.done.told none h.done.clients (same_few 1 olds) le))
          (λ added. all_short script h.done.levels before r.lines (length (lines_of script)) 1 olds mids h.done.told within h.done.clients added le) x
        where
          none : AreWithin script before []
          none k = let w = within k in omega (arith, w)

  seated : mid.driver.made ≡ old.driver.made → (told : Told) → HasPlayed hall r.lines olds mids told → AreSeated hall script mid.driver mids
  seated made told p = record {
    driver_of = may.driver;
    own = p.own;
    each = p.as_many ∙ h.seated.each;
    made = made ∙ h.seated.made;
  }

  few_openings : length h.done.spells ≤ n
  few_openings = omega (arith, few_spells before h.done.spells h.done.slot_rounds_are, long)

  -- the driver found no room
  pub driver_filled : (told : Told) → HasPlayed hall r.lines olds mids told → HasMetFull hall old.driver mid.driver → IsFilled hall script most mid.driver mids
  driver_filled told p full = record {
    hall_is = h.hall_is;
    seated = seated full.made told p;
    few = few told p;
    spells = h.done.spells;
    openings = others_open_none most old.driver.journal mid.driver.journal h.done.spells full.others h.done.openings;
    none = omega (arith, few_found h.done.spells, few_openings, lt);
    full = inl full.limit;
  }

  -- a client found no room
  pub client_filled : (told : Told) (some : Bool) (entries : ℕ) → HasPlayed hall r.lines olds mids told →
      GoesOn hall most r.runs old mid (Ok some) → told ≡ Err (round.Full entries) →
      IsFilled hall script most mid.driver mids
  client_filled told some entries p on is =
      let driven = on.3 n in record {
        hall_is = h.hall_is;
        seated = seated on.1.made told p;
        few = few told p;
        spells = h.done.spells ++ driven.more;
        openings = driven.opened.openings h.done.spells h.done.openings;
        none = omega (
          arith,
          found_append h.done.spells driven.more,
          few_found h.done.spells,
          few_found driven.more,
          few_openings,
          one_spell r.runs n driven.more driven.as_asked,
          lt,
        );
        full = inr (full_met o r.lines olds mids entries (p.stopped (round.Full entries) is));
      }

  pub stop_filled : (told : Told) (opened : Result Bool Stop) → Settles (told, opened) (Err Full) → HasPlayed hall r.lines olds mids told →
      GoesOn hall most r.runs old mid opened → IsFilled hall script most mid.driver mids
  stop_filled told opened settles p on = ⊎_elim
      (λ is. driver_filled told p (subst (GoesOn hall most r.runs old mid) is on))
      (λ (some, is, stopped). client_filled told some stopped.0 p (subst (GoesOn hall most r.runs old mid) is on) stopped.1) settles

  -- the round is done
  module _ (new : RunnerModel) (news : List SessionModel) (more : Pulls) (some : Bool)
      (p : HasPlayed hall r.lines olds mids (Ok more)) (on : GoesOn hall most r.runs old mid (Ok some))
      (level : IsLevel mid.driver new.driver mids news) (rest : new ≡ record mid { driver = new.driver }) where
    done : AreRoundsDone most (length (lines_of script)) (take (n + 1) script.rounds) new.driver news (pulls ++ more.items)
    done =
        subst (λ l. AreRoundsDone most (length (lines_of script)) l new.driver news (pulls ++ more.items)) (sym next_is)
        (round_done o most (length (lines_of script)) before r old.driver mid.driver new.driver olds mids news pulls more.items h.done p.done
        (subst (λ k. HasDriven most k r.runs old.driver mid.driver) (sym long) (on.3 n)) level)

    journal_is : new.driver.journal ≡ mid.driver.journal
    journal_is = ap (λ (d : DriverModel). d.journal) level.driver_is

    may_now : MayRun hall new
    may_now = subst (MayRun hall) (sym (rest ∙ ap (λ d. record mid { driver = d }) level.driver_is)) (record {
      driver = may.driver;
      ports = may.ports;
      closed = may.closed;
      later = may.later;
    })

    pub next_going : IsGoing hall script most (n + 1) new news (pulls ++ more.items)
    next_going = record {
      hall_is = h.hall_is;
      seated = record {
        driver_of = may_now.driver;
        own = are_raised_of hall mids news level.raised p.own;
        each = raised_many mids news level.raised ∙ p.as_many ∙ h.seated.each;
        made = ap (λ (d : DriverModel). d.made) level.driver_is ∙ on.1.made ∙ h.seated.made;
      };
      drives = record {
        may = may_now;
        seen = subst (IsSeen o) (sym journal_is) on.2;
        calls = omega (
          arith,
          ap (λ (d : DriverModel). d.left) level.driver_is,
          ap (λ (l : List Entry). length (driver_entries l)) journal_is,
          on.0,
          h.drives.calls,
        );
        spells = done.spells;
        openings = done.openings;
        whole = subst (AllSentWhole o) (sym journal_is) (on.4 h.drives.whole);
      };
      done = done;
      coflows = All-append (InTable (length o.table.ids)) pulls more.items h.coflows
          (round_in_table o (length olds) r.lines olds mids more.items asks p.done);
    }
