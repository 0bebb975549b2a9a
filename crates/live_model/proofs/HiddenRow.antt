-- The row of a pull that has an entry. Its facts come from sessions and levels, so these can be met.
use Rattle.std.proofs.Common.{◌≡◌, ◌≢◌, ℕ, ◌≤◌, ◌<◌, inl, inr, Bool, true, false, true≢false, List, [], ◌∷◌, refl}
use Rattle.std.proofs.Common.{arith, zero, suc, Some, None}
use Rattle.std.specs.Prelude.{◌==◌, All, AllPairs, if◌then◌else◌}
use Rattle.std.specs.List.{filter}
use Rattle.std.specs.Option.{IsSome}
use Rattle.std.proofs.lemmas.Bool.{cases_Bool, eq-eqb, eqb-true}
use Rattle.std.proofs.lemmas.List.Elements.{All-from_recursion, All-nil}
use Rattle.std.proofs.lemmas.List.Kept.{AllPairs-cons}
use Rattle.coflow_units.specs.Flows.{coflow_of}
use Rattle.coflow_units.specs.Rows.{two_flows}
use Rattle.journal.specs.Chosen.{the_grants, the_ordering}
use Rattle.journal.specs.declared.command.Entry.{Entry}
use Rattle.journal.specs.declared.command.Reply.TheVariants.{NothingLeft}
use Rattle.journal.specs.State.{is_present, owed}
use Rattle.journal.specs.Answer.{in_range as is_in_range}
use Rattle.journal.specs.Fold.{state_of}
use Rattle.journal.specs.Journal.{IsLegal, version_of}
use Rattle.journal.specs.Rows.{two}
use Rattle.journal.specs.Sound.{InRange}
use Rattle.journal.specs.Closed.{wire_of}
use Rattle.workload.specs.declared.script.Asked.TheVariants.{Publish, Pull}
use Rattle.workload.specs.declared.script.ScriptLine.{ScriptLine}
use Rattle.live_model.specs.Script.{is_pull, lines_of}
use Rattle.live_model.specs.Deeds.{Deeds, Deed}
use Rattle.live_model.specs.Deeds.{HasEntry}
use Rattle.live_model.specs.Deeds.{IsPull}
use Rattle.live_model.specs.Rounds.{Drives, Driving, FitsAnswer, Spell, spells_of}
use Rattle.live_model.specs.Printed.{TellsRun}
use Rattle.live_model.specs.Rows.{Hidden, hidden, hidden_journal, hidden_live, line, on_first}
use Rattle.live_model.proofs.Given.{journal_is_sent, legal_is_granted}
use Rattle.journal.proofs.Replies.{no_way as no}
use Rattle.live_model.proofs.Courses.{of_clients, of_two}
use Rattle.std.proofs.Common.{min, subst, sym, ◌∙◌, ◌*◌}
use Rattle.client_session.proofs.OwnSteps.{own_above}
use Rattle.journal.specs.declared.command.Command.{Command}
use Rattle.journal.specs.declared.command.Command.TheVariants as K
use Rattle.journal.specs.declared.command.Reply.{Reply}
use Rattle.journal.specs.declared.command.Reply.TheVariants as R
use Rattle.live_model.specs.Levels.{AreLevelled, AreSessions, IsBetween, IsSession, IsSpellBetween, IsSteady, Levels}
use Rattle.client_session.specs.Own.{OwnEntry}
use Rattle.live_model.proofs.LevelSteps.{levels_keep_rounds}
use Rattle.live_model.proofs.Translated.{sessions_do_script, sessions_tell_versions}

abbrev deed : ScriptLine → ℕ → ℕ → Deed
deed x position version = record { round = 0; line = x; position = Some position; version = version }

abbrev pulled : Deed
pulled = deed (line 1 1 (Pull 0)) 3 2

abbrev first : Deed
first = deed (line 2 2 Publish) 1 1

abbrev second : Deed
second = deed (line 3 2 Publish) 2 2

abbrev deeds : Deeds
deeds = of_two (pulled ∷ []) (first ∷ second ∷ [])

abbrev own : ℕ → ℕ → Command → Reply → OwnEntry
own position version k reply = record { position = position; version = version; command = k; reply = reply }

abbrev owns : ℕ → List OwnEntry
owns client =
    if 1 == client then own 3 2 (K.Pull 0) (R.Unranked 2) ∷ []
    else (if 2 == client then own 1 1 K.Publish (R.Version 1) ∷ own 2 2 K.Publish (R.Version 2) ∷ [] else [])

abbrev levels : Levels
levels = record { position = λ n. min (3 * n) 4; version = λ n. min (2 * n) 2 }

abbrev spells : Driving
spells = record { beside = []; later = []; last = record { round = 1; opened = 4; answer = NothingLeft; closed = None } }

legal : IsLegal (two 15) hidden_journal
unfolding the_ordering the_grants
legal = (refl, refl, (refl, refl, (refl, refl, (refl, refl, tt))))

in_range : InRange (two 15) hidden_journal
in_range =
    All-from_recursion (λ (e : Entry). is_in_range (two 15) e.command ≡ true) hidden_journal (refl, (refl, (refl, (refl, tt))))

none_owed : (f : ℕ) → f < 2 → is_present (state_of (two 15) hidden_journal) (coflow_of two_flows f) ≡ true →
    owed (two 15) (state_of (two 15) hidden_journal) f ≡ 0
unfolding the_ordering the_grants
none_owed zero lt p = no p
none_owed (suc zero) lt p = no p
none_owed (suc (suc n)) lt p = absurd (omega (arith, lt))

-- ---- sessions

abbrev HasCommand : Deed → Type 0
HasCommand d = is_pull d.line.asked ≡ false → HasEntry d

abbrev IsKnown : Deed → Type 0
IsKnown d = d.version ≤ version_of hidden_journal

abbrev IsFirst : Deed → Type 0
IsFirst d = IsPull d → HasEntry d → 2 ≤ d.version

no_pairs : (R : Deed → Deed → Type 0) → AllPairs R []
no_pairs R i j d lt lj = absurd (omega (arith, lj))

one_line : (R : Deed → Deed → Type 0) (d : Deed) → AllPairs R (d ∷ [])
one_line R d = AllPairs-cons R d [] (All-nil (R d)) (no_pairs R)

puller : IsSession hidden hidden_journal 1 (owns 1) (deeds 1)
puller = record {
  lines = refl;
  entries = refl;
  kept = refl;
  commands = All-from_recursion HasCommand (deeds 1) ((λ e. refl), tt);
  known = All-from_recursion IsKnown (deeds 1) (omega arith, tt);
  first = All-from_recursion IsFirst (deeds 1) ((λ p h. omega arith), tt);
  steady = one_line (IsSteady hidden_journal) pulled;
}

publisher : IsSession hidden hidden_journal 2 (owns 2) (deeds 2)
publisher = record {
  lines = refl;
  entries = refl;
  kept = refl;
  commands = All-from_recursion HasCommand (deeds 2) ((λ e. refl), ((λ e. refl), tt));
  known = All-from_recursion IsKnown (deeds 2) (omega arith, (omega arith, tt));
  first = All-from_recursion IsFirst (deeds 2) ((λ p. no p), ((λ p. no p), tt));
  steady = AllPairs-cons (IsSteady hidden_journal) first (second ∷ [])
      (All-from_recursion (IsSteady hidden_journal first) (second ∷ [])
      (record { never_fall = omega arith; made = omega arith; moved = λ p. no p }, tt))
      (one_line (IsSteady hidden_journal) second);
}

no_lines : (a b : Bool) → a ≡ false → b ≡ false → [] ≡ filter (λ x. if x.1.client == 1 then a else b) (lines_of hidden)
no_lines true b e e' = absurd (true≢false e)
no_lines false true e e' = absurd (true≢false e')
no_lines false false e e' = refl

unlike : (n client : ℕ) → (n == client) ≡ false → n ≢ client
unlike n client f e = true≢false (sym (eq-eqb n client e) ∙ f)

other : (client : ℕ) → 3 ≤ client → (1 == client) ≡ false → (2 == client) ≡ false → IsSession hidden hidden_journal client [] []
other client far a b = record {
  lines = no_lines (1 == client) (2 == client) a b;
  entries = sym (own_above client 2 hidden_journal far
      (All-from_recursion (λ (e : Entry). e.who ≤ 2) hidden_journal (omega arith, (omega arith, (omega arith, (omega arith, tt))))));
  kept = refl;
  commands = All-nil HasCommand;
  known = All-nil IsKnown;
  first = All-nil IsFirst;
  steady = no_pairs (IsSteady hidden_journal);
}

session : (client : ℕ) → 1 ≤ client → IsSession hidden hidden_journal client (owns client) (deeds client)
session client some = elim (cases_Bool (1 == client)) [
  | inl e ↦ subst (λ c. IsSession hidden hidden_journal c (owns c) (deeds c)) (eqb-true 1 client e) puller
  | inr a ↦ elim (cases_Bool (2 == client)) [
    | inl e ↦ subst (λ c. IsSession hidden hidden_journal c (owns c) (deeds c)) (eqb-true 2 client e) publisher
    | inr b ↦ rw (a, b) (other client (omega (arith, some, unlike 1 client a, unlike 2 client b)) a b)
  ]
]

sessions : AreSessions hidden hidden_journal owns deeds
sessions = record { session = session; nobody = refl; no_line = refl }

-- ---- levels

abbrev IsIn : Deed → Type 0
IsIn = IsBetween hidden_journal levels

pull_in : IsIn pulled
pull_in = record { above = omega arith; within = omega arith; seen = λ p. omega arith; shown = omega arith; made = omega arith; moved = λ p h. omega arith }

first_in : IsIn first
first_in = record { above = omega arith; within = omega arith; seen = λ p. omega arith; shown = omega arith; made = omega arith; moved = λ p. no p }

second_in : IsIn second
second_in = record { above = omega arith; within = omega arith; seen = λ p. omega arith; shown = omega arith; made = omega arith; moved = λ p. no p }

levelled : AreLevelled hidden_journal levels deeds spells
levelled = record {
  positions = λ n m le. omega (arith, le);
  versions = λ n m le. omega (arith, le);
  lines = of_clients (All IsIn) (pulled ∷ []) (first ∷ second ∷ []) (All-from_recursion IsIn (deeds 1) (pull_in, tt))
      (All-from_recursion IsIn (deeds 2) (first_in, (second_in, tt))) (All-nil IsIn);
  openings = All-from_recursion (IsSpellBetween levels) (spells_of spells) (record { above = omega arith; within = omega arith }, tt);
}

driver : Drives hidden 4 hidden_journal spells
driver = record {
  entries = refl;
  answers = All-from_recursion (λ (s : Spell). FitsAnswer s.answer s.closed) (spells_of spells) (refl, tt);
  slot_rounds_are = refl;
  after_last = All-from_recursion (λ (s : Spell). s.round ≡ 1) (spells.last ∷ []) (refl, tt);
  later_run = All-nil (λ (s : Spell). IsSome s.closed);
  last_is = refl;
}

wires : (port : ℕ) → on_first [] port ≡ wire_of (two 15) hidden_journal port
unfolding the_ordering the_grants
wires port = elim (cases_Bool (0 == port)) [
  | inl e ↦ (rw e refl)
  | inr e ↦ (rw e refl)
]

printed : TellsRun (two 15) hidden hidden_journal deeds hidden_live
unfolding the_ordering the_grants
printed = record {
  entries = refl;
  orders = refl;
  pulls = refl;
  runs = record { same = refl; lengths = All-nil (λ (r : ℕ × List ℕ). 1 ≤ r.0); maximal = λ k r lt. absurd (omega (arith, lt)) };
}

pub hidden_holds : Hidden
hidden_holds = record {
  course = record { deeds = deeds; driving = spells };
  carried = record {
    work = record { limit = refl; legal = legal; sent = none_owed };
    clients = sessions_do_script hidden hidden_journal owns levels deeds spells sessions levelled;
    pulls = sessions_tell_versions (two 15) hidden hidden_journal owns levels deeds spells legal sessions levelled;
    granted = legal_is_granted (two 15) hidden_journal legal;
    sent = journal_is_sent (two 15) hidden_journal (on_first []) legal in_range wires;
    driver = driver;
    rounds = levels_keep_rounds hidden_journal levels deeds spells levelled;
  };
  told = printed;
}
