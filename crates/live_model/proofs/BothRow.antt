-- The row of two clients in two rounds, computed.
use Rattle.std.proofs.Common.{◌≡◌, ℕ, ◌≤◌, ◌<◌, inl, inr, Bool, true, false, true≢false, List, [], ◌∷◌, map, refl}
use Rattle.std.proofs.Common.{arith, zero, suc, Option, Some, None}
use Rattle.std.specs.Prelude.{◌==◌, All, AllPairs, if◌then◌else◌}
use Rattle.std.specs.List.{filter}
use Rattle.std.specs.Option.{IfSome, IsSome}
use Rattle.std.proofs.lemmas.Bool.{cases_Bool, eqb-true, ne_eqb}
use Rattle.std.proofs.lemmas.List.Elements.{All-from_recursion, All-nil}
use Rattle.std.proofs.lemmas.List.Kept.{AllPairs-cons}
use Rattle.coflow_units.specs.Flows.{coflow_of}
use Rattle.coflow_units.specs.Rows.{two_flows}
use Rattle.journal.specs.Chosen.{the_grants, the_ordering}
use Rattle.journal.specs.declared.command.Entry.{Entry}
use Rattle.journal.specs.declared.command.Reply.TheVariants.{NothingLeft}
use Rattle.journal.specs.State.{is_present, owed}
use Rattle.journal.specs.Answer.{in_range as is_in_range}
use Rattle.journal.specs.Fold.{state_of}
use Rattle.journal.specs.Journal.{IsLegal, version_of}
use Rattle.journal.specs.Rows.{two}
use Rattle.journal.specs.Sound.{InRange}
use Rattle.journal.specs.Closed.{wire_of}
use Rattle.workload.specs.declared.script.Asked.TheVariants.{Publish, Pull}
use Rattle.workload.specs.declared.script.ScriptLine.{ScriptLine}
use Rattle.live_model.specs.Script.{is_pull, lines_of}
use Rattle.live_model.specs.Deeds.{asked_by, asked_in, Deed, DoesScript, ForLaterLines, ForLaterRounds, HasEntry}
use Rattle.live_model.specs.Deeds.{IsPull, IsTwoAbove, numbered, version_after}
use Rattle.live_model.specs.Pulls.{IsMadeFor, TellVersions}
use Rattle.live_model.specs.Rounds.{Drives, Driving, end_of, FitsAnswer, KeepRounds, Spell, spells_of}
use Rattle.live_model.specs.Printed.{TellsRun}
use Rattle.live_model.specs.Rows.{Both, both, both_journal, both_live, line, on_first}
use Rattle.live_model.proofs.Given.{journal_is_sent, legal_is_granted}
use Rattle.live_model.proofs.Courses.{across, of_clients, of_two}
use Rattle.journal.proofs.Replies.{no_way as no}

abbrev deed : ℕ → ScriptLine → Option ℕ → ℕ → Deed
deed round x position version = record { round = round; line = x; position = position; version = version }

abbrev published : Deed
published = deed 0 (line 1 1 Publish) (Some 1) 1

abbrev pulled : Deed
pulled = deed 1 (line 3 2 (Pull 0)) None 1

abbrev first : List Deed
first = published ∷ []

abbrev second : List Deed
second = pulled ∷ []

abbrev deeds : ℕ → List Deed
deeds = of_two first second

abbrev spells : Driving
spells = record {
  beside = record { round = 0; opened = 2; answer = NothingLeft; closed = None } ∷ [];
  later = [];
  last = record { round = 2; opened = 3; answer = NothingLeft; closed = None };
}

legal : IsLegal (two 16) both_journal
unfolding the_ordering the_grants
legal = (refl, refl, (refl, refl, (refl, refl, tt)))

in_range : InRange (two 16) both_journal
in_range = All-from_recursion (λ (e : Entry). is_in_range (two 16) e.command ≡ true) both_journal (refl, (refl, (refl, tt)))

none_owed : (f : ℕ) → f < 2 → is_present (state_of (two 16) both_journal) (coflow_of two_flows f) ≡ true → owed (two 16) (state_of (two 16) both_journal) f ≡ 0
unfolding the_ordering the_grants
none_owed zero lt p = no p
none_owed (suc zero) lt p = no p
none_owed (suc (suc n)) lt p = absurd (omega (arith, lt))

lines_if : (a b : Bool) → (a ≡ true → b ≡ true → ⊥) → map (λ (d : Deed). (d.round, d.line)) (if a then first else (if b then second else [])) ≡
    filter (λ x. if x.1.client == 1 then a else b) (lines_of both)
lines_if true true e = absurd (e refl refl)
lines_if true false e = refl
lines_if false true e = refl
lines_if false false e = refl

apart : (client : ℕ) → (1 == client) ≡ true → (2 == client) ≡ true → ⊥
apart client e e' = omega (arith, eqb-true 1 client e, eqb-true 2 client e')

entries_if : (a b z : Bool) → (a ≡ true → b ≡ true → ⊥) → z ≡ false →
    map (λ (x : ℕ × Entry). (x.0, x.1.command)) (filter (λ x. if x.1.who == 1 then a else z) (numbered both_journal)) ≡ asked_in (if a then first else (if b then second else []))
entries_if a b true one e = absurd (true≢false e)
entries_if true true false one e = refl
entries_if true false false one e = refl
entries_if false true false one e = refl
entries_if false false false one e = refl

entries : (client : ℕ) → 1 ≤ client → asked_by both_journal client ≡ asked_in (deeds client)
entries client some = entries_if (1 == client) (2 == client) (0 == client) (apart client) (ne_eqb 0 client (λ e. omega (arith, some, e)))

-- a fact of each deed
each : (P : Deed → Type 0) → P published → P pulled → (client : ℕ) → All P (deeds client)
each P x y = of_clients (All P) first second (All-from_recursion P first (x, tt)) (All-from_recursion P second (y, tt)) (All-nil P)

no_pairs : (R : Deed → Deed → Type 0) → AllPairs R []
no_pairs R i j d lt lj = absurd (omega (arith, lj))

-- each client has one line
alone_each : (R : Deed → Deed → Type 0) → ForLaterLines deeds R
alone_each R = of_clients (AllPairs R) first second
    (AllPairs-cons R published [] (All-nil (R published)) (no_pairs R)) (AllPairs-cons R pulled [] (All-nil (R pulled)) (no_pairs R)) (no_pairs R)

-- only the pull is later than the publishing
after_it : (R : Deed → Deed → Type 0) → R published pulled → ForLaterRounds deeds R
after_it R h = across R first second
    (pair published published (λ less. absurd (omega (arith, less)))) (pair published pulled (λ less. h))
    (pair pulled published (λ less. absurd (omega (arith, less)))) (pair pulled pulled (λ less. absurd (omega (arith, less))))
  where
    pair : (a b : Deed) → (a.round < b.round → R a b) → All (λ (x : Deed). All (λ (y : Deed). x.round < y.round → R x y) (b ∷ [])) (a ∷ [])
    pair a b h = All-from_recursion (λ (x : Deed). All (λ (y : Deed). x.round < y.round → R x y) (b ∷ [])) (a ∷ [])
        (All-from_recursion (λ (y : Deed). a.round < y.round → R a y) (b ∷ []) (h, tt), tt)

clients : DoesScript both both_journal deeds
clients = record {
  lines = λ client. lines_if (1 == client) (2 == client) (apart client);
  entries = entries;
  commands = each (λ d. is_pull d.line.asked ≡ false → HasEntry d) (λ e. refl) (λ e. absurd (true≢false e));
  versions = each (λ d. IfSome d.position (λ p. d.version ≡ version_after both_journal p)) refl tt;
  moved = record {
    first = each (λ d. IsPull d → HasEntry d → 2 ≤ d.version) (λ p. no p) (λ p h. no h);
    lines = alone_each IsTwoAbove;
    rounds = after_it (λ a b. HasEntry a → IsTwoAbove a b) (λ x p h. no h);
  };
}

pulls : TellVersions both_journal deeds
pulls = record {
  known = each (λ d. d.version ≤ version_of both_journal) (omega arith) (omega arith);
  never_fall = alone_each (λ a b. a.version ≤ b.version);
  seen = after_it (λ a b. HasEntry a → IsPull b → a.version ≤ b.version) (λ h p. omega arith);
  made_for_lines = alone_each (IsMadeFor both_journal);
  made_for_rounds = after_it (IsMadeFor both_journal) (λ p. no p);
}

wires : (port : ℕ) → on_first [] port ≡ wire_of (two 16) both_journal port
unfolding the_ordering the_grants
wires port = elim (cases_Bool (0 == port)) [
  | inl e ↦ (rw e refl)
  | inr e ↦ (rw e refl)
]

driver : Drives both 4 both_journal spells
driver = record {
  entries = refl;
  answers = All-from_recursion (λ (s : Spell). FitsAnswer s.answer s.closed) (spells_of spells) (refl, (refl, tt));
  slot_rounds_are = refl;
  after_last = All-from_recursion (λ (s : Spell). s.round ≡ 2) (spells.last ∷ []) (refl, tt);
  later_run = All-nil (λ (s : Spell). IsSome s.closed);
  last_is = refl;
}

abbrev Opens : Deed → Spell → Type 0
Opens d s = d.round < s.round → IfSome d.position (λ p. p < s.opened)

abbrev Closes : Deed → Spell → Type 0
Closes d s = s.round < d.round → IfSome d.position (λ p. end_of s < p)

rounds : KeepRounds deeds spells
rounds = record {
  clients = after_it (λ a b. IfSome a.position (λ p. IfSome b.position (λ q. p < q))) tt;
  opened = each (λ d. All (Opens d) (spells_of spells))
      (All-from_recursion (Opens published) (spells_of spells) ((λ h. omega arith), ((λ h. omega arith), tt)))
      (All-from_recursion (Opens pulled) (spells_of spells) ((λ h. tt), ((λ h. tt), tt)));
  closed = each (λ d. All (Closes d) (spells_of spells))
      (All-from_recursion (Closes published) (spells_of spells) ((λ h. absurd (omega (arith, h))), ((λ h. absurd (omega (arith, h))), tt)))
      (All-from_recursion (Closes pulled) (spells_of spells) ((λ h. tt), ((λ h. tt), tt)));
}

printed : TellsRun (two 16) both both_journal deeds (both_live 1)
unfolding the_ordering the_grants
printed = record {
  entries = refl;
  orders = refl;
  pulls = refl;
  runs = record { same = refl; lengths = All-nil (λ (r : ℕ × List ℕ). 1 ≤ r.0); maximal = λ k r lt. absurd (omega (arith, lt)) };
}

pub both_holds : Both
both_holds = record {
  course = record { deeds = deeds; driving = spells };
  carried = record {
    work = record { limit = refl; legal = legal; sent = none_owed };
    clients = clients;
    pulls = pulls;
    granted = legal_is_granted (two 16) both_journal legal;
    sent = journal_is_sent (two 16) both_journal (on_first []) legal in_range wires;
    driver = driver;
    rounds = rounds;
  };
  told = printed;
}
