-- The row of one client, computed.
use Rattle.std.proofs.Common.{◌≡◌, ℕ, ◌+◌, ◌≤◌, ◌<◌, inl, inr, Bool, true, false, true≢false, List, [], ◌∷◌, map, refl}
use Rattle.std.proofs.Common.{ap, arith, zero, suc, Option, Some, None}
use Rattle.std.specs.Prelude.{◌==◌, All, AllPairs, if◌then◌else◌}
use Rattle.std.specs.List.{filter, slice_index_or}
use Rattle.std.specs.Option.{IfSome, IsSome}
use Rattle.std.proofs.lemmas.Option.{IfSome_then}
use Rattle.std.proofs.lemmas.Bool.{cases_Bool, ne_eqb}
use Rattle.std.proofs.lemmas.List.Elements.{All-from_recursion, All-nil}
use Rattle.std.proofs.lemmas.List.Kept.{AllPairs-cons}
use Rattle.coflow_units.specs.Flows.{coflow_of}
use Rattle.coflow_units.specs.Rows.{two_flows}
use Rattle.journal.specs.Chosen.{the_grants, the_ordering}
use Rattle.journal.specs.declared.command.Entry.{Entry}
use Rattle.journal.specs.declared.command.Reply.TheVariants.{Opened, Closed, NothingLeft}
use Rattle.journal.specs.State.{is_present, owed}
use Rattle.journal.specs.Answer.{in_range as is_in_range}
use Rattle.journal.specs.Fold.{state_of}
use Rattle.journal.specs.Journal.{IsLegal, version_of}
use Rattle.journal.specs.Rows.{two}
use Rattle.journal.specs.Sound.{InRange}
use Rattle.journal.specs.Closed.{wire_of}
use Rattle.workload.specs.declared.script.Asked.TheVariants.{Register, Publish, Pull}
use Rattle.workload.specs.declared.script.ScriptLine.{ScriptLine}
use Rattle.live_model.specs.Script.{is_pull, lines_of}
use Rattle.live_model.specs.Deeds.{asked_by, asked_in, Deed, DoesScript, ForLaterRounds, HasEntry, IsPull, IsTwoAbove}
use Rattle.live_model.specs.Deeds.{numbered, version_after}
use Rattle.live_model.specs.Pulls.{IsMadeFor, TellVersions}
use Rattle.live_model.specs.Sent.{EndsWork}
use Rattle.live_model.specs.Rounds.{Drives, Driving, end_of, FitsAnswer, KeepRounds, Spell, spells_of}
use Rattle.live_model.specs.Printed.{TellsRun, run_of}
use Rattle.live_model.specs.Clause.{Course}
use Rattle.live_model.specs.Rows.{Alone, alone, alone_journal, alone_live, line, on_first}
use Rattle.live_model.proofs.Given.{journal_is_sent, legal_is_granted}
use Rattle.live_model.proofs.Courses.{across, NoneMoved, none_above, none_across, none_first, of_clients, of_two}
use Rattle.journal.proofs.Replies.{no_way as no}
use Rattle.live_model.proofs.Courses.{same_round}

abbrev deed : ℕ → ScriptLine → Option ℕ → ℕ → Deed
deed round x position version = record { round = round; line = x; position = position; version = version }

abbrev deeds : List Deed
deeds =
    deed 0 (line 1 1 (Register 0)) (Some 1) 0 ∷ deed 0 (line 2 1 (Register 1)) (Some 2) 0 ∷ deed 0 (line 3 1 Publish) (Some 3) 1
    ∷ deed 0 (line 4 1 (Pull 1)) None 1 ∷ []

abbrev spells : Driving
spells = record {
  beside = [];
  later = record { round = 1; opened = 4; answer = Opened 1 1 1; closed = Some (5, Closed 1) }
      ∷ record { round = 1; opened = 6; answer = Opened 2 3 1; closed = Some (7, Closed 2) } ∷ [];
  last = record { round = 1; opened = 8; answer = NothingLeft; closed = None };
}

abbrev course : Course
course = record { deeds = of_two deeds []; driving = spells }

legal : IsLegal (two 16) alone_journal
unfolding the_ordering the_grants
legal = (refl, refl, (refl, refl, (refl, refl, (refl, refl, (refl, refl, (refl, refl, (refl, refl, (refl, refl, tt))))))))

in_range : InRange (two 16) alone_journal
in_range = All-from_recursion (λ (e : Entry). is_in_range (two 16) e.command ≡ true) alone_journal (refl, (refl, (refl, (refl, (refl, (refl, (refl, (refl, tt))))))))

none_owed : (f : ℕ) → f < 2 → is_present (state_of (two 16) alone_journal) (coflow_of two_flows f) ≡ true → owed (two 16) (state_of (two 16) alone_journal) f ≡ 0
unfolding the_ordering the_grants
none_owed zero lt p = refl
none_owed (suc zero) lt p = refl
none_owed (suc (suc n)) lt p = absurd (omega (arith, lt))

work : EndsWork (two 16) alone alone_journal
work = record { limit = refl; legal = legal; sent = none_owed }

lines_if : (a b : Bool) → map (λ (d : Deed). (d.round, d.line)) (if a then deeds else (if b then [] else [])) ≡ filter (λ x. a) (lines_of alone)
lines_if true b = refl
lines_if false true = refl
lines_if false false = refl

entries_if : (a b z : Bool) → z ≡ false →
    map (λ (x : ℕ × Entry). (x.0, x.1.command)) (filter (λ x. if x.1.who == 1 then a else z) (numbered alone_journal)) ≡ asked_in (if a then deeds else (if b then [] else []))
entries_if a b true e = absurd (true≢false e)
entries_if true b false e = refl
entries_if false true false e = refl
entries_if false false false e = refl

entries : (client : ℕ) → 1 ≤ client → asked_by alone_journal client ≡ asked_in (of_two deeds [] client)
entries client some = entries_if (1 == client) (2 == client) (0 == client) (ne_eqb 0 client (λ e. omega (arith, some, e)))

none_moved : NoneMoved deeds
none_moved = record { none = All-from_recursion (λ (d : Deed). IsPull d → HasEntry d → ⊥) deeds ((λ p h. no p), ((λ p h. no p), ((λ p h. no p), ((λ p h. no h), tt)))) }

nobody : NoneMoved []
nobody = record { none = All-nil (λ (d : Deed). IsPull d → HasEntry d → ⊥) }

clients : DoesScript alone alone_journal (of_two deeds [])
clients = record {
  lines = λ client. lines_if (1 == client) (2 == client);
  entries = entries;
  commands = of_clients (λ l. All (λ d. is_pull d.line.asked ≡ false → HasEntry d) l) deeds []
      (All-from_recursion (λ (d : Deed). is_pull d.line.asked ≡ false → HasEntry d) deeds ((λ e. refl), ((λ e. refl), ((λ e. refl), ((λ e. absurd (true≢false e)), tt)))))
      (All-nil (λ (d : Deed). is_pull d.line.asked ≡ false → HasEntry d)) (All-nil (λ (d : Deed). is_pull d.line.asked ≡ false → HasEntry d));
  versions = of_clients (λ l. All (λ d. IfSome d.position (λ p. d.version ≡ version_after alone_journal p)) l) deeds []
      (All-from_recursion (λ (d : Deed). IfSome d.position (λ p. d.version ≡ version_after alone_journal p)) deeds (refl, (refl, (refl, (tt, tt)))))
      (All-nil (λ (d : Deed). IfSome d.position (λ p. d.version ≡ version_after alone_journal p)))
      (All-nil (λ (d : Deed). IfSome d.position (λ p. d.version ≡ version_after alone_journal p)));
  moved = record {
    first = of_clients (λ l. All (λ d. IsPull d → HasEntry d → 2 ≤ d.version) l) deeds [] (none_first deeds none_moved)
        (All-nil (λ (d : Deed). IsPull d → HasEntry d → 2 ≤ d.version)) (All-nil (λ (d : Deed). IsPull d → HasEntry d → 2 ≤ d.version));
    lines = of_clients (λ l. AllPairs IsTwoAbove l) deeds [] (none_above deeds none_moved) (none_above [] nobody) (none_above [] nobody);
    rounds = none_across (of_two deeds []) (of_clients NoneMoved deeds [] none_moved nobody nobody);
  };
}

-- deeds of one round have no later rounds
in_one : (R : Deed → Deed → Type 0) → ForLaterRounds (of_two deeds []) R
in_one R =
    let low : All (λ (d : Deed). 0 ≤ d.round) deeds = λ k d lt. omega arith in
    let high : All (λ (d : Deed). d.round ≤ 0) deeds =
    All-from_recursion (λ (d : Deed). d.round ≤ 0) deeds (omega arith, (omega arith, (omega arith, (omega arith, tt)))) in
    let none : All (λ (d : Deed). d.round ≤ 0) [] = All-nil (λ (d : Deed). d.round ≤ 0) in
    let some : All (λ (d : Deed). 0 ≤ d.round) [] = All-nil (λ (d : Deed). 0 ≤ d.round) in
    across R deeds [] (same_round R deeds deeds 0 low high) (same_round R deeds [] 0 low none) (same_round R [] deeds 0 some high) (same_round R [] [] 0 some none)

no_pairs : (R : Deed → Deed → Type 0) → AllPairs R []
no_pairs R i j d lt lj = absurd (omega (arith, lj))

abbrev Rises : Deed → Deed → Type 0
Rises a b = a.version ≤ b.version

pairs : (R : Deed → Deed → Type 0) (a b c d : Deed) → R a b → R a c → R a d → R b c → R b d → R c d → AllPairs R (a ∷ b ∷ c ∷ d ∷ [])
pairs R a b c d ab ac ad bc bd cd =
    AllPairs-cons R a (b ∷ c ∷ d ∷ []) (All-from_recursion (R a) (b ∷ c ∷ d ∷ []) (ab, (ac, (ad, tt))))
    (AllPairs-cons R b (c ∷ d ∷ []) (All-from_recursion (R b) (c ∷ d ∷ []) (bc, (bd, tt)))
    (AllPairs-cons R c (d ∷ []) (All-from_recursion (R c) (d ∷ []) (cd, tt)) (AllPairs-cons R d [] (All-nil (R d)) (no_pairs R))))

abbrev first : Deed
first = deed 0 (line 1 1 (Register 0)) (Some 1) 0

abbrev second : Deed
second = deed 0 (line 2 1 (Register 1)) (Some 2) 0

abbrev third : Deed
third = deed 0 (line 3 1 Publish) (Some 3) 1

abbrev fourth : Deed
fourth = deed 0 (line 4 1 (Pull 1)) None 1

rise : AllPairs Rises deeds
rise = pairs Rises first second third fourth (omega arith) (omega arith) (omega arith) (omega arith) (omega arith) (omega arith)

made : AllPairs (IsMadeFor alone_journal) deeds
made = pairs (IsMadeFor alone_journal) first second third fourth (λ p. no p) (λ p. no p) (λ p. no p) (λ p. no p) (λ p. no p) (λ p. no p)

pulls : TellVersions alone_journal (of_two deeds [])
pulls = record {
  known = of_clients (λ l. All (λ d. d.version ≤ version_of alone_journal) l) deeds []
      (All-from_recursion (λ (d : Deed). d.version ≤ version_of alone_journal) deeds (omega arith, (omega arith, (omega arith, (omega arith, tt)))))
      (All-nil (λ (d : Deed). d.version ≤ version_of alone_journal)) (All-nil (λ (d : Deed). d.version ≤ version_of alone_journal));
  never_fall = of_clients (λ l. AllPairs Rises l) deeds [] rise (no_pairs Rises) (no_pairs Rises);
  seen = in_one (λ a b. HasEntry a → IsPull b → a.version ≤ b.version);
  made_for_lines = of_clients (λ l. AllPairs (IsMadeFor alone_journal) l) deeds [] made (no_pairs (IsMadeFor alone_journal)) (no_pairs (IsMadeFor alone_journal));
  made_for_rounds = in_one (IsMadeFor alone_journal);
}

wires : (port : ℕ) → on_first ((1, 1, 1) ∷ (2, 0, 3) ∷ []) port ≡ wire_of (two 16) alone_journal port
unfolding the_ordering the_grants
wires port = elim (cases_Bool (0 == port)) [
  | inl e ↦ (rw e refl)
  | inr e ↦ (rw e refl)
]

driver : Drives alone 4 alone_journal spells
driver = record {
  entries = refl;
  answers = All-from_recursion (λ (s : Spell). FitsAnswer s.answer s.closed) (spells_of spells) ((1, 1, 1, refl, refl), ((2, 3, 1, refl, refl), (refl, tt)));
  slot_rounds_are = refl;
  after_last = All-from_recursion (λ (s : Spell). s.round ≡ 1) (spells_of spells) (refl, (refl, (refl, tt)));
  later_run = All-from_recursion (λ (s : Spell). IsSome s.closed) spells.later (refl, (refl, tt));
  last_is = refl;
}

abbrev Opens : Deed → Spell → Type 0
Opens d s = d.round < s.round → IfSome d.position (λ p. p < s.opened)

abbrev Closes : Deed → Spell → Type 0
Closes d s = s.round < d.round → IfSome d.position (λ p. end_of s < p)

opens : (d : Deed) → IfSome d.position (λ p. p < 4) → All (Opens d) (spells_of spells)
opens d le = All-from_recursion (Opens d) (spells_of spells) (
  (λ h. le),
  ((λ h. IfSome_then d.position le (λ p x. omega (arith, x))), ((λ h. IfSome_then d.position le (λ p x. omega (arith, x))), tt)),
)

closes : (d : Deed) → d.round ≡ 0 → All (Closes d) (spells_of spells)
closes d e = All-from_recursion (Closes d) (spells_of spells) (
  (λ h. absurd (omega (arith, h, e))),
  ((λ h. absurd (omega (arith, h, e))), ((λ h. absurd (omega (arith, h, e))), tt)),
)

abbrev IsOpen : List Deed → Type 0
IsOpen l = All (λ d. All (Opens d) (spells_of spells)) l

abbrev IsClosed : List Deed → Type 0
IsClosed l = All (λ d. All (Closes d) (spells_of spells)) l

rounds : KeepRounds (of_two deeds []) spells
rounds = record {
  clients = in_one (λ a b. IfSome a.position (λ p. IfSome b.position (λ q. p < q)));
  opened = of_clients IsOpen deeds []
      (All-from_recursion (λ d. All (Opens d) (spells_of spells)) deeds
      (opens first (omega arith), (opens second (omega arith), (opens third (omega arith), (opens fourth tt, tt)))))
      (All-nil (λ d. All (Opens d) (spells_of spells))) (All-nil (λ d. All (Opens d) (spells_of spells)));
  closed = of_clients IsClosed deeds []
      (All-from_recursion (λ d. All (Closes d) (spells_of spells)) deeds
      (closes first refl, (closes second refl, (closes third refl, (closes fourth refl, tt)))))
      (All-nil (λ d. All (Closes d) (spells_of spells))) (All-nil (λ d. All (Closes d) (spells_of spells)));
}

maximal : (k : ℕ) (r : ℕ × List ℕ) → k + 1 < 2 → (slice_index_or (map run_of alone_live.runs) k r).1 ≡ (slice_index_or (map run_of alone_live.runs) (k + 1) r).1 → ⊥
maximal zero r lt e = omega (arith, ap (λ (xs : List ℕ). slice_index_or xs 0 0) e)
maximal (suc k) r lt e = omega (arith, lt)

printed : TellsRun (two 16) alone alone_journal (of_two deeds []) alone_live
unfolding the_ordering the_grants
printed = record {
  entries = refl;
  orders = refl;
  pulls = refl;
  runs = record { same = refl; lengths = All-from_recursion (λ (r : ℕ × List ℕ). 1 ≤ r.0) (map run_of alone_live.runs) (omega arith, (omega arith, tt)); maximal = maximal };
}

pub alone_holds : Alone
alone_holds = record {
  course = course;
  carried = record {
    work = work;
    clients = clients;
    pulls = pulls;
    granted = legal_is_granted (two 16) alone_journal legal;
    sent = journal_is_sent (two 16) alone_journal (on_first ((1, 1, 1) ∷ (2, 0, 3) ∷ [])) legal in_range wires;
    driver = driver;
    rounds = rounds;
  };
  told = printed;
}
