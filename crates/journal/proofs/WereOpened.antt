-- The open run and the closed runs of a legal journal were opened by its entries.
use Rattle.std.proofs.Common.{◌≡◌, ℕ, ◌-◌, ◌<◌, Contains, List, [], ◌∷◌, ◌++◌, get_or, length, map, min, refl, sym, ap, subst, ◌∙◌, arith, append_assoc, append-nil, Option}
use Rattle.std.proofs.Common.{Some, None}
use Rattle.std.specs.Prelude.{All, nat_lt, option_to_list, ◌&&◌}
use Rattle.std.specs.List.{flat_map, range_with_len}
use Rattle.std.proofs.lemmas.Bool.{and_parts, ltb-true}
use Rattle.std.proofs.lemmas.List.{map-append}
use Rattle.std.proofs.lemmas.List.Concat.{flat_map-append}
use Rattle.std.proofs.lemmas.List.Elements.{All-append, All-push, Contains-get_or}
use Rattle.coflow_units.specs.Flows.{coflow_of}
use Rattle.coflow_units.specs.Grants.{IsGrants, IsRunLength}
use Rattle.coflow_units.proofs.Lists.{filter_in, number_below}
use Rattle.coflow_units.proofs.RunLengths.{some_grant}
use Rattle.coflow_units.proofs.Sums.{any_has}
use Rattle.journal.specs.declared.command.Command.{Command}
use Rattle.journal.specs.declared.command.Entry.{Entry}
use Rattle.journal.specs.declared.command.Reply.{Reply}
use Rattle.journal.specs.declared.command.Reply.TheVariants.{Opened, Noted, Closed}
use Rattle.journal.specs.declared.opening.Opening.{Opening}
use Rattle.journal.specs.State.{has, owed, Run, slot_end, State}
use Rattle.journal.specs.Line.{line, owing}
use Rattle.journal.specs.Runs.{granted}
use Rattle.journal.specs.Fold.{after, closed, noted_in, port_named, state_of}
use Rattle.journal.specs.Journal.{IsLegal}
use Rattle.journal.specs.Sound.{OnRun}
use Rattle.journal.specs.Closed.{closed_by, closed_runs, IsOpenedIn}
use Rattle.journal.specs.Counts.{opened_by, opening_of, openings}
use Rattle.journal.specs.Entries.{TellsEntry}
use Rattle.journal.proofs.Along.{along, IsNext}
use Rattle.journal.proofs.ClosedSteps.{closed_push}
use Rattle.journal.proofs.EntryTells.{entry_tells}
use Rattle.journal.proofs.Growth.{state_snoc}
use Rattle.journal.proofs.Instances.{are_the_grants}
use Rattle.journal.proofs.Opened.{run_length_is}

-- one entry more
abbrev pub more_entries : (o : Opening) (j : List Entry) (e : Entry) (r : Run) → IsOpenedIn o j r → IsOpenedIn o (j ++ e ∷ []) r
more_entries o j e r h = record {
  before = h.before;
  entry = h.entry;
  more = h.more ++ e ∷ [];
  most = h.most;
  stands = ap (λ (l : List Entry). l ++ e ∷ []) h.stands ∙ append_assoc h.before (h.entry ∷ h.more) (e ∷ []);
  command = h.command;
  reply = h.reply;
  first = h.first;
  grants = h.grants;
  longest = h.longest;
}

-- other notes
abbrev pub other_notes : (o : Opening) (j : List Entry) (r : Run) (notes : List (ℕ × ℕ)) → IsOpenedIn o j r → IsOpenedIn o j (record r { notes = notes })
other_notes o j r notes h = record {
  before = h.before;
  entry = h.entry;
  more = h.more;
  most = h.most;
  stands = h.stands;
  command = h.command;
  reply = h.reply;
  first = h.first;
  grants = h.grants;
  longest = h.longest;
}

-- the run that an entry opens
abbrev pub opened_here : (o : Opening) (j : List Entry) (e : Entry) (slot slots count : ℕ) → e.reply ≡ Opened slot slots count →
    TellsEntry o (state_of o j) e.command (Opened slot slots count) →
    IsOpenedIn o (j ++ e ∷ []) (record { first = slot; slots = slots; granted = granted o (state_of o j); notes = [] })
opened_here o j e slot slots count reply (most, asks, none, owes, at, len, counted, left) =
    let s = state_of o j in
    record {
      before = j;
      entry = e;
      more = [];
      most = most;
      stands = refl;
      command = asks;
      reply = reply ∙ ap (Opened slot slots) counted;
      first = at;
      grants = are_the_grants o.table.flows (line s) (owed o s);
      longest = subst (λ n. IsRunLength (owed o s) (granted o s) (min most (slot_end - n)) slots) (sym at)
          (subst (IsRunLength (owed o s) (granted o s) (min most (slot_end - s.next))) (sym len) (run_length_is o s most));
    }

run_later : (o : Opening) (j : List Entry) (e : Entry) (run : Option Run) → OnRun run (IsOpenedIn o j) → OnRun run (IsOpenedIn o (j ++ e ∷ []))
run_later o j e None h = tt
run_later o j e (Some r) h = more_entries o j e r h

run_noted : (o : Opening) (j : List Entry) (e : Entry) (port n : ℕ) (run : Option Run) → OnRun run (IsOpenedIn o j) → OnRun (noted_in run port n) (IsOpenedIn o (j ++ e ∷ []))
run_noted o j e port n None h = tt
run_noted o j e port n (Some r) h = other_notes o (j ++ e ∷ []) r ((port, n) ∷ r.notes) (more_entries o j e r h)

pub none_after : (o : Opening) (s : State) (run : Option Run) (P : Run → Type 0) → s.run ≡ run → OnRun (closed o s run).run P
none_after o s None P is = subst (λ x. OnRun x P) (sym is) tt
none_after o s (Some r) P is = tt

run_step : (o : Opening) (j : List Entry) (e : Entry) (reply : Reply) → e.reply ≡ reply → TellsEntry o (state_of o j) e.command reply → OnRun (state_of o j).run (IsOpenedIn o j) →
    OnRun (after o (state_of o j) e.command reply).run (IsOpenedIn o (j ++ e ∷ []))
run_step o j e (Opened slot slots count) is tells h = opened_here o j e slot slots count is tells
run_step o j e (Noted n) is tells h = run_noted o j e (port_named e.command) n (state_of o j).run h
run_step o j e (Closed slot) is tells h = none_after o (state_of o j) (state_of o j).run (IsOpenedIn o (j ++ e ∷ [])) refl
run_step o j e reply is tells h = run_later o j e (state_of o j).run h

of_run : (P : Run → Type 0) (run : Option Run) → OnRun run P → All P (option_to_list run)
of_run P None h = λ k d lt. absurd (omega arith)
of_run P (Some r) h = All-push P [] r (λ k d lt. absurd (omega arith)) h

of_reply : (P : Run → Type 0) (reply : Reply) (run : Option Run) → OnRun run P → All P (closed_by reply run)
of_reply P (Closed slot) run h = of_run P run h
of_reply P reply run h = λ k d lt. absurd (omega arith)

-- the open run and the closed runs were opened
pub were_opened : (o : Opening) (journal : List Entry) → IsLegal o journal →
    OnRun (state_of o journal).run (IsOpenedIn o journal) × All (IsOpenedIn o journal) (closed_runs o journal)
were_opened o journal legal =
    along o (λ j. OnRun (state_of o j).run (IsOpenedIn o j) × All (IsOpenedIn o j) (closed_runs o j))
    (λ j e next h.
    let P = IsOpenedIn o (j ++ e ∷ []) in (
      subst (λ (s : State). OnRun s.run P) (sym (state_snoc o j e)) (run_step o j e e.reply refl next.tells h.0),
      subst (All P) (sym (closed_push o j e))
          (All-append P (closed_runs o j) (closed_by e.reply (state_of o j).run) (λ k d lt. more_entries o j e (get_or (closed_runs o j) k d) (h.1 k d lt))
          (of_reply P e.reply (state_of o j).run (run_later o j e (state_of o j).run h.0))),
    )) (tt, λ k d lt. absurd (omega arith)) journal legal

pub open_was_opened : (o : Opening) (journal : List Entry) (r : Run) → IsLegal o journal → (state_of o journal).run ≡ Some r → IsOpenedIn o journal r
open_was_opened o journal r legal is = subst (λ x. OnRun x (IsOpenedIn o journal)) is (were_opened o journal legal).0

-- ---- each has its own entry

abbrev told_run : Option Run → List (ℕ × ℕ × ℕ)
told_run run = map opening_of (option_to_list run)

told_noted : (run : Option Run) (port n : ℕ) → told_run (noted_in run port n) ≡ told_run run ++ []
told_noted None port n = refl
told_noted (Some r) port n = refl

told_closed : (o : Opening) (s : State) (run : Option Run) → s.run ≡ run → told_run (closed o s run).run ≡ []
told_closed o s None is = ap told_run is
told_closed o s (Some r) is = refl

told_step : (o : Opening) (s : State) (k : Command) (reply : Reply) → TellsEntry o s k reply →
    map opening_of (closed_by reply s.run) ++ told_run (after o s k reply).run ≡ told_run s.run ++ opened_by reply
told_step o s k (Opened slot slots count) tells =
    ap (λ n. (slot, slots, n) ∷ []) (sym tells.6) ∙ ap (λ run. told_run run ++ (slot, slots, count) ∷ []) (sym tells.2)
told_step o s k (Noted n) tells = told_noted s.run (port_named k) n
told_step o s k (Closed slot) tells = ap (λ l. told_run s.run ++ l) (told_closed o s s.run refl)
told_step o s k reply tells = sym (append-nil (told_run s.run))

pub openings_are : (o : Opening) (journal : List Entry) → IsLegal o journal → openings journal ≡ map opening_of (closed_runs o journal ++ option_to_list (state_of o journal).run)
openings_are o journal legal =
    along o (λ j. openings j ≡ map opening_of (closed_runs o j ++ option_to_list (state_of o j).run))
    (λ j e next h.
    let s = state_of o j in
    let runs = closed_runs o j in
    let t = after o s e.command e.reply in
    flat_map-append (λ (e : Entry). opened_by e.reply) j (e ∷ []) ∙ ap (λ l. openings j ++ l) (append-nil (opened_by e.reply))
    ∙ ap (λ l. l ++ opened_by e.reply) (h ∙ map-append opening_of runs (option_to_list s.run)) ∙ append_assoc (map opening_of runs) (told_run s.run) (opened_by e.reply)
    ∙ ap (λ l. map opening_of runs ++ l) (sym (told_step o s e.command e.reply next.tells))
    ∙ sym (append_assoc (map opening_of runs) (map opening_of (closed_by e.reply s.run)) (told_run t.run))
    ∙ ap (λ l. l ++ told_run t.run) (sym (map-append opening_of runs (closed_by e.reply s.run)) ∙ ap (map opening_of) (sym (closed_push o j e)))
    ∙ sym (map-append opening_of (closed_runs o (j ++ e ∷ [])) (option_to_list t.run))
    ∙ ap (λ (t : State). map opening_of (closed_runs o (j ++ e ∷ []) ++ option_to_list t.run)) (sym (state_snoc o j e))) refl journal legal

-- ---- each grants something

-- where a flow of the line owes, the grants have a flow
pub some_granted : (o : Opening) (s : State) (granted : List ℕ) → IsGrants o.table.flows (line s) (owed o s) granted → 0 < length (owing o s) → (f : ℕ) × Contains granted f
some_granted o s granted grants some =
    let test = λ (f : ℕ). has (line s) (coflow_of o.table.flows f) && nat_lt 0 (owed o s f) in
    let f = get_or (owing o s) 0 0 in
    let (in', pass) = filter_in test (range_with_len 0 (length o.table.flows)) f (Contains-get_or (owing o s) 0 0 some) in
    let parts = and_parts (has (line s) (coflow_of o.table.flows f)) (nat_lt 0 (owed o s f)) pass in
    some_grant o.table.flows (line s) (owed o s) granted f grants (omega (arith, number_below 0 (length o.table.flows) f in'))
    (any_has (line s) (coflow_of o.table.flows f) parts.0) (ltb-true 0 (owed o s f) parts.1)

pub opened_some : (o : Opening) (journal : List Entry) (r : Run) → IsLegal o journal → IsOpenedIn o journal r → (f : ℕ) × Contains r.granted f
opened_some o journal r legal h =
    let tells = entry_tells o h.before h.more h.entry (subst (IsLegal o) h.stands legal) in
    let opens : TellsEntry o (state_of o h.before) h.entry.command (Opened r.first r.slots (length r.granted)) =
    subst (TellsEntry o (state_of o h.before) h.entry.command) h.reply tells in
    some_granted o (state_of o h.before) r.granted h.grants opens.3
