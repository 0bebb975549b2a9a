-- An open run, from its opening to its closing: what notes and entries of others make of it.
use Rattle.std.proofs.Common.{◌≡◌, ℕ, ◌<◌, ◌⊎◌, inl, inr, Bool, true, false, true≢false, List, [], ◌∷◌, ◌++◌, length, min, refl, sym, ap, subst, ◌∙◌, arith, suc, append_assoc}
use Rattle.std.proofs.Common.{append-nil, Option, Some, None}
use Rattle.std.specs.Prelude.{All, ◌==◌, ◌||◌, not, nat_le, nat_lt, if◌then◌else◌}
use Rattle.std.specs.List.{list_any}
use Rattle.std.proofs.lemmas.Bool.{and_parts, cases_Bool, eqb-true, or_cases}
use Rattle.coflow_units.specs.Flows.{ingress_of}
use Rattle.journal.specs.declared.command.Command.{Command}
use Rattle.journal.specs.declared.command.Command.TheVariants.{Short}
use Rattle.journal.specs.declared.command.Entry.{Entry}
use Rattle.journal.specs.declared.command.Reply.{Reply}
use Rattle.journal.specs.declared.command.Reply.TheVariants.{Full, NotGranted}
use Rattle.journal.specs.declared.opening.Opening.{Opening}
use Rattle.journal.specs.State.{Run, State}
use Rattle.journal.specs.Runs.{grant_in, note_in}
use Rattle.journal.specs.Fold.{after, noted_in, state_of}
use Rattle.journal.specs.Answer.{answer, noted, on_run, room}
use Rattle.journal.specs.Journal.{is_full, IsLegal}
use Rattle.journal.proofs.Growth.{state_snoc}
use Rattle.journal.specs.Closed.{LeavesSlots}
use Rattle.journal.specs.Driven.{Drive, is_other, IsShortOf, notes_port}
use Rattle.journal.specs.Entries.{is_driving, is_passing}
use Rattle.journal.proofs.ClosedSteps.{unmoved}
use Rattle.journal.proofs.Leaving.{not_passing, slots_both, slots_none, slots_push}
use Rattle.journal.proofs.Along.{IsNext, next_of}
use Rattle.journal.proofs.EntryTells.{quiet}
use Rattle.journal.proofs.Versions.{legal_there}

-- ---- replies in a legal journal

not_full : (b : Bool) (n : ℕ) (x r : Reply) → r ≡ (if b then Full n else x) → is_full r ≡ false → r ≡ x
not_full true n x r e room = absurd (true≢false (sym (ap is_full e) ∙ room))
not_full false n x r e room = e

-- an entry of a legal journal has the answer of its state
pub answered : (o : Opening) (j more : List Entry) (e : Entry) → IsLegal o (j ++ (e ∷ more)) → e.reply ≡ answer o (state_of o j) e.command
answered o j more e legal =
    let there = legal_there o j more e legal in
    not_full (nat_le (room o e.command) (length j)) (length j) (answer o (state_of o j) e.command) e.reply there.0 there.1

-- ---- one entry between

abbrev pub mkr : ℕ → ℕ → List ℕ → List (ℕ × ℕ) → Run
mkr first slots granted notes = record { first = first; slots = slots; granted = granted; notes = notes }

-- what a note of n units makes of the notes, at a port with this grant
abbrev pub noted_more : ℕ → ℕ → Option ℕ → List (ℕ × ℕ) → List (ℕ × ℕ)
noted_more port n None notes = notes
noted_more port n (Some f) notes = (port, n) ∷ notes

note_step : (o : Opening) (s : State) (r : Run) (port units : ℕ) (g : Option ℕ) → s.run ≡ Some r →
    (after o s (Short port units) (noted r port units g)).run ≡ Some (record r { notes = noted_more port (min units r.slots) g r.notes })
note_step o s r port units None is = is
note_step o s r port units (Some f) is = ap (λ x. noted_in x port (min units r.slots)) is

note_passes_none : (r : Run) (port units : ℕ) (g : Option ℕ) → is_passing (noted r port units g) ≡ false
note_passes_none r port units None = refl
note_passes_none r port units (Some f) = refl

-- ---- entries between

-- nothing is noted for the port, or the units that were sent from it
abbrev pub IsNoteOf : Drive → ℕ → Option ℕ → Type 0
IsNoteOf d port note = (note ≡ None) ⊎ (note ≡ Some (d.sent port))

-- From one journal to the other the run stays open, and its notes become others: where the ports that are hit have a grant, what was sent from them is noted.
pub record IsBetween (o : Opening) (d : Drive) (first : ℕ) (granted : List ℕ) (j k : List Entry) (hit : ℕ → Bool) (old : List (ℕ × ℕ)) : Type 0 where
  pub notes : List (ℕ × ℕ)
  pub run : (state_of o k).run ≡ Some (mkr first d.slots granted notes)
  pub stays : LeavesSlots o j k
  pub only : (p : ℕ) → IsNoteOf d p (note_in old p) → IsNoteOf d p (note_in notes p)
  pub told : (p f : ℕ) → grant_in o.table.flows granted p ≡ Some f → (note_in old p ≡ Some (d.sent p)) ⊎ (hit p ≡ true) → note_in notes p ≡ Some (d.sent p)

nothing : (o : Opening) (d : Drive) (first : ℕ) (granted : List ℕ) (j : List Entry) (old : List (ℕ × ℕ)) → (state_of o j).run ≡ Some (mkr first d.slots granted old) →
    IsBetween o d first granted j j (λ p. false) old
nothing o d first granted j old is = record {
  notes = old;
  run = is;
  stays = slots_none o j;
  only = λ p h. h;
  told = λ p f e h. elim h [
    | inl had ↦ had
    | inr hit ↦ absurd (true≢false (sym hit))
  ];
}

chain : (o : Opening) (d : Drive) (first : ℕ) (granted : List ℕ) (j k l : List Entry) (hit more : ℕ → Bool) (old : List (ℕ × ℕ)) (a : IsBetween o d first granted j k hit old) →
    IsBetween o d first granted k l more a.notes →
    IsBetween o d first granted j l (λ p. hit p || more p) old
chain o d first granted j k l hit more old a b = record {
  notes = b.notes;
  run = b.run;
  stays = slots_both o j k l a.stays b.stays;
  only = λ p h. b.only p (a.only p h);
  told = λ p f e h. elim h [
    | inl had ↦ b.told p f e (inl (a.told p f e (inl had)))
    | inr any' ↦ elim (or_cases (hit p) (more p) any') [
      | inl now ↦ b.told p f e (inl (a.told p f e (inr now)))
      | inr later ↦ b.told p f e (inr later)
    ]
  ];
}

pub not_noting : (p : ℕ) (k : Command) → is_driving k ≡ false → notes_port p k ≡ false
not_noting p (Short port units) e = absurd (true≢false e)
not_noting p k e = refl

pub not_driving : (b : Bool) → not b ≡ true → b ≡ false
not_driving true e = sym e
not_driving false e = refl

-- an entry of another caller
by_other : (o : Opening) (d : Drive) (first : ℕ) (granted : List ℕ) (j : List Entry) (e : Entry) (old : List (ℕ × ℕ)) → IsNext o j e → is_other e ≡ true →
    (state_of o j).run ≡ Some (mkr first d.slots granted old) →
    IsBetween o d first granted j (j ++ e ∷ []) (λ p. notes_port p e.command) old
by_other o d first granted j e old next other is =
    let s = state_of o j in
    let free = not_driving (is_driving e.command) (and_parts (nat_lt 0 e.who) (not (is_driving e.command)) other).1 in
    let still = quiet o s e.command e.reply next.tells free in
    record {
      notes = old;
      run = ap (λ (t : State). t.run) (state_snoc o j e) ∙ (unmoved o s e.command e.reply still).run ∙ is;
      stays = slots_push o j e (not_passing e.reply still);
      only = λ p h. h;
      told = λ p f at h. elim h [
        | inl had ↦ had
        | inr hit ↦ absurd (true≢false (sym hit ∙ not_noting p e.command free))
      ];
    }

-- ---- a note

same_note : (d : Drive) (port p : ℕ) → d.sent port < d.slots → port ≡ p → ◌≡◌ {A = Option ℕ} (Some (min (d.sent port) d.slots)) (Some (d.sent p))
same_note d port p lt same = let e : min (d.sent port) d.slots ≡ d.sent port = omega (arith, lt) in ap (λ (n : ℕ). Some n) (e ∙ ap d.sent same)

more_only : (d : Drive) (port p : ℕ) (old : List (ℕ × ℕ)) (g : Option ℕ) → d.sent port < d.slots → IsNoteOf d p (note_in old p) →
    IsNoteOf d p (note_in (noted_more port (min (d.sent port) d.slots) g old) p)
more_only d port p old None lt h = h
more_only d port p old (Some f) lt h = elim (cases_Bool (port == p)) [
  | inl t ↦ inr (ap (λ (b : Bool). if b then Some (min (d.sent port) d.slots) else note_in old p) t ∙ same_note d port p lt (eqb-true port p t))
  | inr t ↦ subst (IsNoteOf d p) (sym (ap (λ (b : Bool). if b then Some (min (d.sent port) d.slots) else note_in old p) t)) h
]

more_told : (d : Drive) (port p : ℕ) (old : List (ℕ × ℕ)) (g : Option ℕ) → d.sent port < d.slots → (port ≡ p → g ≡ None → ⊥) →
    (note_in old p ≡ Some (d.sent p)) ⊎ ((port == p) ≡ true) → note_in (noted_more port (min (d.sent port) d.slots) g old) p ≡ Some (d.sent p)
more_told d port p old None lt some (inl had) = had
more_told d port p old None lt some (inr hit) = absurd (some (eqb-true port p hit) refl)
more_told d port p old (Some f) lt some h = elim (cases_Bool (port == p)) [
  | inl t ↦ ap (λ (b : Bool). if b then Some (min (d.sent port) d.slots) else note_in old p) t ∙ same_note d port p lt (eqb-true port p t)
  | inr t ↦ ap (λ (b : Bool). if b then Some (min (d.sent port) d.slots) else note_in old p) t ∙ elim h [
    | inl had ↦ had
    | inr hit ↦ absurd (true≢false (sym hit ∙ t))
  ]
]

none_some : (g : Option ℕ) (f : ℕ) → g ≡ Some f → g ≡ None → ⊥
none_some None f e n = absurd (cc)
none_some (Some x) f e n = absurd (cc)

by_note : (o : Opening) (d : Drive) (first : ℕ) (granted : List ℕ) (j more : List Entry) (e : Entry) (old : List (ℕ × ℕ)) → IsLegal o (j ++ (e ∷ more)) →
    IsShortOf o.table.flows granted d e → (state_of o j).run ≡ Some (mkr first d.slots granted old) →
    IsBetween o d first granted j (j ++ e ∷ []) (λ p. notes_port p e.command) old
by_note o d first granted j more e old legal (h, in', who, asks, lt) is =
    let port = ingress_of o.table.flows h in
    let s = state_of o j in
    let r = mkr first d.slots granted old in
    let g = grant_in o.table.flows granted port in
    let reply : e.reply ≡ noted r port (d.sent port) g =
    answered o j more e legal ∙ ap (answer o s) asks ∙ ap (λ x. on_run x (λ r. noted r port (d.sent port) (grant_in o.table.flows r.granted port)) (NotGranted port)) is in
    record {
      notes = noted_more port (min (d.sent port) d.slots) g old;
      run =
          ap (λ (t : State). t.run) (state_snoc o j e) ∙ ap (λ k. (after o s k e.reply).run) asks ∙ ap (λ x. (after o s (Short port (d.sent port)) x).run) reply
          ∙ note_step o s r port (d.sent port) g is;
      stays = slots_push o j e (ap is_passing reply ∙ note_passes_none r port (d.sent port) g);
      only = λ p h. more_only d port p old g lt h;
      told = λ p f at h.
          more_told d port p old g lt (λ same none. none_some (grant_in o.table.flows granted p) f at (ap (grant_in o.table.flows granted) (sym same) ∙ none)) (elim h [
            | inl had ↦ inl had
            | inr hit ↦ inr (sym (ap (notes_port p) asks) ∙ hit)
          ]);
    }

pub between : (o : Opening) (d : Drive) (first : ℕ) (granted : List ℕ) (j es more : List Entry) (old : List (ℕ × ℕ)) → IsLegal o (j ++ (es ++ more)) →
    (state_of o j).run ≡ Some (mkr first d.slots granted old) →
    All (λ e. (is_other e ≡ true) ⊎ IsShortOf o.table.flows granted d e) es → IsBetween o d first granted j (j ++ es) (λ p. list_any (λ (e : Entry). notes_port p e.command) es) old
between o d first granted j [] more old legal is all = subst (λ l. IsBetween o d first granted j l (λ p. false) old) (sym (append-nil j)) (nothing o d first granted j old is)
between o d first granted j (e ∷ es) more old legal is all =
    let one : IsBetween o d first granted j (j ++ e ∷ []) (λ p. notes_port p e.command) old = elim (all 0 e (omega arith)) [
      | inl other ↦ by_other o d first granted j e old (next_of o j (es ++ more) e legal) other is
      | inr short ↦ by_note o d first granted j (es ++ more) e old legal short is
    ] in
    let rest =
    between o d first granted (j ++ e ∷ []) es more one.notes (subst (IsLegal o) (sym (append_assoc j (e ∷ []) (es ++ more))) legal) one.run (λ k d lt. all (suc k) d (omega arith))
    in
    subst (λ l. IsBetween o d first granted j l (λ p. list_any (λ (e : Entry). notes_port p e.command) (e ∷ es)) old) (append_assoc j (e ∷ []) es)
    (chain o d first granted j (j ++ e ∷ []) ((j ++ e ∷ []) ++ es) (λ p. notes_port p e.command) (λ p. list_any (λ (e : Entry). notes_port p e.command) es) old one rest)
