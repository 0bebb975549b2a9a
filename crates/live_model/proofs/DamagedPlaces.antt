-- Versions and openings at a wrong place are refused, each for its own reason.
use Rattle.std.proofs.Common.{◌≡◌, ℕ, ◌+◌, ◌≤◌, ◌<◌, Bool, true, false, true≢false, List, [], ◌∷◌, ◌++◌, length, map}
use Rattle.std.proofs.Common.{refl, sym, ap, subst, ◌∙◌, arith, cond, zero, suc, Option, Some, None}
use Rattle.std.specs.Prelude.{All, AllPairs, flat_map}
use Rattle.std.specs.List.{slice_index_or}
use Rattle.std.specs.Option.{IfSome, IsSome}
use Rattle.std.proofs.lemmas.List.Elements.{All-head}
use Rattle.journal.specs.declared.command.Command.{Command}
use Rattle.journal.specs.declared.command.Command.TheVariants.{Close, Open, Publish}
use Rattle.journal.specs.declared.command.Entry.{Entry}
use Rattle.journal.specs.declared.command.Reply.{Reply}
use Rattle.journal.specs.declared.command.Reply.TheVariants.{NothingLeft}
use Rattle.journal.specs.Journal.{entry}
use Rattle.journal.specs.Rows.{two}
use Rattle.live_text.specs.declared.value.PullLine.{PullLine}
use Rattle.workload.specs.declared.script.Asked.TheVariants as Ask
use Rattle.workload.specs.declared.script.ScriptLine.{ScriptLine}
use Rattle.live_model.specs.Script.{command_of, is_pull}
use Rattle.live_model.specs.Deeds.{asked_at, asked_in, Deed, entries_by, HasEntry, HasNewest, numbered, version_after}
use Rattle.live_model.specs.Pulls.{IsMadeBefore, IsMadeFor}
use Rattle.live_model.specs.Rounds.{closing_entries, end_of, Spell, spell_entries, spells_of}
use Rattle.live_model.specs.Printed.{told_pull, told_pulls}
use Rattle.live_model.specs.Rows.{alone_journal, both_journal, early_opening_journal, EarlyOpening, FallingVersion, ForeseenVersion, LateOpening, line, NothingTwice}
use Rattle.live_model.specs.Rows.{unopened_journal, told, two_versions_journal, WrongMost}
use Rattle.journal.proofs.Replies.{no_way as no}
use Rattle.live_model.proofs.Damaged.{one_of, placed, position_is}

-- a list of which the images are two
record IsPair {X Y : Type 0} (f : X → Y) (xs : List X) (y z : Y) : Type 0 where
  one : X
  other : X
  is : xs ≡ one ∷ other ∷ []
  at : f one ≡ y
  at_other : f other ≡ z

pair_of : {X Y : Type 0} (f : X → Y) (xs : List X) (y z : Y) → map f xs ≡ y ∷ z ∷ [] → IsPair f xs y z
pair_of f [] y z e = absurd (omega (arith, ap (λ l. length l) e))
pair_of f (x ∷ []) y z e = absurd (omega (arith, ap (λ l. length l) e))
pair_of f (x ∷ x' ∷ []) y z e = record { one = x; other = x'; is = refl; at = ap (λ l. slice_index_or l 0 y) e; at_other = ap (λ l. slice_index_or l 1 z) e }
pair_of f (x ∷ x' ∷ x'' ∷ xs) y z e = absurd (omega (arith, ap (λ l. length l) e))

first_position : (o : Option ℕ) (k : Command) (p : ℕ) (k' : Command) (rest : List (ℕ × Command)) → IsSome o → (p, k') ∷ [] ≡ asked_at o k ++ rest → o ≡ Some p
first_position None k p k' rest some e = no some
first_position (Some q) k p k' rest some e = ap Some (sym (ap (λ (l : List (ℕ × Command)). (slice_index_or {A = ℕ × Command} l 0 (p, k')).0) e))

second_position : (o o' : Option ℕ) (k k' : Command) (x : ℕ × Command) → IsSome o' → x ∷ [] ≡ asked_at o k ++ (asked_at o' k' ++ []) → o' ≡ Some x.0
second_position None o' k k' x some e = first_position o' k' x.0 x.1 [] some e
second_position (Some q) None k k' x some e = no some
second_position (Some q) (Some q') k k' x some e = absurd (omega (arith, ap (λ (l : List (ℕ × Command)). length l) e))

shown_second : (f : Deed → PullLine) (a c : Deed) (t : PullLine) (b b' : Bool) → b ≡ false → b' ≡ true →
    t ∷ [] ≡ map f (cond b (a ∷ cond b' (c ∷ []) []) (cond b' (c ∷ []) [])) ++ [] → t ≡ f c
shown_second f a c t true b' out in' e = no (sym out)
shown_second f a c t false true out in' e = ap (λ l. slice_index_or l 0 t) e
shown_second f a c t false false out in' e = no in'

shown_first : (f : Deed → PullLine) (a c d : Deed) (t : PullLine) (b b' b'' : Bool) → b ≡ true → b' ≡ false → b'' ≡ false →
    t ∷ [] ≡ map f (cond b (a ∷ cond b' (c ∷ []) []) (cond b' (c ∷ []) [])) ++ (map f (cond b'' (d ∷ []) []) ++ []) → t ≡ f a
shown_first f a c d t true false false in' out out' e = ap (λ l. slice_index_or l 0 t) e
shown_first f a c d t false b' b'' in' out out' e = no in'
shown_first f a c d t true true b'' in' out out' e = no (sym out)
shown_first f a c d t true false true in' out out' e = no (sym out')

newest_of : (journal : List Entry) (d : Deed) (p : ℕ) → d.position ≡ Some p → HasNewest journal d → d.version ≡ version_after journal p
newest_of journal d p at h = subst (λ (o : Option ℕ). IfSome o (λ p. d.version ≡ version_after journal p)) at h

asks_of : (d : Deed) (n : ℕ) (x : ScriptLine) → placed d ≡ (n, x) → is_pull d.line.asked ≡ is_pull x.asked
asks_of d n x e = ap (λ (l : ℕ × ScriptLine). is_pull l.1.asked) e

-- a pull that is told a version before the client's own entry
pub falling_version : FallingVersion → ⊥
falling_version h =
    let deeds = h.course.deeds in
    let c = h.carried.clients in
    let x = pair_of placed (deeds 1) (0, line 1 1 Ask.Publish) (0, line 2 1 (Ask.Pull 0)) (c.lines 1) in
    let a = x.one in
    let b = x.other in
    let out = asks_of a 0 (line 1 1 Ask.Publish) x.at in
    let in' = asks_of b 0 (line 2 1 (Ask.Pull 0)) x.at_other in
    let has : HasEntry a = All-head (λ (d : Deed). is_pull d.line.asked ≡ false → HasEntry d) a (b ∷ [])
    (subst (All (λ (d : Deed). is_pull d.line.asked ≡ false → HasEntry d)) x.is (c.commands 1)) out in
    let at : a.position ≡ Some 1 = first_position a.position (command_of a.line.asked) 1 Publish (asked_at b.position (command_of b.line.asked) ++ []) has
    (c.entries 1 (omega arith) ∙ ap asked_in x.is) in
    let new : a.version ≡ 1 = newest_of unopened_journal a 1 at (All-head (HasNewest unopened_journal) a (b ∷ [])
    (subst (All (HasNewest unopened_journal)) x.is (c.versions 1))) in
    let pulls : told 1 2 1 0 0 ∷ [] ≡ told_pulls (two 14) unopened_journal (a ∷ b ∷ []) ++ [] = h.told.pulls ∙ ap (λ l. told_pulls (two 14) unopened_journal l ++ []) x.is in
    let old : 0 ≡ b.version = ap (λ (t : PullLine). t.version) (shown_second (told_pull (two 14) unopened_journal) a b (told 1 2 1 0 0) (is_pull a.line.asked)
    (is_pull b.line.asked) out in' pulls) in
    let le : a.version ≤ b.version = subst (AllPairs (λ (d : Deed) (e : Deed). d.version ≤ e.version)) x.is (h.carried.pulls.never_fall 1) 0 1 a (omega arith) (omega arith) in
    omega (arith, new, old, le)

none_ahead : (k : ℕ) (x : ℕ × Entry) → k < length (numbered two_versions_journal) → slice_index_or (numbered two_versions_journal) k x ≡ x → x.0 < 1 → ⊥
none_ahead zero x lt at less = omega (arith, ap {A = ℕ × Entry} (λ y. y.0) at, less)
none_ahead (suc zero) x lt at less = omega (arith, ap {A = ℕ × Entry} (λ y. y.0) at, less)
none_ahead (suc (suc zero)) x lt at less = omega (arith, ap {A = ℕ × Entry} (λ y. y.0) at, less)
none_ahead (suc (suc (suc k))) x lt at less = omega (arith, lt)

-- a version that was made only after the client's later line
pub foreseen_version : ForeseenVersion → ⊥
foreseen_version h =
    let J = two_versions_journal in
    let o = two 15 in
    let deeds = h.course.deeds in
    let c = h.carried.clients in
    let x = pair_of placed (deeds 1) (0, line 1 1 (Ask.Pull 0)) (0, line 2 1 Ask.Publish) (c.lines 1) in
    let y = one_of placed (deeds 2) (0, line 3 2 Ask.Publish) (c.lines 2) in
    let a = x.one in
    let b = x.other in
    let in' = asks_of a 0 (line 1 1 (Ask.Pull 0)) x.at in
    let out = asks_of b 0 (line 2 1 Ask.Publish) x.at_other in
    let out' = asks_of y.one 0 (line 3 2 Ask.Publish) y.at in
    let all = subst (All (λ (d : Deed). is_pull d.line.asked ≡ false → HasEntry d)) x.is (c.commands 1) in
    let has : HasEntry b = all 1 b (omega arith) out in
    let at : b.position ≡ Some 1 = second_position a.position b.position (command_of a.line.asked) (command_of b.line.asked) (1, Publish) has
    (c.entries 1 (omega arith) ∙ ap asked_in x.is) in
    let pulls : told 1 1 1 1 0 ∷ [] ≡ told_pulls o J (a ∷ b ∷ []) ++ (told_pulls o J (y.one ∷ []) ++ []) =
    h.told.pulls ∙ (λ i. told_pulls o J (x.is i) ++ (told_pulls o J (y.is i) ++ [])) in
    let new : 1 ≡ a.version = ap (λ (t : PullLine). t.version)
    (shown_first (told_pull o J) a b y.one (told 1 1 1 1 0) (is_pull a.line.asked) (is_pull b.line.asked) (is_pull y.one.line.asked) in' out out' pulls) in
    let made : IsMadeFor J a b = subst (AllPairs (IsMadeFor J)) x.is (h.carried.pulls.made_for_lines 1) 0 1 a (omega arith) (omega arith) in
    let found = subst (λ (o : Option ℕ). IfSome o (λ p. IsMadeBefore J a.version p)) at (made in' (omega (arith, new))) in
    none_ahead found.0 found.1 found.2 found.3 found.4.0

-- ---- openings

abbrev is_close : Command → Bool
is_close Close = true
is_close k = false

abbrev closes : ℕ × Entry → Bool
closes x = is_close x.1.command

nothing_in : (xs : List Spell) → map (λ (s : Spell). s.round) xs ≡ [] → xs ≡ []
nothing_in [] e = refl
nothing_in (s ∷ xs) e = absurd (omega (arith, ap (λ l. length l) e))

-- behind an opening that was closed comes its closing
second_closes : (most : ℕ) (s : Spell) (rest : List (ℕ × Entry)) (d : ℕ × Entry) → IsSome s.closed → closes (slice_index_or (spell_entries most s ++ rest) 1 d) ≡ true
second_closes most s rest d some = go s.closed some
  where
    go : (x : Option (ℕ × Reply)) → IsSome x → closes (slice_index_or (((s.opened, entry 0 (Open most) s.answer) ∷ closing_entries x) ++ rest) 1 d) ≡ true
    go None some = no some
    go (Some x) some = refl

last_alone : (most : ℕ) (later : List Spell) (last : Spell) (x y : ℕ × Entry) → closes y ≡ false → All (λ (s : Spell). IsSome s.closed) later → last.closed ≡ None →
    x ∷ y ∷ [] ≡ flat_map (spell_entries most) (later ++ last ∷ []) → ⊥
last_alone most [] last x y not_closing all none e =
    let long : 2 ≡ length (((last.opened, entry 0 (Open most) last.answer) ∷ closing_entries last.closed) ++ []) = ap (λ (l : List (ℕ × Entry)). length l) e in
    let short : length (((last.opened, entry 0 (Open most) last.answer) ∷ closing_entries last.closed) ++ []) ≡ 1 = ap
    (λ (o : Option (ℕ × Reply)). length (((last.opened, entry 0 (Open most) last.answer) ∷ closing_entries o) ++ [])) none in
    omega (arith, long, short)
last_alone most (s ∷ later) last x y not_closing all none e =
    true≢false (sym (second_closes most s (flat_map (spell_entries most) (later ++ last ∷ [])) y (All-head (λ (s : Spell). IsSome s.closed) s later all))
    ∙ (ap (λ (l : List (ℕ × Entry)). closes (slice_index_or l 1 y)) (sym e) ∙ not_closing))

-- an opening that is not followed by a closing ends where it stands
ends_late : (most : ℕ) (s : Spell) (rest : List (ℕ × Entry)) (x y : ℕ × Entry) → closes y ≡ false → x ∷ y ∷ [] ≡ spell_entries most s ++ rest → x.0 ≤ end_of s
ends_late most s rest x y not_closing e = go s.closed e
  where
    go : (c : Option (ℕ × Reply)) → x ∷ y ∷ [] ≡ ((s.opened, entry 0 (Open most) s.answer) ∷ closing_entries c) ++ rest →
        x.0 ≤ elim c as (λ x. ℕ) [ None ↦ s.opened | Some x ↦ x.0 ]
    go None e = omega (arith, ap (λ (l : List (ℕ × Entry)). (slice_index_or l 0 x).0) e)
    go (Some z) e = no (sym not_closing ∙ ap (λ (l : List (ℕ × Entry)). closes (slice_index_or l 1 y)) e)

abbrev most_in : Command → ℕ
most_in (Open most) = most
most_in k = 0

abbrev first_most : List (ℕ × Entry) → ℕ
first_most [] = 0
first_most (x ∷ xs) = most_in x.1.command

opens_with : (most : ℕ) (later : List Spell) (last : Spell) → first_most (flat_map (spell_entries most) (later ++ last ∷ [])) ≡ most
opens_with most [] last = refl
opens_with most (s ∷ later) last = refl

-- two openings that are answered that nothing is left
pub nothing_twice : NothingTwice → ⊥
nothing_twice h =
    let d = h.course.driving in
    let w = h.carried.driver in
    let none : d.beside ≡ [] = nothing_in d.beside w.slot_rounds_are in
    last_alone 4 d.later d.last (1, entry 0 (Open 4) NothingLeft) (2, entry 0 (Open 4) NothingLeft) refl w.later_run w.last_is
    (w.entries ∙ ap (λ l. flat_map (spell_entries 4) (l ++ d.later ++ d.last ∷ [])) none)

-- an opening beside a round that stands before an entry of an earlier round
pub early_opening : EarlyOpening → ⊥
early_opening h =
    let deeds = h.course.deeds in
    let d = h.course.driving in
    let c = h.carried.clients in
    let s = one_of (λ (s : Spell). s.round) d.beside 1 h.carried.driver.slot_rounds_are in
    let x = one_of placed (deeds 1) (0, line 1 1 Ask.Publish) (c.lines 1) in
    let at : x.one.position ≡ Some 2 = position_is x.one.position (command_of x.one.line.asked) 2 Publish (c.entries 1 (omega arith) ∙ ap asked_in x.is) in
    let e : entries_by early_opening_journal 0 ≡ flat_map (spell_entries 4) ((s.one ∷ []) ++ d.later ++ d.last ∷ []) =
    h.carried.driver.entries ∙ ap (λ l. flat_map (spell_entries 4) (l ++ d.later ++ d.last ∷ [])) s.is in
    let first : 1 ≡ s.one.opened = ap (λ (l : List (ℕ × Entry)). (slice_index_or l 0 (0, entry 0 Close NothingLeft)).0) e in
    let all = subst (All (λ (a : Deed). All (λ (s : Spell). a.round < s.round → IfSome a.position (λ p. p < s.opened)) (spells_of d))) x.is (h.carried.rounds.opened 1) in
    let here = subst (All (λ (s : Spell). x.one.round < s.round → IfSome x.one.position (λ p. p < s.opened))) (ap (λ l. l ++ d.later ++ d.last ∷ []) s.is)
    (All-head (λ (a : Deed). All (λ (s : Spell). a.round < s.round → IfSome a.position (λ p. p < s.opened)) (spells_of d)) x.one [] all) in
    let less : x.one.round < s.one.round = omega (arith, ap (λ (l : ℕ × ScriptLine). l.0) x.at, s.at) in
    let lt : 2 < s.one.opened = subst (λ (o : Option ℕ). IfSome o (λ p. p < s.one.opened)) at (here 0 s.one (omega arith) less) in
    omega (arith, lt, first)

-- an opening beside a round that stands behind an entry of a later round
pub late_opening : LateOpening → ⊥
late_opening h =
    let deeds = h.course.deeds in
    let d = h.course.driving in
    let c = h.carried.clients in
    let s = one_of (λ (s : Spell). s.round) d.beside 0 h.carried.driver.slot_rounds_are in
    let x = one_of placed (deeds 1) (1, line 2 1 Ask.Publish) (c.lines 1) in
    let at : x.one.position ≡ Some 1 = position_is x.one.position (command_of x.one.line.asked) 1 Publish (c.entries 1 (omega arith) ∙ ap asked_in x.is) in
    let e : entries_by both_journal 0 ≡ flat_map (spell_entries 4) ((s.one ∷ []) ++ d.later ++ d.last ∷ []) =
    h.carried.driver.entries ∙ ap (λ l. flat_map (spell_entries 4) (l ++ d.later ++ d.last ∷ [])) s.is in
    let end : 2 ≤ end_of s.one = ends_late 4 s.one (flat_map (spell_entries 4) (d.later ++ d.last ∷ [])) (2, entry 0 (Open 4) NothingLeft) (3, entry 0 (Open 4) NothingLeft)
    refl e in
    let all = subst (All (λ (a : Deed). All (λ (s : Spell). s.round < a.round → IfSome a.position (λ p. end_of s < p)) (spells_of d))) x.is (h.carried.rounds.closed 1) in
    let here = subst (All (λ (s : Spell). s.round < x.one.round → IfSome x.one.position (λ p. end_of s < p))) (ap (λ l. l ++ d.later ++ d.last ∷ []) s.is)
    (All-head (λ (a : Deed). All (λ (s : Spell). s.round < a.round → IfSome a.position (λ p. end_of s < p)) (spells_of d)) x.one [] all) in
    let less : s.one.round < x.one.round = omega (arith, ap (λ (l : ℕ × ScriptLine). l.0) x.at, s.at) in
    let lt : end_of s.one < 1 = subst (λ (o : Option ℕ). IfSome o (λ p. end_of s.one < p)) at (here 0 s.one (omega arith) less) in
    omega (arith, lt, end)

-- openings that are not of as many slots as were asked for
pub wrong_most : WrongMost → ⊥
wrong_most h =
    let d = h.course.driving in
    let none : d.beside ≡ [] = nothing_in d.beside h.carried.driver.slot_rounds_are in
    let e : entries_by alone_journal 0 ≡ flat_map (spell_entries 3) (d.later ++ d.last ∷ []) =
    h.carried.driver.entries ∙ ap (λ l. flat_map (spell_entries 3) (l ++ d.later ++ d.last ∷ [])) none in
    let four : ◌≡◌ {A = ℕ} 4 3 = ap (λ (l : List (ℕ × Entry)). first_most l) e ∙ opens_with 3 d.later d.last in
    omega (arith, four)
