-- Runs that are refused, each for its own reason.
use Rattle.std.proofs.Common.{◌≡◌, ℕ, ◌≤◌, ◌<◌, Bool, true, false, true≢false, List, [], ◌∷◌, ◌++◌, length, map, refl}
use Rattle.std.proofs.Common.{sym, ap, subst, ◌∙◌, arith, cond, zero, suc, Option, Some, None}
use Rattle.std.specs.Prelude.{All, flat_map}
use Rattle.std.specs.List.{slice_index_or}
use Rattle.std.specs.Option.{IfSome, IsSome}
use Rattle.std.proofs.lemmas.Grind.{flat_map-append}
use Rattle.std.proofs.lemmas.List.{length-append}
use Rattle.std.proofs.lemmas.List.Elements.{All-head}
use Rattle.journal.specs.Chosen.{the_grants, the_ordering}
use Rattle.journal.specs.declared.command.Command.{Command}
use Rattle.journal.specs.declared.command.Command.TheVariants.{Publish, Pull}
use Rattle.journal.specs.declared.command.Entry.{Entry}
use Rattle.journal.specs.declared.opening.Opening.{Opening}
use Rattle.journal.specs.Rows.{two}
use Rattle.live_text.specs.declared.value.PullLine.{PullLine}
use Rattle.workload.specs.declared.script.Asked.TheVariants as Ask
use Rattle.workload.specs.declared.script.ScriptLine.{ScriptLine}
use Rattle.live_model.specs.Script.{command_of, is_pull}
use Rattle.live_model.specs.Deeds.{asked_at, asked_in, Deed, HasEntry, HasNewest, IsPull, numbered, version_after}
use Rattle.live_model.specs.Pulls.{IsMadeBefore, IsMadeFor}
use Rattle.live_model.specs.Rounds.{Spell, spell_entries}
use Rattle.live_model.specs.Printed.{told_pull, told_pulls}
use Rattle.live_model.specs.Rows.{both_journal, crossed_journal, CrossedRounds, unopened_journal, line, MissingEntry}
use Rattle.live_model.specs.Rows.{near_journal, NearPull, UnmadeVersion, SentTwice, StalePull, told, UnopenedRound}
use Rattle.journal.proofs.Replies.{no_way as no}

-- a list of which the images are one
pub record IsOne {X Y : Type 0} (f : X → Y) (xs : List X) (y : Y) : Type 0 where
  pub one : X
  pub is : xs ≡ one ∷ []
  pub at : f one ≡ y

pub one_of : {X Y : Type 0} (f : X → Y) (xs : List X) (y : Y) → map f xs ≡ y ∷ [] → IsOne f xs y
one_of f [] y e = absurd (omega (arith, ap (λ l. length l) e))
one_of f (x ∷ []) y e = record { one = x; is = refl; at = ap (λ l. slice_index_or l 0 y) e }
one_of f (x ∷ x' ∷ xs) y e = absurd (omega (arith, ap (λ l. length l) e))

pub position_is : (o : Option ℕ) (k : Command) (p : ℕ) (k' : Command) → (p, k') ∷ [] ≡ asked_at o k ++ [] → o ≡ Some p
position_is None k p k' e = absurd (omega (arith, ap (λ l. length l) e))
position_is (Some q) k p k' e = ap Some (sym (ap (λ (l : List (ℕ × Command)). (slice_index_or {A = ℕ × Command} l 0 (p, k')).0) e))

has_none : (o : Option ℕ) (k : Command) → [] ≡ asked_at o k ++ [] → IsSome o → ⊥
has_none None k e some = no some
has_none (Some q) k e some = omega (arith, ap (λ l. length l) e)

shown : (f : Deed → PullLine) (a c : Deed) (t : PullLine) (b b' : Bool) → b ≡ false → b' ≡ true →
    t ∷ [] ≡ map f (cond b (a ∷ []) []) ++ (map f (cond b' (c ∷ []) []) ++ []) → t ≡ f c
shown f a c t true b' out in' e = absurd (true≢false out)
shown f a c t false true out in' e = ap (λ l. slice_index_or l 0 t) e
shown f a c t false false out in' e = no in'

told_is : (o : Opening) (journal : List Entry) (xs ys : List Deed) (a c : Deed) (t : PullLine) → xs ≡ a ∷ [] → ys ≡ c ∷ [] →
    is_pull a.line.asked ≡ false → is_pull c.line.asked ≡ true → t ∷ [] ≡ told_pulls o journal xs ++ (told_pulls o journal ys ++ []) → t ≡ told_pull o journal c
told_is o journal xs ys a c t one other out in' e =
    shown (told_pull o journal) a c t (is_pull a.line.asked) (is_pull c.line.asked) out in'
    (e ∙ ap (λ l. told_pulls o journal l ++ (told_pulls o journal ys ++ [])) one ∙ ap (λ l. told_pulls o journal (a ∷ []) ++ (told_pulls o journal l ++ [])) other)

-- a pair that is sent twice
pub sent_twice : SentTwice → ⊥
unfolding the_ordering the_grants
sent_twice h = let e : ◌≡◌ {A = ℕ} 2 1 = h.carried.sent 0 1 1 in omega (arith, e)

abbrev pub placed : Deed → ℕ × ScriptLine
placed d = (d.round, d.line)

-- a version that is older than an entry of the round before
pub stale_pull : StalePull → ⊥
stale_pull h =
    let deeds = h.course.deeds in
    let x = one_of placed (deeds 1) (0, line 1 1 Ask.Publish) (h.carried.clients.lines 1) in
    let y = one_of placed (deeds 2) (1, line 3 2 (Ask.Pull 0)) (h.carried.clients.lines 2) in
    let a = x.one in
    let c = y.one in
    let out : is_pull a.line.asked ≡ false = ap (λ (l : ℕ × ScriptLine). is_pull l.1.asked) x.at in
    let in' : is_pull c.line.asked ≡ true = ap (λ (l : ℕ × ScriptLine). is_pull l.1.asked) y.at in
    let asked : asked_in (deeds 1) ≡ asked_in (a ∷ []) = ap asked_in x.is in
    let at : a.position ≡ Some 1 = position_is a.position (command_of a.line.asked) 1 Publish (h.carried.clients.entries 1 (omega arith) ∙ asked) in
    let all = subst (λ l. All (λ (d : Deed). IfSome d.position (λ p. d.version ≡ version_after both_journal p)) l) x.is (h.carried.clients.versions 1) in
    let new : a.version ≡ 1 = subst (λ (o : Option ℕ). IfSome o (λ p. a.version ≡ version_after both_journal p)) at
    (All-head (λ (d : Deed). IfSome d.position (λ p. d.version ≡ version_after both_journal p)) a [] all) in
    let old : 0 ≡ c.version = ap (λ (t : PullLine). t.version) (told_is (two 16) both_journal (deeds 1) (deeds 2) a c (told 2 3 1 0 0) x.is y.is out in' h.told.pulls) in
    let seen = subst (λ l. All (λ (b : Deed). All (λ (d : Deed). b.round < d.round → HasEntry b → IsPull d → b.version ≤ d.version) (deeds 2)) l) x.is (h.carried.pulls.seen 1 2) in
    let first = subst (λ l. All (λ (d : Deed). a.round < d.round → HasEntry a → IsPull d → a.version ≤ d.version) l) y.is
    (All-head (λ (b : Deed). All (λ (d : Deed). b.round < d.round → HasEntry b → IsPull d → b.version ≤ d.version) (deeds 2)) a [] seen) in
    let less : a.round < c.round = omega (arith, ap (λ (l : ℕ × ScriptLine). l.0) x.at, ap (λ (l : ℕ × ScriptLine). l.0) y.at) in
    let has : HasEntry a = subst (λ (o : Option ℕ). IsSome o) (sym at) refl in
    omega (arith, All-head (λ (d : Deed). a.round < d.round → HasEntry a → IsPull d → a.version ≤ d.version) c [] first less has in', new, old)

-- a command without its entry
pub missing_entry : MissingEntry → ⊥
missing_entry h =
    let deeds = h.course.deeds in
    let x = one_of placed (deeds 1) (0, line 1 1 Ask.Publish) (h.carried.clients.lines 1) in
    let a = x.one in
    let out : is_pull a.line.asked ≡ false = ap (λ (l : ℕ × ScriptLine). is_pull l.1.asked) x.at in
    let all = subst (λ l. All (λ (d : Deed). is_pull d.line.asked ≡ false → HasEntry d) l) x.is (h.carried.clients.commands 1) in
    has_none a.position (command_of a.line.asked) (h.carried.clients.entries 1 (omega arith) ∙ ap asked_in x.is)
    (All-head (λ (d : Deed). is_pull d.line.asked ≡ false → HasEntry d) a [] all out)

two_spells : (most : ℕ) (beside later : List Spell) (s last : Spell) → beside ≡ s ∷ [] → 2 ≤ length (flat_map (spell_entries most) (beside ++ later ++ last ∷ []))
two_spells most beside later s last one =
    let f = spell_entries most in
    let len = λ (l : List (ℕ × Entry)). length l in
    let x = ap len (flat_map-append f (beside ++ later) (last ∷ [])) in
    let y = length-append (flat_map f (beside ++ later)) (flat_map f (last ∷ [])) in
    let z = ap len (flat_map-append f beside later) in
    let w = length-append (flat_map f beside) (flat_map f later) in
    let v = ap (λ l. length (flat_map f l)) one in
    omega (arith, x, y, z, w, v)

-- a round whose run was not opened
pub unopened_round : UnopenedRound → ⊥
unopened_round h =
    let driving = h.course.driving in
    let x = one_of (λ (s : Spell). s.round) driving.beside 0 h.carried.driver.slot_rounds_are in
    let many = two_spells 4 driving.beside driving.later x.one driving.last x.is in
    let few : 1 ≡ length (flat_map (spell_entries 4) (driving.beside ++ driving.later ++ driving.last ∷ [])) = ap (λ (l : List (ℕ × Entry)). length l) h.carried.driver.entries in
    omega (arith, many, few)

-- the deeds of a client with one line, where it has one entry
pub record IsEntered (journal : List Entry) (deeds : List Deed) (round : ℕ) (x : ScriptLine) (p : ℕ) : Type 0 where
  pub one : Deed
  pub is : deeds ≡ one ∷ []
  pub at : placed one ≡ (round, x)
  pub position : one.position ≡ Some p
  pub version : one.version ≡ version_after journal p

entered : (journal : List Entry) (deeds : List Deed) (round : ℕ) (x : ScriptLine) (p : ℕ) (k : Command) →
    map placed deeds ≡ (round, x) ∷ [] → (p, k) ∷ [] ≡ asked_in deeds → All (HasNewest journal) deeds → IsEntered journal deeds round x p
entered journal deeds round x p k lines asks newest =
    let d = one_of placed deeds (round, x) lines in
    let at = position_is d.one.position (command_of d.one.line.asked) p k (asks ∙ ap asked_in d.is) in
    let all = subst (All (HasNewest journal)) d.is newest in
    let v = subst (λ (o : Option ℕ). IfSome o (λ p. d.one.version ≡ version_after journal p)) at (All-head (HasNewest journal) d.one [] all) in
    record { one = d.one; is = d.is; at = d.at; position = at; version = v }

-- a fact of each deed of one round and each of a later one, at two clients with one line each
pair_fact : (R : Deed → Deed → Type 0) (xs ys : List Deed) (a b : Deed) (m n : ℕ) → xs ≡ a ∷ [] → ys ≡ b ∷ [] → a.round ≡ m → b.round ≡ n → m < n →
    All (λ (x : Deed). All (λ (y : Deed). x.round < y.round → R x y) ys) xs → R a b
pair_fact R xs ys a b m n one other at at' less all =
    let here = subst (λ l. All (λ (x : Deed). All (λ (y : Deed). x.round < y.round → R x y) ys) l) one all in
    let there = subst (λ l. All (λ (y : Deed). a.round < y.round → R a y) l) other
    (All-head (λ (x : Deed). All (λ (y : Deed). x.round < y.round → R x y) ys) a [] here) in
    All-head (λ (y : Deed). a.round < y.round → R a y) b [] there (omega (arith, at, at', less))

round_of : (d : Deed) (n : ℕ) (x : ScriptLine) → placed d ≡ (n, x) → d.round ≡ n
round_of d n x e = ap (λ (l : ℕ × ScriptLine). l.0) e

-- an entry before one of an earlier round
pub crossed_rounds : CrossedRounds → ⊥
crossed_rounds h =
    let deeds = h.course.deeds in
    let c = h.carried.clients in
    let x = entered crossed_journal (deeds 1) 0 (line 1 1 Ask.Publish) 2 Publish (c.lines 1) (c.entries 1 (omega arith)) (c.versions 1) in
    let y = entered crossed_journal (deeds 2) 1 (line 3 2 Ask.Publish) 1 Publish (c.lines 2) (c.entries 2 (omega arith)) (c.versions 2) in
    let Order : Deed → Deed → Type 0 = λ a b. IfSome a.position (λ p. IfSome b.position (λ q. p < q)) in
    let after = pair_fact Order (deeds 1) (deeds 2) x.one y.one 0 1 x.is y.is (round_of x.one 0 (line 1 1 Ask.Publish) x.at)
    (round_of y.one 1 (line 3 2 Ask.Publish) y.at) (omega arith) (h.carried.rounds.clients 1 2) in
    let first = subst (λ (o : Option ℕ). IfSome o (λ p. IfSome y.one.position (λ q. p < q))) x.position after in
    let less : 2 < 1 = subst (λ (o : Option ℕ). IfSome o (λ q. 2 < q)) y.position first in
    omega (arith, less)

-- a pull with an entry, whose version is not two above what came before
pub near_pull : NearPull → ⊥
near_pull h =
    let deeds = h.course.deeds in
    let c = h.carried.clients in
    let y = entered near_journal (deeds 2) 0 (line 2 2 (Ask.Pull 0)) 2 (Pull 0) (c.lines 2) (c.entries 2 (omega arith)) (c.versions 2) in
    let pull : IsPull y.one = ap (λ (l : ℕ × ScriptLine). is_pull l.1.asked) y.at in
    let has : HasEntry y.one = subst (λ (o : Option ℕ). IsSome o) (sym y.position) refl in
    let First : Deed → Type 0 = λ d. IsPull d → HasEntry d → 2 ≤ d.version in
    let far : 2 ≤ y.one.version = All-head First y.one [] (subst (All First) y.is (c.moved.first 2)) pull has in
    let new : y.one.version ≡ 1 = y.version in
    omega (arith, far, new)

none_before : (k : ℕ) (x : ℕ × Entry) → k < length (numbered unopened_journal) → slice_index_or (numbered unopened_journal) k x ≡ x → x.0 < 1 → ⊥
none_before zero x lt at less = omega (arith, ap {A = ℕ × Entry} (λ y. y.0) at, less)
none_before (suc zero) x lt at less = omega (arith, ap {A = ℕ × Entry} (λ y. y.0) at, less)
none_before (suc (suc k)) x lt at less = omega (arith, lt)

-- a version that was made in a later round
pub unmade_version : UnmadeVersion → ⊥
unmade_version h =
    let deeds = h.course.deeds in
    let c = h.carried.clients in
    let x = entered unopened_journal (deeds 1) 1 (line 3 1 Ask.Publish) 1 Publish (c.lines 1) (c.entries 1 (omega arith)) (c.versions 1) in
    let y = one_of placed (deeds 2) (0, line 1 2 (Ask.Pull 0)) (c.lines 2) in
    let out : is_pull x.one.line.asked ≡ false = ap (λ (l : ℕ × ScriptLine). is_pull l.1.asked) x.at in
    let pull : IsPull y.one = ap (λ (l : ℕ × ScriptLine). is_pull l.1.asked) y.at in
    let shows = told_is (two 16) unopened_journal (deeds 1) (deeds 2) x.one y.one (told 2 1 1 1 0) x.is y.is out pull h.told.pulls in
    let new : 1 ≡ y.one.version = ap (λ (t : PullLine). t.version) shows in
    let made = pair_fact (IsMadeFor unopened_journal) (deeds 2) (deeds 1) y.one x.one 0 1 y.is x.is (round_of y.one 0 (line 1 2 (Ask.Pull 0)) y.at)
    (round_of x.one 1 (line 3 1 Ask.Publish) x.at) (omega arith) (h.carried.pulls.made_for_rounds 2 1) pull (omega (arith, new)) in
    let found = subst (λ (o : Option ℕ). IfSome o (λ p. IsMadeBefore unopened_journal y.one.version p)) x.position made in
    none_before found.0 found.1 found.2 found.3 found.4.0
