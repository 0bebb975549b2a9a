-- Pulls that are refused: they have an entry, though one version alone was made since what their client had met.
use Rattle.std.proofs.Common.{◌≡◌, ℕ, ◌+◌, ◌≤◌, ◌<◌, List, [], ◌∷◌, ◌++◌, length, map, refl, sym, ap, subst, ◌∙◌, arith}
use Rattle.std.proofs.Common.{Option, Some, None}
use Rattle.std.specs.Prelude.{All, AllPairs}
use Rattle.std.specs.List.{slice_index_or}
use Rattle.std.specs.Option.{IfSome, IsSome}
use Rattle.std.proofs.lemmas.List.Elements.{All-head}
use Rattle.journal.specs.declared.command.Command.{Command}
use Rattle.journal.specs.declared.command.Command.TheVariants.{Publish, Pull}
use Rattle.journal.specs.declared.command.Entry.{Entry}
use Rattle.workload.specs.declared.script.Asked.TheVariants as Ask
use Rattle.workload.specs.declared.script.ScriptLine.{ScriptLine}
use Rattle.live_model.specs.Script.{command_of, is_pull}
use Rattle.live_model.specs.Deeds.{asked_at, asked_in, Deed, HasEntry, HasNewest, IsPull, IsTwoAbove, version_after}
use Rattle.live_model.specs.Rows.{line}
use Rattle.live_model.proofs.Damaged.{one_of, placed, position_is}
use Rattle.live_model.specs.RefusedRows.{near_line_journal, near_round_journal, NearLine, NearRound}

-- deeds that are two, in the places of these lines
record AreTwo (ds : List Deed) (x y : ℕ × ScriptLine) : Type 0 where
  first : Deed
  second : Deed
  are : ds ≡ first ∷ second ∷ []
  second_at : placed second ≡ y

two_deeds : (ds : List Deed) (x y : ℕ × ScriptLine) → map placed ds ≡ x ∷ y ∷ [] → AreTwo ds x y
two_deeds [] x y e = absurd (omega (arith, ap (λ (l : List (ℕ × ScriptLine)). length l) e))
two_deeds (a ∷ []) x y e = absurd (omega (arith, ap (λ (l : List (ℕ × ScriptLine)). length l) e))
two_deeds (a ∷ b ∷ []) x y e = record { first = a; second = b; are = refl; second_at = ap (λ (l : List (ℕ × ScriptLine)). slice_index_or l 1 y) e }
two_deeds (a ∷ b ∷ c ∷ ds) x y e = absurd (omega (arith, ap (λ (l : List (ℕ × ScriptLine)). length l) e))

abbrev position_in : List (ℕ × Command) → ℕ → ℕ
position_in l i = (slice_index_or {A = ℕ × Command} l i (0, Publish)).0

-- two entries of two lines
two_positions : (o o' : Option ℕ) (k k' m m' : Command) (p q : ℕ) → (p, m) ∷ (q, m') ∷ [] ≡ asked_at o k ++ (asked_at o' k' ++ []) → (o ≡ Some p) × (o' ≡ Some q)
two_positions None None k k' m m' p q e = absurd (omega (arith, ap (λ (l : List (ℕ × Command)). length l) e))
two_positions None (Some r) k k' m m' p q e = absurd (omega (arith, ap (λ (l : List (ℕ × Command)). length l) e))
two_positions (Some r) None k k' m m' p q e = absurd (omega (arith, ap (λ (l : List (ℕ × Command)). length l) e))
two_positions (Some r) (Some s) k k' m m' p q e = (ap Some (sym (ap (λ l. position_in l 0) e)), ap Some (sym (ap (λ l. position_in l 1) e)))

newest_at : (journal : List Entry) (d : Deed) (p version : ℕ) → d.position ≡ Some p → version_after journal p ≡ version → HasNewest journal d → d.version ≡ version
newest_at journal d p version at e h = subst (λ (o : Option ℕ). IfSome o (λ p. d.version ≡ version_after journal p)) at h ∙ e

has_entry : (d : Deed) (p : ℕ) → d.position ≡ Some p → HasEntry d
has_entry d p at = subst (λ (o : Option ℕ). IsSome o) (sym at) refl

-- one version above the client's own publishing
pub near_line : NearLine → ⊥
near_line h =
    let J = near_line_journal in
    let c = h.carried.clients in
    let x = two_deeds (h.course.deeds 1) (0, line 1 1 Ask.Publish) (0, line 2 1 (Ask.Pull 0)) (c.lines 1) in
    let a = x.first in
    let b = x.second in
    let pull : IsPull b = ap (λ (l : ℕ × ScriptLine). is_pull l.1.asked) x.second_at in
    let at = two_positions a.position b.position (command_of a.line.asked) (command_of b.line.asked) Publish (Pull 0) 1 3 (c.entries 1 (omega arith) ∙ ap asked_in x.are) in
    let newest : All (HasNewest J) (a ∷ b ∷ []) = subst (All (HasNewest J)) x.are (c.versions 1) in
    let low : a.version ≡ 1 = newest_at J a 1 1 at.0 refl (newest 0 a (omega arith)) in
    let high : b.version ≡ 2 = newest_at J b 3 2 at.1 refl (newest 1 b (omega arith)) in
    let far : a.version + 2 ≤ b.version = subst (AllPairs IsTwoAbove) x.are (c.moved.lines 1) 0 1 a (omega arith) (omega arith) pull (has_entry b 3 at.1) in
    omega (arith, low, high, far)

-- a client with one line and one entry
record IsDone (journal : List Entry) (ds : List Deed) (round : ℕ) (x : ScriptLine) (p version : ℕ) : Type 0 where
  deed : Deed
  is : ds ≡ deed ∷ []
  at : placed deed ≡ (round, x)
  position : deed.position ≡ Some p
  newest : deed.version ≡ version

done : (journal : List Entry) (ds : List Deed) (round : ℕ) (x : ScriptLine) (p version : ℕ) (k : Command) → version_after journal p ≡ version →
    map placed ds ≡ (round, x) ∷ [] → (p, k) ∷ [] ≡ asked_in ds → All (HasNewest journal) ds → IsDone journal ds round x p version
done journal ds round x p version k e lines asks newest =
    let d = one_of placed ds (round, x) lines in
    let at = position_is d.one.position (command_of d.one.line.asked) p k (asks ∙ ap asked_in d.is) in
    record {
      deed = d.one;
      is = d.is;
      at = d.at;
      position = at;
      newest = newest_at journal d.one p version at e (All-head (HasNewest journal) d.one [] (subst (All (HasNewest journal)) d.is newest));
    }

-- a fact across rounds, of two clients with one line each
later_fact : (R : Deed → Deed → Type 0) (xs ys : List Deed) (a b : Deed) → xs ≡ a ∷ [] → ys ≡ b ∷ [] → a.round < b.round →
    All (λ (x : Deed). All (λ (y : Deed). x.round < y.round → R x y) ys) xs → R a b
later_fact R xs ys a b one other less all =
    let Later : Deed → Type 0 = λ x. All (λ (y : Deed). x.round < y.round → R x y) ys in
    let here : Later a = All-head Later a [] (subst (All Later) one all) in
    All-head (λ (y : Deed). a.round < y.round → R a y) b [] (subst (All (λ (y : Deed). a.round < y.round → R a y)) other here) less

-- one version above an entry of the round before
pub near_round : NearRound → ⊥
near_round h =
    let J = near_round_journal in
    let deeds = h.course.deeds in
    let c = h.carried.clients in
    let x = done J (deeds 1) 0 (line 1 1 Ask.Publish) 1 1 Publish refl (c.lines 1) (c.entries 1 (omega arith)) (c.versions 1) in
    let y = done J (deeds 2) 1 (line 3 2 (Ask.Pull 0)) 3 2 (Pull 0) refl (c.lines 2) (c.entries 2 (omega arith)) (c.versions 2) in
    let a = x.deed in
    let b = y.deed in
    let pull : IsPull b = ap (λ (l : ℕ × ScriptLine). is_pull l.1.asked) y.at in
    let less : a.round < b.round = omega (arith, ap (λ (l : ℕ × ScriptLine). l.0) x.at, ap (λ (l : ℕ × ScriptLine). l.0) y.at) in
    let far : a.version + 2 ≤ b.version = later_fact (λ a b. HasEntry a → IsTwoAbove a b) (deeds 1) (deeds 2) a b x.is y.is less (c.moved.rounds 1 2)
    (has_entry a 1 x.position) pull (has_entry b 3 y.position) in
    omega (arith, x.newest, y.newest, far)
