-- Lines of pulls that are refused: another rank, a version that was never made, and a line that is missing.
use Rattle.std.proofs.Common.{◌≡◌, ℕ, ◌+◌, ◌≤◌, inl, inr, Bool, true, false, List, [], ◌∷◌, ◌++◌, length, map, refl}
use Rattle.std.proofs.Common.{sym, ap, subst, ◌∙◌, arith, cond, suc}
use Rattle.std.specs.Prelude.{All}
use Rattle.std.specs.List.{filter, slice_index_or}
use Rattle.std.proofs.lemmas.Bool.{cases_Bool}
use Rattle.std.proofs.lemmas.List.Elements.{All-cons, All-from_recursion, All-head, All-nil, All-tail}
use Rattle.journal.specs.Chosen.{the_grants, the_ordering}
use Rattle.journal.specs.declared.command.Entry.{Entry}
use Rattle.journal.specs.declared.opening.Opening.{Opening}
use Rattle.journal.specs.Journal.{rank_of}
use Rattle.journal.specs.Rows.{two}
use Rattle.live_text.specs.declared.value.PullLine.{PullLine}
use Rattle.workload.specs.declared.script.ScriptLine.{ScriptLine}
use Rattle.live_model.specs.Script.{coflow_pulled, is_pull, lines_of}
use Rattle.live_model.specs.Deeds.{Deed, IsPull}
use Rattle.live_model.specs.Printed.{told_pull, told_pulls}
use Rattle.live_model.specs.Rows.{alone, alone_journal, told, unopened_journal}
use Rattle.journal.proofs.Replies.{no_way as no}
use Rattle.live_model.proofs.Damaged.{placed}
use Rattle.live_model.specs.RefusedRows.{MissingPull, OtherRank, UnknownVersion}

-- the line is a pull
abbrev asks_rank : ℕ × ScriptLine → Bool
asks_rank x = is_pull x.1.asked

-- each deed that is a pull has a line
lines_counted : (o : Opening) (journal : List Entry) (ds : List Deed) → length (told_pulls o journal ds) ≡ length (filter asks_rank (map placed ds))
lines_counted o journal [] = refl
lines_counted o journal (d ∷ ds) = elim (cases_Bool (is_pull d.line.asked)) [
  | inl e ↦ (rw e (ap suc (lines_counted o journal ds)))
  | inr e ↦ (rw e (lines_counted o journal ds))
]

counted_with : (xs : List PullLine) (n : ℕ) → length xs ≡ n + 1 → [] ≡ xs ++ [] → ⊥
counted_with [] n e e' = omega (arith, e)
counted_with (x ∷ xs) n e e' = omega (arith, ap (λ (l : List PullLine). length l) e')

pub missing_pull : MissingPull → ⊥
missing_pull h =
    let deeds = h.course.deeds 1 in
    let one : length (told_pulls (two 16) alone_journal deeds) ≡ 1 =
    lines_counted (two 16) alone_journal deeds ∙ ap (λ (l : List (ℕ × ScriptLine)). length (filter asks_rank l)) (h.carried.clients.lines 1) in
    counted_with (told_pulls (two 16) alone_journal deeds) 0 one h.told.pulls

-- a single line is that of the deed, where it is a pull, and else stands among those of the rest
told_by : (f : Deed → PullLine) (d : Deed) (rest : List Deed) (t : PullLine) (P : Type 0) (b : Bool) → (b ≡ true → t ≡ f d → P) → (t ∷ [] ≡ map f rest ++ [] → P) →
    t ∷ [] ≡ map f (cond b (d ∷ rest) rest) ++ [] → P
told_by f d rest t P true here there e = here refl (ap (λ l. slice_index_or l 0 t) e)
told_by f d rest t P false here there e = there e

-- what each deed that is a pull gives to its line holds of a single line
of_line : (o : Opening) (journal : List Entry) (P : Deed → Type 0) (Q : PullLine → Type 0) (ds : List Deed) (t : PullLine) →
    ((d : Deed) → IsPull d → P d → Q (told_pull o journal d)) → All P ds → t ∷ [] ≡ told_pulls o journal ds ++ [] → Q t
of_line o journal P Q [] t gives all e = absurd (omega (arith, ap (λ (l : List PullLine). length l) e))
of_line o journal P Q (d ∷ ds) t gives all e =
    told_by (told_pull o journal) d (filter (λ (d : Deed). is_pull d.line.asked) ds) t (Q t) (is_pull d.line.asked)
    (λ in' x. subst Q (sym x) (gives d in' (All-head P d ds all))) (λ e'. of_line o journal P Q ds t gives (All-tail P d ds all) e') e

-- the line is a pull of this coflow, or no pull
abbrev Asks : ℕ → ℕ × ScriptLine → Type 0
Asks c x = asks_rank x ≡ true → coflow_pulled x.1.asked ≡ c

of_deeds : (c : ℕ) (ds : List Deed) → All (Asks c) (map placed ds) → All (λ (d : Deed). Asks c (placed d)) ds
of_deeds c [] all = All-nil (λ (d : Deed). Asks c (placed d))
of_deeds c (d ∷ ds) all = All-cons (λ (d : Deed). Asks c (placed d)) d ds (All-head (Asks c) (placed d) (map placed ds) all)
    (of_deeds c ds (All-tail (Asks c) (placed d) (map placed ds) all))

pub other_rank : OtherRank → ⊥
unfolding the_ordering the_grants
other_rank h =
    let o = two 16 in
    let asks : All (Asks 1) (lines_of alone) = All-from_recursion (Asks 1) (lines_of alone) ((λ p. no p), ((λ p. no p), ((λ p. no p), ((λ p. refl), tt)))) in
    let all : All (Asks 1) (map placed (h.course.deeds 1)) = subst (All (Asks 1)) (sym (h.carried.clients.lines 1)) asks in
    let e : ◌≡◌ {A = ℕ} 2 1 = of_line o alone_journal (λ (d : Deed). Asks 1 (placed d)) (λ (t : PullLine). t.rank ≡ rank_of o alone_journal t.version 1) (h.course.deeds 1)
    (told 1 4 2 1 2) (λ d in' is. ap (rank_of o alone_journal d.version) (is in')) (of_deeds 1 (h.course.deeds 1) all) h.told.pulls in
    omega (arith, e)

pub unknown_version : UnknownVersion → ⊥
unknown_version h =
    let few : 2 ≤ 1 = of_line (two 14) unopened_journal (λ (d : Deed). d.version ≤ 1) (λ (t : PullLine). t.version ≤ 1) (h.course.deeds 1) (told 1 2 1 2 0)
    (λ d in' le. le) (h.carried.pulls.known 1) h.told.pulls in
    omega (arith, few)
