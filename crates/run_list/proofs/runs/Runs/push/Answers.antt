use Rattle.std.proofs.Common.{◌≡◌, ◌+◌, ◌++◌, ◌∷◌, ◌∙◌, ℕ, List, [], length, drop, take, ap, subst, arith, rules}
use Rattle.std.specs.List.Sorted.{IsStrictlyIncreasing}
use Rattle.coflow_units.specs.declared.plan.Run.{Run}
use Rattle.run_list.specs.declared.mark.Mark.{Mark}
use Rattle.run_list.specs.Kept.{flows_of, runs_of}
use Rattle.run_list.specs.Runs.{run_of}
use Rattle.run_list.proofs.Keeping.{IsKept-push, runs_after}
use Rattle.run_list.proofs.runs.Runs.push.Goals as goal

pub invariant_of-self-2 : goal.invariant_of-self-2
invariant_of-self-2 c =
    let kept = c.self.inside in
    let mark = c.in_ok-mark.mark in
    let flows = c.args.flows.now in
    let news = c.tell.new.numbers.items in
    let more = drop (length kept.numbers.items) news in
    let wide = c.max-self-inside.result in
    let above = c.max-self-inside-2.result in
    let ascends : IsStrictlyIncreasing (drop (length kept.numbers.items) news) = c.in_ok-mark.ensures.ascending in
    let front : take (length kept.numbers.items) news ≡ kept.numbers.items = c.in_ok-mark.ensures.front in
    let size : length kept.numbers.items + mark.size ≡ length news = c.in_ok-mark.ensures.size in
    let lent : flows_of c.deref.result.now mark more ≡ flows = c.in_ok-mark.ensures.told in
    let told : flows_of kept.last.items mark more ≡ flows = subst (λ (before : List ℕ). flows_of before mark more ≡ flows) c.deref.ensures.value lent in
    let marked : c.push_reserved.new.self.items ≡ kept.marks.items ++ mark ∷ [] = search rules in
    let filled : c.swap.new.x.items ≡ flows = search rules in
    rw (marked, filled)
    (IsKept-push kept.marks.items kept.numbers.items kept.last.items kept.widest kept.bound mark flows news wide above c.self.invariant front size told c.requires
    ascends (omega (arith, c.max-self-inside.ensures)) (omega (arith, c.max-self-inside.ensures)) (omega (arith, c.max-self-inside-2.ensures))
    (λ k d lt. omega (arith, c.max-self-inside-2.ensures, c.bound_of.ensures k d lt)))

pub returns-clause-pushed : goal.returns-clause-pushed
returns-clause-pushed c =
    let kept = c.self.inside in
    let mark = c.in_ok-mark.mark in
    let flows = c.args.flows.now in
    let news = c.tell.new.numbers.items in
    let more = drop (length kept.numbers.items) news in
    let front : take (length kept.numbers.items) news ≡ kept.numbers.items = c.in_ok-mark.ensures.front in
    let slots : mark.slots ≡ c.args.slots = c.in_ok-mark.ensures.slots in
    let lent : flows_of c.deref.result.now mark more ≡ flows = c.in_ok-mark.ensures.told in
    let told : flows_of kept.last.items mark more ≡ flows = subst (λ (before : List ℕ). flows_of before mark more ≡ flows) c.deref.ensures.value lent in
    let marked : c.push_reserved.new.self.items ≡ kept.marks.items ++ mark ∷ [] = search rules in
    ap (λ (marks : List Mark). runs_of [] marks news) marked
    ∙ runs_after kept.marks.items kept.numbers.items kept.last.items kept.widest kept.bound mark flows news c.self.invariant front told
    ∙ ap (λ (runs : List Run). runs ++ run_of mark.slots flows ∷ []) c.self.view_is
    ∙ ap (λ (n : ℕ). c.args.self.now ++ run_of n flows ∷ []) slots
