use Rattle.std.proofs.Common.{◌≡◌, ◌∙◌, List, ap, length, subst, sym, ℕ}
use Rattle.std.specs.Prelude.{All}
use Rattle.std.proofs.lemmas.Result.{IfOk-weaker}
use Rattle.flow_table.specs.Table.{instance_of}
use Rattle.rankers.specs.Ends.{AreSecondEnds}
use Rattle.rankers.specs.FactsTold.{coflows_in}
use Rattle.picture_cli.specs.Policies.{HasEnds, rankers_for}
use Rattle.picture_cli.proofs.PolicyFacts.{five_own, policies_are, row_ends}
use Rattle.picture_cli.proofs.policies.policies_in.Goals as goal

pub policies_by-requires-clause-each : goal.policies_by-requires-clause-each
policies_by-requires-clause-each c =
    let t = c.args.table.now in
    let ws = c.args.weights.now in
    let facts = c.in_ok-facts.facts in
    let rows = c.in_ok-rows.rows.items in
    let told = c.in_ok-facts.ensures in
    let fit = c.in_ok-rows.ensures.fit in
    let ends = subst (λ (w : List ℕ). AreSecondEnds (instance_of t w) facts (rankers_for (length t.ids)) rows) told.weights_are c.in_ok-rows.ensures.ends in
    let same : length t.ids ≡ coflows_in facts = sym (ap (λ (l : List ℕ). length l) told.weights_are ∙ c.requires.count) in
    subst (λ (n : ℕ). All (HasEnds n) rows) (sym c.requires.count)
    (row_ends t ws facts c.requires.table fit same c.requires.count c.requires.some (rankers_for (length t.ids)) rows
    (five_own t ws facts c.requires.table fit same c.requires.count c.requires.some) ends)

pub returns-clause-policies : goal.returns-clause-policies
returns-clause-policies c =
    let t = c.args.table.now in
    let ws = c.args.weights.now in
    let facts = c.in_ok-facts.facts in
    let rows = c.in_ok-rows.rows.items in
    let told = c.in_ok-facts.ensures in
    let fit = c.in_ok-rows.ensures.fit in
    let ends = subst (λ (w : List ℕ). AreSecondEnds (instance_of t w) facts (rankers_for (length t.ids)) rows) told.weights_are c.in_ok-rows.ensures.ends in
    let same : length t.ids ≡ coflows_in facts = sym (ap (λ (l : List ℕ). length l) told.weights_are ∙ c.requires.count) in
    IfOk-weaker c.policies_by.result _ _ (λ xs shown. (
      facts,
      fit,
      told,
      (policies_are t ws facts c.requires.table fit same c.requires.count c.requires.some (rankers_for (length t.ids)) rows xs.items ends shown).0,
    )) c.policies_by.ensures

pub returns-clause-ready : goal.returns-clause-ready
returns-clause-ready c =
    let t = c.args.table.now in
    let ws = c.args.weights.now in
    let facts = c.in_ok-facts.facts in
    let rows = c.in_ok-rows.rows.items in
    let told = c.in_ok-facts.ensures in
    let fit = c.in_ok-rows.ensures.fit in
    let ends = subst (λ (w : List ℕ). AreSecondEnds (instance_of t w) facts (rankers_for (length t.ids)) rows) told.weights_are c.in_ok-rows.ensures.ends in
    let same : length t.ids ≡ coflows_in facts = sym (ap (λ (l : List ℕ). length l) told.weights_are ∙ c.requires.count) in
    IfOk-weaker c.policies_by.result _ _ (λ xs shown.
    (policies_are t ws facts c.requires.table fit same c.requires.count c.requires.some (rankers_for (length t.ids)) rows xs.items ends shown).1) c.policies_by.ensures
