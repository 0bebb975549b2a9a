use Rattle.std.proofs.Common.{◌≡◌, ◌∙◌, ◌<◌, ℕ, ap, arith, length, subst, sym}
use Rattle.std.specs.Prelude.{All}
use Rattle.picture.specs.Policies.{IsReady}
use Rattle.picture.specs.declared.policies_value.Policy.{Policy}
use Rattle.picture_cli.proofs.PolicyFacts.{costs_above, costs_small, few_with_units, shows_by, some_units}
use Rattle.picture_cli.specs.Policies.{coflows_with_units, rankers_for}
use Rattle.picture_cli.proofs.policies.picture_in.Goals.{After-from-coflows}
use Rattle.picture_cli.proofs.policies.picture_in.Goals as goal

-- the number of the first policy is that of the coflows that have units
counted : (c : After-from-coflows) → c.from-coflows.result ≡ coflows_with_units c.args.table.now
counted c =
    let first : 0 < length c.in_ok-policies.policies.items = omega (arith, c.in_ok-policies.ensures.five) in
    c.from-coflows.ensures ∙ ap (λ (x : Policy). x.times.count) c.index.ensures ∙ (c.in_ok-policies.ensures.ready 0 c.index.result.now first).each

pub policies_picture_of-requires-clause-coflows : goal.policies_picture_of-requires-clause-coflows
policies_picture_of-requires-clause-coflows c =
    omega (arith, counted (goal.at.policies_picture_of-requires-clause-coflows c).After-from-coflows, some_units c.args.table.now c.requires.table c.requires.some)

pub policies_picture_of-requires-clause-few_coflows : goal.policies_picture_of-requires-clause-few_coflows
policies_picture_of-requires-clause-few_coflows c =
    omega (arith, counted (goal.at.policies_picture_of-requires-clause-few_coflows c).After-from-coflows, few_with_units c.args.table.now c.requires.table)

pub policies_picture_of-requires-clause-ready : goal.policies_picture_of-requires-clause-ready
policies_picture_of-requires-clause-ready c =
    subst (λ (n : ℕ). All (IsReady n) c.in_ok-policies.policies.items) (sym (counted (goal.at.policies_picture_of-requires-clause-ready c).After-from-coflows))
    c.in_ok-policies.ensures.ready

pub policies_picture_of-requires-clause-above : goal.policies_picture_of-requires-clause-above
policies_picture_of-requires-clause-above c =
    let (facts, fit, told, policies) = c.in_ok-policies.ensures.policies in
    costs_above _ facts c.in_ok-bound.bound (rankers_for (length c.args.table.now.ids)) c.in_ok-policies.policies.items c.in_ok-bound.ensures policies

pub policies_picture_of-requires-clause-small : goal.policies_picture_of-requires-clause-small
policies_picture_of-requires-clause-small c =
    let (facts, fit, told, policies) = c.in_ok-policies.ensures.policies in
    costs_small c.args.table.now c.args.weights.now facts (rankers_for (length c.args.table.now.ids)) c.in_ok-policies.policies.items c.requires.table c.requires.weights policies

pub returns-clause-shows : goal.returns-clause-shows
returns-clause-shows c =
    let (facts, fit, told, policies) = c.in_ok-policies.ensures.policies in
    shows_by c.args.table.now c.args.weights.now facts c.in_ok-policies.policies.items c.from-coflows.result c.in_ok-bound.bound c.policies_picture_of.result fit told policies
    c.in_ok-bound.ensures (counted (goal.at.returns-clause-shows c).After-from-coflows) c.policies_picture_of.ensures.shows
