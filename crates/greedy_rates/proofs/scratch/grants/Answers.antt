-- The tables and the list are what the pass and the listing wrote.
use Rattle.std.proofs.Common.{◌≡◌, ℕ, List, Option, Some, get_or, length, take, drop, ◌++◌, subst, sym, ap, ◌∙◌, arith}
use Rattle.coflow_units.specs.Grants.{IsGrants}
use Rattle.greedy_rates.specs.Room.{TellsIngresses, flow_at_ingress}
use Rattle.greedy_rates.specs.Pass.{IsGranting, IsListing}
use Rattle.coflow_units.proofs.Fronts.{written_back}
use Rattle.greedy_rates.proofs.LineSteps.{grants_are, ingresses_are, one_ingress, stands_within}
use Rattle.greedy_rates.proofs.scratch.grants.Goals as goal

pub tell_granted-granted-requires-clause-once : goal.tell_granted-granted-requires-clause-once
tell_granted-granted-requires-clause-once c =
    let at_is : c.deref.result.now ≡ c.grant_line.new.at =
    c.deref.ensures.value ∙ written_back c.scratch.inside.ingress.len c.grant_line.new.at c.scratch.inside.ingress.items (c.grant_line.ensures.at_len ∙ c.deref_mut.ensures.len)
    in
    one_ingress c.args.flows.now c.args.line.now (λ f. get_or c.args.left.now f 0) (length c.args.line.now) 0 c.deref.result.now c.grant_line.new.busy
    (subst (λ (xs : List (Option ℕ)). IsGranting c.args.flows.now c.args.line.now (λ f. get_or c.args.left.now f 0) (length c.args.line.now) 0 xs c.grant_line.new.busy) (sym at_is)
    c.grant_line.ensures.granting)

pub tell_granted-granted-requires-clause-flows : goal.tell_granted-granted-requires-clause-flows
tell_granted-granted-requires-clause-flows c = λ p f e.
    let at_is : c.deref.result.now ≡ c.grant_line.new.at =
    c.deref.ensures.value ∙ written_back c.scratch.inside.ingress.len c.grant_line.new.at c.scratch.inside.ingress.items (c.grant_line.ensures.at_len ∙ c.deref_mut.ensures.len)
    in
    let there : flow_at_ingress c.grant_line.new.at p ≡ Some f = ap (λ (xs : List (Option ℕ)). flow_at_ingress xs p) (sym at_is) ∙ e in
    omega (
      arith,
      c.requires.left,
      stands_within c.args.flows.now c.args.line.now (λ f. get_or c.args.left.now f 0) (length c.args.line.now) 0 c.grant_line.new.at
          c.grant_line.new.busy p f c.grant_line.ensures.granting there,
    )

pub returns-clause-grants : goal.returns-clause-grants
returns-clause-grants c =
    let n = c.tell_granted-granted.result.count in
    let listed = c.tell_granted-granted.new.listed in
    let at_is : c.deref.result.now ≡ c.grant_line.new.at =
    c.deref.ensures.value ∙ written_back c.scratch.inside.ingress.len c.grant_line.new.at c.scratch.inside.ingress.items (c.grant_line.ensures.at_len ∙ c.deref_mut.ensures.len)
    in
    let listing = subst (λ (xs : List (Option ℕ)). IsListing xs (length xs) (take n listed)) at_is c.tell_granted-granted.ensures.listing in
    subst (λ (xs : List ℕ). IsGrants c.args.flows.now c.args.line.now (λ f. get_or c.args.left.now f 0) (take n xs))
    (sym (written_back c.scratch.inside.listed.len listed c.scratch.inside.listed.items (c.tell_granted-granted.ensures.len ∙ c.deref_mut-3.ensures.len)))
    (grants_are c.args.flows.now c.args.line.now (λ f. get_or c.args.left.now f 0) c.grant_line.new.at c.grant_line.new.busy (take n listed) c.grant_line.ensures.granting listing
    c.tell_granted-granted.ensures.ascending)

pub returns-clause-at : goal.returns-clause-at
returns-clause-at c =
    let n = c.tell_granted-granted.result.count in
    let listed = c.tell_granted-granted.new.listed in
    let at_back = written_back c.scratch.inside.ingress.len c.grant_line.new.at c.scratch.inside.ingress.items (c.grant_line.ensures.at_len ∙ c.deref_mut.ensures.len) in
    let listed_back = written_back c.scratch.inside.listed.len listed c.scratch.inside.listed.items (c.tell_granted-granted.ensures.len ∙ c.deref_mut-3.ensures.len) in
    let listing = subst (λ (xs : List (Option ℕ)). IsListing xs (length xs) (take n listed)) (c.deref.ensures.value ∙ at_back) c.tell_granted-granted.ensures.listing in
    let tells = ingresses_are c.args.flows.now c.args.line.now (λ f. get_or c.args.left.now f 0) (length c.args.line.now) 0 c.grant_line.new.at c.grant_line.new.busy
    (take n listed) c.grant_line.ensures.granting listing in
    subst (λ (xs : List (Option ℕ)). TellsIngresses c.args.flows.now (take n (take c.scratch.inside.listed.len (listed ++ drop (length listed) c.scratch.inside.listed.items))) xs)
    (sym at_back)
    (subst (λ (xs : List ℕ). TellsIngresses c.args.flows.now (take n xs) c.grant_line.new.at) (sym listed_back) tells)
