use Rattle.std.proofs.Common.{◌≡◌, ℕ, List, map, ap, sym, subst, ◌∙◌}
use Rattle.matching.specs.Listing.{IsShown}
use Rattle.matching.proofs.AnewSteps.{flow_of, port_of, sorted_shown}
use Rattle.matching.proofs.listing.Listing.list_anew.Goals as goal

pub returns-clause-listed : goal.returns-clause-listed
returns-clause-listed c =
    let ranks = c.args.ranks.now in
    let at = c.args.at.now in
    let sorted = c.sort_by_flow.new.pairs.items in
    let shown = sorted_shown ranks at c.collect.new.pairs.items sorted c.requires.side c.collect.ensures.collected c.sort_by_flow.ensures.moved c.sort_by_flow.ensures.sorted in
    let flows : c.split.new.flows.items ≡ map flow_of sorted = c.split.ensures.flows ∙ ap (map flow_of) c.deref.ensures.value in
    let ports : c.split.new.ports.items ≡ map port_of sorted = c.split.ensures.ports ∙ ap (map port_of) c.deref.ensures.value in
    subst (λ (xs : List ℕ). IsShown ranks xs c.split.new.flows.items c.split.new.ports.items) (sym c.copy_from_slice.ensures.items)
    (subst (λ (xs : List ℕ). IsShown ranks at xs c.split.new.ports.items) (sym flows) (subst (λ (xs : List ℕ). IsShown ranks at (map flow_of sorted) xs) (sym ports) shown))
