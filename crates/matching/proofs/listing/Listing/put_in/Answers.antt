use Rattle.std.proofs.Common.{◌≡◌, ◌<◌, List, ℕ, length, set, ap, sym, subst, ◌∙◌, arith}
use Rattle.std.specs.List.{insert}
use Rattle.std.proofs.lemmas.List.{get_or_default}
use Rattle.matching.specs.declared.ranks.Ranked.{Ranked}
use Rattle.matching.specs.Board.{ranked_at}
use Rattle.matching.specs.Listing.{IsShown}
use Rattle.matching.specs.Ranking.{number_of}
use Rattle.matching.proofs.ShownSteps.{finds_none, goes_in, has_space, place_found}
use Rattle.matching.proofs.listing.Listing.put_in.Goals as goal

pub put_at-requires-clause-room : goal.put_at-requires-clause-room
put_at-requires-clause-room c =
    let low : c.args.port < length c.args.self.now.shown.items = omega (arith, c.requires.port, c.requires.room.shown) in
    let space = has_space c.requires.listed c.args.port low c.requires.none c.requires.ranks.graph.few in
    omega (arith, space, c.requires.room.shown, c.requires.room.flows)

pub put_at-requires-2-clause-room : goal.put_at-requires-2-clause-room
put_at-requires-2-clause-room c =
    let low : c.args.port < length c.args.self.now.shown.items = omega (arith, c.requires.port, c.requires.room.shown) in
    let space = has_space c.requires.listed c.args.port low c.requires.none c.requires.ranks.graph.few in
    omega (arith, space, c.requires.room.shown, c.requires.room.ports, c.requires.listed.size)

pub returns-clause-listed : goal.returns-clause-listed
returns-clause-listed c =
    let l = c.args.self.now in
    let ranks = c.args.ranks.now in
    let port = c.args.port in
    let rank = c.args.rank in
    let place = c.in-Err.place in
    let low : port < length l.shown.items = omega (arith, c.requires.port, c.requires.room.shown) in
    let fits : rank < length ranks.flows.items = omega (arith, c.requires.rank, c.requires.ranks.fits) in
    let flow_is : c.index.result.now ≡ ranked_at ranks.flows.items rank =
    c.index.ensures ∙ get_or_default ranks.flows.items rank c.index.result.now record { first = 0; second = 0; number = 0 } fits in
    let number_is : c.index.result.now.number ≡ number_of ranks rank = ap (λ (x : Ranked). x.number) flow_is in
    let at = place_found c.requires.listed rank place c.index.result.now.number c.deref.result.now c.deref.ensures.value number_is c.in-Err.ensures.position in
    let in' = goes_in c.requires.listed port rank place at low c.requires.none c.requires.ranks.graph.few c.requires.rank c.requires.first in
    let flows : c.put_at.new.list.items ≡ insert l.flows.items place (number_of ranks rank) =
    c.put_at.ensures.items ∙ ap (insert l.flows.items place) number_is in
    subst (λ (xs : List ℕ). IsShown ranks (set l.shown.items port rank) xs c.put_at-2.new.list.items) (sym flows)
    (subst (λ (ys : List ℕ). IsShown ranks (set l.shown.items port rank) (insert l.flows.items place (number_of ranks rank)) ys) (sym c.put_at-2.ensures.items) in')

pub returns-in_default-clause-shown : goal.returns-in_default-clause-shown
returns-in_default-clause-shown c =
    let ranks = c.args.ranks.now in
    let fits : c.args.rank < length ranks.flows.items = omega (arith, c.requires.rank, c.requires.ranks.fits) in
    let flow_is : c.index.result.now ≡ ranked_at ranks.flows.items c.args.rank =
    c.index.ensures ∙ get_or_default ranks.flows.items c.args.rank c.index.result.now record { first = 0; second = 0; number = 0 } fits in
    absurd (finds_none c.requires.listed c.args.port c.args.rank c.in_default.field-0 c.index.result.now.number c.deref.result.now c.deref.ensures.value c.requires.ranks
    c.requires.none c.requires.rank c.requires.first (ap (λ (x : Ranked). x.number) flow_is) c.in_default.ensures.position)
