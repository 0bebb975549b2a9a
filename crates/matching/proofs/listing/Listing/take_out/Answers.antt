use Rattle.std.proofs.Common.{◌≡◌, ◌<◌, List, ℕ, inl, inr, get_or, length, set, ap, sym, subst, ◌∙◌, arith}
use Rattle.std.specs.List.{remove}
use Rattle.std.proofs.lemmas.List.{get_or_default}
use Rattle.matching.specs.declared.ranks.Ranked.{Ranked}
use Rattle.matching.specs.Board.{no_rank, ranked_at}
use Rattle.matching.specs.Listing.{IsShown}
use Rattle.matching.proofs.ShownSteps.{finds, goes_out, misses_none}
use Rattle.matching.proofs.listing.Listing.take_out.Goals as goal

pub returns-in_default-clause-shown : goal.returns-in_default-clause-shown
returns-in_default-clause-shown c =
    let l = c.args.self.now in
    let ranks = c.args.ranks.now in
    let port = c.args.port in
    let low : port < length l.shown.items = omega (arith, c.requires.port, c.requires.room.shown) in
    let r = get_or l.shown.items port 0 in
    let rank_is : c.index-rank.result.now ≡ r = c.index-rank.ensures ∙ get_or_default l.shown.items port c.index-rank.result.now 0 low in
    let known : r < ranks.count = elim (c.requires.listed.side port low) [ inl none ↦ absurd (c.requires.some none) | inr (lt, _) ↦ lt ] in
    let fits : c.index-rank.result.now < length ranks.flows.items = omega (arith, rank_is, known, c.requires.ranks.fits) in
    let flow_is : c.index.result.now ≡ ranked_at ranks.flows.items r = c.index.ensures
    ∙ get_or_default ranks.flows.items c.index-rank.result.now c.index.result.now record { first = 0; second = 0; number = 0 } fits
    ∙ ap (ranked_at ranks.flows.items) rank_is in
    absurd (misses_none c.requires.listed port c.in_default.field-0 c.index.result.now.number c.deref.result.now c.deref.ensures.value
    low known (ap (λ (x : Ranked). x.number) flow_is) c.in_default.ensures.position)

pub returns-clause-listed : goal.returns-clause-listed
returns-clause-listed c =
    let l = c.args.self.now in
    let ranks = c.args.ranks.now in
    let port = c.args.port in
    let low : port < length l.shown.items = omega (arith, c.requires.port, c.requires.room.shown) in
    let r = get_or l.shown.items port 0 in
    let rank_is : c.index-rank.result.now ≡ r = c.index-rank.ensures ∙ get_or_default l.shown.items port c.index-rank.result.now 0 low in
    let known : r < ranks.count = elim (c.requires.listed.side port low) [ inl none ↦ absurd (c.requires.some none) | inr (lt, _) ↦ lt ] in
    let fits : c.index-rank.result.now < length ranks.flows.items = omega (arith, rank_is, known, c.requires.ranks.fits) in
    let flow_is : c.index.result.now ≡ ranked_at ranks.flows.items r = c.index.ensures
    ∙ get_or_default ranks.flows.items c.index-rank.result.now c.index.result.now record { first = 0; second = 0; number = 0 } fits
    ∙ ap (ranked_at ranks.flows.items) rank_is in
    let (lt, at) = finds c.requires.listed port c.in-Ok.place c.index.result.now.number c.deref.result.now c.deref.ensures.value
    low known (ap (λ (x : Ranked). x.number) flow_is) c.in-Ok.ensures.position in
    let out = goes_out c.requires.listed port c.in-Ok.place lt at c.requires.ranks.graph.few in
    subst (λ (xs : List ℕ). IsShown ranks (set l.shown.items port no_rank) xs c.remove-2.new.self.items) (sym c.remove.ensures.items)
    (subst (λ (ys : List ℕ). IsShown ranks (set l.shown.items port no_rank) (remove l.flows.items c.in-Ok.place) ys) (sym c.remove-2.ensures.items) out)
