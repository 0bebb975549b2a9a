use Rattle.std.proofs.Common.{◌≡◌, ◌<◌, ℕ, List, Contains, length, take, get_or, subst, sym, ap, ◌∙◌, arith}
use Rattle.coflow_units.proofs.Sums.{nothing_in}
use Rattle.matching.specs.declared.heads.Heads.{Heads}
use Rattle.matching.specs.declared.ranks.Ranks.{Ranks}
use Rattle.matching.specs.Board.{graph_of, Stands}
use Rattle.matching.specs.Kept.{IsLined}
use Rattle.matching.specs.Listing.{HasListingRoom, IsFirstSide}
use Rattle.matching.specs.Ranking.{number_of}
use Rattle.matching.specs.Sound.{left_at}
use Rattle.matching.proofs.EndSteps.{same_kept}
use Rattle.matching.proofs.RowSteps.{IsSameOwing}
use Rattle.matching.proofs.KeptSteps.{kept_is_granted}
use Rattle.matching.proofs.MatchingSteps.{first_side, shown_told}
use Rattle.matching.proofs.RunSteps.{told_at}
use Rattle.matching.proofs.tables.Tables.repair.Goals as goal

pub update-requires-clause-side : goal.update-requires-clause-side
update-requires-clause-side c =
    let m = c.settle.new.self in
    subst (λ (xs : List ℕ). IsFirstSide m.ranks (take m.ranks.ports xs)) (sym c.deref.ensures.value)
    (first_side m.ranks m.board.at.items c.settle.ensures.sound.ranks c.settle.ensures.sound.board)

pub returns-clause-settled : goal.returns-clause-settled
returns-clause-settled c = λ flows line left m.
    let now = c.settle.new.self in
    let g = graph_of now.ranks in
    let s = c.settle.ensures.sound in
    let listing = c.update.new.self in
    let at = now.board.at.items in
    let e = c.settle.ensures.ranks in
    let shown = c.update.ensures.shown ∙ ap (λ (xs : List ℕ). take now.ranks.ports xs) c.deref.ensures.value in
    let told = shown_told now.ranks at listing.shown.items listing.flows.items listing.ports.items s.ranks s.board shown c.update.ensures.listed in
    let lined = subst (λ (x : Ranks). IsLined flows line left x.ports (number_of x) (graph_of x)) (sym e) m.lined in
    let units : (r : ℕ) → r < now.ranks.count → left_at now r ≡ left (number_of now.ranks r) =
    λ r lt. ap (λ x. get_or x.items r 0) c.settle.ensures.left ∙ m.units r (omega (arith, lt, ap (λ (x : Ranks). x.count) e)) ∙ ap (λ (x : Ranks). left (number_of x r)) (sym e) in
    let same : IsSameOwing g.count (left_at now) (λ r. left (number_of now.ranks r)) = λ r lt. (λ h. omega (arith, units r lt, h), λ h. omega (arith, units r lt, h)) in
    let kept = same_kept g (left_at now) (λ r. left (number_of now.ranks r)) (Stands g at) (λ p. Contains now.board.waiting.ports p) same s.kept in
    record {
      matching = record { lined = lined; units = units };
      grants = kept_is_granted flows line left now.ranks.ports (number_of now.ranks) g (Stands g at) (λ p. Contains now.board.waiting.ports p) _ lined told
          (λ p has. nothing_in p (subst (λ (xs : List ℕ). Contains xs p) c.settle.ensures.settled has)) kept;
      at = λ i f. told_at flows line left now i f _ s.ranks s.board lined told;
    }

pub returns-clause-room : goal.returns-clause-room
returns-clause-room c =
    let e = c.settle.ensures.ranks in
    record {
      ports = ap (λ (x : Ranks). x.ports) e;
      ranked = ap (λ (x : Ranks). length x.flows.items) e;
      lefts = ap (λ x. length x.items) c.settle.ensures.left;
      nexts = ap (λ (x : Heads). length x.next.items) c.settle.ensures.heads;
      listing = λ n has.
          let size : c.settle.new.self.ranks.ports ≡ n = omega (arith, ap (λ (x : Ranks). x.ports) e, c.requires.listing_room.shown, has.shown) in
          subst (λ k. HasListingRoom k c.update.new.self) size c.update.ensures.room;
    }
