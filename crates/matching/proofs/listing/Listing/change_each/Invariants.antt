-- the ports so far are listed as they stand
use Rattle.std.proofs.Common.{◌≡◌, ℕ, get_or}
use Rattle.matching.specs.Listing.{HasListingRoom, IsListed}
use Rattle.matching.proofs.SourceSteps.{IsAmongFirst}
use Rattle.matching.proofs.listing.Listing.change_each.Given as goal

abbrev pub invariant-loop-port : goal.invariant-loop-port
invariant-loop-port l = record {
  room : HasListingRoom l.ranks.ports l.self;
  listed : IsListed l.ranks l.self;
  done : (p : ℕ) → IsAmongFirst l.ranks.sources.ports l.port-index p → get_or l.self.shown.items p 0 ≡ get_or l.at p 0;
}
