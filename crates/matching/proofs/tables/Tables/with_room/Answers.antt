use Rattle.std.proofs.Common.{◌≡◌, ◌+◌, ◌*◌, ◌∙◌, ℕ, replicate, arith, subst, sym}
use Rattle.matching.specs.Board.{no_rank}
use Rattle.matching.specs.Listing.{HasListingRoom}
use Rattle.matching.specs.Rows.{IsShaped}
use Rattle.matching.specs.declared.tables.Tables.{Tables}
use Rattle.matching.proofs.RoomSteps.{empty_whole}
use Rattle.matching.proofs.tables.Tables.with_room.Goals as goal

pub returns-clause-whole : goal.returns-clause-whole
returns-clause-whole c =
    let made : Tables = record {
      ranks = c.in-Ok-with_room-2.ranks;
      left = c.in_ok-left.left;
      heads = c.in-Ok-with_room-3.heads;
      board = c.in-Ok.board;
      listing = c.in-Ok-with_room.listing;
      settled = 0;
    } in
    let ports : c.in-Ok-with_room-2.ranks.ports ≡ c.args.ports = c.in-Ok-with_room-2.ensures.ports in
    empty_whole made c.args.flows (record {
      none = c.in-Ok-with_room-2.ensures.none;
      room = record {
        sources = c.in-Ok-with_room-2.ensures.sources ∙ sym ports;
        few_ports = omega (arith, c.requires, ports);
        few = c.ranges.flows.fits;
        ranked = c.in-Ok-with_room-2.ensures.flows;
        lefts = omega (arith, c.in_ok-left.ensures.len);
        nexts = c.in-Ok-with_room-3.ensures.next;
        waiting = omega (arith, c.in-Ok.ensures.waiting, ports);
        listing = subst (λ (n : ℕ). HasListingRoom n c.in-Ok-with_room.listing) (sym ports) c.in-Ok-with_room.ensures.room;
      };
      listed = c.in-Ok-with_room.ensures.none;
      heads = subst (λ (n : ℕ). c.in-Ok-with_room-3.heads.least.items ≡ replicate ((n + n) * n) no_rank) (sym ports) c.in-Ok-with_room-3.ensures.least;
      board = subst (λ (n : ℕ). c.in-Ok.board.at.items ≡ replicate (n + n) no_rank) (sym ports) c.in-Ok.ensures.at;
      rows = record {
        shape = subst (λ (n : ℕ). IsShaped n c.in-Ok-with_room-3.heads.rows) (sym ports) c.in-Ok-with_room-3.ensures.shaped;
        blank = c.in-Ok-with_room-3.ensures.zeros;
        rowless = c.in-Ok-with_room-3.ensures.none.0;
        rankless = c.in-Ok-with_room-3.ensures.none.1;
      };
    })
