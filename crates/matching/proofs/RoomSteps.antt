-- The tables keep their lengths.
use Rattle.std.proofs.Common.{◌≡◌, ℕ, ◌+◌, ◌*◌, ◌^◌, ◌<◌, inl, List, length, get_or, replicate, Contains, sym, ap, subst, ◌∙◌, arith}
use Rattle.std.proofs.lemmas.List.{get_or-replicate, length-replicate}
use Rattle.std.proofs.lemmas.Nat.{mul-add-lt}
use Rattle.matching.specs.declared.tables.Tables.{Tables}
use Rattle.matching.specs.Board.{graph_of, no_rank}
use Rattle.matching.specs.Listing.{HasListingRoom, IsListed, IsNothingListed}
use Rattle.matching.specs.Matching.{HasRoom, IsSameRoom, IsWhole}
use Rattle.matching.specs.Rows.{IsBlank, IsShaped}
use Rattle.matching.specs.Sound.{IsSound, left_at}
use Rattle.matching.proofs.RowSteps.{blank_holds, no_rows}
use Rattle.matching.proofs.ShownSteps.{nothing_shown}

pub room_again : (old mid new : Tables) → IsSameRoom old mid → IsSameRoom mid new → IsSameRoom old new
room_again old mid new a b = record {
  ports = b.ports ∙ a.ports;
  ranked = b.ranked ∙ a.ranked;
  lefts = b.lefts ∙ a.lefts;
  nexts = b.nexts ∙ a.nexts;
  listing = λ n has. b.listing n (a.listing n has);
}

pub room_stays : (old new : Tables) → IsSameRoom old new → HasRoom old → HasRoom new
room_stays old new s r = record {
  few_ports = omega (arith, r.few_ports, s.ports);
  few = omega (arith, r.few, s.lefts);
  ranked = omega (arith, r.ranked, s.ranked, s.lefts);
  nexts = omega (arith, r.nexts, s.nexts, s.lefts);
  listing = subst (λ n. HasListingRoom n new.listing) (sym s.ports) (s.listing old.ranks.ports r.listing);
}

pub whole_again : (old new : Tables) → IsWhole old → IsSameRoom old new → new.ranks ≡ old.ranks → new.listing ≡ old.listing →
    IsSound new (λ p. Contains new.board.waiting.ports p) → IsWhole new
whole_again old new w s same kept sound = record {
  sound = sound;
  room = room_stays old new s w.room;
  listing = subst (λ x. IsListed x new.listing) (sym same) (subst (λ x. IsListed old.ranks x) (sym kept) w.listing);
}

-- there is room for so many flows and for the ports
pub record HasRoomFor (m : Tables) (flows : ℕ) : Type 0 where
  pub sources : m.ranks.sources.room ≡ m.ranks.ports
  pub few_ports : m.ranks.ports + m.ranks.ports < 2 ^ 32
  pub few : flows < 2 ^ 32
  pub ranked : length m.ranks.flows.items ≡ flows
  pub lefts : length m.left.items ≡ flows
  pub nexts : length m.heads.next.items ≡ flows
  pub waiting : m.board.waiting.room ≡ m.ranks.ports + m.ranks.ports
  pub listing : HasListingRoom m.ranks.ports m.listing

-- the rows of heads hold no rank
pub record HasNoRows (m : Tables) : Type 0 where
  pub shape : IsShaped m.ranks.ports m.heads.rows
  pub blank : IsBlank m.heads.rows
  pub rowless : m.heads.rows.count ≡ 0
  pub rankless : m.heads.rows.ranked ≡ 0

-- no flow owes
pub record IsEmpty (m : Tables) (flows : ℕ) : Type 0 where
  pub none : m.ranks.count ≡ 0
  pub listed : IsNothingListed m.listing
  pub heads : m.heads.least.items ≡ replicate ((m.ranks.ports + m.ranks.ports) * m.ranks.ports) no_rank
  pub board : m.board.at.items ≡ replicate (m.ranks.ports + m.ranks.ports) no_rank
  pub room : HasRoomFor m flows
  pub rows : HasNoRows m

filled_with : (xs : List ℕ) (n k : ℕ) → xs ≡ replicate n no_rank → k < n → get_or xs k 0 ≡ no_rank
filled_with xs n k e lt = ap (λ ys. get_or ys k 0) e ∙ get_or-replicate n k no_rank 0 lt

pub empty_whole : (m : Tables) (flows : ℕ) → IsEmpty m flows → IsWhole m
empty_whole m flows e = record {
  sound = record {
    ranks = record {
      fits = omega (arith, e.none);
      graph = record {
        few = omega (arith, e.none);
        first = λ r lt. absurd (omega (arith, lt, e.none));
        second_from = λ r lt. absurd (omega (arith, lt, e.none));
        second = λ r lt. absurd (omega (arith, lt, e.none));
      };
      apart = λ r s less lt. absurd (omega (arith, lt, e.none));
      source_room = e.room.sources;
      sources = λ r lt. absurd (omega (arith, lt, e.none));
    };
    lefts = omega (arith, e.none);
    heads = record {
      size = ap (λ (xs : List ℕ). length xs) e.heads ∙ length-replicate ((ports + ports) * ports) no_rank;
      head = λ p k lp lk. record {
        one = inl (filled_with m.heads.least.items ((ports + ports) * ports) (p * ports + k) e.heads (omega (arith, mul-add-lt p ports k (ports + ports) lp lk)));
        least = λ r lr. absurd (omega (arith, lr, e.none));
      };
    };
    chain = record { fits = omega (arith, e.none); next_is = λ r from lt. absurd (omega (arith, lt, e.none)) };
    behind = λ r s less lt. absurd (omega (arith, lt, e.none));
    rows = no_rows m.ranks.ports (graph_of m.ranks) (left_at m) m.heads.rows (blank_holds m.ranks.ports m.heads.rows e.rows.shape e.rows.blank e.rows.rowless)
        e.rows.rowless e.rows.rankless;
    board = record {
      size = ap (λ (xs : List ℕ). length xs) e.board ∙ length-replicate (ports + ports) no_rank;
      own = λ p lt. inl (filled_with m.board.at.items (ports + ports) p e.board lt);
      across = λ r lt. absurd (omega (arith, lt, e.none));
      back = λ r lt. absurd (omega (arith, lt, e.none));
    };
    room = e.room.waiting;
    kept = record {
      known = λ r has. has.0;
      owed = λ r has. absurd (omega (arith, has.0, e.none));
      apart = λ r s has. absurd (omega (arith, has.0, e.none));
      rest = λ r lt. absurd (omega (arith, lt, e.none));
    };
    top = λ r s has. absurd (omega (arith, has.0, e.none));
    settled = λ r low lt. absurd (omega (arith, lt, e.none));
  };
  room = record {
    few_ports = e.room.few_ports;
    few = omega (arith, e.room.few, e.room.lefts);
    ranked = omega (arith, e.room.ranked, e.room.lefts);
    nexts = omega (arith, e.room.nexts, e.room.lefts);
    listing = e.room.listing;
  };
  listing = nothing_shown m.ranks m.listing (omega (arith, e.none)) e.listed;
} where
  ports : ℕ
  ports = m.ranks.ports
