-- What agents beside each other do at the ports, and what is known once they came back.
use Rattle.std.specs.Prelude.{◌≡◌, ℕ, ◌+◌, ◌<◌, ◌≤◌, true, List, [], ◌++◌, All, AllPairs, Contains}
use Rattle.std.specs.Prelude.{length, map, flat_map, slice_index_or, Option, Some, None}
use Rattle.atomic_table.specs.Seated.{TableId}
use Rattle.port_board.specs.declared.view.Grant.{Grant}
use Rattle.port_board.specs.declared.view.Report.{Report}
use Rattle.port_board.specs.declared.view.View.{View}
use Rattle.port_board.specs.Agreement.{EachPosted, SharesNothing}
use Rattle.port_board.specs.Views.{came_of, IsNewest, is_listed, last_at, Sits}
use Rattle.port_agent.specs.Served.{IsTry, Look, SentOn, taken}

-- a seat at this board that looked at nothing, and drew and reported nothing yet, and was shown these posts
pub record IsFresh (at : TableId) (posts : List Grant) (s : Sits) : Type 0 where
  pub place : s.at ≡ at
  pub shown : s.view.shown ≡ posts
  pub none_out : s.view.out ≡ []
  pub none_done : s.view.done ≡ []
  pub no_looks : s.view.looks ≡ []

-- what a service leaves of a seat: its board, which of the seats it is, the posts that it was shown, and the grants
-- that it has to report
abbrev pub kept_of : Sits → TableId × ℕ × List Grant × List Grant
kept_of s = (s.at, s.id, s.view.shown, s.view.out)

-- among these seats, the one at whose port nothing was drawn has the last post of the port in its lists, or it drew and
-- reported this grant, and had seen no later one
abbrev pub HadPort : View → ℕ → List Grant → Option Report → Type 0
HadPort view port posts None = (g : Grant) → last_at port posts ≡ Some g → is_listed view port g.slot ≡ true
HadPort view port posts (Some r) = Contains view.done r × IsNewest r.grant posts

-- These seats, one after the other, tried once at each of so many ports from `first` on, in the order of the ports, and
-- looked nowhere else: their looks are those of the tries, and their reports are of what was drawn in them.
pub record EachTriedOnce (ports first many : ℕ) (seats : List Sits) : Type 0 where
  pub took : List (Option Report)
  pub took_many : length took ≡ many
  pub tries : List (List Look)
  pub tries_many : length tries ≡ many
  pub each : (i : ℕ) → i < many →
      IsTry ports (first + i) (slice_index_or took i None) (slice_index_or tries i [])
  pub reports : flat_map (λ (s : Sits). s.view.done) seats ≡ taken took
  pub looks : flat_map (λ (s : Sits). s.view.looks) seats ≡ flat_map (λ looks. looks) tries

module _ {W : Type 0} (faults : W → ℕ) (runs : W → Option (List (ℕ × ℕ × ℕ))) where
  -- the wire of a port at which this was drawn: it is untouched, or was sent the grant
  abbrev pub WireServed : ℕ → W → W → Option Report → Type 0
  WireServed port before after None = after ≡ before
  WireServed port before after (Some r) = (r.grant.port ≡ port) × SentOn faults runs before after r

  -- One port, its wire, and what was drawn there by these seats: one of them attended the port, and no other drew
  -- there.
  pub record IsServed (seats : List Sits) (port : ℕ) (before after : W) (took : Option Report) : Type 0 where
    pub wire : WireServed port before after took
    pub by : Sits
    pub among : Contains seats by
    pub had : HadPort by.view port by.view.shown took
    pub only : (s : Sits) (r : Report) → Contains seats s → Contains s.view.done r → r.grant.port ≡ port →
        took ≡ Some r

  -- so it is with each port from `first` on, one for each wire, and the seats drew at no other port
  pub record AreServed (seats : List Sits) (first : ℕ) (before after : List W) : Type 0 where
    pub took : List (Option Report)
    pub took_many : length took ≡ length before
    pub as_many : length after ≡ length before
    pub each : (i : ℕ) (b a : W) → i < length before →
        IsServed seats (first + i) (slice_index_or before i b) (slice_index_or after i a) (slice_index_or took i None)
    pub within : (s : Sits) (r : Report) → Contains seats s → Contains s.view.done r →
        (first ≤ r.grant.port) × (r.grant.port < first + length before)

  -- What a service leaves of the poster: its posts and settlements are as before, the seats that came back are those of
  -- new agents, which had been shown all posts and served the ports from 0 on, and no agent is out.
  pub record IsServedBy (v w : View) (before after : List W) : Type 0 where
    pub posts : w.posts ≡ v.posts
    pub settled : w.settled ≡ v.settled
    pub none_out : length w.back ≡ w.made
    pub posted : EachPosted w
    pub apart : AllPairs SharesNothing w.back
    pub seats : List Sits
    pub back : w.back ≡ v.back ++ map (λ (s : Sits). came_of s.view) seats
    pub shown : All (λ (s : Sits). s.view.shown ≡ v.posts) seats
    pub none_held : All (λ (s : Sits). s.view.out ≡ []) seats
    pub served : AreServed seats 0 before after

-- the seats came back, in their order
pub record AreBack (v w : View) (seats : List Sits) : Type 0 where
  pub posts : w.posts ≡ v.posts
  pub settled : w.settled ≡ v.settled
  pub made : w.made ≡ v.made
  pub posted : EachPosted w
  pub apart : AllPairs SharesNothing w.back
  pub back : w.back ≡ v.back ++ map (λ (s : Sits). came_of s.view) seats
