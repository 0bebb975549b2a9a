-- What a run leaves of the poster and of the wires.
use Rattle.std.specs.Prelude.{◌≡◌, ℕ, ◌+◌, ◌<◌, List, [], ◌++◌, All, AllPairs, Contains, length, map, slice_index_or, Option, Some, None}
use Rattle.port_board.specs.declared.view.Report.{Report}
use Rattle.port_board.specs.declared.view.View.{View}
use Rattle.port_board.specs.Agreement.{EachPosted, SharesNothing}
use Rattle.port_board.specs.Views.{came_of, Sits}
use Rattle.port_agent.specs.Attended.{IsServed, kept_of}
use Rattle.crews.specs.Parts.{AreTried, Trial}
use Rattle.crews.specs.Wires.{StayElsewhere, at_ports}

-- The seats of new agents came back, in their order: they had been shown all posts, and the posts and settlements are
-- as before.
pub record CameBack (v w : View) (seats : List Sits) : Type 0 where
  pub posts : w.posts ≡ v.posts
  pub settled : w.settled ≡ v.settled
  pub made : w.made ≡ v.made + length seats
  pub posted : EachPosted w
  pub apart : AllPairs SharesNothing w.back
  pub back : w.back ≡ v.back ++ map (λ (s : Sits). came_of s.view) seats
  pub shown : All (λ (s : Sits). s.view.shown ≡ v.posts) seats
  pub none_held : All (λ (s : Sits). s.view.out ≡ []) seats

module _ {W : Type 0} (faults : W → ℕ) (runs : W → Option (List (ℕ × ℕ × ℕ))) where
  -- a seat at a board with so many ports tried once at each of these, in their order
  pub record HasTried (many : ℕ) (s t : Sits) (ports : List ℕ) (old new : List (Option W)) : Type 0 where
    pub trials : List (Trial W)
    pub at : map (λ (x : Trial W). x.port) trials ≡ ports
    pub before : at_ports ports old ≡ map (λ (x : Trial W). Some x.before) trials
    pub after : at_ports ports new ≡ map (λ (x : Trial W). Some x.after) trials
    pub kept : kept_of t ≡ kept_of s
    pub tried : AreTried faults runs many s.view t.view trials

  -- each of these ports was served by one of these seats, and they drew at no other port
  pub record EachServed (seats : List Sits) (ports : List ℕ) (old new : List (Option W)) : Type 0 where
    pub trials : List (Trial W)
    pub at : map (λ (x : Trial W). x.port) trials ≡ ports
    pub before : at_ports ports old ≡ map (λ (x : Trial W). Some x.before) trials
    pub after : at_ports ports new ≡ map (λ (x : Trial W). Some x.after) trials
    pub each : All (λ (x : Trial W). IsServed faults runs seats x.port x.before x.after x.took) trials
    pub within : (s : Sits) (r : Report) → Contains seats s → Contains s.view.done r → Contains ports r.grant.port

  -- new agents served these ports and came back, while some wires may be out with other agents
  pub record AreCrewed (v w : View) (ports : List ℕ) (old new : List (Option W)) : Type 0 where
    pub seats : List Sits
    pub came : CameBack v w seats
    pub served : EachServed seats ports old new
    pub stay : StayElsewhere ports old new

  -- These seats served these ports: what was drawn at each was sent on its wire, the wires of the other ports are as
  -- before, and the seats drew at no other port.
  pub record AreServedAt (seats : List Sits) (ports : List ℕ) (before after : List W) : Type 0 where
    pub took : List (Option Report)
    pub took_many : length took ≡ length ports
    pub as_many : length after ≡ length before
    pub each : (i : ℕ) (b a : W) → i < length ports →
        IsServed faults runs seats (slice_index_or ports i 0) (slice_index_or before (slice_index_or ports i 0) b)
        (slice_index_or after (slice_index_or ports i 0) a) (slice_index_or took i None)
    pub rest : (p : ℕ) (d : W) → (Contains ports p → ⊥) → slice_index_or after p d ≡ slice_index_or before p d
    pub within : (s : Sits) (r : Report) → Contains seats s → Contains s.view.done r → Contains ports r.grant.port

  -- What a run of a crew over these ports leaves of the poster: its posts and settlements are as before, the seats that
  -- came back are those of new agents, which had been shown all posts and served the ports, and no agent is out.
  pub record IsCrewed (v w : View) (ports : List ℕ) (before after : List W) : Type 0 where
    pub posts : w.posts ≡ v.posts
    pub settled : w.settled ≡ v.settled
    pub none_out : length w.back ≡ w.made
    pub posted : EachPosted w
    pub apart : AllPairs SharesNothing w.back
    pub seats : List Sits
    pub back : w.back ≡ v.back ++ map (λ (s : Sits). came_of s.view) seats
    pub shown : All (λ (s : Sits). s.view.shown ≡ v.posts) seats
    pub none_held : All (λ (s : Sits). s.view.out ≡ []) seats
    pub served : AreServedAt seats ports before after
