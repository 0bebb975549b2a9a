-- What the poster's lists say of one another, at any moment.
use Rattle.std.specs.Prelude.{◌≡◌, ℕ, ◌≤◌, All, AllPairs, Contains, length, Some}
use Rattle.port_board.specs.declared.view.Grant.{Grant}
use Rattle.port_board.specs.declared.view.Report.{Report}
use Rattle.port_board.specs.declared.view.Settlement.{Settlement}
use Rattle.port_board.specs.declared.view.Came.{Came}
use Rattle.port_board.specs.declared.view.View.{View}
use Rattle.port_board.specs.Views.{report}
use Rattle.port_board.specs.Rule.{DifferAt, StandOnce}

-- the two seats have no grant in common
abbrev pub SharesNothing : Came → Came → Type 0
SharesNothing c d = (r s : Report) → Contains c.done r → Contains d.done s → DifferAt r.grant s.grant

-- no seat has a grant twice among those that it drew, or among those that it missed
abbrev pub EachOnce : View → Type 0
EachOnce v = All (λ (c : Came). StandOnce c.done c.missed) v.back

-- each grant that a seat drew was posted, with this flow and this length
abbrev pub EachPosted : View → Type 0
EachPosted v = All (λ (c : Came). All (λ (r : Report). Contains v.posts r.grant) c.done) v.back

-- each grant that a seat missed was posted
abbrev pub EachMissedPosted : View → Type 0
EachMissedPosted v = All (λ (c : Came).
    All (λ (m : ℕ × ℕ). (g : Grant) × Contains v.posts g × (g.port ≡ m.0) × (g.slot ≡ m.1)) c.missed) v.back

-- a settled grant that a seat drew was settled by the number that this seat reported, so it was not taken back
abbrev pub AnswersAgree : View → Type 0
AnswersAgree v = (c : Came) (r : Report) (s : Settlement) → Contains v.back c → Contains c.done r →
    Contains v.settled s → s.grant.port ≡ r.grant.port → s.grant.slot ≡ r.grant.slot → s.sent ≡ Some r.sent

-- with no agent out, each number by which a grant was settled stands in the list of a seat that came back
abbrev pub SentCameBack : View → Type 0
SentCameBack v = length v.back ≡ v.made → (s : Settlement) (n : ℕ) → Contains v.settled s → s.sent ≡ Some n →
    (c : Came) × Contains v.back c × Contains c.done (report s.grant n)

-- one of the agents made, whose number is k, reported the number by which a grant was settled: where its seat has come
-- back, this stands in its list
abbrev pub SentByAgent : View → Type 0
SentByAgent v = (s : Settlement) (n : ℕ) → Contains v.settled s → s.sent ≡ Some n →
    (k : ℕ) × (1 ≤ k) × (k ≤ v.made) × ((c : Came) → Contains v.back c → c.number ≡ k →
    Contains c.done (report s.grant n))

pub record Agrees (v : View) : Type 0 where
  pub apart : AllPairs SharesNothing v.back
  pub once : EachOnce v
  pub posted : EachPosted v
  pub missed : EachMissedPosted v
  pub answers : AnswersAgree v
  pub sent : SentCameBack v
  pub reporter : SentByAgent v

-- no seat that came back drew or missed the grant
abbrev pub NobodyHad : Grant → View → Type 0
NobodyHad g v = All (λ (c : Came). All (λ (r : Report). DifferAt r.grant g) c.done ×
    All (λ (m : ℕ × ℕ). m.0 ≡ g.port → m.1 ≡ g.slot → ⊥) c.missed) v.back
