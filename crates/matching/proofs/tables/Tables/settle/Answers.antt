use Rattle.std.proofs.Common.{ℕ, inl, inr, List, Contains, subst}
use Rattle.coflow_units.proofs.Sums.{nothing_in}
use Rattle.matching.proofs.tables.Tables.settle.Goals as goal

pub returns-clause-sound : goal.returns-clause-sound
returns-clause-sound c =
    let s = c.look_until_none_waits.ensures.sound in
    let none = c.look_until_none_waits.ensures.settled in
    let nowhere = λ (p : ℕ) (has : Contains c.look_until_none_waits.new.self.board.waiting.ports p). nothing_in p (subst (λ (xs : List ℕ). Contains xs p) none has) in
    record {
      ranks = s.ranks;
      lefts = s.lefts;
      heads = s.heads;
      chain = s.chain;
      behind = s.behind;
      rows = s.rows;
      board = s.board;
      room = s.room;
      kept = s.kept;
      top = s.top;
      settled = λ r low lt some. elim (s.kept.rest r lt some) [ inl covered ↦ covered | inr (inl w) ↦ absurd (nowhere _ w) | inr (inr w) ↦ absurd (nowhere _ w) ];
    }
