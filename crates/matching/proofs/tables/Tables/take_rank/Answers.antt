use Rattle.std.proofs.Common.{◌≡◌, ◌<◌, ◌-◌, ℕ, get_or, length, set, Contains, refl, ap, ◌∙◌, arith}
use Rattle.std.proofs.lemmas.List.{get_or_default, length-set}
use Rattle.matching.specs.Board.{Stands, graph_of}
use Rattle.matching.specs.Sound.{left_at}
use Rattle.matching.proofs.EndSteps.{lowered, same_kept, same_heads, same_behind, set_less}
use Rattle.matching.proofs.RowSteps.{IsSameOwing, same_rows}
use Rattle.matching.proofs.tables.Tables.take_rank.Goals as goal

pub returns-then-left-units-clause-sound : goal.returns-then-left-units-clause-sound
returns-then-left-units-clause-sound c =
    let m = c.args.self.now in
    let g = graph_of m.ranks in
    let s = c.requires.sound in
    let rank = c.args.rank in
    let n = c.index-left.result.now - c.args.units in
    let known : rank < length m.left.items = omega (arith, c.requires.granted.0, s.lefts) in
    let had : c.index-left.result.now ≡ get_or m.left.items rank 0 = c.index-left.ensures ∙ get_or_default m.left.items rank c.index-left.result.now 0 known in
    let same : IsSameOwing m.ranks.count (left_at m) (λ q. get_or (set m.left.items rank n) q 0) =
    lowered m.ranks.count m.left.items rank n known (omega arith) (omega (arith, had, c.if-left-units.true)) in
    let lower = λ (q : ℕ). get_or (set m.left.items rank n) q 0 in
    record {
      ranks = s.ranks;
      lefts = omega (arith, s.lefts, length-set m.left.items rank n);
      heads = same_heads m.ranks.ports g (left_at m) lower m.heads.least.items same s.heads;
      chain = s.chain;
      behind = same_behind g (left_at m) lower same s.behind;
      rows = same_rows m.ranks.ports g (left_at m) lower m.heads.rows same s.rows;
      board = s.board;
      room = s.room;
      kept = same_kept g (left_at m) lower (Stands g m.board.at.items) (λ p. Contains m.board.waiting.ports p) same s.kept;
      top = λ r q has lq some a b. s.top r q has lq ((same q lq).1 some) a b;
      settled = λ r low lt some. s.settled r low lt ((same r lt).1 some);
    }

pub returns-then-left-units-clause-taken : goal.returns-then-left-units-clause-taken
returns-then-left-units-clause-taken c =
    let m = c.args.self.now in
    let rank = c.args.rank in
    let known : rank < length m.left.items = omega (arith, c.requires.granted.0, c.requires.sound.lefts) in
    let had : c.index-left.result.now ≡ get_or m.left.items rank 0 = c.index-left.ensures ∙ get_or_default m.left.items rank c.index-left.result.now 0 known in
    record {
      left = set_less m.left.items rank c.args.units (c.index-left.result.now - c.args.units) known (omega (arith, had));
      others = λ p lt ne. refl;
    }

pub returns-clause-taken : goal.returns-clause-taken
returns-clause-taken c =
    let m = c.args.self.now in
    let rank = c.args.rank in
    let known : rank < length m.left.items = omega (arith, c.requires.granted.0, c.requires.sound.lefts) in
    let had : c.index-left.result.now ≡ get_or m.left.items rank 0 = c.index-left.ensures ∙ get_or_default m.left.items rank c.index-left.result.now 0 known in
    record {
      left = λ r. ap (λ xs. get_or xs r 0) c.end.ensures.left ∙ set_less m.left.items rank c.args.units 0 known (omega (arith, had, c.if-left-units.false)) r;
      others = c.end.ensures.others;
    }
