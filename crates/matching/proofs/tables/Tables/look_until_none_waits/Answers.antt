use Rattle.std.proofs.Common.{◌≡◌, ◌⊎◌, Contains, ◌∙◌, arith}
use Rattle.matching.specs.Board.{graph_of, Stands}
use Rattle.matching.specs.Sound.{left_at}
use Rattle.matching.proofs.SettleSteps.{waits_more}
use Rattle.matching.proofs.tables.Tables.look_until_none_waits.Goals as goal

pub look_at-requires-clause-sound : goal.look_at-requires-clause-sound
look_at-requires-clause-sound c =
    let m = c.loop-port.self in
    let g = graph_of m.ranks in
    let s = c.loop-port.invariant.sound in
    record {
      ranks = s.ranks;
      lefts = s.lefts;
      heads = s.heads;
      chain = s.chain;
      behind = s.behind;
      rows = s.rows;
      board = s.board;
      room = c.pop.ensures.room ∙ s.room;
      kept = waits_more g (left_at m) (Stands g m.board.at.items) (λ p. Contains m.board.waiting.ports p) (λ p. (p ≡ c.in-Some.port) ⊎ Contains c.pop.new.self.ports p)
          (λ p has. c.in-Some.ensures.popped.keeps p has) s.kept;
      top = s.top;
      settled = s.settled;
    }

pub turn_to_first-requires : goal.turn_to_first-requires
turn_to_first-requires c =
    let s = c.requires in
    record {
      ranks = s.ranks;
      lefts = s.lefts;
      heads = s.heads;
      chain = s.chain;
      behind = s.behind;
      rows = s.rows;
      board = s.board;
      room = s.room;
      kept = s.kept;
      top = s.top;
      settled = λ r low. absurd (omega (arith, low));
    }

pub loop-port-init : goal.loop-port-init
loop-port-init c =
    let turned = c.turn_to_first.ensures in
    record {
      sound = turned.sound;
      ranks = turned.ranks;
      left = turned.left;
      heads = turned.heads;
      listing = turned.listing;
      settled = turned.settled;
    }

pub loop-port-preserved : goal.loop-port-preserved
loop-port-preserved c =
    let before = c.loop-port.invariant in
    let looked = c.look_at.ensures in
    record {
      sound = looked.sound;
      ranks = looked.ranks ∙ before.ranks;
      left = looked.left ∙ before.left;
      heads = looked.heads ∙ before.heads;
      listing = looked.listing ∙ before.listing;
      settled = looked.settled;
    }

pub loop-port-smaller : goal.loop-port-smaller
loop-port-smaller c = omega (arith, c.look_at.ensures.budget, c.in-Some.ensures.popped.one_less)
