use Rattle.std.proofs.Common.{◌≡◌, ◌+◌, inl, refl, sym, ap, subst, ◌∙◌, arith, length}
use Rattle.std.proofs.lemmas.Grind.{get_or_default_zero}
use Rattle.matching.specs.Board.{graph_of}
use Rattle.matching.specs.Pass.{IsPassing}
use Rattle.matching.specs.Rows.{row_of}
use Rattle.matching.specs.Sound.{left_at}
use Rattle.matching.proofs.BitSteps.{no_bits}
use Rattle.matching.proofs.FreeSteps.{from_piece}
use Rattle.matching.proofs.PassSteps.{pass_begins, pass_covers, ready_again, stands_apart}
use Rattle.matching.proofs.tables.Tables.pass.Goals as goal

pub mark_free-requires-clause-none : goal.mark_free-requires-clause-none
mark_free-requires-clause-none c = no_bits 32

pub loop-row-init : goal.loop-row-init
loop-row-init c =
    let m = c.args.self.now in
    let g = graph_of m.ranks in
    let s = c.requires.sound in
    let ports = m.ranks.ports in
    let new = c.keep_below.new.self.at.items in
    let bits = c.mark_free.new.free in
    let size : length new ≡ ports + ports = c.keep_below.ensures.kept.size ∙ s.board.size in
    let first_is : c.index-first.result.now ≡ row_of m.heads.rows m.settled =
    c.index-first.ensures ∙ get_or_default_zero m.heads.rows.row.items m.settled c.index-first.result.now (omega (arith, c.requires.some, c.requires.ranked, s.rows.known)) in
    let free = from_piece ports c.deref.result.now new bits c.deref.ensures.value size c.mark_free.ensures.free in
    record {
      passing = subst (λ k. IsPassing ports g (left_at m) m.heads.rows new bits m.settled k) (sym first_is)
          (pass_begins ports g (left_at m) m.heads.rows m.board.at.items new bits m.settled s.ranks.graph s.rows
          c.requires.ranked s.board c.requires.some s.kept.owed s.top s.settled
          c.keep_below.ensures.kept free);
      room = ap (λ x. x.room) c.keep_below.ensures.waiting ∙ s.room;
      len = c.mark_free.ensures.len;
      ready = record {
        known = s.ranks;
        lefts = s.lefts;
        table = s.heads;
        chain = s.chain;
        behind = s.behind;
        rows = s.rows;
        ranked = c.requires.ranked;
        few = c.requires.width;
      };
      ranks = refl;
      left = refl;
      heads = refl;
      listing = refl;
      settled = refl;
    }

pub grant_row-requires-clause-heads : goal.grant_row-requires-clause-heads
grant_row-requires-clause-heads c = c.loop-row.invariant.ready.table

pub grant_row-requires-clause-rows : goal.grant_row-requires-clause-rows
grant_row-requires-clause-rows c = c.loop-row.invariant.ready.rows

pub loop-row-preserved : goal.loop-row-preserved
loop-row-preserved c =
    let i = c.loop-row.invariant in
    let e = c.grant_row.ensures in
    record {
      passing = e.passing;
      room = e.room ∙ i.room ∙ ap (λ x. x.ports + x.ports) (sym e.ranks);
      len = e.len ∙ i.len;
      ready = ready_again c.loop-row.self.ranks c.grant_row.new.self.ranks c.loop-row.self.left.items c.grant_row.new.self.left.items
          c.loop-row.self.heads c.grant_row.new.self.heads e.ranks
          (ap (λ x. x.items) e.left) e.heads i.ready;
      ranks = e.ranks ∙ i.ranks;
      left = e.left ∙ i.left;
      heads = e.heads ∙ i.heads;
      listing = e.listing ∙ i.listing;
      settled = e.settled ∙ i.settled;
    }

pub returns-clause-sound : goal.returns-clause-sound
returns-clause-sound c =
    let m = c.loop-row.self in
    let g = graph_of m.ranks in
    let i = c.loop-row.invariant in
    let r = i.ready in
    let p = i.passing in
    let covered = pass_covers m.ranks.ports g (left_at m) m.heads.rows m.board.at.items c.loop-row.free m.settled c.loop-row.row r.rows r.ranked
    (omega (arith, c.loop-row-test.false, ap (λ x. x.rows.count) i.heads)) p in
    record {
      ranks = r.known;
      lefts = r.lefts;
      heads = r.table;
      chain = r.chain;
      behind = r.behind;
      rows = r.rows;
      board = p.board;
      room = c.clear.ensures.room ∙ i.room;
      kept = record {
        known = λ q has. has.0;
        owed = p.owed;
        apart = λ q t hq ht meets. stands_apart m.ranks.ports g m.board.at.items q t p.board hq ht meets;
        rest = λ q lt some. inl (covered q lt some);
      };
      top = p.top;
      settled = λ q low lt some. covered q lt some;
    }
