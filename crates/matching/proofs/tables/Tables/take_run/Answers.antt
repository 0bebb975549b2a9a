use Rattle.std.proofs.Common.{◌≡◌, ◌+◌, ◌-◌, ◌<◌, length, get_or, refl, sym, ap, subst, ◌∙◌, arith}
use Rattle.std.proofs.lemmas.List.{get_or_default}
use Rattle.coflow_units.specs.Flows.{IsDistinct}
use Rattle.matching.specs.declared.ranks.Ranks.{Ranks}
use Rattle.matching.specs.Board.{Stands, graph_of}
use Rattle.matching.specs.Matching.{IsRankTaken}
use Rattle.matching.specs.Sound.{rank_at}
use Rattle.matching.proofs.RoomSteps.{room_again, whole_again}
use Rattle.matching.proofs.RunSteps.{IsRunTaken, begins_at, run_begins, run_matching, run_skips, run_takes}
use Rattle.matching.proofs.SourceSteps.{IsAmongLast, among_last, last_more, none_last}
use Rattle.matching.proofs.tables.Tables.take_run.Goals as goal

pub loop-source-init : goal.loop-source-init
loop-source-init c =
    let m = c.args.self.now in
    let xs = m.ranks.sources.ports in
    record {
      low = omega (arith, c.count-source.ensures);
      sound = c.requires.whole.sound;
      room = record { ports = refl; ranked = refl; lefts = refl; nexts = refl; listing = λ n has. has };
      ranks = refl;
      listing = refl;
      taken = run_begins m (IsAmongLast xs c.count-source.result) c.args.units (λ p. none_last xs c.count-source.result p (omega (arith, c.count-source.ensures)));
    }

pub loop-source-preserved-then-rank : goal.loop-source-preserved-then-rank
loop-source-preserved-then-rank c =
    let l = c.loop-source in
    let before = l.invariant in
    let first = c.args.self.now in
    let xs = first.ranks.sources.ports in
    let k = l.source - 1 in
    let n = get_or xs k 0 in
    let next : l.source ≡ k + 1 = omega (arith, c.loop-source-test.true) in
    let lt : k < length xs = omega (arith, next, before.low) in
    let e : l.self.ranks.sources.ports ≡ xs = ap (λ (x : Ranks). x.sources.ports) before.ranks in
    let p = get_or c.list.result.now k 0 in
    let at_n : p ≡ n = ap (λ ys. get_or ys k 0) (c.list.ensures.ports ∙ e) in
    let low : n < first.ranks.ports = omega (
      arith,
      c.list.ensures.within k 0 (omega (arith, lt, ap length e)),
      ap (λ ys. get_or ys k 0) e,
      ap (λ (x : Ranks). x.sources.room) before.ranks,
      c.requires.whole.sound.ranks.source_room,
    ) in
    let size : p < length l.self.board.at.items = omega (arith, at_n, low, before.sound.board.size, ap (λ (x : Ranks). x.ports) before.ranks) in
    let rank_is : c.index-rank.result.now ≡ rank_at l.self n =
    c.index-rank.ensures ∙ get_or_default l.self.board.at.items p c.index-rank.result.now 0 size ∙ ap (rank_at l.self) at_n in
    let one = last_more xs k (subst IsDistinct e c.list.ensures.once) lt in
    let taken = subst (λ j. IsRunTaken first l.self (IsAmongLast xs j) c.args.units) next before.taken in
    record {
      low = omega (arith, before.low);
      sound = before.sound;
      room = before.room;
      ranks = before.ranks;
      listing = before.listing;
      taken = run_skips first l.self (IsAmongLast xs (k + 1)) (IsAmongLast xs k) n c.args.units one low c.requires.whole.sound.ranks (sym rank_is ∙ c.if-rank.true) taken;
    }

pub take_rank-requires-clause-granted : goal.take_rank-requires-clause-granted
take_rank-requires-clause-granted c =
    let l = c.loop-source in
    let before = l.invariant in
    let first = c.args.self.now in
    let xs = first.ranks.sources.ports in
    let k = l.source - 1 in
    let n = get_or xs k 0 in
    let next : l.source ≡ k + 1 = omega (arith, c.loop-source-test.true) in
    let lt : k < length xs = omega (arith, next, before.low) in
    let e : l.self.ranks.sources.ports ≡ xs = ap (λ (x : Ranks). x.sources.ports) before.ranks in
    let p = get_or c.list.result.now k 0 in
    let at_n : p ≡ n = ap (λ ys. get_or ys k 0) (c.list.ensures.ports ∙ e) in
    let low : n < first.ranks.ports = omega (
      arith,
      c.list.ensures.within k 0 (omega (arith, lt, ap length e)),
      ap (λ ys. get_or ys k 0) e,
      ap (λ (x : Ranks). x.sources.room) before.ranks,
      c.requires.whole.sound.ranks.source_room,
    ) in
    let size : p < length l.self.board.at.items = omega (arith, at_n, low, before.sound.board.size, ap (λ (x : Ranks). x.ports) before.ranks) in
    let rank_is : c.index-rank.result.now ≡ rank_at l.self n =
    c.index-rank.ensures ∙ get_or_default l.self.board.at.items p c.index-rank.result.now 0 size ∙ ap (rank_at l.self) at_n in
    let own : n < l.self.ranks.ports = omega (arith, low, ap (λ (x : Ranks). x.ports) before.ranks) in
    subst (λ x. Stands (graph_of l.self.ranks) l.self.board.at.items x) (sym rank_is)
    (begins_at l.self.ranks.ports (graph_of l.self.ranks) l.self.board.at.items n before.sound.ranks.graph before.sound.board own (λ x. c.if-rank.false (rank_is ∙ x))).0

pub loop-source-preserved : goal.loop-source-preserved
loop-source-preserved c =
    let l = c.loop-source in
    let before = l.invariant in
    let first = c.args.self.now in
    let xs = first.ranks.sources.ports in
    let k = l.source - 1 in
    let n = get_or xs k 0 in
    let next : l.source ≡ k + 1 = omega (arith, c.loop-source-test.true) in
    let lt : k < length xs = omega (arith, next, before.low) in
    let e : l.self.ranks.sources.ports ≡ xs = ap (λ (x : Ranks). x.sources.ports) before.ranks in
    let p = get_or c.list.result.now k 0 in
    let at_n : p ≡ n = ap (λ ys. get_or ys k 0) (c.list.ensures.ports ∙ e) in
    let low : n < first.ranks.ports = omega (
      arith,
      c.list.ensures.within k 0 (omega (arith, lt, ap length e)),
      ap (λ ys. get_or ys k 0) e,
      ap (λ (x : Ranks). x.sources.room) before.ranks,
      c.requires.whole.sound.ranks.source_room,
    ) in
    let size : p < length l.self.board.at.items = omega (arith, at_n, low, before.sound.board.size, ap (λ (x : Ranks). x.ports) before.ranks) in
    let rank_is : c.index-rank.result.now ≡ rank_at l.self n =
    c.index-rank.ensures ∙ get_or_default l.self.board.at.items p c.index-rank.result.now 0 size ∙ ap (rank_at l.self) at_n in
    let one = last_more xs k (subst IsDistinct e c.list.ensures.once) lt in
    let taken = subst (λ j. IsRunTaken first l.self (IsAmongLast xs j) c.args.units) next before.taken in
    let t = c.take_rank.ensures in
    record {
      low = omega (arith, before.low);
      sound = t.sound;
      room = room_again first l.self c.take_rank.new.self before.room t.room;
      ranks = t.ranks ∙ before.ranks;
      listing = t.listing ∙ before.listing;
      taken = run_takes first l.self c.take_rank.new.self (IsAmongLast xs (k + 1)) (IsAmongLast xs k) n c.args.units one c.requires.whole.sound.ranks
          c.requires.whole.sound.board before.ranks low
          (λ x. c.if-rank.false (rank_is ∙ x)) (subst (λ x. IsRankTaken l.self c.take_rank.new.self x c.args.units) rank_is t.taken) taken;
    }

pub returns-clause-matching : goal.returns-clause-matching
returns-clause-matching c = λ flows line left lower s less.
    let before = c.loop-source.invariant in
    let old = c.args.self.now in
    let xs = old.ranks.sources.ports in
    let done : c.loop-source.source ≡ 0 = omega (arith, c.loop-source-test.false) in
    run_matching flows line left lower old c.loop-source.self (IsAmongLast xs 0) c.args.units (λ r lt. among_last xs _ (c.requires.whole.sound.ranks.sources r lt))
    c.requires.whole.sound.ranks c.requires.whole.sound.board before.ranks
    (subst (λ k. IsRunTaken old c.loop-source.self (IsAmongLast xs k) c.args.units) done before.taken) s less

pub returns-clause-whole : goal.returns-clause-whole
returns-clause-whole c =
    let before = c.loop-source.invariant in
    whole_again c.args.self.now c.loop-source.self c.requires.whole before.room before.ranks before.listing before.sound
