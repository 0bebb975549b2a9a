use Rattle.std.proofs.Common.{◌≡◌, ◌≢◌, ◌<◌, ℕ, get_or, length, set, Contains, refl, subst, sym, ap, ◌∙◌, arith}
use Rattle.std.proofs.lemmas.Grind.{get_or-set_at}
use Rattle.std.proofs.lemmas.List.{get_or-set_other, get_or_default, length-set}
use Rattle.matching.specs.declared.ranks.Ranked.{Ranked}
use Rattle.matching.specs.Waits.{IsPushed}
use Rattle.matching.specs.Board.{IsFreed, Stands, graph_of, ranked_at}
use Rattle.matching.specs.Heads.{IsChain, IsReplaced}
use Rattle.matching.specs.Rows.{IsRows}
use Rattle.matching.specs.Sound.{left_at}
use Rattle.matching.proofs.KeptSteps.{rank_ends}
use Rattle.matching.proofs.EndSteps.{goes_out, stays_at}
use Rattle.matching.proofs.HeadSteps.{IsEnding, ended_behind, ended_heads}
use Rattle.matching.proofs.tables.Tables.end.Goals as goal

pub returns-clause-sound : goal.returns-clause-sound
returns-clause-sound c =
    let m = c.args.self.now in
    let g = graph_of m.ranks in
    let s = c.requires.sound in
    let ports = m.ranks.ports in
    let rank = c.args.rank in
    let lower = λ (r : ℕ). get_or (set m.left.items rank 0) r 0 in
    let known = c.requires.granted.0 in
    let next = get_or m.heads.next.items rank 0 in
    let flow_is : c.index-flow.result.now ≡ ranked_at m.ranks.flows.items rank =
    c.index-flow.ensures ∙ get_or_default m.ranks.flows.items rank c.index-flow.result.now record { first = 0; second = 0; number = 0 } (omega (arith, known, s.ranks.fits)) in
    let next_is : c.index-next.result.now ≡ next = c.index-next.ensures ∙ get_or_default m.heads.next.items rank c.index-next.result.now 0 (omega (arith, known, s.chain.fits)) in
    let ended : lower rank ≡ 0 = get_or-set_at m.left.items rank rank 0 0 (omega arith) (omega (arith, known, s.lefts)) in
    let others = λ (r : ℕ) (ne : r ≢ rank). get_or-set_other m.left.items rank r 0 0 ne in
    let ending : IsEnding ports g (left_at m) lower rank next = record {
      graph = s.ranks.graph;
      known = known;
      owes = s.kept.owed rank c.requires.granted;
      ended = ended;
      others = others;
      top = λ q lq some a b. s.top rank q c.requires.granted lq some a b;
      behind = s.behind;
      next_is = s.chain.next_is rank (omega arith) known;
    } in
    let re = subst (λ (x : Ranked). IsReplaced ports m.heads.least.items c.replace.new.self.least.items x.first x.second next) flow_is
    (subst (λ (x : ℕ). IsReplaced ports m.heads.least.items c.replace.new.self.least.items c.index-flow.result.now.first c.index-flow.result.now.second x) next_is
    c.replace.ensures.replaced) in
    let freed = subst (λ (x : Ranked). IsFreed ports g m.board.at.items c.free.new.self.at.items m.board.waiting.ports c.free.new.self.waiting.ports x.first) flow_is
    c.free.ensures.freed in
    let pushed = subst (λ (x : Ranked). IsPushed c.free.new.self.waiting.ports c.push.new.self.ports x.first) flow_is c.push.ensures.pushed in
    let goes = goes_out ports g (left_at m) lower m.board.at.items c.free.new.self.at.items m.board.waiting.ports c.free.new.self.waiting.ports c.push.new.self.ports rank
    s.ranks.graph s.board c.requires.granted ended others freed pushed in
    record {
      ranks = s.ranks;
      lefts = omega (arith, s.lefts, length-set m.left.items rank 0);
      heads = ended_heads ports g (left_at m) lower rank next m.heads.least.items c.replace.new.self.least.items ending c.replace.ensures.size re s.heads;
      chain = subst (λ x. IsChain g x.items 0) (sym c.replace.ensures.next) s.chain;
      behind = ended_behind ports g (left_at m) lower rank next ending;
      rows = c.end.ensures.rows (left_at m) lower ended others (subst (λ x. IsRows ports g (left_at m) x) (sym c.replace.ensures.rows) s.rows);
      board = c.free.ensures.board;
      room = c.push.ensures.room ∙ c.free.ensures.room ∙ s.room;
      kept = rank_ends g (left_at m) lower (Stands g m.board.at.items) (Stands g c.free.new.self.at.items) (λ p. Contains m.board.waiting.ports p)
          (λ p. Contains c.push.new.self.ports p) rank goes s.kept;
      top = λ r q has lq some a b.
          let (old, ne) = goes.from r has in
          let nq : q ≢ rank = λ e. omega (arith, ended, ap lower e, some) in
          s.top r q old lq (omega (arith, others q nq, some)) a b;
      settled = λ r low lt some.
          let less : r < rank = omega (arith, low, c.min-self.ensures) in
          let nr : r ≢ rank = λ e. omega (arith, e, less) in
          let (q, has, le, meets) = s.settled r (omega (arith, low, c.min-self.ensures)) lt (omega (arith, others r nr, some)) in
          (q, goes.keeps q has (λ e. omega (arith, e, le, less)), le, meets);
    }

pub returns-clause-others : goal.returns-clause-others
returns-clause-others c = λ p low ne.
    let m = c.args.self.now in
    let g = graph_of m.ranks in
    let s = c.requires.sound in
    let rank = c.args.rank in
    let flow_is : c.index-flow.result.now ≡ ranked_at m.ranks.flows.items rank =
    c.index-flow.ensures ∙ get_or_default m.ranks.flows.items rank c.index-flow.result.now record {
      first = 0;
      second = 0;
      number = 0;
    } (omega (arith, c.requires.granted.0, s.ranks.fits)) in
    let freed = subst (λ (x : Ranked). IsFreed m.ranks.ports g m.board.at.items c.free.new.self.at.items m.board.waiting.ports c.free.new.self.waiting.ports x.first) flow_is
    c.free.ensures.freed in
    stays_at m.ranks.ports g m.board.at.items c.free.new.self.at.items m.board.waiting.ports c.free.new.self.waiting.ports rank p s.ranks.graph s.board c.requires.granted freed low
    ne

pub returns-clause-room : goal.returns-clause-room
returns-clause-room c = record {
  ports = refl;
  ranked = refl;
  lefts = length-set c.args.self.now.left.items c.args.rank 0;
  nexts = ap (λ x. length x.items) c.replace.ensures.next;
  listing = λ n has. has;
}

pub end-requires-clause-rows : goal.end-requires-clause-rows
end-requires-clause-rows c =
    let m = c.args.self.now in
    (left_at m, subst (λ x. IsRows m.ranks.ports (graph_of m.ranks) (left_at m) x) (sym c.replace.ensures.rows) c.requires.sound.rows)
