use Rattle.std.proofs.Common.{◌≡◌, sym, subst, ◌∙◌, arith}
use Rattle.std.proofs.lemmas.List.{get_or_default}
use Rattle.matching.specs.Board.{Stands, graph_of}
use Rattle.matching.specs.Matching.{IsRankTaken}
use Rattle.matching.specs.Sound.{rank_at}
use Rattle.matching.proofs.RoomSteps.{whole_again}
use Rattle.matching.proofs.RunSteps.{begins_at, flow_taken, others_granted}
use Rattle.matching.proofs.tables.Tables.take.Goals as goal

pub returns-clause-matching : goal.returns-clause-matching
returns-clause-matching c = λ flows line left lower f granted m less.
    let old = c.args.self.now in
    let s = c.requires.whole.sound in
    let rank_is : c.index-rank.result.now ≡ rank_at old c.args.ingress =
    c.index-rank.ensures ∙ get_or_default old.board.at.items c.args.ingress c.index-rank.result.now 0 (omega (arith, s.board.size, c.requires.ingress)) in
    flow_taken flows line left lower old c.take_rank.new.self c.args.ingress f c.args.units s.ranks c.take_rank.ensures.ranks
    (subst (λ x. IsRankTaken old c.take_rank.new.self x c.args.units) rank_is c.take_rank.ensures.taken) granted m less

pub returns-clause-others : goal.returns-clause-others
returns-clause-others c = λ i f ne granted.
    let old = c.args.self.now in
    let s = c.requires.whole.sound in
    let rank_is : c.index-rank.result.now ≡ rank_at old c.args.ingress =
    c.index-rank.ensures ∙ get_or_default old.board.at.items c.args.ingress c.index-rank.result.now 0 (omega (arith, s.board.size, c.requires.ingress)) in
    others_granted old c.take_rank.new.self c.args.ingress c.args.units i f s.ranks s.board c.take_rank.ensures.ranks
    (subst (λ x. IsRankTaken old c.take_rank.new.self x c.args.units) rank_is c.take_rank.ensures.taken) c.requires.ingress
    (λ e. c.if-rank.false (rank_is ∙ e)) ne granted

pub returns-clause-whole : goal.returns-clause-whole
returns-clause-whole c =
    whole_again c.args.self.now c.take_rank.new.self c.requires.whole c.take_rank.ensures.room c.take_rank.ensures.ranks
    c.take_rank.ensures.listing c.take_rank.ensures.sound

pub take_rank-requires-clause-granted : goal.take_rank-requires-clause-granted
take_rank-requires-clause-granted c =
    let old = c.args.self.now in
    let s = c.requires.whole.sound in
    let rank_is : c.index-rank.result.now ≡ rank_at old c.args.ingress =
    c.index-rank.ensures ∙ get_or_default old.board.at.items c.args.ingress c.index-rank.result.now 0 (omega (arith, s.board.size, c.requires.ingress)) in
    subst (λ x. Stands (graph_of old.ranks) old.board.at.items x) (sym rank_is)
    (begins_at old.ranks.ports (graph_of old.ranks) old.board.at.items c.args.ingress s.ranks.graph s.board c.requires.ingress (λ e. c.if-rank.false (rank_is ∙ e))).0
