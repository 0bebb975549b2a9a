-- The agents that were made serve the ports and come back.
use Rattle.std.proofs.Common.{◌≡◌, List, [], length, sym, ap, ◌∙◌, subst}
use Rattle.std.specs.Prelude.{All, AllPairs, map}
use Rattle.coflow_units.proofs.Fronts.{written_back}
use Rattle.port_board.specs.declared.view.View.{View}
use Rattle.port_board.specs.Agreement.{EachPosted, SharesNothing}
use Rattle.port_board.specs.Views.{Sits}
use Rattle.port_agent.specs.Attended.{AreBack, IsFresh, kept_of}
use Rattle.port_agent.proofs.Service.{kept_seats, may_return, same_many, served_by}
use Rattle.port_agent.proofs.agents.serve_run.Goals as goal

pub serve_all-requires-clause-fresh : goal.serve_all-requires-clause-fresh
serve_all-requires-clause-fresh g c κs within = (
  c.args.poster.now.view.posts,
  subst (All (IsFresh c.args.board.now.id c.args.poster.now.view.posts)) (sym c.deref_mut.ensures.value) c.make_agents.ensures.fresh,
)

pub take_back-requires-clause-seats : goal.take_back-requires-clause-seats
take_back-requires-clause-seats g c =
    let old = c.make_agents.new.seats.items in
    let new = c.serve_all.new.agents in
    let kept : map kept_of new ≡ map kept_of old = c.serve_all.ensures.seats ∙ ap (λ (l : List Sits). map kept_of l) c.deref_mut.ensures.value in
    let many : length new ≡ c.make_agents.new.seats.len = same_many old new kept ∙ sym c.make_agents.new.seats.ok.0 in
    subst (All (λ (s : Sits). (s.at ≡ c.args.board.now.id) × (s.view.out ≡ []))) (sym (written_back c.make_agents.new.seats.len new old many))
    (may_return c.args.board.now.id c.args.poster.now.view.posts new (kept_seats c.args.board.now.id c.args.poster.now.view.posts old new kept c.make_agents.ensures.fresh))

pub take_back-requires-clause-posted : goal.take_back-requires-clause-posted
take_back-requires-clause-posted g c = subst (λ (v : View). EachPosted v × AllPairs SharesNothing v.back) (sym c.make_agents.ensures.poster) c.requires.posted

pub returns-clause-served : goal.returns-clause-served
returns-clause-served g c =
    let old = c.make_agents.new.seats.items in
    let new = c.serve_all.new.agents in
    let kept : map kept_of new ≡ map kept_of old = c.serve_all.ensures.seats ∙ ap (λ (l : List Sits). map kept_of l) c.deref_mut.ensures.value in
    let many : length new ≡ c.make_agents.new.seats.len = same_many old new kept ∙ sym c.make_agents.new.seats.ok.0 in
    served_by g.W.Wire.faults g.W.Wire.runs c.args.board.now.id c.args.poster.now.view c.make_agents.new.poster.view c.take_back.new.poster.view _ old new
    c.args.wires.now
    c.serve_all.new.wires c.requires.none_out c.make_agents.ensures.poster c.make_agents.ensures.many c.make_agents.ensures.fresh kept c.serve_all.ensures.served
    (subst (AreBack c.make_agents.new.poster.view c.take_back.new.poster.view) (written_back c.make_agents.new.seats.len new old many) c.take_back.ensures.back)
