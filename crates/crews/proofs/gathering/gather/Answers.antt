use Rattle.std.proofs.Common.{rules, ◌≡◌, ◌+◌, ◌/◌, take, drop, min, true, ap, ◌∙◌, arith}
use Rattle.crews.proofs.Joining.{gathered}
use Rattle.crews.proofs.gathering.gather.Goals as goal

pub disperse-requires-clause-made : goal.disperse-requires-clause-made
disperse-requires-clause-made g c = (c.args.board.now, _, c.make_stations.ensures.made)

pub returns-clause-gathered : goal.returns-clause-gathered
returns-clause-gathered g c =
    let yes : c.make_stations.result ≡ true = search rules in
    let ports : c.ports-ports.result ≡ c.args.board.now.ports = c.ports-ports.ensures.ports in
    let agents : c.min-agents.result ≡ min c.args.agents c.args.board.now.ports = omega (arith, c.min-agents.ensures, ports) in
    gathered c.args.board.now c.args.agents _ c.args.wires.now.items c.move_back.new.from.items
    (record {
      trays = c.make_stations.new.all.trays;
      helpers = c.make_stations.new.all.helpers;
      stations = c.make_stations.new.all.stations;
      wires = c.move_all.new.to;
      far =
          c.move_back.new.to;
    })
    c.make_stations.ensures.made (ap (λ n. c.args.board.now.ports / n + 1) agents) (c.make_stations.ensures.whole yes ∙ agents)
    (c.move_back.ensures.from ∙ ap (λ n. take n c.args.wires.now.items) ports) c.move_all.ensures.to (c.move_back.ensures.to ∙ ap (λ n. drop n c.args.wires.now.items) ports)
    c.requires.wires
