use Rattle.std.proofs.Common.{rules, ◌≡◌, List, map, sym, subst}
use Rattle.errands.specs.Models.{TrayModel}
use Rattle.port_board.specs.Views.{Board}
use Rattle.crews.specs.Attached.{AreAttached}
use Rattle.crews.specs.Sections.{AreReady, place_of}
use Rattle.crews.proofs.Joining.{attached_of}
use Rattle.slot_runner.specs.Crews.{CrewModel}
use Rattle.slot_runner.proofs.crew.Crew.dismiss.Goals as goal

pub end_all-requires-clause-ready : goal.end_all-requires-clause-ready
end_all-requires-clause-ready g c =
    let same : c.deref.result.now ≡ c.args.site.now.trays.items = search rules in
    let here = subst (λ (m : CrewModel g.row.W.Denot). AreReady c.args.site.now.board c.args.site.now.trays.items c.args.site.now.board.ports m.places) (sym c.self.view_is)
    c.requires.site.ready in (
      c.args.site.now.board,
      subst (λ (ts : List (TrayModel Board)). AreAttached c.args.site.now.board ts (map place_of c.self.inside.stations.items)) (sym same)
          (attached_of c.args.site.now.board c.args.site.now.trays.items here.share (map place_of c.self.inside.stations.items) here.each),
    )
