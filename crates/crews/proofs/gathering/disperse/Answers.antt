use Rattle.std.proofs.Common.{rules, ◌≡◌, List, map, sym, subst}
use Rattle.errands.specs.Models.{TrayModel}
use Rattle.port_board.specs.Views.{Board}
use Rattle.crews.specs.Attached.{AreAttached}
use Rattle.crews.specs.Sections.{place_of}
use Rattle.crews.proofs.Joining.{attached_of, no_outlets, over_ended}
use Rattle.crews.proofs.gathering.disperse.Goals as goal

pub end_all-requires-clause-ready : goal.end_all-requires-clause-ready
end_all-requires-clause-ready g c =
    let made = c.requires.made in
    let same : c.deref.result.now ≡ c.args.all.trays.items = search rules in (
      made.0,
      subst (λ (ts : List (TrayModel Board)). AreAttached made.0 ts (map place_of c.args.all.stations.items)) (sym same)
          (attached_of made.0 c.args.all.trays.items made.1 (map place_of c.args.all.stations.items) made.2.each),
    )

pub close_all-requires-clause-over : goal.close_all-requires-clause-over
close_all-requires-clause-over g c =
    let made = c.requires.made in
    over_ended made.0 c.args.all.trays.items (map place_of c.args.all.stations.items) (map place_of c.end_all.new.stations.items)
    (attached_of made.0 c.args.all.trays.items made.1 (map place_of c.args.all.stations.items) made.2.each) c.end_all.ensures.over

pub close_all-requires-clause-none : goal.close_all-requires-clause-none
close_all-requires-clause-none g c =
    let made = c.requires.made in
    no_outlets made.0 c.args.all.trays.items made.1 (map place_of c.args.all.stations.items) (map place_of c.end_all.new.stations.items) made.2.each c.end_all.ensures.over
