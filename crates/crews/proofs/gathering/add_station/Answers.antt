use Rattle.std.proofs.Common.{rules, ◌≡◌, ap, ◌∙◌}
use Rattle.errands.specs.Models.{helper_of}
use Rattle.crews.specs.Sections.{helper_at}
use Rattle.crews.proofs.Joining.{made_push}
use Rattle.crews.proofs.gathering.add_station.Goals as goal

pub returns-clause-made : goal.returns-clause-made
returns-clause-made g c =
    let giver_is : c.in-Ok-new.giver ≡ helper_at {W = g.row.W.Denot} c.args.board.now c.in-Ok-new.tray = c.in-Ok-new.ensures.giver ∙ ap (λ b. helper_at b c.in-Ok-new.tray)
    c.in-Ok-new.ensures.about in
    made_push c.args.board.now c.args.share c.args.all.now.trays.items c.args.all.now.helpers.items c.args.all.now.stations.items c.in-Ok-new.tray c.helper-helper.result
    (record { giver = c.helper-helper.new.giver; outlets = c.in-Ok.outlets }) c.push_reserved.new.self.items c.push_reserved-2.new.self.items c.push_reserved-3.new.self.items
    c.requires.made (search rules) (search rules) (search rules) (c.helper-helper.ensures.helper ∙ ap (λ e. helper_of e) giver_is) (c.helper-helper.ensures.giver ∙ giver_is)
    c.in-Ok.ensures.items (search rules)
