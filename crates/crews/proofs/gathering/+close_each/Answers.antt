use Rattle.std.proofs.Common.{rules, ◌≡◌, ◌++◌, ◌∷◌, [], ap, ◌∙◌}
use Rattle.std.specs.Option.{option_to_list}
use Rattle.crews.proofs.Joining.{many_before, none_before, over_before, own_end}
use Rattle.crews.proofs.gathering.+close_each.Goals as goal

pub close-requires-clause-own : goal.close-requires-clause-own
close-requires-clause-own g t c =
    let popped : c.args.stations.now.items ≡ c.pop.new.self.items ++ c.in-Some.station ∷ [] = c.pop.ensures.items ∙ ap (λ o. c.pop.new.self.items ++ option_to_list o)
    c.in-Some.is in
    let pulled : c.args.trays.now.items ≡ c.pop-2.new.self.items ++ c.in-Some-pop.tray ∷ [] = c.pop-2.ensures.items ∙ ap (λ o. c.pop-2.new.self.items ++ option_to_list o)
    c.in-Some-pop.is in
    (own_end c.args.trays.now.items c.pop-2.new.self.items c.in-Some-pop.tray c.args.stations.now.items c.pop.new.self.items c.in-Some.station pulled popped c.requires.many
    c.requires.over).0

pub close-requires-clause-over : goal.close-requires-clause-over
close-requires-clause-over g t c =
    let popped : c.args.stations.now.items ≡ c.pop.new.self.items ++ c.in-Some.station ∷ [] = c.pop.ensures.items ∙ ap (λ o. c.pop.new.self.items ++ option_to_list o)
    c.in-Some.is in
    let pulled : c.args.trays.now.items ≡ c.pop-2.new.self.items ++ c.in-Some-pop.tray ∷ [] = c.pop-2.ensures.items ∙ ap (λ o. c.pop-2.new.self.items ++ option_to_list o)
    c.in-Some-pop.is in
    (own_end c.args.trays.now.items c.pop-2.new.self.items c.in-Some-pop.tray c.args.stations.now.items c.pop.new.self.items c.in-Some.station pulled popped c.requires.many
    c.requires.over).1

pub destroy_empty-requires : goal.destroy_empty-requires
destroy_empty-requires g t c =
    let popped : c.args.stations.now.items ≡ c.pop.new.self.items ++ c.in-Some.station ∷ [] = c.pop.ensures.items ∙ ap (λ o. c.pop.new.self.items ++ option_to_list o)
    c.in-Some.is in
    c.in-Some.station.outlets.ok.0 ∙ (none_before c.args.stations.now.items c.pop.new.self.items c.in-Some.station popped c.requires.none).1

pub close_each-requires : goal.close_each-requires
close_each-requires g t c κs within =
    let popped : c.args.stations.now.items ≡ c.pop.new.self.items ++ c.in-Some.station ∷ [] = c.pop.ensures.items ∙ ap (λ o. c.pop.new.self.items ++ option_to_list o)
    c.in-Some.is in
    let pulled : c.args.trays.now.items ≡ c.pop-2.new.self.items ++ c.in-Some-pop.tray ∷ [] = c.pop-2.ensures.items ∙ ap (λ o. c.pop-2.new.self.items ++ option_to_list o)
    c.in-Some-pop.is in (
      search rules,
      (
        search rules,
        (
          many_before c.args.trays.now.items c.pop-2.new.self.items c.in-Some-pop.tray c.args.stations.now.items c.pop.new.self.items c.in-Some.station pulled popped
              c.requires.many,
          (
            over_before c.args.trays.now.items c.pop-2.new.self.items c.in-Some-pop.tray c.args.stations.now.items c.pop.new.self.items c.in-Some.station pulled popped
                c.requires.many c.requires.over,
            (none_before c.args.stations.now.items c.pop.new.self.items c.in-Some.station popped c.requires.none).0,
          ),
        ),
      ),
    )
