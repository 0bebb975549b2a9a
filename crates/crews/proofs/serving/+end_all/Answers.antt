use Rattle.std.proofs.Common.{rules, ◌≡◌, ◌++◌, ◌∷◌, [], length, ap, ◌∙◌, arith, ◌≤◌, length-append, vec_capacity}
use Rattle.std.specs.Option.{option_to_list}
use Rattle.errands.specs.Models.{EndModel}
use Rattle.port_board.specs.Views.{Board}
use Rattle.crews.specs.declared.part.Part.{Part}
use Rattle.crews.proofs.Ready.{attached_before, last_attached, own_tray, places_ended}
use Rattle.crews.proofs.serving.+end_all.Goals as goal

pub end-requires-clause-own : goal.end-requires-clause-own
end-requires-clause-own g c c' =
    let popped : c'.args.stations.now.items ≡ c'.pop.new.self.items ++ c'.in-Some.station ∷ [] = c'.pop.ensures.items ∙ ap (λ o. c'.pop.new.self.items ++ option_to_list o)
    c'.in-Some.is in
    let here = last_attached c'.requires.ready.0 c'.args.trays.now c'.args.stations.now.items c'.pop.new.self.items c'.in-Some.station c'.requires.ready.1 popped in
    own_tray c'.requires.ready.0 c'.args.trays.now c'.pop.new.self.items c'.in-Some.station.giver c'.len.result c'.in-Some-get.tray.now here (search rules)
    c'.in-Some-get.ensures.lookup.1

pub end-requires-clause-free : goal.end-requires-clause-free
end-requires-clause-free g c c' =
    let popped : c'.args.stations.now.items ≡ c'.pop.new.self.items ++ c'.in-Some.station ∷ [] = c'.pop.ensures.items ∙ ap (λ o. c'.pop.new.self.items ++ option_to_list o)
    c'.in-Some.is in
    let here = last_attached c'.requires.ready.0 c'.args.trays.now c'.args.stations.now.items c'.pop.new.self.items c'.in-Some.station c'.requires.ready.1 popped in
    (here.free, here.going)

pub end_all-requires : goal.end_all-requires
end_all-requires g c c' κs within =
    let popped : c'.args.stations.now.items ≡ c'.pop.new.self.items ++ c'.in-Some.station ∷ [] = c'.pop.ensures.items ∙ ap (λ o. c'.pop.new.self.items ++ option_to_list o)
    c'.in-Some.is in
    let long = ap (λ l. length l) popped ∙ length-append c'.pop.new.self.items (c'.in-Some.station ∷ []) in
    let many = c'.requires.trays in
    let fewer : length c'.pop.new.self.items ≤ length c'.args.trays.now = omega (arith, long, many) in (
      search rules,
      (
        search rules,
        (
          fewer,
          (
            c'.requires.ready.0,
            attached_before c'.requires.ready.0 c'.args.trays.now c'.args.stations.now.items c'.pop.new.self.items c'.in-Some.station
                c'.requires.ready.1 popped,
          ),
        ),
      ),
    )

pub returns-clause-over : goal.returns-clause-over
returns-clause-over g c c' =
    let popped : c'.args.stations.now.items ≡ c'.pop.new.self.items ++ c'.in-Some.station ∷ [] = c'.pop.ensures.items ∙ ap (λ o. c'.pop.new.self.items ++ option_to_list o)
    c'.in-Some.is in
    places_ended c'.args.stations.now.items c'.pop.new.self.items c'.end_all.new.stations.items c'.push_reserved.new.self.items c'.in-Some.station
    (record { giver = c'.end.new.giver; outlets = c'.in-Some.station.outlets }) popped (search rules) c'.end_all.ensures.over
    (ap (λ (e : EndModel (Part g.row.W.Denot) Board). (e, length c'.in-Some.station.outlets.items, vec_capacity c'.in-Some.station.outlets)) c'.end.ensures.over)
