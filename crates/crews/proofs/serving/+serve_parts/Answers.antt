use Rattle.std.proofs.Common.{rules, ◌≡◌, ◌≤◌, ◌+◌, ◌++◌, ◌∷◌, ℕ, List, [], length, min, sym, ap, ◌∙◌, subst, arith, length-append, vec_capacity}
use Rattle.std.specs.Option.{option_to_list}
use Rattle.crews.specs.Parts.{Fits}
use Rattle.crews.specs.Served.{AreCrewed}
use Rattle.crews.proofs.Places.{right_distinct, left_distinct}
use Rattle.crews.proofs.Ready.{cut_below, cut_distinct, cut_there, empty_list, fits_here, freed, kept_board, last_ready, one_part, own_tray, part_distinct, part_gone}
use Rattle.crews.proofs.Ready.{part_within, ready_before, room_before, room_last, same_places, some_given, still_there, told_of}
use Rattle.crews.proofs.serving.+serve_parts.Goals as goal

pub begin-part-requires : goal.begin-part-requires
begin-part-requires g c c' =
    let popped : c'.args.stations.now.items ≡ c'.pop.new.self.items ++ c'.in-Some.station ∷ [] = c'.pop.ensures.items ∙ ap (λ o. c'.pop.new.self.items ++ option_to_list o)
    c'.in-Some.is in
    let parts : c'.min-parts.result ≡ min (length c'.args.ports.now) (length c'.args.stations.now.items + 1) = omega
    (arith, c'.min-parts.ensures, c'.len.ensures, c'.args.stations.now.ok.0) in
    let here = last_ready c'.args.board.now c'.args.trays.now (length c'.args.ports.now) c'.args.stations.now.items c'.pop.new.self.items c'.in-Some.station
    c'.requires.ready popped in
    let cut : c'.args.ports.now ≡ c'.split_at.result.0.now ++ c'.split_at.result.1.now = c'.split_at.ensures.by_index.0 in
    let kept : List ℕ = c'.split_at.result.0.now in
    let given : List ℕ = c'.split_at.result.1.now in
    let some = some_given c'.args.board.now c'.args.trays.now (length c'.args.ports.now) c'.min-parts.result c'.args.stations.now.items c'.pop.new.self.items c'.in-Some.station
    c'.requires.ready popped parts c'.if-parts-lt2.false in
    let distinct = cut_distinct c'.args.ports.now kept given cut c'.requires.distinct in
    let there = cut_there c'.args.ports.now kept given cut c'.args.wires.now c'.requires.there in
    let n = c'.split_at.ensures.back_len in
    let room = c'.requires.room in
    let low : length given ≤ vec_capacity c'.in-Some.station.outlets =
    let k = room_last c'.args.board.now c'.args.trays.now (length c'.args.ports.now) c'.min-parts.result c'.args.stations.now.items c'.pop.new.self.items c'.in-Some.station
    c'.requires.ready popped parts c'.if-parts-lt2.false in
    let m = c'.split_at.ensures.front_len in omega (arith, n, k) in record {
      own = c'.requires.own;
      room = omega (arith, room, c'.if-parts-lt2.false, parts);
      distinct = right_distinct kept given distinct;
      there = there.1;
      outlets = (empty_list c'.in-Some.station.outlets.items here.none, low);
    }

pub give-requires : goal.give-requires
give-requires g c c' =
    let popped : c'.args.stations.now.items ≡ c'.pop.new.self.items ++ c'.in-Some.station ∷ [] = c'.pop.ensures.items ∙ ap (λ o. c'.pop.new.self.items ++ option_to_list o)
    c'.in-Some.is in
    let here = last_ready c'.args.board.now c'.args.trays.now (length c'.args.ports.now) c'.args.stations.now.items c'.pop.new.self.items c'.in-Some.station
    c'.requires.ready popped in
    let cut : c'.args.ports.now ≡ c'.split_at.result.0.now ++ c'.split_at.result.1.now = c'.split_at.ensures.by_index.0 in
    let kept : List ℕ = c'.split_at.result.0.now in
    let given : List ℕ = c'.split_at.result.1.now in
    let own : c'.in-Some.station.giver.at ≡ c'.in-Some-get.tray.now.id = own_tray c'.args.board.now c'.args.trays.now c'.pop.new.self.items c'.in-Some.station.giver c'.len-2.result
    c'.in-Some-get.tray.now here.attached (search rules) c'.in-Some-get.ensures.lookup.1 in
    let fits = fits_here c'.args.board.now c'.args.poster.now.view.posts c'.begin-part.result given c'.args.wires.now c'.begin-part.new.wires c'.begin-part.ensures.fresh
    c'.begin-part.ensures.taken
    (cut_below c'.args.ports.now kept given cut c'.args.board.now.ports c'.requires.ports).1 in
    record {
      own = own;
      free = (here.attached.free, here.attached.going);
      fits = subst (λ b. Fits b c'.begin-part.result) (sym here.attached.about) fits;
    }

pub serve_parts-requires : goal.serve_parts-requires
serve_parts-requires g c c' κs within =
    let popped : c'.args.stations.now.items ≡ c'.pop.new.self.items ++ c'.in-Some.station ∷ [] = c'.pop.ensures.items ∙ ap (λ o. c'.pop.new.self.items ++ option_to_list o)
    c'.in-Some.is in
    let parts : c'.min-parts.result ≡ min (length c'.args.ports.now) (length c'.args.stations.now.items + 1) = omega
    (arith, c'.min-parts.ensures, c'.len.ensures, c'.args.stations.now.ok.0) in
    let cut : c'.args.ports.now ≡ c'.split_at.result.0.now ++ c'.split_at.result.1.now = c'.split_at.ensures.by_index.0 in
    let kept : List ℕ = c'.split_at.result.0.now in
    let given : List ℕ = c'.split_at.result.1.now in
    let some = some_given c'.args.board.now c'.args.trays.now (length c'.args.ports.now) c'.min-parts.result c'.args.stations.now.items c'.pop.new.self.items c'.in-Some.station
    c'.requires.ready popped parts c'.if-parts-lt2.false in
    let distinct = cut_distinct c'.args.ports.now kept given cut c'.requires.distinct in
    let long = ap (λ l. length l) popped ∙ length-append c'.pop.new.self.items (c'.in-Some.station ∷ []) in
    let many = c'.requires.trays in
    let fewer : length c'.pop.new.self.items ≤ length c'.args.trays.now = omega (arith, long, many) in
    let back = c'.split_at.ensures.back_len in
    let front = c'.split_at.ensures.front_len in
    let all : length given + length kept ≡ length c'.args.ports.now = omega (arith, back, front) in
    let one : 1 ≤ length given = omega (arith, back, some) in
    let below = cut_below c'.args.ports.now kept given cut c'.args.board.now.ports c'.requires.ports in (
      search rules,
      (
        search rules,
        (
          search rules,
          (
            c'.begin-part.ensures.own.0 ∙ c'.requires.own,
            (
              room_before c'.args.poster.now.view c'.begin-part.new.poster.view (length c'.args.ports.now) (length kept) (length given) c'.begin-part.ensures.poster
                  c'.requires.room all one,
              (
                told_of c'.args.poster.now.view c'.begin-part.new.poster.view c'.begin-part.ensures.poster c'.requires.posted,
                (
                  fewer,
                  (
                    ready_before c'.args.board.now c'.args.trays.now (length c'.args.ports.now) c'.min-parts.result c'.args.stations.now.items c'.pop.new.self.items
                        c'.in-Some.station c'.requires.ready popped parts c'.if-parts-lt2.false (length kept) front,
                    (
                      below.0,
                      (
                        left_distinct kept given distinct,
                        still_there c'.args.ports.now kept given cut c'.args.wires.now c'.begin-part.new.wires c'.begin-part.result.outlets.items c'.begin-part.ensures.taken
                            c'.requires.distinct c'.requires.there,
                      ),
                    ),
                  ),
                ),
              ),
            ),
          ),
        ),
      ),
    )

pub collect-part-requires : goal.collect-part-requires
collect-part-requires g c c' =
    let popped : c'.args.stations.now.items ≡ c'.pop.new.self.items ++ c'.in-Some.station ∷ [] = c'.pop.ensures.items ∙ ap (λ o. c'.pop.new.self.items ++ option_to_list o)
    c'.in-Some.is in
    let here = last_ready c'.args.board.now c'.args.trays.now (length c'.args.ports.now) c'.args.stations.now.items c'.pop.new.self.items c'.in-Some.station
    c'.requires.ready popped in
    let cut : c'.args.ports.now ≡ c'.split_at.result.0.now ++ c'.split_at.result.1.now = c'.split_at.ensures.by_index.0 in
    let kept : List ℕ = c'.split_at.result.0.now in
    let given : List ℕ = c'.split_at.result.1.now in
    let own : c'.in-Some.station.giver.at ≡ c'.in-Some-get.tray.now.id = own_tray c'.args.board.now c'.args.trays.now c'.pop.new.self.items c'.in-Some.station.giver c'.len-2.result
    c'.in-Some-get.tray.now here.attached (search rules) c'.in-Some-get.ensures.lookup.1 in
    let fits = fits_here c'.args.board.now c'.args.poster.now.view.posts c'.begin-part.result given c'.args.wires.now c'.begin-part.new.wires c'.begin-part.ensures.fresh
    c'.begin-part.ensures.taken
    (cut_below c'.args.ports.now kept given cut c'.args.board.now.ports c'.requires.ports).1 in
    record {
      own = ap (λ e. e.at) c'.give.ensures.out ∙ own;
      board = ap (λ e. e.about) c'.give.ensures.out ∙ here.attached.about;
      given = (c'.begin-part.result, ap (λ e. e.out) c'.give.ensures.out, fits);
    }

pub finish-requires-clause-own : goal.finish-requires-clause-own
finish-requires-clause-own g c c' =
    let did = c'.collect-part.ensures.attended c'.begin-part.result (ap (λ e. e.out) c'.give.ensures.out) in
    let board = kept_board g.W.Wire.faults g.W.Wire.runs c'.args.board.now c'.args.poster.now.view.posts c'.begin-part.result c'.collect-part.result
    c'.begin-part.ensures.fresh did in
    (c'.serve_parts.ensures.own.0 ∙ (c'.begin-part.ensures.own.0 ∙ c'.requires.own), board.0)

pub finish-requires-clause-reported : goal.finish-requires-clause-reported
finish-requires-clause-reported g c c' =
    let did = c'.collect-part.ensures.attended c'.begin-part.result (ap (λ e. e.out) c'.give.ensures.out) in
    let board = kept_board g.W.Wire.faults g.W.Wire.runs c'.args.board.now c'.args.poster.now.view.posts c'.begin-part.result c'.collect-part.result
    c'.begin-part.ensures.fresh did in
    board.1

pub finish-requires-clause-distinct : goal.finish-requires-clause-distinct
finish-requires-clause-distinct g c c' =
    let cut : c'.args.ports.now ≡ c'.split_at.result.0.now ++ c'.split_at.result.1.now = c'.split_at.ensures.by_index.0 in
    let kept : List ℕ = c'.split_at.result.0.now in
    let given : List ℕ = c'.split_at.result.1.now in
    let did = c'.collect-part.ensures.attended c'.begin-part.result (ap (λ e. e.out) c'.give.ensures.out) in
    let distinct = cut_distinct c'.args.ports.now kept given cut c'.requires.distinct in
    let there = cut_there c'.args.ports.now kept given cut c'.args.wires.now c'.requires.there in
    part_distinct g.W.Wire.faults g.W.Wire.runs c'.args.board.now kept given c'.begin-part.new.poster.view c'.serve_parts.new.poster.view c'.args.wires.now c'.begin-part.new.wires
    c'.serve_parts.new.wires c'.begin-part.result
    c'.collect-part.result distinct there.1 c'.begin-part.ensures.taken did c'.serve_parts.ensures.served

pub finish-requires-clause-within : goal.finish-requires-clause-within
finish-requires-clause-within g c c' =
    let cut : c'.args.ports.now ≡ c'.split_at.result.0.now ++ c'.split_at.result.1.now = c'.split_at.ensures.by_index.0 in
    let kept : List ℕ = c'.split_at.result.0.now in
    let given : List ℕ = c'.split_at.result.1.now in
    let did = c'.collect-part.ensures.attended c'.begin-part.result (ap (λ e. e.out) c'.give.ensures.out) in
    let distinct = cut_distinct c'.args.ports.now kept given cut c'.requires.distinct in
    let there = cut_there c'.args.ports.now kept given cut c'.args.wires.now c'.requires.there in
    part_within g.W.Wire.faults g.W.Wire.runs c'.args.board.now kept given c'.begin-part.new.poster.view c'.serve_parts.new.poster.view c'.args.wires.now c'.begin-part.new.wires
    c'.serve_parts.new.wires c'.begin-part.result
    c'.collect-part.result distinct there.1 c'.begin-part.ensures.taken did c'.serve_parts.ensures.served

pub finish-requires-clause-gone : goal.finish-requires-clause-gone
finish-requires-clause-gone g c c' =
    let cut : c'.args.ports.now ≡ c'.split_at.result.0.now ++ c'.split_at.result.1.now = c'.split_at.ensures.by_index.0 in
    let kept : List ℕ = c'.split_at.result.0.now in
    let given : List ℕ = c'.split_at.result.1.now in
    let did = c'.collect-part.ensures.attended c'.begin-part.result (ap (λ e. e.out) c'.give.ensures.out) in
    let distinct = cut_distinct c'.args.ports.now kept given cut c'.requires.distinct in
    let there = cut_there c'.args.ports.now kept given cut c'.args.wires.now c'.requires.there in
    part_gone g.W.Wire.faults g.W.Wire.runs c'.args.board.now kept given c'.begin-part.new.poster.view c'.serve_parts.new.poster.view c'.args.wires.now c'.begin-part.new.wires
    c'.serve_parts.new.wires c'.begin-part.result
    c'.collect-part.result distinct there.1 c'.begin-part.ensures.taken did c'.serve_parts.ensures.served

pub returns-clause-same : goal.returns-clause-same
returns-clause-same g c c' =
    let popped : c'.args.stations.now.items ≡ c'.pop.new.self.items ++ c'.in-Some.station ∷ [] = c'.pop.ensures.items ∙ ap (λ o. c'.pop.new.self.items ++ option_to_list o)
    c'.in-Some.is in
    let here = last_ready c'.args.board.now c'.args.trays.now (length c'.args.ports.now) c'.args.stations.now.items c'.pop.new.self.items c'.in-Some.station
    c'.requires.ready popped in
    let did = c'.collect-part.ensures.attended c'.begin-part.result (ap (λ e. e.out) c'.give.ensures.out) in
    let station = c'.finish.ensures.station in
    let giver = freed c'.in-Some.station.giver c'.give.new.giver c'.collect-part.new.giver c'.begin-part.result here.attached.free c'.collect-part.ensures.free
    c'.give.ensures.out in
    same_places c'.args.stations.now.items c'.pop.new.self.items c'.serve_parts.new.stations.items c'.finish.new.stations.items c'.in-Some.station station.0 popped station.1
    c'.serve_parts.ensures.same
    (station.2 ∙ (λ i. (giver i, sym here.none i, (did.room ∙ c'.begin-part.ensures.room) i)))

pub returns-clause-served : goal.returns-clause-served
returns-clause-served g c c' =
    let cut : c'.args.ports.now ≡ c'.split_at.result.0.now ++ c'.split_at.result.1.now = c'.split_at.ensures.by_index.0 in
    let kept : List ℕ = c'.split_at.result.0.now in
    let given : List ℕ = c'.split_at.result.1.now in
    let did = c'.collect-part.ensures.attended c'.begin-part.result (ap (λ e. e.out) c'.give.ensures.out) in
    let distinct = cut_distinct c'.args.ports.now kept given cut c'.requires.distinct in
    let there = cut_there c'.args.ports.now kept given cut c'.args.wires.now c'.requires.there in
    let back = c'.finish.ensures.back in
    subst (λ (l : List ℕ). AreCrewed g.W.Wire.faults g.W.Wire.runs c'.args.poster.now.view c'.finish.new.poster.view l c'.args.wires.now c'.finish.new.wires) (sym cut)
    (one_part g.W.Wire.faults g.W.Wire.runs c'.args.board.now kept given c'.begin-part.new.poster.view c'.serve_parts.new.poster.view c'.args.wires.now c'.begin-part.new.wires
    c'.serve_parts.new.wires c'.begin-part.result
    c'.collect-part.result distinct there.1 c'.begin-part.ensures.taken did c'.serve_parts.ensures.served
    c'.finish.new.wires c'.args.poster.now.view c'.finish.new.poster.view back.0 c'.begin-part.ensures.poster c'.begin-part.ensures.fresh c'.finish.ensures.put back.1
    c'.finish.ensures.posted)
