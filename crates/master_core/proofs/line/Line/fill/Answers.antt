-- The line is made of the ranked and of the others.
use Rattle.std.proofs.Common.{◌<◌, ◌∙◌, ap, length, subst, sym}
use Rattle.std.specs.Prelude.{All}
use Rattle.coflow_units.specs.declared.plan.Place.{Place}
use Rattle.coflow_units.specs.Flows.{IsDistinct}
use Rattle.journal.specs.State.{has}
use Rattle.master_core.specs.Attendance.{marked}
use Rattle.master_core.specs.Published.{ranked}
use Rattle.master_core.specs.Waiting.{waits}
use Rattle.master_core.proofs.LineSteps.{line_all, line_made, line_once, line_within, places_within}
use Rattle.master_core.proofs.line.Line.fill.Goals as goal

pub returns-clause-line : goal.returns-clause-line
returns-clause-line c =
    line_made (marked c.args.roster.now.present) (waits (ranked c.args.orders.now.places) c.args.roster.now.present) c.places-places.result.now c.args.orders.now.places
    c.joined-joined.result.now c.args.roster.now.joined
    c.add_ranked.new.self.coflows c.add_others.new.self.coflows c.places-places.ensures.places c.joined-joined.ensures.joined c.add_ranked.ensures.line c.add_others.ensures.line

pub returns-clause-once : goal.returns-clause-once
returns-clause-once c =
    let made = line_made (marked c.args.roster.now.present) (waits (ranked c.args.orders.now.places) c.args.roster.now.present) c.places-places.result.now c.args.orders.now.places
    c.joined-joined.result.now c.args.roster.now.joined
    c.add_ranked.new.self.coflows c.add_others.new.self.coflows c.places-places.ensures.places c.joined-joined.ensures.joined c.add_ranked.ensures.line c.add_others.ensures.line in
    subst IsDistinct (sym made) (line_once (marked c.args.roster.now.present) (ranked c.args.orders.now.places) c.args.roster.now.joined c.places-places.ensures.once
    c.joined-joined.ensures.once)

pub returns-clause-coflow : goal.returns-clause-coflow
returns-clause-coflow c =
    let n = length c.args.roster.now.present in
    let made = line_made (marked c.args.roster.now.present) (waits (ranked c.args.orders.now.places) c.args.roster.now.present) c.places-places.result.now c.args.orders.now.places
    c.joined-joined.result.now c.args.roster.now.joined
    c.add_ranked.new.self.coflows c.add_others.new.self.coflows c.places-places.ensures.places c.joined-joined.ensures.joined c.add_ranked.ensures.line c.add_others.ensures.line in
    let low = subst (λ m. All (λ (x : Place). x.coflow < m) c.args.orders.now.places) (sym c.requires.coflows) c.places-places.ensures.coflow in
    subst (λ l. All (λ x. x < n) l) (sym made)
    (line_within (marked c.args.roster.now.present) (ranked c.args.orders.now.places) c.args.roster.now.joined n (places_within c.args.orders.now.places n low)
    c.joined-joined.ensures.coflow)

pub returns-clause-all : goal.returns-clause-all
returns-clause-all c = λ x here.
    let made = line_made (marked c.args.roster.now.present) (waits (ranked c.args.orders.now.places) c.args.roster.now.present) c.places-places.result.now c.args.orders.now.places
    c.joined-joined.result.now c.args.roster.now.joined
    c.add_ranked.new.self.coflows c.add_others.new.self.coflows c.places-places.ensures.places c.joined-joined.ensures.joined c.add_ranked.ensures.line c.add_others.ensures.line in
    ap (λ l. has l x) made ∙ line_all c.args.roster.now.present (ranked c.args.orders.now.places) c.args.roster.now.joined x here (c.joined-joined.ensures.there x here)
