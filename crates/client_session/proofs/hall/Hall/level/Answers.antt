-- All sessions are met twice over.
use Rattle.std.proofs.Common.{◌≡◌, ◌∙◌, subst}
use Rattle.client_session.specs.Levels.{IsMetByEach}
use Rattle.client_session.specs.Models.{DriverModel}
use Rattle.client_session.proofs.Driving.{driver_model}
use Rattle.client_session.proofs.Levelling.{are_raised_of, level_twice}
use Rattle.client_session.proofs.hall.Hall.level.Goals as goal

pub meet_each-requires-2-clause-sessions : goal.meet_each-requires-2-clause-sessions
meet_each-requires-2-clause-sessions c = are_raised_of c.args.self.now c.args.sessions.now c.meet_each.new.sessions c.meet_each.ensures.met.raised c.requires.sessions

pub returns : goal.returns
returns c =
    let d = c.driver.inside in
    let same : driver_model d.root c.seat-heard.new.from d.left d.turned d.position ≡ c.args.driver.now =
    (λ i. driver_model d.root (c.seat-heard.ensures.from i) d.left d.turned d.position) ∙ c.driver.view_is in
    let first = subst (λ (x : DriverModel). IsMetByEach x c.meet_each.new.driver c.seat-heard.result c.meet_each.new.heard c.args.sessions.now c.meet_each.new.sessions) same
    c.meet_each.ensures.met in
    record {
      level = level_twice c.args.driver.now c.meet_each.new.driver c.meet_each-2.new.driver c.seat-heard.result c.meet_each.new.heard c.meet_each-2.new.heard
          c.args.sessions.now c.meet_each.new.sessions c.meet_each-2.new.sessions first c.meet_each-2.ensures.met;
    }
