-- The sessions are met one after another.
use Rattle.std.proofs.Common.{rules, refl}
use Rattle.client_session.proofs.Levelling.{met_next, met_nobody, rest_stays}
use Rattle.client_session.proofs.hall.Hall.meet_each.Goals as goal

pub loop-session-init : goal.loop-session-init
loop-session-init c = record { met = met_nobody c.args.driver.now c.args.heard.now; rest = λ i d le. refl }

pub loop-session-preserved : goal.loop-session-preserved
loop-session-preserved c =
    let l = c.loop-session in
    record {
      met = met_next c.args.driver.now l.driver c.meet_one.new.driver c.args.heard.now l.heard c.meet_one.new.heard c.args.sessions.now l.sessions l.session-index
          _ c.meet_one.new.session (search rules) (search rules) l.invariant.rest l.invariant.met c.meet_one.ensures.met;
      rest = rest_stays c.args.sessions.now l.sessions l.session-index c.meet_one.new.session l.invariant.rest;
    }
