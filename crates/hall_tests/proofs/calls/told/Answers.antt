-- Levelling leaves the sessions in their hall.
use Rattle.client_session.proofs.Levelling.{are_raised_of}
use Rattle.hall_tests.proofs.calls.told.Goals as goal

pub returns-in-Level-clause-sessions : goal.returns-in-Level-clause-sessions
returns-in-Level-clause-sessions g c =
    are_raised_of c.args.hall.now c.args.sessions.now c.level.new.sessions c.level.ensures.level.raised c.requires.sessions
