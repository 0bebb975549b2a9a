use Rattle.std.proofs.Common.{◌≤◌, length, subst}
use Rattle.master_core.specs.Attendance.{Attendance}
use Rattle.master_core.proofs.AttendanceSteps.{joined_few}
use Rattle.master_core.proofs.roster.Roster.joined.Goals as goal

pub returns-clause-few : goal.returns-clause-few
returns-clause-few c =
    subst (λ (v : Attendance). length v.joined ≤ length v.present) c.self.view_is
    (joined_few c.self.inside.joined.items (length c.self.inside.present.items) c.self.invariant.once c.self.invariant.coflow)
