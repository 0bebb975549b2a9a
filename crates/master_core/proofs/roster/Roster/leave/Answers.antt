use Rattle.std.proofs.Common.{◌<◌, length, subst, sym}
use Rattle.master_core.specs.Attendance.{Attendance}
use Rattle.master_core.proofs.AttendanceSteps.{leaves}
use Rattle.master_core.proofs.roster.Roster.leave.Goals as goal

pub invariant_of-self : goal.invariant_of-self
invariant_of-self c =
    leaves c.self.inside.joined.items c.self.inside.seen.items c.self.inside.present.items _ c.args.coflow c.self.invariant
    (subst (λ (v : Attendance). c.args.coflow < length v.present) (sym c.self.view_is) c.requires)
