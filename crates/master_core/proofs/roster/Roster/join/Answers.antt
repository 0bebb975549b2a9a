use Rattle.std.proofs.Common.{◌≡◌, false, subst, sym}
use Rattle.master_core.specs.Attendance.{Attendance}
use Rattle.journal.specs.State.{has}
use Rattle.std.specs.Prelude.{◌<◌, length}
use Rattle.std.proofs.Common.{arith}
use Rattle.master_core.proofs.AttendanceSteps.{attends, joins_in}
use Rattle.master_core.proofs.roster.Roster.join.Goals as goal

pub push_reserved-requires : goal.push_reserved-requires
push_reserved-requires c =
    let away = subst (λ (v : Attendance). has v.joined c.args.coflow ≡ false) (sym c.self.view_is) c.requires.away in
    let lt = subst (λ (v : Attendance). c.args.coflow < length v.present) (sym c.self.view_is) c.requires.coflow_in in
    let some = joins_in c.self.inside.joined.items (length c.self.inside.present.items) c.args.coflow c.self.invariant.once c.self.invariant.coflow away lt in
    omega (arith, some, c.self.invariant.has_room)

pub invariant_of-self : goal.invariant_of-self
invariant_of-self c =
    let away = subst (λ (v : Attendance). has v.joined c.args.coflow ≡ false) (sym c.self.view_is) c.requires.away in
    let lt = subst (λ (v : Attendance). c.args.coflow < length v.present) (sym c.self.view_is) c.requires.coflow_in in
    attends c.self.inside.joined.items c.push_reserved.new.self.items c.self.inside.seen.items c.self.inside.present.items _ _ c.args.coflow c.self.invariant
    c.push_reserved.ensures.items c.push_reserved.ensures.capacity away lt
