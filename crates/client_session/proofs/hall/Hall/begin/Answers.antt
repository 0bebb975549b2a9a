-- The driver of a new hall keeps that nothing is granted.
use Rattle.std.proofs.Common.{subst}
use Rattle.client_session.specs.Grants.{TellsGrants}
use Rattle.client_session.proofs.Beginning.{first_driver}
use Rattle.client_session.proofs.hall.Hall.begin.Goals as goal

pub invariant_of-driver : goal.invariant_of-driver
invariant_of-driver c =
    let setting = c.new-desk.result.setting in
    let told = subst (λ j. TellsGrants setting.opening j c.tell_grants.new.granted) c.new-desk.ensures.journal c.tell_grants.ensures.granted in
    first_driver c.in-Ok-new.root c.in-Ok-new.gate.table setting _ c.in-Ok-new.ensures.root told
