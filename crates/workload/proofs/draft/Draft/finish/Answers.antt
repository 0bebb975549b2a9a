use Rattle.std.proofs.Common.{◌≤◌, length, arith, refl}
use Rattle.std.proofs.lemmas.Bool.Decides.{nat_tests}
use Rattle.workload.proofs.Rounds.{last_round}
use Rattle.workload.proofs.draft.Draft.finish.Goals as goal

pub returns : goal.returns
returns c =
    let some : 1 ≤ length c.args.self.lines.items = grind (arith, nat_tests) in
    rw (c.into_script-2.ensures, c.in-Ok.ensures.clients, c.in-Ok.ensures.rounds, last_round c.args.self.rounds.items c.args.self.lines.items some) refl
