-- A version is published with the ranks of the journal that has it.
use Rattle.std.proofs.Common.{ap, arith}
use Rattle.journal.proofs.FurtherRoom.{few_versions as versions_few}
use Rattle.client_session.proofs.Agreement.{agrees_published, agrees_unpublished, driven_after}
use Rattle.client_session.proofs.desk.Desk.step.Goals as goal

pub publish-requires-clause-room : goal.publish-requires-clause-room
publish-requires-clause-room c =
    let j = c.journal-few.ensures in
    omega (arith, c.self.invariant.0.versions, versions_few c.self.inside.master.journal, j.fits, j.opening.few_entries, j.opening.table.few_ports)

pub invariant_of-self : goal.invariant_of-self
invariant_of-self c =
    let o = c.self.inside.master.opening in
    let journal = c.self.inside.master.journal in
    let s = c.step-reply.ensures in (
      agrees_published o _ journal _ c.args.who c.args.command c.self.inside.publisher.published _ c.ranks.result.now _ c.in-Version.field-0 s.opening s.journal s.reply
          c.in-Version.is
          (ap (λ p. p.published) c.publish.ensures.published) c.self.invariant.0 c.ranks.ensures.rank,
      driven_after o journal _ c.args.who c.args.command s.journal c.requires.caller c.self.invariant.1,
    )

pub invariant_of-self-in_default : goal.invariant_of-self-in_default
invariant_of-self-in_default c =
    let o = c.self.inside.master.opening in
    let journal = c.self.inside.master.journal in
    let s = c.step-reply.ensures in (
      agrees_unpublished o _ journal _ c.args.who c.args.command c.self.inside.publisher.published _ s.opening s.journal s.reply c.in_default.not-Version c.self.invariant.0,
      driven_after o journal _ c.args.who c.args.command s.journal c.requires.caller c.self.invariant.1,
    )
