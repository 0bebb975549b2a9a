use Rattle.std.proofs.Common.{rules, ◌≡◌, subst, sym}
use Rattle.world_model.specs.Lawful.{IsWorld}
use Rattle.world_model.proofs.Events.{new_is_world}
use Rattle.world_model.proofs.Fields.{new_facts}
use Rattle.world_model.proofs.Tallies.{tells_new}
use Rattle.world_model.proofs.world.World.new.Goals as goal

pub invariant_of-result : goal.invariant_of-result
invariant_of-result c =
    let m = c.args.master in
    let ports : c.ports.result ≡ m.opening.table.ports = search rules in
    let all = c.in-Ok.ensures.items_if_clones_equal (λ y e. e) in (
      subst IsWorld (sym (new_facts m c.args.agents c.ports.result c.in-Ok.ports.items c.new.result.items c.idle.result c.requires ports all c.idle.ensures.port
          c.new.ensures.items))
          (new_is_world m.opening c.args.agents c.journal.ensures.opening),
      tells_new c.ports.result c.in-Ok.ports.items c.new.result.items c.idle.result all c.idle.ensures.sent c.new.ensures.items,
    )

pub returns-clause-world : goal.returns-clause-world
returns-clause-world c =
    let m = c.args.master in
    let ports : c.ports.result ≡ m.opening.table.ports = search rules in
    let all = c.in-Ok.ensures.items_if_clones_equal (λ y e. e) in
    new_facts m c.args.agents c.ports.result c.in-Ok.ports.items c.new.result.items c.idle.result c.requires ports all c.idle.ensures.port c.new.ensures.items

pub returns-clause-kept : goal.returns-clause-kept
returns-clause-kept c = (invariant_of-result c).0
