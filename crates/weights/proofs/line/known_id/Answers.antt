use Rattle.std.proofs.Common.{◌≡◌, ◌<◌, ◌^◌, ◌-◌, false, nat_eq, arith, refl}
use Rattle.std.specs.List.{list_any}
use Rattle.text_fields.specs.Numbers.{number}
use Rattle.weights.proofs.Known.{large_is_unknown}
use Rattle.weights.proofs.line.known_id.Goals as goal

pub returns-then-id-from : goal.returns-then-id-from
returns-then-id-from c =
    let large : 2 ^ 32 - 1 < number c.args.field.now = omega (arith, c.in-Some.ensures.1, c.from.ensures, c.if-id-from.true) in
    let unknown : list_any (nat_eq (number c.args.field.now)) c.args.known.now.keys ≡ false = large_is_unknown c.args.known.now.keys (number c.args.field.now) c.requires large in
    rw (c.in-Some.ensures.0, unknown, c.in-Some.ensures.1) refl
