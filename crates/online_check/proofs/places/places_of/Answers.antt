use Rattle.std.proofs.Common.{◌≡◌, length, ap, subst, ◌∙◌, arith}
use Rattle.flow_table.specs.Table.{instance_of}
use Rattle.cert_check.specs.Places.{IsFirstOutOfRange, NamesEach, coflows_in}
use Rattle.cert_check.proofs.InstanceFacts.{few_places}
use Rattle.online_check.specs.Released.{plain_lines}
use Rattle.online_check.proofs.Firsts.{first_bad_port}
use Rattle.online_check.proofs.places.places_of.Goals as goal

pub out_of_range-requires : goal.out_of_range-requires
out_of_range-requires c =
    let ids = c.args.table.now.ids in
    let plain : c.deref.result.now ≡ plain_lines c.args.online.now.release = c.deref.ensures.value ∙ c.in_ok-plain.ensures ∙ ap plain_lines c.as_slice-lines.ensures in
    let again : c.deref-2.result.now ≡ plain_lines c.args.online.now.release = c.deref-2.ensures.value ∙ c.in_ok-plain.ensures ∙ ap plain_lines c.as_slice-lines.ensures in
    let names = subst (λ l. NamesEach (length ids) (coflows_in ids l)) plain ((rw c.in-Coflows.is at c.in_ok-coflows.ensures).1) in
    omega (arith, ap length again, few_places ids (plain_lines c.args.online.now.release) names, c.ports-ports.ensures.table.few_coflows)

pub returns-in-Some-clause-placed : goal.returns-in-Some-clause-placed
returns-in-Some-clause-placed c = λ weights arrival.
    let ids = c.args.table.now.ids in
    let plain : c.deref.result.now ≡ plain_lines c.args.online.now.release = c.deref.ensures.value ∙ c.in_ok-plain.ensures ∙ ap plain_lines c.as_slice-lines.ensures in
    let again : c.deref-2.result.now ≡ plain_lines c.args.online.now.release = c.deref-2.ensures.value ∙ c.in_ok-plain.ensures ∙ ap plain_lines c.as_slice-lines.ensures in
    let names = subst (λ l. NamesEach (length ids) (coflows_in ids l)) plain ((rw c.in-Coflows.is at c.in_ok-coflows.ensures).1) in
    let bad = subst (λ n. IsFirstOutOfRange n (plain_lines c.args.online.now.release) c.in-Some.place c.in-Some.number) c.ports-ports.ensures.ports
    (subst (λ l. IsFirstOutOfRange c.ports-ports.result l c.in-Some.place c.in-Some.number) again c.in-Some.ensures) in
    first_bad_port (instance_of c.args.table.now weights) arrival ids c.args.online.now c.in-Some.place c.in-Some.number names bad
