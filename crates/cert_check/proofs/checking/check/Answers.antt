use Rattle.std.proofs.Common.{List, length, subst}
use Rattle.flow_table.specs.Table.{instance_of}
use Rattle.report_text.specs.declared.value.PlaceLine.{PlaceLine}
use Rattle.cert_check.specs.declared.verdict.Reason.TheVariants.{NotPermutation}
use Rattle.cert_check.specs.declared.verdict.Verdict.TheVariants.{No, Yes}
use Rattle.cert_check.specs.Places.{IsFirstWrong, NamesEach, coflows_in, ids_in}
use Rattle.cert_check.proofs.Firsts.{first_of_certificate, first_of_schedule, first_wrong_place}
use Rattle.cert_check.proofs.NamedCoflow.{names_coflow}
use Rattle.cert_check.proofs.Verdicts.{all_parts, yes_where_sound}
use Rattle.cert_check.proofs.checking.check.Goals as goal

pub returns-in-Wrong-clause-yes : goal.returns-in-Wrong-clause-yes
returns-in-Wrong-clause-yes c =
    let wrong = subst (λ (l : List PlaceLine). IsFirstWrong c.args.table.now.ids (ids_in l) c.in-Wrong.place) c.as_slice.ensures (rw c.in-Wrong.is at c.in_ok-coflows.ensures) in
    yes_where_sound c.args.table.now c.args.weights.now c.args.report.now (No (NotPermutation c.in-Wrong.place))
    (first_wrong_place (instance_of c.args.table.now c.args.weights.now) c.args.table.now.ids c.args.report.now c.in-Wrong.place wrong)

pub returns-in-Some-clause-verdict : goal.returns-in-Some-clause-verdict
returns-in-Some-clause-verdict c =
    let names = subst (λ (l : List PlaceLine). NamesEach (length c.args.table.now.ids) (coflows_in c.args.table.now.ids l)) c.as_slice.ensures
    ((rw c.in-Coflows.is at c.in_ok-coflows.ensures).1) in
    let first = rw c.in-Some.is at c.in_ok-reason.ensures in
    first_of_certificate (instance_of c.args.table.now c.args.weights.now) c.args.table.now.ids c.args.report.now c.in-Some.reason names first

pub returns-in-Some-clause-yes : goal.returns-in-Some-clause-yes
returns-in-Some-clause-yes c =
    let names = subst (λ (l : List PlaceLine). NamesEach (length c.args.table.now.ids) (coflows_in c.args.table.now.ids l)) c.as_slice.ensures
    ((rw c.in-Coflows.is at c.in_ok-coflows.ensures).1) in
    let first = rw c.in-Some.is at c.in_ok-reason.ensures in
    yes_where_sound c.args.table.now c.args.weights.now c.args.report.now (No c.in-Some.reason)
    (first_of_certificate (instance_of c.args.table.now c.args.weights.now) c.args.table.now.ids c.args.report.now c.in-Some.reason names first)

pub returns-in-Some-2-clause-verdict : goal.returns-in-Some-2-clause-verdict
returns-in-Some-2-clause-verdict c =
    let names = subst (λ (l : List PlaceLine). NamesEach (length c.args.table.now.ids) (coflows_in c.args.table.now.ids l)) c.as_slice.ensures
    ((rw c.in-Coflows.is at c.in_ok-coflows.ensures).1) in
    let certificate = rw c.in_default.is at c.in_ok-reason.ensures in
    let first = rw c.in-Some-2.is at c.in_ok-reason-2.ensures in
    first_of_schedule (instance_of c.args.table.now c.args.weights.now) c.args.table.now.ids c.args.report.now c.in-Some-2.reason names certificate first

pub returns-in-Some-2-clause-yes : goal.returns-in-Some-2-clause-yes
returns-in-Some-2-clause-yes c =
    let names = subst (λ (l : List PlaceLine). NamesEach (length c.args.table.now.ids) (coflows_in c.args.table.now.ids l)) c.as_slice.ensures
    ((rw c.in-Coflows.is at c.in_ok-coflows.ensures).1) in
    let certificate = rw c.in_default.is at c.in_ok-reason.ensures in
    let first = rw c.in-Some-2.is at c.in_ok-reason-2.ensures in
    yes_where_sound c.args.table.now c.args.weights.now c.args.report.now (No c.in-Some-2.reason)
    (first_of_schedule (instance_of c.args.table.now c.args.weights.now) c.args.table.now.ids c.args.report.now c.in-Some-2.reason names certificate first)

pub returns-clause-verdict : goal.returns-clause-verdict
returns-clause-verdict c =
    let names = subst (λ (l : List PlaceLine). NamesEach (length c.args.table.now.ids) (coflows_in c.args.table.now.ids l)) c.as_slice.ensures
    ((rw c.in-Coflows.is at c.in_ok-coflows.ensures).1) in
    let certificate = rw c.in_default.is at c.in_ok-reason.ensures in
    let schedule = rw c.in_default-2.is at c.in_ok-reason-2.ensures in
    all_parts c.args.table.now c.args.weights.now c.args.report.now names certificate schedule

pub returns-clause-yes : goal.returns-clause-yes
returns-clause-yes c =
    let names = subst (λ (l : List PlaceLine). NamesEach (length c.args.table.now.ids) (coflows_in c.args.table.now.ids l)) c.as_slice.ensures
    ((rw c.in-Coflows.is at c.in_ok-coflows.ensures).1) in
    let certificate = rw c.in_default.is at c.in_ok-reason.ensures in
    let schedule = rw c.in_default-2.is at c.in_ok-reason-2.ensures in
    yes_where_sound c.args.table.now c.args.weights.now c.args.report.now Yes (all_parts c.args.table.now c.args.weights.now c.args.report.now names certificate schedule)

pub returns-in-Some-clause-coflow : goal.returns-in-Some-clause-coflow
returns-in-Some-clause-coflow c =
    let names = subst (λ (l : List PlaceLine). NamesEach (length c.args.table.now.ids) (coflows_in c.args.table.now.ids l)) c.as_slice.ensures
    ((rw c.in-Coflows.is at c.in_ok-coflows.ensures).1) in
    let first = rw c.in-Some.is at c.in_ok-reason.ensures in
    names_coflow (instance_of c.args.table.now c.args.weights.now) c.args.table.now.ids c.args.report.now c.in-Some.reason names first.holds

pub returns-in-Some-2-clause-coflow : goal.returns-in-Some-2-clause-coflow
returns-in-Some-2-clause-coflow c =
    let names = subst (λ (l : List PlaceLine). NamesEach (length c.args.table.now.ids) (coflows_in c.args.table.now.ids l)) c.as_slice.ensures
    ((rw c.in-Coflows.is at c.in_ok-coflows.ensures).1) in
    let first = rw c.in-Some-2.is at c.in_ok-reason-2.ensures in
    names_coflow (instance_of c.args.table.now c.args.weights.now) c.args.table.now.ids c.args.report.now c.in-Some-2.reason names first.holds
