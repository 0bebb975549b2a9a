use Rattle.std.proofs.Common.{slice_index, ◌∙◌}
use Rattle.flow_table.specs.Table.{instance_of}
use Rattle.online_check.specs.declared.verdict.OnlineVerdict.TheVariants.{No, Yes}
use Rattle.online_check.proofs.Firsts.{first_of_certificate, first_of_ends, first_of_places, first_of_schedule}
use Rattle.online_check.proofs.Verdicts.{all_parts, yes_where_sound}
use Rattle.online_check.proofs.checking.check_online.Goals as goal

pub returns-in-Wrong-clause-verdict : goal.returns-in-Wrong-clause-verdict
returns-in-Wrong-clause-verdict c =
    let t = c.args.table.now in
    let o = c.args.online.now in
    let i = instance_of t c.args.weights.now in
    let arrival = slice_index c.args.arrivals.now in
    let first = (rw c.in-Wrong.is at c.in_ok-places.ensures.placed) c.args.weights.now arrival in
    first_of_places i arrival t.ids o c.in-Wrong.reason first

pub returns-in-Wrong-clause-yes : goal.returns-in-Wrong-clause-yes
returns-in-Wrong-clause-yes c =
    let t = c.args.table.now in
    let o = c.args.online.now in
    let i = instance_of t c.args.weights.now in
    let arrival = slice_index c.args.arrivals.now in
    let first = (rw c.in-Wrong.is at c.in_ok-places.ensures.placed) c.args.weights.now arrival in
    yes_where_sound t c.args.weights.now arrival o (No c.in-Wrong.reason) (first_of_places i arrival t.ids o c.in-Wrong.reason first)

pub returns-in-Wrong-clause-coflow : goal.returns-in-Wrong-clause-coflow
returns-in-Wrong-clause-coflow c =
    let t = c.args.table.now in
    let o = c.args.online.now in
    let i = instance_of t c.args.weights.now in
    let arrival = slice_index c.args.arrivals.now in
    let first = (rw c.in-Wrong.is at c.in_ok-places.ensures.placed) c.args.weights.now arrival in
    first.coflow

pub wrong_certificate-requires-clause-places : goal.wrong_certificate-requires-clause-places
wrong_certificate-requires-clause-places c =
    let t = c.args.table.now in
    let o = c.args.online.now in
    let i = instance_of t c.args.weights.now in
    let arrival = slice_index c.args.arrivals.now in
    let placed = (rw c.in-Places.is at c.in_ok-places.ensures.placed) c.args.weights.now arrival in
    c.deref.ensures.value ∙ placed.0

pub wrong_certificate-requires-clause-placed : goal.wrong_certificate-requires-clause-placed
wrong_certificate-requires-clause-placed c =
    let t = c.args.table.now in
    let o = c.args.online.now in
    let i = instance_of t c.args.weights.now in
    let arrival = slice_index c.args.arrivals.now in
    let placed = (rw c.in-Places.is at c.in_ok-places.ensures.placed) c.args.weights.now arrival in
    placed.1

pub returns-in-Some-clause-verdict : goal.returns-in-Some-clause-verdict
returns-in-Some-clause-verdict c =
    let t = c.args.table.now in
    let o = c.args.online.now in
    let i = instance_of t c.args.weights.now in
    let arrival = slice_index c.args.arrivals.now in
    let placed = (rw c.in-Places.is at c.in_ok-places.ensures.placed) c.args.weights.now arrival in
    first_of_certificate i arrival t.ids o c.in-Some.reason placed.1 c.in-Some.ensures

pub returns-in-Some-clause-yes : goal.returns-in-Some-clause-yes
returns-in-Some-clause-yes c =
    let t = c.args.table.now in
    let o = c.args.online.now in
    let i = instance_of t c.args.weights.now in
    let arrival = slice_index c.args.arrivals.now in
    let placed = (rw c.in-Places.is at c.in_ok-places.ensures.placed) c.args.weights.now arrival in
    yes_where_sound t c.args.weights.now arrival o (No c.in-Some.reason) (first_of_certificate i arrival t.ids o c.in-Some.reason placed.1 c.in-Some.ensures)

pub returns-in-Some-2-clause-verdict : goal.returns-in-Some-2-clause-verdict
returns-in-Some-2-clause-verdict c =
    let t = c.args.table.now in
    let o = c.args.online.now in
    let i = instance_of t c.args.weights.now in
    let arrival = slice_index c.args.arrivals.now in
    let placed = (rw c.in-Places.is at c.in_ok-places.ensures.placed) c.args.weights.now arrival in
    let total = c.in_default.ensures in
    let first = (rw c.in-Some-2.is at c.in_ok-reason.ensures) c.args.weights.now in
    first_of_schedule i arrival t.ids o c.in-Some-2.reason placed.1 total first

pub returns-in-Some-2-clause-yes : goal.returns-in-Some-2-clause-yes
returns-in-Some-2-clause-yes c =
    let t = c.args.table.now in
    let o = c.args.online.now in
    let i = instance_of t c.args.weights.now in
    let arrival = slice_index c.args.arrivals.now in
    let placed = (rw c.in-Places.is at c.in_ok-places.ensures.placed) c.args.weights.now arrival in
    let total = c.in_default.ensures in
    let first = (rw c.in-Some-2.is at c.in_ok-reason.ensures) c.args.weights.now in
    yes_where_sound t c.args.weights.now arrival o (No c.in-Some-2.reason) (first_of_schedule i arrival t.ids o c.in-Some-2.reason placed.1 total first)

pub returns-in-Some-2-clause-coflow : goal.returns-in-Some-2-clause-coflow
returns-in-Some-2-clause-coflow c =
    let t = c.args.table.now in
    let o = c.args.online.now in
    let i = instance_of t c.args.weights.now in
    let arrival = slice_index c.args.arrivals.now in
    let first = (rw c.in-Some-2.is at c.in_ok-reason.ensures) c.args.weights.now in
    first.coflow

pub wrong_ends-requires-clause-valid : goal.wrong_ends-requires-clause-valid
wrong_ends-requires-clause-valid c =
    let t = c.args.table.now in
    let o = c.args.online.now in
    let i = instance_of t c.args.weights.now in
    let arrival = slice_index c.args.arrivals.now in
    let released = (rw c.in_default-2.is at c.in_ok-reason.ensures) c.args.weights.now in
    released.valid

pub returns-in-Some-3-clause-verdict : goal.returns-in-Some-3-clause-verdict
returns-in-Some-3-clause-verdict c =
    let t = c.args.table.now in
    let o = c.args.online.now in
    let i = instance_of t c.args.weights.now in
    let arrival = slice_index c.args.arrivals.now in
    let placed = (rw c.in-Places.is at c.in_ok-places.ensures.placed) c.args.weights.now arrival in
    let total = c.in_default.ensures in
    let released = (rw c.in_default-2.is at c.in_ok-reason.ensures) c.args.weights.now in
    let first = (rw c.in-Some-3.is at c.in_ok-reason-2.ensures) arrival in
    first_of_ends i arrival t.ids o c.in-Some-3.reason placed.1 total released first

pub returns-in-Some-3-clause-yes : goal.returns-in-Some-3-clause-yes
returns-in-Some-3-clause-yes c =
    let t = c.args.table.now in
    let o = c.args.online.now in
    let i = instance_of t c.args.weights.now in
    let arrival = slice_index c.args.arrivals.now in
    let placed = (rw c.in-Places.is at c.in_ok-places.ensures.placed) c.args.weights.now arrival in
    let total = c.in_default.ensures in
    let released = (rw c.in_default-2.is at c.in_ok-reason.ensures) c.args.weights.now in
    let first = (rw c.in-Some-3.is at c.in_ok-reason-2.ensures) arrival in
    yes_where_sound t c.args.weights.now arrival o (No c.in-Some-3.reason) (first_of_ends i arrival t.ids o c.in-Some-3.reason placed.1 total released first)

pub returns-in-Some-3-clause-coflow : goal.returns-in-Some-3-clause-coflow
returns-in-Some-3-clause-coflow c =
    let t = c.args.table.now in
    let o = c.args.online.now in
    let i = instance_of t c.args.weights.now in
    let arrival = slice_index c.args.arrivals.now in
    let first = (rw c.in-Some-3.is at c.in_ok-reason-2.ensures) arrival in
    first.coflow

pub returns-clause-verdict : goal.returns-clause-verdict
returns-clause-verdict c =
    let t = c.args.table.now in
    let o = c.args.online.now in
    let i = instance_of t c.args.weights.now in
    let arrival = slice_index c.args.arrivals.now in
    let placed = (rw c.in-Places.is at c.in_ok-places.ensures.placed) c.args.weights.now arrival in
    let total = c.in_default.ensures in
    let released = (rw c.in_default-2.is at c.in_ok-reason.ensures) c.args.weights.now in
    let ends = (rw c.in_default-3.is at c.in_ok-reason-2.ensures) arrival in
    all_parts t c.args.weights.now arrival o placed.1 total released ends

pub returns-clause-yes : goal.returns-clause-yes
returns-clause-yes c =
    let t = c.args.table.now in
    let o = c.args.online.now in
    let i = instance_of t c.args.weights.now in
    let arrival = slice_index c.args.arrivals.now in
    let placed = (rw c.in-Places.is at c.in_ok-places.ensures.placed) c.args.weights.now arrival in
    let total = c.in_default.ensures in
    let released = (rw c.in_default-2.is at c.in_ok-reason.ensures) c.args.weights.now in
    let ends = (rw c.in_default-3.is at c.in_ok-reason-2.ensures) arrival in
    yes_where_sound t c.args.weights.now arrival o Yes (all_parts t c.args.weights.now arrival o placed.1 total released ends)
