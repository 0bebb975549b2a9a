use Rattle.std.proofs.Common.{◌<◌, ◌≤◌, length, refl, arith, ap}
use Rattle.std.specs.Prelude.{string_bytes}
use Rattle.std.proofs.lemmas.List.{length-map}
use Rattle.outside.specs.declared.files.File.{File}
use Rattle.outside.specs.Files.{names_of, number_of}
use Rattle.outside.proofs.FileSteps.{not_there, push_adds, push_puts, set_adds, set_puts}
use Rattle.outside.proofs.files.put.Goals as goal

pub returns-then-number-len-clause-ok : goal.returns-then-number-len-clause-ok
returns-then-number-len-clause-ok c =
    let at = rw c.deref.ensures.value at c.number_of-number.ensures in
    let inside : c.number_of-number.result < length c.args.files.now.items = omega (arith, c.args.files.now.ok.0) in
    set_puts c.args.files.now.items c.number_of-number.result c.args.missing _ c.index_mut.result.now c.args.name.now c.args.bytes.now at inside c.in_ok-bytes.ensures.items
    (ap (λ (x : File). string_bytes x.name) c.index_mut.ensures.value) (ap (λ (x : File). x.faults) c.index_mut.ensures.value)

pub returns-clause-ok : goal.returns-clause-ok
returns-clause-ok c =
    let many = length-map c.args.files.now.items (λ (x : File). string_bytes x.name) in
    let at = rw c.deref.ensures.value at c.number_of-number.ensures in
    let absent : length c.args.files.now.items ≤ number_of (names_of c.args.files.now.items) c.args.name.now = omega (arith, at, c.args.files.now.ok.0) in
    let items = c.in_ok-push.ensures.items in
    rw items (push_puts c.args.files.now.items c.args.missing _ c.args.name.now c.args.bytes.now absent c.in_ok-bytes.ensures.items c.in_ok-name.ensures.ok refl)

pub returns-then-number-len-clause-named : goal.returns-then-number-len-clause-named
returns-then-number-len-clause-named c =
    let at = rw c.deref.ensures.value at c.number_of-number.ensures in
    let inside : c.number_of-number.result < length c.args.files.now.items = omega (arith, c.args.files.now.ok.0) in
    let same = ap (λ (x : File). string_bytes x.name) c.index_mut.ensures.value in
    (set_adds c.args.files.now.items c.number_of-number.result _ c.index_mut.result.now c.args.name.now at inside same).added

pub returns-then-number-len-clause-alone : goal.returns-then-number-len-clause-alone
returns-then-number-len-clause-alone c =
    let at = rw c.deref.ensures.value at c.number_of-number.ensures in
    let inside : c.number_of-number.result < length c.args.files.now.items = omega (arith, c.args.files.now.ok.0) in
    let same = ap (λ (x : File). string_bytes x.name) c.index_mut.ensures.value in
    (set_adds c.args.files.now.items c.number_of-number.result _ c.index_mut.result.now c.args.name.now at inside same).others

pub returns-then-number-len-clause-count : goal.returns-then-number-len-clause-count
returns-then-number-len-clause-count c =
    let at = rw c.deref.ensures.value at c.number_of-number.ensures in
    let inside : c.number_of-number.result < length c.args.files.now.items = omega (arith, c.args.files.now.ok.0) in
    let same = ap (λ (x : File). string_bytes x.name) c.index_mut.ensures.value in
    (set_adds c.args.files.now.items c.number_of-number.result _ c.index_mut.result.now c.args.name.now at inside same).count

pub returns-clause-named : goal.returns-clause-named
returns-clause-named c =
    let at = rw c.deref.ensures.value at c.number_of-number.ensures in
    let absent = not_there c.args.files.now.items c.args.name.now c.number_of-number.result at (omega (arith, c.args.files.now.ok.0)) in
    rw c.in_ok-push.ensures.items (push_adds c.args.files.now.items _ c.args.name.now absent c.in_ok-name.ensures.ok).added

pub returns-clause-alone : goal.returns-clause-alone
returns-clause-alone c =
    let at = rw c.deref.ensures.value at c.number_of-number.ensures in
    let absent = not_there c.args.files.now.items c.args.name.now c.number_of-number.result at (omega (arith, c.args.files.now.ok.0)) in
    rw c.in_ok-push.ensures.items (push_adds c.args.files.now.items _ c.args.name.now absent c.in_ok-name.ensures.ok).others

pub returns-clause-count : goal.returns-clause-count
returns-clause-count c =
    let at = rw c.deref.ensures.value at c.number_of-number.ensures in
    let absent = not_there c.args.files.now.items c.args.name.now c.number_of-number.result at (omega (arith, c.args.files.now.ok.0)) in
    rw c.in_ok-push.ensures.items (push_adds c.args.files.now.items _ c.args.name.now absent c.in_ok-name.ensures.ok).count
