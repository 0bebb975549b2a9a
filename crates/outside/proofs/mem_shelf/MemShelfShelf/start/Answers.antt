use Rattle.std.proofs.Common.{◌≡◌, List, length, refl, sym, ap, subst, ◌∙◌}
use Rattle.std.specs.Prelude.{◌↔◌, Some}
use Rattle.std.proofs.lemmas.List.{with_items_is}
use Rattle.outside.specs.declared.files.File.{File}
use Rattle.outside.specs.Files.{HasNoFile, count_at, counts_of, memory_told}
use Rattle.outside.specs.declared.sink.Failed.{Failed}
use Rattle.outside.proofs.FileSteps.{same_missing}
use Rattle.outside.proofs.MemorySteps.{start_fails, start_succeeds}
use Rattle.outside.proofs.mem_shelf.MemShelfShelf.start.Goals as goal

pub returns-then-failing-clause-told : goal.returns-then-failing-clause-told
returns-then-failing-clause-told c =
    let shelf = c.args.self.now in
    let file = rw c.deref.ensures.value at c.number_of-file.ensures in
    let r = rw c.deref_mut.ensures.value at c.raise.ensures in
    let before = count_at (counts_of shelf.files.items) shelf.counts.missing in
    let missing = c.raise.new.counts.missing in
    let after = count_at (counts_of c.raise.new.files) missing in
    let told = start_fails {X = Unit {0}} {E = Failed} shelf.files.items c.raise.new.files before after shelf.places c.args.place c.args.name.now c.number_of-file.result _ file
    r.names r.contents r.later r.rose r.others in
    let long = rw c.deref_mut.ensures.value at c.raise.auto.files in
    let many : length c.raise.new.files ≡ shelf.files.len = long ∙ sym shelf.files.ok.0 in
    let same = with_items_is shelf.files c.raise.new.files many in
    (memory_told c.raise.new.files after c.set.new.self, ap (λ items. Some (memory_told items (count_at (counts_of items) missing) c.set.new.self)) same, rw c.set.ensures told)

pub returns-clause-told : goal.returns-clause-told
returns-clause-told c =
    let shelf = c.args.self.now in
    let file = rw c.deref.ensures.value at c.number_of-file.ensures in
    let count = count_at (counts_of shelf.files.items) shelf.counts.missing in
    let told = start_succeeds {X = Unit {0}} {E = Failed} shelf.files.items count shelf.places c.args.place c.args.name.now c.number_of-file.result tt file in
    (memory_told shelf.files.items count c.set-2.new.self, refl, rw c.set-2.ensures told)

pub returns-then-failing-clause-names : goal.returns-then-failing-clause-names
returns-then-failing-clause-names c = λ name.
    let shelf = c.args.self.now in
    let r = rw c.deref_mut.ensures.value at c.raise.ensures in
    let long = rw c.deref_mut.ensures.value at c.raise.auto.files in
    let same = with_items_is shelf.files c.raise.new.files (long ∙ sym shelf.files.ok.0) in
    subst (λ (items : List File). HasNoFile items name ↔ HasNoFile shelf.files.items name) (sym same)
    (same_missing shelf.files.items c.raise.new.files r.names long name)
