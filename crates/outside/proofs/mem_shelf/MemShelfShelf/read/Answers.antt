use Rattle.std.proofs.Common.{◌≡◌, List, length, refl, sym, ap, subst, ◌∙◌}
use Rattle.std.specs.Prelude.{◌↔◌, Some}
use Rattle.std.proofs.lemmas.List.{with_items_is}
use Rattle.outside.specs.declared.files.File.{File}
use Rattle.outside.specs.Files.{HasNoFile, count_at, counts_of, memory_told}
use Rattle.outside.specs.declared.sink.Failed.{Failed}
use Rattle.outside.proofs.FileSteps.{same_missing}
use Rattle.outside.proofs.MemorySteps.{read_fails, read_succeeds, started_still}
use Rattle.outside.proofs.mem_shelf.MemShelfShelf.read.Goals as goal

pub returns-then-next_fails-clause-told : goal.returns-then-next_fails-clause-told
returns-then-next_fails-clause-told c =
    let shelf = c.args.self.now in
    let r = rw c.deref_mut.ensures.value at c.raise.ensures in
    let before = count_at (counts_of shelf.files.items) shelf.counts.missing in
    let missing = c.raise.new.counts.missing in
    let after = count_at (counts_of c.raise.new.files) missing in
    let told = read_fails {E = Failed} shelf.files.items c.raise.new.files before after shelf.places c.args.place c.args.buffer.now c.in-Some.opened _ (sym c.in-Some.ensures)
    r.names r.contents r.later r.rose r.others in
    let long = rw c.deref_mut.ensures.value at c.raise.auto.files in
    let many : length c.raise.new.files ≡ shelf.files.len = long ∙ sym shelf.files.ok.0 in
    let same = with_items_is shelf.files c.raise.new.files many in
    (memory_told c.raise.new.files after shelf.places, ap (λ items. Some (memory_told items (count_at (counts_of items) missing) shelf.places)) same, told)

pub returns-clause-started : goal.returns-clause-started
returns-clause-started c = rw c.set.ensures (started_still c.args.self.now.places c.args.place c.in-Some.opened _ (sym c.in-Some.ensures))

pub returns-clause-told : goal.returns-clause-told
returns-clause-told c =
    let shelf = c.args.self.now in
    let count = count_at (counts_of shelf.files.items) shelf.counts.missing in
    let bytes = rw c.deref-2.ensures.value at c.bytes_at-bytes.ensures in
    let moves = rw bytes at c.copy_some-count.ensures.moves in
    let told = read_succeeds {E = Failed} shelf.files.items count shelf.places c.args.place c.copy_some-count.new.buffer c.in-Some.opened c.copy_some-count.result
    (sym c.in-Some.ensures) moves in
    (memory_told shelf.files.items count c.set.new.self, refl, rw c.set.ensures told)

pub returns-then-next_fails-clause-names : goal.returns-then-next_fails-clause-names
returns-then-next_fails-clause-names c = λ name.
    let shelf = c.args.self.now in
    let r = rw c.deref_mut.ensures.value at c.raise.ensures in
    let long = rw c.deref_mut.ensures.value at c.raise.auto.files in
    let same = with_items_is shelf.files c.raise.new.files (long ∙ sym shelf.files.ok.0) in
    subst (λ (items : List File). HasNoFile items name ↔ HasNoFile shelf.files.items name) (sym same)
    (same_missing shelf.files.items c.raise.new.files r.names long name)
