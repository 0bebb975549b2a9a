use Rattle.std.proofs.Common.{refl}
use Rattle.outside.specs.Files.{memory_told}
use Rattle.outside.specs.declared.sink.Failed.{Failed}
use Rattle.outside.proofs.MemorySteps.{start_succeeds}
use Rattle.outside.proofs.sure_shelf.SureShelfShelf.start.Goals as goal

pub returns-clause-told : goal.returns-clause-told
returns-clause-told c =
    let shelf = c.args.self.now in
    let file = rw c.deref.ensures.value at c.number_of-file.ensures in
    let told = start_succeeds {X = Unit {0}} {E = Failed} shelf.files.items (λ _. 0) shelf.places c.args.place c.args.name.now c.number_of-file.result tt file in
    (memory_told shelf.files.items (λ _. 0) c.set.new.self, refl, rw c.set.ensures told)
