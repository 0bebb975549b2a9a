use Rattle.std.proofs.Common.{◌<◌, ◌∙◌, [], length, ap, sym, arith}
use Rattle.run_list.specs.declared.mark.Mark.{Mark}
use Rattle.run_list.proofs.Keeping.{length-runs_of, slots_at}
use Rattle.run_list.proofs.runs.Runs.slots.Goals as goal

pub index-requires : goal.index-requires
index-requires c = omega (arith, length-runs_of [] c.self.inside.marks.items c.self.inside.numbers.items, ap length c.self.view_is)

pub returns : goal.returns
returns c = λ r.
    let inside : c.args.place < length c.self.inside.marks.items =
    omega (arith, length-runs_of [] c.self.inside.marks.items c.self.inside.numbers.items, ap length c.self.view_is) in
    rw (← c.self.view_is)
    (ap (λ (mark : Mark). mark.slots) c.index.ensures ∙ sym (slots_at [] c.self.inside.marks.items c.self.inside.numbers.items c.args.place r c.index.result.now inside))
