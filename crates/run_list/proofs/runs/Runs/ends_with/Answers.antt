use Rattle.std.proofs.Common.{◌∙◌, [], length, ap, sym, arith}
use Rattle.std.proofs.lemmas.Bool.Decides.{Decides-eqb}
use Rattle.std.proofs.lemmas.Slice.Eq.{slice_eq-Decides}
use Rattle.run_list.proofs.Keeping.{last_flows, length-runs_of}
use Rattle.run_list.proofs.runs.Runs.ends_with.Goals as goal

pub returns-then-eq : goal.returns-then-eq
returns-then-eq c =
    let kept = c.self.inside in
    let counted = length-runs_of [] kept.marks.items kept.numbers.items in
    let seen = ap length c.self.view_is in
    let same = (slice_eq-Decides Decides-eqb c.as_slice.result.now c.args.flows.now c.eq.result c.eq.ensures).0 c.if-eq.true in (
      grind arith,
      λ k r e.
          last_flows kept.marks.items kept.numbers.items kept.last.items kept.widest kept.bound c.args.self.now k r c.self.invariant c.self.view_is e
          ∙ sym c.as_slice.ensures.value ∙ same,
    )

pub returns : goal.returns
returns c = λ k r e same.
    let kept = c.self.inside in
    let last = last_flows kept.marks.items kept.numbers.items kept.last.items kept.widest kept.bound c.args.self.now k r c.self.invariant c.self.view_is e in
    let decides = slice_eq-Decides Decides-eqb c.as_slice.result.now c.args.flows.now c.eq.result c.eq.ensures in
    let equal = decides.1 (c.as_slice.ensures.value ∙ sym last ∙ same) in
    cc
