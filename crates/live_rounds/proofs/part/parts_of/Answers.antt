-- One part more.
use Rattle.std.proofs.Common.{◌≡◌, ◌+◌, List, [], ◌∷◌, length, sym, ap, subst, arith, length-append}
use Rattle.live_rounds.specs.declared.part.Part.{Part}
use Rattle.live_rounds.specs.Parts.{AreParts, IsPart}
use Rattle.live_rounds.proofs.PartsBuilt.{parts_more}
use Rattle.live_rounds.proofs.part.parts_of.Goals as goal

pub loop-index-preserved : goal.loop-index-preserved
loop-index-preserved c =
    let old = c.loop-index.parts.items in
    let p = c.in-Ok.part in
    let items = c.push_reserved.ensures.items in
    let i = c.loop-index.invariant in
    let many = i.many in
    let room = i.room in
    let next : c.loop-index.index + 1 ≡ 1 + length old = omega (arith, many) in
    let part : IsPart c.args.lines.now (1 + length old) p = subst (λ n. IsPart c.args.lines.now n p) next c.in-Ok.ensures in
    record {
      many = omega (arith, ap (λ (l : List Part). length l) items, length-append old (p ∷ []), many);
      parts = subst (AreParts c.args.lines.now 1) (sym items) (parts_more c.args.lines.now 1 old p i.parts part);
      room = omega (arith, room, c.push_reserved.ensures.capacity);
    }
