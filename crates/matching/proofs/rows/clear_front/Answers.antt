use Rattle.std.proofs.Common.{length-take-le, refl}
use Rattle.matching.proofs.rows.clear_front.Goals as goal

pub returns : goal.returns
returns c = rw (c.fill.ensures.after (λ y h. h), length-take-le c.args.used c.args.words.now c.requires) refl
