use Rattle.std.proofs.Common.{drop}
use Rattle.std.specs.Prelude.{codes}
use Rattle.std.proofs.lemmas.Bool.Decides.{Decides-eqb}
use Rattle.std.proofs.lemmas.Slice.Eq.{starts_is}
use Rattle.online_text.proofs.reading.is_online.Goals as goal

pub returns : goal.returns
returns c =
    let both = starts_is Decides-eqb c.args.bytes.now (codes "sincronia online 2\n") c.starts_with.result c.starts_with.ensures.value in
    record { first = ((λ t. (drop 19 c.args.bytes.now, both.0 t)), (λ b. both.1 b.0 b.1)) }
