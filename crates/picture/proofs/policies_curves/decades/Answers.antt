use Rattle.std.proofs.Common.{◌-◌, arith}
use Rattle.std.proofs.lemmas.Fmt.{decimal_nonempty, length-decimal-le}
use Rattle.picture.proofs.policies_curves.decades.Goals as goal

pub returns-clause-some : goal.returns-clause-some
returns-clause-some c =
    omega (arith, c.digits_of.ensures.digits, decimal_nonempty (c.args.picture.now.last - 1) (omega (arith, c.requires.short)))

pub returns-clause-few : goal.returns-clause-few
returns-clause-few c =
    omega (
      arith,
      c.digits_of.ensures.digits,
      length-decimal-le 13 (c.args.picture.now.last - 1) (omega arith) (omega (arith, c.requires.short)) (omega (arith, c.requires.short)),
    )
