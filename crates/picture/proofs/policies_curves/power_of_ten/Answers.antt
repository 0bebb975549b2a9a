use Rattle.std.proofs.Common.{◌≡◌, ◌≤◌, ◌^◌, ap, ◌∙◌, arith}
use Rattle.std.proofs.Math.Nat.{one-le-pow, pow-le-pow_right}
use Rattle.picture.proofs.policies_curves.power_of_ten.Goals as goal

pub overflow_mul-number : goal.overflow_mul-number
overflow_mul-number c =
    let most : 10 ^ c.loop.counter ≤ 10 ^ 13 = pow-le-pow_right {n = 10} (omega arith) {i = c.loop.counter} {j = 13} (omega arith) in
    omega (arith, most, c.loop.invariant)

pub returns : goal.returns
returns c =
    let is : c.loop.number ≡ 10 ^ c.args.power = c.loop.invariant ∙ ap (λ k. 10 ^ k) (omega arith) in
    record {
      number = is;
      least = omega (arith, is, one-le-pow c.args.power 10 (omega arith));
      ten = λ some. let le : 10 ^ 1 ≤ 10 ^ c.args.power = pow-le-pow_right {n = 10} (omega arith) {i = 1} {j = c.args.power} some in omega (arith, is, le);
    }
