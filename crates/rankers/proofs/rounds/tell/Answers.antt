use Rattle.std.proofs.Common.{◌≡◌, ◌<◌, length, ap, subst, ◌∙◌, arith}
use Rattle.std.specs.Prelude.{All}
use Rattle.rankers.specs.ByKey.{by_key, key_in}
use Rattle.rankers.proofs.Noted.{told_completions}
use Rattle.rankers.proofs.rounds.tell.Goals as goal

pub fill_by_key-requires : goal.fill_by_key-requires
fill_by_key-requires g c = omega (arith, c.requires.order, c.requires.few)

pub tell_each-requires : goal.tell_each-requires
tell_each-requires g c = subst (λ n. All (λ k. k < n) c.fill_by_key.new.out) c.requires.order c.fill_by_key.ensures.known

pub returns : goal.returns
returns g c = λ flows slots are.
    let ends = c.args.ends.now in
    let order : c.fill_by_key.new.out ≡ by_key (key_in ends) (length ends) = c.fill_by_key.ensures.order ∙ ap (by_key (key_in ends)) c.requires.order in
    c.tell_each.ensures ∙ told_completions flows (length ends) _ slots ends c.fill_by_key.new.out are order
