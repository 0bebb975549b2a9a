use Rattle.std.proofs.Common.{sym, ap, ◌∙◌}
use Rattle.turnstile.proofs.Closing.{has_value, value_is}
use Rattle.turnstile.proofs.lock.Turnstile.close.Goals as goal

pub close_with-closed-requires : goal.close_with-closed-requires
close_with-closed-requires g c = ap (λ r. r.table) c.root.view_is ∙ (c.requires.own ∙ sym (ap (λ t. t.table) c.self.view_is))

pub unwrap-requires : goal.unwrap-requires
unwrap-requires g c = has_value _ _ _ _ _ _ _ _ _ _ _ c.root.view_is c.root.invariant.0 c.root.invariant.3 c.requires.free c.requires.all c.close_with-closed.ensures.values.2
    c.take-value.ensures.value

pub returns-clause-setting : goal.returns-clause-setting
returns-clause-setting g c =
    let known = (value_is _ _ _ _ _ _ _ _ _ _ _ _ c.root.view_is c.root.invariant.0 c.root.invariant.3 c.requires.free c.requires.all c.close_with-closed.ensures.values.2
    c.take-value.ensures.value c.unwrap.ensures).0 in
    (known.0 ∙ ap (λ t. t.setting) c.self.view_is, known.1)

pub returns-clause-root : goal.returns-clause-root
returns-clause-root g c = (value_is _ _ _ _ _ _ _ _ _ _ _ _ c.root.view_is c.root.invariant.0 c.root.invariant.3 c.requires.free c.requires.all c.close_with-closed.ensures.values.2
    c.take-value.ensures.value c.unwrap.ensures).1

pub returns-clause-seats : goal.returns-clause-seats
returns-clause-seats g c = (value_is _ _ _ _ _ _ _ _ _ _ _ _ c.root.view_is c.root.invariant.0 c.root.invariant.3 c.requires.free c.requires.all
    c.close_with-closed.ensures.values.2 c.take-value.ensures.value c.unwrap.ensures).2

pub returns-clause-numbers : goal.returns-clause-numbers
returns-clause-numbers g c = (value_is _ _ _ _ _ _ _ _ _ _ _ _ c.root.view_is c.root.invariant.0 c.root.invariant.3 c.requires.free c.requires.all
    c.close_with-closed.ensures.values.2 c.take-value.ensures.value c.unwrap.ensures).3

pub returns-clause-others : goal.returns-clause-others
returns-clause-others g c = (value_is _ _ _ _ _ _ _ _ _ _ _ _ c.root.view_is c.root.invariant.0 c.root.invariant.3 c.requires.free c.requires.all
    c.close_with-closed.ensures.values.2 c.take-value.ensures.value c.unwrap.ensures).4
