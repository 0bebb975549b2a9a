use Rattle.std.proofs.Common.{nat_eq, refl, sym, ◌∙◌, arith}
use Rattle.std.proofs.lemmas.Bool.{false≢true, le-leb, leb-true}
use Rattle.indexmap.specs.IndexMap.{get}
use Rattle.journal_audit.specs.Pulls.{pull_at}
use Rattle.journal_audit.proofs.KnownIds.{found_known, not_found}
use Rattle.journal_audit.proofs.pulls.is_next_pull.Goals as goal

pub returns-in_default : goal.returns-in_default
returns-in_default c = λ ids finds. (
  λ t. absurd (false≢true t),
  λ h. absurd (not_found ids (get nat_eq c.args.coflows.now) (pull_at c.args.pulls.now c.args.index).id finds (sym c.found.ensures ∙ c.in_default.is) h.known),
)

pub returns-then-index-eq0 : goal.returns-then-index-eq0
returns-then-index-eq0 c = λ ids finds. (
  λ t. record {
    made = c.if-pull-newest.false;
    known = (found_known ids (get nat_eq c.args.coflows.now) (pull_at c.args.pulls.now c.args.index).id c.in-Some.field-0 finds (sym c.found.ensures ∙ c.in-Some.is)).0;
    no_fall = λ some same. absurd (omega (arith, some, c.if-index-eq0.true));
  },
  λ h. refl,
)

pub returns-then-before-pull : goal.returns-then-before-pull
returns-then-before-pull c = λ ids finds. (
  λ t. record {
    made = c.if-pull-newest.false;
    known = (found_known ids (get nat_eq c.args.coflows.now) (pull_at c.args.pulls.now c.args.index).id c.in-Some.field-0 finds (sym c.found.ensures ∙ c.in-Some.is)).0;
    no_fall = λ some same. leb-true _ _ t;
  },
  λ h. le-leb _ _ (h.no_fall (omega (arith, c.if-index-eq0.false)) c.if-before-pull.true),
)

pub returns : goal.returns
returns c = λ ids finds. (
  λ t. record {
    made = c.if-pull-newest.false;
    known = (found_known ids (get nat_eq c.args.coflows.now) (pull_at c.args.pulls.now c.args.index).id c.in-Some.field-0 finds (sym c.found.ensures ∙ c.in-Some.is)).0;
    no_fall = λ some same. absurd (c.if-before-pull.false same);
  },
  λ h. refl,
)
