use Rattle.std.proofs.Common.{◌≡◌, ◌+◌, ◌-◌, ◌<◌, ◌≤◌, ℕ, nat_eq, sym, ap, ◌∙◌, arith}
use Rattle.indexmap.specs.IndexMap.{get}
use Rattle.journal.specs.Journal.{rank_of, version_of}
use Rattle.journal_audit.specs.Ranks.{told}
use Rattle.journal_audit.proofs.KnownIds.{found_known, not_found}
use Rattle.journal_audit.proofs.PullSteps.{rank_made, rank_unknown}
use Rattle.journal_audit.proofs.pulls.rank_of.Goals as goal

pub returns-in_default : goal.returns-in_default
returns-in_default c = λ o journal finds h.
    rank_unknown o journal c.args.pull (not_found o.table.ids (get nat_eq c.args.coflows.now) c.args.pull.id finds (sym c.found.ensures ∙ c.in_default.is))

pub returns : goal.returns
returns c = λ o journal finds h.
    let known = found_known o.table.ids (get nat_eq c.args.coflows.now) c.args.pull.id c.in-Some.coflow finds (sym c.found.ensures ∙ c.in-Some.is) in
    let made : c.args.pull.version ≤ version_of journal = omega (arith, c.if-pull-ranks.false, h.0) in
    let below : c.args.pull.version - 1 < version_of journal = omega (arith, made, c.if-pull-eq0.false) in
    let here : c.args.pull.version - 1 + 1 ≡ c.args.pull.version = omega (arith, c.if-pull-eq0.false) in
    c.unwrap_or.ensures ∙ ap told c.found-2.ensures ∙ ap (λ t. told (get nat_eq t c.in-Some.coflow)) c.index-ranks-pull.is
    ∙ h.1 (c.args.pull.version - 1) c.in-Some.coflow c.index-ranks-pull.result below
    ∙ ap (λ (n : ℕ). rank_of o journal n c.in-Some.coflow) here ∙ ap (λ (n : ℕ). rank_of o journal c.args.pull.version n) known.1
    ∙ rank_made o journal c.args.pull known.0 made
