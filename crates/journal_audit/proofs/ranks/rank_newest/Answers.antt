use Rattle.std.proofs.Common.{◌≡◌, ◌∷◌, ◌++◌, [], ℕ, List, true, false, nat_eq, subst, sym, ap, ◌∙◌}
use Rattle.indexmap.specs.IndexMap.{get}
use Rattle.journal.specs.declared.command.Entry.{Entry}
use Rattle.journal.specs.Journal.{is_version, rank_of, version_of}
use Rattle.journal.specs.Line.{rank_in}
use Rattle.journal_audit.specs.Ranks.{AreRanks}
use Rattle.journal_audit.proofs.RankSteps.{ranks_push, ranks_stay}
use Rattle.journal_audit.proofs.ranks.rank_newest.Goals as goal

pub returns-in_ok-push : goal.returns-in_ok-push
returns-in_ok-push c = λ before e is reply h.
    let made : is_version e.reply ≡ true = ap is_version reply ∙ sym c.is_version.ensures ∙ c.if-is_version.true in
    subst (λ ts. AreRanks (get nat_eq) c.args.master.now.opening c.args.master.now.journal ts) (sym c.in_ok-push.ensures.items)
    (subst (λ (j : List Entry). AreRanks (get nat_eq) c.args.master.now.opening j (c.args.ranks.now.items ++ c.in_ok-ranks_of.field-0 ∷ [])) (sym is)
    (ranks_push (get nat_eq) c.args.master.now.opening before e c.args.ranks.now.items c.in_ok-ranks_of.field-0 made h
    (λ coflow. c.in_ok-ranks_of.ensures coflow ∙ ap (λ (l : List ℕ). rank_in l coflow) c.places.ensures.order
    ∙ ap (λ (j : List Entry). rank_of c.args.master.now.opening j (version_of j) coflow) is)))

pub returns-else-is_version : goal.returns-else-is_version
returns-else-is_version c = λ before e is reply h.
    let none : is_version e.reply ≡ false = ap is_version reply ∙ sym c.is_version.ensures ∙ c.if-is_version.false in
    subst (λ (j : List Entry). AreRanks (get nat_eq) c.args.master.now.opening j c.args.ranks.now.items) (sym is)
    (ranks_stay (get nat_eq) c.args.master.now.opening before e c.args.ranks.now.items none h)
