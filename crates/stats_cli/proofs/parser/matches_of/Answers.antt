use Rattle.std.proofs.Common.{◌≡◌, ◌∙◌, List, [], true, refl, ap, subst, inl, inr}
use Rattle.clap.proofs.OnLiterals.{clap_on_literals}
use Rattle.clap.proofs.WalkLemmas.{first_value-rows}
use Rattle.clap.specs.Words.{App, HasKind, Kinds, app_of, fault_of, first_of, is_simple, is_simple_and_free, kind_of, matches_of as rows_on, rows_of}
use Rattle.clap.specs.declared.error.Error.{Error}
use Rattle.clap.specs.declared.error.kind.ErrorKind.TheVariants as kind
use Rattle.clap.specs.declared.parser.matches.Found.{Found}
use Rattle.std.specs.declared.alloc.Global.{Global}
use Rattle.std.specs.declared.string.String.{String}
use Rattle.command_words.specs.Line.{texts}
use Rattle.stats_cli.specs.Parser.{IsFound, app}
use Rattle.stats_cli.proofs.parser.matches_of.Goals as goal

simple : is_simple app ≡ true
unfolding clap_on_literals
simple = refl

free : is_simple_and_free app ≡ true
unfolding clap_on_literals
free = refl

finds : (words : List (String Global)) (found : Found) → fault_of app (texts words) ≡ [] → rows_of found ≡ rows_on app (texts words) → IsFound (texts words) found
finds words found none rows = record { accepted = none; value = λ id. first_value-rows found id ∙ ap (first_of id) rows }

pub returns-in-Ok-try_get_matches_from-clause-found :
    goal.returns-in-Ok-try_get_matches_from-clause-found
returns-in-Ok-try_get_matches_from-clause-found c =
    let same : app_of c.in-Ok.command ≡ app = c.in-Ok.ensures in
    let words = c.args.words.now in
    let none : fault_of app (texts words) ≡ [] =
    subst (λ (a : App). fault_of a (texts words) ≡ []) same (c.in-Ok-try_get_matches_from.ensures.kinds (ap is_simple_and_free same ∙ free)) in
    let rows = (c.in-Ok-try_get_matches_from.ensures.matches (ap is_simple same ∙ simple)).0 in
    finds words _ none (rows ∙ ap (λ (a : App). rows_on a (texts words)) same)

of_no_kind : (e : Error) → HasKind [] e → kind_of e ≡ kind.OutOfMemory
of_no_kind e (inl m) = m
of_no_kind e (inr none) = absurd none

pub returns-in-Err-clause-usage : goal.returns-in-Err-clause-usage
returns-in-Err-clause-usage c = λ usage none.
    let same : app_of c.in-Ok.command ≡ app = c.in-Ok.ensures in
    let words = c.args.words.now in
    let has = subst (λ (a : App). HasKind (fault_of a (texts words)) c.in-Err.error) same (c.in-Err.ensures.kinds (ap is_simple_and_free same ∙ free)) in
    c.fault_by.ensures.0 (cc) (c.kind.ensures ∙ of_no_kind c.in-Err.error (subst (λ (k : Kinds). HasKind k c.in-Err.error) none has))
