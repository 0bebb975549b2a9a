use Rattle.std.proofs.Common.{◌≡◌, ◌∙◌, List, [], Option, Some, None, true, refl, sym, ap, subst, inl, inr, drop}
use Rattle.std.specs.declared.alloc.Global.{Global}
use Rattle.std.specs.declared.string.String.{String}
use Rattle.clap.proofs.OnLiterals.{clap_on_literals}
use Rattle.clap.proofs.WalkLemmas.{first_value-rows}
use Rattle.clap.specs.Words.{App, HasKind, Kinds, app_of, fault_of, first_of, is_simple, is_simple_and_free, kind_of, matches_of as rows_on, rows_of}
use Rattle.clap.specs.declared.error.Error.{Error}
use Rattle.clap.specs.declared.error.kind.ErrorKind.TheVariants as kind
use Rattle.clap.specs.declared.parser.matches.Found.{Found}
use Rattle.command_words.specs.Line.{Use, texts, uses}
use Rattle.command_words.specs.Parser.{Finds, IsAccepted, app}
use Rattle.command_words.proofs.AcceptedLines.{fault_is, rows_are}
use Rattle.command_words.proofs.RefusedLines.{not_none}
use Rattle.command_words.proofs.UseLists.{found_is, is_accepted, not_refused}
use Rattle.command_words.proofs.Utf8.{utf8_behind}
use Rattle.command_words.proofs.parser.matches_of.Goals as goal

simple : is_simple app ≡ true
unfolding clap_on_literals
simple = refl

free : is_simple_and_free app ≡ true
unfolding clap_on_literals
free = refl

finds : (words : List (String Global)) (found : Found) → fault_of app (texts words) ≡ [] → rows_of found ≡ rows_on app (texts words) → Finds (texts words) found
finds words found none rows = by (uses None 1 (drop 1 (texts words))) refl
  where
    by : (o : Option (List Use)) → uses None 1 (drop 1 (texts words)) ≡ o → Finds (texts words) found
    by None n = absurd (not_none (texts words) (utf8_behind words) n none)
    by (Some us) e =
        let accepted : IsAccepted us = is_accepted us (sym (fault_is (texts words) us (utf8_behind words) e) ∙ none) in
        record {
          used = us;
          uses_are = e;
          once = accepted.0;
          value = λ id. first_value-rows found id ∙ ap (first_of id) (rows ∙ rows_are (texts words) us (utf8_behind words) e) ∙ found_is us accepted.0 id;
        }

pub returns-in-Ok-try_get_matches_from-clause-found :
    goal.returns-in-Ok-try_get_matches_from-clause-found
returns-in-Ok-try_get_matches_from-clause-found c =
    let same : app_of c.in-Ok.command ≡ app = c.in-Ok.ensures in
    let words = c.args.words.now in
    let none : fault_of app (texts words) ≡ [] =
    subst (λ (a : App). fault_of a (texts words) ≡ []) same (c.in-Ok-try_get_matches_from.ensures.kinds (ap is_simple_and_free same ∙ free)) in
    let rows = (c.in-Ok-try_get_matches_from.ensures.matches (ap is_simple same ∙ simple)).0 in
    finds words _ none (rows ∙ ap (λ (a : App). rows_on a (texts words)) same)

memory : (words : List (String Global)) (us : List Use) (e : Error) → uses None 1 (drop 1 (texts words)) ≡ Some us → IsAccepted us → HasKind (fault_of app (texts words)) e →
    kind_of e ≡ kind.OutOfMemory
memory words us e is accepted has = by (subst (λ (ks : Kinds). HasKind ks e) (fault_is (texts words) us (utf8_behind words) is ∙ not_refused us accepted) has)
  where
    by : HasKind [] e → kind_of e ≡ kind.OutOfMemory
    by (inl m) = m
    by (inr none) = absurd none

pub returns-in-Err-clause-usage : goal.returns-in-Err-clause-usage
returns-in-Err-clause-usage c = λ usage us is accepted.
    let same : app_of c.in-Ok.command ≡ app = c.in-Ok.ensures in
    let words = c.args.words.now in
    let has = subst (λ (a : App). HasKind (fault_of a (texts words)) c.in-Err.error) same (c.in-Err.ensures.kinds (ap is_simple_and_free same ∙ free)) in
    c.fault_by.ensures.0 (cc) (c.kind.ensures ∙ memory words us c.in-Err.error is accepted has)
