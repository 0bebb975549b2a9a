-- What is said of the values that are found, and of the words.
use Rattle.std.proofs.Common.{◌≡◌, ◌∙◌, List, Option, sym, subst}
use Rattle.std.proofs.lemmas.Option.{same_Some}
use Rattle.clap.specs.Words.{first_value}
use Rattle.clap.specs.declared.parser.matches.Found.{Found}
use Rattle.command_words.specs.Line.{Text, Use, value_of}
use Rattle.command_words.specs.Parser.{Finds}
use Rattle.command_words.specs.Words.{IsSaid, IsWords, Said}

pub words_found : (words : List Text) (found : Found) (said : Said) → Finds words found → IsSaid (first_value found) said → IsWords words said
words_found words found said f is = record {
  used = f.used;
  uses_are = f.uses_are;
  once = f.once;
  says = subst (λ (v : Text → Option Text). IsSaid v said) (λ i id. f.value id i) is;
}

pub found_words : (words : List Text) (found : Found) (said : Said) → Finds words found → IsWords words said → IsSaid (first_value found) said
found_words words found said f w =
    let same : f.used ≡ w.used = same_Some _ _ (sym f.uses_are ∙ w.uses_are) in
    let says : IsSaid (λ id. value_of id f.used) said = subst (λ (us : List Use). IsSaid (λ id. value_of id us) said) (sym same) w.says in
    subst (λ (v : Text → Option Text). IsSaid v said) (λ i id. sym (f.value id) i) says
