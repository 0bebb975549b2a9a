-- Which lists of uses the parser accepts, and what is found then.
use Rattle.std.proofs.Common.{◌≡◌, ◌≢◌, ◌++◌, List, [], ◌∷◌, Option, Some, None, Bool, true, false, refl, ap, ◌∙◌, sym, subst, codes, map, append_assoc, append-nil, ap₂, arith}
use Rattle.std.proofs.lemmas.Bool.Decides.{nat_tests}
use Rattle.std.specs.Prelude.{fold, is_some}
use Rattle.std.specs.List.{list_all}
use Rattle.std.specs.Str.{bytes_eq}
use Rattle.std.proofs.lemmas.Slice.Eq.{bytes_eq-Decides}
use Rattle.std.proofs.lemmas.List.{map-append}
use Rattle.clap.specs.Words.{Kinds, Row, Rule, first_of}
use Rattle.clap.specs.Kinds.{or_else}
use Rattle.clap.specs.Takes.{is_given}
use Rattle.clap.specs.Values.{reading_of}
use Rattle.clap.specs.Walk.{at_row, has_row, is_empty, more_values, with_default}
use Rattle.clap.specs.Faults.{check_fault, defaults_fault}
use Rattle.clap.specs.declared.builder.value_parser.ValueParser.TheVariants as parser
use Rattle.clap.specs.declared.error.kind.ErrorKind.TheVariants as kind
use Rattle.clap.specs.declared.parser.matches.ValueSource.TheVariants.{CommandLine}
use Rattle.command_words.specs.Line.{IsOnce, Text, Use, value_of}
use Rattle.command_words.specs.Parser.{IsAccepted}
use Rattle.command_words.proofs.AcceptedLines.{after, outcome}
use Rattle.command_words.proofs.ParserArguments.{clash, put}
use Rattle.command_words.proofs.ParserState.{rules, shape}

-- ---- the row of a use

abbrev row_by : Use → Row
row_by u = record { id = u.0; values = u.1 ∷ []; count = None; source = Some CommandLine; reading = reading_of parser.String }

abbrev pub rows_by : List Use → List Row
rows_by us = map row_by us

has_is : (id : Text) (us : List Use) → has_row id (rows_by us) ≡ is_some (value_of id us)
has_is id [] = refl
has_is id (u ∷ us) = by (bytes_eq u.0 id) refl (has_is id us)
  where
    by : (b : Bool) → bytes_eq u.0 id ≡ b → has_row id (rows_by us) ≡ is_some (value_of id us) → has_row id (rows_by (u ∷ us)) ≡ is_some (value_of id (u ∷ us))
    by true e more = rw e refl
    by false e more = rw e more

given_is : (id : Text) (us : List Use) → is_given id (rows_by us) ≡ is_some (value_of id us)
given_is id [] = refl
given_is id (u ∷ us) = by (bytes_eq u.0 id) refl (given_is id us)
  where
    by : (b : Bool) → bytes_eq u.0 id ≡ b → is_given id (rows_by us) ≡ is_some (value_of id us) → is_given id (rows_by (u ∷ us)) ≡ is_some (value_of id (u ∷ us))
    by true e more = rw e refl
    by false e more = rw e more

first_is : (id : Text) (us : List Use) → first_of id (rows_by us) ≡ value_of id us
first_is id [] = refl
first_is id (u ∷ us) = by (bytes_eq u.0 id) refl (first_is id us)
  where
    by : (b : Bool) → bytes_eq u.0 id ≡ b → first_of id (rows_by us) ≡ value_of id us → first_of id (rows_by (u ∷ us)) ≡ value_of id (u ∷ us)
    by true e more = rw e refl
    by false e more = rw e more

-- ---- uses that are not there

-- A list without a use of the argument: the first use is of another, and so are those behind it.
none_here : (id : Text) (u : Use) (us : List Use) → value_of id (u ∷ us) ≡ None → (bytes_eq u.0 id ≡ false) × (value_of id us ≡ None)
none_here id u us none = by (bytes_eq u.0 id) refl
  where
    by : (b : Bool) → bytes_eq u.0 id ≡ b → (bytes_eq u.0 id ≡ false) × (value_of id us ≡ None)
    by true e = let bad : Some u.1 ≡ None = rw e at none in cc
    by false e = (e, rw e at none)

none_with : (id : Text) (u : Use) (us : List Use) → bytes_eq u.0 id ≡ false → value_of id us ≡ None → value_of id (u ∷ us) ≡ None
none_with id u us e none = rw e none

other_way : (a b : Text) → bytes_eq a b ≡ false → bytes_eq b a ≡ false
other_way a b e = by (bytes_eq b a) refl
  where
    by : (r : Bool) → bytes_eq b a ≡ r → bytes_eq b a ≡ false
    by true t = let same : b ≡ a = (bytes_eq-Decides b a).0 t in let bad : false ≡ true = sym e ∙ (bytes_eq-Decides a b).1 (sym same) in cc
    by false t = t

-- Where the use is put behind others.
none_both : (id : Text) (done : List Use) (u : Use) → value_of id (done ++ u ∷ []) ≡ None → (value_of id done ≡ None) × (bytes_eq u.0 id ≡ false)
none_both id [] u none = (refl, (none_here id u [] none).0)
none_both id (d ∷ done) u none =
    let here = none_here id d (done ++ u ∷ []) none in
    let more = none_both id done u here.1 in
    (none_with id d done here.0 more.0, more.1)

none_behind : (id : Text) (done : List Use) (u : Use) → value_of id done ≡ None → bytes_eq u.0 id ≡ false → value_of id (done ++ u ∷ []) ≡ None
none_behind id [] u none e = none_with id u [] e refl
none_behind id (d ∷ done) u none e =
    let here = none_here id d done none in
    none_with id d (done ++ u ∷ []) here.0 (none_behind id done u here.1 e)

at_end : (id : Text) (change : Row → List Row) (missing : List Row) (us : List Use) → value_of id us ≡ None → at_row id change missing (rows_by us) ≡ rows_by us ++ missing
at_end id change missing [] none = refl
at_end id change missing (u ∷ us) none =
    let here = none_here id u us none in
    rw here.0 (ap (λ rs. row_by u ∷ rs) (at_end id change missing us here.1))

put_is : (u : Use) (us : List Use) → value_of u.0 us ≡ None → put u (rows_by us) ≡ rows_by (us ++ u ∷ [])
put_is u us none =
    let without_is : at_row u.0 (λ _. []) [] (rows_by us) ≡ rows_by us ++ [] = at_end u.0 (λ _. []) [] us none in
    rw (without_is, append-nil (rows_by us)) (at_end u.0 (more_values CommandLine (u.1 ∷ [])) (row_by u ∷ []) us none ∙ sym (map-append row_by us (u ∷ [])))

-- ---- each argument once

-- Each use is of an argument that is used neither before it nor among those that are done.
abbrev Fresh : List Use → List Use → Type 0
Fresh done [] = Unit {0}
Fresh done (u ∷ us) = (value_of u.0 done ≡ None) × Fresh (done ++ u ∷ []) us

abbrev Apart : List Use → List Use → Type 0
Apart done [] = Unit {0}
Apart done (u ∷ us) = (value_of u.0 done ≡ None) × Apart done us

apart_both : (done : List Use) (u : Use) (us : List Use) → Apart (done ++ u ∷ []) us → Apart done us × (value_of u.0 us ≡ None)
apart_both done u [] h = (tt, refl)
apart_both done u (v ∷ us) h =
    let here = none_both v.0 done u h.0 in
    let more = apart_both done u us h.1 in
    ((here.0, more.0), none_with u.0 v us (other_way u.0 v.0 here.1) more.1)

apart_with : (done : List Use) (u : Use) (us : List Use) → Apart done us → value_of u.0 us ≡ None → Apart (done ++ u ∷ []) us
apart_with done u [] h none = tt
apart_with done u (v ∷ us) h none =
    let here = none_here u.0 v us none in
    (none_behind v.0 done u h.0 (other_way v.0 u.0 here.0), apart_with done u us h.1 here.1)

once_by : (done us : List Use) → Fresh done us → IsOnce us × Apart done us
once_by done [] f = (tt, tt)
once_by done (u ∷ us) f =
    let more = once_by (done ++ u ∷ []) us f.1 in
    let apart = apart_both done u us more.1 in
    ((apart.1, more.0), (f.0, apart.0))

fresh_by : (done us : List Use) → IsOnce us → Apart done us → Fresh done us
fresh_by done [] once apart = tt
fresh_by done (u ∷ us) once apart = (apart.0, fresh_by (done ++ u ∷ []) us once.1 (apart_with done u us apart.1 once.0))

none_apart : (us : List Use) → Apart [] us
none_apart [] = tt
none_apart (u ∷ us) = (refl, none_apart us)

-- ---- where the words end

-- No argument has a default.
no_default : (c : List Rule) (rows : List Row) → list_all (λ a. is_empty a.defaults) c ≡ true → (fold with_default rows c ≡ rows) × (defaults_fault rows c ≡ [])
unfolding defaults_fault
no_default [] rows e = (refl, refl)
no_default (a ∷ c) rows e = by a.defaults (has_row a.id rows) refl refl (no_default c rows)
  where
    by : (ds : List Text) (b : Bool) → a.defaults ≡ ds → has_row a.id rows ≡ b →
        (list_all (λ r. is_empty r.defaults) c ≡ true → (fold with_default rows c ≡ rows) × (defaults_fault rows c ≡ []))
        → (fold with_default rows (a ∷ c) ≡ rows) × (defaults_fault rows (a ∷ c) ≡ [])
    by [] true d t more = let all : list_all (λ (r : Rule). is_empty r.defaults) c ≡ true = rw d at e in rw t (more all)
    by [] false d t more = let all : list_all (λ (r : Rule). is_empty r.defaults) c ≡ true = rw d at e in rw (t, d) (more all)
    by (v ∷ vs) b d t more =
        let full : is_empty (v ∷ vs) ≡ false = grind (arith, nat_tests) in
        let bad : false ≡ true = rw (d, full) at e in
        cc

-- What is missing at the end.
abbrev missing : Bool → Bool → Kinds
missing true true = []
missing _ _ = kind.MissingRequiredArgument ∷ []

check_is : (rows : List Row) → check_fault shape rows false ≡ missing (is_given (codes "COMMAND") rows) (is_given (codes "FIRST") rows)
check_is rows = by (is_given (codes "COMMAND") rows) (is_given (codes "FIRST") rows) refl refl
  where
    by : (p q : Bool) → is_given (codes "COMMAND") rows ≡ p → is_given (codes "FIRST") rows ≡ q →
        check_fault shape rows false ≡ missing (is_given (codes "COMMAND") rows) (is_given (codes "FIRST") rows)
    by true true s t = rw (s, t) refl
    by true false s t = rw (s, t) refl
    by false q s t = rw s refl

end_fault : (us : List Use) → outcome (rows_by us) [] ≡ missing (is_some (value_of (codes "COMMAND") us)) (is_some (value_of (codes "FIRST") us))
end_fault us =
    let none = no_default rules (rows_by us) refl in
    ap₂ (λ ks rows. or_else ks (check_fault shape rows false)) none.1 none.0 ∙ check_is (rows_by us) ∙ ap₂ missing (given_is (codes "COMMAND") us) (given_is (codes "FIRST") us)

end_rows : (us : List Use) → after (rows_by us) [] ≡ rows_by us
end_rows us = (no_default rules (rows_by us) refl).0

-- ---- the whole list

abbrev HasNeeded : List Use → Type 0
HasNeeded us = (value_of (codes "COMMAND") us ≢ None) × (value_of (codes "FIRST") us ≢ None)

needed_by : (a b : Option Text) → missing (is_some a) (is_some b) ≡ [] → (a ≢ None) × (b ≢ None)
needed_by (Some x) (Some y) e = (λ n. cc, λ n. cc)
needed_by (Some x) None e = cc
needed_by None b e = cc

none_missing : (a b : Option Text) → (a ≢ None) × (b ≢ None) → missing (is_some a) (is_some b) ≡ []
none_missing (Some x) (Some y) h = refl
none_missing (Some x) None h = absurd (h.1 refl)
none_missing None b h = absurd (h.0 refl)

no_clash : (id : Text) (us : List Use) → value_of id us ≡ None → clash id (rows_by us) ≡ []
no_clash id us none = let e : has_row id (rows_by us) ≡ false = has_is id us ∙ ap is_some none in rw e refl

clashes : (id : Text) (us : List Use) (ks : Kinds) → or_else (clash id (rows_by us)) ks ≡ [] → (value_of id us ≡ None) × (ks ≡ [])
clashes id us ks e = by (value_of id us) refl
  where
    by : (o : Option Text) → value_of id us ≡ o → (value_of id us ≡ None) × (ks ≡ [])
    by None n = (n, let h : has_row id (rows_by us) ≡ false = has_is id us ∙ ap is_some n in rw h at e)
    by (Some v) n = let h : has_row id (rows_by us) ≡ true = has_is id us ∙ ap is_some n in let bad : kind.ArgumentConflict ∷ [] ≡ [] = rw h at e in cc

accepted_by : (done us : List Use) → outcome (rows_by done) us ≡ [] → Fresh done us × HasNeeded (done ++ us)
accepted_by done [] e = (tt, rw (append-nil done) (needed_by (value_of (codes "COMMAND") done) (value_of (codes "FIRST") done) (sym (end_fault done) ∙ e)))
accepted_by done (u ∷ us) e =
    let here = clashes u.0 done (outcome (put u (rows_by done)) us) e in
    let rest : outcome (rows_by (done ++ u ∷ [])) us ≡ [] = ap (λ rows. outcome rows us) (sym (put_is u done here.0)) ∙ here.1 in
    let more = accepted_by (done ++ u ∷ []) us rest in
    ((here.0, more.0), subst HasNeeded (append_assoc done (u ∷ []) us) more.1)

accepts : (done us : List Use) → Fresh done us → HasNeeded (done ++ us) → outcome (rows_by done) us ≡ []
accepts done [] f h = end_fault done ∙ none_missing (value_of (codes "COMMAND") done) (value_of (codes "FIRST") done) (rw (append-nil done) at h)
accepts done (u ∷ us) f h =
    let rest : outcome (rows_by (done ++ u ∷ [])) us ≡ [] = accepts (done ++ u ∷ []) us f.1 (subst HasNeeded (sym (append_assoc done (u ∷ []) us)) h) in
    ap₂ or_else (no_clash u.0 done f.0) (ap (λ rows. outcome rows us) (put_is u done f.0) ∙ rest)

after_is : (done us : List Use) → Fresh done us → after (rows_by done) us ≡ rows_by (done ++ us)
after_is done [] f = rw (append-nil done) (end_rows done)
after_is done (u ∷ us) f = ap (λ rows. after rows us) (put_is u done f.0) ∙ after_is (done ++ u ∷ []) us f.1 ∙ ap rows_by (append_assoc done (u ∷ []) us)

-- Where these uses do not fail, each argument is used once, and those that are needed are used.
pub is_accepted : (us : List Use) → outcome [] us ≡ [] → IsAccepted us
is_accepted us e =
    let h = accepted_by [] us e in
    ((once_by [] us h.0).0, h.1.0, h.1.1)

pub not_refused : (us : List Use) → IsAccepted us → outcome [] us ≡ []
not_refused us a = accepts [] us (fresh_by [] us a.0 (none_apart us)) (a.1, a.2)

-- What is found then is what the arguments have.
pub found_is : (us : List Use) → IsOnce us → (id : Text) → first_of id (after [] us) ≡ value_of id us
found_is us once id = ap (first_of id) (after_is [] us (fresh_by [] us once (none_apart us))) ∙ first_is id us
