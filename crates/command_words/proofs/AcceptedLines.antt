-- Where the words use arguments, the parser takes these uses in turn.
use Rattle.std.proofs.Common.{◌≡◌, ℕ, suc, List, [], ◌∷◌, Option, Some, None, false, refl, ap, ap₂, ◌∙◌, sym, subst}
use Rattle.std.specs.Prelude.{drop}
use Rattle.clap.specs.Words.{Kinds, Row, fault_of, matches_of}
use Rattle.clap.specs.Kinds.{or_else}
use Rattle.clap.specs.Walk.{Walk, finished, settled, walked}
use Rattle.clap.specs.Faults.{check_fault, defaults_fault, settle_fault, turn_fault, walk_fault}
use Rattle.command_words.specs.Line.{Form, Text, Use, plain as is_plain, ends as is_end, apart as is_apart, joined as is_joined, wrong as is_wrong, form_of, name_at, named, uses}
use Rattle.command_words.specs.Line.{uses_by, value_by, with_use}
use Rattle.command_words.specs.Parser.{app}
use Rattle.command_words.proofs.Forms.{Sees, sees}
use Rattle.command_words.proofs.ParserArguments.{IsArgument, IsOption, clash, name_of, option_of, put, puts, settles}
use Rattle.command_words.proofs.ParserState.{held, ready, rest_fault, rest_rows, rules, shape, trails, waits, whole_fault}
use Rattle.command_words.proofs.Turns.{apart_turn, apart_walk, ends_turn, ends_walk, joined_turn, joined_walk, name_turn, name_walk, trail_turn, trail_walk, value_turn, value_walk}
use Rattle.command_words.proofs.Utf8.{AllUtf8}

-- The fault, where these are used in turn.
abbrev pub outcome : List Row → List Use → Kinds
outcome rows [] = or_else (defaults_fault rows rules) (check_fault shape (finished rules (held rows None)) false)
outcome rows (u ∷ us) = or_else (clash u.0 rows) (outcome (put u rows) us)

-- What is found, where these are used in turn.
abbrev pub after : List Row → List Use → List Row
after rows [] = finished rules (held rows None)
after rows (u ∷ us) = after (put u rows) us

-- From here on the parser takes these uses.
record Takes (w : Walk) (ws : List Text) (rows : List Row) (us : List Use) : Type 0 where
  fault : rest_fault w ws ≡ outcome rows us
  found : rest_rows w ws ≡ after rows us

pub or_else_assoc : (a b c : Kinds) → or_else (or_else a b) c ≡ or_else a (or_else b c)
or_else_assoc [] b c = refl
or_else_assoc (k ∷ ks) b c = refl

pub one_turn : (w : Walk) (x : Text) (xs : List Text) → rest_fault w (x ∷ xs) ≡ or_else (turn_fault shape [] w x) (rest_fault (walked rules [] w x) xs)
unfolding walk_fault
one_turn w x xs = or_else_assoc (turn_fault shape [] w x) _ _

-- One word and what follows it.
step : (w next : Walk) (x : Text) (xs : List Text) (fault : Kinds) (rows more : List Row) (us all : List Use) → turn_fault shape [] w x ≡ fault → walked rules [] w x ≡ next →
    Takes next xs more us
    → or_else fault (outcome more us) ≡ outcome rows all → after more us ≡ after rows all → Takes w (x ∷ xs) rows all
step w next x xs fault rows more us all t n rest same_fault same_rows = record {
  fault = one_turn w x xs ∙ ap₂ (λ a b. or_else a (rest_fault b xs)) t n ∙ ap (or_else fault) rest.fault ∙ same_fault;
  found = ap (λ b. rest_rows b xs) n ∙ rest.found ∙ same_rows;
}

-- A use that is pending comes before the others.
abbrev pub front : Option Use → List Use → List Use
front None us = us
front (Some u) us = u ∷ us

abbrev pub pending : Option Use → Option (Text × List Text)
pending None = None
pending (Some u) = Some (u.0, u.1 ∷ [])

abbrev pub IsPending : Option Use → Type 0
IsPending None = Unit {0}
IsPending (Some u) = IsArgument u.0

abbrev settled_rows : List Row → Option Use → List Row
settled_rows rows p = (settled rules (held rows (pending p))).rows

settle_fault_is : (rows : List Row) (p : Option Use) (us : List Use) → IsPending p →
    or_else (settle_fault rules false (held rows (pending p))) (outcome (settled_rows rows p) us) ≡ outcome rows (front p us)
settle_fault_is rows None us h = refl
settle_fault_is rows (Some u) us h = rw (settles u.0 h rows u.1, puts u.0 h rows u.1) refl

settle_rows_are : (rows : List Row) (p : Option Use) (us : List Use) → IsPending p → after (settled_rows rows p) us ≡ after rows (front p us)
settle_rows_are rows None us h = refl
settle_rows_are rows (Some u) us h = rw (puts u.0 h rows u.1) refl

ended : (rows : List Row) (p : Option Use) (k : ℕ) → IsPending p → Takes (ready rows (pending p) k) [] rows (front p [])
unfolding walk_fault
ended rows None k h = record { fault = refl; found = refl }
ended rows (Some u) k h = record { fault = rw (settles u.0 h rows u.1, puts u.0 h rows u.1) refl; found = rw (puts u.0 h rows u.1) refl }

ended_trail : (rows : List Row) (p : Option Use) (k : ℕ) → IsPending p → Takes (trails rows (pending p) k) [] rows (front p [])
unfolding walk_fault
ended_trail rows None k h = record { fault = refl; found = refl }
ended_trail rows (Some u) k h = record { fault = rw (settles u.0 h rows u.1, puts u.0 h rows u.1) refl; found = rw (puts u.0 h rows u.1) refl }

-- What a list of uses with one before it is made of.
record Parts (o : Option Text) (v : Text) (r : Option (List Use)) (us : List Use) : Type 0 where
  id : Text
  rest : List Use
  id_is : o ≡ Some id
  rest_is : r ≡ Some rest
  all : us ≡ (id, v) ∷ rest

parts_of : (o : Option Text) (v : Text) (r : Option (List Use)) (us : List Use) → with_use o v r ≡ Some us → Parts o v r us
parts_of None v r us e = cc
parts_of (Some id) v None us e = cc
parts_of (Some id) v (Some rest) us e = record { id = id; rest = rest; id_is = refl; rest_is = refl; all = cc }

take_named : (ws : List Text) (rows : List Row) (p : Option Use) (k : ℕ) (us : List Use) → IsPending p → named k ws ≡ Some us →
    Takes (trails rows (pending p) k) ws rows (front p us)
take_named [] rows p k us h e =
    let none : [] ≡ us = cc in
    subst (λ l. Takes (trails rows (pending p) k) [] rows (front p l)) none (ended_trail rows p k h)
take_named (w ∷ ws) rows p k us h e =
    let parts = parts_of (name_at k) w (named (suc k) ws) us e in
    let name = name_of k parts.id parts.id_is in
    let rest = take_named ws (settled_rows rows p) (Some (parts.id, w)) (suc k) parts.rest name.argument parts.rest_is in
    let taken = step (trails rows (pending p) k) _ w ws _ rows (settled_rows rows p) ((parts.id, w) ∷ parts.rest) (front p ((parts.id, w) ∷ parts.rest))
    (trail_turn k parts.id name rows (pending p) w) (trail_walk k parts.id name rows (pending p) w) rest (settle_fault_is rows p ((parts.id, w) ∷ parts.rest) h)
    (settle_rows_are rows p ((parts.id, w) ∷ parts.rest) h) in
    subst (λ l. Takes (trails rows (pending p) k) (w ∷ ws) rows (front p l)) (sym parts.all) taken

abbrev Ready : List Text → Type 0
Ready ws = (rows : List Row) (p : Option Use) (k : ℕ) (us : List Use) → IsPending p → uses None k ws ≡ Some us → Takes (ready rows (pending p) k) ws rows (front p us)

abbrev Waits : List Text → Type 0
Waits ws = (rows : List Row) (o : Text) (k : ℕ) (us : List Use) → IsOption o → uses (Some o) k ws ≡ Some us → Takes (waits rows o k) ws rows us

-- The pending use is settled at a word, and then come these uses.
settling : (w next : Walk) (x : Text) (xs : List Text) (rows : List Row) (p : Option Use) (us : List Use) → IsPending p →
    turn_fault shape [] w x ≡ settle_fault rules false (held rows (pending p)) → walked rules [] w x ≡ next
    → Takes next xs (settled_rows rows p) us → Takes w (x ∷ xs) rows (front p us)
settling w next x xs rows p us h t n rest = step w next x xs _ rows (settled_rows rows p) us (front p us) t n rest (settle_fault_is rows p us h) (settle_rows_are rows p us h)

ready_by : (f : Form) (w : Text) (ws : List Text) → Sees w f → Ready ws → Waits ws → (rows : List Row) (p : Option Use) (k : ℕ) (us : List Use) → IsPending p
    → uses_by f k w ws (λ o j. uses o j ws) ≡ Some us → Takes (ready rows (pending p) k) (w ∷ ws) rows (front p us)
ready_by is_plain w ws i more waiting rows p k us h e =
    let parts = parts_of (name_at k) w (uses None (suc k) ws) us e in
    let name = name_of k parts.id parts.id_is in
    let rest = more (settled_rows rows p) (Some (parts.id, w)) (suc k) parts.rest name.argument parts.rest_is in
    let taken = settling (ready rows (pending p) k) _ w ws rows p ((parts.id, w) ∷ parts.rest) h (name_turn k parts.id name rows (pending p) w i)
    (name_walk k parts.id name rows (pending p) w i) rest in
    subst (λ l. Takes (ready rows (pending p) k) (w ∷ ws) rows (front p l)) (sym parts.all) taken
ready_by is_end w ws i more waiting rows p k us h e =
    let taken = step (ready rows (pending p) k) _ (45 ∷ 45 ∷ []) ws [] rows rows (front p us) (front p us) (ends_turn rows (pending p) k) (ends_walk rows (pending p) k)
    (take_named ws rows p k us h e) refl refl in
    subst (λ x. Takes (ready rows (pending p) k) (x ∷ ws) rows (front p us)) (sym i) taken
ready_by (is_apart o) w ws i more waiting rows p k us h e =
    let option = option_of o i.1 in
    settling (ready rows (pending p) k) _ w ws rows p us h (apart_turn o option rows (pending p) k w i.0) (apart_walk o option rows (pending p) k w i.0)
    (waiting (settled_rows rows p) o k us option e)
ready_by (is_joined o v) w ws i more waiting rows p k us h e =
    let option = option_of o i.1 in
    let parts = parts_of (Some o) v (uses None k ws) us e in
    let same : parts.id ≡ o = cc in
    let all : (o, v) ∷ parts.rest ≡ us = sym (parts.all ∙ ap (λ x. (x, v) ∷ parts.rest) same) in
    let now = settled_rows rows p in
    let rest = more (put (o, v) now) None k parts.rest tt parts.rest_is in
    let taken = step (ready rows (pending p) k) _ w ws _ rows (put (o, v) now) parts.rest (front p ((o, v) ∷ parts.rest)) (joined_turn o option rows (pending p) k w v i.0)
    (joined_walk o option rows (pending p) k w v i.0) rest
    (or_else_assoc (settle_fault rules false (held rows (pending p))) (clash o now) (outcome (put (o, v) now) parts.rest) ∙ settle_fault_is rows p ((o, v) ∷ parts.rest) h)
    (settle_rows_are rows p ((o, v) ∷ parts.rest) h) in
    subst (λ l. Takes (ready rows (pending p) k) (w ∷ ws) rows (front p l)) all taken
ready_by is_wrong w ws i more waiting rows p k us h e = cc

waits_by : (f : Form) (w : Text) (ws : List Text) → Sees w f → Ready ws → (rows : List Row) (o : Text) (k : ℕ) (us : List Use) → IsOption o
    → value_by f o k w (λ o j. uses o j ws) ≡ Some us → Takes (waits rows o k) (w ∷ ws) rows us
waits_by is_plain w ws i more rows o k us option e =
    let parts = parts_of (Some o) w (uses None k ws) us e in
    let same : parts.id ≡ o = cc in
    let all : (o, w) ∷ parts.rest ≡ us = sym (parts.all ∙ ap (λ x. (x, w) ∷ parts.rest) same) in
    let rest = more rows (Some (o, w)) k parts.rest option.argument parts.rest_is in
    let taken = step (waits rows o k) _ w ws [] rows rows ((o, w) ∷ parts.rest) ((o, w) ∷ parts.rest) (value_turn o rows k w i) (value_walk o option.argument rows k w i) rest refl
    refl in
    subst (λ l. Takes (waits rows o k) (w ∷ ws) rows l) all taken
waits_by is_end w ws i more rows o k us option e = cc
waits_by (is_apart x) w ws i more rows o k us option e = cc
waits_by (is_joined x v) w ws i more rows o k us option e = cc
waits_by is_wrong w ws i more rows o k us option e = cc

take : (ws : List Text) → AllUtf8 ws → Ready ws × Waits ws
unfolding uses
take [] u = (λ rows p k us h e. by rows p k us h cc, λ rows o k us option e. cc)
  where
    by : (rows : List Row) (p : Option Use) (k : ℕ) (us : List Use) → IsPending p → [] ≡ us → Takes (ready rows (pending p) k) [] rows (front p us)
    by rows p k us h none = subst (λ l. Takes (ready rows (pending p) k) [] rows (front p l)) none (ended rows p k h)
take (w ∷ ws) u =
    let more = take ws u.1 in (
      λ rows p k us h e. ready_by (form_of w) w ws (sees w u.0) more.0 more.1 rows p k us h e,
      λ rows o k us option e. waits_by (form_of w) w ws (sees w u.0) more.0 rows o k us option e,
    )

-- Where the words have uses, the parser takes these in turn.
pub fault_is : (words : List Text) (us : List Use) → AllUtf8 (drop 1 words) → uses None 1 (drop 1 words) ≡ Some us → fault_of app words ≡ outcome [] us
fault_is words us u e = whole_fault words ∙ ((take (drop 1 words) u).0 [] None 1 us tt e).fault

pub rows_are : (words : List Text) (us : List Use) → AllUtf8 (drop 1 words) → uses None 1 (drop 1 words) ≡ Some us → matches_of app words ≡ after [] us
rows_are words us u e = ((take (drop 1 words) u).0 [] None 1 us tt e).found
