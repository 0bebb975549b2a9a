-- Where a word is refused, the parser fails.
use Rattle.std.proofs.Common.{arith, ◌≡◌, ◌≤◌, ◌<◌, ◌⊎◌, ℕ, suc, zero, List, [], ◌∷◌, Option, Some, None, refl, codes, inl, inr, ap, ◌∙◌, sym, subst}
use Rattle.std.specs.Prelude.{drop}
use Rattle.clap.specs.Words.{Kinds, Row, fault_of}
use Rattle.clap.specs.Kinds.{or_else}
use Rattle.clap.specs.Walk.{Walk, settled, walked}
use Rattle.clap.specs.Faults.{turn_fault, walk_fault}
use Rattle.command_words.specs.Line.{Form, Text, Use, plain as is_plain, ends as is_end, apart as is_apart, joined as is_joined, wrong as is_wrong, form_of, name_at, named, uses}
use Rattle.command_words.specs.Line.{uses_by, value_by, with_use}
use Rattle.command_words.specs.Parser.{app}
use Rattle.command_words.proofs.AcceptedLines.{one_turn}
use Rattle.command_words.proofs.Forms.{IsWrong, Sees, sees}
use Rattle.command_words.proofs.ParserArguments.{IsOption, name_of, not_option, option_of, put, settles_none}
use Rattle.command_words.proofs.ParserState.{held, ready, rest_fault, rules, shape, trails, waits, whole_fault}
use Rattle.command_words.proofs.Turns.{Fails, apart_late, apart_walk, ends_walk, joined_late, joined_walk, late, late_4, late_name, late_walk, name_4, name_walk, short_late}
use Rattle.command_words.proofs.Turns.{short_ready, trail_4, trail_walk, unknown_late, unknown_ready, value_walk}
use Rattle.command_words.proofs.Utf8.{AllUtf8}

-- The parser fails from here on.
abbrev Refuses : Walk → List Text → Type 0
Refuses w ws = rest_fault w ws ≡ [] → ⊥

-- A fault at the first word is that of all.
at_once : (w : Walk) (x : Text) (xs : List Text) → Fails w x → Refuses w (x ∷ xs)
at_once w x xs f none =
    let bad : f.0 ∷ f.1 ≡ [] = sym (one_turn w x xs ∙ ap (λ a. or_else a (rest_fault (walked rules [] w x) xs)) f.2) ∙ none in
    cc

rest_is_empty : (a b : Kinds) → or_else a b ≡ [] → b ≡ []
rest_is_empty [] b e = e
rest_is_empty (k ∷ ks) b e = cc

-- A fault behind the first word is one of all.
later : (w next : Walk) (x : Text) (xs : List Text) → walked rules [] w x ≡ next → Refuses next xs → Refuses w (x ∷ xs)
later w next x xs e more none =
    more (ap (λ n. rest_fault n xs) (sym e) ∙ rest_is_empty (turn_fault shape [] w x) (rest_fault (walked rules [] w x) xs) (sym (one_turn w x xs) ∙ none))

abbrev IsPlace : ℕ → Type 0
IsPlace k = (0 < k) × (k ≤ 4)

-- The name at a place, or all three names were given.
place : (k : ℕ) → IsPlace k → ((id : Text) × (name_at k ≡ Some id) × IsPlace (suc k)) ⊎ (k ≡ 4)
place zero i = absurd (omega (arith, i.0))
place (suc zero) i = inl (codes "COMMAND", refl, (omega arith, omega arith))
place (suc (suc zero)) i = inl (codes "FIRST", refl, (omega arith, omega arith))
place (suc (suc (suc zero))) i = inl (codes "SECOND", refl, (omega arith, omega arith))
place (suc (suc (suc (suc k)))) i = inr (omega (arith, i.1))

none_behind : (o : Option Text) (id v : Text) (r : Option (List Use)) → o ≡ Some id → with_use o v r ≡ None → r ≡ None
none_behind None id v r e n = cc
none_behind (Some x) id v None e n = refl
none_behind (Some x) id v (Some us) e n = cc

refuse_named : (ws : List Text) (rows : List Row) (p : Option (Text × List Text)) (k : ℕ) → IsPlace k → named k ws ≡ None → Refuses (trails rows p k) ws
refuse_named [] rows p k i n = cc
refuse_named (w ∷ ws) rows p k i n = by (place k i) (λ r q j m. refuse_named ws r q (suc k) j m)
  where
    by : ((id : Text) × (name_at k ≡ Some id) × IsPlace (suc k)) ⊎ (k ≡ 4)
        → ((r : List Row) (q : Option (Text × List Text)) → IsPlace (suc k) → named (suc k) ws ≡ None → Refuses (trails r q (suc k)) ws) → Refuses (trails rows p k) (w ∷ ws)
    by (inl a) more =
        let name = name_of k a.0 a.1 in
        later (trails rows p k) _ w ws (trail_walk k a.0 name rows p w)
        (more (settled rules (held rows p)).rows (Some (a.0, w ∷ [])) a.2 (none_behind (name_at k) a.0 w (named (suc k) ws) a.1 n))
    by (inr e) more = at_once (trails rows p k) w ws (subst (λ j. Fails (trails rows p j) w) (sym e) (_, _, trail_4 rows p w))

-- An option that waits gets no value behind `--`.
refuse_late : (ws : List Text) (rows : List Row) (o : Text) (k : ℕ) → IsPlace k → IsOption o → Refuses (late rows o k) ws
unfolding walk_fault
refuse_late [] rows o k i option none = let bad = rw (settles_none o option.argument rows) at none in cc
refuse_late (w ∷ ws) rows o k i option none = by (place k i)
  where
    by : ((id : Text) × (name_at k ≡ Some id) × IsPlace (suc k)) ⊎ (k ≡ 4) → ⊥
    by (inl a) = at_once (late rows o k) w ws (late_name k a.0 (name_of k a.0 a.1) o option.argument rows w) none
    by (inr e) = at_once (late rows o k) w ws (subst (λ j. Fails (late rows o j) w) (sym e) (late_4 rows o w)) none

abbrev Ready : List Text → Type 0
Ready ws = (rows : List Row) (p : Option (Text × List Text)) (k : ℕ) → IsPlace k → uses None k ws ≡ None → Refuses (ready rows p k) ws

abbrev Waits : List Text → Type 0
Waits ws = (rows : List Row) (o : Text) (k : ℕ) → IsPlace k → IsOption o → uses (Some o) k ws ≡ None → Refuses (waits rows o k) ws

wrong_ready : (rows : List Row) (p : Option (Text × List Text)) (k : ℕ) (w : Text) → IsWrong w → Fails (ready rows p k) w
wrong_ready rows p k w (inl u) = unknown_ready u.0 (not_option u.0 u.3) u.1 rows p k w u.2
wrong_ready rows p k w (inr s) = short_ready rows p k w s

wrong_late : (rows : List Row) (y : Text) (k : ℕ) (w : Text) → IsWrong w → Fails (waits rows y k) w
wrong_late rows y k w (inl u) = unknown_late u.0 (not_option u.0 u.3) u.1 rows y k w u.2
wrong_late rows y k w (inr s) = short_late rows y k w s

ready_by : (f : Form) (w : Text) (ws : List Text) → Sees w f → Ready ws → Waits ws → (rows : List Row) (p : Option (Text × List Text)) (k : ℕ) → IsPlace k
    → uses_by f k w ws (λ o j. uses o j ws) ≡ None → Refuses (ready rows p k) (w ∷ ws)
ready_by is_plain w ws i more waiting rows p k j n = by (place k j)
  where
    by : ((id : Text) × (name_at k ≡ Some id) × IsPlace (suc k)) ⊎ (k ≡ 4) → Refuses (ready rows p k) (w ∷ ws)
    by (inl a) =
        let name = name_of k a.0 a.1 in
        later (ready rows p k) _ w ws (name_walk k a.0 name rows p w i)
        (more (settled rules (held rows p)).rows (Some (a.0, w ∷ [])) (suc k) a.2 (none_behind (name_at k) a.0 w (uses None (suc k) ws) a.1 n))
    by (inr e) = at_once (ready rows p k) w ws (subst (λ x. Fails (ready rows p x) w) (sym e) (_, _, name_4 rows p w i))
ready_by is_end w ws i more waiting rows p k j n =
    subst (λ x. Refuses (ready rows p k) (x ∷ ws)) (sym i) (later (ready rows p k) (trails rows p k) (45 ∷ 45 ∷ []) ws (ends_walk rows p k) (refuse_named ws rows p k j n))
ready_by (is_apart o) w ws i more waiting rows p k j n =
    let option = option_of o i.1 in
    later (ready rows p k) _ w ws (apart_walk o option rows p k w i.0) (waiting (settled rules (held rows p)).rows o k j option n)
ready_by (is_joined o v) w ws i more waiting rows p k j n =
    let option = option_of o i.1 in
    later (ready rows p k) _ w ws (joined_walk o option rows p k w v i.0)
    (more (put (o, v) (settled rules (held rows p)).rows) None k j (none_behind (Some o) o v (uses None k ws) refl n))
ready_by is_wrong w ws i more waiting rows p k j n = at_once (ready rows p k) w ws (wrong_ready rows p k w i)

waits_by : (f : Form) (w : Text) (ws : List Text) → Sees w f → Ready ws → (rows : List Row) (o : Text) (k : ℕ) → IsPlace k → IsOption o
    → value_by f o k w (λ o j. uses o j ws) ≡ None → Refuses (waits rows o k) (w ∷ ws)
waits_by is_plain w ws i more rows o k j option n =
    later (waits rows o k) _ w ws (value_walk o option.argument rows k w i) (more rows (Some (o, w ∷ [])) k j (none_behind (Some o) o w (uses None k ws) refl n))
waits_by is_end w ws i more rows o k j option n =
    subst (λ x. Refuses (waits rows o k) (x ∷ ws)) (sym i) (later (waits rows o k) (late rows o k) (45 ∷ 45 ∷ []) ws (late_walk rows o k) (refuse_late ws rows o k j option))
waits_by (is_apart x) w ws i more rows o k j option n = at_once (waits rows o k) w ws (apart_late x (option_of x i.1) o option.argument rows k w i.0)
waits_by (is_joined x v) w ws i more rows o k j option n = at_once (waits rows o k) w ws (joined_late x (option_of x i.1) o option.argument rows k w v i.0)
waits_by is_wrong w ws i more rows o k j option n = at_once (waits rows o k) w ws (wrong_late rows o k w i)

without_value : (rows : List Row) (o : Text) (k : ℕ) → IsOption o → Refuses (waits rows o k) []
unfolding walk_fault
without_value rows o k option none = let bad = rw (settles_none o option.argument rows) at none in cc

refuse : (ws : List Text) → AllUtf8 ws → Ready ws × Waits ws
unfolding uses
refuse [] u = (λ rows p k i n none. let bad : Some [] ≡ None = n in cc, λ rows o k i option n none. without_value rows o k option none)
refuse (w ∷ ws) u =
    let more = refuse ws u.1 in (
      λ rows p k i n none. ready_by (form_of w) w ws (sees w u.0) more.0 more.1 rows p k i n none,
      λ rows o k i option n none. waits_by (form_of w) w ws (sees w u.0) more.0 rows o k i option n none,
    )

-- Where the parser does not fail, the words have uses.
pub not_none : (words : List Text) → AllUtf8 (drop 1 words) → uses None 1 (drop 1 words) ≡ None → fault_of app words ≡ [] → ⊥
not_none words u n none = (refuse (drop 1 words) u).0 [] None 1 (omega arith, omega arith) n (sym (whole_fault words) ∙ none)
