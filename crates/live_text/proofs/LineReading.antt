-- The line of an entry, of an order and of a pull, read part by part.
use Rattle.std.proofs.Common.{◌≡◌, ℕ, suc, ◌<◌, ◌^◌, List, [], ◌∷◌, ◌++◌, append_assoc, append-nil, refl, sym, ap, ◌∙◌, arith}
use Rattle.std.specs.Prelude.{All, codes}
use Rattle.std.specs.List.{flat_map}
use Rattle.std.proofs.lemmas.Grind.{flat_map-append}
use Rattle.std.proofs.lemmas.List.Elements.{All-push}
use Rattle.report_text.specs.Readers.{Stops}
use Rattle.coflow_units.specs.Text.{spaced}
use Rattle.report_text.proofs.FlowText.{goes_on, stops_flows}
use Rattle.live_text.specs.declared.value.EntryLine.{EntryLine}
use Rattle.live_text.specs.declared.value.PullLine.{PullLine}
use Rattle.live_text.specs.Live.{IsEntry, IsPull, IsSmall}
use Rattle.live_text.specs.Text.{command_words, entry_line, order_line, pull_line, reply_words}
use Rattle.live_text.proofs.FieldText.{field_unique, one_front}
use Rattle.live_text.proofs.LineParts.{entry_parts}
use Rattle.live_text.proofs.Words.{command_stops}

-- ---- entries

-- what follows the position and the client of an entry
abbrev pub deal_words : EntryLine → List ℕ
deal_words e = command_words e.word ++ reply_words e.said

pub entry_front : (p : ℕ) (e : EntryLine) → entry_line p e ≡ codes "entry" ++ (spaced p ++ (spaced e.who ++ deal_words e))
entry_front p e = entry_parts p e ∙ append_assoc (codes "entry") (spaced p) (spaced e.who ++ deal_words e)

pub entry_rest : (line rest : List ℕ) (n p : ℕ) (e : EntryLine) → n < 2 ^ 64 → p < 2 ^ 64 → Stops rest → line ≡ codes "entry" ++ (spaced n ++ rest) → line ≡ entry_line p e →
    (n ≡ p) × (rest ≡ spaced e.who ++ deal_words e)
entry_rest line rest n p e hn hp stops f is =
    field_unique (codes "entry") line rest (spaced e.who ++ deal_words e) n p (omega (arith, hn)) (omega (arith, hp)) stops refl f (is ∙ entry_front p e)

pub deal_rest : (line rest behind : List ℕ) (n p w : ℕ) (e : EntryLine) → n < 2 ^ 64 → p < 2 ^ 64 → Stops rest → line ≡ codes "entry" ++ (spaced n ++ rest) → w < 2 ^ 64 →
    Stops behind → rest ≡ spaced w ++ behind → IsEntry e → line ≡ entry_line p e → behind ≡ deal_words e
deal_rest line rest behind n p w e hn hp stops f hw ends g fits is =
    (field_unique (codes "") rest behind (deal_words e) w e.who (omega (arith, hw)) (omega (arith, fits.who_is)) ends (command_stops e.word (reply_words e.said)) g
    (entry_rest line rest n p e hn hp stops f is).1).1

pub entry_built : (line rest behind : List ℕ) (p : ℕ) (e : EntryLine) → line ≡ codes "entry" ++ (spaced p ++ rest) → rest ≡ spaced e.who ++ behind → behind ≡ deal_words e →
    line ≡ entry_line p e
entry_built line rest behind p e f g h =
    f ∙ (ap (λ x. codes "entry" ++ (spaced p ++ x)) (g ∙ ap (λ x. spaced e.who ++ x) h) ∙ sym (entry_front p e))

-- ---- orders

pub order_rest : (line rest : List ℕ) (n v : ℕ) (ids : List ℕ) → n < 2 ^ 64 → v < 2 ^ 64 → Stops rest → line ≡ codes "order" ++ (spaced n ++ rest) → line ≡ order_line v ids →
    (n ≡ v) × (rest ≡ flat_map spaced ids)
order_rest line rest n v ids hn hv stops f is =
    field_unique (codes "order") line rest (flat_map spaced ids) n v (omega (arith, hn)) (omega (arith, hv)) stops (stops_flows ids) f
    (is ∙ one_front (codes "order") (flat_map spaced ids) v)

pub order_built : (line rest : List ℕ) (v : ℕ) (ids : List ℕ) → line ≡ codes "order" ++ (spaced v ++ rest) → rest ≡ flat_map spaced ids → line ≡ order_line v ids
order_built line rest v ids f g = f ∙ (ap (λ x. codes "order" ++ (spaced v ++ x)) g ∙ sym (one_front (codes "order") (flat_map spaced ids) v))

-- what the loop over the ids has read
pub record IdsSoFar (bytes rest ids : List ℕ) : Type 0 where
  pub text : bytes ≡ flat_map spaced ids ++ rest
  pub small : All IsSmall ids
  pub stops : Stops rest

pub no_ids : (bytes ids : List ℕ) → ids ≡ [] → Stops bytes → IdsSoFar bytes bytes ids
no_ids bytes [] e stops = record { text = refl; small = λ k d lt. absurd (omega (arith, lt)); stops = stops }
no_ids bytes (x ∷ xs) e stops = absurd cc

pub next_id : (bytes rest ids ys : List ℕ) → IdsSoFar bytes rest ids → All IsSmall ys → bytes ≡ flat_map spaced ys → (rest ≡ [] → ⊥) →
    (id : ℕ) × (others : List ℕ) × (id < 2 ^ 32) × (rest ≡ spaced id ++ flat_map spaced others)
next_id bytes rest ids ys r h e some =
    let more = goes_on ids ys rest r.small h r.stops (sym r.text ∙ e) in
    go more.0 more.1 more.2
  where
    at : (xs zs : List ℕ) (z : ℕ) → All IsSmall (xs ++ (z ∷ zs)) → z < 2 ^ 32
    at [] zs z all = all 0 z (omega arith)
    at (x ∷ xs) zs z all = at xs zs z (λ k d lt. all (suc k) d (omega (arith, lt)))

    go : (zs : List ℕ) → ys ≡ ids ++ zs → rest ≡ flat_map spaced zs → (id : ℕ) × (others : List ℕ) × (id < 2 ^ 32) × (rest ≡ spaced id ++ flat_map spaced others)
    go [] whole here = absurd (some here)
    go (z ∷ zs) whole here = (z, zs, at ids zs z (rw whole at h), here)

pub one_id : (bytes rest ids behind : List ℕ) (id : ℕ) → IdsSoFar bytes rest ids → id < 2 ^ 32 → rest ≡ spaced id ++ behind → Stops behind →
    IdsSoFar bytes behind (ids ++ (id ∷ []))
one_id bytes rest ids behind id r small e stops =
    let flat : flat_map spaced (ids ++ (id ∷ [])) ≡ flat_map spaced ids ++ spaced id = flat_map-append spaced ids (id ∷ []) ∙
    ap (λ x. flat_map spaced ids ++ x) (append-nil (spaced id)) in
    record {
      text = r.text ∙ (ap (λ x. flat_map spaced ids ++ x) e ∙ (sym (append_assoc (flat_map spaced ids) (spaced id) behind) ∙ ap (λ x. x ++ behind) (sym flat)));
      small = All-push IsSmall ids id r.small small;
      stops = stops;
    }

-- ---- pulls

-- what follows the parts of a pull
abbrev pub after_version : PullLine → List ℕ
after_version p = spaced p.rank

abbrev pub after_id : PullLine → List ℕ
after_id p = spaced p.version ++ after_version p

abbrev pub after_line : PullLine → List ℕ
after_line p = spaced p.id ++ after_id p

abbrev pub after_client : PullLine → List ℕ
after_client p = spaced p.line ++ after_line p

five_parts : (w a b c d e : List ℕ) → w ++ a ++ b ++ c ++ d ++ e ≡ w ++ (a ++ (b ++ (c ++ (d ++ e))))
five_parts w a b c d e = simp append_assoc

pub pull_front : (p : PullLine) → pull_line p ≡ codes "pull" ++ (spaced p.client ++ after_client p)
pull_front p = five_parts (codes "pull") (spaced p.client) (spaced p.line) (spaced p.id) (spaced p.version) (spaced p.rank)

pub client_rest : (line rest : List ℕ) (n : ℕ) (p : PullLine) → n < 2 ^ 64 → Stops rest → line ≡ codes "pull" ++ (spaced n ++ rest) → IsPull p → line ≡ pull_line p →
    rest ≡ after_client p
client_rest line rest n p hn stops f h e =
    (field_unique (codes "pull") line rest (after_client p) n p.client (omega (arith, hn)) (omega (arith, h.client_to)) stops refl f (e ∙ pull_front p)).1

pub line_rest : (rest behind : List ℕ) (n : ℕ) (p : PullLine) → n < 2 ^ 64 → Stops behind → rest ≡ spaced n ++ behind → IsPull p → rest ≡ after_client p → behind ≡ after_line p
line_rest rest behind n p hn stops f h e = (field_unique (codes "") rest behind (after_line p) n p.line (omega (arith, hn)) (omega (arith, h.line_fits)) stops refl f e).1

pub id_rest : (rest behind : List ℕ) (n : ℕ) (p : PullLine) → n < 2 ^ 64 → Stops behind → rest ≡ spaced n ++ behind → IsPull p → rest ≡ after_line p → behind ≡ after_id p
id_rest rest behind n p hn stops f h e = (field_unique (codes "") rest behind (after_id p) n p.id (omega (arith, hn)) (omega (arith, h.id_fits)) stops refl f e).1

pub version_rest : (rest behind : List ℕ) (n : ℕ) (p : PullLine) → n < 2 ^ 64 → Stops behind → rest ≡ spaced n ++ behind → IsPull p → rest ≡ after_id p → behind ≡ after_version p
version_rest rest behind n p hn stops f h e =
    (field_unique (codes "") rest behind (after_version p) n p.version (omega (arith, hn)) (omega (arith, h.version_fits)) stops refl f e).1

pub pull_built : (line a b c d : List ℕ) (p : PullLine) → line ≡ codes "pull" ++ (spaced p.client ++ a) → a ≡ spaced p.line ++ b → b ≡ spaced p.id ++ c →
    c ≡ spaced p.version ++ d → d ≡ spaced p.rank → line ≡ pull_line p
pull_built line a b c d p e f g h i =
    let c_is = h ∙ ap (λ x. spaced p.version ++ x) i in
    let b_is = g ∙ ap (λ x. spaced p.id ++ x) c_is in
    let a_is = f ∙ ap (λ x. spaced p.line ++ x) b_is in
    e ∙ (ap (λ x. codes "pull" ++ (spaced p.client ++ x)) a_is ∙ sym (pull_front p))
