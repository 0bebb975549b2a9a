-- The fields of the line of a made coflow.
use Rattle.std.proofs.Common.{◌≡◌, ℕ, suc, ◌<◌, List, [], ◌∷◌, ◌++◌, true, false, length, map, refl, ap, ◌∙◌, append_assoc, length-append, ◌+◌, ◌≤◌, arith}
use Rattle.std.specs.Prelude.{All, codes, decimal}
use Rattle.std.specs.List.{flat_map}
use Rattle.std.proofs.lemmas.Fmt.{length-decimal-le}
use Rattle.std.proofs.lemmas.List.{length-map}
use Rattle.std.proofs.lemmas.List.Elements.{All-append, All-cons}
use Rattle.text_fields.specs.Fields.{Text, fields, is_blank, is_full}
use Rattle.text_fields.specs.Lines.{is_line_feed}
use Rattle.workload.specs.declared.coflow.MadeCoflow.{MadeCoflow}
use Rattle.workload.specs.declared.coflow.MadeReducer.{MadeReducer}
use Rattle.workload.specs.Text.{coflow_line, reducer_word}
use Rattle.coflow_units.specs.Text.{spaced}
use Rattle.workload.proofs.DecimalFields.{is_word}
use Rattle.workload.proofs.LineWords.{AreWords, IsWord, behind_spaces, both_words, words_are_fields, words_are_short}
use Rattle.workload.proofs.MadeRanges.{IsMade, IsMadeReducer}
use Rattle.workload.proofs.TextLines.{IsFullLine, words_are_full}

-- a reducer as a field
abbrev pub reducer_text : MadeReducer → Text
reducer_text r = decimal r.location ++ 58 ∷ decimal r.megabytes

-- the fields behind the mappers
abbrev pub back_texts : List MadeReducer → List Text
back_texts reducers = decimal (length reducers) ∷ map reducer_text reducers

-- the fields behind the id
abbrev pub later_texts : MadeCoflow → List Text
later_texts c = decimal c.arrival ∷ decimal (length c.mappers) ∷ (map decimal c.mappers ++ back_texts c.reducers)

-- all fields
abbrev pub coflow_texts : MadeCoflow → List Text
coflow_texts c = decimal c.id ∷ later_texts c

reducers_same : (reducers : List MadeReducer) → flat_map reducer_word reducers ≡ behind_spaces (map reducer_text reducers)
reducers_same [] = refl
reducers_same (r ∷ rs) =
    let one : reducer_word r ≡ codes " " ++ reducer_text r = append_assoc (spaced r.location) (codes ":") (decimal r.megabytes) in
    ap (λ l. l ++ flat_map reducer_word rs) one ∙ ap (λ l. (codes " " ++ reducer_text r) ++ l) (reducers_same rs)

mappers_same : (mappers : List ℕ) (texts : List Text) → flat_map spaced mappers ++ behind_spaces texts ≡ behind_spaces (map decimal mappers ++ texts)
mappers_same [] texts = refl
mappers_same (m ∷ ms) texts = append_assoc (spaced m) (flat_map spaced ms) (behind_spaces texts) ∙ ap (λ l. spaced m ++ l) (mappers_same ms texts)

regroup : (a b m fm r fr : Text) → ((a ++ b) ++ (m ++ fm)) ++ (r ++ fr) ≡ a ++ (b ++ (m ++ (fm ++ (r ++ fr))))
regroup a b m fm r fr = simp append_assoc

line_is : (c : MadeCoflow) → coflow_line c ≡ decimal c.id ++ behind_spaces (later_texts c)
line_is c =
    regroup (decimal c.id) (spaced c.arrival) (spaced (length c.mappers)) (flat_map spaced c.mappers) (spaced (length c.reducers)) (flat_map reducer_word c.reducers)
    ∙ ap (λ l. decimal c.id ++ (spaced c.arrival ++ (spaced (length c.mappers) ++ l)))
    (ap (λ l. flat_map spaced c.mappers ++ (spaced (length c.reducers) ++ l)) (reducers_same c.reducers) ∙ mappers_same c.mappers (back_texts c.reducers))

full_front : (xs ys : Text) → is_full xs ≡ true → is_full (xs ++ ys) ≡ true
full_front [] ys h = cc
full_front (x ∷ xs) ys h = refl

reducer_is_word : (r : MadeReducer) → IsMadeReducer r → IsWord (reducer_text r)
reducer_is_word r h =
    let front = is_word r.location (omega (arith, h.location_small)) in
    let back = is_word r.megabytes (omega (arith, h.megabytes_few)) in
    record {
      full = full_front (decimal r.location) (58 ∷ decimal r.megabytes) front.full;
      short = omega (
        arith,
        length-append (decimal r.location) (58 ∷ decimal r.megabytes),
        length-decimal-le 3 r.location (omega arith) (omega (arith, h.location_small)) (omega (arith, h.location_small)),
        length-decimal-le 2 r.megabytes (omega arith) (omega (arith, h.megabytes_few)) (omega (arith, h.megabytes_few)),
      );
      blanks = All-append (λ b. is_blank b ≡ false) (decimal r.location) (58 ∷ decimal r.megabytes) front.blanks
          (All-cons (λ b. is_blank b ≡ false) 58 (decimal r.megabytes) refl back.blanks);
      feeds = All-append (λ b. is_line_feed b ≡ false) (decimal r.location) (58 ∷ decimal r.megabytes) front.feeds
          (All-cons (λ b. is_line_feed b ≡ false) 58 (decimal r.megabytes) refl back.feeds);
    }

mappers_are_words : (mappers : List ℕ) → All (λ m. m < 150) mappers → AreWords (map decimal mappers)
mappers_are_words [] h = tt
mappers_are_words (m ∷ ms) h = (is_word m (omega (arith, h 0 m (omega arith))), mappers_are_words ms (λ k d lt. h (suc k) d (omega arith)))

reducers_are_words : (reducers : List MadeReducer) → All IsMadeReducer reducers → AreWords (map reducer_text reducers)
reducers_are_words [] h = tt
reducers_are_words (r ∷ rs) h = (reducer_is_word r (h 0 r (omega arith)), reducers_are_words rs (λ k d lt. h (suc k) d (omega arith)))

later_are_words : (c : MadeCoflow) → IsMade c → AreWords (later_texts c)
later_are_words c h =
    let back : AreWords (back_texts c.reducers) = (is_word (length c.reducers) (omega (arith, h.few_reducers)), reducers_are_words c.reducers h.reducers_small) in (
      is_word c.arrival (omega (arith, h.arrival_small)),
      (is_word (length c.mappers) (omega (arith, h.few_mappers)), both_words (map decimal c.mappers) (back_texts c.reducers) (mappers_are_words c.mappers h.mappers_small) back),
    )

-- the line of a coflow has these fields
pub fields_are : (c : MadeCoflow) → IsMade c → fields (coflow_line c) ≡ coflow_texts c
fields_are c h = ap fields (line_is c) ∙ words_are_fields (decimal c.id) (later_texts c) (is_word c.id (omega (arith, h.id_small))) (later_are_words c h)

-- the line of a coflow has fields, and no line feed
pub coflow_is_full : (c : MadeCoflow) → IsMade c → IsFullLine (coflow_line c)
coflow_is_full c h = words_are_full (coflow_line c) (decimal c.id) (later_texts c) (line_is c) (is_word c.id (omega (arith, h.id_small))) (later_are_words c h)

-- the line of a coflow is short
pub coflow_is_short : (c : MadeCoflow) → IsMade c → length (coflow_line c) + 1 ≤ 140
coflow_is_short c h =
    let whole : length (coflow_line c) ≡ length (decimal c.id ++ behind_spaces (later_texts c)) = ap length (line_is c) in
    let short = words_are_short (decimal c.id) (later_texts c) (is_word c.id (omega (arith, h.id_small))) (later_are_words c h) in
    let mappers = length-map c.mappers decimal in
    let reducers = length-map c.reducers reducer_text in
    let both = length-append (map decimal c.mappers) (back_texts c.reducers) in
    omega (arith, h.few_mappers, h.few_reducers)
