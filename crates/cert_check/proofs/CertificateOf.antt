-- The places of a report as entries of a certificate, one after another.
use Rattle.std.proofs.Common.{◌≡◌, ℕ, ◌+◌, ◌<◌, List, [], ◌∷◌, ◌++◌, length, take, refl, sym, ap, ◌∙◌, arith, zero, suc}
use Rattle.std.specs.Prelude.{map, slice_index}
use Rattle.std.proofs.lemmas.List.{map_push, take_all}
use Rattle.coflow_units.specs.declared.plan.Place.{Place}
use Rattle.coflow_units.specs.Certificate.{Entry, entry_of}
use Rattle.report_text.specs.declared.value.PlaceLine.{PlaceLine}
use Rattle.report_text.specs.Text.{place_at}
use Rattle.cert_check.specs.Places.{coflows_in, entry_for, entry_with}

-- entries of coflows and places that stand side by side
abbrev pub entries_with : List ℕ → List PlaceLine → List Entry
entries_with [] places = []
entries_with (c ∷ cs) [] = []
entries_with (c ∷ cs) (p ∷ ps) = entry_with c p ∷ entries_with cs ps

entries_more : (coflows : List ℕ) (places : List PlaceLine) (k : ℕ) → k < length coflows → k < length places →
    entries_with (take (suc k) coflows) (take (suc k) places) ≡ entries_with (take k coflows) (take k places) ++ entry_with (slice_index coflows k) (place_at places k) ∷ []
entries_more [] places k lc lp = absurd (omega arith)
entries_more (c ∷ cs) [] k lc lp = absurd (omega arith)
entries_more (c ∷ cs) (p ∷ ps) zero lc lp = refl
entries_more (c ∷ cs) (p ∷ ps) (suc k) lc lp = ap (λ l. entry_with c p ∷ l) (entries_more cs ps k (omega arith) (omega arith))

-- one place more
pub places_more : (coflows : List ℕ) (lines : List PlaceLine) (k : ℕ) (places : List Place) (place : Place) → map entry_of places ≡ entries_with (take k coflows) (take k lines) →
    k < length coflows → k < length lines →
    entry_of place ≡ entry_with (slice_index coflows k) (place_at lines k) → map entry_of (places ++ place ∷ []) ≡ entries_with (take (k + 1) coflows) (take (k + 1) lines)
places_more coflows lines k places place is lc lp here =
    let next : suc k ≡ k + 1 = omega arith in
    map_push entry_of places place ∙ ap (λ l. l ++ entry_of place ∷ []) is ∙ ap (λ e. entries_with (take k coflows) (take k lines) ++ e ∷ []) here
    ∙ sym (entries_more coflows lines k lc lp) ∙ ap (λ n. entries_with (take n coflows) (take n lines)) next

pub entries_named : (ids : List ℕ) (lines : List PlaceLine) → entries_with (coflows_in ids lines) lines ≡ map (entry_for ids) lines
entries_named ids [] = refl
entries_named ids (p ∷ ps) = ap (λ l. entry_for ids p ∷ l) (entries_named ids ps)

-- all places
pub all_entries_named : (ids : List ℕ) (coflows : List ℕ) (lines : List PlaceLine) (k : ℕ) → length lines ≡ k → length coflows ≡ k → coflows ≡ coflows_in ids lines →
    entries_with (take k coflows) (take k lines) ≡ map (entry_for ids) lines
all_entries_named ids coflows lines k n m is =
    ap (λ l. entries_with l (take k lines)) (take_all k coflows (omega arith)) ∙ ap (λ l. entries_with coflows l) (take_all k lines (omega arith)) ∙
    ap (λ l. entries_with l lines) is ∙ entries_named ids lines
