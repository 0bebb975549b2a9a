-- The numbers of flows, and how many bytes they take.
use Rattle.std.proofs.Common.{◌≡◌, ℕ, ◌+◌, ◌-◌, ◌*◌, ◌<◌, ◌≤◌, ◌^◌, List, [], ◌∷◌, ◌++◌, append_assoc, append-nil, drop, get_or, length, length-append, min, replicate, set, take}
use Rattle.std.proofs.Common.{suc, refl, sym, ap, ◌∙◌, arith}
use Rattle.std.proofs.Math.Seq.{take-add}
use Rattle.std.proofs.lemmas.Grind.{flat_map-append}
use Rattle.std.proofs.lemmas.List.{length-replicate, take-append-drop, take_all, take_at, take_more, take_more_set}
use Rattle.std.specs.Prelude.{decimal}
use Rattle.std.specs.List.{flat_map}
use Rattle.coflow_units.specs.Text.{spaced}
use Rattle.report_text.proofs.DigitText.{is_short}

-- how many bytes the numbers take
abbrev pub width : List ℕ → ℕ
width flows = length (flat_map spaced flows)

-- one number more
pub flows_more : (flows : List ℕ) (k : ℕ) → k < length flows → flat_map spaced (take (k + 1) flows) ≡ flat_map spaced (take k flows) ++ spaced (get_or flows k 0)
flows_more flows k lt =
    let n = get_or flows k 0 in
    ap (flat_map spaced) (take_more flows k 0 lt) ∙ (flat_map-append spaced (take k flows) (n ∷ []) ∙ ap (λ x. flat_map spaced (take k flows) ++ x) (append-nil (spaced n)))

pub width_more : (flows : List ℕ) (k : ℕ) → k < length flows → width (take (k + 1) flows) ≡ width (take k flows) + 1 + length (decimal (get_or flows k 0))
width_more flows k lt = omega (arith, ap length (flows_more flows k lt), length-append (flat_map spaced (take k flows)) (spaced (get_or flows k 0)))

-- the first numbers take no more than all
pub width_within : (flows : List ℕ) (k : ℕ) → width (take k flows) ≤ width flows
width_within flows k = omega (
  arith,
  ap width (take-append-drop k flows),
  ap length (flat_map-append spaced (take k flows) (drop k flows)),
  length-append (flat_map spaced (take k flows)) (flat_map spaced (drop k flows)),
)

-- a number takes a space and at most ten digits
pub width_most : (flows : List ℕ) → ((k : ℕ) → get_or flows k 0 < 2 ^ 32) → width flows ≤ 11 * length flows
width_most [] small = omega arith
width_most (f ∷ flows) small = omega (arith, length-append (spaced f) (flat_map spaced flows), is_short f (small 0), width_most flows (λ k. small (suc k)))

-- a text that grew by as many bytes as the numbers take, unless it is longer than any
pub grown_by : (text filled flows : List ℕ) (end : ℕ) → filled ≡ take end text ++ replicate {A = ℕ} (end - length text) 0 →
    end ≡ min (length text + min (width flows) (2 ^ 64 - 1)) (2 ^ 64 - 1) → length filled < 2 ^ 64 - 1 → length text < 2 ^ 64 - 1 →
    (length filled ≡ length text + width flows) × (take (length text) filled ≡ text)
grown_by text filled flows end grown is small fits = (
  omega (arith, is, small, size, length-replicate {A = ℕ} (end - length text) 0, ap length whole),
  ap (take (length text)) (grown ∙ ap (λ xs. xs ++ replicate (end - length text) 0) whole) ∙ take_at text (replicate (end - length text) 0) (length text) refl,
)
  where
    whole : take end text ≡ text
    whole = take_all end text (omega (arith, is, fits))

    size : length filled ≡ length (take end text) + length (replicate {A = ℕ} (end - length text) 0)
    size = ap length grown ∙ length-append (take end text) (replicate {A = ℕ} (end - length text) 0)

-- a space and the digits of a number stand behind the text
pub number_behind : (n end start last : ℕ) (text new : List ℕ) → end < length text → last ≡ end + (1 + length (decimal n)) → start + length (decimal n) ≡ last →
    drop start new ≡ decimal n ++ drop last (set text end 32) → take start new ≡ take start (set text end 32) → take last new ≡ take end text ++ spaced n
number_behind n end start last text new lt last_is start_is written kept =
    let at : start ≡ end + 1 = omega (arith, last_is, start_is) in
    let width = length (decimal n) in
    let digits : take width (drop start new) ≡ decimal n = ap (take width) written ∙ take_at (decimal n) (drop last (set text end 32)) width refl in
    let front : take start new ≡ take end text ++ (32 ∷ []) = kept ∙ (ap (λ k. take k (set text end 32)) at ∙ take_more_set text end 32 lt) in
    ap (λ k. take k new) (sym start_is) ∙ (take-add start width new ∙ (ap (λ x. x ++ take width (drop start new)) front
    ∙ (ap (λ x. (take end text ++ (32 ∷ [])) ++ x) digits ∙ append_assoc (take end text) (32 ∷ []) (decimal n))))

-- the numbers so far, and one more
pub flows_step : (flows first text new : List ℕ) (k from end start last : ℕ) → k < length flows → end < length text → last ≡ end + (1 + length (decimal (get_or flows k 0))) →
    start + length (decimal (get_or flows k 0)) ≡ last → drop start new ≡ decimal (get_or flows k 0) ++ drop last (set text end 32) →
    take start new ≡ take start (set text end 32) →
    take end text ≡ take from first ++ flat_map spaced (take k flows) → take last new ≡ take from first ++ flat_map spaced (take (k + 1) flows)
flows_step flows first text new k from end start last lt fits last_is start_is written kept so_far =
    let n = get_or flows k 0 in
    number_behind n end start last text new fits last_is start_is written kept ∙ (ap (λ x. x ++ spaced n) so_far
    ∙ (append_assoc (take from first) (flat_map spaced (take k flows)) (spaced n) ∙ ap (λ x. take from first ++ x) (sym (flows_more flows k lt))))
