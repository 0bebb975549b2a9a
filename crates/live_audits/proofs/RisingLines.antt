-- The lines of a script that was read rise by their numbers, which fit their type where the text is short.
use Rattle.std.proofs.Common.{◌≡◌, ℕ, ◌^◌, ◌+◌, ◌≤◌, ◌<◌, Bool, true, false, cond, List, [], ◌∷◌, ◌++◌, length, map, refl, sym, ap, ◌∙◌, subst, arith}
use Rattle.std.specs.Prelude.{All, AllPairs, codes, flat_map}
use Rattle.std.specs.List.{filter, slice_split}
use Rattle.std.proofs.lemmas.List.{map-append}
use Rattle.std.proofs.lemmas.List.Elements.{All-cons, All-nil}
use Rattle.std.proofs.lemmas.List.Kept.{AllPairs-cons}
use Rattle.std.proofs.lemmas.List.Sums.{count_by-le-length}
use Rattle.std.proofs.lemmas.List.Splits.{length-slice_split}
use Rattle.coflow_units.specs.declared.limits.TheConstants.{MAX_TEXT}
use Rattle.text_fields.specs.Fields.{Text, field_at}
use Rattle.text_fields.specs.Lines.{has_fields, is_line_feed, Line, lines_of as text_lines, numbered}
use Rattle.workload.specs.Script.{put_first, put_step, rounds_of, script_of, step_by, step_of}
use Rattle.workload.specs.Words.{is_word}
use Rattle.workload.specs.declared.script.Round.{Round}
use Rattle.workload.specs.declared.script.Script.{Script}
use Rattle.workload.specs.declared.script.ScriptLine.{ScriptLine}
use Rattle.live_model.specs.Script.{lines_from, lines_of}
use Rattle.live_runs.specs.Read.{IsRead}
use Rattle.live_audits.proofs.Choices.{by_choice}

-- ---- lists that rise

module _ {X : Type 0} (number : X → ℕ) (high : ℕ) where
  -- the numbers rise from the one number on, and are below the other
  abbrev pub Rising : ℕ → List X → Type 0
  Rising low [] = Unit {0}
  Rising low (x ∷ xs) = (low ≤ number x) × (number x < high) × Rising (number x + 1) xs

  lower : (low less : ℕ) (xs : List X) → less ≤ low → Rising low xs → Rising less xs
  lower low less [] le h = tt
  lower low less (x ∷ xs) le h = (omega (arith, le, h.0), h.1, h.2)

  all_from : (low : ℕ) (xs : List X) → Rising low xs → All (λ x. low ≤ number x) xs
  all_from low [] h = All-nil (λ x. low ≤ number x)
  all_from low (x ∷ xs) h = All-cons (λ y. low ≤ number y) x xs h.0 (λ k d lt. omega (arith, h.0, all_from (number x + 1) xs h.2 k d lt))

  pub all_below : (low : ℕ) (xs : List X) → Rising low xs → All (λ x. number x < high) xs
  all_below low [] h = All-nil (λ x. number x < high)
  all_below low (x ∷ xs) h = All-cons (λ y. number y < high) x xs h.1 (all_below (number x + 1) xs h.2)

  pub all_rise : (low : ℕ) (xs : List X) → Rising low xs → AllPairs (λ a b. number a < number b) xs
  all_rise low [] h = λ i j d lt less. absurd (omega (arith, less))
  all_rise low (x ∷ xs) h =
      AllPairs-cons (λ a b. number a < number b) x xs (λ k d lt. omega (arith, all_from (number x + 1) xs h.2 k d lt)) (all_rise (number x + 1) xs h.2)

  pub kept_rise : (p : X → Bool) (low : ℕ) (xs : List X) → Rising low xs → Rising low (filter p xs)
  kept_rise p low [] h = tt
  kept_rise p low (x ∷ xs) h = go (p x) (kept_rise p (number x + 1) xs h.2)
    where
      go : (b : Bool) → Rising (number x + 1) (filter p xs) → Rising low (cond b (x ∷ filter p xs) (filter p xs))
      go true rest = (h.0, h.1, rest)
      go false rest = lower (number x + 1) low (filter p xs) (omega (arith, h.0)) rest

module _ {X Y : Type 0} (number : Y → ℕ) (high : ℕ) (f : X → Y) where
  pub from_images : (low : ℕ) (xs : List X) → Rising number high low (map f xs) → Rising (λ x. number (f x)) high low xs
  from_images low [] h = tt
  from_images low (x ∷ xs) h = (h.0, h.1, from_images (number (f x) + 1) xs h.2)

  pub to_images : (low : ℕ) (xs : List X) → Rising (λ x. number (f x)) high low xs → Rising number high low (map f xs)
  to_images low [] h = tt
  to_images low (x ∷ xs) h = (h.0, h.1, to_images (number (f x) + 1) xs h.2)

-- ---- the lines of texts

numbers_rise : (high n : ℕ) (texts : List Text) → n + length texts ≤ high → Rising (λ (l : Line). l.number) high n (numbered n texts)
numbers_rise high n [] le = tt
numbers_rise high n (t ∷ ts) le = (omega arith, omega (arith, le), numbers_rise high (n + 1) ts (omega (arith, le)))

few_parts : (text : Text) → length text ≤ MAX_TEXT → 1 + length (slice_split is_line_feed text) ≤ 2 ^ 32
few_parts text short = omega (arith, short, length-slice_split is_line_feed text, count_by-le-length is_line_feed text)

text_rises : (text : Text) → length text ≤ MAX_TEXT → Rising (λ (l : Line). l.number) (2 ^ 32) 1 (text_lines text)
text_rises text short =
    kept_rise (λ (l : Line). l.number) (2 ^ 32) has_fields 1 (numbered 1 (slice_split is_line_feed text))
    (numbers_rise (2 ^ 32) 1 (slice_split is_line_feed text) (few_parts text short))

-- ---- the lines of scripts

-- the commands of rounds, in their order
abbrev asks : List Round → List ScriptLine
asks rounds = flat_map (λ (r : Round). r.lines) rounds

module _ (ids : List ℕ) (high : ℕ) where
  abbrev AsksRise : ℕ → List Round → Type 0
  AsksRise low rounds = Rising (λ (x : ScriptLine). x.line) high low (asks rounds)

  put_ask : (low : ℕ) (x : ScriptLine) (rounds : List Round) → low ≤ x.line → x.line < high → AsksRise (x.line + 1) rounds → AsksRise low (put_first x rounds)
  put_ask low x [] le lt rest = (le, lt, tt)
  put_ask low x (r ∷ rs) le lt rest = (le, lt, rest)

  put_end : (low number : ℕ) (runs : Bool) (rounds : List Round) → low ≤ number → AsksRise (number + 1) rounds →
      AsksRise low (record { lines = []; runs = runs } ∷ rounds)
  put_end low number runs rounds le rest = lower (λ (x : ScriptLine). x.line) high (number + 1) low (asks rounds) (omega (arith, le)) rest

  put_rises : (low : ℕ) (line : Line) (rounds : List Round) → low ≤ line.number → line.number < high → AsksRise (line.number + 1) rounds →
      AsksRise low (put_step (step_of ids line) rounds)
  put_rises low line rounds le lt rest =
      by_choice (is_word (codes "slot") (field_at line.texts 0)) _ _ (λ end. AsksRise low (put_step (step_by ids end line) rounds)) (put_end low line.number true rounds le rest)
      (by_choice (is_word (codes "wait") (field_at line.texts 0)) _ _ (λ end. AsksRise low (put_step (step_by ids end line) rounds)) (put_end low line.number false rounds le rest)
      (put_ask low _ rounds le lt rest))

  rounds_rise : (low : ℕ) (lines : List Line) → Rising (λ (l : Line). l.number) high low lines → AsksRise low (rounds_of ids lines)
  rounds_rise low [] h = tt
  rounds_rise low (line ∷ lines) h = put_rises low line (rounds_of ids lines) h.0 h.1 (rounds_rise (line.number + 1) lines h.2)

images : (n : ℕ) (lines : List ScriptLine) → map (λ (x : ℕ × ScriptLine). x.1) (map (λ (x : ScriptLine). (n, x)) lines) ≡ lines
images n [] = refl
images n (x ∷ xs) = ap (λ l. x ∷ l) (images n xs)

without_rounds : (n : ℕ) (rounds : List Round) → map (λ (x : ℕ × ScriptLine). x.1) (lines_from n rounds) ≡ asks rounds
without_rounds n [] = refl
without_rounds n (r ∷ rs) =
    map-append (λ (x : ℕ × ScriptLine). x.1) (map (λ (x : ScriptLine). (n, x)) r.lines) (lines_from (n + 1) rs)
    ∙ ap (λ l. l ++ map (λ (x : ℕ × ScriptLine). x.1) (lines_from (n + 1) rs)) (images n r.lines) ∙ ap (λ l. r.lines ++ l) (without_rounds (n + 1) rs)

-- the number of a line in the text
abbrev pub at_line : ℕ × ScriptLine → ℕ
at_line x = x.1.line

script_rises : (ids : List ℕ) (text : Text) → length text ≤ MAX_TEXT → Rising at_line (2 ^ 32) 1 (lines_of (script_of ids text))
script_rises ids text short =
    let rounds = rounds_of ids (text_lines text) in
    from_images (λ (x : ScriptLine). x.line) (2 ^ 32) (λ (x : ℕ × ScriptLine). x.1) 1 (lines_from 0 rounds)
    (subst (Rising (λ (x : ScriptLine). x.line) (2 ^ 32) 1) (sym (without_rounds 0 rounds)) (rounds_rise ids (2 ^ 32) 1 (text_lines text) (text_rises text short)))

-- the lines of a script that was read of a short text rise by their numbers, which are below 2^32
pub lines_rise : (ids : List ℕ) (script : Script) (read : IsRead ids script) → length read.text ≤ MAX_TEXT → Rising at_line (2 ^ 32) 1 (lines_of script)
lines_rise ids script read short = subst (λ (s : Script). Rising at_line (2 ^ 32) 1 (lines_of s)) (sym read.script_is) (script_rises ids read.text short)
