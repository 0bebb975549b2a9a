-- Bytes that are read line by line as a text of some kind: what was read of them, and where no such text goes on.
-- IsText says of a list of lines that they are the lines of such a text.
use Rattle.std.proofs.Common.{◌≡◌, ℕ, ◌+◌, ◌<◌, ◌≤◌, List, [], ◌∷◌, ◌++◌, append_assoc, append-nil, length, length-append, take, drop, refl, sym, ap, subst, ◌∙◌, arith}
use Rattle.std.proofs.lemmas.Grind.{flat_map-append}
use Rattle.std.proofs.lemmas.List.{length-take-le, take-append-drop}
use Rattle.report_text.specs.Readers.{IsOneLine}
use Rattle.coflow_units.specs.Text.{ended, text_of}
use Rattle.report_text.proofs.LineText.{line_unique}
use Rattle.report_text.proofs.ReadingText.{AreLines, front_lines, more_lines, text_goes_on, text_splits}

-- the bytes begin with n whole lines, with which some text begins
pub record IsBegun (IsText : List (List ℕ) → Type 0) (bytes : List ℕ) (n : ℕ) : Type 0 where
  pub front : List (List ℕ)
  pub others : List (List ℕ)
  pub lines : IsText (front ++ others)
  pub count : length front ≡ n
  pub rest : List ℕ
  pub text : bytes ≡ text_of front ++ rest

-- the bytes are no text, and the line is the first one that no text has after the lines before it
pub record IsStopped (IsText : List (List ℕ) → Type 0) (bytes : List ℕ) (line : ℕ) : Type 0 where
  pub no_text : (ls : List (List ℕ)) → IsText ls → bytes ≡ text_of ls → ⊥
  pub counted : 1 ≤ line
  pub before : (n : ℕ) → n < line → IsBegun IsText bytes n
  pub here : IsBegun IsText bytes line → ⊥

-- the bytes are these lines, with which some text begins, and the rest, of which line n is the first
pub record IsRead (IsText : List (List ℕ) → Type 0) (bytes rest : List ℕ) (ls : List (List ℕ)) (n : ℕ) : Type 0 where
  pub are_lines : AreLines ls
  pub count : length ls + 1 ≡ n
  pub text : bytes ≡ text_of ls ++ rest
  pub left : List (List ℕ)
  pub begun : IsText (ls ++ left)

-- a list of lines is no longer than its text
few_lines : (xs : List (List ℕ)) → length xs ≤ length (text_of xs)
few_lines [] = omega arith
few_lines (x ∷ xs) = omega (arith, few_lines xs, length-append (ended x) (text_of xs), length-append x (10 ∷ []))

pub shorter : (rest behind line : List ℕ) → rest ≡ ended line ++ behind → length behind < length rest
shorter rest behind line e = omega (arith, ap length e, length-append (ended line) behind, length-append line (10 ∷ []))

module _ (IsText : List (List ℕ) → Type 0) where
  pub none_yet : (bytes : List ℕ) (ls left : List (List ℕ)) → ls ≡ [] → IsText (ls ++ left) → IsRead IsText bytes bytes ls 1
  none_yet bytes ls left none begun = record { are_lines = rw none tt; count = rw none refl; text = rw none refl; left = left; begun = begun }

  pub one_more : (bytes rest behind line : List ℕ) (ls new left : List (List ℕ)) (n : ℕ) → IsRead IsText bytes rest ls n → new ≡ ls ++ (line ∷ []) → IsText (new ++ left) →
      IsOneLine line → rest ≡ ended line ++ behind → IsRead IsText bytes behind new (n + 1)
  one_more bytes rest behind line ls new left n r grown begun one e =
      let flat : text_of (ls ++ (line ∷ [])) ≡ text_of ls ++ ended line =
      flat_map-append ended ls (line ∷ []) ∙ ap (λ x. text_of ls ++ x) (append-nil (ended line)) in
      let whole : text_of ls ++ rest ≡ text_of new ++ behind = ap (λ x. text_of ls ++ x) e ∙
      (sym (append_assoc (text_of ls) (ended line) behind) ∙ ap (λ x. x ++ behind) (sym flat ∙ ap text_of (sym grown))) in
      record {
        are_lines = rw grown (more_lines ls line r.are_lines one);
        count = omega (arith, ap length grown, length-append ls (line ∷ []), r.count);
        text = r.text ∙ whole;
        left = left;
        begun = begun;
      }

  pub few_read : (bytes rest : List ℕ) (ls : List (List ℕ)) (n : ℕ) → IsRead IsText bytes rest ls n → n ≤ length bytes + 1
  few_read bytes rest ls n r = omega (arith, few_lines ls, ap length r.text, length-append (text_of ls) rest, r.count)

  -- the lines that were read begin a text
  beginning : (bytes rest : List ℕ) (ls : List (List ℕ)) (n k : ℕ) → IsRead IsText bytes rest ls n → k < n → IsBegun IsText bytes k
  beginning bytes rest ls n k r lt =
      let parted : ls ≡ take k ls ++ drop k ls = sym (take-append-drop k ls) in
      let text : text_of ls ≡ text_of (take k ls) ++ text_of (drop k ls) = ap text_of parted ∙ flat_map-append ended (take k ls) (drop k ls) in
      record {
        front = take k ls;
        others = drop k ls ++ r.left;
        lines = subst IsText (ap (λ x. x ++ r.left) parted ∙ append_assoc (take k ls) (drop k ls) r.left) r.begun;
        count = length-take-le k ls (omega (arith, r.count));
        rest = text_of (drop k ls) ++ rest;
        text = r.text ∙ (ap (λ x. x ++ rest) text ∙ append_assoc (text_of (take k ls)) (text_of (drop k ls)) rest);
      }

  module _ (ones : (ls : List (List ℕ)) → IsText ls → AreLines ls) where
    -- no text has, behind the lines that were read, a line with which the rest begins; and none has just those lines, where the rest is empty
    stopped_at : (bytes rest : List ℕ) (ls : List (List ℕ)) (n : ℕ) → IsRead IsText bytes rest ls n →
        ((line behind : List ℕ) (more : List (List ℕ)) → IsOneLine line → IsText (ls ++ (line ∷ more)) → rest ≡ ended line ++ behind → ⊥) →
        (IsText ls → rest ≡ [] → ⊥) → IsStopped IsText bytes n
    stopped_at bytes rest ls n r stuck early = record { no_text = no_text; counted = omega (arith, r.count); before = λ k lt. beginning bytes rest ls n k r lt; here = here }
      where
        no_text : (all : List (List ℕ)) → IsText all → bytes ≡ text_of all → ⊥
        no_text all text is =
            let more = text_goes_on ls all rest r.are_lines (ones all text) (sym r.text ∙ is) in
            go more.0 more.1 more.2 more.3
          where
            go : (ms : List (List ℕ)) → all ≡ ls ++ ms → rest ≡ text_of ms → AreLines ms → ⊥
            go [] whole none some = early (subst IsText (whole ∙ append-nil ls) text) none
            go (m ∷ ms) whole some lines = stuck m (text_of ms) ms lines.0 (subst IsText whole text) some

        here : IsBegun IsText bytes n → ⊥
        here b =
            let fronts : AreLines b.front = front_lines b.front b.others (ones (b.front ++ b.others) b.lines) in
            let split = text_splits ls b.front rest b.rest r.are_lines fronts (b.count ∙ sym r.count) (sym r.text ∙ b.text) in
            let whole : b.front ++ b.others ≡ ls ++ (split.0 ∷ b.others) = ap (λ x. x ++ b.others) split.1 ∙ append_assoc ls (split.0 ∷ []) b.others in
            stuck split.0 b.rest b.others split.3 (subst IsText whole b.lines) split.2

    -- the rest begins with no whole line
    pub cut_at : (bytes rest : List ℕ) (ls : List (List ℕ)) (n : ℕ) → IsRead IsText bytes rest ls n → (rest ≡ [] → ⊥) →
        ((line behind : List ℕ) → rest ≡ ended line ++ behind → ⊥) → IsStopped IsText bytes n
    cut_at bytes rest ls n r some none = stopped_at bytes rest ls n r (λ line behind more one text e. none line behind e) (λ text empty. some empty)

    -- the next line is refused
    pub refused_at : (bytes rest line behind : List ℕ) (ls : List (List ℕ)) (n : ℕ) → IsRead IsText bytes rest ls n → (rest ≡ [] → ⊥) → IsOneLine line →
        rest ≡ ended line ++ behind → ((more : List (List ℕ)) → IsText (ls ++ (line ∷ more)) → ⊥) → IsStopped IsText bytes n
    refused_at bytes rest line behind ls n r some one e refused = stopped_at bytes rest ls n r stuck (λ text empty. some empty)
      where
        stuck : (other after : List ℕ) (more : List (List ℕ)) → IsOneLine other → IsText (ls ++ (other ∷ more)) → rest ≡ ended other ++ after → ⊥
        stuck other after more other_one text f =
            let same = line_unique other line after behind other_one one (sym f ∙ e) in
            refused more (subst (λ x. IsText (ls ++ (x ∷ more))) same.0 text)

    -- nothing is left, and the lines that were read are no whole text
    pub early_at : (bytes rest : List ℕ) (ls : List (List ℕ)) (n : ℕ) → IsRead IsText bytes rest ls n → rest ≡ [] → (IsText ls → ⊥) → IsStopped IsText bytes n
    early_at bytes rest ls n r none early = stopped_at bytes rest ls n r
        (λ line behind more one text e. absurd (omega (arith, ap length none, shorter rest behind line e)))
        (λ text empty. early text)
