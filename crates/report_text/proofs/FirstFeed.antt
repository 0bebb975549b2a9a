-- Where a search finds the first line feed.
use Rattle.std.proofs.Common.{◌≡◌, ℕ, ◌≤◌, ◌<◌, List, None, Some, get_or, length, sym, arith}
use Rattle.std.specs.List.{position_or_len}
use Rattle.std.proofs.lemmas.Bool.{false_from_ne_true}
use Rattle.std.proofs.lemmas.List.Sums.{position_or_len_is}
use Rattle.memchr.specs.Find.{IsFirstByte, is_byte}
use Rattle.report_text.proofs.LineText.{is_feed}

-- the place that is found is that of the first line feed
pub first_feed : (bytes : List ℕ) (place : ℕ) → IsFirstByte (is_byte 10) bytes (Some place) → place ≡ position_or_len is_feed bytes
first_feed bytes place found = sym (position_or_len_is is_feed bytes place 0 (omega (arith, found.0.high))
    (λ k lt. false_from_ne_true (is_feed (get_or bytes k 0)) (found.0.before k (omega arith) lt)) (λ lt. found.1))

-- where none is found, there is none
pub no_feed : (bytes : List ℕ) → IsFirstByte (is_byte 10) bytes None → length bytes ≡ position_or_len is_feed bytes
no_feed bytes none = sym (position_or_len_is is_feed bytes (length bytes) 0 (omega arith)
    (λ k lt. false_from_ne_true (is_feed (get_or bytes k 0)) (none k (omega arith) lt)) (λ lt. absurd (omega (arith, lt))))
