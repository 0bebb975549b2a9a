-- A command and a reply are told by their words.
use Rattle.std.proofs.Common.{◌≡◌, inl, inr, ℕ, ◌+◌, ◌*◌, List, [], ◌∷◌, ◌++◌, append-nil, get_or, length, refl, sym, ap, ◌∙◌, arith}
use Rattle.std.specs.Prelude.{◌==◌, if◌then◌else◌, codes}
use Rattle.std.specs.List.{flat_map}
use Rattle.std.proofs.lemmas.List.{append_cancel_left}
use Rattle.report_text.specs.Readers.{Stops}
use Rattle.coflow_units.specs.Text.{spaced}
use Rattle.live_text.specs.declared.value.Said.{Said}
use Rattle.live_text.specs.declared.value.Said.TheVariants.{Joined, Already, Left, NotHere, Version, StillOpen, Rank}
use Rattle.live_text.specs.declared.value.Said.TheVariants.{Unranked, Opened, Nothing, Closed, Weighed}
use Rattle.live_text.specs.declared.value.Word.{Word}
use Rattle.live_text.specs.declared.value.Word.TheVariants.{Register, Withdraw, Publish, Pull, Open, Close, Reweigh}
use Rattle.live_text.specs.Live.{IsAnswerOf, IsWord}
use Rattle.live_text.specs.Text.{command_words, mark, reply_words}
use Rattle.live_text.proofs.NumberLists.{AreWide, StopsBehind, numbers_unique, one_number, three_numbers, two_numbers}

-- ---- commands

-- the numbers of a command
abbrev pub numbers_in : Word → List ℕ
numbers_in (Register id) = id ∷ []
numbers_in (Withdraw id) = id ∷ []
numbers_in Publish = []
numbers_in (Pull id) = id ∷ []
numbers_in (Open most) = most ∷ []
numbers_in Close = []
numbers_in (Reweigh id weight) = id ∷ weight ∷ []

-- the command with this mark and these numbers
abbrev pub command_by : ℕ → List ℕ → Word
command_by m ns =
    if m == 103 then Register (get_or ns 0 0)
    else (if m == 116 then Withdraw (get_or ns 0 0)
    else (if m == 98 then Publish
    else (if m == 108 then Pull (get_or ns 0 0)
    else (if m == 101 then Open (get_or ns 0 0)
    else (if m == 111 then Close
    else Reweigh (get_or ns 0 0) (get_or ns 1 0))))))

-- what the words of a command with this mark begin with, and how many numbers follow
abbrev name_by : ℕ → List ℕ
name_by m =
    if m == 103 then codes " register"
    else (if m == 116 then codes " withdraw"
    else (if m == 98 then codes " publish"
    else (if m == 108 then codes " pull"
    else (if m == 101 then codes " open"
    else (if m == 111 then codes " close"
    else codes " reweigh")))))

abbrev count_by_mark : ℕ → ℕ
count_by_mark m =
    if m == 103 then 1
    else (if m == 116 then 1
    else (if m == 98 then 0
    else (if m == 108 then 1
    else (if m == 101 then 1
    else (if m == 111 then 0
    else 2)))))

command_again : (w : Word) (x : List ℕ) → command_by (mark (command_words w ++ x)) (numbers_in w) ≡ w
command_again (Register id) x = refl
command_again (Withdraw id) x = refl
command_again Publish x = refl
command_again (Pull id) x = refl
command_again (Open most) x = refl
command_again Close x = refl
command_again (Reweigh id weight) x = refl

command_count : (w : Word) (x : List ℕ) → count_by_mark (mark (command_words w ++ x)) ≡ length (numbers_in w)
command_count (Register id) x = refl
command_count (Withdraw id) x = refl
command_count Publish x = refl
command_count (Pull id) x = refl
command_count (Open most) x = refl
command_count Close x = refl
command_count (Reweigh id weight) x = refl

command_parts : (w : Word) (x : List ℕ) → command_words w ++ x ≡ name_by (mark (command_words w ++ x)) ++ (flat_map spaced (numbers_in w) ++ x)
command_parts (Register id) x = one_number (codes " register") x id
command_parts (Withdraw id) x = one_number (codes " withdraw") x id
command_parts Publish x = refl
command_parts (Pull id) x = one_number (codes " pull") x id
command_parts (Open most) x = one_number (codes " open") x most
command_parts Close x = refl
command_parts (Reweigh id weight) x = two_numbers (codes " reweigh") x id weight

command_wide : (w : Word) → IsWord w → AreWide (numbers_in w)
command_wide (Register id) h = (omega (arith, h), tt)
command_wide (Withdraw id) h = (omega (arith, h), tt)
command_wide Publish h = tt
command_wide (Pull id) h = (omega (arith, h), tt)
command_wide (Open most) h = (omega (arith, h.1), tt)
command_wide Close h = tt
command_wide (Reweigh id weight) h = (omega (arith, h.0), (omega (arith, h.1.1), tt))

stops_behind : (ns x : List ℕ) → Stops x → StopsBehind ns x
stops_behind [] x h = tt
stops_behind (n ∷ ns) x h = h

-- the command is the one that the bytes' mark tells
pub command_is : (w : Word) (bytes x : List ℕ) → bytes ≡ command_words w ++ x → w ≡ command_by (mark bytes) (numbers_in w)
command_is w bytes x e = sym (command_again w x) ∙ ap (λ b. command_by (mark b) (numbers_in w)) (sym e)

-- bytes begin with the words of one command at most
pub command_unique : (v w : Word) (x y : List ℕ) → IsWord v → IsWord w → Stops x → Stops y → command_words v ++ x ≡ command_words w ++ y → (v ≡ w) × (x ≡ y)
command_unique v w x y hv hw sx sy e =
    let m = mark (command_words v ++ x) in
    let marks : mark (command_words w ++ y) ≡ m = ap mark (sym e) in
    let count : length (numbers_in v) ≡ length (numbers_in w) = sym (command_count v x) ∙ (ap count_by_mark (sym marks) ∙ command_count w y) in
    let tails : name_by m ++ (flat_map spaced (numbers_in v) ++ x) ≡ name_by m ++ (flat_map spaced (numbers_in w) ++ y) =
    sym (command_parts v x) ∙ (e ∙ (command_parts w y ∙ ap (λ k. name_by k ++ (flat_map spaced (numbers_in w) ++ y)) marks)) in
    let same = numbers_unique (numbers_in v) (numbers_in w) x y count (command_wide v hv) (command_wide w hw) (stops_behind (numbers_in v) x sx)
    (stops_behind (numbers_in w) y sy) (append_cancel_left (name_by m) (flat_map spaced (numbers_in v) ++ x) (flat_map spaced (numbers_in w) ++ y) tails) in
    (sym (command_again v x) ∙ (ap (command_by m) same.0 ∙ (ap (λ k. command_by k (numbers_in w)) (sym marks) ∙ command_again w y)), same.1)

-- ---- replies

-- the second and the sixth byte tell replies apart
abbrev reply_mark : List ℕ → ℕ
reply_mark bytes = get_or bytes 1 0 * 256 + get_or bytes 5 0

abbrev numbers_said : Said → List ℕ
numbers_said Joined = []
numbers_said Already = []
numbers_said Left = []
numbers_said NotHere = []
numbers_said (Version version) = version ∷ []
numbers_said (StillOpen slot) = slot ∷ []
numbers_said (Rank version rank) = version ∷ rank ∷ []
numbers_said (Unranked version) = version ∷ []
numbers_said (Opened slot slots count) = slot ∷ slots ∷ count ∷ []
numbers_said Nothing = []
numbers_said (Closed slot) = slot ∷ []
numbers_said (Weighed weight) = weight ∷ []

-- a reply without its numbers
abbrev plain : Said → Said
plain Joined = Joined
plain Already = Already
plain Left = Left
plain NotHere = NotHere
plain (Version version) = Version 0
plain (StillOpen slot) = StillOpen 0
plain (Rank version rank) = Rank 0 0
plain (Unranked version) = Unranked 0
plain (Opened slot slots count) = Opened 0 0 0
plain Nothing = Nothing
plain (Closed slot) = Closed 0
plain (Weighed weight) = Weighed 0

abbrev filled : Said → List ℕ → Said
filled Joined ns = Joined
filled Already ns = Already
filled Left ns = Left
filled NotHere ns = NotHere
filled (Version version) ns = Version (get_or ns 0 0)
filled (StillOpen slot) ns = StillOpen (get_or ns 0 0)
filled (Rank version rank) ns = Rank (get_or ns 0 0) (get_or ns 1 0)
filled (Unranked version) ns = Unranked (get_or ns 0 0)
filled (Opened slot slots count) ns = Opened (get_or ns 0 0) (get_or ns 1 0) (get_or ns 2 0)
filled Nothing ns = Nothing
filled (Closed slot) ns = Closed (get_or ns 0 0)
filled (Weighed weight) ns = Weighed (get_or ns 0 0)

-- the reply with this mark, without its numbers
abbrev plain_by : ℕ → Said
plain_by m =
    if m == reply_mark (codes " joined") then Joined
    else (if m == reply_mark (codes " already") then Already
    else (if m == reply_mark (codes " left") then Left
    else (if m == reply_mark (codes " nothere") then NotHere
    else (if m == reply_mark (codes " version") then Version 0
    else (if m == reply_mark (codes " stillopen") then StillOpen 0
    else (if m == reply_mark (codes " rank ") then Rank 0 0
    else (if m == reply_mark (codes " unranked") then Unranked 0
    else (if m == reply_mark (codes " opened") then Opened 0 0 0
    else (if m == reply_mark (codes " nothing") then Nothing
    else (if m == reply_mark (codes " closed") then Closed 0
    else Weighed 0))))))))))

plain_again : (s : Said) → plain_by (reply_mark (reply_words s)) ≡ plain s
plain_again Joined = refl
plain_again Already = refl
plain_again Left = refl
plain_again NotHere = refl
plain_again (Version version) = refl
plain_again (StillOpen slot) = refl
plain_again (Rank version rank) = refl
plain_again (Unranked version) = refl
plain_again (Opened slot slots count) = refl
plain_again Nothing = refl
plain_again (Closed slot) = refl
plain_again (Weighed weight) = refl

filled_again : (s : Said) → filled (plain s) (numbers_said s) ≡ s
filled_again Joined = refl
filled_again Already = refl
filled_again Left = refl
filled_again NotHere = refl
filled_again (Version version) = refl
filled_again (StillOpen slot) = refl
filled_again (Rank version rank) = refl
filled_again (Unranked version) = refl
filled_again (Opened slot slots count) = refl
filled_again Nothing = refl
filled_again (Closed slot) = refl
filled_again (Weighed weight) = refl

said_count : (s : Said) → length (numbers_said (plain s)) ≡ length (numbers_said s)
said_count Joined = refl
said_count Already = refl
said_count Left = refl
said_count NotHere = refl
said_count (Version version) = refl
said_count (StillOpen slot) = refl
said_count (Rank version rank) = refl
said_count (Unranked version) = refl
said_count (Opened slot slots count) = refl
said_count Nothing = refl
said_count (Closed slot) = refl
said_count (Weighed weight) = refl

-- the word that a reply begins with
abbrev reply_name : Said → List ℕ
reply_name Joined = codes " joined"
reply_name Already = codes " already"
reply_name Left = codes " left"
reply_name NotHere = codes " nothere"
reply_name (Version version) = codes " version"
reply_name (StillOpen slot) = codes " stillopen"
reply_name (Rank version rank) = codes " rank"
reply_name (Unranked version) = codes " unranked"
reply_name (Opened slot slots count) = codes " opened"
reply_name Nothing = codes " nothing"
reply_name (Closed slot) = codes " closed"
reply_name (Weighed weight) = codes " weighed"

reply_parts : (s : Said) → reply_words s ≡ reply_name (plain s) ++ (flat_map spaced (numbers_said s) ++ [])
reply_parts Joined = refl
reply_parts Already = refl
reply_parts Left = refl
reply_parts NotHere = refl
reply_parts (Version version) = sym (append-nil (codes " version" ++ spaced version)) ∙ one_number (codes " version") [] version
reply_parts (StillOpen slot) = sym (append-nil (codes " stillopen" ++ spaced slot)) ∙ one_number (codes " stillopen") [] slot
reply_parts (Rank version rank) = sym (append-nil (codes " rank" ++ spaced version ++ spaced rank)) ∙ two_numbers (codes " rank") [] version rank
reply_parts (Unranked version) = sym (append-nil (codes " unranked" ++ spaced version)) ∙ one_number (codes " unranked") [] version
reply_parts (Opened slot slots count) =
    sym (append-nil (codes " opened" ++ spaced slot ++ spaced slots ++ spaced count)) ∙ three_numbers (codes " opened") [] slot slots count
reply_parts Nothing = refl
reply_parts (Closed slot) = sym (append-nil (codes " closed" ++ spaced slot)) ∙ one_number (codes " closed") [] slot
reply_parts (Weighed weight) = sym (append-nil (codes " weighed" ++ spaced weight)) ∙ one_number (codes " weighed") [] weight

said_wide : (w : Word) (s : Said) → IsAnswerOf w s → AreWide (numbers_said s)
said_wide (Register id) s (inl e) = rw e tt
said_wide (Register id) s (inr e) = rw e tt
said_wide (Withdraw id) s (inl e) = rw e tt
said_wide (Withdraw id) s (inr e) = rw e tt
said_wide Publish s (inl (v, small, e)) = rw e (omega (arith, small), tt)
said_wide Publish s (inr (slot, small, e)) = rw e (omega (arith, small), tt)
said_wide (Pull id) s (inl (v, r, sv, sr, e)) = rw e (omega (arith, sv), (omega (arith, sr), tt))
said_wide (Pull id) s (inr (v, small, e)) = rw e (omega (arith, small), tt)
said_wide (Open most) s (inl (slot, slots, count, s1, s2, s3, e)) = rw e (omega (arith, s1), (omega (arith, s2), (omega (arith, s3), tt)))
said_wide (Open most) s (inr e) = rw e tt
said_wide Close s (slot, small, e) = rw e (omega (arith, small), tt)
said_wide (Reweigh id weight) s (inl (old, small, e)) = rw e (omega (arith, small.1), tt)
said_wide (Reweigh id weight) s (inr e) = rw e tt

-- words are those of one reply at most
pub reply_unique : (v w : Word) (s t : Said) → IsAnswerOf v s → IsAnswerOf w t → reply_words s ≡ reply_words t → s ≡ t
reply_unique v w s t hs ht e =
    let same : plain s ≡ plain t = sym (plain_again s) ∙ (ap (λ b. plain_by (reply_mark b)) e ∙ plain_again t) in
    let count : length (numbers_said s) ≡ length (numbers_said t) = sym (said_count s) ∙ (ap (λ p. length (numbers_said p)) same ∙ said_count t) in
    let tails : reply_name (plain s) ++ (flat_map spaced (numbers_said s) ++ []) ≡ reply_name (plain s) ++ (flat_map spaced (numbers_said t) ++ []) =
    sym (reply_parts s) ∙ (e ∙ (reply_parts t ∙ ap (λ p. reply_name p ++ (flat_map spaced (numbers_said t) ++ [])) (sym same))) in
    let numbers = numbers_unique (numbers_said s) (numbers_said t) [] [] count (said_wide v s hs) (said_wide w t ht) (stops_behind (numbers_said s) [] tt)
    (stops_behind (numbers_said t) [] tt)
    (append_cancel_left (reply_name (plain s)) (flat_map spaced (numbers_said s) ++ []) (flat_map spaced (numbers_said t) ++ []) tails) in
    sym (filled_again s) ∙ (ap (λ p. filled p (numbers_said s)) same ∙ (ap (filled (plain t)) numbers.0 ∙ filled_again t))

-- a reply begins with a space
pub reply_stops : (s : Said) → Stops (reply_words s)
reply_stops Joined = refl
reply_stops Already = refl
reply_stops Left = refl
reply_stops NotHere = refl
reply_stops (Version version) = refl
reply_stops (StillOpen slot) = refl
reply_stops (Rank version rank) = refl
reply_stops (Unranked version) = refl
reply_stops (Opened slot slots count) = refl
reply_stops Nothing = refl
reply_stops (Closed slot) = refl
reply_stops (Weighed weight) = refl

pub command_stops : (w : Word) (x : List ℕ) → Stops (command_words w ++ x)
command_stops (Register id) x = refl
command_stops (Withdraw id) x = refl
command_stops Publish x = refl
command_stops (Pull id) x = refl
command_stops (Open most) x = refl
command_stops Close x = refl
command_stops (Reweigh id weight) x = refl
