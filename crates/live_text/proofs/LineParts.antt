-- Each line of a printed journal is one line, and says one thing alone.
use Rattle.std.proofs.Common.{◌≡◌, inl, inr, ℕ, suc, ◌+◌, ◌<◌, ◌^◌, List, [], ◌∷◌, ◌++◌, append_assoc, append-nil}
use Rattle.std.proofs.Common.{length, map, drop, get_or, refl, sym, ap, subst, ◌∙◌, arith, add-zero}
use Rattle.std.specs.Prelude.{All, codes}
use Rattle.std.specs.List.{flat_map}
use Rattle.std.proofs.lemmas.List.{append_cancel_left}
use Rattle.report_text.specs.Readers.{IsOneLine}
use Rattle.coflow_units.specs.Text.{spaced}
use Rattle.report_text.proofs.FlowText.{stops_flows}
use Rattle.report_text.proofs.LineText.{front_is_line}
use Rattle.report_text.proofs.NumberText.{spaced_unique}
use Rattle.report_text.proofs.OneLine.{both, total_one}
use Rattle.report_text.proofs.ReadingText.{AreLines}
use Rattle.live_text.specs.declared.value.EntryLine.{EntryLine}
use Rattle.live_text.specs.declared.value.PullLine.{PullLine}
use Rattle.live_text.specs.declared.value.Said.{Said}
use Rattle.live_text.specs.declared.value.Word.{Word}
use Rattle.live_text.specs.declared.value.Word.TheVariants.{Register, Withdraw, Publish, Pull, Open, Close, Reweigh}
use Rattle.live_text.specs.Live.{IsAnswerOf, IsEntry, IsPull, IsSmall, IsWord}
use Rattle.live_text.specs.Text.{command_words, entry_line, numbered, order_line, pull_line, reply_words}
use Rattle.live_text.proofs.NumberLists.{AreWide, numbers_unique}
use Rattle.live_text.proofs.Words.{command_stops, command_unique, reply_stops, reply_unique}

-- ---- one line each

command_one : (w : Word) → IsWord w → IsOneLine (command_words w)
command_one (Register id) h = total_one (codes " register") id (front_is_line (codes " register")) (omega (arith, h))
command_one (Withdraw id) h = total_one (codes " withdraw") id (front_is_line (codes " withdraw")) (omega (arith, h))
command_one Publish h = front_is_line (codes " publish")
command_one (Pull id) h = total_one (codes " pull") id (front_is_line (codes " pull")) (omega (arith, h))
command_one (Open most) h = total_one (codes " open") most (front_is_line (codes " open")) (omega (arith, h.1))
command_one Close h = front_is_line (codes " close")
command_one (Reweigh id weight) h =
    total_one (codes " reweigh" ++ spaced id) weight (total_one (codes " reweigh") id (front_is_line (codes " reweigh")) (omega (arith, h.0))) (omega (arith, h.1.1))

reply_one : (w : Word) (s : Said) → IsAnswerOf w s → IsOneLine (reply_words s)
reply_one (Register id) s (inl e) = rw e (front_is_line (codes " joined"))
reply_one (Register id) s (inr e) = rw e (front_is_line (codes " already"))
reply_one (Withdraw id) s (inl e) = rw e (front_is_line (codes " left"))
reply_one (Withdraw id) s (inr e) = rw e (front_is_line (codes " nothere"))
reply_one Publish s (inl (v, small, e)) = rw e (total_one (codes " version") v (front_is_line (codes " version")) (omega (arith, small)))
reply_one Publish s (inr (slot, small, e)) = rw e (total_one (codes " stillopen") slot (front_is_line (codes " stillopen")) (omega (arith, small)))
reply_one (Pull id) s (inl (v, r, sv, sr, e)) =
    rw e (total_one (codes " rank" ++ spaced v) r (total_one (codes " rank") v (front_is_line (codes " rank")) (omega (arith, sv))) (omega (arith, sr)))
reply_one (Pull id) s (inr (v, small, e)) = rw e (total_one (codes " unranked") v (front_is_line (codes " unranked")) (omega (arith, small)))
reply_one (Open most) s (inl (slot, slots, count, s1, s2, s3, e)) =
    let a = total_one (codes " opened") slot (front_is_line (codes " opened")) (omega (arith, s1)) in
    let b = total_one (codes " opened" ++ spaced slot) slots a (omega (arith, s2)) in
    rw e (total_one (codes " opened" ++ spaced slot ++ spaced slots) count b (omega (arith, s3)))
reply_one (Open most) s (inr e) = rw e (front_is_line (codes " nothing"))
reply_one Close s (slot, small, e) = rw e (total_one (codes " closed") slot (front_is_line (codes " closed")) (omega (arith, small)))
reply_one (Reweigh id weight) s (inl (old, small, e)) = rw e (total_one (codes " weighed") old (front_is_line (codes " weighed")) (omega (arith, small.1)))
reply_one (Reweigh id weight) s (inr e) = rw e (front_is_line (codes " nothere"))

pub entry_one : (k : ℕ) (e : EntryLine) → k < 2 ^ 128 → IsEntry e → IsOneLine (entry_line k e)
entry_one k e few h =
    let a = total_one (codes "entry") k (front_is_line (codes "entry")) few in
    let b = total_one (codes "entry" ++ spaced k) e.who a (omega (arith, h.who_is)) in
    let d = both (codes "entry" ++ spaced k ++ spaced e.who) (command_words e.word) b (command_one e.word h.command) in
    both (codes "entry" ++ spaced k ++ spaced e.who ++ command_words e.word) (reply_words e.said) d (reply_one e.word e.said h.reply)

ids_one : (front ids : List ℕ) → IsOneLine front → All IsSmall ids → IsOneLine (front ++ flat_map spaced ids)
ids_one front [] h small = rw (append-nil front) h
ids_one front (i ∷ is) h small =
    rw (← append_assoc front (spaced i) (flat_map spaced is))
    (ids_one (front ++ spaced i) is (total_one front i h (omega (arith, small 0 i (omega arith)))) (λ k d lt. small (suc k) d (omega (arith, lt))))

pub order_one : (v : ℕ) (ids : List ℕ) → v < 2 ^ 128 → All IsSmall ids → IsOneLine (order_line v ids)
order_one v ids few small = ids_one (codes "order" ++ spaced v) ids (total_one (codes "order") v (front_is_line (codes "order")) few) small

pub pull_one : (p : PullLine) → IsPull p → IsOneLine (pull_line p)
pull_one p h =
    let a = total_one (codes "pull") p.client (front_is_line (codes "pull")) (omega (arith, h.client_to)) in
    let b = total_one (codes "pull" ++ spaced p.client) p.line a (omega (arith, h.line_fits)) in
    let d = total_one (codes "pull" ++ spaced p.client ++ spaced p.line) p.id b (omega (arith, h.id_fits)) in
    let e = total_one (codes "pull" ++ spaced p.client ++ spaced p.line ++ spaced p.id) p.version d (omega (arith, h.version_fits)) in
    total_one (codes "pull" ++ spaced p.client ++ spaced p.line ++ spaced p.id ++ spaced p.version) p.rank e (omega (arith, h.rank_fits))

pub numbered_lines : {X : Type 0} (line : ℕ → X → List ℕ) (k : ℕ) (xs : List X) → ((n : ℕ) (d : X) → n < length xs → IsOneLine (line (k + n) (get_or xs n d))) →
    AreLines (numbered line k xs)
numbered_lines line k [] each = tt
numbered_lines line k (x ∷ xs) each = (
  subst (λ m. IsOneLine (line m x)) (add-zero k) (each 0 x (omega arith)),
  numbered_lines line (k + 1) xs (λ n d lt. let at : k + suc n ≡ k + 1 + n = omega arith in
      subst (λ m. IsOneLine (line m (get_or xs n d))) at (each (suc n) d (omega (arith, lt)))),
)

pub pulls_lines : (ps : List PullLine) → All IsPull ps → AreLines (map pull_line ps)
pulls_lines [] h = tt
pulls_lines (p ∷ ps) h = (pull_one p (h 0 p (omega arith)), pulls_lines ps (λ k d lt. h (suc k) d (omega (arith, lt))))

-- ---- one thing each

entry_regroup : (a b c d e : List ℕ) → a ++ b ++ c ++ d ++ e ≡ (a ++ b) ++ (c ++ (d ++ e))
entry_regroup a b c d e = simp append_assoc

pub entry_parts : (k : ℕ) (e : EntryLine) → entry_line k e ≡ (codes "entry" ++ spaced k) ++ (spaced e.who ++ (command_words e.word ++ reply_words e.said))
entry_parts k e = entry_regroup (codes "entry") (spaced k) (spaced e.who) (command_words e.word) (reply_words e.said)

pub entry_unique : (k : ℕ) (a b : EntryLine) → IsEntry a → IsEntry b → entry_line k a ≡ entry_line k b → a ≡ b
entry_unique k a b ha hb e =
    let behind = append_cancel_left (codes "entry" ++ spaced k) (spaced a.who ++ (command_words a.word ++ reply_words a.said))
    (spaced b.who ++ (command_words b.word ++ reply_words b.said)) (sym (entry_parts k a) ∙ (e ∙ entry_parts k b)) in
    let who = spaced_unique (command_words a.word ++ reply_words a.said) (command_words b.word ++ reply_words b.said) a.who b.who (omega (arith, ha.who_is))
    (omega (arith, hb.who_is)) (command_stops a.word (reply_words a.said)) (command_stops b.word (reply_words b.said)) behind in
    let word = command_unique a.word b.word (reply_words a.said) (reply_words b.said) ha.command hb.command (reply_stops a.said) (reply_stops b.said) who.1 in
    let said = reply_unique a.word b.word a.said b.said ha.reply hb.reply word.1 in
    λ i. record { who = who.0 i; word = word.0 i; said = said i }

-- ids that begin as others do
ids_unique : (xs ys : List ℕ) → All IsSmall xs → All IsSmall ys → flat_map spaced xs ≡ flat_map spaced ys → xs ≡ ys
ids_unique [] [] hx hy e = refl
ids_unique [] (y ∷ ys) hx hy e = absurd cc
ids_unique (x ∷ xs) [] hx hy e = absurd cc
ids_unique (x ∷ xs) (y ∷ ys) hx hy e =
    let one = spaced_unique (flat_map spaced xs) (flat_map spaced ys) x y (omega (arith, hx 0 x (omega arith))) (omega (arith, hy 0 y (omega arith)))
    (stops_flows xs) (stops_flows ys) e
    in
    let more = ids_unique xs ys (λ k d lt. hx (suc k) d (omega (arith, lt))) (λ k d lt. hy (suc k) d (omega (arith, lt))) one.1 in
    λ i. one.0 i ∷ more i

pub order_unique : (v : ℕ) (a b : List ℕ) → All IsSmall a → All IsSmall b → order_line v a ≡ order_line v b → a ≡ b
order_unique v a b ha hb e = ids_unique a b ha hb (append_cancel_left (codes "order" ++ spaced v) (flat_map spaced a) (flat_map spaced b) e)

abbrev pull_numbers : PullLine → List ℕ
pull_numbers p = p.client ∷ p.line ∷ p.id ∷ p.version ∷ p.rank ∷ []

pull_regroup : (w a b c d e : List ℕ) → w ++ a ++ b ++ c ++ d ++ e ≡ w ++ ((a ++ (b ++ (c ++ (d ++ (e ++ []))))) ++ [])
pull_regroup w a b c d e = simp (append_assoc, append-nil)

pub pull_unique : (a b : PullLine) → IsPull a → IsPull b → pull_line a ≡ pull_line b → a ≡ b
pull_unique a b ha hb e =
    let same = (numbers_unique (pull_numbers a) (pull_numbers b) [] [] refl (wide a ha) (wide b hb) tt tt (ap (drop 4) (sym (parts a) ∙ (e ∙ parts b)))).0 in
    λ i. record { client = get_or (same i) 0 0; line = get_or (same i) 1 0; id = get_or (same i) 2 0; version = get_or (same i) 3 0; rank = get_or (same i) 4 0 }
  where
    wide : (p : PullLine) → IsPull p → AreWide (pull_numbers p)
    wide p h = (omega (arith, h.client_to), (omega (arith, h.line_fits), (omega (arith, h.id_fits), (omega (arith, h.version_fits), (omega (arith, h.rank_fits), tt)))))

    parts : (p : PullLine) → pull_line p ≡ codes "pull" ++ (flat_map spaced (pull_numbers p) ++ [])
    parts p = pull_regroup (codes "pull") (spaced p.client) (spaced p.line) (spaced p.id) (spaced p.version) (spaced p.rank)
