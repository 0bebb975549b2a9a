-- The pulls of a seat and its looks, as it loads words and keeps pulls.
use Rattle.std.proofs.Common.{◌≡◌, inl, inr, ⊎_elim, ℕ, ◌/◌, ◌%◌, ◌<◌, ne_eqb, cond, List, [], ◌∷◌, ◌++◌, sym, ap, ◌∙◌, subst, arith}
use Rattle.std.specs.Prelude.{All, Contains}
use Rattle.std.proofs.lemmas.List.Elements.{All-push, All-weaker, Contains-append_left, Contains-push}
use Rattle.atomic_table.specs.Seated.{TableId}
use Rattle.rank_board.specs.declared.board.Pulled.{Pulled}
use Rattle.rank_board.specs.declared.board.Pulled.TheVariants.{Rank, Unranked, Moved}
use Rattle.rank_board.specs.declared.pulls.Pull.{Pull}
use Rattle.rank_board.specs.Words.{word_at, rank_word}
use Rattle.rank_board.specs.Pulls.{IsRead, pull_of}
use Rattle.rank_board.specs.Models.{SeatModel, saw_word}

-- pulls stand in the looks also after one more look
pub still_read : (pulls : List Pull) (looks looks' : List (ℕ × ℕ)) (look : ℕ × ℕ) → looks' ≡ looks ++ look ∷ [] → All (IsRead looks) pulls → All (IsRead looks') pulls
still_read pulls looks looks' look e all = subst (λ (l : List (ℕ × ℕ)). All (IsRead l) pulls) (sym e) (All-weaker (IsRead looks) (IsRead (looks ++ look ∷ []))
    (λ p is. ⊎_elim (λ (t : (p.version ≡ 0) × (p.rank ≡ 0)). inl t)
    (λ (t : (0 < p.version) × (p.rank < 4294967296) × Contains looks (word_at p.version p.coflow, rank_word p.version p.rank)). inr
    (t.0, t.1, Contains-append_left looks (look ∷ []) _ t.2))
    is)
    pulls all)

abbrev pub front_of : Pulled → ℕ
front_of (Rank version rank) = 0
front_of (Unranked version) = 0
front_of (Moved front found) = front

abbrev pub found_of : Pulled → ℕ
found_of (Rank version rank) = 0
found_of (Unranked version) = 0
found_of (Moved front found) = found

-- a seat that loaded a word of a version, and keeps no pull
pub saw_it : (t t' : TableId) (n n' seen : ℕ) (pulls : List Pull) (looks looks' : List (ℕ × ℕ)) (place coflow word : ℕ) → t' ≡ t → n' ≡ n → 0 < seen → looks' ≡ looks ++
    (place, word) ∷ []
    → place ≡ word_at seen coflow
    → ◌≡◌ {A = SeatModel} (record { table = t'; id = n'; seen = seen; pulls = pulls; looks = looks' })
    (saw_word seen coflow word (record { table = t; id = n; seen = seen; pulls = pulls; looks = looks }))
saw_it t t' n n' seen pulls looks looks' place coflow word same one pos e at =
    let s : SeatModel = record { table = t; id = n; seen = seen; pulls = pulls; looks = looks } in
    let after : SeatModel = record { table = t; id = n; seen = seen; pulls = pulls; looks = looks ++ (word_at seen coflow, word) ∷ [] } in
    let l : looks' ≡ looks ++ (word_at seen coflow, word) ∷ [] = e ∙ ap (λ (p : ℕ). looks ++ (p, word) ∷ []) at in
    (λ i. record { table = same i; id = one i; seen = seen; pulls = pulls; looks = l i }) ∙ sym (ap (λ b. cond b s after) (ne_eqb seen 0 (λ z. omega arith)))

-- one more pull stands in the looks where its word was loaded
pub read_kept : (looks looks' : List (ℕ × ℕ)) (pulls pulls' : List Pull) (place word version coflow rank mark : ℕ) → looks' ≡ looks ++ (place, word) ∷ [] →
    place ≡ word_at version coflow
    → 0 < version → version ≡ word / 4294967296 → rank ≡ word % 4294967296 → pulls' ≡ pulls ++ pull_of version coflow rank mark ∷ [] → All (IsRead looks) pulls →
    All (IsRead looks') pulls'
read_kept looks looks' pulls pulls' place word version coflow rank mark e at pos v r f all =
    let p : Pull = pull_of version coflow rank mark in
    let w : word ≡ rank_word version rank = omega arith in
    let same : looks' ≡ looks ++ (word_at version coflow, rank_word version rank) ∷ [] = e ∙ (λ i. looks ++ (at i, w i) ∷ []) in
    let is : IsRead looks' p = inr (
      pos,
      omega arith,
      subst (λ (l : List (ℕ × ℕ)). Contains l (word_at version coflow, rank_word version rank)) (sym same)
          (Contains-push looks (word_at version coflow, rank_word version rank)),
    ) in
    subst (λ (l : List Pull). All (IsRead looks') l) (sym f) (All-push (IsRead looks') pulls p (still_read pulls looks looks' (place, word) e all) is)

-- and where nothing was published
pub none_kept : (looks : List (ℕ × ℕ)) (pulls pulls' : List Pull) (version coflow rank mark : ℕ) → version ≡ 0 → rank ≡ 0 →
    pulls' ≡ pulls ++ pull_of version coflow rank mark ∷ [] → All (IsRead looks) pulls → All (IsRead looks) pulls'
none_kept looks pulls pulls' version coflow rank mark v r f all =
    subst (λ (l : List Pull). All (IsRead looks) l) (sym f) (All-push (IsRead looks) pulls (pull_of version coflow rank mark) all (inl (v, r)))
