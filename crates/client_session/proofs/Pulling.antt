-- What a pull makes of what a session keeps.
use Rattle.std.proofs.Common.{◌≡◌, ℕ, ◌<◌, ◌≤◌, ◌⊎◌, inl, inr, ⊎_elim, Bool, true, false, cond, List, [], ◌∷◌, ◌++◌, length, refl, sym, ap, ◌∙◌, subst, arith}
use Rattle.std.specs.Prelude.{All, ◌==◌}
use Rattle.std.proofs.lemmas.List.Elements.{All-push}
use Rattle.rank_board.specs.declared.board.Pulled.{Pulled}
use Rattle.rank_board.specs.declared.board.Pulled.TheVariants.{Rank, Unranked, Moved}
use Rattle.rank_board.specs.declared.pulls.Pull.{Pull}
use Rattle.rank_board.specs.Models.{FoundAnother, looked, pulled, saw_front, saw_word, SeatModel}
use Rattle.rank_board.specs.Pulls.{pull_of}
use Rattle.rank_board.specs.Words.{rank_word, word_at}
use Rattle.client_session.specs.Own.{IsPass, OwnEntry}
use Rattle.client_session.proofs.Passes.{pass_later, pass_noted}

saw_pulls : (version coflow word : ℕ) (seat : SeatModel) → (saw_word version coflow word seat).pulls ≡ seat.pulls
saw_pulls version coflow word seat = go (version == 0)
  where
    go : (b : Bool) → (cond b seat (looked (word_at version coflow) word seat)).pulls ≡ seat.pulls
    go true = refl
    go false = refl

saw_seen : (version coflow word : ℕ) (seat : SeatModel) → (saw_word version coflow word seat).seen ≡ seat.seen
saw_seen version coflow word seat = go (version == 0)
  where
    go : (b : Bool) → (cond b seat (looked (word_at version coflow) word seat)).seen ≡ seat.seen
    go true = refl
    go false = refl

-- nothing is noted, or a pull of the coflow in the version that is seen then
abbrev pub NotesOne : ℕ → ℕ → SeatModel → SeatModel → Type 0
NotesOne coflow mark old new = (new.pulls ≡ old.pulls) ⊎
    ((version rank : ℕ) × (new.pulls ≡ old.pulls ++ pull_of version coflow rank mark ∷ []) × (new.seen ≡ version))

pulled_notes : (version coflow rank mark : ℕ) (old new : SeatModel) → new ≡ pulled version coflow rank mark old → NotesOne coflow mark old new
pulled_notes version coflow rank mark old new is = inr (
  version,
  rank,
  ap (λ (x : SeatModel). x.pulls) is ∙ ap (λ l. l ++ pull_of version coflow rank mark ∷ []) (saw_pulls version coflow (rank_word version rank) (saw_front version old)),
  ap (λ (x : SeatModel). x.seen) is ∙ saw_seen version coflow (rank_word version rank) (saw_front version old),
)

pub notes_one : (coflow mark : ℕ) (old new : SeatModel) (result : Pulled) →
    ((version rank : ℕ) → result ≡ Rank version rank → new ≡ pulled version coflow rank mark old) →
    ((version : ℕ) → result ≡ Unranked version → new ≡ pulled version coflow 0 mark old) →
    ((front found : ℕ) → result ≡ Moved front found → FoundAnother front coflow found (saw_front front old) new) → NotesOne coflow mark old new
notes_one coflow mark old new (Rank version rank) ranks unranks moves = pulled_notes version coflow rank mark old new (ranks version rank refl)
notes_one coflow mark old new (Unranked version) ranks unranks moves = pulled_notes version coflow 0 mark old new (unranks version refl)
notes_one coflow mark old new (Moved front found) ranks unranks moves =
    let another = moves front found refl in
    inl (ap (λ (x : SeatModel). x.pulls) another.2 ∙ saw_pulls front coflow (rank_word found another.0) (saw_front front old))

pub pass_pulled : (own : List OwnEntry) (coflow mark : ℕ) (old new : SeatModel) → mark ≡ length own → old.seen ≤ new.seen → NotesOne coflow mark old new →
    IsPass own old.pulls old.seen →
    IsPass own new.pulls new.seen
pass_pulled own coflow mark old new marked later notes pass = ⊎_elim
    (λ (same : new.pulls ≡ old.pulls). subst (λ ps. IsPass own ps new.seen) (sym same) (pass_later own old.pulls old.seen new.seen later pass))
    (λ (more : (version rank : ℕ) × (new.pulls ≡ old.pulls ++ pull_of version coflow rank mark ∷ []) × (new.seen ≡ version)).
    let at_own : new.pulls ≡ old.pulls ++ pull_of more.0 coflow more.1 (length own) ∷ [] = more.2 ∙ ap (λ m. old.pulls ++ pull_of more.0 coflow more.1 m ∷ []) marked in
    let le : old.seen ≤ more.0 = omega (arith, later, more.3) in
    subst (λ ps. IsPass own ps new.seen) (sym at_own)
    (subst (λ v. IsPass own (old.pulls ++ pull_of more.0 coflow more.1 (length own) ∷ []) v) (sym more.3) (pass_noted own old.pulls old.seen more.0 coflow more.1 le pass)))
    notes

pub coflows_pulled : (n coflow mark : ℕ) (old new : SeatModel) → coflow < n → NotesOne coflow mark old new → All (λ (p : Pull). p.coflow < n) old.pulls →
    All (λ (p : Pull). p.coflow < n) new.pulls
coflows_pulled n coflow mark old new lt notes all = ⊎_elim
    (λ (same : new.pulls ≡ old.pulls). subst (All (λ (p : Pull). p.coflow < n)) (sym same) all)
    (λ (more : (version rank : ℕ) × (new.pulls ≡ old.pulls ++ pull_of version coflow rank mark ∷ []) × (new.seen ≡ version)).
    subst (All (λ (p : Pull). p.coflow < n)) (sym more.2) (All-push (λ (p : Pull). p.coflow < n) old.pulls (pull_of more.0 coflow more.1 mark) all lt))
    notes
