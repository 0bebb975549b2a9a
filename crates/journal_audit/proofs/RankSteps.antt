-- Tables of ranks, place by place and version by version.
use Rattle.std.proofs.Common.{◌≡◌, ◌==◌, ℕ, ◌+◌, ◌<◌, inl, inr, Bool, true, false, cond, List, [], ◌∷◌, ◌++◌, length, take, nat_eq, refl, sym, ap, ◌∙◌, arith}
use Rattle.std.specs.Prelude.{None, Option, Some, if◌then◌else◌, option_map, slice_index, unwrap_or}
use Rattle.std.specs.List.{position_or_len}
use Rattle.std.proofs.lemmas.Bool.{cases_Bool, cases_lt, eqb-true}
use Rattle.std.proofs.lemmas.List.{get_or_append_left, get_or_push, length-append}
use Rattle.std.proofs.lemmas.List.Sums.{passes_at_first}
use Rattle.coflow_units.specs.Grants.{place_in}
use Rattle.coflow_units.proofs.LinePlaces.{place_of_member}
use Rattle.coflow_units.proofs.Sums.{any_has, any_in}
use Rattle.cert_check.proofs.IdSteps.{found, found_at, found_more, found_not}
use Rattle.journal.specs.declared.command.Entry.{Entry}
use Rattle.journal.specs.declared.opening.Opening.{Opening}
use Rattle.journal.specs.State.{has}
use Rattle.journal.specs.Journal.{is_version, rank_of, version_of}
use Rattle.journal.proofs.Growth.{rank_kept}
use Rattle.journal.specs.Line.{rank_in}
use Rattle.journal_audit.specs.Ranks.{AreRanks, told}
use Rattle.journal_audit.proofs.EntriesAnew.{one_more}

-- the rank of a coflow, where it has a place
abbrev pub found_rank : List ℕ → ℕ → Option ℕ
found_rank xs coflow = option_map (λ n. n + 1) (found xs coflow)

pub told_rank : (xs : List ℕ) (coflow : ℕ) → told (found_rank xs coflow) ≡ rank_in xs coflow
told_rank xs coflow = elim (cases_lt (position_or_len (λ x. x == coflow) xs) (length xs)) [
  | inl lt ↦
      let at = found_at xs coflow lt in
      let place : place_in xs coflow ≡ position_or_len (λ x. x == coflow) xs = ap (λ (o : Option ℕ). unwrap_or o (length xs)) at in
      let here = any_in xs coflow (position_or_len (λ x. x == coflow) xs, lt, eqb-true _ coflow (passes_at_first (λ x. x == coflow) xs coflow lt)) in
      ap (λ (o : Option ℕ). told (option_map (λ n. n + 1) o)) at
      ∙ sym (ap (λ (b : Bool). if b then place_in xs coflow + 1 else 0) here ∙ ap (λ n. n + 1) place)
  | inr le ↦
      let none = found_not xs coflow le in
      let past : place_in xs coflow ≡ length xs = ap (λ (o : Option ℕ). unwrap_or o (length xs)) none in
      elim (cases_Bool (has xs coflow)) [
        | inl there ↦ absurd (omega (arith, past, place_of_member xs coflow (any_has xs coflow there)))
        | inr absent ↦ ap (λ (o : Option ℕ). told (option_map (λ n. n + 1) o)) none ∙ sym (ap (λ (b : Bool). if b then place_in xs coflow + 1 else 0) absent)
      ]
]

counted : (o : Option ℕ) (k : ℕ) → option_map (λ n. n + 1) (Some (unwrap_or o k)) ≡ Some (unwrap_or (option_map (λ n. n + 1) o) (k + 1))
counted None k = refl
counted (Some n) k = refl

-- one place more
pub rank_more : (xs : List ℕ) (k coflow : ℕ) → k < length xs →
    found_rank (take (k + 1) xs) coflow ≡
    cond (nat_eq (slice_index xs k) coflow) (Some (unwrap_or (found_rank (take k xs) (slice_index xs k)) (k + 1))) (found_rank (take k xs) coflow)
rank_more xs k coflow lt = ap (option_map (λ n. n + 1)) (found_more xs k coflow lt) ∙ both (nat_eq (slice_index xs k) coflow)
  where
    both : (b : Bool) → option_map (λ n. n + 1) (cond b (Some (unwrap_or (found (take k xs) (slice_index xs k)) k)) (found (take k xs) coflow)) ≡
        cond b (Some (unwrap_or (found_rank (take k xs) (slice_index xs k)) (k + 1))) (found_rank (take k xs) coflow)
    both true = counted (found (take k xs) (slice_index xs k)) k
    both false = refl

-- ---- version by version

module _ {M : Type 0} (find : M → ℕ → Option ℕ) (o : Opening) (before : List Entry) (e : Entry) where
  pub ranks_stay : (ts : List M) → is_version e.reply ≡ false → AreRanks find o before ts → AreRanks find o (before ++ e ∷ []) ts
  ranks_stay ts none (count, tells) =
      let same : version_of (before ++ e ∷ []) ≡ version_of before + 0 = one_more before e false none in (
        omega (arith, count, same),
        λ k coflow d lt. tells k coflow d (omega (arith, lt, same)) ∙ sym (rank_kept o before (e ∷ []) (k + 1) coflow (omega (arith, lt, same))),
      )

  pub ranks_push : (ts : List M) (t : M) → is_version e.reply ≡ true → AreRanks find o before ts →
      ((coflow : ℕ) → told (find t coflow) ≡ rank_of o (before ++ e ∷ []) (version_of (before ++ e ∷ [])) coflow) → AreRanks find o (before ++ e ∷ []) (ts ++ t ∷ [])
  ranks_push ts t made (count, tells) newest =
      let more : version_of (before ++ e ∷ []) ≡ version_of before + 1 = one_more before e true made in (
        omega (arith, count, more, length-append ts (t ∷ [])),
        λ k coflow d lt. elim (cases_lt k (version_of before)) [
          | inl less ↦
              ap (λ x. told (find x coflow)) (get_or_append_left ts (t ∷ []) d k (omega (arith, less, count)))
              ∙ tells k coflow d less ∙ sym (rank_kept o before (e ∷ []) (k + 1) coflow (omega (arith, less)))
          | inr le ↦
              let last : length ts ≡ k = omega (arith, lt, le, more, count) in
              let version : version_of (before ++ e ∷ []) ≡ k + 1 = omega (arith, lt, le, more) in
              ap (λ x. told (find x coflow)) (get_or_push ts t d k last) ∙ newest coflow ∙ ap (λ v. rank_of o (before ++ e ∷ []) v coflow) version
        ],
      )
