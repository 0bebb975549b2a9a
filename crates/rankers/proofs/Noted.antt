-- What a ranker is told of a schedule.
use Rattle.std.proofs.Common.{◌≡◌, ℕ, ◌<◌, List, [], ◌∷◌, get_or, Contains, refl, ap, ◌∙◌, arith}
use Rattle.std.specs.Prelude.{map}
use Rattle.std.specs.List.{range_with_len}
use Rattle.std.proofs.lemmas.List.{get_or-map}
use Rattle.std.proofs.lemmas.List.FromFn.{get_or-range_with_len, length-range_with_len}
use Rattle.coflow_units.specs.declared.fabric.Flow.{Flow}
use Rattle.coflow_units.specs.Completion.{completion}
use Rattle.coflow_units.proofs.Sums.{in_first, in_tail}
use Rattle.rankers.specs.ByKey.{by_key, key_in}
use Rattle.rankers.specs.Meaning.{Meaning, after_note, after_notes}
use Rattle.rankers.specs.Rounds.{after_completions}
use Rattle.rankers.proofs.KeyOrders.{by_key_low, keys_agree}

pub ends_agree : (m : Meaning) (end other : ℕ → ℕ) (cs : List ℕ) → ((c : ℕ) → Contains cs c → end c ≡ other c) → after_notes m end cs ≡ after_notes m other cs
ends_agree m end other [] same = refl
ends_agree m end other (c ∷ cs) same =
    ap (λ n. after_notes (after_note m c n) end cs) (same c (in_first c cs)) ∙
    ends_agree (after_note m c (other c)) end other cs (λ d has. same d (in_tail c cs d has))

end_at : (end : ℕ → ℕ) (n : ℕ) (ends : List ℕ) → ends ≡ map end (range_with_len 0 n) → (c : ℕ) → c < n → key_in ends c ≡ end c
end_at end n ends is c lt =
    let at : get_or (range_with_len 0 n) c 0 ≡ c = omega (arith, get_or-range_with_len 0 n c 0 lt) in
    ap (λ xs. get_or xs c 0) is ∙ get_or-map end (range_with_len 0 n) c 0 0 (omega (arith, lt, length-range_with_len 0 n)) ∙ ap end at

pub told_completions : (flows : List Flow) (n : ℕ) (m : Meaning) (slots : List (List ℕ)) (ends order : List ℕ) →
    ends ≡ map (completion flows slots) (range_with_len 0 n) → order ≡ by_key (key_in ends) n →
    after_notes m (key_in ends) order ≡ after_completions flows n m slots
told_completions flows n m slots ends order is by =
    let at = end_at (completion flows slots) n ends is in
    ap (after_notes m (key_in ends)) (by ∙ keys_agree (key_in ends) (completion flows slots) n at) ∙
    ends_agree m (key_in ends) (completion flows slots) (by_key (completion flows slots) n) (λ c has. at c (by_key_low (completion flows slots) n c has))
