-- A new board keeps the rule.
use Rattle.std.proofs.Common.{◌≡◌, ◌≢◌, ℕ, zero, suc, ◌+◌, List, [], ◌∷◌, length, sym, refl, subst, arith}
use Rattle.std.specs.Prelude.{slice_index}
use Rattle.std.proofs.lemmas.List.Elements.{All-nil}
use mathlib.Core.Option.{some, some-injective, some-ne-none}
use lib.ListN.{get_elem?}
use Rattle.atomic_table.specs.Table.{opening}
use Rattle.coflow_units.specs.PortWord.PortStage.{unposted}
use Rattle.port_board.specs.declared.view.View.{View}
use Rattle.port_board.specs.declared.view.Came.{Came}
use Rattle.port_board.specs.declared.view.Kind.TheVariants.{Poster}
use Rattle.port_board.specs.Rule.{Posted, Knows, PosterOk, IsNumber}
use Rattle.port_board.specs.Rule.{Seated, Kept, first_poster}
use Rattle.coflow_units.proofs.PortWords.{IsUnposted}
use Rattle.port_board.proofs.Seats.{none_pairs, blank_knows}

module _ (n : ℕ) where
  -- a new board
  pub starts : (words : List ℕ) → length words ≡ n + n → ((i : ℕ) → slice_index words i ≡ 0) → Kept n (opening words [] first_poster)
  starts words long zeros = record {
    slot = λ _. 0;
    cargo = λ _ _. (0, 0);
    stage = λ _ _. unposted;
    who = λ _. 0;
    made = 0;
    returned = 0;
    wide = long;
    each_port = λ p _. record {
      word_is = zeros p;
      fits = (omega arith, omega arith);
      lengths = λ k posted. absurd (posted refl);
      later = λ k _. refl;
      granted_last = λ k e. absurd (subst IsUnposted e tt);
      drawn_last = λ k j e. absurd (subst IsUnposted e tt);
      count_is = λ e. absurd (subst IsUnposted e tt);
    };
    beyond = λ _ _ _. refl;
    seated = refl;
    each_seat = λ j v e. subst (Knows (λ _ _. (0, 0)) (λ _ _. unposted) n words (λ _. 0)) (first_is j v e)
        (blank_knows (λ _ _. (0, 0)) (λ _ _. unposted) n words (λ _. 0) Poster [] (All-nil (Posted (λ _ _. (0, 0)) (λ _ _. unposted))));
    each_sits = λ j v e. subst (λ (z : View). Seated (λ _. 0) 0 0 j z z.kind) (first_is j v e)
        (sym (first_at j v e), refl, refl, All-nil (IsNumber (λ _. 0) 0 j), none_pairs (λ (c d : Came). c.number ≢ d.number));
    posting = λ j v e _. subst (PosterOk (λ _ _. (0, 0)) (λ _ _. unposted) n words (λ _. 0)) (first_is j v e) record {
      slot_is = λ _. refl;
      each_post = λ _ _ posted. absurd (posted refl);
      taken = λ _ _ e. absurd (subst IsUnposted e tt);
      count = λ _ _ _ e. absurd (subst IsUnposted e tt);
      stepping = tt;
    };
    drawn_there = λ _ _ _ e. absurd (subst IsUnposted e tt);
    reported_there = λ _ _ _ _ e. absurd (subst IsUnposted e tt);
  }
    where
      first_is : (j : ℕ) (v : View) → get_elem? (first_poster ∷ []) j ≡ some v → first_poster ≡ v
      first_is zero v e = some-injective first_poster v e
      first_is (suc j) v e = absurd (some-ne-none v (sym e))

      first_at : (j : ℕ) (v : View) → get_elem? (first_poster ∷ []) j ≡ some v → j ≡ 0
      first_at zero v e = refl
      first_at (suc j) v e = absurd (some-ne-none v (sym e))
