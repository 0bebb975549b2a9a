-- What holds of each view after a step of another, and what one view knows.
use Rattle.std.proofs.Common.{◌≡◌, ℕ, ◌≤◌, List, [], ◌∷◌, ◌++◌, length, sym, subst, ⊎_elim, arith, true}
use Rattle.std.proofs.lemmas.List.Elements.{All-weaker}
use mathlib.Core.Option.{some}
use lib.ListN.{get_elem?}
use Rattle.atomic_table.specs.Table.{State, Me}
use Rattle.rank_board.specs.declared.view.View.{View}
use Rattle.rank_board.specs.Banks.{WasWritten, Knows, Kept}
use Rattle.coflow_units.proofs.Elements.{at_end}

abbrev pub St : Type 0
St = State (Unit {0}) View

abbrev pub M : Type 0
M = Me (Unit {0}) View

-- the views before, and one more at the end
pub one_more_stays : (K : ℕ → View → Type 0) (vs : List View) (w : View) → K (length vs) w → ((j : ℕ) (d : View) → get_elem? vs j ≡ some d → K j d)
    → (j : ℕ) (d : View) → get_elem? (vs ++ w ∷ []) j ≡ some d → K j d
one_more_stays K vs w last others j d e = ⊎_elim (λ (t : get_elem? vs j ≡ some d). others j d t)
    (λ (t : (j ≡ length vs) × (w ≡ d)). subst (λ (x : ℕ × View). K x.0 x.1) (λ i. (sym t.0 i, t.1 i)) last) (at_end vs w d j e)

-- a view that may not publish knows as much of a later state, and of another writer
pub knows_more : (published more : List (List ℕ)) (next next' : List ℕ) (writer writer' place : ℕ) (v : View) → length published ≤ length more
    → ((look : ℕ × ℕ) → WasWritten published next look → WasWritten more next' look) → (v.publishes ≡ true → ⊥)
    → Knows published next writer place v → Knows more next' writer' place v
knows_more published more next next' writer writer' place v l stays not k =
    let below = k.seen in record {
      publishes = λ e. absurd (not e);
      seen = omega arith;
      looks = All-weaker (WasWritten published next) (WasWritten more next') stays v.looks k.looks;
    }

module _ (n : ℕ) where
  -- the same words under other views
  pub with_views : (s : St) (r : Kept n s) (writer : ℕ) (vs : List View) → ((j : ℕ) (v : View) → get_elem? vs j ≡ some v → Knows r.published r.next writer j v)
      → Kept n record { words = s.words; homes = s.homes; views = vs }
  with_views s r writer vs each = record {
    published = r.published;
    next = r.next;
    writer = writer;
    wide = r.wide;
    front_is = r.front_is;
    few = r.few;
    short = r.short;
    small = r.small;
    shown = r.shown;
    written = r.written;
    old = r.old;
    each_seat = each;
  }
