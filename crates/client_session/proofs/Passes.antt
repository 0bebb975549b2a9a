-- What a session keeps of its entries and noted pulls, as it gets more of either.
use Rattle.std.proofs.Common.{◌≡◌, ℕ, ◌≤◌, List, [], ◌∷◌, ◌++◌, length, get_or, drop, sym, ap, ◌∙◌, subst, arith, length-append, append_assoc}
use Rattle.std.specs.Prelude.{All}
use Rattle.std.proofs.lemmas.List.{take_all, drop_all, take-append-le, drop-append-le}
use Rattle.std.proofs.lemmas.List.Elements.{All-nil, All-push, All-weaker}
use Rattle.rank_board.specs.declared.pulls.Pull.{Pull}
use Rattle.rank_board.specs.Models.{SeatModel}
use Rattle.rank_board.specs.Pulls.{pull_of}
use Rattle.client_session.specs.Desk.{KeepsLooks}
use Rattle.client_session.specs.Own.{IsPass, OwnEntry, StandsBetween, version_before}

abbrev Upto : ℕ → OwnEntry → Type 0
Upto v e = e.version ≤ v

abbrev From : ℕ → OwnEntry → Type 0
From v e = v ≤ version_before e

-- nothing is kept at first
pub pass_first : (seen : ℕ) → IsPass [] [] seen
pass_first seen = record { own_seen = All-nil (Upto seen); notes_seen = All-nil (λ (p : Pull). p.version ≤ seen); between = All-nil (StandsBetween []) }

-- a later version is seen
pub pass_later : (own : List OwnEntry) (notes : List Pull) (seen later : ℕ) → seen ≤ later → IsPass own notes seen → IsPass own notes later
pass_later own notes seen later le h = record {
  own_seen = All-weaker (Upto seen) (Upto later) (λ e l. omega arith) own h.own_seen;
  notes_seen = All-weaker (λ (p : Pull). p.version ≤ seen) (λ (p : Pull). p.version ≤ later) (λ p l. omega arith) notes h.notes_seen;
  between = h.between;
}

between_more : (own : List OwnEntry) (e : OwnEntry) (p : Pull) → p.version ≤ version_before e → StandsBetween own p → StandsBetween (own ++ e ∷ []) p
between_more own e p le h =
    let m = h.mark in
    record {
      mark = omega (arith, length-append own (e ∷ []));
      before = subst (All (Upto p.version)) (sym (take-append-le p.mark own (e ∷ []) m)) h.before;
      after = subst (All (From p.version)) (sym (drop-append-le p.mark own (e ∷ []) m)) (All-push (From p.version) (drop p.mark own) e h.after le);
    }

-- one more entry, before which all that was seen stood
pub pass_more : (own : List OwnEntry) (notes : List Pull) (seen : ℕ) (e : OwnEntry) → seen ≤ version_before e → IsPass own notes seen → IsPass (own ++ e ∷ []) notes e.version
pass_more own notes seen e le h =
    let up : seen ≤ e.version = omega arith in
    record {
      own_seen = All-push (Upto e.version) own e (All-weaker (Upto seen) (Upto e.version) (λ x l. omega arith) own h.own_seen) (omega arith);
      notes_seen = All-weaker (λ (p : Pull). p.version ≤ seen) (λ (p : Pull). p.version ≤ e.version) (λ p l. omega arith) notes h.notes_seen;
      between = λ i p l. between_more own e (get_or notes i p) (let low = h.notes_seen i p l in omega arith) (h.between i p l);
    }

new_between : (own : List OwnEntry) (seen v c r : ℕ) → seen ≤ v → All (Upto seen) own → StandsBetween own (pull_of v c r (length own))
new_between own seen v c r le h = record {
  mark = omega arith;
  before = subst (All (Upto v)) (sym (take_all (length own) own (omega arith))) (All-weaker (Upto seen) (Upto v) (λ e l. omega arith) own h);
  after = subst (All (From v)) (sym (drop_all (length own) own (omega arith))) (All-nil (From v));
}

-- one more noted pull, behind all entries
pub pass_noted : (own : List OwnEntry) (notes : List Pull) (seen v c r : ℕ) → seen ≤ v → IsPass own notes seen → IsPass own (notes ++ pull_of v c r (length own) ∷ []) v
pass_noted own notes seen v c r le h =
    let l = pass_later own notes seen v le h in
    record {
      own_seen = l.own_seen;
      notes_seen = All-push (λ (p : Pull). p.version ≤ v) notes (pull_of v c r (length own)) l.notes_seen (omega arith);
      between = All-push (StandsBetween own) notes (pull_of v c r (length own)) h.between (new_between own seen v c r le h.own_seen);
    }

-- words that were loaded, and then more
pub keeps_more : (a b c : SeatModel) (more : List (ℕ × ℕ)) → KeepsLooks a b → c.looks ≡ b.looks ++ more → KeepsLooks a c
keeps_more a b c more first then = (first.0 ++ more, then ∙ (ap (λ l. l ++ more) first.1 ∙ append_assoc a.looks first.0 more))
