-- The open run with a note.
use Rattle.std.proofs.Common.{◌≡◌, ℕ, ◌≤◌, List, length, min, inl, inr, Option, Some, None, refl, sym, ap, subst, ◌∙◌, arith, unwrap_or}
use Rattle.std.specs.Prelude.{slice_set}
use Rattle.std.proofs.lemmas.Bool.{cases_eq, cases_lt}
use Rattle.std.proofs.lemmas.List.{get_or-set_other, get_or-set_same, length-set}
use Rattle.std.proofs.Math.ListN.{get_or-eq_default}
use Rattle.coflow_units.specs.declared.fabric.Flow.{Flow}
use Rattle.master_core.specs.OpenRun.{FitsOpen, KeptRun, granted_at, note_at, note_of, number_noted, with_note}

pub with_none : (x : Option KeptRun) (p : ℕ) → with_note x p None ≡ x
with_none None p = refl
with_none (Some x) p = refl

note_within : (slots units n : ℕ) (g : Option ℕ) → note_of slots units g ≡ Some n → n ≤ slots
note_within slots units n None e = absurd (cc)
note_within slots units n (Some f) e = let is : min units slots ≡ n = cc in omega (arith, is)

set_within : (noted : List (Option ℕ)) (slots p n q : ℕ) → n ≤ slots → unwrap_or (note_at noted q) slots ≤ slots → unwrap_or (note_at (slice_set noted p (Some n)) q) slots ≤ slots
set_within noted slots p n q le old = elim (cases_eq q p) [
  | inl e ↦ elim (cases_lt p (length noted)) [
    | inl lt ↦ subst (λ o. unwrap_or o slots ≤ slots) (sym (ap (note_at (slice_set noted p (Some n))) e ∙ get_or-set_same noted p (Some n) None lt)) le
    | inr ge ↦ subst (λ o. unwrap_or o slots ≤ slots) (sym (get_or-eq_default (slice_set noted p (Some n)) None {n = q} (omega (arith, length-set noted p (Some n), e, ge))))
        (omega arith)
  ]
  | inr ne ↦ subst (λ o. unwrap_or o slots ≤ slots) (sym (get_or-set_other noted p q (Some n) None ne)) old
]

pub fits_noted : (flows : List Flow) (owed : List ℕ) (x : Option KeptRun) (p units n : ℕ) → FitsOpen flows owed x → number_noted x p units ≡ Some n →
    FitsOpen flows owed (with_note x p (Some n))
fits_noted flows owed None p units n h e = h
fits_noted flows owed (Some x) p units n h e = record {
  ends = h.ends;
  ascending = h.ascending;
  flow = h.flow;
  each_owes = h.each_owes;
  notes = λ q. set_within x.noted x.slots p n q (note_within x.slots units n (granted_at x.tables p) e) (h.notes q);
  settled = h.settled;
}
