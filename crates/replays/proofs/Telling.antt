-- What is kept tells the next moment.
use Rattle.std.proofs.Common.{◌≡◌, ℕ, ◌+◌, ◌<◌, ◌≤◌, inl, inr, Bool, true, false, cond, List, [], ◌∷◌, ◌++◌, length, replicate}
use Rattle.std.proofs.Common.{refl, sym, ap, subst, ◌∙◌, arith, length-append, append-nil, append_assoc, zero, suc}
use Rattle.std.specs.Prelude.{◌==◌, ◌&&◌, if◌then◌else◌, not, slice_index, slice_set}
use Rattle.std.specs.List.{range_with_len}
use Rattle.std.proofs.lemmas.Bool.{both_ways, cases_Bool, cases_eq}
use Rattle.std.proofs.lemmas.List.{ext_get_or}
use Rattle.std.proofs.lemmas.List.FromFn.{get_or-map-range_with_len, length-map-range_with_len}
use Rattle.coflow_units.specs.declared.fabric.Flow.{Flow}
use Rattle.coflow_units.specs.Completion.{completion, holds_coflow, last_where}
use Rattle.coflow_units.specs.Flows.{coflow_of}
use Rattle.coflow_units.specs.Served.{left_after}
use Rattle.coflow_units.proofs.Sums.{sum_same}
use Rattle.epochs.specs.Course.{is_marked}
use Rattle.matching.specs.Matching.{ports_of, room_of}
use Rattle.schedule_model.proofs.LastSlots.{last_push}
use Rattle.replays.specs.declared.line.Line.{Line}
use Rattle.replays.specs.declared.progress.Progress.{Progress}
use Rattle.replays.specs.Kept.{Holds, TellsLine, TellsProgress}
use Rattle.replays.specs.Moments.{Input, Moment, is_here, joined_at, left_the_line, owed_at, owes}
use Rattle.replays.proofs.Marks.{is_now, others_stay}

-- ---- what coflows owe

-- in moments with the same slots
pub same_progress : (x : Input) (m next : Moment) (p : Progress) → next.slots ≡ m.slots → TellsProgress x m p → TellsProgress x next p
same_progress x m next p e t = record {
  time_is = t.time_is ∙ ap (λ (s : List (List ℕ)). length s) (sym e);
  left_is = λ f. t.left_is f ∙ ap (λ s. left_after x.table.flows s f) (sym e);
  tallied = t.tallied;
  ends_are = λ c lt. t.ends_are c lt ∙ ap (λ s. completion x.table.flows s c) (sym e);
}

pub owes_is : (x : Input) (m : Moment) (p : Progress) (c : ℕ) → TellsProgress x m p → c < length p.owed.items → slice_index p.owed.items c ≡ owes x m c
owes_is x m p c t lt =
    let flows = x.table.flows in
    t.tallied.each_coflow c lt ∙
    sum_same (λ f. if coflow_of flows f == c then slice_index p.left.items f else 0) (λ f. if coflow_of flows f == c then left_after flows m.slots f else 0)
    (range_with_len 0 (length flows)) (λ f has. ap {B = ℕ} (λ n. if coflow_of flows f == c then n else 0) (t.left_is f))

-- the list of what each coflow owes
pub owed_are : (x : Input) (m : Moment) (p : Progress) → TellsProgress x m p → length p.owed.items ≡ length x.table.ids → p.owed.items ≡ owed_at x m
owed_are x m p t count =
    ext_get_or 0 p.owed.items (owed_at x m) (count ∙ sym (length-map-range_with_len (owes x m) 0 (length x.table.ids)))
    (λ c lt. owes_is x m p c t lt ∙ sym (get_or-map-range_with_len (owes x m) 0 (length x.table.ids) c c 0 (omega (arith, lt, count)) (omega arith)))

-- ---- who is present

pub here_joined : (x : Input) (m : Moment) (present : List Bool) (coflow : ℕ) → Holds x m → coflow < length m.course.registered → coflow < length present →
    is_marked m.course.registered coflow ≡ false → ((c : ℕ) → is_marked present c ≡ is_here m c) →
    (c : ℕ) → is_marked (slice_set present coflow true) c ≡ is_here (joined_at m coflow) c
here_joined x m present coflow h low low' none are c = elim (cases_eq c coflow) [
  | inl same ↦
      let stays : is_marked m.course.withdrawn coflow ≡ false = elim (cases_Bool (is_marked m.course.withdrawn coflow)) [
        | inl away ↦ absurd (both_ways (is_marked m.course.registered coflow) none (h.gone coflow away))
        | inr here ↦ here
      ] in
      ap (is_marked (slice_set present coflow true)) same ∙ is_now present coflow true low' ∙
      sym (ap (is_here (joined_at m coflow)) same ∙ ap (λ b. b && not (is_marked m.course.withdrawn coflow)) (is_now m.course.registered coflow true low) ∙
      ap (λ b. true && not b) stays)
  | inr other ↦ others_stay present coflow c true other ∙ are c ∙ ap (λ b. b && not (is_marked m.course.withdrawn c)) (sym (others_stay m.course.registered coflow c true other))
]

and_not : (b : Bool) → (b && not true) ≡ false
and_not true = refl
and_not false = refl

pub here_left : (m : Moment) (present : List Bool) (coflow : ℕ) → coflow < length m.course.withdrawn → coflow < length present → ((c : ℕ) → is_marked present c ≡ is_here m c) →
    (c : ℕ) → is_marked (slice_set present coflow false) c ≡ is_here (left_the_line m coflow) c
here_left m present coflow low low' are c = elim (cases_eq c coflow) [
  | inl same ↦
      ap (is_marked (slice_set present coflow false)) same ∙ is_now present coflow false low' ∙
      sym (ap (is_here (left_the_line m coflow)) same ∙ ap (λ b. is_marked m.course.registered coflow && not b) (is_now m.course.withdrawn coflow true low) ∙
      and_not (is_marked m.course.registered coflow))
  | inr other ↦ others_stay present coflow c false other ∙ are c ∙ ap (λ b. is_marked m.course.registered c && not b) (sym (others_stay m.course.withdrawn coflow c true other))
]

-- ---- the line

-- a line that changed
pub stale_line : (x : Input) (m next : Moment) (old new : Line) → TellsLine x m old → new.coflows.items ≡ next.line → new.stale ≡ true → new.grants ≡ old.grants →
    TellsLine x next new
stale_line x m next old new t line stale grants = record {
  coflows_are = line;
  ports = ap ports_of grants ∙ t.ports;
  room = subst (λ g. length x.table.flows ≤ room_of g) (sym grants) t.room;
  settled = λ fresh. absurd (both_ways new.stale fresh stale);
}

-- ---- the last slots of coflows

run_step : {X : Type 0} (xs : List X) (x : X) (n : ℕ) → xs ++ replicate (suc n) x ≡ (xs ++ x ∷ []) ++ replicate n x
run_step xs x n = sym (append_assoc xs (x ∷ []) (replicate n x))

last_not : {X : Type 0} (p : X → Bool) (xs : List X) (x : X) (n : ℕ) → p x ≡ false → last_where p (xs ++ replicate n x) ≡ last_where p xs
last_not p xs x zero e = ap (last_where p) (append-nil xs)
last_not {X} p xs x (suc n) e =
    ap (last_where p) (run_step xs x n) ∙ last_not p (xs ++ x ∷ []) x n e ∙ last_push p xs x ∙ ap {B = ℕ} (λ b. if b then length xs + 1 else last_where p xs) e

last_yes : {X : Type 0} (p : X → Bool) (xs : List X) (x : X) (n : ℕ) → p x ≡ true → last_where p (xs ++ replicate (suc n) x) ≡ length xs + suc n
last_yes p xs x zero e = last_push p xs x ∙ ap {B = ℕ} (λ b. if b then length xs + 1 else last_where p xs) e
last_yes p xs x (suc n) e =
    ap (last_where p) (run_step xs x (suc n)) ∙ last_yes p (xs ++ x ∷ []) x n e ∙ omega (arith, length-append xs (x ∷ []))

last_run : {X : Type 0} (p : X → Bool) (xs : List X) (x : X) (n : ℕ) (b : Bool) → p x ≡ b → 1 ≤ n → last_where p (xs ++ replicate n x) ≡ cond b (length xs + n) (last_where p xs)
last_run p xs x zero b e some = absurd (omega arith)
last_run p xs x (suc n) true e some = last_yes p xs x n e
last_run p xs x (suc n) false e some = last_not p xs x (suc n) e

-- the completion with one run more
pub completion_on : (flows : List Flow) (slots : List (List ℕ)) (granted : List ℕ) (n c : ℕ) → 1 ≤ n →
    completion flows (slots ++ replicate n granted) c ≡ (if holds_coflow flows granted c then length slots + n else completion flows slots c)
completion_on flows slots granted n c some = last_run (λ (slot : List ℕ). holds_coflow flows slot c) slots granted n (holds_coflow flows granted c) refl some
