-- One more granted flow is credited.
use Rattle.std.proofs.Common.{◌≡◌, ℕ, ◌+◌, ◌-◌, ◌<◌, ◌≤◌, inl, inr, Bool, true, false, List, [], ◌∷◌, length, take, get_or, Option, refl, sym, ap, ◌∙◌, arith, length-take}
use Rattle.std.specs.Prelude.{◌==◌, ◌||◌, if◌then◌else◌, slice_set, unwrap_or}
use Rattle.std.specs.List.Sorted.{IsStrictlyIncreasing}
use Rattle.std.proofs.lemmas.Bool.{cases_eq, eq-eqb, ne_eqb}
use Rattle.std.proofs.lemmas.List.{get_or-set_other, get_or-set_same, get_or-take, get_or_default, take_more}
use Rattle.std.proofs.lemmas.List.Folds.{list_any-append}
use Rattle.std.proofs.lemmas.List.Kept.{AllPairs-from_increasing}
use Rattle.coflow_units.specs.declared.fabric.Flow.{Flow}
use Rattle.coflow_units.specs.Flows.{ingress_of}
use Rattle.coflow_units.proofs.Bools.{or_not}
use Rattle.coflow_units.proofs.Sums.{any_not}
use Rattle.journal.specs.State.{has}
use Rattle.master_core.specs.OpenRun.{credit_of, note_at}

not_yet : (granted : List ℕ) (k g : ℕ) → IsStrictlyIncreasing granted → k < length granted → get_or granted k 0 ≡ g → has (take k granted) g ≡ false
not_yet granted k g up lt is = any_not (take k granted) g (λ in'.
    let j = in'.0 in
    let low : j < k = omega (arith, in'.1, length-take k granted) in
    omega (arith, AllPairs-from_increasing granted up j k g low lt, get_or-take k granted j g low, in'.2, get_or_default granted k g 0 lt, is))

has_more : (granted : List ℕ) (k g f : ℕ) → k < length granted → get_or granted k 0 ≡ g → has (take (k + 1) granted) f ≡ (has (take k granted) f || (g == f))
has_more granted k g f lt is =
    ap (λ l. has l f) (take_more granted k 0 lt) ∙ list_any-append (λ (y : ℕ). y == f) (take k granted) (get_or granted k 0 ∷ [])
    ∙ ap (λ b. has (take k granted) f || b) (or_not (get_or granted k 0 == f) false refl ∙ ap (λ y. y == f) is)

not_credited : (flows : List Flow) (granted : List ℕ) (noted : List (Option ℕ)) (slots k g : ℕ) → IsStrictlyIncreasing granted → k < length granted → get_or granted k 0 ≡ g →
    credit_of flows (take k granted) noted slots g ≡ 0
not_credited flows granted noted slots k g up lt is = ap (λ (b : Bool). if b then unwrap_or (note_at noted (ingress_of flows g)) slots else 0) (not_yet granted k g up lt is)

-- the number that is credited is at most what the flow still owes
pub credit_fits : (flows : List Flow) (before owed granted : List ℕ) (noted : List (Option ℕ)) (slots k g n : ℕ) → IsStrictlyIncreasing granted → k < length granted →
    get_or granted k 0 ≡ g → n ≡ unwrap_or (note_at noted (ingress_of flows g)) slots →
    unwrap_or (note_at noted (ingress_of flows g)) slots ≤ slots → slots ≤ get_or before g 0 →
    ((f : ℕ) → get_or owed f 0 + credit_of flows (take k granted) noted slots f ≡ get_or before f 0) → n ≤ get_or owed g 0
credit_fits flows before owed granted noted slots k g n up lt is note low enough so_far =
    omega (arith, note, low, enough, so_far g, not_credited flows granted noted slots k g up lt is)

pub credited_more : (flows : List Flow) (before owed granted : List ℕ) (noted : List (Option ℕ)) (slots k g n : ℕ) → IsStrictlyIncreasing granted → k < length granted →
    get_or granted k 0 ≡ g → g < length owed →
    n ≡ unwrap_or (note_at noted (ingress_of flows g)) slots → n ≤ get_or owed g 0 →
    ((f : ℕ) → get_or owed f 0 + credit_of flows (take k granted) noted slots f ≡ get_or before f 0) →
    (f : ℕ) → get_or (slice_set owed g (get_or owed g 0 - n)) f 0 + credit_of flows (take (k + 1) granted) noted slots f ≡ get_or before f 0
credited_more flows before owed granted noted slots k g n up lt is in' note fits so_far f =
    let pay = λ (b : Bool) (x : ℕ). if b then unwrap_or (note_at noted (ingress_of flows x)) slots else 0 in
    let more = has_more granted k g f lt is in
    elim (cases_eq f g) [
      | inl e ↦
          let paid : credit_of flows (take (k + 1) granted) noted slots f ≡ n =
          ap (λ b. pay b f) (more ∙ ap (λ b. has (take k granted) f || b) (eq-eqb g f (sym e)) ∙ ap (λ x. has (take k granted) x || true) e ∙
          ap (λ b. b || true) (not_yet granted k g up lt is)) ∙ ap (pay true) e ∙ sym note in
          let left : get_or (slice_set owed g (get_or owed g 0 - n)) f 0 ≡ get_or owed g 0 - n = ap (λ x. get_or (slice_set owed g (get_or owed g 0 - n)) x 0) e ∙
          get_or-set_same owed g (get_or owed g 0 - n) 0 in' in
          let old : get_or owed g 0 ≡ get_or before f 0 = omega (arith, so_far g, not_credited flows granted noted slots k g up lt is, ap (λ x. get_or before x 0) e) in
          omega (arith, paid, left, old, fits)
      | inr ne ↦
          let same : credit_of flows (take (k + 1) granted) noted slots f ≡ credit_of flows (take k granted) noted slots f =
          ap (λ b. pay b f) (more ∙ ap (λ b. has (take k granted) f || b) (ne_eqb g f (λ e. ne (sym e))) ∙ or_not (has (take k granted) f) false refl) in
          ap (λ x. x + credit_of flows (take (k + 1) granted) noted slots f) (get_or-set_other owed g f (get_or owed g 0 - n) 0 ne) ∙ ap (λ x. get_or owed f 0 + x) same ∙ so_far f
    ]
