-- The open run of the fields that keep it, and what a closing leaves of the grants.
use Rattle.std.proofs.Common.{◌≡◌, ℕ, ◌+◌, true, false, List, length, get_or, min, Option, Some, None, refl, sym, ap, ◌∙◌, arith, unwrap_or, true≢false}
use Rattle.std.specs.Prelude.{MatchOption, if◌then◌else◌, is_some}
use Rattle.coflow_units.specs.declared.fabric.Flow.{Flow}
use Rattle.coflow_units.specs.Flows.{ingress_of}
use Rattle.journal.specs.State.{has}
use Rattle.matching.specs.declared.tables.Tables.{Tables}
use Rattle.matching.specs.Matching.{IsRunLess, listed_in}
use Rattle.master_core.specs.declared.runs.OpenRun.{OpenRun}
use Rattle.master_core.specs.KeptRuns.{KeepsCount, kept_run}
use Rattle.master_core.specs.OpenRun.{KeptRun, credit_of, granted_at, note_at, note_of, number_noted}

-- an open run with the grants that are kept
abbrev pub run_of : Tables → List (Option ℕ) → OpenRun → KeptRun
run_of m noted x = record { first = x.first; slots = x.slots; granted = listed_in m; tables = m; noted = noted }

pub run_is : (m : Tables) (noted : List (Option ℕ)) (z : Option OpenRun) (x : OpenRun) (v : Option KeptRun) → kept_run m noted z ≡ v → z ≡ Some x → v ≡ Some (run_of m noted x)
run_is m noted z x v is some = sym is ∙ ap (kept_run m noted) some

pub current_told : (m : Tables) (noted : List (Option ℕ)) (z : Option OpenRun) (v : Option KeptRun) → kept_run m noted z ≡ v → KeepsCount m z →
    MatchOption z (v ≡ None) (λ x. (r : KeptRun) × (v ≡ Some r) × (x.first ≡ r.first) × (x.slots ≡ r.slots) × (x.count ≡ length r.granted))
current_told m noted None v is count = sym is
current_told m noted (Some x) v is count = (run_of m noted x, sym is, refl, refl, count)

-- ---- a note

note_by : (slots units n : ℕ) (g : Option ℕ) → is_some g ≡ true → n ≡ min units slots → Some n ≡ note_of slots units g
note_by slots units n None e is = absurd (true≢false (sym e))
note_by slots units n (Some f) e is = ap Some is

no_note_by : (slots units : ℕ) (g : Option ℕ) → is_some g ≡ false → ◌≡◌ {A = Option ℕ} None (note_of slots units g)
no_note_by slots units None e = refl
no_note_by slots units (Some f) e = absurd (true≢false e)

pub some_noted : (m : Tables) (noted : List (Option ℕ)) (x : OpenRun) (v : Option KeptRun) (g : Option ℕ) (p units n : ℕ) → v ≡ Some (run_of m noted x) → g ≡ granted_at m p →
    is_some g ≡ true → n ≡ min units x.slots → Some n ≡ number_noted v p units
some_noted m noted x v g p units n run at some is =
    note_by x.slots units n g some is ∙ ap (note_of x.slots units) at ∙ sym (ap (λ (z : Option KeptRun). number_noted z p units) run)

pub none_noted_at : (m : Tables) (noted : List (Option ℕ)) (x : OpenRun) (v : Option KeptRun) (g : Option ℕ) (p units : ℕ) → v ≡ Some (run_of m noted x) → g ≡ granted_at m p →
    is_some g ≡ false → ◌≡◌ {A = Option ℕ} None (number_noted v p units)
none_noted_at m noted x v g p units run at none =
    no_note_by x.slots units g none ∙ ap (note_of x.slots units) at ∙ sym (ap (λ (z : Option KeptRun). number_noted z p units) run)

-- ---- what a closing credits

pub paid_along : (flows : List Flow) (new old g granted : List ℕ) (n noted : List (Option ℕ)) (slots : ℕ) → g ≡ granted → n ≡ noted →
    ((f : ℕ) → get_or new f 0 + credit_of flows g n slots f ≡ get_or old f 0) → (f : ℕ) → get_or new f 0 + credit_of flows granted noted slots f ≡ get_or old f 0
paid_along flows new old g granted n noted slots same notes paid f =
    ap (λ l. get_or new f 0 + credit_of flows l noted slots f) (sym same) ∙ ap (λ l. get_or new f 0 + credit_of flows g l slots f) (sym notes) ∙ paid f

-- where nothing was noted, each granted flow is credited with a unit for each slot
pub paid_equally : (flows : List Flow) (new old g granted : List ℕ) (noted : List (Option ℕ)) (slots : ℕ) → g ≡ granted → ((ingress : ℕ) → note_at noted ingress ≡ None) →
    ((f : ℕ) → get_or new f 0 + (if has g f then slots else 0) ≡ get_or old f 0) → (f : ℕ) → get_or new f 0 + credit_of flows granted noted slots f ≡ get_or old f 0
paid_equally flows new old g granted noted slots same quiet paid f =
    ap (λ n. get_or new f 0 + (if has granted f then unwrap_or n slots else 0)) (quiet (ingress_of flows f))
    ∙ ap (λ (l : List ℕ). get_or new f 0 + (if has l f then slots else 0)) (sym same) ∙ paid f

-- where nothing was noted, each granted flow has lost a unit for each slot
pub run_less : (flows : List Flow) (new old granted : List ℕ) (noted : List (Option ℕ)) (slots : ℕ) → ((ingress : ℕ) → note_at noted ingress ≡ None) →
    ((f : ℕ) → get_or new f 0 + credit_of flows granted noted slots f ≡ get_or old f 0) → IsRunLess (λ f. get_or old f 0) (λ f. get_or new f 0) granted slots
run_less flows new old granted noted slots quiet paid f =
    let units : credit_of flows granted noted slots f ≡ (if has granted f then slots else 0) =
    ap (λ n. if has granted f then unwrap_or n slots else 0) (quiet (ingress_of flows f)) in
    omega (arith, paid f, units)
