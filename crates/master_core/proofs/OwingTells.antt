-- The flows of the line that owe units, as they are kept.
use Rattle.std.proofs.Common.{◌≡◌, ℕ, ◌<◌, Bool, true, inl, inr, List, [], ◌∷◌, Contains, length, max, Option, Some, None, refl, sym, ap, subst, ◌∙◌, arith, true≢false, unwrap_or}
use Rattle.std.specs.Prelude.{◌==◌, ◌&&◌, if◌then◌else◌, MatchOption, is_some, nat_le, nat_lt, slice_index_or}
use Rattle.std.proofs.lemmas.Bool.{and_from, and_parts, cases_Bool, lt-ltb, ltb-true, ne_eqb}
use Rattle.std.specs.List.{range_with_len}
use Rattle.std.proofs.lemmas.List.Elements.{All-contains}
use Rattle.coflow_units.specs.declared.fabric.Flow.{Flow}
use Rattle.coflow_units.specs.Grants.{IsGrants}
use Rattle.coflow_units.proofs.RunLengths.{some_grant}
use Rattle.coflow_units.proofs.Sums.{any_has, any_in, nothing_in}
use Rattle.coflow_units.proofs.Lists.{keeps, number_in}
use Rattle.coflow_units.specs.Flows.{coflow_of}
use Rattle.journal.specs.declared.command.Reply.{Reply}
use Rattle.journal.specs.declared.command.Reply.TheVariants.{Late, NothingLeft, Opened, Skipped, StillOpen, StillOwed}
use Rattle.journal.specs.declared.opening.Opening.{Opening}
use Rattle.master_core.specs.declared.standing.Standing.{Standing}
use Rattle.journal.specs.State.{has, owed, Run, slot_end, State}
use Rattle.master_core.specs.Attendance.{marked}
use Rattle.journal.specs.Line.{line, owing}
use Rattle.journal.specs.Runs.{granted, slots_for}
use Rattle.journal.specs.Answer.{on_run, opened, skipped}
use Rattle.master_core.specs.OpenRun.{KeptRun}
use Rattle.master_core.proofs.RunSteps.{some_of}
use Rattle.master_core.specs.Owing.{IsNoneOwing, is_owing}
use Rattle.master_core.specs.Standing.{IsFit, Tells, TellsRun}
use Rattle.master_core.proofs.OwingSteps.{filter_first, filter_none}
use Rattle.journal.proofs.Present.{line_members}

-- ---- the open run

pub run_told : (flows : List Flow) (ports : ℕ) (r : Option Run) (x : Option KeptRun) (k : KeptRun) (other : Reply) → TellsRun flows ports r x → x ≡ Some k →
    on_run r (λ r. StillOpen r.first) other ≡ StillOpen k.first
run_told flows ports None None k other t e = absurd (true≢false (sym (ap is_some e)))
run_told flows ports None (Some x) k other t e = absurd t
run_told flows ports (Some r) None k other t e = absurd t
run_told flows ports (Some r) (Some x) k other t e = let is : x ≡ k = ap (λ (z : Option KeptRun). unwrap_or z k) e in ap StillOpen (sym t.first ∙ ap (λ (y : KeptRun). y.first) is)

pub none_told : (flows : List Flow) (ports : ℕ) (r : Option Run) (x : Option KeptRun) → TellsRun flows ports r x → x ≡ None → r ≡ None
none_told flows ports None x t e = refl
none_told flows ports (Some r) None t e = absurd t
none_told flows ports (Some r) (Some x) t e = absurd (true≢false (ap is_some e))

-- ---- who owes

same_test : (o : Opening) (s : State) (x : Standing) (f : ℕ) → IsFit o x → Tells o s x → f < length o.table.flows →
    (has (line s) (coflow_of o.table.flows f) && nat_lt 0 (owed o s f)) ≡ is_owing o.table.flows x.roster.present x.ledger.owed f
same_test o s x f fit t lt =
    let c = coflow_of o.table.flows f in
    ap (λ b. b && nat_lt 0 (owed o s f)) (line_members s t.orders.named c ∙ sym (t.coflows.present_is c)) ∙
    ap (λ n. marked x.roster.present c && nat_lt 0 n) (sym (t.owed f))

owing_none : (o : Opening) (s : State) (x : Standing) → IsFit o x → Tells o s x → IsNoneOwing o.table.flows x.roster.present x.ledger.owed (length o.table.flows) →
    owing o s ≡ []
owing_none o s x fit t none = filter_none (λ f. has (line s) (coflow_of o.table.flows f) && nat_lt 0 (owed o s f)) (length o.table.flows)
    (λ f lt. same_test o s x f fit t lt ∙ none f lt)

owing_first : (o : Opening) (s : State) (x : Standing) (f : ℕ) → IsFit o x → Tells o s x → f < length o.table.flows →
    is_owing o.table.flows x.roster.present x.ledger.owed f ≡ true → IsNoneOwing o.table.flows x.roster.present x.ledger.owed f →
    (rest : List ℕ) × (owing o s ≡ f ∷ rest)
owing_first o s x f fit t lt here none =
    filter_first (λ f. has (line s) (coflow_of o.table.flows f) && nat_lt 0 (owed o s f)) (length o.table.flows) f lt (same_test o s x f fit t lt ∙ here)
    (λ g before. same_test o s x g fit t (omega (arith, before, lt)) ∙ none g before)

-- what is found of the flows is found of those that owe in the state
pub owing_found : (o : Opening) (s : State) (x : Standing) (found : Option ℕ) → IsFit o x → Tells o s x →
    MatchOption found (IsNoneOwing o.table.flows x.roster.present x.ledger.owed (length o.table.flows))
    (λ f. (f < length o.table.flows) × (is_owing o.table.flows x.roster.present x.ledger.owed f ≡ true) × IsNoneOwing o.table.flows x.roster.present x.ledger.owed f) →
    MatchOption found (owing o s ≡ []) (λ f. (rest : List ℕ) × (owing o s ≡ f ∷ rest))
owing_found o s x None fit t none = owing_none o s x fit t none
owing_found o s x (Some f) fit t (lt, here, none) = owing_first o s x f fit t lt here none

-- where nothing is granted, no flow of the line owes
pub ungranted_none : (o : Opening) (s : State) (got : List ℕ) → IsGrants o.table.flows (line s) (owed o s) got → got ≡ [] → owing o s ≡ []
ungranted_none o s got h none =
    let test = λ (f : ℕ). has (line s) (coflow_of o.table.flows f) && nat_lt 0 (owed o s f) in
    filter_none test (length o.table.flows) (λ f lt. elim (cases_Bool (test f)) [
      | inl t ↦
          let (there, owes) = and_parts (has (line s) (coflow_of o.table.flows f)) _ t in
          let (g, in') = some_grant o.table.flows (line s) (owed o s) got f h lt (any_has (line s) (coflow_of o.table.flows f) there) (ltb-true 0 (owed o s f) owes) in
          absurd (nothing_in g (subst (λ l. Contains l g) none in'))
      | inr e ↦ e
    ])

first_of : (l : List ℕ) (f : ℕ) → Contains l f → (g : ℕ) × (rest : List ℕ) × (l ≡ g ∷ rest)
first_of [] f in' = absurd (nothing_in f in')
first_of (g ∷ rest) f in' = (g, rest, refl)

-- where a flow is granted, some flow of the line owes
pub granted_owes : (o : Opening) (s : State) (got : List ℕ) → IsGrants o.table.flows (line s) (owed o s) got → 0 < length got →
    (f : ℕ) × (rest : List ℕ) × (owing o s ≡ f ∷ rest)
granted_owes o s got h some =
    let (f, in') = some_of got some in
    let n = length o.table.flows in
    let lt = All-contains (λ (x : ℕ). x < n) got f h.flow in' in
    let there = All-contains (λ x. Contains (line s) (coflow_of o.table.flows x)) got f h.in_line in' in
    first_of (owing o s) f
    (keeps (λ f. has (line s) (coflow_of o.table.flows f) && nat_lt 0 (owed o s f)) (range_with_len 0 n) f (number_in 0 n f (omega arith) (omega (arith, lt)))
    (and_from (has (line s) (coflow_of o.table.flows f)) (nat_lt 0 (owed o s f)) (any_in (line s) (coflow_of o.table.flows f) there) (lt-ltb 0 (owed o s f) (h.owed f in'))))

-- ---- a skip, and an opening, by who owes

pub skip_owed : (o : Opening) (s : State) (to f : ℕ) (rest : List ℕ) → owing o s ≡ f ∷ rest → skipped o s to ≡ StillOwed f
skip_owed o s to f rest e =
    let last = if nat_le slot_end to then Late to else Skipped (max s.next to) in
    ap (λ l. if nat_lt 0 (length l) then StillOwed (slice_index_or l 0 0) else last) e ∙
    ap (λ (b : Bool). if b then StillOwed f else last) (lt-ltb 0 (length (f ∷ rest)) (omega arith))

pub skip_free : (o : Opening) (s : State) (to : ℕ) → owing o s ≡ [] → skipped o s to ≡ (if nat_le slot_end to then Late to else Skipped (max s.next to))
skip_free o s to e =
    let last = if nat_le slot_end to then Late to else Skipped (max s.next to) in
    ap (λ l. if nat_lt 0 (length l) then StillOwed (slice_index_or l 0 0) else last) e

pub open_free : (o : Opening) (s : State) (most : ℕ) → owing o s ≡ [] → opened o s most ≡ NothingLeft
open_free o s most e =
    let last = if s.next == slot_end then Late s.next else Opened s.next (slots_for o s most) (length (granted o s)) in
    ap (λ (l : List ℕ). if length l == 0 then NothingLeft else last) e

pub open_owed : (o : Opening) (s : State) (most f : ℕ) (rest : List ℕ) → owing o s ≡ f ∷ rest →
    opened o s most ≡ (if s.next == slot_end then Late s.next else Opened s.next (slots_for o s most) (length (granted o s)))
open_owed o s most f rest e =
    let last = if s.next == slot_end then Late s.next else Opened s.next (slots_for o s most) (length (granted o s)) in
    ap (λ (l : List ℕ). if length l == 0 then NothingLeft else last) e ∙ ap (λ (b : Bool). if b then NothingLeft else last) (ne_eqb (length (f ∷ rest)) 0 (λ z. omega (arith, z)))
