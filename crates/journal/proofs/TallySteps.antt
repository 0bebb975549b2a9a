-- How a tally of runs goes on by an entry.
use Rattle.std.proofs.Common.{◌≡◌, ◌≢◌, ℕ, ◌+◌, ◌<◌, inl, inr, List, [], ◌∷◌, ◌++◌, Contains, drop, get_or, length, map, set, take, zero, suc, refl, sym}
use Rattle.std.proofs.Common.{ap, subst, ◌∙◌, arith, append-nil, Option, Some, None, unwrap_or}
use Rattle.std.specs.Prelude.{◌==◌, if◌then◌else◌, option_map, option_to_list}
use Rattle.std.proofs.lemmas.Bool.{cases_eq, eq-eqb, ne_eqb}
use Rattle.std.proofs.lemmas.List.{map-append}
use Rattle.coflow_units.specs.declared.fabric.Flow.{Flow}
use Rattle.coflow_units.specs.Flows.{ingress_of}
pub use Rattle.coflow_units.proofs.Lists.{map_same}
use Rattle.coflow_units.proofs.Sums.{any_in}
use Rattle.journal.specs.declared.command.Command.{Command}
use Rattle.journal.specs.declared.command.Entry.{Entry}
use Rattle.journal.specs.declared.command.Reply.{Reply}
use Rattle.journal.specs.declared.command.Reply.TheVariants.{Opened, Noted, Closed}
use Rattle.journal.specs.declared.opening.Opening.{Opening}
use Rattle.journal.specs.declared.tally.Credit.{Credit}
use Rattle.journal.specs.declared.tally.CreditedRun.{CreditedRun}
use Rattle.journal.specs.State.{has, Run, State}
use Rattle.journal.specs.Runs.{credit, flows_granted, granted, note_in}
use Rattle.journal.specs.Fold.{after, closed, noted_in, port_named, state_of}
use Rattle.journal.specs.Closed.{closed_by, closed_runs}
use Rattle.journal.specs.Tally.{credit_at, credited, IsTally, noted_credit, TalliedRuns, with_note}
use Rattle.journal.proofs.ClosedSteps.{closed_push}
use Rattle.journal.proofs.Growth.{state_snoc}
use Rattle.journal.proofs.ScheduleTimes.{full_credit}

-- what an entry with this reply makes of a tally, where these flows are granted
abbrev pub tallied : List Flow → List ℕ → Command → Reply → TalliedRuns → TalliedRuns
tallied flows granted k (Opened first slots count) x =
    record x { current = Some (record { first = first; slots = slots; credits = map (λ f. credit_at flows f slots) granted }) }
tallied flows granted k (Noted n) x = record x { current = with_note x.current (port_named k) n }
tallied flows granted k (Closed slot) x = record { closed = x.closed ++ option_to_list x.current; current = None }
tallied flows granted k reply x = x

map_twice : {X Y : Type 0} (g : X → Y) (f : ℕ → X) (xs : List ℕ) → map g (map f xs) ≡ map (λ x. g (f x)) xs
map_twice g f [] = refl
map_twice g f (x ∷ xs) = ap (λ l. g (f x) ∷ l) (map_twice g f xs)

-- a run without notes credits a unit for each slot
full_run : (flows : List Flow) (r : Run) → r.notes ≡ [] →
    credited flows r ≡ record { first = r.first; slots = r.slots; credits = map (λ f. credit_at flows f r.slots) r.granted }
full_run flows r none =
    ap (λ (l : List Credit). record { first = r.first; slots = r.slots; credits = l })
    (map_same (λ f. credit_at flows f (credit flows r f)) (λ f. credit_at flows f r.slots) r.granted (λ f in'. ap (credit_at flows f) (full_credit flows r f none in')))

-- ---- a note

abbrev pub mk : ℕ → ℕ → List ℕ → List (ℕ × ℕ) → Run
mk first slots granted notes = record { first = first; slots = slots; granted = granted; notes = notes }

one_noted : (flows : List Flow) (first slots : ℕ) (granted : List ℕ) (notes : List (ℕ × ℕ)) (port n f : ℕ) → Contains granted f →
    noted_credit port n (credit_at flows f (credit flows (mk first slots granted notes) f)) ≡ credit_at flows f (credit flows (mk first slots granted ((port, n) ∷ notes)) f)
one_noted flows first slots granted notes port n f in' =
    let p = ingress_of flows f in
    let old = credit flows (mk first slots granted notes) f in
    let note = note_in notes p in
    let here = any_in granted f in' in
    let before : old ≡ unwrap_or note slots = ap {B = ℕ} (λ b. if b then unwrap_or note slots else 0) here in
    let now : credit flows (mk first slots granted ((port, n) ∷ notes)) f ≡ unwrap_or (if port == p then Some n else note) slots =
    ap {B = ℕ} (λ b. if b then unwrap_or (if port == p then Some n else note) slots else 0) here in
    elim (cases_eq port p) [
      | inl same ↦
          ap (λ b. if b then credit_at flows f n else credit_at flows f old) (eq-eqb p port (sym same))
          ∙ sym (ap (credit_at flows f) now ∙ ap (λ b. credit_at flows f (unwrap_or (if b then Some n else note) slots)) (eq-eqb port p same))
      | inr other ↦
          ap (λ b. if b then credit_at flows f n else credit_at flows f old) (ne_eqb p port (λ same. other (sym same))) ∙ ap (credit_at flows f) before
          ∙ sym (ap (credit_at flows f) now ∙ ap (λ b. credit_at flows f (unwrap_or (if b then Some n else note) slots)) (ne_eqb port p other))
    ]

note_run : (flows : List Flow) (run : Option Run) (port n : ℕ) → with_note (option_map (credited flows) run) port n ≡ option_map (credited flows) (noted_in run port n)
note_run flows None port n = refl
note_run flows (Some r) port n =
    ap (λ (l : List Credit). Some (record { first = r.first; slots = r.slots; credits = l }))
    (map_twice (noted_credit port n) (λ f. credit_at flows f (credit flows r f)) r.granted
    ∙ map_same (λ f. noted_credit port n (credit_at flows f (credit flows r f)))
    (λ f. credit_at flows f (credit flows (mk r.first r.slots r.granted ((port, n) ∷ r.notes)) f)) r.granted
    (λ f in'. one_noted flows r.first r.slots r.granted r.notes port n f in'))

-- ---- one entry

listed : {X Y : Type 0} (g : X → Y) (x : Option X) → option_to_list (option_map g x) ≡ map g (option_to_list x)
listed g None = refl
listed g (Some x) = refl

none_after : (o : Opening) (s : State) (run : Option Run) (g : Run → CreditedRun) → s.run ≡ run → None ≡ option_map g (closed o s run).run
none_after o s None g is = sym (ap (option_map g) is)
none_after o s (Some r) g is = refl

-- what a tally has of runs that closed and of an open run
abbrev Tells : List Flow → List Run → Option Run → TalliedRuns → Type 0
Tells flows runs run x = (x.closed ≡ map (credited flows) runs) × (x.current ≡ option_map (credited flows) run)

step : (o : Opening) (s : State) (k : Command) (reply : Reply) (runs : List Run) (x : TalliedRuns) (grants : List ℕ) → flows_granted (after o s k reply).run ≡ grants →
    Tells o.table.flows runs s.run x → Tells o.table.flows (runs ++ closed_by reply s.run) (after o s k reply).run (tallied o.table.flows grants k reply x)
step o s k (Opened first slots count) runs x grants are h =
    let flows = o.table.flows in
    let made = λ (l : List ℕ). ◌≡◌ {A = Option CreditedRun} (Some (record { first = first; slots = slots; credits = map (λ f. credit_at flows f slots) l }))
    (Some (credited flows (mk first slots (granted o s) []))) in (
      h.0 ∙ ap (map (credited flows)) (sym (append-nil runs)),
      subst made are (ap (λ (c : CreditedRun). Some c) (sym (full_run flows (mk first slots (granted o s) []) refl))),
    )
step o s k (Noted n) runs x grants are h =
    let flows = o.table.flows in
    (h.0 ∙ ap (map (credited flows)) (sym (append-nil runs)), ap (λ y. with_note y (port_named k) n) h.1 ∙ note_run flows s.run (port_named k) n)
step o s k (Closed slot) runs x grants are h =
    let flows = o.table.flows in (
      ap (λ l. l ++ option_to_list x.current) h.0 ∙ ap (λ y. map (credited flows) runs ++ option_to_list y) h.1
          ∙ ap (λ l. map (credited flows) runs ++ l) (listed (credited flows) s.run) ∙ sym (map-append (credited flows) runs (option_to_list s.run)),
      none_after o s s.run (credited flows) refl,
    )
step o s k reply runs x grants are h = (h.0 ∙ ap (map (credited o.table.flows)) (sym (append-nil runs)), h.1)

pub takes : (o : Opening) (journal : List Entry) (e : Entry) (flows : List Flow) (grants : List ℕ) (x : TalliedRuns) → o.table.flows ≡ flows →
    flows_granted (state_of o (journal ++ e ∷ [])).run ≡ grants → IsTally o journal x → IsTally o (journal ++ e ∷ []) (tallied flows grants e.command e.reply x)
takes o journal e flows grants x same are h =
    let s = state_of o journal in
    let next = after o s e.command e.reply in
    let on : (state_of o (journal ++ e ∷ [])).run ≡ next.run = ap (λ (t : State). t.run) (state_snoc o journal e) in
    let y = step o s e.command e.reply (closed_runs o journal) x grants (sym (ap flows_granted on) ∙ are) (h.closed, h.current) in
    subst (λ l. IsTally o (journal ++ e ∷ []) (tallied l grants e.command e.reply x)) same (record {
      closed = y.0 ∙ ap (map (credited o.table.flows)) (sym (closed_push o journal e));
      current = y.1 ∙ ap (option_map (credited o.table.flows)) (sym on);
    })

pub tally_of_none : (o : Opening) → IsTally o [] (record { closed = []; current = None })
tally_of_none o = record { closed = refl; current = refl }

-- ---- a note in the list of credits

abbrev pub changed : {X : Type 0} → (X → X) → List X → ℕ → List X
changed g xs i = map g (take i xs) ++ drop i xs

pub changed_at : {X : Type 0} (g : X → X) (xs : List X) (i : ℕ) (d : X) → i < length xs → get_or (changed g xs i) i d ≡ get_or xs i d
changed_at g [] i d lt = absurd (omega (arith, lt))
changed_at g (x ∷ xs) zero d lt = refl
changed_at g (x ∷ xs) (suc i) d lt = changed_at g xs i d (omega (arith, lt))

set_step : {X : Type 0} (g : X → X) (xs : List X) (i : ℕ) (d : X) → i < length xs → set (changed g xs i) i (g (get_or xs i d)) ≡ changed g xs (suc i)
set_step g [] i d lt = absurd (omega (arith, lt))
set_step g (x ∷ xs) zero d lt = refl
set_step g (x ∷ xs) (suc i) d lt = ap (λ l. g x ∷ l) (set_step g xs i d (omega (arith, lt)))

pub changed_set : {X : Type 0} (g : X → X) (xs : List X) (i : ℕ) (d : X) → i < length xs → set (changed g xs i) i (g (get_or xs i d)) ≡ changed g xs (i + 1)
changed_set g xs i d lt = let e : suc i ≡ i + 1 = omega arith in set_step g xs i d lt ∙ ap (changed g xs) e

-- ---- the credits of a loop that notes

abbrev nobody : Credit
nobody = record { flow = 0; ingress = 0; units = 0 }

pub noted_here : (port units : ℕ) (xs ys zs : List Credit) (i : ℕ) → i < length xs → ys ≡ changed (noted_credit port units) xs i → (get_or ys i nobody).ingress ≡ port →
    zs ≡ set ys i (record { flow = (get_or ys i nobody).flow; ingress = (get_or ys i nobody).ingress; units = units }) → zs ≡ changed (noted_credit port units) xs (i + 1)
noted_here port units xs ys zs i lt so here is =
    let g = noted_credit port units in
    let c = get_or ys i nobody in
    let same : c ≡ get_or xs i nobody = ap (λ (l : List Credit). get_or l i nobody) so ∙ changed_at g xs i nobody lt in
    let made : record { flow = c.flow; ingress = c.ingress; units = units } ≡ g c = sym (ap (λ b. if b then record c { units = units } else c) (eq-eqb c.ingress port here)) in
    is ∙ ap (set ys i) (made ∙ ap g same) ∙ ap (λ (l : List Credit). set l i (g (get_or xs i nobody))) so ∙ changed_set g xs i nobody lt

pub noted_elsewhere : (port units : ℕ) (xs ys zs : List Credit) (i : ℕ) → i < length xs → ys ≡ changed (noted_credit port units) xs i → (get_or ys i nobody).ingress ≢ port →
    zs ≡ set ys i (get_or ys i nobody) → zs ≡ changed (noted_credit port units) xs (i + 1)
noted_elsewhere port units xs ys zs i lt so there is =
    let g = noted_credit port units in
    let c = get_or ys i nobody in
    let same : c ≡ get_or xs i nobody = ap (λ (l : List Credit). get_or l i nobody) so ∙ changed_at g xs i nobody lt in
    let kept : g c ≡ c = ap (λ b. if b then record c { units = units } else c) (ne_eqb c.ingress port there) in
    is ∙ ap (set ys i) (sym kept ∙ ap g same) ∙ ap (λ (l : List Credit). set l i (g (get_or xs i nobody))) so ∙ changed_set g xs i nobody lt

-- ---- the entry that is taken down

-- the tally with an open run
abbrev pub opened_as : TalliedRuns → ℕ → ℕ → List Credit → TalliedRuns
opened_as x first slots credits = record x { current = Some (record { first = first; slots = slots; credits = credits }) }

-- the tally with a note
abbrev pub noted_as : TalliedRuns → ℕ → ℕ → TalliedRuns
noted_as x port n = record x { current = with_note x.current port n }

pub takes_as : (o : Opening) (journal : List Entry) (e : Entry) (flows : List Flow) (grants : List ℕ) (x y : TalliedRuns) (r : Reply) → e.reply ≡ r →
    y ≡ tallied flows grants e.command r x → o.table.flows ≡ flows → flows_granted (state_of o (journal ++ e ∷ [])).run ≡ grants → IsTally o journal x →
    IsTally o (journal ++ e ∷ []) y
takes_as o journal e flows grants x y r is made same are h =
    subst (IsTally o (journal ++ e ∷ [])) (ap (λ z. tallied flows grants e.command z x) is ∙ sym made) (takes o journal e flows grants x same are h)

pub other_reply : (flows : List Flow) (grants : List ℕ) (k : Command) (r : Reply) (x : TalliedRuns) → ((a b n : ℕ) → r ≡ Opened a b n → ⊥) → ((n : ℕ) → r ≡ Noted n → ⊥) →
    ((n : ℕ) → r ≡ Closed n → ⊥) → x ≡ tallied flows grants k r x
other_reply flows grants k (Opened a b n) x opened noted shut = absurd (opened a b n refl)
other_reply flows grants k (Noted n) x opened noted shut = absurd (noted n refl)
other_reply flows grants k (Closed n) x opened noted shut = absurd (shut n refl)
other_reply flows grants k r x opened noted shut = refl
