-- What a port serves in the slots of a run.
use Rattle.std.proofs.Common.{◌≡◌, ◌≢◌, ℕ, ◌+◌, ◌-◌, ◌≤◌, ◌<◌, ◌⊎◌, inl, inr, List, [], ◌∷◌}
use Rattle.std.proofs.Common.{◌++◌, length, get_or, take, drop, replicate, Contains, refl, sym, ap, subst, ◌∙◌, arith}
use Rattle.std.specs.Prelude.{All, max, min}
use Rattle.std.proofs.lemmas.Bool.{cases_eq, cases_lt}
use Rattle.std.proofs.lemmas.List.{get_or-append_right, get_or-replicate, get_or_append_left, length-append, length-replicate}
use Rattle.coflow_units.specs.declared.fabric.Flow.{Flow}
use Rattle.coflow_units.specs.declared.fabric.Side.{Side}
use Rattle.coflow_units.specs.declared.fabric.Side.TheVariants.{Ingress, Egress}
use Rattle.coflow_units.specs.declared.plan.Run.{Run}
use Rattle.coflow_units.specs.Flows.{SharesPort, coflow_of}
use Rattle.coflow_units.specs.Schedule.{IsClear}
use Rattle.coflow_units.proofs.Sums.{first_or_tail, in_first, in_tail, nothing_in}
use Rattle.run_list.specs.Runs.{Walked, run_of}
use Rattle.schedule_model.specs.Repeat.{end_number}
use Rattle.schedule_model.specs.RunList.{slots_in}
use Rattle.schedule_model.proofs.RunSlots.{all_runs, count_more, count_within, run_count, run_more, slots_parts}
use Rattle.picture.specs.declared.value.Bar.{Bar}
use Rattle.picture.specs.declared.value.Window.{Window}
use Rattle.picture.specs.Bars.{IsBars, IsRow, Serves}
use Rattle.picture.specs.Drawing.{IsDrawn, row_at}
use Rattle.picture.proofs.RowSteps.{Adds, row_grows, row_waits}

-- a slot of the run holds the run's flows
pub slot_of_run : (runs : List Run) (k : ℕ) (r : Run) (slot : ℕ) → k < length runs → r ≡ get_or runs k r → length (slots_in (take k runs)) < slot →
    slot ≤ length (slots_in (take k runs)) + r.length → get_or (slots_in runs) (slot - 1) [] ≡ r.flows
slot_of_run runs k r slot lt is after upto =
    let before = slots_in (take k runs) in
    let here : List (List ℕ) = replicate r.length r.flows in
    let rest = slots_in (drop (k + 1) runs) in
    let whole : slots_in runs ≡ (before ++ here) ++ rest = slots_parts (k + 1) runs ∙ ap (λ x. x ++ rest) (run_more runs k r lt is) in
    let inside : slot - 1 < length (before ++ here) = omega (arith, after, upto, length-append before here, length-replicate r.length r.flows) in
    ap (λ x. get_or x (slot - 1) []) whole ∙ get_or_append_left (before ++ here) rest [] (slot - 1) inside
    ∙ get_or-append_right before here (length before) (slot - 1) [] refl (omega (arith, after))
    ∙ get_or-replicate r.length (slot - 1 - length before) r.flows [] (omega (arith, after, upto))

-- ports of a side that two flows share
pub shares : (flows : List Flow) (side : Side) (f g : ℕ) → end_number flows side f ≡ end_number flows side g → SharesPort flows f g
shares flows Ingress f g e = inl e
shares flows Egress f g e = inr e

pub one_at_port : (flows : List Flow) (numbers : List ℕ) (side : Side) (f g : ℕ) → IsClear flows numbers → Contains numbers f → Contains numbers g →
    end_number flows side f ≡ end_number flows side g → f ≡ g
one_at_port flows numbers side f g clear hf hg e = clear.apart f g hf hg (shares flows side f g e)

-- the slots of a run after the slots before it
pub record IsRunAt (runs : List Run) (before : ℕ) (r : Run) : Type 0 where
  pub slot : (t : ℕ) → before < t → t ≤ before + r.length → get_or (slots_in runs) (t - 1) [] ≡ r.flows
  pub inside : before + r.length ≤ length (slots_in runs)

pub is_run : (runs : List Run) (k before : ℕ) (r : Run) → k < length runs → r ≡ get_or runs k r → before ≡ length (slots_in (take k runs)) → IsRunAt runs before r
is_run runs k before r lt is e = record {
  slot = λ t after upto. slot_of_run runs k r t lt is (omega (arith, e, after)) (omega (arith, e, upto));
  inside = omega (arith, run_count runs k r lt is, count_within runs (k + 1), e);
}

-- the slots up to the end of the run that a walk enters
pub entered_count : (runs : List Run) (k before slots : ℕ) (walk : Walked) → k < length runs → before ≡ length (slots_in (take k runs)) → walk.runs ≡ runs → walk.entered ≡ k →
    ((d : Run) → slots ≡ (get_or walk.runs walk.entered d).length) → before + slots ≡ length (slots_in (take (k + 1) runs))
entered_count runs k before slots walk lt is same place has =
    let d = run_of 0 [] in
    let here : slots ≡ (get_or runs k d).length =
    has d ∙ ap (λ (xs : List Run). (get_or xs walk.entered d).length) same ∙ ap (λ i. (get_or runs i d).length) place in
    omega (arith, is, here, count_more runs k d lt)

pub serves : (flows : List Flow) (runs : List Run) (side : Side) (before : ℕ) (r : Run) (f slot : ℕ) → IsRunAt runs before r → Contains r.flows f → before < slot →
    slot ≤ before + r.length →
    Serves flows (slots_in runs) side (end_number flows side f) slot (coflow_of flows f)
serves flows runs side before r f slot run has after upto = record {
  flow = f;
  stands = record {
    counted = omega (arith, after);
    inside = omega (arith, upto, run.inside);
    has = subst (λ s. Contains s f) (sym (run.slot slot after upto)) has;
  };
  at_port = refl;
  of_coflow = refl;
}

pub served_by : (flows : List Flow) (runs : List Run) (side : Side) (before : ℕ) (r : Run) (port slot coflow : ℕ) → IsRunAt runs before r → before < slot →
    slot ≤ before + r.length →
    Serves flows (slots_in runs) side port slot coflow → (f : ℕ) × Contains r.flows f × (end_number flows side f ≡ port) × (coflow_of flows f ≡ coflow)
served_by flows runs side before r port slot coflow run after upto s =
    (s.flow, subst (λ x. Contains x s.flow) (run.slot slot after upto) s.stands.has, s.at_port, s.of_coflow)

-- a flow of the list stands at the port, or none does
pub at_port : (flows : List Flow) (side : Side) (port : ℕ) (numbers : List ℕ) →
    ((f : ℕ) × Contains numbers f × (end_number flows side f ≡ port)) ⊎ ((f : ℕ) → Contains numbers f → end_number flows side f ≢ port)
at_port flows side port [] = inr (λ f has. absurd (nothing_in f has))
at_port flows side port (x ∷ xs) = elim (cases_eq (end_number flows side x) port) [
  | inl e ↦ inl (x, in_first x xs, e)
  | inr apart ↦ elim (at_port flows side port xs) [
    | inl h ↦ let (f, has, e) = h in inl (f, in_tail x xs f has, e)
    | inr none ↦ inr (λ f has. elim (first_or_tail x xs f has) [
      | inl e ↦ λ at. apart (ap (end_number flows side) e ∙ at)
      | inr h ↦ none f h
    ])
  ]
]

-- the part of the run in the window: after the slots before it and up to its end
pub record IsPart (window : Window) (before end first last old : ℕ) : Type 0 where
  pub first_in : window.first ≤ first
  pub after : before < first
  pub first_is : window.first < first → first ≡ before + 1
  pub upto : last ≤ end
  pub last_in : last ≤ window.last
  pub last_is : last < window.last → last ≡ end
  pub old_upto : old ≤ before
  pub old_in : old ≤ window.last
  pub old_is : old < window.last → old ≡ before

adds : (flows : List Flow) (runs : List Run) (window : Window) (before : ℕ) (r : Run) (first last old f : ℕ) → IsClear flows r.flows → IsRunAt runs before r →
    IsPart window before (before + r.length) first last old → first ≤ last → Contains r.flows f →
    Adds (Serves flows (slots_in runs) window.side (end_number flows window.side f)) window.first old record { coflow = coflow_of flows f; first = first; last = last }
adds flows runs window before r first last old f clear run part some has = record {
  some = some;
  from = part.first_in;
  later = omega (arith, part.old_upto, part.after);
  next = λ lt. let e = part.first_is lt in elim (cases_lt old window.last) [
    | inl h ↦ omega (arith, e, part.old_is h)
    | inr h ↦ absurd (omega (arith, h, part.old_in, part.old_upto, part.after, some, part.last_in))
  ];
  served = λ slot from upto. serves flows runs window.side before r f slot run has (omega (arith, from, part.after)) (omega (arith, upto, part.upto));
  only = λ slot coflow from upto s.
      let (g, has_g, at, of) = served_by flows runs window.side before r (end_number flows window.side f) slot coflow run (omega (arith, from, part.after))
      (omega (arith, upto, part.upto)) s in
      sym of ∙ ap (coflow_of flows) (one_at_port flows r.flows window.side g f clear has_g has at);
}

-- the row of a port, when the run was drawn
pub row_drawn : (flows : List Flow) (runs : List Run) (window : Window) (before : ℕ) (r : Run) (first last old port : ℕ) (all more : List (List Bar)) → IsClear flows r.flows →
    IsRunAt runs before r → IsPart window before (before + r.length) first last old → first ≤ last →
    IsDrawn flows r.flows record { side = window.side; first = first; last = last } all more →
    IsRow (Serves flows (slots_in runs) window.side port) window.first old (row_at all port) →
    IsRow (Serves flows (slots_in runs) window.side port) window.first last (row_at more port)
row_drawn flows runs window before r first last old port all more clear run part some drawn row = elim (at_port flows window.side port r.flows) [
  | inl h ↦
      let (f, has, e) = h in
      subst (λ p. IsRow (Serves flows (slots_in runs) window.side p) window.first last (row_at more p)) e
      (row_grows _ window.first old record { coflow = coflow_of flows f; first = first; last = last } (row_at all (end_number flows window.side f))
      (row_at more (end_number flows window.side f))
      (adds flows runs window before r first last old f clear run part some has)
      (subst (λ p. IsRow (Serves flows (slots_in runs) window.side p) window.first old (row_at all p)) (sym e) row) (drawn.used f has))
  | inr none ↦
      subst (IsRow (Serves flows (slots_in runs) window.side port) window.first last) (sym (drawn.other port none))
      (row_waits _ window.first old last (row_at all port) row (omega (arith, part.old_upto, part.after, some))
      (λ slot coflow from after upto s.
      let inside : before < slot = in_run slot from after upto in
      let (f, has, at, of) = served_by flows runs window.side before r port slot coflow run inside (omega (arith, upto, part.upto)) s in
      none f has at))
]
  where
    in_run : (slot : ℕ) → window.first ≤ slot → old < slot → slot ≤ last → before < slot
    in_run slot from after upto = elim (cases_lt old window.last) [
      | inl h ↦ omega (arith, after, part.old_is h)
      | inr h ↦ absurd (omega (arith, h, after, upto, part.last_in))
    ]

-- the row of a port, when no slot of the run is in the window
pub row_passed : (flows : List Flow) (runs : List Run) (window : Window) (before slots first last old port : ℕ) (row : List Bar) →
    IsPart window before (before + slots) first last old → last < first →
    IsRow (Serves flows (slots_in runs) window.side port) window.first old row → IsRow (Serves flows (slots_in runs) window.side port) window.first last row
row_passed flows runs window before slots first last old port row part none is =
    row_waits _ window.first old last row is below (λ slot coflow from after upto s. nothing slot from after upto)
  where
    below : old ≤ last
    below = elim (cases_lt last window.last) [
      | inl h ↦ omega (arith, part.last_is h, part.old_upto)
      | inr h ↦ omega (arith, h, part.old_in)
    ]

    nothing : (slot : ℕ) → window.first ≤ slot → old < slot → slot ≤ last → ⊥
    nothing slot from after upto = elim (cases_lt old window.last) [
      | inl h ↦ elim (cases_lt window.first first) [
        | inl g ↦ omega (arith, part.first_is g, part.old_is h, after, upto, none)
        | inr g ↦ omega (arith, g, from, upto, none)
      ]
      | inr h ↦ omega (arith, h, after, upto, part.last_in)
    ]

-- the rows when all runs were drawn
pub row_whole : (flows : List Flow) (slots : List (List ℕ)) (window : Window) (old port : ℕ) (row : List Bar) → old ≤ window.last → (old < window.last → old ≡ length slots) →
    IsRow (Serves flows slots window.side port) window.first old row → IsRow (Serves flows slots window.side port) window.first window.last row
row_whole flows slots window old port row le is r = row_waits _ window.first old window.last row r le
    (λ slot coflow from after upto s. let e : old ≡ length slots = is (omega (arith, after, upto)) in omega (arith, e, after, s.stands.inside))

-- no bars before the first slot
pub row_empty : (flows : List Flow) (slots : List (List ℕ)) (side : Side) (first port : ℕ) → IsRow (Serves flows slots side port) first 0 []
row_empty flows slots side first port = record {
  bars = λ k d lt. absurd (omega arith);
  all = λ slot coflow from upto s. absurd (omega (arith, upto, s.stands.counted));
  ascending = λ i j d lt within. absurd (omega arith);
}

-- the first slot of a run and its last one, cut by the window
pub part_of : (window : Window) (before end first last : ℕ) → first ≡ max window.first (before + 1) → last ≡ min window.last end →
    IsPart window before end first last (min window.last before)
part_of window before end first last f l = record {
  first_in = grind (arith, f);
  after = grind (arith, f);
  first_is = λ lt. grind (arith, f, lt);
  upto = grind (arith, l);
  last_in = grind (arith, l);
  last_is = λ lt. grind (arith, l, lt);
  old_upto = grind arith;
  old_in = grind arith;
  old_is = λ lt. grind (arith, lt);
}

-- a run with a slot is clear
pub run_clear : (flows : List Flow) (runs : List Run) (before : ℕ) (r : Run) → All (IsClear flows) (slots_in runs) → IsRunAt runs before r → 1 ≤ r.length → IsClear flows r.flows
run_clear flows runs before r all run some =
    let slot : get_or (slots_in runs) (before + 1 - 1) [] ≡ r.flows = run.slot (before + 1) (omega arith) (omega (arith, some)) in
    subst (IsClear flows) slot (all (before + 1 - 1) [] (omega (arith, run.inside, some)))

-- all bars, when all runs were drawn
pub all_drawn : (flows : List Flow) (runs : List Run) (ports k before : ℕ) (window : Window) (rows : List (List Bar)) → length runs ≤ k → before ≡ length (slots_in (take k runs)) →
    length rows ≡ ports →
    ((port : ℕ) → port < ports → IsRow (Serves flows (slots_in runs) window.side port) window.first (min window.last before) (row_at rows port)) →
    IsBars flows (slots_in runs) ports window rows
all_drawn flows runs ports k before window rows le is each row = record {
  row_each = each;
  row = λ port lt. row_whole flows (slots_in runs) window (min window.last before) port (row_at rows port) (grind arith)
      (λ h. at_end window.last before h ∙ is ∙ ap length (all_runs runs k le)) (row port lt);
}
  where
    at_end : (m n : ℕ) → min m n < m → min m n ≡ n
    at_end m n h = grind (arith, h)

-- no row has bars before the first slot
pub empty_rows : (flows : List Flow) (slots : List (List ℕ)) (side : Side) (first last ports port : ℕ) (rows : List (List Bar)) → rows ≡ replicate ports [] → port < ports →
    IsRow (Serves flows slots side port) first (min last 0) (row_at rows port)
empty_rows flows slots side first last ports port rows is lt =
    let none : row_at rows port ≡ [] = ap (λ l. row_at l port) is ∙ get_or-replicate ports port [] [] lt in
    let zero_is : min last 0 ≡ 0 = grind arith in
    subst (λ l. IsRow (Serves flows slots side port) first l (row_at rows port)) (sym zero_is)
    (subst (IsRow (Serves flows slots side port) first 0) (sym none) (row_empty flows slots side first port))

pub count_rows : (ports : ℕ) (rows : List (List Bar)) → rows ≡ replicate ports [] → length rows ≡ ports
count_rows ports rows is = ap length is ∙ length-replicate ports []
