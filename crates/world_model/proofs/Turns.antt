-- A grant of the open run is played: posted, drawn, sent, reported and settled.
use Rattle.std.proofs.Common.{◌≡◌, ◌≢◌, ℕ, ◌<◌, ◌≤◌, Bool, true, false, List, [], ◌∷◌, ◌++◌, length, get_or, refl, sym, ap, subst, ◌∙◌, arith, Option, Some, None}
use Rattle.std.proofs.Common.{unwrap_or, is_some, is_none, length-set, get_or-set_same, get_or-set_other, append-nil}
use Rattle.std.specs.Prelude.{◌==◌, ◌&&◌, not, if◌then◌else◌, nat_lt, nat_le, slice_set}
use Rattle.std.proofs.lemmas.Bool.{and_from, eq-eqb, eqb-false, eqb-true, le-leb, lt-ltb, ne_eqb}
use Rattle.coflow_units.specs.PortWord.{is_drawn_by, is_granted}
use Rattle.coflow_units.specs.PortWord.PortStage.{drawn, granted, reported}
use Rattle.journal.specs.declared.command.Entry.{Entry}
use Rattle.journal.specs.declared.opening.Opening.{Opening}
use Rattle.journal.specs.State.{Run}
use Rattle.journal.specs.Runs.{grant_in}
use Rattle.journal.specs.Fold.{state_of}
use Rattle.world_model.specs.declared.event.Event.{Event}
use Rattle.world_model.specs.declared.event.Event.TheVariants.{Post, Draw, Send, Report, Settle}
use Rattle.world_model.specs.declared.event.SentRun.{SentRun}
use Rattle.world_model.specs.Port.{PortFacts, answered_by, idle_port, settled_by}
use Rattle.world_model.specs.Sent.{sent_for}
use Rattle.world_model.specs.World.{WorldFacts, run_of}
use Rattle.world_model.specs.Guards.{can, in_run, is_posted}
use Rattle.world_model.specs.declared.event.Happened.TheVariants.{Blocked}
use Rattle.world_model.specs.Played.{AreTaken, is_taken, turn, units_sent}
use Rattle.world_model.specs.Steps.{answered, happened, moved, posted, world_after, world_of}
use Rattle.world_model.proofs.PortSteps.{mkp}
use Rattle.world_model.proofs.SendSteps.{both_true, sent_more}

abbrev pub mkw : Opening → List Entry → ℕ → List PortFacts → List SentRun → WorldFacts
mkw o j a xs s = record { opening = o; journal = j; agents = a; ports = xs; sent = s }

-- ---- lists of steps

-- the step is taken, and makes the second world
pub record IsStep (w : WorldFacts) (e : Event) (v : WorldFacts) : Type 0 where
  pub taken : is_taken (happened w e) ≡ true
  pub goes : world_after w e ≡ v

-- each of the steps is taken, and they make the second world
pub record AreSteps (w : WorldFacts) (es : List Event) (v : WorldFacts) : Type 0 where
  pub taken : AreTaken w es
  pub goes : world_of w es ≡ v

pub step_is : (w v : WorldFacts) (e : Event) → can w e ≡ true → is_taken (answered w e) ≡ true → moved w e ≡ v → IsStep w e v
step_is w v e may taken goes = record {
  taken = ap (λ (b : Bool). is_taken (if b then answered w e else Blocked)) may ∙ taken;
  goes = ap (λ (b : Bool). if b then moved w e else w) may ∙ goes;
}

pub no_steps : (w v : WorldFacts) → w ≡ v → AreSteps w [] v
no_steps w v same = record { taken = tt; goes = same }

pub step_then : (w v u : WorldFacts) (e : Event) (es : List Event) → IsStep w e v → AreSteps v es u → AreSteps w (e ∷ es) u
step_then w v u e es one rest = record {
  taken = (one.taken, subst (λ x. AreTaken x es) (sym one.goes) rest.taken);
  goes = ap (λ x. world_of x es) one.goes ∙ rest.goes;
}

pub steps_then : (w v u : WorldFacts) (es more : List Event) → AreSteps w es v → AreSteps v more u → AreSteps w (es ++ more) u
steps_then w v u [] more some rest = subst (λ x. AreSteps x more u) (sym some.goes) rest
steps_then w v u (e ∷ es) more some rest =
    let both = steps_then (world_after w e) v u es more (record { taken = some.taken.1; goes = some.goes }) rest in
    record { taken = (some.taken.0, both.taken); goes = both.goes }

-- ---- one port

-- the second ports are the first ones, but for this one
pub record IsSet (xs ys : List PortFacts) (p : ℕ) (x : PortFacts) : Type 0 where
  pub here : get_or ys p idle_port ≡ x
  pub others : (q : ℕ) → q ≢ p → get_or ys q idle_port ≡ get_or xs q idle_port
  pub wide : length ys ≡ length xs

set_first : (xs : List PortFacts) (p : ℕ) (x : PortFacts) → p < length xs → IsSet xs (slice_set xs p x) p x
set_first xs p x lt = record { here = get_or-set_same xs p x idle_port lt; others = λ q ne. get_or-set_other xs p q x idle_port ne; wide = length-set xs p x }

set_again : (xs ys : List PortFacts) (p : ℕ) (x y : PortFacts) → p < length xs → IsSet xs ys p x → IsSet xs (slice_set ys p y) p y
set_again xs ys p x y lt h = record {
  here = get_or-set_same ys p y idle_port (omega (arith, lt, h.wide));
  others = λ q ne. get_or-set_other ys p q y idle_port ne ∙ h.others q ne;
  wide = length-set ys p y ∙ h.wide;
}

-- ---- each step

post_goes : (o : Opening) (j : List Entry) (a : ℕ) (xs : List PortFacts) (s : List SentRun) (r : Run) (p f : ℕ) → p < o.table.ports → (state_of o j).run ≡ Some r →
    grant_in o.table.flows r.granted p ≡ Some f → (get_or xs p idle_port).slot ≢ r.first → (get_or xs p idle_port).settled ≡ None →
    IsStep (mkw o j a xs s) (Post p) (mkw o j a (slice_set xs p (mkp r.first f granted r.slots None)) s)
post_goes o j a xs s r p f lt open' grant fresh none =
    let w = mkw o j a xs s in
    let x = get_or xs p idle_port in
    let test = λ (r : Run). is_some (grant_in o.table.flows r.granted p) && not (is_posted r x) in
    let may : in_run (run_of w) test ≡ true =
    ap (λ (y : Option Run). in_run y test) open' ∙ and_from (is_some (grant_in o.table.flows r.granted p)) (not (x.slot == r.first)) (ap (λ (g : Option ℕ). is_some g) grant)
    (ap not (ne_eqb x.slot r.first fresh)) in
    step_is w (mkw o j a (slice_set xs p (mkp r.first f granted r.slots None)) s) (Post p)
    (and_from (nat_lt p o.table.ports) (in_run (run_of w) test) (lt-ltb p o.table.ports lt) may) refl
    (ap (λ (y : Option Run). posted w p y) open' ∙ ap (λ (g : Option ℕ). mkw o j a (slice_set xs p (mkp r.first (unwrap_or g 0) granted r.slots x.settled)) s) grant
    ∙ ap (λ (t : Option ℕ). mkw o j a (slice_set xs p (mkp r.first f granted r.slots t)) s) none)

draw_goes : (o : Opening) (j : List Entry) (a : ℕ) (xs : List PortFacts) (s : List SentRun) (m p slot f count : ℕ) → p < o.table.ports → m < a →
    get_or xs p idle_port ≡ mkp slot f granted count None →
    IsStep (mkw o j a xs s) (Draw m p) (mkw o j a (slice_set xs p (mkp slot f (drawn m) count None)) s)
draw_goes o j a xs s m p slot f count lt some here =
    let w = mkw o j a xs s in
    let x = get_or xs p idle_port in
    step_is w (mkw o j a (slice_set xs p (mkp slot f (drawn m) count None)) s) (Draw m p)
    (and_from (nat_lt p o.table.ports) (nat_lt m a && is_granted x.stage) (lt-ltb p o.table.ports lt)
    (and_from (nat_lt m a) (is_granted x.stage) (lt-ltb m a some) (ap (λ (y : PortFacts). is_granted y.stage) here))) refl
    (ap (λ (y : PortFacts). mkw o j a (slice_set xs p (record y { stage = drawn m })) s) here)

drawn_by : (m : ℕ) (x y : PortFacts) → x ≡ y → y.stage ≡ drawn m → is_drawn_by m x.stage ≡ true
drawn_by m x y here is = ap (λ (z : PortFacts). is_drawn_by m z.stage) here ∙ ap (is_drawn_by m) is ∙ eq-eqb m m refl

send_goes : (o : Opening) (j : List Entry) (a : ℕ) (xs : List PortFacts) (s : List SentRun) (m p slot f count n : ℕ) → p < o.table.ports → m < a →
    get_or xs p idle_port ≡ mkp slot f (drawn m) count None →
    sent_for s p slot ≡ 0 → 0 < n → n ≤ count → IsStep (mkw o j a xs s) (Send m p n) (mkw o j a xs (s ++ record { slot = slot; flow = f; units = n; port = p } ∷ []))
send_goes o j a xs s m p slot f count n lt some here unsent units fits =
    let w = mkw o j a xs s in
    let x = get_or xs p idle_port in
    let free : (sent_for s p x.slot == 0) ≡ true = eq-eqb (sent_for s p x.slot) 0 (ap (λ (y : PortFacts). sent_for s p y.slot) here ∙ unsent) in
    let few : nat_le n x.count ≡ true = le-leb n x.count (omega (arith, fits, ap (λ (y : PortFacts). y.count) here)) in
    step_is w (mkw o j a xs (s ++ record { slot = slot; flow = f; units = n; port = p } ∷ [])) (Send m p n)
    (and_from (nat_lt p o.table.ports) (nat_lt m a && (is_drawn_by m x.stage && ((sent_for s p x.slot == 0) && (nat_lt 0 n && nat_le n x.count)))) (lt-ltb p o.table.ports lt)
    (and_from (nat_lt m a) (is_drawn_by m x.stage && ((sent_for s p x.slot == 0) && (nat_lt 0 n && nat_le n x.count))) (lt-ltb m a some)
    (and_from (is_drawn_by m x.stage) ((sent_for s p x.slot == 0) && (nat_lt 0 n && nat_le n x.count)) (drawn_by m x (mkp slot f (drawn m) count None) here refl)
    (and_from (sent_for s p x.slot == 0) (nat_lt 0 n && nat_le n x.count) free (and_from (nat_lt 0 n) (nat_le n x.count) (lt-ltb 0 n units) few))))) refl
    (ap (λ (y : PortFacts). mkw o j a xs (s ++ record { slot = y.slot; flow = y.flow; units = n; port = p } ∷ [])) here)

report_goes : (o : Opening) (j : List Entry) (a : ℕ) (xs : List PortFacts) (s : List SentRun) (m p slot f count n : ℕ) → p < o.table.ports → m < a →
    get_or xs p idle_port ≡ mkp slot f (drawn m) count None →
    sent_for s p slot ≡ n → IsStep (mkw o j a xs s) (Report m p) (mkw o j a (slice_set xs p (mkp slot f (reported m n) n None)) s)
report_goes o j a xs s m p slot f count n lt some here sent =
    let w = mkw o j a xs s in
    let x = get_or xs p idle_port in
    step_is w (mkw o j a (slice_set xs p (mkp slot f (reported m n) n None)) s) (Report m p)
    (and_from (nat_lt p o.table.ports) (nat_lt m a && is_drawn_by m x.stage) (lt-ltb p o.table.ports lt)
    (and_from (nat_lt m a) (is_drawn_by m x.stage) (lt-ltb m a some) (drawn_by m x (mkp slot f (drawn m) count None) here refl))) refl
    (ap (λ (y : PortFacts). mkw o j a (slice_set xs p (record y { stage = reported m (sent_for s p y.slot); count = sent_for s p y.slot })) s) here
    ∙ ap (λ k. mkw o j a (slice_set xs p (mkp slot f (reported m k) k None)) s) sent)

settle_goes : (o : Opening) (j : List Entry) (a : ℕ) (xs : List PortFacts) (s : List SentRun) (r : Run) (m p f n : ℕ) → p < o.table.ports → (state_of o j).run ≡ Some r →
    get_or xs p idle_port ≡ mkp r.first f (reported m n) n None →
    IsStep (mkw o j a xs s) (Settle p) (mkw o j a (slice_set xs p (mkp r.first f (reported m n) n (Some n))) s)
settle_goes o j a xs s r m p f n lt open' here =
    let w = mkw o j a xs s in
    let x = get_or xs p idle_port in
    let test = λ (r : Run). is_posted r x && is_none x.settled in
    let may : in_run (run_of w) test ≡ true =
    ap (λ (y : Option Run). in_run y test) open'
    ∙ and_from (x.slot == r.first) (is_none x.settled) (eq-eqb x.slot r.first (ap (λ (y : PortFacts). y.slot) here)) (ap (λ (y : PortFacts). is_none y.settled) here) in
    step_is w (mkw o j a (slice_set xs p (mkp r.first f (reported m n) n (Some n))) s) (Settle p)
    (and_from (nat_lt p o.table.ports) (in_run (run_of w) test) (lt-ltb p o.table.ports lt) may)
    (ap (λ (y : PortFacts). is_taken (answered_by y y.stage)) here)
    (ap (λ (y : PortFacts). mkw o j a (slice_set xs p (settled_by y y.stage)) s) here)

-- ---- all of them

-- the units are sent where there are any
sent_steps : (o : Opening) (j : List Entry) (a : ℕ) (xs : List PortFacts) (s : List SentRun) (m p slot f count n : ℕ) (b : Bool) → (n == 0) ≡ b → p < o.table.ports → m < a →
    get_or xs p idle_port ≡ mkp slot f (drawn m) count None → sent_for s p slot ≡ 0 → n ≤ count →
    AreSteps (mkw o j a xs s) (if b then [] else Send m p n ∷ []) (mkw o j a xs (s ++ (if b then [] else record { slot = slot; flow = f; units = n; port = p } ∷ [])))
    × (sent_for (s ++ (if b then [] else record { slot = slot; flow = f; units = n; port = p } ∷ [])) p slot ≡ n)
sent_steps o j a xs s m p slot f count n true none lt some here unsent fits = (
  no_steps (mkw o j a xs s) (mkw o j a xs (s ++ [])) (ap (λ (l : List SentRun). mkw o j a xs l) (sym (append-nil s))),
  omega (arith, unsent, eqb-true n 0 none, ap (λ (l : List SentRun). sent_for l p slot) (append-nil s)),
)
sent_steps o j a xs s m p slot f count n false any' lt some here unsent fits =
    let x : SentRun = record { slot = slot; flow = f; units = n; port = p } in
    let v = mkw o j a xs (s ++ x ∷ []) in (
      step_then (mkw o j a xs s) v v (Send m p n) [] (send_goes o j a xs s m p slot f count n lt some here unsent (omega (arith, eqb-false n 0 any')) fits) (no_steps v v refl),
      omega (arith, sent_more s x p slot, unsent, ap {B = ℕ} (λ b. if b then n else 0) (both_true p p slot slot refl refl)),
    )

abbrev turn_by : Bool → ℕ → ℕ → ℕ → List Event
turn_by b m p n = Post p ∷ Draw m p ∷ ((if b then [] else Send m p n ∷ []) ++ (Report m p ∷ Settle p ∷ []))

-- after the turn the port is settled with what was sent
pub record IsTurn (o : Opening) (j : List Entry) (a : ℕ) (xs : List PortFacts) (s : List SentRun) (slot m p f n : ℕ) : Type 0 where
  pub ys : List PortFacts
  pub goes : AreSteps (mkw o j a xs s) (turn m p n) (mkw o j a ys (s ++ units_sent slot f p n))
  pub set : IsSet xs ys p (mkp slot f (reported m n) n (Some n))

turn_is : (o : Opening) (j : List Entry) (a : ℕ) (xs : List PortFacts) (s : List SentRun) (r : Run) (m p f n : ℕ) (b : Bool) → (n == 0) ≡ b → p < o.table.ports →
    length xs ≡ o.table.ports → m < a →
    (state_of o j).run ≡ Some r → grant_in o.table.flows r.granted p ≡ Some f → (get_or xs p idle_port).slot ≢ r.first → (get_or xs p idle_port).settled ≡ None →
    sent_for s p r.first ≡ 0 → n ≤ r.slots →
    (ys : List PortFacts)
    × AreSteps (mkw o j a xs s) (turn_by b m p n) (mkw o j a ys (s ++ (if b then [] else record { slot = r.first; flow = f; units = n; port = p } ∷ [])))
    × IsSet xs ys p (mkp r.first f (reported m n) n (Some n))
turn_is o j a xs s r m p f n b none lt wide some open' grant fresh clear unsent fits =
    let low : p < length xs = omega (arith, lt, wide) in
    let x1 = mkp r.first f granted r.slots None in
    let x2 = mkp r.first f (drawn m) r.slots None in
    let x3 = mkp r.first f (reported m n) n None in
    let x4 = mkp r.first f (reported m n) n (Some n) in
    let xs1 = slice_set xs p x1 in
    let xs2 = slice_set xs1 p x2 in
    let xs3 = slice_set xs2 p x3 in
    let xs4 = slice_set xs3 p x4 in
    let h1 = set_first xs p x1 low in
    let h2 = set_again xs xs1 p x1 x2 low h1 in
    let h3 = set_again xs xs2 p x2 x3 low h2 in
    let w = λ (xs : List PortFacts) (s : List SentRun). mkw o j a xs s in
    let run : SentRun = record { slot = r.first; flow = f; units = n; port = p } in
    let t = s ++ (if b then [] else run ∷ []) in
    let sends : AreSteps (w xs2 s) (if b then [] else Send m p n ∷ []) (w xs2 t) × (sent_for t p r.first ≡ n) =
    sent_steps o j a xs2 s m p r.first f r.slots n b none lt some h2.here unsent fits in
    let last : AreSteps (w xs2 t) (Report m p ∷ Settle p ∷ []) (w xs4 t) =
    step_then (w xs2 t) (w xs3 t) (w xs4 t) (Report m p) (Settle p ∷ []) (report_goes o j a xs2 t m p r.first f r.slots n lt some h2.here sends.1)
    (step_then (w xs3 t) (w xs4 t) (w xs4 t) (Settle p) [] (settle_goes o j a xs3 t r m p f n lt open' h3.here) (no_steps (w xs4 t) (w xs4 t) refl)) in
    let rest = (if b then [] else Send m p n ∷ []) ++ (Report m p ∷ Settle p ∷ []) in (
      xs4,
      step_then (w xs s) (w xs1 s) (w xs4 t) (Post p) (Draw m p ∷ rest) (post_goes o j a xs s r p f lt open' grant fresh clear)
          (step_then (w xs1 s) (w xs2 s) (w xs4 t) (Draw m p) rest (draw_goes o j a xs1 s m p r.first f r.slots lt some h1.here)
          (steps_then (w xs2 s) (w xs2 t) (w xs4 t) (if b then [] else Send m p n ∷ []) (Report m p ∷ Settle p ∷ []) sends.0 last)),
      set_again xs xs3 p x3 x4 low h3,
    )

pub turned : (o : Opening) (j : List Entry) (a : ℕ) (xs : List PortFacts) (s : List SentRun) (r : Run) (m p f n : ℕ) → p < o.table.ports → length xs ≡ o.table.ports → m < a →
    (state_of o j).run ≡ Some r → grant_in o.table.flows r.granted p ≡ Some f → (get_or xs p idle_port).slot ≢ r.first → (get_or xs p idle_port).settled ≡ None →
    sent_for s p r.first ≡ 0 → n ≤ r.slots →
    IsTurn o j a xs s r.first m p f n
turned o j a xs s r m p f n lt wide some open' grant fresh clear unsent fits =
    let (ys, goes, set) = turn_is o j a xs s r m p f n (n == 0) refl lt wide some open' grant fresh clear unsent fits in
    record { ys = ys; goes = goes; set = set }
