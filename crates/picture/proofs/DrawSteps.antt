-- The stretches of a run, one flow more.
use Rattle.std.proofs.Common.{◌≡◌, ◌≢◌, ℕ, ◌+◌, ◌≤◌, ◌<◌, inl, inr, List, [], length, get_or, take, drop, Contains, refl, sym, subst, ◌∙◌, arith}
use Rattle.std.proofs.lemmas.List.{get_or-set_other, get_or-set_same, length-set, take-append-drop, take_all}
use Rattle.std.proofs.lemmas.List.Elements.{Contains-append_left}
use Rattle.coflow_units.specs.declared.fabric.Flow.{Flow}
use Rattle.coflow_units.specs.Flows.{coflow_of}
use Rattle.coflow_units.specs.Schedule.{IsClear}
use Rattle.coflow_units.proofs.Sums.{nothing_in}
use Rattle.schedule_model.specs.Repeat.{end_number}
use Rattle.schedule_model.proofs.Ascending.{above_earlier}
use Rattle.schedule_model.proofs.RepeatSteps.{in_earlier, in_here, in_more}
use Rattle.picture.specs.declared.value.Bar.{Bar}
use Rattle.picture.specs.declared.value.Window.{Window}
use Rattle.picture.specs.Drawing.{Grows, IsDrawn, Keeps, row_at, with_row}
use Rattle.picture.proofs.RunServes.{one_at_port}

-- what the drawing of the flows so far says of all bars
abbrev pub DrawsTo : List Flow → List ℕ → Window → List (List Bar) → ℕ → List (List Bar) → ℕ → Type 0
DrawsTo flows numbers window old old_count new new_count =
    (all : List (List Bar)) → Keeps all old old_count → (more : List (List Bar)) × Keeps more new new_count × IsDrawn flows numbers window all more

pub nothing_drawn : (flows : List Flow) (window : Window) (rows : List (List Bar)) (count : ℕ) → DrawsTo flows [] window rows count rows count
nothing_drawn flows window rows count all keeps =
    (all, keeps, record { row_each = refl; used = λ f has. absurd (nothing_in f has); other = λ port none. refl })

in_all : (xs : List ℕ) (k f : ℕ) → Contains (take k xs) f → Contains xs f
in_all xs k f has = subst (λ l. Contains l f) (take-append-drop k xs) (Contains-append_left (take k xs) (drop k xs) f has)

one_more : (flows : List Flow) (numbers : List ℕ) (k : ℕ) (window : Window) (all more : List (List Bar)) (row : List Bar) → IsClear flows numbers → k < length numbers →
    end_number flows window.side (get_or numbers k 0) < length more →
    IsDrawn flows (take k numbers) window all more →
    Grows (row_at more (end_number flows window.side (get_or numbers k 0))) record { coflow = coflow_of flows (get_or numbers k 0); first = window.first; last = window.last } row →
    IsDrawn flows (take (k + 1) numbers) window all (with_row more (end_number flows window.side (get_or numbers k 0)) row)
one_more flows numbers k window all more row clear lt inside drawn grows =
    let x = get_or numbers k 0 in
    let p = end_number flows window.side x in
    let apart : (f : ℕ) → Contains (take k numbers) f → end_number flows window.side f ≢ p =
    λ f has e. let below : f < x = above_earlier numbers k f clear.ascending lt has in
    omega (arith, below, one_at_port flows numbers window.side f x clear (in_all numbers k f has) (in_all numbers (k + 1) x (in_here numbers k lt)) e) in
    let here : row_at (with_row more p row) p ≡ row = get_or-set_same more p row [] inside in
    record {
      row_each = length-set more p row ∙ drawn.row_each;
      used = λ f has. elim (in_more numbers k f lt has) [
        | inl h ↦
            subst (Grows (row_at all (end_number flows window.side f)) record { coflow = coflow_of flows f; first = window.first; last = window.last })
            (sym (get_or-set_other more p (end_number flows window.side f) row [] (apart f h))) (drawn.used f h)
        | inr e ↦
            subst
            (λ g. Grows (row_at all (end_number flows window.side g)) record { coflow = coflow_of flows g; first = window.first; last = window.last }
            (row_at (with_row more p row) (end_number flows window.side g))) e
            (subst (Grows (row_at all p) record { coflow = coflow_of flows x; first = window.first; last = window.last }) (sym here)
            (subst (λ r. Grows r record { coflow = coflow_of flows x; first = window.first; last = window.last } row) (drawn.other p apart) grows))
      ];
      other = λ port none.
          let not_here : port ≢ p = λ e. none x (in_here numbers k lt) (sym e) in
          get_or-set_other more p port row [] not_here ∙ drawn.other port (λ f has. none f (in_earlier numbers k f lt has));
    }

pub draw_more : (flows : List Flow) (numbers : List ℕ) (k p : ℕ) (window : Window) (old now new : List (List Bar)) (old_count now_count new_count : ℕ) → IsClear flows numbers →
    k < length numbers → p ≡ end_number flows window.side (get_or numbers k 0) → p < length now → DrawsTo flows (take k numbers) window old old_count now now_count →
    ((all : List (List Bar)) → Keeps all now now_count →
    (row : List Bar) × Grows (row_at all p) record { coflow = coflow_of flows (get_or numbers k 0); first = window.first; last = window.last } row ×
    Keeps (with_row all p row) new new_count) →
    DrawsTo flows (take (k + 1) numbers) window old old_count new new_count
draw_more flows numbers k p window old now new old_count now_count new_count clear lt at inside so_far step all keeps =
    let (more, kept, drawn) = so_far all keeps in
    let (row, grows, after) = step more kept in
    let stretch : Bar = record { coflow = coflow_of flows (get_or numbers k 0); first = window.first; last = window.last } in
    let q = end_number flows window.side (get_or numbers k 0) in (
      with_row more p row,
      after,
      subst (λ x. IsDrawn flows (take (k + 1) numbers) window all (with_row more x row)) (sym at)
          (one_more flows numbers k window all more row clear lt (omega (arith, inside, kept.row_each, at)) drawn (subst (λ x. Grows (row_at more x) stretch row) at grows)),
    )

pub draw_whole : (flows : List Flow) (numbers : List ℕ) (k : ℕ) (window : Window) (old now : List (List Bar)) (old_count now_count : ℕ) → length numbers ≤ k →
    DrawsTo flows (take k numbers) window old old_count now now_count → DrawsTo flows numbers window old old_count now now_count
draw_whole flows numbers k window old now old_count now_count le so_far = subst (λ s. DrawsTo flows s window old old_count now now_count) (take_all k numbers le) so_far
