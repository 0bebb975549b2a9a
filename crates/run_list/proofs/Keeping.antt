-- The runs that marks and numbers tell.
use Rattle.std.proofs.Common.{◌≡◌, ℕ, ◌+◌, ◌≤◌, ◌<◌, List, [], ◌∷◌, ◌++◌, length, get_or, set, take, drop, zero, suc, refl, sym, ap, subst, ◌∙◌, arith}
use Rattle.std.specs.Prelude.{All}
use Rattle.std.specs.List.Sorted.{IsStrictlyIncreasing}
use Rattle.std.proofs.lemmas.List.Elements.{All-push, All-same, All-set}
use Rattle.std.proofs.lemmas.List.{drop-append-le, length-drop, nil_from_length, take_all, take-append-drop, take-append-le}
use Rattle.std.proofs.lemmas.List.Sums.{sum_by-cons, sum_by-set, sum_by_push}
use Rattle.coflow_units.specs.declared.plan.Run.{Run}
use Rattle.run_list.specs.declared.mark.Mark.{Mark}
use Rattle.run_list.specs.Kept.{DoAscend, IsKept, flows_of, last_of, runs_of, size_of, told}
use Rattle.run_list.specs.Runs.{longer, run_of}

pub size_of-cons : (mark : Mark) (marks : List Mark) → size_of (mark ∷ marks) ≡ mark.size + size_of marks
size_of-cons mark marks = sum_by-cons (λ (m : Mark). m.size) mark marks

pub length-runs_of : (before : List ℕ) (marks : List Mark) (numbers : List ℕ) → length (runs_of before marks numbers) ≡ length marks
length-runs_of before [] numbers = refl
length-runs_of before (mark ∷ marks) numbers = ap suc (length-runs_of (flows_of before mark numbers) marks (drop mark.size numbers))

pub runs_of-push : (before : List ℕ) (marks : List Mark) (numbers : List ℕ) (mark : Mark) (more : List ℕ) → size_of marks ≡ length numbers →
    runs_of before (marks ++ mark ∷ []) (numbers ++ more) ≡ runs_of before marks numbers ++ run_of mark.slots (flows_of (last_of before marks numbers) mark more) ∷ []
runs_of-push before [] numbers mark more sizes = rw (nil_from_length numbers (sym sizes)) refl
runs_of-push before (m ∷ ms) numbers mark more sizes =
    let split = size_of-cons m ms in
    let fits : m.size ≤ length numbers = omega arith in
    let left : size_of ms ≡ length (drop m.size numbers) = omega (arith, length-drop m.size numbers) in
    rw (take-append-le m.size numbers more fits, drop-append-le m.size numbers more fits)
    (ap (λ (runs : List Run). run_of m.slots (flows_of before m numbers) ∷ runs) (runs_of-push (flows_of before m numbers) ms (drop m.size numbers) mark more left))

pub last_of-push : (before : List ℕ) (marks : List Mark) (numbers : List ℕ) (mark : Mark) (more : List ℕ) → size_of marks ≡ length numbers →
    last_of before (marks ++ mark ∷ []) (numbers ++ more) ≡ flows_of (last_of before marks numbers) mark more
last_of-push before [] numbers mark more sizes = rw (nil_from_length numbers (sym sizes)) refl
last_of-push before (m ∷ ms) numbers mark more sizes =
    let split = size_of-cons m ms in
    let fits : m.size ≤ length numbers = omega arith in
    let left : size_of ms ≡ length (drop m.size numbers) = omega (arith, length-drop m.size numbers) in
    ap (λ (ns : List ℕ). last_of (told before m.whole ns) (ms ++ mark ∷ []) (drop m.size (numbers ++ more))) (take-append-le m.size numbers more fits)
    ∙ ap (λ (ns : List ℕ). last_of (flows_of before m numbers) (ms ++ mark ∷ []) ns) (drop-append-le m.size numbers more fits)
    ∙ last_of-push (flows_of before m numbers) ms (drop m.size numbers) mark more left

-- the slots of a run stand in its mark
pub slots_at : (before : List ℕ) (marks : List Mark) (numbers : List ℕ) (k : ℕ) (run : Run) (mark : Mark) → k < length marks →
    (get_or (runs_of before marks numbers) k run).length ≡ (get_or marks k mark).slots
slots_at before [] numbers k run mark lt = absurd (omega arith)
slots_at before (m ∷ ms) numbers zero run mark lt = refl
slots_at before (m ∷ ms) numbers (suc k) run mark lt = slots_at (flows_of before m numbers) ms (drop m.size numbers) k run mark (omega arith)

-- the flows of the last run
pub last_at : (before : List ℕ) (marks : List Mark) (numbers : List ℕ) (k : ℕ) (run : Run) → k + 1 ≡ length marks →
    (get_or (runs_of before marks numbers) k run).flows ≡ last_of before marks numbers
last_at before [] numbers k run e = absurd (omega arith)
last_at before (m ∷ []) numbers zero run e = refl
last_at before (m ∷ []) numbers (suc k) run e = absurd (omega arith)
last_at before (m ∷ (n ∷ ns)) numbers zero run e = absurd (omega arith)
last_at before (m ∷ (n ∷ ns)) numbers (suc k) run e = last_at (flows_of before m numbers) (n ∷ ns) (drop m.size numbers) k run (omega arith)

-- a mark with more slots
abbrev pub with_slots : Mark → ℕ → Mark
with_slots mark slots = record mark { slots = mark.slots + slots }

pub runs_of-set : (before : List ℕ) (marks : List Mark) (numbers : List ℕ) (k : ℕ) (run : Run) (mark : Mark) (slots : ℕ) → k < length marks →
    runs_of before (set marks k (with_slots (get_or marks k mark) slots)) numbers
    ≡ set (runs_of before marks numbers) k (longer (get_or (runs_of before marks numbers) k run) slots)
runs_of-set before [] numbers k run mark slots lt = absurd (omega arith)
runs_of-set before (m ∷ ms) numbers zero run mark slots lt = refl
runs_of-set before (m ∷ ms) numbers (suc k) run mark slots lt =
    ap (λ (runs : List Run). run_of m.slots (flows_of before m numbers) ∷ runs) (runs_of-set (flows_of before m numbers) ms (drop m.size numbers) k run mark slots (omega arith))

pub last_of-set : (before : List ℕ) (marks : List Mark) (numbers : List ℕ) (k : ℕ) (mark : Mark) (slots : ℕ) → k < length marks →
    last_of before (set marks k (with_slots (get_or marks k mark) slots)) numbers ≡ last_of before marks numbers
last_of-set before [] numbers k mark slots lt = absurd (omega arith)
last_of-set before (m ∷ ms) numbers zero mark slots lt = refl
last_of-set before (m ∷ ms) numbers (suc k) mark slots lt = last_of-set (flows_of before m numbers) ms (drop m.size numbers) k mark slots (omega arith)

pub size_of-set : (marks : List Mark) (k : ℕ) (mark : Mark) (slots : ℕ) → k < length marks → size_of (set marks k (with_slots (get_or marks k mark) slots)) ≡ size_of marks
size_of-set marks k mark slots lt = omega (arith, sum_by-set (λ (m : Mark). m.size) marks k (with_slots (get_or marks k mark) slots) mark lt)

-- the flows of the last run of a list that is kept
pub last_flows : (marks : List Mark) (numbers last : List ℕ) (widest bound : ℕ) (runs : List Run) (k : ℕ) (run : Run) → IsKept marks numbers last widest bound →
    runs_of [] marks numbers ≡ runs → k + 1 ≡ length runs → (get_or runs k run).flows ≡ last
last_flows marks numbers last widest bound runs k run is seen e =
    let at : k + 1 ≡ length marks = omega (arith, length-runs_of [] marks numbers, ap length seen) in
    rw (← seen) (last_at [] marks numbers k run at) ∙ is.last_is

-- a list that begins with another one is it and the rest
split_at : (olds news : List ℕ) → take (length olds) news ≡ olds → news ≡ olds ++ drop (length olds) news
split_at olds news front = sym (take-append-drop (length olds) news) ∙ ap (λ (zs : List ℕ). zs ++ drop (length olds) news) front

-- the runs, where one was appended
pub runs_after : (marks : List Mark) (numbers last : List ℕ) (widest bound : ℕ) (mark : Mark) (flows news : List ℕ) → IsKept marks numbers last widest bound →
    take (length numbers) news ≡ numbers → flows_of last mark (drop (length numbers) news) ≡ flows →
    runs_of [] (marks ++ mark ∷ []) news ≡ runs_of [] marks numbers ++ run_of mark.slots flows ∷ []
runs_after marks numbers last widest bound mark flows news is front told =
    let more : List ℕ = drop (length numbers) news in
    ap (runs_of [] (marks ++ mark ∷ [])) (split_at numbers news front) ∙ runs_of-push [] marks numbers mark more is.told.sizes
    ∙ ap (λ (before : List ℕ). runs_of [] marks numbers ++ run_of mark.slots (flows_of before mark more) ∷ []) is.last_is
    ∙ ap (λ (fs : List ℕ). runs_of [] marks numbers ++ run_of mark.slots fs ∷ []) told

-- the numbers of each mark ascend, where a mark was appended
DoAscend-push : (marks : List Mark) (numbers : List ℕ) (mark : Mark) (more : List ℕ) → size_of marks ≡ length numbers → DoAscend marks numbers →
    IsStrictlyIncreasing (take mark.size more) → DoAscend (marks ++ mark ∷ []) (numbers ++ more)
DoAscend-push [] numbers mark more sizes is up = rw (nil_from_length numbers (sym sizes)) (up, tt)
DoAscend-push (m ∷ ms) numbers mark more sizes is up =
    let split = size_of-cons m ms in
    let fits : m.size ≤ length numbers = omega arith in
    let left : size_of ms ≡ length (drop m.size numbers) = omega (arith, length-drop m.size numbers) in (
      subst IsStrictlyIncreasing (sym (take-append-le m.size numbers more fits)) is.0,
      subst (DoAscend (ms ++ mark ∷ [])) (sym (drop-append-le m.size numbers more fits)) (DoAscend-push ms (drop m.size numbers) mark more left is.1 up),
    )

DoAscend-set : (marks : List Mark) (numbers : List ℕ) (k : ℕ) (mark : Mark) (slots : ℕ) → k < length marks → DoAscend marks numbers →
    DoAscend (set marks k (with_slots (get_or marks k mark) slots)) numbers
DoAscend-set [] numbers k mark slots lt is = absurd (omega arith)
DoAscend-set (m ∷ ms) numbers zero mark slots lt is = is
DoAscend-set (m ∷ ms) numbers (suc k) mark slots lt is = (is.0, DoAscend-set ms (drop m.size numbers) k mark slots (omega arith) is.1)

pushed_ascends : (marks : List Mark) (numbers news : List ℕ) (mark : Mark) → size_of marks ≡ length numbers → DoAscend marks numbers → take (length numbers) news ≡ numbers →
    length numbers + mark.size ≡ length news → IsStrictlyIncreasing (drop (length numbers) news) → DoAscend (marks ++ mark ∷ []) news
pushed_ascends marks numbers news mark sizes is front size up =
    let more : List ℕ = drop (length numbers) news in
    let all : take mark.size more ≡ more = take_all mark.size more (omega (arith, length-drop (length numbers) news)) in
    subst (DoAscend (marks ++ mark ∷ [])) (sym (split_at numbers news front)) (DoAscend-push marks numbers mark more sizes is (subst IsStrictlyIncreasing (sym all) up))

-- the flows of a run are below the bound
abbrev IsBelow : ℕ → Run → Type 0
IsBelow bound run = All (λ f. f < bound) run.flows

below_more : (runs : List Run) (bound above : ℕ) → bound ≤ above → All (IsBelow bound) runs → All (IsBelow above) runs
below_more runs bound above le is = λ k run lt i d inside. omega (arith, is k run lt i d inside)

pub IsKept-push : (marks : List Mark) (numbers last : List ℕ) (widest bound : ℕ) (mark : Mark) (flows news : List ℕ) (wide above : ℕ) → IsKept marks numbers last widest bound →
    take (length numbers) news ≡ numbers → length numbers + mark.size ≡ length news → flows_of last mark (drop (length numbers) news) ≡ flows → IsStrictlyIncreasing flows →
    IsStrictlyIncreasing (drop (length numbers) news) → widest ≤ wide → length flows ≤ wide → bound ≤ above → All (λ f. f < above) flows →
    IsKept (marks ++ mark ∷ []) news flows wide above
IsKept-push marks numbers last widest bound mark flows news wide above is front size told up ascends more fits higher below =
    let runs = runs_after marks numbers last widest bound mark flows news is front told in
    let ascending : Run → Type 0 = λ run. IsStrictlyIncreasing run.flows in
    let within : Run → Type 0 = λ run. length run.flows ≤ wide in
    let new : Run = run_of mark.slots flows in
    record {
      told = record {
        sizes = omega (arith, sum_by_push (λ (m : Mark). m.size) marks mark, is.told.sizes);
        numbers_ascend = pushed_ascends marks numbers news mark is.told.sizes is.told.numbers_ascend front size ascends;
        ascending = All-same ascending (runs_of [] (marks ++ mark ∷ []) news) (runs_of [] marks numbers ++ new ∷ []) runs
            (All-push ascending (runs_of [] marks numbers) new is.told.ascending up);
        within = All-same within (runs_of [] (marks ++ mark ∷ []) news) (runs_of [] marks numbers ++ new ∷ []) runs
            (All-push within (runs_of [] marks numbers) new (λ k run lt. omega (arith, is.told.within k run lt)) fits);
      };
      below = All-same (IsBelow above) (runs_of [] (marks ++ mark ∷ []) news) (runs_of [] marks numbers ++ new ∷ []) runs
          (All-push (IsBelow above) (runs_of [] marks numbers) new (below_more (runs_of [] marks numbers) bound above higher is.below) below);
      last_is = ap (last_of [] (marks ++ mark ∷ [])) (split_at numbers news front) ∙ last_of-push [] marks numbers mark (drop (length numbers) news) is.told.sizes
          ∙ ap (λ (before : List ℕ). flows_of before mark (drop (length numbers) news)) is.last_is ∙ told;
      last_ascends = up;
    }

pub IsKept-set : (marks : List Mark) (numbers last : List ℕ) (widest bound k : ℕ) (run : Run) (mark : Mark) (slots : ℕ) → IsKept marks numbers last widest bound → k < length marks →
    IsKept (set marks k (with_slots (get_or marks k mark) slots)) numbers last widest bound
IsKept-set marks numbers last widest bound k run mark slots is lt =
    let changed : List Mark = set marks k (with_slots (get_or marks k mark) slots) in
    let old : List Run = runs_of [] marks numbers in
    let at : Run = get_or old k run in
    let inside : k < length old = omega (arith, length-runs_of [] marks numbers) in
    let runs = runs_of-set [] marks numbers k run mark slots lt in
    let ascending : Run → Type 0 = λ r. IsStrictlyIncreasing r.flows in
    let within : Run → Type 0 = λ r. length r.flows ≤ widest in
    record {
      told = record {
        sizes = size_of-set marks k mark slots lt ∙ is.told.sizes;
        numbers_ascend = DoAscend-set marks numbers k mark slots lt is.told.numbers_ascend;
        ascending = All-same ascending (runs_of [] changed numbers) (set old k (longer at slots)) runs
            (All-set ascending old k (longer at slots) (is.told.ascending k run inside) is.told.ascending);
        within = All-same within (runs_of [] changed numbers) (set old k (longer at slots)) runs
            (All-set within old k (longer at slots) (is.told.within k run inside) is.told.within);
      };
      below = All-same (IsBelow bound) (runs_of [] changed numbers) (set old k (longer at slots)) runs
          (All-set (IsBelow bound) old k (longer at slots) (is.below k run inside) is.below);
      last_is = last_of-set [] marks numbers k mark slots lt ∙ is.last_is;
      last_ascends = is.last_ascends;
    }

-- what is kept, and the runs, where the mark at k gets more slots
pub IsKept-lengthened : (marks : List Mark) (numbers last : List ℕ) (widest bound k : ℕ) (mark : Mark) (slots : ℕ) → IsKept marks numbers last widest bound → k < length marks →
    mark ≡ get_or marks k mark → IsKept (set marks k (with_slots mark slots)) numbers last widest bound
IsKept-lengthened marks numbers last widest bound k mark slots is lt e =
    subst (λ (m : Mark). IsKept (set marks k (with_slots m slots)) numbers last widest bound) (sym e) (IsKept-set marks numbers last widest bound k (run_of 0 []) mark slots is lt)

pub runs_lengthened : (marks : List Mark) (numbers : List ℕ) (runs : List Run) (i k : ℕ) (run : Run) (mark : Mark) (slots : ℕ) → runs_of [] marks numbers ≡ runs →
    i + 1 ≡ length marks → mark ≡ get_or marks i mark → k + 1 ≡ length runs →
    runs_of [] (set marks i (with_slots mark slots)) numbers ≡ set runs k (longer (get_or runs k run) slots)
runs_lengthened marks numbers runs i k run mark slots seen last e at =
    let same : k ≡ i = omega (arith, length-runs_of [] marks numbers, ap length seen) in
    ap (λ (m : Mark). runs_of [] (set marks i (with_slots m slots)) numbers) e ∙ runs_of-set [] marks numbers i run mark slots (omega arith)
    ∙ ap (λ (rs : List Run). set rs i (longer (get_or rs i run) slots)) seen ∙ ap (λ (n : ℕ). set runs n (longer (get_or runs n run) slots)) (sym same)

-- the slots of the last run
pub last_slots : (marks : List Mark) (numbers : List ℕ) (runs : List Run) (i : ℕ) (run : Run) (mark : Mark) → runs_of [] marks numbers ≡ runs → i + 1 ≡ length marks →
    mark ≡ get_or marks i mark → (get_or runs i run).length ≡ mark.slots
last_slots marks numbers runs i run mark seen last e =
    rw (← seen) (slots_at [] marks numbers i run mark (omega arith)) ∙ ap (λ (m : Mark). m.slots) (sym e)
