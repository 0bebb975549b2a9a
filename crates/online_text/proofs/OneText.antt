-- A text is that of one online run at most.
use Rattle.std.proofs.Common.{◌≡◌, ℕ, suc, List, [], ◌∷◌, ◌++◌, append_assoc, length, map, drop, refl, sym, ap, subst, ◌∙◌, arith}
use Rattle.std.specs.Prelude.{All, codes}
use Rattle.std.specs.List.{flat_map, range_with_len}
use Rattle.coflow_units.proofs.Fronts.{head_of}
use Rattle.report_text.specs.Text.{bound_line, cost_line, run_line}
use Rattle.report_text.proofs.DraftText.{runs_first}
use Rattle.report_text.proofs.LineLists.{AllFirst, all_first, both_ended, first, tail_is}
use Rattle.report_text.proofs.LineText.{front_is_line}
use Rattle.report_text.proofs.NumberText.{decimal_one}
use Rattle.report_text.proofs.OneLine.{both_lines, runs_lines, total_one}
use Rattle.report_text.proofs.ReadingText.{AreLines}
use Rattle.report_text.proofs.TextLaws.{lines_one, runs_one}
use Rattle.online_text.specs.declared.value.DoneLine.{DoneLine}
use Rattle.online_text.specs.declared.value.Epoch.{Epoch}
use Rattle.online_text.specs.declared.value.Online.{Online}
use Rattle.online_text.specs.declared.value.OnlinePlace.{OnlinePlace}
use Rattle.online_text.specs.declared.value.ReleaseLine.{ReleaseLine}
use Rattle.online_text.specs.Online.{HasSmallNumbers, IsOnline, IsSmallEpoch}
use Rattle.online_text.specs.Text.{certificate_lines, done_line, epoch_lines, lines_from_done, lines_from_release, lines_from_runs, online_lines}
use Rattle.online_text.specs.Text.{online_text, order_line_at, order_lines, release_line_at, time_line, total_line}
use Rattle.online_text.proofs.OneLines.{done_are_lines, done_one, epochs_are_lines, order_one, release_are_lines, release_one}

-- ---- the publishings

-- the first of the lines, if there is one, does not begin with the byte
abbrev pub BeginsOther : ℕ → List (List ℕ) → Type 0
BeginsOther p [] = Unit {0}
BeginsOther p (l ∷ ls) = first l ≡ p → ⊥

order_first : (places : List OnlinePlace) → AllFirst 112 (order_lines places)
order_first places = all_first 112 (order_line_at places) (λ k. refl) (range_with_len 0 (length places))

pub block_parts : (e : Epoch) (rest : List (List ℕ)) → epoch_lines e ++ rest ≡ time_line e.time ∷ (order_lines e.places ++ (bound_line e.bound ∷ rest))
block_parts e rest = ap (λ ls. time_line e.time ∷ ls) (append_assoc (order_lines e.places) (bound_line e.bound ∷ []) rest)

epochs_one : (xs ys : List Epoch) → All IsSmallEpoch xs → All IsSmallEpoch ys → (a b : List (List ℕ)) → BeginsOther 101 a → BeginsOther 101 b →
    flat_map epoch_lines xs ++ a ≡ flat_map epoch_lines ys ++ b → (xs ≡ ys) × (a ≡ b)
epochs_one [] [] hx hy a b oa ob e = (refl, e)
epochs_one [] (y ∷ ys) hx hy a b oa ob e =
    let other : first (time_line y.time) ≡ 101 → ⊥ = subst (BeginsOther 101) e oa in
    absurd (other refl)
epochs_one (x ∷ xs) [] hx hy a b oa ob e =
    let other : first (time_line x.time) ≡ 101 → ⊥ = subst (BeginsOther 101) (sym e) ob in
    absurd (other refl)
epochs_one (x ∷ xs) (y ∷ ys) hx hy a b oa ob e =
    let rx = flat_map epoch_lines xs ++ a in
    let ry = flat_map epoch_lines ys ++ b in
    let sx = hx 0 x (omega arith) in
    let sy = hy 0 y (omega arith) in
    let tx = order_lines x.places ++ (bound_line x.bound ∷ rx) in
    let ty = order_lines y.places ++ (bound_line y.bound ∷ ry) in
    let blocks : time_line x.time ∷ tx ≡ time_line y.time ∷ ty =
    sym (block_parts x rx) ∙ (sym (append_assoc (epoch_lines x) (flat_map epoch_lines xs) a) ∙ (e ∙ (append_assoc (epoch_lines y) (flat_map epoch_lines ys) b ∙ block_parts y ry)))
    in
    let time = decimal_one x.time y.time (omega (arith, sx.time)) (omega (arith, sy.time)) (ap (drop 6) (head_of (time_line x.time) (time_line y.time) tx ty blocks)) in
    let parts = both_ended 112 (order_lines x.places) (order_lines y.places) (bound_line x.bound) (bound_line y.bound) rx ry (order_first x.places) (order_first y.places)
    (λ bad. omega (arith, bad)) (λ bad. omega (arith, bad)) (tail_is (time_line x.time) (time_line y.time) tx ty blocks) in
    let places = order_one x.places y.places sx.places sy.places parts.0 in
    let bound = decimal_one x.bound y.bound sx.bound sy.bound (ap (drop 6) parts.1) in
    let more = epochs_one xs ys (λ k d lt. hx (suc k) d (omega arith)) (λ k d lt. hy (suc k) d (omega arith)) a b oa ob parts.2 in
    ((λ i. record { time = time i; places = places i; bound = bound i } ∷ more.0 i), more.1)

-- ---- the whole

abbrev pub nested : Online → List (List ℕ)
nested o = codes "sincronia online 2" ∷ (flat_map epoch_lines o.epochs ++ lines_from_done o)

regroup : (a b c d e f g : List (List ℕ)) → a ++ b ++ c ++ d ++ e ++ f ++ g ≡ a ++ (b ++ (c ++ (d ++ (e ++ (f ++ g)))))
regroup a b c d e f g = simp append_assoc

pub online_nested : (o : Online) → online_lines o ≡ nested o
online_nested o = ap (λ ls. codes "sincronia online 2" ∷ ls)
    (regroup (flat_map epoch_lines o.epochs) (map done_line o.done) (cost_line o.cost ∷ []) (certificate_lines o.release) (total_line o.total ∷ []) (map run_line o.runs)
    (codes "end" ∷ []))

nested_are_lines : (o : Online) → IsOnline o → HasSmallNumbers o → AreLines (nested o)
nested_are_lines o h small =
    let runs : AreLines (lines_from_runs o) = both_lines (map run_line o.runs) (codes "end" ∷ []) (runs_lines o.runs h.run) (front_is_line (codes "end"), tt) in
    let certificate : AreLines (lines_from_release o) = both_lines (certificate_lines o.release) (total_line o.total ∷ lines_from_runs o)
    (release_are_lines o.release small.count small.release)
    (total_one (codes "total") o.total (front_is_line (codes "total")) small.total, runs) in
    let done : AreLines (lines_from_done o) = both_lines (map done_line o.done) (cost_line o.cost ∷ lines_from_release o) (done_are_lines o.done small.done)
    (total_one (codes "cost") o.cost (front_is_line (codes "cost")) small.cost, certificate) in
    (front_is_line (codes "sincronia online 2"), both_lines (flat_map epoch_lines o.epochs) (lines_from_done o) (epochs_are_lines o.epochs small.epochs) done)

-- each line of an online run is one line
pub online_are_lines : (o : Online) → IsOnline o → HasSmallNumbers o → AreLines (online_lines o)
online_are_lines o h small = subst AreLines (sym (online_nested o)) (nested_are_lines o h small)

pub done_begins : (ds : List DoneLine) (cost : ℕ) (more : List (List ℕ)) → BeginsOther 101 (map done_line ds ++ (cost_line cost ∷ more))
done_begins [] cost more = λ bad. omega (arith, bad)
done_begins (d ∷ ds) cost more = λ bad. omega (arith, bad)

release_first : (places : List ReleaseLine) → AllFirst 114 (certificate_lines places)
release_first places = all_first 114 (release_line_at places) (λ k. refl) (range_with_len 0 (length places))

pub online_one : (a b : Online) → IsOnline a → HasSmallNumbers a → IsOnline b → HasSmallNumbers b → online_text a ≡ online_text b → a ≡ b
online_one a b ha sa hb sb e = λ i. record { epochs = split.0 i; done = done i; cost = cost i; release = release i; total = total i; runs = runs i }
  where
    whole : nested a ≡ nested b
    whole = sym (online_nested a) ∙ (lines_one (online_lines a) (online_lines b) (online_are_lines a ha sa) (online_are_lines b hb sb) e ∙ online_nested b)

    split : (a.epochs ≡ b.epochs) × (lines_from_done a ≡ lines_from_done b)
    split = epochs_one a.epochs b.epochs sa.epochs sb.epochs (lines_from_done a) (lines_from_done b) (done_begins a.done a.cost (lines_from_release a))
        (done_begins b.done b.cost (lines_from_release b)) (ap (drop 1) whole)

    parts : (map done_line a.done ≡ map done_line b.done) × (cost_line a.cost ≡ cost_line b.cost) × (lines_from_release a ≡ lines_from_release b)
    parts = both_ended 100 (map done_line a.done) (map done_line b.done) (cost_line a.cost) (cost_line b.cost) (lines_from_release a) (lines_from_release b)
        (all_first 100 done_line (λ d. refl) a.done) (all_first 100 done_line (λ d. refl) b.done) (λ bad. omega (arith, bad)) (λ bad. omega (arith, bad)) split.1

    done : a.done ≡ b.done
    done = done_one a.done b.done sa.done sb.done parts.0

    cost : a.cost ≡ b.cost
    cost = decimal_one a.cost b.cost sa.cost sb.cost (ap (drop 5) parts.1)

    rest : (certificate_lines a.release ≡ certificate_lines b.release) × (total_line a.total ≡ total_line b.total) × (lines_from_runs a ≡ lines_from_runs b)
    rest = both_ended 114 (certificate_lines a.release) (certificate_lines b.release) (total_line a.total) (total_line b.total) (lines_from_runs a) (lines_from_runs b)
        (release_first a.release) (release_first b.release) (λ bad. omega (arith, bad)) (λ bad. omega (arith, bad)) parts.2

    release : a.release ≡ b.release
    release = release_one a.release b.release sa.release sb.release rest.0

    total : a.total ≡ b.total
    total = decimal_one a.total b.total sa.total sb.total (ap (drop 6) rest.1)

    runs : a.runs ≡ b.runs
    runs = runs_one a.runs b.runs ha.run hb.run
        (both_ended 114 (map run_line a.runs) (map run_line b.runs) (codes "end") (codes "end") [] [] (runs_first a.runs) (runs_first b.runs) (λ bad. omega (arith, bad))
        (λ bad. omega (arith, bad)) rest.2).0
