-- The lines of a printed journal behind those of a front of it.
use Rattle.std.proofs.Common.{◌≡◌, ◌≢◌, ◌⊎◌, inl, inr, ℕ, suc, ◌+◌, List, [], ◌∷◌, ◌++◌, append_assoc, length, map, drop, refl, sym, ap, subst, ◌∙◌, arith, zero-add}
use Rattle.std.specs.Prelude.{All, codes}
use Rattle.coflow_units.specs.declared.plan.Run.{Run}
use Rattle.coflow_units.proofs.Fronts.{head_of}
use Rattle.report_text.specs.Readers.{IsRun}
use Rattle.report_text.specs.Text.{run_line}
use Rattle.report_text.proofs.DraftText.{run_unique}
use Rattle.report_text.proofs.LineLists.{tail_is}
use Rattle.report_text.proofs.LineText.{front_is_line}
use Rattle.report_text.proofs.OneLine.{both_lines, runs_lines}
use Rattle.report_text.proofs.ReadingText.{AreLines}
use Rattle.live_text.specs.declared.value.EntryLine.{EntryLine}
use Rattle.live_text.specs.declared.value.Live.{Live}
use Rattle.live_text.specs.declared.value.PullLine.{PullLine}
use Rattle.live_text.specs.Live.{IsEntry, IsLive, IsPull, IsSmall}
use Rattle.live_text.specs.Text.{body_lines, entry_line, live_lines, mark, numbered, order_line, pull_line}
use Rattle.live_text.proofs.LineParts.{entry_one, entry_unique, numbered_lines, order_one, order_unique, pull_unique, pulls_lines}

-- ---- one list of lines

-- the first of the lines, if there is one, has another mark
abbrev BeginsOther : ℕ → List (List ℕ) → Type 0
BeginsOther m [] = Unit {0}
BeginsOther m (l ∷ ls) = mark l ≢ m

-- where the second list has more, the lines behind the first list are those
abbrev GoesOn : {X : Type 0} → (ℕ → X → List ℕ) → ℕ → List X → List X → List (List ℕ) → List (List ℕ) → Type 0
GoesOn {X} line k xs ys a b =
    ((x : X) × (more : List X) × (rest : List (List ℕ)) × (ys ≡ xs ++ (x ∷ more)) × (a ≡ line (length xs + k) x ∷ rest)) ⊎ ((xs ≡ ys) × (a ≡ b))

goes_on : {X : Type 0} (Is : X → Type 0) (line : ℕ → X → List ℕ) (m : ℕ) → ((k : ℕ) (x : X) → mark (line k x) ≡ m) →
    ((k : ℕ) (x y : X) → Is x → Is y → line k x ≡ line k y → x ≡ y) → (k : ℕ) (xs ys : List X) → All Is xs → All Is ys → (a b : List (List ℕ)) → BeginsOther m b →
    numbered line k xs ++ a ≡ numbered line k ys ++ b → GoesOn line k xs ys a b
goes_on Is line m marks unique k [] [] hx hy a b other e = inr (refl, e)
goes_on Is line m marks unique k [] (y ∷ ys) hx hy a b other e =
    inl (y, ys, numbered line (k + 1) ys ++ b, refl, e ∙ ap (λ n. line n y ∷ (numbered line (k + 1) ys ++ b)) (sym (zero-add k)))
goes_on Is line m marks unique k (x ∷ xs) [] hx hy a b other e =
    let bad : mark (line k x) ≢ m = subst (BeginsOther m) (sym e) other in
    absurd (bad (marks k x))
goes_on Is line m marks unique k (x ∷ xs) (y ∷ ys) hx hy a b other e =
    let rx = numbered line (k + 1) xs ++ a in
    let ry = numbered line (k + 1) ys ++ b in
    let same : x ≡ y = unique k x y (hx 0 x (omega arith)) (hy 0 y (omega arith)) (head_of (line k x) (line k y) rx ry e) in
    go same (goes_on Is line m marks unique (k + 1) xs ys (λ n d lt. hx (suc n) d (omega (arith, lt))) (λ n d lt. hy (suc n) d (omega (arith, lt))) a b other
    (tail_is (line k x) (line k y) rx ry e))
  where
    go : x ≡ y → GoesOn line (k + 1) xs ys a b → GoesOn line k (x ∷ xs) (y ∷ ys) a b
    go same (inl (z, more, rest, whole, here)) =
        let place : length xs + (k + 1) ≡ length (x ∷ xs) + k = omega arith in
        inl (z, more, rest, (λ i. sym same i ∷ whole i), here ∙ ap (λ n. line n z ∷ rest) place)
    go same (inr (whole, rest)) = inr ((λ i. same i ∷ whole i), rest)

other_front : {X : Type 0} (line : ℕ → X → List ℕ) (m n : ℕ) → ((k : ℕ) (x : X) → mark (line k x) ≡ n) → (n ≡ m → ⊥) → (k : ℕ) (xs : List X) (b : List (List ℕ)) →
    BeginsOther m b → BeginsOther m (numbered line k xs ++ b)
other_front line m n marks differ k [] b other = other
other_front line m n marks differ k (x ∷ xs) b other = λ e. differ (sym (marks k x) ∙ e)

-- a list whose lines stand before a line of another mark is empty
none_before : {X : Type 0} (line : ℕ → X → List ℕ) (n : ℕ) → ((k : ℕ) (x : X) → mark (line k x) ≡ n) → (k : ℕ) (xs : List X) (a : List (List ℕ)) (l : List ℕ) (ls : List (List ℕ)) →
    (mark l ≡ n → ⊥) → numbered line k xs ++ a ≡ l ∷ ls → (xs ≡ []) × (a ≡ l ∷ ls)
none_before line n marks k [] a l ls differ e = (refl, e)
none_before line n marks k (x ∷ xs) a l ls differ e =
    absurd (differ (sym (ap mark (head_of (line k x) l (numbered line (k + 1) xs ++ a) ls e)) ∙ marks k x))

-- lines that are not counted
unnumbered : {X : Type 0} (f : X → List ℕ) (k : ℕ) (xs : List X) → numbered (λ n x. f x) k xs ≡ map f xs
unnumbered f k [] = refl
unnumbered f k (x ∷ xs) = ap (λ ls. f x ∷ ls) (unnumbered f (k + 1) xs)

-- ---- the four lists

abbrev any_pull : ℕ → PullLine → List ℕ
any_pull k p = pull_line p

abbrev any_run : ℕ → Run → List ℕ
any_run k r = run_line r

abbrev from_runs : Live → List (List ℕ) → List (List ℕ)
from_runs l a = numbered any_run 1 l.runs ++ a

abbrev from_pulls : Live → List (List ℕ) → List (List ℕ)
from_pulls l a = numbered any_pull 1 l.pulls ++ from_runs l a

abbrev from_orders : Live → List (List ℕ) → List (List ℕ)
from_orders l a = numbered order_line 1 l.orders ++ from_pulls l a

abbrev from_entries : Live → List (List ℕ) → List (List ℕ)
from_entries l a = numbered entry_line 1 l.entries ++ from_orders l a

regroup : (t : List (List ℕ)) (a b c d e : List (List ℕ)) → (t ++ a ++ b ++ c ++ d) ++ e ≡ t ++ (a ++ (b ++ (c ++ (d ++ e))))
regroup t a b c d e = simp append_assoc

body_nested : (l : Live) (a : List (List ℕ)) → body_lines l ++ a ≡ codes "sincronia live 1" ∷ from_entries l a
body_nested l a =
    regroup (codes "sincronia live 1" ∷ []) (numbered entry_line 1 l.entries) (numbered order_line 1 l.orders) (map pull_line l.pulls) (map run_line l.runs) a
    ∙ (λ i. codes "sincronia live 1" ∷ (numbered entry_line 1 l.entries ++ (numbered order_line 1 l.orders ++
    (sym (unnumbered pull_line 1 l.pulls) i ++ (sym (unnumbered run_line 1 l.runs) i ++ a)))))

-- what the line behind a front of a printed journal is
pub data Next (d l : Live) (a : List (List ℕ)) : Type 0 where
  next_entry : (e : EntryLine) (more : List EntryLine) (rest : List (List ℕ)) → l.entries ≡ d.entries ++ (e ∷ more) → d.orders ≡ [] → d.pulls ≡ [] → d.runs ≡ [] →
      a ≡ entry_line (length d.entries + 1) e ∷ rest → Next d l a
  next_order : (ids : List ℕ) (more : List (List ℕ)) (rest : List (List ℕ)) → l.orders ≡ d.orders ++ (ids ∷ more) → d.pulls ≡ [] → d.runs ≡ [] →
      a ≡ order_line (length d.orders + 1) ids ∷ rest → Next d l a
  next_pull : (p : PullLine) (more : List PullLine) (rest : List (List ℕ)) → l.pulls ≡ d.pulls ++ (p ∷ more) → d.runs ≡ [] → a ≡ pull_line p ∷ rest → Next d l a
  next_run : (r : Run) (more : List Run) (rest : List (List ℕ)) → l.runs ≡ d.runs ++ (r ∷ more) → a ≡ run_line r ∷ rest → Next d l a
  next_end : d ≡ l → a ≡ codes "end" ∷ [] → Next d l a

abbrev end_line : List (List ℕ)
end_line = codes "end" ∷ []

pub next_of : (d l : Live) (a : List (List ℕ)) → IsLive d → IsLive l → live_lines l ≡ body_lines d ++ a → Next d l a
next_of d l a hd hl e =
    by_entries (goes_on IsEntry entry_line 114 (λ k x. refl) entry_unique 1 d.entries l.entries hd.entry hl.entry (from_orders d a) (from_orders l end_line) after_entries whole)
  where
    whole : from_entries d a ≡ from_entries l end_line
    whole = ap (drop 1) (sym (body_nested d a) ∙ (sym e ∙ body_nested l end_line))

    after_runs : (m : ℕ) → (0 ≡ m → ⊥) → BeginsOther m end_line
    after_runs m differ = differ

    runs_other : (m : ℕ) → (0 ≡ m → ⊥) → (32 ≡ m → ⊥) → BeginsOther m (from_runs l end_line)
    runs_other m differ run = other_front any_run m 32 (λ k x. refl) run 1 l.runs end_line differ

    pulls_other : (m : ℕ) → (0 ≡ m → ⊥) → (32 ≡ m → ⊥) → (108 ≡ m → ⊥) → BeginsOther m (from_pulls l end_line)
    pulls_other m differ run pull = other_front any_pull m 108 (λ k x. refl) pull 1 l.pulls (from_runs l end_line) (runs_other m differ run)

    after_entries : BeginsOther 114 (from_orders l end_line)
    after_entries = other_front order_line 114 101 (λ k x. refl) (λ bad. absurd (omega (arith, bad))) 1 l.orders (from_pulls l end_line)
        (pulls_other 114 (λ bad. absurd (omega (arith, bad))) (λ bad. absurd (omega (arith, bad))) (λ bad. absurd (omega (arith, bad))))

    after_orders : BeginsOther 101 (from_pulls l end_line)
    after_orders = pulls_other 101 (λ bad. absurd (omega (arith, bad))) (λ bad. absurd (omega (arith, bad))) (λ bad. absurd (omega (arith, bad)))

    after_pulls : BeginsOther 108 (from_runs l end_line)
    after_pulls = runs_other 108 (λ bad. absurd (omega (arith, bad))) (λ bad. absurd (omega (arith, bad)))

    no_runs : (x : List ℕ) (rest : List (List ℕ)) → (mark x ≡ 32 → ⊥) → from_runs d a ≡ x ∷ rest → (d.runs ≡ []) × (a ≡ x ∷ rest)
    no_runs x rest differ h = none_before any_run 32 (λ k y. refl) 1 d.runs a x rest differ h

    no_pulls : (x : List ℕ) (rest : List (List ℕ)) → (mark x ≡ 108 → ⊥) → from_pulls d a ≡ x ∷ rest → (d.pulls ≡ []) × (from_runs d a ≡ x ∷ rest)
    no_pulls x rest differ h = none_before any_pull 108 (λ k y. refl) 1 d.pulls (from_runs d a) x rest differ h

    by_runs : d.entries ≡ l.entries → d.orders ≡ l.orders → d.pulls ≡ l.pulls → GoesOn any_run 1 d.runs l.runs a end_line → Next d l a
    by_runs es os ps (inl (r, more, rest, whole, here)) = next_run r more rest whole here
    by_runs es os ps (inr (rs, here)) = next_end (λ i. record { entries = es i; orders = os i; pulls = ps i; runs = rs i }) here

    by_pulls : d.entries ≡ l.entries → d.orders ≡ l.orders → GoesOn any_pull 1 d.pulls l.pulls (from_runs d a) (from_runs l end_line) → Next d l a
    by_pulls es os (inl (p, more, rest, whole, here)) =
        let runs = no_runs (pull_line p) rest (λ bad. absurd (omega (arith, bad))) here in
        next_pull p more rest whole runs.0 runs.1
    by_pulls es os (inr (ps, here)) = by_runs es os ps
        (goes_on IsRun any_run 32 (λ k x. refl) (λ k x y. run_unique x y) 1 d.runs l.runs hd.run hl.run a end_line (after_runs 32 (λ bad. absurd (omega (arith, bad)))) here)

    by_orders : d.entries ≡ l.entries → GoesOn order_line 1 d.orders l.orders (from_pulls d a) (from_pulls l end_line) → Next d l a
    by_orders es (inl (ids, more, rest, whole, here)) =
        let x = order_line (length d.orders + 1) ids in
        let pulls = no_pulls x rest (λ bad. absurd (omega (arith, bad))) here in
        let runs = no_runs x rest (λ bad. absurd (omega (arith, bad))) pulls.1 in
        next_order ids more rest whole pulls.0 runs.0 runs.1
    by_orders es (inr (os, here)) = by_pulls es os
        (goes_on IsPull any_pull 108 (λ k x. refl) (λ k x y. pull_unique x y) 1 d.pulls l.pulls hd.pull hl.pull (from_runs d a) (from_runs l end_line) after_pulls here)

    by_entries : GoesOn entry_line 1 d.entries l.entries (from_orders d a) (from_orders l end_line) → Next d l a
    by_entries (inl (x, more, rest, whole, here)) =
        let line = entry_line (length d.entries + 1) x in
        let orders = none_before order_line 101 (λ k y. refl) 1 d.orders (from_pulls d a) line rest (λ bad. absurd (omega (arith, bad))) here in
        let pulls = no_pulls line rest (λ bad. absurd (omega (arith, bad))) orders.1 in
        let runs = no_runs line rest (λ bad. absurd (omega (arith, bad))) pulls.1 in
        next_entry x more rest whole orders.0 pulls.0 runs.0 runs.1
    by_entries (inr (es, here)) = by_orders es
        (goes_on (All IsSmall) order_line 101 (λ k x. refl) order_unique 1 d.orders l.orders hd.order hl.order (from_pulls d a) (from_pulls l end_line) after_orders here)

-- ---- each line is one line

pub body_are_lines : (l : Live) → IsLive l → AreLines (body_lines l)
body_are_lines l h =
    let t = codes "sincronia live 1" ∷ [] in
    let a : AreLines (t ++ numbered entry_line 1 l.entries) = (
      front_is_line (codes "sincronia live 1"),
      numbered_lines entry_line 1 l.entries (λ n d lt. entry_one (1 + n) _ (omega (arith, lt, h.few_entries)) (h.entry n d lt)),
    ) in
    let b = both_lines (t ++ numbered entry_line 1 l.entries) (numbered order_line 1 l.orders) a
    (numbered_lines order_line 1 l.orders (λ n d lt. order_one (1 + n) _ (omega (arith, lt, h.few_orders)) (h.order n d lt))) in
    let c = both_lines (t ++ numbered entry_line 1 l.entries ++ numbered order_line 1 l.orders) (map pull_line l.pulls) b (pulls_lines l.pulls h.pull) in
    both_lines (t ++ numbered entry_line 1 l.entries ++ numbered order_line 1 l.orders ++ map pull_line l.pulls) (map run_line l.runs) c (runs_lines l.runs h.run)

pub live_are_lines : (l : Live) → IsLive l → AreLines (live_lines l)
live_are_lines l h = both_lines (body_lines l) (codes "end" ∷ []) (body_are_lines l h) (front_is_line (codes "end"), tt)
