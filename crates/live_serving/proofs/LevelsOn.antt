-- Levels, and the lines of rounds, with one round more.
use Rattle.std.proofs.Common.{◌≡◌, ℕ, ◌+◌, ◌<◌, ◌≤◌, ◌==◌, inl, inr, Bool, true, false, cond, List, [], ◌∷◌, ◌++◌, length, map, filter}
use Rattle.std.proofs.Common.{get_or, refl, sym, ap, subst, ◌∙◌, arith, append-nil, append_assoc}
use Rattle.std.specs.Prelude.{All, if◌then◌else◌, nat_lt}
use Rattle.std.proofs.lemmas.Bool.{cases_lt, le-ltb, lt-ltb}
use Rattle.std.proofs.lemmas.List.{map-append}
use Rattle.std.proofs.lemmas.List.Elements.{All-cons, All-head, All-nil, All-tail, filter-append}
use Rattle.workload.specs.declared.script.Round.{Round}
use Rattle.workload.specs.declared.script.ScriptLine.{ScriptLine}
use Rattle.client_session.specs.Models.{SessionModel}
use Rattle.client_session.specs.Own.{OwnEntry}
use Rattle.live_model.specs.Levels.{Levels}
use Rattle.live_model.specs.Script.{lines_from, slot_rounds_from}
use Rattle.live_rounds.specs.Acts.{Act, IsOver}
use Rattle.live_rounds.specs.Parts.{lines_for}
use Rattle.live_rounds.specs.Told.{acts_of, ForEntry, LiesBetween, lines_of}
use Rattle.live_serving.specs.Followed.{lines_in}

-- ---- levels go on

-- up to n as before, and then x
abbrev pub cut : (ℕ → ℕ) → ℕ → ℕ → ℕ → ℕ
cut f n x m = if nat_lt n m then x else f m

pub cut_low : (f : ℕ → ℕ) (n x m : ℕ) → m ≤ n → cut f n x m ≡ f m
cut_low f n x m le = ap (λ b. if b then x else f m) (le-ltb n m le)

pub cut_high : (f : ℕ → ℕ) (n x m : ℕ) → n < m → cut f n x m ≡ x
cut_high f n x m lt = ap (λ b. if b then x else f m) (lt-ltb n m lt)

abbrev pub levels_on : Levels → ℕ → ℕ → ℕ → Levels
levels_on levels n position version = record { position = cut levels.position n position; version = cut levels.version n version }

-- they never fall
pub cut_rises : (f : ℕ → ℕ) (n x : ℕ) → ((a b : ℕ) → a ≤ b → f a ≤ f b) → f n ≤ x → (a b : ℕ) → a ≤ b → cut f n x a ≤ cut f n x b
cut_rises f n x rises le a b ab = elim (cases_lt n a) [
  | inl far ↦ omega (arith, cut_high f n x a far, cut_high f n x b (omega (arith, far, ab)))
  | inr near ↦ elim (cases_lt n b) [
    | inl far ↦ omega (arith, cut_low f n x a near, cut_high f n x b far, rises a n near, le)
    | inr low ↦ omega (arith, cut_low f n x a near, cut_low f n x b low, rises a b ab)
  ]
]

-- the newest version that a session has seen, and no less than v
abbrev pub greatest : ℕ → List SessionModel → ℕ
greatest v [] = v
greatest v (s ∷ ss) = greatest (if nat_lt v s.rank.seen then s.rank.seen else v) ss

over_one : (v w : ℕ) → (v ≤ (if nat_lt v w then w else v)) × (w ≤ (if nat_lt v w then w else v))
over_one v w = elim (cases_lt v w) [
  | inl far ↦ let e : (if nat_lt v w then w else v) ≡ w = ap (λ b. if b then w else v) (lt-ltb v w far) in (omega (arith, e, far), omega (arith, e))
  | inr near ↦ let e : (if nat_lt v w then w else v) ≡ v = ap (λ b. if b then w else v) (le-ltb v w near) in (omega (arith, e), omega (arith, e, near))
]

within_one : (v w top : ℕ) → v ≤ top → w ≤ top → (if nat_lt v w then w else v) ≤ top
within_one v w top le le' = elim (cases_lt v w) [
  | inl far ↦ let e : (if nat_lt v w then w else v) ≡ w = ap (λ b. if b then w else v) (lt-ltb v w far) in omega (arith, e, le')
  | inr near ↦ let e : (if nat_lt v w then w else v) ≡ v = ap (λ b. if b then w else v) (le-ltb v w near) in omega (arith, e, le)
]

pub greatest_over : (v : ℕ) (ss : List SessionModel) → v ≤ greatest v ss
greatest_over v [] = omega arith
greatest_over v (s ∷ ss) = omega (arith, (over_one v s.rank.seen).0, greatest_over (if nat_lt v s.rank.seen then s.rank.seen else v) ss)

abbrev SeenBy : ℕ → SessionModel → Type 0
SeenBy v s = s.rank.seen ≤ v

pub greatest_is_over : (v : ℕ) (ss : List SessionModel) → All (SeenBy (greatest v ss)) ss
greatest_is_over v [] = All-nil (SeenBy v)
greatest_is_over v (s ∷ ss) =
    let w = if nat_lt v s.rank.seen then s.rank.seen else v in
    All-cons (SeenBy (greatest w ss)) s ss (omega (arith, (over_one v s.rank.seen).1, greatest_over w ss)) (greatest_is_over w ss)

pub greatest_within : (v top : ℕ) (ss : List SessionModel) → v ≤ top → All (SeenBy top) ss → greatest v ss ≤ top
greatest_within v top [] le all = le
greatest_within v top (s ∷ ss) le all =
    greatest_within (if nat_lt v s.rank.seen then s.rank.seen else v) top ss (within_one v s.rank.seen top le (All-head (SeenBy top) s ss all)) (All-tail (SeenBy top) s ss all)

-- ---- the lines of one round more

abbrev pub numbered : ℕ → List ScriptLine → List (ℕ × ScriptLine)
numbered n lines = map (λ x. (n, x)) lines

lines_more : (n : ℕ) (rounds : List Round) (r : Round) → lines_from n (rounds ++ r ∷ []) ≡ lines_from n rounds ++ numbered (n + length rounds) r.lines
lines_more n [] r = append-nil (numbered n r.lines) ∙ ap (λ m. numbered m r.lines) (let e : n ≡ n + 0 = omega arith in e)
lines_more n (x ∷ rounds) r =
    let e : n + 1 + length rounds ≡ n + length (x ∷ rounds) = omega arith in
    ap (λ l. numbered n x.lines ++ l) (lines_more (n + 1) rounds r) ∙ sym (append_assoc (numbered n x.lines) (lines_from (n + 1) rounds) (numbered (n + 1 + length rounds) r.lines))
    ∙ ap (λ m. lines_from n (x ∷ rounds) ++ numbered m r.lines) e

numbered_for : (n client : ℕ) (lines : List ScriptLine) → filter (λ (x : ℕ × ScriptLine). x.1.client == client) (numbered n lines) ≡ numbered n (lines_for client lines)
numbered_for n client [] = refl
numbered_for n client (l ∷ ls) = go (l.client == client) (numbered_for n client ls)
  where
    go : (b : Bool) → filter (λ (x : ℕ × ScriptLine). x.1.client == client) (numbered n ls) ≡ numbered n (lines_for client ls) →
        cond b ((n, l) ∷ filter (λ (x : ℕ × ScriptLine). x.1.client == client) (numbered n ls)) (filter (λ (x : ℕ × ScriptLine). x.1.client == client) (numbered n ls))
        ≡ numbered n (cond b (l ∷ lines_for client ls) (lines_for client ls))
    go true e = ap (λ l'. (n, l) ∷ l') e
    go false e = e

pub lines_in_more : (rounds : List Round) (r : Round) (client : ℕ) →
    lines_in (rounds ++ r ∷ []) client ≡ lines_in rounds client ++ numbered (length rounds) (lines_for client r.lines)
lines_in_more rounds r client =
    let p = λ (x : ℕ × ScriptLine). x.1.client == client in
    let e : 0 + length rounds ≡ length rounds = omega arith in
    ap (filter p) (lines_more 0 rounds r ∙ ap (λ m. lines_from 0 rounds ++ numbered m r.lines) e) ∙ filter-append p (lines_from 0 rounds) (numbered (length rounds) r.lines)
    ∙ ap (λ l. lines_in rounds client ++ l) (numbered_for (length rounds) client r.lines)

pub slots_more : (n : ℕ) (rounds : List Round) (r : Round) →
    slot_rounds_from n (rounds ++ r ∷ []) ≡ slot_rounds_from n rounds ++ (if r.runs then (n + length rounds) ∷ [] else [])
slots_more n [] r =
    let e : n ≡ n + 0 = omega arith in
    append-nil (if r.runs then n ∷ [] else []) ∙ ap (λ m. if r.runs then m ∷ [] else []) e
slots_more n (x ∷ rounds) r =
    let e : n + 1 + length rounds ≡ n + length (x ∷ rounds) = omega arith in
    let own = if x.runs then n ∷ [] else [] in
    ap (λ l. own ++ l) (slots_more (n + 1) rounds r) ∙ sym (append_assoc own (slot_rounds_from (n + 1) rounds) (if r.runs then (n + 1 + length rounds) ∷ [] else []))
    ∙ ap (λ m. slot_rounds_from n (x ∷ rounds) ++ (if r.runs then m ∷ [] else [])) e

-- ---- acts of one round

abbrev pub told_in : ℕ → List Act → List (ℕ × Act)
told_in n acts = map (λ a. (n, a)) acts

acts_again : (n : ℕ) (acts : List Act) → acts_of (told_in n acts) ≡ acts
acts_again n [] = refl
acts_again n (a ∷ acts) = ap (λ l. a ∷ l) (acts_again n acts)

pub acts_more : (told : List (ℕ × Act)) (n : ℕ) (acts : List Act) → acts_of (told ++ told_in n acts) ≡ acts_of told ++ acts
acts_more told n acts = map-append (λ (x : ℕ × Act). x.1) told (told_in n acts) ∙ ap (λ l. acts_of told ++ l) (acts_again n acts)

lines_again : (n : ℕ) (acts : List Act) → lines_of (told_in n acts) ≡ numbered n (map (λ (a : Act). a.line) acts)
lines_again n [] = refl
lines_again n (a ∷ acts) = ap (λ l. (n, a.line) ∷ l) (lines_again n acts)

pub lines_told : (told : List (ℕ × Act)) (n : ℕ) (acts : List Act) → lines_of (told ++ told_in n acts) ≡ lines_of told ++ numbered n (map (λ (a : Act). a.line) acts)
lines_told told n acts = map-append (λ (x : ℕ × Act). (x.0, x.1.line)) told (told_in n acts) ∙ ap (λ l. lines_of told ++ l) (lines_again n acts)

pub all_told : (P : ℕ × Act → Type 0) (n : ℕ) (acts : List Act) → All (λ a. P (n, a)) acts → All P (told_in n acts)
all_told P n [] all = All-nil P
all_told P n (a ∷ acts) all = All-cons P (n, a) (told_in n acts) (All-head (λ b. P (n, b)) a acts all) (all_told P n acts (All-tail (λ b. P (n, b)) a acts all))

-- where the levels of a round are the same
lies_there : (levels others : Levels) (round : ℕ) (a : Act) → levels.position round ≡ others.position round → levels.position (round + 1) ≡ others.position (round + 1) →
    levels.version round ≡ others.version round → levels.version (round + 1) ≡ others.version (round + 1) → LiesBetween levels round a → LiesBetween others round a
lies_there levels others round a low high old new h = record {
  position = subst (λ (z : ℕ × ℕ). ForEntry (λ (e : OwnEntry). (z.0 < e.position) × (e.position ≤ z.1)) a.outcome) (λ i. (low i, high i)) h.position;
  over = subst (λ v. IsOver v a.outcome) old h.over;
  moved = λ by. omega (arith, old, h.moved by);
  within = omega (arith, new, h.within);
}

abbrev pub Lies : Levels → ℕ × Act → Type 0
Lies levels x = LiesBetween levels x.0 x.1

abbrev pub IsDoneBy : ℕ → ℕ × Act → Type 0
IsDoneBy n x = x.0 < n

pub still_between : (levels : Levels) (n position version : ℕ) (told : List (ℕ × Act)) → All (IsDoneBy n) told → All (Lies levels) told →
    All (Lies (levels_on levels n position version)) told
still_between levels n position version told done lie = λ i d lt.
    let x = get_or told i d in
    let low = done i d lt in
    lies_there levels (levels_on levels n position version) x.0 x.1 (sym (cut_low levels.position n position x.0 (omega (arith, low))))
    (sym (cut_low levels.position n position (x.0 + 1) (omega (arith, low)))) (sym (cut_low levels.version n version x.0 (omega (arith, low))))
    (sym (cut_low levels.version n version (x.0 + 1) (omega (arith, low)))) (lie i d lt)
