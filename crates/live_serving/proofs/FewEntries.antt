-- How many entries the clients have, and how many openings found nothing.
use Rattle.std.proofs.Common.{◌≡◌, ℕ, ◌+◌, ◌<◌, ◌≤◌, ◌==◌, ⊎_elim, Bool, true, false, true≢false, cond, List, [], ◌∷◌, ◌++◌, length, length-append, map, filter, take, drop, get_or}
use Rattle.std.proofs.Common.{refl, sym, ap, ◌∙◌, arith, append_assoc, Option, Some, None}
use Rattle.std.specs.Prelude.{All, if◌then◌else◌}
use Rattle.std.specs.Option.{IsSome}
use Rattle.std.proofs.lemmas.List.{length-map, take-append-drop, take_more}
use Rattle.std.proofs.lemmas.List.Elements.{All-cons, All-head, All-nil, All-tail, filter-append}
use Rattle.journal.specs.declared.command.Reply.{Reply}
use Rattle.workload.specs.declared.script.Round.{Round}
use Rattle.workload.specs.declared.script.Script.{Script}
use Rattle.workload.specs.declared.script.ScriptLine.{ScriptLine}
use Rattle.client_session.specs.Models.{SessionModel}
use Rattle.client_session.specs.Own.{OwnEntry}
use Rattle.live_model.specs.Levels.{Levels}
use Rattle.live_model.specs.Rounds.{Spell}
use Rattle.live_model.specs.Script.{lines_by, lines_from, lines_of, slot_rounds_from}
use Rattle.live_rounds.specs.Acts.{Act, entries_in}
use Rattle.live_rounds.specs.Asking.{AddFew, LackCalls}
use Rattle.live_rounds.specs.Parts.{lines_for}
use Rattle.live_rounds.proofs.AskingLittle.{few_entries}
use Rattle.live_rounds.specs.Told.{acts_of}
use Rattle.live_serving.specs.Followed.{AreFollowed, IsFollowed, lines_in}
use Rattle.live_serving.specs.Room.{found_none, IsShort}
use Rattle.live_serving.proofs.LevelsOn.{lines_in_more, numbered}

-- ---- the lines of a script

lines_append : (n : ℕ) (xs ys : List Round) → lines_from n (xs ++ ys) ≡ lines_from n xs ++ lines_from (n + length xs) ys
lines_append n [] ys = ap (λ m. lines_from m ys) (let e : n ≡ n + 0 = omega arith in e)
lines_append n (x ∷ xs) ys =
    let e : n + 1 + length xs ≡ n + length (x ∷ xs) = omega arith in
    let here = map (λ l. (n, l)) x.lines in
    ap (λ l. here ++ l) (lines_append (n + 1) xs ys) ∙ sym (append_assoc here (lines_from (n + 1) xs) (lines_from (n + 1 + length xs) ys))
    ∙ ap (λ m. lines_from n (x ∷ xs) ++ lines_from m ys) e

short_filter : {X : Type 0} (p : X → Bool) (xs : List X) → length (filter p xs) ≤ length xs
short_filter p [] = omega arith
short_filter p (x ∷ xs) = go (p x) (short_filter p xs)
  where
    go : (b : Bool) → length (filter p xs) ≤ length xs → length (cond b (x ∷ filter p xs) (filter p xs)) ≤ length (x ∷ xs)
    go true le = omega (arith, le)
    go false le = omega (arith, le)

abbrev is_of : ℕ → ℕ × ScriptLine → Bool
is_of k x = x.1.client == k

-- the client has so many lines in these rounds and in so many lines more
abbrev pub AreWithin : Script → List Round → List ScriptLine → Type 0
AreWithin script rounds lines = (k : ℕ) → length (lines_in rounds k) + length (lines_for k lines) ≤ length (lines_by script k)

pub round_within : (script : Script) (rounds rest : List Round) (r : Round) → script.rounds ≡ (rounds ++ r ∷ []) ++ rest → AreWithin script rounds r.lines
round_within script rounds rest r is k =
    let all = rounds ++ r ∷ [] in
    let mine = lines_for k r.lines in
    omega (
      arith,
      ap (λ (l : List (ℕ × ScriptLine)). length l) (ap (λ l. lines_in l k) is ∙ ap (filter (is_of k)) (lines_append 0 all rest) ∙
          filter-append (is_of k) (lines_from 0 all) (lines_from (0 + length all) rest)),
      length-append (lines_in all k) (filter (is_of k) (lines_from (0 + length all) rest)),
      ap (λ (l : List (ℕ × ScriptLine)). length l) (lines_in_more rounds r k),
      length-append (lines_in rounds k) (numbered (length rounds) mine),
      length-map {B = ℕ × ScriptLine} mine (λ (x : ScriptLine). (length rounds, x)),
    )

pub none_within : (script : Script) → AreWithin script script.rounds []
none_within script k = omega arith

-- ---- one client

own_few : (levels : Levels) (rounds : List Round) (calls client : ℕ) (s : SessionModel) (told : List (ℕ × Act)) → IsFollowed levels rounds calls client s told →
    length s.own ≤ length (lines_in rounds client)
own_few levels rounds calls client s told h =
    let acts = acts_of told in
    omega (
      arith,
      ap (λ (l : List OwnEntry). length l) (h.acted.own ∙ ap (λ l. l ++ entries_in acts) h.new.own),
      few_entries acts,
      length-map told (λ (x : ℕ × Act). x.1),
      length-map {B = ℕ × ScriptLine} told (λ (x : ℕ × Act). (x.0, x.1.line)),
      ap (λ (l : List (ℕ × ScriptLine)). length l) h.lines,
    )

-- ---- all clients

abbrev Short : Script → SessionModel → Type 0
Short script s = IsShort script s

pub all_short : (script : Script) (levels : Levels) (rounds : List Round) (lines : List ScriptLine) (calls client : ℕ)
    (olds news : List SessionModel) (told : List (List (ℕ × Act))) →
    AreWithin script rounds lines → AreFollowed levels rounds calls client olds told → AddFew lines client olds news → client + length olds ≤ script.clients + 1 →
    All (IsShort script) news
all_short script levels rounds lines calls client [] [] told within h few le = All-nil (Short script)
all_short script levels rounds lines calls client [] (m ∷ ms) told within h few le = absurd few
all_short script levels rounds lines calls client (s ∷ ss) [] told within h few le = absurd few
all_short script levels rounds lines calls client (s ∷ ss) (m ∷ ms) [] within h few le = absurd h
all_short script levels rounds lines calls client (s ∷ ss) (m ∷ ms) (t ∷ ts) within h few le =
    let number : m.number ≡ client = few.0.number ∙ h.0.number in
    All-cons (Short script) m ms (record {
      number = omega (arith, number, le);
      own = omega (
        arith,
        few.0.own,
        own_few levels rounds calls client s t h.0,
        within client,
        ap (λ k. length (lines_by script k)) number,
      );
    })
    (all_short script levels rounds lines calls (client + 1) ss ms ts within h.1 few.1 (omega (arith, le)))

pub same_few : (client : ℕ) (ss : List SessionModel) → AddFew [] client ss ss
same_few client [] = tt
same_few client (s ∷ ss) = (record { number = refl; own = omega arith }, same_few (client + 1) ss)

-- each client has calls for its lines
pub never_lack : (script : Script) (levels : Levels) (rounds : List Round) (lines : List ScriptLine) (client : ℕ) (ss : List SessionModel) (told : List (List (ℕ × Act))) →
    AreWithin script rounds lines → AreFollowed levels rounds (length (lines_of script)) client ss told → LackCalls lines client ss → ⊥
never_lack script levels rounds lines client [] told within h lack = lack
never_lack script levels rounds lines client (s ∷ ss) [] within h lack = absurd h
never_lack script levels rounds lines client (s ∷ ss) (t ∷ ts) within h lack = ⊎_elim
    (λ low.
    omega (
      arith,
      low,
      h.0.calls_are,
      own_few levels rounds (length (lines_of script)) client s t h.0,
      within client,
      short_filter (is_of client) (lines_of script),
    ))
    (λ more. never_lack script levels rounds lines (client + 1) ss ts within h.1 more) lack

-- ---- openings

one_found : (closed : Option (ℕ × Reply)) → elim closed as (λ x. ℕ) [ None ↦ 1 | Some x ↦ 0 ] ≤ 1
one_found None = omega arith
one_found (Some x) = omega arith

pub few_found : (spells : List Spell) → found_none spells ≤ length spells
few_found [] = omega arith
few_found (s ∷ ss) = omega (arith, one_found s.closed, few_found ss)

pub found_append : (xs ys : List Spell) → found_none (xs ++ ys) ≡ found_none xs + found_none ys
found_append [] ys = omega arith
found_append (s ∷ ss) ys = omega (arith, found_append ss ys)

not_found : (closed : Option (ℕ × Reply)) → IsSome closed → elim closed as (λ x. ℕ) [ None ↦ 1 | Some x ↦ 0 ] ≡ 0
not_found None some = absurd (true≢false (sym some))
not_found (Some x) some = refl

pub none_found : (spells : List Spell) → All (λ (s : Spell). IsSome s.closed) spells → found_none spells ≡ 0
none_found [] all = refl
none_found (s ∷ ss) all =
    let P = λ (x : Spell). IsSome x.closed in
    omega (arith, not_found s.closed (All-head P s ss all), none_found ss (All-tail P s ss all))

-- no more openings were asked for than there are rounds
few_slots : (n : ℕ) (rounds : List Round) → length (slot_rounds_from n rounds) ≤ length rounds
few_slots n [] = omega arith
few_slots n (r ∷ rs) = omega (arith, length-append (if r.runs then n ∷ [] else []) (slot_rounds_from (n + 1) rs), one_slot r.runs, few_slots (n + 1) rs)
  where
    one_slot : (b : Bool) → length (if b then n ∷ [] else []) ≤ 1
    one_slot true = omega arith
    one_slot false = omega arith

pub few_spells : (rounds : List Round) (spells : List Spell) → map (λ (s : Spell). s.round) spells ≡ slot_rounds_from 0 rounds → length spells ≤ length rounds
few_spells rounds spells is = omega (arith, few_slots 0 rounds, ap (λ (l : List ℕ). length l) is, length-map spells (λ (s : Spell). s.round))

pub one_spell : (asked : Bool) (round : ℕ) (more : List Spell) → map (λ (s : Spell). s.round) more ≡ (if asked then round ∷ [] else []) → length more ≤ 1
one_spell true round more is = omega (arith, ap (λ (l : List ℕ). length l) is, length-map more (λ (s : Spell). s.round))
one_spell false round more is = omega (arith, ap (λ (l : List ℕ). length l) is, length-map more (λ (s : Spell). s.round))

-- ---- commands, counted round by round

pub count_next : (rounds : List Round) (k : ℕ) (r : Round) → k < length rounds →
    length (lines_from 0 (take (k + 1) rounds)) ≡ length (lines_from 0 (take k rounds)) + length (get_or rounds k r).lines
count_next rounds k r lt =
    let front = take k rounds in
    let here = get_or rounds k r in
    let n = 0 + length front in
    omega (
      arith,
      ap (λ (l : List (ℕ × ScriptLine)). length l) (ap (lines_from 0) (take_more rounds k r lt) ∙ lines_append 0 front (here ∷ [])),
      length-append (lines_from 0 front) (lines_from n (here ∷ [])),
      length-append {A = ℕ × ScriptLine} (map (λ (x : ScriptLine). (n, x)) here.lines) [],
      length-map {B = ℕ × ScriptLine} here.lines (λ (x : ScriptLine). (n, x)),
    )

pub count_within : (rounds : List Round) (k : ℕ) → length (lines_from 0 (take k rounds)) ≤ length (lines_from 0 rounds)
count_within rounds k =
    let front = take k rounds in
    let rest = lines_from (0 + length front) (drop k rounds) in
    omega (
      arith,
      ap (λ (l : List (ℕ × ScriptLine)). length l) (ap (lines_from 0) (sym (take-append-drop k rounds)) ∙ lines_append 0 front (drop k rounds)),
      length-append (lines_from 0 front) rest,
    )

pub one_more : (rounds items : List Round) (k : ℕ) (r : Round) → items ≡ rounds → r ≡ get_or items k r → k < length items →
    length (lines_from 0 (take (k + 1) rounds)) ≡ length (lines_from 0 (take k rounds)) + length r.lines
one_more rounds items k r same is lt =
    omega (
      arith,
      count_next rounds k r (omega (arith, lt, ap (λ (l : List Round). length l) same)),
      ap (λ (x : Round). length x.lines) (is ∙ ap (λ l. get_or l k r) same),
    )
