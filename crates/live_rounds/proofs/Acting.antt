-- How what lines make of a session goes on, line by line.
use Rattle.std.proofs.Common.{◌≡◌, ℕ, ◌+◌, ◌-◌, ◌/◌, ◌<◌, ◌≤◌, Bool, true, false, true≢false, cond, List, [], ◌∷◌, ◌++◌, length, get_or, refl, sym, ap, subst, ◌∙◌, arith, suc}
use Rattle.std.proofs.Common.{append_assoc, append-nil, length-append}
use Rattle.std.specs.Prelude.{◌==◌, All, AllPairs, Contains, if◌then◌else◌}
use Rattle.std.proofs.lemmas.Bool.{eqb-true, ne_eqb}
use Rattle.std.proofs.lemmas.Grind.{flat_map-append}
use Rattle.std.proofs.lemmas.List.Elements.{All-append, All-cons, All-contains, All-head, All-nil, All-tail, All-weaker, Contains-append_left, Contains-push}
use Rattle.std.proofs.lemmas.List.Kept.{AllPairs-cons}
use Rattle.journal.specs.declared.command.Command.{Command}
use Rattle.journal.specs.declared.command.Command.TheVariants.{Pull as PullCommand}
use Rattle.journal.specs.declared.command.Reply.TheVariants.{Rank, Unranked}
use Rattle.journal.specs.declared.opening.Opening.{Opening}
use Rattle.journal.specs.Answer.{pulled as answered}
use Rattle.journal.specs.Journal.{entry, is_version, rank_of, version_of}
use Rattle.rank_board.specs.Models.{FoundAnother, looked, pulled, saw_front, SeatModel}
use Rattle.rank_board.specs.Pulls.{pull_of}
use Rattle.rank_board.specs.Words.{rank_word, word_at}
use Rattle.workload.specs.declared.script.Asked.TheVariants.{Pull}
use Rattle.workload.specs.declared.script.ScriptLine.{ScriptLine}
use Rattle.client_session.specs.declared.receipt.Receipt.{Receipt}
use Rattle.client_session.specs.Models.{SessionModel}
use Rattle.client_session.specs.Own.{look_version, own_entry, OwnEntry}
use Rattle.client_session.specs.Turns.{IsDone, KeepsPlace}
use Rattle.live_model.specs.Script.{command_of, is_pull}
use Rattle.live_model.proofs.Given.{pull_is_answered}
use Rattle.live_rounds.specs.Acts.{Act, act, AreMarked, entered, entries_at, entries_in, FitsLine, HasActed, IsOver, IsPullByTurn, noted, notes_at, notes_in, Outcome, rank_in}
use Rattle.live_rounds.specs.Acts.{StaysPut, version_at}

pub pairs_append : {X : Type 0} (R : X → X → Type 0) (xs ys : List X) → AllPairs R xs → AllPairs R ys → All (λ x. All (R x) ys) xs → AllPairs R (xs ++ ys)
pairs_append R [] ys a b c = b
pairs_append R (x ∷ xs) ys a b c =
    AllPairs-cons R x (xs ++ ys) (All-append (R x) xs ys (λ k d lt. a 0 (suc k) d (omega arith) (omega arith)) (All-head (λ x. All (R x) ys) x xs c))
    (pairs_append R xs ys (λ i j d lt lj. a (suc i) (suc j) d (omega arith) (omega arith)) b (All-tail (λ x. All (R x) ys) x xs c))

no_pairs : {X : Type 0} (R : X → X → Type 0) → AllPairs R []
no_pairs R i j d lt lj = absurd (omega (arith, lj))

one_alone : {X : Type 0} (R : X → X → Type 0) (x : X) → AllPairs R (x ∷ [])
one_alone R x = AllPairs-cons R x [] (All-nil (R x)) (no_pairs R)

marked_append : (n : ℕ) (xs ys : List Act) → AreMarked n xs → AreMarked (n + length (entries_in xs)) ys → AreMarked n (xs ++ ys)
marked_append n [] ys h k = let e : n + 0 ≡ n = omega arith in subst (λ m. AreMarked m ys) e k
marked_append n (x ∷ xs) ys h k =
    let long = length-append (entries_at x.outcome) (entries_in xs) in
    let e : n + length (entries_in (x ∷ xs)) ≡ n + length (entries_at x.outcome) + length (entries_in xs) = omega (arith, long) in
    (h.0, marked_append (n + length (entries_at x.outcome)) xs ys h.1 (subst (λ m. AreMarked m ys) e k))

-- ---- nothing

abbrev Fits : Act → Type 0
Fits a = FitsLine a.line.asked a.outcome

abbrev Between : ℕ → ℕ → OwnEntry → Type 0
Between low high e = (low < e.position) × (e.position ≤ high)

abbrev Told : ℕ → ℕ → Act → Type 0
Told low high a = IsOver low a.outcome × (version_at a.outcome ≤ high)

abbrev Steady : Act → Act → Type 0
Steady a b = IsOver (version_at a.outcome) b.outcome

abbrev Moved : ℕ → Act → Type 0
Moved low a = IsPullByTurn a → low + 2 ≤ version_at a.outcome

abbrev MovedOn : Act → Act → Type 0
MovedOn a b = IsPullByTurn b → version_at a.outcome + 2 ≤ version_at b.outcome

pub over_less : (low high : ℕ) (x : Outcome) → low ≤ high → IsOver high x → IsOver low x
over_less low high (entered e) le h = omega (arith, le, h)
over_less low high (noted n) le h = omega (arith, le, h)

-- no line was carried out, though the session may have seen more
pub acted_none : (old new : SessionModel) → StaysPut old new → new.own ≡ old.own → new.rank.pulls ≡ old.rank.pulls → old.position ≤ new.position → old.rank.seen ≤
    new.rank.seen → HasActed old new []
acted_none old new place own notes position version = record {
  place = place;
  own = own ∙ sym (append-nil old.own);
  notes = notes ∙ sym (append-nil old.rank.pulls);
  fits = All-nil Fits;
  marks = tt;
  positions = All-nil (Between old.position new.position);
  versions = All-nil (Told old.rank.seen new.rank.seen);
  steady = no_pairs Steady;
  moved = All-nil (Moved old.rank.seen);
  moved_on = no_pairs MovedOn;
  later = (position, version);
}

pub stays : (s : SessionModel) → StaysPut s s
stays s = record { gate = refl; setting = refl; number = refl; board = refl }

-- ---- one part after the other

pub acted_on : (a b c : SessionModel) (xs ys : List Act) → HasActed a b xs → HasActed b c ys → HasActed a c (xs ++ ys)
acted_on a b c xs ys h k =
    let up = h.later in
    let on = k.later in
    let entries = flat_map-append (λ (x : Act). entries_at x.outcome) xs ys in
    let notes = flat_map-append (λ (x : Act). notes_at x.outcome) xs ys in
    let many : length b.own ≡ length a.own + length (entries_in xs) = ap (λ l. length l) h.own ∙ length-append a.own (entries_in xs) in record {
      place = record {
        gate = k.place.gate ∙ h.place.gate;
        setting = k.place.setting ∙ h.place.setting;
        number = k.place.number ∙ h.place.number;
        board = k.place.board ∙ h.place.board;
      };
      own = k.own ∙ (ap (λ l. l ++ entries_in ys) h.own ∙ (append_assoc a.own (entries_in xs) (entries_in ys) ∙ ap (λ l. a.own ++ l) (sym entries)));
      notes = k.notes ∙ (ap (λ l. l ++ notes_in ys) h.notes ∙ (append_assoc a.rank.pulls (notes_in xs) (notes_in ys) ∙ ap (λ l. a.rank.pulls ++ l) (sym notes)));
      fits = All-append Fits xs ys h.fits k.fits;
      marks = marked_append (length a.own) xs ys h.marks (subst (λ n. AreMarked n ys) many k.marks);
      positions = subst (All (Between a.position c.position)) (sym entries) (All-append (Between a.position c.position) (entries_in xs) (entries_in ys)
          (All-weaker (Between a.position b.position) (Between a.position c.position) (λ e w. (w.0, omega (arith, w.1, on.0))) (entries_in xs) h.positions)
          (All-weaker (Between b.position c.position) (Between a.position c.position) (λ e w. (omega (arith, w.0, up.0), w.1)) (entries_in ys) k.positions));
      versions = All-append (Told a.rank.seen c.rank.seen) xs ys
          (All-weaker (Told a.rank.seen b.rank.seen) (Told a.rank.seen c.rank.seen) (λ e w. (w.0, omega (arith, w.1, on.1))) xs h.versions)
          (All-weaker (Told b.rank.seen c.rank.seen) (Told a.rank.seen c.rank.seen) (λ e w. (over_less a.rank.seen b.rank.seen e.outcome up.1 w.0, w.1)) ys k.versions);
      steady = pairs_append Steady xs ys h.steady k.steady (λ i d lt j e lj. over_less (version_at (get_or xs i d).outcome) b.rank.seen (get_or ys j e).outcome
          (h.versions i d lt).1 (k.versions j e lj).0);
      moved = All-append (Moved a.rank.seen) xs ys h.moved
          (All-weaker (Moved b.rank.seen) (Moved a.rank.seen) (λ e w by. omega (arith, w by, up.1)) ys k.moved);
      moved_on = pairs_append MovedOn xs ys h.moved_on k.moved_on (λ i d lt j e lj by. omega (arith, (h.versions i d lt).1, k.moved j e lj by));
      later = (omega (arith, up.0, on.0), omega (arith, up.1, on.1));
    }

-- ---- a turn

ahead : (b : Bool) (v s : ℕ) → s ≤ v → (b ≡ true → s < v) → s + (if b then 1 else 0) ≤ v
ahead true v s le lt = let x = lt refl in omega (arith, x)
ahead false v s le lt = omega (arith, le)

pub turn_acted : (o : Opening) (k : Command) (line : ScriptLine) (old new : SessionModel) (r : Receipt) → KeepsPlace old new → IsDone o k old new r → k ≡ command_of line.asked →
    (is_pull line.asked ≡ true → r.reply ≡ answered r.version (rank_in r.reply)) → (is_pull line.asked ≡ true → old.rank.seen + 2 ≤ r.version) →
    HasActed old new (act line (entered (own_entry r.position r.version k r.reply)) ∷ [])
turn_acted o k line old new r place d command reply moved =
    let x : Act = act line (entered (own_entry r.position r.version k r.reply)) in
    let later = d.later in
    let position = d.position in
    let older = d.not_older in
    let version = d.version in record {
      place = record { gate = place.gate; setting = place.setting; number = place.number; board = place.board };
      own = d.own;
      notes = place.notes ∙ sym (append-nil old.rank.pulls);
      fits = All-cons Fits x [] (command, d.room, reply) (All-nil Fits);
      marks = (tt, tt);
      positions = All-cons (Between old.position new.position) (own_entry r.position r.version k r.reply) [] (later, omega (arith, position))
          (All-nil (Between old.position new.position));
      versions = All-cons (Told old.rank.seen new.rank.seen) x [] (ahead (is_version r.reply) r.version old.rank.seen older d.newer, omega (arith, version))
          (All-nil (Told old.rank.seen new.rank.seen));
      steady = one_alone Steady x;
      moved = All-cons (Moved old.rank.seen) x [] (λ by. moved by.0) (All-nil (Moved old.rank.seen));
      moved_on = one_alone MovedOn x;
      later = (omega (arith, later, position), omega (arith, older, version));
    }

-- ---- a pull that is noted

abbrev seat_after : Bool → ℕ → ℕ → SeatModel → SeatModel
seat_after b place word seat = cond b seat (looked place word seat)

word_keeps_pulls : (b : Bool) (place word : ℕ) (seat : SeatModel) → (seat_after b place word seat).pulls ≡ seat.pulls
word_keeps_pulls true place word seat = refl
word_keeps_pulls false place word seat = refl

word_keeps_seen : (b : Bool) (place word : ℕ) (seat : SeatModel) → (seat_after b place word seat).seen ≡ seat.seen
word_keeps_seen true place word seat = refl
word_keeps_seen false place word seat = refl

pub noted_acted : (line : ScriptLine) (coflow v rank : ℕ) (old new : SessionModel) → line.asked ≡ Pull coflow → old.rank.seen ≤ new.rank.seen → new.rank.table ≡ old.rank.table →
    new ≡ record old { rank = new.rank } → new.rank ≡ pulled v coflow rank (length old.own) old.rank →
    HasActed old new (act line (noted (pull_of v coflow rank (length old.own))) ∷ [])
noted_acted line coflow v rank old new asked later board rest is =
    let note = pull_of v coflow rank (length old.own) in
    let x : Act = act line (noted note) in
    let b = v == 0 in
    let pulls : new.rank.pulls ≡ old.rank.pulls ++ note ∷ [] =
    ap (λ (s : SeatModel). s.pulls) is ∙ ap (λ l. l ++ note ∷ []) (word_keeps_pulls b (word_at v coflow) (rank_word v rank) (saw_front v old.rank)) in
    let seen : new.rank.seen ≡ v = ap (λ (s : SeatModel). s.seen) is ∙ word_keeps_seen b (word_at v coflow) (rank_word v rank) (saw_front v old.rank) in
    let position : new.position ≡ old.position = ap (λ (s : SessionModel). s.position) rest in record {
      place = record {
        gate = ap (λ (s : SessionModel). s.gate) rest;
        setting = ap (λ (s : SessionModel). s.setting) rest;
        number = ap (λ (s : SessionModel). s.number) rest;
        board = board;
      };
      own = ap (λ (s : SessionModel). s.own) rest ∙ sym (append-nil old.own);
      notes = pulls;
      fits = All-cons Fits x [] asked (All-nil Fits);
      marks = (refl, tt);
      positions = All-nil (Between old.position new.position);
      versions = All-cons (Told old.rank.seen new.rank.seen) x [] (omega (arith, later, seen), omega (arith, seen)) (All-nil (Told old.rank.seen new.rank.seen));
      steady = one_alone Steady x;
      moved = All-cons (Moved old.rank.seen) x [] (λ by. absurd (true≢false (sym by.1))) (All-nil (Moved old.rank.seen));
      moved_on = one_alone MovedOn x;
      later = (omega (arith, position), later);
    }

-- ---- a pull that asks in a turn

-- what the board showed of a rank that a publishing hid
pub record WasHidden (old mid : SessionModel) (coflow front found : ℕ) : Type 0 where
  pub later : old.rank.seen ≤ mid.rank.seen
  pub board : mid.rank.table ≡ old.rank.table
  pub rest : mid ≡ record old { rank = mid.rank }
  pub some : 1 ≤ front
  pub far : front + 2 ≤ found
  pub another : FoundAnother front coflow found (saw_front front old.rank) mid.rank

hidden_seen : (old mid : SessionModel) (coflow front found : ℕ) → WasHidden old mid coflow front found → mid.rank.seen ≡ front
hidden_seen old mid coflow front found h =
    ap (λ (s : SeatModel). s.seen) h.another.2 ∙ word_keeps_seen (front == 0) (word_at front coflow) (rank_word found h.another.0) (saw_front front old.rank)

pub hidden_acted : (old mid : SessionModel) (coflow front found : ℕ) → WasHidden old mid coflow front found → HasActed old mid []
hidden_acted old mid coflow front found h =
    let position : mid.position ≡ old.position = ap (λ (s : SessionModel). s.position) h.rest in
    acted_none old mid (record {
      gate = ap (λ (s : SessionModel). s.gate) h.rest;
      setting = ap (λ (s : SessionModel). s.setting) h.rest;
      number = ap (λ (s : SessionModel). s.number) h.rest;
      board = h.board;
    })
    (ap (λ (s : SessionModel). s.own) h.rest)
    (ap (λ (s : SeatModel). s.pulls) h.another.2 ∙ word_keeps_pulls (front == 0) (word_at front coflow) (rank_word found h.another.0) (saw_front front old.rank))
    (omega (arith, position)) h.later

found_version : (front coflow found rank : ℕ) → rank < 4294967296 → look_version (word_at front coflow, rank_word found rank) ≡ found
found_version front coflow found rank lt =
    ap (λ (b : Bool). if b then rank_word found rank else rank_word found rank / 4294967296) (ne_eqb (word_at front coflow) 0 (λ e. omega (arith, e))) ∙ omega (arith, lt)

-- the version that was found on the board was made before the turn ended
found_is_made : (o : Opening) (k : Command) (old mid new : SessionModel) (coflow front found : ℕ) (r : Receipt) → WasHidden old mid coflow front found → KeepsPlace mid new →
    IsDone o k mid new r → found ≤ r.version
found_is_made o k old mid new coflow front found r h place d =
    let look : ℕ × ℕ = (word_at front coflow, rank_word found h.another.0) in
    let looks : mid.rank.looks ≡ (saw_front front old.rank).looks ++ look ∷ [] =
    ap (λ (s : SeatModel). s.looks) h.another.2
    ∙ ap (λ (b : Bool). (seat_after b look.0 look.1 (saw_front front old.rank)).looks) (ne_eqb front 0 (λ e. let s = h.some in omega (arith, e, s))) in
    let low : look_version look ≤ r.version =
    All-contains (λ l. look_version l ≤ r.version) new.rank.looks look d.looks
    (subst (λ l. Contains l look) (sym place.looks.1) (Contains-append_left mid.rank.looks place.looks.0 look
    (subst (λ l. Contains l look) (sym looks) (Contains-push (saw_front front old.rank).looks look)))) in
    omega (arith, low, found_version front coflow found h.another.0 h.another.1)

rank_in_answer : (v rank : ℕ) (b : Bool) → (b ≡ true → rank ≡ 0) → rank_in (if b then Unranked v else Rank v rank) ≡ rank
rank_in_answer v rank true z = sym (z refl)
rank_in_answer v rank false z = refl

-- a pull in a turn is answered by the newest version
pub pull_tells : (o : Opening) (coflow : ℕ) (old new : SessionModel) (r : Receipt) → IsDone o (PullCommand coflow) old new r → r.reply ≡ answered r.version (rank_in r.reply)
pull_tells o coflow old new r d =
    let e = entry old.number (PullCommand coflow) r.reply in
    let a = pull_is_answered o d.before [] e coflow d.seen.legal refl in
    let v = version_of d.before in
    let rank = rank_of o d.before v coflow in
    let same : r.version ≡ v = d.version_is ∙ a.newest in
    let told : rank_in r.reply ≡ rank = ap rank_in a.reply ∙ rank_in_answer v rank (rank == 0) (λ t. eqb-true rank 0 t) in
    a.reply ∙ (λ i. answered (sym same i) (sym told i))

pub by_turn_acted : (o : Opening) (line : ScriptLine) (coflow front found : ℕ) (old mid new : SessionModel) (r : Receipt) → line.asked ≡ Pull coflow → WasHidden old mid coflow
    front found →
    KeepsPlace mid new → IsDone o (PullCommand coflow) mid new r → HasActed old new (act line (entered (own_entry r.position r.version (PullCommand coflow) r.reply)) ∷ [])
by_turn_acted o line coflow front found old mid new r asked h place d =
    let far = h.far in
    let seen = hidden_seen old mid coflow front found h in
    let made = found_is_made o (PullCommand coflow) old mid new coflow front found r h place d in
    acted_on old mid new [] (act line (entered (own_entry r.position r.version (PullCommand coflow) r.reply)) ∷ []) (hidden_acted old mid coflow front found h)
    (turn_acted o (PullCommand coflow) line mid new r place d (sym (ap command_of asked)) (λ p. pull_tells o coflow mid new r d) (λ p. omega (arith, far, seen, made)))
