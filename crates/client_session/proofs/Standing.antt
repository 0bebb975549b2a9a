-- A caller's own entries stand at their positions, and what it noted stands between them.
use Rattle.std.proofs.Common.{◌≡◌, ℕ, ◌+◌, ◌<◌, ◌≤◌, Bool, inl, inr, List, [], ◌∷◌, ◌++◌, length, take, drop, refl, sym, ap, ◌∙◌, subst, arith, length-append, append_assoc}
use Rattle.std.specs.Prelude.{All, AllPairs, Contains, if◌then◌else◌, ◌==◌}
use Rattle.std.proofs.lemmas.Bool.{cases_Bool, cases_lt, eq-eqb, eqb-true}
use Rattle.std.proofs.lemmas.List.{take_all, take-append-le, take-append-drop}
use Rattle.std.proofs.lemmas.List.Elements.{All-cons, All-drop, All-nil, All-weaker, Contains-append_left, Contains-append_right, Contains-push}
use Rattle.std.proofs.lemmas.List.Kept.{AllPairs-cons}
use Rattle.journal.specs.declared.command.Entry.{Entry}
use Rattle.journal.specs.declared.opening.Opening.{Opening}
use Rattle.journal.specs.Journal.{entry, IsLegal, rank_of, version_of}
use Rattle.journal.specs.Versions.{IsMade}
use Rattle.journal.proofs.Growth.{version_append}
use Rattle.journal.proofs.VersionEntries.{made}
use Rattle.rank_board.specs.declared.pulls.Pull.{Pull}
use Rattle.client_session.specs.Own.{own_entries, own_entry, own_from, OwnEntry, StandsBetween, version_before, versions_in}
use Rattle.client_session.specs.Closes.{IsTrueNote, StandsAt}
use Rattle.client_session.proofs.OwnSteps.{own_append}

stands_here : (number : ℕ) (before more : List Entry) (x : Entry) (n v : ℕ) → x.who ≡ number → n ≡ length before → v ≡ version_of before →
    StandsAt (before ++ x ∷ more) number (own_entry (n + 1) (v + versions_in x.reply) x.command x.reply)
stands_here number before more x n v by long newest =
    let is : x ≡ entry number x.command x.reply = ap (λ k. entry k x.command x.reply) by in
    record {
      before = before;
      more = more;
      stands = ap (λ (y : Entry). before ++ y ∷ more) is;
      position = omega (arith, long);
      version = omega (arith, newest, version_append before (entry number x.command x.reply ∷ []));
    }

-- each entry of the caller behind these
pub stands_from : (number : ℕ) (before es : List Entry) (n v : ℕ) → n ≡ length before → v ≡ version_of before → All (StandsAt (before ++ es) number) (own_from number n v es)
stands_from number before [] n v long newest = All-nil (StandsAt (before ++ []) number)
stands_from number before (x ∷ es) n v long newest =
    let w = v + versions_in x.reply in
    let here = own_entry (n + 1) w x.command x.reply in
    let next = stands_from number (before ++ x ∷ []) es (n + 1) w (omega (arith, long, length-append before (x ∷ []))) (omega (arith, newest, version_append before (x ∷ []))) in
    let rest : All (StandsAt (before ++ x ∷ es) number) (own_from number (n + 1) w es) =
    subst (λ j. All (StandsAt j number) (own_from number (n + 1) w es)) (append_assoc before (x ∷ []) es) next in
    elim (cases_Bool (x.who == number)) [
      | inl t ↦
          let by : x.who ≡ number = eqb-true x.who number t in
          subst (λ (b : Bool). All (StandsAt (before ++ x ∷ es) number) (if b then here ∷ own_from number (n + 1) w es else own_from number (n + 1) w es)) (sym t)
          (All-cons (StandsAt (before ++ x ∷ es) number) here (own_from number (n + 1) w es) (stands_here number before es x n v by long newest) rest)
      | inr f ↦
          subst (λ (b : Bool). All (StandsAt (before ++ x ∷ es) number) (if b then here ∷ own_from number (n + 1) w es else own_from number (n + 1) w es)) (sym f) rest
    ]

pub own_stand : (number : ℕ) (journal : List Entry) → All (StandsAt journal number) (own_entries number journal)
own_stand number journal = stands_from number [] journal 0 0 refl refl

above_from : (number : ℕ) (es : List Entry) (n v : ℕ) → All (λ (e : OwnEntry). n < e.position) (own_from number n v es)
above_from number [] n v = All-nil (λ (e : OwnEntry). n < e.position)
above_from number (x ∷ es) n v =
    let w = v + versions_in x.reply in
    let here = own_entry (n + 1) w x.command x.reply in
    let tail = own_from number (n + 1) w es in
    let rest : All (λ (e : OwnEntry). n < e.position) tail =
    All-weaker (λ (e : OwnEntry). n + 1 < e.position) (λ (e : OwnEntry). n < e.position) (λ e lt. omega (arith, lt)) tail (above_from number es (n + 1) w) in
    elim (cases_Bool (x.who == number)) [
      | inl t ↦ subst (λ (b : Bool). All (λ (e : OwnEntry). n < e.position) (if b then here ∷ tail else tail)) (sym t)
          (All-cons (λ (e : OwnEntry). n < e.position) here tail (omega arith) rest)
      | inr f ↦ subst (λ (b : Bool). All (λ (e : OwnEntry). n < e.position) (if b then here ∷ tail else tail)) (sym f) rest
    ]

abbrev Rises : OwnEntry → OwnEntry → Type 0
Rises a b = a.position < b.position

rising_from : (number : ℕ) (es : List Entry) (n v : ℕ) → AllPairs Rises (own_from number n v es)
rising_from number [] n v = λ i j d lt low. absurd (omega (arith, low))
rising_from number (x ∷ es) n v =
    let w = v + versions_in x.reply in
    let here = own_entry (n + 1) w x.command x.reply in
    let tail = own_from number (n + 1) w es in
    elim (cases_Bool (x.who == number)) [
      | inl t ↦ subst (λ (b : Bool). AllPairs Rises (if b then here ∷ tail else tail)) (sym t)
          (AllPairs-cons Rises here tail (above_from number es (n + 1) w) (rising_from number es (n + 1) w))
      | inr f ↦ subst (λ (b : Bool). AllPairs Rises (if b then here ∷ tail else tail)) (sym f) (rising_from number es (n + 1) w)
    ]

pub own_rise : (number : ℕ) (journal : List Entry) → AllPairs Rises (own_entries number journal)
own_rise number journal = rising_from number journal 0 0

-- each entry is one of its caller's
pub is_own : (before more : List Entry) (e : Entry) →
    Contains (own_entries e.who (before ++ e ∷ more)) (own_entry (length before + 1) (version_of (before ++ e ∷ [])) e.command e.reply)
is_own before more e =
    let here = own_entry (0 + length before + 1) (0 + version_of before + versions_in e.reply) e.command e.reply in
    let tail = own_from e.who (0 + length before + 1) (0 + version_of before + versions_in e.reply) more in
    let first : Contains (if e.who == e.who then here ∷ tail else tail) here =
    subst (λ (b : Bool). Contains (if b then here ∷ tail else tail) here) (sym (eq-eqb e.who e.who refl)) (Contains-append_left (here ∷ []) tail here (Contains-push [] here)) in
    let all = subst (λ l. Contains l here) (sym (own_append e.who 0 0 before (e ∷ more))) (Contains-append_right (own_from e.who 0 0 before) (own_from e.who (0 + length before)
    (0 + version_of before) (e ∷ more)) here first) in
    let n : 0 + length before + 1 ≡ length before + 1 = omega arith in
    let v : 0 + version_of before + versions_in e.reply ≡ version_of (before ++ e ∷ []) = omega (arith, version_append before (e ∷ [])) in
    subst (λ x. Contains (own_entries e.who (before ++ e ∷ more)) x) (λ i. own_entry (n i) (v i) e.command e.reply) all

-- of two beginnings of a journal the one with fewer versions is the shorter
fewer_is_shorter : (a x b y : List Entry) → a ++ x ≡ b ++ y → version_of b < version_of a → length b < length a
fewer_is_shorter a x b y same fewer = elim (cases_lt (length b) (length a)) [
  | inl lt ↦ lt
  | inr le ↦
      let low : length a ≤ length b = omega (arith, le) in
      let front : take (length a) b ≡ a =
      sym (take-append-le (length a) b y low) ∙ (ap (take (length a)) (sym same) ∙ (take-append-le (length a) a x (omega arith) ∙ take_all (length a) a (omega arith))) in
      let rest = drop (length a) b in
      let more : version_of b ≡ version_of a + version_of rest =
      ap version_of (sym (take-append-drop (length a) b)) ∙ (version_append (take (length a) b) rest ∙ ap (λ l. version_of l + version_of rest) front) in
      absurd (omega (arith, fewer, more))
]

-- the entry that made a version stands before each of a caller's entries before which the version was there
made_before : (journal : List Entry) (number v : ℕ) (x : IsMade journal v) (e : OwnEntry) → StandsAt journal number e → v ≤ version_before e → length x.before + 1 < e.position
made_before journal number v x e at le =
    let versions = version_append at.before (entry number e.command e.reply ∷ []) in
    let newest : v ≤ version_of at.before = omega (arith, at.version, versions, le) in
    let short = fewer_is_shorter at.before (entry number e.command e.reply ∷ at.more) x.before (x.entry ∷ x.more) (sym at.stands ∙ x.stands) (omega (arith, newest, x.below)) in
    omega (arith, at.position, short)

-- a noted pull, in a legal journal
pub note_is_true : (o : Opening) (journal : List Entry) (number : ℕ) (own : List OwnEntry) (p : Pull) → IsLegal o journal → All (StandsAt journal number) own →
    StandsBetween own p → p.version ≤ version_of journal → p.rank ≡ rank_of o journal p.version p.coflow → IsTrueNote o journal own p
note_is_true o journal number own p legal stand between low rank = record {
  version = low;
  rank = rank;
  mark = between.mark;
  before = between.before;
  after = λ some.
      let x = made o journal p.version legal some low in
      let late = All-drop (StandsAt journal number) p.mark own stand in
      (x, λ i d lt. made_before journal number p.version x _ (late i d lt) (between.after i d lt));
}
