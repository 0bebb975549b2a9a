-- A load of the front and of a rank word keep the rule, and what they tell.
use Rattle.std.proofs.Common.{◌≡◌, inl, inr, ℕ, ◌+◌, ◌-◌, ◌*◌, ◌/◌, ◌%◌, ◌<◌, ◌≤◌, List, [], ◌∷◌, ◌++◌, length, get_or, set, sym, refl, ap, ◌∙◌, subst, arith, true}
use Rattle.std.specs.Prelude.{All}
use Rattle.std.proofs.lemmas.List.Elements.{All-push, All-weaker}
use mathlib.Core.Logic.{dite}
use mathlib.Core.Option.{none}
use native.Mathlib.Decide.{ℕ_discrete, dec_le}
use lib.Seq.{set-get_or}
use Rattle.atomic_table.specs.Table.{step, keeps, Allows}
use Rattle.rank_board.specs.declared.view.View.{View}
use Rattle.rank_board.specs.Words.{word_at, coflow_at, rank_word, rank_of, WasPublished}
use Rattle.rank_board.specs.Banks.{WasWritten, Knows, Kept}
use Rattle.rank_board.specs.Tells.{looks, reads, meets, after_look, after_read}
use Rattle.rank_board.proofs.Ranks.{none_next}
use Rattle.rank_board.proofs.Views.{St, M, with_views}
use Rattle.coflow_units.proofs.Elements.{seats_stay}

module _ (n : ℕ) where
  -- a load of a word changes the view of the seat alone
  loads : (s : St) (r : Kept n s) (i id : ℕ) (w : View) → Knows r.published r.next r.writer id w →
      Kept n record { words = set s.words i (get_or s.words i 0); homes = s.homes; views = set s.views id w }
  loads s r i id w mine = subst (λ (ws : List ℕ). Kept n record { words = ws; homes = s.homes; views = set s.views id w }) (sym (set-get_or s.words i 0))
      (with_views n s r r.writer (set s.views id w) (seats_stay (Knows r.published r.next r.writer) s.views id w mine (λ j d _. r.each_seat j d)))

  front_published : (s : St) (r : Kept n s) → WasPublished r.published (0, get_or s.words 0 0)
  front_published s r = record { front = λ _. let f = r.front_is in omega arith; rank = λ p. absurd (omega arith) }

  looked_knows : (s : St) (r : Kept n s) (id : ℕ) (v : View) → Knows r.published r.next r.writer id v → Knows r.published r.next r.writer id (after_look (get_or s.words 0 0) v)
  looked_knows s r id v k = record {
    publishes = k.publishes;
    seen = let f = r.front_is in omega arith;
    looks = All-push (WasWritten r.published r.next) v.looks (0, get_or s.words 0 0) k.looks (inl (front_published s r));
  }

  pub looks_on : (slots id : ℕ) (me : M) → Allows (Kept n) slots id me 0 (λ x. x) (looks (step slots 0 0 0 none) me)
  looks_on slots id me s r _ at _ =
      let k = r.each_seat id me.0 at in
      let f = r.front_is in
      let few = r.few in
      let seen = k.seen in (
        after_look (get_or s.words 0 0) me.0,
        keeps,
        tt,
        loads s r 0 id _ (looked_knows s r id me.0 k),
        (refl, omega arith, omega arith),
      )

  pub meets_on : (slots id : ℕ) (me : M) → me.0.publishes ≡ true → me.0.next ≡ [] → Allows (Kept n) slots id me 0 (λ x. x) (meets (step slots 0 0 0 none) me)
  meets_on slots id me publishes none_written s r _ at _ =
      let k = r.each_seat id me.0 at in
      let p = k.publishes publishes in
      let f = r.front_is in
      let seen = k.seen in
      let same : length me.0.published ≡ length r.published = ap (λ (l : List (List ℕ)). length l) p.1 in
      let empty : r.next ≡ [] = sym p.2 ∙ none_written in
      let found : ℕ = get_or s.words 0 0 in
      let all : All (WasPublished r.published) (me.0.looks ++ (0, found) ∷ []) =
      All-push (WasPublished r.published) me.0.looks (0, found)
      (All-weaker (WasWritten r.published r.next) (WasPublished r.published) (λ look. none_next r.published r.next look empty) me.0.looks k.looks) (front_published s r) in (
        after_look found me.0,
        keeps,
        tt,
        loads s r 0 id _ (looked_knows s r id me.0 k),
        (
          refl,
          omega arith,
          omega arith,
          subst (λ (l : List (List ℕ)). All (WasPublished l) (me.0.looks ++ (0, found) ∷ [])) (sym p.1) all,
        ),
      )

  -- what a rank word of a version up to the newest shows
  abbrev Shows : (s : St) → Kept n s → ℕ → ℕ → Type 0
  Shows s r v c =
      WasWritten r.published r.next (word_at v c, get_or s.words (word_at v c) 0) × (v ≤ get_or s.words (word_at v c) 0 / 4294967296)
      × ((get_or s.words (word_at v c) 0 / 4294967296) % 2 ≡ v % 2)

  shows_published : (s : St) (r : Kept n s) (v w c : ℕ) → v ≤ w → w ≤ length r.published → w % 2 ≡ v % 2
      → get_or s.words (word_at v c) 0 ≡ rank_word w (rank_of r.published w c) → Shows s r v c
  shows_published s r v w c low high even is =
      let small = r.small w c in
      let x : get_or s.words (word_at v c) 0 / 4294967296 ≡ w = omega arith in
      let y : get_or s.words (word_at v c) 0 % 4294967296 ≡ rank_of r.published w c = omega arith in
      let z : coflow_at (word_at v c) ≡ c = omega arith in (
        inl record {
          front = λ e. absurd (omega arith);
          rank = λ p. (omega arith, y ∙ (λ i. rank_of r.published (sym x i) (sym z i)));
        },
        omega arith,
        omega arith,
      )

  shows_next : (s : St) (r : Kept n s) (v c : ℕ) → v ≤ length r.published → (length r.published + 1) % 2 ≡ v % 2 → c < length r.next
      → get_or s.words (word_at v c) 0 ≡ rank_word (length r.published + 1) (get_or r.next c 0) → get_or r.next c 0 < 4294967296 → Shows s r v c
  shows_next s r v c low even within is small =
      let w : ℕ = length r.published + 1 in
      let x : get_or s.words (word_at v c) 0 / 4294967296 ≡ w = omega arith in
      let y : get_or s.words (word_at v c) 0 % 4294967296 ≡ get_or r.next c 0 = omega arith in
      let z : coflow_at (word_at v c) ≡ c = omega arith in (
        inr (omega arith, x, omega arith, y ∙ ap (λ (i : ℕ). get_or r.next i 0) (sym z)),
        omega arith,
        omega arith,
      )

  shows : (s : St) (r : Kept n s) (v c : ℕ) → c < n → v ≤ length r.published → Shows s r v c
  shows s r v c inside below =
      let F : ℕ = length r.published in
      dite (ℕ_discrete (v % 2) (F % 2))
      (λ e. shows_published s r v F c below (omega arith) (sym e) (ap (λ (b : ℕ). get_or s.words (1 + 2 * c + b) 0) e ∙ r.shown c inside))
      (λ other. let e : v % 2 ≡ (F + 1) % 2 = omega arith in
      let same : get_or s.words (word_at v c) 0 ≡ get_or s.words (word_at (F + 1) c) 0 = ap (λ (b : ℕ). get_or s.words (1 + 2 * c + b) 0) e in
      dite (dec_le (length r.next) c)
      (λ after. shows_published s r v (F - 1) c (omega arith) (omega arith) (omega arith) (same ∙ r.old c after inside))
      (λ before. let w = r.written c (omega arith) in shows_next s r v c below (sym e) (omega arith) (same ∙ w.0) w.1))

  -- a rank word of the version that the seat has seen
  pub reads_on : (slots id : ℕ) (me : M) (place c : ℕ) → c < n → place ≡ word_at me.0.seen c → Allows (Kept n) slots id me place (λ x. x) (reads (step slots place 0 0 none) me)
  reads_on slots id me place c inside is = subst (λ (i : ℕ). Allows (Kept n) slots id me i (λ x. x) (reads (step slots i 0 0 none) me)) (sym is)
      (λ s r _ at _. let k = r.each_seat id me.0 at in
      let i : ℕ = word_at me.0.seen c in
      let found : ℕ = get_or s.words i 0 in
      let q = shows s r me.0.seen c inside k.seen in (
        after_read i found me.0,
        keeps,
        tt,
        loads s r i id _ record { publishes = k.publishes; seen = k.seen; looks = All-push (WasWritten r.published r.next) me.0.looks (i, found) k.looks q.0 },
        (refl, q.1, q.2),
      ))
