-- A word that the publisher writes and the front that it raises keep the rule, and a new board has it.
use Rattle.std.proofs.Common.{◌≡◌, inl, ℕ, zero, suc, ◌+◌, ◌-◌, ◌*◌, ◌%◌, ◌<◌, List, [], ◌∷◌, ◌++◌, length, get_or, set, sym, refl, ap, ◌∙◌, subst, arith, true, length-set}
use Rattle.std.proofs.Common.{length-append, get_or-set_other, get_or-set_same}
use Rattle.std.specs.Prelude.{replicate}
use Rattle.std.proofs.lemmas.List.{length-replicate}
use Rattle.std.proofs.lemmas.List.Elements.{All-nil, All-weaker}
use mathlib.Core.Logic.{dite}
use mathlib.Core.Option.{none, some, some-injective, some-ne-none}
use native.Mathlib.Decide.{ℕ_discrete}
use lib.ListN.{get_elem?}
use Rattle.atomic_table.specs.Table.{step, keeps, Allows, opening}
use Rattle.rank_board.specs.declared.view.View.{View}
use Rattle.rank_board.specs.Words.{word_at, rank_word, rank_of}
use Rattle.rank_board.specs.Banks.{WasWritten, Knows, Kept, publisher_view}
use Rattle.rank_board.specs.Tells.{writes, raises}
use Rattle.rank_board.proofs.Ranks.{at_last, at_first, longer, rank_stays, rank_new, small_stays, all_published, writes_more}
use Rattle.rank_board.proofs.Views.{M, knows_more}
use Rattle.coflow_units.proofs.Elements.{seats_stay}
use Rattle.coflow_units.proofs.Ranges.{zero_at}

module _ (n : ℕ) where
  -- the word of the next coflow, of the next version
  pub writes_on : (slots id : ℕ) (me : M) (i c rank new : ℕ) → me.0.publishes ≡ true → c ≡ length me.0.next → c < n → rank < 4294967296
      → i ≡ word_at (length me.0.published + 1) c → new ≡ rank_word (length me.0.published + 1) rank
      → Allows (Kept n) slots id me i (λ _. new) (λ _. writes (step slots i new 0 none) me new)
  writes_on slots id me i c rank new publishes at_c inside small at_i is s r _ at _ =
      let v : View = me.0 in
      let k = r.each_seat id v at in
      let p = k.publishes publishes in
      let F : ℕ = length r.published in
      let same : length v.published ≡ F = ap (λ (l : List (List ℕ)). length l) p.1 in
      let i_is : i ≡ word_at (F + 1) c = at_i ∙ ap (λ z. word_at (z + 1) c) same in
      let new_is : new ≡ rank_word (F + 1) rank = is ∙ ap (λ z. rank_word (z + 1) rank) same in
      let wide = r.wide in
      let count : c ≡ length r.next = at_c ∙ ap (λ (l : List ℕ). length l) p.2 in
      let rank_is : new % 4294967296 ≡ rank = omega arith in
      let more : List ℕ = r.next ++ rank ∷ [] in
      let grown : length more ≡ length r.next + 1 = length-append r.next (rank ∷ []) in
      let w : View = record v { next = v.next ++ new % 4294967296 ∷ [] } in
      let mine : Knows r.published more r.writer id w = record {
        publishes = λ e. (p.0, p.1, (λ q. p.2 q ++ rank_is q ∷ []));
        seen = k.seen;
        looks = All-weaker (WasWritten r.published r.next) (WasWritten r.published more) (writes_more r.published r.next rank) v.looks k.looks;
      } in (
        w,
        keeps,
        tt,
        record {
          published = r.published;
          next = more;
          writer = r.writer;
          wide = length-set s.words i new ∙ r.wide;
          front_is = get_or-set_other s.words i 0 new 0 (λ e. omega arith) ∙ r.front_is;
          few = r.few;
          short = omega arith;
          small = r.small;
          shown = λ d l. get_or-set_other s.words i (word_at F d) new 0 (λ e. omega arith) ∙ r.shown d l;
          written = λ d l. dite (ℕ_discrete d c)
              (λ e. let last : get_or more d 0 ≡ rank = at_last 0 r.next rank d (e ∙ count) in (
                ap (λ z. get_or (set s.words i new) z 0) (ap (word_at (F + 1)) e ∙ sym i_is) ∙
                    (get_or-set_same s.words i new 0 (omega arith) ∙ (new_is ∙ ap (rank_word (F + 1)) (sym last))),
                omega arith,
              ))
              (λ other. let before : get_or more d 0 ≡ get_or r.next d 0 = at_first 0 r.next (rank ∷ []) d (omega arith) in
              let was = r.written d (omega arith) in (
                get_or-set_other s.words i (word_at (F + 1) d) new 0 (λ e. omega arith) ∙ (was.0 ∙ ap (rank_word (F + 1)) (sym before)),
                subst (λ z. z < 4294967296) (sym before) was.1,
              ));
          old = λ d l h. get_or-set_other s.words i (word_at (F + 1) d) new 0 (λ e. omega arith) ∙ r.old d (omega arith) h;
          each_seat = seats_stay (Knows r.published more r.writer) s.views id w mine
              (λ j d other e. let x = r.each_seat j d e in
              knows_more r.published r.published r.next more r.writer r.writer j d (omega arith) (writes_more r.published r.next rank) (λ b. other ((x.publishes b).0 ∙ sym p.0))
              x);
        },
        refl,
      )

  -- the front, once all words of the next version are written
  pub raises_on : (slots id : ℕ) (me : M) (new : ℕ) → me.0.publishes ≡ true → length me.0.next ≡ n → new ≡ length me.0.published + 1 → new < 4294967296
      → Allows (Kept n) slots id me 0 (λ _. new) (λ _. raises (step slots 0 new 0 none) me new)
  raises_on slots id me new publishes full is room s r _ at _ =
      let v : View = me.0 in
      let k = r.each_seat id v at in
      let p = k.publishes publishes in
      let F : ℕ = length r.published in
      let same : length v.published ≡ F = ap (λ (l : List (List ℕ)). length l) p.1 in
      let all : length r.next ≡ n = ap (λ (l : List ℕ). length l) (sym p.2) ∙ full in
      let wide = r.wide in
      let seen = k.seen in
      let more : List (List ℕ) = r.published ++ r.next ∷ [] in
      let grown : length more ≡ F + 1 = longer r.published r.next in
      let stays : (look : ℕ × ℕ) → WasWritten r.published r.next look → WasWritten more [] look = λ look was. inl (all_published r.published r.next look was) in
      let w : View = record v { published = v.published ++ v.next ∷ []; next = [] } in
      let mine : Knows more [] r.writer id w = record {
        publishes = λ e. (p.0, (λ q. p.1 q ++ p.2 q ∷ []), refl);
        seen = omega arith;
        looks = All-weaker (WasWritten r.published r.next) (WasWritten more []) stays v.looks k.looks;
      } in (
        w,
        keeps,
        tt,
        record {
          published = more;
          next = [];
          writer = r.writer;
          wide = length-set s.words 0 new ∙ r.wide;
          front_is = get_or-set_same s.words 0 new 0 (omega arith) ∙ (is ∙ (ap (λ z. z + 1) same ∙ sym grown));
          few = omega arith;
          short = omega arith;
          small = small_stays r.published r.next r.small (λ c l. (r.written c l).1);
          shown = λ c l. let e = r.written c (omega arith) in
              get_or-set_other s.words 0 (word_at (length more) c) new 0 (λ z. omega arith)
              ∙ (ap (λ z. get_or s.words (word_at z c) 0) grown ∙ (e.0 ∙ (λ q. rank_word (sym grown q) (sym (rank_new r.published r.next (length more) c grown) q))));
          written = λ c l. absurd (omega arith);
          old = λ c l h. let before : length more - 1 ≡ F = omega arith in
              let same_word : word_at (length more + 1) c ≡ word_at F c = omega arith in
              get_or-set_other s.words 0 (word_at (length more + 1) c) new 0 (λ z. omega arith)
              ∙ (ap (λ z. get_or s.words z 0) same_word ∙
              (r.shown c h ∙ (λ q. rank_word (sym before q) (sym (ap (λ z. rank_of more z c) before ∙ rank_stays r.published r.next F c (omega arith)) q))));
          each_seat = seats_stay (Knows more [] r.writer) s.views id w mine
              (λ j d other e. let x = r.each_seat j d e in
              knows_more r.published more r.next [] r.writer r.writer j d (omega arith) stays (λ b. other ((x.publishes b).0 ∙ sym p.0)) x);
        },
        refl,
      )

-- the words of a new board
pub new_words : (words : List ℕ) (n : ℕ) → words ≡ replicate (1 + 2 * n) 0 → (length words ≡ 1 + 2 * n) × ((i : ℕ) → get_or words i 0 ≡ 0)
new_words words n e = (ap (λ (l : List ℕ). length l) e ∙ length-replicate (1 + 2 * n) 0, λ i. ap (λ (l : List ℕ). get_or l i 0) e ∙ zero_at (1 + 2 * n) i)

no_ranks : (v c : ℕ) → rank_of [] v c ≡ 0
no_ranks zero c = refl
no_ranks (suc v) c = refl

first_view : (v : View) (j : ℕ) → get_elem? (publisher_view ∷ []) j ≡ some v → (j ≡ 0) × (publisher_view ≡ v)
first_view v zero e = (refl, some-injective publisher_view v e)
first_view v (suc j) e = absurd (some-ne-none v (sym e))

-- a new board
pub starts : (n : ℕ) (words : List ℕ) → length words ≡ 1 + 2 * n → ((i : ℕ) → get_or words i 0 ≡ 0) → Kept n (opening words [] publisher_view)
starts n words wide empty = record {
  published = [];
  next = [];
  writer = 0;
  wide = wide;
  front_is = empty 0;
  few = omega arith;
  short = omega arith;
  small = λ v c. let e = no_ranks v c in omega arith;
  shown = λ c l. empty (word_at 0 c);
  written = λ c l. absurd (omega arith);
  old = λ c l h. empty (word_at 1 c);
  each_seat = λ j v e. let t = first_view v j e in
      subst (λ (x : ℕ × View). Knows [] [] 0 x.0 x.1) (λ i. (sym t.0 i, t.1 i)) record {
        publishes = λ _. (refl, refl, refl);
        seen = omega arith;
        looks = All-nil (WasWritten [] []);
      };
}
