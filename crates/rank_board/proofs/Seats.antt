-- Seats and notes that are cut off and joined, and the right to publish that goes from one to another, keep the rule.
use Rattle.std.proofs.Common.{◌≡◌, ◌≢◌, ℕ, ◌≤◌, List, [], ◌∷◌, ◌++◌, length, set, sym, refl, ◌∙◌, arith, true, true≢false}
use Rattle.std.proofs.lemmas.List.Elements.{All-nil}
use Rattle.atomic_table.specs.Table.{Splits, Joins}
use Rattle.atomic_table.proofs.Lists.{set_else}
use Rattle.rank_board.specs.declared.view.View.{View}
use Rattle.rank_board.specs.Banks.{WasWritten, Knows, Kept, blank}
use Rattle.rank_board.specs.Tells.{same_view, newcomer, hears, without_right, right_of, takes_right}
use Rattle.rank_board.proofs.Views.{one_more_stays, knows_more, with_views}
use Rattle.coflow_units.proofs.Elements.{seats_stay}

-- a view without looks, which may not publish
blank_knows : (published : List (List ℕ)) (next : List ℕ) (writer place seen : ℕ) → seen ≤ length published → Knows published next writer place (record blank { seen = seen })
blank_knows published next writer place seen l = record { publishes = λ e. absurd (true≢false (sym e)); seen = l; looks = All-nil (WasWritten published next) }

module _ (n : ℕ) where
  -- one more seat, or a note
  pub makes_another : (id : ℕ) (v : View) → Splits (Kept n) id v (same_view v) (newcomer v)
  makes_another id v s r at =
      let k = r.each_seat id v at in
      with_views n s r r.writer (set s.views id v ++ newcomer v ∷ [])
      (one_more_stays (Knows r.published r.next r.writer) (set s.views id v) (newcomer v) (blank_knows r.published r.next r.writer (length (set s.views id v)) v.seen k.seen)
      (seats_stay (Knows r.published r.next r.writer) s.views id v k (λ j d _. r.each_seat j d)))

  -- a seat hears what a note has seen
  pub hears_note : (id : ℕ) (v : View) (other : ℕ) (w : View) → Joins (Kept n) id v other w (hears v w) blank
  hears_note id v other w s r at apart there =
      let k = r.each_seat id v at in
      let h = r.each_seat other w (sym (set_else s.views id other (hears v w) apart) ∙ there) in
      let a = k.seen in
      let b = h.seen in
      let K : ℕ → View → Type 0 = Knows r.published r.next r.writer in
      with_views n s r r.writer (set (set s.views id (hears v w)) other blank)
      (seats_stay K (set s.views id (hears v w)) other blank (blank_knows r.published r.next r.writer other 0 (omega arith))
      (λ j d _. seats_stay K s.views id (hears v w) record { publishes = k.publishes; seen = omega arith; looks = k.looks } (λ i e _. r.each_seat i e) j d))

  -- the right to publish leaves a seat
  pub gives_right : (id : ℕ) (v : View) → v.publishes ≡ true → Splits (Kept n) id v (without_right v) (right_of v)
  gives_right id v publishes s r at =
      let k = r.each_seat id v at in
      let p = k.publishes publishes in
      let vs : List View = set s.views id (without_right v) in
      let writer : ℕ = length vs in
      let K : ℕ → View → Type 0 = Knows r.published r.next writer in
      with_views n s r writer (vs ++ right_of v ∷ [])
      (one_more_stays K vs (right_of v) record { publishes = λ _. (refl, p.1, p.2); seen = omega arith; looks = All-nil (WasWritten r.published r.next) }
      (seats_stay K s.views id (without_right v) record { publishes = λ e. absurd (true≢false (sym e)); seen = k.seen; looks = k.looks }
      (λ j d other e. let x = r.each_seat j d e in
      knows_more r.published r.published r.next r.next r.writer writer j d (omega arith) (λ look was. was) (λ b. other ((x.publishes b).0 ∙ sym p.0)) x)))

  -- and comes to another
  pub takes_right_on : (id : ℕ) (v : View) (other : ℕ) (w : View) → w.publishes ≡ true → Joins (Kept n) id v other w (takes_right v w) blank
  takes_right_on id v other w publishes s r at apart there =
      let k = r.each_seat id v at in
      let h = r.each_seat other w (sym (set_else s.views id other (takes_right v w) apart) ∙ there) in
      let p = h.publishes publishes in
      let K : ℕ → View → Type 0 = Knows r.published r.next id in
      let vs : List View = set s.views id (takes_right v w) in
      with_views n s r id (set vs other blank)
      (seats_stay K vs other blank (blank_knows r.published r.next id other 0 (omega arith))
      (λ j d not_other e. seats_stay (λ i u. i ≢ other → K i u) s.views id (takes_right v w) (λ _. record { publishes = λ _. (refl, p.1, p.2); seen = k.seen; looks = k.looks })
      (λ i u not_id f not. let x = r.each_seat i u f in
      knows_more r.published r.published r.next r.next r.writer id i u (omega arith) (λ look was. was) (λ b. not ((x.publishes b).0 ∙ sym p.0)) x) j d e not_other))
