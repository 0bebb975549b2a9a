-- Each step keeps the rule of a tray.
use Rattle.std.proofs.Common.{◌≡◌, ◌≢◌, ◌==◌, ℕ, zero, suc, List, [], ◌∷◌, get_or, set, sym, refl, ap, ◌∙◌, subst, ⊎_elim, arith, Option, Some, None, replicate}
use mathlib.Core.Option as maybe
use mathlib.Core.Option.{none, some, some-injective, some-ne-none}
use lib.ListN.{get_elem?}
use prog.Atomic.{either}
use Rattle.atomic_table.specs.Table.{State, Me, Act, Valid, stepped, carried_after, step, keeps}
use Rattle.atomic_table.specs.Table.{takes as taking, gives as giving, put_back, rest, Allows, Splits, opening, Final, Seen}
use Rattle.atomic_table.proofs.Lists.{at_set, at_snoc, set_again, exchanged}
use Rattle.errands.specs.declared.view.Stage.{Stage}
use Rattle.errands.specs.declared.view.Stage.TheVariants.{Free, Busy, Over}
use Rattle.errands.specs.declared.view.Role.{Role}
use Rattle.errands.specs.declared.view.Role.TheVariants.{Giver, Helper}
use Rattle.errands.specs.declared.view.View.{View}
use Rattle.errands.specs.Rule.{Phase, word_of, home_of, IsOut, Sound, GiverAt, HelperAt, Sits, Kept, first_view}
use Rattle.errands.specs.Rule.Phase.{rests, lies, taken, back, ended}
use Rattle.errands.specs.Tells.{begins, gives, takes, answers, recalls, fetches, ends, at, same, newcomer}

module _ {T : Type 0} where
  pub some_same : {x y : T} → ◌≡◌ {A = Option T} (Some x) (Some y) → x ≡ y
  some_same {x} {y} e = ap (λ (o : Option T). elim o [ None ↦ x | Some z ↦ z ]) e

  same_word : (p q : Phase T) → p ≡ q → word_of p ≡ word_of q
  same_word p q e = ap (λ (z : Phase T). word_of z) e

  -- the phase, by its word
  pub lies_at : (p : Phase T) → word_of p ≡ 1 → (x : T) × (p ≡ lies x)
  lies_at rests e = absurd (omega arith)
  lies_at (lies x) e = (x, refl)
  lies_at (taken x) e = absurd (omega arith)
  lies_at (back x y) e = absurd (omega arith)
  lies_at ended e = absurd (omega arith)

  pub back_at : (p : Phase T) → word_of p ≡ 3 → (x y : T) × (p ≡ back x y)
  back_at rests e = absurd (omega arith)
  back_at (lies x) e = absurd (omega arith)
  back_at (taken x) e = absurd (omega arith)
  back_at (back x y) e = (x, y, refl)
  back_at ended e = absurd (omega arith)

  -- the others, where the giver, who is at this place, goes from one phase to another
  pub others_see : (p q : Phase T) (giver helper j : ℕ) (st : Stage T) (r : Role) → j ≢ giver → ((x : T) → p ≢ taken x) → Sits p giver helper j st r → Sits q giver helper j st r
  others_see p q giver helper j st Giver other not h = absurd (other (sym h.0))
  others_see p q giver helper j Free Helper other not h = tt
  others_see p q giver helper j (Busy x) Helper other not h = absurd (not x h.1)
  others_see p q giver helper j Over Helper other not h = h

  -- the others, where a helper takes what lies there
  pub others_take : (x : T) (giver helper mine j : ℕ) (st : Stage T) (r : Role) → Sits (lies x) giver helper j st r → Sits (taken x) giver mine j st r
  others_take x giver helper mine j Free Giver h = absurd (let n = same_word (lies x) rests h.1 in omega arith)
  others_take x giver helper mine j (Busy z) Giver h = h
  others_take x giver helper mine j Over Giver h = absurd (let n = same_word (lies x) ended h.1 in omega arith)
  others_take x giver helper mine j Free Helper h = tt
  others_take x giver helper mine j (Busy z) Helper h = absurd (let n = same_word (lies x) (taken z) h.1 in omega arith)
  others_take x giver helper mine j Over Helper h = h

  -- the others, where the helper answers
  pub others_hear : (x y : T) (giver helper j : ℕ) (st : Stage T) (r : Role) → j ≢ helper → Sits (taken x) giver helper j st r → Sits (back x y) giver helper j st r
  others_hear x y giver helper j Free Giver other h = absurd (let n = same_word (taken x) rests h.1 in omega arith)
  others_hear x y giver helper j (Busy z) Giver other h = h
  others_hear x y giver helper j Over Giver other h = absurd (let n = same_word (taken x) ended h.1 in omega arith)
  others_hear x y giver helper j Free Helper other h = tt
  others_hear x y giver helper j (Busy z) Helper other h = absurd (other (sym h.0))
  others_hear x y giver helper j Over Helper other h = h

  pub not_taken : (p q : Phase T) → p ≡ q → word_of q ≢ 2 → (x : T) → p ≢ taken x
  not_taken p q is n x e = n (ap word_of (sym is ∙ e))

module _ {T K : Type 0} (fits : K → T → Type 0) (done : K → T → T → Type 0) (about : K) where
  abbrev V : Type 0
  V = View T K

  abbrev St : Type 0
  St = State (Option T) V

  abbrev M : Type 0
  M = Me (Option T) V

  abbrev Rule : St → Type 0
  Rule = Kept fits done about

  abbrev Seats : Phase T → ℕ → ℕ → ℕ → V → Type 0
  Seats p giver helper j v = Sits p giver helper j v.stage v.role × (v.about ≡ about)

  -- each view after one has changed
  seats_stay : (Q : ℕ → V → Type 0) (vs : List V) (me : ℕ) (w : V) → Q me w → ((j : ℕ) (d : V) → j ≢ me → get_elem? vs j ≡ some d → Q j d)
      → (j : ℕ) (d : V) → get_elem? (set vs me w) j ≡ some d → Q j d
  seats_stay Q vs me w mine others j d e = ⊎_elim (λ (t : (j ≡ me) × (w ≡ d)). subst (λ (x : ℕ × V). Q x.0 x.1) (λ i. (sym t.0 i, t.1 i)) mine)
      (λ (t : (j ≢ me) × (get_elem? vs j ≡ some d)). others j d t.0 t.1) (at_set vs me j w d e)

  giver_is : (p : Phase T) (giver helper id : ℕ) (st : Stage T) (r : Role) → r ≡ Giver → Sits p giver helper id st r → (giver ≡ id) × GiverAt p st
  giver_is p giver helper id st r is h = subst (Sits p giver helper id st) is h

  helper_is : (p : Phase T) (giver helper id : ℕ) (st : Stage T) (r : Role) → r ≡ Helper → Sits p giver helper id st r → HelperAt p helper id st
  helper_is p giver helper id st r is h = subst (Sits p giver helper id st) is h

  is_giver : (p : Phase T) (giver helper id : ℕ) (st : Stage T) (r : Role) → r ≡ Giver → giver ≡ id → GiverAt p st → Sits p giver helper id st r
  is_giver p giver helper id st r is own h = subst (Sits p giver helper id st) (sym is) (own, h)

  is_helper : (p : Phase T) (giver helper id : ℕ) (st : Stage T) (r : Role) → r ≡ Helper → HelperAt p helper id st → Sits p giver helper id st r
  is_helper p giver helper id st r is h = subst (Sits p giver helper id st) (sym is) h

  -- the giver goes from one phase to another
  moves : (s : St) (r : Rule s) (id : ℕ) (v w : V) (q : Phase T) (ws : List ℕ) (hs : List (maybe.Option (Option T))) → get_elem? s.views id ≡ some v → v.role ≡ Giver →
      w.role ≡ Giver
      → w.about ≡ v.about → r.giver ≡ id → ((x : T) → r.phase ≢ taken x) → ws ≡ word_of q ∷ [] → hs ≡ home_of q ∷ [] → Sound fits done about q → GiverAt q w.stage
      → Rule record { words = ws; homes = hs; views = set s.views id w }
  moves s r id v w q ws hs at is is' kept own not ws_is hs_is sound now = record {
    phase = q;
    giver = r.giver;
    helper = r.helper;
    word = ws_is;
    home = hs_is;
    sound = sound;
    each = seats_stay (Seats q r.giver r.helper) s.views id w (is_giver q r.giver r.helper id w.stage w.role is' own now, kept ∙ (r.each id v at).1)
        (λ j d other e. (others_see r.phase q r.giver r.helper j d.stage d.role (λ j_is. other (j_is ∙ own)) not (r.each j d e).0, (r.each j d e).1));
  }

  pub begins_on : (slots id : ℕ) (me : M) → me.0.role ≡ Giver → me.0.stage ≡ Over → me.1 ≡ []
      → Allows Rule slots id me 0 (λ _. 0) (λ _. begins (step slots 0 0 0 none) me 0)
  begins_on slots id me is over none_held s r _ at' _ =
      let v : V = me.0 in
      let g = giver_is r.phase r.giver r.helper id v.stage v.role is (r.each id v at').0 in
      let p_is : r.phase ≡ ended = subst (GiverAt r.phase) over g.1 in
      let homes_is : s.homes ≡ some None ∷ [] = r.home ∙ ap (λ p. home_of p ∷ []) p_is in (
        at Free v,
        taking 0 None,
        ap (λ h. get_elem? h 0) homes_is,
        moves s r id v (at Free v) rests _ _ at' is is refl g.0 (not_taken r.phase ended p_is (λ e. omega arith))
            (ap (λ l. set l 0 0) r.word) (ap (λ h. set h 0 none) homes_is) tt refl,
        refl,
      )

  -- what the giver gave is where the phase says
  out_lies : (x z : T) (p : Phase T) → p ≡ lies z → IsOut x p → z ≡ x
  out_lies x z p is h = subst (IsOut x) is h

  out_back : (x z y : T) (p : Phase T) → p ≡ back z y → IsOut x p → z ≡ x
  out_back x z y p is h = subst (IsOut x) is h

  abbrev held : List (ℕ × Option T) → T → T
  held [] d = d
  held (y ∷ ys) d = elim y.1 [ None ↦ d | Some z ↦ z ]

  pub gives_on : (slots id : ℕ) (me : M) (x : T) → me.0.role ≡ Giver → me.0.stage ≡ Free → me.1 ≡ (0, Some x) ∷ [] → fits me.0.about x
      → Allows Rule slots id me 0 (λ _. 1) (λ _. gives (step slots 0 1 0 none) me 1)
  gives_on slots id me x is free holds fit s r _ at' _ =
      let v : V = me.0 in
      let g = giver_is r.phase r.giver r.helper id v.stage v.role is (r.each id v at').0 in
      let p_is : r.phase ≡ rests = subst (GiverAt r.phase) free g.1 in
      let homes_is : put_back s.homes me.1 ≡ some (Some x) ∷ [] = ap (put_back s.homes) holds ∙ ap (λ h. set h 0 (some (Some x))) (r.home ∙ ap (λ p. home_of p ∷ []) p_is) in (
        at (Busy x) v,
        giving,
        tt,
        moves s r id v (at (Busy x) v) (lies x) _ _ at' is is refl g.0 (not_taken r.phase rests p_is (λ e. omega arith))
            (ap (λ l. set l 0 1) r.word) homes_is (subst (λ k. fits k x) (r.each id v at').1 fit) refl,
        λ y e. let same : x ≡ y = ap (λ l. held l x) (sym holds ∙ e) in λ i. (at (Busy (same i)) v, rest (holds i)),
      )

  pub ends_on : (slots id : ℕ) (me : M) → me.0.role ≡ Giver → me.0.stage ≡ Free → me.1 ≡ (0, None) ∷ []
      → Allows Rule slots id me 0 (λ _. 4) (λ _. ends (step slots 0 4 0 none) me 4)
  ends_on slots id me is free holds s r _ at' _ =
      let v : V = me.0 in
      let g = giver_is r.phase r.giver r.helper id v.stage v.role is (r.each id v at').0 in
      let p_is : r.phase ≡ rests = subst (GiverAt r.phase) free g.1 in
      let homes_is : put_back s.homes me.1 ≡ some None ∷ [] = ap (put_back s.homes) holds ∙ ap (λ h. set h 0 (some None)) (r.home ∙ ap (λ p. home_of p ∷ []) p_is) in (
        at Over v,
        giving,
        tt,
        moves s r id v (at Over v) ended _ _ at' is is refl g.0 (not_taken r.phase rests p_is (λ e. omega arith))
            (ap (λ l. set l 0 4) r.word) homes_is tt refl,
        λ e. λ i. (at Over v, rest (holds i)),
      )

  -- nothing changes
  stands : (s : St) (r : Rule s) (id : ℕ) (v : V) (ws : List ℕ) → get_elem? s.views id ≡ some v → ws ≡ s.words →
      Rule record { words = ws; homes = s.homes; views = set s.views id v }
  stands s r id v ws at' same = subst (λ (z : List ℕ × List V). Rule record { words = z.0; homes = s.homes; views = z.1 }) (λ i. (sym same i, sym (set_again s.views id v at') i)) r

  -- the word that was found, and the words after an exchange
  found_is : (ws : List ℕ) (p : Phase T) → ws ≡ word_of p ∷ [] → get_or ws 0 0 ≡ word_of p
  found_is ws p e = ap (λ l. get_or l 0 0) e

  again : (ws : List ℕ) (p : Phase T) (n : ℕ) → ws ≡ word_of p ∷ [] → n ≡ get_or ws 0 0 → set ws 0 n ≡ ws
  again ws p n e is = ap (λ l. set l 0 n) e ∙ (ap (λ k. k ∷ []) (is ∙ found_is ws p e) ∙ sym e)

  busy_same : (x y : T) → ◌≡◌ {A = Stage T} (Busy x) (Busy y) → x ≡ y
  busy_same x y e = ap (λ (o : Stage T). elim o [ Free ↦ x | Busy z ↦ z | Over ↦ x ]) e

  -- what is to be shown of an exchange, for the word that it leaves
  abbrev Goal : St → ℕ → M → (ℕ → M → Type 0) → ℕ → Type 0
  Goal s id me then n = (w : V) × (a : Act (Option T)) × Valid s.homes me.1 a × Rule (stepped s 0 n id me.1 w a) × then (get_or s.words 0 0) (w, carried_after me.1 a)

  pub recalls_on : (slots id : ℕ) (me : M) (x : T) → me.0.role ≡ Giver → me.0.stage ≡ Busy x → me.1 ≡ []
      → Allows Rule slots id me 0 (λ n. either (n == 1) 0 n) (recalls (step slots 0 1 0 none) me)
  recalls_on slots id me x is busy none_held s r _ at' _ =
      let v : V = me.0 in
      let found : ℕ = get_or s.words 0 0 in
      let g = giver_is r.phase r.giver r.helper id v.stage v.role is (r.each id v at').0 in
      let out : IsOut x r.phase = subst (GiverAt r.phase) busy g.1 in
      exchanged found 1 0 (Goal s id me (recalls (step slots 0 1 0 none) me))
      (λ hit.
      let l = lies_at r.phase (sym (found_is s.words r.phase r.word) ∙ hit) in
      let z_is : l.0 ≡ x = out_lies x l.0 r.phase l.1 out in
      let homes_is : s.homes ≡ some (Some x) ∷ [] = r.home ∙ (ap (λ p. home_of p ∷ []) l.1 ∙ ap (λ z. some (Some z) ∷ []) z_is) in (
        at Free v,
        taking 0 (Some x),
        ap (λ h. get_elem? h 0) homes_is,
        moves s r id v (at Free v) rests _ _ at' is is refl g.0 (not_taken r.phase (lies l.0) l.1 (λ e. omega arith))
            (ap (λ k. set k 0 0) r.word) (ap (λ h. set h 0 none) homes_is) tt refl,
        λ y e. let same : x ≡ y = busy_same x y (sym busy ∙ e) in ((λ _. λ i. (at Free v, (0, Some (same i)) ∷ me.1)), (λ no. absurd (no hit))),
      ))
      (λ miss. (v, keeps, tt, stands s r id v _ at' (again s.words r.phase found r.word refl), λ y e. ((λ h. absurd (miss h)), (λ _. refl))))

  pub fetches_on : (slots id : ℕ) (me : M) (x : T) → me.0.role ≡ Giver → me.0.stage ≡ Busy x → me.1 ≡ []
      → Allows Rule slots id me 0 (λ n. either (n == 3) 0 n) (fetches done (step slots 0 3 0 none) me)
  fetches_on slots id me x is busy none_held s r _ at' _ =
      let v : V = me.0 in
      let found : ℕ = get_or s.words 0 0 in
      let g = giver_is r.phase r.giver r.helper id v.stage v.role is (r.each id v at').0 in
      let out : IsOut x r.phase = subst (GiverAt r.phase) busy g.1 in
      exchanged found 3 0 (Goal s id me (fetches done (step slots 0 3 0 none) me))
      (λ hit.
      let l = back_at r.phase (sym (found_is s.words r.phase r.word) ∙ hit) in
      let y : T = l.1 in
      let z_is : l.0 ≡ x = out_back x l.0 y r.phase l.2 out in
      let homes_is : s.homes ≡ some (Some y) ∷ [] = r.home ∙ ap (λ p. home_of p ∷ []) l.2 in
      let did : done about l.0 y = subst (Sound fits done about) l.2 r.sound in (
        at Free v,
        taking 0 (Some y),
        ap (λ h. get_elem? h 0) homes_is,
        moves s r id v (at Free v) rests _ _ at' is is refl g.0 (not_taken r.phase (back l.0 y) l.2 (λ e. omega arith))
            (ap (λ k. set k 0 0) r.word) (ap (λ h. set h 0 none) homes_is) tt refl,
        λ u e. let same : x ≡ u = busy_same x u (sym busy ∙ e) in (
          (λ _. (
            y,
            subst (λ k. done k u y) (sym (r.each id v at').1) (subst (λ z. done about z y) (z_is ∙ same) did),
            refl,
          )),
          (λ no. absurd (no hit)),
        ),
      ))
      (λ miss. (v, keeps, tt, stands s r id v _ at' (again s.words r.phase found r.word refl), λ y e. ((λ h. absurd (miss h)), (λ _. refl))))

  pub takes_on : (slots id : ℕ) (me : M) → me.0.role ≡ Helper
      → Allows Rule slots id me 0 (λ n. either (n == 1) 2 n) (takes fits (step slots 0 1 2 none) me)
  takes_on slots id me is s r _ at' _ =
      let v : V = me.0 in
      let found : ℕ = get_or s.words 0 0 in
      exchanged found 1 2 (Goal s id me (takes fits (step slots 0 1 2 none) me))
      (λ hit.
      let l = lies_at r.phase (sym (found_is s.words r.phase r.word) ∙ hit) in
      let x : T = l.0 in
      let homes_is : s.homes ≡ some (Some x) ∷ [] = r.home ∙ ap (λ p. home_of p ∷ []) l.1 in
      let fit : fits about x = subst (Sound fits done about) l.1 r.sound in (
        at (Busy x) v,
        taking 0 (Some x),
        ap (λ h. get_elem? h 0) homes_is,
        record {
          phase = taken x;
          giver = r.giver;
          helper = id;
          word = ap (λ k. set k 0 2) r.word;
          home = ap (λ h. set h 0 none) homes_is;
          sound = fit;
          each = seats_stay (Seats (taken x) r.giver id) s.views id (at (Busy x) v) (is_helper (taken x) r.giver id id (Busy x) v.role is (refl, refl), (r.each id v at').1)
              (λ j d other e.
              (others_take x r.giver r.helper id j d.stage d.role (subst (λ p. Sits p r.giver r.helper j d.stage d.role) l.1 (r.each j d e).0), (r.each j d e).1));
        },
        ((λ _. (x, subst (λ k. fits k x) (sym (r.each id v at').1) fit, refl)), (λ no. absurd (no hit))),
      ))
      (λ miss. (v, keeps, tt, stands s r id v _ at' (again s.words r.phase found r.word refl), ((λ h. absurd (miss h)), (λ _. refl))))

  pub answers_on : (slots id : ℕ) (me : M) (x y : T) → me.0.role ≡ Helper → me.0.stage ≡ Busy x → me.1 ≡ (0, Some y) ∷ [] → done me.0.about x y
      → Allows Rule slots id me 0 (λ _. 3) (λ _. answers (step slots 0 3 0 none) me 3)
  answers_on slots id me x y is busy holds did s r _ at' _ =
      let v : V = me.0 in
      let h : (r.helper ≡ id) × (r.phase ≡ taken x) = subst (HelperAt r.phase r.helper id) busy (helper_is r.phase r.giver r.helper id v.stage v.role is (r.each id v at').0) in
      let homes_is : put_back s.homes me.1 ≡ some (Some y) ∷ [] = ap (put_back s.homes) holds ∙ ap (λ l. set l 0 (some (Some y))) (r.home ∙ ap (λ p. home_of p ∷ []) h.1) in (
        at Free v,
        giving,
        tt,
        record {
          phase = back x y;
          giver = r.giver;
          helper = r.helper;
          word = ap (λ l. set l 0 3) r.word;
          home = homes_is;
          sound = subst (λ k. done k x y) (r.each id v at').1 did;
          each = seats_stay (Seats (back x y) r.giver r.helper) s.views id (at Free v) (is_helper (back x y) r.giver r.helper id Free v.role is tt, (r.each id v at').1)
              (λ j d other e. (
                others_hear x y r.giver r.helper j d.stage d.role (λ j_is. other (j_is ∙ h.0)) (subst (λ p. Sits p r.giver r.helper j d.stage d.role) h.1 (r.each j d e).0),
                (r.each j d e).1,
              ));
        },
        λ z e. let same : y ≡ z = ap (λ l. held l y) (sym holds ∙ e) in λ i. (at Free v, rest (holds i)),
      )

  pub makes_helper : (id : ℕ) (v : V) → Splits Rule id v (same v) (newcomer v)
  makes_helper id v s r at' = record {
    phase = r.phase;
    giver = r.giver;
    helper = r.helper;
    word = r.word;
    home = r.home;
    sound = r.sound;
    each = λ j d e. ⊎_elim
        (λ old. r.each j d (ap (λ l. get_elem? l j) (sym (set_again s.views id v at')) ∙ old))
        (λ (new : newcomer v ≡ d). subst (Seats r.phase r.giver r.helper j) new (tt, (r.each id v at').1))
        (at_snoc (set s.views id v) (newcomer v) d j e);
  }

  -- a new tray
  pub starts : Rule (opening (4 ∷ []) (replicate 1 None) (first_view about))
  starts = record {
    phase = ended;
    giver = 0;
    helper = 0;
    word = refl;
    home = refl;
    sound = tt;
    each = only (first_view about) ((refl, refl), refl);
  }
    where
      only : (v : V) → Seats ended 0 0 0 v → (j : ℕ) (d : V) → get_elem? (v ∷ []) j ≡ some d → Seats ended 0 0 j d
      only v h zero d e = subst (Seats ended 0 0 0) (some-injective v d e) h
      only v h (suc j) d e = absurd (some-ne-none d (sym e))

  -- a tray at its end holds nothing
  pub closes : (ws : List ℕ) (xs : List (Option T)) (id : ℕ) (v : V) (o : Option T) → Final (Seen Rule id v) ws xs → v.role ≡ Giver → v.stage ≡ Over → get_elem? xs 0 ≡ some o →
      o ≡ None
  closes ws xs id v o f is over at' =
      let s : St = f.0 in
      let r : Rule s = f.1.0 in
      let g = giver_is r.phase r.giver r.helper id v.stage v.role is (r.each id v f.1.1).0 in
      let p_is : r.phase ≡ ended = subst (GiverAt r.phase) over g.1 in
      let homes_is : s.homes ≡ some None ∷ [] = r.home ∙ ap (λ p. home_of p ∷ []) p_is in
      let there : get_elem? xs 0 ≡ some None = f.4 0 None (ap (λ h. get_elem? h 0) homes_is) in
      some-injective o None (sym at' ∙ there)
