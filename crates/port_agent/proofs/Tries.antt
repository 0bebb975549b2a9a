-- What one try at a port leaves of the lists of a seat.
use Rattle.std.proofs.Common.{◌≡◌, ◌≢◌, inl, inr, ℕ, ◌+◌, eqb, List, [], ◌∷◌, ◌++◌, length, get_or, sym, refl, ap, ◌∙◌, subst, arith, Option, Some, None, Bool, true, false}
use Rattle.std.proofs.Common.{filter, not, ◌||◌, ◌&&◌}
use Rattle.std.specs.Prelude.{All, AllPairs}
use Rattle.std.specs.List.{list_any}
use Rattle.std.proofs.lemmas.List.{append-nil, append_assoc, get_or_append_left, get_or_push, length_push}
use Rattle.std.proofs.lemmas.List.Elements.{All-head, All-tail, filter-append}
use Rattle.std.proofs.lemmas.List.Folds.{list_any-append}
use Rattle.std.proofs.lemmas.Bool.{cond-true, cond-false, cond_both}
use Rattle.port_board.specs.declared.view.Grant.{Grant}
use Rattle.port_board.specs.declared.view.Report.{Report}
use Rattle.port_board.specs.declared.view.Step.{Step}
use Rattle.port_board.specs.declared.view.View.{View}
use Rattle.coflow_units.specs.PortWord.{shows_granted, word_of}
use Rattle.coflow_units.specs.PortWord.PortStage.{granted}
use Rattle.port_board.specs.Views.{found_idle, found_other, is_of, last_at, is_listed, missed_if, missed_after, report, reported_as, drew}
use Rattle.port_board.specs.Rule.{DifferAt, HoldsOnce}
use Rattle.port_board.proofs.Lists.{is_of-same, is_of-false}
use Rattle.port_agent.specs.Served.{Look, GoesOn, TriedOnce}

or_more : (a b c b' c' : Bool) → (b ≡ true → b' ≡ true) → (c ≡ true → c' ≡ true) → (a || (b || c)) ≡ true → (a || (b' || c')) ≡ true
or_more true b c b' c' f g e = refl
or_more false true c b' c' f g e = ap (λ z. z || c') (f refl)
or_more false false c true c' f g e = refl
or_more false false c false c' f g e = g e

any_more : {X : Type 0} (p : X → Bool) (xs ys : List X) → list_any p xs ≡ true → list_any p (xs ++ ys) ≡ true
any_more p xs ys e = list_any-append p xs ys ∙ ap (λ z. z || list_any p ys) e

-- what is listed stays listed where the lists grow
more_listed : (v w : View) (done : List Report) (missed : List (ℕ × ℕ)) → w.out ≡ v.out → w.done ≡ v.done ++ done → w.missed ≡ v.missed ++ missed → (port slot : ℕ) →
    is_listed v port slot ≡ true → is_listed w port slot ≡ true
more_listed v w done missed o d m port slot h =
    let D : Report → Bool = λ r. is_of port slot r.grant in
    let M : ℕ × ℕ → Bool = λ m. (eqb m.0 port) && (eqb m.1 slot) in
    subst (λ (z : List Grant × List Report × List (ℕ × ℕ)). (list_any (is_of port slot) z.0 || (list_any D z.1 || list_any M z.2)) ≡ true) (λ i. (sym o i, sym d i, sym m i))
    (or_more (list_any (is_of port slot) v.out) (list_any D v.done) (list_any M v.missed) (list_any D (v.done ++ done)) (list_any M (v.missed ++ missed)) (any_more D v.done done)
    (any_more M v.missed missed) h)

-- the missed grants only grow
missed_more : (v : View) (port : ℕ) → (more : List (ℕ × ℕ)) × (missed_after v port ≡ v.missed ++ more)
missed_more v port = go (last_at port v.shown)
  where
    go : (o : Option Grant) → (more : List (ℕ × ℕ)) × (missed_if v port o ≡ v.missed ++ more)
    go None = ([], sym (append-nil v.missed))
    go (Some g) = cond_both (is_listed v port g.slot) v.missed (v.missed ++ (port, g.slot) ∷ []) (λ l. (more : List (ℕ × ℕ)) × (l ≡ v.missed ++ more))
        (λ _. ([], sym (append-nil v.missed))) (λ _. ((port, g.slot) ∷ [], refl))

pub goes_missed : (v : View) (st : Step) (looks : List (ℕ × ℕ)) (port : ℕ) → GoesOn v (record v { step = st; looks = looks; missed = missed_after v port }) []
goes_missed v st looks port = let more = missed_more v port in record {
  out = refl;
  shown = refl;
  done = sym (append-nil v.done);
  listed = more_listed v (record v { step = st; looks = looks; missed = missed_after v port }) [] more.0 refl (sym (append-nil v.done)) more.1;
}

keep_all : (p : Grant → Bool) (gs : List Grant) → All (λ h. p h ≡ true) gs → filter p gs ≡ gs
keep_all p [] h = refl
keep_all p (g ∷ gs) h = cond-true (p g) (g ∷ filter p gs) (filter p gs) (All-head (λ x. p x ≡ true) g gs h) ∙ ap (λ l. g ∷ l) (keep_all p gs (All-tail (λ x. p x ≡ true) g gs h))

-- the grant that was drawn last is taken out, and no other
taken_out : (gs : List Grant) (g : Grant) → AllPairs DifferAt (gs ++ g ∷ []) → filter (λ h. not (is_of g.port g.slot h)) (gs ++ g ∷ []) ≡ gs
taken_out gs g apart =
    let test : Grant → Bool = λ h. not (is_of g.port g.slot h) in
    let all : All (λ h. test h ≡ true) gs = λ i d lt.
    let long = length_push gs g in
    let differ : DifferAt (get_or gs i d) g =
    subst (λ (z : Grant × Grant). DifferAt z.0 z.1) (λ t. (get_or_append_left gs (g ∷ []) d i lt t, get_or_push gs g d (length gs) refl t))
    (apart i (length gs) d lt (omega arith)) in
    ap not (is_of-false g.port g.slot (get_or gs i d) differ) in
    filter-append test gs (g ∷ []) ∙
    (ap (λ l. l ++ filter test (g ∷ [])) (keep_all test gs all) ∙
    (ap (λ l. gs ++ l) (cond-false (test g) (g ∷ []) [] (ap not (is_of-same g.port g.slot g refl refl))) ∙ append-nil gs))

pub goes_drawn : (v v1 w : View) (ports word sent : ℕ) (g : Grant) → v1 ≡ drew ports word g v → HoldsOnce v1 → w ≡ reported_as g sent v1 → GoesOn v w (report g sent ∷ [])
goes_drawn v v1 w ports word sent g e once r =
    let went : w ≡ reported_as g sent (drew ports word g v) = r ∙ ap (reported_as g sent) e in
    let out : (reported_as g sent (drew ports word g v)).out ≡ v.out = taken_out v.out g (subst (λ (z : View). AllPairs DifferAt z.out) e once.0) in
    subst (λ (z : View). GoesOn v z (report g sent ∷ [])) (sym went) record {
      out = out;
      shown = refl;
      done = refl;
      listed = more_listed v (reported_as g sent (drew ports word g v)) (report g sent ∷ []) [] out refl (sym (append-nil v.missed));
    }

-- the looks of a try are those that its outcome tells
pub tried_idle : (ports port word : ℕ) (v w : View) → shows_granted word ≡ false → w ≡ found_idle port word v → TriedOnce ports port v w None
tried_idle ports port word v w not_granted e = ((port, word) ∷ [], inl (word, not_granted, refl), ap (λ (z : View). z.looks) e)

pub tried_other : (ports port loaded found : ℕ) (v w : View) → shows_granted loaded ≡ true → found ≢ loaded → w ≡ found_other port loaded found v → TriedOnce ports port v w None
tried_other ports port loaded found v w is_granted other e = (
  (port, loaded) ∷ (port, found) ∷ [],
  inr (loaded, found, is_granted, other, refl),
  ap (λ (z : View). z.looks) e ∙ append_assoc v.looks ((port, loaded) ∷ []) ((port, found) ∷ []),
)

pub tried_grant : (ports port sent : ℕ) (g : Grant) (v v1 w : View) → g.port ≡ port → v1 ≡ drew ports (word_of granted g.slot g.flow) g v → w ≡ reported_as g sent v1 →
    TriedOnce ports port v w (Some (report g sent))
tried_grant ports port sent g v v1 w at e r =
    let word = word_of granted g.slot g.flow in
    let l : Look = (g.port, word) in
    let n : Look = (ports + g.port, g.length) in (
      (port, word) ∷ (port, word) ∷ (ports + port, g.length) ∷ [],
      (at, (word, refl, refl)),
      ap (λ (z : View). z.looks) r ∙ (ap (λ (z : View). z.looks) e ∙
          (ap (λ k. k ++ n ∷ []) (append_assoc v.looks (l ∷ []) (l ∷ [])) ∙ (append_assoc v.looks (l ∷ l ∷ []) (n ∷ []) ∙
          (λ i. v.looks ++ (at i, word) ∷ (at i, word) ∷ (ports + at i, g.length) ∷ [])))),
    )
