-- Lists of posts, drawn grants and missed grants.
use Rattle.std.proofs.Common.{◌≡◌, ◌≢◌, ℕ, zero, suc, ◌<◌, eqb, List, [], ◌∷◌, ◌++◌, length, get_or, sym, refl, ap, ◌∙◌, subst, ⊎_elim, arith, Option, Some, None, Bool, true}
use Rattle.std.proofs.Common.{false, cond, filter, true≢false, ◌&&◌, ◌||◌, eq-eqb, ne_eqb}
use Rattle.std.specs.Prelude.{All, AllPairs, Contains}
use Rattle.std.specs.List.{list_any}
use Rattle.std.proofs.lemmas.List.Elements.{All-nil, All-push, All-head, All-tail}
use Rattle.std.proofs.lemmas.List.Quantifiers.{all_pairs_push}
use Rattle.std.proofs.lemmas.Bool.{cond_both, cond-true, cond-false, cases_Bool, eqb-true}
use native.Mathlib.Decide.{ℕ_discrete}
use Rattle.port_board.specs.declared.view.Grant.{Grant}
use Rattle.port_board.specs.declared.view.Report.{Report}
use Rattle.port_board.specs.declared.view.Step.{Step}
use Rattle.port_board.specs.declared.view.View.{View}
use Rattle.port_board.specs.Views.{is_of, last_at, is_listed, missed_if, missed_after, LastIsListed}

-- the last post of a port among these is one of them
pub last_is : (P : Grant → Type 0) (port : ℕ) (h : Grant) (gs : List Grant) → All P gs → last_at port gs ≡ Some h → P h × (h.port ≡ port)
last_is P port h [] all e = absurd (cc)
last_is P port h (g ∷ gs) all e = go (λ is. last_is P port h gs (All-tail P g gs all) is) (last_at port gs) refl e
  where
    here : Dec (g.port ≡ port) → cond (eqb g.port port) (Some g) None ≡ Some h → P h × (h.port ≡ port)
    here (yes is) e' =
        let same : Some g ≡ Some h = subst (λ (b : Bool). cond b (Some g) None ≡ Some h) (eq-eqb g.port port is) e' in
        let it : g ≡ h = grind arith in (subst P it (All-head P g gs all), ap (λ (x : Grant). x.port) (sym it) ∙ is)
    here (no other) e' = let none_is : None ≡ Some h = subst (λ (b : Bool). cond b (Some g) None ≡ Some h) (ne_eqb g.port port other) e' in absurd (cc)

    go : (last_at port gs ≡ Some h → P h × (h.port ≡ port)) → (o : Option Grant) → last_at port gs ≡ o →
        elim o [ None ↦ cond (eqb g.port port) (Some g) None | Some m ↦ Some m ] ≡ Some h → P h × (h.port ≡ port)
    go further None is e' = here (ℕ_discrete g.port port) e'
    go further (Some m) is e' = further (is ∙ e')

-- the last post after one more
pub last_pushed : (port : ℕ) (gs : List Grant) (h : Grant) → last_at port (gs ++ h ∷ []) ≡ cond (eqb h.port port) (Some h) (last_at port gs)
last_pushed port [] h = refl
last_pushed port (g ∷ gs) h = go (last_at port gs) (last_at port (gs ++ h ∷ [])) (last_pushed port gs h)
  where
    here : (b : Bool) (o o' : Option Grant) → o' ≡ cond b (Some h) o →
        elim o' [ None ↦ cond (eqb g.port port) (Some g) None | Some m ↦ Some m ] ≡ cond b (Some h) (elim o [ None ↦ cond (eqb g.port port) (Some g) None | Some m ↦ Some m ])
    here true o o' e = ap (λ (z : Option Grant). elim z [ None ↦ cond (eqb g.port port) (Some g) None | Some m ↦ Some m ]) e
    here false o o' e = ap (λ (z : Option Grant). elim z [ None ↦ cond (eqb g.port port) (Some g) None | Some m ↦ Some m ]) e

    go : (o o' : Option Grant) → o' ≡ cond (eqb h.port port) (Some h) o →
        elim o' [ None ↦ cond (eqb g.port port) (Some g) None | Some m ↦ Some m ] ≡
        cond (eqb h.port port) (Some h) (elim o [ None ↦ cond (eqb g.port port) (Some g) None | Some m ↦ Some m ])
    go o o' e = here (eqb h.port port) o o' e

pub is_of-true : (port slot : ℕ) (g : Grant) → is_of port slot g ≡ true → (g.port ≡ port) × (g.slot ≡ slot)
is_of-true port slot g e = go (eqb g.port port) (eqb g.slot slot) refl refl e
  where
    go : (a b : Bool) → eqb g.port port ≡ a → eqb g.slot slot ≡ b → (a && b) ≡ true → (g.port ≡ port) × (g.slot ≡ slot)
    go true true x y e = (eqb-true g.port port x, eqb-true g.slot slot y)
    go true false x y e = absurd (true≢false (sym e))
    go false b x y e = absurd (true≢false (sym e))

pub is_of-same : (port slot : ℕ) (g : Grant) → g.port ≡ port → g.slot ≡ slot → is_of port slot g ≡ true
is_of-same port slot g a b = rw (eq-eqb g.port port a, eq-eqb g.slot slot b) refl

pub is_of-false : (port slot : ℕ) (g : Grant) → (g.port ≡ port → g.slot ≡ slot → ⊥) → is_of port slot g ≡ false
is_of-false port slot g n = ⊎_elim (λ (t : is_of port slot g ≡ true). let s = is_of-true port slot g t in absurd (n s.0 s.1)) (λ (f : is_of port slot g ≡ false). f)
    (cases_Bool (is_of port slot g))

module _ {X : Type 0} (p : X → Bool) where
  pub any_false : (xs : List X) → list_any p xs ≡ false → All (λ x. p x ≡ false) xs
  any_false [] h = All-nil (λ x. p x ≡ false)
  any_false (x ∷ xs) h = go (any_false xs) (p x) refl h
    where
      cons_all : p x ≡ false → All (λ y. p y ≡ false) xs → All (λ y. p y ≡ false) (x ∷ xs)
      cons_all a b zero d lt = a
      cons_all a b (suc k) d lt = b k d (omega arith)

      go : (list_any p xs ≡ false → All (λ y. p y ≡ false) xs) → (b : Bool) → p x ≡ b → (b || list_any p xs) ≡ false → All (λ y. p y ≡ false) (x ∷ xs)
      go further true e h = absurd (true≢false h)
      go further false e h = cons_all e (further h)

  pub any_pushed : (xs : List X) (y : X) → list_any p (xs ++ y ∷ []) ≡ (list_any p xs || p y)
  any_pushed [] y = go (p y)
    where
      go : (b : Bool) → (b || false) ≡ (false || b)
      go true = refl
      go false = refl
  any_pushed (x ∷ xs) y = go (p x) (any_pushed xs y)
    where
      go : (b : Bool) → list_any p (xs ++ y ∷ []) ≡ (list_any p xs || p y) → (b || list_any p (xs ++ y ∷ [])) ≡ ((b || list_any p xs) || p y)
      go true e = refl
      go false e = e

-- what passes stands in the filtered list
pub filter_keeps : {X : Type 0} (p : X → Bool) (xs : List X) (x : X) → Contains xs x → p x ≡ true → Contains (filter p xs) x
filter_keeps {X} p [] x c h = let lt = c.1 in absurd (omega arith)
filter_keeps {X} p (y ∷ ys) x c h = go (λ t. filter_keeps p ys x t h) c.0 c.1 c.2
  where
    cons : (zs : List X) → Contains zs x → Contains (y ∷ zs) x
    cons zs t = let lt = t.1 in (suc t.0, omega arith, t.2)

    go : (Contains ys x → Contains (filter p ys) x) → (k : ℕ) → k < length (y ∷ ys) → get_or (y ∷ ys) k x ≡ x → Contains (filter p (y ∷ ys)) x
    go further zero lt e = subst (λ (l : List X). Contains l x) (sym (cond-true (p y) (y ∷ filter p ys) (filter p ys) (ap p e ∙ h))) (0, omega arith, e)
    go further (suc k) lt e = let r = further (k, omega arith, e) in cond_both (p y) (y ∷ filter p ys) (filter p ys) (λ l. Contains l x) (λ _. cons (filter p ys) r) (λ _. r)

-- the posts that a seat missed, after a look that shows that the last one which it has seen is gone
pub misses : (P : Grant → Type 0) (Q : ℕ × ℕ → Type 0) (v : View) (port : ℕ) → All P v.shown → ((g : Grant) → P g → g.port ≡ port → Q (port, g.slot)) → All Q v.missed →
    All Q (missed_after v port)
misses P Q v port all gone was = go (last_at port v.shown) refl
  where
    go : (o : Option Grant) → last_at port v.shown ≡ o → All Q (missed_if v port o)
    go None is = was
    go (Some g) is = let t = last_is P port g v.shown all is in
        cond_both (is_listed v port g.slot) v.missed (v.missed ++ (port, g.slot) ∷ []) (All Q) (λ _. was) (λ _. All-push Q v.missed (port, g.slot) was (gone g t.0 t.1))

-- and none is missed twice
pub misses_once : (v : View) (port : ℕ) → AllPairs (λ m k. m ≢ k) v.missed → AllPairs (λ m k. m ≢ k) (missed_after v port)
misses_once v port once = go (last_at port v.shown)
  where
    is_at : ℕ → ℕ × ℕ → Bool
    is_at slot m = (eqb m.0 port) && (eqb m.1 slot)

    or_false : (a b : Bool) → (a || b) ≡ false → b ≡ false
    or_false true b e = absurd (true≢false e)
    or_false false b e = e

    new : (slot : ℕ) → is_listed v port slot ≡ false → (k : ℕ) (d : ℕ × ℕ) → k < length v.missed → get_or v.missed k d ≢ (port, slot)
    new slot e k d lt same =
        let none = any_false (is_at slot) v.missed (or_false (list_any (λ (r : Report). is_of port slot r.grant) v.done) _ (or_false (list_any (is_of port slot) v.out) _ e)) k d lt
        in
        true≢false (sym (rw (eq-eqb (get_or v.missed k d).0 port (ap (λ (x : ℕ × ℕ). x.0) same), eq-eqb (get_or v.missed k d).1 slot (ap (λ (x : ℕ × ℕ). x.1) same)) refl) ∙ none)

    go : (o : Option Grant) → AllPairs (λ m k. m ≢ k) (missed_if v port o)
    go None = once
    go (Some g) = cond_both (is_listed v port g.slot) v.missed (v.missed ++ (port, g.slot) ∷ []) (AllPairs (λ m k. m ≢ k)) (λ _. once)
        (λ e. all_pairs_push (λ m k. m ≢ k) v.missed (port, g.slot) once (new g.slot e))

-- the last post of the port that the seat has seen is then listed
pub listed : (v : View) (st : Step) (looks : List (ℕ × ℕ)) (port : ℕ) → LastIsListed port (record v { step = st; looks = looks; missed = missed_after v port })
listed v st looks port g last = ⊎_elim
    (λ (was : is_listed v port g.slot ≡ true). with_list (cond-true (is_listed v port g.slot) v.missed (v.missed ++ (port, g.slot) ∷ []) was) was)
    (λ (not_yet : is_listed v port g.slot ≡ false). with_list (cond-false (is_listed v port g.slot) v.missed (v.missed ++ (port, g.slot) ∷ []) not_yet)
    (or_right (list_any (is_of port g.slot) v.out) _
    (or_right (list_any (λ (r : Report). is_of port g.slot r.grant) v.done) _
    (any_pushed (is_at g.slot) v.missed (port, g.slot) ∙ or_right (list_any (is_at g.slot) v.missed) _ here))))
    (cases_Bool (is_listed v port g.slot))
  where
    is_at : ℕ → ℕ × ℕ → Bool
    is_at slot m = (eqb m.0 port) && (eqb m.1 slot)

    here : is_at g.slot (port, g.slot) ≡ true
    here = rw (eq-eqb port port refl, eq-eqb g.slot g.slot refl) refl

    or_right : (a b : Bool) → b ≡ true → (a || b) ≡ true
    or_right true b e = refl
    or_right false b e = e

    -- the list of missed grants is this one
    with_list : {l : List (ℕ × ℕ)} → missed_if v port (Some g) ≡ l → is_listed (record v { missed = l }) port g.slot ≡ true →
        is_listed (record v { step = st; looks = looks; missed = missed_after v port }) port g.slot ≡ true
    with_list {l} e h = subst (λ (m : List (ℕ × ℕ)). is_listed (record v { step = st; looks = looks; missed = m }) port g.slot ≡ true) (sym (ap (missed_if v port) last ∙ e)) h
