-- The stack of ports that wait, one port more or less.
use Rattle.std.proofs.Common.{◌≡◌, ◌≢◌, ℕ, ◌+◌, ◌-◌, ◌≤◌, ◌<◌, inl, inr, Bool, true, false, List, [], ◌∷◌, ◌++◌, length, get_or, set, take, Contains, sym, ap, subst, ◌∙◌, arith}
use Rattle.std.proofs.Common.{length-set, length-append, Option}
use Rattle.std.specs.Prelude.{All}
use Rattle.std.proofs.Math.Dec.{eqb}
use Rattle.std.proofs.Math.ListN.{get_or-append}
use Rattle.std.proofs.Math.Seq.{get_or-append_seam}
use Rattle.std.proofs.lemmas.Bool.{both_ways, cases_eq, eqb-true}
use Rattle.std.proofs.lemmas.Bool.Decides.{Decides-eqb}
use Rattle.std.proofs.lemmas.Grind.{get_or-set_at}
use Rattle.std.proofs.lemmas.List.{get_or-set_other, get_or_default, length_push, length-take, take_more, take_more_set}
use Rattle.std.proofs.lemmas.List.Elements.{All-contains, All-push, Contains-push, Contains-push_cases, Contains-append_left, Contains-append_right, Contains-append_cases}
use Rattle.std.proofs.lemmas.List.Elements.{Contains-get_or}
use Rattle.std.proofs.lemmas.List.Quantifiers.{all_pairs_push}
use Rattle.std.proofs.lemmas.Map.Made.{IsDistinct-from_AllPairs}
use Rattle.std.proofs.lemmas.Map.Steps.{length-le_from_distinct_below}
use Rattle.coflow_units.specs.Flows.{IsDistinct}
use Rattle.coflow_units.proofs.Lists.{any_where}
use Rattle.coflow_units.proofs.Sums.{all_of_members}
use Rattle.matching.specs.Waits.{IsMarked, IsPopped, IsPushed, IsTaken}

-- what a read of a table tells
pub read_as : (marks : List Bool) (p : ℕ) (r b : Bool) → p < length marks → r ≡ get_or marks p r → r ≡ b → get_or marks p false ≡ b
read_as marks p r b lt read is = get_or_default marks p false r lt ∙ sym read ∙ is

not_yet : (count : ℕ) (ports : List ℕ) (marks : List Bool) (p : ℕ) → IsMarked count ports marks → get_or marks p false ≡ false → Contains (take count ports) p → ⊥
not_yet count ports marks p m free has = both_ways (get_or marks p false) free (m.marked p has)

once_more : (count : ℕ) (ports : List ℕ) (marks : List Bool) (p : ℕ) → IsMarked count ports marks → get_or marks p false ≡ false → IsDistinct (take count ports ++ p ∷ [])
once_more count ports marks p m free =
    all_pairs_push (λ (x : ℕ) (y : ℕ). x ≢ y) (take count ports) p m.once
    (λ k d lt same. not_yet count ports marks p m free (subst (λ n. Contains (take count ports) n) same (Contains-get_or (take count ports) k d lt)))

-- a port that is not marked has a place
pub has_place : (count : ℕ) (ports : List ℕ) (marks : List Bool) (p : ℕ) → IsMarked count ports marks → p < length marks → get_or marks p false ≡ false → count < length ports
has_place count ports marks p m lt free =
    let grown = take count ports ++ p ∷ [] in
    let within = All-push (λ q. q < length marks) (take count ports) p m.within lt in
    let most = length-le_from_distinct_below grown (length marks) (IsDistinct-from_AllPairs Decides-eqb grown (once_more count ports marks p m free))
    (λ q e. let (x, has, same) = any_where (eqb q) grown e in subst (λ n. n < length marks) (sym (eqb-true q x same)) (All-contains (λ n. n < length marks) grown x within has)) in
    omega (arith, most, length_push (take count ports) p, length-take count ports, m.fits, m.room)

pub pushed_marks : (count : ℕ) (ports : List ℕ) (marks : List Bool) (p : ℕ) → IsMarked count ports marks → p < length marks → get_or marks p false ≡ false →
    IsMarked (count + 1) (set ports count p) (set marks p true)
pushed_marks count ports marks p m lt free =
    let place = has_place count ports marks p m lt free in
    let e = take_more_set ports count p place in
    let same = length-set marks p true in
    record {
      limit = omega (arith, same, m.limit);
      fits = omega (arith, place, length-set ports count p);
      room = omega (arith, same, m.room, length-set ports count p);
      once = subst IsDistinct (sym e) (once_more count ports marks p m free);
      within = subst (λ xs. All (λ q. q < length (set marks p true)) xs) (sym e)
          (subst (λ n. All (λ q. q < n) (take count ports ++ p ∷ [])) (sym same) (All-push (λ q. q < length marks) (take count ports) p m.within lt));
      marked = λ q has. elim (cases_eq q p) [
        | inl here ↦ get_or-set_at marks p q true false here lt
        | inr ne ↦ get_or-set_other marks p q true false ne ∙ (elim (Contains-push_cases (take count ports) p q (subst (λ xs. Contains xs q) e has)) [
          | inl old ↦ m.marked q old
          | inr here ↦ absurd (ne (sym here))
        ])
      ];
      stands = λ q is. subst (λ xs. Contains xs q) (sym e) (elim (cases_eq q p) [
        | inl here ↦ subst (λ n. Contains (take count ports ++ p ∷ []) n) (sym here) (Contains-push (take count ports) p)
        | inr ne ↦ Contains-append_left (take count ports) (p ∷ []) q (m.stands q (sym (get_or-set_other marks p q true false ne) ∙ is))
      ]);
    }

pub pushed : (count : ℕ) (ports : List ℕ) (marks : List Bool) (p : ℕ) → IsMarked count ports marks → p < length marks → get_or marks p false ≡ false →
    IsPushed (take count ports) (take (count + 1) (set ports count p)) p
pushed count ports marks p m lt free =
    subst (λ xs. IsPushed (take count ports) xs p) (sym (take_more_set ports count p (has_place count ports marks p m lt free))) record {
      has = Contains-push (take count ports) p;
      keeps = λ q has. Contains-append_left (take count ports) (p ∷ []) q has;
      from = λ q has. elim (Contains-push_cases (take count ports) p q has) [ inl old ↦ inl old | inr e ↦ inr (sym e) ];
      one_more = omega (arith, length_push (take count ports) p);
    }

pub pushed_again : (count : ℕ) (ports : List ℕ) (marks : List Bool) (p : ℕ) → IsMarked count ports marks → get_or marks p false ≡ true →
    IsPushed (take count ports) (take count ports) p
pushed_again count ports marks p m is = record {
  has = m.stands p is;
  keeps = λ q has. has;
  from = λ q has. inl has;
  one_more = omega arith;
}

-- ---- the last one leaves

last_taken : (n : ℕ) (ports : List ℕ) (d : ℕ) → 0 < n → n ≤ length ports → take n ports ≡ take (n - 1) ports ++ get_or ports (n - 1) d ∷ []
last_taken n ports d some le =
    let e : n - 1 + 1 ≡ n = omega arith in
    sym (ap (λ k. take k ports) e) ∙ take_more ports (n - 1) d (omega arith)

front_once : (xs : List ℕ) (x : ℕ) → IsDistinct (xs ++ x ∷ []) → IsDistinct xs
front_once xs x once i j d less lt = λ same.
    once i j d less (omega (arith, length_push xs x)) (get_or-append xs (x ∷ []) d i (omega arith) ∙ same ∙ sym (get_or-append xs (x ∷ []) d j lt))

last_apart : (xs : List ℕ) (x : ℕ) → IsDistinct (xs ++ x ∷ []) → Contains xs x → ⊥
last_apart xs x once (k, lt, at) = once k (length xs) x lt (omega (arith, length_push xs x)) (get_or-append xs (x ∷ []) x k lt ∙ at ∙ sym (get_or-append_seam xs x [] x))

pub popped_marks : (n : ℕ) (ports : List ℕ) (marks : List Bool) (x : ℕ) → 0 < n → x ≡ get_or ports (n - 1) x → IsMarked n ports marks → IsMarked (n - 1) ports (set marks x false)
popped_marks n ports marks x some read m =
    let xs = take (n - 1) ports in
    let e : take n ports ≡ xs ++ x ∷ [] = last_taken n ports x some m.fits ∙ ap (λ y. xs ++ y ∷ []) (sym read) in
    let once = subst IsDistinct e m.once in
    let known = All-contains (λ q. q < length marks) (take n ports) x m.within (subst (λ l. Contains l x) (sym e) (Contains-push xs x)) in
    let old = λ (q : ℕ) (has : Contains xs q). subst (λ l. Contains l q) (sym e) (Contains-append_left xs (x ∷ []) q has) in
    record {
      limit = omega (arith, length-set marks x false, m.limit);
      fits = omega (arith, m.fits);
      room = omega (arith, length-set marks x false, m.room);
      once = front_once xs x once;
      within = all_of_members (λ q. q < length (set marks x false)) xs
          (λ q has. omega (arith, length-set marks x false, All-contains (λ k. k < length marks) (take n ports) q m.within (old q has)));
      marked = λ q has. get_or-set_other marks x q false false (λ same. last_apart xs x once (subst (λ k. Contains xs k) same has)) ∙ m.marked q (old q has);
      stands = λ q is. elim (cases_eq q x) [
        | inl here ↦ absurd (both_ways (get_or (set marks x false) q false) (get_or-set_at marks x q false false here known) is)
        | inr ne ↦ elim (Contains-push_cases xs x q (subst (λ l. Contains l q) e (m.stands q (sym (get_or-set_other marks x q false false ne) ∙ is)))) [
          | inl has ↦ has
          | inr here ↦ absurd (ne (sym here))
        ]
      ];
    }

pub popped : (n : ℕ) (ports : List ℕ) (marks : List Bool) (x : ℕ) → 0 < n → x ≡ get_or ports (n - 1) x → IsMarked n ports marks →
    IsTaken (length marks) (take n ports) (take (n - 1) ports) x
popped n ports marks x some read m =
    let xs = take (n - 1) ports in
    let e : take n ports ≡ xs ++ x ∷ [] = last_taken n ports x some m.fits ∙ ap (λ y. xs ++ y ∷ []) (sym read) in
    record {
      known = All-contains (λ q. q < length marks) (take n ports) x m.within (subst (λ l. Contains l x) (sym e) (Contains-push xs x));
      keeps = λ q has. elim (Contains-push_cases xs x q (subst (λ l. Contains l q) e has)) [ inl old ↦ inr old | inr here ↦ inl (sym here) ];
      from = λ q has. subst (λ l. Contains l q) (sym e) (Contains-append_left xs (x ∷ []) q has);
      one_less = sym (length_push xs x) ∙ sym (ap length e);
    }

-- ---- two stacks, one behind the other

pub pushed_first : (old new others : List ℕ) (p : ℕ) → IsPushed old new p → IsPushed (old ++ others) (new ++ others) p
pushed_first old new others p s = record {
  has = Contains-append_left new others p s.has;
  keeps = λ q has. elim (Contains-append_cases old others q has) [ inl h ↦ Contains-append_left new others q (s.keeps q h) | inr h ↦ Contains-append_right new others q h ];
  from = λ q has. elim (Contains-append_cases new others q has) [
    | inl h ↦ elim (s.from q h) [ inl o ↦ inl (Contains-append_left old others q o) | inr e ↦ inr e ]
    | inr h ↦ inl (Contains-append_right old others q h)
  ];
  one_more = omega (arith, s.one_more, length-append new others, length-append old others);
}

pub pushed_second : (old new others : List ℕ) (p : ℕ) → IsPushed old new p → IsPushed (others ++ old) (others ++ new) p
pushed_second old new others p s = record {
  has = Contains-append_right others new p s.has;
  keeps = λ q has. elim (Contains-append_cases others old q has) [ inl h ↦ Contains-append_left others new q h | inr h ↦ Contains-append_right others new q (s.keeps q h) ];
  from = λ q has. elim (Contains-append_cases others new q has) [
    | inl h ↦ inl (Contains-append_left others old q h)
    | inr h ↦ elim (s.from q h) [ inl o ↦ inl (Contains-append_right others old q o) | inr e ↦ inr e ]
  ];
  one_more = omega (arith, s.one_more, length-append others new, length-append others old);
}

pub taken_first : (room : ℕ) (old new others : List ℕ) (p : ℕ) → IsTaken room old new p → IsTaken room (old ++ others) (new ++ others) p
taken_first room old new others p s = record {
  known = s.known;
  keeps = λ q has. elim (Contains-append_cases old others q has) [
    | inl h ↦ elim (s.keeps q h) [ inl e ↦ inl e | inr n ↦ inr (Contains-append_left new others q n) ]
    | inr h ↦ inr (Contains-append_right new others q h)
  ];
  from = λ q has. elim (Contains-append_cases new others q has) [ inl h ↦ Contains-append_left old others q (s.from q h) | inr h ↦ Contains-append_right old others q h ];
  one_less = omega (arith, s.one_less, length-append new others, length-append old others);
}

pub popped_second : (room : ℕ) (first left old new : List ℕ) (p : Option ℕ) → (first ≡ []) × (left ≡ []) → IsPopped room old new p → IsPopped room (first ++ old) (left ++ new) p
popped_second room first left old new p (a, b) s = subst (λ xs. IsPopped room (xs ++ old) (left ++ new) p) (sym a) (subst (λ xs. IsPopped room ([] ++ old) (xs ++ new) p) (sym b) s)
