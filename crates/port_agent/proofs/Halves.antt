-- Agents beside each other: one agent, and two parts that are one.
use Rattle.std.proofs.Common.{◌≡◌, ℕ, ◌+◌, ◌-◌, ◌<◌, ◌≤◌, inl, inr, List, [], ◌∷◌, ◌++◌, length, get_or, set, sym, refl, ap, ◌∙◌, subst, arith, Option, Some, None, zero}
use Rattle.std.proofs.Common.{suc, ⊎_elim, length-append}
use Rattle.std.specs.Prelude.{Contains, flat_map}
use Rattle.std.proofs.lemmas.List.{append-nil, get_or_append_left, get_or-append_right}
use Rattle.std.proofs.lemmas.List.Concat.{flat_map-append}
use Rattle.std.proofs.lemmas.List.Elements.{Contains-append_left, Contains-append_right, Contains-append_cases}
use Rattle.std.proofs.lemmas.Bool.{cases_lt}
use Rattle.std.proofs.lemmas.Option.{none-some, same_Some}
use Rattle.coflow_units.proofs.Sums.{first_or_tail, in_first, in_tail, nothing_in}
use Rattle.port_board.specs.declared.view.Report.{Report}
use Rattle.port_board.specs.declared.view.View.{View}
use Rattle.port_board.specs.Views.{Sits}
use Rattle.port_agent.specs.Served.{Attended, Attends, IsTry, Look, TriedEachOnce, taken}
use Rattle.port_agent.specs.Attended.{AreServed, EachTriedOnce, HadPort, IsServed, WireServed}
use Rattle.port_agent.proofs.Rounds.{taken_append}

-- a report of the list of what was drawn stands at a place of it, and one at a place stands in the list
pub taken_from : (took : List (Option Report)) (r : Report) → Contains (taken took) r → (i : ℕ) × (i < length took) × (get_or took i None ≡ Some r)
taken_from [] r has = absurd (nothing_in r has)
taken_from (None ∷ os) r has = let (i, lt, e) = taken_from os r has in (suc i, omega arith, e)
taken_from (Some x ∷ os) r has = elim (first_or_tail x (taken os) r has) [
  | inl e ↦ (0, omega arith, ap Some e)
  | inr later ↦ let (i, lt, e) = taken_from os r later in (suc i, omega arith, e)
]

pub taken_at : (took : List (Option Report)) (i : ℕ) (r : Report) → i < length took → get_or took i None ≡ Some r → Contains (taken took) r
taken_at [] i r lt e = absurd (omega arith)
taken_at (None ∷ os) zero r lt e = absurd (none-some r e)
taken_at (None ∷ os) (suc i) r lt e = taken_at os i r (omega arith) e
taken_at (Some x ∷ os) zero r lt e = subst (Contains (x ∷ taken os)) (same_Some x r e) (in_first x (taken os))
taken_at (Some x ∷ os) (suc i) r lt e = in_tail x (taken os) r (taken_at os i r (omega arith) e)

pub the_one : (s x : Sits) → Contains (s ∷ []) x → s ≡ x
the_one s x has = ⊎_elim (λ e. e) (λ none. absurd (nothing_in x none)) (first_or_tail s [] x has)

module _ {W : Type 0} (faults : W → ℕ) (runs : W → Option (List (ℕ × ℕ × ℕ))) where
  pub wire_of : (v : View) (port : ℕ) (b a : W) (o : Option Report) → Attends faults runs v port b a o → WireServed faults runs port b a o
  wire_of v port b a None h = h.0
  wire_of v port b a (Some r) h = (h.0, h.1)

  pub had_of : (v : View) (port : ℕ) (b a : W) (o : Option Report) → Attends faults runs v port b a o → ((r : Report) → o ≡ Some r → Contains v.done r) → HadPort v port v.shown o
  had_of v port b a None h held = h.1
  had_of v port b a (Some r) h held = (held r refl, h.2)

  pub port_of : (v : View) (port : ℕ) (b a : W) (o : Option Report) (r : Report) → Attends faults runs v port b a o → o ≡ Some r → r.grant.port ≡ port
  port_of v port b a None r h e = absurd (none-some r e)
  port_of v port b a (Some x) r h e = subst (λ (y : Report). y.grant.port ≡ port) (same_Some x r e) h.0

  module _ (s : Sits) (first : ℕ) (took : List (Option Report)) (done : s.view.done ≡ taken took) where
    -- a report of the agent is of the port at its place
    placed : (before after : List W) → Attended faults runs s.view first before after took → (r : Report) → Contains s.view.done r →
        (j : ℕ) × (j < length before) × (get_or took j None ≡ Some r) × (r.grant.port ≡ first + j)
    placed [] after all r has = let (j, lt, e) = taken_from took r (subst (λ l. Contains l r) done has) in let many = all.as_many in absurd (omega (arith, lt, many))
    placed (b ∷ bs) [] all r has = let wires : 0 ≡ suc (length bs) = all.wires in absurd (omega arith)
    placed (b ∷ bs) (a ∷ more) all r has =
        let (j, lt, e) = taken_from took r (subst (λ l. Contains l r) done has) in
        let many = all.as_many in
        let inside : j < length (b ∷ bs) = omega (arith, lt, many) in
        (j, inside, e, port_of s.view (first + j) (get_or (b ∷ bs) j b) (get_or (a ∷ more) j a) (get_or took j None) r (all.each j b a inside) e)

    -- one agent alone
    pub one_agent : (before after : List W) → Attended faults runs s.view first before after took → AreServed faults runs (s ∷ []) first before after
    one_agent before after all = record {
      took = took;
      took_many = all.as_many;
      as_many = all.wires;
      each = λ i b a lt.
          let at = all.each i b a lt in
          let o = get_or took i None in
          let many = all.as_many in
          let held : (r : Report) → o ≡ Some r → Contains s.view.done r =
          λ r e. subst (λ l. Contains l r) (sym done) (taken_at took i r (omega (arith, lt, many)) e) in record {
            wire = wire_of s.view (first + i) (get_or before i b) (get_or after i a) o at;
            by = s;
            among = in_first s [];
            had = had_of s.view (first + i) (get_or before i b) (get_or after i a) o at held;
            only = λ x r among has port.
                let (j, inside, e, is) = placed before after all r (subst (λ (y : Sits). Contains y.view.done r) (sym (the_one s x among)) has) in
                let same : j ≡ i = omega (arith, port, is) in
                subst (λ k. get_or took k None ≡ Some r) same e;
          };
      within = λ x r among has.
          let (j, inside, e, is) = placed before after all r (subst (λ (y : Sits). Contains y.view.done r) (sym (the_one s x among)) has) in
          (omega (arith, is), omega (arith, is, inside));
    }

  module _ (ls rs : List Sits) (first cut : ℕ) (xs xs' ys ys' : List W) (cut_is : length xs ≡ cut) (one : AreServed faults runs ls first xs xs')
      (two : AreServed faults runs rs (first + cut) ys ys') where
    on_left : (i : ℕ) (b a : W) → i < length xs → IsServed faults runs (ls ++ rs) (first + i) (get_or xs i b) (get_or xs' i a) (get_or one.took i None)
    on_left i b a lt = let at = one.each i b a lt in record {
      wire = at.wire;
      by = at.by;
      among = Contains-append_left ls rs at.by at.among;
      had = at.had;
      only = λ s r among has port. ⊎_elim
          (λ left. at.only s r left has port)
          (λ right. let far = (two.within s r right has).0 in absurd (omega (arith, far, port, lt, cut_is)))
          (Contains-append_cases ls rs s among);
    }

    on_right : (i : ℕ) (b a : W) → i < length ys → IsServed faults runs (ls ++ rs) (first + cut + i) (get_or ys i b) (get_or ys' i a) (get_or two.took i None)
    on_right i b a lt = let at = two.each i b a lt in record {
      wire = at.wire;
      by = at.by;
      among = Contains-append_right ls rs at.by at.among;
      had = at.had;
      only = λ s r among has port. ⊎_elim
          (λ left. let far = (one.within s r left has).1 in absurd (omega (arith, far, port, lt, cut_is)))
          (λ right. at.only s r right has port)
          (Contains-append_cases ls rs s among);
    }

    -- two parts side by side
    both_parts : AreServed faults runs (ls ++ rs) first (xs ++ ys) (xs' ++ ys')
    both_parts =
        let m = one.as_many in
        let n = two.as_many in
        let long = length-append xs ys in
        let long' = length-append xs' ys' in
        let took = one.took ++ two.took in
        let longs = length-append one.took two.took in
        let here = one.took_many in
        let there' = two.took_many in record {
          took = took;
          took_many = omega arith;
          as_many = omega arith;
          each = λ i b a lt. ⊎_elim
              (λ (in' : i < length xs).
              let t_is : get_or took i None ≡ get_or one.took i None = get_or_append_left one.took two.took None i (omega (arith, here, in')) in
              subst (λ (z : W × W × Option Report). IsServed faults runs (ls ++ rs) (first + i) z.0 z.1 z.2)
              (λ t. (sym (get_or_append_left xs ys b i in') t, sym (get_or_append_left xs' ys' a i (omega (arith, m, in'))) t, sym t_is t)) (on_left i b a in'))
              (λ (out : length xs ≤ i).
              let back : first + cut + (i - length xs) ≡ first + i = omega (arith, out, cut_is) in
              let there = on_right (i - length xs) b a (omega (arith, out, lt, long)) in
              let y_is : get_or (xs ++ ys) i b ≡ get_or ys (i - length xs) b = get_or-append_right xs ys (length xs) i b refl out in
              let y'_is : get_or (xs' ++ ys') i a ≡ get_or ys' (i - length xs) a = get_or-append_right xs' ys' (length xs) i a m out in
              let t_is : get_or took i None ≡ get_or two.took (i - length xs) None = get_or-append_right one.took two.took (length xs) i None here out in
              subst (λ (z : ℕ × W × W × Option Report). IsServed faults runs (ls ++ rs) z.0 z.1 z.2 z.3) (λ t. (back t, sym y_is t, sym y'_is t, sym t_is t)) there)
              (cases_lt i (length xs));
          within = λ s r among has. ⊎_elim
              (λ left. let w = one.within s r left has in (w.0, omega (arith, w.1, long)))
              (λ right. let w = two.within s r right has in (omega (arith, w.0), omega (arith, w.1, long, cut_is)))
              (Contains-append_cases ls rs s among);
        }

  pub halves : (ws : List W) (ls rs : List Sits) (first second : ℕ) (xs xs' ys ys' : List W) → ws ≡ xs ++ ys → second ≡ first + length xs → AreServed faults runs ls first xs
      xs' →
      AreServed faults runs rs second ys ys' → AreServed faults runs (ls ++ rs) first ws (xs' ++ ys')
  halves ws ls rs first second xs xs' ys ys' p at one two = subst (λ l. AreServed faults runs (ls ++ rs) first l (xs' ++ ys')) (sym p)
      (both_parts ls rs first (length xs) xs xs' ys ys' refl one (subst (λ n. AreServed faults runs rs n ys ys') at two))

  -- the one agent of a list
  pub served_alone : (agents : List Sits) (s : Sits) (first : ℕ) (took : List (Option Report)) (before after : List W) → length agents ≡ 1 → s.view.done ≡ taken took →
      Attended faults runs s.view first before after took → AreServed faults runs (set agents 0 s) first before after
  served_alone [] s first took before after e done all = absurd (omega (arith, e))
  served_alone (a ∷ []) s first took before after e done all = one_agent s first took done before after all
  served_alone (a ∷ b ∷ rest) s first took before after e done all = let two : suc (suc (length rest)) ≡ 1 = e in absurd (omega arith)

-- what the one agent of a list tried
pub tried_alone : (ports first : ℕ) (v : View) (took : List (Option Report)) (agents : List Sits) (s : Sits) (many : ℕ) → length agents ≡ 1 → length took ≡ many → v.done ≡ [] →
    v.looks ≡ [] → s.view.done ≡ v.done ++ taken took → TriedEachOnce ports first took v s.view → EachTriedOnce ports first many (set agents 0 s)
tried_alone ports first v took [] s many e long none unseen done tried = absurd (omega (arith, e))
tried_alone ports first v took (a ∷ []) s many e long none unseen done tried = record {
  took = took;
  took_many = long;
  tries = tried.tries;
  tries_many = tried.as_many ∙ long;
  each = λ i lt. tried.each i (omega (arith, lt, long));
  reports = append-nil s.view.done ∙ (done ∙ ap (λ l. l ++ taken took) none);
  looks = append-nil s.view.looks ∙ (tried.looks ∙ ap (λ l. l ++ flat_map (λ (k : List Look). k) tried.tries) unseen);
}
tried_alone ports first v took (a ∷ b ∷ rest) s many e long none unseen done tried = let two : suc (suc (length rest)) ≡ 1 = e in absurd (omega arith)

-- what two parts side by side tried
both_tried : (ports first m n : ℕ) (ls rs : List Sits) → EachTriedOnce ports first m ls → EachTriedOnce ports (first + m) n rs → EachTriedOnce ports first (m + n) (ls ++ rs)
both_tried ports first m n ls rs one two =
    let took = one.took ++ two.took in
    let tries = one.tries ++ two.tries in
    let tooks = length-append one.took two.took in
    let longs = length-append one.tries two.tries in
    let a = one.took_many in
    let b = two.took_many in
    let c = one.tries_many in
    let d = two.tries_many in record {
      took = took;
      took_many = omega arith;
      tries = tries;
      tries_many = omega arith;
      each = λ i lt. ⊎_elim
          (λ (here : i < m). subst (λ (z : Option Report × List Look). IsTry ports (first + i) z.0 z.1)
          (λ t. (sym (get_or_append_left one.took two.took None i (omega (arith, a, here))) t, sym (get_or_append_left one.tries two.tries [] i (omega (arith, c, here))) t))
          (one.each i here))
          (λ (there : m ≤ i). let back : first + m + (i - m) ≡ first + i = omega (arith, there) in
          subst (λ (z : ℕ × Option Report × List Look). IsTry ports z.0 z.1 z.2)
          (λ t. (back t, sym (get_or-append_right one.took two.took m i None a there) t, sym (get_or-append_right one.tries two.tries m i [] c there) t))
          (two.each (i - m) (omega (arith, there, lt))))
          (cases_lt i m);
      reports = flat_map-append (λ (s : Sits). s.view.done) ls rs ∙ ((λ t. one.reports t ++ two.reports t) ∙ sym (taken_append one.took two.took));
      looks = flat_map-append (λ (s : Sits). s.view.looks) ls rs ∙
          ((λ t. one.looks t ++ two.looks t) ∙ sym (flat_map-append (λ (k : List Look). k) one.tries two.tries));
    }

pub tried_halves : {W : Type 0} (ports first second : ℕ) (ws xs ys : List W) (ls rs : List Sits) → ws ≡ xs ++ ys → second ≡ first + length xs →
    EachTriedOnce ports first (length xs) ls → EachTriedOnce ports second (length ys) rs → EachTriedOnce ports first (length ws) (ls ++ rs)
tried_halves ports first second ws xs ys ls rs p at one two = subst (λ n. EachTriedOnce ports first n (ls ++ rs)) (sym (length-append xs ys) ∙ ap (λ l. length l) (sym p))
    (both_tried ports first (length xs) (length ys) ls rs one (subst (λ n. EachTriedOnce ports n (length ys) rs) at two))
