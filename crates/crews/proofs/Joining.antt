-- A crew as it is gathered, and as it parts.
use Rattle.std.proofs.Common.{◌≡◌, ◌⊎◌, inl, inr, ⊎_elim, ℕ, ◌+◌, ◌-◌, ◌*◌, ◌/◌, ◌<◌, ◌≤◌, List, [], ◌∷◌, ◌++◌, length, map, min, take, drop, get_or, sym, refl, ap, ◌∙◌, subst}
use Rattle.std.proofs.Common.{arith, zero, suc, true, Option, Some, length-append}
use Rattle.std.specs.Prelude.{IsSome, vec_capacity}
use Rattle.std.proofs.lemmas.List.{append_assoc, drop_more, get_or_append_left, get_or-append_right, get_or-map, length-map, length-take-le, map-append, take-append-drop}
use Rattle.std.proofs.Math.Nat.{add-mul, lt-div-mul-add}
use Rattle.errands.specs.Models.{EndModel, TrayModel}
use Rattle.port_board.specs.Views.{Board}
use Rattle.crews.specs.declared.part.Outlet.{Outlet}
use Rattle.crews.specs.declared.part.Part.{Part}
use Rattle.crews.specs.declared.serving.Station.{Station}
use Rattle.crews.specs.declared.gathering.Gathered.{Gathered}
use Rattle.crews.specs.Attached.{AreAttached, AreOver, IsOver}
use Rattle.crews.specs.Sections.{EachReady, IsReady, ended, helper_at, place_of}
use Rattle.crews.specs.Gathering.{AreMade, HaveNoOutlets, IsGathered}
use Rattle.crews.specs.Wires.{AllThere, wires_of}
use Rattle.crews.proofs.Ready.{Place, all_left, all_right, places}
use Rattle.crews.proofs.Trying.{head_or, tail_of}

module _ {A : Type 0} where
  -- a list with one element more, taken apart
  pub split_last : (xs : List A) (t : A) (before : List A) (s : A) (after : List A) → xs ++ t ∷ [] ≡ before ++ s ∷ after
      → ((after ≡ []) × (t ≡ s) × (xs ≡ before)) ⊎ ((rest : List A) × (after ≡ rest ++ t ∷ []) × (xs ≡ before ++ s ∷ rest))
  split_last [] t [] s after e = inl (sym (ap tail_of e), ap (head_or t) e, refl)
  split_last [] t (b ∷ bs) s after e =
      let n : length (t ∷ []) ≡ length (b ∷ (bs ++ s ∷ after)) = ap (λ (l : List A). length l) e in
      let m = length-append bs (s ∷ after) in absurd (omega (arith, n, m))
  split_last (x ∷ xs) t [] s after e = inr (xs, sym (ap tail_of e), ap (λ z. z ∷ xs) (ap (head_or x) e))
  split_last (x ∷ xs) t (b ∷ bs) s after e = ⊎_elim
      (λ last. inl (last.0, last.1, λ i. head_or x (e i) ∷ last.2 i))
      (λ more. inr (more.0, more.1, λ i. head_or x (e i) ∷ more.2 i))
      (split_last xs t bs s after (ap tail_of e))

module _ {A B : Type 0} where
  -- a list made place by place, taken apart
  pub split_map : (f : A → B) (xs : List A) (before : List B) (q : B) (after : List B) → map f xs ≡ before ++ q ∷ after
      → (bs : List A) × (x : A) × (cs : List A) × (xs ≡ bs ++ x ∷ cs) × (map f bs ≡ before) × (f x ≡ q)
  split_map f [] [] q after e = absurd (let n : 0 ≡ length (q ∷ after) = ap (λ (l : List B). length l) e in omega arith)
  split_map f [] (b ∷ bs) q after e = absurd (let n : 0 ≡ length (b ∷ (bs ++ q ∷ after)) = ap (λ (l : List B). length l) e in omega arith)
  split_map f (x ∷ xs) [] q after e = ([], x, xs, refl, refl, ap (head_or q) e)
  split_map f (x ∷ xs) (b ∷ bs) q after e = let r = split_map f xs bs q after (ap tail_of e) in
      (x ∷ r.0, r.1, r.2, ap (λ (l : List A). x ∷ l) r.3, (λ i. head_or b (e i) ∷ r.4 i), r.5)

pub tray_of_last : (us : List (TrayModel Board)) (u : TrayModel Board) (k : ℕ) (d : TrayModel Board) → k ≡ length us → get_or (us ++ u ∷ []) k d ≡ u
tray_of_last us u k d is = get_or-append_right us (u ∷ []) (length us) k d refl (omega (arith, is)) ∙ ap (λ n. get_or (u ∷ []) n d) zero_left
  where
    zero_left : k - length us ≡ 0
    zero_left = omega (arith, is)

-- so much room is enough
pub enough_room : (ports agents many : ℕ) → many + 1 ≡ agents → ports ≤ (many + 1) * (ports / agents + 1)
enough_room ports agents many is =
    let low : ports < ports / agents * agents + agents = lt-div-mul-add {a = ports} {b = agents} (omega (arith, is)) in
    let e : (ports / agents + 1) * agents ≡ ports / agents * agents + 1 * agents = add-mul (ports / agents) 1 agents in
    let same : (many + 1) * (ports / agents + 1) ≡ agents * (ports / agents + 1) = ap (λ n. n * (ports / agents + 1)) is in
    let turn : agents * (ports / agents + 1) ≡ (ports / agents + 1) * agents = omega arith in
    omega (arith, low, e, same, turn)

module _ {W : Type 0} where
  -- one station more, at one tray more
  ready_push : (board : Board) (trays : List (TrayModel Board)) (share : ℕ) (u : TrayModel Board) (ps : List (Place W)) (p : Place W) → EachReady board trays share ps → length ps ≡
      length trays →
      p.0 ≡ helper_at board u → p.1 ≡ 0 → share ≤ p.2 → EachReady board (trays ++ u ∷ []) share (ps ++ p ∷ [])
  ready_push board trays share u ps p each many end none room before q after is = ⊎_elim
      (λ (last : (after ≡ []) × (p ≡ q) × (ps ≡ before)).
      subst (λ (z : List (Place W) × Place W). IsReady board (trays ++ u ∷ []) share (length z.0) z.1) (λ i. (last.2 i, last.1 i)) (record {
        attached = record {
          tray = λ d. ap (λ (e : EndModel (Part W) Board). e.at) end ∙ ap (λ (t : TrayModel Board). t.id) (sym (tray_of_last trays u (length ps) d many));
          about = ap (λ (e : EndModel (Part W) Board). e.about) end;
          free = ap (λ (e : EndModel (Part W) Board). e.out) end;
          going = ap (λ (e : EndModel (Part W) Board). e.over) end;
        };
        none = none;
        room = room;
      }))
      (λ (more : (rest : List (Place W)) × (after ≡ rest ++ p ∷ []) × (ps ≡ before ++ q ∷ rest)).
      let r = each before q more.0 more.2 in
      let long : length ps ≡ length before + length (q ∷ more.0) = ap (λ (l : List (Place W)). length l) more.2 ∙ length-append before (q ∷ more.0) in record {
        attached = record {
          tray = λ d. r.attached.tray d ∙ ap (λ (t : TrayModel Board). t.id) (sym (get_or_append_left trays (u ∷ []) d (length before) (omega (arith, long, many))));
          about = r.attached.about;
          free = r.attached.free;
          going = r.attached.going;
        };
        none = r.none;
        room = r.room;
      })
      (split_last ps p before q after is)

  pub none_made : (board : Board) (share : ℕ) (ts : List (TrayModel Board)) (hs : List (EndModel (Part W) Board)) (ss : List (Station W)) → ts ≡ [] → hs ≡ [] → ss ≡ [] → AreMade
      board share ts hs ss
  none_made board share ts hs ss ts_is hs_is ss_is = subst (λ (z : List (TrayModel Board) × List (EndModel (Part W) Board) × List (Station W)). AreMade board share z.0 z.1 z.2)
      (λ i. (sym ts_is i, sym hs_is i, sym ss_is i)) none
    where
      none : AreMade {W = W} board share [] [] []
      none = record {
        many = refl;
        helpers = refl;
        each = λ before p after is. absurd (let k = ap (λ (l : List (Place W)). length l) is ∙ length-append before (p ∷ after) in omega (arith, k));
      }

  pub made_push : (board : Board) (share : ℕ) (ts : List (TrayModel Board)) (hs : List (EndModel (Part W) Board)) (ss : List (Station W)) (u : TrayModel Board)
      (h : EndModel (Part W) Board) (s : Station W)
      (ts' : List (TrayModel Board)) (hs' : List (EndModel (Part W) Board)) (ss' : List (Station W)) → AreMade board share ts hs ss → ts' ≡ ts ++ u ∷ [] → hs' ≡ hs ++ h ∷ [] → ss'
      ≡ ss ++ s ∷ [] →
      h ≡ helper_at board u → s.giver ≡ helper_at board u → s.outlets.items ≡ [] → share ≤ vec_capacity s.outlets → AreMade board share ts' hs' ss'
  made_push board share ts hs ss u h s ts' hs' ss' made ts_is hs_is ss_is h_is giver none room =
      let many = made.many in
      subst (λ (z : List (TrayModel Board) × List (EndModel (Part W) Board) × List (Station W)). AreMade board share z.0 z.1 z.2)
      (λ i. (sym ts_is i, sym hs_is i, sym ss_is i)) (record {
        many = length-append ss (s ∷ []) ∙ (omega (arith, many) ∙ sym (length-append ts (u ∷ [])));
        helpers = (λ i. made.helpers i ++ h_is i ∷ []) ∙ sym (map-append (helper_at board) ts (u ∷ []));
        each = subst (EachReady board (ts ++ u ∷ []) share) (sym (map-append place_of ss (s ∷ [])))
            (ready_push board ts share u (map place_of ss) (place_of s) made.each (length-map ss place_of ∙ many) giver
            (ap (λ (l : List (Outlet W)). length l) none) room);
      })

  pub attached_of : (board : Board) (trays : List (TrayModel Board)) (share : ℕ) (ps : List (Place W)) → EachReady board trays share ps → AreAttached board trays ps
  attached_of board trays share ps each before p after is = (each before p after is).attached

  -- once nothing is given there any more
  pub over_ended : (board : Board) (trays : List (TrayModel Board)) (ps qs : List (Place W)) → AreAttached board trays ps → qs ≡ map ended ps → AreOver trays qs
  over_ended board trays ps qs attached qs_is before q after is =
      let s = split_map ended ps before q after (sym qs_is ∙ is) in
      let a = attached s.0 s.1 s.2 s.3 in
      let same : length s.0 ≡ length before = sym (length-map s.0 ended) ∙ ap (λ (l : List (Place W)). length l) s.4 in
      subst (λ (z : ℕ × Place W). IsOver trays z.0 z.1.0) (λ i. (same i, s.5 i)) (record { tray = a.tray; over = refl })

  pub no_outlets : (board : Board) (trays : List (TrayModel Board)) (share : ℕ) (ps qs : List (Place W)) → EachReady board trays share ps → qs ≡ map ended ps → HaveNoOutlets qs
  no_outlets board trays share ps qs each qs_is k d lt =
      let here : k < length ps = let n = ap (λ (l : List (Place W)). length l) qs_is ∙ length-map ps ended in omega (arith, n, lt) in
      let at : get_or qs k d ≡ ended (get_or ps k d) = ap (λ (l : List (Place W)). get_or l k d) qs_is ∙ get_or-map ended ps k d d here in
      let cut : ps ≡ take k ps ++ get_or ps k d ∷ drop (k + 1) ps = sym (take-append-drop k ps) ∙ ap (λ (l : List (Place W)). take k ps ++ l) (drop_more ps k d here) in
      ap (λ (p : Place W). p.1) at ∙ (each (take k ps) (get_or ps k d) (drop (k + 1) ps) cut).none

  -- the last station and its tray
  module _ (trays us : List (TrayModel Board)) (u : TrayModel Board) (all xs : List (Station W)) (s : Station W) (trays_is : trays ≡ us ++ u ∷ []) (all_is : all ≡ xs ++ s ∷ [])
      (many : length all ≡ length trays) where
    pub many_before : length xs ≡ length us
    many_before =
        let n : length all ≡ length xs + 1 = ap (λ (l : List (Station W)). length l) all_is ∙ length-append xs (s ∷ []) in
        let m : length trays ≡ length us + 1 = ap (λ (l : List (TrayModel Board)). length l) trays_is ∙ length-append us (u ∷ []) in
        omega (arith, n, m, many)

    pub own_end : AreOver trays (map place_of all) → (s.giver.at ≡ u.id) × (s.giver.over ≡ true)
    own_end over =
        let here = over (map place_of xs) (place_of s) [] (places all xs s all_is) in (
          here.tray u ∙ ap (λ (t : TrayModel Board). t.id)
              (ap (λ (l : List (TrayModel Board)). get_or l (length (map place_of xs)) u) trays_is ∙ tray_of_last us u (length (map place_of xs)) u
              (length-map xs place_of ∙ many_before)),
          here.over,
        )

    pub over_before : AreOver trays (map place_of all) → AreOver us (map place_of xs)
    over_before over before p after is =
        let here = over before p (after ++ place_of s ∷ []) (places all xs s all_is ∙
        (ap (λ (l : List (Place W)). l ++ place_of s ∷ []) is ∙ append_assoc before (p ∷ after) (place_of s ∷ []))) in
        let n = many_before in
        let k : length xs ≡ length before + length (p ∷ after) = sym (length-map xs place_of) ∙ (ap (λ (l : List (Place W)). length l) is ∙ length-append before (p ∷ after)) in
        record {
          tray = λ d. here.tray d ∙ (ap (λ (l : List (TrayModel Board)). (get_or l (length before) d).id) trays_is
              ∙ ap (λ (t : TrayModel Board). t.id) (get_or_append_left us (u ∷ []) d (length before) (omega (arith, n, k))));
          over = here.over;
        }

  pub none_before : (all xs : List (Station W)) (s : Station W) → all ≡ xs ++ s ∷ [] → HaveNoOutlets (map place_of all) → HaveNoOutlets (map place_of xs) ×
      (length s.outlets.items ≡ 0)
  none_before all xs s all_is none =
      let split = subst (λ (l : List (Place W)). HaveNoOutlets l) (places all xs s all_is) none in (
        all_left (λ (p : Place W). p.1 ≡ 0) (map place_of xs) (place_of s ∷ []) split,
        all_right (λ (p : Place W). p.1 ≡ 0) (map place_of xs) (place_of s ∷ []) split 0 (place_of s) (omega arith),
      )

  pub wires_again : (ws : List W) → wires_of (map (λ (w : W). Some w) ws) ≡ ws
  wires_again [] = refl
  wires_again (w ∷ ws) = ap (λ l. w ∷ l) (wires_again ws)

  pub all_there : (ws : List W) → AllThere (map (λ (w : W). Some w) ws)
  all_there ws k d lt = let long = length-map ws (λ (w : W). Some w) in go ws k d (omega (arith, lt, long))
    where
      go : (ws : List W) (k : ℕ) (d : Option W) → k < length ws → IsSome (get_or (map (λ (w : W). Some w) ws) k d)
      go [] k d lt = absurd (omega arith)
      go (w ∷ ws) zero d lt = refl
      go (w ∷ ws) (suc k) d lt = go ws k d (omega (arith, lt))

  -- all have their wires
  pub gathered : (board : Board) (agents share : ℕ) (old front : List W) (all : Gathered W) → AreMade board share all.trays.items all.helpers.items all.stations.items →
      share ≡ board.ports / min agents board.ports + 1 → length all.stations.items + 1 ≡ min agents board.ports → front ≡ take board.ports old → all.wires.items ≡ map
      (λ (w : W). Some w) front →
      all.far.items ≡ drop board.ports old → board.ports ≤ length old → IsGathered board agents old all
  gathered board agents share old front all made share_is whole front_is wires far within =
      let many = made.many in
      let places_many = length-map all.stations.items place_of in record {
        wires = (λ i. (ap (λ (l : List (Option W)). wires_of l) wires ∙ (wires_again front ∙ front_is)) i ++ far i) ∙ take-append-drop board.ports old;
        ports = ap (λ (l : List (Option W)). length l) wires ∙ (length-map front (λ (w : W). Some w) ∙
            (ap (λ (l : List W). length l) front_is ∙ length-take-le board.ports old within));
        there = subst (λ (l : List (Option W)). AllThere l) (sym wires) (all_there front);
        ready = record {
          share = share;
          some = omega (arith, share_is);
          enough = subst (λ (z : ℕ × ℕ). board.ports ≤ (z.0 + 1) * z.1) (λ i. (sym places_many i, sym share_is i))
              (enough_room board.ports (min agents board.ports) (length all.stations.items) whole);
          each = made.each;
        };
        helpers = made.helpers;
        many = omega (arith, many, whole);
        as_many = many;
      }
