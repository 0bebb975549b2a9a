-- The last station of a crew, and those before it.
use Rattle.std.proofs.Common.{◌≡◌, ℕ, ◌+◌, ◌-◌, ◌*◌, ◌/◌, ◌<◌, ◌≤◌, min, List, [], ◌∷◌, ◌++◌, length, get_or, sym, refl, ap, ◌∙◌, subst, arith, Option, Some, None, length-append}
use Rattle.std.specs.Prelude.{All, AllPairs, Contains, IsSome, map, vec_capacity}
use Rattle.std.proofs.lemmas.List.{append_assoc, get_or-append_right, get_or_append_left, get_or-map, length-map, map-append}
use Rattle.std.proofs.lemmas.List.Elements.{All-nil, All-cons, All-head, All-tail, Contains-append_left, Contains-append_right, Contains-get_or}
use Rattle.atomic_table.specs.Seated.{TableId}
use Rattle.errands.specs.Models.{EndModel, TrayModel}
use Rattle.port_board.specs.declared.view.Grant.{Grant}
use Rattle.port_board.specs.declared.view.View.{View}
use Rattle.port_board.specs.Agreement.{EachPosted, SharesNothing}
use Rattle.port_board.specs.Views.{agents_out, Board, looked, one_more, takes_in}
use Rattle.port_agent.specs.Attended.{IsFresh}
use Rattle.crews.specs.declared.part.Outlet.{Outlet}
use Rattle.crews.specs.declared.part.Part.{Part}
use Rattle.crews.specs.declared.serving.Station.{Station}
use Rattle.crews.specs.Attached.{AreAttached, IsAttached}
use Rattle.crews.specs.Parts.{Fits, IsAttended, Trial, outlet_after, outlet_before}
use Rattle.crews.specs.Sections.{AreReady, IsReady, ended, place_of}
use Rattle.crews.specs.Served.{AreCrewed, HasTried}
use Rattle.crews.specs.Wires.{AreTaken, AreThere, Distinct, StayElsewhere, at_ports}
use Rattle.crews.proofs.Crewed.{one_crewed}
use Rattle.crews.proofs.Places.{apart, at_stay, right_distinct, there_within}
use Rattle.crews.proofs.Shares.{last_share, other_shares, some_last}

abbrev pub Place : Type 0 → Type 0
Place W = EndModel (Part W) Board × ℕ × ℕ

pub told_of : (v made : View) → made ≡ one_more v → EachPosted v × AllPairs SharesNothing v.back → EachPosted made × AllPairs SharesNothing made.back
told_of v made made_is told = subst (λ (x : View). EachPosted x × AllPairs SharesNothing x.back) (sym made_is) told

module _ {X Y Z : Type 0} where
  pub map_twice : (f : Y → Z) (h : X → Y) (xs : List X) → map f (map h xs) ≡ map (λ x. f (h x)) xs
  map_twice f h [] = refl
  map_twice f h (x ∷ xs) = ap (λ l. f (h x) ∷ l) (map_twice f h xs)

module _ {X Y : Type 0} where
  pub from_mapped : (P : Y → Type 0) (f : X → Y) (xs : List X) → All P (map f xs) → All (λ x. P (f x)) xs
  from_mapped P f [] all = All-nil (λ x. P (f x))
  from_mapped P f (x ∷ xs) all = All-cons (λ x. P (f x)) x xs (All-head P (f x) (map f xs) all) (from_mapped P f xs (All-tail P (f x) (map f xs) all))

module _ {X : Type 0} where
  pub all_left : (P : X → Type 0) (xs ys : List X) → All P (xs ++ ys) → All P xs
  all_left P xs ys all k d lt = let long = length-append xs ys in subst P (get_or_append_left xs ys d k lt) (all k d (omega (arith, lt, long)))

  pub all_right : (P : X → Type 0) (xs ys : List X) → All P (xs ++ ys) → All P ys
  all_right P xs ys all k d lt = let long = length-append xs ys in
      subst P (get_or-append_right xs ys (length xs) (length xs + k) d refl (omega arith) ∙ ap (λ n. get_or ys n d) back) (all (length xs + k) d (omega (arith, lt, long)))
    where
      back : length xs + k - length xs ≡ k
      back = omega arith

  pub empty_list : (xs : List X) → length xs ≡ 0 → xs ≡ []
  empty_list [] e = refl
  empty_list (x ∷ xs) e = absurd (let n : length (x ∷ xs) ≡ 0 = e in omega arith)

-- the ports that are kept, and those that are given
pub cut_distinct : (ports xs ys : List ℕ) → ports ≡ xs ++ ys → Distinct ports → Distinct (xs ++ ys)
cut_distinct ports xs ys cut all = subst Distinct cut all

pub cut_below : (ports xs ys : List ℕ) → ports ≡ xs ++ ys → (n : ℕ) → All (λ p. p < n) ports → All (λ p. p < n) xs × All (λ p. p < n) ys
cut_below ports xs ys cut n below = let all = subst (All (λ p. p < n)) cut below in (all_left (λ p. p < n) xs ys all, all_right (λ p. p < n) xs ys all)

pub room_before : (v made : View) (n kept given : ℕ) → made ≡ one_more v → agents_out v + n < 4294967296 → given + kept ≡ n → 1 ≤ given → agents_out made + kept < 4294967296
room_before v made n kept given made_is room all some =
    let m : made.made ≡ v.made + 1 = ap (λ (x : View). x.made) made_is in
    let b : length made.back ≡ length v.back = ap (λ (x : View). length x.back) made_is in
    omega arith

module _ {W : Type 0} where
  -- fewer ports find room too
  pub fewer_ready : (board : Board) (trays : List (TrayModel Board)) (n m : ℕ) (ps : List (Place W)) → AreReady board trays n ps → m ≤ n → AreReady board trays m ps
  fewer_ready board trays n m ps ready le = record {
    share = ready.share;
    some = ready.some;
    enough = let e = ready.enough in omega (arith, e, le);
    each = ready.each;
  }

  -- the wires at them
  module _ (ports xs ys : List ℕ) (cut : ports ≡ xs ++ ys) where
    pub cut_there : (ws : List (Option W)) → AreThere ports ws → AreThere xs ws × AreThere ys ws
    cut_there ws there =
        let all = subst (λ (l : List ℕ). AreThere l ws) cut there in
        (all_left (λ p. IsSome (get_or ws p None)) xs ys all, all_right (λ p. IsSome (get_or ws p None)) xs ys all)

    -- the wires of the ports that are kept are still in their places
    pub still_there : (ws0 ws1 : List (Option W)) (outlets : List (Outlet W)) → AreTaken ys ws0 ws1 outlets → Distinct ports → AreThere ports ws0 → AreThere xs ws1
    still_there ws0 ws1 outlets taken distinct there k d lt =
        let p : ℕ = get_or xs k d in
        subst (λ (o : Option W). IsSome o) (sym (taken.stay.rest p (λ has. apart xs ys p (cut_distinct ports xs ys cut distinct) (Contains-get_or xs k d lt) has)))
        ((cut_there ws0 there).0 k d lt)

  pub places : (all xs : List (Station W)) (s : Station W) → all ≡ xs ++ s ∷ [] → map place_of all ≡ map place_of xs ++ place_of s ∷ []
  places all xs s e = ap (λ (l : List (Station W)). map place_of l) e ∙ map-append place_of xs (s ∷ [])

  pub last_ready : (board : Board) (trays : List (TrayModel Board)) (n : ℕ) (all xs : List (Station W)) (s : Station W) (ready : AreReady board trays n (map place_of all)) → all ≡
      xs ++ s ∷ []
      → IsReady board trays ready.share (length xs) (place_of s)
  last_ready board trays n all xs s ready e = subst (λ k. IsReady board trays ready.share k (place_of s)) (length-map xs place_of)
      (ready.each (map place_of xs) (place_of s) [] (places all xs s e))

  many_of : (all xs : List (Station W)) (s : Station W) → all ≡ xs ++ s ∷ [] → length all ≡ length xs + 1
  many_of all xs s e = ap (λ (l : List (Station W)). length l) e ∙ length-append xs (s ∷ [])

  -- the shares of a stretch, and of what is left
  module _ (board : Board) (trays : List (TrayModel Board)) (n m : ℕ) (all xs : List (Station W)) (s : Station W) (ready : AreReady board trays n (map place_of all))
      (popped : all ≡ xs ++ s ∷ [])
      (parts : m ≡ min n (length all + 1)) (two : 2 ≤ m) where
    parts_of : m ≡ min n (length xs + 2)
    parts_of = let e = many_of all xs s popped in omega (arith, parts, e)

    enough_of : n ≤ (length xs + 2) * ready.share
    enough_of = subst (λ z. n ≤ z * ready.share) (let e = many_of all xs s popped in let k = length-map all place_of in omega (arith, e, k)) ready.enough

    pub some_given : 1 ≤ n / m
    some_given = some_last n (length xs) m ready.share parts_of two enough_of ready.some

    pub room_last : n / m ≤ vec_capacity s.outlets
    room_last = let a = last_share n (length xs) m ready.share parts_of two enough_of ready.some in
        let b = (last_ready board trays n all xs s ready popped).room in omega (arith, a, b)

    pub ready_before : (left : ℕ) → left ≡ n - n / m → AreReady board trays left (map place_of xs)
    ready_before left left_is = record {
      share = ready.share;
      some = ready.some;
      enough = subst (λ z. left ≤ (z + 1) * ready.share) (sym (length-map xs place_of))
          (subst (λ z. z ≤ (length xs + 1) * ready.share) (sym left_is) (other_shares n (length xs) m ready.share parts_of two enough_of ready.some));
      each = λ before p after is. ready.each before p (after ++ place_of s ∷ [])
          (places all xs s popped ∙ (ap (λ (l : List (Place W)). l ++ place_of s ∷ []) is ∙ append_assoc before (p ∷ after) (place_of s ∷ [])));
    }

  -- the tray of the last station
  pub own_tray : (board : Board) (trays : List (TrayModel Board)) (xs : List (Station W)) (e : EndModel (Part W) Board) (k : ℕ) (t : TrayModel Board) → IsAttached board trays
      (length xs) e →
      k ≡ length xs → t ≡ get_or trays k t → e.at ≡ t.id
  own_tray board trays xs e k t here k_is at = here.tray t ∙ (ap (λ n. (get_or trays n t).id) (sym k_is) ∙ ap (λ (u : TrayModel Board). u.id) (sym at))

  pub freed : (e f h : EndModel (Part W) Board) (p : Part W) → e.out ≡ None → h ≡ (record f { out = None }) → f ≡ (record e { out = Some p }) → h ≡ e
  freed e f h p free h_is f_is = h_is ∙ ((λ i. record (f_is i) { out = None }) ∙ (λ i. record e { out = sym free i }))

  -- a part that was given and taken back leaves its place as it was
  pub same_places : (all xs ys zs : List (Station W)) (s t : Station W) → all ≡ xs ++ s ∷ [] → zs ≡ ys ++ t ∷ [] → map place_of ys ≡ map place_of xs → place_of t ≡ place_of s
      → map place_of zs ≡ map place_of all
  same_places all xs ys zs s t all_is zs_is same last =
      places zs ys t zs_is ∙ ((λ i. same i ++ last i ∷ []) ∙ sym (places all xs s all_is))

  pub places_ended : (all xs ys zs : List (Station W)) (s t : Station W) → all ≡ xs ++ s ∷ [] → zs ≡ ys ++ t ∷ [] → map place_of ys ≡ map ended (map place_of xs) → place_of t ≡
      ended (place_of s)
      → map place_of zs ≡ map ended (map place_of all)
  places_ended all xs ys zs s t all_is zs_is same last = places zs ys t zs_is ∙ ((λ i. same i ++ last i ∷ []) ∙ sym
      (ap (λ (l : List (Place W)). map ended l) (places all xs s all_is)
      ∙ map-append ended (map place_of xs) (place_of s ∷ [])))

  pub last_attached : (board : Board) (trays : List (TrayModel Board)) (all xs : List (Station W)) (s : Station W) → AreAttached board trays (map place_of all) → all ≡ xs ++ s ∷ []
      → IsAttached board trays (length xs) s.giver
  last_attached board trays all xs s ready e = subst (λ n. IsAttached board trays n s.giver) (length-map xs place_of) (ready (map place_of xs) (place_of s) [] (places all xs s e))

  pub attached_before : (board : Board) (trays : List (TrayModel Board)) (all xs : List (Station W)) (s : Station W) → AreAttached board trays (map place_of all) → all ≡
      xs ++ s ∷ []
      → AreAttached board trays (map place_of xs)
  attached_before board trays all xs s ready e before p after is = ready before p (after ++ place_of s ∷ [])
      (places all xs s e ∙ (ap (λ (l : List (Place W)). l ++ place_of s ∷ []) is ∙ append_assoc before (p ∷ after) (place_of s ∷ [])))

  -- the ports of a new part are the board's
  pub fits_here : (board : Board) (posts : List Grant) (p : Part W) (ports : List ℕ) (ws0 ws1 : List (Option W)) → IsFresh board.id posts p.agent → AreTaken ports ws0 ws1
      p.outlets.items →
      All (λ n. n < board.ports) ports → Fits board p
  fits_here board posts p ports ws0 ws1 fresh taken below = (
    fresh.place,
    from_mapped (λ n. n < board.ports) (λ (o : Outlet W). o.port) p.outlets.items (subst (All (λ n. n < board.ports)) (sym taken.at) below),
  )

  module _ (faults : W → ℕ) (runs : W → Option (List (ℕ × ℕ × ℕ))) where
    pub kept_board : (board : Board) (posts : List Grant) (p q : Part W) → IsFresh board.id posts p.agent → IsAttended faults runs board p q → (q.agent.at ≡ board.id) ×
        (q.agent.view.out ≡ [])
    kept_board board posts p q fresh did = (
      ap (λ (k : TableId × ℕ × List Grant × List Grant). k.0) did.kept ∙ fresh.place,
      did.tried.out ∙ fresh.none_out,
    )

    -- what a given part did, once its wires are back
    module _ (board : Board) (xs ys : List ℕ) (made w1 : View) (ws0 ws1 ws2 : List (Option W)) (p q : Part W) (distinct : Distinct (xs ++ ys)) (there : AreThere ys ws0)
        (taken : AreTaken ys ws0 ws1 p.outlets.items) (did : IsAttended faults runs board p q) (rest : AreCrewed faults runs made w1 xs ws1 ws2) where
      tried_at : map (λ (x : Trial W). x.port) did.trials ≡ ys
      tried_at = sym (ap (λ (l : List (Outlet W)). map (λ (o : Outlet W). o.port) l) did.before ∙ map_twice (λ (o : Outlet W). o.port) outlet_before did.trials) ∙ taken.at

      pub ports_stay : map (λ (o : Outlet W). o.port) q.outlets.items ≡ ys
      ports_stay = ap (λ (l : List (Outlet W)). map (λ (o : Outlet W). o.port) l) did.after ∙ (map_twice (λ (o : Outlet W). o.port) outlet_after did.trials ∙ tried_at)

      own : Distinct ys
      own = right_distinct xs ys distinct

      pub part_distinct : Distinct (map (λ (o : Outlet W). o.port) q.outlets.items)
      part_distinct = subst Distinct (sym ports_stay) own

      pub part_within : All (λ (o : Outlet W). o.port < length ws2) q.outlets.items
      part_within =
          let a = taken.stay.many in
          let b = rest.stay.many in
          from_mapped (λ n. n < length ws2) (λ (o : Outlet W). o.port) q.outlets.items (subst (All (λ n. n < length ws2)) (sym ports_stay)
          (λ k d lt. let n = there_within ws0 (get_or ys k d) (there k d lt) in omega (arith, a, b, n)))

      gone_still : at_ports ys ws2 ≡ map (λ n. None) ys
      gone_still = at_stay ys xs ws1 ws2 rest.stay (λ n here there. apart xs ys n distinct there here) ∙ taken.gone

      pub part_gone : All (λ (o : Outlet W). get_or ws2 o.port None ≡ None) q.outlets.items
      part_gone = from_mapped (λ n. get_or ws2 n None ≡ None) (λ (o : Outlet W). o.port) q.outlets.items (subst (All (λ n. get_or ws2 n None ≡ None)) (sym ports_stay)
          (λ k d lt. sym (get_or-map (λ n. get_or ws2 n None) ys k d None lt) ∙ (ap (λ (l : List (Option W)). get_or l k None) gone_still ∙ get_or-map (λ n. None) ys k d None lt)))

      -- one part more
      pub one_part : (ws3 : List (Option W)) (v w : View) (word : ℕ) → made ≡ one_more v → IsFresh board.id v.posts p.agent →
          AreTaken (map (λ (o : Outlet W). o.port) q.outlets.items) ws3 ws2 q.outlets.items → w ≡ looked 0 word (takes_in w1 q.agent.view) → EachPosted w × AllPairs
          SharesNothing w.back →
          AreCrewed faults runs v w (xs ++ ys) ws0 ws3
      one_part ws3 v w word made_is fresh put w_is told =
          let put' : AreTaken ys ws3 ws2 q.outlets.items = subst (λ (l : List ℕ). AreTaken l ws3 ws2 q.outlets.items) ports_stay put in
          let tried : HasTried faults runs board.ports p.agent q.agent ys ws0 ws3 = record {
            trials = did.trials;
            at = tried_at;
            before = taken.wires ∙ (ap (λ (l : List (Outlet W)). map (λ (o : Outlet W). Some o.wire) l) did.before ∙ map_twice (λ (o : Outlet W). Some o.wire) outlet_before
                did.trials);
            after = put'.wires ∙ (ap (λ (l : List (Outlet W)). map (λ (o : Outlet W). Some o.wire) l) did.after ∙ map_twice (λ (o : Outlet W). Some o.wire) outlet_after
                did.trials);
            kept = did.kept;
            tried = did.tried;
          } in
          let stay : StayElsewhere (xs ++ ys) ws0 ws3 = record {
            many = sym put'.stay.many ∙ (rest.stay.many ∙ taken.stay.many);
            rest = λ n far.
                let far_xs : Contains xs n → ⊥ = λ has. far (Contains-append_left xs ys n has) in
                let far_ys : Contains ys n → ⊥ = λ has. far (Contains-append_right xs ys n has) in
                sym (put'.stay.rest n far_ys) ∙ (rest.stay.rest n far_xs ∙ taken.stay.rest n far_ys);
          } in
          one_crewed faults runs board.id board.ports v made w1 w xs ys ws0 ws1 ws2 ws3 p.agent q.agent word made_is fresh tried rest w_is distinct own
          (sym (at_stay xs ys ws0 ws1 taken.stay (λ n here there. apart xs ys n distinct here there)))
          (sym (at_stay xs ys ws3 ws2 put'.stay (λ n here there. apart xs ys n distinct here there))) stay told
