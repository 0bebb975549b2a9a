-- The driver meets the sessions in turn.
use Rattle.std.proofs.Common.{◌≡◌, ◌≢◌, ℕ, ◌+◌, ◌<◌, ◌≤◌, inl, inr, Bool, true, false, cond, List, [], ◌∷◌, ◌++◌}
use Rattle.std.proofs.Common.{length, get_or, set, map, take, drop, get_or-set_other, refl, sym, ap, ◌∙◌, subst, arith, length-append}
use Rattle.std.specs.Prelude.{All, if◌then◌else◌, nat_lt}
use Rattle.std.proofs.lemmas.Bool.{cases_Bool, ltb-false, ltb-true}
use Rattle.std.proofs.lemmas.List.{drop-append-le, take_more, take_more_set, take-append-le}
use Rattle.std.proofs.lemmas.List.Elements.{All-append, All-cons, All-head, All-nil, All-push, All-tail, All-weaker}
use Rattle.turnstile.specs.Histories.{GoesOn, longer, NoneAbove, NoneBy}
use Rattle.turnstile.specs.Models.{RootModel, SeatModel as TurnSeatModel}
use Rattle.journal.specs.declared.command.Entry.{Entry}
use Rattle.rank_board.specs.Models.{saw_front, SeatModel}
use Rattle.rank_board.specs.declared.pulls.Pull.{Pull}
use Rattle.client_session.specs.declared.desk.Setting.{Setting}
use Rattle.client_session.specs.declared.receipt.Receipt.{Receipt}
use Rattle.client_session.specs.Desk.{IsSeen}
use Rattle.client_session.specs.Grants.{GrantedModel, TellsGrants}
use Rattle.client_session.specs.Drivers.{IsDriver, who_of}
use Rattle.client_session.specs.Levels.{AreRaised, IsLevel, IsMetByEach, IsMetByOne, IsNewest, IsRaised}
use Rattle.client_session.specs.Models.{DriverModel, HallModel, IsDriverOf, IsSessionOf, SessionModel}
use Rattle.client_session.specs.Own.{IsPass, own_entries, receipt_of}
use Rattle.client_session.specs.Turns.{IsSession}
use Rattle.client_session.proofs.OwnSteps.{own_same}
use Rattle.client_session.proofs.Passes.{keeps_more, pass_later}
use Rattle.client_session.proofs.Driving.{driver_model}
use Rattle.client_session.proofs.Turning.{model}

all_left : {X : Type 0} (P : X → Type 0) (xs ys : List X) → All P (xs ++ ys) → All P xs
all_left P [] ys h = All-nil P
all_left P (x ∷ xs) ys h = All-cons P x xs (All-head P x (xs ++ ys) h) (all_left P xs ys (All-tail P x (xs ++ ys) h))

all_last : {X : Type 0} (P : X → Type 0) (xs : List X) (y : X) → All P (xs ++ y ∷ []) → P y
all_last P [] y h = All-head P y [] h
all_last P (x ∷ xs) y h = all_last P xs y (All-tail P x (xs ++ y ∷ []) h)

raised_more : (xs ys : List SessionModel) (s t : SessionModel) → AreRaised xs ys → IsRaised s t → AreRaised (xs ++ s ∷ []) (ys ++ t ∷ [])
raised_more [] [] s t h r = (r, tt)
raised_more [] (y ∷ ys) s t h r = absurd h
raised_more (x ∷ xs) [] s t h r = absurd h
raised_more (x ∷ xs) (y ∷ ys) s t h r = (h.0, raised_more xs ys s t h.1 r)

raised_again : (a b c : SessionModel) → IsRaised a b → IsRaised b c → IsRaised a c
raised_again a b c h k = record {
  rest = k.rest ∙ ap (λ (x : SessionModel). record x { position = c.position; rank = record x.rank { seen = c.rank.seen; looks = c.rank.looks } }) h.rest;
  looks = keeps_more a.rank b.rank c.rank k.looks.0 h.looks k.looks.1;
  position = omega (arith, h.position, k.position);
  version = omega (arith, h.version, k.version);
}

are_raised_again : (xs ys zs : List SessionModel) → AreRaised xs ys → AreRaised ys zs → AreRaised xs zs
are_raised_again [] [] [] h k = tt
are_raised_again [] [] (z ∷ zs) h k = absurd k
are_raised_again [] (y ∷ ys) zs h k = absurd h
are_raised_again (x ∷ xs) [] zs h k = absurd h
are_raised_again (x ∷ xs) (y ∷ ys) [] h k = absurd k
are_raised_again (x ∷ xs) (y ∷ ys) (z ∷ zs) h k = (raised_again x y z h.0 k.0, are_raised_again xs ys zs h.1 k.1)

-- a session that was raised is still of its hall
raised_of : (hall : HallModel) (a b : SessionModel) → IsRaised a b → IsSessionOf hall a → IsSessionOf hall b
raised_of hall a b h of = (
  ap (λ (x : SessionModel). x.gate) h.rest ∙ of.0,
  ap (λ (x : SessionModel). x.setting) h.rest ∙ of.1,
  ap (λ (x : SessionModel). x.rank.table) h.rest ∙ of.2,
)

pub are_raised_of : (hall : HallModel) (xs ys : List SessionModel) → AreRaised xs ys → All (IsSessionOf hall) xs → All (IsSessionOf hall) ys
are_raised_of hall [] [] h of = All-nil (IsSessionOf hall)
are_raised_of hall [] (y ∷ ys) h of = absurd h
are_raised_of hall (x ∷ xs) [] h of = absurd h
are_raised_of hall (x ∷ xs) (y ∷ ys) h of =
    All-cons (IsSessionOf hall) y ys (raised_of hall x y h.0 (All-head (IsSessionOf hall) x xs of)) (are_raised_of hall xs ys h.1 (All-tail (IsSessionOf hall) x xs of))

pub raised_driver_of : (hall : HallModel) (a b : DriverModel) → b ≡ record a { position = b.position } → IsDriverOf hall a → IsDriverOf hall b
raised_driver_of hall a b is of = (
  ap (λ (x : DriverModel). x.gate) is ∙ of.0,
  ap (λ (x : DriverModel). x.setting) is ∙ of.1,
  ap (λ (x : DriverModel). x.rank.table) is ∙ of.2,
)

-- nobody was met yet
pub met_nobody : (driver : DriverModel) (heard : SeatModel) → IsMetByEach driver driver heard heard [] []
met_nobody driver heard = record {
  driver_is = refl;
  board = refl;
  raised = tt;
  longest = (omega arith, All-nil (λ (s : SessionModel). s.position ≤ driver.position));
  within = λ top long. long.0;
  positions = All-nil (λ (s : SessionModel). (driver.position ≤ s.position) × (s.position ≤ driver.position));
  heard_all = (omega arith, All-nil (λ (s : SessionModel). s.rank.seen ≤ heard.seen));
  versions = All-nil (λ (s : SessionModel). heard.seen ≤ s.rank.seen);
}

-- one more was met
pub met_more : (d0 d1 d2 : DriverModel) (h0 h1 h2 : SeatModel) (xs ys : List SessionModel) (s t : SessionModel) → IsMetByEach d0 d1 h0 h1 xs ys → IsMetByOne d1 d2 h1 h2 s t →
    IsMetByEach d0 d2 h0 h2 (xs ++ s ∷ []) (ys ++ t ∷ [])
met_more d0 d1 d2 h0 h1 h2 xs ys s t each one =
    let later = one.longest.0 in
    let newer = one.heard_it.0 in
    let first = each.longest.0 in
    record {
      driver_is = one.driver_is ∙ ap (λ (d : DriverModel). record d { position = d2.position }) each.driver_is;
      board = one.board ∙ each.board;
      raised = raised_more xs ys s t each.raised one.raised;
      longest = (
        omega (arith, first, later),
        All-push (λ (x : SessionModel). x.position ≤ d2.position) xs s
            (All-weaker (λ (x : SessionModel). x.position ≤ d1.position) (λ (x : SessionModel). x.position ≤ d2.position) (λ x le. omega (arith, le, later)) xs each.longest.1)
            one.longest.1,
      );
      within = λ top long.
          let all : All (λ (x : SessionModel). x.position ≤ top) (xs ++ s ∷ []) = long.1 in
          one.within top (each.within top (long.0, all_left (λ (x : SessionModel). x.position ≤ top) xs (s ∷ []) all)) (all_last (λ (x : SessionModel). x.position ≤ top) xs s all);
      positions = All-push (λ (x : SessionModel). (d0.position ≤ x.position) × (x.position ≤ d2.position)) ys t
          (All-weaker (λ (x : SessionModel). (d0.position ≤ x.position) × (x.position ≤ d1.position)) (λ (x : SessionModel).
          (d0.position ≤ x.position) × (x.position ≤ d2.position))
          (λ x le. (le.0, omega (arith, le.1, later))) ys each.positions)
          (omega (arith, first, later, one.one), omega (arith, one.one));
      heard_all = (
        omega (arith, each.heard_all.0, newer),
        All-push (λ (x : SessionModel). x.rank.seen ≤ h2.seen) xs s
            (All-weaker (λ (x : SessionModel). x.rank.seen ≤ h1.seen) (λ (x : SessionModel). x.rank.seen ≤ h2.seen) (λ x le. omega (arith, le, newer)) xs each.heard_all.1)
            one.heard_it.1,
      );
      versions = All-push (λ (x : SessionModel). h0.seen ≤ x.rank.seen) ys t each.versions (omega (arith, each.heard_all.0, newer, one.version));
    }

-- twice over, and all have seen the longest
pub level_twice : (d0 d1 d2 : DriverModel) (h0 h1 h2 : SeatModel) (xs ys zs : List SessionModel) → IsMetByEach d0 d1 h0 h1 xs ys → IsMetByEach d1 d2 h1 h2 ys zs → IsLevel
    d0 d2 xs zs
level_twice d0 d1 d2 h0 h1 h2 xs ys zs first second =
    let later = second.longest.0 in
    let top : d2.position ≤ d1.position = second.within d1.position (
      omega arith,
      All-weaker (λ (x : SessionModel). (d0.position ≤ x.position) × (x.position ≤ d1.position))
          (λ (x : SessionModel). x.position ≤ d1.position) (λ x le. le.1) ys first.positions,
    ) in
    let all = first.heard_all.1 in
    record {
      driver_is = second.driver_is ∙ ap (λ (d : DriverModel). record d { position = d2.position }) first.driver_is;
      raised = are_raised_again xs ys zs first.raised second.raised;
      longest = (
        omega (arith, first.longest.0, later),
        All-weaker (λ (x : SessionModel). x.position ≤ d1.position) (λ (x : SessionModel). x.position ≤ d2.position) (λ x le. omega (arith, le, later)) xs first.longest.1,
      );
      one = All-weaker (λ (x : SessionModel). (d1.position ≤ x.position) × (x.position ≤ d2.position)) (λ (x : SessionModel). x.position ≡ d2.position)
          (λ x le. omega (arith, le.0, le.1, top)) zs second.positions;
      newest = All-weaker (λ (x : SessionModel). h1.seen ≤ x.rank.seen) (λ (x : SessionModel). IsNewest xs x.rank.seen)
          (λ x le. All-weaker (λ (y : SessionModel). y.rank.seen ≤ h1.seen) (λ (y : SessionModel). y.rank.seen ≤ x.rank.seen) (λ y low. omega
          (arith, low, le)) xs all) zs second.versions;
    }

-- ---- one meeting

abbrev pub Roots : Type 0
Roots = RootModel Entry Setting

abbrev pub Sits : Type 0
Sits = TurnSeatModel Entry Setting

pub greater_is : (a b n : ℕ) → n ≡ (if nat_lt a b then b else a) → (a ≤ n) × (b ≤ n) × ((top : ℕ) → a ≤ top → b ≤ top → n ≤ top)
greater_is a b n is = elim (cases_Bool (nat_lt a b)) [
  | inl t ↦ let e : n ≡ b = is ∙ ap (λ (x : Bool). if x then b else a) t in let lt = ltb-true a b t in (omega (arith, e, lt), omega (arith, e), λ top la lb. omega (arith, e, lb))
  | inr f ↦ let e : n ≡ a = is ∙ ap (λ (x : Bool). if x then b else a) f in let le = ltb-false a b f in (omega (arith, e), omega (arith, e, le), λ top la lb. omega (arith, e, la))
]

length_longer : (xs ys : List Entry) → length (longer xs ys) ≡ cond (nat_lt (length xs) (length ys)) (length ys) (length xs)
length_longer xs ys = go (nat_lt (length xs) (length ys))
  where
    go : (b : Bool) → length (cond b ys xs) ≡ cond b (length ys) (length xs)
    go true = refl
    go false = refl

module _ (root new_root : Roots) (seat new_seat : Sits) (root_is : new_root ≡ record root { seen = longer root.seen seat.seen })
    (seat_is : new_seat ≡ record seat { seen = longer root.seen seat.seen }) (same : new_seat.seen ≡ new_root.seen) (position number top : ℕ) where
  module _ (turned : ℕ) (granted : GrantedModel) (goes : GoesOn who_of new_root.seen 0 root.seen) (numbers : NoneAbove who_of new_root.made new_root.seen)
      (h : IsDriver root turned position granted) (length_is : length new_root.seen ≡ top) where
    longer_is : top ≡ position + length goes.0
    longer_is = omega (arith, length_is, ap (λ (l : List Entry). length l) goes.1, length-append root.seen goes.0, h.position_is)

    pub turned_stays : take turned new_root.seen ≡ take turned root.seen
    turned_stays = ap (take turned) goes.1 ∙ take-append-le turned root.seen goes.0 (omega (arith, h.turned_is, h.position_is))

    others_stay : NoneBy who_of 0 (drop turned new_root.seen)
    others_stay = subst (NoneBy who_of 0) (sym (ap (drop turned) goes.1 ∙ drop-append-le turned root.seen goes.0 (omega (arith, h.turned_is, h.position_is))))
        (All-append (λ e. who_of e ≢ 0) (drop turned root.seen) goes.0 h.others goes.2)

    pub driver_met : IsDriver new_root turned top granted
    driver_met = record {
      free = ap (λ (r : Roots). r.in_turn) root_is ∙ h.free;
      none_back = ap (λ (r : Roots). r.back) root_is ∙ h.none_back;
      numbers = numbers;
      position_is = length_is;
      turned_is = omega (arith, h.turned_is, longer_is);
      others = others_stay;
      seen = λ c e. subst (λ j. IsSeen c.opening j) (sym turned_stays) (h.seen c (sym (ap (λ (r : Roots). r.setting) root_is) ∙ e));
      grants = λ c e. subst (λ j. TellsGrants c.opening j granted) (sym turned_stays) (h.grants c (sym (ap (λ (r : Roots). r.setting) root_is) ∙ e));
    }

  module _ (rank new_rank : SeatModel) (left : ℕ) (receipts : List Receipt) (room : ℕ) (goes : GoesOn who_of new_seat.seen seat.number seat.seen)
      (h : IsSession seat rank number left position receipts room) (length_is : length new_seat.seen ≡ top)
      (rank_is : new_rank ≡ saw_front new_rank.seen rank) (later : rank.seen ≤ new_rank.seen) where
    own_stays : own_entries number new_seat.seen ≡ own_entries number seat.seen
    own_stays = own_same number new_seat.seen seat.seen (subst (λ n. GoesOn who_of new_seat.seen n seat.seen) h.number_is goes)

    pulls_stay : new_rank.pulls ≡ rank.pulls
    pulls_stay = ap (λ (x : SeatModel). x.pulls) rank_is

    pub session_met : IsSession new_seat new_rank number left top receipts room
    session_met = record {
      free = ap (λ (s : Sits). s.in_turn) seat_is ∙ h.free;
      number_is = ap (λ (s : Sits). s.number) seat_is ∙ h.number_is;
      position_is = length_is;
      receipts_are = h.receipts_are ∙ ap (map receipt_of) (sym own_stays);
      has_room = h.has_room;
      few = h.few;
      pass = subst (λ own. IsPass own new_rank.pulls new_rank.seen) (sym own_stays)
          (subst (λ ps. IsPass (own_entries number seat.seen) ps new_rank.seen) (sym pulls_stay) (pass_later
          (own_entries number seat.seen) rank.pulls rank.seen new_rank.seen later h.pass));
      coflow = λ c e. subst (All (λ (p : Pull). p.coflow < c.board.coflows)) (sym pulls_stay) (h.coflow c (sym (ap (λ (s : Sits). s.setting) seat_is) ∙ e));
    }

    pub session_raised : position ≤ top → IsRaised (model seat rank number left position) (model new_seat new_rank number left top)
    session_raised longer_now = record {
      rest = (λ i. record {
        gate = (seat_is i).table;
        setting = (seat_is i).setting;
        number = number;
        left = left;
        position = top;
        own = own_stays i;
        rank = record { table = (rank_is i).table; id = (rank_is i).id; seen = new_rank.seen; pulls = (rank_is i).pulls; looks = new_rank.looks };
      });
      looks = ((0, new_rank.seen) ∷ [], ap (λ (x : SeatModel). x.looks) rank_is);
      position = longer_now;
      version = later;
    }

pub length_met : (xs ys zs : List Entry) (a b n : ℕ) → zs ≡ longer xs ys → length xs ≡ a → length ys ≡ b → n ≡ (if nat_lt a b then b else a) → length zs ≡ n
length_met xs ys zs a b n is ea eb en =
    ap (λ (l : List Entry). length l) is ∙ (length_longer xs ys ∙ ((λ i. cond (nat_lt (ea i) (eb i)) (eb i) (ea i)) ∙ sym en))

-- what one meeting makes of the driver and the session
module _ (root new_root : Roots) (seat new_seat : Sits) (root_is : new_root ≡ record root { seen = longer root.seen seat.seen })
    (seat_is : new_seat ≡ record seat { seen = longer root.seen seat.seen }) (same : new_seat.seen ≡ new_root.seen) (d_rank : SeatModel) (d_left turned d_position : ℕ)
    (granted : GrantedModel)
    (rank new_rank heard new_heard : SeatModel) (number left s_position top : ℕ) (receipts : List Receipt) (room : ℕ) (d : IsDriver root turned d_position granted)
    (s : IsSession seat rank number left s_position receipts room) (root_list : GoesOn who_of new_root.seen 0 root.seen)
    (seat_list : GoesOn who_of new_seat.seen seat.number seat.seen)
    (numbers : NoneAbove who_of new_root.made new_root.seen) (top_is : top ≡ (if nat_lt d_position s_position then s_position else d_position)) where
  root_long : length new_root.seen ≡ top
  root_long = length_met root.seen seat.seen new_root.seen d_position s_position top (ap (λ (r : Roots). r.seen) root_is) d.position_is s.position_is top_is

  seat_long : length new_seat.seen ≡ top
  seat_long = ap (λ (l : List Entry). length l) same ∙ root_long

  pub driver_after : IsDriver new_root turned top granted
  driver_after = driver_met root new_root seat new_seat root_is seat_is same d_position number top turned granted root_list numbers d root_long

  module _ (rank_is : new_rank ≡ saw_front new_rank.seen rank) (later : rank.seen ≤ new_rank.seen) where
    pub session_after : IsSession new_seat new_rank number left top receipts room
    session_after = session_met root new_root seat new_seat root_is seat_is same s_position number top rank new_rank left receipts room seat_list s seat_long rank_is later

    pub one_met : new_heard.table ≡ heard.table → heard.seen ≤ new_heard.seen → rank.seen ≤ new_heard.seen → new_heard.seen ≤ new_rank.seen →
        IsMetByOne (driver_model root d_rank d_left turned d_position) (driver_model new_root d_rank d_left turned top) heard new_heard (model seat rank number left s_position)
        (model new_seat new_rank number left top)
    one_met table more heard_it told =
        let g = greater_is d_position s_position top top_is in
        let journal = turned_stays root new_root seat new_seat root_is seat_is same d_position number top turned granted root_list numbers d root_long in
        record {
          driver_is = (λ i. record {
            gate = (root_is i).table;
            setting = (root_is i).setting;
            rank = d_rank;
            made = (root_is i).made;
            left = d_left;
            journal = journal i;
            position = top;
          });
          board = table;
          raised = session_raised root new_root seat new_seat root_is seat_is same s_position number top rank new_rank left receipts room seat_list s seat_long rank_is later g.1;
          longest = (g.0, g.1);
          within = g.2;
          one = refl;
          heard_it = (more, heard_it);
          version = told;
        }

-- one more of the list was met
pub met_next : (d0 d1 d2 : DriverModel) (h0 h1 h2 : SeatModel) (xs ys : List SessionModel) (i : ℕ) (o t : SessionModel) → i < length xs → i < length ys →
    ((j : ℕ) (d : SessionModel) → i ≤ j → get_or ys j d ≡ get_or xs j d) → IsMetByEach d0 d1 h0 h1 (take i xs) (take i ys) → IsMetByOne d1 d2 h1 h2 (get_or ys i o) t →
    IsMetByEach d0 d2 h0 h2 (take (i + 1) xs) (take (i + 1) (set ys i t))
met_next d0 d1 d2 h0 h1 h2 xs ys i o t in_xs in_ys rest each one =
    let s = get_or xs i o in
    let one_s = subst (λ (x : SessionModel). IsMetByOne d1 d2 h1 h2 x t) (rest i o (omega arith)) one in
    let more = met_more d0 d1 d2 h0 h1 h2 (take i xs) (take i ys) s t each one_s in
    subst (λ l. IsMetByEach d0 d2 h0 h2 l (take (i + 1) (set ys i t))) (sym (take_more xs i o in_xs))
    (subst (λ l. IsMetByEach d0 d2 h0 h2 (take i xs ++ s ∷ []) l) (sym (take_more_set ys i t in_ys)) more)

pub rest_stays : (xs ys : List SessionModel) (i : ℕ) (t : SessionModel) → ((j : ℕ) (d : SessionModel) → i ≤ j → get_or ys j d ≡ get_or xs j d) →
    (j : ℕ) (d : SessionModel) → i + 1 ≤ j → get_or (set ys i t) j d ≡ get_or xs j d
rest_stays xs ys i t rest j d le = get_or-set_other ys i j t d (λ e. omega (arith, e, le)) ∙ rest j d (omega (arith, le))
