-- A whole service: the agents are made, serve the ports, and come back.
use Rattle.std.proofs.Common.{◌≡◌, ℕ, ◌+◌, List, [], ◌∷◌, ◌++◌, length, Option, sym, ap, subst, ◌∙◌, arith, length-append}
use Rattle.std.specs.Prelude.{All, map}
use Rattle.std.proofs.lemmas.List.{length-map}
use Rattle.std.proofs.lemmas.List.Elements.{All-cons, All-head, All-map, All-nil, All-tail, All-weaker}
use Rattle.atomic_table.specs.Seated.{TableId}
use Rattle.port_board.specs.declared.view.Came.{Came}
use Rattle.port_board.specs.declared.view.Grant.{Grant}
use Rattle.port_board.specs.declared.view.View.{View}
use Rattle.port_board.specs.Views.{came_of, Sits}
use Rattle.port_agent.specs.Attended.{AreBack, AreServed, IsFresh, IsServedBy, kept_of}

from_mapped : {X Y : Type 0} (P : Y → Type 0) (f : X → Y) (xs : List X) → All P (map f xs) → All (λ x. P (f x)) xs
from_mapped P f [] all = All-nil (λ x. P (f x))
from_mapped P f (x ∷ xs) all = All-cons (λ x. P (f x)) x xs (All-head P (f x) (map f xs) all) (from_mapped P f xs (All-tail P (f x) (map f xs) all))

abbrev Kept : Type 0
Kept = TableId × ℕ × List Grant × List Grant

abbrev IsOf : TableId → List Grant → Kept → Type 0
IsOf at posts k = (k.0 ≡ at) × (k.2 ≡ posts) × (k.3 ≡ [])

abbrev pub IsKept : TableId → List Grant → Sits → Type 0
IsKept at posts s = (s.at ≡ at) × (s.view.shown ≡ posts) × (s.view.out ≡ [])

-- a service leaves as many seats
pub same_many : (old new : List Sits) → map kept_of new ≡ map kept_of old → length new ≡ length old
same_many old new same = let e = ap (λ (l : List Kept). length l) same in omega (arith, e, length-map new kept_of, length-map old kept_of)

-- what a service leaves of the seats
pub kept_seats : (at : TableId) (posts : List Grant) (old new : List Sits) → map kept_of new ≡ map kept_of old → All (IsFresh at posts) old → All (IsKept at posts) new
kept_seats at posts old new same fresh = from_mapped (IsOf at posts) kept_of new
    (subst (All (IsOf at posts)) (sym same)
    (All-map (IsOf at posts) kept_of old (All-weaker (IsFresh at posts) (IsKept at posts) (λ s f. (f.place, f.shown, f.none_out)) old fresh)))

pub may_return : (at : TableId) (posts : List Grant) (seats : List Sits) → All (IsKept at posts) seats → All (λ (s : Sits). (s.at ≡ at) × (s.view.out ≡ [])) seats
may_return at posts seats kept = All-weaker (IsKept at posts) (λ (s : Sits). (s.at ≡ at) × (s.view.out ≡ [])) (λ s k. (k.0, k.2)) seats kept

module _ {W : Type 0} (faults : W → ℕ) (runs : W → Option (List (ℕ × ℕ × ℕ))) where
  pub served_by : (at : TableId) (v made w : View) (n : ℕ) (old new : List Sits) (ws ws' : List W) → length v.back ≡ v.made → made ≡ record v { made = v.made + n } → length old
      ≡ n →
      All (IsFresh at v.posts) old → map kept_of new ≡ map kept_of old → AreServed faults runs new 0 ws ws' → AreBack made w new → IsServedBy faults runs v w ws ws'
  served_by at v made w n old new ws ws' none is many fresh same served back =
      let kept = kept_seats at v.posts old new same fresh in
      let back_is : w.back ≡ v.back ++ map (λ (s : Sits). came_of s.view) new = back.back ∙ ap (λ (x : View). x.back ++ map (λ (s : Sits). came_of s.view) new) is in
      let as_many = ap (λ (l : List Kept). length l) same in
      let news = length-map new kept_of in
      let olds = length-map old kept_of in
      let comes = length-map new (λ (s : Sits). came_of s.view) in
      let long = length-append v.back (map (λ (s : Sits). came_of s.view) new) in
      let whole = ap (λ (l : List Came). length l) back_is in
      let made_is : w.made ≡ v.made + n = back.made ∙ ap (λ (x : View). x.made) is in record {
        posts = back.posts ∙ ap (λ (x : View). x.posts) is;
        settled = back.settled ∙ ap (λ (x : View). x.settled) is;
        none_out = omega arith;
        posted = back.posted;
        apart = back.apart;
        seats = new;
        back = back_is;
        shown = All-weaker (IsKept at v.posts) (λ (s : Sits). s.view.shown ≡ v.posts) (λ s k. k.1) new kept;
        none_held = All-weaker (IsKept at v.posts) (λ (s : Sits). s.view.out ≡ []) (λ s k. k.2) new kept;
        served = served;
      }
