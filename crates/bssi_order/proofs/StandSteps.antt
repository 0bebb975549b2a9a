-- A program that chooses places over a table makes the ordering certificate of the instance.
use Rattle.std.proofs.Common.{◌≡◌, ◌≢◌, ℕ, ◌+◌, ◌-◌, ◌*◌, ◌/◌, ◌<◌, ◌≤◌, ◌⊎◌, inl, inr, Bool, true, false, cond, List, [], ◌∷◌, ◌++◌, length, drop, get_or, Contains}
use Rattle.std.proofs.Common.{refl, sym, ap, subst, ◌∙◌, arith, zero, suc, length-set, true≢false}
use Rattle.std.specs.Prelude.{All, count_by, map, reverse, sum_by, slice_index, slice_set}
use Rattle.std.specs.List.{range_with_len}
use Rattle.std.proofs.lemmas.Bool.{cases_Bool, cases_eq}
use Rattle.std.proofs.lemmas.List.{drop_all, drop-set, get_or-reverse, get_or-set_same, get_or-set_other, length-reverse, map-append, reverse-append}
use Rattle.std.proofs.lemmas.List.Sums.{sum_by-cons, sum_by-set}
use Rattle.std.proofs.lemmas.List.Elements.{All-cons, All-nil}
use Rattle.coflow_units.specs.declared.fabric.Flow.{Flow}
use Rattle.coflow_units.specs.declared.fabric.Port.{Port}
use Rattle.coflow_units.specs.declared.plan.Place.{Place}
use Rattle.coflow_units.specs.Flows.{Instance, IsDistinct}
use Rattle.coflow_units.specs.Load.{load, load_of_all}
use Rattle.coflow_units.specs.Certificate.{Entry, budget, entry_of, front, rest, used}
use Rattle.coflow_units.specs.Ordering.{IsFirstGreatest, IsPlaced, IsPlacedBusy, port_place, residual, spent}
use Rattle.coflow_units.proofs.Sums.{Apart, apart_from_pairs, in_first, in_tail, members_at_most, pairs_from_apart, same_members, sum_mono, sum_same}
use Rattle.coflow_units.proofs.Ranges.{in_range}
use Rattle.coflow_units.proofs.Lists.{keeps}
use Rattle.coflow_units.proofs.CertificateSteps.{used_in, used_outside}
use Rattle.port_load.specs.LoadTable.{DropsCoflow, IsSameSize, LoadTable, is_present, load_at, total_at}
use Rattle.port_load.proofs.Grid.{below_in, range_apart}
use Rattle.bssi_order.specs.Order.{IsOrder, TellsFrontLoads}
use Rattle.bssi_order.specs.Step.{IsChosen, IsGreatestPort, IsLeastRatio, IsReady, Pays, Stands}
use Rattle.coflow_units.proofs.BestOf.{without, without_apart, without_in, without_keeps, without_out}
use Rattle.coflow_units.proofs.OrderingLaws.{spent_more}
use Rattle.bssi_order.proofs.OrderingSteps.{IsPlacedSoFar, after, made_of, ordering_made, place_more}
use Rattle.bssi_order.proofs.TableSteps.{present_below}

-- ---- one place

-- the total of a port is the load of the coflows that wait
waits_where : (t : LoadTable) (residuals : List ℕ) (waiting : List Bool) → IsReady t residuals waiting → (c : ℕ) (port : Port) → c < t.coflows → port.number < t.ports →
    0 < load_at t c port → is_present waiting c ≡ true
waits_where t residuals waiting ready c port lc lp some = elim (cases_Bool (is_present waiting c)) [
  | inl here ↦ here
  | inr out ↦ absurd (omega (arith, some, ready.loads_wait c port lc lp out))
]

pub left_total : (i : Instance) (later : List Entry) (left : List ℕ) (t : LoadTable) (residuals : List ℕ) (waiting : List Bool) → IsReady t residuals waiting →
    Stands i later left t residuals waiting →
    (port : Port) → port.number < t.ports → total_at t port ≡ load_of_all i.flows left port
left_total i later left t residuals waiting ready stands port lp =
    let w = λ (c : ℕ). load_at t c port in
    let up = members_at_most w (range_with_len 0 t.coflows) left (range_apart t.coflows)
    (λ c has some. stands.all c (in_range t.coflows c has) (waits_where t residuals waiting ready c port (in_range t.coflows c has) lp some)) in
    let down = members_at_most w left (range_with_len 0 t.coflows) (apart_from_pairs left stands.distinct) (λ c has some. below_in t.coflows c (stands.members c has).0) in
    let same = sum_same w (λ c. load i.flows c port) left (λ c has. stands.load c port has lp) in
    omega (arith, up, down, same)

pub first_greatest : (i : Instance) (left : List ℕ) (t : LoadTable) (port : Port) → i.ports ≡ t.ports →
    ((p : Port) → p.number < t.ports → total_at t p ≡ load_of_all i.flows left p) →
    IsGreatestPort t port → IsFirstGreatest i.flows i.ports left port
first_greatest i left t port ports totals first = record {
  in_range = subst (λ n. port.number < n) (sym ports) first.in_range;
  greatest = λ other lt.
      let lt' : other.number < t.ports = subst (λ n. other.number < n) ports lt in
      elim (first.greatest other lt') [
        | inl less ↦ inl (omega (arith, less, totals other lt', totals port first.in_range))
        | inr same ↦ inr (omega (arith, same.0, totals other lt', totals port first.in_range), subst (λ n. port_place n port ≤ port_place n other) (sym ports) same.1)
      ];
}

ratio_along : (rc rc' ld ld' rd rd' lc lc' d c : ℕ) → rc ≡ rc' → ld ≡ ld' → rd ≡ rd' → lc ≡ lc' → (rc * ld < rd * lc) ⊎ ((rc * ld ≡ rd * lc) × (d ≤ c)) →
    (rc' * ld' < rd' * lc') ⊎ ((rc' * ld' ≡ rd' * lc') × (d ≤ c))
ratio_along rc rc' ld ld' rd rd' lc lc' d c e f g h ratio =
    subst (λ n. (n * ld' < rd' * lc') ⊎ ((n * ld' ≡ rd' * lc') × (d ≤ c))) e
    (subst (λ n. (rc * n < rd' * lc') ⊎ ((rc * n ≡ rd' * lc') × (d ≤ c))) f
    (subst (λ n. (rc * ld < n * lc') ⊎ ((rc * ld ≡ n * lc') × (d ≤ c))) g
    (subst (λ n. (rc * ld < rd * n) ⊎ ((rc * ld ≡ rd * n) × (d ≤ c))) h ratio)))

pub chosen_in : (i : Instance) (later : List Entry) (left : List ℕ) (t : LoadTable) (residuals : List ℕ) (waiting : List Bool) (x : Place) → IsReady t residuals waiting →
    Stands i later left t residuals waiting →
    IsChosen t residuals waiting x → Contains left x.coflow
chosen_in i later left t residuals waiting x ready stands chosen = stands.all x.coflow (omega (arith, present_below waiting x.coflow chosen.waits, ready.waiting_len)) chosen.waits

pub placed_busy : (i : Instance) (later : List Entry) (left : List ℕ) (t : LoadTable) (residuals : List ℕ) (waiting : List Bool) (x : Entry) →
    Stands i later left t residuals waiting →
    Contains left x.coflow → x.port.number < t.ports →
    IsLeastRatio t residuals x.port x.coflow → x.y ≡ slice_index residuals x.coflow / load_at t x.coflow x.port → IsPlacedBusy i.flows i.weight later left x
placed_busy i later left t residuals waiting x stands has lp least y_is =
    let own = stands.load x.coflow x.port has lp in
    let kept = stands.residual x.coflow has in
    record {
      has_load = subst (λ n. 0 < n) own least.has_load;
      least = λ d in' some.
          let theirs = stands.load d x.port in' lp in
          ratio_along (slice_index residuals x.coflow) (residual i.flows i.weight later x.coflow) (load_at t d x.port) (load i.flows d x.port) (slice_index residuals d)
          (residual i.flows i.weight later d)
          (load_at t x.coflow x.port) (load i.flows x.coflow x.port) d x.coflow kept theirs (stands.residual d in') own
          (least.least d (stands.members d in').0 (subst (λ n. 0 < n) (sym theirs) some));
      y_is = y_is ∙ ap (λ n. n / load_at t x.coflow x.port) kept ∙ ap (λ n. residual i.flows i.weight later x.coflow / n) own;
    }

pub is_placed : (i : Instance) (later : List Entry) (left : List ℕ) (t : LoadTable) (residuals : List ℕ) (waiting : List Bool) (x : Place) → IsReady t residuals waiting →
    Stands i later left t residuals waiting →
    IsChosen t residuals waiting x → IsPlaced i.flows i.weight i.ports later left (entry_of x)
is_placed i later left t residuals waiting x ready stands chosen =
    let has = chosen_in i later left t residuals waiting x ready stands chosen in
    let total = left_total i later left t residuals waiting ready stands in
    let here = total x.port chosen.port.in_range in
    record {
      port = first_greatest i left t x.port stands.ports total chosen.port;
      idle = λ none.
          let none' : total_at t x.port ≡ 0 = here ∙ none in
          record { greatest = λ d in'. (chosen.idle_coflow none').greatest d (stands.members d in').1; y_is = chosen.idle_y none' };
      busy = λ some.
          let some' = subst (λ n. 0 < n) (sym here) some in
          placed_busy i later left t residuals waiting (entry_of x) stands has chosen.port.in_range (chosen.busy_coflow some') (chosen.busy_y some');
    }

-- ---- after one place

marked_then : (waiting : List Bool) (a c : ℕ) → a < length waiting → is_present (slice_set waiting a false) c ≡ true → (c ≢ a) × (is_present waiting c ≡ true)
marked_then waiting a c lt mark = elim (cases_eq c a) [
  | inl e ↦ absurd (true≢false (sym mark ∙ ap (is_present (slice_set waiting a false)) e ∙ get_or-set_same waiting a false false lt))
  | inr ne ↦ (ne, sym (get_or-set_other waiting a c false false ne) ∙ mark)
]

left_pays : (r r' b s s' y l l' : ℕ) → r' ≡ r - y * l → r ≡ b - s → l ≡ l' → s' ≡ y * l' + s → r' ≡ b - s'
left_pays r r' b s s' y l l' a c d e = omega (arith, a, c, e, ap (λ n. y * n) d)

pub stands_more : (i : Instance) (later : List Entry) (left : List ℕ) (t t' : LoadTable) (residuals residuals' : List ℕ) (waiting : List Bool) (e : Entry) →
    Stands i later left t residuals waiting → is_present waiting e.coflow ≡ true → e.port.number < t.ports → Pays t e.port e.y residuals residuals' → DropsCoflow t t' e.coflow →
    Stands i (e ∷ later) (without e.coflow left) t' residuals' (slice_set waiting e.coflow false)
stands_more i later left t t' residuals residuals' waiting e stands waits lp pays drops =
    let apart = apart_from_pairs left stands.distinct in
    let lt = present_below waiting e.coflow waits in
    let was = λ (c : ℕ) (has : Contains (without e.coflow left) c). without_in e.coflow left c has in
    let other = λ (c : ℕ) (has : Contains (without e.coflow left) c) (is : c ≡ e.coflow). without_out e.coflow left apart
    (subst (λ k. Contains (without e.coflow left) k) is has) in
    record {
      ports = stands.ports ∙ sym drops.size.ports;
      distinct = pairs_from_apart (without e.coflow left) (without_apart e.coflow left apart);
      members = λ c has. (
        subst (λ n. c < n) (sym drops.size.coflows) (stands.members c (was c has)).0,
        get_or-set_other waiting e.coflow c false false (other c has) ∙
            (stands.members c (was c has)).1,
      );
      all = λ c lc mark.
          let (ne, here) = marked_then waiting e.coflow c lt mark in
          without_keeps e.coflow left c (λ is. ne (sym is)) (stands.all c (subst (λ n. c < n) drops.size.coflows lc) here);
      load = λ c port has lp'.
          let lp'' = subst (λ n. port.number < n) drops.size.ports lp' in
          drops.others c port (stands.members c (was c has)).0 (other c has) lp'' ∙ stands.load c port (was c has) lp'';
      residual = λ c has.
          left_pays (slice_index residuals c) (slice_index residuals' c) (budget i.weight c) (spent i.flows later c) (spent i.flows (e ∷ later) c) e.y (load_at t c e.port)
          (load i.flows c e.port)
          (pays c (stands.members c (was c has)).0) (stands.residual c (was c has)) (stands.load c e.port (was c has) lp)
          (spent_more i.flows e later c);
    }

less_load : (t t' : LoadTable) (coflow : ℕ) → DropsCoflow t t' coflow → (c : ℕ) (port : Port) → c < t.coflows → port.number < t.ports → load_at t' c port ≤ load_at t c port
less_load t t' coflow drops c port lc lp = elim (cases_eq c coflow) [
  | inl e ↦ omega (arith, ap (λ k. load_at t' k port) e, drops.gone port lp)
  | inr ne ↦ omega (arith, drops.others c port lc ne lp)
]

pub less_total : (t t' : LoadTable) (coflow : ℕ) → DropsCoflow t t' coflow → (port : Port) → port.number < t.ports → total_at t' port ≤ total_at t port
less_total t t' coflow drops port lp =
    omega (
      arith,
      ap (λ n. sum_by (λ c. load_at t' c port) (range_with_len 0 n)) drops.size.coflows,
      sum_mono (λ c. load_at t' c port) (λ c. load_at t c port) (range_with_len 0 t.coflows) (λ c has. less_load t t' coflow drops c port (in_range t.coflows c has) lp),
    )

pub ready_more : (t t' : LoadTable) (residuals residuals' : List ℕ) (waiting : List Bool) (e : Entry) → IsReady t residuals waiting →
    Pays t e.port e.y residuals residuals' → length residuals' ≡ length residuals →
    DropsCoflow t t' e.coflow → IsReady t' residuals' (slice_set waiting e.coflow false)
ready_more t t' residuals residuals' waiting e ready pays len drops = record {
  coflows_limit = omega (arith, ready.coflows_limit, drops.size.coflows);
  residuals_len = len ∙ ready.residuals_len ∙ sym drops.size.coflows;
  waiting_len = length-set waiting e.coflow false ∙ ready.waiting_len ∙ sym drops.size.coflows;
  residuals_fit = λ c lc.
      let lc' = subst (λ n. c < n) drops.size.coflows lc in
      omega (arith, pays c lc', ready.residuals_fit c lc');
  totals_fit = λ port lp.
      let lp' = subst (λ n. port.number < n) drops.size.ports lp in
      omega (arith, less_total t t' e.coflow drops port lp', ready.totals_fit port lp');
  loads_wait = λ c port lc lp out.
      let lc' = subst (λ n. c < n) drops.size.coflows lc in
      let lp' = subst (λ n. port.number < n) drops.size.ports lp in
      elim (cases_eq c e.coflow) [
        | inl is ↦ ap (λ k. load_at t' k port) is ∙ drops.gone port lp'
        | inr ne ↦ drops.others c port lc' ne lp' ∙ ready.loads_wait c port lc' lp' (sym (get_or-set_other waiting e.coflow c false false ne) ∙ out)
      ];
}

pub one_less : (waiting : List Bool) (c n : ℕ) → is_present waiting c ≡ true → count_by (λ w. w) waiting ≡ n + 1 → count_by (λ w. w) (slice_set waiting c false) ≡ n
one_less waiting c n here count =
    omega (arith, count, sum_by-set (λ w. cond w 1 0) waiting c false false (present_below waiting c here), ap {B = ℕ} (λ w. cond w 1 0) here)

-- ---- all places so far

-- what each place tells, from the last place on
abbrev pub IsToldSoFar : List Flow → (ℕ → ℕ) → List Entry → List ℕ → List Place → Type 0
IsToldSoFar flows weight later coflows [] = Unit {0}
IsToldSoFar flows weight later coflows (x ∷ l) =
    (x.rest ≡ residual flows weight later x.coflow - x.y * load flows x.coflow x.port) × (x.load ≡ load_of_all flows coflows x.port) ×
    IsToldSoFar flows weight (entry_of x ∷ later) (without x.coflow coflows) l

told_more : (flows : List Flow) (weight : ℕ → ℕ) (ports : ℕ) (later : List Entry) (coflows : List ℕ) (l : List Place) (left : List ℕ) (x : Place) →
    IsPlacedSoFar flows weight ports later coflows (map entry_of l) left → IsToldSoFar flows weight later coflows l →
    x.rest ≡ residual flows weight (after (map entry_of l) later) x.coflow - x.y * load flows x.coflow x.port → x.load ≡ load_of_all flows left x.port →
    IsToldSoFar flows weight later coflows (l ++ x ∷ [])
told_more flows weight ports later coflows [] left x placed told rest_is load_is = (rest_is, load_is ∙ ap (λ cs. load_of_all flows cs x.port) (sym placed), tt)
told_more flows weight ports later coflows (y ∷ l) left x placed told rest_is load_is =
    (told.0, told.1, told_more flows weight ports (entry_of y ∷ later) (without y.coflow coflows) l left x placed.2 told.2 rest_is load_is)

pub after_more : (l : List Entry) (e : Entry) (later : List Entry) → after (l ++ e ∷ []) later ≡ e ∷ after l later
after_more [] e later = refl
after_more (x ∷ l) e later = after_more l e (x ∷ later)

pub record RunSoFar (i : Instance) (l : List Place) (t : LoadTable) (residuals : List ℕ) (waiting : List Bool) : Type 0 where
  pub left : List ℕ
  pub placed : IsPlacedSoFar i.flows i.weight i.ports [] i.coflows (map entry_of l) left
  pub told : IsToldSoFar i.flows i.weight [] i.coflows l
  pub stands : Stands i (after (map entry_of l) []) left t residuals waiting

pub run_more : (i : Instance) (l : List Place) (t t' : LoadTable) (residuals residuals' : List ℕ) (waiting : List Bool) (x : Place) → IsReady t residuals waiting →
    RunSoFar i l t residuals waiting →
    IsChosen t residuals waiting x → Pays t x.port x.y residuals residuals' → DropsCoflow t t' x.coflow → RunSoFar i (l ++ x ∷ []) t' residuals' (slice_set waiting x.coflow false)
run_more i l t t' residuals residuals' waiting x ready so_far chosen pays drops =
    let later = after (map entry_of l) [] in
    let has = chosen_in i later so_far.left t residuals waiting x ready so_far.stands chosen in
    let placed = place_more i.flows i.weight i.ports [] i.coflows (map entry_of l) so_far.left (entry_of x) so_far.placed has
    (is_placed i later so_far.left t residuals waiting x ready so_far.stands chosen) in
    let names = map-append entry_of l (x ∷ []) in
    let stands = stands_more i later so_far.left t t' residuals residuals' waiting (entry_of x) so_far.stands chosen.waits chosen.port.in_range pays drops in
    let rest_is = chosen.rest ∙ ap (λ n. n - x.y * load_at t x.coflow x.port) (so_far.stands.residual x.coflow has) ∙
    ap (λ n. residual i.flows i.weight later x.coflow - x.y * n) (so_far.stands.load x.coflow x.port has chosen.port.in_range) in
    let load_is = chosen.load ∙ left_total i later so_far.left t residuals waiting ready so_far.stands x.port chosen.port.in_range in
    record {
      left = without x.coflow so_far.left;
      placed = subst (λ es. IsPlacedSoFar i.flows i.weight i.ports [] i.coflows es (without x.coflow so_far.left)) (sym names) placed;
      told = told_more i.flows i.weight i.ports [] i.coflows l so_far.left x so_far.placed so_far.told rest_is load_is;
      stands = subst (λ es. Stands i es (without x.coflow so_far.left) t' residuals' (slice_set waiting x.coflow false))
          (sym (ap (λ es. after es []) names ∙ after_more (map entry_of l) (entry_of x) [])) stands;
    }

-- ---- when none is left

marked_counts : (xs : List Bool) (c : ℕ) → is_present xs c ≡ true → 0 < count_by (λ w. w) xs
marked_counts [] c here = absurd (true≢false (sym here))
marked_counts (x ∷ xs) zero here = omega (arith, sum_by-cons (λ w. cond w 1 0) x xs, ap {B = ℕ} (λ w. cond w 1 0) here)
marked_counts (x ∷ xs) (suc c) here = omega (arith, sum_by-cons (λ w. cond w 1 0) x xs, marked_counts xs c here)

pub none_left : (left : List ℕ) (waiting : List Bool) → ((c : ℕ) → Contains left c → is_present waiting c ≡ true) → count_by (λ w. w) waiting ≡ 0 → left ≡ []
none_left [] waiting marked none = refl
none_left (x ∷ xs) waiting marked none = absurd (omega (arith, none, marked_counts waiting x (marked x (in_first x xs))))

own_rest : (whole s own before b y l keeps : ℕ) → whole ≡ s + own → own ≡ y * l + before → before ≡ 0 → keeps ≡ b - s - y * l → keeps ≡ b - whole
own_rest whole s own before b y l keeps e f g h = omega (arith, e, f, g, h)

rests_told : (flows : List Flow) (weight : ℕ → ℕ) (whole later : List Entry) (coflows : List ℕ) (l : List Place) → IsToldSoFar flows weight later coflows l →
    Apart (front (map entry_of l)) →
    ((c : ℕ) → Contains (front (map entry_of l)) c → used flows whole c ≡ spent flows later c + used flows (map entry_of l) c) →
    All (λ (x : Place). x.rest ≡ rest flows weight whole x.coflow) l
rests_told flows weight whole later coflows [] told apart pays = All-nil (λ (x : Place). x.rest ≡ rest flows weight whole x.coflow)
rests_told flows weight whole later coflows (x ∷ l) told apart pays =
    let before = map entry_of l in
    let c = x.coflow in
    let here = own_rest (used flows whole c) (spent flows later c) (used flows (entry_of x ∷ before) c) (used flows before c) (budget weight c) x.y (load flows c x.port) x.rest
    (pays c (in_first c (front before))) (used_in flows (entry_of x) before c (in_first c (front before))) (used_outside flows before c apart.0) told.0 in
    All-cons (λ (y : Place). y.rest ≡ rest flows weight whole y.coflow) x l here
    (rests_told flows weight whole (entry_of x ∷ later) (without c coflows) l told.2 apart.1
    (λ k has. omega (arith, pays k (in_tail c (front before) k has), used_in flows (entry_of x) before k (in_tail c (front before) k has), spent_more flows (entry_of x) later k)))

loads_told : (flows : List Flow) (weight : ℕ → ℕ) (ports : ℕ) (later : List Entry) (coflows : List ℕ) (l : List Place) →
    IsPlacedSoFar flows weight ports later coflows (map entry_of l) [] → Apart coflows → IsToldSoFar flows weight later coflows l →
    TellsFrontLoads flows l
loads_told flows weight ports later coflows [] placed apart told = tt
loads_told flows weight ports later coflows (x ∷ l) placed apart told =
    let made = made_of flows weight ports later coflows (map entry_of (x ∷ l)) apart placed in (
      told.1 ∙ same_members (λ c. load flows c x.port) coflows (front (map entry_of (x ∷ l))) apart made.apart made.from made.to,
      loads_told flows weight ports (entry_of x ∷ later) (without x.coflow coflows) l placed.2 (without_apart x.coflow coflows apart) told.2,
    )

pub all_along : {X : Type 0} (P : X → Type 0) (xs : List X) → All P (reverse xs) → All P xs
all_along P xs all k d lt =
    let j = length xs - 1 - k in
    let in' : j < length (reverse xs) = omega (arith, length-reverse xs) in
    let back : length xs - 1 - j ≡ k = omega arith in
    subst P (get_or-reverse xs j d (omega arith) ∙ ap (λ n. get_or xs n d) back) (all j d in')

pub order_of_run : (i : Instance) (places : List Place) (t : LoadTable) (residuals : List ℕ) (waiting : List Bool) → IsDistinct i.coflows →
    RunSoFar i (reverse places) t residuals waiting → count_by (λ w. w) waiting ≡ 0 → IsOrder i places
order_of_run i places t residuals waiting distinct run none =
    let apart = apart_from_pairs i.coflows distinct in
    let l = reverse places in
    let empty = none_left run.left waiting (λ c has. (run.stands.members c has).1) none in
    let placed = subst (λ cs. IsPlacedSoFar i.flows i.weight i.ports [] i.coflows (map entry_of l) cs) empty run.placed in
    let made = made_of i.flows i.weight i.ports [] i.coflows (map entry_of l) apart placed in
    record {
      ordering = ordering_made i (map entry_of l) apart placed;
      rest = all_along (λ (x : Place). x.rest ≡ rest i.flows i.weight (map entry_of l) x.coflow) places
          (rests_told i.flows i.weight (map entry_of l) [] i.coflows l run.told made.apart (λ c has. omega arith));
      load = loads_told i.flows i.weight i.ports [] i.coflows l placed apart run.told;
    }

-- ---- the places of a loop that fills them from the last on

pub record PlacesSoFar (t₀ t : LoadTable) (residuals₀ residuals : List ℕ) (waiting₀ waiting : List Bool) (places : List Place) (number : ℕ) : Type 0 where
  pub size : IsSameSize t₀ t
  pub ready : IsReady t residuals waiting
  pub waits : count_by (λ w. w) waiting ≡ number
  pub run : (i : Instance) → Stands i [] i.coflows t₀ residuals₀ waiting₀ → RunSoFar i (reverse (drop number places)) t residuals waiting

pub places_none : (t : LoadTable) (residuals : List ℕ) (waiting : List Bool) (places : List Place) → IsReady t residuals waiting → length places ≡ count_by (λ w. w) waiting →
    PlacesSoFar t t residuals residuals waiting waiting places (length places)
places_none t residuals waiting places ready count = record {
  size = record { coflows = refl; ports = refl };
  ready = ready;
  waits = sym count;
  run = λ i stands. subst (λ ps. RunSoFar i (reverse ps) t residuals waiting) (sym (drop_all (length places) places (omega arith))) record {
    left = i.coflows;
    placed = refl;
    told = tt;
    stands = stands;
  };
}

pub places_more : (t₀ t t' : LoadTable) (residuals₀ residuals residuals' : List ℕ) (waiting₀ waiting waiting' : List Bool) (places : List Place) (number : ℕ) (x : Place) →
    PlacesSoFar t₀ t residuals₀ residuals waiting₀ waiting places (number + 1) → number < length places → IsChosen t residuals waiting x → Pays t x.port x.y residuals residuals' →
    length residuals' ≡ length residuals →
    waiting' ≡ slice_set waiting x.coflow false → DropsCoflow t t' x.coflow → PlacesSoFar t₀ t' residuals₀ residuals' waiting₀ waiting' (slice_set places number x) number
places_more t₀ t t' residuals₀ residuals residuals' waiting₀ waiting waiting' places number x so_far lt chosen pays len marks drops =
    subst (λ w. PlacesSoFar t₀ t' residuals₀ residuals' waiting₀ w (slice_set places number x) number) (sym marks) record {
      size = record { coflows = drops.size.coflows ∙ so_far.size.coflows; ports = drops.size.ports ∙ so_far.size.ports };
      ready = ready_more t t' residuals residuals' waiting (entry_of x) so_far.ready pays len drops;
      waits = one_less waiting x.coflow number chosen.waits so_far.waits;
      run = λ i stands.
          let more = run_more i (reverse (drop (number + 1) places)) t t' residuals residuals' waiting x so_far.ready (so_far.run i stands) chosen pays drops in
          let turned : reverse (drop number (slice_set places number x)) ≡ reverse (drop (number + 1) places) ++ x ∷ [] = ap reverse (drop-set places number x lt) ∙
          reverse-append (x ∷ []) (drop (number + 1) places) in
          subst (λ l. RunSoFar i l t' residuals' (slice_set waiting x.coflow false)) (sym turned) more;
    }

pub order_of_places : (i : Instance) (t₀ t : LoadTable) (residuals₀ residuals : List ℕ) (waiting₀ waiting : List Bool) (places : List Place) →
    PlacesSoFar t₀ t residuals₀ residuals waiting₀ waiting places 0 → Stands i [] i.coflows t₀ residuals₀ waiting₀ → IsOrder i places
order_of_places i t₀ t residuals₀ residuals waiting₀ waiting places so_far stands = order_of_run i places t residuals waiting stands.distinct (so_far.run i stands) so_far.waits
