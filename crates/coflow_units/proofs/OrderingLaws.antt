-- The ordering certificate is feasible, its rests are below the loads, and there is one alone.
use Rattle.std.proofs.Common.{◌≡◌, ℕ, ◌+◌, ◌-◌, ◌*◌, ◌/◌, ◌≤◌, ◌<◌, ◌⊎◌, inl, inr, List, [], ◌∷◌, Contains, refl, sym, ap, subst, ◌∙◌, arith}
use Rattle.std.specs.Prelude.{◌==◌}
use Rattle.std.proofs.Math.Nat.{mul-le-mul_right, le_of_mul-le-mul_right}
use Rattle.std.specs.List.{list_any}
use Rattle.std.proofs.lemmas.Bool.{cases_Bool, both_ways}
use Rattle.std.proofs.lemmas.List.Sums.{sum_by-cons}
use Rattle.std.proofs.lemmas.List.Elements.{All-contains}
use Rattle.coflow_units.specs.declared.fabric.Flow.{Flow}
use Rattle.coflow_units.specs.declared.fabric.Port.{Port}
use Rattle.coflow_units.specs.declared.fabric.Side.{Side}
use Rattle.coflow_units.specs.declared.fabric.Side.TheVariants.{Ingress, Egress}
use Rattle.coflow_units.specs.Flows.{Instance}
use Rattle.coflow_units.specs.Load.{load, load_of_all}
use Rattle.coflow_units.specs.Certificate.{budget, IsBelowLoads, Entry, front, used, rest, IsFeasible, TakesGreatestPorts}
use Rattle.coflow_units.specs.Ordering.{IsFirstGreatest, port_place, port_place_on, spent, residual, IsPlacedBusy, IsPlaced, IsOrdered, IsOrdering}
use Rattle.coflow_units.proofs.Sums.{Apart, any_has, any_in, apart_from_pairs, first_or_tail, in_first, in_tail, nothing_in, same_members}
use Rattle.coflow_units.proofs.CertificateSteps.{used_in, used_outside}
use Rattle.coflow_units.proofs.Numbers.{floor_above, floor_within, zero_or_more}

-- each port takes the greatest load of its front
greatest_of : (flows : List Flow) (ports : ℕ) (coflows : List ℕ) (port : Port) → IsFirstGreatest flows ports coflows port → (other : Port) → other.number < ports →
    load_of_all flows coflows other ≤ load_of_all flows coflows port
greatest_of flows ports coflows port first other lt = elim (first.greatest other lt) [
  | inl less ↦ omega arith
  | inr same ↦ omega (arith, same.0)
]

pub takes_greatest : (flows : List Flow) (weight : ℕ → ℕ) (ports : ℕ) (later entries : List Entry) → IsOrdered flows weight ports later entries →
    TakesGreatestPorts flows ports entries
takes_greatest flows weight ports later [] ordered = tt
takes_greatest flows weight ports later (e ∷ before) ordered =
    (greatest_of flows ports (front (e ∷ before)) e.port ordered.0.port, takes_greatest flows weight ports (e ∷ later) before ordered.1)

-- y times the load of a coflow not placed is within its residual: numbers
pub within_ratio : (y rc lc rd ld : ℕ) → 0 < lc → y * lc ≤ rc → rc * ld ≤ rd * lc → y * ld ≤ rd
within_ratio y rc lc rd ld some own ratio = le_of_mul-le-mul_right {k = lc} (omega (arith, mul-le-mul_right ld own, ratio)) some

pay_within : (flows : List Flow) (weight : ℕ → ℕ) (ports : ℕ) (later : List Entry) (coflows : List ℕ) (e : Entry) → IsPlaced flows weight ports later coflows e →
    (d : ℕ) → Contains coflows d → e.y * load flows d e.port ≤ residual flows weight later d
pay_within flows weight ports later coflows e placed d has = elim (zero_or_more (load_of_all flows coflows e.port)) [
  | inl none ↦ omega (arith, ap (λ n. n * load flows d e.port) (placed.idle none).y_is)
  | inr some ↦
      let busy = placed.busy some in
      elim (zero_or_more (load flows d e.port)) [
        | inl zero_load ↦ omega (arith, ap (λ n. e.y * n) zero_load)
        | inr has_load ↦ within_ratio e.y (residual flows weight later e.coflow) (load flows e.coflow e.port) (residual flows weight later d) (load flows d e.port) busy.has_load
            (omega (arith, ap (λ n. n * load flows e.coflow e.port) busy.y_is, floor_within (residual flows weight later e.coflow) (load flows e.coflow e.port)))
            (elim (busy.least d has has_load) [
              | inl less ↦ omega arith
              | inr same ↦ omega (arith, same.0)
            ])
      ]
]

-- what a coflow has spent after one more place
pub spent_more : (flows : List Flow) (e : Entry) (later : List Entry) (c : ℕ) → spent flows (e ∷ later) c ≡ e.y * load flows c e.port + spent flows later c
spent_more flows e later c = sum_by-cons (λ (x : Entry). x.y * load flows c x.port) e later

after_one : (s pay before b : ℕ) → s ≡ pay + before → pay ≤ b - before → before ≤ b → s ≤ b
after_one s pay before b is le fits = omega arith

-- never below nought: with what is spent already, no coflow pays more than its budget
pub used_within : (flows : List Flow) (weight : ℕ → ℕ) (ports : ℕ) (later entries : List Entry) → IsOrdered flows weight ports later entries → Apart (front entries) →
    ((c : ℕ) → Contains (front entries) c → spent flows later c ≤ budget weight c) →
    (c : ℕ) → Contains (front entries) c → spent flows later c + used flows entries c ≤ budget weight c
used_within flows weight ports later [] ordered apart fits c has = absurd (nothing_in c has)
used_within flows weight ports later (e ∷ before) ordered apart fits c has =
    let pays = λ (d : ℕ) (in' : Contains (front (e ∷ before)) d). pay_within flows weight ports later (front (e ∷ before)) e ordered.0 d in' in
    let own = used_in flows e before c has in
    elim (first_or_tail e.coflow (front before) c has) [
      | inl same ↦
          let none : used flows before c ≡ 0 = used_outside flows before c (λ h. apart.0 (subst (λ n. Contains (front before) n) (sym same) h)) in
          omega (arith, own, none, pays c has, fits c has)
      | inr in' ↦
          let fits' = λ (d : ℕ) (h : Contains (front before) d). after_one (spent flows (e ∷ later) d) (e.y * load flows d e.port) (spent flows later d) (budget weight d)
          (spent_more flows e later d) (pays d (in_tail e.coflow (front before) d h)) (fits d (in_tail e.coflow (front before) d h)) in
          omega (arith, own, spent_more flows e later c, used_within flows weight ports (e ∷ later) before ordered.1 apart.1 fits' c in')
    ]

pub ordering_feasible : (i : Instance) (entries : List Entry) → IsOrdering i entries → IsFeasible i.flows i.weight entries
ordering_feasible i entries ordering c = elim (cases_Bool (list_any (λ x. x == c) (front entries))) [
  | inl t ↦ omega (
    arith,
    used_within i.flows i.weight i.ports [] entries ordering.ordered (apart_from_pairs (front entries) ordering.certificate.once) (λ d h. omega arith) c
        (any_has (front entries) c t),
  )
  | inr t ↦ omega (arith, used_outside i.flows entries c (λ has. both_ways (list_any (λ x. x == c) (front entries)) t (any_in (front entries) c has)))
]

-- ---- the rests

rest_here : (flows : List Flow) (weight : ℕ → ℕ) (ports : ℕ) (later : List Entry) (coflows : List ℕ) (e : Entry) → IsPlaced flows weight ports later coflows e →
    0 < load_of_all flows coflows e.port →
    residual flows weight later e.coflow < e.y * load flows e.coflow e.port + load flows e.coflow e.port
rest_here flows weight ports later coflows e placed some =
    let busy = placed.busy some in
    omega (arith, ap (λ n. n * load flows e.coflow e.port) busy.y_is, floor_above (residual flows weight later e.coflow) (load flows e.coflow e.port) busy.has_load)

rest_from : (b u s v pay w l : ℕ) → u ≡ s + v → v ≡ pay + w → w ≡ 0 → 0 < l → b - s < pay + l → b - u < l
rest_from b u s v pay w l a c d some lt = omega arith

rests_below : (flows : List Flow) (weight : ℕ → ℕ) (ports : ℕ) (whole later entries : List Entry) → IsOrdered flows weight ports later entries → Apart (front entries) →
    ((c : ℕ) → Contains (front entries) c → used flows whole c ≡ spent flows later c + used flows entries c) → IsBelowLoads flows (rest flows weight whole) entries
rests_below flows weight ports whole later [] ordered apart pays = tt
rests_below flows weight ports whole later (e ∷ before) ordered apart pays =
    let c = e.coflow in
    let own = used_in flows e before c (in_first c (front before)) in
    let none = used_outside flows before c apart.0 in
    let here = λ (some : 0 < load_of_all flows (front (e ∷ before)) e.port). rest_from (budget weight c) (used flows whole c) (spent flows later c) (used flows (e ∷ before) c)
    (e.y * load flows c e.port) (used flows before c) (load flows c e.port)
    (pays c (in_first c (front before))) own none (ordered.0.busy some).has_load (rest_here flows weight ports later (front (e ∷ before)) e ordered.0 some) in (
      here,
      rests_below flows weight ports whole (e ∷ later) before ordered.1 apart.1
          (λ k has. omega (arith, pays k (in_tail c (front before) k has), used_in flows e before k (in_tail c (front before) k has), spent_more flows e later k)),
    )

pub ordering_rests : (i : Instance) (entries : List Entry) → IsOrdering i entries → IsBelowLoads i.flows (rest i.flows i.weight entries) entries
ordering_rests i entries ordering =
    rests_below i.flows i.weight i.ports entries [] entries ordering.ordered (apart_from_pairs (front entries) ordering.certificate.once) (λ c has. omega arith)

-- ---- one alone

same_port : (ports : ℕ) (s t : Side) (m n : ℕ) → m < ports → n < ports → port_place_on s ports m ≡ port_place_on t ports n → (s ≡ t) × (m ≡ n)
same_port ports Ingress Ingress m n lm ln e = (refl, e)
same_port ports Ingress Egress m n lm ln e = absurd (omega arith)
same_port ports Egress Ingress m n lm ln e = absurd (omega arith)
same_port ports Egress Egress m n lm ln e = (refl, omega arith)

one_port : (flows : List Flow) (ports : ℕ) (xs ys : List ℕ) (p q : Port) → ((port : Port) → load_of_all flows xs port ≡ load_of_all flows ys port) →
    IsFirstGreatest flows ports xs p → IsFirstGreatest flows ports ys q → port_place ports p ≡ port_place ports q
one_port flows ports xs ys p q same fp fq =
    let a = fp.greatest q fq.in_range in
    let b = fq.greatest p fp.in_range in
    let ep = same p in
    let eq = same q in
    elim a [
      | inl less ↦ elim b [
        | inl less' ↦ absurd (omega arith)
        | inr at' ↦ absurd (omega (arith, at'.0))
      ]
      | inr at ↦ elim b [
        | inl less' ↦ absurd (omega (arith, at.0))
        | inr at' ↦ omega (arith, at.1, at'.1)
      ]
    ]

abbrev make_port : Side → ℕ → Port
make_port s n = record { side = s; number = n }

abbrev make_entry : ℕ → Port → ℕ → Entry
make_entry c p y = record { coflow = c; port = p; y = y }

order_both : (a b a' b' m n : ℕ) → a ≡ b' → b ≡ a' → (a < b) ⊎ ((a ≡ b) × (n ≤ m)) → (a' < b') ⊎ ((a' ≡ b') × (m ≤ n)) → m ≡ n
order_both a b a' b' m n ea eb (inl x) (inl y) = absurd (omega arith)
order_both a b a' b' m n ea eb (inl x) (inr y) = absurd (omega (arith, y.0))
order_both a b a' b' m n ea eb (inr x) (inl y) = absurd (omega (arith, x.0))
order_both a b a' b' m n ea eb (inr x) (inr y) = omega (arith, x.1, y.1)

port_of : (p q : Port) → (p.side ≡ q.side) × (p.number ≡ q.number) → p ≡ q
port_of p q e = ap (λ s. make_port s p.number) e.0 ∙ ap (λ n. make_port q.side n) e.1

entry_from : (e f : Entry) → e.coflow ≡ f.coflow → e.port ≡ f.port → e.y ≡ f.y → e ≡ f
entry_from e f ec ep ey = ap (λ c. make_entry c e.port e.y) ec ∙ ap (λ p. make_entry f.coflow p e.y) ep ∙ ap (λ y. make_entry f.coflow f.port y) ey

-- the same step over lists with the same members
same_y : (flows : List Flow) (weight : ℕ → ℕ) (later : List Entry) (e f : Entry) → e.coflow ≡ f.coflow → e.port ≡ f.port →
    e.y ≡ residual flows weight later e.coflow / load flows e.coflow e.port → f.y ≡ residual flows weight later f.coflow / load flows f.coflow f.port → e.y ≡ f.y
same_y flows weight later e f ec ep ye yf = ye ∙ ap (λ c. residual flows weight later c / load flows c e.port) ec ∙
    ap (λ p. residual flows weight later f.coflow / load flows f.coflow p) ep ∙ sym yf

one_busy : (flows : List Flow) (weight : ℕ → ℕ) (later : List Entry) (xs ys : List ℕ) (e f : Entry) → Contains xs f.coflow → Contains ys e.coflow → e.port ≡ f.port →
    IsPlacedBusy flows weight later xs e → IsPlacedBusy flows weight later ys f → e.coflow ≡ f.coflow
one_busy flows weight later xs ys e f inx iny ep be bf =
    let lf : 0 < load flows f.coflow e.port = subst (λ p. 0 < load flows f.coflow p) (sym ep) bf.has_load in
    let le' : 0 < load flows e.coflow f.port = subst (λ p. 0 < load flows e.coflow p) ep be.has_load in
    order_both (residual flows weight later e.coflow * load flows f.coflow e.port) (residual flows weight later f.coflow * load flows e.coflow e.port)
    (residual flows weight later f.coflow * load flows e.coflow f.port) (residual flows weight later e.coflow * load flows f.coflow f.port) e.coflow f.coflow
    (ap (λ p. residual flows weight later e.coflow * load flows f.coflow p) ep) (ap (λ p. residual flows weight later f.coflow * load flows e.coflow p) ep)
    (be.least f.coflow inx lf) (bf.least e.coflow iny le')

one_step : (flows : List Flow) (weight : ℕ → ℕ) (ports : ℕ) (later : List Entry) (xs ys : List ℕ) (e f : Entry) →
    ((port : Port) → load_of_all flows xs port ≡ load_of_all flows ys port) →
    Contains xs e.coflow → Contains xs f.coflow → Contains ys e.coflow → Contains ys f.coflow → IsPlaced flows weight ports later xs e → IsPlaced flows weight ports later ys f →
    e ≡ f
one_step flows weight ports later xs ys e f same ex fx ey fy pe pf =
    let ep : e.port ≡ f.port = port_of e.port f.port
    (same_port ports e.port.side f.port.side e.port.number f.port.number pe.port.in_range pf.port.in_range (one_port flows ports xs ys e.port f.port same pe.port pf.port)) in
    let total : load_of_all flows xs e.port ≡ load_of_all flows ys f.port = same e.port ∙ ap (λ p. load_of_all flows ys p) ep in
    elim (zero_or_more (load_of_all flows xs e.port)) [
      | inl none ↦
          let ie = pe.idle none in
          let if' = pf.idle (sym total ∙ none) in
          let ec : e.coflow ≡ f.coflow = omega (arith, ie.greatest f.coflow fx, if'.greatest e.coflow ey) in
          entry_from e f ec ep (ie.y_is ∙ sym if'.y_is)
      | inr some ↦
          let be = pe.busy some in
          let bf = pf.busy (subst (λ n. 0 < n) total some) in
          let ec = one_busy flows weight later xs ys e f fx ey ep be bf in
          entry_from e f ec ep (same_y flows weight later e f ec ep be.y_is bf.y_is)
    ]

tail_to : (e f : Entry) (l m : List Entry) → e.coflow ≡ f.coflow → Apart (front (e ∷ l)) → ((c : ℕ) → Contains (front (e ∷ l)) c → Contains (front (f ∷ m)) c) → (c : ℕ) →
    Contains (front l) c → Contains (front m) c
tail_to e f l m ec apart to c has = elim (first_or_tail f.coflow (front m) c (to c (in_tail e.coflow (front l) c has))) [
  | inl same ↦ absurd (apart.0 (subst (λ n. Contains (front l) n) (sym (ec ∙ same)) has))
  | inr h ↦ h
]

pub one_ordered : (flows : List Flow) (weight : ℕ → ℕ) (ports : ℕ) (later l m : List Entry) → IsOrdered flows weight ports later l → IsOrdered flows weight ports later m →
    Apart (front l) → Apart (front m) →
    ((c : ℕ) → Contains (front l) c → Contains (front m) c) → ((c : ℕ) → Contains (front m) c → Contains (front l) c) → l ≡ m
one_ordered flows weight ports later [] [] ol om al am to from = refl
one_ordered flows weight ports later [] (f ∷ m) ol om al am to from = absurd (nothing_in f.coflow (from f.coflow (in_first f.coflow (front m))))
one_ordered flows weight ports later (e ∷ l) [] ol om al am to from = absurd (nothing_in e.coflow (to e.coflow (in_first e.coflow (front l))))
one_ordered flows weight ports later (e ∷ l) (f ∷ m) ol om al am to from =
    let ein = in_first e.coflow (front l) in
    let fin = in_first f.coflow (front m) in
    let same = λ (port : Port). same_members (λ c. load flows c port) (front (e ∷ l)) (front (f ∷ m)) al am to from in
    let here : e ≡ f = one_step flows weight ports later (front (e ∷ l)) (front (f ∷ m)) e f same ein (from f.coflow fin) (to e.coflow ein) fin ol.0 om.0 in
    let ec : e.coflow ≡ f.coflow = ap (λ (x : Entry). x.coflow) here in
    let tails = one_ordered flows weight ports (e ∷ later) l m ol.1 (subst (λ x. IsOrdered flows weight ports (x ∷ later) m) (sym here) om.1) al.1 am.1 (tail_to e f l m ec al to)
    (tail_to f e m l (sym ec) am from) in
    ap (λ x. x ∷ l) here ∙ ap (λ t. f ∷ t) tails

pub one_ordering : (i : Instance) (a b : List Entry) → IsOrdering i a → IsOrdering i b → a ≡ b
one_ordering i a b oa ob =
    one_ordered i.flows i.weight i.ports [] a b oa.ordered ob.ordered (apart_from_pairs (front a) oa.certificate.once) (apart_from_pairs (front b) ob.certificate.once)
    (λ c has. All-contains (Contains (front b)) i.coflows c ob.certificate.all (All-contains (Contains i.coflows) (front a) c oa.certificate.coflow has))
    (λ c has. All-contains (Contains (front a)) i.coflows c oa.certificate.all (All-contains (Contains i.coflows) (front b) c ob.certificate.coflow has))
