-- The ordering certificate of all coflows, where those that are not present have no load: its places of those that are present
-- are the ordering certificate of these alone.
use Rattle.std.proofs.Common.{◌≡◌, ℕ, ◌+◌, ◌*◌, ◌-◌, ◌/◌, ◌<◌, ◌≤◌, ◌≢◌, ◌⊎◌, inl, inr, Bool, true, false, List, [], ◌∷◌}
use Rattle.std.proofs.Common.{◌++◌, Contains, append-nil, cond, refl, sym, ap, subst, ◌∙◌, arith}
use Rattle.std.proofs.Common.{subst₂}
use Rattle.std.specs.Prelude.{reverse}
use Rattle.std.specs.List.{filter}
use Rattle.std.proofs.lemmas.Bool.{cases_Bool}
use Rattle.std.proofs.lemmas.List.Elements.{All-contains, All-filter, filter-append}
use Rattle.std.proofs.lemmas.List.Kept.{AllPairs-filter}
use Rattle.std.proofs.lemmas.List.Sums.{sum_by-cons}
use Rattle.coflow_units.specs.declared.fabric.Flow.{Flow}
use Rattle.coflow_units.specs.declared.fabric.Port.{Port}
use Rattle.coflow_units.specs.Flows.{IsDistinct}
use Rattle.coflow_units.specs.Load.{load, load_of_all}
use Rattle.coflow_units.specs.Certificate.{Entry, budget, front, order_of, scale}
use Rattle.coflow_units.specs.Ordering.{IsOrdered, IsOrdering, IsPlaced, port_place, residual, spent}
use Rattle.coflow_units.proofs.Lists.{filter_in, keeps, reverse-cons}
use Rattle.coflow_units.proofs.Numbers.{zero_or_more}
use Rattle.coflow_units.proofs.OrderingLaws.{spent_more}
use Rattle.coflow_units.proofs.PlaceChoice.{Leads}
use Rattle.coflow_units.proofs.Sums.{all_of_members}

-- ---- filtered lists

front_one : (e : Entry) (es : List Entry) (cs : List ℕ) (b : Bool) → front es ≡ cs → front (cond b (e ∷ es) es) ≡ cond b (e.coflow ∷ cs) cs
front_one e es cs true is = ap (λ l. e.coflow ∷ l) is
front_one e es cs false is = is

-- a filtered list turned round is the list turned round and filtered
turned_one : (p : ℕ → Bool) (x : ℕ) (b : Bool) (cs back : List ℕ) → reverse cs ≡ back → reverse (cond b (x ∷ cs) cs) ≡ back ++ cond b (x ∷ []) []
turned_one p x true cs back is = reverse-cons x cs ∙ ap (λ l. l ++ x ∷ []) is
turned_one p x false cs back is = is ∙ sym (append-nil back)

filter_turned : (p : ℕ → Bool) (xs : List ℕ) → reverse (filter p xs) ≡ filter p (reverse xs)
filter_turned p [] = refl
filter_turned p (x ∷ xs) =
    turned_one p x (p x) (filter p xs) (filter p (reverse xs)) (filter_turned p xs) ∙ sym (ap (filter p) (reverse-cons x xs) ∙ filter-append p (reverse xs) (x ∷ []))

-- ---- the step over those that are present

-- the coflow of the place has a ratio of r to its load no greater than that of s to the load of d
abbrev Beaten : List Flow → Entry → ℕ → ℕ → ℕ → Type 0
Beaten flows e d r s = (r * load flows d e.port < s * load flows e.coflow e.port) ⊎
    ((r * load flows d e.port ≡ s * load flows e.coflow e.port) × (d ≤ e.coflow))

-- the step over a part of the coflows that has the same loads, where each has the same residual
placed_there : (flows : List Flow) (w v : ℕ → ℕ) (ports : ℕ) (la lb : List Entry) (xs ys : List ℕ) (e : Entry) →
    ((port : Port) → load_of_all flows xs port ≡ load_of_all flows ys port) → ((c : ℕ) → Contains ys c → Contains xs c) →
    ((c : ℕ) → residual flows w la c ≡ residual flows v lb c) → IsPlaced flows w ports la xs e → IsPlaced flows v ports lb ys e
placed_there flows w v ports la lb xs ys e same within rest step = record {
  port = record {
    in_range = step.port.in_range;
    greatest = λ other lt. subst₂ (λ a b. Leads a (port_place ports e.port) b (port_place ports other)) (same e.port) (same other) (step.port.greatest other lt);
  };
  idle = λ none. let i = step.idle (same e.port ∙ none) in record { greatest = λ d has. i.greatest d (within d has); y_is = i.y_is };
  busy = λ some.
      let b = step.busy (subst (λ n. 0 < n) (sym (same e.port)) some) in
      record {
        has_load = b.has_load;
        least = λ d has more. subst₂ (λ r s. Beaten flows e d r s) (rest e.coflow) (rest d) (b.least d (within d has) more);
        y_is = b.y_is ∙ ap (λ r. r / load flows e.coflow e.port) (rest e.coflow);
      };
}

-- the places of those that are present
abbrev pub present_in : (ℕ → Bool) → List Entry → List Entry
present_in here entries = filter (λ (e : Entry). here e.coflow) entries

pub front_present : (here : ℕ → Bool) (entries : List Entry) → front (present_in here entries) ≡ filter here (front entries)
front_present here [] = refl
front_present here (e ∷ es) = front_one e (present_in here es) (filter here (front es)) (here e.coflow) (front_present here es)

pub order_present : (here : ℕ → Bool) (entries : List Entry) → order_of (present_in here entries) ≡ filter here (order_of entries)
order_present here entries = ap reverse (front_present here entries) ∙ filter_turned here (front entries)

module _ (flows : List Flow) (here : ℕ → Bool) (idle : (c : ℕ) → here c ≡ false → (port : Port) → load flows c port ≡ 0) where
  load_one : (c : ℕ) (port : Port) (xs ys : List ℕ) (b : Bool) → (b ≡ false → load flows c port ≡ 0) → load_of_all flows xs port ≡ load_of_all flows ys port →
      load_of_all flows (c ∷ xs) port ≡ load_of_all flows (cond b (c ∷ ys) ys) port
  load_one c port xs ys true none is = omega (arith, is, sum_by-cons (λ c. load flows c port) c xs, sum_by-cons (λ c. load flows c port) c ys)
  load_one c port xs ys false none is = omega (arith, is, sum_by-cons (λ c. load flows c port) c xs, none refl)

  load_here : (port : Port) (xs : List ℕ) → load_of_all flows xs port ≡ load_of_all flows (filter here xs) port
  load_here port [] = refl
  load_here port (c ∷ cs) = load_one c port cs (filter here cs) (here c) (λ away. idle c away port) (load_here port cs)

  -- who is not present pays nothing, and nobody pays at its place
  idle_place : (w : ℕ → ℕ) (ports : ℕ) (later : List Entry) (xs : List ℕ) (e : Entry) → here e.coflow ≡ false → IsPlaced flows w ports later xs e → e.y ≡ 0
  idle_place w ports later xs e away step = elim (zero_or_more (load_of_all flows xs e.port)) [
    | inl none ↦ (step.idle none).y_is
    | inr some ↦ absurd (omega (arith, (step.busy some).has_load, idle e.coflow away e.port))
  ]

  module _ (w v : ℕ → ℕ) (ports : ℕ) (weighs : (c : ℕ) → w c ≡ v c) where
    ordered_present : (la lb entries : List Entry) → ((c : ℕ) → spent flows la c ≡ spent flows lb c) → IsOrdered flows w ports la entries →
        IsOrdered flows v ports lb (present_in here entries)
    ordered_present la lb [] pays ordered = tt
    ordered_present la lb (e ∷ es) pays ordered = elim (cases_Bool (here e.coflow)) [
      | inl is ↦
          let kept = present_in here es in
          let all : front (e ∷ kept) ≡ filter here (front (e ∷ es)) = ap (λ b. front (cond b (e ∷ kept) kept)) (sym is) ∙ front_present here (e ∷ es) in
          let same = λ (port : Port). load_here port (front (e ∷ es)) ∙ ap (λ l. load_of_all flows l port) (sym all) in
          let within = λ (c : ℕ) (has : Contains (front (e ∷ kept)) c). (filter_in here (front (e ∷ es)) c (subst (λ l. Contains l c) all has)).0 in
          let rest = λ (c : ℕ). ap (λ n. n * scale - spent flows la c) (weighs c) ∙ ap (λ n. budget v c - n) (pays c) in
          let step = placed_there flows w v ports la lb (front (e ∷ es)) (front (e ∷ kept)) e same within rest ordered.0 in
          let more = λ (c : ℕ). spent_more flows e la c ∙ ap (λ n. e.y * load flows c e.port + n) (pays c) ∙ sym (spent_more flows e lb c) in
          subst (λ b. IsOrdered flows v ports lb (cond b (e ∷ kept) kept)) (sym is) (step, ordered_present (e ∷ la) (e ∷ lb) es more ordered.1)
      | inr away ↦
          let kept = present_in here es in
          let nought = idle_place w ports la (front (e ∷ es)) e away ordered.0 in
          let more : (c : ℕ) → spent flows (e ∷ la) c ≡ spent flows lb c =
          λ c. omega (arith, spent_more flows e la c, ap (λ n. n * load flows c e.port) nought, pays c) in
          subst (λ b. IsOrdered flows v ports lb (cond b (e ∷ kept) kept)) (sym away) (ordered_present (e ∷ la) lb es more ordered.1)
    ]

    -- the coflows that are present are those of the list
    pub present_ordering : (all some : List ℕ) (entries : List Entry) → ((c : ℕ) → Contains some c → Contains all c × (here c ≡ true)) →
        ((c : ℕ) → Contains all c → here c ≡ true → Contains some c) →
        IsOrdering (record { coflows = all; weight = w; ports = ports; flows = flows }) entries →
        IsOrdering (record { coflows = some; weight = v; ports = ports; flows = flows }) (present_in here entries)
    present_ordering all some entries parts whole ordering =
        let kept = front_present here entries in
        let certificate = ordering.certificate in
        record {
          certificate = record {
            once = subst IsDistinct (sym kept) (AllPairs-filter (λ (a : ℕ) (b : ℕ). a ≢ b) here (front entries) certificate.once);
            coflow = all_of_members (Contains some) (front (present_in here entries)) (λ c has.
                let (there, is) = filter_in here (front entries) c (subst (λ l. Contains l c) kept has) in
                whole c (All-contains (Contains all) (front entries) c certificate.coflow there) is);
            all = all_of_members (Contains (front (present_in here entries))) some (λ c has.
                let (there, is) = parts c has in
                subst (λ l. Contains l c) (sym kept) (keeps here (front entries) c (All-contains (Contains (front entries)) all c certificate.all there) is));
            port = All-filter (λ (e : Entry). here e.coflow) (λ (e : Entry). e.port.number < ports) entries certificate.port;
          };
          ordered = ordered_present [] [] entries (λ c. refl) ordering.ordered;
        }
