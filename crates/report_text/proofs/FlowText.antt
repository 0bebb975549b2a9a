-- The flow numbers of a run in a text.
use Rattle.std.proofs.Common.{◌≡◌, ◌⊎◌, inl, inr, ℕ, suc, ◌+◌, ◌-◌, ◌<◌, ◌≤◌, ◌^◌, List, [], ◌∷◌, ◌++◌, Bool, true, false, Some, None, nat_lt, length, drop, get_or, append_assoc}
use Rattle.std.proofs.Common.{append-nil, length-append, refl, sym, ap, ◌∙◌, ltb, arith}
use Rattle.std.specs.Prelude.{All, codes}
use Rattle.std.specs.List.{flat_map, slice_get}
use Rattle.std.specs.List.Sorted.{IsStrictlyIncreasing}
use Rattle.std.proofs.lemmas.Bool.Decides.{nat_tests}
use Rattle.std.proofs.lemmas.Grind.{flat_map-append}
use Rattle.std.proofs.lemmas.Option.{get_or_from_slice_get, slice_get_cases}
use Rattle.std.proofs.lemmas.List.{get_or_append_left, get_or_push}
use Rattle.std.proofs.lemmas.List.Elements.{All-push}
use Rattle.coflow_units.specs.declared.plan.Run.{Run}
use Rattle.report_text.specs.Text.{run_line}
use Rattle.coflow_units.specs.Text.{spaced}
use Rattle.report_text.specs.Readers.{AreFlows, IsFlowsOf, IsRun, Stops, Rises}
use Rattle.report_text.proofs.NumberText.{spaced_unique}

push_rises : (flows : List ℕ) (flow last : ℕ) → IsStrictlyIncreasing flows → 0 < length flows → get_or flows (length flows - 1) 0 ≡ last → last < flow →
    IsStrictlyIncreasing (flows ++ (flow ∷ []))
push_rises flows flow last up some at less k lt = go (ltb (k + 1) (length flows)) refl
  where
    go : (b : Bool) → ltb (k + 1) (length flows) ≡ b → get_or (flows ++ (flow ∷ [])) k 0 < get_or (flows ++ (flow ∷ [])) (k + 1) 0
    go true e =
        let before : k + 1 < length flows = grind (arith, nat_tests) in
        omega (arith, get_or_append_left flows (flow ∷ []) 0 k (omega arith), get_or_append_left flows (flow ∷ []) 0 (k + 1) before, up k before)
    go false e =
        let here : length flows ≡ k + 1 = grind (arith, nat_tests, length-append flows (flow ∷ [])) in
        let index : length flows - 1 ≡ k = omega arith in
        omega (arith, get_or_append_left flows (flow ∷ []) 0 k (omega arith), get_or_push flows flow 0 (k + 1) here, rw index at at)

push_falls : (flows : List ℕ) (flow last : ℕ) → IsStrictlyIncreasing (flows ++ (flow ∷ [])) → 0 < length flows → get_or flows (length flows - 1) 0 ≡ last → last < flow
push_falls flows flow last up some at =
    let k : ℕ = length flows - 1 in
    let here : length flows ≡ k + 1 = omega arith in
    omega (arith, up k (omega (arith, length-append flows (flow ∷ []))), get_or_append_left flows (flow ∷ []) 0 k (omega arith), get_or_push flows flow 0 (k + 1) here, at)

pub rises_is : (flows : List ℕ) (flow last : ℕ) → Some last ≡ slice_get flows (length flows - 1) → Rises flows flow (nat_lt last flow)
rises_is flows flow last e = go (slice_get_cases flows (length flows - 1)).1
  where
    tell : (b : Bool) → nat_lt last flow ≡ b → 0 < length flows → get_or flows (length flows - 1) 0 ≡ last → Rises flows flow b
    tell true h some at = λ up. push_rises flows flow last up some at (grind (arith, nat_tests))
    tell false h some at = λ up. let less = push_falls flows flow last up some at in absurd (grind (arith, nat_tests))

    go : ((x : ℕ) × (length flows - 1 < length flows) × (slice_get flows (length flows - 1) ≡ Some x) × (get_or flows (length flows - 1) x ≡ x)) ⊎
        ((length flows ≤ length flows - 1) × (slice_get flows (length flows - 1) ≡ None)) → Rises flows flow (nat_lt last flow)
    go (inl (x, lt, is, at)) =
        tell (nat_lt last flow) refl (omega arith) (get_or_from_slice_get flows (length flows - 1) last 0 (sym e))
    go (inr (le, none)) = let bad : Some last ≡ None = e ∙ none in cc

-- what the loop over the flow numbers has read
pub record FlowsSoFar (bytes rest flows : List ℕ) : Type 0 where
  pub text : bytes ≡ flat_map spaced flows ++ rest
  pub flows_are : AreFlows flows
  pub stops : Stops rest

stops_more : (xs rest : List ℕ) → Stops rest → Stops (flat_map spaced xs ++ rest)
stops_more [] rest h = h
stops_more (x ∷ xs) rest h = refl

pub stops_flows : (xs : List ℕ) → Stops (flat_map spaced xs)
stops_flows [] = tt
stops_flows (x ∷ xs) = refl

-- a text that begins with the numbers xs is of numbers that begin with xs
pub goes_on : (xs ys rest : List ℕ) → All (λ f. f < 2 ^ 32) xs → All (λ f. f < 2 ^ 32) ys → Stops rest → flat_map spaced xs ++ rest ≡ flat_map spaced ys →
    (zs : List ℕ) × (ys ≡ xs ++ zs) × (rest ≡ flat_map spaced zs)
goes_on [] ys rest sx sy stops e = (ys, refl, e)
goes_on (x ∷ xs) [] rest sx sy stops e = absurd cc
goes_on (x ∷ xs) (y ∷ ys) rest sx sy stops e =
    let one = spaced_unique (flat_map spaced xs ++ rest) (flat_map spaced ys) x y (omega (arith, sx 0 x (omega arith))) (omega (arith, sy 0 y (omega arith)))
    (stops_more xs rest stops) (stops_flows ys) (sym (append_assoc (spaced x) (flat_map spaced xs) rest) ∙ e) in
    let more = goes_on xs ys rest (λ k d lt. sx (suc k) d (omega arith)) (λ k d lt. sy (suc k) d (omega arith)) stops one.1 in
    (more.0, (λ i. sym one.0 i ∷ more.1 i), more.2)

front_rises : (a b : List ℕ) → IsStrictlyIncreasing (a ++ b) → IsStrictlyIncreasing a
front_rises a b up k lt = omega (arith, up k (omega (arith, length-append a b)), get_or_append_left a b 0 k (omega arith), get_or_append_left a b 0 (k + 1) lt)

middle : (xs zs : List ℕ) (y d : ℕ) → get_or (xs ++ (y ∷ zs)) (length xs) d ≡ y
middle [] zs y d = refl
middle (x ∷ xs) zs y d = middle xs zs y d

-- the next number of a list whose text the bytes are
pub record NextFlow (rest flows ys : List ℕ) : Type 0 where
  pub flow : ℕ
  pub others : List ℕ
  pub whole : ys ≡ flows ++ (flow ∷ others)
  pub here : rest ≡ spaced flow ++ flat_map spaced others
  pub small : flow < 2 ^ 32
  pub rises : IsStrictlyIncreasing (flows ++ (flow ∷ []))

pub next_flow : (bytes rest flows ys : List ℕ) → FlowsSoFar bytes rest flows → AreFlows ys → bytes ≡ flat_map spaced ys → (rest ≡ [] → ⊥) → NextFlow rest flows ys
next_flow bytes rest flows ys r h e some =
    let more = goes_on flows ys rest r.flows_are.1 h.1 r.stops (sym r.text ∙ e) in
    go more.0 more.1 more.2
  where
    go : (zs : List ℕ) → ys ≡ flows ++ zs → rest ≡ flat_map spaced zs → NextFlow rest flows ys
    go [] whole here = absurd (some here)
    go (z ∷ zs) whole here =
        let lt : length flows < length ys = omega (arith, ap length whole, length-append flows (z ∷ zs)) in
        let is : get_or ys (length flows) z ≡ z = rw whole (middle flows zs z z) in
        let regrouped : ys ≡ (flows ++ (z ∷ [])) ++ zs = whole ∙ sym (append_assoc flows (z ∷ []) zs) in
        record {
          flow = z;
          others = zs;
          whole = whole;
          here = here;
          small = omega (arith, h.1 (length flows) z lt, is);
          rises = front_rises (flows ++ (z ∷ [])) zs (rw regrouped at h.0);
        }

pub none_yet : (bytes flows : List ℕ) → flows ≡ [] → Stops bytes → FlowsSoFar bytes bytes flows
none_yet bytes [] e stops = record { text = refl; flows_are = ((λ k lt. absurd (omega arith)), (λ k d lt. absurd (omega arith))); stops = stops }
none_yet bytes (x ∷ xs) e stops = absurd cc

pub one_more : (bytes rest flows behind : List ℕ) (flow : ℕ) → FlowsSoFar bytes rest flows → flow < 2 ^ 32 → rest ≡ spaced flow ++ behind → Stops behind →
    IsStrictlyIncreasing (flows ++ (flow ∷ [])) → FlowsSoFar bytes behind (flows ++ (flow ∷ []))
one_more bytes rest flows behind flow r small e stops up =
    let flat : flat_map spaced (flows ++ (flow ∷ [])) ≡ flat_map spaced flows ++ spaced flow = flat_map-append spaced flows (flow ∷ []) ∙
    ap (λ x. flat_map spaced flows ++ x) (append-nil (spaced flow)) in
    record {
      text = r.text ∙ (ap (λ x. flat_map spaced flows ++ x) e ∙ (sym (append_assoc (flat_map spaced flows) (spaced flow) behind) ∙ ap (λ x. x ++ behind) (sym flat)));
      flows_are = (up, All-push (λ f. f < 2 ^ 32) flows flow r.flows_are.1 small);
      stops = stops;
    }

pub shorter : (rest behind : List ℕ) (flow : ℕ) → rest ≡ spaced flow ++ behind → length behind < length rest
shorter rest behind flow e = omega (arith, ap length e, length-append (spaced flow) behind)

-- the parts of a run line behind its first word
pub behind_run : (run : Run) (line rest : List ℕ) → line ≡ codes "run" ++ rest → line ≡ run_line run → rest ≡ spaced run.length ++ flat_map spaced run.flows
behind_run run line rest f e = ap (drop 3) (sym f ∙ e)

-- the length that was read is the run's
pub length_is : (run : Run) (line rest r : List ℕ) (n : ℕ) → IsRun run → line ≡ codes "run" ++ rest → line ≡ run_line run → n < 2 ^ 128 → rest ≡ spaced n ++ r → Stops r →
    (n ≡ run.length) × (r ≡ flat_map spaced run.flows)
length_is run line rest r n h f e small g stops =
    spaced_unique r (flat_map spaced run.flows) n run.length small (omega (arith, h.1)) stops (stops_flows run.flows) (sym g ∙ behind_run run line rest f e)

-- the next number is the one that was read
pub same_flow : (rest flows ys behind : List ℕ) (flow : ℕ) (n : NextFlow rest flows ys) → flow < 2 ^ 128 → rest ≡ spaced flow ++ behind → Stops behind → flow ≡ n.flow
same_flow rest flows ys behind flow n small e stops =
    (spaced_unique behind (flat_map spaced n.others) flow n.flow small (omega (arith, n.small)) stops (stops_flows n.others) (sym e ∙ n.here)).0

-- where nothing is left, the flows are those of the bytes
pub flows_read : (bytes rest flows : List ℕ) → FlowsSoFar bytes rest flows → rest ≡ [] → IsFlowsOf bytes (Some flows)
flows_read bytes rest flows far none = (far.flows_are, far.text ∙ (ap (λ x. flat_map spaced flows ++ x) none ∙ append-nil (flat_map spaced flows)))

-- one number ascends
pub rises_first : (flows : List ℕ) (flow : ℕ) → None ≡ slice_get flows (length flows - 1) → Rises flows flow true
rises_first flows flow e = go (slice_get_cases flows (length flows - 1)).1
  where
    go : ((x : ℕ) × (length flows - 1 < length flows) × (slice_get flows (length flows - 1) ≡ Some x) × (get_or flows (length flows - 1) x ≡ x)) ⊎
        ((length flows ≤ length flows - 1) × (slice_get flows (length flows - 1) ≡ None)) → Rises flows flow true
    go (inl (x, lt, is, at)) = let bad : None ≡ Some x = e ∙ is in cc
    go (inr (le, none)) = λ up k lt. absurd (omega (arith, le, lt, length-append flows (flow ∷ [])))

-- the line of a run that was read part by part
pub run_found : (run : Run) (line r s : List ℕ) → line ≡ codes "run" ++ r → r ≡ spaced run.length ++ s → s ≡ flat_map spaced run.flows → line ≡ run_line run
run_found run line r s a b e = a ∙ ap (λ x. codes "run" ++ x) (b ∙ ap (λ x. spaced run.length ++ x) e)
