-- What coflows owe, flow by flow.
use Rattle.std.proofs.Common.{◌≡◌, ◌≢◌, ℕ, ◌+◌, ◌-◌, ◌≤◌, ◌<◌, inl, inr, Bool, true, false, List, [], ◌∷◌, get_or, length, take, refl, sym, ap, subst, ◌∙◌, arith, cond}
use Rattle.std.specs.Prelude.{if◌then◌else◌, slice_index, slice_set, sum, sum_by, ◌==◌, ◌||◌}
use Rattle.std.specs.List.{list_any, range_with_len}
use Rattle.std.specs.List.Sorted.{IsStrictlyIncreasing}
use Rattle.std.proofs.lemmas.Bool.{cases_eq, eq-eqb, ne_eqb, or_from, or_left, or_right}
use Rattle.std.proofs.lemmas.List.{get_or-set_other, get_or-set_same, get_or-take, get_or_default, length-set, length-take, take_more}
use Rattle.std.proofs.lemmas.List.Folds.{list_any-append}
use Rattle.std.proofs.lemmas.List.Kept.{AllPairs-from_increasing}
use Rattle.std.proofs.lemmas.List.Sums.{sum_by-append}
use Rattle.coflow_units.specs.declared.fabric.Flow.{Flow}
use Rattle.coflow_units.specs.Flows.{coflow_of}
use Rattle.coflow_units.proofs.Bools.{or_not, part}
use Rattle.coflow_units.proofs.Lists.{by_number, number_in, numbers_apart}
use Rattle.coflow_units.proofs.Ranges.{range_append, sum_next}
use Rattle.coflow_units.proofs.Sums.{any_not, member_within_sum, picked_one, sum_add, sum_mono, sum_same}
use Rattle.coflow_units.specs.Schedule.{holds}
use Rattle.epochs.specs.Tallies.{IsTallied}

abbrev pub share : List Flow → List ℕ → ℕ → ℕ → ℕ
share flows left c f = if coflow_of flows f == c then slice_index left f else 0

pub some_share : (b : Bool) (n : ℕ) → 0 < cond {A = ℕ} b n 0 → (b ≡ true) × (0 < n)
some_share true n lt = (refl, lt)
some_share false n lt = absurd (omega (arith, lt))

-- ---- added up flow by flow

-- so far the coflows owe what the first flows have left
pub record TalliedTo (flows : List Flow) (left owed : List ℕ) (coflows n : ℕ) : Type 0 where
  pub each : length owed ≡ coflows
  pub so_far : (c : ℕ) → c < coflows → slice_index owed c ≡ sum_by (share flows left c) (range_with_len 0 n)

front_sum : (w : ℕ → ℕ) (n m : ℕ) → n ≤ m → sum_by w (range_with_len 0 n) ≤ sum_by w (range_with_len 0 m)
front_sum w n m le =
    let e : n + (m - n) ≡ m = omega (arith, le) in
    let split : sum_by w (range_with_len 0 m) ≡ sum_by w (range_with_len 0 n) + sum_by w (range_with_len (0 + n) (m - n)) =
    ap (λ k. sum_by w (range_with_len 0 k)) (sym e) ∙ ap (sum_by w) (range_append 0 n (m - n)) ∙ sum_by-append w (range_with_len 0 n) (range_with_len (0 + n) (m - n)) in
    omega (arith, split)

pub within_all : (flows : List Flow) (left : List ℕ) (c n : ℕ) → n ≤ length left → sum_by (share flows left c) (range_with_len 0 n) ≤ sum left
within_all flows left c n le =
    let each = λ (f : ℕ). slice_index left f in
    omega (
      arith,
      sum_mono (share flows left c) each (range_with_len 0 n) (λ f in'. part (coflow_of flows f == c) (slice_index left f)),
      front_sum each n (length left) le,
      by_number (λ (x : ℕ). x) 0 left,
    )

pub tallied_first : (flows : List Flow) (left owed : List ℕ) (coflows : ℕ) → length owed ≡ coflows → ((c : ℕ) → slice_index owed c ≡ 0) → TalliedTo flows left owed coflows 0
tallied_first flows left owed coflows each none = record { each = each; so_far = λ c lt. none c }

-- one flow more
pub tallied_next : (flows : List Flow) (left owed : List ℕ) (coflows n c0 : ℕ) → c0 ≡ coflow_of flows n → c0 < coflows → TalliedTo flows left owed coflows n →
    TalliedTo flows left (slice_set owed c0 (slice_index owed c0 + slice_index left n)) coflows (n + 1)
tallied_next flows left owed coflows n c0 of low h = record {
  each = length-set owed c0 (slice_index owed c0 + slice_index left n) ∙ h.each;
  so_far = λ c lt.
      let w = share flows left c in
      elim (cases_eq c c0) [
        | inl same ↦
            let here : w n ≡ slice_index left n = ap {B = ℕ} (λ b. if b then slice_index left n else 0) (eq-eqb (coflow_of flows n) c (sym of ∙ sym same)) in
            let at : slice_index (slice_set owed c0 (slice_index owed c0 + slice_index left n)) c ≡ slice_index owed c0 + slice_index left n =
            ap (slice_index (slice_set owed c0 (slice_index owed c0 + slice_index left n))) same ∙
            get_or-set_same owed c0 (slice_index owed c0 + slice_index left n) 0 (omega (arith, low, h.each)) in
            omega (arith, at, here, sum_next w n, h.so_far c lt, ap (slice_index owed) same)
        | inr other ↦
            let none : w n ≡ 0 = ap {B = ℕ} (λ b. if b then slice_index left n else 0) (ne_eqb (coflow_of flows n) c (λ e. other (sym e ∙ sym of))) in
            let at : slice_index (slice_set owed c0 (slice_index owed c0 + slice_index left n)) c ≡ slice_index owed c =
            get_or-set_other owed c0 c (slice_index owed c0 + slice_index left n) 0 other in
            omega (arith, at, none, sum_next w n, h.so_far c lt)
      ];
}

-- the value that stands there
pub add_fits : (flows : List Flow) (left owed : List ℕ) (coflows n v : ℕ) → n < length left → coflow_of flows n < coflows → TalliedTo flows left owed coflows n →
    v ≡ get_or owed (coflow_of flows n) v → v + slice_index left n ≤ sum left
add_fits flows left owed coflows n v lt low h value =
    let c = coflow_of flows n in
    let w = share flows left c in
    let here : w n ≡ slice_index left n = ap {B = ℕ} (λ b. if b then slice_index left n else 0) (eq-eqb c c refl) in
    omega (
      arith,
      value,
      get_or_default owed c v 0 (omega (arith, low, h.each)),
      h.so_far c low,
      here,
      sum_next w n,
      within_all flows left c (n + 1) (omega (arith, lt)),
    )

pub tallied_on : (flows : List Flow) (left owed : List ℕ) (coflows n v : ℕ) → coflow_of flows n < coflows → TalliedTo flows left owed coflows n → v ≡ get_or owed
    (coflow_of flows n) v →
    TalliedTo flows left (slice_set owed (coflow_of flows n) (v + slice_index left n)) coflows (n + 1)
tallied_on flows left owed coflows n v low h value =
    let c = coflow_of flows n in
    subst (λ x. TalliedTo flows left (slice_set owed c (x + slice_index left n)) coflows (n + 1)) (sym (value ∙ get_or_default owed c v 0 (omega (arith, low, h.each))))
    (tallied_next flows left owed coflows n c refl low h)

pub tallied_all : (flows : List Flow) (left owed : List ℕ) (coflows : ℕ) → length left ≡ length flows → TalliedTo flows left owed coflows (length flows) → IsTallied flows left owed
tallied_all flows left owed coflows len h = record { each_flow = len; each_coflow = λ c lt. h.so_far c (omega (arith, lt, h.each)) }

-- ---- spent flow by flow

spent_sum : (w v : ℕ → ℕ) (n f k : ℕ) → f < n → w f ≡ v f + k → ((g : ℕ) → g ≢ f → w g ≡ v g) → sum_by w (range_with_len 0 n) ≡ sum_by v (range_with_len 0 n) + k
spent_sum w v n f k lt here others =
    let all = range_with_len 0 n in
    let hit = λ (g : ℕ). cond {A = ℕ} (f == g) k 0 in
    let each : (g : ℕ) → w g ≡ v g + hit g =
    λ g.
    elim (cases_eq g f) [
      | inl same ↦
          let one : hit g ≡ k = ap {B = ℕ} (λ b. cond b k 0) (eq-eqb f g (sym same)) in
          omega (arith, here, one, ap w same, ap v same)
      | inr other ↦
          let none : hit g ≡ 0 = ap {B = ℕ} (λ b. cond b k 0) (ne_eqb f g (λ e. other (sym e))) in
          omega (arith, others g other, none)
    ] in
    omega (
      arith,
      sum_same w (λ g. v g + hit g) all (λ g in'. each g),
      sum_add v hit all,
      picked_one f (λ g. k) all (numbers_apart 0 n) (number_in 0 n f (omega arith) (omega (arith, lt))),
    )

-- the coflow of a flow owes at least what the flow has left
pub owes_as_much : (flows : List Flow) (left owed : List ℕ) (f : ℕ) → IsTallied flows left owed → f < length flows → coflow_of flows f < length owed →
    slice_index left f ≤ slice_index owed (coflow_of flows f)
owes_as_much flows left owed f h lt low =
    let c = coflow_of flows f in
    let here : share flows left c f ≡ slice_index left f = ap {B = ℕ} (λ b. if b then slice_index left f else 0) (eq-eqb c c refl) in
    omega (
      arith,
      here,
      h.each_coflow c low,
      member_within_sum (share flows left c) (range_with_len 0 (length flows)) f (number_in 0 (length flows) f (omega arith) (omega (arith, lt))),
    )

pub tallied_spent : (flows : List Flow) (left owed : List ℕ) (f k : ℕ) → IsTallied flows left owed → f < length flows → coflow_of flows f < length owed → k ≤ slice_index left f →
    IsTallied flows (slice_set left f (slice_index left f - k)) (slice_set owed (coflow_of flows f) (slice_index owed (coflow_of flows f) - k))
tallied_spent flows left owed f k h lt low enough =
    let c0 = coflow_of flows f in
    let left' = slice_set left f (slice_index left f - k) in
    let owed' = slice_set owed c0 (slice_index owed c0 - k) in
    let at : slice_index left' f ≡ slice_index left f - k = get_or-set_same left f (slice_index left f - k) 0 (omega (arith, lt, h.each_flow)) in
    let away : (g : ℕ) → g ≢ f → slice_index left' g ≡ slice_index left g = λ g other. get_or-set_other left f g (slice_index left f - k) 0 other in
    record {
      each_flow = length-set left f (slice_index left f - k) ∙ h.each_flow;
      each_coflow = λ c below.
          let inside : c < length owed = omega (arith, below, length-set owed c0 (slice_index owed c0 - k)) in
          let w = share flows left c in
          let v = share flows left' c in
          elim (cases_eq c c0) [
            | inl same ↦
                let yes = eq-eqb c0 c (sym same) in
                let wf : w f ≡ slice_index left f = ap {B = ℕ} (λ b. if b then slice_index left f else 0) yes in
                let vf : v f ≡ slice_index left' f = ap {B = ℕ} (λ b. if b then slice_index left' f else 0) yes in
                let sums = spent_sum w v (length flows) f k lt (omega (arith, wf, vf, at, enough))
                (λ g other. ap {B = ℕ} (λ n. if coflow_of flows g == c then n else 0) (sym (away g other))) in
                let now : slice_index owed' c ≡ slice_index owed c0 - k = ap (slice_index owed') same ∙ get_or-set_same owed c0 (slice_index owed c0 - k) 0 low in
                omega (arith, now, sums, h.each_coflow c inside, ap (slice_index owed) same)
            | inr other ↦
                let no' = ne_eqb c0 c (λ e. other (sym e)) in
                let wf : w f ≡ 0 = ap {B = ℕ} (λ b. if b then slice_index left f else 0) no' in
                let vf : v f ≡ 0 = ap {B = ℕ} (λ b. if b then slice_index left' f else 0) no' in
                let sums = spent_sum w v (length flows) f 0 lt (omega (arith, wf, vf)) (λ g other'. ap {B = ℕ} (λ n. if coflow_of flows g == c then n else 0)
                (sym (away g other'))) in
                omega (arith, get_or-set_other owed c0 c (slice_index owed c0 - k) 0 other, sums, h.each_coflow c inside)
          ];
    }

-- what is left after the first of these flows spent
abbrev pub SpentTo : List ℕ → List ℕ → List ℕ → ℕ → ℕ → Type 0
SpentTo old new granted slots i = (f : ℕ) → slice_index new f ≡ slice_index old f - (if holds (take i granted) f then slots else 0)

-- the next of ascending flows is none of those before
pub next_is_new : (granted : List ℕ) (i d : ℕ) → IsStrictlyIncreasing granted → i < length granted → holds (take i granted) (get_or granted i d) ≡ false
next_is_new granted i d rising lt =
    any_not (take i granted) (get_or granted i d)
    (λ (k, low, is).
    let inside : k < i = omega (arith, low, length-take i granted) in
    let f = get_or granted i d in
    let before : get_or granted k d < get_or granted i d = AllPairs-from_increasing granted rising k i d inside lt in
    let at : get_or granted k d ≡ f = get_or_default granted k d f (omega (arith, inside, lt)) ∙ sym (get_or-take i granted k f inside) ∙ is in
    omega (arith, before, at))

pub spent_next : (old left granted : List ℕ) (slots i d : ℕ) → IsStrictlyIncreasing granted → i < length granted → get_or granted i d < length left → SpentTo old left granted
    slots i →
    SpentTo old (slice_set left (get_or granted i d) (slice_index left (get_or granted i d) - slots)) granted slots (i + 1)
spent_next old left granted slots i d rising lt inside h f =
    let f0 = get_or granted i d in
    let value = slice_index left f0 - slots in
    let more : holds (take (i + 1) granted) f ≡ (holds (take i granted) f || list_any (λ y. y == f) (f0 ∷ [])) =
    ap (λ l. holds l f) (take_more granted i d lt) ∙ list_any-append (λ y. y == f) (take i granted) (f0 ∷ []) in
    elim (cases_eq f f0) [
      | inl same ↦
          let new' : holds (take i granted) f0 ≡ false = next_is_new granted i d rising lt in
          let yes : holds (take (i + 1) granted) f ≡ true =
          more ∙ or_right (holds (take i granted) f) (list_any (λ y. y == f) (f0 ∷ [])) (or_left (f0 == f) false (eq-eqb f0 f (sym same))) in
          let at : slice_index (slice_set left f0 value) f ≡ value = ap (slice_index (slice_set left f0 value)) same ∙ get_or-set_same left f0 value 0 inside in
          omega (
            arith,
            at,
            h f0,
            ap {B = ℕ} (λ b. if b then slots else 0) new',
            ap {B = ℕ} (λ b. if b then slots else 0) yes,
            ap (slice_index old) same,
          )
      | inr other ↦
          let as_before : holds (take (i + 1) granted) f ≡ holds (take i granted) f =
          more ∙ or_not (holds (take i granted) f) (list_any (λ y. y == f) (f0 ∷ [])) (or_from (f0 == f) false (ne_eqb f0 f (λ e. other (sym e))) refl) in
          omega (arith, get_or-set_other left f0 f value 0 other, h f, ap {B = ℕ} (λ b. if b then slots else 0) as_before)
    ]

-- the next flow has as much left as before
pub next_enough : (old left granted : List ℕ) (slots i d : ℕ) → IsStrictlyIncreasing granted → i < length granted → SpentTo old left granted slots i →
    slice_index left (get_or granted i d) ≡ slice_index old (get_or granted i d)
next_enough old left granted slots i d rising lt h =
    omega (arith, h (get_or granted i d), ap {B = ℕ} (λ b. if b then slots else 0) (next_is_new granted i d rising lt))

pub spent_none : (old granted : List ℕ) (slots : ℕ) → SpentTo old old granted slots 0
spent_none old granted slots f = omega arith

-- ---- the values that stand there

-- v is what the flow has left, and u is what its coflow owes
pub spend_fits : (flows : List Flow) (old left owed granted : List ℕ) (slots i d v : ℕ) → IsStrictlyIncreasing granted → i < length granted → SpentTo old left granted slots i →
    slots ≤ slice_index old (get_or granted i d) → get_or granted i d < length left → v ≡ get_or left (get_or granted i d) v → slots ≤ v
spend_fits flows old left owed granted slots i d v rising lt h enough low value =
    let f = get_or granted i d in
    omega (arith, value, get_or_default left f v 0 low, next_enough old left granted slots i d rising lt h, enough)

pub owed_fits : (flows : List Flow) (old left owed granted : List ℕ) (slots i d u : ℕ) → IsStrictlyIncreasing granted → i < length granted → SpentTo old left granted slots i →
    IsTallied flows left owed → slots ≤ slice_index old (get_or granted i d) → get_or granted i d < length flows → coflow_of flows (get_or granted i d) < length owed →
    u ≡ get_or owed (coflow_of flows (get_or granted i d)) u → slots ≤ u
owed_fits flows old left owed granted slots i d u rising lt h t enough low below value =
    let f = get_or granted i d in
    omega (
      arith,
      value,
      get_or_default owed (coflow_of flows f) u 0 below,
      owes_as_much flows left owed f t low below,
      next_enough old left granted slots i d rising lt h,
      enough,
    )

pub spend_on : (flows : List Flow) (old left owed granted : List ℕ) (slots i d v u : ℕ) → IsStrictlyIncreasing granted → i < length granted → SpentTo old left granted slots i →
    IsTallied flows left owed → slots ≤ slice_index old (get_or granted i d) → get_or granted i d < length flows → coflow_of flows (get_or granted i d) < length owed →
    v ≡ get_or left (get_or granted i d) v → u ≡ get_or owed (coflow_of flows (get_or granted i d)) u →
    IsTallied flows (slice_set left (get_or granted i d) (v - slots)) (slice_set owed (coflow_of flows (get_or granted i d)) (u - slots))
    × SpentTo old (slice_set left (get_or granted i d) (v - slots)) granted slots (i + 1)
spend_on flows old left owed granted slots i d v u rising lt h t enough low below is_v is_u =
    let f = get_or granted i d in
    let c = coflow_of flows f in
    let in_left : f < length left = omega (arith, low, t.each_flow) in
    let here_v : slice_index left f ≡ v = sym (is_v ∙ get_or_default left f v 0 in_left) in
    let here_u : slice_index owed c ≡ u = sym (is_u ∙ get_or_default owed c u 0 below) in
    let as_much : slots ≤ slice_index left f = omega (arith, next_enough old left granted slots i d rising lt h, enough) in (
      subst (λ x. IsTallied flows (slice_set left f (v - slots)) (slice_set owed c (x - slots))) here_u
          (subst (λ x. IsTallied flows (slice_set left f (x - slots)) (slice_set owed c (slice_index owed c - slots))) here_v
          (tallied_spent flows left owed f slots t low below as_much)),
      subst (λ x. SpentTo old (slice_set left f (x - slots)) granted slots (i + 1)) here_v (spent_next old left granted slots i d rising lt in_left h),
    )
