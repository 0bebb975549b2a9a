-- The meanings of the rankers of this crate.
use Rattle.std.specs.Prelude.{◌≡◌, ℕ, ◌*◌, ◌/◌, ◌^◌, ◌<◌, ◌≤◌, ◌==◌, if◌then◌else◌, List, [], codes, length, slice_index, slice_set}
use Rattle.std.specs.List.{slice_index_or}
use Rattle.rankers.specs.ByKey.{by_key, key_in}
use Rattle.rankers.specs.FactsTold.{FactsTold, coflows_in}
use Rattle.rankers.specs.Meaning.{Meaning}

-- a ranker that holds nothing
abbrev pub fixed : List ℕ → (FactsTold → List ℕ) → Meaning
fixed name answer = record {
  name = name;
  held = [];
  answer = λ held facts. answer facts;
  asked = λ held facts. held;
  noted = λ held coflow slot. held;
}

-- the order by bottleneck, select, scale, iterate
abbrev pub bssi : Meaning
bssi = fixed (codes "bssi") (λ facts. facts.order)

-- the smallest effective bottleneck first
abbrev pub sebf : Meaning
sebf = fixed (codes "sebf") (λ facts. by_key (key_in facts.bottlenecks) (coflows_in facts))

-- The bottleneck of a coflow over its weight, in parts of 2^64, rounded down. Two ratios of weights up to 2^32 that are
-- not equal are at least one such part apart, so they are not equal here. A weight of 0 comes after all others.
abbrev pub ratio_in : FactsTold → ℕ → ℕ
ratio_in facts c = if slice_index_or facts.weights c 0 == 0 then 2 ^ 105
    else slice_index_or facts.bottlenecks c 0 * 2 ^ 64 / slice_index_or facts.weights c 0

-- the smallest bottleneck over weight first
abbrev pub wsebf : Meaning
wsebf = fixed (codes "wsebf") (λ facts. by_key (ratio_in facts) (coflows_in facts))

-- Of two coflows of the order the earlier one has no greater bottleneck over weight, as the products tell exactly; and
-- where the ratios are equal it has the smaller number.
pub record GoesByRatio (facts : FactsTold) (order : List ℕ) : Type 0 where
  pub least : (k l : ℕ) → k < l → l < length order →
      slice_index facts.bottlenecks (slice_index order k) * slice_index facts.weights (slice_index order l) ≤
      slice_index facts.bottlenecks (slice_index order l) * slice_index facts.weights (slice_index order k)
  pub ties : (k l : ℕ) → k < l → l < length order →
      slice_index facts.bottlenecks (slice_index order k) * slice_index facts.weights (slice_index order l) ≡
      slice_index facts.bottlenecks (slice_index order l) * slice_index facts.weights (slice_index order k) →
      slice_index order k < slice_index order l

-- the first arrival first
abbrev pub fifo : Meaning
fifo = fixed (codes "fifo") (λ facts. by_key (key_in facts.arrivals) (coflows_in facts))

-- the least slot of the last note first; the list held has it for each coflow that there is room for
abbrev pub attained : List ℕ → Meaning
attained held = record {
  name = codes "attained";
  held = held;
  answer = λ held facts. by_key (key_in held) (coflows_in facts);
  asked = λ held facts. held;
  noted = λ held coflow slot. slice_set held coflow slot;
}
