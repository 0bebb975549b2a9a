-- A granted rank loses units, or ends.
use Rattle.std.proofs.Common.{◌≡◌, ◌≢◌, ℕ, ◌-◌, ◌<◌, inl, inr, List, length, get_or, set, Contains, sym, ap, ◌∙◌, arith}
use Rattle.std.specs.Prelude.{if◌then◌else◌, ◌==◌}
use Rattle.std.proofs.lemmas.Bool.{cases_eq, eq-eqb, ne_eqb}
use Rattle.std.proofs.lemmas.Grind.{get_or-set_at}
use Rattle.std.proofs.lemmas.List.{get_or-set_other}
use Rattle.matching.specs.Kept.{Graph, IsKept, IsEnded}
use Rattle.matching.specs.Waits.{IsPushed}
use Rattle.matching.specs.Board.{IsGraph, IsBoard, IsFreed, Stands}
use Rattle.matching.specs.Heads.{head_at, IsHeads, IsOwingBehind}
use Rattle.matching.proofs.RowSteps.{IsSameOwing}
use Rattle.matching.proofs.BoardSteps.{survived, remains, first_low, sides_apart, stands_at}

pub same_kept : (g : Graph) (left lower : ℕ → ℕ) (granted waits : ℕ → Type 0) → IsSameOwing g.count left lower → IsKept g left granted waits → IsKept g lower granted waits
same_kept g left lower granted waits same k = record {
  known = k.known;
  owed = λ r has. (same r (k.known r has)).0 (k.owed r has);
  apart = k.apart;
  rest = λ r lt some. k.rest r lt ((same r lt).1 some);
}

pub same_heads : (ports : ℕ) (g : Graph) (left lower : ℕ → ℕ) (heads : List ℕ) → IsSameOwing g.count left lower → IsHeads ports g left heads → IsHeads ports g lower heads
same_heads ports g left lower heads same h = record {
  size = h.size;
  head = λ p k lp lk. let hd = h.head p k lp lk in record {
    one = elim hd.one [ inl none ↦ inl none | inr (lt, owed, tp, tq) ↦ inr (lt, (same (head_at ports heads p k) lt).0 owed, tp, tq) ];
    least = λ r lr some tp tq. hd.least r lr ((same r lr).1 some) tp tq;
  };
}

pub same_behind : (g : Graph) (left lower : ℕ → ℕ) → IsSameOwing g.count left lower → IsOwingBehind g left → IsOwingBehind g lower
same_behind g left lower same b = λ r s less ls x y some. (same s ls).0 (b r s less ls x y ((same r (omega (arith, less, ls))).1 some))

-- one of them has fewer, and still some
pub lowered : (count : ℕ) (left : List ℕ) (r n : ℕ) → r < length left → 0 < n → 0 < get_or left r 0 → IsSameOwing count (λ q. get_or left q 0) (λ q. get_or (set left r n) q 0)
lowered count left r n lt some had = λ q _. elim (cases_eq q r) [
  | inl e ↦ (λ _. omega (arith, get_or-set_at left r q n 0 e lt, some), λ _. omega (arith, ap (λ x. get_or left x 0) e, had))
  | inr ne ↦ let same = get_or-set_other left r q n 0 ne in (λ h. omega (arith, same, h), λ h. omega (arith, same, h))
]

-- one of them has so many fewer, or none
pub set_less : (left : List ℕ) (rank units n : ℕ) → rank < length left → n ≡ get_or left rank 0 - units → (r : ℕ) →
    get_or (set left rank n) r 0 ≡ get_or left r 0 - (if r == rank then units else 0)
set_less left rank units n known is r = elim (cases_eq r rank) [
  | inl e ↦
      let t : get_or left r 0 - (if r == rank then units else 0) ≡ get_or left r 0 - units = ap (λ b. get_or left r 0 - (if b then units else 0)) (eq-eqb r rank e) in
      omega (arith, get_or-set_at left rank r n 0 e known, is, t, ap (λ x. get_or left x 0) e)
  | inr ne ↦
      let t : get_or left r 0 - (if r == rank then units else 0) ≡ get_or left r 0 - 0 = ap (λ b. get_or left r 0 - (if b then units else 0)) (ne_eqb r rank ne) in
      omega (arith, get_or-set_other left rank r n 0 ne, t)
]

-- what stands at another ingress is not the rank
pub stays_at : (ports : ℕ) (g : Graph) (at new waits more : List ℕ) (rank p : ℕ) → IsGraph ports g → IsBoard ports g at → Stands g at rank →
    IsFreed ports g at new waits more (g.first rank) → p < ports → p ≢ g.first rank → get_or new p 0 ≡ get_or at p 0
stays_at ports g at new waits more rank p gr b (lt, here) freed low ne =
    freed.kept p (omega (arith, low)) (λ e. elim (stands_at ports g at p rank b (omega (arith, low)) (λ x. omega (arith, x, lt, gr.few)) (e ∙ here)).1 [
      | inl x ↦ ne (sym x)
      | inr x ↦ omega (arith, x, low, gr.second_from rank lt)
    ])

pub goes_out : (ports : ℕ) (g : Graph) (left lower : ℕ → ℕ) (at new waits some more : List ℕ) (rank : ℕ) → IsGraph ports g → IsBoard ports g at → Stands g at rank →
    lower rank ≡ 0 → ((r : ℕ) → r ≢ rank → lower r ≡ left r) →
    IsFreed ports g at new waits some (g.first rank) → IsPushed some more (g.first rank) →
    IsEnded g left lower (Stands g at) (Stands g new) (λ p. Contains waits p) (λ p. Contains more p) rank
goes_out ports g left lower at new waits some more rank gr b (lt, here) ended others freed pushed = record {
  ended = ended;
  others = others;
  from = λ r (lr, at_r).
      let (old, ne) = survived ports g at new waits some (g.first rank) (g.first r) r gr freed (first_low ports g r gr lr) lr at_r in
      ((lr, old), λ e. ne (e ∙ sym here));
  keeps = λ r (lr, at_r) ne. (lr, remains ports g at new waits some (g.first rank) (g.first r) r freed (first_low ports g r gr lr) at_r (λ e. ne (e ∙ here)));
  stays = λ p has. pushed.keeps p (freed.stays p has);
  first = pushed.has;
  second = elim (freed.second rank lt here) [
    | inl e ↦ absurd (sides_apart ports g rank rank gr lt lt (sym e))
    | inr has ↦ pushed.keeps (g.second rank) has
  ];
}
