use Rattle.std.proofs.Common.{◌≡◌, ◌<◌, ◌≤◌, ◌+◌, ℕ, List, inl, inr, Contains, get_or, length, set, sym, ap, subst, ◌∙◌, arith}
use Rattle.std.proofs.lemmas.Bool.{cases_eq, cases_lt}
use Rattle.std.proofs.lemmas.Grind.{common_steps, get_or_default_zero}
use Rattle.std.proofs.lemmas.List.{ext_get_or}
use Rattle.matching.proofs.SourceSteps.{IsAmongFirst, among_all}
use Rattle.matching.proofs.listing.Listing.change_each.Goals as goal

-- what holds at the first k ports, and at the next one, holds at the first k + 1
one_more : (xs shown at : List ℕ) (k n : ℕ) → n ≡ get_or xs k 0 → ((p : ℕ) → IsAmongFirst xs k p → get_or shown p 0 ≡ get_or at p 0) → get_or shown n 0 ≡ get_or at n 0 →
    (p : ℕ) → IsAmongFirst xs (k + 1) p → get_or shown p 0 ≡ get_or at p 0
one_more xs shown at k n is before here p (j, lt, lj, e) = elim (cases_lt j k) [
  | inl less ↦ before p (j, less, lj, e)
  | inr more ↦ subst (λ q. get_or shown q 0 ≡ get_or at q 0) (is ∙ ap (λ m. get_or xs m 0) (omega (arith, lt, more)) ∙ e) here
]

-- a port that is listed as it stands stays so where another one is listed as it stands
listed_too : (shown at : List ℕ) (n p : ℕ) → n < length shown → get_or shown p 0 ≡ get_or at p 0 → get_or (set shown n (get_or at n 0)) p 0 ≡ get_or at p 0
listed_too shown at n p lt same = elim (cases_eq p n) [ inl e ↦ grind (arith, common_steps) | inr ne ↦ grind (arith, common_steps) ]

pub loop-port-preserved-then-rank-index : goal.loop-port-preserved-then-rank-index
loop-port-preserved-then-rank-index c =
    let i = c.loop-port.invariant in
    let list = c.list-port-items in
    let k = c.loop-port.port-index in
    let n = get_or list.result.now k 0 in
    let n_is : n ≡ get_or c.args.ranks.now.sources.ports k 0 = ap (λ l. get_or l k 0) list.ensures.ports in
    let shown = c.loop-port.self.shown.items in
    let lt : k < length c.args.ranks.now.sources.ports = omega (arith, c.loop-port-test.true, ap length list.ensures.ports) in
    let inside : n < length shown = omega (arith, n_is, list.ensures.within k 0 lt, c.requires.ranks.source_room, i.room.shown) in
    record {
      room = i.room;
      listed = i.listed;
      done = one_more c.args.ranks.now.sources.ports shown c.args.at.now k n n_is i.done
          (sym (c.if-rank-index.true ∙ c.index.ensures ∙ get_or_default_zero shown n c.index.result.now inside));
    }

pub change-requires-clause-known : goal.change-requires-clause-known
change-requires-clause-known c = λ some.
    let list = c.list-port-items in
    let k = c.loop-port.port-index in
    let n = get_or list.result.now k 0 in
    let n_is : n ≡ get_or c.args.ranks.now.sources.ports k 0 = ap (λ l. get_or l k 0) list.ensures.ports in
    let lt : k < length c.args.ranks.now.sources.ports = omega (arith, c.loop-port-test.true, ap length list.ensures.ports) in
    elim (c.requires.side n (omega (arith, n_is, list.ensures.within k 0 lt, c.requires.ranks.source_room, c.requires.all))) [
      | inl none ↦ absurd (some none)
      | inr known ↦ known
    ]

pub loop-port-preserved : goal.loop-port-preserved
loop-port-preserved c =
    let i = c.loop-port.invariant in
    let list = c.list-port-items in
    let at = c.args.at.now in
    let k = c.loop-port.port-index in
    let n = get_or list.result.now k 0 in
    let xs = c.args.ranks.now.sources.ports in
    let n_is : n ≡ get_or xs k 0 = ap (λ l. get_or l k 0) list.ensures.ports in
    let old = c.loop-port.self.shown.items in
    let new = c.change.new.self.shown.items in
    let lt : k < length xs = omega (arith, c.loop-port-test.true, ap length list.ensures.ports) in
    let inside : n < length old = omega (arith, n_is, list.ensures.within k 0 lt, c.requires.ranks.source_room, i.room.shown) in
    let here : get_or (set old n (get_or at n 0)) n 0 ≡ get_or at n 0 = grind (arith, common_steps) in
    record {
      room = c.change.ensures.room;
      listed = c.change.ensures.listed;
      done = subst (λ (l : List ℕ). (p : ℕ) → IsAmongFirst xs (k + 1) p → get_or l p 0 ≡ get_or at p 0) (sym c.change.ensures.shown)
          (one_more xs (set old n (get_or at n 0)) at k n n_is (λ p among. listed_too old at n p inside (i.done p among)) here);
    }

pub returns-clause-shown : goal.returns-clause-shown
returns-clause-shown c =
    let i = c.loop-port.invariant in
    let ranks = c.args.ranks.now in
    let at = c.args.at.now in
    let shown = c.loop-port.self.shown.items in
    let all : length ranks.sources.ports ≤ c.loop-port.port-index = omega (arith, c.loop-port-test.false, ap length c.list-port-items.ensures.ports) in
    let size : length shown ≡ length at = omega (arith, i.room.shown, c.requires.all) in
    let done = λ (p : ℕ) (has : Contains ranks.sources.ports p). i.done p (among_all ranks.sources.ports c.loop-port.port-index p all has) in
    ext_get_or 0 shown at size
    (λ p lt. elim (c.requires.side p (omega (arith, lt, size))) [
      | inr (low, first) ↦ done p (subst (Contains ranks.sources.ports) first (c.requires.ranks.sources (get_or at p 0) low))
      | inl none ↦ elim (i.listed.side p lt) [
        | inl none' ↦ none' ∙ sym none
        | inr (low, first) ↦ done p (subst (Contains ranks.sources.ports) first (c.requires.ranks.sources (get_or shown p 0) low))
      ]
    ])
