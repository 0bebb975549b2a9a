-- What keeps the grants, and what makes them the grants of a line.
use Rattle.std.proofs.Common.{◌≡◌, ℕ, ◌<◌, ◌⊎◌, inl, inr, List, length, Contains, sym, ap, subst, ◌∙◌, arith}
use Rattle.std.proofs.lemmas.Bool.{cases_eq, cases_lt}
use Rattle.coflow_units.specs.declared.fabric.Flow.{Flow}
use Rattle.coflow_units.specs.Flows.{coflow_of, SharesPort}
use Rattle.coflow_units.specs.Grants.{ComesBefore, IsBlocked, IsGrants}
use Rattle.coflow_units.proofs.Sums.{all_of_members}
use Rattle.coflow_units.proofs.LinePlaces.{not_itself}
use Rattle.matching.specs.Kept.{Graph, Meets, Touches, IsCovered, IsKept, IsClear, IsPutIn, IsEnded, IsLined, IsTold}

pub meets_or_not : (g : Graph) (r s : ℕ) → Meets g r s ⊎ (Meets g r s → ⊥)
meets_or_not g r s = elim (cases_eq (g.first r) (g.first s)) [
  | inl e ↦ inl (inl e)
  | inr ne ↦ elim (cases_eq (g.second r) (g.second s)) [
    | inl e ↦ inl (inr e)
    | inr ne' ↦ inr (λ m. elim m [ inl e ↦ ne e | inr e ↦ ne' e ])
  ]
]

-- ---- a port leaves

pub port_leaves : (g : Graph) (left : ℕ → ℕ) (granted waits more : ℕ → Type 0) (port : ℕ) → ((q : ℕ) → waits q → (q ≡ port) ⊎ more q) → IsClear g left granted port g.count →
    IsKept g left granted waits → IsKept g left granted more
port_leaves g left granted waits more port stays clear k = record {
  known = k.known;
  owed = k.owed;
  apart = k.apart;
  rest = λ r lt some. elim (k.rest r lt some) [
    | inl covered ↦ inl covered
    | inr (inl w) ↦ elim (stays (g.first r) w) [ inl e ↦ inl (clear r lt lt some (inl e)) | inr m ↦ inr (inl m) ]
    | inr (inr w) ↦ elim (stays (g.second r) w) [ inl e ↦ inl (clear r lt lt some (inr e)) | inr m ↦ inr (inr m) ]
  ];
}

-- ---- a rank goes in

abbrev Next : Graph → (ℕ → Type 0) → (ℕ → Type 0) → ℕ → Type 0
Next g after more r = IsCovered g after r ⊎ (more (g.first r) ⊎ more (g.second r))

covered_still : (g : Graph) (left : ℕ → ℕ) (granted after waits more : ℕ → Type 0) (port rank r : ℕ) → IsPutIn g left granted after waits more port rank → IsCovered g granted r →
    Next g after more r
covered_still g left granted after waits more port rank r p (s, has, le, meets) = elim (meets_or_not g s rank) [
  | inr out' ↦ inl (s, p.keeps s has out', le, meets)
  | inl out ↦ elim meets [
    | inl e ↦ elim (p.freed_first s has out) [
      | inl same ↦ inl (rank, p.in', omega (arith, p.later s has out, le), inl (sym same ∙ e))
      | inr m ↦ inr (inl (subst more e m))
    ]
    | inr e ↦ elim (p.freed_second s has out) [
      | inl same ↦ inl (rank, p.in', omega (arith, p.later s has out, le), inr (sym same ∙ e))
      | inr m ↦ inr (inr (subst more e m))
    ]
  ]
]

-- a rank at the port where another went in
at_port : (g : Graph) (left : ℕ → ℕ) (granted after waits more : ℕ → Type 0) (port rank r : ℕ) → IsPutIn g left granted after waits more port rank → r < g.count → 0 < left r →
    Touches g port r → IsCovered g after r
at_port g left granted after waits more port rank r p lt some at = elim (cases_lt r rank) [
  | inl less ↦
      let (s, has, le, meets) = p.clear r less lt some at in
      (s, p.keeps s has (λ m. omega (arith, p.later s has m, le, less)), le, meets)
  | inr more' ↦ (rank, p.in', more', same at p.here)
] where
  same : Touches g port r → Touches g port rank → Meets g rank r
  same (inl a) (inl b) = inl (b ∙ sym a)
  same (inl a) (inr b) = absurd (p.sides r rank lt p.known (a ∙ sym b))
  same (inr a) (inl b) = absurd (p.sides rank r p.known lt (b ∙ sym a))
  same (inr a) (inr b) = inr (b ∙ sym a)

pub rank_goes_in : (g : Graph) (left : ℕ → ℕ) (granted after waits more : ℕ → Type 0) (port rank : ℕ) → IsPutIn g left granted after waits more port rank →
    IsKept g left granted waits → IsKept g left after more
rank_goes_in g left granted after waits more port rank p k = record {
  known = λ r has. elim (p.from r has) [ inl e ↦ subst (λ n. n < g.count) (sym e) p.known | inr (old, _) ↦ k.known r old ];
  owed = λ r has. elim (p.from r has) [ inl e ↦ subst (λ n. 0 < left n) (sym e) p.owes | inr (old, _) ↦ k.owed r old ];
  apart = λ r s hr hs m. elim (p.from r hr) [
    | inl e ↦ elim (p.from s hs) [
      | inl e' ↦ e ∙ sym e'
      | inr (_, out') ↦ absurd (out' (turn s (subst (λ n. Meets g n s) e m)))
    ]
    | inr (old, out') ↦ elim (p.from s hs) [
      | inl e' ↦ absurd (out' (subst (λ n. Meets g r n) e' m))
      | inr (old', _) ↦ k.apart r s old old' m
    ]
  ];
  rest = λ r lt some. elim (k.rest r lt some) [
    | inl covered ↦ covered_still g left granted after waits more port rank r p covered
    | inr (inl w) ↦ elim (p.stays (g.first r) w) [ inl e ↦ inl (at_port g left granted after waits more port rank r p lt some (inl e)) | inr m ↦ inr (inl m) ]
    | inr (inr w) ↦ elim (p.stays (g.second r) w) [ inl e ↦ inl (at_port g left granted after waits more port rank r p lt some (inr e)) | inr m ↦ inr (inr m) ]
  ];
} where
  turn : (s : ℕ) → Meets g rank s → Meets g s rank
  turn s (inl e) = inl (sym e)
  turn s (inr e) = inr (sym e)

-- ---- a rank ends

pub rank_ends : (g : Graph) (left lower : ℕ → ℕ) (granted after waits more : ℕ → Type 0) (rank : ℕ) → IsEnded g left lower granted after waits more rank →
    IsKept g left granted waits → IsKept g lower after more
rank_ends g left lower granted after waits more rank p k = record {
  known = λ r has. k.known r (p.from r has).0;
  owed = λ r has. omega (arith, k.owed r (p.from r has).0, p.others r (p.from r has).1);
  apart = λ r s hr hs m. k.apart r s (p.from r hr).0 (p.from s hs).0 m;
  rest = λ r lt some. elim (cases_eq r rank) [
    | inl e ↦ absurd (omega (arith, p.ended, ap lower e, some))
    | inr ne ↦ elim (k.rest r lt (omega (arith, p.others r ne, some))) [
      | inl (s, has, le, meets) ↦ elim (cases_eq s rank) [
        | inr ne' ↦ inl (s, p.keeps s has ne', le, meets)
        | inl e ↦ elim meets [
          | inl same ↦ inr (inl (subst more (sym (ap g.first e) ∙ same) p.first))
          | inr same ↦ inr (inr (subst more (sym (ap g.second e) ∙ same) p.second))
        ]
      ]
      | inr (inl w) ↦ inr (inl (p.stays (g.first r) w))
      | inr (inr w) ↦ inr (inr (p.stays (g.second r) w))
    ]
  ];
}

-- ---- nothing waits

meets_shares : (flows : List Flow) (line : List ℕ) (left : ℕ → ℕ) (ports : ℕ) (number : ℕ → ℕ) (g : Graph) (r s : ℕ) → IsLined flows line left ports number g → r < g.count →
    s < g.count → Meets g r s → SharesPort flows (number r) (number s)
meets_shares flows line left ports number g r s l lr ls (inl e) = inl (sym (l.first_is r lr) ∙ e ∙ l.first_is s ls)
meets_shares flows line left ports number g r s l lr ls (inr e) = inr (omega (arith, l.second_is r lr, e, l.second_is s ls))

shares_meets : (flows : List Flow) (line : List ℕ) (left : ℕ → ℕ) (ports : ℕ) (number : ℕ → ℕ) (g : Graph) (r s : ℕ) → IsLined flows line left ports number g → r < g.count →
    s < g.count → SharesPort flows (number r) (number s) → Meets g r s
shares_meets flows line left ports number g r s l lr ls (inl e) = inl (l.first_is r lr ∙ e ∙ sym (l.first_is s ls))
shares_meets flows line left ports number g r s l lr ls (inr e) = inr (omega (arith, l.second_is r lr, e, l.second_is s ls))

pub kept_is_granted : (flows : List Flow) (line : List ℕ) (left : ℕ → ℕ) (ports : ℕ) (number : ℕ → ℕ) (g : Graph) (granted waits : ℕ → Type 0) (told : List ℕ) →
    IsLined flows line left ports number g → IsTold number granted told →
    ((p : ℕ) → waits p → ⊥) → IsKept g (λ r. left (number r)) granted waits → IsGrants flows line left told
kept_is_granted flows line left ports number g granted waits told l t none k = record {
  ascending = t.ascending;
  flow = all_of_members (λ f. f < length flows) told (λ f has. let (r, is, e) = t.from f has in subst (λ n. n < length flows) e (l.flow r (k.known r is)));
  in_line = all_of_members (λ f. Contains line (coflow_of flows f)) told (λ f has. let (r, is, e) = t.from f has in
      subst (λ n. Contains line (coflow_of flows n)) e (l.in_line r (k.known r is)));
  owed = λ f has. let (r, is, e) = t.from f has in subst (λ n. 0 < left n) e (k.owed r is);
  free = λ f has (f', has', before, shares).
      let (r, is, e) = t.from f has in
      let (s, is', e') = t.from f' has' in
      let meets = shares_meets flows line left ports number g s r l (k.known s is') (k.known r is)
      (subst (λ n. SharesPort flows n (number r)) (sym e') (subst (λ n. SharesPort flows f' n) (sym e) shares)) in
      let same : f' ≡ f = sym e' ∙ ap number (k.apart s r is' is meets) ∙ e in
      not_itself flows line f (subst (λ n. ComesBefore flows line n f) same before);
  rest = λ f lt in' some.
      let (r, low, e) = l.all f lt in' some in
      subst (λ n. Contains told n ⊎ IsBlocked flows line told n) e (held r low (k.rest r low (subst (λ n. 0 < left n) (sym e) some)));
} where
  held : (r : ℕ) → r < g.count → IsCovered g granted r ⊎ (waits (g.first r) ⊎ waits (g.second r)) → Contains told (number r) ⊎ IsBlocked flows line told (number r)
  held r lt (inl (s, is, le, meets)) = elim (cases_eq s r) [
    | inl e ↦ inl (subst (λ n. Contains told (number n)) e (t.all s is))
    | inr ne ↦ inr (number s, t.all s is, l.rises s r (omega arith) lt, meets_shares flows line left ports number g s r l (k.known s is) lt meets)
  ]
  held r lt (inr (inl w)) = absurd (none (g.first r) w)
  held r lt (inr (inr w)) = absurd (none (g.second r) w)
