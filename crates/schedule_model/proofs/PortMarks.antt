-- The table of the ports that the flows of a slot use, from one slot to the next.
use Rattle.std.proofs.Common.{◌≡◌, ℕ, ◌+◌, ◌≤◌, ◌<◌, ◌⊎◌, inl, inr, Bool, true, false, List, [], length, get_or, set, take, Contains, sym, ap, subst, ◌∙◌, arith}
use Rattle.std.specs.Prelude.{◌↔◌, All, IsTrue, Option}
use Rattle.std.proofs.lemmas.List.{get_or_past, get_or-set_same, get_or-set_other}
use Rattle.std.proofs.lemmas.List.Elements.{All-contains, All-weaker}
use Rattle.std.proofs.lemmas.Bool.{cases_eq, cases_lt, false≢true}
use Rattle.coflow_units.specs.declared.fabric.Flow.{Flow}
use Rattle.coflow_units.specs.declared.fabric.Side.{Side}
use Rattle.coflow_units.specs.declared.fabric.Side.TheVariants.{Ingress, Egress}
use Rattle.coflow_units.specs.Flows.{end_at}
use Rattle.coflow_units.specs.Schedule.{IsClear}
use Rattle.coflow_units.proofs.Sums.{nothing_in}
use Rattle.coflow_units.specs.declared.plan.Run.{Run}
use Rattle.run_list.specs.Runs.{flows_before, without}
use Rattle.schedule_model.specs.Repeat.{Follows, IsTaken, Marks, Repeats, Uses, end_number}
use Rattle.schedule_model.specs.RunList.{IsKept, slots_in}
use Rattle.schedule_model.proofs.Changes.{before_holds_so_far, in_both_or_one, run_at_place, without_from}
use Rattle.schedule_model.proofs.RepeatSteps.{IsLeast, same_least, uses_earlier, uses_here, uses_split}

-- the mark of one port is taken away
pub free_more : (flows : List Flow) (side : Side) (left : List ℕ) (used old : List Bool) (k p q : ℕ) → k < length left → p ≡ end_number flows side (get_or left k 0) →
    p < length used → (IsTrue (get_or used q false) ↔ (IsTrue (get_or old q false) × (Uses flows side (take k left) q → ⊥))) →
    IsTrue (get_or (set used p false) q false) ↔ (IsTrue (get_or old q false) × (Uses flows side (take (k + 1) left) q → ⊥))
free_more flows side left used old k p q lt e inside before = elim (cases_eq q p) [
  | inl same ↦
      let off : get_or (set used p false) q false ≡ false = ap (λ n. get_or (set used p false) n false) same ∙ get_or-set_same used p false false inside in (
        (λ on. absurd (false≢true (sym off ∙ on))),
        (λ both. absurd (both.1 (uses_here flows side left k q lt (same ∙ e)))),
      )
  | inr ne ↦
      let same = get_or-set_other used p q false false ne in (
        (λ on.
            let (was, none) = before.0 (sym same ∙ on) in (
              was,
              (λ uses. elim (uses_split flows side left k q lt uses) [
                | inl earlier ↦ none earlier
                | inr here ↦ ne (sym (e ∙ here))
              ]),
            )),
        (λ both. same ∙ before.1 (both.0, (λ uses. both.1 (uses_earlier flows side left k q lt uses)))),
      )
]

-- one port gets a mark
pub take_one_more : (flows : List Flow) (side : Side) (new : List ℕ) (used old : List Bool) (k p q : ℕ) → k < length new → p ≡ end_number flows side (get_or new k 0) →
    p < length used → (IsTrue (get_or used q false) ↔ (IsTrue (get_or old q false) ⊎ Uses flows side (take k new) q)) →
    IsTrue (get_or (set used p true) q false) ↔ (IsTrue (get_or old q false) ⊎ Uses flows side (take (k + 1) new) q)
take_one_more flows side new used old k p q lt e inside before = elim (cases_eq q p) [
  | inl same ↦
      let on : get_or (set used p true) q false ≡ true = ap (λ n. get_or (set used p true) n false) same ∙ get_or-set_same used p true false inside in (
        (λ t. inr (uses_here flows side new k q lt (same ∙ e))),
        (λ either. on),
      )
  | inr ne ↦
      let same = get_or-set_other used p q true false ne in (
        (λ on. elim (before.0 (sym same ∙ on)) [
          | inl was ↦ inl was
          | inr uses ↦ inr (uses_earlier flows side new k q lt uses)
        ]),
        (λ either. same ∙ before.1 (elim either [
          | inl was ↦ inl was
          | inr uses ↦ elim (uses_split flows side new k q lt uses) [
            | inl earlier ↦ inr earlier
            | inr here ↦ absurd (ne (sym (e ∙ here)))
          ]
        ])),
      )
]

-- the port has a mark already
pub take_one_same : (flows : List Flow) (side : Side) (new : List ℕ) (used old : List Bool) (k p q : ℕ) → k < length new → p ≡ end_number flows side (get_or new k 0) →
    IsTrue (get_or used p false) → (IsTrue (get_or used q false) ↔ (IsTrue (get_or old q false) ⊎ Uses flows side (take k new) q)) →
    IsTrue (get_or used q false) ↔ (IsTrue (get_or old q false) ⊎ Uses flows side (take (k + 1) new) q)
take_one_same flows side new used old k p q lt e on before = (
  (λ t. elim (before.0 t) [
    | inl was ↦ inl was
    | inr uses ↦ inr (uses_earlier flows side new k q lt uses)
  ]),
  (λ either. elim either [
    | inl was ↦ before.1 (inl was)
    | inr uses ↦ elim (uses_split flows side new k q lt uses) [
      | inl earlier ↦ before.1 (inr earlier)
      | inr here ↦ subst (λ n. IsTrue (get_or used n false)) (e ∙ here) on
    ]
  ]),
)

-- a port with a mark is in the table
marked_inside : (used : List Bool) (p : ℕ) → IsTrue (get_or used p false) → p < length used
marked_inside used p on = elim (cases_lt p (length used)) [
  | inl lt ↦ lt
  | inr le ↦ absurd (false≢true (sym (get_or_past used p false le) ∙ on))
]

-- the table after the ports of the flows that left are free, and then after those of the new ones are taken
module _ (flows : List Flow) (side : Side) (before slot left new : List ℕ) (used freed taken : List Bool) (next : Follows flows side before slot left new used)
    (same : length freed ≡ length used) (same' : length taken ≡ length freed)
    (free : (p : ℕ) → p < length used → IsTrue (get_or freed p false) ↔ (IsTrue (get_or used p false) × (Uses flows side left p → ⊥)))
    (take : (p : ℕ) → p < length freed → IsTrue (get_or taken p false) ↔ (IsTrue (get_or freed p false) ⊎ Uses flows side new p)) where
  in_new : (f : ℕ) → Contains new f → Contains slot f × (Contains before f → ⊥)
  in_new f has = without_from slot before f (subst (λ l. Contains l f) next.new_is has)

  old_or_new : (f : ℕ) → Contains slot f → Contains before f ⊎ Contains new f
  old_or_new f has = subst (λ l. Contains before f ⊎ Contains l f) (sym next.new_is) (in_both_or_one slot before f has)

  in_left : (f : ℕ) → Contains left f → Contains before f × (Contains slot f → ⊥)
  in_left f has = without_from before slot f (subst (λ l. Contains l f) next.left_is has)

  here_or_left : (f : ℕ) → Contains before f → Contains slot f ⊎ Contains left f
  here_or_left f has = subst (λ l. Contains slot f ⊎ Contains l f) (sym next.left_is) (in_both_or_one before slot f has)

  -- the ports that stay taken are those of the flows that stay
  stays_from : (p : ℕ) → IsTrue (get_or freed p false) → (f : ℕ) × Contains before f × Contains slot f × (end_number flows side f ≡ p)
  stays_from p on =
      let inside : p < length used = omega (arith, marked_inside freed p on) in
      let (was, none) = (free p inside).0 on in
      let (f, has, at) = (next.marks p inside).0 was in
      elim (here_or_left f has) [
        | inl also ↦ (f, has, also, at)
        | inr gone ↦ absurd (none (f, gone, at))
      ]

  stays_to : (p f : ℕ) → p < length used → Contains before f → Contains slot f → end_number flows side f ≡ p → IsTrue (get_or freed p false)
  stays_to p f inside has also at = (free p inside).1 (
    (next.marks p inside).1 (f, has, at),
    (λ (g, left_has, at').
        let (was, lacks) = in_left g left_has in
        elim (cases_eq f g) [
          | inl e ↦ lacks (subst (Contains slot) e also)
          | inr ne ↦ next.once p (record { one = f; other = g; apart = ne; has_one = has; has_other = was; one_uses = at; other_uses = at' })
        ]),
  )

  pub marks_next : Marks flows side slot taken
  marks_next p in' =
      let inside : p < length freed = omega (arith, in') in
      let inside' : p < length used = omega (arith, in') in (
        (λ on. elim ((take p inside).0 on) [
          | inl stays ↦ let (f, has, also, at) = stays_from p stays in (f, also, at)
          | inr (f, has, at) ↦ (f, (in_new f has).0, at)
        ]),
        (λ (f, has, at). (take p inside).1 (elim (old_or_new f has) [
          | inl also ↦ inl (stays_to p f inside' also has at)
          | inr came ↦ inr (f, came, at)
        ])),
      )

  taken_repeats : (p : ℕ) → IsTaken flows side freed new p → Repeats flows side slot p
  taken_repeats p (inl (on, (g, has, at))) =
      let (f, was, also, at') = stays_from p on in
      let (here, lacks) = in_new g has in
      record { one = f; other = g; apart = λ e. lacks (subst (Contains before) e was); has_one = also; has_other = here; one_uses = at'; other_uses = at }
  taken_repeats p (inr twice) = record {
    one = twice.one;
    other = twice.other;
    apart = twice.apart;
    has_one = (in_new twice.one twice.has_one).0;
    has_other = (in_new twice.other twice.has_other).0;
    one_uses = twice.one_uses;
    other_uses = twice.other_uses;
  }

  repeats_taken : All (λ f. f < length flows) new → All (λ (x : Flow). end_at side x < length used) flows → (p : ℕ) → Repeats flows side slot p → IsTaken flows side freed new p
  repeats_taken names ports p twice =
      let place = λ (f : ℕ) (has : Contains new f) (at : end_number flows side f ≡ p).
      let h : p < length used = omega (arith, ports f record { coflow = 0; ingress = 0; egress = 0; units = 0 } (All-contains (λ x. x < length flows) new f names has), at) in h in
      elim (old_or_new twice.one twice.has_one) [
        | inl one ↦ elim (old_or_new twice.other twice.has_other) [
          | inl other ↦ absurd (next.once p (record {
            one = twice.one;
            other = twice.other;
            apart = twice.apart;
            has_one = one;
            has_other = other;
            one_uses = twice.one_uses;
            other_uses = twice.other_uses;
          }))
          | inr other ↦ inl (stays_to p twice.one (place twice.other other twice.other_uses) one twice.has_one twice.one_uses, (twice.other, other, twice.other_uses))
        ]
        | inr one ↦ elim (old_or_new twice.other twice.has_other) [
          | inl other ↦ inl (stays_to p twice.other (place twice.one one twice.one_uses) other twice.has_other twice.other_uses, (twice.one, one, twice.one_uses))
          | inr other ↦ inr (record {
            one = twice.one;
            other = twice.other;
            apart = twice.apart;
            has_one = one;
            has_other = other;
            one_uses = twice.one_uses;
            other_uses = twice.other_uses;
          })
        ]
      ]

  pub least_next : (least : Option ℕ) → All (λ f. f < length flows) new → All (λ (x : Flow). end_at side x < length used) flows →
      IsLeast (IsTaken flows side freed new) least → IsLeast (Repeats flows side slot) least
  least_next least names ports is = same_least (IsTaken flows side freed new) (Repeats flows side slot) least taken_repeats (repeats_taken names ports) is

-- no two flows of a clear slot use one port
clear_once : (flows : List Flow) (side : Side) (slot : List ℕ) → IsClear flows slot → (p : ℕ) → Repeats flows side slot p → ⊥
clear_once flows Ingress slot clear p twice = twice.apart (clear.apart twice.one twice.other twice.has_one twice.has_other (inl (twice.one_uses ∙ sym twice.other_uses)))
clear_once flows Egress slot clear p twice = twice.apart (clear.apart twice.one twice.other twice.has_one twice.has_other (inr (twice.one_uses ∙ sym twice.other_uses)))

none_once : (flows : List Flow) (side : Side) (p : ℕ) → Repeats flows side [] p → ⊥
none_once flows side p twice = nothing_in twice.one twice.has_one

-- the next run of a schedule whose slots so far are clear
pub follows_at : (flows : List Flow) (side : Side) (runs : List Run) (k : ℕ) (left new : List ℕ) (used items : List Bool) → IsKept runs → k ≤ length runs →
    All (IsClear flows) (slots_in (take k runs)) → left ≡ without (flows_before runs k) (run_at_place runs k).flows →
    new ≡ without (run_at_place runs k).flows (flows_before runs k) → used ≡ items → Marks flows side (flows_before runs k) items →
    Follows flows side (flows_before runs k) (run_at_place runs k).flows left new used
follows_at flows side runs k left new used items kept le clear left_is new_is same marks = record {
  left_is = left_is;
  new_is = new_is;
  marks = subst (Marks flows side (flows_before runs k)) (sym same) marks;
  once = before_holds_so_far (λ slot. (p : ℕ) → Repeats flows side slot p → ⊥) runs k kept le (none_once flows side)
      (All-weaker (IsClear flows) (λ slot. (p : ℕ) → Repeats flows side slot p → ⊥) (λ slot is. clear_once flows side slot is) (slots_in (take k runs)) clear);
}
