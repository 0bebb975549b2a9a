-- The run that an opening makes.
use Rattle.std.proofs.Common.{◌≡◌, ℕ, ◌-◌, ◌⊎◌, inl, inr, List, [], ◌∷◌, ◌++◌, min, Contains, refl, ap, ◌∙◌, arith, Some}
use Rattle.std.proofs.lemmas.Bool.{cases_lt}
use Rattle.coflow_units.specs.Grants.{IsGrants, IsRunLength}
use Rattle.coflow_units.proofs.Sums.{in_first, in_tail}
use Rattle.journal.specs.declared.command.Entry.{Entry}
use Rattle.journal.specs.declared.command.Reply.{Reply}
use Rattle.journal.specs.declared.command.Reply.TheVariants.{Opened}
use Rattle.journal.specs.declared.opening.Opening.{Opening}
use Rattle.journal.specs.State.{owed, slot_end, State}
use Rattle.journal.specs.Runs.{granted, least_of, slots_for}
use Rattle.journal.specs.Fold.{after, state_of}
use Rattle.journal.specs.Journal.{line_of}
use Rattle.journal.proofs.Growth.{state_snoc}
use Rattle.journal.proofs.Instances.{are_the_grants}
use Rattle.journal.proofs.Sound.{least_below, least_each}

pub opened_grants : (o : Opening) (journal : List Entry) (e : Entry) (slot slots count : ℕ) → e.reply ≡ Opened slot slots count →
    ((state_of o (journal ++ e ∷ [])).run ≡ Some (record { first = slot; slots = slots; granted = granted o (state_of o journal); notes = [] })) ×
    IsGrants o.table.flows (line_of o journal) (owed o (state_of o journal)) (granted o (state_of o journal))
opened_grants o journal e slot slots count tells = (
  ap (λ (s : State). s.run) (state_snoc o journal e) ∙ ap (λ (r : Reply). (after o (state_of o journal) e.command r).run) tells,
  are_the_grants o.table.flows (line_of o journal) (owed o (state_of o journal)),
)

pub least_longest : (number : ℕ → ℕ) (fs : List ℕ) (n : ℕ) → (least_of number fs n ≡ n) ⊎ ((f : ℕ) × Contains fs f × (number f ≡ least_of number fs n))
least_longest number [] n = inl refl
least_longest number (f ∷ fs) n = elim (least_longest number fs (min n (number f))) [
  | inl e ↦ elim (cases_lt (number f) n) [
    | inl lt ↦ inr (f, in_first f fs, omega (arith, e, lt))
    | inr ge ↦ inl (omega (arith, e, ge))
  ]
  | inr h ↦ inr (h.0, in_tail f fs h.0 h.1, h.2)
]

pub run_length_is : (o : Opening) (s : State) (most : ℕ) → IsRunLength (owed o s) (granted o s) (min most (slot_end - s.next)) (slots_for o s most)
run_length_is o s most = record {
  asked = least_below (owed o s) (granted o s) (min most (slot_end - s.next));
  owed = λ f in'. least_each (owed o s) (granted o s) (min most (slot_end - s.next)) f in';
  longest = least_longest (owed o s) (granted o s) (min most (slot_end - s.next));
}
