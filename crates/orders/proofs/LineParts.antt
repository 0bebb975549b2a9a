-- The parts of a line, as the code reads them.
use Rattle.std.proofs.Common.{◌≡◌, ℕ, List, Some, None, true, false, refl}
use Rattle.std.specs.Prelude.{nat_eq}
use Rattle.std.specs.List.{list_any}
use Rattle.orders.specs.Checks.{id_checks}
use Rattle.orders.specs.declared.fault.OrderFault.TheVariants as fault
use Rattle.text_fields.specs.Checks.{first_fault}
use Rattle.text_fields.specs.Fields.{Text}
use Rattle.text_fields.specs.Numbers.{capped, is_number, number}

module _ (ids earlier : List ℕ) (line : ℕ) (field : Text) (form : is_number field ≡ true) where
  -- No coflow has the id.
  pub unknown_fails : (id : ℕ) → id ≡ capped (number field) → list_any (nat_eq (number field)) ids ≡ false →
      first_fault (id_checks ids earlier line field) ≡ Some (fault.UnknownId line id)
  unknown_fails id is none = rw (form, none, is) refl

  -- An earlier line has the id.
  pub repeated_fails : (id : ℕ) → id ≡ number field → list_any (nat_eq (number field)) ids ≡ true → list_any (nat_eq id) earlier ≡ true →
      first_fault (id_checks ids earlier line field) ≡ Some (fault.DuplicateId line id)
  repeated_fails id is some again = let here : list_any (nat_eq (number field)) earlier ≡ true = rw (← is) again in rw (form, some, here, is) refl

  -- The id is a new one.
  pub new_passes : (id : ℕ) → id ≡ number field → list_any (nat_eq (number field)) ids ≡ true → list_any (nat_eq id) earlier ≡ false →
      first_fault (id_checks ids earlier line field) ≡ None
  new_passes id is some fresh = let here : list_any (nat_eq (number field)) earlier ≡ false = rw (← is) fresh in rw (form, some, here) refl
