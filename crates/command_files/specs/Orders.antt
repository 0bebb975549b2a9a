-- The order of a file.
use Rattle.std.specs.Prelude.{◌≡◌, ℕ, ◌≤◌, List, Option, Some, None, IfSome, length}
use Rattle.coflow_units.specs.declared.limits.TheConstants.{MAX_TEXT}
use Rattle.orders.specs.Orders.{order_in, text_checks}
use Rattle.outside.specs.Shelf.{Told, bytes_of}
use Rattle.text_fields.specs.Checks.{first_fault}

-- the text is that of an order of the coflows of these ids: it is short, and all its checks hold
pub record IsOrderText (ids text : List ℕ) : Type 0 where
  pub short : length text ≤ MAX_TEXT
  pub passes : first_fault (text_checks text ids) ≡ None

-- An order that was read, of the coflows of these ids: some text gives it. Where the bytes under its name are told, they
-- are that text.
pub record IsOrderOf (told : Option Told) (name : List ℕ) (ids : List ℕ) (order : List ℕ) : Type 0 where
  pub text : List ℕ
  pub is_text : IsOrderText ids text
  pub order_is : order ≡ order_in text ids
  pub reads : IfSome told (λ t. text ≡ bytes_of t name)

-- there is a name of an order, and this is the order
abbrev pub IsOrderIfNamed : Option Told → Option (List ℕ) → List ℕ → List ℕ → Type 0
IsOrderIfNamed told None ids order = ⊥
IsOrderIfNamed told (Some name) ids order = IsOrderOf told name ids order

-- there is a file of an order, and it has the text of one
abbrev pub HasOrderText : List ℕ → Option (List ℕ) → Type 0
HasOrderText ids None = ⊥
HasOrderText ids (Some text) = IsOrderText ids text
