-- What the bytes of an order give, and why they give nothing.
use Rattle.std.proofs.Common.{◌≡◌, ℕ, ◌^◌, ◌≤◌, ◌<◌, List, Option, Some, None, Err, length, sym, ap, subst, ◌∙◌}
use Rattle.std.specs.Prelude.{IfSome}
use Rattle.orders.specs.Checks.{Answers}
use Rattle.orders.specs.Orders.{order_in, text_checks}
use Rattle.orders.specs.declared.fault.OrderFault.{OrderFault}
use Rattle.orders.specs.declared.fault.OrderFault.TheVariants as order_fault
use Rattle.outside.specs.Shelf.{Told, bytes_of}
use Rattle.text_fields.specs.Checks.{first_fault}
use Rattle.command_files.specs.declared.status.Status.{Status}
use Rattle.command_files.specs.declared.status.Status.TheVariants as status
use Rattle.command_files.specs.Faults.{IsStatusOfOrder}
use Rattle.command_files.specs.FileCauses.{IsFileCause}
use Rattle.command_files.specs.OrderCauses.{HasOrderFault, IsOrderCause, IsOrderForm}
use Rattle.command_files.specs.Orders.{IsOrderOf}
use Rattle.command_files.specs.ReportCauses.{ReportLimit}
use Rattle.command_files.specs.Shelves.{HasBytes, KeepsFiles}
use Rattle.command_files.proofs.LimitFacts.{text_may}
use Rattle.command_files.proofs.ScriptFacts.{IsTheText}
use Rattle.command_files.proofs.ShelfFacts.{told_before}

pub order_of_file : (ids : List ℕ) (old : Option Told) (name bytes lent order : List ℕ) → HasBytes old name bytes → lent ≡ bytes → length bytes ≤ 2 ^ 26 →
    first_fault (text_checks lent ids) ≡ None → order ≡ order_in lent ids → IsOrderOf old name ids order
order_of_file ids old name bytes lent order has e short passes is = record {
  text = bytes;
  is_text = record { short = short; passes = ap (λ (xs : List ℕ). first_fault (text_checks xs ids)) (sym e) ∙ passes };
  order_is = is ∙ ap (λ (xs : List ℕ). order_in xs ids) e;
  reads = has;
}

pub order_before : (ids : List ℕ) (old mid : Option Told) (name order : List ℕ) → KeepsFiles old mid → IsOrderOf mid name ids order → IsOrderOf old name ids order
order_before ids old mid name order keeps is = record {
  text = is.text;
  is_text = is.is_text;
  order_is = is.order_is;
  reads = told_before old mid (Some name) (IsTheText is.text) keeps is.reads;
}

module _ (ids : List ℕ) (before now : ℕ) (old new : Option Told) (name : List ℕ) where
  order_has : (told : Option Told) (bytes lent : List ℕ) (fault : OrderFault) → HasBytes told name bytes → lent ≡ bytes → length bytes ≤ 2 ^ 26 →
      first_fault (text_checks lent ids) ≡ Some fault → IfSome told (λ t. HasOrderFault ids (Some (bytes_of t name)) fault)
  order_has None bytes lent fault has e short first = tt
  order_has (Some t) bytes lent fault has e short first =
      (subst (λ (xs : List ℕ). length xs ≤ 2 ^ 26) has short, ap (λ (xs : List ℕ). first_fault (text_checks xs ids)) (sym (e ∙ has)) ∙ first)

  bad_order : (bytes lent : List ℕ) (fault : OrderFault) (s : Status) → IsOrderForm fault → HasBytes old name bytes → lent ≡ bytes → length bytes ≤ 2 ^ 26 →
      first_fault (text_checks lent ids) ≡ Some fault → s ≡ status.BadOrder fault → IsOrderCause ids before now old new name s
  bad_order bytes lent fault s form has e short first is =
      subst (λ (x : Status). IsOrderCause ids before now old new name x) (sym is) (form, order_has old bytes lent fault has e short first)

  -- why what was read is no order
  pub order_cause : (bytes lent : List ℕ) (P : List ℕ → Type 0) (fault : OrderFault) (s : Status) → HasBytes old name bytes → lent ≡ bytes → length bytes ≤ 2 ^ 26 →
      Answers (text_checks lent ids) P (Err fault) → IsStatusOfOrder fault s → IsOrderCause ids before now old new name s
  order_cause bytes lent P (order_fault.BadLine line field) s has e short first is = bad_order bytes lent (order_fault.BadLine line field) s tt has e short first is
  order_cause bytes lent P (order_fault.UnknownId line id) s has e short first is = bad_order bytes lent (order_fault.UnknownId line id) s tt has e short first is
  order_cause bytes lent P (order_fault.DuplicateId line id) s has e short first is = bad_order bytes lent (order_fault.DuplicateId line id) s tt has e short first is
  order_cause bytes lent P (order_fault.Missing have want) s has e short first is = bad_order bytes lent (order_fault.Missing have want) s tt has e short first is
  order_cause bytes lent P order_fault.NoMemory s has e short first is = subst (λ (x : Status). IsOrderCause ids before now old new name x) (sym is) tt

  pub file_to_order : (s : Status) → IsFileCause 67108864 before now old new name s → IsOrderCause ids before now old new name s
  file_to_order (status.Limit which count) (text, number, long) = (text_may which text, go old long) where
    go : (o : Option Told) → IfSome o (λ t. 67108864 < length (bytes_of t name)) → IfSome o (λ t. ReportLimit 67108864 (Some (bytes_of t name)) which count)
    go None h = tt
    go (Some t) h = (text, number, h)
  file_to_order (status.ReadFault count) h = h
  file_to_order status.NoMemory h = tt
  file_to_order status.Ok h = absurd h
  file_to_order status.No h = absurd h
  file_to_order status.Usage h = absurd h
  file_to_order status.UnknownPolicy h = absurd h
  file_to_order (status.BadTrace fault) h = absurd h
  file_to_order (status.BadWeights fault) h = absurd h
  file_to_order (status.BadReport line) h = absurd h
  file_to_order (status.BadScript line field) h = absurd h
  file_to_order (status.BadOrder fault) h = absurd h
  file_to_order (status.WriteFault count) h = absurd h
  file_to_order (status.WireFault port count) h = absurd h
