-- An order that is read after the trace and the weights: why there is none, its turn, and that it is good.
use Rattle.std.proofs.Common.{◌≡◌, ℕ, ◌≤◌, List, Option, Some, None, sym, subst}
use Rattle.std.specs.Prelude.{IfSome}
use Rattle.command_words.specs.Jobs.{order_name, report_name, trace_name}
use Rattle.command_words.specs.Words.{Said}
use Rattle.coflow_units.specs.declared.limits.TheConstants.{MAX_TEXT}
use Rattle.flow_table.specs.Table.{TableFacts}
use Rattle.orders.specs.declared.fault.OrderFault.{OrderFault}
use Rattle.outside.specs.declared.shelf.Place4.TheVariants as place
use Rattle.outside.specs.Shelf.{Told, bytes_of}
use Rattle.command_files.specs.declared.status.Status.{Status}
use Rattle.command_files.specs.declared.status.Status.TheVariants as status
use Rattle.command_files.specs.Causes.{FilesBadOrder, FilesGiveOrder, FilesGiveTable, HasCauseInFiles, IsGiven}
use Rattle.command_files.specs.FileCauses.{NameFailed}
use Rattle.command_files.specs.Inputs.{IsInput, bytes_if}
use Rattle.command_files.specs.Limits.{most_bytes}
use Rattle.command_files.specs.OrderCauses.{HasOrderFault, IsOrderCause}
use Rattle.command_files.specs.Orders.{HasOrderText, IsOrderOf}
use Rattle.command_files.specs.ReportCauses.{ReportLimit}
use Rattle.command_files.specs.Shelves.{AreReadOut, IsAsBefore, KeepsFiles, KeepsOthers, OfBoth}
use Rattle.command_files.specs.Turns.{FilesInTurn}
use Rattle.command_files.proofs.CauseFacts.{long_other, other_failed}
use Rattle.command_files.proofs.FileTurns.{other_in_turn}
use Rattle.command_files.proofs.LiveCauses.{GiveTableAs, table_as}
use Rattle.command_files.proofs.ShelfFacts.{rose_before, told_before, with_both}

module _ (before mid_count now : ℕ) (old mid new : Option Told) (said : Said) (name : List ℕ) (table : TableFacts) (weights : List ℕ) (is : report_name said.job ≡ Some name)
    (named : order_name said.job ≡ Some name) (keeps : KeepsFiles old mid) (input : IsInput old (trace_name said.job) said.weights said.unit table weights)
    (given : IfSome old (FilesGiveTable said)) where
  gives : IfSome old (GiveTableAs table said)
  gives = table_as old said table weights input given

  bad_order : (fault : OrderFault) → IfSome mid (λ t. HasOrderFault table.ids (Some (bytes_of t name)) fault) → IfSome old (FilesBadOrder said fault)
  bad_order fault h =
      with_both old (GiveTableAs table said) (λ t. HasOrderFault table.ids (bytes_if t (Some name)) fault) (FilesBadOrder said fault)
      (λ t (g, same) bad. (
        g,
        subst (λ (o : Option (List ℕ)). HasOrderFault g.table.ids (bytes_if t o) fault) (sym named)
            (subst (λ (x : TableFacts). HasOrderFault x.ids (bytes_if t (Some name)) fault) (sym same) bad),
      )) gives
      (told_before old mid (Some name) (λ b. HasOrderFault table.ids b fault) keeps h)

  pub from_order : (IsBad : List ℕ → ℕ → Type 0) (s : Status) → most_bytes said.job ≡ MAX_TEXT → before ≤ mid_count → IsOrderCause table.ids mid_count now mid new name s →
      HasCauseInFiles IsBad before now old new said s
  from_order IsBad (status.BadOrder fault) most le (form, h) = (form, subst IsGiven (sym named) tt, bad_order fault h)
  from_order IsBad (status.Limit which count) most le (may, h) = (
    may said.job,
    long_other old mid said name which count is keeps given
        (subst (λ (n : ℕ). IfSome mid (λ t. ReportLimit n (Some (bytes_of t name)) which count)) (sym most) h),
  )
  from_order IsBad (status.ReadFault count) most le (one, rose, failed) =
      (one, rose_before before mid_count now le rose, other_failed old mid new said name is keeps given failed)
  from_order IsBad status.NoMemory most le h = tt
  from_order IsBad status.Ok most le h = absurd h
  from_order IsBad status.No most le h = absurd h
  from_order IsBad status.Usage most le h = absurd h
  from_order IsBad status.UnknownPolicy most le h = absurd h
  from_order IsBad (status.BadTrace fault) most le h = absurd h
  from_order IsBad (status.BadWeights fault) most le h = absurd h
  from_order IsBad (status.BadReport line) most le h = absurd h
  from_order IsBad (status.BadScript line field) most le h = absurd h
  from_order IsBad (status.WriteFault count) most le h = absurd h
  from_order IsBad (status.WireFault port count) most le h = absurd h

  pub order_in_turn : (s : Status) → OfBoth old mid (AreReadOut (trace_name said.job) said.weights) → OfBoth old mid (IsAsBefore place.Script) →
      OfBoth mid new (KeepsOthers place.Report) → IsOrderCause table.ids mid_count now mid new name s → OfBoth old new (FilesInTurn said s)
  order_in_turn s out script others cause =
      other_in_turn old mid new said name s is keeps given out script others
      (λ count e. failed count (subst (λ (x : Status). IsOrderCause table.ids mid_count now mid new name x) e cause))
    where
      failed : (count : ℕ) → IsOrderCause table.ids mid_count now mid new name (status.ReadFault count) → OfBoth mid new (NameFailed name)
      failed count (one, rose, named) = named

  -- the files give a table, and an order of its coflows
  pub order_good : (order : List ℕ) → IsOrderOf mid name table.ids order → IfSome old (FilesGiveOrder said)
  order_good order read =
      with_both old (GiveTableAs table said) (λ t. HasOrderText table.ids (bytes_if t (Some name))) (FilesGiveOrder said)
      (λ t (g, same) text. (
        g,
        subst (λ (o : Option (List ℕ)). HasOrderText g.table.ids (bytes_if t o)) (sym named)
            (subst (λ (x : TableFacts). HasOrderText x.ids (bytes_if t (Some name))) (sym same) text),
      )) gives
      (told_before old mid (Some name) (HasOrderText table.ids) keeps (there mid read.reads))
    where
      there : (m : Option Told) → IfSome m (λ t. read.text ≡ bytes_of t name) → IfSome m (λ t. HasOrderText table.ids (Some (bytes_of t name)))
      there None h = tt
      there (Some t) h = subst (λ (xs : List ℕ). HasOrderText table.ids (Some xs)) h read.is_text
