-- The value of a run of `live` is one whose text is read back.
use Rattle.std.proofs.Common.{◌≡◌, ℕ, ◌^◌, ◌+◌, ◌≤◌, ◌<◌, true, Some, List, [], ◌∷◌, ◌++◌, append-nil, length, map, get_or, sym, ap, ◌∙◌, subst, arith}
use Rattle.std.specs.Prelude.{All, AllPairs, Ok, sum_by}
use Rattle.std.specs.List.{range_with_len}
use Rattle.std.proofs.lemmas.List.{length-append, length-map}
use Rattle.std.proofs.lemmas.List.Elements.{All-head, All-map}
use Rattle.std.proofs.lemmas.List.FromFn.{length-map-range_with_len}
use Rattle.coflow_units.specs.declared.fabric.Flow.{Flow}
use Rattle.coflow_units.specs.declared.limits.TheConstants.{MAX_LIVE_UNITS, MAX_SLOT, MAX_TEXT, MAX_WEIGHT}
use Rattle.coflow_units.specs.Flows.{IsDistinct}
use Rattle.flow_table.specs.Table.{IsTable}
use Rattle.schedule_model.specs.RunList.{slots_in}
use Rattle.journal.specs.declared.command.Entry.{Entry}
use Rattle.journal.specs.declared.opening.Opening.{Opening}
use Rattle.journal.specs.Answer.{in_range}
use Rattle.journal.specs.Closed.{schedule_of}
use Rattle.journal.specs.Fold.{state_of}
use Rattle.journal.specs.Journal.{IsLegal, order_in, version_of}
use Rattle.journal.specs.Sound.{InRange}
use Rattle.journal.specs.State.{IsOpening}
use Rattle.journal.proofs.Along.{all_front, next_of}
use Rattle.journal.proofs.FurtherRoom.{few_versions}
use Rattle.journal.proofs.Growth.{version_counted}
use Rattle.journal.proofs.Legal.{legal_front}
use Rattle.journal.proofs.Schedules.{schedule_length}
use Rattle.journal.proofs.ScheduleTimes.{slots_clear}
use Rattle.journal.proofs.Sound.{legal_sound}
use Rattle.workload.specs.declared.script.Script.{Script}
use Rattle.live_text.specs.declared.value.Live.{Live}
use Rattle.live_text.specs.Live.{IsBefore, IsEntry, IsLive, IsPull, IsSmall}
use Rattle.live_text.specs.Reading.{GivesLive}
use Rattle.live_text.specs.Text.{live_text}
use Rattle.live_text.proofs.OneText.{live_one}
use Rattle.live_model.specs.Clause.{CarriesOut, IsLiveRun}
use Rattle.live_model.specs.Printed.{id_of, told_entry, told_order, TellsRun}
use Rattle.live_model.specs.Script.{limit_of}
use Rattle.live_model.specs.Sent.{Wires}
use Rattle.live_serving.specs.Ends.{MayBeAsked}
use Rattle.live_runs.specs.Read.{IsRead}
use Rattle.live_runs.proofs.ScriptsRead.{read_clients, read_is_asked, read_is_short}
use Rattle.journal_audit.specs.declared.verdict.Audit.TheVariants.{Yes}
use Rattle.journal_audit.specs.Reasons.{IsAudit}
use Rattle.live_audits.proofs.AskedEntries.{all_asked_so, all_in_range, few_entries, IsAskedSo}
use Rattle.live_audits.proofs.Ended.{all_behind}
use Rattle.live_audits.proofs.EntryRanges.{each_entry, entry_fits, HasLine, id_small, lines_fit}
use Rattle.live_audits.proofs.PullRanges.{pulls_fit, pulls_rise}
use Rattle.live_audits.proofs.Right.{run_is_yes}
use Rattle.live_audits.proofs.RisingLines.{lines_rise}
use Rattle.live_audits.proofs.RunRanges.{few_slots, runs_differ, runs_fit}
use Rattle.live_audits.proofs.StateRanges.{state_fits, StateFits}

-- a hall over a table whose units clients may share live, with the limit of a script that was read, begins within its limits
pub opening_fits : (o : Opening) (script : Script) → IsTable o.table → length o.weights ≡ length o.table.ids → All (λ (w : ℕ). (1 ≤ w) × (w ≤ MAX_WEIGHT)) o.weights →
    sum_by (λ (x : Flow). x.units) o.table.flows ≤ MAX_LIVE_UNITS → IsRead o.table.ids script → o.limit ≡ limit_of o script → IsOpening o
opening_fits o script table each_weight weight few given limit = record {
  table = table;
  each_weight = each_weight;
  weight = weight;
  limit = omega (arith, limit);
  few_entries = omega (arith, limit, read_is_short o script given few);
}

module _ (o : Opening) (script : Script) (most : ℕ) (live : Live) (journal : List Entry) (wires : Wires) (ok : IsOpening o) (small : All IsSmall o.table.ids)
    (given : IsRead o.table.ids script) (short : length given.text ≤ MAX_TEXT) (some : 1 ≤ most) (long : most < 2 ^ 64) (run : IsLiveRun o script most live journal wires) where
  carried : CarriesOut o script most journal wires run.course
  carried = run.carried

  told : TellsRun o script journal run.course.deeds live
  told = run.told

  may : MayBeAsked o script
  may = read_is_asked o script given

  legal : IsLegal o journal
  legal = carried.work.legal

  ranged : InRange o journal
  ranged = all_in_range o script most journal wires run.course may some carried

  asked : All (IsAskedSo o most script.clients) journal
  asked = all_asked_so o script most journal wires run.course may some carried

  few : length journal ≤ 2 ^ 23
  few = omega (arith, few_entries o script most journal wires run.course may some carried, ok.few_entries)

  versions : version_of journal < 2 ^ 32
  versions = omega (arith, few, few_versions journal)

  fits_after : (before more : List Entry) → journal ≡ before ++ more → StateFits o (state_of o before)
  fits_after before more is =
      let whole = subst (IsLegal o) is legal in
      let all = subst (All (IsAskedSo o most script.clients)) is asked in
      state_fits o before ok (legal_front o [] before more whole) (λ k d lt. (all_front (IsAskedSo o most script.clients) before more all k d lt).range)

  -- ---- entries

  line_at : (before more : List Entry) (e : Entry) → journal ≡ before ++ e ∷ more → HasLine o e
  line_at before more e is l line_is =
      let next = next_of o before more e (subst (IsLegal o) is legal) in
      let here = All-head (IsAskedSo o most script.clients) e more
      (all_behind (IsAskedSo o most script.clients) before (e ∷ more) (subst (All (IsAskedSo o most script.clients)) is asked)) in
      let front = all_front (λ (x : Entry). in_range o x.command ≡ true) before (e ∷ more) (subst (InRange o) is ranged) in
      let low : length before ≤ length journal = omega (arith, ap (λ j. length j) is, length-append before (e ∷ more)) in
      entry_fits o most ok small long (state_of o before) (fits_after before (e ∷ more) is) (legal_sound o before next.legal front)
      (omega (arith, few, low, few_versions before, version_counted o before)) script.clients e l (read_clients o.table.ids script given) here next.tells line_is

  entries_fit : All IsEntry live.entries
  entries_fit = lines_fit o journal live.entries (each_entry (HasLine o) journal line_at) told.entries

  count : length journal ≡ length live.entries
  count = sym (length-map journal (told_entry o)) ∙ ap (λ l. length l) told.entries ∙ length-map live.entries Some

  -- ---- orders

  orders : List (List ℕ)
  orders = map (told_order o journal) (range_with_len 1 (version_of journal))

  orders_fit : All (All IsSmall) live.orders
  orders_fit =
      subst (All (All IsSmall)) (sym told.orders)
      (All-map (All IsSmall) (told_order o journal) (range_with_len 1 (version_of journal))
      (λ k d lt. All-map IsSmall (id_of o) (order_in o journal (get_or (range_with_len 1 (version_of journal)) k d))
      (λ i e less. id_small o.table.ids (get_or (order_in o journal (get_or (range_with_len 1 (version_of journal)) k d)) i e) small)))

  few_orders : length live.orders < 2 ^ 32
  few_orders = omega (arith, ap (λ l. length l) told.orders, length-map-range_with_len (told_order o journal) 1 (version_of journal), versions)

  -- ---- slots

  few_in_all : length (schedule_of o journal) ≤ MAX_SLOT
  few_in_all = omega (arith, schedule_length o journal legal ranged, (legal_sound o journal legal ranged).next_ends)

  -- ---- all together

  pub run_is_live : IsLive live
  run_is_live = record {
    few_entries = omega (arith, few, count);
    entry = entries_fit;
    few_orders = few_orders;
    order = orders_fit;
    pull = subst (All IsPull) (sym told.pulls)
        (pulls_fit o script most journal wires run.course may carried (lines_rise o.table.ids script given short) ok small
        (fits_after journal [] (sym (append-nil journal))) (read_clients o.table.ids script given) versions);
    rising = λ k d lt. subst (AllPairs IsBefore) (sym told.pulls)
        (pulls_rise o script most journal wires run.course may carried (lines_rise o.table.ids script given short)) k (k + 1) d (omega arith) lt;
    run = runs_fit o.table.flows (schedule_of o journal) live.runs told.runs few_in_all (slots_clear o journal legal ranged) ok.table.few_flows;
    few_slots = few_slots o.table.flows (schedule_of o journal) live.runs told.runs few_in_all;
    maximal = runs_differ o.table.flows (schedule_of o journal) live.runs told.runs few_in_all;
  }

  pub read_is_yes : IsDistinct o.table.ids → (read : Live) → GivesLive (live_text live) (Ok read) →
      IsAudit o.table o.weights read (Yes (length live.entries) (length live.orders) (length (slots_in live.runs)))
  read_is_yes once read answer =
      subst (λ (l : Live). IsAudit o.table o.weights l (Yes (length live.entries) (length live.orders) (length (slots_in live.runs))))
      (sym (live_one read live answer.live run_is_live (sym answer.text))) (run_is_yes o script most live journal wires once may run)
