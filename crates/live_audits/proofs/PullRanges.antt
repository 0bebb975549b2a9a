-- The lines of pulls that are told have their numbers in range, and rise by client and then by line.
use Rattle.std.proofs.Common.{ℕ, ◌^◌, ◌+◌, ◌≤◌, ◌<◌, ◌==◌, zero, suc, inl, inr, Bool, List, get_or, sym, ◌∙◌, subst, arith}
use Rattle.std.specs.Prelude.{All, AllPairs, flat_map}
use Rattle.std.specs.List.{filter, range_with_len}
use Rattle.std.proofs.lemmas.List.Elements.{All-filter, All-map}
use Rattle.coflow_units.specs.declared.limits.TheConstants.{MAX_CLIENTS}
use Rattle.journal.specs.declared.command.Entry.{Entry}
use Rattle.journal.specs.declared.opening.Opening.{Opening}
use Rattle.journal.specs.Fold.{state_of}
use Rattle.journal.specs.Journal.{version_of}
use Rattle.journal.specs.State.{IsOpening}
use Rattle.workload.specs.declared.script.Script.{Script}
use Rattle.workload.specs.declared.script.ScriptLine.{ScriptLine}
use Rattle.live_text.specs.declared.value.PullLine.{PullLine}
use Rattle.live_text.specs.Live.{IsBefore, IsPull, IsSmall}
use Rattle.live_model.specs.Clause.{CarriesOut, Course}
use Rattle.live_model.specs.Deeds.{Deed}
use Rattle.live_model.specs.Printed.{told_pull, told_pulls}
use Rattle.live_model.specs.Script.{coflow_pulled, is_pull, lines_of}
use Rattle.live_model.specs.Sent.{Wires}
use Rattle.live_rounds.proofs.Acting.{pairs_append}
use Rattle.live_serving.specs.Ends.{MayBeAsked}
use Rattle.live_audits.proofs.EntryRanges.{id_small}
use Rattle.live_audits.proofs.Lines.{deeds_may, IsOwnDeed}
use Rattle.live_audits.proofs.PullsTold.{all_blocks, from_client, IsOf}
use Rattle.live_audits.proofs.RisingLines.{all_below, all_rise, at_line, from_images, kept_rise, Rising, to_images}
use Rattle.live_audits.proofs.StateRanges.{rank_few, StateFits}

abbrev end : ℕ
end = 2 ^ 32

module _ (o : Opening) (script : Script) (most : ℕ) (journal : List Entry) (wires : Wires) (course : Course) (may : MayBeAsked o script)
    (x : CarriesOut o script most journal wires course) (rises : Rising at_line end 1 (lines_of script)) where
  abbrev block : ℕ → List PullLine
  block client = told_pulls o journal (course.deeds client)

  abbrev pull : Deed → Bool
  pull d = is_pull d.line.asked

  own : (client : ℕ) → All (IsOwnDeed o script.clients client) (filter pull (course.deeds client))
  own client = All-filter pull (IsOwnDeed o script.clients client) (course.deeds client) (deeds_may o script journal course.deeds may x.clients client)

  deeds_rise : (client : ℕ) → Rising (λ (d : Deed). d.line.line) end 1 (filter pull (course.deeds client))
  deeds_rise client =
      let own = λ (y : ℕ × ScriptLine). y.1.client == client in
      kept_rise (λ (d : Deed). d.line.line) end pull 1 (course.deeds client)
      (from_images at_line end (λ (d : Deed). (d.round, d.line)) 1 (course.deeds client)
      (subst (Rising at_line end 1) (sym (x.clients.lines client)) (kept_rise at_line end own 1 (lines_of script) rises)))

  -- ---- ranges

  pull_fits : (client : ℕ) (d : Deed) → IsOpening o → All IsSmall o.table.ids → StateFits o (state_of o journal) → script.clients ≤ MAX_CLIENTS → version_of journal < 2 ^ 32 →
      IsOwnDeed o script.clients client d → d.version ≤ version_of journal → d.line.line < end → IsPull (told_pull o journal d)
  pull_fits client d ok small fits few versions own made line = record {
    client_from = own.may.0;
    client_to = omega (arith, own.may.1, few);
    line_fits = line;
    id_fits = id_small o.table.ids (coflow_pulled d.line.asked) small;
    version_fits = omega (arith, made, versions);
    rank_fits = omega (arith, rank_few o (state_of o journal) d.version (coflow_pulled d.line.asked) fits, ok.table.few_coflows);
  }

  pub pulls_fit : IsOpening o → All IsSmall o.table.ids → StateFits o (state_of o journal) → script.clients ≤ MAX_CLIENTS → version_of journal < 2 ^ 32 →
      All IsPull (flat_map block (range_with_len 1 script.clients))
  pulls_fit ok small fits few versions =
      all_blocks block IsPull (λ client.
      let deeds = filter pull (course.deeds client) in
      let made = All-filter pull (λ (d : Deed). d.version ≤ version_of journal) (course.deeds client) (x.pulls.known client) in
      let lines = all_below (λ (d : Deed). d.line.line) end 1 deeds (deeds_rise client) in
      All-map IsPull (told_pull o journal) deeds
      (λ k d lt. pull_fits client (get_or deeds k d) ok small fits few versions (own client k d lt) (made k d lt) (lines k d lt))) (range_with_len 1 script.clients)

  -- ---- their order

  of_client : (client : ℕ) → All (IsOf client) (block client)
  of_client client = All-map (IsOf client) (told_pull o journal) (filter pull (course.deeds client)) (λ k d lt. (own client k d lt).own)

  block_rises : (client : ℕ) → AllPairs IsBefore (block client)
  block_rises client =
      let deeds = filter pull (course.deeds client) in
      let rise = all_rise (λ (p : PullLine). p.line) end 1 (block client) (to_images (λ (p : PullLine). p.line) end (told_pull o journal) 1 deeds (deeds_rise client)) in
      λ i j d lt less. inr (of_client client i d (omega (arith, lt, less)) ∙ sym (of_client client j d less), rise i j d lt less)

  blocks_rise : (a n : ℕ) → AllPairs IsBefore (flat_map block (range_with_len a n))
  blocks_rise a zero = λ i j d lt less. absurd (omega (arith, less))
  blocks_rise a (suc n) =
      pairs_append IsBefore (block a) (flat_map block (range_with_len (a + 1) n)) (block_rises a) (blocks_rise (a + 1) n)
      (λ k d lt j e less. inl (omega (arith, of_client a k d lt, from_client block of_client (a + 1) n j e less)))

  pub pulls_rise : AllPairs IsBefore (flat_map block (range_with_len 1 script.clients))
  pulls_rise = blocks_rise 1 script.clients
