-- The orders of all versions, one version more.
use Rattle.std.proofs.Common.{◌≡◌, ℕ, ◌+◌, ◌<◌, true, false, List, [], ◌∷◌, ◌++◌, get_or, length, take, map, refl, sym, ap, ◌∙◌, subst, arith}
use Rattle.std.specs.Prelude.{slice_index}
use Rattle.std.specs.List.{range_with_len, slice_index_or}
use Rattle.std.proofs.lemmas.List.{ext_get_or, map_more}
use Rattle.std.proofs.lemmas.List.FromFn.{get_or-map-range_with_len, length-map-range_with_len, map-range_with_len_more}
use Rattle.journal.specs.declared.command.Entry.{Entry}
use Rattle.journal.specs.declared.opening.Opening.{Opening}
use Rattle.journal.specs.Journal.{is_version, version_of}
use Rattle.journal.proofs.Growth.{order_kept}
use Rattle.coflow_units.specs.declared.plan.Place.{Place}
use Rattle.master_core.specs.Published.{ranked}
use Rattle.master_core.proofs.RankSteps.{place_at, ranked_len}
use Rattle.journal_audit.proofs.EntriesAnew.{none_anew, one_more}
use Rattle.live_model.specs.Printed.{id_of, told_order}
use Rattle.live_runs.specs.declared.retelling.Retold.{Retold}
use Rattle.live_runs.specs.Retold.{IsRetold, TellOrders}
use Rattle.journal_audit.specs.Replay.{IsReplay}

-- before the first entry
pub nothing_told : (o : Opening) (x : Retold) → x.orders.items ≡ [] → x.schedule ≡ [] → IsRetold o [] x
nothing_told o x no_orders no_slots = record { orders_are = no_orders; replay = subst (IsReplay o []) (sym no_slots) (none_anew o) }

module _ (o : Opening) (before : List Entry) (e : Entry) where
  -- the versions that were made keep their orders
  orders_kept : map (told_order o (before ++ e ∷ [])) (range_with_len 1 (version_of before)) ≡ map (told_order o before) (range_with_len 1 (version_of before))
  orders_kept =
      ext_get_or [] (map (told_order o (before ++ e ∷ [])) (range_with_len 1 n)) (map (told_order o before) (range_with_len 1 n))
      (length-map-range_with_len (told_order o (before ++ e ∷ [])) 1 n ∙ sym (length-map-range_with_len (told_order o before) 1 n))
      (λ i lt.
      let within : i < n = omega (arith, lt, length-map-range_with_len (told_order o (before ++ e ∷ [])) 1 n) in
      get_or-map-range_with_len (told_order o (before ++ e ∷ [])) 1 n i (1 + i) [] within refl
      ∙ ap (map (id_of o)) (order_kept o before (e ∷ []) (1 + i) (omega (arith, within)))
      ∙ sym (get_or-map-range_with_len (told_order o before) 1 n i (1 + i) [] within refl))
    where
      n : ℕ
      n = version_of before

  pub orders_stay : (orders : List (List ℕ)) → is_version e.reply ≡ false → TellOrders o before orders → TellOrders o (before ++ e ∷ []) orders
  orders_stay orders none told =
      let same : version_of before ≡ version_of (before ++ e ∷ []) = omega (arith, one_more before e false none) in
      told ∙ sym orders_kept ∙ ap (λ n. map (told_order o (before ++ e ∷ [])) (range_with_len 1 n)) same

  pub orders_more : (orders : List (List ℕ)) (order : List ℕ) → is_version e.reply ≡ true → TellOrders o before orders →
      order ≡ told_order o (before ++ e ∷ []) (version_of (before ++ e ∷ [])) → TellOrders o (before ++ e ∷ []) (orders ++ order ∷ [])
  orders_more orders order made told newest =
      let more : version_of (before ++ e ∷ []) ≡ version_of before + 1 = one_more before e true made in
      ap (λ l. l ++ order ∷ []) (told ∙ sym orders_kept) ∙ ap (λ x. map (told_order o (before ++ e ∷ [])) (range_with_len 1 (version_of before)) ++ x ∷ []) newest
      ∙ sym (map-range_with_len_more (told_order o (before ++ e ∷ [])) 1 (version_of before) (version_of (before ++ e ∷ [])) (omega (arith, more)))
      ∙ ap (λ n. map (told_order o (before ++ e ∷ [])) (range_with_len 1 n)) (sym more)

-- one place more
pub ids_more : (ids : List ℕ) (places : List Place) (k : ℕ) (d : Place) (id : ℕ) (told more : List ℕ) → k < length places →
    told ≡ map (λ c. slice_index_or ids c 0) (take k (ranked places)) → id ≡ slice_index_or ids (get_or places k d).coflow 0 → more ≡ told ++ id ∷ [] →
    more ≡ map (λ c. slice_index_or ids c 0) (take (k + 1) (ranked places))
ids_more ids places k d id told more lt so_far is adds =
    let at : id ≡ slice_index_or ids (slice_index (ranked places) k) 0 = is ∙ ap (λ c. slice_index_or ids c 0) (sym (place_at places k d lt)) in
    adds ∙ ap (λ l. l ++ id ∷ []) so_far ∙ ap (λ x. map (λ c. slice_index_or ids c 0) (take k (ranked places)) ++ x ∷ []) at
    ∙ sym (map_more (λ c. slice_index_or ids c 0) (ranked places) k 0 (omega (arith, lt, ranked_len places)))
