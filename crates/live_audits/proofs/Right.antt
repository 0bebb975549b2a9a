-- The value of a run of `live` is right for the table and the weights that the run began with.
use Rattle.std.proofs.Common.{◌≡◌, ℕ, ◌<◌, List, [], length, map, get_or, refl, sym, ap, ◌∙◌, subst, arith, max, Some}
use Rattle.std.specs.Prelude.{All, AllPairs}
use Rattle.std.specs.List.{range_with_len}
use Rattle.std.proofs.lemmas.List.{length-map}
use Rattle.coflow_units.specs.Flows.{IsDistinct}
use Rattle.cert_check.specs.Places.{coflow_with}
use Rattle.journal.specs.declared.command.Entry.{Entry}
use Rattle.journal.specs.declared.opening.Opening.{Opening}
use Rattle.journal.specs.Journal.{version_of}
use Rattle.journal.specs.Line.{order, rank}
use Rattle.journal.specs.State.{State}
use Rattle.workload.specs.declared.script.Script.{Script}
use Rattle.live_text.specs.declared.value.Live.{Live}
use Rattle.live_model.specs.Clause.{CarriesOut, IsLiveRun}
use Rattle.live_model.specs.Printed.{id_of, told_entry, TellsRun}
use Rattle.live_model.specs.Sent.{Wires}
use Rattle.live_serving.specs.Ends.{MayBeAsked}
use Rattle.journal_audit.specs.Pulls.{HasVersion, pull_at}
use Rattle.journal_audit.proofs.PullSteps.{rank_made}
use Rattle.schedule_model.specs.RunList.{slots_in}
use Rattle.journal_audit.specs.declared.verdict.Audit.TheVariants.{Yes}
use Rattle.journal_audit.specs.Reasons.{IsAudit}
use Rattle.journal_audit.specs.Sound.{IsRightFor, IsSoundLive}
use Rattle.live_audits.proofs.Callers.{all_fit}
use Rattle.live_audits.proofs.Ended.{none_open}
use Rattle.live_audits.proofs.Limits.{legal_same, schedule_same, state_same, with_limit}
use Rattle.live_audits.proofs.PullsTold.{IsToldRight, NeverFalls, pulls_keep, pulls_right}
use Rattle.live_audits.proofs.Stated.{AreStated, entries_back}

module _ (o : Opening) (script : Script) (most : ℕ) (live : Live) (journal : List Entry) (wires : Wires) (once : IsDistinct o.table.ids) (may : MayBeAsked o script)
    (run : IsLiveRun o script most live journal wires) where
  carried : CarriesOut o script most journal wires run.course
  carried = run.carried

  told : TellsRun o script journal run.course.deeds live
  told = run.told

  abbrev limit : ℕ
  limit = max (length live.entries) 1

  abbrev opening : Opening
  opening = with_limit o limit

  stated : AreStated o once journal live.entries
  stated = entries_back o once journal live.entries (all_fit o script most journal wires run.course may carried) told.entries

  count : length journal ≡ length live.entries
  count = sym (length-map journal (told_entry o)) ∙ ap (λ l. length l) told.entries ∙ length-map live.entries Some

  told_right : All (IsToldRight o journal) live.pulls
  told_right = subst (All (IsToldRight o journal)) (sym told.pulls) (pulls_right o script most journal wires run.course once may carried)

  told_keep : AllPairs NeverFalls live.pulls
  told_keep = subst (AllPairs NeverFalls) (sym told.pulls) (pulls_keep o script most journal wires run.course once may carried)

  has_version : (k : ℕ) → k < length live.pulls → HasVersion o.table.ids (version_of journal) live.pulls k
  has_version k lt = record {
    made = (told_right k (pull_at [] 0) lt).made;
    known = (told_right k (pull_at [] 0) lt).known;
    no_greater = λ j less same. told_keep j k (pull_at [] 0) less lt same;
  }

  right_for : IsRightFor opening journal live
  right_for = record {
    known = stated.known;
    legal = legal_same o limit [] journal (omega (arith, count)) carried.work.legal;
    closed = ap (λ (s : State). s.run) (state_same o limit journal) ∙ none_open o script most journal wires run.course may carried;
    orders = told.orders ∙ ap (λ (s : State). map (λ v. map (id_of o) (order s v)) (range_with_len 1 (version_of journal))) (sym (state_same o limit journal));
    ranks = λ k d lt.
        let p = get_or live.pulls k d in
        let right = told_right k d lt in
        right.rank_is ∙ ap (λ (s : State). rank s p.version (coflow_with o.table.ids p.id)) (sym (state_same o limit journal))
        ∙ rank_made opening journal p right.known right.made;
    versions = has_version;
    runs = told.runs.same ∙ sym (schedule_same o limit journal);
  }

  pub run_is_right : IsSoundLive o.table o.weights live
  run_is_right = subst (λ j. IsRightFor opening j live) (sym stated.same) right_for

  pub run_is_yes : IsAudit o.table o.weights live (Yes (length live.entries) (length live.orders) (length (slots_in live.runs)))
  run_is_yes = record { sound = run_is_right; entries_are = refl; versions_are = refl; slots_are = refl }
