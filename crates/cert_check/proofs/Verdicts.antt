-- A right report has no reason against it, and a report without reasons is right.
use Rattle.std.proofs.Common.{◌≡◌, ℕ, ◌<◌, List, length, map, reverse, refl, sym, subst, ◌∙◌, arith, Contains}
use Rattle.std.specs.Prelude.{All}
use Rattle.std.specs.List.{range_with_len}
use Rattle.std.proofs.lemmas.List.{get_or-map, length-map, reverse-reverse}
use Rattle.std.proofs.lemmas.List.Elements.{All-contains}
use Rattle.coflow_units.specs.Certificate.{Entry, IsCertificate, front}
use Rattle.coflow_units.specs.Completion.{completion}
use Rattle.coflow_units.specs.Flows.{Instance, IsDistinct}
use Rattle.coflow_units.proofs.Lists.{in_reverse, into_reverse, number_below, number_in}
use Rattle.coflow_units.proofs.Sums.{Apart, all_of_members, apart_from_pairs, pairs_from_apart}
use Rattle.flow_table.specs.Table.{TableFacts, instance_of}
use Rattle.report_text.specs.declared.value.PlaceLine.{PlaceLine}
use Rattle.report_text.specs.declared.value.Report.{Report}
use Rattle.schedule_model.specs.RunList.{slots_in}
use Rattle.cert_check.specs.declared.verdict.Reason.{Reason}
use Rattle.cert_check.specs.declared.verdict.Reason.TheVariants.{BoundTooHigh, ClashIn, CostWrong, DoneWrong, Infeasible, NoFlow, NotPermutation, PortRange, RatioBroken}
use Rattle.cert_check.specs.declared.verdict.Reason.TheVariants.{SlackWrong, UnitsOf, WeightWrong}
use Rattle.cert_check.specs.declared.verdict.Verdict.{Verdict}
use Rattle.cert_check.specs.declared.verdict.Verdict.TheVariants.{No, Yes}
use Rattle.cert_check.specs.Parts.{HasSoundCertificate, HasSoundSchedule}
use Rattle.cert_check.specs.Places.{NamesEach, certificate_in, coflows_in, ends_in, entry_for}
use Rattle.cert_check.specs.Reasons.{HasReason, IsVerdict}
use Rattle.cert_check.specs.Sound.{IsSound}
use Rattle.cert_check.proofs.InstanceFacts.{all_reverse, apart_reverse, front_is, is_certificate}
use Rattle.cert_check.proofs.Refusals.{clear_names, no_bad_port, no_clash, no_infeasible, no_miscount, no_stranger, no_wrong_number, no_wrong_place, no_wrong_weight}

-- the places of a certificate name each coflow once
pub names_each : (t : TableFacts) (weights : List ℕ) (lines : List PlaceLine) → IsCertificate (instance_of t weights) (certificate_in t.ids lines) →
    NamesEach (length t.ids) (coflows_in t.ids lines)
names_each t weights lines certificate =
    let coflows = coflows_in t.ids lines in
    let n = length t.ids in
    let turned = apart_from_pairs (reverse coflows) (subst IsDistinct (front_is t.ids lines) certificate.once) in
    let within = subst (All (Contains (range_with_len 0 n))) (front_is t.ids lines) certificate.coflow in
    record {
      once = pairs_from_apart coflows (subst Apart (reverse-reverse coflows) (apart_reverse (reverse coflows) turned));
      coflow = all_of_members (λ c. c < n) coflows
          (λ c has. omega (arith, number_below 0 n c (All-contains (Contains (range_with_len 0 n)) (reverse coflows) c within (into_reverse coflows c has))));
      all = λ c lt.
          in_reverse coflows c (subst (λ l. Contains l c) (front_is t.ids lines)
          (All-contains (Contains (front (certificate_in t.ids lines))) (range_with_len 0 n) c certificate.all (number_in 0 n c (omega arith) (omega arith))));
    }

-- and their ports are in range
pub ports_in_range : (t : TableFacts) (weights : List ℕ) (lines : List PlaceLine) → IsCertificate (instance_of t weights) (certificate_in t.ids lines) →
    All (λ (p : PlaceLine). p.port.number < t.ports) lines
ports_in_range t weights lines certificate k d lt =
    let entries = map (entry_for t.ids) lines in
    let all = subst (All (λ (e : Entry). e.port.number < t.ports)) (reverse-reverse entries)
    (all_reverse (λ (e : Entry). e.port.number < t.ports) (reverse entries) certificate.port) in
    subst (λ (e : Entry). e.port.number < t.ports) (get_or-map (entry_for t.ids) lines k d (entry_for t.ids d) lt)
    (all k (entry_for t.ids d) (omega (arith, length-map lines (entry_for t.ids))))

module _ (t : TableFacts) (weights : List ℕ) (r : Report) where
  abbrev i : Instance
  i = instance_of t weights

  -- no reason holds of a right report
  pub refuses : IsSound i t.ids r → (reason : Reason) → HasReason i t.ids r reason → ⊥
  refuses sound (NotPermutation place) has = no_wrong_place t.ids r.places place (names_each t weights r.places sound.certificate) has
  refuses sound (PortRange place number) has = no_bad_port t.ports r.places place number (ports_in_range t weights r.places sound.certificate) has
  refuses sound (WeightWrong coflow stated real) has = no_wrong_weight (coflows_in t.ids r.places) r.weights i.weight coflow stated real sound.weights has
  refuses sound (Infeasible coflow) has = no_infeasible i.flows i.weight (certificate_in t.ids r.places) coflow sound.feasible has
  refuses sound (BoundTooHigh stated real) has = omega (arith, has, sound.bound_is_low)
  refuses sound (SlackWrong stated real) has = has.2 (has.0 ∙ sound.slack_is ∙ sym has.1)
  refuses sound (NoFlow slot flow) has = no_stranger i.flows (slots_in r.runs) slot flow (clear_names i.flows (slots_in r.runs) sound.valid.clear) has
  refuses sound (ClashIn slot port) has = no_clash i.flows (slots_in r.runs) slot port sound.valid.clear has
  refuses sound (UnitsOf flow have want) has = no_miscount i.flows (slots_in r.runs) flow have want sound.valid has
  refuses sound (DoneWrong coflow stated real) has =
      no_wrong_number (coflows_in t.ids r.places) (ends_in r.places) (completion i.flows (slots_in r.runs)) coflow stated real sound.ends has
  refuses sound (CostWrong stated real) has = has.2 (has.0 ∙ sound.cost_is ∙ sym has.1)
  refuses sound (RatioBroken cost most) has = omega (arith, has, sound.within_four)

  -- a verdict is yes exactly on a right report
  pub yes_where_sound : (verdict : Verdict) → IsVerdict i t.ids r verdict → (verdict ≡ Yes → IsSound i t.ids r) × (IsSound i t.ids r → verdict ≡ Yes)
  yes_where_sound Yes sound = ((λ e. sound), (λ s. refl))
  yes_where_sound (No reason) first = ((λ e. absurd (cc e)), (λ sound. absurd (refuses sound reason first.holds)))

  -- the parts are the whole
  pub all_parts : NamesEach (length t.ids) (coflows_in t.ids r.places) → HasSoundCertificate i t.ids r → HasSoundSchedule i t.ids r → IsSound i t.ids r
  all_parts names certificate schedule = record {
    certificate = is_certificate t weights r.places names certificate.port;
    weights = certificate.weights;
    feasible = certificate.feasible;
    bound_is_low = certificate.bound_is_low;
    slack_is = certificate.slack_is;
    valid = schedule.valid;
    ends = schedule.ends;
    cost_is = schedule.cost_is;
    within_four = schedule.within_four;
  }
