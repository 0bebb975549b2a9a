-- What is right has no reason against it, kind by kind.
use Rattle.std.proofs.Common.{◌≡◌, ℕ, ◌-◌, ◌≤◌, ◌<◌, inl, inr, List, [], length, get_or, map, sym, ap, ◌∙◌, arith, Contains}
use Rattle.std.specs.Prelude.{All, None, Option, Some, slice_index}
use Rattle.std.specs.List.{range_with_len}
use Rattle.std.proofs.lemmas.List.{get_or-map, get_or-take, get_or_default, length-map, length-take-le}
use Rattle.std.proofs.lemmas.List.Elements.{All-contains}
use Rattle.std.proofs.lemmas.List.FromFn.{length-range_with_len}
use Rattle.coflow_units.specs.declared.fabric.Flow.{Flow}
use Rattle.coflow_units.specs.declared.fabric.Port.{Port}
use Rattle.coflow_units.specs.Certificate.{Entry, IsFeasible}
use Rattle.coflow_units.specs.Schedule.{IsClear, IsValid}
use Rattle.coflow_units.proofs.Lists.{number_below, numbers_apart}
use Rattle.coflow_units.proofs.Sums.{members_at_most, sum_ones}
use Rattle.dual_cert.specs.TableCertificate.{IsLeastInfeasible}
use Rattle.report_text.specs.declared.value.PlaceLine.{PlaceLine}
use Rattle.report_text.specs.Text.{place_at}
use Rattle.schedule_model.specs.Fault.{IsFirstClash, IsFirstMiscount, IsFirstNoFlow}
use Rattle.schedule_model.specs.RunList.{NamesFlows}
use Rattle.schedule_model.proofs.SlotLoads.{both_use}
use Rattle.cert_check.specs.Places.{IsFirstOutOfRange, IsFirstWrong, NamesEach, coflow_with, coflows_in, ids_in}
use Rattle.cert_check.specs.Stated.{AreReal, AreRealIfAny, IsLeastWrong, IsLeastWrongOfAny}
use Rattle.cert_check.proofs.NameSteps.{within_known}

-- a list with each number below n has at least n elements
at_least : (xs : List ℕ) (n : ℕ) → ((c : ℕ) → c < n → Contains xs c) → n ≤ length xs
at_least xs n all =
    omega (
      arith,
      members_at_most (λ (x : ℕ). 1) (range_with_len 0 n) xs (numbers_apart 0 n) (λ c has some. all c (omega (arith, number_below 0 n c has))),
      sum_ones xs,
      sum_ones (range_with_len 0 n),
      length-range_with_len 0 n,
    )

coflow_at : (ids stated : List ℕ) (k : ℕ) → k < length stated → get_or (map (coflow_with ids) stated) k 0 ≡ coflow_with ids (slice_index stated k)
coflow_at ids stated k lt = get_or-map (coflow_with ids) stated k 0 0 lt

wrong_place : (ids stated : List ℕ) (place : ℕ) → NamesEach (length ids) (map (coflow_with ids) stated) → IsFirstWrong ids stated place → ⊥
wrong_place ids stated place names wrong =
    let k = place - 1 in
    let count = length-map stated (coflow_with ids) in
    elim wrong.wrong [
      | inl (lt, not_new) ↦ elim not_new [
        | inl unknown ↦ unknown (within_known ids (slice_index stated k) (omega (arith, coflow_at ids stated k lt, names.coflow k 0 (omega (arith, count)))))
        | inr (j, before, at) ↦
            let few = length-take-le k stated (omega arith) in
            let id : slice_index stated j ≡ slice_index stated k =
            sym (get_or_default stated j (slice_index stated k) 0 (omega arith)) ∙ sym (get_or-take k stated j (slice_index stated k) (omega arith)) ∙ at in
            names.once j k 0 (omega arith) (omega (arith, count)) (coflow_at ids stated j (omega arith) ∙ ap (coflow_with ids) id ∙ sym (coflow_at ids stated k lt))
      ]
      | inr (e, less) ↦ omega (arith, at_least (map (coflow_with ids) stated) (length ids) names.all, count)
    ]

pub no_wrong_place : (ids : List ℕ) (places : List PlaceLine) (place : ℕ) → NamesEach (length ids) (coflows_in ids places) → IsFirstWrong ids (ids_in places) place → ⊥
no_wrong_place ids places place names wrong = wrong_place ids (ids_in places) place names wrong

pub no_bad_port : (ports : ℕ) (places : List PlaceLine) (place number : ℕ) → All (λ (p : PlaceLine). p.port.number < ports) places → IsFirstOutOfRange ports places place number → ⊥
no_bad_port ports places place number all bad = omega (arith, bad.has, bad.beyond, all (place - 1) (place_at places (length places)) (omega (arith, bad.counted, bad.inside)))

pub no_wrong_number : (coflows stated : List ℕ) (real : ℕ → ℕ) (coflow said is : ℕ) → AreReal coflows stated real → IsLeastWrong coflows stated real coflow said is → ⊥
no_wrong_number coflows stated real coflow said is all wrong = wrong.differ (sym wrong.says ∙ all wrong.place wrong.inside ∙ ap real wrong.of_coflow ∙ wrong.should)

pub no_wrong_weight : (coflows : List ℕ) (stated : Option (List ℕ)) (real : ℕ → ℕ) (coflow said is : ℕ) → AreRealIfAny coflows stated real →
    IsLeastWrongOfAny coflows stated real coflow said is → ⊥
no_wrong_weight coflows None real coflow said is all wrong = wrong
no_wrong_weight coflows (Some stated) real coflow said is all wrong = no_wrong_number coflows stated real coflow said is all wrong

pub no_infeasible : (flows : List Flow) (weight : ℕ → ℕ) (entries : List Entry) (coflow : ℕ) → IsFeasible flows weight entries → IsLeastInfeasible flows weight entries coflow → ⊥
no_infeasible flows weight entries coflow feasible bad = omega (arith, bad.above, feasible coflow)

pub no_stranger : (flows : List Flow) (slots : List (List ℕ)) (slot f : ℕ) → NamesFlows (length flows) slots → IsFirstNoFlow flows slots slot f → ⊥
no_stranger flows slots slot f names bad =
    omega (
      arith,
      bad.no_flow,
      All-contains (λ x. x < length flows) (get_or slots (slot - 1) []) f (names (slot - 1) [] (omega (arith, bad.stands.inside, bad.stands.counted)))
          bad.stands.has,
    )

pub no_clash : (flows : List Flow) (slots : List (List ℕ)) (slot : ℕ) (port : Port) → All (IsClear flows) slots → IsFirstClash flows slots slot port → ⊥
no_clash flows slots slot port clear bad =
    let clash = bad.clashes in
    let here = clear (slot - 1) [] (omega (arith, clash.one_stands.inside, clash.one_stands.counted)) in
    clash.apart (here.apart clash.one clash.other clash.one_stands.has clash.other_stands.has (both_use flows port clash.one clash.other clash.one_uses clash.other_uses))

pub no_miscount : (flows : List Flow) (slots : List (List ℕ)) (f have want : ℕ) → IsValid flows slots → IsFirstMiscount flows slots f have want → ⊥
no_miscount flows slots f have want valid bad = bad.differ (sym bad.stands_in ∙ valid.served f bad.flow ∙ bad.wants)

-- all numbers of clear slots are flows'
pub clear_names : (flows : List Flow) (slots : List (List ℕ)) → All (IsClear flows) slots → NamesFlows (length flows) slots
clear_names flows slots clear k d lt = (clear k d lt).flow
