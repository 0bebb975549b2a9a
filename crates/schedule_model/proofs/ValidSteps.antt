-- A schedule with a fault is not valid.
use Rattle.std.proofs.Common.{◌≡◌, ℕ, ◌-◌, ◌<◌, List, [], length, get_or, refl, sym, ◌∙◌, arith}
use Rattle.std.specs.Prelude.{Option, Some, None}
use Rattle.std.proofs.lemmas.List.Elements.{All-contains}
use Rattle.coflow_units.specs.declared.fabric.Flow.{Flow}
use Rattle.coflow_units.specs.declared.fabric.Port.{Port}
use Rattle.coflow_units.specs.Schedule.{IsClear, IsValid}
use Rattle.schedule_model.specs.declared.fault.ScheduleFault.{ScheduleFault}
use Rattle.schedule_model.specs.declared.fault.ScheduleFault.TheVariants.{NoFlow, Clash, Units}
use Rattle.schedule_model.specs.RunList.{NamesFlows}
use Rattle.schedule_model.specs.Fault.{IsFirstClash, IsFirstFault, IsFirstMiscount, IsFirstNoFlow, StandsIn}
use Rattle.schedule_model.proofs.SlotLoads.{both_use}

clear_at : (flows : List Flow) (slots : List (List ℕ)) (slot f : ℕ) → IsValid flows slots → StandsIn slots slot f → IsClear flows (get_or slots (slot - 1) [])
clear_at flows slots slot f valid stands = valid.clear (slot - 1) [] (omega (arith, stands.inside, stands.counted))

no_flow_refuses : (flows : List Flow) (slots : List (List ℕ)) (slot f : ℕ) → IsFirstNoFlow flows slots slot f → IsValid flows slots → ⊥
no_flow_refuses flows slots slot f fault valid =
    omega (arith, fault.no_flow, All-contains (λ x. x < length flows) (get_or slots (slot - 1) []) f (clear_at flows slots slot f valid fault.stands).flow fault.stands.has)

clash_refuses : (flows : List Flow) (slots : List (List ℕ)) (slot : ℕ) (port : Port) → IsFirstClash flows slots slot port → IsValid flows slots → ⊥
clash_refuses flows slots slot port fault valid =
    let clash = fault.clashes in
    clash.apart ((clear_at flows slots slot clash.one valid clash.one_stands).apart clash.one clash.other clash.one_stands.has clash.other_stands.has
    (both_use flows port clash.one clash.other clash.one_uses clash.other_uses))

miscount_refuses : (flows : List Flow) (slots : List (List ℕ)) (f have want : ℕ) → IsFirstMiscount flows slots f have want → IsValid flows slots → ⊥
miscount_refuses flows slots f have want fault valid = fault.differ (sym fault.stands_in ∙ valid.served f fault.flow ∙ fault.wants)

pub none_where_valid : (flows : List Flow) (slots : List (List ℕ)) (fault : Option ScheduleFault) → IsFirstFault flows slots fault →
    (fault ≡ None → IsValid flows slots) × (IsValid flows slots → fault ≡ None)
none_where_valid flows slots None first = ((λ e. first), (λ valid. refl))
none_where_valid flows slots (Some (NoFlow slot f)) first = ((λ e. cc), (λ valid. absurd (no_flow_refuses flows slots slot f first valid)))
none_where_valid flows slots (Some (Clash slot port)) first = ((λ e. cc), (λ valid. absurd (clash_refuses flows slots slot port first valid)))
none_where_valid flows slots (Some (Units f have want)) first = ((λ e. cc), (λ valid. absurd (miscount_refuses flows slots f have want first valid)))

-- the numbers of a valid schedule are flows'
pub valid_names : (flows : List Flow) (slots : List (List ℕ)) → IsValid flows slots → NamesFlows (length flows) slots
valid_names flows slots valid k d lt = (valid.clear k d lt).flow
