-- What a command that serves a plan ends with.
use Rattle.std.proofs.Common.{◌≡◌, IsErrAnd, IfErr, ℕ, inl, inr, List, Option, Result, Ok, Err, refl, sym, subst}
use Rattle.std.specs.Prelude.{◌⊎◌, OnOk}
use Rattle.command_words.specs.Words.{Said}
use Rattle.hall_plan.specs.declared.answer.PlanFault.{PlanFault}
use Rattle.hall_plan.specs.declared.answer.PlanFault.TheVariants as plan_fault
use Rattle.outside.specs.Shelf.{Told}
use Rattle.command_files.specs.declared.status.Status.{Status}
use Rattle.command_files.specs.declared.status.Status.TheVariants as status
use Rattle.command_files.specs.JobCauses.{HasFilesCause}
use Rattle.command_jobs.specs.Make.{HasMadeCause}
use Rattle.command_files.specs.Ends.{IfPastFiles, IsReadFault, IsWireFault}
use Rattle.command_files.specs.InputCauses.{HasInputCause}
use Rattle.command_files.specs.WireCauses.{IsWireCause}
use Rattle.command_files.specs.Faults.{IsStatusOfPlan}
use Rattle.command_jobs.specs.Serving.{MayHaveSent}
use Rattle.command_jobs.proofs.EndCauses.{of_served}
use Rattle.command_files.proofs.ShelfFacts.{passed_as}

-- ---- wires and weights that were lent

pub moved : {W : Type 0} (P : List W → List W → List ℕ → Type 0) (old mid new back : List W) (lent weights : List ℕ) → mid ≡ old → back ≡ new → lent ≡ weights →
    P mid new lent → P old back weights
moved P old mid new back lent weights before after list p =
    subst (λ b. P b back weights) before (subst (λ a. P mid a weights) (sym after) (subst (λ w. P mid new w) list p))

-- ---- trace and weights do not end by a wire

pub input_no_wire : (before now : ℕ) (old new : Option Told) (trace : List ℕ) (file : Option (List ℕ)) (unit : ℕ) (s : Status) →
    HasInputCause before now old new trace file unit s → IsWireFault s → ⊥
input_no_wire before now old new trace file unit (status.WireFault port count) cause wire = cause
input_no_wire before now old new trace file unit status.Ok cause wire = wire
input_no_wire before now old new trace file unit status.No cause wire = wire
input_no_wire before now old new trace file unit status.Usage cause wire = wire
input_no_wire before now old new trace file unit status.UnknownPolicy cause wire = wire
input_no_wire before now old new trace file unit (status.BadTrace fault) cause wire = wire
input_no_wire before now old new trace file unit (status.BadWeights fault) cause wire = wire
input_no_wire before now old new trace file unit (status.BadReport line) cause wire = wire
input_no_wire before now old new trace file unit (status.BadScript line field) cause wire = wire
input_no_wire before now old new trace file unit (status.BadOrder fault) cause wire = wire
input_no_wire before now old new trace file unit (status.Limit which count) cause wire = wire
input_no_wire before now old new trace file unit (status.ReadFault count) cause wire = wire
input_no_wire before now old new trace file unit (status.WriteFault count) cause wire = wire
input_no_wire before now old new trace file unit status.NoMemory cause wire = wire

-- where the status that is handed on is none of a wire
pub past_none : {T : Type 0} (r : Result T Status) (s : Status) (P : Type 0) → IsErrAnd r (λ x. x ≡ s) → (IsWireFault s → ⊥) → IfPastFiles r P
past_none (Ok x) s P is none = absurd is
past_none (Err x) s P is none = λ wire. absurd (none (subst IsWireFault is wire))

files_no_wire : (before now : ℕ) (old new : Option Told) (said : Said) (s : Status) → HasFilesCause before now old new said s → IsWireFault s → ⊥
files_no_wire before now old new said (status.WireFault port count) cause wire = cause
files_no_wire before now old new said status.Ok cause wire = wire
files_no_wire before now old new said status.No cause wire = wire
files_no_wire before now old new said status.Usage cause wire = wire
files_no_wire before now old new said status.UnknownPolicy cause wire = wire
files_no_wire before now old new said (status.BadTrace fault) cause wire = wire
files_no_wire before now old new said (status.BadWeights fault) cause wire = wire
files_no_wire before now old new said (status.BadReport line) cause wire = wire
files_no_wire before now old new said (status.BadScript line field) cause wire = wire
files_no_wire before now old new said (status.BadOrder fault) cause wire = wire
files_no_wire before now old new said (status.Limit which count) cause wire = wire
files_no_wire before now old new said (status.ReadFault count) cause wire = wire
files_no_wire before now old new said (status.WriteFault count) cause wire = wire
files_no_wire before now old new said status.NoMemory cause wire = wire

-- where the command sends nothing
pub past_if : {T : Type 0} (before now : ℕ) (old new : Option Told) (said : Said) (r : Result T Status) (P : Type 0) → OnOk r P → IfErr r (HasFilesCause before now old new said) →
    IfPastFiles r P
past_if before now old new said (Ok x) P p cause = p
past_if before now old new said (Err s) P p cause = λ wire. absurd (files_no_wire before now old new said s cause wire)

-- where it holds anyhow
pub past_anyhow : {T : Type 0} (r : Result T Status) (P : Type 0) → P → IfPastFiles r P
past_anyhow (Ok x) P p = p
past_anyhow (Err s) P p = λ wire. p

-- ---- the status of a fault of a plan

pub plan_reads : (fault : PlanFault) (s : Status) → IsStatusOfPlan fault s → IsReadFault s → ⊥
plan_reads (plan_fault.WireFault port) s is read = subst IsReadFault is read
plan_reads plan_fault.NoMemory s is read = subst IsReadFault is read

may_have_sent : (fault : PlanFault) (s : Status) → IsStatusOfPlan fault s → MayHaveSent s
may_have_sent (plan_fault.WireFault port) s is = subst MayHaveSent (sym is) tt
may_have_sent plan_fault.NoMemory s is = subst MayHaveSent (sym is) tt

module _ {T : Type 0} (r : Result T Status) (fault : PlanFault) (is : IsErrAnd r (IsStatusOfPlan fault)) where
  -- units may have been sent
  pub may_send : (P : Type 0) → IfErr r (λ s. (MayHaveSent s → ⊥) → P)
  may_send P = passed_as r (IsStatusOfPlan fault) (λ s. (MayHaveSent s → ⊥) → P) is (λ s e none. absurd (none (may_have_sent fault s e)))

  -- the cause is that of the wire, or there was no memory
  pub plan_cause : (Q : Status → Type 0) (P : ℕ → Type 0) → Q status.NoMemory → ((port : ℕ) → fault ≡ plan_fault.WireFault port → P port) → IfErr r (λ s. Q s ⊎ IsWireCause P s)
  plan_cause Q P none h = passed_as r (IsStatusOfPlan fault) (λ s. Q s ⊎ IsWireCause P s) is (λ s e. by fault s refl e)
    where
      by : (f : PlanFault) (s : Status) → fault ≡ f → IsStatusOfPlan f s → Q s ⊎ IsWireCause P s
      by (plan_fault.WireFault port) s same e = subst (λ (x : Status). Q x ⊎ IsWireCause P x) (sym e) (inr (refl, h port same))
      by plan_fault.NoMemory s same e = subst (λ (x : Status). Q x ⊎ IsWireCause P x) (sym e) (inl none)

-- ---- what is made

pub made_may_send : {T : Type 0} (P : ℕ → Type 0) (Q : Type 0) (r : Result T Status) → IfErr r (λ s. HasMadeCause s ⊎ IsWireCause P s) → IfErr r (λ s. (MayHaveSent s → ⊥) → Q)
made_may_send P Q (Ok x) cause = tt
made_may_send P Q (Err s) cause = λ none. absurd (none (of_served P MayHaveSent s tt (λ port count. tt) cause))
