-- What holds of a run of a script that has no text.
use Rattle.std.proofs.Common.{◌≡◌, ℕ, inl, inr, List, Option, refl, subst, sym}
use Rattle.std.specs.Prelude.{◌⊎◌}
use Rattle.live_runs.specs.Read.{IsRead}
use Rattle.live_serving.specs.declared.answer.LiveFault.{LiveFault}
use Rattle.live_serving.specs.declared.answer.LiveFault.TheVariants as live_fault
use Rattle.outside.specs.Shelf.{Told}
use Rattle.workload.specs.declared.script.Script.{Script}
use Rattle.command_files.specs.declared.status.Status.{Status}
use Rattle.command_files.specs.declared.status.Status.TheVariants as status
use Rattle.command_files.specs.Ends.{IsReadFault}
use Rattle.command_files.specs.Scripts.{IsScriptOf}
use Rattle.command_files.specs.WireCauses.{IsWireCause}
use Rattle.command_jobs.specs.Live.{IsStatusOfLive}
use Rattle.command_jobs.specs.Serving.{MayHaveSent}

pub live_reads : (fault : LiveFault) (s : Status) → IsStatusOfLive fault s → IsReadFault s → ⊥
live_reads (live_fault.WireFault port) s is read = subst IsReadFault is read
live_reads live_fault.NoMemory s is read = subst IsReadFault is read

-- units may have been sent
pub live_may_send : (fault : LiveFault) (s : Status) → IsStatusOfLive fault s → MayHaveSent s
live_may_send (live_fault.WireFault port) s is = subst MayHaveSent (sym is) tt
live_may_send live_fault.NoMemory s is = subst MayHaveSent (sym is) tt

-- the cause is that of the wire, or there was no memory
pub live_cause : (fault : LiveFault) (s : Status) (Q : Status → Type 0) (P : ℕ → Type 0) → IsStatusOfLive fault s → Q status.NoMemory →
    ((port : ℕ) → fault ≡ live_fault.WireFault port → P port) → Q s ⊎ IsWireCause P s
live_cause (live_fault.WireFault port) s Q P is none wire = subst (λ (x : Status). Q x ⊎ IsWireCause P x) (sym is) (inr (refl, wire port refl))
live_cause live_fault.NoMemory s Q P is none wire = subst (λ (x : Status). Q x ⊎ IsWireCause P x) (sym is) (inl none)

-- a script of a file is one that was read
pub script_is_read : (told : Option Told) (name ids : List ℕ) (script : Script) → IsScriptOf told name ids script → IsRead ids script
script_is_read told name ids script of = record { text = of.text; passes = of.is_text.passes; script_is = of.script_is }
