-- Why the text of an online run is not right, and which reason comes first.
use Rattle.std.specs.Prelude.{◌≡◌, ◌≢◌, ℕ, ◌<◌, List}
use Rattle.coflow_units.specs.Completion.{completion, cost}
use Rattle.coflow_units.specs.Flows.{Instance}
use Rattle.cert_check.specs.Places.{IsFirstOutOfRange, IsFirstWrong, ids_in}
use Rattle.online_text.specs.declared.value.Online.{Online}
use Rattle.release_bound.specs.Release.{released_total}
use Rattle.release_bound.specs.ReleaseTable.{IsLeastReleasedInfeasible}
use Rattle.schedule_model.specs.Fault.{IsFirstClash, IsFirstMiscount, IsFirstNoFlow}
use Rattle.schedule_model.specs.RunList.{slots_in}
use Rattle.online_check.specs.declared.verdict.OnlineReason.{OnlineReason}
use Rattle.online_check.specs.declared.verdict.OnlineReason.TheVariants.{ClashIn, CostWrong, DoneWrong, Early}
use Rattle.online_check.specs.declared.verdict.OnlineReason.TheVariants.{Infeasible, Listed, NoFlow, NotPermutation}
use Rattle.online_check.specs.declared.verdict.OnlineReason.TheVariants.{PortRange, TotalTooHigh, UnitsOf}
use Rattle.online_check.specs.declared.verdict.OnlineVerdict.{OnlineVerdict}
use Rattle.online_check.specs.declared.verdict.OnlineVerdict.TheVariants.{No, Yes}
use Rattle.online_check.specs.Done.{IsFirstUnlisted, IsFirstWrongEnd, ids_done, slots_done}
use Rattle.online_check.specs.Early.{IsFirstEarly}
use Rattle.online_check.specs.Released.{plain_lines, released_in}
use Rattle.online_check.specs.Sound.{IsSoundOnline}

-- the reason holds of the online run, with its values; of its kind it is the one with the least place, coflow, slot or
-- line
abbrev pub HasOnlineReason : Instance → (ℕ → ℕ) → List ℕ → Online → OnlineReason → Type 0
HasOnlineReason i arrival ids o (NotPermutation place) = IsFirstWrong ids (ids_in (plain_lines o.release)) place
HasOnlineReason i arrival ids o (PortRange place number) =
    IsFirstOutOfRange i.ports (plain_lines o.release) place number
HasOnlineReason i arrival ids o (Infeasible coflow) =
    IsLeastReleasedInfeasible i.flows i.weight (released_in ids o.release) coflow
HasOnlineReason i arrival ids o (TotalTooHigh stated real) = (stated ≡ o.total) ×
    (real ≡ released_total i.flows arrival i.ports (released_in ids o.release)) × (real < stated)
HasOnlineReason i arrival ids o (NoFlow slot flow) = IsFirstNoFlow i.flows (slots_in o.runs) slot flow
HasOnlineReason i arrival ids o (ClashIn slot port) = IsFirstClash i.flows (slots_in o.runs) slot port
HasOnlineReason i arrival ids o (UnitsOf flow have want) = IsFirstMiscount i.flows (slots_in o.runs) flow have want
HasOnlineReason i arrival ids o (Early slot coflow) = IsFirstEarly i.flows arrival (slots_in o.runs) slot coflow
HasOnlineReason i arrival ids o (Listed index) = IsFirstUnlisted ids (ids_done o.done) index
HasOnlineReason i arrival ids o (DoneWrong coflow stated real) =
    IsFirstWrongEnd (slots_done o.done) (completion i.flows (slots_in o.runs)) coflow stated real
HasOnlineReason i arrival ids o (CostWrong stated real) = (stated ≡ o.cost) ×
    (real ≡ cost i.flows i.weight i.coflows (slots_in o.runs)) × (stated ≢ real)

-- the place of the reason's kind in the order of kinds
abbrev pub online_kind : OnlineReason → ℕ
online_kind (NotPermutation place) = 0
online_kind (PortRange place number) = 1
online_kind (Infeasible coflow) = 2
online_kind (TotalTooHigh stated real) = 3
online_kind (NoFlow slot flow) = 4
online_kind (ClashIn slot port) = 5
online_kind (UnitsOf flow have want) = 6
online_kind (Early slot coflow) = 7
online_kind (Listed index) = 8
online_kind (DoneWrong coflow stated real) = 9
online_kind (CostWrong stated real) = 10

-- the first kind of the reasons that are looked for in the certificate, its places apart
abbrev pub certificate_kind : ℕ
certificate_kind = online_kind (Infeasible 0)

-- the first kind of the reasons that are looked for in the schedule
abbrev pub schedule_kind : ℕ
schedule_kind = online_kind (NoFlow 0 0)

-- the first kind of the reasons that are looked for in the completions and the cost
abbrev pub ends_kind : ℕ
ends_kind = online_kind (Listed 0)

-- the reason holds, and none of an earlier kind does
pub record IsFirstOnlineReason (i : Instance) (arrival : ℕ → ℕ) (ids : List ℕ) (o : Online) (reason : OnlineReason)
    : Type 0 where
  pub holds : HasOnlineReason i arrival ids o reason
  pub first : (other : OnlineReason) → online_kind other < online_kind reason →
      HasOnlineReason i arrival ids o other → ⊥

-- the verdict is yes on a right online run, and else it tells the first reason
abbrev pub IsOnlineVerdict : Instance → (ℕ → ℕ) → List ℕ → Online → OnlineVerdict → Type 0
IsOnlineVerdict i arrival ids o Yes = IsSoundOnline i arrival ids o
IsOnlineVerdict i arrival ids o (No reason) = IsFirstOnlineReason i arrival ids o reason

-- a coflow that the reason names is one of so many
abbrev pub NamesOneOf : ℕ → OnlineReason → Type 0
NamesOneOf count (Infeasible coflow) = coflow < count
NamesOneOf count (Early slot coflow) = coflow < count
NamesOneOf count (DoneWrong coflow stated real) = coflow < count
NamesOneOf count _ = Unit {0}

-- the same of the verdict's reason, if it has one
abbrev pub NamesOneOfIfAny : ℕ → OnlineVerdict → Type 0
NamesOneOfIfAny count Yes = Unit {0}
NamesOneOfIfAny count (No reason) = NamesOneOf count reason
