-- What a call does to a shelf that tells its files.
use Rattle.std.specs.Prelude.{◌≡◌, ℕ, List, [], Option, Some, None, IfSome}
use Rattle.command_words.specs.Jobs.{Job, report_name, script_name, trace_name}
use Rattle.command_words.specs.Jobs.Job.{make_job}
use Rattle.command_words.specs.Words.{Said}
use Rattle.outside.specs.declared.shelf.Place4.{Place4}
use Rattle.outside.specs.declared.shelf.Place4.TheVariants as place
use Rattle.outside.specs.Shelf.{Keeps, SameElsewhere, Told, bytes_of}

-- where they are told, the bytes of the file are these
abbrev pub HasBytes : Option Told → List ℕ → List ℕ → Type 0
HasBytes told name bytes = IfSome told (λ t. bytes ≡ bytes_of t name)

-- a shelf that tells goes on telling, of the same files
abbrev pub KeepsFiles : Option Told → Option Told → Type 0
KeepsFiles None new = new ≡ None
KeepsFiles (Some old) new = (t : Told) × (new ≡ Some t) × Keeps old t

-- where the shelf tells, this holds of what it told before and of what it tells now
abbrev pub OfBoth : Option Told → Option Told → (Told → Told → Type 0) → Type 0
OfBoth None new P = Unit {0}
OfBoth (Some old) new P = (t : Told) × (new ≡ Some t) × P old t

-- the other places are as before
abbrev pub KeepsOthers : Place4 → Told → Told → Type 0
KeepsOthers at old new = SameElsewhere at old.file_at new.file_at × SameElsewhere at old.left new.left

-- the file of the name was read to its end at the place: it is set there, and none of its bytes are left
abbrev pub IsReadOut : Place4 → List ℕ → Told → Told → Type 0
IsReadOut at name old new = (new.file_at at ≡ old.file name) × (new.left at ≡ [])

-- no file was looked at there: the same file is set at the place, and as much of it is left
abbrev pub IsAsBefore : Place4 → Told → Told → Type 0
IsAsBefore at old new = (new.file_at at ≡ old.file_at at) × (new.left at ≡ old.left at)

-- where no name is given, no file was looked at there
abbrev pub IsAsBeforeUnless : Place4 → Option (List ℕ) → Told → Told → Type 0
IsAsBeforeUnless at name old new = name ≡ None → IsAsBefore at old new

-- where a name is given, its file was read to its end, and where none is given, no file was looked at there
abbrev pub IsReadOutIf : Place4 → Option (List ℕ) → Told → Told → Type 0
IsReadOutIf at None old new = IsAsBefore at old new
IsReadOutIf at (Some name) old new = IsReadOut at name old new

-- the trace was read to its end, and so were the weights where a name is given
abbrev pub AreReadOut : List ℕ → Option (List ℕ) → Told → Told → Type 0
AreReadOut trace weights old new = IsReadOut place.Trace trace old new × IsReadOutIf place.Weights weights old new

-- every file that is named was read to its end, and no file was looked at in the place of one that is not named
abbrev pub AllReadOut : Said → Told → Told → Type 0
AllReadOut said old new = AreReadOut (trace_name said.job) said.weights old new ×
    (IsReadOutIf place.Report (report_name said.job) old new × IsReadOutIf place.Script (script_name said.job) old new)

-- every file that the command reads was read to its end, and no other one was looked at
abbrev pub ReadsOut : Job → Said → Told → Told → Type 0
ReadsOut (make_job seed) said old new = Unit {0}
ReadsOut job said old new = AllReadOut said old new
