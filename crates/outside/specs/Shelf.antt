-- What a shelf tells, and what its calls do to it.
use Rattle.std.specs.Prelude.{◌≡◌, ◌≢◌, ℕ, ◌+◌, ◌≤◌, ◌++◌, List, [], Option, Some, None, Result, Ok, Err, OnOk, OnErr}
use Rattle.std.specs.Prelude.{length, take, drop}
use Rattle.std.specs.declared.vec.Vec.{Vec}
use Rattle.std.specs.declared.alloc.Global.{Global}
use Rattle.outside.specs.declared.shelf.Place4.{Place4}
use Rattle.outside.specs.declared.reading.ReadStop.{ReadStop}
use Rattle.outside.specs.declared.reading.ReadStop.TheVariants.{Fault, TooLong}
use Rattle.outside.specs.Rose.{RoseOnce}

-- What a shelf tells. Files have numbers. Names may stand for one file, and then share its bytes and its count of
-- faults.
pub record Told : Type 0 where
  -- the file for which a name stands
  pub file : List ℕ → ℕ
  -- the bytes of a file
  pub bytes : ℕ → List ℕ
  -- the count of faults of a file
  pub faults : ℕ → ℕ
  -- the file that is set at a place
  pub file_at : Place4 → ℕ
  -- the bytes that are left at a place
  pub left : Place4 → List ℕ

-- the bytes under a name
abbrev pub bytes_of : Told → List ℕ → List ℕ
bytes_of told name = told.bytes (told.file name)

-- the count of faults of a name
abbrev pub faults_of : Told → List ℕ → ℕ
faults_of told name = told.faults (told.file name)

-- the count of faults of the file that is set at a place
abbrev pub faults_at : Told → Place4 → ℕ
faults_at told place = told.faults (told.file_at place)

-- the two agree at every other place
abbrev pub SameElsewhere : {X : Type 0} → Place4 → (Place4 → X) → (Place4 → X) → Type 0
SameElsewhere place old new = (p : Place4) → p ≢ place → new p ≡ old p

-- every name that stands for another file has as many faults as before
abbrev pub KeepsOtherCounts : Told → Told → ℕ → Type 0
KeepsOtherCounts old new file = (n : List ℕ) → old.file n ≢ file → faults_of new n ≡ faults_of old n

-- No call changes the file of a name or its bytes, and no count of faults falls.
pub record Keeps (old new : Told) : Type 0 where
  pub file : new.file ≡ old.file
  pub bytes : new.bytes ≡ old.bytes
  pub later : (file : ℕ) → old.faults file ≤ new.faults file

-- A start that succeeds sets the file of the name at the place, leaves all its bytes there, and changes no count of
-- faults. At a fault the count of the name rose once, and that of no other file.
pub record StartsAt {X E : Type 0} (old new : Told) (place : Place4) (name : List ℕ) (result : Result X E) : Type 0
  where
    pub keeps : Keeps old new
    pub file_at : OnOk result (new.file_at place ≡ old.file name)
    pub left : OnOk result (new.left place ≡ bytes_of old name)
    pub others_file_at : SameElsewhere place old.file_at new.file_at
    pub others_left : SameElsewhere place old.left new.left
    pub still : OnOk result (new.faults ≡ old.faults)
    pub cause : OnErr result (RoseOnce (faults_of old name) (faults_of new name))
    pub other_counts : OnErr result (KeepsOtherCounts old new (old.file name))

-- the first bytes that were left came into the buffer, none only where none was left; at a fault all are left
abbrev pub Moves : {E : Type 0} → List ℕ → List ℕ → List ℕ → Result ℕ E → Type 0
Moves old new buffer (Ok n) = (take n buffer ++ new ≡ old) × (n ≡ 0 → old ≡ [])
Moves old new buffer (Err e) = new ≡ old

-- A read moves bytes out of the place. One that succeeds changes no count of faults. At a fault the count of the file
-- there rose once, and that of no other file.
pub record ReadsAt {E : Type 0} (old new : Told) (place : Place4) (buffer : List ℕ) (result : Result ℕ E) : Type 0 where
  pub keeps : Keeps old new
  pub file_at : new.file_at ≡ old.file_at
  pub moves : Moves (old.left place) (new.left place) buffer result
  pub others_left : SameElsewhere place old.left new.left
  pub still : OnOk result (new.faults ≡ old.faults)
  pub cause : OnErr result (RoseOnce (faults_at old place) (faults_at new place))
  pub other_counts : OnErr result (KeepsOtherCounts old new (old.file_at place))

-- All bytes that were left at the place are the answer. Too long: `most + 1` bytes were taken. Otherwise at most `most`
-- bytes were taken.
abbrev pub TakesWhole : Told → Told → Place4 → ℕ → Result (Vec ℕ Global) ReadStop → Type 0
TakesWhole old new place most (Ok bytes) = (bytes.items ≡ old.left place) × (new.left place ≡ [])
TakesWhole old new place most (Err TooLong) =
    (most + 1 ≤ length (old.left place)) × (new.left place ≡ drop (most + 1) (old.left place))
TakesWhole old new place most (Err stop) = (n : ℕ) × (n ≤ most) × (new.left place ≡ drop n (old.left place))

-- at a fault the count of the file at the place rose once, and that of no other file; else no count changed
abbrev pub CountsWhole : Told → Told → Place4 → Result (Vec ℕ Global) ReadStop → Type 0
CountsWhole old new place (Err Fault) =
    RoseOnce (faults_at old place) (faults_at new place) × KeepsOtherCounts old new (old.file_at place)
CountsWhole old new place result = new.faults ≡ old.faults

-- reading to the end
pub record ReadsWholeAt (old new : Told) (place : Place4) (most : ℕ) (result : Result (Vec ℕ Global) ReadStop) : Type 0
  where
    pub keeps : Keeps old new
    pub file_at : new.file_at ≡ old.file_at
    pub takes : TakesWhole old new place most result
    pub counts : CountsWhole old new place result
    pub others_left : SameElsewhere place old.left new.left

-- a start, where the shelf tells; a shelf tells after every call or after none
abbrev pub Starts : {X E : Type 0} → Option Told → Option Told → Place4 → List ℕ → Result X E → Type 0
Starts None new place name result = new ≡ None
Starts (Some old) new place name result = (t : Told) × (new ≡ Some t) × StartsAt old t place name result

-- a read, where the shelf tells
abbrev pub Reads : {E : Type 0} → Option Told → Option Told → Place4 → List ℕ → Result ℕ E → Type 0
Reads None new place buffer result = new ≡ None
Reads (Some old) new place buffer result = (t : Told) × (new ≡ Some t) × ReadsAt old t place buffer result

-- reading to the end, where the shelf tells
abbrev pub ReadsWhole : Option Told → Option Told → Place4 → ℕ → Result (Vec ℕ Global) ReadStop → Type 0
ReadsWhole None new place most result = new ≡ None
ReadsWhole (Some old) new place most result = (t : Told) × (new ≡ Some t) × ReadsWholeAt old t place most result

-- the bytes are those under the name, the bytes under every other name are as before, and so are all counts of faults
pub record PutsBytes (old new : Told) (name bytes : List ℕ) : Type 0 where
  pub bytes_are : bytes_of new name ≡ bytes
  pub others : (n : List ℕ) → n ≢ name → bytes_of new n ≡ bytes_of old n
  pub faults : (n : List ℕ) → faults_of new n ≡ faults_of old n

-- no name has bytes, and no name has a fault
pub record IsBare (told : Told) : Type 0 where
  pub bytes : (n : List ℕ) → bytes_of told n ≡ []
  pub faults : (n : List ℕ) → faults_of told n ≡ 0
