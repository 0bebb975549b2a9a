-- Files in memory, by their numbers, and the places at which they are read.
use Rattle.std.specs.Prelude.{◌≡◌, ◌≢◌, ◌↔◌, ◌+◌, ℕ, Bool, List, [], Option, Some, None, drop, length, map, min, string_bytes}
use Rattle.std.specs.Prelude.{is_some, nat_eq}
use Rattle.std.specs.List.{position_or_len, slice_index_or}
use Rattle.std.specs.Cmp.Lexicographic.{pointwise}
use Rattle.outside.specs.declared.shelf.Place4.{Place4}
use Rattle.outside.specs.declared.shelf.Place4.TheVariants.{Trace, Weights, Report, Script}
use Rattle.outside.specs.declared.files.File.{File}
use Rattle.outside.specs.declared.files.Opened.{Opened}
use Rattle.outside.specs.declared.files.Places.{Places}
use Rattle.outside.specs.Shelf.{Told}

abbrev pub names_of : List File → List (List ℕ)
names_of files = map (λ (f : File). string_bytes f.name) files

abbrev pub contents_of : List File → List (List ℕ)
contents_of files = map (λ (f : File). f.bytes.items) files

abbrev pub counts_of : List File → List ℕ
counts_of files = map (λ (f : File). f.faults) files

-- the number of the first file with the name, or the number of files where there is none
abbrev pub number_of : List (List ℕ) → List ℕ → ℕ
number_of names name = position_or_len (λ x. pointwise nat_eq x name) names

-- the bytes of a file; a number past the end has none
abbrev pub bytes_at : List (List ℕ) → ℕ → List ℕ
bytes_at contents number = slice_index_or contents number []

-- the count of faults of a file; the numbers past the end share one
abbrev pub count_at : List ℕ → ℕ → ℕ → ℕ
count_at counts missing number = slice_index_or counts number missing

-- the file that a number stands for: every number past the end stands for the missing file, which is the one at the end
abbrev pub file_at : List File → ℕ → ℕ
file_at files number = min number (length files)

-- the bytes under a name
abbrev pub bytes_under : List File → List ℕ → List ℕ
bytes_under files name = bytes_at (contents_of files) (number_of (names_of files) name)

-- the count of faults of a name
abbrev pub faults_under : List File → ℕ → List ℕ → ℕ
faults_under files missing name = count_at (counts_of files) missing (number_of (names_of files) name)

-- the bytes are those under the name, the bytes under every other name are as before, and so are all counts of faults
pub record Puts (old new : List File) (missing : ℕ) (name bytes : List ℕ) : Type 0 where
  pub bytes_are : bytes_under new name ≡ bytes
  pub others : (n : List ℕ) → n ≢ name → bytes_under new n ≡ bytes_under old n
  pub faults : (n : List ℕ) → faults_under new missing n ≡ faults_under old missing n

-- no file has the name
abbrev pub HasNoFile : List File → List ℕ → Type 0
HasNoFile files name = number_of (names_of files) name ≡ length files

-- every other name is that of a file where it was one before, and nowhere else
abbrev pub LeavesOtherNames : List File → List File → List ℕ → Type 0
LeavesOtherNames old new name = (n : List ℕ) → n ≢ name → HasNoFile new n ↔ HasNoFile old n

-- one file more where no file had the name, and else as many as before
pub record CountsName (old new : List File) (name : List ℕ) : Type 0 where
  pub new_name : HasNoFile old name → length new ≡ length old + 1
  pub old_name : (HasNoFile old name → ⊥) → length new ≡ length old

-- what is held at a place
abbrev pub held : {T : Type 0} → Places T → Place4 → Option T
held places Trace = places.trace
held places Weights = places.weights
held places Report = places.report
held places Script = places.script

-- the places with another value at one of them
abbrev pub with_held : {T : Type 0} → Places T → Place4 → Option T → Places T
with_held places Trace value = record places { trace = value }
with_held places Weights value = record places { weights = value }
with_held places Report value = record places { report = value }
with_held places Script value = record places { script = value }

-- what is told of a place
abbrev pub file_held : List File → Option Opened → ℕ
file_held files None = 0
file_held files (Some o) = file_at files o.file

abbrev pub left_held : List (List ℕ) → Option Opened → List ℕ
left_held contents None = []
left_held contents (Some o) = drop o.taken (bytes_at contents o.file)

-- what files in memory tell
abbrev pub memory_told : List File → (ℕ → ℕ) → Places Opened → Told
memory_told files faults places = record {
  file = number_of (names_of files);
  bytes = bytes_at (contents_of files);
  faults = faults;
  file_at = λ p. file_held files (held places p);
  left = λ p. left_held (contents_of files) (held places p);
}

abbrev pub is_started : {T : Type 0} → Places T → Place4 → Bool
is_started places place = is_some (held places place)
