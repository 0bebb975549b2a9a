-- What the calls of a shelf in memory do to what it tells.
use Rattle.std.proofs.Common.{◌≡◌, ◌≢◌, ℕ, ◌+◌, ◌≤◌, List, drop, length, refl, sym, ◌∙◌, ap, arith}
use Rattle.std.specs.Prelude.{Option, Some, None, Ok, Err, is_some, min}
use Rattle.outside.specs.declared.shelf.Place4.{Place4}
use Rattle.outside.specs.declared.shelf.Place4.TheVariants.{Trace, Weights, Report, Script}
use Rattle.outside.specs.declared.sink.Failed.{Failed}
use Rattle.outside.specs.declared.files.File.{File}
use Rattle.outside.specs.declared.files.Opened.{Opened}
use Rattle.outside.specs.declared.files.Places.{Places}
use Rattle.std.proofs.lemmas.List.{length-map}
use Rattle.std.specs.Prelude.{string_bytes}
use Rattle.outside.specs.Rose.{RoseOnce}
use Rattle.outside.specs.Shelf.{Keeps, KeepsOtherCounts, Moves, ReadsAt, StartsAt}
use Rattle.outside.proofs.FileSteps.{number_within}
use Rattle.outside.specs.Files.{bytes_at, contents_of, file_at, file_held, held, is_started, left_held, memory_told, names_of, number_of, with_held}

-- two functions of a place that agree everywhere are one
everywhere : {X : Type 0} (P Q : Place4 → X) → ((p : Place4) → P p ≡ Q p) → P ≡ Q
everywhere P Q h = λ i p. h p i

held_here : (places : Places Opened) (place : Place4) (v : Option Opened) → held (with_held places place v) place ≡ v
held_here places Trace v = refl
held_here places Weights v = refl
held_here places Report v = refl
held_here places Script v = refl

-- a fact of what is held that the new value shares with the old one
held_all : {X : Type 0} (f : Option Opened → X) (places : Places Opened) (place : Place4) (v : Option Opened) → f v ≡ f (held places place) → (p : Place4) →
    f (held (with_held places place v) p) ≡ f (held places p)
held_all f places Trace v same Trace = same
held_all f places Trace v same Weights = refl
held_all f places Trace v same Report = refl
held_all f places Trace v same Script = refl
held_all f places Weights v same Trace = refl
held_all f places Weights v same Weights = same
held_all f places Weights v same Report = refl
held_all f places Weights v same Script = refl
held_all f places Report v same Trace = refl
held_all f places Report v same Weights = refl
held_all f places Report v same Report = same
held_all f places Report v same Script = refl
held_all f places Script v same Trace = refl
held_all f places Script v same Weights = refl
held_all f places Script v same Report = refl
held_all f places Script v same Script = same

held_other : (places : Places Opened) (place : Place4) (v : Option Opened) (p : Place4) → p ≢ place → held (with_held places place v) p ≡ held places p
held_other places Trace v Trace other = absurd (other refl)
held_other places Trace v Weights other = refl
held_other places Trace v Report other = refl
held_other places Trace v Script other = refl
held_other places Weights v Trace other = refl
held_other places Weights v Weights other = absurd (other refl)
held_other places Weights v Report other = refl
held_other places Weights v Script other = refl
held_other places Report v Trace other = refl
held_other places Report v Weights other = refl
held_other places Report v Report other = absurd (other refl)
held_other places Report v Script other = refl
held_other places Script v Trace other = refl
held_other places Script v Weights other = refl
held_other places Script v Report other = refl
held_other places Script v Script other = absurd (other refl)

keeps_by : (old new : List File) (f g : ℕ → ℕ) (places after : Places Opened) → names_of new ≡ names_of old → contents_of new ≡ contents_of old → ((k : ℕ) → f k ≤ g k) →
    Keeps (memory_told old f places) (memory_told new g after)
keeps_by old new f g places after names contents later = record { file = ap number_of names; bytes = ap bytes_at contents; later = later }

as_many : (old new : List File) → names_of new ≡ names_of old → length new ≡ length old
as_many old new names = sym (length-map new (λ (x : File). string_bytes x.name)) ∙ ap length names ∙ length-map old (λ (x : File). string_bytes x.name)

same_file : (old new : List File) → names_of new ≡ names_of old → (o : Option Opened) → file_held new o ≡ file_held old o
same_file old new names None = refl
same_file old new names (Some o) = ap (min o.file) (as_many old new names)

-- the counts of all files but one are as before
abbrev pub Others : List File → (ℕ → ℕ) → (ℕ → ℕ) → ℕ → Type 0
Others files f g file = (k : ℕ) → k ≢ file → k ≤ length files → g k ≡ f k

-- so are those of the names of all files but one
names_kept : (old new : List File) (f g : ℕ → ℕ) (places after : Places Opened) (file : ℕ) → names_of new ≡ names_of old → Others old f g file →
    KeepsOtherCounts (memory_told old f places) (memory_told new g after) file
names_kept old new f g places after file names others n other = rw names (others (number_of (names_of old) n) other (number_within old n))

pub start_succeeds : {X E : Type 0} (files : List File) (f : ℕ → ℕ) (places : Places Opened) (place : Place4) (name : List ℕ) (file : ℕ) (x : X) →
    file ≡ number_of (names_of files) name →
    StartsAt {X = X} {E = E} (memory_told files f places) (memory_told files f (with_held places place (Some (record { file = file; taken = 0 })))) place name (Ok x)
start_succeeds files f places place name file x at = record {
  keeps = keeps_by files files f f places _ refl refl (λ k. omega arith);
  file_at =
      let is : file_at files file ≡ number_of (names_of files) name = omega (arith, at, number_within files name) in
      ap (file_held files) (held_here places place _) ∙ is;
  left = ap (left_held (contents_of files)) (held_here places place _) ∙ ap (bytes_at (contents_of files)) at;
  others_file_at = λ p other. ap (file_held files) (held_other places place _ p other);
  others_left = λ p other. ap (left_held (contents_of files)) (held_other places place _ p other);
  still = refl;
  cause = tt;
  other_counts = tt;
}

pub start_fails : {X E : Type 0} (old new : List File) (f g : ℕ → ℕ) (places : Places Opened) (place : Place4) (name : List ℕ) (file : ℕ) (e : E) →
    file ≡ number_of (names_of old) name →
    names_of new ≡ names_of old → contents_of new ≡ contents_of old → ((k : ℕ) → f k ≤ g k) → RoseOnce (f (file_at old file)) (g (file_at old file)) →
    Others old f g (file_at old file) →
    StartsAt {X = X} {E = E} (memory_told old f places) (memory_told new g (with_held places place None)) place name (Err e)
start_fails old new f g places place name file e at names contents later rose others = record {
  keeps = keeps_by old new f g places _ names contents later;
  file_at = tt;
  left = tt;
  others_file_at = λ p other. held_still p (ap (file_held old) (held_other places place None p other));
  others_left = λ p other. rw contents (ap (left_held (contents_of old)) (held_other places place None p other));
  still = tt;
  cause = rw names (rw is at rose);
  other_counts = names_kept old new f g places (with_held places place None) (number_of (names_of old) name) names (rw is at others);
}
  where
    is : file_at old file ≡ number_of (names_of old) name
    is = omega (arith, at, number_within old name)

    held_still : (p : Place4) → file_held old (held (with_held places place None) p) ≡ file_held old (held places p) →
        file_held new (held (with_held places place None) p) ≡ file_held old (held places p)
    held_still p same = same_file old new names (held (with_held places place None) p) ∙ same

pub read_fails : {E : Type 0} (old new : List File) (f g : ℕ → ℕ) (places : Places Opened) (place : Place4) (buffer : List ℕ) (o : Opened) (e : E) → held places place ≡ Some o →
    names_of new ≡ names_of old →
    contents_of new ≡ contents_of old → ((k : ℕ) → f k ≤ g k) → RoseOnce (f (file_at old o.file)) (g (file_at old o.file)) → Others old f g (file_at old o.file) →
    ReadsAt (memory_told old f places) (memory_told new g places) place buffer (Err e)
read_fails old new f g places place buffer o e at names contents later rose others = record {
  keeps = keeps_by old new f g places places names contents later;
  file_at = everywhere _ _ (λ p. same_file old new names (held places p));
  moves = rw contents refl;
  others_left = λ p other. rw contents refl;
  still = tt;
  cause = rw (at, as_many old new names) rose;
  other_counts = rw at (names_kept old new f g places places (file_at old o.file) names others);
}

pub read_succeeds : {E : Type 0} (files : List File) (f : ℕ → ℕ) (places : Places Opened) (place : Place4) (buffer : List ℕ) (o : Opened) (n : ℕ) → held places place ≡ Some o →
    Moves {E = Failed} (drop o.taken (bytes_at (contents_of files) o.file)) (drop (o.taken + n) (bytes_at (contents_of files) o.file)) buffer (Ok n) →
    ReadsAt {E = E} (memory_told files f places) (memory_told files f (with_held places place (Some (record { file = o.file; taken = o.taken + n })))) place buffer (Ok n)
read_succeeds files f places place buffer o n at moves = record {
  keeps = keeps_by files files f f places _ refl refl (λ k. omega arith);
  file_at = everywhere _ _ (held_all (file_held files) places place _ (rw at refl));
  moves = rw (at, held_here places place (Some (record { file = o.file; taken = o.taken + n }))) moves;
  others_left = λ p other. ap (left_held (contents_of files)) (held_other places place _ p other);
  still = refl;
  cause = tt;
  other_counts = tt;
}

pub started_still : (places : Places Opened) (place : Place4) (o now : Opened) → held places place ≡ Some o → is_started (with_held places place (Some now)) ≡ is_started places
started_still places place o now at = everywhere _ _ (held_all is_some places place (Some now) (rw at refl))
