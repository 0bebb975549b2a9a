-- What calls to a shelf do, where it tells its files.
use Rattle.std.proofs.Common.{◌≡◌, ◌≢◌, IsErrAnd, IfErr, ℕ, ◌≤◌, List, Option, Some, None, Result, Ok, Err, refl, sym, ap, subst, ◌∙◌, arith}
use Rattle.std.specs.Prelude.{IfSome}
use Rattle.std.specs.declared.vec.Vec.{Vec}
use Rattle.std.specs.declared.alloc.Global.{Global}
use Rattle.outside.specs.declared.shelf.Place4.{Place4}
use Rattle.outside.specs.Rose.{Rose}
use Rattle.outside.specs.Shelf.{Keeps, ReadsWhole, Starts, Told, bytes_of}
use Rattle.command_files.specs.declared.status.Status.{Status}
use Rattle.command_files.specs.FileCauses.{NameFailedIf}
use Rattle.command_files.specs.Inputs.{bytes_if}
use Rattle.command_files.specs.Shelves.{IsAsBefore, IsAsBeforeUnless, IsReadOut, IsReadOutIf, KeepsFiles, KeepsOthers, OfBoth}

-- ---- an error that is handed on

-- what holds of each status that the error becomes holds of the result
pub passed_as : {T : Type 0} (r : Result T Status) (Q P : Status → Type 0) → IsErrAnd r Q → ((s : Status) → Q s → P s) → IfErr r P
passed_as (Ok x) Q P is f = tt
passed_as (Err s) Q P is f = f s is

-- the status is handed on as it is
pub passed_on : {T : Type 0} (r : Result T Status) (s : Status) (P : Status → Type 0) → IsErrAnd r (λ x. x ≡ s) → P s → IfErr r P
passed_on r s P is h = passed_as r (λ x. x ≡ s) P is (λ x e. subst P (sym e) h)

-- ---- where the shelf tells

pub if_some : (old : Option Told) (P Q : Told → Type 0) → ((t : Told) → P t → Q t) → IfSome old P → IfSome old Q
if_some None P Q f p = tt
if_some (Some t) P Q f p = f t p

pub with_both : (old : Option Told) (P Q R : Told → Type 0) → ((t : Told) → P t → Q t → R t) → IfSome old P → IfSome old Q → IfSome old R
with_both None P Q R f p q = tt
with_both (Some t) P Q R f p q = f t p q

pub of_both : (old new : Option Told) (P Q : Told → Told → Type 0) → ((a b : Told) → P a b → Q a b) → OfBoth old new P → OfBoth old new Q
of_both None new P Q f p = tt
of_both (Some old) new P Q f (t, is, p) = (t, is, f old t p)

-- with what holds of the files as they were told before
pub both_and : (old new : Option Told) (P : Told → Type 0) (Q R : Told → Told → Type 0) → ((a b : Told) → P a → Q a b → R a b) → IfSome old P → OfBoth old new Q → OfBoth old new R
both_and None new P Q R f p q = tt
both_and (Some old) new P Q R f p (t, is, q) = (t, is, f old t p q)

pub both_same : (told : Option Told) (P : Told → Told → Type 0) → ((t : Told) → P t t) → OfBoth told told P
both_same None P f = tt
both_same (Some t) P f = (t, refl, f t)

-- one call after another
pub both_through : (old mid new : Option Told) (P Q R : Told → Told → Type 0) → ((a b c : Told) → P a b → Q b c → R a c) → OfBoth old mid P → OfBoth mid new Q → OfBoth old new R
both_through None mid new P Q R f p q = tt
both_through (Some a) mid new P Q R f (b, is, p) q =
    let there : OfBoth (Some b) new Q = subst (λ m. OfBoth m new Q) is q in
    (there.0, there.1, f a b there.0 p there.2)

pub both_joined : (old new : Option Told) (P Q : Told → Told → Type 0) → OfBoth old new P → OfBoth old new Q → OfBoth old new (λ a b. P a b × Q a b)
both_joined None new P Q p q = tt
both_joined (Some old) new P Q (t, is, p) (s, same, q) =
    let one : s ≡ t = cc in
    (t, is, (p, subst (λ (x : Told). Q old x) one q))

pub both_kept : (old new : Option Told) → KeepsFiles old new → OfBoth old new Keeps
both_kept None new k = tt
both_kept (Some old) new k = k

-- ---- places that are as before

pub as_before : (old new : Option Told) (at other : Place4) → at ≢ other → OfBoth old new (KeepsOthers other) → OfBoth old new (IsAsBefore at)
as_before old new at other differ keeps = of_both old new (KeepsOthers other) (IsAsBefore at) (λ a b (files, lefts). (files at differ, lefts at differ)) keeps

pub as_before_through : (old mid new : Option Told) (at : Place4) → OfBoth old mid (IsAsBefore at) → OfBoth mid new (IsAsBefore at) → OfBoth old new (IsAsBefore at)
as_before_through old mid new at p q =
    both_through old mid new (IsAsBefore at) (IsAsBefore at) (IsAsBefore at) (λ a b c (file, left) (files, lefts). (files ∙ file, lefts ∙ left)) p q

-- as it is where a file is read at another place after that
pub still_before : (old mid new : Option Told) (at other : Place4) → at ≢ other → OfBoth old mid (IsAsBefore at) → OfBoth mid new (KeepsOthers other) →
    OfBoth old new (IsAsBefore at)
still_before old mid new at other differ p keeps = as_before_through old mid new at p (as_before mid new at other differ keeps)

-- ---- a file that is read

keeps_both : (a b c : Told) → Keeps a b → Keeps b c → Keeps a c
keeps_both a b c k l = record {
  file = l.file ∙ k.file;
  bytes = l.bytes ∙ k.bytes;
  later = λ f. omega (arith, k.later f, l.later f);
}

pub files_kept : (a b c : Option Told) → KeepsFiles a b → KeepsFiles b c → KeepsFiles a c
files_kept None b c k l = subst (λ m. KeepsFiles m c) k l
files_kept (Some a) b c (t, is, k) l =
    let there : KeepsFiles (Some t) c = subst (λ m. KeepsFiles m c) is l in
    (there.0, there.1, keeps_both a t there.0 k there.2)

module _ {X : Type 0} (E : Type 0) (old mid new : Option Told) (place : Place4) (name : List ℕ) (most : ℕ) where
  pub file_kept : (r : Result X E) (res : _) → Starts {E = E} old mid place name r → ReadsWhole mid new place most res → KeepsFiles old new
  file_kept r res started read = go old started where
    go : (o : Option Told) → Starts {E = E} o mid place name r → KeepsFiles o new
    go None none = subst (λ m. ReadsWhole m new place most res → new ≡ None) (sym none) (λ h. h) read
    go (Some o) (t, is, at) =
        let whole : ReadsWhole (Some t) new place most res = subst (λ m. ReadsWhole m new place most res) is read in
        (whole.0, whole.1, keeps_both o t whole.0 at.keeps whole.2.keeps)

  pub start_elsewhere : (r : Result X E) → Starts {E = E} old mid place name r → OfBoth old mid (KeepsOthers place)
  start_elsewhere r started = go old started where
    go : (o : Option Told) → Starts {E = E} o mid place name r → OfBoth o mid (KeepsOthers place)
    go None none = tt
    go (Some o) (t, is, at) = (t, is, (at.others_file_at, at.others_left))

  pub read_elsewhere : (r : Result X E) (res : _) → Starts {E = E} old mid place name r → ReadsWhole mid new place most res → OfBoth old new (KeepsOthers place)
  read_elsewhere r res started read = go old started where
    go : (o : Option Told) → Starts {E = E} o mid place name r → OfBoth o new (KeepsOthers place)
    go None none = tt
    go (Some o) (t, is, at) =
        let whole : ReadsWhole (Some t) new place most res = subst (λ m. ReadsWhole m new place most res) is read in
        let same = whole.2.file_at in
        (whole.0, whole.1, (λ p other. ap (λ (f : Place4 → ℕ). f p) same ∙ at.others_file_at p other, λ p other. whole.2.others_left p other ∙ at.others_left p other))

  pub read_out : (x : X) (bytes : Vec ℕ Global) → Starts {E = E} old mid place name (Ok x) → ReadsWhole mid new place most (Ok bytes) → OfBoth old new (IsReadOut place name)
  read_out x bytes started read = go old started where
    go : (o : Option Told) → Starts {E = E} o mid place name (Ok x) → OfBoth o new (IsReadOut place name)
    go None none = tt
    go (Some o) (t, is, at) =
        let whole : ReadsWhole (Some t) new place most (Ok bytes) = subst (λ m. ReadsWhole m new place most (Ok bytes)) is read in
        (whole.0, whole.1, (ap (λ (f : Place4 → ℕ). f place) whole.2.file_at ∙ at.file_at, whole.2.takes.1))

-- a file that was read to its end is still read to its end after a call that reads at another place
pub still_out : (old mid new : Option Told) (place other : Place4) (name : List ℕ) → place ≢ other → OfBoth old mid (IsReadOut place name) → OfBoth mid new (KeepsOthers other) →
    OfBoth old new (IsReadOut place name)
still_out old mid new place other name differ out keeps =
    both_through old mid new (IsReadOut place name) (KeepsOthers other) (IsReadOut place name)
    (λ a b c (file, left) (files, lefts). (files place differ ∙ file, lefts place differ ∙ left)) out keeps

-- a file that was read to its end later is the one that the shelf told of before
pub later_out : (old mid new : Option Told) (place : Place4) (name : List ℕ) → KeepsFiles old mid → OfBoth mid new (IsReadOut place name) → OfBoth old new (IsReadOut place name)
later_out old mid new place name keeps out =
    both_through old mid new Keeps (IsReadOut place name) (IsReadOut place name) (λ a b c k (file, left). (file ∙ ap (λ (f : List ℕ → ℕ). f name) k.file, left))
    (both_kept old mid keeps) out

-- the same of a file that may be named, where none was looked at there before
pub later_out_if : (old mid new : Option Told) (place : Place4) (name : Option (List ℕ)) → KeepsFiles old mid → OfBoth old mid (IsAsBefore place) →
    OfBoth mid new (IsReadOutIf place name) → OfBoth old new (IsReadOutIf place name)
later_out_if old mid new place None keeps before out = as_before_through old mid new place before out
later_out_if old mid new place (Some name) keeps before out = later_out old mid new place name keeps out

-- no file was looked at where none is named
pub left_unless : (at : Place4) (name : Option (List ℕ)) (a b : Told) → IsReadOutIf at name a b → IsAsBeforeUnless at name a b
left_unless at None a b out = λ e. out
left_unless at (Some name) a b out = λ e. let clash : Some name ≡ None = e in cc

-- ---- what was told before

same_bytes : (a b : Told) (name : List ℕ) → Keeps a b → bytes_of b name ≡ bytes_of a name
same_bytes a b name k = ap (λ (f : ℕ → List ℕ). f (b.file name)) k.bytes ∙ ap (λ (f : List ℕ → ℕ). a.bytes (f name)) k.file

pub same_if : (a b : Told) (name : Option (List ℕ)) → Keeps a b → bytes_if b name ≡ bytes_if a name
same_if a b None k = refl
same_if a b (Some name) k = ap Some (same_bytes a b name k)

-- what is told of a file later holds of the files as they were told before
pub told_before : (old mid : Option Told) (name : Option (List ℕ)) (P : Option (List ℕ) → Type 0) → KeepsFiles old mid → IfSome mid (λ t. P (bytes_if t name)) →
    IfSome old (λ t. P (bytes_if t name))
told_before None mid name P keeps h = tt
told_before (Some old) mid name P (t, is, k) h =
    let there : P (bytes_if t name) = subst (λ m. IfSome m (λ t. P (bytes_if t name))) is h in
    subst P (same_if old t name k) there

pub rose_before : (before mid now : ℕ) → before ≤ mid → Rose mid now → Rose before now
rose_before before mid now le rose = omega (arith, le, rose)

name_before : (a b c : Told) (name : Option (List ℕ)) → Keeps a b → NameFailedIf name b c → NameFailedIf name a c
name_before a b c None k failed = failed
name_before a b c (Some name) k failed =
    let same : b.file name ≡ a.file name = ap (λ (f : List ℕ → ℕ). f name) k.file in
    let rose : Rose (b.faults (a.file name)) (c.faults (c.file name)) = subst (λ n. Rose (b.faults n) (c.faults (c.file name))) same failed in
    omega (arith, rose, k.later (a.file name))

-- a count that rose later rose since before
pub named_before : (old mid new : Option Told) (name : Option (List ℕ)) → KeepsFiles old mid → OfBoth mid new (NameFailedIf name) → OfBoth old new (NameFailedIf name)
named_before old mid new name keeps failed =
    both_through old mid new Keeps (NameFailedIf name) (NameFailedIf name) (λ a b c k f. name_before a b c name k f) (both_kept old mid keeps) failed
