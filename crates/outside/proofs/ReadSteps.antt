-- The steps of reading to the end.
use Rattle.std.proofs.Common.{◌≡◌, ℕ, ◌+◌, ◌≤◌, ◌++◌, List, length, take, drop, sym, ◌∙◌, ap, subst, append_assoc, arith, length-append}
use Rattle.std.specs.Prelude.{Option, Some, None, Result, Ok, Err}
use Rattle.std.proofs.lemmas.List.{length-take-le}
use Rattle.std.proofs.Math.Seq.{drop-append_seam}
use Rattle.outside.specs.declared.shelf.Place4.{Place4}
use Rattle.outside.specs.declared.reading.ReadStop.TheVariants.{Fault, TooLong, NoMemory}
use Rattle.outside.specs.Rose.{RoseOnce}
use Rattle.outside.specs.Shelf.{Told, Keeps, KeepsOtherCounts, ReadsAt, Reads, ReadsWhole, ReadsWholeAt, faults_at}
use Rattle.outside.proofs.SoFar.{ReadsSoFar, ToldSoFar}

pub keeps_on : (a b c : Told) → Keeps a b → Keeps b c → Keeps a c
keeps_on a b c x y = record { file = y.file ∙ x.file; bytes = y.bytes ∙ x.bytes; later = λ k. omega (arith, x.later k, y.later k) }

step_at : {E : Type 0} (old mid new : Told) (place : Place4) (bytes buffer : List ℕ) (n : ℕ) → ReadsSoFar old mid place bytes → ReadsAt {E = E} mid new place buffer (Ok n) →
    ReadsSoFar old new place (bytes ++ take n buffer)
step_at old mid new place bytes buffer n s r = record {
  keeps = keeps_on old mid new s.keeps r.keeps;
  file_at = r.file_at ∙ s.file_at;
  left = append_assoc bytes (take n buffer) (new.left place) ∙ ap (λ v. bytes ++ v) r.moves.0 ∙ s.left;
  others_left = λ p other. r.others_left p other ∙ s.others_left p other;
  still = r.still ∙ s.still;
}

-- what a read did, where the shelf is known to tell
reads_at : {E : Type 0} (m new : Option Told) (t : Told) (place : Place4) (buffer : List ℕ) (r : Result ℕ E) → m ≡ Some t → Reads m new place buffer r →
    Reads (Some t) new place buffer r
reads_at m new t place buffer r e h = subst (λ v. Reads v new place buffer r) e h

-- a read goes on from the bytes that came so far
pub read_step : (E : Type 0) (old m new : Option Told) (place : Place4) (bytes buffer : List ℕ) (n : ℕ) → ToldSoFar old m place bytes → Reads {E = E} m new place buffer (Ok n) →
    ToldSoFar old new place (bytes ++ take n buffer)
read_step E None m new place bytes buffer n s r = subst (λ v. Reads {E = E} v new place buffer (Ok n)) s r
read_step E (Some x) m new place bytes buffer n s r =
    let h = reads_at {E = E} m new s.0 place buffer (Ok n) s.1 r in
    (h.0, h.1, step_at {E = E} x s.0 h.0 place bytes buffer n s.2 h.2)

left_is : (bytes now before : List ℕ) → bytes ++ now ≡ before → now ≡ drop (length bytes) before
left_is bytes now before e = sym (drop-append_seam bytes now) ∙ ap (drop (length bytes)) e

fault_at : {E : Type 0} (old mid new : Told) (place : Place4) (bytes buffer : List ℕ) (most : ℕ) (e : E) → length bytes ≤ most → ReadsSoFar old mid place bytes →
    ReadsAt mid new place buffer (Err e) → ReadsWholeAt old new place most (Err Fault)
fault_at old mid new place bytes buffer most e short s r = record {
  keeps = keeps_on old mid new s.keeps r.keeps;
  file_at = r.file_at ∙ s.file_at;
  takes =
      (length bytes, short, r.moves ∙ left_is bytes (mid.left place) (old.left place) s.left);
  counts = (rose, others);
  others_left = λ p other. r.others_left p other ∙ s.others_left p other;
}
  where
    here : mid.file_at place ≡ old.file_at place
    here = ap (λ (f : Place4 → ℕ). f place) s.file_at

    rose : RoseOnce (faults_at old place) (faults_at new place)
    rose =
        let now : new.file_at place ≡ mid.file_at place = ap (λ (f : Place4 → ℕ). f place) r.file_at in
        let before : faults_at mid place ≡ faults_at old place = ap (λ (f : ℕ → ℕ). f (mid.file_at place)) s.still ∙ ap old.faults here in
        rw before at r.cause

    others : KeepsOtherCounts old new (old.file_at place)
    others n other =
        let file : mid.file n ≡ old.file n = ap (λ (f : List ℕ → ℕ). f n) s.keeps.file in
        let counted : mid.faults (mid.file n) ≡ old.faults (old.file n) = ap (λ (f : ℕ → ℕ). f (mid.file n)) s.still ∙ ap old.faults file in
        r.other_counts n (λ same. other (sym file ∙ same ∙ here)) ∙ counted

-- the shelf failed
pub read_fault : (E : Type 0) (old m new : Option Told) (place : Place4) (bytes buffer : List ℕ) (most : ℕ) (e : E) → length bytes ≤ most → ToldSoFar old m place bytes →
    Reads {E = E} m new place buffer (Err e) →
    ReadsWhole old new place most (Err Fault)
read_fault E None m new place bytes buffer most e short s r = subst (λ v. Reads {E = E} v new place buffer (Err e)) s r
read_fault E (Some x) m new place bytes buffer most e short s r =
    let h = reads_at {E = E} m new s.0 place buffer (Err e) s.1 r in
    (h.0, h.1, fault_at {E = E} x s.0 h.0 place bytes buffer most e short s.2 h.2)

-- one byte more than asked for was taken
pub read_too_long : (old new : Option Told) (place : Place4) (bytes : List ℕ) (most : ℕ) → length bytes ≡ most + 1 → ToldSoFar old new place bytes →
    ReadsWhole old new place most (Err TooLong)
read_too_long None new place bytes most long s = s
read_too_long (Some x) new place bytes most long s =
    let t = s.0 in
    let left = left_is bytes (t.left place) (x.left place) s.2.left in
    let whole : length bytes + length (t.left place) ≡ length (x.left place) = sym (length-append bytes (t.left place)) ∙ ap length s.2.left in
    (t, s.1, record { keeps = s.2.keeps; file_at = s.2.file_at; takes = (omega (arith, whole, long), rw long at left); counts = s.2.still; others_left = s.2.others_left })

-- there was no memory for the bytes that came
pub read_no_memory : (old new : Option Told) (place : Place4) (bytes : List ℕ) (most : ℕ) → length bytes ≤ most → ToldSoFar old new place bytes →
    ReadsWhole old new place most (Err NoMemory)
read_no_memory None new place bytes most short s = s
read_no_memory (Some x) new place bytes most short s =
    let t = s.0 in (
      t,
      s.1,
      record {
        keeps = s.2.keeps;
        file_at = s.2.file_at;
        takes = (length bytes, short, left_is bytes (t.left place) (x.left place) s.2.left);
        counts = s.2.still;
        others_left = s.2.others_left;
      },
    )

-- how many bytes have come after a read
pub length_step : (bytes buffer : List ℕ) (n : ℕ) → n ≤ length buffer → length (bytes ++ take n buffer) ≡ length bytes + n
length_step bytes buffer n bound = length-append bytes (take n buffer) ∙ ap (λ k. length bytes + k) (length-take-le n buffer bound)
