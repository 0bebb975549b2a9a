-- What is read of a file from its start to its end, where the shelf tells its files.
use Rattle.std.proofs.Common.{◌≡◌, ℕ, ◌<◌, List, Option, Some, None, Ok, Err, length, ap, subst, ◌∙◌, arith}
use Rattle.std.specs.Prelude.{IfSome}
use Rattle.std.specs.declared.vec.Vec.{Vec}
use Rattle.std.specs.declared.alloc.Global.{Global}
use Rattle.outside.specs.declared.reading.ReadStop.TheVariants.{TooLong}
use Rattle.outside.specs.declared.shelf.Place4.{Place4}
use Rattle.outside.specs.Shelf.{ReadsWhole, Starts, Told, bytes_of}

module _ {X : Type 0} (E : Type 0) (old mid new : Option Told) (place : Place4) (name : List ℕ) (most : ℕ) where
  pub too_long : (x : X) → Starts {E = E} old mid place name (Ok x) → ReadsWhole mid new place most (Err TooLong) → IfSome old (λ t. most < length (bytes_of t name))
  too_long x started read = go old started where
    go : (o : Option Told) → Starts {E = E} o mid place name (Ok x) → IfSome o (λ t. most < length (bytes_of t name))
    go None none = tt
    go (Some o) (t, is, at) =
        let whole : ReadsWhole (Some t) new place most (Err TooLong) = subst (λ m. ReadsWhole m new place most (Err TooLong)) is read in
        omega (arith, whole.2.takes.0, ap (λ (xs : List ℕ). length xs) at.left)

  pub whole_bytes : (x : X) (bytes : Vec ℕ Global) → Starts {E = E} old mid place name (Ok x) → ReadsWhole mid new place most (Ok bytes) →
      IfSome old (λ t. bytes.items ≡ bytes_of t name)
  whole_bytes x bytes started read = go old started where
    go : (o : Option Told) → Starts {E = E} o mid place name (Ok x) → IfSome o (λ t. bytes.items ≡ bytes_of t name)
    go None none = tt
    go (Some o) (t, is, at) =
        let whole : ReadsWhole (Some t) new place most (Ok bytes) = subst (λ m. ReadsWhole m new place most (Ok bytes)) is read in
        whole.2.takes.0 ∙ at.left
