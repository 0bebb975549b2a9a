use Rattle.std.proofs.Common.{◌≡◌, subst, Result, Err}
use Rattle.coflow_units.specs.declared.limits.TheConstants.{MAX_TEXT}
use Rattle.outside.proofs.WholeFiles.{too_long}
use Rattle.outside.specs.Shelf.{ReadsWhole}
use Rattle.test_support.specs.declared.fault.FileFault.{FileFault}
use Rattle.test_support.specs.declared.fault.FileFault.TheVariants.{Text}
use Rattle.test_support.specs.declared.fault.TextFault.{TextFault}
use Rattle.test_support.proofs.file.bytes_of_file.Goals as goal

same_text : {T : Type 0} (a b : TextFault) → ◌≡◌ {A = Result T FileFault} (Err (Text a)) (Err (Text b)) → b ≡ a
same_text a b e = cc

pub returns-in-Err-TooLong-clause-long : goal.returns-in-Err-TooLong-clause-long
returns-in-Err-TooLong-clause-long g c = λ fault e.
    let read = subst (λ stop. ReadsWhole (g.H.Shelf.told c.start.new.self) (g.H.Shelf.told c.read_all.new.shelf) c.args.place MAX_TEXT (Err stop)) c.in-Err-TooLong.field-0-is
    c.in-Err-TooLong.ensures.told in (
      same_text _ fault e,
      too_long _ (g.H.Shelf.told c.args.shelf.now) (g.H.Shelf.told c.start.new.self) (g.H.Shelf.told c.read_all.new.shelf) c.args.place c.args.name.now MAX_TEXT _
          c.in-Ok.ensures.told read,
    )
