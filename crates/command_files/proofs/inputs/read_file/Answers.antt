use Rattle.std.proofs.Common.{refl, subst, Err}
use Rattle.outside.specs.Shelf.{ReadsWhole}
use Rattle.outside.proofs.WholeFiles.{too_long}
use Rattle.command_files.proofs.ShelfFacts.{file_kept, read_elsewhere}
use Rattle.command_files.proofs.inputs.read_file.Goals as goal

pub returns-in-Err-TooLong-clause-keeps : goal.returns-in-Err-TooLong-clause-keeps
returns-in-Err-TooLong-clause-keeps g c = file_kept _ (g.H.Shelf.told c.args.shelf.now) (g.H.Shelf.told c.start.new.self) (g.H.Shelf.told c.read_all.new.shelf) c.args.place
    c.args.name.now c.args.most _ _ c.in-Ok.ensures.told c.in-Err-TooLong.ensures.told

pub returns-in-Err-TooLong-clause-cause : goal.returns-in-Err-TooLong-clause-cause
returns-in-Err-TooLong-clause-cause g c =
    let read = subst (λ stop. ReadsWhole (g.H.Shelf.told c.start.new.self) (g.H.Shelf.told c.read_all.new.shelf) c.args.place c.args.most (Err stop)) c.in-Err-TooLong.field-0-is
    c.in-Err-TooLong.ensures.told in (
      refl,
      refl,
      too_long _ (g.H.Shelf.told c.args.shelf.now) (g.H.Shelf.told c.start.new.self) (g.H.Shelf.told c.read_all.new.shelf) c.args.place c.args.name.now c.args.most _
          c.in-Ok.ensures.told read,
    )

pub returns-in-Err-TooLong-clause-others : goal.returns-in-Err-TooLong-clause-others
returns-in-Err-TooLong-clause-others g c = read_elsewhere _ (g.H.Shelf.told c.args.shelf.now) (g.H.Shelf.told c.start.new.self) (g.H.Shelf.told c.read_all.new.shelf) c.args.place
    c.args.name.now c.args.most _ _ c.in-Ok.ensures.told c.in-Err-TooLong.ensures.told
