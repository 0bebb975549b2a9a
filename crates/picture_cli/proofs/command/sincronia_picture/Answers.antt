use Rattle.std.proofs.Common.{ap, sym, subst, Err}
use Rattle.std.specs.Prelude.{IsSomeAnd}
use Rattle.command_words.specs.Line.{texts}
use Rattle.command_files.proofs.SinkFacts.{appended, begun}
use Rattle.command_files.specs.declared.status.Status.TheVariants as status
use Rattle.command_files.specs.Shelves.{OfBoth, ReadsOut}
use Rattle.command_files.specs.Turns.{FilesInTurn}
use Rattle.picture_cli.specs.Complete.{CallFor}
use Rattle.picture_cli.specs.Drawn.{job_for}
use Rattle.picture_cli.specs.Status.{as_check}
use Rattle.picture_cli.specs.Words.{PictureSaid, said_by}
use Rattle.picture_cli.proofs.AnswerFacts.{past_in_turn}
use Rattle.picture_cli.proofs.WordFacts.{one_words}
use Rattle.picture_cli.proofs.command.sincronia_picture.Goals as goal

pub returns-in-Err-Usage-clause-usage : goal.returns-in-Err-Usage-clause-usage
returns-in-Err-Usage-clause-usage g c = λ e said is. c.in-Err-Usage.ensures.usage (ap Err c.in-Err-Usage.field-0-is) said is

-- ---- no picture was drawn

pub returns-in-Err-clause-complete : goal.returns-in-Err-clause-complete
returns-in-Err-clause-complete g c = λ said answer is call shelf sink.
    c.in-Err.ensures.complete answer
    (subst (λ (x : PictureSaid). IsSomeAnd (g.H.Shelf.told c.args.shelf.now) (CallFor x answer))
    (sym (one_words (texts c.args.words.now) (said_by c.in-Ok.words) said c.in-Ok.ensures.said is)) call) shelf

pub returns-in-Err-clause-read_out : goal.returns-in-Err-clause-read_out
returns-in-Err-clause-read_out g c = λ said is past.
    subst (λ (x : PictureSaid). OfBoth (g.H.Shelf.told c.args.shelf.now) (g.H.Shelf.told c.text_by.new.shelf) (ReadsOut (job_for x).job (job_for x)))
    (one_words (texts c.args.words.now) (said_by c.in-Ok.words) said c.in-Ok.ensures.said is) (c.in-Err.ensures.read_out past)

pub returns-in-Err-clause-in_turn : goal.returns-in-Err-clause-in_turn
returns-in-Err-clause-in_turn g c = λ said is.
    subst (λ (x : PictureSaid). OfBoth (g.H.Shelf.told c.args.shelf.now) (g.H.Shelf.told c.text_by.new.shelf) (FilesInTurn (job_for x) (as_check c.in-Err.status)))
    (one_words (texts c.args.words.now) (said_by c.in-Ok.words) said c.in-Ok.ensures.said is) c.in-Err.ensures.in_turn

-- ---- the picture was not written whole

pub returns-in_default-clause-read_out : goal.returns-in_default-clause-read_out
returns-in_default-clause-read_out g c = λ said is past.
    subst (λ (x : PictureSaid). OfBoth (g.H.Shelf.told c.args.shelf.now) (g.H.Shelf.told c.text_by.new.shelf) (ReadsOut (job_for x).job (job_for x)))
    (one_words (texts c.args.words.now) (said_by c.in-Ok.words) said c.in-Ok.ensures.said is) (c.in-Ok-text_by.ensures.read_out tt)

pub returns-in_default-clause-in_turn : goal.returns-in_default-clause-in_turn
returns-in_default-clause-in_turn g c = λ said is.
    let old = g.H.Shelf.told c.args.shelf.now in
    let new = g.H.Shelf.told c.text_by.new.shelf in
    subst (λ (x : PictureSaid). OfBoth old new (FilesInTurn (job_for x) (status.WriteFault 1)))
    (one_words (texts c.args.words.now) (said_by c.in-Ok.words) said c.in-Ok.ensures.said is)
    (past_in_turn old new (said_by c.in-Ok.words) (status.WriteFault 1) (λ f. f) (c.in-Ok-text_by.ensures.good tt) (c.in-Ok-text_by.ensures.read_out tt))

pub returns-in_default-clause-beginning : goal.returns-in_default-clause-beginning
returns-in_default-clause-beginning g c = λ count e.
    let text = c.in-Ok-text_by.text.items in (
      said_by c.in-Ok.words,
      c.in-Ok.ensures.said,
      record {
        text = text;
        draws = c.in-Ok-text_by.ensures.drawn;
        written = begun _ (g.K.Sink.taken c.args.out.now) (g.K.Sink.taken c.write_all.new.sink) text c.deref.result.now _ c.deref.ensures.value c.in_default.ensures.taken;
      },
    )

-- ---- the picture was written

pub returns-clause-picture : goal.returns-clause-picture
returns-clause-picture g c = λ e.
    let text = c.in-Ok-text_by.text.items in (
      said_by c.in-Ok.words,
      c.in-Ok.ensures.said,
      record {
        text = text;
        draws = c.in-Ok-text_by.ensures.drawn;
        written = appended _ (g.K.Sink.taken c.args.out.now) (g.K.Sink.taken c.write_all.new.sink) text c.deref.result.now c.in-Ok-write_all.field-0 c.deref.ensures.value
            c.in-Ok-write_all.ensures.taken;
      },
    )

pub returns-clause-complete : goal.returns-clause-complete
returns-clause-complete g c = λ said answer is call shelf sink.
    c.in-Ok-text_by.ensures.complete answer
    (subst (λ (x : PictureSaid). IsSomeAnd (g.H.Shelf.told c.args.shelf.now) (CallFor x answer))
    (sym (one_words (texts c.args.words.now) (said_by c.in-Ok.words) said c.in-Ok.ensures.said is)) call) shelf

pub returns-clause-read_out : goal.returns-clause-read_out
returns-clause-read_out g c = λ said is past.
    subst (λ (x : PictureSaid). OfBoth (g.H.Shelf.told c.args.shelf.now) (g.H.Shelf.told c.text_by.new.shelf) (ReadsOut (job_for x).job (job_for x)))
    (one_words (texts c.args.words.now) (said_by c.in-Ok.words) said c.in-Ok.ensures.said is) (c.in-Ok-text_by.ensures.read_out tt)

pub returns-clause-in_turn : goal.returns-clause-in_turn
returns-clause-in_turn g c = λ said is.
    subst (λ (x : PictureSaid). OfBoth (g.H.Shelf.told c.args.shelf.now) (g.H.Shelf.told c.text_by.new.shelf) (FilesInTurn (job_for x) status.Ok))
    (one_words (texts c.args.words.now) (said_by c.in-Ok.words) said c.in-Ok.ensures.said is) c.in-Ok-text_by.ensures.in_turn
