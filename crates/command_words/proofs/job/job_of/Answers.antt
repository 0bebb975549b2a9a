use Rattle.std.proofs.Common.{◌≡◌, ◌∙◌, true, None, Some, ap, codes, sym}
use Rattle.std.specs.Prelude.{option_map}
use Rattle.std.specs.Str.{bytes_eq}
use Rattle.command_words.specs.Jobs.{file_of, job_by, job_of, make_job}
use Rattle.command_words.proofs.JobNames.{IsOther, make_is, no_file, no_other, one_file, two_files}
use Rattle.command_words.proofs.job.job_of.Goals as goal

pub returns-then-eq : goal.returns-then-eq
returns-then-eq c =
    let make : bytes_eq c.args.name.now (codes "make") ≡ true = sym c.eq.ensures ∙ c.if-eq.true in
    ap (option_map make_job) (sym c.in_ok-seed.was ∙ c.seed_alone.ensures) ∙ sym (make_is c.args.name.now c.args.first.now (option_map (λ s. s.now) c.args.second) make)

pub returns-in_err-seed : goal.returns-in_err-seed
returns-in_err-seed c =
    let make : bytes_eq c.args.name.now (codes "make") ≡ true = sym c.eq.ensures ∙ c.if-eq.true in
    ap (option_map job_by) c.from_residual.ensures ∙ ap (option_map make_job) (sym c.in_err-seed.was ∙ c.seed_alone.ensures) ∙
    sym (make_is c.args.name.now c.args.first.now (option_map (λ s. s.now) c.args.second) make)

pub returns-in_err-trace : goal.returns-in_err-trace
returns-in_err-trace c =
    let other : IsOther c.args.name.now = sym c.eq.ensures ∙ c.if-eq.false in
    let none : file_of c.args.first.now ≡ None = sym c.file_of.ensures ∙ ap (option_map (λ s. s.now)) c.in_err-trace.was in
    ap (option_map job_by) c.from_residual-in_err-trace.ensures ∙ sym (no_file c.args.name.now c.args.first.now (option_map (λ s. s.now) c.args.second) other none)

pub returns-in-None : goal.returns-in-None
returns-in-None c =
    let other : IsOther c.args.name.now = sym c.eq.ensures ∙ c.if-eq.false in
    let trace : file_of c.args.first.now ≡ Some c.in_ok-trace.trace.now = sym c.file_of.ensures ∙ ap (option_map (λ s. s.now)) c.in_ok-trace.was in
    let second = ap (option_map (λ s. s.now)) c.in-None.is in
    c.job_of_file.ensures ∙ sym (one_file c.args.name.now c.args.first.now c.in_ok-trace.trace.now other trace) ∙ ap (job_of c.args.name.now c.args.first.now) (sym second)

pub returns-in_ok-file_of-in-Some : goal.returns-in_ok-file_of-in-Some
returns-in_ok-file_of-in-Some c =
    let trace : file_of c.args.first.now ≡ Some c.in_ok-trace.trace.now = sym c.file_of.ensures ∙ ap (option_map (λ s. s.now)) c.in_ok-trace.was in
    let other : file_of c.in-Some.second.now ≡ Some c.in_ok-file_of-in-Some.field-0.now =
    sym c.file_of-in-Some.ensures ∙ ap (option_map (λ s. s.now)) c.in_ok-file_of-in-Some.was in
    let second = ap (option_map (λ s. s.now)) c.in-Some.is in
    c.job_of_files.ensures ∙ sym (two_files c.args.name.now c.args.first.now c.in_ok-trace.trace.now c.in-Some.second.now c.in_ok-file_of-in-Some.field-0.now trace other) ∙
    ap (job_of c.args.name.now c.args.first.now) (sym second)

pub returns-in_err-file_of-in-Some : goal.returns-in_err-file_of-in-Some
returns-in_err-file_of-in-Some c =
    let trace : file_of c.args.first.now ≡ Some c.in_ok-trace.trace.now = sym c.file_of.ensures ∙ ap (option_map (λ s. s.now)) c.in_ok-trace.was in
    let none : file_of c.in-Some.second.now ≡ None = sym c.file_of-in-Some.ensures ∙ ap (option_map (λ s. s.now)) c.in_err-file_of-in-Some.was in
    let second = ap (option_map (λ s. s.now)) c.in-Some.is in
    ap (option_map job_by) c.from_residual-in_err-file_of-in-Some.ensures ∙
    sym (no_other c.args.name.now c.args.first.now c.in_ok-trace.trace.now c.in-Some.second.now trace none) ∙
    ap (job_of c.args.name.now c.args.first.now) (sym second)
