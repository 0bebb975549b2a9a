use Rattle.std.proofs.Common.{◌≡◌, ◌<◌, length, sym, arith, true, false, below_more}
use Rattle.std.proofs.lemmas.List.{length-map}
use Rattle.std.specs.Prelude.{string_bytes}
use Rattle.outside.specs.declared.files.File.{File}
use Rattle.outside.specs.Files.{names_of}
use Rattle.outside.proofs.FileSteps.{number_is, name_test}
use Rattle.outside.proofs.files.number_of.Goals as goal

pub returns-then-eq : goal.returns-then-eq
returns-then-eq c =
    let inside : c.loop-number.number < length c.args.files.now = omega arith in
    let many = length-map c.args.files.now (λ (x : File). string_bytes x.name) in
    sym (number_is (names_of c.args.files.now) c.args.name.now c.loop-number.number (omega (arith, many)) c.loop-number.invariant
    (λ _. name_test c.args.files.now c.loop-number.number c.index-files-number.result _ c.args.name.now _ true inside c.index-files-number.is c.as_str.ensures.value c.eq.ensures
    c.if-eq.true))

pub loop-number-preserved : goal.loop-number-preserved
loop-number-preserved c =
    let inside : c.loop-number.number < length c.args.files.now = omega arith in
    below_more _ _ c.loop-number.invariant
    (name_test c.args.files.now c.loop-number.number c.index-files-number.result _ c.args.name.now _ false inside c.index-files-number.is c.as_str.ensures.value c.eq.ensures
    c.if-eq.false)

pub returns : goal.returns
returns c =
    let many = length-map c.args.files.now (λ (x : File). string_bytes x.name) in
    let ended : c.loop-number.number ≡ length c.args.files.now = omega arith in
    sym (number_is (names_of c.args.files.now) c.args.name.now (length c.args.files.now) (omega (arith, many)) (λ k below. c.loop-number.invariant k (omega (arith, ended)))
    (λ past. absurd (omega (arith, many))))
