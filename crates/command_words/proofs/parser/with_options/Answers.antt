use Rattle.std.proofs.Common.{◌≡◌, ◌∙◌, ◌<◌, Bor, IfOk, [], ap, arith, length, map, subst, sym, take}
use Rattle.std.specs.List.{fold}
use Rattle.std.proofs.Math.Seq.{take-length}
use Rattle.std.proofs.lemmas.List.{get_or-map, length-map}
use Rattle.std.proofs.lemmas.List.Sums.{fold_more}
use Rattle.clap.specs.Words.{App, app_of, with_rule}
use Rattle.command_words.specs.Line.{Text}
use Rattle.command_words.specs.Parser.{with_option, option_rule}
use Rattle.command_words.proofs.parser.with_options.Goals as goal

abbrev text : Bor Text → Text
text s = s.now

pub loop-name-init : goal.loop-name-init
loop-name-init c = record { made = λ a h. h }

pub loop-name-preserved : goal.loop-name-preserved
loop-name-preserved c =
    let i = c.loop-name.name-index in
    let names = map text c.args.names.now in
    let within : i < length names = omega (arith, c.loop-name-test.true, length-map c.args.names.now text) in
    let named = c.option_named.ensures.rule ∙ ap option_rule (sym (get_or-map text c.args.names.now i _ [] c.loop-name-test.true)) in
    record {
      made = λ a h.
          let so_far = fold with_option a (take i names) in
          subst (λ (b : App). IfOk c.with_arg-command.result (λ made. app_of made ≡ b)) (ap (with_rule so_far) named ∙ sym (fold_more with_option a names i [] within))
          (c.with_arg-command.ensures.arg so_far (c.loop-name.invariant.made a h));
    }

pub returns : goal.returns
returns c = λ a h.
    let names = map text c.args.names.now in
    let end : c.loop-name.name-index ≡ length names = omega (arith, c.loop-name-test.false, c.loop-name.auto.name-index-end, length-map c.args.names.now text) in
    let all : take c.loop-name.name-index names ≡ names = ap (λ n. take n names) end ∙ take-length names in
    subst (λ ns. IfOk c.loop-name.command (λ made. app_of made ≡ fold with_option a ns)) all (c.loop-name.invariant.made a h)
