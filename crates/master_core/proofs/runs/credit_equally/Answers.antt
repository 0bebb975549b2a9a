-- One granted flow after another, where nothing is noted.
use Rattle.std.proofs.Common.{◌+◌, ◌-◌, ◌∙◌, ◌<◌, ℕ, List, [], ap, arith, get_or, length, refl, sym, take}
use Rattle.std.specs.Prelude.{if◌then◌else◌}
use Rattle.std.proofs.lemmas.List.{length-set, take_all}
use Rattle.journal.specs.State.{has}
use Rattle.master_core.proofs.CreditSteps.{credit_fits, credited_more}
use Rattle.master_core.proofs.runs.credit_equally.Goals as goal

pub loop-flow-init : goal.loop-flow-init
loop-flow-init c = record { units = refl; owed_len = refl; so_far = λ f. omega arith }

pub credit-requires-clause-owed : goal.credit-requires-clause-owed
credit-requires-clause-owed c =
    let k = c.loop-flow.flow-index in
    let g = get_or c.args.granted.now k 0 in
    credit_fits [] c.args.ledger.now.owed c.loop-flow.ledger.owed c.args.granted.now [] c.args.slots k g c.args.slots c.requires.ascending c.loop-flow-test.true refl refl
    (omega arith) (c.requires.owed k 0 c.loop-flow-test.true) c.loop-flow.invariant.so_far

pub loop-flow-preserved : goal.loop-flow-preserved
loop-flow-preserved c =
    let k = c.loop-flow.flow-index in
    let g = get_or c.args.granted.now k 0 in
    let n = c.args.slots in
    let owed = c.loop-flow.ledger.owed in
    let before = c.loop-flow.invariant in
    let fits = credit_fits [] c.args.ledger.now.owed owed c.args.granted.now [] n k g n c.requires.ascending c.loop-flow-test.true refl refl
    (omega arith) (c.requires.owed k 0 c.loop-flow-test.true) before.so_far in
    let low : g < length owed = omega (arith, c.requires.flow k 0 c.loop-flow-test.true, before.owed_len, c.requires.owed_len) in
    record {
      units = c.credit.ensures.units ∙ before.units;
      owed_len = ap (λ (l : List ℕ). length l) c.credit.ensures.owed ∙ length-set owed g (get_or owed g 0 - n) ∙ before.owed_len;
      so_far = λ f. ap (λ (l : List ℕ). get_or l f 0 + (if has (take (k + 1) c.args.granted.now) f then n else 0)) c.credit.ensures.owed
          ∙ credited_more [] c.args.ledger.now.owed owed c.args.granted.now [] n k g n c.requires.ascending c.loop-flow-test.true refl low refl fits before.so_far f;
    }

pub returns-clause-owed : goal.returns-clause-owed
returns-clause-owed c = λ f.
    ap (λ (l : List ℕ). get_or c.loop-flow.ledger.owed f 0 + (if has l f then c.args.slots else 0))
    (sym (take_all c.loop-flow.flow-index c.args.granted.now c.loop-flow-test.false))
    ∙ c.loop-flow.invariant.so_far f
