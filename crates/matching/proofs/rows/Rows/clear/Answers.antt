use Rattle.std.proofs.Common.{◌≡◌, ◌*◌, ◌++◌, ℕ, List, length, replicate, drop, refl, sym, ap, ◌∙◌}
use Rattle.std.proofs.lemmas.List.{with_items_is}
use Rattle.matching.proofs.BitSteps.{front_size}
use Rattle.matching.proofs.RowSteps.{emptied_holds, used_fits}
use Rattle.matching.proofs.rows.Rows.clear.Goals as goal

pub returns-clause-holds : goal.returns-clause-holds
returns-clause-holds c = λ ports held.
    let old = c.args.self.now in
    let used = old.count * old.width in
    let words = c.clear_front.new.words in
    let written : words ≡ replicate used 0 ++ drop used old.owes.items =
    c.clear_front.ensures ∙ ap (λ (xs : List ℕ). replicate used 0 ++ drop used xs) c.deref_mut.ensures.value in
    let size : length words ≡ old.owes.len =
    ap (λ (xs : List ℕ). length xs) written ∙ front_size old.owes.items used (used_fits ports old held) ∙ sym old.owes.ok.0 in
    emptied_holds ports old _ (record { width = refl; count = refl; first = refl; owes = with_items_is old.owes words size ∙ written }) held
