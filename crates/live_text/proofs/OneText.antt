-- A text is that of one printed journal at most.
use Rattle.std.proofs.Common.{◌≡◌, ℕ, List, [], ◌∷◌, refl, sym, ap, ◌∙◌, arith}
use Rattle.std.specs.Prelude.{codes}
use Rattle.coflow_units.proofs.Fronts.{head_of}
use Rattle.report_text.proofs.TextLaws.{lines_one}
use Rattle.live_text.specs.declared.value.Live.{Live}
use Rattle.live_text.specs.Live.{IsLive}
use Rattle.live_text.specs.Text.{live_lines, live_text, mark}
use Rattle.live_text.proofs.NextLine.{Next, live_are_lines, next_end, next_entry, next_of, next_order, next_pull, next_run}

pub live_one : (a b : Live) → IsLive a → IsLive b → live_text a ≡ live_text b → a ≡ b
live_one a b ha hb e = go (next_of a b (codes "end" ∷ []) ha hb (sym (lines_one (live_lines a) (live_lines b) (live_are_lines a ha) (live_are_lines b hb) e)))
  where
    -- the last line is none of the others
    wrong : (l : List ℕ) (ls : List (List ℕ)) (n : ℕ) → codes "end" ∷ [] ≡ l ∷ ls → mark l ≡ n → 0 ≡ n
    wrong l ls n h m = ap mark (head_of (codes "end") l [] ls h) ∙ m

    go : Next a b (codes "end" ∷ []) → a ≡ b
    go (next_entry x more rest w o p r h) = absurd (omega (arith, wrong _ rest 114 h refl))
    go (next_order x more rest w p r h) = absurd (omega (arith, wrong _ rest 101 h refl))
    go (next_pull x more rest w r h) = absurd (omega (arith, wrong _ rest 108 h refl))
    go (next_run x more rest w h) = absurd (omega (arith, wrong _ rest 32 h refl))
    go (next_end same h) = same
