-- A text is the summary of one made workload at most.
use Rattle.std.proofs.Common.{◌≡◌, ℕ, ◌++◌, append_assoc, List, [], drop, get_or, refl, sym, ap, ◌∙◌}
use Rattle.std.specs.Prelude.{codes}
use Rattle.report_text.specs.declared.made.Made.{Made}
use Rattle.report_text.specs.Made.{IsSmallMade, counts_line, made_lines, made_text}
use Rattle.report_text.specs.Readers.{IsOneLine}
use Rattle.coflow_units.specs.Text.{spaced}
use Rattle.report_text.proofs.LineText.{front_is_line}
use Rattle.report_text.proofs.NumberText.{decimal_one, spaced_unique}
use Rattle.report_text.proofs.OneLine.{both, total_one}
use Rattle.report_text.proofs.ReadingText.{AreLines}
use Rattle.report_text.proofs.TextLaws.{lines_one}

counts_are_line : (m : Made) → IsSmallMade m → IsOneLine (counts_line m)
counts_are_line m h =
    let flows = total_one (codes "coflows 200 flows") m.flows (front_is_line (codes "coflows 200 flows")) h.flows in
    total_one (codes "coflows 200 flows" ++ spaced m.flows ++ codes " units") m.units
    (both (codes "coflows 200 flows" ++ spaced m.flows) (codes " units") flows (front_is_line (codes " units"))) h.units

made_is_lines : (m : Made) → IsSmallMade m → AreLines (made_lines m)
made_is_lines m h = (
  total_one (codes "sincronia make") m.seed (front_is_line (codes "sincronia make")) h.seed,
  (
    counts_are_line m h,
    (
      total_one (codes "bound") m.bound (front_is_line (codes "bound")) h.bound,
      (
        total_one (codes "slack") m.slack (front_is_line (codes "slack")) h.slack,
        (
          total_one (codes "cost") m.cost (front_is_line (codes "cost")) h.cost,
          (front_is_line (codes "check yes"), (front_is_line (codes "end"), tt)),
        ),
      ),
    ),
  ),
)

counts_one : (a b : Made) → IsSmallMade a → IsSmallMade b → counts_line a ≡ counts_line b → (a.flows ≡ b.flows) × (a.units ≡ b.units)
counts_one a b sa sb e =
    let units : Made → List ℕ = λ m. codes " units" ++ spaced m.units in
    let grouped : (m : Made) → spaced m.flows ++ units m ≡ drop 17 (counts_line m) = λ m. sym (append_assoc (spaced m.flows) (codes " units") (spaced m.units)) in
    let parts = spaced_unique (units a) (units b) a.flows b.flows sa.flows sb.flows refl refl (grouped a ∙ (ap (drop 17) e ∙ sym (grouped b))) in
    (parts.0, decimal_one a.units b.units sa.units sb.units (ap (drop 7) parts.1))

pub made_one : (a b : Made) → IsSmallMade a → IsSmallMade b → made_text a ≡ made_text b → a ≡ b
made_one a b sa sb e = λ i. record { seed = seed i; flows = counts.0 i; units = counts.1 i; bound = bound i; slack = slack i; cost = cost i }
  where
    line : (k : ℕ) → get_or (made_lines a) k [] ≡ get_or (made_lines b) k []
    line k = ap (λ ls. get_or ls k []) (lines_one (made_lines a) (made_lines b) (made_is_lines a sa) (made_is_lines b sb) e)

    counts : (a.flows ≡ b.flows) × (a.units ≡ b.units)
    counts = counts_one a b sa sb (line 1)

    seed : a.seed ≡ b.seed
    seed = decimal_one a.seed b.seed sa.seed sb.seed (ap (drop 15) (line 0))

    bound : a.bound ≡ b.bound
    bound = decimal_one a.bound b.bound sa.bound sb.bound (ap (drop 6) (line 2))

    slack : a.slack ≡ b.slack
    slack = decimal_one a.slack b.slack sa.slack sb.slack (ap (drop 6) (line 3))

    cost : a.cost ≡ b.cost
    cost = decimal_one a.cost b.cost sa.cost sb.cost (ap (drop 5) (line 4))
