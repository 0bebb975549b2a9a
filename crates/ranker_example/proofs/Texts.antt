-- The text of a comparison of three rankers, where each coflow has weight 1.
use Rattle.std.proofs.Common.{◌≡◌, ℕ, List, [], ◌∷◌, ap, ap₂, subst, sym}
use Rattle.flow_table.specs.Table.{TableFacts, instance_of}
use Rattle.plans.specs.Totals.{IsPlanBound}
use Rattle.rankers.specs.Comparison.{IsComparison}
use Rattle.rankers.specs.Kinds.{bssi, fifo}
use Rattle.rankers.specs.Meaning.{Meaning}
use Rattle.report_text.specs.Compared.{compare_text}
use Rattle.report_text.specs.declared.compared.Compare.{Compare}
use Rattle.ranker_example.specs.Lifo.{IsTextOf, lifo, ones}

-- what a box means where its table is known
pub by_vtable : {X : Type 0} {F : X → Type 0} (f : (v : X) → F v → Meaning) (m : Meaning) (at v : X) (x : F v) → v ≡ at → ((y : F at) → f at y ≡ m) → f v x ≡ m
by_vtable {X} {F} f m at v x e h = subst (λ w. (y : F w) → f w y ≡ m) (sym e) h x

pub three_same : {X : Type 0} {a b d x y z : X} → a ≡ x → b ≡ y → d ≡ z → a ∷ b ∷ d ∷ [] ≡ x ∷ y ∷ z ∷ []
three_same {X} e f g = ap₂ (λ (p : X) (ps : List X). p ∷ ps) e (ap₂ (λ (p : X) (ps : List X). p ∷ ps) f (ap (λ p. p ∷ []) g))

pub text_of_three : (t : TableFacts) (weights : List ℕ) (bench : List Meaning) (bound : ℕ) (text : List ℕ) → weights ≡ ones t → bench ≡ bssi ∷ fifo ∷ lifo ∷ [] →
    IsPlanBound (instance_of t weights) bound → (c : Compare) × (c.bound ≡ bound) × IsComparison t weights bench c × (text ≡ compare_text c) → IsTextOf t text
text_of_three t weights bench bound text w b planned (c, bound_is, rows, text_is) = (
  c,
  subst (λ ws. IsPlanBound (instance_of t ws) c.bound) w (subst (IsPlanBound (instance_of t weights)) (sym bound_is) planned),
  subst (λ ws. IsComparison t ws (bssi ∷ fifo ∷ lifo ∷ []) c) w (subst (λ ms. IsComparison t weights ms c) b rows),
  text_is,
)
