-- The wires of the ports, with those that no port has behind them.
use Rattle.std.proofs.Common.{◌≡◌, ℕ, ◌<◌, List, ◌++◌, length, sym, ◌∙◌, subst, arith, Option, get_or, length-append}
use Rattle.std.proofs.lemmas.List.{get_or_append_left, get_or-append_right}
use Rattle.outside.specs.Rose.{Rose}
use Rattle.slot_runner.specs.Wires.{HasMore, HaveMore}

module _ {W : Type 0} where
  pub more_whole : (runs : W → Option (List (ℕ × ℕ × ℕ))) (P : ℕ → List (ℕ × ℕ × ℕ) → Type 0) (ports : ℕ) (before after far : List W) → length before ≡ ports → HaveMore runs P
      ports before after →
      HaveMore runs P ports (before ++ far) (after ++ far)
  more_whole runs P ports before after far long more = let many = more.as_many in record {
    as_many = length-append after far ∙ (omega (arith, many) ∙ sym (length-append before far));
    each = λ port b a below. subst (λ (z : W × W). HasMore (P port) (runs z.0) (runs z.1))
        (λ i. (sym (get_or_append_left before far b port (omega (arith, long, below))) i, sym (get_or_append_left after far a port (omega (arith, long, many, below))) i))
        (more.each port b a below);
    further = λ i w above. get_or-append_right after far ports i w (many ∙ long) above ∙ sym (get_or-append_right before far ports i w long above);
  }

  pub rose_whole : (faults : W → ℕ) (before after far : List W) (port : ℕ) → port < length before → port < length after →
      ((b a : W) → Rose (faults (get_or before port b)) (faults (get_or after port a))) → (b a : W) → Rose (faults (get_or (before ++ far) port b))
      (faults (get_or (after ++ far) port a))
  rose_whole faults before after far port low low' rose b a = subst (λ (z : W × W). Rose (faults z.0) (faults z.1))
      (λ i. (sym (get_or_append_left before far b port low) i, sym (get_or_append_left after far a port low') i)) (rose b a)
