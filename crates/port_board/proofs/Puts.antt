-- Functions on ports and slots, changed at one place.
use Rattle.std.proofs.Common.{◌≡◌, ℕ, refl, sym, subst}
use native.Mathlib.Decide.{ℕ_discrete}
use Rattle.coflow_units.proofs.Changes.{put, put_here, put_else}
use mathlib.Core.Logic.{dite}

module _ {A : Type 0} where
  -- the function of two numbers f, changed at p and k
  abbrev pub put2 : (ℕ → ℕ → A) → ℕ → ℕ → A → ℕ → ℕ → A
  put2 f p k c = put f p (put (f p) k c)

  pub put2_here : (f : ℕ → ℕ → A) (p k : ℕ) (c : A) → put2 f p k c p k ≡ c
  put2_here f p k c = subst (λ (g : ℕ → A). g k ≡ c) (sym (put_here f p (put (f p) k c))) (put_here (f p) k c)

  -- what holds at each place holds after the change, if it holds of the new value
  pub put2_keeps : (f : ℕ → ℕ → A) (p k : ℕ) (c : A) (q m : ℕ) (P : A → Type 0) → P (f q m) → (q ≡ p → m ≡ k → P (f p k) → P c) → P (put2 f p k c q m)
  put2_keeps f p k c q m P was now = dite (ℕ_discrete q p)
      (λ e. subst (λ (z : ℕ). P (f z m) → P (put2 f p k c z m)) (sym e) (λ h. subst (λ (g : ℕ → A). P (g m)) (sym (put_here f p (put (f p) k c)))
      (dite (ℕ_discrete m k) (λ d. subst (λ (z : ℕ). P (put (f p) k c z)) (sym d) (subst P (sym (put_here (f p) k c)) (now e d (subst (λ (z : ℕ). P (f p z)) d h))))
      (λ other. subst P (sym (put_else (f p) k c m other)) h))) was)
      (λ other. subst (λ (g : ℕ → A). P (g m)) (sym (put_else f p (put (f p) k c) q other)) was)

  pub put2_other : (f : ℕ → ℕ → A) (p k : ℕ) (c : A) (q m : ℕ) → (q ≡ p → m ≡ k → ⊥) → put2 f p k c q m ≡ f q m
  put2_other f p k c q m other = put2_keeps f p k c q m (λ x. x ≡ f q m) refl (λ a b _. absurd (other a b))

  -- what holds at every other place, and of the new value at its own
  pub put2_cases : (f : ℕ → ℕ → A) (p k : ℕ) (c : A) (q m : ℕ) (P : A → Type 0) → ((q ≡ p → m ≡ k → ⊥) → P (f q m)) → (q ≡ p → m ≡ k → P c) → P (put2 f p k c q m)
  put2_cases f p k c q m P was now = dite (ℕ_discrete q p)
      (λ e. dite (ℕ_discrete m k) (λ d. subst (λ (z : ℕ × ℕ). P (put2 f p k c z.0 z.1)) (λ i. (sym e i, sym d i)) (subst P (sym (put2_here f p k c)) (now e d)))
      (λ nd. subst P (sym (put2_other f p k c q m (λ _ d. nd d))) (was (λ _ d. nd d))))
      (λ ne. subst P (sym (put2_other f p k c q m (λ e _. ne e))) (was (λ e _. ne e)))
