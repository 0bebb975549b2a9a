-- The grant at an ingress, by the tables and by the granted flows.
use Rattle.std.proofs.Common.{◌≡◌, ℕ, Bool, true, false, List, Option, Some, None, refl, sym, ap, ◌∙◌}
use Rattle.std.specs.Prelude.{◌&&◌, ◌↔◌, if◌then◌else◌, nat_lt}
use Rattle.std.proofs.lemmas.Bool.{lt-ltb, ltb-true}
use Rattle.coflow_units.specs.declared.fabric.Flow.{Flow}
use Rattle.matching.specs.declared.tables.Tables.{Tables}
use Rattle.matching.specs.Matching.{IsGrantedAt, IsSettled, listed_in, ports_of}
use Rattle.matching.specs.Ranking.{number_of}
use Rattle.matching.specs.Sound.{rank_at}
use Rattle.journal.specs.Runs.{grant_in}
use Rattle.journal.proofs.Ingresses.{grant_is, grant_none}
use Rattle.master_core.specs.OpenRun.{TellsIngresses, granted_at}

same_option : (a b : Option ℕ) → ((f : ℕ) → a ≡ Some f → b ≡ Some f) → (a ≡ None → (f : ℕ) → b ≡ Some f → ⊥) → a ≡ b
same_option None None f g = refl
same_option None (Some x) f g = absurd (g refl x refl)
same_option (Some x) b f g = sym (f x refl)

some_at : (a b : Bool) (n f : ℕ) → (if a && b then Some n else None) ≡ Some f → (a ≡ true) × (b ≡ true) × (n ≡ f)
some_at true true n f e = (refl, refl, cc)
some_at true false n f e = absurd (cc)
some_at false b n f e = absurd (cc)

-- the flow at an ingress, by the tables
granted_at_is : (m : Tables) (p f : ℕ) → (granted_at m p ≡ Some f) ↔ IsGrantedAt m p f
granted_at_is m p f = (
  λ e. let (low, known, is) = some_at (nat_lt p (ports_of m)) (nat_lt (rank_at m p) m.ranks.count) (number_of m.ranks (rank_at m p)) f e in
      (ltb-true p (ports_of m) low, ltb-true (rank_at m p) m.ranks.count known, is),
  λ h. ap (λ (b : Bool). if b && nat_lt (rank_at m p) m.ranks.count then Some (number_of m.ranks (rank_at m p)) else None) (lt-ltb p (ports_of m) h.0)
      ∙ ap (λ (b : Bool). if b then Some (number_of m.ranks (rank_at m p)) else None) (lt-ltb (rank_at m p) m.ranks.count h.1) ∙ ap Some h.2,
)

pub at_told : (m : Tables) (p : ℕ) (r : Option ℕ) → ((f : ℕ) → (r ≡ Some f) ↔ IsGrantedAt m p f) → r ≡ granted_at m p
at_told m p r at = same_option r (granted_at m p) (λ f e. (granted_at_is m p f).1 ((at f).0 e)) (λ none f e.
    let some : r ≡ Some f = (at f).1 ((granted_at_is m p f).0 e) in absurd (cc))

pub settled_at : (flows : List Flow) (line : List ℕ) (left : ℕ → ℕ) (m : Tables) → IsSettled flows line left m → TellsIngresses flows (listed_in m) m
settled_at flows line left m h = λ p f. (
  λ e. (h.at p f).0 ((granted_at_is m p f).0 e),
  λ there. (granted_at_is m p f).1 ((h.at p f).1 there),
)

pub grant_told : (flows : List Flow) (granted : List ℕ) (m : Tables) (p : ℕ) → TellsIngresses flows granted m → grant_in flows granted p ≡ granted_at m p
grant_told flows granted m p tells = same_option (grant_in flows granted p) (granted_at m p)
    (λ f e. (tells p f).1 (grant_is flows granted p f e))
    (λ none f e. let (in', is) = (tells p f).0 e in grant_none flows granted p f none in' is)
