-- The ordering certificate as a program makes it: one place after another, from the last on.
use Rattle.std.proofs.Common.{◌≡◌, ℕ, ◌+◌, ◌-◌, ◌*◌, List, [], ◌∷◌, ◌++◌, Contains, refl, sym, subst, ap, ◌∙◌, arith}
use Rattle.std.proofs.lemmas.List.Sums.{sum_by-cons}
use Rattle.coflow_units.specs.declared.fabric.Flow.{Flow}
use Rattle.coflow_units.specs.Flows.{Instance}
use Rattle.coflow_units.specs.Load.{load}
use Rattle.coflow_units.specs.Certificate.{Entry, front, budget}
use Rattle.coflow_units.specs.Ordering.{IsPlaced, IsOrdering, spent, residual}
use Rattle.coflow_units.proofs.BestOf.{without, without_apart}
use Rattle.coflow_units.proofs.OrderingExists.{Made, grown, made_none}
use Rattle.coflow_units.proofs.Sums.{Apart, all_of_members, pairs_from_apart}

-- the entries are placed one after another, over the coflows and the places that were there before; these coflows are left
abbrev pub IsPlacedSoFar : List Flow → (ℕ → ℕ) → ℕ → List Entry → List ℕ → List Entry → List ℕ → Type 0
IsPlacedSoFar flows weight ports later coflows [] left = coflows ≡ left
IsPlacedSoFar flows weight ports later coflows (e ∷ l) left =
    Contains coflows e.coflow × IsPlaced flows weight ports later coflows e × IsPlacedSoFar flows weight ports (e ∷ later) (without e.coflow coflows) l left

-- the places that are there after these
abbrev pub after : List Entry → List Entry → List Entry
after [] later = later
after (e ∷ l) later = after l (e ∷ later)

-- one place more
pub place_more : (flows : List Flow) (weight : ℕ → ℕ) (ports : ℕ) (later : List Entry) (coflows : List ℕ) (l : List Entry) (left : List ℕ) (e : Entry) →
    IsPlacedSoFar flows weight ports later coflows l left →
    Contains left e.coflow → IsPlaced flows weight ports (after l later) left e → IsPlacedSoFar flows weight ports later coflows (l ++ e ∷ []) (without e.coflow left)
place_more flows weight ports later coflows [] left e same has placed =
    subst (λ cs. Contains cs e.coflow × IsPlaced flows weight ports later cs e × (without e.coflow cs ≡ without e.coflow left)) (sym same) (has, placed, refl)
place_more flows weight ports later coflows (x ∷ l) left e so_far has placed =
    (so_far.0, so_far.1, place_more flows weight ports (x ∷ later) (without x.coflow coflows) l left e so_far.2 has placed)

-- what is spent there does not depend on the order of the places
pub spent_after : (flows : List Flow) (l later : List Entry) (c : ℕ) → spent flows (after l later) c ≡ spent flows l c + spent flows later c
spent_after flows [] later c = omega arith
spent_after flows (e ∷ l) later c =
    omega (arith, spent_after flows l (e ∷ later) c, sum_by-cons (λ (x : Entry). x.y * load flows c x.port) e later, sum_by-cons (λ (x : Entry). x.y * load flows c x.port) e l)

pub residual_after : (flows : List Flow) (weight : ℕ → ℕ) (l : List Entry) (c : ℕ) → residual flows weight (after l []) c ≡ residual flows weight l c
residual_after flows weight l c = ap (λ n. budget weight c - n) (spent_after flows l [] c ∙ omega arith)

-- none is left
pub made_of : (flows : List Flow) (weight : ℕ → ℕ) (ports : ℕ) (later : List Entry) (coflows : List ℕ) (l : List Entry) → Apart coflows →
    IsPlacedSoFar flows weight ports later coflows l [] → Made flows weight ports later coflows l
made_of flows weight ports later coflows [] apart none = made_none flows weight ports later coflows none
made_of flows weight ports later coflows (e ∷ l) apart so_far =
    grown flows weight ports later coflows e l apart so_far.0 so_far.1
    (made_of flows weight ports (e ∷ later) (without e.coflow coflows) l (without_apart e.coflow coflows apart) so_far.2)

pub ordering_made : (i : Instance) (l : List Entry) → Apart i.coflows → IsPlacedSoFar i.flows i.weight i.ports [] i.coflows l [] → IsOrdering i l
ordering_made i l apart so_far =
    let made = made_of i.flows i.weight i.ports [] i.coflows l apart so_far in
    record {
      certificate = record {
        once = pairs_from_apart (front l) made.apart;
        coflow = all_of_members (Contains i.coflows) (front l) made.to;
        all = all_of_members (Contains (front l)) i.coflows made.from;
        port = made.inside;
      };
      ordered = made.ordered;
    }
