-- The worked certificate with arrivals is feasible.
use Rattle.std.proofs.Common.{ℕ, ◌+◌, ◌<◌, ◌≤◌, inl, inr, List, [], ◌∷◌, Contains, arith}
use Rattle.std.specs.Prelude.{All}
use Rattle.std.proofs.lemmas.List.Elements.{All-cons, All-head, All-nil}
use Rattle.coflow_units.specs.declared.fabric.Side.TheVariants.{Ingress}
use Rattle.coflow_units.specs.Completion.{cost}
use Rattle.coflow_units.specs.Certificate.{Entry, budget, used}
use Rattle.coflow_units.proofs.Sums.{all_of_members, first_or_tail, nothing_in, pairs_from_apart}
use Rattle.release_bound.specs.declared.place.ReleasePlace.{ReleasePlace}
use Rattle.release_bound.specs.Release.{IsReleased, IsReleasedCertificate, IsReleasedFeasible, entries_of}
use Rattle.release_bound.specs.Rows.{long_after_short, long_and_short, long_and_short_alike, one_part_more, short_is_late}
use Rattle.release_bound.proofs.ReleasedLaw.{total_law}

abbrev long_place : ReleasePlace
long_place = record { coflow = 0; port = record { side = Ingress; number = 0 }; y = 183251937962; z = 4 }

abbrev short_place : ReleasePlace
short_place = record { coflow = 1; port = record { side = Ingress; number = 0 }; y = 0; z = 916259689814 }

abbrev more_place : ReleasePlace
more_place = record { coflow = 0; port = record { side = Ingress; number = 0 }; y = 183251937962; z = 5 }

not_one : Contains {X = ℕ} (1 ∷ []) 0 → ⊥
not_one has = elim (first_or_tail 1 [] 0 has) [
  | inl e ↦ omega (arith, e)
  | inr none ↦ nothing_in 0 none
]

ports_in : All (λ (e : Entry). e.port.number < 3) (entries_of long_after_short)
ports_in =
    let P = λ (e : Entry). e.port.number < 3 in
    let long : Entry = record { coflow = 0; port = record { side = Ingress; number = 0 }; y = 183251937962 } in
    let short : Entry = record { coflow = 1; port = record { side = Ingress; number = 0 }; y = 0 } in
    All-cons P long (short ∷ []) (omega arith) (All-cons P short [] (omega arith) (All-nil P))

pub row_certificate : IsReleasedCertificate long_and_short_alike long_after_short
row_certificate = record {
  once = pairs_from_apart (0 ∷ 1 ∷ []) (not_one, ((λ none. nothing_in 1 none), tt));
  coflow = all_of_members (Contains (0 ∷ 1 ∷ [])) (0 ∷ 1 ∷ []) (λ c has. has);
  all = all_of_members (Contains (0 ∷ 1 ∷ [])) (0 ∷ 1 ∷ []) (λ c has. has);
  port = ports_in;
}

pub row_feasible : IsReleasedFeasible long_and_short long_and_short_alike.weight long_after_short
row_feasible =
    let P = λ (r : ReleasePlace). used long_and_short (entries_of long_after_short) r.coflow + r.z ≤ budget long_and_short_alike.weight r.coflow in
    All-cons P long_place (short_place ∷ []) (omega arith) (All-cons P short_place [] (omega arith) (All-nil P))

pub row_no_more : IsReleasedFeasible long_and_short long_and_short_alike.weight one_part_more → ⊥
row_no_more feasible =
    let P = λ (r : ReleasePlace). used long_and_short (entries_of one_part_more) r.coflow + r.z ≤ budget long_and_short_alike.weight r.coflow in
    let head : P more_place = All-head P more_place (short_place ∷ []) feasible in
    omega (arith, head)

pub row_cost : (slots : List (List ℕ)) → IsReleased long_and_short short_is_late slots →
    10 ≤ cost long_and_short long_and_short_alike.weight long_and_short_alike.coflows slots
row_cost slots released = total_law long_and_short_alike short_is_late long_after_short slots row_certificate row_feasible released
