-- The coflows of places from place 1 on, which are those of the order that they tell.
use Rattle.std.proofs.Common.{◌≡◌, ℕ, List, [], ◌∷◌, ◌++◌, refl, reverse, sym, ap, ◌∙◌}
use Rattle.std.specs.Prelude.{map}
use Rattle.std.proofs.lemmas.List.{map-append, reverse-append, reverse-reverse}
use Rattle.coflow_units.specs.declared.plan.Place.{Place}
use Rattle.coflow_units.specs.Certificate.{Entry, entry_of, front, order_of}
use Rattle.coflow_units.proofs.Lists.{reverse-cons}
use Rattle.bssi_order.specs.Order.{entries_of}

abbrev coflows_in : List Place → List ℕ
coflows_in places = map (λ (x : Place). x.coflow) places

pub front_of_places : (places : List Place) → front (entries_of places) ≡ reverse (coflows_in places)
front_of_places [] = refl
front_of_places (x ∷ xs) =
    ap (λ (l : List Place). front (map entry_of l)) (reverse-append (x ∷ []) xs) ∙ ap front (map-append entry_of (reverse xs) (x ∷ [])) ∙
    map-append (λ (e : Entry). e.coflow) (entries_of xs) (entry_of x ∷ [])
    ∙ ap (λ l. l ++ x.coflow ∷ []) (front_of_places xs) ∙ sym (reverse-cons x.coflow (coflows_in xs))

pub order_of_places : (places : List Place) → coflows_in places ≡ order_of (entries_of places)
order_of_places places = sym (ap (λ (l : List ℕ). reverse l) (front_of_places places) ∙ reverse-reverse (coflows_in places))
