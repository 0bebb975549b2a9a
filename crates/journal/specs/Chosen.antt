-- The ordering certificate of an instance and the grants of a slot, as functions. Their bodies are open to no proof
-- that does not ask for them: what is known of them is that they are the ones that the definitions describe.
use Rattle.std.specs.Prelude.{ℕ, List}
use Rattle.coflow_units.specs.declared.fabric.Flow.{Flow}
use Rattle.coflow_units.specs.Flows.{Instance}
use Rattle.coflow_units.specs.Certificate.{Entry, order_of}
use Rattle.coflow_units.proofs.OrderingExists.{ordering_of}
use Rattle.coflow_units.proofs.GrantsExist.{grants_of}

-- the one ordering certificate of an instance
unfoldable pub the_ordering : Instance → List Entry
the_ordering i = ordering_of i

-- the one set of grants of a slot
unfoldable pub the_grants : List Flow → List ℕ → (ℕ → ℕ) → List ℕ
the_grants flows line left = grants_of flows line left

-- the order that the ordering certificate gives
abbrev pub the_order : Instance → List ℕ
the_order i = order_of (the_ordering i)
