-- The pulls that are told have known ids, versions of the journal that do not fall for a client, and their ranks.
use Rattle.std.proofs.Common.{◌≡◌, ℕ, ◌+◌, ◌≤◌, zero, suc, List, [], ◌∷◌, map, get_or, Contains, sym, ap, subst, arith}
use Rattle.std.specs.Prelude.{All, AllPairs, flat_map}
use Rattle.std.specs.List.{filter, range_with_len}
use Rattle.std.proofs.lemmas.List.{get_or-map, length-map}
use Rattle.std.proofs.lemmas.List.Elements.{All-append, All-filter, All-map, All-nil, Contains-get_or, filter_passes}
use Rattle.std.proofs.lemmas.List.Kept.{AllPairs-filter}
use Rattle.coflow_units.specs.Flows.{IsDistinct}
use Rattle.coflow_units.proofs.LinePlaces.{place_at}
use Rattle.cert_check.specs.Places.{coflow_with}
use Rattle.journal.specs.declared.command.Entry.{Entry}
use Rattle.journal.specs.declared.opening.Opening.{Opening}
use Rattle.journal.specs.Journal.{rank_of, version_of}
use Rattle.workload.specs.declared.script.Script.{Script}
use Rattle.live_text.specs.declared.value.PullLine.{PullLine}
use Rattle.live_model.specs.Clause.{CarriesOut, Course}
use Rattle.live_model.specs.Deeds.{Deed, IsPull}
use Rattle.live_model.specs.Printed.{told_pull, told_pulls}
use Rattle.live_model.specs.Script.{coflow_pulled, is_pull}
use Rattle.live_model.specs.Sent.{Wires}
use Rattle.live_rounds.proofs.Acting.{pairs_append}
use Rattle.live_serving.specs.Ends.{MayBeAsked}
use Rattle.live_audits.proofs.Lines.{deeds_may, IsOwnDeed, pulled_within}

-- the id is a coflow's, the version is the journal's, and the rank is that of the coflow in the version
pub record IsToldRight (o : Opening) (journal : List Entry) (p : PullLine) : Type 0 where
  pub known : Contains o.table.ids p.id
  pub made : p.version ≤ version_of journal
  pub rank_is : p.rank ≡ rank_of o journal p.version (coflow_with o.table.ids p.id)

-- of two pulls of one client the later one has no lesser version
abbrev pub NeverFalls : PullLine → PullLine → Type 0
NeverFalls a b = a.client ≡ b.client → a.version ≤ b.version

-- ---- pulls in blocks of clients

abbrev pub IsOf : ℕ → PullLine → Type 0
IsOf client p = p.client ≡ client

abbrev pub IsFrom : ℕ → PullLine → Type 0
IsFrom client p = client ≤ p.client

module _ (block : ℕ → List PullLine) where
  pub all_blocks : (P : PullLine → Type 0) → ((client : ℕ) → All P (block client)) → (clients : List ℕ) → All P (flat_map block clients)
  all_blocks P each [] = All-nil P
  all_blocks P each (c ∷ cs) = All-append P (block c) (flat_map block cs) (each c) (all_blocks P each cs)

  module _ (of_client : (client : ℕ) → All (IsOf client) (block client)) where
    pub from_client : (a n : ℕ) → All (IsFrom a) (flat_map block (range_with_len a n))
    from_client a zero = All-nil (IsFrom a)
    from_client a (suc n) =
        All-append (IsFrom a) (block a) (flat_map block (range_with_len (a + 1) n)) (λ k d lt. omega (arith, of_client a k d lt))
        (λ k d lt. omega (arith, from_client (a + 1) n k d lt))

    blocks_keep : ((client : ℕ) → AllPairs NeverFalls (block client)) → (a n : ℕ) → AllPairs NeverFalls (flat_map block (range_with_len a n))
    blocks_keep each a zero = λ i j d lt less. absurd (omega (arith, less))
    blocks_keep each a (suc n) =
        pairs_append NeverFalls (block a) (flat_map block (range_with_len (a + 1) n)) (each a) (blocks_keep each (a + 1) n)
        (λ k d lt j e less same. absurd (omega (arith, of_client a k d lt, from_client (a + 1) n j e less, same)))

pairs_map_by : {X Y : Type 0} (R : Y → Y → Type 0) (f : X → Y) (d : X) (xs : List X) → AllPairs (λ a b. R (f a) (f b)) xs → AllPairs R (map f xs)
pairs_map_by R f d xs pairs i j e lt less =
    let within = length-map xs f in
    subst (λ y. R y (get_or (map f xs) j e)) (sym (get_or-map f xs i d e (omega (arith, lt, less, within))))
    (subst (R (f (get_or xs i d))) (sym (get_or-map f xs j d e (omega (arith, less, within)))) (pairs i j d lt (omega (arith, less, within))))

pairs_map : {X Y : Type 0} (R : Y → Y → Type 0) (f : X → Y) (xs : List X) → AllPairs (λ a b. R (f a) (f b)) xs → AllPairs R (map f xs)
pairs_map R f [] pairs = λ i j e lt less. absurd (omega (arith, less))
pairs_map R f (x ∷ xs) pairs = pairs_map_by R f x (x ∷ xs) pairs

-- ---- the pulls of a script

module _ (o : Opening) (script : Script) (most : ℕ) (journal : List Entry) (wires : Wires) (course : Course) (once : IsDistinct o.table.ids) (may : MayBeAsked o script)
    (x : CarriesOut o script most journal wires course) where
  abbrev block : ℕ → List PullLine
  block client = told_pulls o journal (course.deeds client)

  own_deeds : (client : ℕ) → All (IsOwnDeed o script.clients client) (course.deeds client)
  own_deeds client = deeds_may o script journal course.deeds may x.clients client

  right_deed : (client : ℕ) (d : Deed) → IsOwnDeed o script.clients client d → d.version ≤ version_of journal → IsPull d → IsToldRight o journal (told_pull o journal d)
  right_deed client d own made pull =
      let c = coflow_pulled d.line.asked in
      let lt = pulled_within o d.line.asked own.may.2 pull in
      record {
        known = Contains-get_or o.table.ids c 0 lt;
        made = made;
        rank_is = ap (rank_of o journal d.version) (sym (place_at o.table.ids c once lt));
      }

  right_of : (client : ℕ) → All (IsToldRight o journal) (block client)
  right_of client =
      let pull = λ (d : Deed). is_pull d.line.asked in
      let own = All-filter pull (IsOwnDeed o script.clients client) (course.deeds client) (own_deeds client) in
      let made = All-filter pull (λ (d : Deed). d.version ≤ version_of journal) (course.deeds client) (x.pulls.known client) in
      let pulls = filter_passes pull (course.deeds client) in
      All-map (IsToldRight o journal) (told_pull o journal) (filter pull (course.deeds client))
      (λ k d lt. right_deed client (get_or (filter pull (course.deeds client)) k d) (own k d lt) (made k d lt) (pulls k d lt))

  clients_of : (client : ℕ) → All (IsOf client) (block client)
  clients_of client =
      let pull = λ (d : Deed). is_pull d.line.asked in
      All-map (IsOf client) (told_pull o journal) (filter pull (course.deeds client))
      (λ k d lt. (All-filter pull (IsOwnDeed o script.clients client) (course.deeds client) (own_deeds client) k d lt).own)

  keeps_of : (client : ℕ) → AllPairs NeverFalls (block client)
  keeps_of client =
      let pull = λ (d : Deed). is_pull d.line.asked in
      pairs_map NeverFalls (told_pull o journal) (filter pull (course.deeds client))
      (λ i j d lt less same. AllPairs-filter (λ (a b : Deed). a.version ≤ b.version) pull (course.deeds client) (x.pulls.never_fall client) i j d lt less)

  pub pulls_right : All (IsToldRight o journal) (flat_map block (range_with_len 1 script.clients))
  pulls_right = all_blocks block (IsToldRight o journal) right_of (range_with_len 1 script.clients)

  pub pulls_keep : AllPairs NeverFalls (flat_map block (range_with_len 1 script.clients))
  pulls_keep = blocks_keep block clients_of keeps_of 1 script.clients
