-- The clients of a script as sessions of a course.
use Rattle.std.proofs.Common.{◌≡◌, ℕ, ◌≤◌, inl, inr, List, [], ◌++◌, refl, sym, ap, subst, ◌∙◌, arith, zero, suc}
use Rattle.std.specs.Prelude.{false, All, AllPairs, Contains}
use Rattle.std.proofs.lemmas.Bool.{cases_lt}
use Rattle.std.proofs.lemmas.List.Elements.{All-contains_itself, All-nil}
use Rattle.journal.specs.declared.command.Entry.{Entry}
use Rattle.journal.specs.declared.opening.Opening.{Opening}
use Rattle.journal.specs.Journal.{version_of}
use Rattle.workload.specs.declared.script.Script.{Script}
use Rattle.client_session.specs.Own.{own_entries, OwnEntry}
use Rattle.live_model.specs.Script.{is_pull, lines_by}
use Rattle.live_model.specs.Deeds.{Deed, HasEntry, IsPull}
use Rattle.live_model.specs.Levels.{AreSessions, IsBetween, IsSession, IsSteady, Levels}
use Rattle.live_rounds.specs.Acts.{Act, entries_in}
use Rattle.live_rounds.specs.Clients.{AreClients, IsClient, IsNobody}
use Rattle.live_rounds.specs.Told.{acts_of, deeds_of}
use Rattle.live_rounds.proofs.ActsTold.{lines_lie_between, session_carries_out}

client_session : (o : Opening) (journal : List Entry) (script : Script) (levels : Levels) (k : ℕ) (told : List (ℕ × Act)) → IsClient o journal script levels k told →
    IsSession script journal k (own_entries k journal) (deeds_of told)
client_session o journal script levels k told c =
    let as_client = c.lines ∙ ap (lines_by script) (sym c.number) in
    let session = session_carries_out o journal script c.first c.last told c.new c.acted c.ended as_client in
    let own : c.last.own ≡ own_entries k journal = c.ended.own ∙ ap (λ n. own_entries n journal) c.number in
    subst (λ (l : List OwnEntry). IsSession script journal k l (deeds_of told)) own (subst (λ n. IsSession script journal n c.last.own (deeds_of told)) c.number session)

client_between : (o : Opening) (journal : List Entry) (script : Script) (levels : Levels) (k : ℕ) (told : List (ℕ × Act)) → IsClient o journal script levels k told →
    All (IsBetween journal levels) (deeds_of told)
client_between o journal script levels k told c =
    let entries = entries_in (acts_of told) in
    let own : c.last.own ≡ entries = c.acted.own ∙ ap (λ l. l ++ entries) c.new.own in
    let among : All (Contains c.last.own) entries = subst (λ (l : List OwnEntry). All (Contains l) entries) (sym own) (All-contains_itself entries) in
    lines_lie_between o journal levels c.last told c.ended among c.between

no_pairs : (R : Deed → Deed → Type 0) → AllPairs R []
no_pairs R i j d lt lj = absurd (omega (arith, lj))

-- who has no line and no entry does the script of nobody
nobody_session : (journal : List Entry) (script : Script) (k : ℕ) → lines_by script k ≡ [] → own_entries k journal ≡ [] → IsSession script journal k (own_entries k journal)
    (deeds_of [])
nobody_session journal script k no_line no_entry =
    subst (λ (l : List OwnEntry). IsSession script journal k l (deeds_of [])) (sym no_entry) (record {
      lines = sym no_line;
      entries = sym no_entry;
      kept = refl;
      commands = All-nil (λ (d : Deed). is_pull d.line.asked ≡ false → HasEntry d);
      known = All-nil (λ (d : Deed). d.version ≤ version_of journal);
      first = All-nil (λ (d : Deed). IsPull d → HasEntry d → 2 ≤ d.version);
      steady = no_pairs (IsSteady journal);
    })

one_session : (o : Opening) (journal : List Entry) (script : Script) (levels : Levels) (clients : ℕ) (told : ℕ → List (ℕ × Act)) → AreClients o journal script levels clients told →
    (k : ℕ) → 1 ≤ k → IsSession script journal k (own_entries k journal) (deeds_of (told k))
one_session o journal script levels clients told h k some = elim (cases_lt clients k) [
  | inl far ↦
      let n = h.no_further k far in
      subst (λ (l : List (ℕ × Act)). IsSession script journal k (own_entries k journal) (deeds_of l)) (sym n.none_told)
      (nobody_session journal script k n.no_line (n.no_entry some))
  | inr near ↦ client_session o journal script levels k (told k) (h.client k some (omega (arith, near)))
]

pub clients_are_sessions : (o : Opening) (journal : List Entry) (script : Script) (levels : Levels) (clients : ℕ) (told : ℕ → List (ℕ × Act)) → AreClients o journal script
    levels clients told →
    AreSessions script journal (λ k. own_entries k journal) (λ k. deeds_of (told k))
clients_are_sessions o journal script levels clients told h = record {
  session = one_session o journal script levels clients told h;
  nobody = ap deeds_of h.nobody.none_told;
  no_line = h.nobody.no_line;
}

none_between : (journal : List Entry) (levels : Levels) (script : Script) (k : ℕ) (told : List (ℕ × Act)) → IsNobody journal script k told → All (IsBetween journal levels)
    (deeds_of told)
none_between journal levels script k told n = subst (λ (l : List (ℕ × Act)). All (IsBetween journal levels) (deeds_of l)) (sym n.none_told) (All-nil (IsBetween journal levels))

pub clients_keep_levels : (o : Opening) (journal : List Entry) (script : Script) (levels : Levels) (clients : ℕ) (told : ℕ → List (ℕ × Act)) → AreClients o journal script
    levels clients told →
    (k : ℕ) → All (IsBetween journal levels) (deeds_of (told k))
clients_keep_levels o journal script levels clients told h zero = none_between journal levels script 0 (told 0) h.nobody
clients_keep_levels o journal script levels clients told h (suc k) = elim (cases_lt clients (suc k)) [
  | inl far ↦ none_between journal levels script (suc k) (told (suc k)) (h.no_further (suc k) far)
  | inr near ↦ client_between o journal script levels (suc k) (told (suc k)) (h.client (suc k) (omega arith) (omega (arith, near)))
]
