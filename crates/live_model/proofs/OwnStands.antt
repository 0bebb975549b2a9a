-- What a session's own entries are in its journal.
use Rattle.std.proofs.Common.{◌≡◌, ℕ, ◌+◌, ◌-◌, Bool, inl, inr, List, [], ◌∷◌, ◌++◌, length, map, take, refl, sym, ap, ◌∙◌, arith, cond}
use Rattle.std.specs.Prelude.{◌==◌, All, if◌then◌else◌}
use Rattle.std.specs.List.{enumerate_from, filter}
use Rattle.std.proofs.Math.Seq.{take-append_seam, take-append-add}
use Rattle.std.proofs.lemmas.Bool.{cases_Bool, eqb-true}
use Rattle.journal.specs.declared.command.Entry.{Entry}
use Rattle.journal.specs.Journal.{entry, version_of}
use Rattle.journal.proofs.Growth.{version_append}
use Rattle.client_session.specs.Own.{own_entries, own_entry, own_from, OwnEntry, versions_in}
use Rattle.client_session.specs.Closes.{StandsAt}
use Rattle.client_session.proofs.Standing.{own_stand}
use Rattle.live_model.specs.Deeds.{version_after}
use Rattle.live_model.specs.Levels.{HaveEntries, RisesOver}

abbrev full : ℕ → OwnEntry → ℕ × Entry
full client e = (e.position, entry client e.command e.reply)

own_is_filtered : (client n v : ℕ) (es : List Entry) → filter (λ (x : ℕ × Entry). x.1.who == client) (enumerate_from (n + 1) es) ≡ map (full client) (own_from client n v es)
own_is_filtered client n v [] = refl
own_is_filtered client n v (x ∷ es) =
    let w = v + versions_in x.reply in
    let here = own_entry (n + 1) w x.command x.reply in
    let tail = own_from client (n + 1) w es in
    let rest = filter (λ (y : ℕ × Entry). y.1.who == client) (enumerate_from (n + 1 + 1) es) in
    let next = own_is_filtered client (n + 1) w es in
    elim (cases_Bool (x.who == client)) [
      | inl t ↦
          let by : x.who ≡ client = eqb-true x.who client t in
          ap (λ (b : Bool). cond b ((n + 1, x) ∷ rest) rest) t
          ∙ (λ i. (n + 1, entry (by i) x.command x.reply) ∷ next i)
          ∙ ap (λ (b : Bool). map (full client) (if b then here ∷ tail else tail)) (sym t)
      | inr f ↦
          ap (λ (b : Bool). cond b ((n + 1, x) ∷ rest) rest) f ∙ next
          ∙ ap (λ (b : Bool). map (full client) (if b then here ∷ tail else tail)) (sym f)
    ]

newest_at : (journal : List Entry) (client : ℕ) (e : OwnEntry) → StandsAt journal client e → e.version ≡ version_after journal e.position
newest_at journal client e s =
    let x = entry client e.command e.reply in
    let through : take (length s.before + 1) (s.before ++ x ∷ s.more) ≡ s.before ++ x ∷ [] = take-append-add s.before (x ∷ s.more) 1 in
    s.version ∙ sym (ap version_of (ap (λ n. take n journal) s.position ∙ ap (take (length s.before + 1)) s.stands ∙ through))

rises_at : (journal : List Entry) (client : ℕ) (e : OwnEntry) → StandsAt journal client e → RisesOver journal e
rises_at journal client e s =
    let x = entry client e.command e.reply in
    let index : e.position - 1 ≡ length s.before = omega (arith, s.position) in
    let upto : take (e.position - 1) journal ≡ s.before =
    ap (λ n. take n journal) index ∙ ap (take (length s.before)) s.stands ∙ take-append_seam s.before (x ∷ s.more) in
    s.version ∙ version_append s.before (x ∷ []) ∙ omega (arith, ap version_of upto)

pub own_have : (journal : List Entry) (client : ℕ) → HaveEntries journal client (own_entries client journal)
own_have journal client = record {
  entries = own_is_filtered client 0 0 journal;
  versions = λ i d lt. newest_at journal client _ (own_stand client journal i d lt);
}

pub own_rise_over : (journal : List Entry) (client : ℕ) → All (RisesOver journal) (own_entries client journal)
own_rise_over journal client i d lt = rises_at journal client _ (own_stand client journal i d lt)
