-- Each entry of a legal journal may follow those before it.
use Rattle.std.proofs.Common.{◌≡◌, ℕ, ◌+◌, ◌<◌, ◌≤◌, true, false, true≢false, List, [], ◌∷◌, ◌++◌, get_or, drop, length, take, refl, sym, ap, ◌∙◌, subst, Option}
use Rattle.std.specs.Prelude.{All, ◌&&◌, ◌^◌, nat_le, nat_lt}
use Rattle.std.specs.Option.{IsSome}
use Rattle.std.proofs.lemmas.Bool.{and_parts, leb-false, leb-true, ltb-true}
use Rattle.std.proofs.lemmas.List.{drop_more, take-append-drop, take_all, take_more}
use Rattle.flow_table.specs.Table.{TableFacts}
use Rattle.journal.specs.declared.command.Command.{Command}
use Rattle.journal.specs.declared.command.Command.TheVariants.{Close, Open, Publish, Pull, Register, Reweigh, Short, Skip, Withdraw}
use Rattle.journal.specs.declared.command.Entry.{Entry}
use Rattle.journal.specs.declared.opening.Opening.{Opening}
use Rattle.journal.specs.Answer.{in_range, IsInRange, reply_of, room}
use Rattle.journal.specs.Journal.{is_full, IsLegal}
use Rattle.journal.specs.Sound.{InRange}
use Rattle.journal.proofs.Legal.{full_is}
use Rattle.journal.proofs.Versions.{legal_there}
use Rattle.journal_audit.specs.Replay.{IsPlain, IsPlainCommand}
use Rattle.live_text.specs.declared.value.Said.{Said}
use Rattle.live_model.specs.Printed.{entry_with, said_of, told_entry, word_of}
use Rattle.live_runs.specs.declared.retelling.Retold.{Retold}
use Rattle.live_runs.specs.Retold.{IsRetold, MayFollow}

-- a command is in range where its test says so
range_of : (o : Opening) (k : Command) → in_range o k ≡ true → IsInRange o k
range_of o (Register c) is = ltb-true c (length o.table.ids) is
range_of o (Withdraw c) is = ltb-true c (length o.table.ids) is
range_of o Publish is = tt
range_of o (Pull c) is = ltb-true c (length o.table.ids) is
range_of o (Open most) is = ltb-true 0 most is
range_of o (Short port units) is = ltb-true port o.table.ports is
range_of o Close is = tt
range_of o (Skip to) is = tt
range_of o (Reweigh c w) is =
    let both = and_parts (nat_lt c (length o.table.ids)) (nat_lt 0 w && nat_le w (2 ^ 32)) is in
    let weight = and_parts (nat_lt 0 w) (nat_le w (2 ^ 32)) both.1 in (ltb-true c (length o.table.ids) both.0, ltb-true 0 w weight.0, leb-true w (2 ^ 32) weight.1)

-- a command that has words notes no units and skips no slots
plain_by : (o : Opening) (who : ℕ) (k : Command) (said : Option Said) → IsSome (entry_with who (word_of o k) said) → IsPlainCommand k
plain_by o who (Register c) said words = (refl, refl)
plain_by o who (Withdraw c) said words = (refl, refl)
plain_by o who Publish said words = (refl, refl)
plain_by o who (Pull c) said words = (refl, refl)
plain_by o who (Open most) said words = (refl, refl)
plain_by o who (Short port units) said words = absurd (true≢false (sym words))
plain_by o who Close said words = (refl, refl)
plain_by o who (Skip to) said words = absurd (true≢false (sym words))
plain_by o who (Reweigh c w) said words = (refl, refl)

pub plain_by_words : (o : Opening) (journal : List Entry) → All (λ (e : Entry). IsSome (told_entry o e)) journal → IsPlain journal
plain_by_words o journal words k d lt =
    plain_by o (get_or journal k d).who (get_or journal k d).command (said_of (get_or journal k d).reply) (words k d lt)

-- the entry at a place
pub entry_follows : (o : Opening) (journal : List Entry) (k : ℕ) (d : Entry) → IsLegal o journal → InRange o journal → IsPlain journal → k < length journal →
    MayFollow o (take k journal) (get_or journal k d)
entry_follows o journal k d legal in_range plain lt = record {
  has_room = leb-false (room o e.command) (length (take k journal)) (sym (full_is o (take k journal) e.command) ∙ ap is_full (sym there.0) ∙ there.1);
  in_range = range_of o e.command (in_range k d lt);
  plain = plain k d lt;
  reply_is = there.0;
}
  where
    e : Entry
    e = get_or journal k d

    stands : journal ≡ take k journal ++ (e ∷ drop (k + 1) journal)
    stands = sym (take-append-drop k journal) ∙ ap (λ l. take k journal ++ l) (drop_more journal k d lt)

    there : (e.reply ≡ reply_of o (take k journal) e.command) × (is_full e.reply ≡ false)
    there = legal_there o (take k journal) (drop (k + 1) journal) e (subst (IsLegal o) stands legal)

-- the first k entries are told
pub record RetoldSoFar (o kept : Opening) (journal old : List Entry) (k : ℕ) (x : Retold) : Type 0 where
  pub opening : kept ≡ o
  pub journal_is : old ≡ take k journal
  pub told : IsRetold o old x

pub none_retold : (o kept : Opening) (journal old : List Entry) (x : Retold) → kept ≡ o → old ≡ [] → IsRetold o [] x → RetoldSoFar o kept journal old 0 x
none_retold o kept journal old x same none h = record { opening = same; journal_is = none; told = subst (λ j. IsRetold o j x) (sym none) h }

module _ (o kept : Opening) (journal old : List Entry) (k : ℕ) (x : Retold) (h : RetoldSoFar o kept journal old k x) where
  pub follows_here : (d : Entry) → IsLegal o journal → InRange o journal → IsPlain journal → k < length journal → MayFollow kept old (get_or journal k d)
  follows_here d legal in_range plain lt =
      subst (λ p. MayFollow p old (get_or journal k d)) (sym h.opening)
      (subst (λ j. MayFollow o j (get_or journal k d)) (sym h.journal_is) (entry_follows o journal k d legal in_range plain lt))

  pub told_here : IsRetold kept old x
  told_here = subst (λ p. IsRetold p old x) (sym h.opening) h.told

  pub entry_retold : (d : Entry) (after : Opening) (new : List Entry) (y : Retold) → k < length journal → after ≡ kept → new ≡ old ++ get_or journal k d ∷ [] →
      IsRetold kept new y → RetoldSoFar o after journal new (k + 1) y
  entry_retold d after new y lt same adds told = record {
    opening = same ∙ h.opening;
    journal_is = adds ∙ ap (λ l. l ++ get_or journal k d ∷ []) h.journal_is ∙ sym (take_more journal k d lt);
    told = subst (λ p. IsRetold p new y) h.opening told;
  }

  pub all_retold : length journal ≤ k → IsRetold o journal x
  all_retold all = subst (λ j. IsRetold o j x) (h.journal_is ∙ take_all k journal all) h.told

-- a second master begins as the first one did
pub same_opening : (o : Opening) (table : TableFacts) (weights : List ℕ) (limit : ℕ) → table ≡ o.table → weights ≡ o.weights → limit ≡ o.limit →
    ◌≡◌ {A = Opening} (record { table = table; weights = weights; limit = limit }) o
same_opening o table weights limit same_table same_weights same_limit =
    λ i. record { table = same_table i; weights = same_weights i; limit = same_limit i }
