-- The commands of the entries, one after another.
use Rattle.std.proofs.Common.{◌≡◌, ℕ, ◌+◌, ◌-◌, ◌≤◌, ◌<◌, List, [], ◌∷◌, ◌++◌, get_or, length, map, take, sym, ap, ◌∙◌, subst, arith}
use Rattle.std.specs.Prelude.{All, Option}
use Rattle.std.proofs.lemmas.List.{get_or_default, length-append, get_or-take, map_push, take_all, take_more, length-take-le}
use Rattle.std.proofs.lemmas.List.Elements.{All-get_or, All-push}
use Rattle.journal.specs.declared.command.Command.{Command}
use Rattle.live_text.specs.declared.value.EntryLine.{EntryLine}
use Rattle.journal_audit.specs.Ids.{Finds}
use Rattle.journal_audit.specs.Reasons.{IsFirstUnknown, line_at}
use Rattle.journal_audit.specs.Stated.{IsKnown, command_for}

abbrev pub AreKnown : List ℕ → List EntryLine → Type 0
AreKnown ids entries = All (λ (e : EntryLine). IsKnown ids e.word) entries

abbrev pub commands_for : List ℕ → List EntryLine → List Command
commands_for ids entries = map (λ (e : EntryLine). command_for ids e.word) entries

pub record CommandsSoFar (entries : List EntryLine) (k : ℕ) (find : ℕ → Option ℕ) (commands : List Command) : Type 0 where
  pub count : length commands ≡ k
  pub within : k ≤ length entries
  pub commands_are : (ids : List ℕ) → Finds ids find → commands ≡ commands_for ids (take k entries)
  pub known : (ids : List ℕ) → Finds ids find → AreKnown ids (take k entries)

pub none_yet : (entries : List EntryLine) (find : ℕ → Option ℕ) (commands : List Command) → commands ≡ [] → CommandsSoFar entries 0 find commands
none_yet entries find commands e = record {
  count = ap length e;
  within = omega arith;
  commands_are = λ ids finds. e;
  known = λ ids finds. λ k d lt. absurd (omega arith);
}

pub one_command_more : (entries : List EntryLine) (k : ℕ) (find : ℕ → Option ℕ) (commands : List Command) (d : EntryLine) (command : Command) →
    CommandsSoFar entries k find commands → k < length entries →
    ((ids : List ℕ) → Finds ids find → IsKnown ids (get_or entries k d).word × (command ≡ command_for ids (get_or entries k d).word)) →
    CommandsSoFar entries (k + 1) find (commands ++ command ∷ [])
one_command_more entries k find commands d command sofar lt known = record {
  count = length-append commands (command ∷ []) ∙ ap (λ n. n + 1) sofar.count;
  within = omega (arith, lt);
  commands_are = λ ids finds.
      ap (λ cs. cs ++ command ∷ []) (sofar.commands_are ids finds)
      ∙ ap (λ c. commands_for ids (take k entries) ++ c ∷ []) (known ids finds).1
      ∙ sym (map_push (λ (e : EntryLine). command_for ids e.word) (take k entries) (get_or entries k d))
      ∙ ap (commands_for ids) (sym more);
  known = λ ids finds. subst (AreKnown ids) (sym more)
      (All-push (λ (e : EntryLine). IsKnown ids e.word) (take k entries) (get_or entries k d) (sofar.known ids finds) (known ids finds).0);
}
  where
    more : take (k + 1) entries ≡ take k entries ++ get_or entries k d ∷ []
    more = take_more entries k d lt

pub first_unknown : (entries : List EntryLine) (k : ℕ) (find : ℕ → Option ℕ) (commands : List Command) (d : EntryLine) (ids : List ℕ) →
    CommandsSoFar entries k find commands → Finds ids find → k < length entries → (IsKnown ids (get_or entries k d).word → ⊥) →
    IsFirstUnknown ids entries (length commands + 1)
first_unknown entries k find commands d ids sofar finds lt unknown = record {
  counted = omega arith;
  inside = omega (arith, lt, sofar.count);
  unknown = λ h. unknown (subst (λ (e : EntryLine). IsKnown ids e.word) here h);
  before = λ j less. subst (λ (e : EntryLine). IsKnown ids e.word) (front j (omega (arith, less, sofar.count)))
      (All-get_or (λ (e : EntryLine). IsKnown ids e.word) (take k entries) j (line_at [] 0)
      (omega (arith, less, sofar.count, length-take-le k entries (omega (arith, lt)))) (sofar.known ids finds));
}
  where
    here : line_at entries (length commands + 1 - 1) ≡ get_or entries k d
    here = ap (line_at entries) (omega (arith, sofar.count)) ∙ get_or_default entries k (line_at [] 0) d lt

    front : (j : ℕ) → j < k → get_or (take k entries) j (line_at [] 0) ≡ line_at entries j
    front j less = get_or-take k entries j (line_at [] 0) less

pub all_commands : (entries : List EntryLine) (k : ℕ) (find : ℕ → Option ℕ) (commands : List Command) (ids : List ℕ) → CommandsSoFar entries k find commands → Finds ids find →
    length entries ≤ k → (commands ≡ commands_for ids entries) × AreKnown ids entries
all_commands entries k find commands ids sofar finds all =
    (sofar.commands_are ids finds ∙ ap (commands_for ids) (take_all k entries all), subst (AreKnown ids) (take_all k entries all) (sofar.known ids finds))
