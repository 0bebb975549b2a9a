-- A master that answers the entries, one after another.
use Rattle.std.proofs.Common.{◌≡◌, ◌≢◌, ℕ, ◌+◌, ◌-◌, ◌≤◌, ◌<◌, true, List, [], ◌∷◌, ◌++◌, get_or, length, map, take, refl, sym, ap, ◌∙◌, subst, arith}
use Rattle.std.specs.Prelude.{All, None, nat_eq}
use Rattle.std.proofs.lemmas.List.{get_or_default, get_or-map, length-map, length-take-le, take_all, take_more}
use Rattle.indexmap.specs.IndexMap.{get}
use Rattle.journal.specs.declared.command.Command.{Command}
use Rattle.journal.specs.declared.command.Command.TheVariants.{Register}
use Rattle.journal.specs.declared.command.Entry.{Entry}
use Rattle.journal.specs.declared.command.Reply.{Reply}
use Rattle.journal.specs.declared.opening.Opening.{Opening}
use Rattle.journal.specs.Answer.{IsInRange, reply_of, room}
use Rattle.journal.specs.Journal.{entry, is_version, IsLegal, version_of}
use Rattle.live_text.specs.declared.value.EntryLine.{EntryLine}
use Rattle.live_text.specs.Live.{IsEntry}
use Rattle.journal_audit.specs.Replay.{IsPlainCommand, IsReplay}
use Rattle.journal_audit.proofs.ClosingRuns.{room_least}
use Rattle.journal_audit.proofs.EntriesAnew.{none_anew, one_more}
use Rattle.journal_audit.specs.Orders.{AreOrders}
use Rattle.journal_audit.specs.Ranks.{AreRanks}
use Rattle.journal_audit.specs.declared.replay.Replayed.{Replayed}
use Rattle.journal_audit.specs.Reasons.{IsFirstWrongEntry, line_at}
use Rattle.journal_audit.specs.Replayed.{IsReplayed}
use Rattle.journal_audit.specs.Stated.{IsKnown, command_for, entry_for, reply_for, stated_by}
use Rattle.journal_audit.proofs.InRanges.{plain_for, range_for}
use Rattle.journal_audit.proofs.Refusals.{entry_at}

-- before the first entry
pub nothing_yet : (o : Opening) (orders : List (List ℕ)) (x : Replayed) → x.schedule ≡ [] → x.ranks.items ≡ [] → x.wrong ≡ None → IsReplayed o [] orders x
nothing_yet o orders x no_slots no_ranks no_wrong = record {
  replay = subst (IsReplay o []) (sym no_slots) (none_anew o);
  ranks = subst (AreRanks (get nat_eq) o []) (sym no_ranks) (refl, λ k coflow d lt. absurd (omega arith));
  orders_are = subst (AreOrders o [] orders) (sym no_wrong) (λ k lt. absurd (omega arith));
}

-- ---- entry by entry

-- the first k entries were answered as stated
pub record AnsweredSoFar (o : Opening) (entries : List EntryLine) (orders : List (List ℕ)) (k : ℕ) (kept : Opening) (journal : List Entry) (x : Replayed) : Type 0 where
  pub within : k ≤ length entries
  pub opening : kept ≡ o
  pub journal_is : journal ≡ take k (stated_by o.table.ids entries)
  pub replayed : IsReplayed o journal orders x

pub before_all : (o kept : Opening) (entries : List EntryLine) (orders : List (List ℕ)) (journal : List Entry) (x : Replayed) → kept ≡ o → journal ≡ [] → IsReplayed o [] orders x →
    AnsweredSoFar o entries orders 0 kept journal x
before_all o kept entries orders journal x same none h = record {
  within = omega arith;
  opening = same;
  journal_is = none;
  replayed = subst (λ j. IsReplayed o j orders x) (sym none) h;
}

pub count_so_far : (o kept : Opening) (entries : List EntryLine) (orders : List (List ℕ)) (k : ℕ) (journal : List Entry) (x : Replayed) →
    AnsweredSoFar o entries orders k kept journal x →
    length journal ≡ k
count_so_far o kept entries orders k journal x h =
    ap length h.journal_is ∙ length-take-le k (stated_by o.table.ids entries) (omega (arith, h.within, length-map entries (entry_for o.table.ids)))

-- the entry that was read
module _ (o : Opening) (entries : List EntryLine) (k : ℕ) (line : EntryLine) (lt : k < length entries) (is : line ≡ get_or entries k line) where
  line_is : line_at entries k ≡ line
  line_is = get_or_default entries k (line_at [] 0) line lt ∙ sym is

  pub command_is : (commands : List Command) (command : Command) → commands ≡ map (λ (e : EntryLine). command_for o.table.ids e.word) entries →
      command ≡ get_or commands k command →
      command ≡ command_for o.table.ids line.word
  command_is commands command same at =
      at ∙ ap (λ l. get_or l k command) same ∙ get_or-map (λ (e : EntryLine). command_for o.table.ids e.word) entries k line command lt
      ∙ ap (λ (e : EntryLine). command_for o.table.ids e.word) (sym is)

  pub one_answered : (orders : List (List ℕ)) (kept after : Opening) (old new : List Entry) (before now : Replayed) (real : Reply) →
      AnsweredSoFar o entries orders k kept old before → after ≡ kept →
      new ≡ old ++ entry line.who (command_for o.table.ids line.word) real ∷ [] →
      IsReplayed kept new orders now → real ≡ reply_for line.said → AnsweredSoFar o entries orders (k + 1) after new now
  one_answered orders kept after old new before now real h same added replayed agrees = record {
    within = omega (arith, lt);
    opening = same ∙ h.opening;
    journal_is = added ∙ grows;
    replayed = subst (λ x. IsReplayed x new orders now) h.opening replayed;
  }
    where
      grows : old ++ entry line.who (command_for o.table.ids line.word) real ∷ [] ≡ take (k + 1) (stated_by o.table.ids entries)
      grows =
          ap (λ r. old ++ entry line.who (command_for o.table.ids line.word) r ∷ []) agrees
          ∙ ap (λ j. j ++ entry_for o.table.ids line ∷ []) h.journal_is
          ∙ ap (λ e. take k (stated_by o.table.ids entries) ++ entry_for o.table.ids e ∷ []) (sym line_is)
          ∙ ap (λ e. take k (stated_by o.table.ids entries) ++ e ∷ []) (sym (entry_at o.table.ids entries k lt))
          ∙ sym (take_more (stated_by o.table.ids entries) k (entry_for o.table.ids (line_at [] 0)) (omega (arith, lt, length-map entries (entry_for o.table.ids))))

  pub first_wrong : (orders : List (List ℕ)) (kept : Opening) (old : List Entry) (before : Replayed) (position : ℕ) (real : Reply) →
      AnsweredSoFar o entries orders k kept old before → real ≡ reply_of kept old (command_for o.table.ids line.word) → position ≡ k + 1 → real ≢ reply_for line.said →
      IsFirstWrongEntry o (stated_by o.table.ids entries) entries position line.said real
  first_wrong orders kept old before position real h reply at differ = record {
    counted = omega (arith, at);
    inside = omega (arith, at, lt);
    says = ap (λ (e : EntryLine). e.said) here;
    should = ap (λ (e : EntryLine). reply_of o (take (position - 1) (stated_by o.table.ids entries)) (command_for o.table.ids e.word)) here
        ∙ ap (λ n. reply_of o (take n (stated_by o.table.ids entries)) (command_for o.table.ids line.word)) index
        ∙ ap (λ j. reply_of o j (command_for o.table.ids line.word)) (sym h.journal_is)
        ∙ sym (subst (λ x. real ≡ reply_of x old (command_for o.table.ids line.word)) h.opening reply);
    differ = differ;
    before = subst (IsLegal o) (h.journal_is ∙ ap (λ n. take n (stated_by o.table.ids entries)) (sym index)) h.replayed.replay.legal;
  }
    where
      index : position - 1 ≡ k
      index = omega (arith, at)

      here : line_at entries (position - 1) ≡ line
      here = ap (line_at entries) index ∙ line_is

pub all_answered : (o kept : Opening) (entries : List EntryLine) (orders : List (List ℕ)) (k : ℕ) (journal : List Entry) (x : Replayed) →
    AnsweredSoFar o entries orders k kept journal x →
    length entries ≤ k → journal ≡ stated_by o.table.ids entries
all_answered o kept entries orders k journal x h all = h.journal_is ∙ take_all k (stated_by o.table.ids entries) (omega (arith, all, length-map entries (entry_for o.table.ids)))

-- ---- the facts of one entry, as they are read

pub version_made : (journal after : List Entry) (e : Entry) → after ≡ journal ++ e ∷ [] → is_version e.reply ≡ true → 1 ≤ version_of after
version_made journal after e adds is = omega (arith, ap version_of adds ∙ one_more journal e true is)

pub entry_taken : (o kept : Opening) (journal after : List Entry) (orders : List (List ℕ)) (old new : Replayed) (e : Entry) → IsReplayed o journal orders old →
    kept ≡ o → after ≡ journal ++ e ∷ [] → IsReplay o after new.schedule →
    ((before : List Entry) (x : Entry) → after ≡ before ++ x ∷ [] → x.reply ≡ e.reply → AreRanks (get nat_eq) kept before old.ranks.items →
    AreRanks (get nat_eq) kept after new.ranks.items) →
    ((before : List Entry) (x : Entry) → after ≡ before ++ x ∷ [] → x.reply ≡ e.reply → AreOrders kept before orders old.wrong → AreOrders kept after orders new.wrong) →
    IsReplayed o after orders new
entry_taken o kept journal after orders old new e h same adds replay ranks orders_are = record {
  replay = replay;
  ranks = subst (λ x. AreRanks (get nat_eq) x after new.ranks.items) same
      (ranks journal e adds refl (subst (λ x. AreRanks (get nat_eq) x journal old.ranks.items) (sym same) h.ranks));
  orders_are = subst (λ x. AreOrders x after orders new.wrong) same
      (orders_are journal e adds refl (subst (λ x. AreOrders x journal orders old.wrong) (sym same) h.orders_are));
}

-- an entry finds room
pub room_at : (o kept : Opening) (entries : List EntryLine) (orders : List (List ℕ)) (k : ℕ) (journal : List Entry) (x : Replayed) (command : Command) →
    AnsweredSoFar o entries orders k kept journal x → k < length entries → length entries ≤ o.limit → length journal < room kept command
room_at o kept entries orders k journal x command h lt within =
    omega (arith, count_so_far o kept entries orders k journal x h, lt, within, ap (λ (y : Opening). y.limit) h.opening, room_least kept command)

-- the command at a place
pub count_commands : (ids : List ℕ) (entries : List EntryLine) (commands : List Command) → commands ≡ map (λ (e : EntryLine). command_for ids e.word) entries →
    length commands ≡ length entries
count_commands ids entries commands is = ap length is ∙ length-map entries (λ (e : EntryLine). command_for ids e.word)

pub command_at : (ids : List ℕ) (entries : List EntryLine) (commands : List Command) (k : ℕ) → commands ≡ map (λ (e : EntryLine). command_for ids e.word) entries →
    k < length entries →
    get_or commands k (Register 0) ≡ command_for ids (line_at entries k).word
command_at ids entries commands k is lt = ap (λ l. get_or l k (Register 0)) is ∙ get_or-map (λ (e : EntryLine). command_for ids e.word) entries k (line_at [] 0) (Register 0) lt

pub range_at : (o kept : Opening) (entries : List EntryLine) (commands : List Command) (k : ℕ) → kept ≡ o →
    commands ≡ map (λ (e : EntryLine). command_for o.table.ids e.word) entries →
    k < length entries → All (λ (e : EntryLine). IsKnown o.table.ids e.word) entries → All IsEntry entries → IsInRange kept (get_or commands k (Register 0))
range_at o kept entries commands k same is lt known entry_is =
    subst (λ x. IsInRange x (get_or commands k (Register 0))) (sym same)
    (subst (IsInRange o) (sym (command_at o.table.ids entries commands k is lt))
    (range_for o (line_at entries k).word (known k (line_at [] 0) lt) (entry_is k (line_at [] 0) lt).command))

pub plain_at : (ids : List ℕ) (entries : List EntryLine) (commands : List Command) (k : ℕ) → commands ≡ map (λ (e : EntryLine). command_for ids e.word) entries →
    k < length entries →
    IsPlainCommand (get_or commands k (Register 0))
plain_at ids entries commands k is lt =
    subst IsPlainCommand (sym (command_at ids entries commands k is lt)) (plain_for ids (line_at entries k).word)

pub answered_more : (o kept after : Opening) (entries : List EntryLine) (commands : List Command) (orders : List (List ℕ)) (k : ℕ) (d : EntryLine) (old new : List Entry)
    (before now : Replayed) (real : Reply) → AnsweredSoFar o entries orders k kept old before → commands ≡ map (λ (e : EntryLine). command_for o.table.ids e.word) entries →
    k < length entries → after ≡ kept → new ≡ old ++ entry (get_or entries k d).who (get_or commands k (Register 0)) real ∷ [] → IsReplayed kept new orders now →
    real ≡ reply_for (get_or entries k d).said → AnsweredSoFar o entries orders (k + 1) after new now
answered_more o kept after entries commands orders k d old new before now real h is lt same adds replayed agrees =
    let at : get_or commands k (Register 0) ≡ command_for o.table.ids (get_or entries k d).word = command_at o.table.ids entries commands k is lt
    ∙ ap (λ (e : EntryLine). command_for o.table.ids e.word) (get_or_default entries k (line_at [] 0) d lt) in
    one_answered o entries k (get_or entries k d) lt (get_or_default entries k d (get_or entries k d) lt) orders kept after old new before now real h same
    (adds ∙ ap (λ (x : Command). old ++ entry (get_or entries k d).who x real ∷ []) at) replayed agrees
