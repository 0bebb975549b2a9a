-- What a pull and an open that finds nothing left tell.
use Rattle.std.proofs.Common.{◌≡◌, ◌↔◌, ℕ, ◌<◌, inl, inr, Bool, true, false, List, get_or, length, refl, sym, ap, subst, ◌∙◌, arith, Option, Some, None, true≢false}
use Rattle.std.specs.Prelude.{if◌then◌else◌, nat_le, nat_lt, ◌==◌, ◌&&◌}
use Rattle.std.specs.List.{range_with_len}
use Rattle.std.proofs.lemmas.Bool.{and_from, and_parts, cases_lt, eqb-true, lt-ltb, ltb-true}
use Rattle.std.proofs.lemmas.List.Elements.{Contains-get_or}
use Rattle.coflow_units.specs.Flows.{coflow_of}
use Rattle.coflow_units.proofs.Lists.{filter_in, keeps, number_below, number_in}
use Rattle.journal.specs.declared.command.Command.TheVariants.{Open, Pull}
use Rattle.journal.specs.declared.command.Reply.{Reply}
use Rattle.journal.specs.declared.command.Reply.TheVariants.{Full, StillOpen, Rank, Unranked, NothingLeft, Late, Opened}
use Rattle.journal.specs.declared.command.Entry.{Entry}
use Rattle.journal.specs.declared.opening.Opening.{Opening}
use Rattle.journal.specs.State.{has, is_present, IsOpening, owed, Run, slot_end}
use Rattle.journal.specs.Line.{line, owing, rank, version}
use Rattle.journal.specs.Runs.{granted, slots_for}
use Rattle.journal.specs.Fold.{coflow_named, state_of}
use Rattle.journal.specs.Answer.{answer, on_run, opened, reply_of, room}
use Rattle.journal.specs.Entries.{TellsEntry}
use Rattle.journal.specs.Journal.{rank_of, version_of}
use Rattle.journal.proofs.EntryTells.{reply_tells}
use Rattle.journal.proofs.Growth.{version_counted}
use Rattle.journal.proofs.Present.{line_present}
use Rattle.journal.proofs.Sound.{branch}

abbrev is_rank : Reply → Bool
is_rank (Rank v r) = true
is_rank reply = false

abbrev told_version : Reply → ℕ
told_version (Rank v r) = v
told_version reply = 0

abbrev told_rank : Reply → ℕ
told_rank (Rank v r) = r
told_rank reply = 0

abbrev Tells : ℕ → ℕ → ℕ → ℕ → Reply → Type 0
Tells n k v r x = x ≡ Rank v r → (v ≡ n) × (r ≡ k)

not_rank : {A : Type 0} (x : Reply) (v r : ℕ) → is_rank x ≡ false → x ≡ Rank v r → A
not_rank x v r other e = absurd (true≢false (sym (ap is_rank e) ∙ other))

pub pull_is : (o : Opening) (journal : List Entry) (c v r : ℕ) → reply_of o journal (Pull c) ≡ Rank v r → (v ≡ version_of journal) × (r ≡ rank_of o journal v c)
pull_is o journal c v r e =
    let s = state_of o journal in
    let n = version s in
    let k = rank s n c in
    let (is, place) =
    branch (Tells n k v r) (nat_le (room o (Pull c)) (length journal)) (Full (length journal)) (answer o s (Pull c)) (λ b. not_rank (Full (length journal)) v r refl)
    (λ b. branch (Tells n k v r) (k == 0) (Unranked n) (Rank n k) (λ b. not_rank (Unranked n) v r refl) (λ b e. (sym (ap told_version e), sym (ap told_rank e)))) e in
    (is ∙ version_counted o journal, place ∙ ap (λ m. rank s m c) (sym is))

abbrev is_nothing : Reply → Bool
is_nothing NothingLeft = true
is_nothing reply = false

abbrev Empty : ℕ → Reply → Type 0
Empty n x = is_nothing x ≡ true → n ≡ 0

pub no_way : {A : Type 0} → false ≡ true → A
no_way e = absurd (true≢false (sym e))

empty_run : (n : ℕ) (run : Option Run) (x : Reply) → Empty n x → Empty n (on_run run (λ r. StillOpen r.first) x)
empty_run n None x h = h
empty_run n (Some r) x h = no_way

-- where no flow of the line owes, a flow of a present coflow owes nothing
nobody_owes : (o : Opening) (journal : List Entry) (f : ℕ) → IsOpening o → length (owing o (state_of o journal)) ≡ 0 → f < length o.table.flows →
    is_present (state_of o journal) (coflow_of o.table.flows f) ≡ true → owed o (state_of o journal) f ≡ 0
nobody_owes o journal f ok empty low there =
    let s = state_of o journal in
    elim (cases_lt 0 (owed o s f)) [
      | inl some ↦
          let test = λ (g : ℕ). has (line s) (coflow_of o.table.flows g) && nat_lt 0 (owed o s g) in
          let (k, lt, at) = keeps test (range_with_len 0 (length o.table.flows)) f (number_in 0 (length o.table.flows) f (omega arith) (omega (arith, low)))
          (and_from (has (line s) (coflow_of o.table.flows f)) (nat_lt 0 (owed o s f)) (line_present o journal ok (coflow_of o.table.flows f) ∙ there) (lt-ltb 0 (owed o s f) some))
          in
          absurd (omega (arith, lt, empty))
      | inr none ↦ omega (arith, none)
    ]

-- and the other way round
all_served : (o : Opening) (journal : List Entry) → IsOpening o →
    ((f : ℕ) → f < length o.table.flows → is_present (state_of o journal) (coflow_of o.table.flows f) ≡ true → owed o (state_of o journal) f ≡ 0) →
    length (owing o (state_of o journal)) ≡ 0
all_served o journal ok none =
    let s = state_of o journal in
    elim (cases_lt 0 (length (owing o s))) [
      | inl some ↦
          let test = λ (g : ℕ). has (line s) (coflow_of o.table.flows g) && nat_lt 0 (owed o s g) in
          let f = get_or (owing o s) 0 0 in
          let (in', pass) = filter_in test (range_with_len 0 (length o.table.flows)) f (Contains-get_or (owing o s) 0 0 some) in
          let parts = and_parts (has (line s) (coflow_of o.table.flows f)) (nat_lt 0 (owed o s f)) pass in
          let nought = none f (omega (arith, number_below 0 (length o.table.flows) f in')) (sym (line_present o journal ok (coflow_of o.table.flows f)) ∙ parts.0) in
          absurd (omega (arith, ltb-true 0 (owed o s f) parts.1, nought))
      | inr no' ↦ omega (arith, no')
    ]

pub nothing_owing : (o : Opening) (journal : List Entry) → IsOpening o → (length (owing o (state_of o journal)) ≡ 0) ↔
    ((f : ℕ) → f < length o.table.flows → is_present (state_of o journal) (coflow_of o.table.flows f) ≡ true → owed o (state_of o journal) f ≡ 0)
nothing_owing o journal ok = ((λ empty f low there. nobody_owes o journal f ok empty low there), all_served o journal ok)

pub nothing_is_left : (o : Opening) (journal : List Entry) (most f : ℕ) → IsOpening o → reply_of o journal (Open most) ≡ NothingLeft → f < length o.table.flows →
    is_present (state_of o journal) (coflow_of o.table.flows f) ≡ true →
    owed o (state_of o journal) f ≡ 0
nothing_is_left o journal most f ok e low there =
    let s = state_of o journal in
    let n = length (owing o s) in
    let last = if s.next == slot_end then Late s.next else Opened s.next (slots_for o s most) (length (granted o s)) in
    let empty : n ≡ 0 =
    branch (Empty n) (nat_le (room o (Open most)) (length journal)) (Full (length journal)) (answer o s (Open most)) (λ b. no_way)
    (λ b. empty_run n s.run (opened o s most) (branch (Empty n) (n == 0) NothingLeft last (λ b x. eqb-true n 0 b)
    (λ b. branch (Empty n) (s.next == slot_end) (Late s.next) (Opened s.next (slots_for o s most) (length (granted o s))) (λ b. no_way) (λ b. no_way)))) (ap is_nothing e) in
    nobody_owes o journal f ok empty low there

-- a pull of a coflow that has no place tells the newest version too
pub unranked_told : (o : Opening) (journal : List Entry) (c v : ℕ) → reply_of o journal (Pull c) ≡ Unranked v → (v ≡ version_of journal) × (rank_of o journal v c ≡ 0)
unranked_told o journal c v is =
    let (d, asks, at, none) = subst (TellsEntry o (state_of o journal) (Pull c)) is (reply_tells o journal (Pull c)) in
    (at ∙ version_counted o journal, subst (λ x. rank_of o journal v x ≡ 0) (sym (ap coflow_named asks)) none)
