-- The coflows of the line are the present ones.
use Rattle.std.proofs.Common.{◌≡◌, ℕ, inl, inr, Bool, true, false, List, [], ◌∷◌, ◌++◌, length, map, get_or, Contains, refl, sym, ap, subst, zero, suc, Option, Some, None}
use Rattle.std.proofs.Common.{true≢false}
use Rattle.std.specs.Prelude.{◌&&◌, not}
use Rattle.std.specs.List.{filter, range_with_len}
use Rattle.std.proofs.lemmas.Bool.{cases_Bool, and_parts, and_from}
use Rattle.std.proofs.lemmas.List.Elements.{All-contains, Contains-append_left, Contains-append_right, Contains-append_cases}
use Rattle.std.proofs.lemmas.List.{reverse-reverse}
use Rattle.coflow_units.specs.Flows.{Instance}
use Rattle.coflow_units.specs.Certificate.{order_of, front}
use Rattle.coflow_units.proofs.Lists.{into_reverse}
use Rattle.coflow_units.proofs.Lists.{filter_in, keeps}
use Rattle.coflow_units.proofs.Sums.{any_has, any_in, in_first, in_tail, first_or_tail, nothing_in}
use Rattle.journal.specs.declared.command.Command.{Command}
use Rattle.journal.specs.declared.command.Reply.{Reply}
use Rattle.journal.specs.declared.command.Reply.TheVariants.{Joined, Version, Closed}
use Rattle.journal.specs.declared.command.Entry.{Entry}
use Rattle.journal.specs.declared.opening.Opening.{Opening}
use Rattle.journal.specs.Chosen.{the_order, the_ordering}
use Rattle.journal.specs.State.{has, is_present, IsOpening, present, Run, State, what_is_left}
use Rattle.journal.specs.Line.{line, newest, version}
use Rattle.journal.specs.Fold.{after, closed, coflow_named, start, state_from, state_of}
use Rattle.journal.specs.Journal.{line_of}
use Rattle.journal.proofs.Instances.{is_the_ordering, left_is_instance}

-- the orders name coflows that joined
abbrev Named : List ℕ → List Instance → Type 0
Named joined published = (i : Instance) → Contains published i → (c : ℕ) → Contains (the_order i) c → Contains joined c

named_more : (joined more : List ℕ) (published : List Instance) → Named joined published → Named (joined ++ more) published
named_more joined more published named i in' c has' = Contains-append_left joined more c (named i in' c has')

order_in_coflows : (o : Opening) (s : State) (c : ℕ) → IsOpening o → Contains (the_order (what_is_left o s)) c → Contains s.joined c
order_in_coflows o s c ok in' =
    let inst = left_is_instance o s ok in
    let ordering = is_the_ordering (what_is_left o s) inst in
    let there = All-contains (Contains (present o s)) (front (the_ordering (what_is_left o s))) c ordering.certificate.coflow
    (subst (λ l. Contains l c) (reverse-reverse (front (the_ordering (what_is_left o s)))) (into_reverse (order_of (the_ordering (what_is_left o s))) c in')) in
    any_has s.joined c (and_parts (has s.joined c) (not (has s.left c)) (filter_in (is_present s) (range_with_len 0 (length o.table.ids)) c there).1).0

named_published : (o : Opening) (s : State) → IsOpening o → Named s.joined s.published → Named s.joined (s.published ++ what_is_left o s ∷ [])
named_published o s ok named i in' c has' = elim (Contains-append_cases s.published (what_is_left o s ∷ []) i in') [
  | inl old ↦ named i old c has'
  | inr new ↦ elim (first_or_tail (what_is_left o s) [] i new) [
    | inl e ↦ subst (λ (i : Instance). Contains (the_order i) c → Contains s.joined c) e (λ in''. order_in_coflows o s c ok in'') has'
    | inr none ↦ absurd (nothing_in i none)
  ]
]

closed_named : (o : Opening) (s : State) (r : Option Run) → Named s.joined s.published → Named (closed o s r).joined (closed o s r).published
closed_named o s None h = h
closed_named o s (Some r) h = h

step_named : (o : Opening) (s : State) (k : Command) (reply : Reply) → IsOpening o → Named s.joined s.published → Named (after o s k reply).joined (after o s k reply).published
step_named o s k Joined ok h = named_more s.joined (coflow_named k ∷ []) s.published h
step_named o s k (Version v) ok h = named_published o s ok h
step_named o s k (Closed slot) ok h = closed_named o s s.run h
step_named o s k reply ok h = h

pub all_named : (o : Opening) (s : State) (journal : List Entry) → IsOpening o → Named s.joined s.published →
    Named (state_from o s journal).joined (state_from o s journal).published
all_named o s [] ok h = h
all_named o s (e ∷ es) ok h = all_named o (after o s e.command e.reply) es ok (step_named o s e.command e.reply ok h)

in_orders : (ps : List Instance) (k c : ℕ) → Contains (get_or (map the_order ps) k []) c → (i : Instance) × Contains ps i × Contains (the_order i) c
in_orders [] k c in' = absurd (nothing_in c in')
in_orders (i ∷ is) zero c in' = (i, in_first i is, in')
in_orders (i ∷ is) (suc k) c in' = let (j, there, has') = in_orders is k c in' in (j, in_tail i is j there, has')

in_newest : (ps : List Instance) (n c : ℕ) → Contains (get_or ([] ∷ map the_order ps) n []) c → (i : Instance) × Contains ps i × Contains (the_order i) c
in_newest ps zero c in' = absurd (nothing_in c in')
in_newest ps (suc k) c in' = in_orders ps k c in'

same_bool : (a b : Bool) → (a ≡ true → b ≡ true) → (b ≡ true → a ≡ true) → a ≡ b
same_bool true true f g = refl
same_bool true false f g = absurd (true≢false (sym (f refl)))
same_bool false true f g = absurd (true≢false (sym (g refl)))
same_bool false false f g = refl

pub line_members : (s : State) → ((c : ℕ) → Contains (newest s) c → has s.joined c ≡ true) → (c : ℕ) → has (line s) c ≡ is_present s c
line_members s named c =
    let stays = λ (x : ℕ). not (has s.left x) in
    let waits = λ (x : ℕ). not (has (newest s) x) && not (has s.left x) in
    same_bool (has (line s) c) (is_present s c)
    (λ e. elim (Contains-append_cases (filter stays (newest s)) (filter waits s.joined) c (any_has (line s) c e)) [
      | inl h ↦
          let (in', stayed) = filter_in stays (newest s) c h in
          and_from (has s.joined c) (not (has s.left c)) (named c in') stayed
      | inr h ↦
          let (in', waited) = filter_in waits s.joined c h in
          and_from (has s.joined c) (not (has s.left c)) (any_in s.joined c in') (and_parts (not (has (newest s) c)) (not (has s.left c)) waited).1
    ])
    (λ e. let (joined, stayed) = and_parts (has s.joined c) (not (has s.left c)) e in
    any_in (line s) c (elim (cases_Bool (has (newest s) c)) [
      | inl t ↦ Contains-append_left (filter stays (newest s)) (filter waits s.joined) c (keeps stays (newest s) c (any_has (newest s) c t) stayed)
      | inr f ↦ Contains-append_right (filter stays (newest s)) (filter waits s.joined) c
          (keeps waits s.joined c (any_has s.joined c joined) (and_from (not (has (newest s) c)) (not (has s.left c)) (ap not f) stayed))
    ]))

pub line_present : (o : Opening) (journal : List Entry) → IsOpening o → (c : ℕ) → has (line_of o journal) c ≡ is_present (state_of o journal) c
line_present o journal ok c =
    let s = state_of o journal in
    let named = all_named o (start o) journal ok (λ i in' c has'. absurd (nothing_in i in')) in
    line_members s (λ x in'. let (i, there, has') = in_newest s.published (version s) x in' in any_in s.joined x (named i there x has')) c
