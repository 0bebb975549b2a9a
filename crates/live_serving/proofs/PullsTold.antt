-- The pulls of a client, once the hall is closed.
use Rattle.std.proofs.Common.{◌≡◌, ℕ, ◌==◌, inl, inr, Bool, true, false, true≢false, cond, List, [], ◌∷◌, ◌++◌, map, filter, refl, sym, ap, subst, ◌∙◌, arith}
use Rattle.std.specs.Prelude.{All, if◌then◌else◌}
use Rattle.std.proofs.lemmas.Bool.{cases_lt, eqb-true}
use Rattle.std.proofs.lemmas.List.Elements.{All-cons, All-head, All-nil, All-tail}
use Rattle.journal.specs.declared.command.Command.TheVariants.{Pull as PullCommand}
use Rattle.journal.specs.declared.command.Entry.{Entry}
use Rattle.journal.specs.declared.command.Reply.TheVariants.{Rank, Unranked}
use Rattle.journal.specs.declared.opening.Opening.{Opening}
use Rattle.journal.specs.Answer.{pulled}
use Rattle.journal.specs.Journal.{entry, IsLegal, rank_of, version_of}
use Rattle.journal.proofs.Growth.{rank_kept}
use Rattle.workload.specs.declared.script.Asked.{Asked}
use Rattle.workload.specs.declared.script.Asked.TheVariants.{Pull, Publish, Register, Reweigh, Withdraw}
use Rattle.workload.specs.declared.script.Script.{Script}
use Rattle.client_session.specs.Closes.{IsTrueNote, StandsAt}
use Rattle.client_session.specs.Own.{OwnEntry}
use Rattle.live_model.specs.Deeds.{Deed}
use Rattle.live_model.specs.Levels.{Levels}
use Rattle.live_model.specs.Printed.{told_pull, told_pulls}
use Rattle.live_model.specs.Script.{command_of, coflow_pulled, is_pull}
use Rattle.live_model.proofs.Given.{pull_is_answered}
use Rattle.live_rounds.specs.Acts.{Act, entered, entries_at, entries_in, FitsLine, noted, notes_at, notes_in, Outcome, pull_done, pulls_in, rank_at, rank_in, version_at}
use Rattle.live_rounds.specs.Clients.{AreClients, IsClient}
use Rattle.live_rounds.specs.Told.{acts_of, deed_of, deeds_of}
use Rattle.live_serving.specs.Ends.{pull_line}

-- the reply to a pull tells the rank
rank_told : (v r : ℕ) → rank_in (pulled v r) ≡ r
rank_told v r = go (r == 0) refl
  where
    go : (b : Bool) → (r == 0) ≡ b → rank_in (if b then Unranked v else Rank v r) ≡ r
    go true e = sym (eqb-true r 0 e)
    go false e = refl

-- what the outcome's entry or note is known by
abbrev IsKnown : Opening → List Entry → ℕ → List OwnEntry → Outcome → Type 0
IsKnown o journal number own (entered e) = StandsAt journal number e
IsKnown o journal number own (noted n) = IsTrueNote o journal own n

command_is : (asked : Asked) → is_pull asked ≡ true → command_of asked ≡ PullCommand (coflow_pulled asked)
command_is (Pull c) is = refl
command_is (Register c) is = absurd (true≢false (sym is))
command_is (Withdraw c) is = absurd (true≢false (sym is))
command_is Publish is = absurd (true≢false (sym is))
command_is (Reweigh c w) is = absurd (true≢false (sym is))

rank_is : (o : Opening) (journal : List Entry) (number : ℕ) (own : List OwnEntry) (asked : Asked) (x : Outcome) → IsLegal o journal → is_pull asked ≡ true →
    FitsLine asked x → IsKnown o journal number own x → rank_at x ≡ rank_of o journal (version_at x) (coflow_pulled asked)
rank_is o journal number own asked (entered e) legal pull fits known =
    let before = known.before in
    let more = known.more in
    let c = coflow_pulled asked in
    let k = entry number e.command e.reply in
    let v = version_of before in
    let command : k.command ≡ PullCommand c = fits.0 ∙ command_is asked pull in
    let told = pull_is_answered o before more k c (subst (IsLegal o) known.stands legal) command in
    let rank : rank_in e.reply ≡ rank_of o before v c = ap rank_in told.reply ∙ rank_told v (rank_of o before v c) in
    let version : e.version ≡ v = known.version ∙ told.newest in
    rank ∙ sym (rank_kept o before (k ∷ more) v c (omega arith)) ∙ (λ i. rank_of o (sym known.stands i) (sym version i) c)
rank_is o journal number own asked (noted n) legal pull fits known = known.rank ∙ ap (λ c. rank_of o journal n.version c) (sym (ap coflow_pulled fits))

left_part : {X : Type 0} (P : X → Type 0) (xs ys : List X) → All P (xs ++ ys) → All P xs
left_part P [] ys all = All-nil P
left_part P (x ∷ xs) ys all = All-cons P x xs (All-head P x (xs ++ ys) all) (left_part P xs ys (All-tail P x (xs ++ ys) all))

right_part : {X : Type 0} (P : X → Type 0) (xs ys : List X) → All P (xs ++ ys) → All P ys
right_part P [] ys all = all
right_part P (x ∷ xs) ys all = right_part P xs ys (All-tail P x (xs ++ ys) all)

known_one : (o : Opening) (journal : List Entry) (number : ℕ) (own : List OwnEntry) (x : Outcome) → All (StandsAt journal number) (entries_at x) →
    All (IsTrueNote o journal own) (notes_at x) → IsKnown o journal number own x
known_one o journal number own (entered e) entries notes = All-head (StandsAt journal number) e [] entries
known_one o journal number own (noted n) entries notes = All-head (IsTrueNote o journal own) n [] notes

abbrev Fits : Act → Type 0
Fits a = FitsLine a.line.asked a.outcome

pulls_here : (o : Opening) (journal : List Entry) (n : ℕ) (a : Act) (rest : List Act) (told : List Deed) (b : Bool) →
    (b ≡ true → pull_line o.table.ids (pull_done a) ≡ told_pull o journal (deed_of n a)) →
    map (pull_line o.table.ids) (map pull_done rest) ≡ map (told_pull o journal) told →
    map (pull_line o.table.ids) (map pull_done (cond b (a ∷ rest) rest)) ≡ map (told_pull o journal) (cond b (deed_of n a ∷ told) told)
pulls_here o journal n a rest told true one more = λ i. one refl i ∷ more i
pulls_here o journal n a rest told false one more = more

pulls_are : (o : Opening) (journal : List Entry) (number : ℕ) (own : List OwnEntry) (told : List (ℕ × Act)) → IsLegal o journal → All Fits (acts_of told) →
    All (StandsAt journal number) (entries_in (acts_of told)) → All (IsTrueNote o journal own) (notes_in (acts_of told)) →
    map (pull_line o.table.ids) (pulls_in (acts_of told)) ≡ told_pulls o journal (deeds_of told)
pulls_are o journal number own [] legal fits entries notes = refl
pulls_are o journal number own (x ∷ told) legal fits entries notes =
    let a = x.1 in
    let S = StandsAt journal number in
    let N = IsTrueNote o journal own in
    let known = known_one o journal number own a.outcome (left_part S (entries_at a.outcome) (entries_in (acts_of told)) entries)
    (left_part N (notes_at a.outcome) (notes_in (acts_of told)) notes) in
    let one : is_pull a.line.asked ≡ true → pull_line o.table.ids (pull_done a) ≡ told_pull o journal (deed_of x.0 a) = λ pull.
    let rank = rank_is o journal number own a.line.asked a.outcome legal pull (All-head Fits a (acts_of told) fits) known in
    ap (λ r. pull_line o.table.ids (record (pull_done a) { rank = r })) rank in
    pulls_here o journal x.0 a (filter (λ (b : Act). is_pull b.line.asked) (acts_of told)) (filter (λ (d : Deed). is_pull d.line.asked) (deeds_of told)) (is_pull a.line.asked) one
    (pulls_are o journal number own told legal (All-tail Fits a (acts_of told) fits) (right_part S (entries_at a.outcome) (entries_in (acts_of told)) entries)
    (right_part N (notes_at a.outcome) (notes_in (acts_of told)) notes))

one_client : (o : Opening) (journal : List Entry) (script : Script) (levels : Levels) (k : ℕ) (told : List (ℕ × Act)) → IsClient o journal script levels k told →
    IsLegal o journal → map (pull_line o.table.ids) (pulls_in (acts_of told)) ≡ told_pulls o journal (deeds_of told)
one_client o journal script levels k told c legal =
    let acts = acts_of told in
    let own : c.last.own ≡ entries_in acts = c.acted.own ∙ ap (λ l. l ++ entries_in acts) c.new.own in
    let notes : c.last.rank.pulls ≡ notes_in acts = c.acted.notes ∙ ap (λ l. l ++ notes_in acts) c.new.notes in
    pulls_are o journal c.last.number c.last.own told legal c.acted.fits (subst (All (StandsAt journal c.last.number)) own c.ended.stands)
    (subst (All (IsTrueNote o journal c.last.own)) notes c.ended.notes)

nobody_pulls : (o : Opening) (journal : List Entry) (told : List (ℕ × Act)) → told ≡ [] →
    map (pull_line o.table.ids) (pulls_in (acts_of told)) ≡ told_pulls o journal (deeds_of told)
nobody_pulls o journal told none =
    subst (λ (t : List (ℕ × Act)). map (pull_line o.table.ids) (pulls_in (acts_of t)) ≡ told_pulls o journal (deeds_of t)) (sym none) refl

pub client_pulls : (o : Opening) (journal : List Entry) (script : Script) (levels : Levels) (clients : ℕ) (told : ℕ → List (ℕ × Act)) →
    AreClients o journal script levels clients told → IsLegal o journal → (k : ℕ) →
    map (pull_line o.table.ids) (pulls_in (acts_of (told k))) ≡ told_pulls o journal (deeds_of (told k))
client_pulls o journal script levels clients told h legal k = elim (cases_lt clients k) [
  | inl far ↦ nobody_pulls o journal (told k) (h.no_further k far).none_told
  | inr near ↦ elim (cases_lt 0 k) [
    | inl some ↦ one_client o journal script levels k (told k) (h.client k (omega (arith, some)) (omega (arith, near))) legal
    | inr none ↦ let e : 0 ≡ k = omega (arith, none) in nobody_pulls o journal (told k) (subst (λ j. told j ≡ []) e h.nobody.none_told)
  ]
]
