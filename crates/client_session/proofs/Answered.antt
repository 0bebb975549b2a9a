-- What a turn that was answered makes of what a session keeps.
use Rattle.std.proofs.Common.{◌≡◌, ℕ, ◌+◌, ◌<◌, ◌≤◌, true, List, [], ◌∷◌, ◌++◌, length, map, sym, ap, ◌∙◌, subst, arith, length-append}
use Rattle.std.specs.Prelude.{All, if◌then◌else◌}
use Rattle.std.proofs.lemmas.List.{map-append}
use Rattle.turnstile.specs.Histories.{GoesOn}
use Rattle.journal.specs.declared.command.Command.{Command}
use Rattle.journal.specs.declared.command.Entry.{Entry}
use Rattle.journal.specs.Journal.{entry, is_version, version_of}
use Rattle.journal.proofs.Growth.{version_append}
use Rattle.rank_board.specs.Models.{SeatModel}
use Rattle.client_session.specs.declared.receipt.Receipt.{Receipt}
use Rattle.client_session.specs.Own.{IsPass, look_version, own_entries, own_entry, OwnEntry, receipt_of, versions_in}
use Rattle.client_session.specs.Desk.{AddsEntry, MetAt}
use Rattle.client_session.proofs.OwnSteps.{own_more}
use Rattle.client_session.proofs.Passes.{pass_more}

abbrev who_of : Entry → ℕ
who_of e = e.who

module _ (number : ℕ) (journal seen after : List Entry) (k : Command) (r : Receipt) (goes : GoesOn who_of journal number seen) (adds : AddsEntry journal after number k r) where
  abbrev mine : OwnEntry
  mine = own_entry r.position r.version k r.reply

  pub own_answered : own_entries number after ≡ own_entries number seen ++ mine ∷ []
  own_answered = own_more number journal seen after k r.reply goes adds.journal ∙ (λ i. own_entries number seen ++ own_entry (sym adds.position i) (sym adds.version i) k
      r.reply ∷ [])

  counted : length after ≡ length journal + 1
  counted = ap (λ (l : List Entry). length l) adds.journal ∙ length-append journal (entry number k r.reply ∷ [])

  versions : r.version ≡ version_of journal + versions_in r.reply
  versions = omega (arith, adds.version, ap version_of adds.journal, version_append journal (entry number k r.reply ∷ []))

  pub later_answered : length seen < r.position
  later_answered = omega (arith, adds.position, counted, ap (λ (l : List Entry). length l) goes.1, length-append seen goes.0)

  pub receipts_answered : (receipts : List Receipt) → receipts ≡ map receipt_of (own_entries number seen) → receipts ++ r ∷ [] ≡ map receipt_of (own_entries number after)
  receipts_answered receipts was = ap (λ l. l ++ r ∷ []) was ∙ (sym (map-append receipt_of (own_entries number seen) (mine ∷ [])) ∙ ap (map receipt_of) (sym own_answered))

  module _ (old new : SeatModel) (met : MetAt journal after old new) where
    pub not_older_answered : old.seen ≤ r.version
    not_older_answered = omega (arith, versions, met.seen_before)

    pub newer_answered : is_version r.reply ≡ true → old.seen < r.version
    newer_answered e = omega (arith, versions, met.seen_before, ap {B = ℕ} (λ b. if b then 1 else 0) e)

    pub version_answered : new.seen ≡ r.version
    version_answered = met.seen ∙ sym adds.version

    pub looks_answered : All (λ look. look_version look ≤ r.version) new.looks
    looks_answered = subst (λ v. All (λ look. look_version look ≤ v) new.looks) (sym adds.version) met.looks

    pub pass_answered : new.pulls ≡ old.pulls → IsPass (own_entries number seen) old.pulls old.seen → IsPass (own_entries number after) new.pulls new.seen
    pass_answered same pass =
        let more = pass_more (own_entries number seen) old.pulls old.seen mine (omega (arith, versions, met.seen_before)) pass in
        subst (λ own. IsPass own new.pulls new.seen) (sym own_answered)
        (subst (λ pulls. IsPass (own_entries number seen ++ mine ∷ []) pulls new.seen) (sym same)
        (subst (λ v. IsPass (own_entries number seen ++ mine ∷ []) old.pulls v) (sym version_answered) more))
