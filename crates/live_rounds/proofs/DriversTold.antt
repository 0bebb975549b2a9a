-- The driver's openings go on.
use Rattle.std.proofs.Common.{◌≡◌, ℕ, ◌+◌, ◌≤◌, length, length-append, List, [], ◌∷◌, ◌++◌, map, refl, sym, ap, ◌∙◌, arith, ⊎_elim, append-nil, flat_map}
use Rattle.std.specs.Prelude.{true, All}
use Rattle.std.proofs.lemmas.Grind.{flat_map-append}
use Rattle.std.proofs.lemmas.List.Elements.{All-nil, All-push}
use Rattle.journal.specs.declared.command.Command.TheVariants.{Open}
use Rattle.journal.specs.declared.command.Entry.{Entry}
use Rattle.journal.specs.declared.command.Reply.TheVariants.{NothingLeft}
use Rattle.journal.specs.declared.opening.Opening.{Opening}
use Rattle.journal.specs.Journal.{entry, IsLegal}
use Rattle.journal.specs.Driven.{closed_in, closing, Drive, IsDriven, is_other, IsSentWhole, opened_in, opening}
use Rattle.journal.proofs.OwnEntries.{own_close}
use Rattle.client_session.specs.Drivers.{GrownByOthers}
use Rattle.client_session.specs.Own.{OwnEntry}
use Rattle.client_session.proofs.OwnSteps.{own_same}
use Rattle.live_model.specs.Levels.{IsSpellBetween, Levels, spell_driven, spell_for_nothing}
use Rattle.live_model.specs.Rounds.{FitsAnswer, Spell, spell_entries}
use Rattle.live_model.proofs.DriverSteps.{driven_is_spell, nothing_is_spell}
use Rattle.live_model.proofs.OwnStands.{own_have}
use Rattle.live_rounds.specs.Drivers.{AreOpenings}

spell_more : (most : ℕ) (spells : List Spell) (s : Spell) → flat_map (spell_entries most) (spells ++ s ∷ []) ≡ flat_map (spell_entries most) spells ++ spell_entries most s
spell_more most spells s =
    flat_map-append (spell_entries most) spells (s ∷ []) ∙ ap (λ l. flat_map (spell_entries most) spells ++ l) (append-nil (spell_entries most s))

abbrev Fits : Spell → Type 0
Fits s = FitsAnswer s.answer s.closed

pub none_opened : (most : ℕ) → AreOpenings most [] []
none_opened most = record { entries = refl; answers = All-nil Fits }

pub run_opened : (o : Opening) (round most : ℕ) (before after : List Entry) (d : Drive) (spells : List Spell) → IsLegal o after → IsDriven o before after d → IsSentWhole o
    before d → d.most ≡ most →
    AreOpenings most before spells → AreOpenings most after (spells ++ spell_driven round before d ∷ [])
run_opened o round most before after d spells legal h whole same i =
    let s = spell_driven round before d in
    let others : All (λ (e : Entry). is_other e ≡ true) d.between =
    λ k e lt. ⊎_elim (λ other. other) (λ short. absurd (omega (arith, short.4, whole short.0 short.1))) (h.under_way.between k e lt) in
    record {
      entries = driven_is_spell o round before after d h others ∙ (ap (λ l. l ++ spell_entries d.most s) i.entries
          ∙ (ap (λ m. flat_map (spell_entries most) spells ++ spell_entries m s) same ∙ sym (spell_more most spells s)));
      answers = All-push Fits spells s i.answers (d.first, d.slots, d.count, refl, ap (λ (e : Entry). e.reply) (own_close o before after d legal h));
    }

pub nothing_opened : (round most : ℕ) (before earlier : List Entry) (spells : List Spell) → All (λ (e : Entry). is_other e ≡ true) earlier → AreOpenings most before spells →
    AreOpenings most (before ++ earlier ++ entry 0 (Open most) NothingLeft ∷ []) (spells ++ spell_for_nothing round before earlier ∷ [])
nothing_opened round most before earlier spells others i =
    let s = spell_for_nothing round before earlier in
    record {
      entries = nothing_is_spell round most before earlier others ∙ (ap (λ l. l ++ spell_entries most s) i.entries ∙ sym (spell_more most spells s));
      answers = All-push Fits spells s i.answers refl;
    }

pub others_open_none : (most : ℕ) (before after : List Entry) (spells : List Spell) → GrownByOthers before after → AreOpenings most before spells → AreOpenings most after spells
others_open_none most before after spells grown i = record {
  entries = (own_have after 0).entries ∙ (ap (λ l. map (λ (e : OwnEntry). (e.position, entry 0 e.command e.reply)) l) (own_same 0 after before grown)
      ∙ (sym (own_have before 0).entries ∙ i.entries));
  answers = i.answers;
}

-- ---- openings between levels

pub run_lies_between : (o : Opening) (levels : Levels) (round : ℕ) (before after : List Entry) (d : Drive) → IsDriven o before after d → levels.position round ≤ length
    (opened_in before d) →
    length after ≤ levels.position (round + 1) → IsSpellBetween levels (spell_driven round before d)
run_lies_between o levels round before after d h low high =
    let whole = ap (λ (l : List Entry). length l) h.goes_on in
    let closed = length-append (closed_in before d) (closing d ∷ []) in
    let between = length-append (opened_in before d ++ opening d ∷ []) d.between in
    let opened = length-append (opened_in before d) (opening d ∷ []) in
    let earlier = length-append before d.earlier in
    record { above = omega (arith, low, earlier); within = omega (arith, high, whole, closed, between, opened, earlier) }

pub nothing_lies_between : (levels : Levels) (round : ℕ) (before earlier : List Entry) → levels.position round ≤ length (before ++ earlier) →
    length (before ++ earlier) + 1 ≤ levels.position (round + 1) → IsSpellBetween levels (spell_for_nothing round before earlier)
nothing_lies_between levels round before earlier low high =
    let long = length-append before earlier in
    record { above = omega (arith, low, long); within = omega (arith, high, long) }
