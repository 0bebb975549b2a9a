-- The lines of entries, one after the other.
use Rattle.std.proofs.Common.{◌≡◌, ℕ, ◌+◌, ◌<◌, true≢false, List, [], ◌∷◌, ◌++◌, length, map, take, get_or, sym, ap, subst, ◌∙◌, Option, Some, None}
use Rattle.std.specs.Prelude.{All}
use Rattle.std.specs.Option.{IsSome}
use Rattle.std.proofs.lemmas.List.{map-append, map_more}
use Rattle.journal.specs.declared.command.Entry.{Entry}
use Rattle.journal.specs.declared.opening.Opening.{Opening}
use Rattle.live_text.specs.declared.value.EntryLine.{EntryLine}
use Rattle.live_model.specs.Printed.{told_entry}

-- an entry that has words has a line
pub has_line : (o : Opening) (journal : List Entry) (i : ℕ) (d : Entry) (r : Option EntryLine) → All (λ (e : Entry). IsSome (told_entry o e)) journal → i < length journal →
    r ≡ told_entry o (get_or journal i d) → r ≡ None → ⊥
has_line o journal i d r words lt is none =
    let some : IsSome r = subst (λ (x : Option EntryLine). IsSome x) (sym is) (words i d lt) in
    true≢false (sym (subst (λ (x : Option EntryLine). IsSome x) none some))

-- one line more
pub line_more : (o : Opening) (journal : List Entry) (i : ℕ) (d : Entry) (line : EntryLine) (lines more : List EntryLine) → i < length journal →
    map (told_entry o) (take i journal) ≡ map Some lines → Some line ≡ told_entry o (get_or journal i d) → more ≡ lines ++ line ∷ [] →
    map (told_entry o) (take (i + 1) journal) ≡ map Some more
line_more o journal i d line lines more lt so_far is items =
    map_more (told_entry o) journal i d lt ∙ ((λ k. so_far k ++ sym is k ∷ []) ∙ (sym (map-append Some lines (line ∷ [])) ∙ ap (map Some) (sym items)))
