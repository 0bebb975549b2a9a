-- The ranker is told the news.
use Rattle.std.proofs.Common.{◌≡◌, ℕ, ◌<◌, Bool, false, List, [], ◌∷◌, length, Contains, refl, sym, ap, subst, ◌∙◌}
use Rattle.std.specs.Prelude.{◌==◌, ◌&&◌, ◌||◌, if◌then◌else◌, filter, map, not, slice_index}
use Rattle.std.specs.List.{range_with_len}
use Rattle.coflow_units.specs.Completion.{completion}
use Rattle.coflow_units.proofs.Lists.{filter_in, filter_same}
use Rattle.coflow_units.proofs.Ranges.{in_range}
use Rattle.coflow_units.proofs.Sums.{in_first, in_tail}
use Rattle.epochs.specs.Course.{is_marked}
use Rattle.rankers.specs.ByKey.{by_key, key_in}
use Rattle.rankers.specs.Meaning.{Meaning, after_notes}
use Rattle.rankers.proofs.KeyOrders.{by_key_low, keys_agree}
use Rattle.rankers.proofs.Noted.{ends_agree}
use Rattle.replays.specs.declared.kept.Kept.{Kept}
use Rattle.replays.specs.Kept.{Tells, is_untold}
use Rattle.replays.specs.Moments.{Input, Moment, asked_at, is_news, news, owes, told_at}
use Rattle.replays.proofs.Telling.{owes_is}

map_same : {Y : Type 0} (f g : ℕ → Y) (xs : List ℕ) → ((x : ℕ) → Contains xs x → f x ≡ g x) → map f xs ≡ map g xs
map_same f g [] same = refl
map_same f g (x ∷ xs) same = ap (λ y. y ∷ map f xs) (same x (in_first x xs)) ∙ ap (λ ys. g x ∷ ys) (map_same f g xs (λ y has. same y (in_tail x xs y has)))

-- what is kept tells who is news
untold_is : (x : Input) (m : Moment) (kept : Kept) (c : ℕ) → Tells x m kept → c < length x.table.ids → is_untold kept.marks kept.progress c ≡ is_news x m c
untold_is x m kept c t lt =
    let owed = owes_is x m kept.progress c t.progress (subst (λ n. c < n) (sym t.each.owed) lt) in
    let old = kept.marks in
    ap (λ l. is_marked l c && (slice_index kept.progress.owed.items c == 0) && not (is_marked old.told.items c)) t.marks.joined_are ∙
    ap (λ n. is_marked m.course.registered c && (n == 0) && not (is_marked old.told.items c)) owed ∙
    ap (λ l. is_marked m.course.registered c && (owes x m c == 0) && not (is_marked l c)) t.marks.told_are

-- the notes are those of the news
notes_are : (x : Input) (m : Moment) (kept : Kept) (before : Meaning) → Tells x m kept →
    after_notes before (key_in kept.progress.ends.items)
    (filter (is_untold kept.marks kept.progress) (by_key (key_in kept.progress.ends.items) (length x.table.ids))) ≡ after_notes before (completion x.table.flows m.slots) (news x m)
notes_are x m kept before t =
    let n = length x.table.ids in
    let end = completion x.table.flows m.slots in
    let key = key_in kept.progress.ends.items in
    let at = λ (c : ℕ) (lt : c < n). t.progress.ends_are c lt in
    let order = keys_agree key end n at in
    let low = λ (c : ℕ) (has : Contains (by_key end n) c). by_key_low end n c has in
    ap (λ l. after_notes before key (filter (is_untold kept.marks kept.progress) l)) order ∙
    ap (after_notes before key) (filter_same (is_untold kept.marks kept.progress) (is_news x m) (by_key end n) (λ c has. untold_is x m kept c t (low c has))) ∙
    ends_agree before key end (news x m) (λ c has. at c (low c (filter_in (is_news x m) (by_key end n) c has).0))

pub asked_is : (x : Input) (m : Moment) (kept : Kept) (n : ℕ) (before later : Meaning) → Tells x m kept → m.ranker ≡ before →
    (m.course.published == 0) ≡ false → n ≡ length x.table.ids →
    later ≡ after_notes before (key_in kept.progress.ends.items) (filter (is_untold kept.marks kept.progress) (by_key (key_in kept.progress.ends.items) n)) → later ≡ asked_at x m
asked_is x m kept n before later t is some count notes =
    notes ∙ ap (λ k. after_notes before (key_in kept.progress.ends.items) (filter (is_untold kept.marks kept.progress) (by_key (key_in kept.progress.ends.items) k))) count ∙
    notes_are x m kept before t ∙ ap (λ r. after_notes r (completion x.table.flows m.slots) (news x m)) (sym is) ∙
    ap (λ (b : Bool). if b then m.ranker else after_notes m.ranker (completion x.table.flows m.slots) (news x m)) (sym some)

pub told_is : (x : Input) (m : Moment) (kept : Kept) (n : ℕ) (told : List Bool) → Tells x m kept → (m.course.published == 0) ≡ false → n ≡ length x.table.ids →
    told ≡ map (λ c. is_marked kept.marks.told.items c || is_untold kept.marks kept.progress c) (range_with_len 0 n) → told ≡ told_at x m
told_is x m kept n told t some count is =
    let all = range_with_len 0 (length x.table.ids) in
    is ∙ ap (λ k. map (λ c. is_marked kept.marks.told.items c || is_untold kept.marks kept.progress c) (range_with_len 0 k)) count ∙
    map_same (λ c. is_marked kept.marks.told.items c || is_untold kept.marks kept.progress c) (λ c. is_marked m.told c || is_news x m c) all
    (λ c has. ap (λ l. is_marked l c || is_untold kept.marks kept.progress c) t.marks.told_are ∙
    ap (λ b. is_marked m.told c || b) (untold_is x m kept c t (in_range (length x.table.ids) c has))) ∙
    ap (λ (b : Bool). if b then m.told else map (λ c. is_marked m.told c || is_news x m c) all) (sym some)
