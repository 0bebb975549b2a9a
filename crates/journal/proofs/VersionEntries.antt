-- Each version has its entry.
use Rattle.std.proofs.Common.{◌≡◌, ℕ, ◌+◌, ◌≤◌, ◌<◌, inl, inr, Bool, true, List, [], ◌∷◌, ◌++◌, get_or, length, refl, sym, ap, subst, ◌∙◌, arith, cond, append_assoc}
use Rattle.std.specs.Prelude.{if◌then◌else◌}
use Rattle.std.proofs.lemmas.Bool.{cases_eq, cases_lt, eq-eqb, ne_eqb}
use Rattle.std.proofs.lemmas.List.Sums.{sum_by_push}
use Rattle.journal.specs.declared.command.Command.{Command}
use Rattle.journal.specs.declared.command.Entry.{Entry}
use Rattle.journal.specs.declared.command.Reply.{Reply}
use Rattle.journal.specs.declared.command.Reply.TheVariants.{Version}
use Rattle.journal.specs.declared.opening.Opening.{Opening}
use Rattle.journal.specs.State.{State}
use Rattle.journal.specs.Fold.{state_of}
use Rattle.journal.specs.Journal.{is_version, IsLegal, version_of}
use Rattle.journal.proofs.Growth.{version_append, version_counted}
use Rattle.journal.specs.Entries.{TellsEntry}
use Rattle.journal.specs.Versions.{is_the_version, IsMade, times_made}
use Rattle.journal.proofs.Along.{along}
use Rattle.journal.proofs.Versions.{legal_there, version_is_next}

-- how often a version is made in a journal with this newest version
pub record IsCount (v newest times : ℕ) : Type 0 where
  pub once : 1 ≤ v → v ≤ newest → times ≡ 1
  pub zero : v ≡ 0 → times ≡ 0
  pub above : newest < v → times ≡ 0

abbrev one_if : Bool → ℕ
one_if b = if b then 1 else 0

count_step : (o : Opening) (s : State) (k : Command) (reply : Reply) (v newest times : ℕ) → length s.published ≡ newest → TellsEntry o s k reply → IsCount v newest times →
    IsCount v (newest + one_if (is_version reply)) (times + cond (is_the_version v reply) 1 0)
count_step o s k (Version w) v newest times at tells h = elim (cases_eq w v) [
  | inl same ↦
      let e = ap {B = ℕ} (λ b. cond b 1 0) (eq-eqb w v same) in
      record {
        once = λ some le. omega (arith, e, h.above (omega (arith, tells.2, at, same)));
        zero = λ none. absurd (omega (arith, tells.2, none, same));
        above = λ lt. absurd (omega (arith, tells.2, at, same, lt));
      }
  | inr other ↦
      let e = ap {B = ℕ} (λ b. cond b 1 0) (ne_eqb w v other) in
      record {
        once = λ some le. omega (arith, e, h.once some (omega (arith, other, tells.2, at, le)));
        zero = λ none. omega (arith, e, h.zero none);
        above = λ lt. omega (arith, e, h.above (omega (arith, lt)));
      }
]
count_step o s k reply v newest times at tells h =
    record { once = λ some le. omega (arith, h.once some (omega (arith, le))); zero = λ none. omega (arith, h.zero none); above = λ lt. omega (arith, h.above (omega (arith, lt))) }

pub counted : (o : Opening) (journal : List Entry) (v : ℕ) → IsLegal o journal → IsCount v (version_of journal) (times_made journal v)
counted o journal v legal =
    along o (λ j. IsCount v (version_of j) (times_made j v))
    (λ before e next h.
    let s = state_of o before in
    let step = count_step o s e.command e.reply v (version_of before) (times_made before v) (version_counted o before) next.tells h in
    let newest : version_of (before ++ e ∷ []) ≡ version_of before + one_if (is_version e.reply) = version_append before (e ∷ []) ∙ omega arith in
    subst (λ n. IsCount v n (times_made (before ++ e ∷ []) v)) (sym newest)
    (subst (IsCount v (version_of before + one_if (is_version e.reply))) (sym (sum_by_push (λ (e : Entry). cond {A = ℕ} (is_the_version v e.reply) 1 0) before e)) step))
    (record { once = λ some le. absurd (omega arith); zero = λ none. refl; above = λ lt. refl }) journal legal

-- ---- the entry

made_later : (before : List Entry) (e : Entry) (v : ℕ) → IsMade before v → IsMade (before ++ e ∷ []) v
made_later before e v h = record {
  before = h.before;
  entry = h.entry;
  more = h.more ++ e ∷ [];
  stands = ap (λ (l : List Entry). l ++ e ∷ []) h.stands ∙ append_assoc h.before (h.entry ∷ h.more) (e ∷ []);
  publishes = h.publishes;
  reply = h.reply;
  below = h.below;
}

newest_step : (o : Opening) (s : State) (before : List Entry) (e : Entry) (reply : Reply) (v : ℕ) → e.reply ≡ reply → length s.published ≡ version_of before →
    TellsEntry o s e.command reply →
    version_of before < v → v ≤ version_of before + one_if (is_version reply) → IsMade (before ++ e ∷ []) v
newest_step o s before e (Version w) v is at tells above le =
    let same : w ≡ v = omega (arith, tells.2, at, above, le) in
    record { before = before; entry = e; more = []; stands = refl; publishes = tells.0; reply = is ∙ ap Version same; below = omega (arith, above, le) }
newest_step o s before e reply v is at tells above le = absurd (omega (arith, above, le))

pub made : (o : Opening) (journal : List Entry) (v : ℕ) → IsLegal o journal → 1 ≤ v → v ≤ version_of journal → IsMade journal v
made o journal v legal some le =
    along o (λ j. v ≤ version_of j → IsMade j v)
    (λ before e next h le. elim (cases_lt (version_of before) v) [
      | inl lt ↦ newest_step o (state_of o before) before e e.reply v refl (version_counted o before) next.tells lt (omega (arith, le, version_append before (e ∷ [])))
      | inr ge ↦ made_later before e v (h ge)
    ]) (λ le. absurd (omega (arith, some, le))) journal legal le

-- ---- no other entry

abbrev rest_of : List Entry → List Entry
rest_of [] = []
rest_of (e ∷ es) = es

-- two places of a journal, after equally many versions, at entries that are answered with one, are the same place
same_place : (a b c d : List Entry) (e f : Entry) → a ++ (e ∷ b) ≡ c ++ (f ∷ d) → version_of a ≡ version_of c → is_version e.reply ≡ true → is_version f.reply ≡ true →
    (a ≡ c) × (e ≡ f) × (b ≡ d)
same_place [] b [] d e f is n ve vf = (refl, ap (λ l. get_or l 0 e) is, ap rest_of is)
same_place [] b (x ∷ c) d e f is n ve vf =
    let here : e ≡ x = ap (λ l. get_or l 0 e) is in
    absurd (omega (arith, n, ap {B = ℕ} (λ b. cond b 1 0) (ap (λ (y : Entry). is_version y.reply) (sym here) ∙ ve)))
same_place (x ∷ a) b [] d e f is n ve vf =
    let here : x ≡ f = ap (λ l. get_or l 0 f) is in
    absurd (omega (arith, n, ap {B = ℕ} (λ b. cond b 1 0) (ap (λ (y : Entry). is_version y.reply) here ∙ vf)))
same_place (x ∷ a) b (y ∷ c) d e f is n ve vf =
    let here : x ≡ y = ap (λ l. get_or l 0 e) is in
    let (front, at, later) = same_place a b c d e f (ap rest_of is) (omega (arith, n, ap {B = ℕ} (λ (z : Entry). cond (is_version z.reply) 1 0) here)) ve vf in
    (ap (λ z. z ∷ a) here ∙ ap (λ l. y ∷ l) front, at, later)

pub only : (o : Opening) (before more : List Entry) (e : Entry) (v : ℕ) → IsLegal o (before ++ (e ∷ more)) → e.reply ≡ Version v → (x : IsMade (before ++ (e ∷ more)) v) →
    (x.before ≡ before) × (x.entry ≡ e) × (x.more ≡ more)
only o before more e v legal tells x =
    let number = version_is_next o before e.command v (sym (legal_there o before more e legal).0 ∙ tells) in
    same_place x.before x.more before more x.entry e (sym x.stands) (omega (arith, x.below, number)) (ap is_version x.reply) (ap is_version tells)
