-- The words of a command and of its reply, read part by part.
use Rattle.std.proofs.Common.{◌≡◌, inl, inr, ℕ, ◌-◌, ◌<◌, ◌≤◌, ◌^◌, List, ◌++◌, get_or, refl, sym, ap, subst, ◌∙◌, arith}
use Rattle.std.specs.Prelude.{codes}
use Rattle.report_text.specs.Readers.{Stops}
use Rattle.coflow_units.specs.Text.{spaced}
use Rattle.live_text.specs.declared.value.Said.{Said}
use Rattle.live_text.specs.declared.value.Word.{Word}
use Rattle.live_text.specs.declared.value.Word.TheVariants.{Register, Withdraw, Pull, Open, Reweigh}
use Rattle.live_text.specs.Live.{IsAnswerOf, IsLong, IsSmall, IsWeight, IsWord}
use Rattle.live_text.specs.Text.{command_words, mark, reply_words}
use Rattle.live_text.proofs.FieldText.{field_unique, one_front, two_front}
use Rattle.live_text.proofs.Words.{command_by, command_is, numbers_in, reply_stops}

-- a command of one number and its reply
pub one_deal : (word bytes rest reply : List ℕ) (n : ℕ) → bytes ≡ word ++ (spaced n ++ rest) → rest ≡ reply → bytes ≡ (word ++ spaced n) ++ reply
one_deal word bytes rest reply n e r = e ∙ (ap (λ x. word ++ (spaced n ++ x)) r ∙ sym (one_front word reply n))

pub two_deal : (word bytes rest behind reply : List ℕ) (m n : ℕ) → bytes ≡ word ++ (spaced m ++ rest) → rest ≡ spaced n ++ behind → behind ≡ reply →
    bytes ≡ (word ++ spaced m ++ spaced n) ++ reply
two_deal word bytes rest behind reply m n e f r =
    e ∙ (ap (λ x. word ++ (spaced m ++ x)) (f ∙ ap (λ x. spaced n ++ x) r) ∙ sym (two_front word reply m n))

-- behind the number of a command its reply stands
behind_number : (word bytes rest reply : List ℕ) (m n : ℕ) → m < 2 ^ 128 → n < 2 ^ 128 → Stops rest → Stops reply → bytes ≡ word ++ (spaced m ++ rest) →
    bytes ≡ (word ++ spaced n) ++ reply → rest ≡ reply
behind_number word bytes rest reply m n hm hn stops reply_stop f e = (field_unique word bytes rest reply m n hm hn stops reply_stop f (e ∙ one_front word reply n)).1

pub register_second : (bytes rest : List ℕ) (m : ℕ) → mark bytes ≡ 103 → m < 2 ^ 64 → Stops rest → bytes ≡ codes " register" ++ (spaced m ++ rest) →
    ((n : ℕ) (s : Said) → IsAnswerOf (Register n) s → rest ≡ reply_words s → ⊥) → (w : Word) (s : Said) → IsWord w → IsAnswerOf w s →
    bytes ≡ command_words w ++ reply_words s → ⊥
register_second bytes rest m at few stops f none w s fits answers e =
    go (get_or (numbers_in w) 0 0) (command_is w bytes (reply_words s) e ∙ ap (λ k. command_by k (numbers_in w)) at)
  where
    go : (n : ℕ) → w ≡ Register n → ⊥
    go n is =
        let small : IsSmall n = subst IsWord is fits in
        none n s (subst (λ v. IsAnswerOf v s) is answers)
        (behind_number (codes " register") bytes rest (reply_words s) m n (omega (arith, few)) (omega (arith, small)) stops (reply_stops s) f
        (e ∙ ap (λ v. command_words v ++ reply_words s) is))

pub withdraw_second : (bytes rest : List ℕ) (m : ℕ) → mark bytes ≡ 116 → m < 2 ^ 64 → Stops rest → bytes ≡ codes " withdraw" ++ (spaced m ++ rest) →
    ((n : ℕ) (s : Said) → IsAnswerOf (Withdraw n) s → rest ≡ reply_words s → ⊥) → (w : Word) (s : Said) → IsWord w → IsAnswerOf w s →
    bytes ≡ command_words w ++ reply_words s → ⊥
withdraw_second bytes rest m at few stops f none w s fits answers e =
    go (get_or (numbers_in w) 0 0) (command_is w bytes (reply_words s) e ∙ ap (λ k. command_by k (numbers_in w)) at)
  where
    go : (n : ℕ) → w ≡ Withdraw n → ⊥
    go n is =
        let small : IsSmall n = subst IsWord is fits in
        none n s (subst (λ v. IsAnswerOf v s) is answers)
        (behind_number (codes " withdraw") bytes rest (reply_words s) m n (omega (arith, few)) (omega (arith, small)) stops (reply_stops s) f
        (e ∙ ap (λ v. command_words v ++ reply_words s) is))

pub pull_second : (bytes rest : List ℕ) (m : ℕ) → mark bytes ≡ 108 → m < 2 ^ 64 → Stops rest → bytes ≡ codes " pull" ++ (spaced m ++ rest) →
    ((n : ℕ) (s : Said) → IsAnswerOf (Pull n) s → rest ≡ reply_words s → ⊥) → (w : Word) (s : Said) → IsWord w → IsAnswerOf w s →
    bytes ≡ command_words w ++ reply_words s → ⊥
pull_second bytes rest m at few stops f none w s fits answers e = go (get_or (numbers_in w) 0 0) (command_is w bytes (reply_words s) e ∙ ap (λ k. command_by k (numbers_in w)) at)
  where
    go : (n : ℕ) → w ≡ Pull n → ⊥
    go n is =
        let small : IsSmall n = subst IsWord is fits in
        none n s (subst (λ v. IsAnswerOf v s) is answers)
        (behind_number (codes " pull") bytes rest (reply_words s) m n (omega (arith, few)) (omega (arith, small)) stops (reply_stops s) f
        (e ∙ ap (λ v. command_words v ++ reply_words s) is))

pub open_second : (bytes rest : List ℕ) (m : ℕ) → mark bytes ≡ 101 → m < 2 ^ 64 → Stops rest → bytes ≡ codes " open" ++ (spaced m ++ rest) →
    ((n : ℕ) (s : Said) → IsAnswerOf (Open n) s → rest ≡ reply_words s → ⊥) → (w : Word) (s : Said) → IsWord w → IsAnswerOf w s →
    bytes ≡ command_words w ++ reply_words s → ⊥
open_second bytes rest m at few stops f none w s fits answers e = go (get_or (numbers_in w) 0 0) (command_is w bytes (reply_words s) e ∙ ap (λ k. command_by k (numbers_in w)) at)
  where
    go : (n : ℕ) → w ≡ Open n → ⊥
    go n is =
        let small : (1 ≤ n) × IsLong n = subst IsWord is fits in
        none n s (subst (λ v. IsAnswerOf v s) is answers)
        (behind_number (codes " open") bytes rest (reply_words s) m n (omega (arith, few)) (omega (arith, small.1)) stops (reply_stops s) f
        (e ∙ ap (λ v. command_words v ++ reply_words s) is))

-- a reweighing has two numbers
reweigh_rest : (bytes rest : List ℕ) (m : ℕ) → mark bytes ≡ 119 → m < 2 ^ 64 → Stops rest → bytes ≡ codes " reweigh" ++ (spaced m ++ rest) → (w : Word) (s : Said) → IsWord w →
    bytes ≡ command_words w ++ reply_words s → (id : ℕ) × (weight : ℕ) × (w ≡ Reweigh id weight) × IsWeight weight × (rest ≡ spaced weight ++ reply_words s)
reweigh_rest bytes rest m at few stops f w s fits e =
    go (get_or (numbers_in w) 0 0) (get_or (numbers_in w) 1 0) (command_is w bytes (reply_words s) e ∙ ap (λ k. command_by k (numbers_in w)) at)
  where
    go : (id weight : ℕ) → w ≡ Reweigh id weight → (i : ℕ) × (x : ℕ) × (w ≡ Reweigh i x) × IsWeight x × (rest ≡ spaced x ++ reply_words s)
    go id weight is =
        let small : IsSmall id × IsWeight weight = subst IsWord is fits in
        let here : bytes ≡ codes " reweigh" ++ (spaced id ++ (spaced weight ++ reply_words s)) =
        e ∙ (ap (λ v. command_words v ++ reply_words s) is ∙ two_front (codes " reweigh") (reply_words s) id weight) in
        let same = field_unique (codes " reweigh") bytes rest (spaced weight ++ reply_words s) m id (omega (arith, few)) (omega (arith, small.0)) stops refl f here in
        (id, weight, is, small.1, same.1)

pub reweigh_second : (bytes rest : List ℕ) (m : ℕ) → mark bytes ≡ 119 → m < 2 ^ 64 → Stops rest → bytes ≡ codes " reweigh" ++ (spaced m ++ rest) →
    ((n : ℕ) (x : List ℕ) → 1 ≤ n → n ≤ 2 ^ 32 → Stops x → rest ≡ spaced n ++ x → ⊥) → (w : Word) (s : Said) → IsWord w → bytes ≡ command_words w ++ reply_words s → ⊥
reweigh_second bytes rest m at few stops f none w s fits e =
    let (id, weight, is, small, here) = reweigh_rest bytes rest m at few stops f w s fits e in
    none weight (reply_words s) small.0 small.1 (reply_stops s) here

pub reweigh_third : (bytes rest behind : List ℕ) (m n : ℕ) → mark bytes ≡ 119 → m < 2 ^ 64 → Stops rest → bytes ≡ codes " reweigh" ++ (spaced m ++ rest) →
    n < 2 ^ 64 → Stops behind → rest ≡ spaced n ++ behind → ((id weight : ℕ) (s : Said) → IsAnswerOf (Reweigh id weight) s → behind ≡ reply_words s → ⊥) →
    (w : Word) (s : Said) → IsWord w → IsAnswerOf w s → bytes ≡ command_words w ++ reply_words s → ⊥
reweigh_third bytes rest behind m n at few stops f fewer ends g none w s fits answers e =
    let (id, weight, is, small, here) = reweigh_rest bytes rest m at few stops f w s fits e in
    let same = field_unique (codes "") rest behind (reply_words s) n weight (omega (arith, fewer)) (omega (arith, small.1)) ends (reply_stops s) g here in
    none id weight s (subst (λ v. IsAnswerOf v s) is answers) same.1

-- ---- replies of more than one number

-- the second byte of the bytes
second_is : (bytes x y : List ℕ) → bytes ≡ x → bytes ≡ y → get_or x 1 0 ≡ get_or y 1 0
second_is bytes x y a b = ap (λ z. get_or z 1 0) (sym a ∙ b)

pub rank_second : (bytes rest : List ℕ) (m id : ℕ) → m < 2 ^ 64 → Stops rest → bytes ≡ codes " rank" ++ (spaced m ++ rest) →
    ((n : ℕ) → 0 ≤ n → n ≤ 2 ^ 32 - 1 → rest ≡ spaced n → ⊥) → (s : Said) → IsAnswerOf (Pull id) s → bytes ≡ reply_words s → ⊥
rank_second bytes rest m id few stops f none s (inl (v, r, sv, sr, is)) e =
    let same = field_unique (codes " rank") bytes rest (spaced r) m v (omega (arith, few)) (omega (arith, sv)) stops refl f
    (e ∙ (ap reply_words is ∙ one_front (codes " rank") (spaced r) v)) in
    none r (omega arith) (omega (arith, sr)) same.1
rank_second bytes rest m id few stops f none s (inr (v, sv, is)) e =
    let bad : 114 ≡ 117 = second_is bytes (codes " rank" ++ (spaced m ++ rest)) (codes " unranked" ++ spaced v) f (e ∙ ap reply_words is) in
    absurd (omega (arith, bad))

opened_rest : (bytes rest : List ℕ) (m most : ℕ) → m < 2 ^ 64 → Stops rest → bytes ≡ codes " opened" ++ (spaced m ++ rest) → (s : Said) → IsAnswerOf (Open most) s →
    bytes ≡ reply_words s → (slots : ℕ) × (count : ℕ) × IsLong slots × IsSmall count × (rest ≡ spaced slots ++ spaced count)
opened_rest bytes rest m most few stops f s (inl (a, b, k, sa, sb, sk, is)) e =
    let same = field_unique (codes " opened") bytes rest (spaced b ++ spaced k) m a (omega (arith, few)) (omega (arith, sa)) stops refl f
    (e ∙ (ap reply_words is ∙ two_front (codes " opened") (spaced k) a b)) in
    (b, k, sb, sk, same.1)
opened_rest bytes rest m most few stops f s (inr is) e =
    let bad : 111 ≡ 110 = second_is bytes (codes " opened" ++ (spaced m ++ rest)) (codes " nothing") f (e ∙ ap reply_words is) in
    absurd (omega (arith, bad))

pub opened_second : (bytes rest : List ℕ) (m most : ℕ) → m < 2 ^ 64 → Stops rest → bytes ≡ codes " opened" ++ (spaced m ++ rest) →
    ((n : ℕ) (x : List ℕ) → 0 ≤ n → n ≤ 2 ^ 64 - 1 → Stops x → rest ≡ spaced n ++ x → ⊥) → (s : Said) → IsAnswerOf (Open most) s → bytes ≡ reply_words s → ⊥
opened_second bytes rest m most few stops f none s answers e =
    let (slots, count, long, small, here) = opened_rest bytes rest m most few stops f s answers e in
    none slots (spaced count) (omega arith) (omega (arith, long)) refl here

pub opened_third : (bytes rest behind : List ℕ) (m n most : ℕ) → m < 2 ^ 64 → Stops rest → bytes ≡ codes " opened" ++ (spaced m ++ rest) → n < 2 ^ 64 → Stops behind →
    rest ≡ spaced n ++ behind → ((k : ℕ) → 0 ≤ k → k ≤ 2 ^ 32 - 1 → behind ≡ spaced k → ⊥) → (s : Said) → IsAnswerOf (Open most) s → bytes ≡ reply_words s → ⊥
opened_third bytes rest behind m n most few stops f fewer ends g none s answers e =
    let (slots, count, long, small, here) = opened_rest bytes rest m most few stops f s answers e in
    let same = field_unique (codes "") rest behind (spaced count) n slots (omega (arith, fewer)) (omega (arith, long)) ends refl g here in
    none count (omega arith) (omega (arith, small)) same.1
