-- A text is that of one comparison, or of one list of classes, at most.
use Rattle.std.proofs.Common.{◌≡◌, ℕ, suc, ◌≤◌, List, [], ◌∷◌, ◌++◌, append_assoc, drop, get_or, map, refl, sym, ap, subst, ◌∙◌, arith}
use Rattle.std.specs.Prelude.{All, codes}
use Rattle.coflow_units.proofs.Fronts.{head_of}
use Rattle.report_text.specs.declared.classed.ClassText.{ClassText}
use Rattle.report_text.specs.declared.classed.Member.{Member}
use Rattle.report_text.specs.declared.compared.Compare.{Compare}
use Rattle.report_text.specs.declared.compared.RowLine.{RowLine}
use Rattle.report_text.specs.declared.compared.RowText.{RowText}
use Rattle.report_text.specs.declared.compared.RowText.TheVariants.{Cost, Unfit}
use Rattle.report_text.specs.Classed.{IsSmallClasses, IsSmallMember, cap_line, class_lines, class_text, member_line}
use Rattle.report_text.specs.Compared.{IsSmallCompare, IsSmallRow, IsSmallWorth, compare_lines, compare_text, row_line, worth_words}
use Rattle.report_text.specs.Readers.{IsOneLine}
use Rattle.report_text.specs.Text.{cost_line, run_line}
use Rattle.coflow_units.specs.Text.{spaced}
use Rattle.report_text.proofs.DraftText.{runs_first}
use Rattle.report_text.proofs.LineLists.{all_first, both_ended, first, regroup, tail_is}
use Rattle.report_text.proofs.LineText.{front_is_line}
use Rattle.report_text.proofs.NumberText.{decimal_one, spaced_unique}
use Rattle.report_text.proofs.OneLine.{both, both_lines, runs_lines, total_one}
use Rattle.report_text.proofs.ReadingText.{AreLines}
use Rattle.report_text.proofs.TextLaws.{lines_one, runs_one}

-- ---- rows

letters_one : (name : List ℕ) → All (λ b. (97 ≤ b) × (b ≤ 122)) name → IsOneLine name
letters_one [] h = tt
letters_one (b ∷ bs) h = (λ e. absurd (omega (arith, e, (h 0 b (omega arith)).0)), letters_one bs (λ k d lt. h (suc k) d (omega arith)))

worth_one : (worth : RowText) → IsSmallWorth worth → IsOneLine (worth_words worth)
worth_one (Cost total) small = total_one (codes " cost") total (front_is_line (codes " cost")) small
worth_one (Unfit place) small = total_one (codes " unfit") place (front_is_line (codes " unfit")) small

row_one : (r : RowLine) → IsSmallRow r → IsOneLine (row_line r)
row_one r h =
    let a = total_one (codes "row") r.index (front_is_line (codes "row")) h.index in
    let b = total_one (codes "row" ++ spaced r.index) r.round a h.round in
    let d = both (codes "row" ++ spaced r.index ++ spaced r.round) (codes " ") b (front_is_line (codes " ")) in
    let e = both (codes "row" ++ spaced r.index ++ spaced r.round ++ codes " ") r.name d (letters_one r.name h.letter) in
    both (codes "row" ++ spaced r.index ++ spaced r.round ++ codes " " ++ r.name) (worth_words r.scored) e (worth_one r.scored h.worth)

rows_lines : (rows : List RowLine) → All IsSmallRow rows → AreLines (map row_line rows)
rows_lines [] h = tt
rows_lines (x ∷ xs) h = (row_one x (h 0 x (omega arith)), rows_lines xs (λ k d lt. h (suc k) d (omega arith)))

-- letters in front of a space
letters_unique : (a b x y : List ℕ) → All (λ c. (97 ≤ c) × (c ≤ 122)) a → All (λ c. (97 ≤ c) × (c ≤ 122)) b → first x ≡ 32 → first y ≡ 32 → a ++ x ≡ b ++ y →
    (a ≡ b) × (x ≡ y)
letters_unique [] [] x y ha hb fx fy e = (refl, e)
letters_unique [] (c ∷ cs) x y ha hb fx fy e = let bad : 32 ≡ c = sym fx ∙ ap first e in absurd (omega (arith, bad, (hb 0 c (omega arith)).0))
letters_unique (c ∷ cs) [] x y ha hb fx fy e = let bad : 32 ≡ c = sym fy ∙ sym (ap first e) in absurd (omega (arith, bad, (ha 0 c (omega arith)).0))
letters_unique (c ∷ cs) (d ∷ ds) x y ha hb fx fy e =
    let same : c ≡ d = ap first e in
    let (more, rest) = letters_unique cs ds x y (λ k z lt. ha (suc k) z (omega arith)) (λ k z lt. hb (suc k) z (omega arith)) fx fy (ap (drop 1) e) in
    ((λ i. same i ∷ more i), rest)

worth_first : (worth : RowText) → first (worth_words worth) ≡ 32
worth_first (Cost total) = refl
worth_first (Unfit place) = refl

worth_unique : (a b : RowText) → IsSmallWorth a → IsSmallWorth b → worth_words a ≡ worth_words b → a ≡ b
worth_unique (Cost x) (Cost y) sa sb e = ap Cost (decimal_one x y sa sb (ap (drop 6) e))
worth_unique (Unfit x) (Unfit y) sa sb e = ap Unfit (decimal_one x y sa sb (ap (drop 7) e))
worth_unique (Cost x) (Unfit y) sa sb e = absurd (let bad : 99 ≡ 117 = ap (λ l. get_or l 1 0) e in omega (arith, bad))
worth_unique (Unfit x) (Cost y) sa sb e = absurd (let bad : 117 ≡ 99 = ap (λ l. get_or l 1 0) e in omega (arith, bad))

abbrev behind_round : RowLine → List ℕ
behind_round r = codes " " ++ (r.name ++ worth_words r.scored)

abbrev behind_index : RowLine → List ℕ
behind_index r = spaced r.round ++ behind_round r

row_parts : (r : RowLine) → row_line r ≡ codes "row" ++ (spaced r.index ++ behind_index r)
row_parts r = simp append_assoc

row_unique : (a b : RowLine) → IsSmallRow a → IsSmallRow b → row_line a ≡ row_line b → a ≡ b
row_unique a b sa sb e = λ i. record { index = index.0 i; round = round.0 i; name = name.0 i; scored = scored i }
  where
    index : (a.index ≡ b.index) × (behind_index a ≡ behind_index b)
    index = spaced_unique (behind_index a) (behind_index b) a.index b.index sa.index sb.index refl refl (ap (drop 3) (sym (row_parts a) ∙ (e ∙ row_parts b)))

    round : (a.round ≡ b.round) × (behind_round a ≡ behind_round b)
    round = spaced_unique (behind_round a) (behind_round b) a.round b.round sa.round sb.round refl refl index.1

    name : (a.name ≡ b.name) × (worth_words a.scored ≡ worth_words b.scored)
    name = letters_unique a.name b.name (worth_words a.scored) (worth_words b.scored) sa.letter sb.letter (worth_first a.scored) (worth_first b.scored) (ap (drop 1) round.1)

    scored : a.scored ≡ b.scored
    scored = worth_unique a.scored b.scored sa.worth sb.worth name.1

rows_one : (xs ys : List RowLine) → All IsSmallRow xs → All IsSmallRow ys → map row_line xs ≡ map row_line ys → xs ≡ ys
rows_one [] [] hx hy e = refl
rows_one [] (y ∷ ys) hx hy e = absurd cc
rows_one (x ∷ xs) [] hx hy e = absurd cc
rows_one (x ∷ xs) (y ∷ ys) hx hy e =
    let same : x ≡ y = row_unique x y (hx 0 x (omega arith)) (hy 0 y (omega arith)) (head_of (row_line x) (row_line y) (map row_line xs) (map row_line ys) e) in
    let more : xs ≡ ys = rows_one xs ys (λ k d lt. hx (suc k) d (omega arith)) (λ k d lt. hy (suc k) d (omega arith))
    (tail_is (row_line x) (row_line y) (map row_line xs) (map row_line ys) e) in
    λ i. same i ∷ more i

compare_is_lines : (c : Compare) → IsSmallCompare c → AreLines (compare_lines c)
compare_is_lines c h = (
  front_is_line (codes "sincronia compare 1"),
  (
    total_one (codes "bound") c.bound (front_is_line (codes "bound")) h.bound,
    both_lines (map row_line c.rows) (codes "end" ∷ []) (rows_lines c.rows h.rows) (front_is_line (codes "end"), tt),
  ),
)

pub compare_one : (a b : Compare) → IsSmallCompare a → IsSmallCompare b → compare_text a ≡ compare_text b → a ≡ b
compare_one a b sa sb e = λ i. record { bound = bound i; rows = rows i }
  where
    whole : compare_lines a ≡ compare_lines b
    whole = lines_one (compare_lines a) (compare_lines b) (compare_is_lines a sa) (compare_is_lines b sb) e

    bound : a.bound ≡ b.bound
    bound = decimal_one a.bound b.bound sa.bound sb.bound (ap (drop 6) (ap (λ ls. get_or ls 1 []) whole))

    rows : a.rows ≡ b.rows
    rows = rows_one a.rows b.rows sa.rows sb.rows
        (both_ended 114 (map row_line a.rows) (map row_line b.rows) (codes "end") (codes "end") [] [] (all_first 114 row_line (λ r. refl) a.rows)
        (all_first 114 row_line (λ r. refl) b.rows) (λ bad. absurd (omega (arith, bad))) (λ bad. absurd (omega (arith, bad))) (ap (drop 2) whole)).0

-- ---- members

member_one : (m : Member) → IsSmallMember m → IsOneLine (member_line m)
member_one m h = total_one (codes "member" ++ spaced m.class_number) m.id (total_one (codes "member") m.class_number (front_is_line (codes "member")) h.class_number) h.id

members_lines : (members : List Member) → All IsSmallMember members → AreLines (map member_line members)
members_lines [] h = tt
members_lines (x ∷ xs) h = (member_one x (h 0 x (omega arith)), members_lines xs (λ k d lt. h (suc k) d (omega arith)))

member_parts : (m : Member) → member_line m ≡ codes "member" ++ (spaced m.class_number ++ spaced m.id)
member_parts m = simp append_assoc

member_unique : (a b : Member) → IsSmallMember a → IsSmallMember b → member_line a ≡ member_line b → a ≡ b
member_unique a b sa sb e =
    let (class, rest) = spaced_unique (spaced a.id) (spaced b.id) a.class_number b.class_number sa.class_number sb.class_number refl refl
    (ap (drop 6) (sym (member_parts a) ∙ (e ∙ member_parts b))) in
    let id = decimal_one a.id b.id sa.id sb.id (ap (drop 1) rest) in
    λ i. record { class_number = class i; id = id i }

members_one : (xs ys : List Member) → All IsSmallMember xs → All IsSmallMember ys → map member_line xs ≡ map member_line ys → xs ≡ ys
members_one [] [] hx hy e = refl
members_one [] (y ∷ ys) hx hy e = absurd cc
members_one (x ∷ xs) [] hx hy e = absurd cc
members_one (x ∷ xs) (y ∷ ys) hx hy e =
    let same : x ≡ y = member_unique x y (hx 0 x (omega arith)) (hy 0 y (omega arith)) (head_of (member_line x) (member_line y) (map member_line xs) (map member_line ys) e) in
    let more : xs ≡ ys = members_one xs ys (λ k d lt. hx (suc k) d (omega arith)) (λ k d lt. hy (suc k) d (omega arith))
    (tail_is (member_line x) (member_line y) (map member_line xs) (map member_line ys) e) in
    λ i. same i ∷ more i

abbrev last_lines : ClassText → List (List ℕ)
last_lines c = map run_line c.runs ++ (codes "end" ∷ [])

abbrev nested : ClassText → List (List ℕ)
nested c = codes "sincronia classes 1" ∷ (map member_line c.members ++ (cap_line c.cap ∷ cost_line c.cost ∷ last_lines c))

class_nested : (c : ClassText) → class_lines c ≡ nested c
class_nested c = ap (λ ls. codes "sincronia classes 1" ∷ ls) (regroup (map member_line c.members) (cap_line c.cap ∷ cost_line c.cost ∷ []) (map run_line c.runs) (codes "end" ∷ []))

nested_lines : (c : ClassText) → IsSmallClasses c → AreLines (nested c)
nested_lines c h = (
  front_is_line (codes "sincronia classes 1"),
  both_lines (map member_line c.members) (cap_line c.cap ∷ cost_line c.cost ∷ last_lines c) (members_lines c.members h.members) (
    total_one (codes "cap") c.cap (front_is_line (codes "cap")) h.cap,
    (
      total_one (codes "cost") c.cost (front_is_line (codes "cost")) h.cost,
      both_lines (map run_line c.runs) (codes "end" ∷ []) (runs_lines c.runs h.runs) (front_is_line (codes "end"), tt),
    ),
  ),
)

pub class_one : (a b : ClassText) → IsSmallClasses a → IsSmallClasses b → class_text a ≡ class_text b → a ≡ b
class_one a b sa sb e = λ i. record { members = members i; cap = cap i; cost = cost i; runs = runs i }
  where
    is_lines : (c : ClassText) → IsSmallClasses c → AreLines (class_lines c)
    is_lines c h = subst AreLines (sym (class_nested c)) (nested_lines c h)

    whole : nested a ≡ nested b
    whole = sym (class_nested a) ∙ (lines_one (class_lines a) (class_lines b) (is_lines a sa) (is_lines b sb) e ∙ class_nested b)

    parts : (map member_line a.members ≡ map member_line b.members) × (cap_line a.cap ≡ cap_line b.cap) × (cost_line a.cost ∷ last_lines a ≡ cost_line b.cost ∷ last_lines b)
    parts = both_ended 109 (map member_line a.members) (map member_line b.members) (cap_line a.cap) (cap_line b.cap)
        (cost_line a.cost ∷ last_lines a) (cost_line b.cost ∷ last_lines b)
        (all_first 109 member_line (λ m. refl) a.members) (all_first 109 member_line (λ m. refl) b.members)
        (λ bad. absurd (omega (arith, bad))) (λ bad. absurd (omega (arith, bad)))
        (ap (drop 1) whole)

    members : a.members ≡ b.members
    members = members_one a.members b.members sa.members sb.members parts.0

    cap : a.cap ≡ b.cap
    cap = decimal_one a.cap b.cap sa.cap sb.cap (ap (drop 4) parts.1)

    cost : a.cost ≡ b.cost
    cost = decimal_one a.cost b.cost sa.cost sb.cost (ap (drop 5) (head_of (cost_line a.cost) (cost_line b.cost) (last_lines a) (last_lines b) parts.2))

    runs : a.runs ≡ b.runs
    runs = runs_one a.runs b.runs sa.runs sb.runs
        (both_ended 114 (map run_line a.runs) (map run_line b.runs) (codes "end") (codes "end") [] [] (runs_first a.runs) (runs_first b.runs) (λ bad. absurd (omega (arith, bad)))
        (λ bad. absurd (omega (arith, bad))) (tail_is (cost_line a.cost) (cost_line b.cost) (last_lines a) (last_lines b) parts.2)).0
