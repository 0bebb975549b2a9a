-- A text tells one list of bars.
use Rattle.std.proofs.Common.{◌≡◌, ℕ, ◌<◌, ◌≤◌, ◌+◌, ◌*◌, ◌-◌, ◌/◌, ◌^◌, min, List, [], ◌∷◌, ◌++◌, append_assoc, codes, get_or, length, map, refl, sym, ap, ◌∙◌, zero, suc, arith}
use Rattle.std.specs.Prelude.{All}
use Rattle.std.specs.List.{flat_map, range_with_len, slice_index_or}
use Rattle.std.proofs.lemmas.Grind.{flat_map-append}
use Rattle.std.proofs.lemmas.List.{append_cancel_left}
use Rattle.coflow_units.specs.declared.fabric.Side.{Side}
use Rattle.coflow_units.specs.declared.fabric.Side.TheVariants.{Ingress, Egress}
use Rattle.picture.specs.declared.value.Bar.{Bar}
use Rattle.picture.specs.declared.value.Picture.{Picture}
use Rattle.picture.specs.Layout.{IsDrawable, IsInside, bars_height, hairline, height, slot_count}
use Rattle.picture.specs.Marks.{id_of, marks_text}
use Rattle.picture.specs.Means.{means_text}
use Rattle.picture.specs.Palette.{blue, colour_of, colour_text, green, red}
use Rattle.picture.specs.Svg.{axes_text, bar_text, bars_head, curve_text, head_text, legend_text, picture_text, rows_text, side_word, title_text}
use Rattle.picture.specs.Text.{numbered, three_digits}
use Rattle.picture.specs.Title.{ratio_words}
use Rattle.picture.specs.Told.{HasSmallIds, ToldBar, told_bars}
use Rattle.picture.proofs.NumberText.{EndsNumber, numbers_equal}

-- ---- a bar

ten : (a b c d e f g h k l r : List ℕ) → a ++ b ++ c ++ d ++ (e ++ f ++ g ++ h) ++ k ++ l ++ r ≡ a ++ (b ++ (c ++ (d ++ (e ++ (f ++ (g ++ (h ++ (k ++ (l ++ r)))))))))
ten a b c d e f g h k l r = simp append_assoc

abbrev bar_line : ℕ → ℕ → ℕ → ℕ → ℕ → List ℕ
bar_line x y w colour id = numbered (codes "<rect x='") x ++ numbered (codes "' y='") y ++ numbered (codes "' width='") w ++ codes "' height='8' fill='" ++
    colour_text colour ++ numbered (codes "'><title>coflow ") id ++ codes "</title></rect>\n"

pub record IsSmallBar (x y w id : ℕ) : Type 0 where
  pub x_small : x < 2 ^ 128
  pub y_small : y < 2 ^ 128
  pub w_small : w < 2 ^ 128
  pub id_small : id < 2 ^ 128

pub record IsSameBar (x y w id x' y' w' id' : ℕ) (r s : List ℕ) : Type 0 where
  pub x_same : x ≡ x'
  pub y_same : y ≡ y'
  pub w_same : w ≡ w'
  pub id_same : id ≡ id'
  pub rest_same : r ≡ s

line_parts : (x y w colour id : ℕ) (r : List ℕ) → bar_line x y w colour id ++ r ≡ numbered (codes "<rect x='") x ++ (numbered (codes "' y='") y ++
    (numbered (codes "' width='") w ++ (codes "' height='8' fill='" ++ (numbered (codes "rgb(") (red colour) ++ (numbered (codes ",") (green colour) ++
    (numbered (codes ",") (blue colour) ++ (codes ")" ++ (numbered (codes "'><title>coflow ") id ++ (codes "</title></rect>\n" ++ r)))))))))
line_parts x y w colour id r =
    ten (numbered (codes "<rect x='") x) (numbered (codes "' y='") y) (numbered (codes "' width='") w) (codes "' height='8' fill='") (numbered (codes "rgb(") (red colour))
    (numbered (codes ",") (green colour)) (numbered (codes ",") (blue colour)) (codes ")") (numbered (codes "'><title>coflow ") id) (codes "</title></rect>\n") r

-- the text behind a colour
behind_colour : (c d : ℕ) (x y : List ℕ) → numbered (codes "rgb(") (red c) ++ (numbered (codes ",") (green c) ++ (numbered (codes ",") (blue c) ++ (codes ")" ++ x))) ≡
    numbered (codes "rgb(") (red d) ++ (numbered (codes ",") (green d) ++ (numbered (codes ",") (blue d) ++ (codes ")" ++ y))) → x ≡ y
behind_colour c d x y e =
    let a = numbers_equal (codes "rgb(") (red c) (red d) _ _ (omega arith) (omega arith) refl refl e in
    let b = numbers_equal (codes ",") (green c) (green d) _ _ (omega arith) (omega arith) refl refl a.1 in
    let f = numbers_equal (codes ",") (blue c) (blue d) _ _ (omega arith) (omega arith) refl refl b.1 in
    append_cancel_left (codes ")") x y f.1

bars_equal : (x y w id x' y' w' id' colour colour' : ℕ) (r s : List ℕ) → IsSmallBar x y w id → IsSmallBar x' y' w' id' →
    bar_line x y w colour id ++ r ≡ bar_line x' y' w' colour' id' ++ s → IsSameBar x y w id x' y' w' id' r s
bars_equal x y w id x' y' w' id' colour colour' r s small small' e =
    let whole = sym (line_parts x y w colour id r) ∙ (e ∙ line_parts x' y' w' colour' id' s) in
    let a = numbers_equal (codes "<rect x='") x x' _ _ small.x_small small'.x_small refl refl whole in
    let b = numbers_equal (codes "' y='") y y' _ _ small.y_small small'.y_small refl refl a.1 in
    let c = numbers_equal (codes "' width='") w w' _ _ small.w_small small'.w_small refl refl b.1 in
    let d = behind_colour colour colour' _ _ (append_cancel_left (codes "' height='8' fill='") _ _ c.1) in
    let f = numbers_equal (codes "'><title>coflow ") id id' _ _ small.id_small small'.id_small refl refl d in
    record {
      x_same = a.0;
      y_same = b.0;
      w_same = c.0;
      id_same = f.0;
      rest_same = append_cancel_left (codes "</title></rect>\n") r s f.1;
    }

-- ---- the bars of all ports in a row

abbrev Item : Type 0
Item = ℕ × Bar

abbrev item_text : Picture → Item → List ℕ
item_text p it = bar_text p it.0 it.1

abbrev told : Picture → Item → ToldBar
told p it = record { port = it.0; id = id_of p it.1.coflow; first = it.1.first; last = it.1.last }

items_of : ℕ → List Bar → List Item
items_of port [] = []
items_of port (b ∷ bs) = (port, b) ∷ items_of port bs

items_from : (ℕ → List Bar) → ℕ → ℕ → List Item
items_from row first zero = []
items_from row first (suc n) = items_of first (row first) ++ items_from row (first + 1) n

row_items : (p : Picture) (port : ℕ) (bs : List Bar) → flat_map (bar_text p port) bs ≡ flat_map (item_text p) (items_of port bs)
unfolding items_of
row_items p port [] = refl
row_items p port (b ∷ bs) = ap (λ t. bar_text p port b ++ t) (row_items p port bs)

rows_items : (p : Picture) (row : ℕ → List Bar) (first n : ℕ) →
    flat_map (λ port. flat_map (bar_text p port) (row port)) (range_with_len first n) ≡ flat_map (item_text p) (items_from row first n)
unfolding items_from
rows_items p row first zero = refl
rows_items p row first (suc n) =
    let here = row_items p first (row first) in
    let later = rows_items p row (first + 1) n in
    rw (here, later) (sym (flat_map-append (item_text p) (items_of first (row first)) (items_from row (first + 1) n)))

row_told : (p : Picture) (port : ℕ) (bs : List Bar) →
    map (λ (b : Bar). record { port = port; id = id_of p b.coflow; first = b.first; last = b.last }) bs ≡ map (told p) (items_of port bs)
unfolding items_of
row_told p port [] = refl
row_told p port (b ∷ bs) = ap (λ t. told p (port, b) ∷ t) (row_told p port bs)

map_both : {X Y : Type 0} (f : X → Y) (xs ys : List X) → map f (xs ++ ys) ≡ map f xs ++ map f ys
map_both f [] ys = refl
map_both f (x ∷ xs) ys = ap (λ t. f x ∷ t) (map_both f xs ys)

rows_told : (p : Picture) (row : ℕ → List Bar) (first n : ℕ) →
    flat_map (λ port. map (λ (b : Bar). record { port = port; id = id_of p b.coflow; first = b.first; last = b.last }) (row port)) (range_with_len first n) ≡
    map (told p) (items_from row first n)
unfolding items_from
rows_told p row first zero = refl
rows_told p row first (suc n) =
    let here = row_told p first (row first) in
    let later = rows_told p row (first + 1) n in
    rw (here, later) (sym (map_both (told p) (items_of first (row first)) (items_from row (first + 1) n)))

-- ---- each of them is inside the window

abbrev IsGood : Picture → Item → Type 0
IsGood p it = (it.0 < 2000) × IsInside p.window it.1

abbrev AreGood : Picture → List Item → Type 0
AreGood p [] = Unit {0}
AreGood p (it ∷ its) = IsGood p it × AreGood p its

good_both : (p : Picture) (xs ys : List Item) → AreGood p xs → AreGood p ys → AreGood p (xs ++ ys)
good_both p [] ys a b = b
good_both p (x ∷ xs) ys (is, a) b = (is, good_both p xs ys a b)

row_good : (p : Picture) (port : ℕ) (bs : List Bar) → port < 2000 → All (IsInside p.window) bs → AreGood p (items_of port bs)
unfolding items_of
row_good p port [] lt all = tt
row_good p port (b ∷ bs) lt all = ((lt, all 0 b (omega arith)), row_good p port bs lt (λ k d l. all (suc k) d (omega arith)))

rows_good : (p : Picture) (row : ℕ → List Bar) (first n : ℕ) → first + n < 2000 → ((port : ℕ) → first ≤ port → port < first + n → All (IsInside p.window) (row port)) →
    AreGood p (items_from row first n)
unfolding items_from
rows_good p row first zero lt each = tt
rows_good p row first (suc n) lt each =
    good_both p (items_of first (row first)) (items_from row (first + 1) n) (row_good p first (row first) (omega arith) (each first (omega arith) (omega arith)))
    (rows_good p row (first + 1) n (omega arith) (λ port le l. each port (omega arith) (omega arith)))

-- ---- ids are small

id_fits : (ids : List ℕ) (k : ℕ) → All (λ id. id < 2 ^ 32) ids → slice_index_or ids k 0 < 2 ^ 32
id_fits [] k all = omega arith
id_fits (id ∷ ids) zero all = all 0 0 (omega arith)
id_fits (id ∷ ids) (suc k) all = id_fits ids k (λ j d lt. all (suc j) d (omega arith))

-- ---- equal texts of them

module _ (p q : Picture) (p_drawable : IsDrawable p) (q_drawable : IsDrawable q) (p_small : HasSmallIds p) (q_small : HasSmallIds q) where
  abbrev text_end : List ℕ
  text_end = codes "</svg>\n"

  other_end : (it : Item) (its : List Item) (o : Picture) (x y : List ℕ) → text_end ++ x ≡ flat_map (item_text o) (it ∷ its) ++ y → ⊥
  other_end it its o x y e = let bad : 47 ≡ 114 = ap (λ t. get_or t 1 0) e in absurd (omega (arith, bad))

  small_item : (o : Picture) (it : Item) → IsDrawable o → HasSmallIds o → IsGood o it →
      IsSmallBar (it.1.first - o.window.first) (10 * it.0 + 1) (it.1.last - (it.1.first - 1)) (id_of o it.1.coflow)
  small_item o it drawable small (lt, inside) = record {
    x_small = omega (arith, inside.some, inside.upto, drawable.short);
    y_small = omega (arith, lt);
    w_small = omega (arith, inside.upto, drawable.short);
    id_small = omega (arith, id_fits o.ids it.1.coflow small.ids);
  }

  items_equal : p.window.first ≡ q.window.first → (xs ys : List Item) (x y : List ℕ) → AreGood p xs → AreGood q ys →
      flat_map (item_text p) xs ++ (text_end ++ x) ≡ flat_map (item_text q) ys ++ (text_end ++ y) → map (told p) xs ≡ map (told q) ys
  items_equal first [] [] x y gx gy e = refl
  items_equal first [] (it ∷ its) x y gx gy e = absurd (other_end it its q x (text_end ++ y) e)
  items_equal first (it ∷ its) [] x y gx gy e = absurd (other_end it its p y (text_end ++ x) (sym e))
  items_equal first (a ∷ xs) (b ∷ ys) x y (ga, gx) (gb, gy) e =
      let nested =
      sym (append_assoc (item_text p a) (flat_map (item_text p) xs) (text_end ++ x)) ∙ (e ∙ append_assoc (item_text q b) (flat_map (item_text q) ys) (text_end ++ y)) in
      let same =
      bars_equal _ _ _ _ _ _ _ _ (colour_of p a.1.coflow) (colour_of q b.1.coflow) _ _ (small_item p a p_drawable p_small ga) (small_item q b q_drawable q_small gb)
      nested in
      let port : a.0 ≡ b.0 = omega (arith, same.y_same) in
      let id : id_of p a.1.coflow ≡ id_of q b.1.coflow = same.id_same in
      let from : a.1.first ≡ b.1.first = omega (arith, same.x_same, first, ga.1.from, gb.1.from) in
      let upto : a.1.last ≡ b.1.last =
      omega (arith, same.w_same, from, ga.1.some, gb.1.some, ga.1.from, gb.1.from, p_drawable.counted, q_drawable.counted) in
      let here : told p a ≡ told q b = λ i. record { port = port i; id = id i; first = from i; last = upto i } in
      let later = items_equal first xs ys x y gx gy same.rest_same in
      rw (here, later) refl

-- ---- what stands before them

head_parts : (first second third : List ℕ) (n : ℕ) (r : List ℕ) →
    numbered first n ++ numbered second n ++ third ++ r ≡ numbered first n ++ (numbered second n ++ (third ++ r))
head_parts first second third n r = simp append_assoc

head_equal : (p q : Picture) (x y : List ℕ) → IsDrawable p → IsDrawable q → head_text p ++ x ≡ head_text q ++ y → x ≡ y
head_equal p q x y pd qd e =
    let first = codes "<svg xmlns='http://www.w3.org/2000/svg' version='1.1' width='1150' height='" in
    let second = codes "' font-family='sans-serif' font-size='13'>\n<rect width='1150' height='" in
    let third = codes "' fill='#ffffff'/>\n" in
    let a =
    numbers_equal first (height p) (height q) _ _ (low p pd) (low q qd) refl refl
    (sym (head_parts first second third (height p) x) ∙ (e ∙ head_parts first second third (height q) y)) in
    let b = numbers_equal second (height p) (height q) _ _ (low p pd) (low q qd) refl refl a.1 in
    append_cancel_left third x y b.1
  where
    low : (o : Picture) → IsDrawable o → height o < 2 ^ 128
    low o d = omega (arith, d.few_ports)

five : (t a b r e x : List ℕ) → t ++ (a ++ b ++ r) ++ e ++ x ≡ t ++ (a ++ (b ++ (r ++ (e ++ x))))
five t a b r e x = simp append_assoc

ratio_ends : (c b : ℕ) (x : List ℕ) → EndsNumber (ratio_words c b ++ (codes "</text>\n" ++ x))
ratio_ends c zero x = refl
ratio_ends c (suc b) x = refl

title_equal : (p q : Picture) (x y : List ℕ) → IsDrawable p → IsDrawable q → title_text p ++ x ≡ title_text q ++ y → x ≡ y
title_equal p q x y pd qd e =
    let lead = codes "<text x='70' y='24' font-size='16'>" in
    let cost = codes "cost " in
    let bound = codes ", bound " in
    let behind = codes "</text>\n" in
    let whole =
    sym (five lead (numbered cost p.cost) (numbered bound p.bound) (ratio_words p.cost p.bound) behind x) ∙ (e ∙
    five lead (numbered cost q.cost) (numbered bound q.bound) (ratio_words q.cost q.bound) behind y) in
    let a = numbers_equal cost p.cost q.cost _ _ (omega (arith, pd.small_cost)) (omega (arith, qd.small_cost)) refl refl (append_cancel_left lead _ _ whole) in
    let p_small : p.bound < 2 ^ 128 = omega (arith, pd.small_bound) in
    let q_small : q.bound < 2 ^ 128 = omega (arith, qd.small_bound) in
    let b = numbers_equal bound p.bound q.bound _ _ p_small q_small (ratio_ends p.cost p.bound x) (ratio_ends q.cost q.bound y) a.1 in
    let same : ratio_words q.cost q.bound ≡ ratio_words p.cost p.bound = λ i. ratio_words (sym a.0 i) (sym b.0 i) in
    let rest = append_cancel_left (ratio_words p.cost p.bound) _ _ (b.1 ∙ ap (λ t. t ++ (behind ++ y)) same) in
    append_cancel_left behind x y rest

head_ten : (a b c d e f g h k l r : List ℕ) → a ++ b ++ c ++ d ++ e ++ f ++ g ++ h ++ k ++ l ++ r ≡ a ++ (b ++ (c ++ (d ++ (e ++ (f ++ (g ++ (h ++ (k ++ (l ++ r)))))))))
head_ten a b c d e f g h k l r = simp append_assoc

side_equal : (s t : Side) (x y : List ℕ) → side_word s ++ x ≡ side_word t ++ y → x ≡ y
side_equal Ingress Ingress x y e = append_cancel_left (codes "ingress") x y e
side_equal Egress Egress x y e = append_cancel_left (codes "egress") x y e
side_equal Ingress Egress x y e = let bad : 105 ≡ 101 = ap (λ t. get_or t 0 0) e in absurd (omega (arith, bad))
side_equal Egress Ingress x y e = let bad : 101 ≡ 105 = ap (λ t. get_or t 0 0) e in absurd (omega (arith, bad))

bars_head_equal : (p q : Picture) (x y : List ℕ) → IsDrawable p → IsDrawable q → bars_head p ++ x ≡ bars_head q ++ y → (p.window.first ≡ q.window.first) × (x ≡ y)
bars_head_equal p q x y pd qd e =
    let lead = codes "<text x='70' y='70'>" in
    let slots = codes " ports, slots " in
    let to = codes " to " in
    let top = codes "</text>\n<svg x='70' y='80' width='720' height='" in
    let box = codes "' viewBox='0 0 " in
    let space = codes " " in
    let stroke = codes "' preserveAspectRatio='none' stroke='#ffffff' stroke-width='" in
    let behind = codes "'>\n" in
    let whole =
    sym (head_ten lead (side_word p.window.side) (numbered slots p.window.first) (numbered to p.window.last) (numbered top (bars_height p)) (numbered box (slot_count p))
    (numbered space (10 * length p.rows)) stroke (three_digits (hairline p)) behind x) ∙ (e ∙
    head_ten lead (side_word q.window.side) (numbered slots q.window.first) (numbered to q.window.last) (numbered top (bars_height q)) (numbered box (slot_count q))
    (numbered space (10 * length q.rows)) stroke (three_digits (hairline q)) behind y) in
    let a = side_equal p.window.side q.window.side _ _ (append_cancel_left lead _ _ whole) in
    let b = numbers_equal slots p.window.first q.window.first _ _ (omega (arith, pd.some, pd.short)) (omega (arith, qd.some, qd.short)) refl refl a in
    let c = numbers_equal to p.window.last q.window.last _ _ (omega (arith, pd.short)) (omega (arith, qd.short)) refl refl b.1 in
    let d = numbers_equal top (bars_height p) (bars_height q) _ _ (omega (arith, pd.few_ports)) (omega (arith, qd.few_ports)) refl refl c.1 in
    let f = numbers_equal box (slot_count p) (slot_count q) _ _ (omega (arith, pd.short)) (omega (arith, qd.short)) refl refl d.1 in
    let g = numbers_equal space (10 * length p.rows) (10 * length q.rows) _ _ (omega (arith, pd.few_ports)) (omega (arith, qd.few_ports)) refl refl f.1 in
    let line : three_digits (hairline q) ≡ three_digits (hairline p) = ap (λ n. three_digits (min (n * 25 / 18) 400)) (sym f.0) in
    let past = append_cancel_left stroke _ _ g.1 in
    let rest = append_cancel_left (three_digits (hairline p)) _ _ (past ∙ ap (λ t. t ++ (behind ++ y)) line) in
    (b.0, append_cancel_left behind x y rest)

-- ---- the whole text

parts : (h t b r e m c n a l z : List ℕ) →
    h ++ t ++ (b ++ r ++ e) ++ m ++ c ++ n ++ a ++ l ++ z ≡ h ++ (t ++ (b ++ (r ++ (e ++ (m ++ (c ++ (n ++ (a ++ (l ++ z)))))))))
parts h t b r e m c n a l z = simp append_assoc

-- what stands behind the bars
abbrev behind_bars : Picture → List ℕ
behind_bars p = marks_text p ++ (curve_text p ++ (means_text p ++ (axes_text p ++ (legend_text p ++ codes "</svg>\n"))))

in_parts : (p : Picture) → picture_text p ≡ head_text p ++ (title_text p ++ (bars_head p ++ (rows_text p ++ (codes "</svg>\n" ++ behind_bars p))))
in_parts p =
    parts (head_text p) (title_text p) (bars_head p) (rows_text p) (codes "</svg>\n") (marks_text p) (curve_text p) (means_text p) (axes_text p) (legend_text p)
    (codes "</svg>\n")

abbrev all_items : Picture → List Item
all_items p = items_from (λ port. slice_index_or p.rows port []) 0 (length p.rows)

all_good : (p : Picture) → IsDrawable p → AreGood p (all_items p)
all_good p d = rows_good p (λ port. slice_index_or p.rows port []) 0 (length p.rows) (omega (arith, d.few_ports)) (λ port le lt. d.inside port (omega (arith, lt)))

pub one_list_of_bars : (p q : Picture) → IsDrawable p → IsDrawable q → HasSmallIds p → HasSmallIds q → picture_text p ≡ picture_text q → told_bars p ≡ told_bars q
one_list_of_bars p q pd qd ps qs e =
    let past_head = head_equal p q _ _ pd qd (sym (in_parts p) ∙ (e ∙ in_parts q)) in
    let past_title = title_equal p q _ _ pd qd past_head in
    let (first, rows) = bars_head_equal p q _ _ pd qd past_title in
    let end = codes "</svg>\n" in
    let p_items = rows_items p (λ port. slice_index_or p.rows port []) 0 (length p.rows) in
    let q_items = rows_items q (λ port. slice_index_or q.rows port []) 0 (length q.rows) in
    let items = ap (λ t. t ++ (end ++ behind_bars p)) (sym p_items) ∙ (rows ∙ ap (λ t. t ++ (end ++ behind_bars q)) q_items) in
    let same = items_equal p q pd qd ps qs first (all_items p) (all_items q) (behind_bars p) (behind_bars q) (all_good p pd) (all_good q qd) items in
    rows_told p (λ port. slice_index_or p.rows port []) 0 (length p.rows) ∙ (same ∙ sym (rows_told q (λ port. slice_index_or q.rows port []) 0 (length q.rows)))
