-- Each line of an online run is one line, and says one thing alone.
use Rattle.std.proofs.Common.{◌≡◌, ℕ, suc, ◌+◌, ◌<◌, ◌^◌, List, [], ◌∷◌, ◌++◌, append_assoc, append-nil, length, map, drop, get_or, refl, sym, ap, ◌∙◌, arith, zero-add}
use Rattle.std.specs.Prelude.{All, codes}
use Rattle.std.specs.List.{flat_map, range_with_len}
use Rattle.std.proofs.lemmas.List.{append_cancel_left, ext_get_or}
use Rattle.std.proofs.lemmas.List.FromFn.{get_or-map-range_with_len, length-map-range_with_len}
use Rattle.coflow_units.specs.declared.fabric.Port.{Port}
use Rattle.coflow_units.specs.declared.fabric.Side.{Side}
use Rattle.coflow_units.specs.declared.fabric.Side.TheVariants.{Egress, Ingress}
use Rattle.coflow_units.proofs.Fronts.{head_of}
use Rattle.report_text.specs.Readers.{IsOneLine, Stops}
use Rattle.report_text.specs.Text.{bound_line, side_word}
use Rattle.coflow_units.specs.Text.{spaced}
use Rattle.report_text.proofs.LineLists.{tail_is}
use Rattle.report_text.proofs.LineText.{front_is_line}
use Rattle.report_text.proofs.NumberText.{decimal_one, spaced_unique}
use Rattle.report_text.proofs.OneLine.{both, both_lines, range_lines, total_one}
use Rattle.report_text.proofs.PartText.{side_unique}
use Rattle.report_text.proofs.ReadingText.{AreLines}
use Rattle.online_text.specs.declared.value.DoneLine.{DoneLine}
use Rattle.online_text.specs.declared.value.Epoch.{Epoch}
use Rattle.online_text.specs.declared.value.OnlinePlace.{OnlinePlace}
use Rattle.online_text.specs.declared.value.ReleaseLine.{ReleaseLine}
use Rattle.online_text.specs.Online.{IsSmallCharge, IsSmallDone, IsSmallEpoch, IsSmallRelease}
use Rattle.online_text.specs.Text.{certificate_lines, charge_words, done_line, epoch_lines, order_line, order_line_at, order_lines, release_line, release_line_at}

-- ---- one line each

side_line : (side : Side) → IsOneLine (side_word side)
side_line Ingress = front_is_line (codes "in")
side_line Egress = front_is_line (codes "out")

words_line : (id : ℕ) (port : Port) (y : ℕ) → IsSmallCharge id port y → IsOneLine (charge_words id port y)
words_line id port y small =
    let a = total_one [] id tt (omega (arith, small.id_fits)) in
    let b = both (spaced id) (codes " ") a (front_is_line (codes " ")) in
    let c = both (spaced id ++ codes " ") (side_word port.side) b (side_line port.side) in
    let d = total_one (spaced id ++ codes " " ++ side_word port.side) port.number c (omega (arith, small.port_fits)) in
    total_one (spaced id ++ codes " " ++ side_word port.side ++ spaced port.number) y d small.y_fits

order_is_line : (k : ℕ) (p : OnlinePlace) → k < 2 ^ 128 → IsSmallCharge p.id p.port p.y → IsOneLine (order_line k p)
order_is_line k p few small =
    both (codes "place" ++ spaced k) (charge_words p.id p.port p.y) (total_one (codes "place") k (front_is_line (codes "place")) few) (words_line p.id p.port p.y small)

release_is_line : (k : ℕ) (r : ReleaseLine) → k < 2 ^ 128 → IsSmallRelease r → IsOneLine (release_line k r)
release_is_line k r few small =
    let a = total_one (codes "release") k (front_is_line (codes "release")) few in
    let b = both (codes "release" ++ spaced k) (charge_words r.id r.port r.y) a (words_line r.id r.port r.y small.charge) in
    total_one (codes "release" ++ spaced k ++ charge_words r.id r.port r.y) r.z b small.z

done_is_line : (d : DoneLine) → IsSmallDone d → IsOneLine (done_line d)
done_is_line d small =
    total_one (codes "done" ++ spaced d.id) d.slot (total_one (codes "done") d.id (front_is_line (codes "done")) (omega (arith, small.id))) (omega (arith, small.slot))

pub done_are_lines : (ds : List DoneLine) → All IsSmallDone ds → AreLines (map done_line ds)
done_are_lines [] small = tt
done_are_lines (d ∷ ds) small = (done_is_line d (small 0 d (omega arith)), done_are_lines ds (λ k e lt. small (suc k) e (omega arith)))

order_are_lines : (places : List OnlinePlace) → length places < 2 ^ 128 → All (λ (p : OnlinePlace). IsSmallCharge p.id p.port p.y) places → AreLines (order_lines places)
order_are_lines places few small =
    let d : OnlinePlace = record { id = 0; port = record { side = Ingress; number = 0 }; y = 0 } in
    range_lines (order_line_at places) (length places) (λ k lt. order_is_line (k + 1) (get_or places k d) (omega (arith, few, lt)) (small k d lt))

pub release_are_lines : (places : List ReleaseLine) → length places < 2 ^ 128 → All IsSmallRelease places → AreLines (certificate_lines places)
release_are_lines places few small =
    let d : ReleaseLine = record { id = 0; port = record { side = Ingress; number = 0 }; y = 0; z = 0 } in
    range_lines (release_line_at places) (length places) (λ k lt. release_is_line (k + 1) (get_or places k d) (omega (arith, few, lt)) (small k d lt))

epoch_are_lines : (e : Epoch) → IsSmallEpoch e → AreLines (epoch_lines e)
epoch_are_lines e small = (
  total_one (codes "epoch") e.time (front_is_line (codes "epoch")) (omega (arith, small.time)),
  both_lines (order_lines e.places) (bound_line e.bound ∷ []) (order_are_lines e.places small.count small.places)
      (total_one (codes "bound") e.bound (front_is_line (codes "bound")) small.bound, tt),
)

pub epochs_are_lines : (es : List Epoch) → All IsSmallEpoch es → AreLines (flat_map epoch_lines es)
epochs_are_lines [] small = tt
epochs_are_lines (e ∷ es) small =
    both_lines (epoch_lines e) (flat_map epoch_lines es) (epoch_are_lines e (small 0 e (omega arith))) (epochs_are_lines es (λ k d lt. small (suc k) d (omega arith)))

-- ---- one thing each

words_regroup : (a b c d e r : List ℕ) → (a ++ b ++ c ++ d ++ e) ++ r ≡ a ++ (b ++ c ++ (d ++ (e ++ r)))
words_regroup a b c d e r = simp append_assoc

abbrev pub behind_number : ℕ → List ℕ → List ℕ
behind_number y rest = spaced y ++ rest

abbrev pub behind_side : Port → ℕ → List ℕ → List ℕ
behind_side port y rest = spaced port.number ++ behind_number y rest

abbrev pub behind_id : Port → ℕ → List ℕ → List ℕ
behind_id port y rest = codes " " ++ side_word port.side ++ behind_side port y rest

pub words_parts : (id : ℕ) (port : Port) (y : ℕ) (rest : List ℕ) → charge_words id port y ++ rest ≡ spaced id ++ behind_id port y rest
words_parts id port y rest = words_regroup (spaced id) (codes " ") (side_word port.side) (spaced port.number) (spaced y) rest

pub words_unique : (id id' : ℕ) (port port' : Port) (y y' : ℕ) (x x' : List ℕ) → IsSmallCharge id port y → IsSmallCharge id' port' y' → Stops x → Stops x' →
    charge_words id port y ++ x ≡ charge_words id' port' y' ++ x' → (id ≡ id') × (port ≡ port') × (y ≡ y') × (x ≡ x')
words_unique id id' port port' y y' x x' small small' stops stops' e =
    let a = spaced_unique (behind_id port y x) (behind_id port' y' x') id id' (omega (arith, small.id_fits)) (omega (arith, small'.id_fits)) refl refl
    (sym (words_parts id port y x) ∙ (e ∙ words_parts id' port' y' x')) in
    let b = side_unique port.side port'.side (behind_side port y x) (behind_side port' y' x') a.1 in
    let c = spaced_unique (behind_number y x) (behind_number y' x') port.number port'.number (omega (arith, small.port_fits)) (omega (arith, small'.port_fits)) refl refl b.1 in
    let d = spaced_unique x x' y y' small.y_fits small'.y_fits stops stops' c.1 in
    (a.0, (λ i. record { side = b.0 i; number = c.0 i }), d.0, d.1)

pub order_unique : (k : ℕ) (p q : OnlinePlace) → IsSmallCharge p.id p.port p.y → IsSmallCharge q.id q.port q.y → order_line k p ≡ order_line k q → p ≡ q
order_unique k p q sp sq e =
    let parts = λ (r : OnlinePlace). append_assoc (codes "place") (spaced k) (charge_words r.id r.port r.y) in
    let behind : spaced k ++ charge_words p.id p.port p.y ≡ spaced k ++ charge_words q.id q.port q.y = ap (drop 5) (sym (parts p) ∙ (e ∙ parts q)) in
    let words = append_cancel_left (spaced k) (charge_words p.id p.port p.y) (charge_words q.id q.port q.y) behind in
    let (id, port, y, rest) = words_unique p.id q.id p.port q.port p.y q.y [] [] sp sq tt tt
    (append-nil (charge_words p.id p.port p.y) ∙ (words ∙ sym (append-nil (charge_words q.id q.port q.y)))) in
    λ i. record { id = id i; port = port i; y = y i }

pub release_unique : (k : ℕ) (p q : ReleaseLine) → IsSmallRelease p → IsSmallRelease q → release_line k p ≡ release_line k q → p ≡ q
release_unique k p q sp sq e =
    let parts = λ (r : ReleaseLine). append_assoc (codes "release" ++ spaced k) (charge_words r.id r.port r.y) (spaced r.z) ∙
    append_assoc (codes "release") (spaced k) (charge_words r.id r.port r.y ++ spaced r.z) in
    let behind : spaced k ++ (charge_words p.id p.port p.y ++ spaced p.z) ≡ spaced k ++ (charge_words q.id q.port q.y ++ spaced q.z) =
    ap (drop 7) (sym (parts p) ∙ (e ∙ parts q)) in
    let words = append_cancel_left (spaced k) (charge_words p.id p.port p.y ++ spaced p.z) (charge_words q.id q.port q.y ++ spaced q.z) behind in
    let (id, port, y, rest) = words_unique p.id q.id p.port q.port p.y q.y (spaced p.z) (spaced q.z) sp.charge sq.charge refl refl words in
    let z = decimal_one p.z q.z sp.z sq.z (ap (drop 1) rest) in
    λ i. record { id = id i; port = port i; y = y i; z = z i }

pub done_unique : (a b : DoneLine) → IsSmallDone a → IsSmallDone b → done_line a ≡ done_line b → a ≡ b
done_unique a b sa sb e =
    let parts = λ (d : DoneLine). append_assoc (codes "done") (spaced d.id) (spaced d.slot) in
    let (id, rest) = spaced_unique (spaced a.slot) (spaced b.slot) a.id b.id (omega (arith, sa.id)) (omega (arith, sb.id)) refl refl
    (ap (drop 4) (sym (parts a) ∙ (e ∙ parts b))) in
    let slot = decimal_one a.slot b.slot (omega (arith, sa.slot)) (omega (arith, sb.slot)) (ap (drop 1) rest) in
    λ i. record { id = id i; slot = slot i }

pub done_one : (xs ys : List DoneLine) → All IsSmallDone xs → All IsSmallDone ys → map done_line xs ≡ map done_line ys → xs ≡ ys
done_one [] [] hx hy e = refl
done_one [] (y ∷ ys) hx hy e = absurd cc
done_one (x ∷ xs) [] hx hy e = absurd cc
done_one (x ∷ xs) (y ∷ ys) hx hy e =
    let same : x ≡ y = done_unique x y (hx 0 x (omega arith)) (hy 0 y (omega arith)) (head_of (done_line x) (done_line y) (map done_line xs) (map done_line ys) e) in
    let more : xs ≡ ys = done_one xs ys (λ k d lt. hx (suc k) d (omega arith)) (λ k d lt. hy (suc k) d (omega arith))
    (tail_is (done_line x) (done_line y) (map done_line xs) (map done_line ys) e) in
    λ i. same i ∷ more i

-- lines that are counted are as many, and each is the other's
counted : {X : Type 0} (line : List X → ℕ → List ℕ) (xs ys : List X) → map (line xs) (range_with_len 0 (length xs)) ≡ map (line ys) (range_with_len 0 (length ys)) →
    (length xs ≡ length ys) × ((k : ℕ) → k < length xs → line xs k ≡ line ys k)
counted line xs ys e =
    let count : length xs ≡ length ys = sym (length-map-range_with_len (line xs) 0 (length xs)) ∙ (ap length e ∙ length-map-range_with_len (line ys) 0 (length ys)) in (
      count,
      λ k lt. sym (get_or-map-range_with_len (line xs) 0 (length xs) k k [] lt (zero-add k)) ∙
          (ap (λ ls. get_or ls k []) e ∙ get_or-map-range_with_len (line ys) 0 (length ys) k k [] (omega (arith, lt, count)) (zero-add k)),
    )

pub order_one : (xs ys : List OnlinePlace) → All (λ (p : OnlinePlace). IsSmallCharge p.id p.port p.y) xs → All (λ (p : OnlinePlace). IsSmallCharge p.id p.port p.y) ys →
    order_lines xs ≡ order_lines ys → xs ≡ ys
order_one xs ys sx sy e =
    let d : OnlinePlace = record { id = 0; port = record { side = Ingress; number = 0 }; y = 0 } in
    let (count, each) = counted order_line_at xs ys e in
    ext_get_or d xs ys count (λ k lt. order_unique (k + 1) (get_or xs k d) (get_or ys k d) (sx k d lt) (sy k d (omega (arith, lt, count))) (each k lt))

pub release_one : (xs ys : List ReleaseLine) → All IsSmallRelease xs → All IsSmallRelease ys → certificate_lines xs ≡ certificate_lines ys → xs ≡ ys
release_one xs ys sx sy e =
    let d : ReleaseLine = record { id = 0; port = record { side = Ingress; number = 0 }; y = 0; z = 0 } in
    let (count, each) = counted release_line_at xs ys e in
    ext_get_or d xs ys count (λ k lt. release_unique (k + 1) (get_or xs k d) (get_or ys k d) (sx k d lt) (sy k d (omega (arith, lt, count))) (each k lt))
