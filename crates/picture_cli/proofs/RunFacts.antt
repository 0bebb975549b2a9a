-- What a right online run gives its picture.
use Rattle.std.proofs.Common.{◌≡◌, ◌≢◌, ℕ, ◌+◌, ◌^◌, ◌*◌, ◌-◌, ◌≤◌, zero, suc, true, false, List, [], ◌∷◌, ◌++◌, append-nil, length, map, ap, subst, sym, ◌∙◌, arith}
use Rattle.std.specs.Prelude.{◌==◌, All, Bool, if◌then◌else◌, not, slice_index}
use Rattle.std.specs.List.{filter, range_with_len}
use Rattle.std.proofs.lemmas.Bool.{eq-eqb, ne_eqb}
use Rattle.std.proofs.lemmas.List.{length-map}
use Rattle.std.proofs.lemmas.List.Elements.{filter-append}
use Rattle.std.proofs.Math.Nat.{mul-le-mul_left}
use Rattle.std.proofs.lemmas.Grind.{div_ceil_times}
use Rattle.std.proofs.lemmas.List.FromFn.{length-range_with_len}
use Rattle.std.proofs.lemmas.List.Sums.{count_by-le-length, length-filter}
use Rattle.coflow_units.specs.declared.limits.TheConstants.{MAX_COFLOWS}
use Rattle.coflow_units.specs.Completion.{cost}
use Rattle.coflow_units.specs.Flows.{Instance}
use Rattle.flow_table.specs.Table.{IsTable, TableFacts, instance_of}
use Rattle.online_check.proofs.DoneSteps.{runs_kept}
use Rattle.online_check.specs.Done.{slots_done}
use Rattle.online_check.specs.Sound.{IsSoundOnline}
use Rattle.online_text.specs.declared.value.Online.{Online}
use Rattle.online_text.specs.Online.{IsOnline}
use Rattle.picture.specs.declared.run_value.RunPicture.{RunPicture}
use Rattle.picture.specs.Run.{IsRunOf}
use Rattle.picture.specs.RunSvg.{run_picture_text}
use Rattle.picture.specs.Title.{hundredths}
use Rattle.release_bound.specs.Best.{arrivals_cost}
use Rattle.release_bound.specs.Release.{IsReleased}
use Rattle.schedule_model.proofs.CostSums.{parts_small}
use Rattle.schedule_model.specs.RunList.{slots_in}
use Rattle.picture_cli.specs.Picture.{DrawsRun, IsNearLeast, IsRunPictureOf, arrival_in, completed_in}
use Rattle.picture_cli.specs.Words.{ReportSaid}

-- no schedule that serves nobody before its arrival costs less than the total of a right online run
abbrev pub OnlineLaw : Type 0
OnlineLaw = (i : Instance) (arrival : ℕ → ℕ) (ids : List ℕ) (o : Online) (slots : List (List ℕ)) → IsSoundOnline i arrival ids o → IsReleased i.flows arrival slots →
    o.total ≤ cost i.flows i.weight i.coflows slots

near_least : OnlineLaw → (i : Instance) (arrival : ℕ → ℕ) (ids : List ℕ) (o : Online) (a : ℕ) → IsSoundOnline i arrival ids o → IsNearLeast i arrival o a
near_least law i arrival ids o a sound slots some released =
    let least : ℕ = cost i.flows i.weight i.coflows slots in
    let low : o.total - a ≤ least - a = omega (arith, law i arrival ids o slots sound released) in
    omega (arith, (div_ceil_times (100 * (o.cost - a)) (o.total - a) (omega (arith, some))).0, mul-le-mul_left (hundredths (o.cost - a) (o.total - a)) low)

pub draws_run : OnlineLaw → (t : TableFacts) (ws : List ℕ) (o : Online) (said : ReportSaid) (text : List ℕ) (p : RunPicture) →
    IsSoundOnline (instance_of t ws) (arrival_in t said.slot_ms) t.ids o → IsRunPictureOf t ws o said p → text ≡ run_picture_text p → DrawsRun t ws o said text
draws_run law t ws o said text p sound shows same = record {
  right = sound;
  bounds = λ slots released. law (instance_of t ws) (arrival_in t said.slot_ms) t.ids o slots sound released;
  near = near_least law (instance_of t ws) (arrival_in t said.slot_ms) t.ids o (arrivals_cost (instance_of t ws) (arrival_in t said.slot_ms)) sound;
  picture = p;
  shows = shows;
  text_is = same;
}

-- no more coflows are completed than the table has
pub completed_few : (t : TableFacts) (o : Online) → length (completed_in t o) ≤ length t.ids
completed_few t o =
    let p : ℕ → Bool = λ c. not (slice_index (slots_done o.done) c == 0) in
    let all : List ℕ = range_with_len 0 (length t.ids) in
    omega (arith, length-filter p all, count_by-le-length p all, length-range_with_len 0 (length t.ids))

pub run_short : (o : Online) → IsOnline o → length (slots_in o.runs) ≤ 2199023255551
run_short o is = (runs_kept o is).short

pub run_cost_small : (t : TableFacts) (ws : List ℕ) (arrival : ℕ → ℕ) (o : Online) → IsTable t → IsOnline o → All (λ w. w ≤ 4294967296) ws →
    IsSoundOnline (instance_of t ws) arrival t.ids o → o.cost ≤ 2 ^ 120
run_cost_small t ws arrival o table is small sound =
    omega (arith, sound.cost_is, parts_small t.flows ws (slots_in o.runs) 0 (length t.ids) small (run_short o is), table.few_coflows)

-- the list of numbers grows at its head, and at its end
range_suc : (a n : ℕ) → range_with_len a (n + 1) ≡ a ∷ range_with_len (a + 1) n
range_suc a n = let e : n + 1 ≡ suc n = omega arith in ap (range_with_len a) e

range_more : (a n j : ℕ) → a + n ≡ j → range_with_len a (n + 1) ≡ range_with_len a n ++ j ∷ []
range_more a zero j e = let h : a ≡ j = omega (arith, e) in ap (λ (x : ℕ). x ∷ []) h
range_more a (suc n) j e =
    range_suc a (suc n) ∙ ap (λ (xs : List ℕ). a ∷ xs) ((let s : suc n ≡ n + 1 = omega arith in ap (range_with_len (a + 1)) s) ∙ range_more (a + 1) n j (omega (arith, e)))

abbrev if_chosen : Bool → ℕ → List ℕ
if_chosen b n = if b then n ∷ [] else []

chosen_more : (p : ℕ → Bool) (n : ℕ) → p n ≡ true → filter p (range_with_len 0 (n + 1)) ≡ filter p (range_with_len 0 n) ++ n ∷ []
chosen_more p n e = ap (filter p) (range_more 0 n n (omega arith)) ∙ filter-append p (range_with_len 0 n) (n ∷ []) ∙
    ap (λ b. filter p (range_with_len 0 n) ++ (if_chosen b n)) e

chosen_not : (p : ℕ → Bool) (n : ℕ) → p n ≡ false → filter p (range_with_len 0 (n + 1)) ≡ filter p (range_with_len 0 n)
chosen_not p n e = ap (filter p) (range_more 0 n n (omega arith)) ∙ filter-append p (range_with_len 0 n) (n ∷ []) ∙
    ap (λ b. filter p (range_with_len 0 n) ++ (if_chosen b n)) e ∙ append-nil (filter p (range_with_len 0 n))

-- the next place is taken where its slot is not 0, and is left out where it is
pub taken : (slots : List ℕ) (place slot : ℕ) {old new : List ℕ} → slot ≡ slice_index slots place →
    old ≡ filter (λ c. not (slice_index slots c == 0)) (range_with_len 0 place) → slot ≢ 0 → new ≡ old ++ place ∷ [] →
    new ≡ filter (λ c. not (slice_index slots c == 0)) (range_with_len 0 (place + 1))
taken slots place slot is so_far some pushed =
    let p = λ (c : ℕ). not (slice_index slots c == 0) in
    pushed ∙ ap (λ (xs : List ℕ). xs ++ place ∷ []) so_far ∙
    sym (chosen_more p place (ap (λ (b : Bool). not b) (ne_eqb (slice_index slots place) 0 (λ e. some (is ∙ e)))))

pub left_out : (slots : List ℕ) (place slot : ℕ) {old new : List ℕ} → slot ≡ slice_index slots place →
    old ≡ filter (λ c. not (slice_index slots c == 0)) (range_with_len 0 place) → slot ≡ 0 → new ≡ old →
    new ≡ filter (λ c. not (slice_index slots c == 0)) (range_with_len 0 (place + 1))
left_out slots place slot is so_far none same =
    let p = λ (c : ℕ). not (slice_index slots c == 0) in
    same ∙ so_far ∙ sym (chosen_not p place (ap (λ (b : Bool). not b) (eq-eqb (slice_index slots place) 0 (sym is ∙ none))))

-- the places with slots are the coflows that a run completes
pub completed_as : (t : TableFacts) (o : Online) (slots places : List ℕ) (n : ℕ) →
    places ≡ filter (λ c. not (slice_index slots c == 0)) (range_with_len 0 n) → slots ≡ slots_done o.done → n ≡ length t.ids →
    places ≡ completed_in t o
completed_as t o slots places n is slots_are count =
    is ∙ ap (λ (xs : List ℕ). filter (λ c. not (slice_index xs c == 0)) (range_with_len 0 n)) slots_are ∙
    ap (λ (m : ℕ). filter (λ c. not (slice_index (slots_done o.done) c == 0)) (range_with_len 0 m)) count

-- the numbers at places, of equal lists
pub numbers_as : (numbers all places known picked : List ℕ) → picked ≡ map (slice_index numbers) places → numbers ≡ all → places ≡ known →
    picked ≡ map (slice_index all) known
numbers_as numbers all places known picked is same_numbers same_places =
    is ∙ ap (λ (xs : List ℕ). map (slice_index xs) places) same_numbers ∙ ap (λ (xs : List ℕ). map (slice_index all) xs) same_places

pub cost_as : (t : TableFacts) (ws weights times all : List ℕ) (n : ℕ) → n ≡ arrivals_cost (instance_of t ws) (slice_index times) → ws ≡ weights → times ≡ all →
    n ≡ arrivals_cost (instance_of t weights) (slice_index all)
cost_as t ws weights times all n is same_weights same_times =
    is ∙ ap (λ (xs : List ℕ). arrivals_cost (instance_of t xs) (slice_index times)) same_weights ∙
    ap (λ (xs : List ℕ). arrivals_cost (instance_of t weights) (slice_index xs)) same_times

-- what is known of each completed coflow is known of few
pub few_of : (t : TableFacts) (o : Online) (f : ℕ → ℕ) (xs : List ℕ) → IsTable t → xs ≡ map f (completed_in t o) → length xs ≤ MAX_COFLOWS
few_of t o f xs table is =
    omega (arith, ap (λ (ys : List ℕ). length ys) is, length-map (completed_in t o) f, completed_few t o, table.few_coflows)

-- a run of equal lists
pub run_as : (arrived arrivals ended ends told published : List ℕ) (p : RunPicture) → arrived ≡ arrivals → ended ≡ ends → told ≡ published →
    IsRunOf arrived ended told p → IsRunOf arrivals ends published p
run_as arrived arrivals ended ends told published p a e b is =
    subst (λ (xs : List ℕ). IsRunOf xs ends published p) a
    (subst (λ (xs : List ℕ). IsRunOf arrived xs published p) e (subst (λ (xs : List ℕ). IsRunOf arrived ended xs p) b is))
