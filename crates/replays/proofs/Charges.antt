-- What is charged for the coflows of a line.
use Rattle.std.proofs.Common.{◌≡◌, ℕ, ◌+◌, ◌<◌, ◌≤◌, List, [], ◌∷◌, ◌++◌, get_or, length, map, take, sym, ap, ◌∙◌, Contains}
use Rattle.std.specs.Prelude.{All}
use Rattle.std.proofs.lemmas.List.{get_or_default, map_push, take_all, take_more}
use Rattle.std.proofs.lemmas.List.Elements.{All-contains}
use Rattle.coflow_units.specs.declared.plan.Place.{Place}
use Rattle.coflow_units.specs.Certificate.{front}
use Rattle.coflow_units.specs.Flows.{Instance, IsInstance}
use Rattle.bssi_order.specs.Order.{entries_of, IsOrder}
use Rattle.journal.specs.Chosen.{the_ordering}
use Rattle.journal.proofs.Instances.{only_ordering}
use Rattle.journal.proofs.TallySteps.{map_same}
use Rattle.online_text.specs.declared.value.Epoch.{Epoch}
use Rattle.online_text.specs.declared.value.OnlinePlace.{OnlinePlace}
use Rattle.online_runs.specs.Value.{place_line}
use Rattle.replays.specs.Recorded.{charge_of}

abbrev pub charge_at : List OnlinePlace → OnlinePlace → ℕ → OnlinePlace
charge_at charges none c = get_or charges c none

pub charged_more : (charges : List OnlinePlace) (line : List ℕ) (k : ℕ) (none other : OnlinePlace) (old new : List OnlinePlace) → k < length line →
    All (λ c. c < length charges) line → old ≡ map (charge_at charges none) (take k line) → new ≡ old ++ get_or charges (get_or line k 0) other ∷ [] →
    new ≡ map (charge_at charges none) (take (k + 1) line)
charged_more charges line k none other old new lt within so_far more =
    more ∙ ap (λ l. l ++ get_or charges (get_or line k 0) other ∷ []) so_far ∙
    ap (λ e. map (charge_at charges none) (take k line) ++ e ∷ []) (get_or_default charges (get_or line k 0) other none (within k 0 lt)) ∙
    sym (map_push (charge_at charges none) (take k line) (get_or line k 0)) ∙ ap (map (charge_at charges none)) (sym (take_more line k 0 lt))

pub charged_all : (charges : List OnlinePlace) (line : List ℕ) (k : ℕ) (none : OnlinePlace) (all : List OnlinePlace) → length line ≤ k →
    all ≡ map (charge_at charges none) (take k line) → all ≡ map (charge_at charges none) line
charged_all charges line k none all past so_far = so_far ∙ ap (map (charge_at charges none)) (take_all k line past)

-- what is charged for a line of the coflows of an instance, whose order these places are
pub line_charged : (i : Instance) (ids : List ℕ) (places : List Place) (charges given : List OnlinePlace) (line : List ℕ) (none : OnlinePlace) → given ≡ charges → IsInstance i →
    IsOrder i places →
    ((c : ℕ) (d : OnlinePlace) → Contains (front (entries_of places)) c → get_or charges c d ≡ place_line ids (charge_of (entries_of places) c)) →
    ((c : ℕ) → Contains line c → Contains i.coflows c) → map (charge_at given none) line ≡ map (λ c. place_line ids (charge_of (the_ordering i) c)) line
line_charged i ids places charges given line none lent inst order filled within =
    map_same (charge_at given none) (λ c. place_line ids (charge_of (the_ordering i) c)) line
    (λ c has.
    let named = All-contains (Contains (front (entries_of places))) i.coflows c order.ordering.certificate.all (within c has) in
    ap (λ l. get_or l c none) lent ∙ filled c none named ∙ ap (λ es. place_line ids (charge_of es c)) (only_ordering i (entries_of places) inst order.ordering))

abbrev pub epoch : ℕ → List OnlinePlace → ℕ → Epoch
epoch time places n = record { time = time; places = places; bound = n }

pub epoch_is : (time : ℕ) (ls ms : List OnlinePlace) (m n : ℕ) → ls ≡ ms → m ≡ n → epoch time ls m ≡ epoch time ms n
epoch_is time ls ms m n places worth = ap (λ l. epoch time l m) places ∙ ap (epoch time ms) worth
