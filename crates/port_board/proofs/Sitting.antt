-- What each call leaves of an agent's seat.
use Rattle.std.proofs.Common.{◌≡◌, ◌≢◌, ℕ, ◌+◌, ◌<◌, [], sym, ap, refl, subst, arith}
use Rattle.std.specs.Prelude.{All}
use Rattle.std.proofs.lemmas.List.Elements.{All-push, All-filter}
use Rattle.atomic_table.specs.Seated.{TableId}
use Rattle.coflow_units.specs.PortWord.{FitsWord}
use Rattle.port_board.specs.declared.view.Grant.{Grant}
use Rattle.port_board.specs.declared.view.Kind.TheVariants.{Agent}
use Rattle.port_board.specs.declared.view.Step.TheVariants.{Rests}
use Rattle.port_board.specs.declared.answer.Draw.{Draw}
use Rattle.port_board.specs.declared.answer.Draw.TheVariants.{Drawn, Idle, Missed}
use Rattle.port_board.specs.Views.{number_of, found_idle, reported_as}
use Rattle.port_board.specs.Tells.{loaded_now, drawn_now, after_miss}
use Rattle.port_board.proofs.AgentSteps.{M}

abbrev pub SeatOk : ℕ → ℕ → M → Type 0
SeatOk ports words m = (m.1 ≡ []) × (m.0.step ≡ Rests) × (m.0.kind ≡ Agent (number_of m.0.kind)) × (ports + ports ≡ words) ×
    All (λ (g : Grant). (g.port < ports) × FitsWord g.slot g.flow) m.0.out

pub draw_cases : (P : Type 0) (r : Draw) → ((g : Grant) → r ≡ Drawn g → P) → ((a b : ℕ) → r ≡ Missed a b → P) → ((w : ℕ) → r ≢ Idle w) → P
draw_cases P (Drawn g) drawn missed tried = drawn g refl
draw_cases P (Idle w) drawn missed tried = absurd (tried w refl)
draw_cases P (Missed a b) drawn missed tried = missed a b refl

-- a port of a seat is a port of its board
pub in_board : (port ports board key : ℕ) (t u : TableId) → port < ports → ports + ports ≡ t.words → t ≡ u → u.words ≡ board + board → key ≡ board →
    (ports ≡ key) × (port < key) × (ports + port < u.words) × (port < u.words)
in_board port ports board key t u lt p same w k = let words : t.words ≡ u.words = ap (λ (z : TableId). z.words) same in (omega arith, omega arith, omega arith, omega arith)

pub after_drawn : (ports words board port loaded : ℕ) (m : M) (g : Grant) → SeatOk ports words m → g.port + g.port < words → FitsWord g.slot g.flow →
    SeatOk ports words (drawn_now board g loaded (loaded_now port loaded m.0), m.1)
after_drawn ports words board port loaded m g ok lt fits = let p = ok.3 in
    (ok.0, refl, ok.2, ok.3, All-push (λ (h : Grant). (h.port < ports) × FitsWord h.slot h.flow) m.0.out g ok.4 (omega arith, fits))

pub after_missed : (ports words port loaded found : ℕ) (m : M) → SeatOk ports words m → SeatOk ports words (after_miss port found (loaded_now port loaded m.0), m.1)
after_missed ports words port loaded found m ok = (ok.0, refl, ok.2, ok.3, ok.4)

pub after_idle : (ports words port word : ℕ) (m : M) → SeatOk ports words m → SeatOk ports words (found_idle port word m.0, m.1)
after_idle ports words port word m ok = (ok.0, refl, ok.2, ok.3, ok.4)

pub after_report : (ports words sent : ℕ) (g : Grant) (m : M) → SeatOk ports words m → SeatOk ports words (reported_as g sent m.0, m.1)
after_report ports words sent g m ok = (ok.0, refl, ok.2, ok.3, All-filter _ (λ (h : Grant). (h.port < ports) × FitsWord h.slot h.flow) m.0.out ok.4)

-- the same for another table of as many words and another view
pub carry : (ports : ℕ) (t u : TableId) (m k : M) → u ≡ t → k ≡ m → SeatOk ports t.words m → SeatOk ports u.words k
carry ports t u m k a b h = subst (λ (z : TableId × M). SeatOk ports z.0.words z.1) (λ i. (sym a i, sym b i)) h
