-- The answer Busy comes exactly where a drawn post is to be settled, and such a step changes nothing.
use Rattle.std.proofs.Common.{◌≡◌, ℕ, Bool, true, false, refl, sym, ap, ◌∙◌}
use Rattle.std.specs.Prelude.{if◌then◌else◌}
use Rattle.std.proofs.lemmas.List.{set-get_or}
use Rattle.coflow_units.specs.PortWord.{PortStage, word_of}
use Rattle.coflow_units.specs.PortWord.PortStage.{drawn}
use Rattle.world_model.specs.declared.event.Event.{Event}
use Rattle.world_model.specs.declared.event.Event.TheVariants.{Settle}
use Rattle.world_model.specs.declared.event.Happened.{Happened}
use Rattle.world_model.specs.declared.event.Happened.TheVariants.{Blocked, Busy}
use Rattle.world_model.specs.Port.{PortFacts, answered_by, idle_port, settled_by}
use Rattle.world_model.specs.World.{WorldFacts, port_at}
use Rattle.world_model.specs.Guards.{can}
use Rattle.world_model.specs.Steps.{IsBusy, answered, happened, moved, with_port, world_after}
use Rattle.journal.proofs.Replies.{no_way}

abbrev is_busy : Happened → Bool
is_busy (Busy word) = true
is_busy x = false

abbrev word_in : Happened → ℕ
word_in (Busy word) = word
word_in x = 0

not_busy : {A : Type 0} (x : Happened) (word : ℕ) → is_busy x ≡ false → x ≡ Busy word → A
not_busy x word e is = no_way (sym e ∙ ap is_busy is)

by_stage : (y : PortFacts) (stage : PortStage) (word : ℕ) → answered_by y stage ≡ Busy word → (agent : ℕ) × (stage ≡ drawn agent) × (word ≡ word_of (drawn agent) y.slot y.flow)
by_stage y (drawn a) word is = (a, refl, sym (ap word_in is))
by_stage y stage word is = not_busy (answered_by y stage) word refl is

answered_busy : (w : WorldFacts) (e : Event) (word : ℕ) → can w e ≡ true → answered w e ≡ Busy word → IsBusy w e word
answered_busy w (Settle port) word may is = let (a, stage, word_is) = by_stage (port_at w port) (port_at w port).stage word is in (a, may, stage, word_is)
answered_busy w e word may is = not_busy (answered w e) word refl is

busy_by : (w : WorldFacts) (e : Event) (word : ℕ) (b : Bool) → can w e ≡ b → (if b then answered w e else Blocked) ≡ Busy word → IsBusy w e word
busy_by w e word true may is = answered_busy w e word may is
busy_by w e word false may is = not_busy Blocked word refl is

-- a drawn post stays as it is
drawn_stays : (w : WorldFacts) (port : ℕ) (a : ℕ) → (port_at w port).stage ≡ drawn a → moved w (Settle port) ≡ w
drawn_stays w port a stage = ap (λ (s : PortStage). with_port w port (settled_by (port_at w port) s)) stage ∙ ap (λ l. record w { ports = l }) (set-get_or w.ports port idle_port)

busy_stays : (w : WorldFacts) (e : Event) (word : ℕ) → IsBusy w e word → world_after w e ≡ w
busy_stays w (Settle port) word (a, may, stage, is) = ap (λ b. if b then moved w (Settle port) else w) may ∙ drawn_stays w port a stage
busy_stays w e word h = absurd h

pub busy_is : (w : WorldFacts) (e : Event) (word : ℕ) → happened w e ≡ Busy word → IsBusy w e word × (world_after w e ≡ w)
busy_is w e word is = let busy = busy_by w e word (can w e) refl is in (busy, busy_stays w e word busy)

pub drawn_is_busy : (w : WorldFacts) (e : Event) (word : ℕ) → IsBusy w e word → happened w e ≡ Busy word
drawn_is_busy w (Settle port) word (a, may, stage, is) =
    ap (λ b. if b then answered w (Settle port) else Blocked) may ∙ ap (λ (s : PortStage). answered_by (port_at w port) s) stage ∙ ap (λ n. Busy n) (sym is)
drawn_is_busy w e word h = absurd h
