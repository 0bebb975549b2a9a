-- What wires have of a schedule, from run to run.
use Rattle.std.proofs.Common.{◌≡◌, ℕ, ◌+◌, ◌-◌, ◌≤◌, Bool, true, false, List, [], ◌++◌, get_or, length, refl, sym, ap, subst, ◌∙◌, arith, suc, zero, cond, append_assoc, append-nil}
use Rattle.std.proofs.Common.{Option, Some, None}
use Rattle.std.specs.Prelude.{◌==◌, ◌&&◌}
use Rattle.std.proofs.lemmas.Bool.{lt-ltb}
use Rattle.std.proofs.lemmas.List.{get_or_default}
use Rattle.coflow_units.specs.declared.fabric.Flow.{Flow}
use Rattle.coflow_units.specs.Flows.{ingress_of}
use Rattle.coflow_units.specs.Schedule.{holds}
use Rattle.outside.specs.Wire.{accepted, Accepts}
use Rattle.journal.specs.declared.command.Entry.{Entry}
use Rattle.journal.specs.declared.opening.Opening.{Opening}
use Rattle.journal.specs.Closed.{schedule_of, sent_run, times_on, wire_of}
use Rattle.journal.specs.Driven.{Drive, driven_run}
use Rattle.journal.specs.Journal.{IsLegal}
use Rattle.journal.specs.Sound.{InRange}
use Rattle.journal.proofs.Wires.{none_in_zero, pair_once}
use Rattle.slot_runner.specs.Slots.{AreSent, IsSentAt}
use Rattle.slot_runner.specs.Wires.{NoneFell}
use Rattle.slot_runner.specs.Wires.{IsPartOf}
use Rattle.slot_runner.specs.Wires.{AreAllUnits, AreUnits, HasMore, HaveMore, units_at}

-- ---- what was sent on a wire is of the schedule

pub unit_there : (flows : List Flow) (slots : List (List ℕ)) (port k f : ℕ) →
    units_at flows slots port (k + 1) f ≡ cond {A = ℕ} ((ingress_of flows f == port) && holds (get_or slots k []) f) 1 0
unit_there flows slots port k f =
    let e : k + 1 - 1 ≡ k = omega arith in
    ap {B = ℕ} (λ b. cond (b && ((ingress_of flows f == port) && holds (get_or slots (k + 1 - 1) []) f)) 1 0) (lt-ltb 0 (k + 1) (omega arith)) ∙
    ap {B = ℕ} (λ i. cond ((ingress_of flows f == port) && holds (get_or slots i []) f) 1 0) e

pub all_units : (o : Opening) (journal : List Entry) (port : ℕ) → IsLegal o journal → InRange o journal →
    AreAllUnits o.table.flows (schedule_of o journal) port (wire_of o journal port)
all_units o journal port legal fit zero f = none_in_zero o journal port f legal fit
all_units o journal port legal fit (suc k) f =
    let e : suc k ≡ k + 1 = omega arith in
    ap (λ s. times_on (wire_of o journal port) s f) e ∙ pair_once o journal port k f legal fit ∙
    sym (ap (λ s. units_at o.table.flows (schedule_of o journal) port s f) e ∙ unit_there o.table.flows (schedule_of o journal) port k f)

no_more : (a x y : Bool) → (x ≡ true → y ≡ true) → ◌≤◌ (cond {A = ℕ} (a && x) 1 0) (cond (a && y) 1 0)
no_more false x y h = omega arith
no_more true false y h = omega arith
no_more true true y h = omega (arith, ap {B = ℕ} (λ b. cond b 1 0) (h refl))

part_units : (flows : List Flow) (part whole : List (List ℕ)) (port slot f : ℕ) → IsPartOf part whole → units_at flows part port slot f ≤ units_at flows whole port slot f
part_units flows part whole port zero f is = omega arith
part_units flows part whole port (suc k) f is =
    let e : suc k ≡ k + 1 = omega arith in
    omega (
      arith,
      ap (λ s. units_at flows part port s f) e,
      ap (λ s. units_at flows whole port s f) e,
      unit_there flows part port k f,
      unit_there flows whole port k f,
      no_more (ingress_of flows f == port) (holds (get_or part k []) f) (holds (get_or whole k []) f) (is k f),
    )

-- where the schedule of a journal is part of one, what it sent are units of that one
pub are_units : (o : Opening) (journal : List Entry) (slots : List (List ℕ)) (port : ℕ) → IsLegal o journal → InRange o journal → IsPartOf (schedule_of o journal) slots →
    AreUnits o.table.flows slots port (wire_of o journal port)
are_units o journal slots port legal fit part slot f =
    omega (arith, all_units o journal port legal fit slot f, part_units o.table.flows (schedule_of o journal) slots port slot f part)

-- ---- one wire

abbrev Sent : Type 0
Sent = List (ℕ × ℕ × ℕ)

more_so : (P Q : Sent → Type 0) (b a : Option Sent) → ((s : Sent) → P s → Q s) → HasMore P b a → HasMore Q b a
more_so P Q None a h x = x
more_so P Q (Some l) a h (s, is, p) = (s, is, h s p)

none_more : (b : Option Sent) → HasMore (λ s. s ≡ []) b b
none_more None = refl
none_more (Some l) = ([], ap Some (sym (append-nil l)), refl)

more_both : (x y : Sent) (a b c : Option Sent) → HasMore (λ s. s ≡ x) a b → HasMore (λ s. s ≡ y) b c → HasMore (λ s. s ≡ x ++ y) a c
more_both x y None b c h k = subst (λ o. HasMore (λ s. s ≡ y) o c) h k
more_both x y (Some l) b c (s, is, e) k =
    let (s', is', e') = subst (λ o. HasMore (λ s. s ≡ y) o c) is k in
    (s ++ s', is' ∙ ap Some (append_assoc l s s'), ap (λ l. l ++ s') e ∙ ap (λ l. x ++ l) e')

accepted_more : (slot f n : ℕ) (b a : Option Sent) → Accepts b a slot f n → HasMore (λ s. s ≡ sent_run slot f n) b a
accepted_more slot f n None a h = h
accepted_more slot f n (Some l) a h = (accepted slot f n, h, refl)

-- ---- all wires

module _ {W : Type 0} (faults : W → ℕ) (runs : W → Option Sent) where
  sent_more : (d : Drive) (port : ℕ) (b a : W) (g : Option ℕ) → IsSentAt faults runs d port b a g → HasMore (λ s. s ≡ driven_run d port g) (runs b) (runs a)
  sent_more d port b a None h = subst (λ w. HasMore (λ s. s ≡ []) (runs b) (runs w)) (sym h) (none_more (runs b))
  sent_more d port b a (Some f) h = accepted_more d.first f (d.sent port) (runs b) (runs a) h.run

  sent_later : (d : Drive) (port : ℕ) (b a : W) (g : Option ℕ) → IsSentAt faults runs d port b a g → faults b ≤ faults a
  sent_later d port b a None h = omega (arith, ap faults h)
  sent_later d port b a (Some f) h = h.later

  pub have_so : (P Q : ℕ → Sent → Type 0) (ports : ℕ) (before after : List W) → ((port : ℕ) (s : Sent) → P port s → Q port s) → HaveMore runs P ports before after →
      HaveMore runs Q ports before after
  have_so P Q ports before after h x = record {
    as_many = x.as_many;
    each = λ port b a lt. more_so (P port) (Q port) (runs (get_or before port b)) (runs (get_or after port a)) (h port) (x.each port b a lt);
    further = x.further;
  }

  -- before the first run
  pub have_none : (ports : ℕ) (ws : List W) → ports ≤ length ws → HaveMore runs (λ port s. s ≡ []) ports ws ws
  have_none ports ws long = record {
    as_many = refl;
    each = λ port b a lt. subst (λ w. HasMore (λ s. s ≡ []) (runs (get_or ws port b)) (runs w))
        (get_or_default ws port b a (omega (arith, lt, long))) (none_more (runs (get_or ws port b)));
    further = λ i w le. refl;
  }

  pub none_fell : (ports : ℕ) (ws : List W) → ports ≤ length ws → NoneFell faults ports ws ws
  none_fell ports ws long port b a lt = omega (arith, ap faults (get_or_default ws port b a (omega (arith, lt, long))))

  -- after one run more
  pub have_next : (X Y : ℕ → Sent) (d : Drive) (G : ℕ → Option ℕ) (ports : ℕ) (before mid after : List W) → ((port : ℕ) → Y port ≡ X port ++ driven_run d port (G port)) →
      HaveMore runs (λ port s. s ≡ X port) ports before mid → AreSent faults runs d G ports mid after → HaveMore runs (λ port s. s ≡ Y port) ports before after
  have_next X Y d G ports before mid after on h sent = record {
    as_many = sent.as_many ∙ h.as_many;
    each = λ port b a lt.
        subst (λ y. HasMore (λ s. s ≡ y) (runs (get_or before port b)) (runs (get_or after port a))) (sym (on port))
        (more_both (X port) (driven_run d port (G port)) (runs (get_or before port b)) (runs (get_or mid port b)) (runs (get_or after port a)) (h.each port b b lt)
        (sent_more d port (get_or mid port b) (get_or after port a) (G port) (sent.each port b a lt)));
    further = λ i w le. sent.further i w le ∙ h.further i w le;
  }

  pub fell_next : (d : Drive) (G : ℕ → Option ℕ) (ports : ℕ) (before mid after : List W) → NoneFell faults ports before mid → AreSent faults runs d G ports mid after →
      NoneFell faults ports before after
  fell_next d G ports before mid after h sent port b a lt =
      omega (arith, h port b b lt, sent_later d port (get_or mid port b) (get_or after port a) (G port) (sent.each port b a lt))

  -- where nothing was sent
  pub untouched : (flows : List Flow) (slots : List (List ℕ)) (ports : ℕ) (ws : List W) → ports ≤ length ws → HaveMore runs (AreUnits flows slots) ports ws ws
  untouched flows slots ports ws long =
      have_so (λ port s. s ≡ []) (AreUnits flows slots) ports ws ws (λ port s e. subst (AreUnits flows slots port) (sym e) (λ slot f. omega arith)) (have_none ports ws long)
