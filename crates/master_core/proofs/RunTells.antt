-- What the kept run tells of the open run, before and after a note.
use Rattle.std.proofs.Common.{◌≡◌, ℕ, ◌<◌, Bool, List, ◌∷◌, inl, inr, Option, Some, None, refl, sym, ap, ◌∙◌, arith}
use Rattle.std.specs.Prelude.{if◌then◌else◌, slice_set}
use Rattle.std.proofs.lemmas.Bool.{cases_eq, eq-eqb, ne_eqb}
use Rattle.std.proofs.lemmas.List.{get_or-set_other, get_or-set_same, length-set}
use Rattle.coflow_units.specs.declared.fabric.Flow.{Flow}
use Rattle.journal.specs.declared.command.Reply.{Reply}
use Rattle.journal.specs.declared.command.Reply.TheVariants.{NotGranted, Noted}
use Rattle.journal.specs.State.{Run}
use Rattle.journal.specs.Runs.{flow_at, flows_granted, grant_in, note_in, noted_at}
use Rattle.journal.specs.Fold.{noted_in}
use Rattle.journal.specs.Answer.{noted, on_run}
use Rattle.master_core.specs.OpenRun.{KeptRun, flow_kept, flows_kept, granted_at, kept_note, note_at, note_of, number_noted, with_note}
use Rattle.master_core.proofs.GrantSteps.{grant_told}
use Rattle.master_core.specs.Standing.{TellsOpen, TellsRun}

-- ---- the grant at an ingress

pub flow_told : (flows : List Flow) (ports : ℕ) (r : Option Run) (x : Option KeptRun) (p : ℕ) → TellsRun flows ports r x → flow_kept x p ≡ flow_at flows r p
flow_told flows ports None None p t = refl
flow_told flows ports None (Some x) p t = absurd t
flow_told flows ports (Some r) None p t = absurd t
flow_told flows ports (Some r) (Some x) p t = sym (grant_told flows r.granted x.tables p t.at)

pub flows_told : (flows : List Flow) (ports : ℕ) (r : Option Run) (x : Option KeptRun) → TellsRun flows ports r x → flows_kept x ≡ flows_granted r
flows_told flows ports None None t = refl
flows_told flows ports None (Some x) t = absurd t
flows_told flows ports (Some r) None t = absurd t
flows_told flows ports (Some r) (Some x) t = t.granted

-- ---- notes

pub note_told : (flows : List Flow) (ports : ℕ) (r : Option Run) (x : Option KeptRun) (p : ℕ) → p < ports → TellsRun flows ports r x → kept_note x p ≡ noted_at r p
note_told flows ports None None p lt t = refl
note_told flows ports None (Some x) p lt t = absurd t
note_told flows ports (Some r) None p lt t = absurd t
note_told flows ports (Some r) (Some x) p lt t = t.noted p lt

abbrev reply_for : ℕ → Option ℕ → Reply
reply_for p None = NotGranted p
reply_for p (Some n) = Noted n

noted_by : (r : Run) (p units : ℕ) (g : Option ℕ) → noted r p units g ≡ reply_for p (note_of r.slots units g)
noted_by r p units None = refl
noted_by r p units (Some f) = refl

short_told : (flows : List Flow) (ports : ℕ) (r : Option Run) (x : Option KeptRun) (p units : ℕ) → TellsRun flows ports r x →
    on_run r (λ r. noted r p units (grant_in flows r.granted p)) (NotGranted p) ≡ reply_for p (number_noted x p units)
short_told flows ports None None p units t = refl
short_told flows ports None (Some x) p units t = absurd t
short_told flows ports (Some r) None p units t = absurd t
short_told flows ports (Some r) (Some x) p units t =
    noted_by r p units (grant_in flows r.granted p) ∙ ap (λ g. reply_for p (note_of r.slots units g)) (grant_told flows r.granted x.tables p t.at) ∙
    ap (λ n. reply_for p (note_of n units (granted_at x.tables p))) (sym t.slots)

note_kept : (flows : List Flow) (ports : ℕ) (r : Run) (x : KeptRun) (p n : ℕ) → p < ports → TellsOpen flows ports r x →
    TellsOpen flows ports (record r { notes = (p, n) ∷ r.notes }) (record x { noted = slice_set x.noted p (Some n) })
note_kept flows ports r x p n lt t = record {
  first = t.first;
  slots = t.slots;
  granted = t.granted;
  at = t.at;
  noted_len = length-set x.noted p (Some n) ∙ t.noted_len;
  noted = λ q low. elim (cases_eq q p) [
    | inl e ↦
        ap (note_at (slice_set x.noted p (Some n))) e ∙ get_or-set_same x.noted p (Some n) None (omega (arith, t.noted_len))
        ∙ sym (ap (λ (b : Bool). if b then Some n else note_in r.notes q) (eq-eqb p q (sym e)))
    | inr ne ↦ get_or-set_other x.noted p q (Some n) None ne ∙ t.noted q low ∙ sym (ap (λ (b : Bool). if b then Some n else note_in r.notes q) (ne_eqb p q (λ e. ne (sym e))))
  ];
}

pub run_noted : (flows : List Flow) (ports : ℕ) (r : Option Run) (x : Option KeptRun) (p n : ℕ) → p < ports → TellsRun flows ports r x →
    TellsRun flows ports (noted_in r p n) (with_note x p (Some n))
run_noted flows ports None None p n lt t = t
run_noted flows ports None (Some x) p n lt t = absurd t
run_noted flows ports (Some r) None p n lt t = absurd t
run_noted flows ports (Some r) (Some x) p n lt t = note_kept flows ports r x p n lt t

pub answer_noted : (flows : List Flow) (ports : ℕ) (r : Option Run) (x : Option KeptRun) (p units n : ℕ) → TellsRun flows ports r x → number_noted x p units ≡ Some n →
    on_run r (λ r. noted r p units (grant_in flows r.granted p)) (NotGranted p) ≡ Noted n
answer_noted flows ports r x p units n t e = short_told flows ports r x p units t ∙ ap (reply_for p) e

pub answer_not_granted : (flows : List Flow) (ports : ℕ) (r : Option Run) (x : Option KeptRun) (p units : ℕ) → TellsRun flows ports r x → number_noted x p units ≡ None →
    on_run r (λ r. noted r p units (grant_in flows r.granted p)) (NotGranted p) ≡ NotGranted p
answer_not_granted flows ports r x p units t e = short_told flows ports r x p units t ∙ ap (reply_for p) e
