-- What the opening of a run makes.
use Rattle.std.proofs.Common.{◌≡◌, ℕ, ◌+◌, ◌<◌, ◌≤◌, true, List, [], ◌∷◌, ◌++◌, length, get_or, Option, Some, None, refl, sym, ap}
use Rattle.std.proofs.Common.{subst, ◌∙◌, arith}
use Rattle.std.specs.Prelude.{All}
use Rattle.coflow_units.specs.declared.limits.TheConstants.{MAX_FLOWS, MAX_SLOT}
use Rattle.journal.specs.declared.command.Command.TheVariants.{Open}
use Rattle.journal.specs.declared.command.Entry.{Entry}
use Rattle.journal.specs.declared.command.Reply.TheVariants.{Closed, Opened}
use Rattle.journal.specs.declared.opening.Opening.{Opening}
use Rattle.journal.specs.Driven.{Drive, driven, is_other, IsUnderWay, opened_in}
use Rattle.journal.specs.Entries.{IsOpenReply}
use Rattle.journal.specs.Fold.{state_of}
use Rattle.journal.specs.Journal.{entry, IsLegal}
use Rattle.coflow_units.specs.Grants.{IsGrants}
use Rattle.coflow_units.specs.Schedule.{IsClear}
use Rattle.coflow_units.proofs.ServedLaws.{grants_clear}
use Rattle.journal.specs.Journal.{line_of}
use Rattle.journal.specs.Runs.{flow_at, flows_granted, grant_in}
use Rattle.journal.specs.Sound.{InRange, IsOpenRun, OnRun}
use Rattle.journal.specs.State.{IsOpening, owed, Run}
use Rattle.journal.proofs.Ingresses.{grant_is}
use Rattle.std.proofs.lemmas.List.Elements.{All-contains}
use Rattle.journal.proofs.Driving.{free}
use Rattle.journal.proofs.Leaving.{others_leave}
use Rattle.journal.proofs.Legal.{legal_front}
use Rattle.journal.proofs.OpenReplies.{open_reply}
use Rattle.journal.proofs.Sound.{legal_sound}
use Rattle.journal.proofs.UnderWay.{opens, running}
use Rattle.client_session.specs.Desk.{DrivenByRoot}
use Rattle.client_session.specs.Grants.{all_granted, flow_granted}
use Rattle.client_session.specs.Drivers.{IsDrivenOn}
use Rattle.client_session.specs.Models.{DriverModel}
use Rattle.client_session.specs.declared.receipt.Receipt.{Receipt}
use Rattle.slot_runner.specs.Settling.{IsOpenRunOf}
use Rattle.slot_runner.proofs.Turns.{others_are_other}

-- the run that an Open with this answer opens, after entries of others
abbrev pub opened_run : List Entry → ℕ → ℕ → ℕ → ℕ → Drive
opened_run others most first slots count = record {
  earlier = others;
  most = most;
  first = first;
  slots = slots;
  count = count;
  between = [];
  answer = Closed first;
  sent = λ p. 0;
}

module _ (o : Opening) (most : ℕ) (old new : DriverModel) (r : Receipt) (on : IsDrivenOn o (Open most) old new r) (closed : (state_of o old.journal).run ≡ None) where
  abbrev pub others : List Entry
  others = on.others.0

  abbrev e : Entry
  e = entry 0 (Open most) r.reply

  legal : IsLegal o (on.before ++ e ∷ [])
  legal = subst (IsLegal o) on.journal on.seen.legal

  pub others_free : All (λ x. is_other x ≡ true) others
  others_free = others_are_other old.journal others (e ∷ []) (subst (λ l. DrivenByRoot (l ++ e ∷ [])) on.others.1 (subst DrivenByRoot on.journal on.seen.driven)) on.others.2

  -- the entries of others left the runs
  pub left_runs : (state_of o on.before).run ≡ (state_of o old.journal).run
  left_runs = ap (λ l. (state_of o l).run) on.others.1 ∙
      (others_leave o old.journal others (subst (IsLegal o) on.others.1 (legal_front o [] on.before (e ∷ []) legal))
      (λ k d lt. free (get_or others k d) (others_free k d lt))).run

  pub left_next : (state_of o on.before).next ≡ (state_of o old.journal).next
  left_next = ap (λ l. (state_of o l).next) on.others.1 ∙
      (others_leave o old.journal others (subst (IsLegal o) on.others.1 (legal_front o [] on.before (e ∷ []) legal))
      (λ k d lt. free (get_or others k d) (others_free k d lt))).slots.next

  -- the reply is one of three
  pub reply_is : IsOpenReply o (state_of o on.before) most r.reply
  reply_is = open_reply o on.before [] 0 most r.reply legal (left_runs ∙ closed)

  module _ (first slots count : ℕ) (opened : r.reply ≡ Opened first slots count) (enough : o.table.ports + 2 ≤ old.left) where
    -- the run is open
    pub is_open : IsOpenRunOf o old.journal (opened_run others most first slots count) new
    is_open = record {
      under_way = subst (λ l. IsUnderWay o old.journal l (opened_run others most first slots count)) (sym (on.journal ∙
          (λ i. on.others.1 i ++ entry 0 (Open most) (opened i) ∷ [])))
          (opens o old.journal (opened_run others most first slots count) refl others_free);
      no_notes = refl;
      calls = omega (arith, enough, on.left);
      position = on.position ∙ on.length_is;
    }

-- while the run is open: its slots, its length and its flows are in range, and what the driver tells of each ingress is
-- the run's grant there, and the flows are the run's
pub record OpenFacts (o : Opening) (before now : List Entry) (d : Drive) : Type 0 where
  pub some : 1 ≤ d.first
  pub first : d.first ≤ MAX_SLOT
  pub long : 1 ≤ d.slots
  pub ends : d.slots ≤ MAX_SLOT + 1
  pub next : d.first ≡ (state_of o before).next
  pub grants : IsGrants o.table.flows (line_of o (opened_in before d)) (owed o (state_of o (opened_in before d))) (driven o before d)
  pub told : flow_granted o now ≡ grant_in o.table.flows (driven o before d)
  pub flows : all_granted o now ≡ driven o before d

on_run : (o : Opening) (now : List Entry) (run : Option Run) (r : Run) → run ≡ Some r → OnRun run (IsOpenRun o.table.flows (state_of o now).sent (state_of o now).next) →
    IsOpenRun o.table.flows (state_of o now).sent (state_of o now).next r
on_run o now run r is sound = subst (λ x. OnRun x (IsOpenRun o.table.flows (state_of o now).sent (state_of o now).next)) is sound

pub open_facts : (o : Opening) (before now : List Entry) (d : Drive) → IsLegal o now → InRange o now → IsUnderWay o before now d → OpenFacts o before now d
open_facts o before now d legal ok under =
    let x = running o before now d legal under in
    let (r, is, first, slots, granted) = x.run in
    let sound = legal_sound o now legal ok in
    let open' = on_run o now (state_of o now).run r is sound.open_run in
    let begins = sound.next_some in
    let at_next = open'.first in
    let some = open'.some in
    let ends = open'.ends in record {
      some = omega (arith, first, at_next, begins);
      first = omega (arith, first, slots, some, ends);
      long = omega (arith, slots, some);
      ends = omega (arith, first, slots, ends);
      next = x.first;
      grants = x.grants;
      told = ap (λ y. λ p. flow_at o.table.flows y p) is ∙ ap (λ l. grant_in o.table.flows l) granted;
      flows = ap flows_granted is ∙ granted;
    }

-- the granted flows are clear
pub facts_clear : (o : Opening) (before now : List Entry) (d : Drive) → OpenFacts o before now d → IsClear o.table.flows (driven o before d)
facts_clear o before now d facts =
    grants_clear o.table.flows (line_of o (opened_in before d)) (owed o (state_of o (opened_in before d))) (driven o before d) facts.grants

-- a granted flow has a number within the limit
pub flow_in_range : (o : Opening) (before now : List Entry) (d : Drive) → IsOpening o → OpenFacts o before now d → (port f : ℕ) → flow_granted o now port ≡ Some f → f <
    MAX_FLOWS
flow_in_range o before now d within facts port f e =
    let is = grant_is o.table.flows (driven o before d) port f (sym (ap (λ w. w port) facts.told) ∙ e) in
    let low = All-contains (λ g. g < length o.table.flows) (driven o before d) f facts.grants.flow is.0 in
    let few = within.table.few_flows in
    omega (arith, low, few)
