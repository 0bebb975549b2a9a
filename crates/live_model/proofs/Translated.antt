-- From sessions and levels to the definitions of a course.
use Rattle.std.proofs.Common.{◌≡◌, ℕ, ◌≤◌, false, List, [], map, get_or, sym, ap, subst, ◌∙◌, arith, zero, suc}
use Rattle.std.specs.Prelude.{All, AllPairs}
use Rattle.std.specs.Option.{IfSome}
use Rattle.std.proofs.lemmas.List.Elements.{All-nil}
use Rattle.journal.specs.declared.command.Entry.{Entry}
use Rattle.journal.specs.declared.opening.Opening.{Opening}
use Rattle.journal.specs.Journal.{IsLegal, version_of}
use Rattle.workload.specs.declared.script.Script.{Script}
use Rattle.client_session.specs.Own.{OwnEntry}
use Rattle.live_model.specs.Script.{is_pull, lines_by}
use Rattle.live_model.specs.Deeds.{Deed, DoesScript, HasEntry, IsPull, IsTwoAbove, version_after}
use Rattle.live_model.specs.Pulls.{IsMadeFor, TellVersions}
use Rattle.live_model.specs.Rounds.{Driving}
use Rattle.live_model.specs.Levels.{AreLevelled, AreSessions, HaveEntries, Levels}
use Rattle.live_model.proofs.OwnStands.{own_have}
use Rattle.live_model.proofs.LevelSteps.{levels_make, levels_move, levels_show, made_at, own_deeds_stand}

no_pairs : (R : Deed → Deed → Type 0) → AllPairs R []
no_pairs R i j d lt lj = absurd (omega (arith, lj))

-- what holds of the deeds of each session, and of none, holds of all
for_all : (deeds : ℕ → List Deed) (P : List Deed → Type 0) → deeds 0 ≡ [] → P [] → ((client : ℕ) → 1 ≤ client → P (deeds client)) → (client : ℕ) → P (deeds client)
for_all deeds P none empty h zero = subst P (sym none) empty
for_all deeds P none empty h (suc k) = h (suc k) (omega arith)

sessions_have_lines : (script : Script) (journal : List Entry) (own : ℕ → List OwnEntry) (deeds : ℕ → List Deed) → AreSessions script journal own deeds → (client : ℕ) →
    map (λ (d : Deed). (d.round, d.line)) (deeds client) ≡ lines_by script client
sessions_have_lines script journal own deeds h zero = ap (map (λ (d : Deed). (d.round, d.line))) h.nobody ∙ sym h.no_line
sessions_have_lines script journal own deeds h (suc k) = (h.session (suc k) (omega arith)).lines

pub sessions_do_script : (script : Script) (journal : List Entry) (own : ℕ → List OwnEntry) (levels : Levels) (deeds : ℕ → List Deed) (driving : Driving) →
    AreSessions script journal own deeds → AreLevelled journal levels deeds driving → DoesScript script journal deeds
sessions_do_script script journal own levels deeds driving h levelled =
    let stand = λ (client : ℕ) (some : 1 ≤ client). let s = h.session client some in own_deeds_stand journal client (own client) (deeds client)
    (subst (HaveEntries journal client) (sym s.entries) (own_have journal client)) s.kept in
    let Commands : List Deed → Type 0 = All (λ (d : Deed). is_pull d.line.asked ≡ false → HasEntry d) in
    let Versions : List Deed → Type 0 = All (λ (d : Deed). IfSome d.position (λ p. d.version ≡ version_after journal p)) in
    let First : List Deed → Type 0 = All (λ (d : Deed). IsPull d → HasEntry d → 2 ≤ d.version) in
    record {
      lines = sessions_have_lines script journal own deeds h;
      entries = λ client some. (stand client some).0;
      commands = for_all deeds Commands h.nobody (All-nil (λ (d : Deed). is_pull d.line.asked ≡ false → HasEntry d)) (λ client some. (h.session client some).commands);
      versions = for_all deeds Versions h.nobody (All-nil (λ (d : Deed). IfSome d.position (λ p. d.version ≡ version_after journal p))) (λ client some. (stand client some).1);
      moved = record {
        first = for_all deeds First h.nobody (All-nil (λ (d : Deed). IsPull d → HasEntry d → 2 ≤ d.version)) (λ client some. (h.session client some).first);
        lines = for_all deeds (AllPairs IsTwoAbove) h.nobody (no_pairs IsTwoAbove) (λ client some i j d lt lj. ((h.session client some).steady i j d lt lj).moved);
        rounds = levels_move journal levels deeds driving levelled;
      };
    }

pub sessions_tell_versions : (o : Opening) (script : Script) (journal : List Entry) (own : ℕ → List OwnEntry) (levels : Levels) (deeds : ℕ → List Deed) (driving : Driving) →
    IsLegal o journal →
    AreSessions script journal own deeds → AreLevelled journal levels deeds driving → TellVersions journal deeds
sessions_tell_versions o script journal own levels deeds driving legal h levelled =
    let Known : List Deed → Type 0 = All (λ (d : Deed). d.version ≤ version_of journal) in
    record {
      known = for_all deeds Known h.nobody (All-nil (λ (d : Deed). d.version ≤ version_of journal)) (λ client some. (h.session client some).known);
      never_fall = for_all deeds (AllPairs (λ (a : Deed) (b : Deed). a.version ≤ b.version)) h.nobody (no_pairs (λ a b. a.version ≤ b.version))
          (λ client some i j d lt lj. ((h.session client some).steady i j d lt lj).never_fall);
      seen = levels_show journal levels deeds driving levelled;
      made_for_lines = for_all deeds (AllPairs (IsMadeFor journal)) h.nobody (no_pairs (IsMadeFor journal))
          (λ client some i j d lt lj pull new.
          let a = get_or (deeds client) i d in
          let b = get_or (deeds client) j d in
          made_at o journal a.version a.version b.position legal new (omega arith) ((h.session client some).steady i j d lt lj).made);
      made_for_rounds = levels_make o journal levels deeds driving legal levelled;
    }
