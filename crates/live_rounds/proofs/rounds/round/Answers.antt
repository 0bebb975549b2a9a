-- The parts are played, and what they come to is collected.
use Rattle.std.proofs.Common.{◌≡◌, ◌≤◌, List, length, All, sym, ◌∙◌, subst, arith, vec_capacity}
use Rattle.coflow_units.proofs.Fronts.{written_back}
use Rattle.live_rounds.specs.declared.part.Part.{Part}
use Rattle.live_rounds.specs.Parts.{Collects, Each, IsReady, Plays, pulls_together}
use Rattle.live_rounds.proofs.Collecting.{all_own, as_long, as_many_sessions, done_of, stopped_of}
use Rattle.live_rounds.proofs.PartsBuilt.{built, from_all, parts_ready}
use Rattle.live_rounds.proofs.rounds.round.Goals as goal

pub play_all-requires-clause-ready : goal.play_all-requires-clause-ready
play_all-requires-clause-ready g c κs within =
    let o = c.args.hall.now.setting.opening in
    subst (All (IsReady o)) (sym c.deref_mut.ensures.value)
    (parts_ready o (length c.args.sessions.now) c.args.lines.now 1 c.in-Ok.parts.items c.requires.lines c.in-Ok.ensures.1)

pub collect-requires-clause-room : goal.collect-requires-clause-room
collect-requires-clause-room g c =
    let o = c.args.hall.now.setting.opening in
    let old = c.in-Ok.parts.items in
    let new = c.play_all.new.parts in
    let each : Each (Plays o) c.args.sessions.now c.play_all.new.sessions old new =
    subst (λ (l : List Part). Each (Plays o) c.args.sessions.now c.play_all.new.sessions l new) c.deref_mut.ensures.value c.play_all.ensures in
    let b = built o c.args.lines.now 1 c.args.sessions.now c.play_all.new.sessions old new c.in-Ok.ensures.1 each in
    let many : length new ≡ c.in-Ok.parts.len = as_long (Plays o) c.args.sessions.now c.play_all.new.sessions old new each ∙ sym c.in-Ok.parts.ok.0 in
    let few : length (pulls_together new) ≤ vec_capacity c.in-Ok-with_capacity.pulls =
    omega (arith, b.few, from_all 1 c.args.lines.now, c.in-Ok-with_capacity.ensures.capacity) in
    subst (λ (l : List Part). length (pulls_together l) ≤ vec_capacity c.in-Ok-with_capacity.pulls) (sym (written_back c.in-Ok.parts.len new old many)) few

pub returns-clause-done : goal.returns-clause-done
returns-clause-done g c =
    let o = c.args.hall.now.setting.opening in
    let old = c.in-Ok.parts.items in
    let new = c.play_all.new.parts in
    let each : Each (Plays o) c.args.sessions.now c.play_all.new.sessions old new =
    subst (λ (l : List Part). Each (Plays o) c.args.sessions.now c.play_all.new.sessions l new) c.deref_mut.ensures.value c.play_all.ensures in
    let b = built o c.args.lines.now 1 c.args.sessions.now c.play_all.new.sessions old new c.in-Ok.ensures.1 each in
    let many : length new ≡ c.in-Ok.parts.len = as_long (Plays o) c.args.sessions.now c.play_all.new.sessions old new each ∙ sym c.in-Ok.parts.ok.0 in
    let got : Collects new c.collect.result = subst (λ (l : List Part). Collects l c.collect.result) (written_back c.in-Ok.parts.len new old many) c.collect.ensures in
    done_of o c.args.lines.now c.args.sessions.now c.play_all.new.sessions new c.collect.result b got

pub returns-clause-stopped : goal.returns-clause-stopped
returns-clause-stopped g c = λ stop is.
    let o = c.args.hall.now.setting.opening in
    let old = c.in-Ok.parts.items in
    let new = c.play_all.new.parts in
    let each : Each (Plays o) c.args.sessions.now c.play_all.new.sessions old new =
    subst (λ (l : List Part). Each (Plays o) c.args.sessions.now c.play_all.new.sessions l new) c.deref_mut.ensures.value c.play_all.ensures in
    let b = built o c.args.lines.now 1 c.args.sessions.now c.play_all.new.sessions old new c.in-Ok.ensures.1 each in
    let many : length new ≡ c.in-Ok.parts.len = as_long (Plays o) c.args.sessions.now c.play_all.new.sessions old new each ∙ sym c.in-Ok.parts.ok.0 in
    let got : Collects new c.collect.result = subst (λ (l : List Part). Collects l c.collect.result) (written_back c.in-Ok.parts.len new old many) c.collect.ensures in
    stopped_of o c.args.lines.now c.args.sessions.now c.play_all.new.sessions new stop b (subst (Collects new) is got)

pub returns-clause-own : goal.returns-clause-own
returns-clause-own g c =
    let o = c.args.hall.now.setting.opening in
    all_own o c.args.hall.now c.args.sessions.now c.play_all.new.sessions c.deref_mut.result.now c.play_all.new.parts c.play_all.ensures c.requires.sessions

pub returns-clause-as_many : goal.returns-clause-as_many
returns-clause-as_many g c =
    let o = c.args.hall.now.setting.opening in
    as_many_sessions (Plays o) c.args.sessions.now c.play_all.new.sessions c.deref_mut.result.now c.play_all.new.parts c.play_all.ensures
