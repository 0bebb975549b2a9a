-- The seat met the publisher around a turn.
use Rattle.std.proofs.Common.{◌≡◌, ◌≤◌, [], ◌∷◌, ◌++◌, sym, ap, ◌∙◌, subst, arith, append-nil, true≢false, is_ok}
use Rattle.std.specs.Prelude.{All}
use Rattle.std.proofs.lemmas.Result.{IfOk-at_ok}
use Rattle.journal.specs.Answer.{reply_of}
use Rattle.journal.specs.Journal.{adds, entry, is_full, journal_after, version_of}
use Rattle.journal.proofs.Growth.{version_append}
use Rattle.rank_board.specs.Models.{SeatModel}
use Rattle.client_session.specs.Own.{look_version}
use Rattle.client_session.specs.Desk.{AddsEntry, DeskModel, KeepsLooks, MetAt}
use Rattle.client_session.proofs.Agreement.{one_added, version_stays}
use Rattle.client_session.proofs.Passes.{keeps_more}
use Rattle.client_session.proofs.desk.Desk.answer.Goals.{in-Publish, in_default}
use Rattle.client_session.proofs.desk.Desk.answer.Goals as goal

pub returns : goal.returns
returns c =
    let old = c.args.self.now in
    let o = old.setting.opening in
    let journal = old.journal in
    let seat = c.args.seat.now in
    let who = c.args.who in
    let k = c.args.command in
    let s = c.step-reply.ensures in
    let last = c.meet-2.ensures in
    let after = c.meet-2.new.self.journal in
    let met_seat = c.meet-2.new.seat in
    let desk : c.match-command.self ≡ old = elim c.match-command.branch [ in-Publish w ↦ w.self-is ∙ w.meet.ensures.desk | in_default w ↦ w.self-is ] in
    let table : c.match-command.seat.table ≡ seat.table = elim c.match-command.branch [
      | in-Publish w ↦ ap (λ (x : SeatModel). x.table) w.seat-is ∙ ap (λ (x : SeatModel). x.table) w.meet.ensures.seat
      | in_default w ↦ ap (λ (x : SeatModel). x.table) w.seat-is
    ] in
    let id : c.match-command.seat.id ≡ seat.id = elim c.match-command.branch [
      | in-Publish w ↦ ap (λ (x : SeatModel). x.id) w.seat-is ∙ ap (λ (x : SeatModel). x.id) w.meet.ensures.seat
      | in_default w ↦ ap (λ (x : SeatModel). x.id) w.seat-is
    ] in
    let pulls : c.match-command.seat.pulls ≡ seat.pulls = elim c.match-command.branch [
      | in-Publish w ↦ ap (λ (x : SeatModel). x.pulls) w.seat-is ∙ ap (λ (x : SeatModel). x.pulls) w.meet.ensures.seat
      | in_default w ↦ ap (λ (x : SeatModel). x.pulls) w.seat-is
    ] in
    let stepped : c.step-reply.new.self.journal ≡ journal_after o journal who k = s.journal ∙ ap (λ (d : DeskModel). journal_after d.setting.opening d.journal who k) desk in
    let before : seat.seen ≤ version_of journal = elim c.match-command.branch [
      | in-Publish w ↦ w.meet.ensures.seen
      | in_default w ↦
          let a = subst (λ (x : SeatModel). x.seen ≤ version_of c.step-reply.new.self.journal) w.seat-is last.seen in
          omega (arith, a, ap version_of stepped, version_stays o journal who k w.in_default.not-Publish)
    ] in
    let setting = ap (λ (d : DeskModel). d.setting) last.desk ∙ (s.setting ∙ ap (λ (d : DeskModel). d.setting) desk) in
    let reply : c.step-reply.result ≡ reply_of o journal k = s.reply ∙ ap (λ (d : DeskModel). reply_of d.setting.opening d.journal k) desk in
    let ends : after ≡ journal_after o journal who k = ap (λ (d : DeskModel). d.journal) last.desk ∙ stepped in
    let one = one_added o journal who k (λ n e. c.in_default-reply.not-Full n (reply ∙ e)) in
    let adds_entry : AddsEntry journal after who k (record { position = c.position.result; version = c.version.result; reply = c.step-reply.result }) = record {
      room = ap is_full reply ∙ one.0;
      journal = ends ∙ (one.1 ∙ ap (λ r. journal ++ entry who k r ∷ []) (sym reply));
      position = c.position.ensures.position;
      version = c.version.ensures ∙ ap (λ (d : DeskModel). version_of d.journal) c.self.view_is;
    } in
    let seen : met_seat.seen ≡ version_of after = ap (λ (x : SeatModel). x.seen) last.seat ∙ ap (λ (d : DeskModel). version_of d.journal) (sym last.desk) in
    let met : MetAt journal after seat met_seat = record {
      seen_before = before;
      seen = seen;
      looks = subst (λ (d : DeskModel). All (λ look. look_version look ≤ version_of d.journal) met_seat.looks) (sym last.desk) last.looks;
    } in
    let grows : seat.seen ≤ met_seat.seen = omega (arith, before, seen, ap version_of ends, version_append journal (adds who k (reply_of o journal k))) in
    let once : KeepsLooks seat c.match-command.seat = elim c.match-command.branch [
      | in-Publish w ↦ (
        (0, version_of journal) ∷ [],
        ap (λ (x : SeatModel). x.looks) w.seat-is ∙ ap (λ (x : SeatModel). x.looks) w.meet.ensures.seat,
      )
      | in_default w ↦ ([], ap (λ (x : SeatModel). x.looks) w.seat-is ∙ sym (append-nil seat.looks))
    ] in
    let looks : KeepsLooks seat met_seat = keeps_more seat c.match-command.seat met_seat ((0, version_of c.step-reply.new.self.journal) ∷ []) once
    (ap (λ (x : SeatModel). x.looks) last.seat) in
    record {
      setting = setting;
      entry = λ r is. IfOk-at_ok (λ r. AddsEntry journal after who k r) is adds_entry;
      met = λ r is. met;
      full = λ n is. absurd (true≢false (ap is_ok is));
      seat = (
        ap (λ (x : SeatModel). x.table) last.seat ∙ table,
        ap (λ (x : SeatModel). x.id) last.seat ∙ id,
        ap (λ (x : SeatModel). x.pulls) last.seat ∙ pulls,
        looks,
        grows,
      );
    }
