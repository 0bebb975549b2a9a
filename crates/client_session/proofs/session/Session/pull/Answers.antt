-- A pull is noted with the number of receipts as its mark.
use Rattle.std.proofs.Common.{◌≡◌, List, length, sym, ap, ◌∙◌, subst, arith}
use Rattle.std.specs.Prelude.{unwrap_or}
use Rattle.std.proofs.lemmas.List.{length-map}
use Rattle.rank_board.specs.Models.{pulled}
use Rattle.client_session.specs.declared.receipt.Receipt.{Receipt}
use Rattle.client_session.specs.declared.desk.Setting.{Setting}
use Rattle.client_session.specs.Models.{HallModel, SessionModel}
use Rattle.client_session.specs.Own.{own_entries, receipt_of}
use Rattle.client_session.proofs.Pulling.{coflows_pulled, notes_one, pass_pulled}
use Rattle.client_session.proofs.session.Session.pull.Goals as goal

pub invariant_of-self : goal.invariant_of-self
invariant_of-self c =
    let i = c.self.invariant in
    let own = own_entries c.self.inside.number c.self.inside.seat.seen in
    let p = c.pull.ensures in
    let mark : c.len.result ≡ length own = omega (
      arith,
      c.len.ensures,
      c.self.inside.receipts.ok.0,
      ap (λ (l : List Receipt). length l) i.receipts_are,
      length-map own
          receipt_of,
    ) in
    let notes = notes_one c.args.coflow c.len.result c.self.inside.rank c.pull.new.seat c.pull.result (λ v r e. (p.rank v r e).2) p.unranked (λ f g e. (p.moved f g e).2) in
    let table = ap (λ (h : HallModel). h.setting.board.coflows) (sym c.hall.view_is) in
    record {
      free = i.free;
      number_is = i.number_is;
      position_is = i.position_is;
      receipts_are = i.receipts_are;
      has_room = i.has_room;
      few = i.few;
      pass = pass_pulled own c.args.coflow c.len.result c.self.inside.rank c.pull.new.seat mark p.later notes i.pass;
      coflow = λ s e.
          let same : s ≡ c.args.hall.now.setting = ap (λ x. unwrap_or x s) (sym e ∙ (ap (λ (m : SessionModel). m.setting) c.self.view_is ∙ c.requires.own.1)) in
          let few : c.args.hall.now.setting.board.coflows ≡ length c.args.hall.now.setting.opening.table.ids =
          subst (λ (h : HallModel). h.setting.board.coflows ≡ length h.setting.opening.table.ids) c.hall.view_is c.hall.invariant.1 in
          coflows_pulled s.board.coflows c.args.coflow c.len.result c.self.inside.rank c.pull.new.seat
          (omega (arith, c.requires.coflow, few, ap (λ (x : Setting). x.board.coflows) same)) notes (i.coflow s e);
    }

pub returns-clause-rank : goal.returns-clause-rank
returns-clause-rank c = λ version rank is.
    let own = own_entries c.self.inside.number c.self.inside.seat.seen in
    let mark : c.len.result ≡ length own = omega (
      arith,
      c.len.ensures,
      c.self.inside.receipts.ok.0,
      ap (λ (l : List Receipt). length l) c.self.invariant.receipts_are,
      length-map own receipt_of,
    ) in
    let e = c.pull.ensures.rank version rank is in
    let whole : c.len.result ≡ length c.args.self.now.own = mark ∙ ap (λ (m : SessionModel). length m.own) c.self.view_is in
    (e.0, e.1, e.2 ∙ (λ i. pulled version c.args.coflow rank (whole i) (c.self.view_is i).rank))
