-- All sessions came back, so the turnstile gives the desk out, and its master's journal holds all that they had seen.
use Rattle.std.proofs.Common.{◌≡◌, map, sym, ap, ◌∙◌, subst}
use Rattle.std.specs.Prelude.{All}
use Rattle.std.proofs.lemmas.List.Elements.{All-map}
use Rattle.rank_board.specs.Models.{BoardModel, SeatModel}
use Rattle.client_session.specs.declared.desk.Setting.{Setting}
use Rattle.client_session.specs.Closes.{IsClosed}
use Rattle.client_session.specs.Desk.{DeskModel, IsSeen}
use Rattle.client_session.specs.Models.{ClosingModel, SessionModel}
use Rattle.client_session.specs.Desk.{WasMet}
use Rattle.client_session.proofs.Endings.{all_back, hall_closed}
use Rattle.client_session.proofs.close.Closing.again.Goals as goal

pub close-requires-clause-all : goal.close-requires-clause-all
close-requires-clause-all c =
    let r = c.rejoin_all.ensures in
    all_back c.self.inside.hall c.self.inside.driver c.self.inside.sessions.items c.into_root-root.result c.rejoin_all.new.root c.into_root-root.ensures.root r.root r.own_entries
    r.back r.few c.self.invariant.all

pub meet_all-requires-clause-ranks : goal.meet_all-requires-clause-ranks
meet_all-requires-clause-ranks c =
    let parts = c.into_parts-gate in
    let board = parts.result.1 in
    let at : c.self.inside.hall.setting.board.table ≡ board.table = ap (λ (b : BoardModel). b.table) (sym parts.ensures.board) in
    let of : All (λ (r : SeatModel). r.table ≡ board.table) (map (λ (s : SessionModel). s.rank) c.self.inside.sessions.items) =
    All-map (λ (r : SeatModel). r.table ≡ board.table) (λ (s : SessionModel). s.rank) c.self.inside.sessions.items (λ k d lt. (c.self.invariant.sessions k d lt).2 ∙ at) in
    subst (All (λ (r : SeatModel). r.table ≡ board.table)) (sym c.rejoin_all.ensures.ranks) of

pub returns-clause-closed : goal.returns-clause-closed
returns-clause-closed c =
    let hall = c.self.inside.hall in
    let sessions = c.self.inside.sessions.items in
    let r = c.rejoin_all.ensures in
    let closed = c.in-Ok-close.ensures in
    let desk = c.in-Ok-close.desk in
    let same : c.meet_all.new.desk ≡ desk = c.meet_all.ensures.desk in
    let parts = c.into_parts-gate.ensures in
    let at : desk.setting ≡ hall.setting = closed.setting.0 ∙ parts.gate.1 in
    let seen : IsSeen hall.setting.opening desk.journal =
    subst (λ (s : Setting). IsSeen s.opening desk.journal) at (subst (λ (d : DeskModel). IsSeen d.setting.opening d.journal) same c.into_master.ensures.seen) in
    let met : All (WasMet hall.setting.opening desk.journal) (map (λ (s : SessionModel). s.rank) sessions) =
    subst (λ (s : Setting). All (WasMet s.opening desk.journal) (map (λ (s : SessionModel). s.rank) sessions)) at (
    subst (All (WasMet desk.setting.opening desk.journal)) r.ranks c.meet_all.ensures.met
    ) in
    let opening : c.into_master.result.opening ≡ hall.setting.opening =
    c.into_master.ensures.opening ∙ (ap (λ (d : DeskModel). d.setting.opening) same ∙ ap (λ (s : Setting). s.opening) at) in
    let journal : c.into_master.result.journal ≡ desk.journal = c.into_master.ensures.journal ∙ ap (λ (d : DeskModel). d.journal) same in
    let is : IsClosed hall c.self.inside.driver sessions c.into_master.result =
    hall_closed hall c.self.inside.driver sessions c.into_root-root.result c.rejoin_all.new.root c.into_root-root.ensures.root r.root r.own_entries r.back r.few
    c.self.invariant.all desk.journal closed.root closed.seats closed.numbers closed.others seen parts.coflows (λ k d lt. (c.self.invariant.sessions k d lt).1) met
    c.into_master.result opening journal in
    subst (λ (m : ClosingModel). IsClosed m.hall m.driver m.sessions c.into_master.result) c.self.view_is is
