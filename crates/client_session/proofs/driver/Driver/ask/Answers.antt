-- A turn adds the driver's entry, or finds no room.
use Rattle.std.proofs.Common.{◌≡◌, ℕ, ◌-◌, ◌<◌, ◌≤◌, length, sym, ap, ◌∙◌, subst, arith, Err}
use Rattle.std.specs.Prelude.{unwrap_or}
use Rattle.std.proofs.lemmas.Bool.{ltb-false, ltb-true}
use Rattle.journal.specs.Answer.{room}
use Rattle.client_session.specs.declared.desk.Setting.{Setting}
use Rattle.client_session.specs.declared.receipt.Answer.{Answer}
use Rattle.client_session.specs.Answers.{answer_of}
use Rattle.client_session.specs.Desk.{IsSeen}
use Rattle.client_session.specs.Grants.{TellsGrants}
use Rattle.client_session.specs.Drivers.{IsDriverTurn}
use Rattle.client_session.specs.Models.{DriverModel}
use Rattle.client_session.proofs.Driving.{driver_kept, driver_model, driver_turned, none_left, numbers_after, root_left, root_may_leave}
use Rattle.client_session.proofs.driver.Driver.ask.Goals as goal

pub returns-then-is_spent : goal.returns-then-is_spent
returns-then-is_spent g c =
    let left = ap (λ (m : DriverModel). m.left) c.self.view_is in
    let low = ltb-true c.self.inside.left 1 (sym c.is_spent.ensures ∙ c.if-is_spent.true) in
    record { turn = none_left c.args.hall.now.setting.opening c.args.command 1 c.args.self.now (omega (arith, left, low)) }

pub end_turn-self-inside-requires-clause-list : goal.end_turn-self-inside-requires-clause-list
end_turn-self-inside-requires-clause-list g c =
    let a = c.drive-answer.ensures in
    root_may_leave c.self.inside.root c.enter_root-turn.new.root c.enter_root-turn.result.value.journal c.drive-answer.new.self.journal c.args.command c.drive-answer.result
    c.enter_root-turn.ensures.root a.entry (λ n e. (a.full n e).0)

-- the list has a place for each port
pub end_turn-self-inside-requires-clause-ports : goal.end_turn-self-inside-requires-clause-ports
end_turn-self-inside-requires-clause-ports g c =
    let told = c.self.invariant.grants c.enter_root-turn.result.value.setting c.enter_root-turn.ensures.setting in
    told.ports ∙ ap (λ (x : Setting). x.opening.table.ports) (sym c.drive-answer.ensures.setting)

pub invariant_of-self : goal.invariant_of-self
invariant_of-self g c =
    let d = c.self.inside in
    let k = c.args.command in
    let o = c.args.hall.now.setting.opening in
    let journal = c.enter_root-turn.result.value.journal in
    let after = c.drive-answer.new.self.journal in
    let result = c.drive-answer.result in
    let a = c.drive-answer.ensures in
    let e = c.enter_root-turn.ensures in
    let t = c.end_turn-self-inside.ensures in
    let end = c.end_turn-self-inside in
    let final = root_left d.root c.enter_root-turn.new.root end.new.root journal after e.root t.root in
    let above = numbers_after d.root.made journal after k result a.entry (λ n e. (a.full n e).0) e.numbers in
    driver_kept d.root end.new.root d.rank d.left d.turned d.position end.result d.granted journal after c.self.invariant final e.list t.position e.numbers
    end.new.granted above
    (λ s is.
    let same : c.drive-answer.new.self.setting ≡ s = a.setting ∙ ap (λ x. unwrap_or x s) (sym e.setting ∙ is) in
    (subst (λ (x : Setting). IsSeen x.opening after) same t.seen, subst (λ (x : Setting). TellsGrants x.opening after end.new.granted) same t.granted))

pub returns : goal.returns
returns g c =
    let d = c.self.inside in
    let k = c.args.command in
    let o = c.args.hall.now.setting.opening in
    let journal = c.enter_root-turn.result.value.journal in
    let after = c.drive-answer.new.self.journal in
    let result = c.drive-answer.result in
    let a = c.drive-answer.ensures in
    let e = c.enter_root-turn.ensures in
    let t = c.end_turn-self-inside.ensures in
    let end = c.end_turn-self-inside in
    let final = root_left d.root c.enter_root-turn.new.root end.new.root journal after e.root t.root in
    let above = numbers_after d.root.made journal after k result a.entry (λ n e. (a.full n e).0) e.numbers in
    let entered : c.enter_root-turn.result.value.setting ≡ c.args.hall.now.setting =
    ap (λ x. unwrap_or x c.args.hall.now.setting) (sym e.setting ∙ (ap (λ (m : DriverModel). m.setting) c.self.view_is ∙ c.requires.own.1)) in
    let seen = subst (λ (x : Setting). IsSeen x.opening after) (a.setting ∙ entered) t.seen in
    let some : 0 < d.left = omega (arith, ltb-false d.left 1 (sym c.is_spent.ensures ∙ c.if-is_spent.false)) in
    let full : (n : ℕ) → result ≡ Err n → (after ≡ journal) × (n ≡ length journal) × (room o k ≤ n) = λ n err.
    let f = a.full n err in (f.0, f.1, subst (λ (x : Setting). room x.opening k ≤ n) entered f.2) in
    let turned = driver_turned d.root end.new.root d.rank d.left d.turned d.position end.result d.granted journal after c.self.invariant final e.list t.position e.numbers
    o k some seen above result a.entry full in
    let new = driver_model end.new.root d.rank (d.left - 1) end.result end.result in
    record {
      turn = subst (λ (x : Answer). IsDriverTurn o k 1 c.args.self.now new x) (sym c.of_turn.ensures)
          (subst (λ (s : DriverModel). IsDriverTurn o k 1 s new (answer_of result)) c.self.view_is turned);
    }
