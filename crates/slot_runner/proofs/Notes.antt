-- Ports are noted one after the other while the run is under way.
use Rattle.std.proofs.Common.{◌≡◌, ◌≢◌, inl, inr, ℕ, ◌+◌, ◌<◌, Bool, true, false, List, [], ◌∷◌, ◌++◌, length, Some, refl, sym, ap, subst, ◌∙◌}
use Rattle.std.proofs.Common.{arith, append-nil, length-append, cond, suc, zero}
use Rattle.std.specs.Prelude.{nat_lt, if◌then◌else◌, ◌==◌}
use Rattle.std.proofs.lemmas.Bool.{cases_eq, eq-eqb, le-ltb, lt-ltb, ne_eqb}
use Rattle.std.proofs.lemmas.List.Elements.{filter-append}
use Rattle.std.proofs.lemmas.List.Sums.{sum_by-cons}
use Rattle.turnstile.specs.Histories.{NoneBy}
use Rattle.journal.specs.declared.command.Command.{Command}
use Rattle.journal.specs.declared.command.Command.TheVariants.{Short}
use Rattle.journal.specs.declared.command.Entry.{Entry}
use Rattle.journal.specs.declared.command.Reply.{Reply}
use Rattle.journal.specs.declared.opening.Opening.{Opening}
use Rattle.journal.specs.Driven.{Drive, driven, driver_entries, IsUnderWay, NoneNotedFrom, notes_port, times_noted}
use Rattle.journal.specs.Journal.{entry}
use Rattle.journal.specs.Runs.{grant_in}
use Rattle.journal.proofs.Ingresses.{grant_is}
use Rattle.journal.proofs.UnderWay.{note_more, noted_both, others_note_none}
use Rattle.client_session.specs.Desk.{DrivenByRoot}
use Rattle.client_session.specs.Drivers.{GrownByOthers, IsDrivenOn, StaysInHall, who_of}
use Rattle.client_session.specs.Models.{DriverModel}
use Rattle.client_session.specs.declared.receipt.Receipt.{Receipt}
use Rattle.slot_runner.specs.Settling.{AreNoted, CallsFall, IsOpenRunOf}
use Rattle.slot_runner.proofs.Turns.{met_under_way, others_are_other}

none_own : (es : List Entry) → NoneBy who_of 0 es → driver_entries es ≡ []
none_own [] far = refl
none_own (e ∷ es) far =
    ap (λ b. cond b (e ∷ driver_entries es) (driver_entries es)) (ne_eqb e.who 0 (far 0 e (omega arith))) ∙ none_own es (λ k d lt. far (suc k) d (omega arith))

own_more : (old met : List Entry) (k : Command) (reply : Reply) → GrownByOthers old met → driver_entries (met ++ entry 0 k reply ∷ []) ≡ driver_entries old ++ entry 0 k reply ∷
    []
own_more old met k reply (others, is, far) =
    filter-append (λ (e : Entry). e.who == 0) met (entry 0 k reply ∷ []) ∙
    ap (λ (l : List Entry). l ++ entry 0 k reply ∷ []) (ap driver_entries is ∙ filter-append (λ (e : Entry). e.who == 0) old others ∙ ap
    (λ (l : List Entry). driver_entries old ++ l) (none_own others far) ∙
    append-nil (driver_entries old))

-- a turn that adds an entry takes one call
pub calls_fall : (o : Opening) (k : Command) (old new : DriverModel) (r : Receipt) → IsDrivenOn o k old new r → CallsFall old new
calls_fall o k old new r on =
    let one = own_more old.journal on.before k r.reply on.others in
    omega (
      arith,
      on.left,
      ap (λ (l : List Entry). length (driver_entries l)) on.journal,
      ap (λ (l : List Entry). length l) one,
      length-append (driver_entries old.journal)
          (entry 0 k r.reply ∷ []),
    )

-- nothing is noted yet
pub begins_noted : (o : Opening) (before : List Entry) (d : Drive) (driver : DriverModel) → IsOpenRunOf o before d driver → AreNoted o before d driver driver 0
begins_noted o before d driver x = record {
  place = record { gate = refl; setting = refl; rank = refl; made = refl };
  between = d.between;
  under_way = record { goes_on = x.under_way.goes_on; earlier = x.under_way.earlier; between = x.under_way.between; once = x.under_way.once; in_order = x.under_way.in_order };
  noted = λ p f lt. absurd (omega arith);
  not_yet = λ p le. ap (λ es. times_noted es p) x.no_notes;
  calls = refl;
  left = omega (arith, x.calls);
  position = x.position;
}

pub stays : (a b c : DriverModel) → StaysInHall a b → StaysInHall b c → StaysInHall a c
stays a b c x y = record { gate = y.gate ∙ x.gate; setting = y.setting ∙ x.setting; rank = y.rank ∙ x.rank; made = y.made ∙ x.made }

-- how often a port is to be noted
abbrev due : Bool → ℕ
due b = if b then 1 else 0

due_is : (a b : Bool) → a ≡ b → due a ≡ due b
due_is a b e = ap due e

noted_one : (p port n : ℕ) (reply : Reply) → times_noted (entry 0 (Short p n) reply ∷ []) port ≡ due (p == port)
noted_one p port n reply = omega (arith, sum_by-cons (λ (e : Entry). cond {A = ℕ} (notes_port port e.command) 1 0) (entry 0 (Short p n) reply) [])

-- a port that sent all is not noted
pub keeps_noted : (o : Opening) (before : List Entry) (d : Drive) (old new : DriverModel) (k : ℕ) → AreNoted o before d old new k →
    ((f : ℕ) → grant_in o.table.flows (driven o before d) k ≡ Some f → d.sent k ≡ d.slots) → AreNoted o before d old new (k + 1)
keeps_noted o before d old new k x whole = record {
  place = x.place;
  between = x.between;
  under_way = x.under_way;
  noted = λ p f lt grant. elim (cases_eq p k) [
    | inl e ↦
        let all = whole f (subst (λ q. grant_in o.table.flows (driven o before d) q ≡ Some f) e grant) in
        let not_less : nat_lt (d.sent p) d.slots ≡ false = le-ltb (d.sent p) d.slots (omega (arith, all, ap d.sent e)) in
        x.not_yet p (omega (arith, e)) ∙ sym (due_is (nat_lt (d.sent p) d.slots) false not_less)
    | inr far ↦ x.noted p f (omega (arith, lt, far)) grant
  ];
  not_yet = λ p le. x.not_yet p (omega (arith, le));
  calls = x.calls;
  left = omega (arith, x.left);
  position = x.position;
}

-- where every port sent all, none is noted
pub all_noted : (o : Opening) (before : List Entry) (d : Drive) (driver : DriverModel) → IsOpenRunOf o before d driver →
    ((p f : ℕ) → grant_in o.table.flows (driven o before d) p ≡ Some f → d.sent p ≡ d.slots) → (n : ℕ) → AreNoted o before d driver driver n
all_noted o before d driver x whole zero = begins_noted o before d driver x
all_noted o before d driver x whole (suc n) = let one : n + 1 ≡ suc n = omega arith in
    subst (AreNoted o before d driver driver) one (keeps_noted o before d driver driver n (all_noted o before d driver x whole n) (whole n))

-- a port that sent less is noted
pub one_noted : (o : Opening) (before : List Entry) (d : Drive) (old now new : DriverModel) (k f : ℕ) (r : Receipt) → AreNoted o before d old now k →
    IsDrivenOn o (Short k (d.sent k)) now new r → StaysInHall now new → grant_in o.table.flows (driven o before d) k ≡ Some f → d.sent k < d.slots → AreNoted o before d old new
    (k + 1)
one_noted o before d old now new k f r x on place grant short =
    let e = entry 0 (Short k (d.sent k)) r.reply in
    let others = on.others.0 in
    let so_far : Drive = record d { between = x.between } in
    let driving = subst DrivenByRoot on.journal on.seen.driven in
    let way = met_under_way o before now.journal on.before (e ∷ []) so_far x.under_way on.others driving in
    let others_free = others_are_other now.journal others (e ∷ []) (subst (λ l. DrivenByRoot (l ++ e ∷ [])) on.others.1 driving) on.others.2 in
    let is = grant_is o.table.flows (driven o before d) k f grant in
    let fresh : NoneNotedFrom (x.between ++ others) k =
    λ q le. noted_both x.between others q ∙ omega (arith, x.not_yet q le, others_note_none others q others_free) in
    let more = note_more o before on.before (record d { between = x.between ++ others }) f r.reply way is.0 (omega (arith, short, ap d.sent is.1))
    (subst (NoneNotedFrom (x.between ++ others)) (sym is.1) fresh) in
    let there = subst (λ q. IsUnderWay o before (on.before ++ entry 0 (Short q (d.sent q)) r.reply ∷ []) (record d
    { between = (x.between ++ others) ++ entry 0 (Short q (d.sent q)) r.reply ∷ [] })) is.1 more in
    let count : (p : ℕ) → times_noted ((x.between ++ others) ++ e ∷ []) p ≡ times_noted x.between p + due (k == p) =
    λ p. omega (arith, noted_both (x.between ++ others) (e ∷ []) p, noted_both x.between others p, others_note_none others p others_free, noted_one k p (d.sent k) r.reply) in
    let apart : (p : ℕ) → k ≢ p → ◌≡◌ {A = ℕ} (due (k == p)) 0 = λ p far. due_is (k == p) false (ne_eqb k p far) in record {
      place = stays old now new x.place place;
      between = (x.between ++ others) ++ e ∷ [];
      under_way = subst (λ l. IsUnderWay o before l (record d { between = (x.between ++ others) ++ e ∷ [] })) (sym on.journal) there;
      noted = λ p g lt given. elim (cases_eq p k) [
        | inl same ↦
            let one : ◌≡◌ {A = ℕ} (due (k == p)) 1 = due_is (k == p) true (eq-eqb k p (sym same)) in
            let owes : ◌≡◌ {A = ℕ} (due (nat_lt (d.sent p) d.slots)) 1 = due_is (nat_lt (d.sent p) d.slots) true
            (lt-ltb (d.sent p) d.slots (omega (arith, short, ap d.sent same))) in
            omega (arith, count p, one, owes, x.not_yet p (omega (arith, same)))
        | inr far ↦ count p ∙ omega (arith, apart p (λ e. far (sym e))) ∙ x.noted p g (omega (arith, lt, far)) given
      ];
      not_yet = λ p le. omega (arith, count p, apart p (λ e. absurd (omega (arith, e, le))), x.not_yet p (omega (arith, le)));
      calls = omega (arith, x.calls, calls_fall o (Short k (d.sent k)) now new r on);
      left = omega (arith, x.left, on.left);
      position = on.position ∙ on.length_is;
    }
