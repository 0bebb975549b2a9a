-- Turns of the driver while its run is under way: others' entries drive no run, and there is room.
use Rattle.std.proofs.Common.{◌≡◌, ◌≢◌, ℕ, ◌<◌, ◌≤◌, Bool, true, false, true≢false, List, [], ◌++◌, length, get_or, refl, sym, subst, ◌∙◌, arith}
use Rattle.std.proofs.Common.{append-nil}
use Rattle.std.specs.Prelude.{All, not, nat_lt, ◌&&◌}
use Rattle.std.proofs.lemmas.Bool.{lt-ltb, le-leb}
use Rattle.std.proofs.lemmas.List.Elements.{All-contains, Contains-append_left, Contains-append_right, Contains-get_or}
use Rattle.turnstile.specs.Histories.{NoneBy}
use Rattle.journal.specs.declared.command.Command.{Command}
use Rattle.journal.specs.declared.command.Entry.{Entry}
use Rattle.journal.specs.declared.opening.Opening.{Opening}
use Rattle.journal.specs.Answer.{reply_of, room}
use Rattle.journal.specs.Counts.{is_ending}
use Rattle.journal.specs.Driven.{Drive, is_other, IsUnderWay}
use Rattle.journal.specs.Entries.{is_driving}
use Rattle.journal.specs.Journal.{is_full}
use Rattle.journal.proofs.Legal.{full_is}
use Rattle.journal.proofs.UnderWay.{others_more, room_to_end}
use Rattle.client_session.specs.Desk.{DrivenByRoot}
use Rattle.client_session.specs.Drivers.{GrownByOthers, IsDrivenOn, IsDriverTurn, IsStopped, who_of}
use Rattle.client_session.specs.declared.receipt.Answer.{Answer}
use Rattle.client_session.specs.declared.receipt.Answer.TheVariants.{Done, Full, Spent}
use Rattle.client_session.specs.declared.receipt.Receipt.{Receipt}
use Rattle.client_session.specs.Models.{DriverModel}

above_zero : (n : ℕ) → n ≢ 0 → 0 < n
above_zero n far = omega (arith, far)

no_driver : (b : Bool) (who : ℕ) → who ≢ 0 → (b ≡ true → who ≡ 0) → not b ≡ true
no_driver true who far only = absurd (far (only refl))
no_driver false who far only = refl

both_true : (a b : Bool) → a ≡ true → b ≡ true → (a && b) ≡ true
both_true true b p q = q
both_true false b p q = absurd (true≢false (sym p))

other_one : (e : Entry) → e.who ≢ 0 → (is_driving e.command ≡ true → e.who ≡ 0) → is_other e ≡ true
other_one e far only = both_true (nat_lt 0 e.who) (not (is_driving e.command)) (lt-ltb 0 e.who (above_zero e.who far)) (no_driver (is_driving e.command) e.who far only)

-- entries of other callers in a journal that a caller met drive no run
pub others_are_other : (before others more : List Entry) → DrivenByRoot ((before ++ others) ++ more) → NoneBy who_of 0 others → All (λ e. is_other e ≡ true) others
others_are_other before others more driven far k d lt =
    let e = get_or others k d in
    other_one e (far k d lt) (All-contains (λ (x : Entry). is_driving x.command ≡ true → x.who ≡ 0) ((before ++ others) ++ more) e driven
    (Contains-append_left (before ++ others) more e (Contains-append_right before others e (Contains-get_or others k d lt))))

-- the journal that a turn of the driver met, with its run under way
pub met_under_way : (o : Opening) (start old met more : List Entry) (d : Drive) → IsUnderWay o start old d → (grown : GrownByOthers old met) → DrivenByRoot (met ++ more) →
    IsUnderWay o start met (record d { between = d.between ++ grown.0 })
met_under_way o start old met more d under (others, is, far) driven =
    let all = others_are_other old others more (subst (λ l. DrivenByRoot (l ++ more)) is driven) far in
    subst (λ l. IsUnderWay o start l (record d { between = d.between ++ others })) (sym is) (others_more o start old others d under all)

-- a note and the close of a run under way find room
pub finds_room : (o : Opening) (start : List Entry) (d : Drive) (k : Command) (old new : DriverModel) (count : ℕ) → is_ending k ≡ true → IsUnderWay o start old.journal d →
    IsStopped o k old new count → ⊥
finds_room o start d k old new count ends under stopped =
    let seen = stopped.seen in
    let way = met_under_way o start old.journal new.journal [] d under stopped.others (subst DrivenByRoot (sym (append-nil new.journal)) seen.driven) in
    let free = room_to_end o start new.journal (record d { between = d.between ++ stopped.others.0 }) k seen.legal seen.in_range way ends in
    let full : is_full (reply_of o new.journal k) ≡ true = full_is o new.journal k ∙ le-leb (room o k) (length new.journal) (omega (arith, stopped.limit, stopped.length_is)) in
    true≢false (sym full ∙ free)

-- a turn for a note or the close of a run under way adds its entry, where a call is left
pub turn_adds : (o : Opening) (k : Command) (old new : DriverModel) (a : Answer) → is_ending k ≡ true → 1 ≤ old.left →
    ((start : List Entry) × (d : Drive) × IsUnderWay o start old.journal d) →
    IsDriverTurn o k 1 old new a → (r : Receipt) × (a ≡ Done r) × IsDrivenOn o k old new r
turn_adds o k old new (Done r) ends call way turn = (r, refl, turn.done r refl)
turn_adds o k old new (Full count) ends call (start, d, under) turn = absurd (finds_room o start d k old new count ends under (turn.full count refl))
turn_adds o k old new Spent ends call way turn = absurd (let short = (turn.spent refl).0 in omega (arith, short, call))
