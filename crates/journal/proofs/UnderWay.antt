-- A run that is under way: what holds then, how it goes on, what is answered, and that there is room to end it.
use Rattle.std.proofs.Common.{◌≡◌, ℕ, ◌+◌, ◌≤◌, ◌<◌, ◌⊎◌, inl, inr, true, false, true≢false, List, [], ◌∷◌, ◌++◌, Contains, length, min, refl, sym, ap, subst, ◌∙◌, arith, suc}
use Rattle.std.proofs.Common.{cond, append_assoc, append-nil, get_or, Some}
use Rattle.std.specs.Prelude.{All, AllPairs, nat_lt, sum_by, ◌==◌, if◌then◌else◌}
use Rattle.std.specs.List.{range_with_len}
use Rattle.std.proofs.lemmas.Bool.{cases_eq, cases_lt, eq-eqb, leb-false, lt-leb, ltb-true, ne_eqb}
use Rattle.std.proofs.lemmas.List.{length-append}
use Rattle.std.proofs.lemmas.List.Elements.{All-append, All-contains, All-push, Contains-append_right}
use Rattle.std.proofs.lemmas.List.FromFn.{length-range_with_len}
use Rattle.std.proofs.lemmas.List.Quantifiers.{all_pairs_push}
use Rattle.std.proofs.lemmas.List.Sums.{get_or-le-sum_by, sum_by-append, sum_by-cons}
use Rattle.coflow_units.specs.Flows.{ingress_of}
use Rattle.coflow_units.proofs.Lists.{number_in}
use Rattle.coflow_units.proofs.ServedLaws.{grants_clear}
use Rattle.coflow_units.proofs.Sums.{member_within_sum, sum_mono, sum_swap, sum_ones}
use Rattle.journal.specs.declared.command.Command.{Command}
use Rattle.journal.specs.declared.command.Command.TheVariants.{Short, Close}
use Rattle.journal.specs.declared.command.Entry.{Entry}
use Rattle.journal.specs.declared.command.Reply.{Reply}
use Rattle.journal.specs.declared.command.Reply.TheVariants.{NoneOpen, NotGranted, Noted, Closed}
use Rattle.journal.specs.declared.opening.Opening.{Opening}
use Rattle.journal.specs.State.{owed}
use Rattle.journal.specs.Runs.{grant_in}
use Rattle.journal.specs.Fold.{state_of}
use Rattle.journal.specs.Answer.{in_range, noted, on_run, reply_of, room}
use Rattle.journal.specs.Journal.{entry, is_full, IsLegal, line_of}
use Rattle.journal.specs.Sound.{InRange}
use Rattle.journal.proofs.Legal.{full_is, legal_front}
use Rattle.journal.proofs.Versions.{legal_there}
use Rattle.journal.specs.Driven.{closed_in, Drive, driven, is_other, IsDriven, IsNotedBefore, IsRunning, IsShortOf, IsUnderWay, NoneNotedFrom, notes_port, opened_in, opening}
use Rattle.journal.specs.Driven.{times_noted}
use Rattle.journal.specs.Entries.{is_driving}
use Rattle.journal.specs.Counts.{endings, is_ending}
use Rattle.journal.proofs.Between.{answered, mkr, not_noting}
use Rattle.journal.proofs.Driving.{at, free, IsAt, legal_open}
use Rattle.journal.proofs.Ingresses.{grant_at}
use Rattle.journal.proofs.Along.{all_front, pairs_front}
use Rattle.journal.proofs.FurtherRoom.{further_room, room_is}

-- ---- what holds

legal_now : (o : Opening) (before now : List Entry) (d : Drive) → IsLegal o now → IsUnderWay o before now d → IsLegal o (closed_in before d ++ [])
legal_now o before now d legal h = subst (IsLegal o) (h.goes_on ∙ sym (append-nil (closed_in before d))) legal

on_its_own : (o : Opening) (before now : List Entry) (d : Drive) → IsUnderWay o before now d → IsUnderWay o before (closed_in before d) d
on_its_own o before now d h = record { goes_on = refl; earlier = h.earlier; between = h.between; once = h.once; in_order = h.in_order }

runs_in : (o : Opening) (before : List Entry) (d : Drive) → IsAt o before d → IsRunning o before (closed_in before d) d
runs_in o before d x =
    let now = closed_in before d in
    record {
      grants = x.grants;
      count = x.count;
      run_before = x.none;
      first = x.at_next;
      run = (mkr d.first d.slots (driven o before d) x.mid.notes, x.mid.run, refl, refl, refl);
      leaves = x.leaves;
    }

pub running : (o : Opening) (before now : List Entry) (d : Drive) → IsLegal o now → IsUnderWay o before now d → IsRunning o before now d
running o before now d legal h =
    subst (λ l. IsRunning o before l d) (sym h.goes_on) (runs_in o before d (at o before [] d (legal_now o before now d legal h) (on_its_own o before now d h)))

-- ---- how often a port is noted

pub noted_both : (xs ys : List Entry) (port : ℕ) → times_noted (xs ++ ys) port ≡ times_noted xs port + times_noted ys port
noted_both xs ys port = sum_by-append (λ (e : Entry). cond {A = ℕ} (notes_port port e.command) 1 0) xs ys

pub endings_both : (xs ys : List Entry) → endings (xs ++ ys) ≡ endings xs + endings ys
endings_both xs ys = sum_by-append (λ (e : Entry). cond {A = ℕ} (is_ending e.command) 1 0) xs ys

not_ending : (k : Command) → is_driving k ≡ false → is_ending k ≡ false
not_ending (Short port units) e = absurd (true≢false e)
not_ending Close e = absurd (true≢false e)
not_ending k e = refl

pub others_note_none : (es : List Entry) (port : ℕ) → All (λ e. is_other e ≡ true) es → times_noted es port ≡ 0
others_note_none [] port all = refl
others_note_none (e ∷ es) port all =
    omega (
      arith,
      sum_by-cons (λ (e : Entry). cond {A = ℕ} (notes_port port e.command) 1 0) e es,
      ap {B = ℕ} (λ b. cond b 1 0) (not_noting port e.command (free e (all 0 e (omega arith)))),
      others_note_none es port (λ k d lt. all (suc k) d (omega arith)),
    )

pub others_end_none : (es : List Entry) → All (λ e. is_other e ≡ true) es → endings es ≡ 0
others_end_none [] all = refl
others_end_none (e ∷ es) all =
    omega (
      arith,
      sum_by-cons (λ (e : Entry). cond {A = ℕ} (is_ending e.command) 1 0) e es,
      ap {B = ℕ} (λ b. cond b 1 0) (not_ending e.command (free e (all 0 e (omega arith)))),
      others_end_none es (λ k d lt. all (suc k) d (omega arith)),
    )

-- ---- how it goes on

pub opens : (o : Opening) (before : List Entry) (d : Drive) → d.between ≡ [] → All (λ e. is_other e ≡ true) d.earlier → IsUnderWay o before (opened_in before d ++ opening d ∷ []) d
opens o before d none earlier = record {
  goes_on = sym (append-nil (opened_in before d ++ opening d ∷ [])) ∙ ap (λ l. (opened_in before d ++ opening d ∷ []) ++ l) (sym none);
  earlier = earlier;
  between = subst (All (λ e. (is_other e ≡ true) ⊎ IsShortOf o.table.flows (driven o before d) d e)) (sym none) (λ k e lt. absurd (omega arith));
  once = λ port. subst (λ es. times_noted es port ≤ 1) (sym none) (omega arith);
  in_order = subst (AllPairs IsNotedBefore) (sym none) (λ i j x less lt. absurd (omega arith));
}

more : (o : Opening) (before now es : List Entry) (d : Drive) → IsUnderWay o before now d → All (λ e. (is_other e ≡ true) ⊎ IsShortOf o.table.flows (driven o before d) d e) es →
    ((port : ℕ) → times_noted d.between port + times_noted es port ≤ 1) → AllPairs IsNotedBefore (d.between ++ es) →
    IsUnderWay o before (now ++ es) (record d { between = d.between ++ es })
more o before now es d h all once in_order = record {
  goes_on = ap (λ (l : List Entry). l ++ es) h.goes_on ∙ append_assoc (opened_in before d ++ opening d ∷ []) d.between es;
  earlier = h.earlier;
  between = All-append (λ e. (is_other e ≡ true) ⊎ IsShortOf o.table.flows (driven o before d) d e) d.between es h.between all;
  once = λ port. omega (arith, noted_both d.between es port, once port);
  in_order = in_order;
}

-- entries of others come behind in any order
pub others_in_order : (xs es : List Entry) → AllPairs IsNotedBefore xs → All (λ e. is_other e ≡ true) es → AllPairs IsNotedBefore (xs ++ es)
others_in_order xs [] pairs all = subst (AllPairs IsNotedBefore) (sym (append-nil xs)) pairs
others_in_order xs (e ∷ es) pairs all =
    let no_note : (q w : ℕ) → e.command ≡ Short q w → ⊥ = λ q w asks.
    true≢false (ap is_driving (sym asks) ∙ free e (all 0 e (omega arith))) in
    subst (AllPairs IsNotedBefore) (append_assoc xs (e ∷ []) es)
    (others_in_order (xs ++ e ∷ []) es (all_pairs_push IsNotedBefore xs e pairs (λ k x lt p q u w has asks. absurd (no_note q w asks))) (λ k x lt. all (suc k) x (omega arith)))

pub others_more : (o : Opening) (before now es : List Entry) (d : Drive) → IsUnderWay o before now d → All (λ e. is_other e ≡ true) es →
    IsUnderWay o before (now ++ es) (record d { between = d.between ++ es })
others_more o before now es d h all =
    more o before now es d h (λ k e lt. inl (all k e lt)) (λ port. omega (arith, h.once port, others_note_none es port all)) (others_in_order d.between es h.in_order all)

-- one note more
noted_one : (es : List Entry) (e : Entry) (p port n : ℕ) → e.command ≡ Short p n → times_noted es p ≡ 0 → times_noted es port ≤ 1 →
    times_noted es port + times_noted (e ∷ []) port ≤ 1
noted_one es e p port n asks none low =
    let one = sum_by-cons (λ (e : Entry). cond {A = ℕ} (notes_port port e.command) 1 0) e [] in
    let test : notes_port port e.command ≡ (p == port) = ap (notes_port port) asks in
    elim (cases_eq p port) [
      | inl same ↦ omega (arith, one, ap {B = ℕ} (λ b. cond b 1 0) (test ∙ eq-eqb p port same), subst (λ q. times_noted es q ≡ 0) same none)
      | inr other ↦ omega (arith, one, ap {B = ℕ} (λ b. cond b 1 0) (test ∙ ne_eqb p port other), low)
    ]

abbrev port_of : Command → ℕ
port_of (Short p n) = p
port_of k = 0

-- a port that an entry notes was noted
was_noted : (es : List Entry) (k : ℕ) (x : Entry) (p n : ℕ) → k < length es → (get_or es k x).command ≡ Short p n → 1 ≤ times_noted es p
was_noted es k x p n lt asks =
    let e = get_or es k x in
    let hit : notes_port p e.command ≡ true = ap (notes_port p) asks ∙ eq-eqb p p refl in
    omega (arith, get_or-le-sum_by (λ (x : Entry). cond {A = ℕ} (notes_port p x.command) 1 0) es k x lt, ap {B = ℕ} (λ b. cond b 1 0) hit)

-- a note of a port past those that were noted comes in order
pub note_in_order : (es : List Entry) (port n : ℕ) (reply : Reply) → AllPairs IsNotedBefore es → NoneNotedFrom es port → AllPairs IsNotedBefore
    (es ++ entry 0 (Short port n) reply ∷ [])
note_in_order es port n reply pairs none =
    all_pairs_push IsNotedBefore es (entry 0 (Short port n) reply) pairs
    (λ k x lt p q u w has asks.
    let same : port ≡ q = ap port_of asks in
    let many = was_noted es k x p u lt has in
    elim (cases_lt p port) [
      | inl less ↦ omega (arith, less, same)
      | inr ge ↦ absurd (omega (arith, many, none p ge))
    ])

pub note_more : (o : Opening) (before now : List Entry) (d : Drive) (f : ℕ) (reply : Reply) → IsUnderWay o before now d → Contains (driven o before d) f →
    d.sent (ingress_of o.table.flows f) < d.slots → NoneNotedFrom d.between (ingress_of o.table.flows f) →
    IsUnderWay o before (now ++ entry 0 (Short (ingress_of o.table.flows f) (d.sent (ingress_of o.table.flows f))) reply ∷ [])
    (record d { between = d.between ++ entry 0 (Short (ingress_of o.table.flows f) (d.sent (ingress_of o.table.flows f))) reply ∷ [] })
note_more o before now d f reply h in' lt none =
    let e = entry 0 (Short (ingress_of o.table.flows f) (d.sent (ingress_of o.table.flows f))) reply in
    more o before now (e ∷ []) d h
    (All-push (λ e. (is_other e ≡ true) ⊎ IsShortOf o.table.flows (driven o before d) d e) [] e (λ k x low. absurd (omega arith)) (inr (f, in', refl, refl, lt)))
    (λ port. noted_one d.between e (ingress_of o.table.flows f) port (d.sent (ingress_of o.table.flows f)) refl (none (ingress_of o.table.flows f) (omega arith)) (h.once port))
    (note_in_order d.between (ingress_of o.table.flows f) (d.sent (ingress_of o.table.flows f)) reply h.in_order none)

-- what was sent may be told as late as before the first note
pub sent_told : (o : Opening) (before now : List Entry) (d : Drive) (sent : ℕ → ℕ) → IsUnderWay o before now d → All (λ e. is_other e ≡ true) d.between →
    IsUnderWay o before now (record d { sent = sent })
sent_told o before now d sent h all = record { goes_on = h.goes_on; earlier = h.earlier; between = λ k e lt. inl (all k e lt); once = h.once; in_order = h.in_order }

pub closes : (o : Opening) (before now : List Entry) (d : Drive) (reply : Reply) → IsUnderWay o before now d →
    ((f : ℕ) → Contains (driven o before d) f → d.sent (ingress_of o.table.flows f) ≤ d.slots) →
    ((f : ℕ) → Contains (driven o before d) f → times_noted d.between (ingress_of o.table.flows f) ≡ (if nat_lt (d.sent (ingress_of o.table.flows f)) d.slots then 1 else 0)) →
    IsDriven o before (now ++ entry 0 Close reply ∷ []) (record d { answer = reply })
closes o before now d reply h within noted = record {
  goes_on = ap (λ (l : List Entry). l ++ entry 0 Close reply ∷ []) h.goes_on;
  under_way = record { goes_on = refl; earlier = h.earlier; between = h.between; once = h.once; in_order = h.in_order };
  within = within;
  noted = noted;
}

-- ---- what is answered

pub close_reply : (o : Opening) (before now : List Entry) (d : Drive) (who : ℕ) (reply : Reply) → IsLegal o (now ++ entry who Close reply ∷ []) → IsUnderWay o before now d →
    reply ≡ Closed d.first
close_reply o before now d who reply legal h =
    let x = running o before now d (legal_front o [] now (entry who Close reply ∷ []) legal) h in
    let (r, is, first, slots, granted) = x.run in
    answered o now [] (entry who Close reply) legal ∙ ap (λ y. on_run y (λ r. Closed r.first) NoneOpen) is ∙ ap (λ (n : ℕ). Closed n) first

pub note_reply : (o : Opening) (before now : List Entry) (d : Drive) (who f units : ℕ) (reply : Reply) →
    IsLegal o (now ++ entry who (Short (ingress_of o.table.flows f) units) reply ∷ []) → IsUnderWay o before now d → Contains (driven o before d) f →
    reply ≡ Noted (min units d.slots)
note_reply o before now d who f units reply legal h in' =
    let flows = o.table.flows in
    let p = ingress_of flows f in
    let gs = driven o before d in
    let e = entry who (Short p units) reply in
    let x = running o before now d (legal_front o [] now (e ∷ []) legal) h in
    let (r, is, first, slots, granted) = x.run in
    let clear = grants_clear flows (line_of o (opened_in before d)) (owed o (state_of o (opened_in before d))) gs x.grants in
    let grant : grant_in flows r.granted p ≡ Some f = ap (λ l. grant_in flows l p) granted ∙ (grant_at flows gs p f clear).1 (in', refl) in
    answered o now [] e legal ∙ ap (λ y. on_run y (λ r. noted r p units (grant_in flows r.granted p)) (NotGranted p)) is ∙ ap (noted r p units) grant ∙
    ap (λ n. Noted (min units n)) slots

least : (m n : ℕ) → m < n → min m n ≡ m
least m n lt = omega (arith, lt)

-- each note of the driver was taken, with the units that were sent
pub note_taken : (o : Opening) (before now front rest : List Entry) (d : Drive) (e : Entry) → IsLegal o now → IsUnderWay o before now d → d.between ≡ front ++ (e ∷ rest) →
    (x : IsShortOf o.table.flows (driven o before d) d e) →
    e.reply ≡ Noted (d.sent (ingress_of o.table.flows x.0))
note_taken o before now front rest d e legal h is x =
    let start = opened_in before d ++ opening d ∷ [] in
    let p = ingress_of o.table.flows x.0 in
    let pieces : now ≡ (start ++ front) ++ (e ∷ rest) = h.goes_on ∙ ap (λ (l : List Entry). start ++ l) is ∙ sym (append_assoc start front (e ∷ rest)) in
    let whole : IsLegal o (((start ++ front) ++ e ∷ []) ++ rest) = subst (IsLegal o) (pieces ∙ sym (append_assoc (start ++ front) (e ∷ []) rest)) legal in
    let here : IsLegal o ((start ++ front) ++ entry e.who (Short p (d.sent p)) e.reply ∷ []) =
    subst (λ k. IsLegal o ((start ++ front) ++ entry e.who k e.reply ∷ [])) x.3 (legal_front o [] ((start ++ front) ++ e ∷ []) rest whole) in
    let part : Drive = record d { between = front } in
    let so_far : IsUnderWay o before (start ++ front) part =
    record {
      goes_on = refl;
      earlier = h.earlier;
      between = all_front (λ e. (is_other e ≡ true) ⊎ IsShortOf o.table.flows (driven o before d) d e) front (e ∷ rest)
          (subst (All (λ e. (is_other e ≡ true) ⊎ IsShortOf o.table.flows (driven o before d) d e)) is h.between);
      once = λ port. omega (arith, noted_both front (e ∷ rest) port, ap (λ es. times_noted es port) is, h.once port);
      in_order = pairs_front IsNotedBefore front (e ∷ rest) (subst (AllPairs IsNotedBefore) is h.in_order);
    } in
    note_reply o before (start ++ front) part e.who x.0 (d.sent p) e.reply here so_far x.1 ∙ ap (λ (n : ℕ). Noted n) (least (d.sent p) d.slots x.4)

-- ---- room

-- an entry that asks neither Short nor Close stands within the limit
pub within_limit : (o : Opening) (before more : List Entry) (e : Entry) → IsLegal o (before ++ (e ∷ more)) → is_ending e.command ≡ false → length (before ++ e ∷ []) ≤ o.limit
within_limit o before more e legal not' =
    let there = legal_there o before more e legal in
    let had = leb-false (room o e.command) (length before) (sym (full_is o before e.command) ∙ ap is_full (sym there.0) ∙ there.1) in
    omega (arith, had, room_is o e.command not', length-append before (e ∷ []))

ending_room : (o : Opening) (k : Command) → is_ending k ≡ true → room o k ≡ o.limit + o.table.ports + 1
ending_room o (Short port units) e = refl
ending_room o Close e = refl
ending_room o k e = absurd (true≢false (sym e))

-- an entry of a run under way that may be asked past the limit notes a port
ends_once : (o : Opening) (before : List Entry) (d : Drive) (e : Entry) → (is_other e ≡ true) ⊎ IsShortOf o.table.flows (driven o before d) d e → in_range o e.command ≡ true →
    cond {A = ℕ} (is_ending e.command) 1 0 ≤ sum_by (λ p. cond {A = ℕ} (notes_port p e.command) 1 0) (range_with_len 0 o.table.ports)
ends_once o before d e (inl other) ok = omega (arith, ap {B = ℕ} (λ b. cond b 1 0) (not_ending e.command (free e other)))
ends_once o before d e (inr (f, in', who, asks, lt)) ok =
    let port = ingress_of o.table.flows f in
    let range = range_with_len 0 o.table.ports in
    let low = ltb-true port o.table.ports (sym (ap (in_range o) asks) ∙ ok) in
    let there = member_within_sum (λ p. cond {A = ℕ} (notes_port p e.command) 1 0) range port (number_in 0 o.table.ports port (omega arith) (omega (arith, low))) in
    let hit : notes_port port e.command ≡ true = ap (notes_port port) asks ∙ eq-eqb port port refl in
    omega (arith, there, ap {B = ℕ} (λ b. cond b 1 0) hit, ap {B = ℕ} (λ k. cond (is_ending k) 1 0) asks)

-- at most one note for each port
pub few_endings : (o : Opening) (before now : List Entry) (d : Drive) → InRange o now → IsUnderWay o before now d → endings d.between ≤ o.table.ports
few_endings o before now d ok h =
    let range = range_with_len 0 o.table.ports in
    let P = λ (e : Entry). (is_other e ≡ true) ⊎ IsShortOf o.table.flows (driven o before d) d e in
    let Ok = λ (e : Entry). in_range o e.command ≡ true in
    let all = subst (All Ok) h.goes_on ok in
    let each = sum_mono (λ (e : Entry). cond {A = ℕ} (is_ending e.command) 1 0) (λ e. sum_by (λ p. cond {A = ℕ} (notes_port p e.command) 1 0) range) d.between
    (λ e in'. ends_once o before d e (All-contains P d.between e h.between in')
    (All-contains Ok (closed_in before d) e all (Contains-append_right (opened_in before d ++ opening d ∷ []) d.between e in'))) in
    let swap = sum_swap (λ (e : Entry) (p : ℕ). cond {A = ℕ} (notes_port p e.command) 1 0) d.between range in
    let once = sum_mono (λ p. times_noted d.between p) (λ (p : ℕ). 1) range (λ p in'. h.once p) in
    omega (arith, each, swap, once, sum_ones range, length-range_with_len 0 o.table.ports)

pub room_to_end : (o : Opening) (before now : List Entry) (d : Drive) (k : Command) → IsLegal o now → InRange o now → IsUnderWay o before now d →
    is_ending k ≡ true → is_full (reply_of o now k) ≡ false
room_to_end o before now d k legal ok h ends =
    let few = few_endings o before now d ok h in
    let whole = legal_now o before now d legal h in
    let low = within_limit o (opened_in before d) (d.between ++ []) (opening d) (legal_open o before [] d whole) refl in
    let high = further_room o (opened_in before d ++ opening d ∷ []) d.between (subst (IsLegal o) h.goes_on legal) low in
    full_is o now k ∙ lt-leb (room o k) (length now) (omega (arith, ending_room o k ends, high, ap (λ (l : List Entry). length l) h.goes_on, few))
