-- What is kept tells the state after a command, where it told the state before.
use Rattle.std.proofs.Common.{◌≡◌, ℕ, ◌<◌, ◌≤◌, Bool, true, false, List, [], ◌∷◌, ◌++◌, length, get_or, inl, inr, Option, None, sym, ap, subst, ◌∙◌, arith, true≢false}
use Rattle.std.specs.declared.alloc.Global.{Global}
use Rattle.std.specs.declared.vec.Vec.{Vec}
use Rattle.std.specs.Prelude.{All, ◌^◌, ◌==◌, ◌&&◌, not, if◌then◌else◌, slice_index, slice_set}
use Rattle.std.proofs.lemmas.Bool.{cases_Bool, cases_eq, eq-eqb, ne_eqb}
use Rattle.std.proofs.lemmas.List.{get_or-set_other, get_or-set_same, length-set}
use Rattle.std.proofs.lemmas.List.Elements.{All-set}
use Rattle.coflow_units.specs.Flows.{Instance}
use Rattle.master_core.specs.Accounts.{Accounts}
use Rattle.matching.specs.Matching.{IsSettled, room_of}
use Rattle.coflow_units.specs.declared.fabric.Flow.{Flow}
use Rattle.journal.specs.declared.command.Command.{Command}
use Rattle.journal.specs.declared.command.Command.TheVariants.{Pull}
use Rattle.journal.specs.declared.command.Reply.{Reply}
use Rattle.journal.specs.declared.opening.Opening.{Opening}
use Rattle.master_core.specs.declared.standing.Standing.{Standing}
use Rattle.journal.specs.State.{has, Run, slot_end, State}
use Rattle.master_core.specs.Attendance.{Attendance, marked}
use Rattle.journal.specs.Line.{newest_in, rank_in}
use Rattle.master_core.specs.Published.{Published, ranked}
use Rattle.master_core.specs.Waiting.{Waiting, line_of}
use Rattle.master_core.specs.OpenRun.{FitsOpen, KeepsGrants, KeptRuns}
use Rattle.journal.specs.Fold.{after}
use Rattle.journal.specs.Answer.{answer, pulled}
use Rattle.master_core.specs.Standing.{Follows, IsFit, Tells, TellsCoflows, TellsOrders, TellsRun}
use Rattle.master_core.proofs.Bools.{and_false}
use Rattle.master_core.proofs.Members.{has_last, has_more, has_other}

-- the reply is the answer, and what is kept tells the state after it
pub follows : (o : Opening) (k : Command) (old : Standing) (r : Reply) (new : Standing) → IsFit o new →
    ((s : State) → Tells o s old → (answer o s k ≡ r) × Tells o (after o s k r) new) → Follows o k old r new
follows o k old r new fit f = record {
  reply_is = λ s t. sym (f s t).0;
  state_is = λ s t. subst (λ (x : Reply). Tells o (after o s k x) new) (sym (f s t).0) (f s t).1;
  fit = fit;
}

-- ---- who joined and who left

-- one who has not joined has not left
not_gone : (joined left : List ℕ) (c : ℕ) → ((x : ℕ) → has left x ≡ true → has joined x ≡ true) → has joined c ≡ false → has left c ≡ false
not_gone joined left c gone away = elim (cases_Bool (has left c)) [
  | inl t ↦ absurd (true≢false (sym (gone c t) ∙ away))
  | inr f ↦ f
]

pub coflow_joins : (n : ℕ) (joined left : List ℕ) (old new : Attendance) (c : ℕ) → TellsCoflows joined left old → length old.present ≡ n → c < n → has joined c ≡ false →
    new.joined ≡ old.joined ++ c ∷ [] → new.present ≡ slice_set old.present c true →
    TellsCoflows (joined ++ c ∷ []) left new
coflow_joins n joined left old new c h len lt away j p = record {
  joined_is = j ∙ ap (λ l. l ++ c ∷ []) h.joined_is;
  present_is = λ x. ap (λ l. marked l x) p ∙ elim (cases_eq x c) [
    | inl e ↦
        ap (λ y. marked (slice_set old.present c true) y) e ∙ get_or-set_same old.present c true false (omega arith)
        ∙ sym (ap (λ b. b && not (has left x)) (has_last joined c x e) ∙ ap (λ y. not (has left y)) e ∙ ap not (not_gone joined left c h.gone away))
    | inr ne ↦ get_or-set_other old.present c x true false ne ∙ h.present_is x ∙ ap (λ b. b && not (has left x)) (sym (has_other joined c x ne))
  ];
  gone = λ x e. has_more joined c x (h.gone x e);
}

pub coflow_leaves : (n : ℕ) (joined left : List ℕ) (old new : Attendance) (c : ℕ) → TellsCoflows joined left old → length old.present ≡ n → c < n → has joined c ≡ true →
    new.joined ≡ old.joined → new.present ≡ slice_set old.present c false →
    TellsCoflows joined (left ++ c ∷ []) new
coflow_leaves n joined left old new c h len lt there j p = record {
  joined_is = j ∙ h.joined_is;
  present_is = λ x. ap (λ l. marked l x) p ∙ elim (cases_eq x c) [
    | inl e ↦
        ap (λ y. marked (slice_set old.present c false) y) e ∙ get_or-set_same old.present c false false (omega arith)
        ∙ sym (ap (λ b. has joined x && not b) (has_last left c x e) ∙ and_false (has joined x))
    | inr ne ↦ get_or-set_other old.present c x false false ne ∙ h.present_is x ∙ ap (λ b. has joined x && not b) (sym (has_other left c x ne))
  ];
  gone = λ x e. elim (cases_eq x c) [
    | inl same ↦ ap (has joined) same ∙ there
    | inr ne ↦ h.gone x (sym (has_other left c x ne) ∙ e)
  ];
}

pub more_joined : (joined : List ℕ) (published : List Instance) (x : Published) (c : ℕ) → TellsOrders joined published x → TellsOrders (joined ++ c ∷ []) published x
more_joined joined published x c h = record { version_is = h.version_is; places_are = h.places_are; order_is = h.order_is; named = λ y in'. has_more joined c y (h.named y in') }

-- ---- what fits

-- the kept grants are not those of the line any longer
abbrev pub stale : KeptRuns → KeptRuns
stale x = record x { fresh = false }

pub stale_run : (flows : List Flow) (ports : ℕ) (r : Option Run) (x y : KeptRuns) → y ≡ stale x → TellsRun flows ports r x.run → TellsRun flows ports r y.run
stale_run flows ports r x y is t = subst (λ (z : KeptRuns). TellsRun flows ports r z.run) (sym is) t

pub fits_roster : (o : Opening) (x : Standing) (roster : Attendance) (runs : KeptRuns) → IsFit o x → length roster.present ≡ length x.roster.present → runs ≡ stale x.runs →
    IsFit o (record x { roster = roster; runs = runs })
fits_roster o x roster runs h len is = subst (λ r. IsFit o (record x { roster = roster; runs = r })) (sym is) (record {
  opening = h.opening;
  present_len = len ∙ h.present_len;
  weights_len = h.weights_len;
  weights_fit = h.weights_fit;
  orders_coflows = h.orders_coflows;
  orders_ports = h.orders_ports;
  line_room = h.line_room;
  units = h.units;
  owed_len = h.owed_len;
  runs_ports = h.runs_ports;
  runs_room = h.runs_room;
  grants = λ e. absurd (true≢false (sym e));
  run = h.run;
  next_ends = h.next_ends;
})

-- ---- answers

pub pull_told : (o : Opening) (s : State) (x : Standing) (c v r : ℕ) → Tells o s x → v ≡ x.orders.version → r ≡ rank_in (ranked x.orders.places) c →
    answer o s (Pull c) ≡ pulled v r
pull_told o s x c v r t ev er =
    ap (λ n. pulled n (rank_in (newest_in s.published) c)) (sym t.orders.version_is ∙ sym ev) ∙ ap (λ l. pulled v (rank_in l c)) (sym t.orders.order_is) ∙ ap (pulled v) (sym er)

-- ---- weights

pub weighed : (n : ℕ) (weight : ℕ → ℕ) (weights : List ℕ) (c w : ℕ) → c < length weights → ((x : ℕ) → x < n → get_or weights x 0 ≡ weight x) → (x : ℕ) → x < n →
    get_or (slice_set weights c w) x 0 ≡ (if x == c then w else weight x)
weighed n weight weights c w lt h x low = elim (cases_eq x c) [
  | inl e ↦ ap (λ y. get_or (slice_set weights c w) y 0) e ∙ get_or-set_same weights c w 0 lt ∙ sym (ap (λ (b : Bool). if b then w else weight x) (eq-eqb x c e))
  | inr ne ↦ get_or-set_other weights c x w 0 ne ∙ h x low ∙ sym (ap (λ (b : Bool). if b then w else weight x) (ne_eqb x c ne))
]

pub fits_weights : (o : Opening) (x : Standing) (weights : Vec ℕ Global) (c w : ℕ) → IsFit o x → weights.items ≡ slice_set x.weights.items c w → w ≤ 2 ^ 32 →
    IsFit o (record x { weights = weights })
fits_weights o x weights c w h is le = record {
  opening = h.opening;
  present_len = h.present_len;
  weights_len = ap (λ (l : List ℕ). length l) is ∙ length-set x.weights.items c w ∙ h.weights_len;
  weights_fit = subst (All (λ y. y ≤ 2 ^ 32)) (sym is) (All-set (λ (y : ℕ). y ≤ 2 ^ 32) x.weights.items c w le h.weights_fit);
  orders_coflows = h.orders_coflows;
  orders_ports = h.orders_ports;
  line_room = h.line_room;
  units = h.units;
  owed_len = h.owed_len;
  runs_ports = h.runs_ports;
  runs_room = h.runs_room;
  grants = h.grants;
  run = h.run;
  next_ends = h.next_ends;
}

-- ---- runs

-- the kept grants are the same
kept_along : (flows : List Flow) (line owed : List ℕ) (x y : KeptRuns) → y.tables ≡ x.tables → y.fresh ≡ x.fresh → KeepsGrants flows line owed x → KeepsGrants flows line owed y
kept_along flows line owed x y tables fresh h = λ e. subst (IsSettled flows line (λ f. slice_index owed f)) (sym tables) (h (sym fresh ∙ e))

pub fits_runs : (o : Opening) (x : Standing) (runs : KeptRuns) → IsFit o x → runs.ports ≡ x.runs.ports → runs.tables ≡ x.runs.tables → runs.fresh ≡ x.runs.fresh →
    FitsOpen o.table.flows x.ledger.owed runs.run → IsFit o (record x { runs = runs })
fits_runs o x runs h same tables fresh fits = record {
  opening = h.opening;
  present_len = h.present_len;
  weights_len = h.weights_len;
  weights_fit = h.weights_fit;
  orders_coflows = h.orders_coflows;
  orders_ports = h.orders_ports;
  line_room = h.line_room;
  units = h.units;
  owed_len = h.owed_len;
  runs_ports = same ∙ h.runs_ports;
  runs_room = ap room_of tables ∙ h.runs_room;
  grants = kept_along o.table.flows (line_of x.roster x.orders) x.ledger.owed x.runs runs tables fresh h.grants;
  run = fits;
  next_ends = h.next_ends;
}

pub fits_next : (o : Opening) (x : Standing) (next : ℕ) → IsFit o x → next ≤ slot_end → IsFit o (record x { next = next })
fits_next o x next h le = record {
  opening = h.opening;
  present_len = h.present_len;
  weights_len = h.weights_len;
  weights_fit = h.weights_fit;
  orders_coflows = h.orders_coflows;
  orders_ports = h.orders_ports;
  line_room = h.line_room;
  units = h.units;
  owed_len = h.owed_len;
  runs_ports = h.runs_ports;
  runs_room = h.runs_room;
  grants = h.grants;
  run = h.run;
  next_ends = le;
}

pub fits_closed : (o : Opening) (x : Standing) (ledger : Accounts) (runs : KeptRuns) (next : ℕ) → IsFit o x → ledger.units ≡ x.ledger.units →
    length ledger.owed ≡ length x.ledger.owed → runs.ports ≡ x.runs.ports → room_of runs.tables ≡ room_of x.runs.tables →
    KeepsGrants o.table.flows (line_of x.roster x.orders) ledger.owed runs → runs.run ≡ None → next ≤ slot_end →
    IsFit o (record x { ledger = ledger; runs = runs; next = next })
fits_closed o x ledger runs next h units owed ports room grants none le = record {
  opening = h.opening;
  present_len = h.present_len;
  weights_len = h.weights_len;
  weights_fit = h.weights_fit;
  orders_coflows = h.orders_coflows;
  orders_ports = h.orders_ports;
  line_room = h.line_room;
  units = units ∙ h.units;
  owed_len = owed ∙ h.owed_len;
  runs_ports = ports ∙ h.runs_ports;
  runs_room = room ∙ h.runs_room;
  grants = grants;
  run = subst (FitsOpen o.table.flows ledger.owed) (sym none) tt;
  next_ends = le;
}

pub fits_granted : (o : Opening) (x : Standing) (line : Waiting) (runs : KeptRuns) → IsFit o x → line.room ≡ x.line.room → runs.ports ≡ x.runs.ports →
    room_of runs.tables ≡ room_of x.runs.tables → IsSettled o.table.flows (line_of x.roster x.orders) (λ f. slice_index x.ledger.owed f) runs.tables → runs.run ≡ None →
    IsFit o (record x { line = line; runs = runs })
fits_granted o x line runs h room ports flows settled none = record {
  opening = h.opening;
  present_len = h.present_len;
  weights_len = h.weights_len;
  weights_fit = h.weights_fit;
  orders_coflows = h.orders_coflows;
  orders_ports = h.orders_ports;
  line_room = omega (arith, h.line_room, room);
  units = h.units;
  owed_len = h.owed_len;
  runs_ports = ports ∙ h.runs_ports;
  runs_room = flows ∙ h.runs_room;
  grants = λ e. settled;
  run = subst (FitsOpen o.table.flows x.ledger.owed) (sym none) tt;
  next_ends = h.next_ends;
}

pub fits_orders : (o : Opening) (x : Standing) (orders : Published) (runs : KeptRuns) → IsFit o x → orders.coflows ≡ x.orders.coflows →
    orders.ports ≡ x.orders.ports → runs ≡ stale x.runs →
    IsFit o (record x { orders = orders; runs = runs })
fits_orders o x orders runs h coflows ports is = subst (λ r. IsFit o (record x { orders = orders; runs = r })) (sym is) (record {
  opening = h.opening;
  present_len = h.present_len;
  weights_len = h.weights_len;
  weights_fit = h.weights_fit;
  orders_coflows = coflows ∙ h.orders_coflows;
  orders_ports = ports ∙ h.orders_ports;
  line_room = h.line_room;
  units = h.units;
  owed_len = h.owed_len;
  runs_ports = h.runs_ports;
  runs_room = h.runs_room;
  grants = λ e. absurd (true≢false (sym e));
  run = h.run;
  next_ends = h.next_ends;
})
