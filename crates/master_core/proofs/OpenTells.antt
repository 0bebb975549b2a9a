-- The run that is opened is that of the state.
use Rattle.std.proofs.Common.{◌≡◌, ℕ, ◌-◌, ◌<◌, ◌≤◌, true, List, [], ◌∷◌, ◌++◌, min, refl, sym, ap, subst, ◌∙◌, arith}
use Rattle.std.proofs.Common.{unwrap_or}
use Rattle.std.specs.Prelude.{◌&&◌, not, slice_index}
use Rattle.std.specs.List.{filter}
use Rattle.coflow_units.specs.declared.fabric.Flow.{Flow}
use Rattle.matching.specs.Matching.{listed_in}
use Rattle.coflow_units.specs.Grants.{IsGrants}
use Rattle.coflow_units.proofs.Sums.{all_of_members, any_in}
use Rattle.coflow_units.proofs.Lists.{filter_same}
use Rattle.journal.specs.declared.opening.Opening.{Opening}
use Rattle.master_core.specs.declared.standing.Standing.{Standing}
use Rattle.journal.specs.State.{has, owed, slot_end, State}
use Rattle.master_core.specs.Attendance.{marked}
use Rattle.journal.specs.Line.{line, newest}
use Rattle.master_core.specs.Waiting.{line_of, waits}
use Rattle.journal.specs.Runs.{granted, least_of, slots_for}
use Rattle.master_core.specs.OpenRun.{FitsRun, IsBegun, KeptRun, TellsIngresses}
use Rattle.master_core.specs.Standing.{IsFit, Tells, TellsCoflows, TellsOpen, TellsOrders}
use Rattle.master_core.proofs.Bools.{both}
use Rattle.journal.proofs.Instances.{only_grants}
use Rattle.master_core.proofs.LineSteps.{rank_zero}
use Rattle.journal.proofs.Sound.{least_below, least_each}

-- ---- the line

pub line_told : (s : State) (x : Standing) → TellsCoflows s.joined s.left x.roster → TellsOrders s.joined s.published x.orders →
    line_of x.roster x.orders ≡ line s
line_told s x here orders =
    let stays = λ (c : ℕ). not (has s.left c) in
    let others = λ (c : ℕ). not (has (newest s) c) && not (has s.left c) in
    let marks = marked x.roster.present in
    let first : filter marks (newest s) ≡ filter stays (newest s) =
    filter_same marks stays (newest s) (λ c in'. here.present_is c ∙ ap (λ b. b && not (has s.left c)) (orders.named c in')) in
    let second : filter (waits (newest s) x.roster.present) s.joined ≡ filter others s.joined =
    filter_same (waits (newest s) x.roster.present) others s.joined
    (λ c in'. both _ (marks c) (not (has (newest s) c)) (not (has s.left c)) (rank_zero (newest s) c)
    (here.present_is c ∙ ap (λ b. b && not (has s.left c)) (any_in s.joined c in'))) in
    ap (λ l. filter marks l ++ filter (waits l x.roster.present) x.roster.joined) orders.order_is ∙
    ap (λ l. filter marks (newest s) ++ filter (waits (newest s) x.roster.present) l) here.joined_is
    ∙ ap (λ l. l ++ filter (waits (newest s) x.roster.present) s.joined) first ∙ ap (λ l. filter stays (newest s) ++ l) second

-- ---- the run

grants_along : (flows : List Flow) (line : List ℕ) (left owes : ℕ → ℕ) (got : List ℕ) → ((f : ℕ) → left f ≡ owes f) → IsGrants flows line left got → IsGrants flows line owes got
grants_along flows line left owes got same h = record {
  ascending = h.ascending;
  flow = h.flow;
  in_line = h.in_line;
  owed = λ f in'. subst (λ n. 0 < n) (same f) (h.owed f in');
  free = h.free;
  rest = λ f lt in' some. h.rest f lt in' (subst (λ n. 0 < n) (sym (same f)) some);
}

-- where the kept grants are fresh, they are those of the line of the state
pub kept_granted : (o : Opening) (s : State) (x : Standing) → IsFit o x → Tells o s x → x.runs.fresh ≡ true → IsGrants o.table.flows (line s) (owed o s) (listed_in x.runs.tables)
kept_granted o s x fit t fresh =
    let got = listed_in x.runs.tables in
    subst (λ l. IsGrants o.table.flows l (owed o s) got) (line_told s x t.coflows t.orders)
    (grants_along o.table.flows (line_of x.roster x.orders) (λ f. slice_index x.ledger.owed f) (owed o s) got t.owed (fit.grants fresh).grants)

least_same : (a b : ℕ → ℕ) (fs : List ℕ) (n : ℕ) → ((f : ℕ) → a f ≡ b f) → least_of a fs n ≡ least_of b fs n
least_same a b [] n same = refl
least_same a b (f ∷ fs) n same = least_same a b fs (min n (a f)) same ∙ ap (λ m. least_of b fs (min n m)) (same f)

-- what is begun is what the state would open
pub record Opens (o : Opening) (s : State) (most : ℕ) (k : KeptRun) : Type 0 where
  pub granted_are : k.granted ≡ granted o s
  pub slots_are : k.slots ≡ slots_for o s most

pub begun_told : (o : Opening) (s : State) (line' left : List ℕ) (ports first most : ℕ) (k : KeptRun) → line' ≡ line s → ((f : ℕ) → slice_index left f ≡ owed o s f) →
    first ≡ s.next →
    IsBegun o.table.flows ports line' (λ f. slice_index left f) first most k → Opens o s most k
begun_told o s line' left ports first most k same_line same_left same_next h =
    let grants = subst (λ l. IsGrants o.table.flows l (owed o s) k.granted) same_line
    (grants_along o.table.flows line' (λ f. slice_index left f) (owed o s) k.granted same_left h.grants) in
    let is = only_grants o.table.flows (line s) (owed o s) k.granted grants in
    record {
      granted_are = is;
      slots_are = h.slots_is ∙ least_same (λ f. slice_index left f) (owed o s) k.granted (min most (slot_end - first)) same_left ∙
          ap (λ l. least_of (owed o s) l (min most (slot_end - first))) is
          ∙ ap (λ n. least_of (owed o s) (granted o s) (min most (slot_end - n))) same_next;
    }

pub open_kept : (flows : List Flow) (ports : ℕ) (line' : List ℕ) (left : ℕ → ℕ) (first most slot slots : ℕ) (got : List ℕ) (k : KeptRun) →
    IsBegun flows ports line' left first most k → k.first ≡ slot → k.slots ≡ slots → k.granted ≡ got →
    TellsOpen flows ports (record { first = slot; slots = slots; granted = got; notes = [] }) k
open_kept flows ports line' left first most slot slots got k h e f g = record {
  first = e;
  slots = f;
  granted = g;
  at = subst (λ l. TellsIngresses flows l k.tables) g h.at;
  noted_len = h.noted_len;
  noted = λ ingress lt. h.noted ingress;
}

pub begun_fits : (flows : List Flow) (ports : ℕ) (line' left : List ℕ) (first most : ℕ) (k : KeptRun) → first ≤ slot_end →
    IsBegun flows ports line' (λ f. slice_index left f) first most k → FitsRun flows left k
begun_fits flows ports line' left first most k low h =
    let m = min most (slot_end - first) in
    record {
      ends = omega (arith, h.first_is, h.slots_is, least_below (λ f. slice_index left f) k.granted m, low);
      ascending = h.grants.ascending;
      flow = h.grants.flow;
      each_owes = all_of_members (λ f. k.slots ≤ slice_index left f) k.granted (λ f in'. omega (arith, h.slots_is, least_each (λ f. slice_index left f) k.granted m f in'));
      notes = λ ingress. subst (λ n. unwrap_or n k.slots ≤ k.slots) (sym (h.noted ingress)) (omega arith);
      settled = (line', h.settled);
    }
