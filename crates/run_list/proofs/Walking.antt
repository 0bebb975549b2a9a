-- A walk over the runs that marks and numbers tell.
use Rattle.std.proofs.Common.{◌≡◌, ℕ, ◌+◌, ◌-◌, ◌≤◌, ◌<◌, List, [], ◌∷◌, length, get_or, take, drop, zero, suc, refl, sym, ap, subst, ◌∙◌, arith}
use Rattle.std.specs.List.Sorted.{IsStrictlyIncreasing}
use Rattle.std.proofs.lemmas.List.{drop-drop, drop_more}
use Rattle.std.proofs.lemmas.List.Sums.{sum_by-drop_more}
use Rattle.coflow_units.specs.declared.plan.Run.{Run}
use Rattle.run_list.specs.declared.mark.Mark.{Mark}
use Rattle.run_list.specs.declared.turnover.Turnover.{Turnover}
use Rattle.run_list.specs.Kept.{DoAscend, HasRoom, HasTurned, IsTold, IsTurn, IsWalk, IsWalking, flows_of, runs_of, told}
use Rattle.run_list.specs.Runs.{flows_before, run_of}
use Rattle.run_list.proofs.Keeping.{length-runs_of}
use Rattle.run_list.proofs.Turning.{without-ascends}

-- a run with its slots and its flows is that run
pub run_is : (slots : ℕ) (flows : List ℕ) (r : Run) → slots ≡ r.length → flows ≡ r.flows → run_of slots flows ≡ r
run_is slots flows r e f = ap (λ n. run_of n flows) e ∙ ap (run_of r.length) f

-- the runs that are left, where the next one is entered
next_runs : (marks : List Mark) (numbers : List ℕ) (entered read : ℕ) (flows : List ℕ) (mark : Mark) (run : Run) →
    IsWalking marks numbers entered read flows → entered < length marks →
    runs_of flows (get_or marks entered mark ∷ drop (entered + 1) marks) (drop read numbers)
    ≡ get_or (runs_of [] marks numbers) entered run ∷ drop (entered + 1) (runs_of [] marks numbers)
next_runs marks numbers entered read flows mark run is lt =
    let inside : entered < length (runs_of [] marks numbers) = omega (arith, length-runs_of [] marks numbers) in
    ap (λ (ms : List Mark). runs_of flows ms (drop read numbers)) (sym (drop_more marks entered mark lt)) ∙ is.rest ∙ drop_more (runs_of [] marks numbers) entered run inside

-- the run that is entered next
pub next_run : (marks : List Mark) (numbers : List ℕ) (entered read : ℕ) (flows : List ℕ) (mark : Mark) (run : Run) →
    IsWalking marks numbers entered read flows → entered < length marks →
    run_of (get_or marks entered mark).slots (flows_of flows (get_or marks entered mark) (drop read numbers)) ≡ get_or (runs_of [] marks numbers) entered run
next_run marks numbers entered read flows mark run is lt = cc (next_runs marks numbers entered read flows mark run is lt)

pub next_fits : (marks : List Mark) (numbers : List ℕ) (entered read : ℕ) (flows : List ℕ) (mark : Mark) (widest : ℕ) →
    IsTold marks numbers widest → IsWalking marks numbers entered read flows → entered < length marks →
    length (flows_of flows (get_or marks entered mark) (drop read numbers)) ≤ widest
next_fits marks numbers entered read flows mark widest kept is lt =
    let inside : entered < length (runs_of [] marks numbers) = omega (arith, length-runs_of [] marks numbers) in
    let next = next_run marks numbers entered read flows mark (run_of 0 []) is lt in
    subst (λ (run : Run). length run.flows ≤ widest) (sym next) (kept.within entered (run_of 0 []) inside)

-- the numbers of the run that is entered next ascend, and so do those of each run behind it
left_ascends : (marks : List Mark) (numbers : List ℕ) (entered read : ℕ) (flows : List ℕ) (mark : Mark) → IsWalking marks numbers entered read flows → entered < length marks →
    DoAscend (get_or marks entered mark ∷ drop (entered + 1) marks) (drop read numbers)
left_ascends marks numbers entered read flows mark is lt = subst (λ (ms : List Mark). DoAscend ms (drop read numbers)) (drop_more marks entered mark lt) is.left_ascends

pub IsWalking-next : (marks : List Mark) (numbers : List ℕ) (entered read : ℕ) (flows : List ℕ) (mark : Mark) (widest : ℕ) →
    IsTold marks numbers widest → IsWalking marks numbers entered read flows → entered < length marks →
    IsWalking marks numbers (entered + 1) (read + (get_or marks entered mark).size) (flows_of flows (get_or marks entered mark) (drop read numbers))
IsWalking-next marks numbers entered read flows mark widest kept is lt =
    let inside : entered < length (runs_of [] marks numbers) = omega (arith, length-runs_of [] marks numbers) in
    let at : Mark = get_or marks entered mark in
    let left = next_runs marks numbers entered read flows mark (run_of 0 []) is lt in
    let rest : runs_of (flows_of flows at (drop read numbers)) (drop (entered + 1) marks) (drop at.size (drop read numbers)) ≡ drop (entered + 1) (runs_of [] marks numbers) = cc in
    record {
      entered_within = omega arith;
      read_so_far = omega (arith, is.read_so_far, sum_by-drop_more (λ (m : Mark). m.size) marks entered mark lt);
      left_ascends = subst (DoAscend (drop (entered + 1) marks)) (drop-drop at.size read numbers) (left_ascends marks numbers entered read flows mark is lt).1;
      before = λ e. absurd (omega arith);
      rest = ap (runs_of (flows_of flows at (drop read numbers)) (drop (entered + 1) marks)) (sym (drop-drop at.size read numbers)) ∙ rest;
      here = λ k run e.
          let same : k ≡ entered = omega arith in
          ap (λ (r : Run). r.flows) (next_run marks numbers entered read flows mark run is lt) ∙ ap (λ (n : ℕ). (get_or (runs_of [] marks numbers) n run).flows) (sym same);
      ascends = subst (λ (run : Run). IsStrictlyIncreasing run.flows) (sym (next_run marks numbers entered read flows mark (run_of 0 []) is lt))
          (kept.ascending entered (run_of 0 []) inside);
    }

-- the numbers that the code reads are those of the mark
part : (read size : ℕ) (numbers : List ℕ) → take (read + size - read) (drop read numbers) ≡ take size (drop read numbers)
part read size numbers =
    let same : read + size - read ≡ size = omega arith in
    ap (λ (n : ℕ). take n (drop read numbers)) same

pub part_fits : (marks : List Mark) (numbers : List ℕ) (entered read : ℕ) (flows : List ℕ) (count : ℕ) (next : List ℕ) (turnover : Turnover) (mark : Mark) →
    IsWalk marks numbers entered read flows count next turnover → entered < length marks →
    length (told (take count flows) (get_or marks entered mark).whole (take (read + (get_or marks entered mark).size - read) (drop read numbers))) ≤ length flows
part_fits marks numbers entered read flows count next turnover mark is lt =
    rw (part read (get_or marks entered mark).size numbers) (next_fits marks numbers entered read (take count flows) mark (length flows) is.told is.walking lt)

pub part_ascends : (marks : List Mark) (numbers : List ℕ) (entered read : ℕ) (flows : List ℕ) (count : ℕ) (next : List ℕ) (turnover : Turnover) (mark : Mark) →
    IsWalk marks numbers entered read flows count next turnover → entered < length marks →
    IsStrictlyIncreasing (take (read + (get_or marks entered mark).size - read) (drop read numbers))
part_ascends marks numbers entered read flows count next turnover mark is lt =
    rw (part read (get_or marks entered mark).size numbers) (left_ascends marks numbers entered read (take count flows) mark is.walking lt).0

-- the flows of a walk are those of the run before the next one
before_next : (marks : List Mark) (numbers : List ℕ) (entered read : ℕ) (flows : List ℕ) → IsWalking marks numbers entered read flows →
    flows ≡ flows_before (runs_of [] marks numbers) entered
before_next marks numbers zero read flows is = is.before refl
before_next marks numbers (suc k) read flows is = is.here k (run_of 0 []) (omega arith)

IsTurn-same : (turnover : Turnover) (olds news before flows : List ℕ) → olds ≡ before → news ≡ flows → IsTurn turnover olds news → IsTurn turnover before flows
IsTurn-same turnover olds news before flows e also is = record { gone = rw (← e, ← also) is.gone; come = rw (← e, ← also) is.come }

HasTurned-next : (marks : List Mark) (numbers : List ℕ) (entered read : ℕ) (flows : List ℕ) (mark : Mark) (widest : ℕ) (turnover : Turnover) →
    IsTold marks numbers widest → IsWalking marks numbers entered read flows → entered < length marks →
    IsTurn turnover flows (flows_of flows (get_or marks entered mark) (drop read numbers)) → HasTurned (runs_of [] marks numbers) (entered + 1) turnover
HasTurned-next marks numbers entered read flows mark widest turnover kept is lt turn =
    let now = IsWalking-next marks numbers entered read flows mark widest kept is lt in
    let news : List ℕ = flows_of flows (get_or marks entered mark) (drop read numbers) in
    record {
      before = λ e. absurd (omega arith);
      here = λ k run e.
          let same : entered ≡ k = omega arith in
          IsTurn-same turnover flows news (flows_before (runs_of [] marks numbers) k) (get_or (runs_of [] marks numbers) k run).flows
          (before_next marks numbers entered read flows is ∙ ap (flows_before (runs_of [] marks numbers)) same) (now.here k run e) turn;
      gone_ascends = subst IsStrictlyIncreasing (sym turn.gone) (without-ascends flows news is.ascends);
      come_ascends = subst IsStrictlyIncreasing (sym turn.come) (without-ascends news flows now.ascends);
    }

pub IsWalk-next : (marks : List Mark) (numbers : List ℕ) (entered read : ℕ) (flows : List ℕ) (count : ℕ) (next : List ℕ) (turnover : Turnover) (mark : Mark) (shown : ℕ)
    (news more : List ℕ) (turned : Turnover) → IsWalk marks numbers entered read flows count next turnover → entered < length marks →
    take shown news ≡ told (take count flows) (get_or marks entered mark).whole (take (read + (get_or marks entered mark).size - read) (drop read numbers)) →
    shown ≤ length news → length news ≡ length flows → length more ≡ length flows →
    IsTurn turned (take count flows) (told (take count flows) (get_or marks entered mark).whole (take (read + (get_or marks entered mark).size - read) (drop read numbers))) →
    HasRoom turned (length flows) (length flows) →
    IsWalk marks numbers (entered + 1) (read + (get_or marks entered mark).size) news shown more turned
IsWalk-next marks numbers entered read flows count next turnover mark shown news more turned is lt now held room same turn wide =
    let at : Mark = get_or marks entered mark in
    let whole = ap (told (take count flows) at.whole) (part read at.size numbers) in
    let flowed : take shown news ≡ flows_of (take count flows) at (drop read numbers) = now ∙ whole in
    let changed = subst (IsTurn turned (take count flows)) whole turn in
    record {
      told = rw room is.told;
      walking = rw flowed (IsWalking-next marks numbers entered read (take count flows) mark (length flows) is.told is.walking lt);
      turned = HasTurned-next marks numbers entered read (take count flows) mark (length flows) turned is.told is.walking lt changed;
      held = held;
      same = same ∙ sym room;
      room = rw room wide;
    }
