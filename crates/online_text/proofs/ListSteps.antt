-- A draft that takes the lines of completions, of the cost, of the released certificate and of the total.
use Rattle.std.proofs.Common.{◌≡◌, ℕ, ◌+◌, ◌<◌, ◌^◌, List, [], ◌∷◌, ◌++◌, length, length-append, drop, refl, sym, ap, subst, ◌∙◌, arith}
use Rattle.std.specs.Prelude.{◌↔◌, All, None, codes}
use Rattle.std.proofs.lemmas.List.Elements.{All-push}
use Rattle.std.specs.declared.vec.Vec.{Vec}
use Rattle.std.specs.declared.alloc.Global.{Global}
use Rattle.coflow_units.specs.declared.fabric.Side.TheVariants.{Ingress}
use Rattle.report_text.specs.Readers.{IsTotalOf}
use Rattle.report_text.specs.Text.{cost_line, run_line}
use Rattle.report_text.proofs.LineLists.{first}
use Rattle.report_text.proofs.NumberText.{decimal_one}
use Rattle.online_text.specs.declared.value.DoneLine.{DoneLine}
use Rattle.online_text.specs.declared.value.Online.{Online}
use Rattle.online_text.specs.declared.value.ReleaseLine.{ReleaseLine}
use Rattle.online_text.specs.Online.{HasSmallNumbers, IsSmallDone, IsSmallRelease}
use Rattle.online_text.specs.Text.{certificate_lines, done_line, lines_from_release, lines_from_runs, release_line, total_line}
use Rattle.online_text.proofs.OneLines.{done_unique, release_unique}
use Rattle.online_text.specs.declared.draft.Draft.{Draft}
use Rattle.online_text.specs.declared.draft.Stage.TheVariants.{Done, Release, Runs}
use Rattle.online_text.specs.Draft.{AreLeft, Follows, GoesOnAt, IsDraft, IsDraftAt, Refuses, lines_from}
use Rattle.online_text.specs.Readers.{IsDoneOf, IsReleaseOf}
use Rattle.online_text.proofs.LeftLines.{counted_from, each_from, ended_with, ends_with, item_taken, started, starts}
use Rattle.online_text.proofs.StageSteps.{draft_at, draft_back, follows, refuses}

-- ---- the line of a completion

abbrev pub with_done : Draft → Vec DoneLine Global → Draft
with_done d done = record {
  stage = d.stage;
  epochs = d.epochs;
  time = d.time;
  places = d.places;
  done = done;
  cost = d.cost;
  release = d.release;
  total = d.total;
  runs = d.runs;
  slots = d.slots;
}

pub done_taken : (d : Draft) (done : Vec DoneLine Global) (x : DoneLine) (line : List ℕ) → IsDraft d → d.stage ≡ Done → done.items ≡ d.done.items ++ (x ∷ []) → IsSmallDone x →
    line ≡ done_line x → IsDraft (with_done d done) × Follows d (with_done d done) line
done_taken d done x line h stage grown fits is = (
  draft_back new Done stage draft,
  follows d new Done Done line stage stage (λ o more online small. ((λ g. (g.0, (both o more small).0 g.1)), (λ g. (g.0, (both o more small).1 g.1)))),
)
  where
    new : Draft
    new = with_done d done

    at : IsDraftAt Done d
    at = draft_at d Done stage h

    draft : IsDraftAt Done new
    draft = record {
      online = record { rising = at.online.rising; run = at.online.run; few_slots = at.online.few_slots; maximal = at.online.maximal };
      small = record {
        epochs = at.small.epochs;
        done = subst (All IsSmallDone) (sym grown) (All-push IsSmallDone d.done.items x at.small.done fits);
        cost = at.small.cost;
        count = at.small.count;
        release = at.small.release;
        total = at.small.total;
      };
      slots = at.slots;
      later = at.later;
    }

    both : (o : Online) (more : List (List ℕ)) → HasSmallNumbers o →
        AreLeft (λ k. done_line) d.done.items o.done (cost_line o.cost ∷ lines_from_release o) (line ∷ more) ↔
        AreLeft (λ k. done_line) done.items o.done (cost_line o.cost ∷ lines_from_release o) more
    both o more small = item_taken (λ k. done_line) IsSmallDone d.done.items done.items o.done x line (cost_line o.cost) (lines_from_release o) more small.done grown is
        (λ bad. absurd (let h : 100 ≡ 99 = ap first (sym is ∙ bad) in omega (arith, h))) (λ y small_y same. done_unique y x small_y fits same)

-- ---- the line of the cost

abbrev pub with_cost : Draft → ℕ → Draft
with_cost d cost = record {
  stage = Release;
  epochs = d.epochs;
  time = d.time;
  places = d.places;
  done = d.done;
  cost = cost;
  release = d.release;
  total = d.total;
  runs = d.runs;
  slots = d.slots;
}

release_counted : (rs : List ReleaseLine) → certificate_lines rs ≡ lines_from release_line 0 rs
release_counted rs = counted_from release_line record { id = 0; port = record { side = Ingress; number = 0 }; y = 0; z = 0 } rs

-- the completions are read whole where none has the line
done_over : (d : Draft) (line : List ℕ) → IsDoneOf line None → (o : Online) (more : List (List ℕ)) → HasSmallNumbers o →
    AreLeft (λ k. done_line) d.done.items o.done (cost_line o.cost ∷ lines_from_release o) (line ∷ more) →
    (o.done ≡ d.done.items) × (line ≡ cost_line o.cost) × (more ≡ lines_from_release o)
done_over d line none o more small left =
    ended_with (λ k. done_line) IsSmallDone d.done.items o.done line (cost_line o.cost) (lines_from_release o) more small.done none left

pub cost_taken : (d : Draft) (cost : ℕ) (line : List ℕ) → IsDraft d → d.stage ≡ Done → cost < 2 ^ 128 → line ≡ cost_line cost → IsDoneOf line None →
    IsDraft (with_cost d cost) × Follows d (with_cost d cost) line
cost_taken d cost line h stage fits is none =
    (draft, follows d new Done Release line stage refl (λ o more online small. (forward o more small, backward o more)))
  where
    new : Draft
    new = with_cost d cost

    at : IsDraftAt Done d
    at = draft_at d Done stage h

    empty : d.release.items ≡ []
    empty = let (release, runs) = at.later in release

    draft : IsDraft new
    draft = record {
      online = record { rising = at.online.rising; run = at.online.run; few_slots = at.online.few_slots; maximal = at.online.maximal };
      small = record {
        epochs = at.small.epochs;
        done = at.small.done;
        cost = fits;
        count = at.small.count;
        release = at.small.release;
        total = at.small.total;
      };
      slots = at.slots;
      later = let (release, runs) = at.later in runs;
    }

    behind : Online → List (List ℕ)
    behind o = total_line o.total ∷ lines_from_runs o

    forward : (o : Online) (more : List (List ℕ)) → HasSmallNumbers o → GoesOnAt Done d o (line ∷ more) → GoesOnAt Release new o more
    forward o more small (epochs, left) =
        let (same, here, rest) = done_over d line none o more small left in
        let number : o.cost ≡ cost = decimal_one o.cost cost small.cost fits (ap (drop 5) (sym here ∙ is)) in
        ((epochs, same, number), starts release_line d.release.items o.release (behind o) more empty (rest ∙ ap (λ ls. ls ++ behind o) (release_counted o.release)))

    backward : (o : Online) (more : List (List ℕ)) → GoesOnAt Release new o more → GoesOnAt Done d o (line ∷ more)
    backward o more ((epochs, same, number), left) =
        let rest : more ≡ lines_from_release o =
        started release_line d.release.items o.release (behind o) more empty left ∙ ap (λ ls. ls ++ behind o) (sym (release_counted o.release)) in
        (epochs, ends_with (λ k. done_line) d.done.items o.done line (cost_line o.cost) (lines_from_release o) more same (is ∙ ap cost_line (sym number)) rest)

pub cost_refused : (d : Draft) (line : List ℕ) → d.stage ≡ Done → IsDoneOf line None → IsTotalOf (codes "cost") line None → Refuses d line
cost_refused d line stage none no_cost = refuses d Done line stage
    (λ o more online small g. no_cost o.cost small.cost (done_over d line none o more small g.1).1)

-- ---- the line of a place of the released certificate

abbrev pub with_release : Draft → Vec ReleaseLine Global → Draft
with_release d release = record {
  stage = d.stage;
  epochs = d.epochs;
  time = d.time;
  places = d.places;
  done = d.done;
  cost = d.cost;
  release = release;
  total = d.total;
  runs = d.runs;
  slots = d.slots;
}

pub release_taken : (d : Draft) (release : Vec ReleaseLine Global) (x : ReleaseLine) (line : List ℕ) → IsDraft d → d.stage ≡ Release →
    release.items ≡ d.release.items ++ (x ∷ []) → IsSmallRelease x → line ≡ release_line (length d.release.items + 1) x → length d.release.items < 2 ^ 64 →
    IsDraft (with_release d release) × Follows d (with_release d release) line
release_taken d release x line h stage grown fits is few = (
  draft_back new Release stage draft,
  follows d new Release Release line stage stage (λ o more online small. ((λ g. (g.0, (both o more small).0 g.1)), (λ g. (g.0, (both o more small).1 g.1)))),
)
  where
    new : Draft
    new = with_release d release

    at : IsDraftAt Release d
    at = draft_at d Release stage h

    draft : IsDraftAt Release new
    draft = record {
      online = record { rising = at.online.rising; run = at.online.run; few_slots = at.online.few_slots; maximal = at.online.maximal };
      small = record {
        epochs = at.small.epochs;
        done = at.small.done;
        cost = at.small.cost;
        count = omega (arith, ap length grown, length-append d.release.items (x ∷ []), few);
        release = subst (All IsSmallRelease) (sym grown) (All-push IsSmallRelease d.release.items x at.small.release fits);
        total = at.small.total;
      };
      slots = at.slots;
      later = at.later;
    }

    both : (o : Online) (more : List (List ℕ)) → HasSmallNumbers o →
        AreLeft release_line d.release.items o.release (total_line o.total ∷ lines_from_runs o) (line ∷ more) ↔
        AreLeft release_line release.items o.release (total_line o.total ∷ lines_from_runs o) more
    both o more small = item_taken release_line IsSmallRelease d.release.items release.items o.release x line (total_line o.total) (lines_from_runs o) more small.release grown is
        (λ bad. absurd (let h : 114 ≡ 116 = ap first (sym is ∙ bad) in omega (arith, h)))
        (λ y small_y same. release_unique (length d.release.items + 1) y x small_y fits same)

-- ---- the line of the total

abbrev pub with_total : Draft → ℕ → Draft
with_total d total = record {
  stage = Runs;
  epochs = d.epochs;
  time = d.time;
  places = d.places;
  done = d.done;
  cost = d.cost;
  release = d.release;
  total = total;
  runs = d.runs;
  slots = d.slots;
}

-- the released certificate is read whole where no place has the line
release_over : (d : Draft) (line : List ℕ) → IsReleaseOf (length d.release.items + 1) line None → (o : Online) (more : List (List ℕ)) → HasSmallNumbers o →
    AreLeft release_line d.release.items o.release (total_line o.total ∷ lines_from_runs o) (line ∷ more) →
    (o.release ≡ d.release.items) × (line ≡ total_line o.total) × (more ≡ lines_from_runs o)
release_over d line none o more small left =
    ended_with release_line IsSmallRelease d.release.items o.release line (total_line o.total) (lines_from_runs o) more small.release none left

pub total_taken : (d : Draft) (total : ℕ) (line : List ℕ) → IsDraft d → d.stage ≡ Release → total < 2 ^ 128 → line ≡ total_line total →
    IsReleaseOf (length d.release.items + 1) line None → IsDraft (with_total d total) × Follows d (with_total d total) line
total_taken d total line h stage fits is none =
    (draft, follows d new Release Runs line stage refl (λ o more online small. (forward o more small, backward o more)))
  where
    new : Draft
    new = with_total d total

    at : IsDraftAt Release d
    at = draft_at d Release stage h

    draft : IsDraft new
    draft = record {
      online = record { rising = at.online.rising; run = at.online.run; few_slots = at.online.few_slots; maximal = at.online.maximal };
      small = record {
        epochs = at.small.epochs;
        done = at.small.done;
        cost = at.small.cost;
        count = at.small.count;
        release = at.small.release;
        total = fits;
      };
      slots = at.slots;
      later = tt;
    }

    behind : List (List ℕ)
    behind = codes "end" ∷ []

    forward : (o : Online) (more : List (List ℕ)) → HasSmallNumbers o → GoesOnAt Release d o (line ∷ more) → GoesOnAt Runs new o more
    forward o more small ((epochs, done, cost), left) =
        let (same, here, rest) = release_over d line none o more small left in
        let number : o.total ≡ total = decimal_one o.total total small.total fits (ap (drop 6) (sym here ∙ is)) in
        ((epochs, done, cost, same, number), starts (λ k. run_line) d.runs o.runs behind more at.later (rest ∙ ap (λ ls. ls ++ behind) (each_from run_line 0 o.runs)))

    backward : (o : Online) (more : List (List ℕ)) → GoesOnAt Runs new o more → GoesOnAt Release d o (line ∷ more)
    backward o more ((epochs, done, cost, same, number), left) =
        let rest : more ≡ lines_from_runs o =
        started (λ k. run_line) d.runs o.runs behind more at.later left ∙ ap (λ ls. ls ++ behind) (sym (each_from run_line 0 o.runs)) in
        ((epochs, done, cost), ends_with release_line d.release.items o.release line (total_line o.total) (lines_from_runs o) more same (is ∙ ap total_line (sym number)) rest)

pub total_refused : (d : Draft) (line : List ℕ) → d.stage ≡ Release → IsReleaseOf (length d.release.items + 1) line None → IsTotalOf (codes "total") line None → Refuses d line
total_refused d line stage none no_total = refuses d Release line stage
    (λ o more online small g. no_total o.total small.total (release_over d line none o more small g.1).1)
