-- The run that begins.
use Rattle.std.proofs.Common.{◌-◌, ◌∙◌, ℕ, List, Option, ap, arith, length, min, refl, subst, sym}
use Rattle.matching.specs.declared.tables.Tables.{Tables}
use Rattle.matching.specs.Matching.{IsSettled, listed_in}
use Rattle.master_core.specs.OpenRun.{KeptRuns, note_at}
use Rattle.coflow_units.proofs.Fronts.{written_back}
use Rattle.master_core.proofs.RunSteps.{least_is, some_of}
use Rattle.master_core.proofs.GrantSteps.{settled_at}
use Rattle.master_core.proofs.runs.Runs.begin.Goals as goal

pub returns-clause-begun : goal.returns-clause-begun
returns-clause-begun c =
    let m = c.self.inside.grants in
    let granted = listed_in m in
    let room = 2199023255552 - c.args.first in
    let tables = ap (λ (v : KeptRuns). v.tables) c.self.view_is in
    let same = c.clear_notes.ensures.len ∙ ap (λ (l : List (Option ℕ)). length l) c.deref_mut.ensures.value in
    let back = written_back c.self.inside.noted.len c.clear_notes.new.noted c.self.inside.noted.items (c.clear_notes.ensures.len ∙ c.deref_mut.ensures.len) in
    let (g, there) = some_of granted (omega (arith, c.requires.some, ap (λ (t : Tables). length (listed_in t)) tables)) in (
      _,
      refl,
      λ flows line left h.
          let h' = subst (IsSettled flows line left) (sym tables) h in
          record {
            first_is = refl;
            slots_is = c.min-2.ensures ∙ ap (λ n. min n room) c.min.ensures ∙
                least_is left granted c.least_left-least.result c.args.most room g (c.least_left-least.ensures flows line left h') there;
            grants = h'.grants;
            at = settled_at flows line left m h';
            settled = h';
            noted_len = ap (λ (l : List (Option ℕ)). length l) back ∙ same ∙ c.self.invariant.noted_len ∙ ap (λ (v : KeptRuns). v.ports) c.self.view_is;
            noted = λ ingress. ap (λ (l : List (Option ℕ)). note_at l ingress) back ∙ c.clear_notes.ensures.none ingress;
          },
      refl,
      refl,
      c.count.ensures,
    )
