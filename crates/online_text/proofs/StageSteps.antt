-- What goes on from a draft at a known stage, and the first line.
use Rattle.std.proofs.Common.{◌≡◌, ℕ, List, [], ◌∷◌, ◌++◌, refl, sym, ap, subst, ◌∙◌}
use Rattle.std.specs.Prelude.{◌↔◌, codes}
use Rattle.std.specs.List.{flat_map}
use Rattle.coflow_units.proofs.Fronts.{head_of}
use Rattle.report_text.proofs.LineLists.{tail_is}
use Rattle.online_text.specs.declared.value.Online.{Online}
use Rattle.online_text.specs.Online.{HasSmallNumbers, IsOnline}
use Rattle.online_text.specs.Text.{epoch_lines, lines_from_done}
use Rattle.online_text.proofs.OneText.{online_nested}
use Rattle.online_text.specs.declared.draft.Draft.{Draft}
use Rattle.online_text.specs.declared.draft.Stage.{Stage}
use Rattle.online_text.specs.declared.draft.Stage.TheVariants.{First, Epochs, Ended}
use Rattle.online_text.specs.Draft.{Follows, GoesOn, GoesOnAt, IsDraft, IsDraftAt, Refuses}

pub draft_at : (d : Draft) (s : Stage) → d.stage ≡ s → IsDraft d → IsDraftAt s d
draft_at d s stage h = subst (λ t. IsDraftAt t d) stage h

pub draft_back : (d : Draft) (s : Stage) → d.stage ≡ s → IsDraftAt s d → IsDraft d
draft_back d s stage h = subst (λ t. IsDraftAt t d) (sym stage) h

pub goes_at : (d : Draft) (s : Stage) (o : Online) (lines : List (List ℕ)) → d.stage ≡ s → GoesOn d o lines → GoesOnAt s d o lines
goes_at d s o lines stage g = subst (λ t. GoesOnAt t d o lines) stage g

pub goes_back : (d : Draft) (s : Stage) (o : Online) (lines : List (List ℕ)) → d.stage ≡ s → GoesOnAt s d o lines → GoesOn d o lines
goes_back d s o lines stage g = subst (λ t. GoesOnAt t d o lines) (sym stage) g

-- it is enough to look at the stages
pub follows : (old new : Draft) (s t : Stage) (line : List ℕ) → old.stage ≡ s → new.stage ≡ t →
    ((o : Online) (more : List (List ℕ)) → IsOnline o → HasSmallNumbers o → GoesOnAt s old o (line ∷ more) ↔ GoesOnAt t new o more) → Follows old new line
follows old new s t line at_old at_new steps o more online small =
    let both = steps o more online small in
    ((λ g. goes_back new t o more at_new (both.0 (goes_at old s o (line ∷ more) at_old g))), (λ g. goes_back old s o (line ∷ more) at_old (both.1 (goes_at new t o more at_new g))))

pub refuses : (d : Draft) (s : Stage) (line : List ℕ) → d.stage ≡ s →
    ((o : Online) (more : List (List ℕ)) → IsOnline o → HasSmallNumbers o → GoesOnAt s d o (line ∷ more) → ⊥) → Refuses d line
refuses d s line stage stuck o more online small g = stuck o more online small (goes_at d s o (line ∷ more) stage g)

-- the draft at another stage
abbrev pub at_stage : Draft → Stage → Draft
at_stage d s = record {
  stage = s;
  epochs = d.epochs;
  time = d.time;
  places = d.places;
  done = d.done;
  cost = d.cost;
  release = d.release;
  total = d.total;
  runs = d.runs;
  slots = d.slots;
}

pub first_taken : (d : Draft) (line : List ℕ) → IsDraft d → d.stage ≡ First → line ≡ codes "sincronia online 2" →
    IsDraft (at_stage d Epochs) × Follows d (at_stage d Epochs) line
first_taken d line h stage is = (draft, follows d new First Epochs line stage refl (λ o more online small. (forward o more, backward o more)))
  where
    new : Draft
    new = at_stage d Epochs

    at : IsDraftAt First d
    at = draft_at d First stage h

    none : d.epochs.items ≡ []
    none = let (epochs, places, done, release, runs) = at.later in epochs

    draft : IsDraft new
    draft = record { online = at.online; small = at.small; slots = at.slots; later = let (epochs, places, done, release, runs) = at.later in (places, done, release, runs) }

    forward : (o : Online) (more : List (List ℕ)) → GoesOnAt First d o (line ∷ more) → GoesOnAt Epochs new o more
    forward o more (before, e) = (
      tt,
      (
        o.epochs,
        ap (λ z. z ++ o.epochs) (sym none),
        tail_is line (codes "sincronia online 2") more (flat_map epoch_lines o.epochs ++ lines_from_done o) (e ∙ online_nested o),
      ),
    )

    backward : (o : Online) (more : List (List ℕ)) → GoesOnAt Epochs new o more → GoesOnAt First d o (line ∷ more)
    backward o more (before, (es, has, e)) =
        let all : o.epochs ≡ es = has ∙ ap (λ z. z ++ es) none in
        let rest : more ≡ flat_map epoch_lines o.epochs ++ lines_from_done o = e ∙ ap (λ z. flat_map epoch_lines z ++ lines_from_done o) (sym all) in
        (tt, (λ i. is i ∷ rest i) ∙ sym (online_nested o))

pub first_refused : (d : Draft) (line : List ℕ) → d.stage ≡ First → (line ≡ codes "sincronia online 2" → ⊥) → Refuses d line
first_refused d line stage other = refuses d First line stage (λ o more online small g. other
    (head_of line (codes "sincronia online 2") more (flat_map epoch_lines o.epochs ++ lines_from_done o) (g.1 ∙ online_nested o)))

pub ended_refused : (d : Draft) (line : List ℕ) → d.stage ≡ Ended → Refuses d line
ended_refused d line stage = refuses d Ended line stage (λ o more online small g. let bad : line ∷ more ≡ [] = g.1 in cc)
