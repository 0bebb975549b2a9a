-- A right online run has no reason against it, and one without reasons is right.
use Rattle.std.proofs.Common.{◌≡◌, ℕ, List, length, refl, sym, ap, subst, ◌∙◌}
use Rattle.coflow_units.specs.Certificate.{IsCertificate}
use Rattle.flow_table.specs.Table.{TableFacts, instance_of}
use Rattle.cert_check.proofs.Verdicts.{names_each, ports_in_range}
use Rattle.online_text.specs.declared.value.Online.{Online}
use Rattle.release_bound.specs.Release.{IsReleased}
use Rattle.schedule_model.specs.RunList.{slots_in}
use Rattle.online_check.specs.declared.verdict.OnlineVerdict.{OnlineVerdict}
use Rattle.online_check.specs.declared.verdict.OnlineVerdict.TheVariants.{No, Yes}
use Rattle.online_check.specs.Done.{ids_done, slots_done}
use Rattle.online_check.specs.Parts.{ArePlaced, HasSoundEnds, HasSoundTotal}
use Rattle.online_check.specs.Reasons.{IsOnlineVerdict}
use Rattle.online_check.specs.Released.{plain_lines}
use Rattle.online_check.specs.Sound.{IsSoundOnline}
use Rattle.online_check.proofs.DoneSteps.{count_ids, count_slots}
use Rattle.online_check.proofs.Firsts.{refuses}
use Rattle.online_check.proofs.ReleasedSteps.{entries_are, is_released_certificate}

-- each coflow has a line, where the lines are those of the coflows
pub slots_listed : (ids : List ℕ) (o : Online) → ids_done o.done ≡ ids → length (slots_done o.done) ≡ length ids
slots_listed ids o listed = count_slots o.done ∙ sym (count_ids o.done) ∙ ap (λ (l : List ℕ). length l) listed

module _ (t : TableFacts) (weights : List ℕ) (arrival : ℕ → ℕ) (o : Online) where
  abbrev Sound : Type 0
  Sound = IsSoundOnline (instance_of t weights) arrival t.ids o

  -- the lines of a right one name each coflow
  placed_in : Sound → ArePlaced (instance_of t weights) t.ids o
  placed_in sound =
      let certificate = subst (IsCertificate (instance_of t weights)) (entries_are t.ids o.release) sound.certificate in
      record { names = names_each t weights (plain_lines o.release) certificate; port = ports_in_range t weights (plain_lines o.release) certificate }

  total_in : Sound → HasSoundTotal (instance_of t weights) arrival t.ids o
  total_in sound = record { feasible = sound.feasible; total_is_low = sound.total_is_low }

  ends_in_it : Sound → HasSoundEnds (instance_of t weights) t.ids o
  ends_in_it sound = record { listed = sound.listed; ends = sound.ends; cost_is = sound.cost_is }

  -- a verdict is yes exactly on a right online run
  pub yes_where_sound : (verdict : OnlineVerdict) → IsOnlineVerdict (instance_of t weights) arrival t.ids o verdict → (verdict ≡ Yes → Sound) × (Sound → verdict ≡ Yes)
  yes_where_sound Yes sound = ((λ e. sound), (λ s. refl))
  yes_where_sound (No reason) first = (
    (λ e. absurd (cc e)),
    (λ sound. absurd (refuses (instance_of t weights) arrival t.ids o (placed_in sound) (total_in sound) sound.released (ends_in_it sound)
        (slots_listed t.ids o sound.listed) reason first.holds)),
  )

  -- the parts are the whole
  pub all_parts : ArePlaced (instance_of t weights) t.ids o → HasSoundTotal (instance_of t weights) arrival t.ids o → IsReleased t.flows arrival (slots_in o.runs) →
      HasSoundEnds (instance_of t weights) t.ids o → Sound
  all_parts placed total released ends = record {
    certificate = is_released_certificate t weights o placed;
    feasible = total.feasible;
    total_is_low = total.total_is_low;
    released = released;
    listed = ends.listed;
    ends = ends.ends;
    cost_is = ends.cost_is;
  }
