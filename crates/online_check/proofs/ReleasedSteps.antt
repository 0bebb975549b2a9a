-- The lines of a released certificate as places, and beside the loads of the table.
use Rattle.std.proofs.Common.{◌≡◌, ℕ, ◌+◌, ◌<◌, List, [], ◌∷◌, ◌++◌, length, reverse, take, refl, sym, ap, subst, ◌∙◌, arith, zero, suc}
use Rattle.std.specs.Prelude.{map, slice_index}
use Rattle.std.specs.List.{slice_index_or}
use Rattle.std.proofs.lemmas.List.{length-map, map_push, take_more}
use Rattle.std.proofs.lemmas.List.Elements.{All-contains}
use Rattle.coflow_units.specs.declared.fabric.Flow.{Flow}
use Rattle.coflow_units.specs.declared.fabric.Side.TheVariants.{Ingress}
use Rattle.coflow_units.specs.Certificate.{IsCertificate}
use Rattle.dual_cert.specs.TableCertificate.{HasLoadsOf, IsCertificateOf}
use Rattle.dual_cert.proofs.FirstPlaces.{map_reverse}
use Rattle.flow_table.specs.Table.{TableFacts, instance_of}
use Rattle.port_load.specs.LoadTable.{LoadTable}
use Rattle.cert_check.specs.Places.{certificate_in, coflow_with, coflows_in, entry_for}
use Rattle.cert_check.specs.Sound.{AreLoadsOf}
use Rattle.cert_check.proofs.InstanceFacts.{beside_table, has_loads, is_certificate}
use Rattle.online_text.specs.declared.value.Online.{Online}
use Rattle.online_text.specs.declared.value.ReleaseLine.{ReleaseLine}
use Rattle.release_bound.specs.declared.place.ReleasePlace.{ReleasePlace}
use Rattle.release_bound.specs.Release.{IsReleasedCertificate, IsReleasedFeasible, entries_of, entry_of}
use Rattle.release_bound.specs.ReleaseTable.{IsLeastReleasedInfeasible, StaysAt}
use Rattle.online_check.specs.Parts.{ArePlaced}
use Rattle.online_check.specs.Released.{plain_line, plain_lines, released_for, released_in, released_with}

-- the line with index k; an index past the end gives zeros
abbrev pub no_line : ReleaseLine
no_line = record { id = 0; port = record { side = Ingress; number = 0 }; y = 0; z = 0 }

abbrev pub line_at : List ReleaseLine → ℕ → ReleaseLine
line_at lines k = slice_index_or lines k no_line

pub count_plain : (lines : List ReleaseLine) → length (plain_lines lines) ≡ length lines
count_plain lines = length-map lines plain_line

-- the coflow of a line
coflow_at : (ids : List ℕ) (lines : List ReleaseLine) (k : ℕ) → k < length lines → slice_index (coflows_in ids (plain_lines lines)) k ≡ coflow_with ids (line_at lines k).id
coflow_at ids [] k lt = absurd (omega arith)
coflow_at ids (r ∷ rs) zero lt = refl
coflow_at ids (r ∷ rs) (suc k) lt = coflow_at ids rs k (omega arith)

-- one place more
pub released_more : (ids coflows : List ℕ) (lines : List ReleaseLine) (k : ℕ) (places : List ReleasePlace) (place : ReleasePlace) → coflows ≡ coflows_in ids (plain_lines lines) →
    places ≡ map (released_for ids) (take k lines) → k < length lines → place ≡ released_with (slice_index coflows k) (line_at lines k) →
    places ++ place ∷ [] ≡ map (released_for ids) (take (k + 1) lines)
released_more ids coflows lines k places place named so_far lt here =
    let is : place ≡ released_for ids (line_at lines k) =
    here ∙ ap (λ c. released_with c (line_at lines k)) (ap (λ (l : List ℕ). slice_index l k) named ∙ coflow_at ids lines k lt) in
    ap (λ l. l ++ place ∷ []) so_far ∙ ap (λ p. map (released_for ids) (take k lines) ++ p ∷ []) is ∙ sym (map_push (released_for ids) (take k lines) (line_at lines k))
    ∙ ap (map (released_for ids)) (sym (take_more lines k no_line lt))

entries_named : (ids : List ℕ) (lines : List ReleaseLine) → map entry_of (map (released_for ids) lines) ≡ map (entry_for ids) (plain_lines lines)
entries_named ids [] = refl
entries_named ids (r ∷ rs) = ap (λ l. entry_of (released_for ids r) ∷ l) (entries_named ids rs)

-- without their z the places are those of a plan's certificate
pub entries_are : (ids : List ℕ) (lines : List ReleaseLine) → entries_of (released_in ids lines) ≡ certificate_in ids (plain_lines lines)
entries_are ids lines = map_reverse entry_of (map (released_for ids) lines) ∙ ap reverse (entries_named ids lines)

-- the places are the certificate of the lines, which is one of the instance, also beside the table of its loads
pub record Settled (t : TableFacts) (loads : LoadTable) (weights : List ℕ) (o : Online) (places : List ReleasePlace) : Type 0 where
  pub is : reverse places ≡ released_in t.ids o.release
  pub certificate : IsReleasedCertificate (instance_of t weights) (reverse places)
  pub beside : IsCertificateOf loads (entries_of (reverse places))
  pub loads_are : HasLoadsOf t.flows loads (entries_of (reverse places))

pub is_released_certificate : (t : TableFacts) (weights : List ℕ) (o : Online) → ArePlaced (instance_of t weights) t.ids o →
    IsReleasedCertificate (instance_of t weights) (released_in t.ids o.release)
is_released_certificate t weights o placed =
    subst (IsCertificate (instance_of t weights)) (sym (entries_are t.ids o.release)) (is_certificate t weights (plain_lines o.release) placed.names placed.port)

pub settled : (t : TableFacts) (loads : LoadTable) (weights : List ℕ) (o : Online) (places : List ReleasePlace) → AreLoadsOf t loads → ArePlaced (instance_of t weights) t.ids o →
    places ≡ map (released_for t.ids) o.release → Settled t loads weights o places
settled t loads weights o places of_table placed are =
    let e : reverse places ≡ released_in t.ids o.release = ap reverse are in
    let certificate : IsReleasedCertificate (instance_of t weights) (reverse places) =
    subst (IsReleasedCertificate (instance_of t weights)) (sym e) (is_released_certificate t weights o placed) in
    record {
      is = e;
      certificate = certificate;
      beside = beside_table t loads weights (entries_of (reverse places)) of_table certificate;
      loads_are = has_loads t loads weights (entries_of (reverse places)) of_table certificate;
    }

-- a feasible certificate has no coflow that pays too much
pub no_infeasible : (flows : List Flow) (weight : ℕ → ℕ) (places : List ReleasePlace) (coflow : ℕ) → IsReleasedFeasible flows weight places →
    IsLeastReleasedInfeasible flows weight places coflow → ⊥
no_infeasible flows weight places coflow feasible bad =
    let within = subst (λ c. StaysAt flows weight places bad.place) bad.coflow_is (All-contains (StaysAt flows weight places) places bad.place feasible bad.stands) in
    let here = bad.coflow_is in
    grind (arith, within, bad.above, here)
