use Rattle.std.proofs.Common.{◌≡◌, ◌++◌, List, [], map, subst}
use Rattle.std.specs.Prelude.{codes}
use Rattle.std.specs.List.{flat_map}
use Rattle.coflow_units.specs.Text.{text_of}
use Rattle.online_text.specs.declared.value.DoneLine.{DoneLine}
use Rattle.online_text.specs.declared.value.Epoch.{Epoch}
use Rattle.online_text.specs.declared.value.ReleaseLine.{ReleaseLine}
use Rattle.online_text.specs.Text.{certificate_lines, done_line, epoch_lines}
use Rattle.online_text.proofs.TextSteps.{whole}
use Rattle.online_text.proofs.writing.write_online.Goals as goal

pub returns : goal.returns
returns c =
    let o = c.args.online in
    let first : c.extend_from_slice.new.self.items ≡ [] ++ codes "sincronia online 2\n" = rw c.new-head.ensures.items at c.in_ok-extend_from_slice.ensures.items in
    let epochs : c.push_epochs.new.text.items ≡ c.extend_from_slice.new.self.items ++ text_of (flat_map epoch_lines o.epochs) =
    subst (λ (es : List Epoch). c.push_epochs.new.text.items ≡ c.extend_from_slice.new.self.items ++ text_of (flat_map epoch_lines es)) c.as_slice.ensures
    c.in_ok-push_epochs.ensures in
    let done : c.push_done.new.text.items ≡ c.push_epochs.new.text.items ++ text_of (map done_line o.done) =
    subst (λ (ds : List DoneLine). c.push_done.new.text.items ≡ c.push_epochs.new.text.items ++ text_of (map done_line ds)) c.as_slice-2.ensures c.in_ok-push_done.ensures in
    let release : c.push_certificate.new.text.items ≡ c.push_named.new.text.items ++ text_of (certificate_lines o.release) =
    subst (λ (rs : List ReleaseLine). c.push_certificate.new.text.items ≡ c.push_named.new.text.items ++ text_of (certificate_lines rs)) c.as_slice-3.ensures
    c.in_ok-push_certificate.ensures in
    record {
      text = whole o c.extend_from_slice.new.self.items c.push_epochs.new.text.items c.push_done.new.text.items c.push_named.new.text.items c.push_certificate.new.text.items
          c.push_named-2.new.text.items c.with_runs.result first epochs done c.in_ok-push_named.ensures release c.in_ok-push_named-2.ensures c.with_runs.ensures;
    }
