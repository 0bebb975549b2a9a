-- What a yes on a printed journal says.
use Rattle.std.proofs.Common.{◌≡◌, ℕ, List, Option, Some, None}
use Rattle.std.specs.Prelude.{true}
use Rattle.coflow_units.proofs.ServedLaws.{grants_patient}
use Rattle.command_words.specs.Jobs.{report_name}
use Rattle.command_words.specs.Words.{Said}
use Rattle.flow_table.specs.Table.{TableFacts}
use Rattle.journal.proofs.WereOpened.{were_opened}
use Rattle.journal.specs.Fold.{state_of}
use Rattle.journal.specs.Journal.{line_of}
use Rattle.journal.specs.State.{owed}
use Rattle.journal_audit.proofs.YesSteps.{yes_clear, yes_slots, yes_within}
use Rattle.journal_audit.specs.declared.verdict.Audit.{Audit}
use Rattle.journal_audit.specs.declared.verdict.Audit.TheVariants.{No, Yes}
use Rattle.journal_audit.specs.Reasons.{IsAudit}
use Rattle.journal_audit.specs.Sound.{IsSoundLive}
use Rattle.journal_audit.specs.Stated.{journal_in, opening_for}
use Rattle.live_text.specs.declared.value.Live.{Live}
use Rattle.live_text.specs.Live.{IsLive}
use Rattle.outside.specs.Shelf.{Told}
use Rattle.command_jobs.specs.Audit.{AuditOf, RunsKeepTheLine, WritesSound, is_yes}
use Rattle.command_files.specs.Reports.{IsJournalIfNamed}
use Rattle.command_files.specs.Written.{Appends}

sound_of : (t : TableFacts) (weights : List ℕ) (l : Live) (verdict : Audit) → true ≡ is_yes verdict → IsAudit t weights l verdict → IsSoundLive t weights l
sound_of t weights l (Yes entries versions slots) is right = right.sound
sound_of t weights l (No reason) is why = cc

live_of : (told : Option Told) (name : Option (List ℕ)) (l : Live) → IsJournalIfNamed told name l → IsLive l
live_of told None l is = absurd is
live_of told (Some name) l is = is.fits

keeps_the_line : (t : TableFacts) (weights : List ℕ) (l : Live) → IsLive l → IsSoundLive t weights l → RunsKeepTheLine t weights l
keeps_the_line t weights l live right =
    let o = opening_for t weights l in
    record {
      closed = yes_slots t weights l live right;
      opened = (were_opened o (journal_in t l) right.legal).1;
      patient = λ r f x lt in_line owes. grants_patient t.flows (line_of o x.before) (owed o (state_of o x.before)) r.granted f x.grants lt in_line owes;
      once = yes_clear t weights l live right;
      within = λ f. yes_within t weights l live right f;
    }

pub sure_sound : (told : Option Told) (said : Said) (old new : Option (List ℕ)) (text : List ℕ) → AuditOf told said true text → Appends old new text → WritesSound told said old new
sure_sound told said old new text audits written =
    let right = sound_of audits.table audits.weights audits.live audits.verdict audits.yes_is audits.audited in
    record {
      text = text;
      audits = audits;
      right = right;
      keeps = keeps_the_line audits.table audits.weights audits.live (live_of told (report_name said.job) audits.live audits.live_is) right;
      written = written;
    }
