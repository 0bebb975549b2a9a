-- How far a command came with its files, and that the shelf's count of faults stays.
use Rattle.std.proofs.Common.{◌≡◌, IfErr, ℕ, List, Option, Result, Ok, Err, ap, refl, sym, subst}
use Rattle.std.specs.Prelude.{◌⊎◌, Bool, IfSome, false, true}
use Rattle.command_words.specs.Jobs.{Job, report_name, script_name}
use Rattle.command_words.specs.Jobs.Job.{audit_job, check_job, classes_job, compare_job, live_job, make_job, online_job, plan_job, record_job, replay_job, serve_job}
use Rattle.command_words.specs.Line.{Text}
use Rattle.command_words.specs.Words.{IsWords, Said}
use Rattle.command_words.proofs.OneMeaning.{words_one}
use Rattle.flow_table.specs.Table.{TableFacts}
use Rattle.rankers.specs.Meaning.{Meaning}
use Rattle.outside.specs.Shelf.{Told}
use Rattle.command_files.specs.declared.status.Status.{Status}
use Rattle.command_files.specs.Causes.{FilesGiveShared, FilesGiveTable, IsGiven}
use Rattle.command_jobs.specs.Make.{HasMadeCause}
use Rattle.command_jobs.specs.Check.{status_for}
use Rattle.command_files.specs.GoodFiles.{HasGoodFiles}
use Rattle.command_files.specs.Ends.{IsReadFault, CountsFault}
use Rattle.sincronia_cli.specs.Outcome.{IsOutcome, OutcomeBy}
use Rattle.command_files.specs.WireCauses.{IsWireCause}
use Rattle.command_files.specs.Shelves.{OfBoth, ReadsOut}
use Rattle.command_files.specs.Turns.{FilesInTurn}
use Rattle.command_jobs.proofs.EndCauses.{of_served}
use Rattle.command_files.proofs.ShelfFacts.{if_some}
use Rattle.command_files.proofs.FileTurns.{done_in_turn, untouched_in_turn}
use Rattle.command_files.proofs.LiveTurns.{live_in_turn}

-- ---- all files in turn

served_reads : (P : ℕ → Type 0) (s : Status) → HasMadeCause s ⊎ IsWireCause P s → IsReadFault s → ⊥
served_reads P s cause read = of_served P (λ (x : Status). IsReadFault x → ⊥) s (λ r. r) (λ port count r. r) cause read

pub made_in_turn : {T : Type 0} (P : ℕ → Type 0) (told : Option Told) (said : Said) (r : Result T Status) → IfErr r (λ s. HasMadeCause s ⊎ IsWireCause P s) →
    IfErr r (λ s. OfBoth told told (FilesInTurn said s))
made_in_turn P told said (Ok x) cause = tt
made_in_turn P told said (Err s) cause = untouched_in_turn told said s (served_reads P s cause)

pub made_counts : {T : Type 0} (P : ℕ → Type 0) (n : ℕ) (r : Result T Status) → IfErr r (λ s. HasMadeCause s ⊎ IsWireCause P s) → CountsFault n n r
made_counts P n (Ok x) cause = refl
made_counts P n (Err s) cause = (λ other. refl, λ read. absurd (served_reads P s cause read))

-- ---- a job whose text was made

answer_reads : (answer : Bool) (s : Status) → s ≡ status_for answer → IsReadFault s → ⊥
answer_reads true s is read = subst IsReadFault is read
answer_reads false s is read = subst IsReadFault is read

text_reads : (S : TableFacts → List (List ℕ) → Type 0) (k : Job) (told : Option Told) (said : Said) (bench : List Meaning) (s : Status) (text : List ℕ) →
    OutcomeBy S k told said bench s text → IsReadFault s → ⊥
text_reads S (plan_job trace) told said bench s text (is, plan) read = subst IsReadFault is read
text_reads S (check_job trace report) told said bench s text (answer, is, checks) read = answer_reads answer s is read
text_reads S (make_job seed) told said bench s text (is, made) read = subst IsReadFault is read
text_reads S (compare_job trace) told said bench s text (is, compares) read = subst IsReadFault is read
text_reads S (classes_job trace) told said bench s text (is, classes) read = subst IsReadFault is read
text_reads S (serve_job trace order) told said bench s text (is, serves) read = subst IsReadFault is read
text_reads S (online_job trace) told said bench s text (is, run) read = subst IsReadFault is read
text_reads S (replay_job trace) told said bench s text (is, replays) read = subst IsReadFault is read
text_reads S (record_job trace policy) told said bench s text (answer, is, records) read = answer_reads answer s is read
text_reads S (live_job trace script) told said bench s text (is, run) read = subst IsReadFault is read
text_reads S (audit_job trace journal) told said bench s text (answer, is, audits) read = answer_reads answer s is read

module _ (old new : Option Told) (said : Said) (s : Status) where
  pub done_by : (k : Job) → said.job ≡ k → (IsReadFault s → ⊥) → IfSome old (HasGoodFiles k said) → OfBoth old new (ReadsOut k said) →
      ((seed : ℕ) → k ≡ make_job seed → new ≡ old) →
      OfBoth old new (FilesInTurn said s)
  done_by (plan_job trace) is other good out same = done_in_turn old new said s (ap script_name is) other good out
  done_by (check_job trace report) is other good out same =
      done_in_turn old new said s (ap script_name is) other
      (if_some old (HasGoodFiles (check_job trace report) said) (FilesGiveTable said) (λ t (gives, report). gives) good) out
  done_by (compare_job trace) is other good out same = done_in_turn old new said s (ap script_name is) other good out
  done_by (classes_job trace) is other good out same = done_in_turn old new said s (ap script_name is) other good out
  done_by (online_job trace) is other good out same = done_in_turn old new said s (ap script_name is) other good out
  done_by (replay_job trace) is other good out same = done_in_turn old new said s (ap script_name is) other good out
  done_by (record_job trace policy) is other good out same = done_in_turn old new said s (ap script_name is) other good out
  done_by (live_job trace script) is other good out same =
      live_in_turn old new said s (subst IsGiven (sym (ap script_name is)) tt) (ap report_name is) other
      (if_some old (HasGoodFiles (live_job trace script) said) (FilesGiveShared said) (λ t (shared, text). shared) good) out
  done_by (audit_job trace journal) is other good out same =
      done_in_turn old new said s (ap script_name is) other
      (if_some old (HasGoodFiles (audit_job trace journal) said) (FilesGiveTable said) (λ t (gives, text). gives) good) out
  done_by (serve_job trace order) is other good out same =
      done_in_turn old new said s (ap script_name is) other
      (if_some old (HasGoodFiles (serve_job trace order) said) (FilesGiveTable said) (λ t (gives, text). gives) good) out
  done_by (make_job seed) is other good out same = subst (λ n. OfBoth old n (FilesInTurn said s)) (sym (same seed refl)) (untouched_in_turn old said s other)

  pub text_in_turn : (S : TableFacts → List (List ℕ) → Type 0) (bench : List Meaning) (text : List ℕ) → IsOutcome S old said bench s text →
      IfSome old (HasGoodFiles said.job said) → OfBoth old new (ReadsOut said.job said) →
      ((seed : ℕ) → said.job ≡ make_job seed → new ≡ old) → OfBoth old new (FilesInTurn said s)
  text_in_turn S bench text outcome good out same = done_by said.job refl (text_reads S said.job old said bench s text outcome) good out same

-- what holds for the words holds for all that they say
pub turn_for : (words : List Text) (by said : Said) (old new : Option Told) (s : Status) → IsWords words by → IsWords words said → OfBoth old new (FilesInTurn by s) →
    OfBoth old new (FilesInTurn said s)
turn_for words by said old new s reads is turn = subst (λ (x : Said). OfBoth old new (FilesInTurn x s)) (words_one words by said reads is) turn

pub out_for : (words : List Text) (by said : Said) (old new : Option Told) → IsWords words by → IsWords words said → OfBoth old new (ReadsOut by.job by) →
    OfBoth old new (ReadsOut said.job said)
out_for words by said old new reads is out = subst (λ (x : Said). OfBoth old new (ReadsOut x.job x)) (words_one words by said reads is) out
