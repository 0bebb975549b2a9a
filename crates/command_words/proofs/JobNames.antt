-- The table of commands, by the number of files that they take.
use Rattle.std.proofs.Common.{◌≡◌, ◌∙◌, ℕ, Bool, true, false, Option, Some, None, ap, ap₂, codes, refl, subst, sym}
use Rattle.std.specs.Prelude.{if◌then◌else◌, option_map}
use Rattle.std.specs.Str.{bytes_eq}
use Rattle.std.proofs.lemmas.Slice.Eq.{bytes_eq-Decides}
use Rattle.command_words.specs.Jobs.{Job, alone, audit_job, both_in, check_job, classes_job, compare_job, file_in, file_job, file_of, files_job, job_of}
use Rattle.command_words.specs.Jobs.{live_job, make_job, online_job, plan_job, replay_job, seed_of, serve_job}
use Rattle.command_words.specs.Line.{Text}

-- The table by what FIRST and SECOND give.
abbrev table : Option Text → Option ℕ → Option Text → Option Text → Text → Option Job
table file seed second other name = if bytes_eq name (codes "plan") then option_map plan_job (alone file second)
    else (if bytes_eq name (codes "check") then both_in check_job file other
    else (if bytes_eq name (codes "make") then option_map make_job (alone seed second)
    else (if bytes_eq name (codes "compare") then option_map compare_job (alone file second)
    else (if bytes_eq name (codes "classes") then option_map classes_job (alone file second)
    else (if bytes_eq name (codes "audit") then both_in audit_job file other
    else (if bytes_eq name (codes "online") then option_map online_job (alone file second)
    else (if bytes_eq name (codes "live") then both_in live_job file other
    else (if bytes_eq name (codes "serve") then both_in serve_job file other
    else (if bytes_eq name (codes "replay") then option_map replay_job (alone file second)
    else None)))))))))

-- What holds of each command's name and of a name that is none of these.
record OfEach (P : Text → Type 0) : Type 0 where
  plan : P (codes "plan")
  check : P (codes "check")
  make : P (codes "make")
  compare : P (codes "compare")
  classes : P (codes "classes")
  audit : P (codes "audit")
  online : P (codes "online")
  live : P (codes "live")
  serve : P (codes "serve")
  replay : P (codes "replay")
  other : (name : Text) → bytes_eq name (codes "plan") ≡ false → bytes_eq name (codes "check") ≡ false → bytes_eq name (codes "make") ≡ false →
      bytes_eq name (codes "compare") ≡ false → bytes_eq name (codes "classes") ≡ false → bytes_eq name (codes "audit") ≡ false → bytes_eq name (codes "online") ≡ false →
      bytes_eq name (codes "live") ≡ false → bytes_eq name (codes "serve") ≡ false → bytes_eq name (codes "replay") ≡ false → P name

same_name : (P : Text → Type 0) (name o : Text) → P o → bytes_eq name o ≡ true → P name
same_name P name o h e = subst P (sym ((bytes_eq-Decides name o).0 e)) h

of_name : (P : Text → Type 0) → OfEach P → (name : Text) → P name
of_name P h n = by (bytes_eq n (codes "plan")) (bytes_eq n (codes "check")) (bytes_eq n (codes "make")) (bytes_eq n (codes "compare")) (bytes_eq n (codes "classes"))
    (bytes_eq n (codes "audit")) (bytes_eq n (codes "online")) (bytes_eq n (codes "live"))
    (bytes_eq n (codes "serve")) (bytes_eq n (codes "replay")) refl refl refl refl refl refl refl refl refl refl
  where
    by : (a b c d e f g i j k : Bool) → bytes_eq n (codes "plan") ≡ a → bytes_eq n (codes "check") ≡ b → bytes_eq n (codes "make") ≡ c → bytes_eq n (codes "compare") ≡ d →
        bytes_eq n (codes "classes") ≡ e → bytes_eq n (codes "audit") ≡ f → bytes_eq n (codes "online") ≡ g → bytes_eq n (codes "live") ≡ i → bytes_eq n (codes "serve") ≡ j →
        bytes_eq n (codes "replay") ≡ k → P n
    by true b c d e f g i j k p q r s t u v w x y = same_name P n (codes "plan") h.plan p
    by false true c d e f g i j k p q r s t u v w x y = same_name P n (codes "check") h.check q
    by false false true d e f g i j k p q r s t u v w x y = same_name P n (codes "make") h.make r
    by false false false true e f g i j k p q r s t u v w x y = same_name P n (codes "compare") h.compare s
    by false false false false true f g i j k p q r s t u v w x y = same_name P n (codes "classes") h.classes t
    by false false false false false true g i j k p q r s t u v w x y = same_name P n (codes "audit") h.audit u
    by false false false false false false true i j k p q r s t u v w x y = same_name P n (codes "online") h.online v
    by false false false false false false false true j k p q r s t u v w x y = same_name P n (codes "live") h.live w
    by false false false false false false false false true k p q r s t u v w x y = same_name P n (codes "serve") h.serve x
    by false false false false false false false false false true p q r s t u v w x y = same_name P n (codes "replay") h.replay y
    by false false false false false false false false false false p q r s t u v w x y = h.other n p q r s t u v w x y

-- The name is not `make`.
abbrev pub IsOther : Text → Type 0
IsOther name = bytes_eq name (codes "make") ≡ false

pub make_is : (name first : Text) (second : Option Text) → bytes_eq name (codes "make") ≡ true → job_of name first second ≡ option_map make_job (alone (seed_of first) second)
make_is name first second e =
    same_name (λ n. table (file_of first) (seed_of first) second (file_in second) n ≡ option_map make_job (alone (seed_of first) second)) name (codes "make") refl e

no_first : (seed : Option ℕ) (second other : Option Text) (name : Text) → IsOther name → table None seed second other name ≡ None
no_first seed None other = of_name (λ n. IsOther n → table None seed None other n ≡ None) (record {
  plan = λ m. refl;
  check = λ m. refl;
  make = λ m. cc;
  compare = λ m. refl;
  classes = λ m. refl;
  audit = λ m. refl;
  online = λ m. refl;
  live = λ m. refl;
  serve = λ m. refl;
  replay = λ m. refl;
  other = λ name p q r s t u v w x y m. rw (p, q, r, s, t, u, v, w, x, y) refl;
})
no_first seed (Some x) other = of_name (λ n. IsOther n → table None seed (Some x) other n ≡ None) (record {
  plan = λ m. refl;
  check = λ m. refl;
  make = λ m. cc;
  compare = λ m. refl;
  classes = λ m. refl;
  audit = λ m. refl;
  online = λ m. refl;
  live = λ m. refl;
  serve = λ m. refl;
  replay = λ m. refl;
  other = λ name p q r s t u v w x y m. rw (p, q, r, s, t, u, v, w, x, y) refl;
})

-- FIRST is not the name of a file.
pub no_file : (name first : Text) (second : Option Text) → IsOther name → file_of first ≡ None → job_of name first second ≡ None
no_file name first second m e = ap (λ f. table f (seed_of first) second (file_in second) name) e ∙ no_first (seed_of first) second (file_in second) name m

one : (seed : Option ℕ) (trace name : Text) → IsOther name → table (Some trace) seed None None name ≡ file_job name trace
one seed trace = of_name (λ n. IsOther n → table (Some trace) seed None None n ≡ file_job n trace) (record {
  plan = λ m. refl;
  check = λ m. refl;
  make = λ m. cc;
  compare = λ m. refl;
  classes = λ m. refl;
  audit = λ m. refl;
  online = λ m. refl;
  live = λ m. refl;
  serve = λ m. refl;
  replay = λ m. refl;
  other = λ name p q r s t u v w x y m. rw (p, q, r, s, t, u, v, w, x, y) refl;
})

pub one_file : (name first trace : Text) → IsOther name → file_of first ≡ Some trace → job_of name first None ≡ file_job name trace
one_file name first trace m e = ap (λ f. table f (seed_of first) None None name) e ∙ one (seed_of first) trace name m

no_second : (seed : Option ℕ) (trace second name : Text) → table (Some trace) seed (Some second) None name ≡ None
no_second seed trace second = of_name (λ n. table (Some trace) seed (Some second) None n ≡ None) (record {
  plan = refl;
  check = refl;
  make = refl;
  compare = refl;
  classes = refl;
  audit = refl;
  online = refl;
  live = refl;
  serve = refl;
  replay = refl;
  other = λ name p q r s t u v w x y. rw (p, q, r, s, t, u, v, w, x, y) refl;
})

-- SECOND is not the name of a file.
pub no_other : (name first trace second : Text) → file_of first ≡ Some trace → file_of second ≡ None → job_of name first (Some second) ≡ None
no_other name first trace second e f = ap₂ (λ a b. table a (seed_of first) (Some second) b name) e f ∙ no_second (seed_of first) trace second name

two : (seed : Option ℕ) (trace second other name : Text) → table (Some trace) seed (Some second) (Some other) name ≡ files_job name trace other
two seed trace second other = of_name (λ n. table (Some trace) seed (Some second) (Some other) n ≡ files_job n trace other) (record {
  plan = refl;
  check = refl;
  make = refl;
  compare = refl;
  classes = refl;
  audit = refl;
  online = refl;
  live = refl;
  serve = refl;
  replay = refl;
  other = λ name p q r s t u v w x y. rw (p, q, r, s, t, u, v, w, x, y) refl;
})

pub two_files : (name first trace second other : Text) → file_of first ≡ Some trace → file_of second ≡ Some other → job_of name first (Some second) ≡ files_job name trace other
two_files name first trace second other e f = ap₂ (λ a b. table a (seed_of first) (Some second) b name) e f ∙ two (seed_of first) trace second other name
