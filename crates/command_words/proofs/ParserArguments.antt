-- The arguments of the command, as the parser has them once the command is built.
use Rattle.std.proofs.Common.{◌≡◌, ℕ, suc, zero, List, [], ◌∷◌, Option, Some, None, Bool, true, false, refl, subst, codes, ap, min}
use Rattle.std.specs.Prelude.{if◌then◌else◌, unwrap_or, ◌+◌}
use Rattle.std.specs.Str.{bytes_eq}
use Rattle.std.proofs.lemmas.Slice.Eq.{bytes_eq-Decides}
use Rattle.clap.specs.Lexer.{usize_max}
use Rattle.clap.specs.Words.{Kinds, Row, Rule, Text}
use Rattle.clap.specs.Simple.{filled}
use Rattle.clap.specs.Values.{reading_of}
use Rattle.clap.specs.Walk.{arg_by_id, arg_by_index, arg_by_long, has_row, settled, with_values, without}
use Rattle.clap.specs.Faults.{settle_fault}
use Rattle.clap.specs.declared.builder.action.ArgAction.TheVariants.{Set}
use Rattle.clap.specs.declared.builder.value_parser.ValueParser.TheVariants as parser
use Rattle.clap.specs.declared.parser.matches.ValueSource.TheVariants.{CommandLine}
use Rattle.clap.specs.declared.error.kind.ErrorKind.TheVariants as kind
use Rattle.clap.specs.Words.{new_rule}
use Rattle.command_words.specs.Line.{Use, is_option, name_at}
use Rattle.command_words.proofs.ParserState.{held, rules}

-- An argument with one value.
abbrev pub rule_with : Text → Option Text → Bool → Option ℕ → Rule
rule_with id long required index = record (filled (record (new_rule id) { action = Some Set; long = long; required = required })) { index = index }

pub record IsArgument (id : Text) : Type 0 where
  pub long : Option Text
  pub required : Bool
  pub index : Option ℕ
  pub by_id : arg_by_id rules id ≡ Some (rule_with id long required index)

-- An option of the command.
pub record IsOption (o : Text) : Type 0 where
  pub argument : IsArgument o
  pub by_long : arg_by_long rules o ≡ Some (rule_with o (Some o) false None)

-- The argument at a place among the names.
pub record IsName (k : ℕ) (id : Text) : Type 0 where
  pub argument : IsArgument id
  pub required : Bool
  pub by_index : arg_by_index rules k ≡ Some (rule_with id None required (Some k))
  pub next : min (k + 1) usize_max ≡ suc k

is_weights : IsOption (codes "weights")
is_weights = record { argument = record { long = Some (codes "weights"); required = false; index = None; by_id = refl }; by_long = refl }

is_unit : IsOption (codes "unit")
is_unit = record { argument = record { long = Some (codes "unit"); required = false; index = None; by_id = refl }; by_long = refl }

is_agents : IsOption (codes "agents")
is_agents = record { argument = record { long = Some (codes "agents"); required = false; index = None; by_id = refl }; by_long = refl }

is_epoch : IsOption (codes "epoch")
is_epoch = record { argument = record { long = Some (codes "epoch"); required = false; index = None; by_id = refl }; by_long = refl }

is_run : IsOption (codes "run")
is_run = record { argument = record { long = Some (codes "run"); required = false; index = None; by_id = refl }; by_long = refl }

is_slot_ms : IsOption (codes "slot-ms")
is_slot_ms = record { argument = record { long = Some (codes "slot-ms"); required = false; index = None; by_id = refl }; by_long = refl }

is_classes : IsOption (codes "classes")
is_classes = record { argument = record { long = Some (codes "classes"); required = false; index = None; by_id = refl }; by_long = refl }

is_fold : IsOption (codes "fold")
is_fold = record { argument = record { long = Some (codes "fold"); required = false; index = None; by_id = refl }; by_long = refl }

is_policy : IsOption (codes "policy")
is_policy = record { argument = record { long = Some (codes "policy"); required = false; index = None; by_id = refl }; by_long = refl }

is_command : IsName 1 (codes "COMMAND")
is_command = record { argument = record { long = None; required = true; index = Some 1; by_id = refl }; required = true; by_index = refl; next = refl }

is_first : IsName 2 (codes "FIRST")
is_first = record { argument = record { long = None; required = true; index = Some 2; by_id = refl }; required = true; by_index = refl; next = refl }

is_second : IsName 3 (codes "SECOND")
is_second = record { argument = record { long = None; required = false; index = Some 3; by_id = refl }; required = false; by_index = refl; next = refl }

same_name : (P : Text → Type 0) (name o : Text) → P name → bytes_eq name o ≡ true → P o
same_name P name o h e = subst P ((bytes_eq-Decides name o).0 e) h

-- The nine tests of a name, and what they come to.
pub option_of : (o : Text) → is_option o ≡ true → IsOption o
option_of o h = by (bytes_eq (codes "weights") o) (bytes_eq (codes "unit") o) (bytes_eq (codes "agents") o) (bytes_eq (codes "epoch") o) (bytes_eq (codes "run") o)
    (bytes_eq (codes "slot-ms") o) (bytes_eq (codes "classes") o) (bytes_eq (codes "fold") o) (bytes_eq (codes "policy") o) refl refl refl refl refl refl refl refl refl h
  where
    by : (a b c d e f g i j : Bool) → bytes_eq (codes "weights") o ≡ a → bytes_eq (codes "unit") o ≡ b → bytes_eq (codes "agents") o ≡ c → bytes_eq (codes "epoch") o ≡ d →
        bytes_eq (codes "run") o ≡ e → bytes_eq (codes "slot-ms") o ≡ f → bytes_eq (codes "classes") o ≡ g → bytes_eq (codes "fold") o ≡ i → bytes_eq (codes "policy") o ≡ j →
        is_option o ≡ true → IsOption o
    by true b c d e f g i j p q r s t u v w x h = same_name IsOption (codes "weights") o is_weights p
    by false true c d e f g i j p q r s t u v w x h = same_name IsOption (codes "unit") o is_unit q
    by false false true d e f g i j p q r s t u v w x h = same_name IsOption (codes "agents") o is_agents r
    by false false false true e f g i j p q r s t u v w x h = same_name IsOption (codes "epoch") o is_epoch s
    by false false false false true f g i j p q r s t u v w x h = same_name IsOption (codes "run") o is_run t
    by false false false false false true g i j p q r s t u v w x h = same_name IsOption (codes "slot-ms") o is_slot_ms u
    by false false false false false false true i j p q r s t u v w x h = same_name IsOption (codes "classes") o is_classes v
    by false false false false false false false true j p q r s t u v w x h = same_name IsOption (codes "fold") o is_fold w
    by false false false false false false false false true p q r s t u v w x h = same_name IsOption (codes "policy") o is_policy x
    by false false false false false false false false false p q r s t u v w x h = let bad : false ≡ true = rw (p, q, r, s, t, u, v, w, x) at h in cc

pub not_option : (o : Text) → is_option o ≡ false → arg_by_long rules o ≡ None
not_option o h = by (bytes_eq (codes "weights") o) (bytes_eq (codes "unit") o) (bytes_eq (codes "agents") o) (bytes_eq (codes "epoch") o) (bytes_eq (codes "run") o)
    (bytes_eq (codes "slot-ms") o) (bytes_eq (codes "classes") o) (bytes_eq (codes "fold") o) (bytes_eq (codes "policy") o) refl refl refl refl refl refl refl refl refl h
  where
    by : (a b c d e f g i j : Bool) → bytes_eq (codes "weights") o ≡ a → bytes_eq (codes "unit") o ≡ b → bytes_eq (codes "agents") o ≡ c → bytes_eq (codes "epoch") o ≡ d →
        bytes_eq (codes "run") o ≡ e → bytes_eq (codes "slot-ms") o ≡ f → bytes_eq (codes "classes") o ≡ g → bytes_eq (codes "fold") o ≡ i → bytes_eq (codes "policy") o ≡ j →
        is_option o ≡ false → arg_by_long rules o ≡ None
    by true b c d e f g i j p q r s t u v w x h = let bad : true ≡ false = rw p at h in cc
    by false true c d e f g i j p q r s t u v w x h = let bad : true ≡ false = rw (p, q) at h in cc
    by false false true d e f g i j p q r s t u v w x h = let bad : true ≡ false = rw (p, q, r) at h in cc
    by false false false true e f g i j p q r s t u v w x h = let bad : true ≡ false = rw (p, q, r, s) at h in cc
    by false false false false true f g i j p q r s t u v w x h = let bad : true ≡ false = rw (p, q, r, s, t) at h in cc
    by false false false false false true g i j p q r s t u v w x h = let bad : true ≡ false = rw (p, q, r, s, t, u) at h in cc
    by false false false false false false true i j p q r s t u v w x h = let bad : true ≡ false = rw (p, q, r, s, t, u, v) at h in cc
    by false false false false false false false true j p q r s t u v w x h = let bad : true ≡ false = rw (p, q, r, s, t, u, v, w) at h in cc
    by false false false false false false false false true p q r s t u v w x h = let bad : true ≡ false = rw (p, q, r, s, t, u, v, w, x) at h in cc
    by false false false false false false false false false p q r s t u v w x h = rw (p, q, r, s, t, u, v, w, x) refl

pub name_of : (k : ℕ) (id : Text) → name_at k ≡ Some id → IsName k id
name_of zero id e = cc
name_of (suc zero) id e = subst (IsName 1) (ap (λ (o : Option Text). unwrap_or o []) e) is_command
name_of (suc (suc zero)) id e = subst (IsName 2) (ap (λ (o : Option Text). unwrap_or o []) e) is_first
name_of (suc (suc (suc zero))) id e = subst (IsName 3) (ap (λ (o : Option Text). unwrap_or o []) e) is_second
name_of (suc (suc (suc (suc k)))) id e = cc

-- An argument that is used again is in conflict.
abbrev pub clash : Text → List Row → Kinds
clash id rows = if has_row id rows then kind.ArgumentConflict ∷ [] else []

abbrev pub put : Use → List Row → List Row
put u rows = with_values u.0 (reading_of parser.String) CommandLine (u.1 ∷ []) (without u.0 rows)

-- Settling what is pending uses its argument.
pub settles : (id : Text) → IsArgument id → (rows : List Row) (v : Text) → settle_fault rules false (held rows (Some (id, v ∷ []))) ≡ clash id rows
settles id a rows v = by (has_row id rows) refl
  where
    by : (b : Bool) → has_row id rows ≡ b → settle_fault rules false (held rows (Some (id, v ∷ []))) ≡ clash id rows
    by true e = rw (a.by_id, e) refl
    by false e = rw (a.by_id, e) refl

pub puts : (id : Text) → IsArgument id → (rows : List Row) (v : Text) → (settled rules (held rows (Some (id, v ∷ [])))).rows ≡ put (id, v) rows
puts id a rows v = rw a.by_id refl

-- An option without a value is refused once it is settled.
pub settles_none : (id : Text) → IsArgument id → (rows : List Row) → settle_fault rules false (held rows (Some (id, []))) ≡ kind.InvalidValue ∷ []
settles_none id a rows = rw a.by_id refl
