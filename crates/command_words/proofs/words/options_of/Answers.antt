use Rattle.std.proofs.Common.{◌≡◌, ◌∙◌, IfNone, IfSome, None, Option, ap, sym, subst}
use Rattle.std.proofs.lemmas.Option.{none-some}
use Rattle.coflow_units.specs.declared.limits.TheConstants.{MAX_OPTION_SLOTS, MAX_SLOT_MS, MAX_UNIT}
use Rattle.clap.specs.Words.{first_value, found_of}
use Rattle.clap.specs.declared.parser.matches.Found.{Found}
use Rattle.command_words.specs.Jobs.{IsPolicy}
use Rattle.command_words.specs.Words.{IsSaid, IsSetting, Said, fold_of}
use Rattle.command_words.specs.declared.options.TheConstants.{MAX_OPTION_AGENTS, MAX_OPTION_CLASSES}
use Rattle.command_words.specs.declared.options.Options.{Options}
use Rattle.command_words.proofs.words.options_of.Goals as goal

none_of : (found : Found) (o : Option Options) → o ≡ None → ((said : Said) → IsSaid (first_value found) said → ⊥) →
    IfNone o ((said : Said) → IsSaid (first_value found) said → ⊥)
none_of found o e h =
    subst (λ x. IfNone x ((said : Said) → IsSaid (first_value found) said → ⊥)) (sym e) h

pub returns-in_err-unit-clause-none : goal.returns-in_err-unit-clause-none
returns-in_err-unit-clause-none c =
    none_of (found_of c.args.matches.now) _ c.from_residual.ensures
    (λ said is. c.in_err-unit.ensures.none said.unit (subst (λ v. IsSetting MAX_UNIT 1 v said.unit) (sym c.get_str.ensures) is.unit))

pub returns-in_err-agents-clause-none : goal.returns-in_err-agents-clause-none
returns-in_err-agents-clause-none c =
    none_of (found_of c.args.matches.now) _ c.from_residual-in_err-agents.ensures
    (λ said is. c.in_err-agents.ensures.none said.agents (subst (λ v. IsSetting MAX_OPTION_AGENTS 4 v said.agents) (sym c.get_str-2.ensures) is.agents))

pub returns-in_err-epoch-clause-none : goal.returns-in_err-epoch-clause-none
returns-in_err-epoch-clause-none c =
    none_of (found_of c.args.matches.now) _ c.from_residual-in_err-epoch.ensures
    (λ said is. c.in_err-epoch.ensures.none said.epoch (subst (λ v. IsSetting MAX_OPTION_SLOTS 1024 v said.epoch) (sym c.get_str-3.ensures) is.epoch))

pub returns-in_err-run-clause-none : goal.returns-in_err-run-clause-none
returns-in_err-run-clause-none c =
    none_of (found_of c.args.matches.now) _ c.from_residual-in_err-run.ensures
    (λ said is. c.in_err-run.ensures.none said.run (subst (λ v. IsSetting MAX_OPTION_SLOTS 1 v said.run) (sym c.get_str-4.ensures) is.run))

pub returns-in_err-slot_ms-clause-none : goal.returns-in_err-slot_ms-clause-none
returns-in_err-slot_ms-clause-none c =
    none_of (found_of c.args.matches.now) _ c.from_residual-in_err-slot_ms.ensures
    (λ said is. c.in_err-slot_ms.ensures.none said.slot_ms (subst (λ v. IsSetting MAX_SLOT_MS 8 v said.slot_ms) (sym c.get_str-5.ensures) is.slot_ms))

pub returns-in_err-classes-clause-none : goal.returns-in_err-classes-clause-none
returns-in_err-classes-clause-none c =
    none_of (found_of c.args.matches.now) _ c.from_residual-in_err-classes.ensures
    (λ said is. c.in_err-classes.ensures.none said.classes (subst (λ v. IsSetting MAX_OPTION_CLASSES 8 v said.classes) (sym c.get_str-6.ensures) is.classes))

pub returns-in_err-fold-clause-none : goal.returns-in_err-fold-clause-none
returns-in_err-fold-clause-none c =
    none_of (found_of c.args.matches.now) _ c.from_residual-in_err-fold.ensures
    (λ said is. none-some said.fold (c.in_err-fold.ensures ∙ ap fold_of c.get_str-7.ensures ∙ is.fold))

pub returns-clause-some : goal.returns-clause-some
returns-clause-some c = λ job is. record {
  job = is;
  weights = sym c.get_str-weights.ensures;
  unit = subst (λ v. IsSetting MAX_UNIT 1 v c.in_ok-unit.unit.megabytes) c.get_str.ensures c.in_ok-unit.ensures.some;
  agents = subst (λ v. IsSetting MAX_OPTION_AGENTS 4 v c.in_ok-agents.agents) c.get_str-2.ensures c.in_ok-agents.ensures.some;
  epoch = subst (λ v. IsSetting MAX_OPTION_SLOTS 1024 v c.in_ok-epoch.epoch) c.get_str-3.ensures c.in_ok-epoch.ensures.some;
  run = subst (λ v. IsSetting MAX_OPTION_SLOTS 1 v c.in_ok-run.run') c.get_str-4.ensures c.in_ok-run.ensures.some;
  slot_ms = subst (λ v. IsSetting MAX_SLOT_MS 8 v c.in_ok-slot_ms.slot_ms) c.get_str-5.ensures c.in_ok-slot_ms.ensures.some;
  classes = subst (λ v. IsSetting MAX_OPTION_CLASSES 8 v c.in_ok-classes.classes) c.get_str-6.ensures c.in_ok-classes.ensures.some;
  fold = ap fold_of (sym c.get_str-7.ensures) ∙ sym c.in_ok-fold.ensures;
  weights_fit = c.is_optional_name.ensures.0 (cc);
  policy_fit = subst (λ v. IfSome v IsPolicy) c.get_str-policy.ensures (c.is_optional_policy.ensures.0 (cc));
}
