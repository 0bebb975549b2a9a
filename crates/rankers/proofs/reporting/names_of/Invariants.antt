-- the names so far
use Rattle.std.proofs.Common.{◌≡◌, take}
use Rattle.std.specs.Prelude.{All, map}
use Rattle.report_text.specs.Compared.{IsName}
use Rattle.rankers.proofs.reporting.names_of.Given as goal

abbrev pub invariant-loop-ranker : goal.invariant-loop-ranker
invariant-loop-ranker g l = record {
  names : l.names.items ≡ map (λ b. ((goal.Ranker-dyn g (b.vtable, b.value)).meaning b.value).name) (take l.ranker-index l.bench);
  letters : All IsName l.names.items;
}
