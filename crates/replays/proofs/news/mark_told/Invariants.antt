-- the coflows so far that are news are marked, and the marks behind them are as they were
use Rattle.std.proofs.Common.{◌≡◌, ℕ, ◌<◌, ◌≤◌, false, get_or, length}
use Rattle.std.specs.Prelude.{◌||◌}
use Rattle.epochs.specs.Course.{is_marked}
use Rattle.replays.specs.Kept.{is_untold}
use Rattle.replays.proofs.news.mark_told.Given as goal

abbrev pub invariant-loop-coflow : goal.invariant-loop-coflow
invariant-loop-coflow l = record {
  count : length l.marks.told.items ≡ length l.fn.marks.told.items;
  joined : l.marks.joined ≡ l.fn.marks.joined;
  present : l.marks.present ≡ l.fn.marks.present;
  marked : (c : ℕ) → c < l.coflow → get_or l.marks.told.items c false ≡ (is_marked l.fn.marks.told.items c || is_untold l.fn.marks l.progress c);
  behind : (c : ℕ) → l.coflow ≤ c → get_or l.marks.told.items c false ≡ get_or l.fn.marks.told.items c false;
}
