-- What is recorded of an order that was published.
use Rattle.std.proofs.Common.{◌≡◌, ℕ, ◌<◌, Bool, true, List, Option, length, refl, sym, ap, subst, ◌∙◌, arith, Contains}
use Rattle.std.specs.Prelude.{IfSome, filter}
use Rattle.std.specs.List.{range_with_len}
use Rattle.coflow_units.proofs.Lists.{filter_in, filter_same, keeps, number_in}
use Rattle.coflow_units.proofs.Sums.{all_of_members}
use Rattle.epochs.specs.Course.{is_marked}
use Rattle.epochs.proofs.Actions.{marked_below}
use Rattle.flow_table.specs.Table.{TableFacts}
use Rattle.rankers.specs.FactsTold.{FactsTold}
use Rattle.rankers.specs.Meaning.{Meaning, answer_of}
use Rattle.replays.specs.declared.kept.Kept.{Kept}
use Rattle.replays.specs.declared.recording.Recording.{Recording}
use Rattle.replays.specs.Kept.{IsAt}
use Rattle.replays.specs.Moments.{asked_at, Input, is_here, left_at, Moment, Publishing, published_at, time_at}
use Rattle.replays.specs.Publishing.{told_moment}
use Rattle.replays.specs.Recording.{BothRecorded, IsOrderRecorded, MayRecord, TellsRecording}
use Rattle.replays.proofs.LeftInstances.{instance_at, is_left_at, may_record}
use Rattle.replays.proofs.Marks.{here_parts}
use Rattle.replays.proofs.Recordings.{order_recorded}

here_low : (x : Input) (m : Moment) (c : ℕ) → length m.course.registered ≡ length x.table.ids → is_here m c ≡ true → c < length x.table.ids
here_low x m c each is = omega (arith, marked_below m.course.registered c (here_parts m c is).0, each)

-- the ranker was told the news, and these are the marks of those that are present, and the line of its answer
module _ (x : Input) (m : Moment) (table : TableFacts) (mid : Kept) (present : List Bool) (line answer : List ℕ) (told : IsAt x (told_moment x m) mid) (same : x.table ≡ table)
    (lent : present ≡ mid.marks.present.items) (lined : line ≡ filter (is_marked present) answer) where
  here : (c : ℕ) → is_marked present c ≡ is_here m c
  here c = ap (λ l. is_marked l c) lent ∙ told.tells.marks.present_are c

  each : length present ≡ length x.table.ids
  each = ap (λ (l : List Bool). length l) lent ∙ told.tells.each.present

  pub line_here : line ≡ filter (is_here m) answer
  line_here = lined ∙ filter_same (is_marked present) (is_here m) answer (λ c has. here c)

  in_line : (c : ℕ) → Contains line c → is_here m c ≡ true
  in_line c has = (filter_in (is_here m) answer c (subst (λ l. Contains l c) line_here has)).1

  pub may_record_order : IfSome mid.recording (MayRecord table mid.progress.left.items present line)
  may_record_order =
      may_record x (told_moment x m) table mid.progress present line mid.recording told.input same told.tells.progress here each
      (all_of_members (λ c. c < length x.table.ids) line (λ c has. here_low x m c told.holds.registered (in_line c has))) told.tells.recording

  pub recorded_order : (facts : FactsTold) (before : Meaning) (new : Option Recording) → before ≡ asked_at x m → answer ≡ answer_of before facts →
      BothRecorded mid.recording new (IsOrderRecorded table mid.progress present line) → TellsRecording x (published_at x m facts) new
  recorded_order facts before new is answers both =
      let line_is : line ≡ filter (is_here m) (answer_of (asked_at x m) facts) = line_here ∙ ap (filter (is_here m)) (answers ∙ ap (λ (r : Meaning). answer_of r facts) is) in
      let p : Publishing = record { time = time_at m; left = left_at x m; line = filter (is_here m) (answer_of (asked_at x m) facts) } in
      order_recorded x (told_moment x m) (published_at x m facts) mid.progress present p mid.recording new refl refl told.tells.progress.time_is (instance_at x m told.input)
      (is_left_at x m mid.progress.left.items present told.tells.progress.left_is here each)
      (λ c has.
      let present' = in_line c (subst (λ l. Contains l c) (sym line_is) has) in
      keeps (is_here m) (range_with_len 0 (length x.table.ids)) c
      (number_in 0 (length x.table.ids) c (omega arith) (omega (arith, here_low x m c told.holds.registered present'))) present')
      (subst (λ l. BothRecorded mid.recording new (IsOrderRecorded x.table mid.progress present l)) line_is
      (subst (λ (t : TableFacts). BothRecorded mid.recording new (IsOrderRecorded t mid.progress present line)) (sym same) both)) told.tells.recording
