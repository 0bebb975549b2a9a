-- The lines of a schedule, put one after another and taken by a sink.
use Rattle.std.proofs.Common.{◌≡◌, ℕ, ◌+◌, ◌<◌, List, [], ◌∷◌, ◌++◌, append_assoc, append-nil, drop, get_or, length, map, take, refl, sym, ap, ◌∙◌, arith}
use Rattle.std.specs.Prelude.{Option, Some, None, Result, Ok, Err, OnOk, codes}
use Rattle.std.specs.Result.{IsErr}
use Rattle.std.proofs.lemmas.Grind.{flat_map-append}
use Rattle.std.proofs.lemmas.List.{map-append, take-append-drop}
use Rattle.outside.specs.Sink.{TakesText}
use Rattle.outside.specs.declared.sink.Failed.{Failed}
use Rattle.run_list.specs.Runs.{run_of}
use Rattle.run_list.proofs.Walking.{run_is}
use Rattle.coflow_units.specs.declared.plan.Run.{Run}
use Rattle.coflow_units.specs.Text.{ended, text_of}
use Rattle.report_text.specs.Puts.{Puts}
use Rattle.report_text.specs.Text.{ending, run_line}
use Rattle.report_text.proofs.PutSteps.{PutsAll, puts_cut, puts_then}
use Rattle.report_text.proofs.TextSteps.{each_step}

-- the text of the lines of some runs
abbrev pub lines_text : List Run → List ℕ
lines_text runs = text_of (map run_line runs)

-- what a walk tells of the run that it enters
pub run_here : (runs old new : List Run) (k entered after slots : ℕ) (flows : List ℕ) → old ≡ runs → entered ≡ k → new ≡ old → after ≡ entered + 1 →
    ((r : Run) → slots ≡ (get_or old entered r).length) → ((j : ℕ) (r : Run) → j + 1 ≡ after → flows ≡ (get_or new j r).flows) →
    run_of slots flows ≡ get_or runs k (run_of slots flows)
run_here runs old new k entered after slots flows same at kept next slots_are flows_are =
    let run : Run = run_of slots flows in
    let its_slots : slots ≡ (get_or runs k run).length = slots_are run ∙ (ap (λ xs. (get_or xs entered run).length) same ∙ ap (λ n. (get_or runs n run).length) at) in
    let its_flows : flows ≡ (get_or runs k run).flows = flows_are k run (omega (arith, at, next)) ∙ ap (λ xs. (get_or xs k run).flows) (kept ∙ same) in
    run_is slots flows (get_or runs k run) its_slots its_flows

-- one line more
lines_more : (runs : List Run) (k : ℕ) (run : Run) → k < length runs → run ≡ get_or runs k run →
    lines_text (take k runs) ++ ended (run_line run) ≡ lines_text (take (k + 1) runs)
lines_more runs k run lt here = each_step run_line runs k run [] (lines_text (take k runs)) (lines_text (take k runs) ++ ended (run_line run)) lt here refl refl

-- the last line
ending_is : (runs : List Run) → ending (Some runs) ≡ lines_text runs ++ codes "end\n"
ending_is runs = flat_map-append ended (map run_line runs) (codes "end" ∷ [])

-- the lines up to a run, its line, and what follows
ending_cut : (runs : List Run) (k : ℕ) (line : List ℕ) → lines_text (take k runs) ++ line ≡ lines_text (take (k + 1) runs) →
    lines_text (take k runs) ++ (line ++ (lines_text (drop (k + 1) runs) ++ codes "end\n")) ≡ ending (Some runs)
ending_cut runs k line more =
    let before = take (k + 1) runs in
    let behind = drop (k + 1) runs in
    let parts : lines_text before ++ lines_text behind ≡ lines_text runs = sym (flat_map-append ended (map run_line before) (map run_line behind))
    ∙ (ap text_of (sym (map-append run_line before behind)) ∙ ap lines_text (take-append-drop (k + 1) runs)) in
    sym (append_assoc (lines_text (take k runs)) line (lines_text behind ++ codes "end\n")) ∙ (ap (λ x. x ++ (lines_text behind ++ codes "end\n")) more
    ∙ (sym (append_assoc (lines_text before) (lines_text behind) (codes "end\n")) ∙ (ap (λ x. x ++ codes "end\n") parts ∙ sym (ending_is runs))))

-- the line of one run more was put
pub line_put : (a b c : Option (List ℕ)) (p q : List ℕ) (runs : List Run) (k : ℕ) (run : Run) → k < length runs → run ≡ get_or runs k run →
    PutsAll a b [] p (lines_text (take k runs)) → PutsAll b c p q (ended (run_line run)) → PutsAll a c [] q (lines_text (take (k + 1) runs))
line_put a b c p q runs k run lt here so_far put =
    rw (← lines_more runs k run lt here) (puts_then a b c [] p q (lines_text (take k runs)) (ended (run_line run)) (Ok tt) so_far put)

-- where nothing waits before and after, the sink took all
text_put : (a b : Option (List ℕ)) (q x : List ℕ) (res : Result (Unit {0}) Failed) → Puts a b [] q x res → OnOk res (q ≡ []) → TakesText a b x res
text_put None b q x res took none = took
text_put (Some o) b q x (Ok v) took none =
    let all : took.0 ≡ x = sym (append-nil took.0) ∙ (ap (λ y. took.0 ++ y) (sym none) ∙ took.2) in
    took.1 ∙ ap (λ y. Some (o ++ y)) all
text_put (Some o) b q x (Err v) took none = took

at_err : (P : Type 0) (res : Result (Unit {0}) Failed) → IsErr res → OnOk res P
at_err P (Ok v) failed = cc
at_err P (Err v) failed = tt

-- the line of a run was not put
pub line_failed : (a b c : Option (List ℕ)) (p q : List ℕ) (runs : List Run) (k : ℕ) (run : Run) (err : Failed) (res : Result (Unit {0}) Failed) → k < length runs →
    run ≡ get_or runs k run → IsErr res → PutsAll a b [] p (lines_text (take k runs)) → Puts {X = Unit {0}} b c p q (ended (run_line run)) (Err err) →
    TakesText a c (ending (Some runs)) res
line_failed a b c p q runs k run err res lt here failed so_far put =
    let line = ended (run_line run) in
    let behind = lines_text (drop (k + 1) runs) ++ codes "end\n" in
    let cut = puts_then a b c [] p q (lines_text (take k runs)) (line ++ behind) res so_far (puts_cut b c p q q line behind err res failed put) in
    text_put a c q (ending (Some runs)) res (rw (← ending_cut runs k line (lines_more runs k run lt here)) cut) (at_err (q ≡ []) res failed)

-- the last line was not put
pub end_failed : (a b c : Option (List ℕ)) (p q : List ℕ) (runs : List Run) (err : Failed) (res : Result (Unit {0}) Failed) → IsErr res → PutsAll a b [] p (lines_text runs) →
    Puts {X = Unit {0}} b c p q (codes "end\n") (Err err) → TakesText a c (ending (Some runs)) res
end_failed a b c p q runs err res failed so_far put =
    let cut = puts_then a b c [] p q (lines_text runs) (codes "end\n" ++ []) res so_far (puts_cut b c p q q (codes "end\n") [] err res failed put) in
    text_put a c q (ending (Some runs)) res (rw (ending_is runs) cut) (at_err (q ≡ []) res failed)

-- the last line was put, and what waits goes to the sink
pub end_taken : (a b c d : Option (List ℕ)) (p q r : List ℕ) (runs : List Run) (res : Result (Unit {0}) Failed) → PutsAll a b [] p (lines_text runs) →
    PutsAll b c p q (codes "end\n") → Puts c d q r [] res → OnOk res (r ≡ []) → TakesText a d (ending (Some runs)) res
end_taken a b c d p q r runs res so_far put flushed emptied =
    let all = puts_then a b d [] p r (lines_text runs) (codes "end\n" ++ []) res so_far (puts_then b c d p q r (codes "end\n") [] res put flushed) in
    text_put a d r (ending (Some runs)) res (rw (ending_is runs) all) emptied

-- a text that is taken, with nothing that waits
puts_text : (a b : Option (List ℕ)) (x : List ℕ) (res : Result (Unit {0}) Failed) → TakesText a b x res → Puts a b [] [] x res
puts_text None b x res took = took
puts_text (Some o) b x (Ok v) took = (x, took, append-nil x)
puts_text (Some o) b x (Err v) took = took

at_all : (P : Type 0) (res : Result (Unit {0}) Failed) → P → OnOk res P
at_all P (Ok v) holds = holds
at_all P (Err v) holds = tt

-- a text behind one that was taken whole
pub texts_then : (a b c : Option (List ℕ)) (x y : List ℕ) (res : Result (Unit {0}) Failed) → TakesText {X = Unit {0}} {E = Failed} a b x (Ok tt) → TakesText b c y res →
    TakesText a c (x ++ y) res
texts_then a b c x y res first next =
    text_put a c [] (x ++ y) res (puts_then a b c [] [] [] x y res (puts_text a b x (Ok tt) first) (puts_text b c y res next)) (at_all ([] ≡ []) res refl)

-- a text whose beginning was not taken whole
pub texts_cut : (a b : Option (List ℕ)) (x y : List ℕ) (err : Failed) (res : Result (Unit {0}) Failed) → IsErr res → TakesText {X = Unit {0}} a b x (Err err) →
    TakesText a b (x ++ y) res
texts_cut a b x y err res failed cut =
    text_put a b [] (x ++ y) res (puts_cut a b [] [] [] x y err res failed (puts_text a b x (Err err) cut)) (at_all ([] ≡ []) res refl)
