use Rattle.std.proofs.Common.{◌≡◌, ℕ, List, [], ◌++◌, append_assoc, drop, take, sym, ap, ◌∙◌}
use Rattle.std.specs.List.{flat_map}
use Rattle.std.proofs.lemmas.Grind.{flat_map-append}
use Rattle.std.proofs.lemmas.List.{take-append-drop}
use Rattle.coflow_units.specs.Text.{spaced}
use Rattle.report_text.proofs.PutSteps.{puts_cut, puts_into, puts_then}
use Rattle.report_text.proofs.piece.Piece.put_flows.Goals as goal

front_and_back : (xs front back : List ℕ) (n : ℕ) → front ≡ take n xs → back ≡ drop n xs → front ++ back ≡ xs
front_and_back xs front back n f b = ap (λ x. x ++ back) f ∙ (ap (λ x. take n xs ++ x) b ∙ take-append-drop n xs)

pub returns-in_err-make_room-clause-taken : goal.returns-in_err-make_room-clause-taken
returns-in_err-make_room-clause-taken g c =
    let done = c.loop-rest.invariant.done in
    let rest = c.loop-rest.rest.now in
    let whole : flat_map spaced c.args.flows.now ≡ flat_map spaced done ++ flat_map spaced rest =
    ap (flat_map spaced) c.loop-rest.invariant.flows ∙ flat_map-append spaced done rest in
    rw whole (puts_then _ _ _ c.args.self.now c.loop-rest.self c.make_room.new.self (flat_map spaced done) (flat_map spaced rest) c.from_residual.result
    c.loop-rest.invariant.taken
    (puts_cut _ _ c.loop-rest.self c.make_room.new.self c.make_room.new.self [] (flat_map spaced rest) c.in_err-make_room.field-0.0 c.from_residual.result
    c.from_residual.ensures.0 c.in_err-make_room.ensures.taken))

pub loop-rest-preserved : goal.loop-rest-preserved
loop-rest-preserved g c =
    let done = c.loop-rest.invariant.done in
    let some = c.split_at.result.0.now in
    let behind = c.split_at.result.1.now in
    let rest : some ++ behind ≡ c.loop-rest.rest.now =
    front_and_back c.loop-rest.rest.now some behind c.min.result c.split_at.ensures.front c.split_at.ensures.back in
    record {
      done = done ++ some;
      flows = c.loop-rest.invariant.flows ∙ (ap (λ x. done ++ x) (sym rest) ∙ sym (append_assoc done some behind));
      faults = c.in_ok-make_room.ensures.faults ∙ c.loop-rest.invariant.faults;
      taken = rw (flat_map-append spaced done some)
          (puts_then _ _ _ c.args.self.now c.loop-rest.self c.append_flows.new.self (flat_map spaced done) (flat_map spaced some) _ c.loop-rest.invariant.taken
          (puts_then _ _ _ c.loop-rest.self c.make_room.new.self c.append_flows.new.self [] (flat_map spaced some) _ c.in_ok-make_room.ensures.taken
          (puts_into _ c.make_room.new.self c.append_flows.new.self (flat_map spaced some) c.append_flows.ensures)));
    }
