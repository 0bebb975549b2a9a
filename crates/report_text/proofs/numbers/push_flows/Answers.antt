use Rattle.std.proofs.Common.{◌≡◌, ◌+◌, ◌-◌, ◌^◌, ◌++◌, length, min, replicate, take, ap, ◌∙◌, sym, arith}
use Rattle.std.specs.List.{flat_map}
use Rattle.std.proofs.lemmas.List.{take_all}
use Rattle.coflow_units.specs.Text.{spaced}
use Rattle.coflow_units.proofs.Fronts.{written_back}
use Rattle.report_text.proofs.FlowsText.{grown_by, width}
use Rattle.report_text.proofs.numbers.push_flows.Goals as goal

pub write_flows-requires : goal.write_flows-requires
write_flows-requires c =
    let text = c.args.text.now.items in
    let end = c.saturating_add.result in
    let filled : c.resize.new.self.items ≡ take end text ++ replicate (end - length text) 0 =
    c.in_ok-resize.ensures.items ∙ ap (λ k. take end text ++ replicate (end - k) 0) c.args.text.now.ok.0 in
    let end_is : end ≡ min (length text + min (width c.args.flows.now) (2 ^ 64 - 1)) (2 ^ 64 - 1) =
    omega (arith, c.saturating_add.ensures, c.width_of_flows.ensures, c.len-start.ensures, c.args.text.now.ok.0) in
    let grown = grown_by text c.resize.new.self.items c.args.flows.now end filled end_is (omega (arith, c.resize.new.self.ok, c.resize.new.self.small))
    (omega (arith, c.args.text.now.ok, c.args.text.now.small)) in
    omega (arith, grown.0, ap length c.deref_mut.ensures.value, c.len-start.ensures, c.args.text.now.ok.0)

pub returns : goal.returns
returns c =
    let text = c.args.text.now.items in
    let end = c.saturating_add.result in
    let start = c.len-start.result in
    let new = c.write_flows.new.text in
    let start_is : start ≡ length text = omega (arith, c.len-start.ensures, c.args.text.now.ok.0) in
    let filled : c.resize.new.self.items ≡ take end text ++ replicate (end - length text) 0 =
    c.in_ok-resize.ensures.items ∙ ap (λ k. take end text ++ replicate (end - k) 0) c.args.text.now.ok.0 in
    let end_is : end ≡ min (length text + min (width c.args.flows.now) (2 ^ 64 - 1)) (2 ^ 64 - 1) =
    omega (arith, c.saturating_add.ensures, c.width_of_flows.ensures, start_is) in
    let grown = grown_by text c.resize.new.self.items c.args.flows.now end filled end_is (omega (arith, c.resize.new.self.ok, c.resize.new.self.small))
    (omega (arith, c.args.text.now.ok, c.args.text.now.small)) in
    let before : take start c.deref_mut.result.now ≡ text = ap (take start) c.deref_mut.ensures.value ∙ ap (λ k. take k c.resize.new.self.items) start_is ∙ grown.1 in
    let all : take c.write_flows.result new ≡ new =
    take_all c.write_flows.result new (omega (arith, c.write_flows.ensures.len, c.write_flows.ensures.end, ap length c.deref_mut.ensures.value, grown.0, start_is)) in
    written_back c.resize.new.self.len new c.resize.new.self.items (c.write_flows.ensures.len ∙ c.deref_mut.ensures.len) ∙ sym all ∙ c.write_flows.ensures.text
    ∙ ap (λ xs. xs ++ flat_map spaced c.args.flows.now) before
