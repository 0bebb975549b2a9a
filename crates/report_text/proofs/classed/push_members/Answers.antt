use Rattle.std.proofs.Common.{get_or, arith}
use Rattle.std.proofs.lemmas.List.{get_or_default}
use Rattle.report_text.specs.declared.classed.Member.{Member}
use Rattle.report_text.specs.Classed.{member_line}
use Rattle.report_text.proofs.TextSteps.{each_step}
use Rattle.report_text.proofs.classed.push_members.Goals as goal

pub loop-member-preserved : goal.loop-member-preserved
loop-member-preserved c =
    let none : Member = record { class_number = 0; id = 0 } in
    let k = c.loop-member.member-index in
    let member : Member = get_or c.args.members.now k none in
    each_step member_line c.args.members.now k member c.args.text.now.items c.loop-member.text.items c.push_member.new.text.items (omega arith)
    (get_or_default c.args.members.now k none member (omega arith)) c.loop-member.invariant c.in_ok-push_member.ensures
